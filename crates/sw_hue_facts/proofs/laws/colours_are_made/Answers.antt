use Rattle.sw_hue_facts.proofs.Made.{cell_made, frame_gone, frame_made, fresh_made, job_made}
use Rattle.sw_hue_facts.proofs.laws.colours_are_made.Goals as goal

pub returns : goal.returns
returns c = record {
  fresh = fresh_made;
  mark = cell_made;
  push = λ job n colors. frame_made colors job n;
  begin = λ n colors. job_made colors n;
  pop = λ job colors. frame_gone colors job;
}
