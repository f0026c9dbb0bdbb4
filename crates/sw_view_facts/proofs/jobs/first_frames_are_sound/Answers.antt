use Rattle.sw_view_facts.proofs.StartLemmas.{start_sound}
use Rattle.sw_view_facts.proofs.jobs.first_frames_are_sound.Goals as goal

pub returns : goal.returns
returns c = start_sound
