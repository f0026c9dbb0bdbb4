use Rattle.sw_view_facts.proofs.SpawnLemmas as spawn
use Rattle.sw_view_facts.proofs.jobs.tasks_add_jobs.Goals as goal
use Rattle.std.proofs.Common.{refl}

pub returns : goal.returns
returns c = record {
  then = λ state j r job cell next frame. refl;
  top = λ state frame. spawn.top_after state frame;
  shape = λ graph later state frame after. spawn.shape_after graph later state frame after;
  spawned = spawn.job_spawns;
}
