use Rattle.sw_view_facts.proofs.EndLemmas.{job_ends}
use Rattle.sw_view_facts.proofs.LeaveLemmas.{leaves_returns}
use Rattle.sw_view_facts.proofs.jobs.returns_pop_frames.Goals as goal

pub returns : goal.returns
returns c = record { returned = leaves_returns; ended = job_ends }
