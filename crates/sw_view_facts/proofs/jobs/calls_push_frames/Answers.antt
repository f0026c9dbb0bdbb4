use Rattle.sw_view_facts.proofs.CallLemmas as call
use Rattle.sw_view_facts.proofs.jobs.calls_push_frames.Goals as goal

pub returns : goal.returns
returns c = record { shape = call.enters_shape; called = call.enters_calls; shares = call.enters_shares }
