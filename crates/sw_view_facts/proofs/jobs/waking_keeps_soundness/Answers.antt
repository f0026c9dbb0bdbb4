use Rattle.sw_view_facts.proofs.WakeLemmas as wake
use Rattle.sw_view_facts.proofs.jobs.waking_keeps_soundness.Goals as goal

pub returns : goal.returns
returns c = record { asks = wake.wake_is; woken = wake.wake_keeps }
