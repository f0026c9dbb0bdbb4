use Rattle.sw_view_facts.proofs.DispatchLemmas as dispatch
use Rattle.sw_view_facts.proofs.jobs.dispatches_give_executors.Goals as goal

pub returns : goal.returns
returns c = record { asks = dispatch.dispatch_is; dispatched = dispatch.job_is_dispatched }
