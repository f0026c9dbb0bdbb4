use Rattle.sw_cert.specs.Flows.{IsMostOf}
use Rattle.sw_cert.proofs.flows.most_of.Given as goal

abbrev pub invariant-loop-extent : goal.invariant-loop-extent
invariant-loop-extent l = IsMostOf l.extents l.extent-index l.most
