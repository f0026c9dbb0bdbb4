use Rattle.std.proofs.Common.{◌≡◌, ℕ, take, nat_eq}
use Rattle.indexmap.specs.IndexMap.{get}
use Rattle.sw_decl_values.specs.Counts.{times_in}
use Rattle.sw_decl_values.proofs.counts.Counts.of.Given as goal

abbrev pub invariant-loop-name : goal.invariant-loop-name
invariant-loop-name l = (id : ℕ)
    → get nat_eq l.counts.times id ≡ times_in (take l.name-index l.names) id
