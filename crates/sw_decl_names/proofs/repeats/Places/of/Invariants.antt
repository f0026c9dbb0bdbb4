use Rattle.std.proofs.Common.{◌≡◌, ℕ, take, nat_eq}
use Rattle.indexmap.specs.IndexMap.{get}
use Rattle.sw_decl_names.specs.Repeats.{first_place}
use Rattle.sw_decl_names.proofs.repeats.Places.of.Given as goal

abbrev pub invariant-loop-name : goal.invariant-loop-name
invariant-loop-name l = (id : ℕ)
    → get nat_eq l.places.places id ≡ first_place (take l.name-index l.names) id
