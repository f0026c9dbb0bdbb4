use Rattle.std.proofs.Common.{◌≡◌, ◌∷◌, take}
use Rattle.std.specs.List.{flat_map}
use Rattle.sw_decls.specs.Declaring.{actor_ids}
use Rattle.sw_decls.proofs.declaring.actors_of.Given as goal

abbrev pub invariant-loop-decl : goal.invariant-loop-decl
invariant-loop-decl l = l.actors ≡ 6 ∷ flat_map actor_ids (take l.decl-index l.decls)
