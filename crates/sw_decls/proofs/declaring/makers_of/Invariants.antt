use Rattle.std.proofs.Common.{◌≡◌, take}
use Rattle.std.specs.List.{flat_map}
use Rattle.sw_decls.specs.Declaring.{maker_keys}
use Rattle.sw_decls.proofs.declaring.makers_of.Given as goal

abbrev pub invariant-loop-decl : goal.invariant-loop-decl
invariant-loop-decl l = l.keys ≡ flat_map maker_keys (take l.decl-index l.decls)
