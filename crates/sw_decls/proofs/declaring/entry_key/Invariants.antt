use Rattle.std.proofs.Common.{◌≡◌, drop}
use Rattle.std.specs.List.{flat_map}
use Rattle.sw_decl_members.specs.Members.{entry_place}
use Rattle.sw_decls.specs.Declaring.{entry_key, first_or}
use Rattle.sw_decls.proofs.declaring.entry_key.Given as goal

-- no entry stands before
abbrev pub invariant-loop-decl : goal.invariant-loop-decl
invariant-loop-decl l =
    first_or (flat_map entry_place (drop l.decl-index l.decls)) 0 ≡ entry_key l.decls
