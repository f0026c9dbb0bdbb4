use Rattle.std.proofs.Common.{◌≡◌, ◌++◌, drop, flat_map}
use Rattle.sw_lower_rules.specs.Tables.{shape_keys}
use Rattle.sw_lower_known.proofs.tables.part_keys_of.Given as goal

-- the keys so far, and those of the declarations that are left
abbrev pub invariant-loop-decl : goal.invariant-loop-decl
invariant-loop-decl l = l.keys ++ flat_map shape_keys (drop l.decl-index l.decls)
    ≡ flat_map shape_keys l.decls
