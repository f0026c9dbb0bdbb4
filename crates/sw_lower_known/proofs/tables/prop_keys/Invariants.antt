use Rattle.std.proofs.Common.{◌≡◌, ◌++◌, drop}
use Rattle.sw_lower_rules.specs.Tables.{prop_keys}
use Rattle.sw_lower_known.proofs.tables.prop_keys.Given as goal

-- the keys so far, and those of the properties that are left
abbrev pub invariant-loop-prop : goal.invariant-loop-prop
invariant-loop-prop l = l.keys ++ prop_keys (drop l.prop-index l.props) ≡ prop_keys l.props
