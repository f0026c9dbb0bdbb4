use Rattle.std.proofs.Common.{◌≡◌, ◌++◌, take}
use Rattle.sw_decl_members.specs.Members.{prop_words}
use Rattle.sw_decl_members.proofs.members.add_prop_words.Given as goal

abbrev pub invariant-loop-prop : goal.invariant-loop-prop
invariant-loop-prop l = l.names ≡ l.fn.names ++ prop_words (take l.prop-index l.props)
