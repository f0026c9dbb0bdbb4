use Rattle.std.proofs.Common.{◌≡◌, ◌++◌, drop}
use Rattle.sw_decl_words.specs.Members.{parts_from}
use Rattle.sw_decl_words.proofs.members.add_parts.Given as goal

-- the members so far, and the properties that are left
abbrev pub invariant-loop-number : goal.invariant-loop-number
invariant-loop-number l =
    l.members ++ parts_from l.shape l.number (drop l.number l.props)
    ≡ l.fn.members ++ parts_from l.shape 0 l.props
