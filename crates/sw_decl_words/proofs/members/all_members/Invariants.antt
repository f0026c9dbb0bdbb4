use Rattle.std.proofs.Common.{◌≡◌, ◌++◌, ◌≤◌, drop}
use Rattle.sw_decl_words.specs.Members.{members_from}
use Rattle.sw_decl_words.proofs.members.all_members.Given as goal

-- the members so far, and those of the declarations that are left
abbrev pub invariant-loop-decl : goal.invariant-loop-decl
invariant-loop-decl l = (l.shape ≤ l.decl-index)
    × (l.members ++ members_from l.shape (drop l.decl-index l.decls) ≡ members_from 0 l.decls)
