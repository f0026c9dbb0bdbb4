use Rattle.std.proofs.Common.{◌≡◌, ℕ, take}
use Rattle.sw_decl_words.specs.Members.{first_member, member_at}
use Rattle.sw_decl_words.proofs.members.Members.table_of.Given as goal

abbrev pub invariant-loop-one : goal.invariant-loop-one
invariant-loop-one l = (shape word : ℕ)
    → member_at l.members shape word ≡ first_member (take l.one-index l.owned) shape word
