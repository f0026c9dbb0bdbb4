use Rattle.std.proofs.Common.{◌≡◌, ◌++◌, take}
use Rattle.sw_decl_members.specs.Members.{case_words}
use Rattle.sw_decl_members.proofs.members.add_case_words.Given as goal

abbrev pub invariant-loop-case : goal.invariant-loop-case
invariant-loop-case l = l.names ≡ l.fn.names ++ case_words (take l.case-index l.cases)
