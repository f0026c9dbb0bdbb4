use Rattle.std.proofs.Common.{◌≡◌, ◌++◌, ℕ, map, take}
use Rattle.sw_decl_words.specs.declared.placed.Placed.{Placed}
use Rattle.sw_decl_members.proofs.members.bad_entries.Given as goal

abbrev placed : ℕ → Placed
placed at = record { at = at; code = 304 }

abbrev pub invariant-loop-at : goal.invariant-loop-at
invariant-loop-at l = l.found ≡ l.fn.found ++ map placed (take l.at-index l.later)
