use Rattle.std.proofs.Common.{◌≡◌, ◌++◌, drop, string_bytes}
use Rattle.sw_see_lines.specs.Shown.{blanks_of}
use Rattle.sw_see_lines.proofs.shown.blanks.Given as goal

-- what is made so far and what is as wide as the characters that are left is as wide as all
abbrev pub invariant-loop-c : goal.invariant-loop-c
invariant-loop-c l =
    string_bytes l.made ++ blanks_of (drop l.c-index l.c-items) ≡ blanks_of l.c-items
