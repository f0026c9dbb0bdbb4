use Rattle.std.proofs.Common.{◌≡◌, ◌++◌, drop, string_bytes}
use Rattle.sw_see_draw.specs.Markup.{escaped_chars}
use Rattle.sw_see_draw.proofs.markup.escaped.Given as goal

-- what is made so far and the characters that are left, in markup, are all of them
abbrev pub invariant-loop-c : goal.invariant-loop-c
invariant-loop-c l =
    string_bytes l.made ++ escaped_chars (drop l.c-index l.c-items) ≡ escaped_chars l.c-items
