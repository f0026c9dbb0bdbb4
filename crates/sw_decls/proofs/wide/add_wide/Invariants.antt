use Rattle.std.proofs.Common.{◌≡◌, ◌++◌, drop}
use Rattle.sw_decls.specs.Wide.{wide, wide_from}
use Rattle.sw_decls.proofs.wide.add_wide.Given as goal

-- the words so far, and those of the shapes that are left
abbrev pub invariant-loop-number : goal.invariant-loop-number
invariant-loop-number l =
    l.found ++ wide_from l.shapes l.number (drop l.number l.list)
    ≡ l.fn.found ++ wide l.list
