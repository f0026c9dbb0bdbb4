use Rattle.std.proofs.Common.{◌≡◌, ◌++◌, drop}
use Rattle.sw_decls.specs.Holders.{holders, holders_from}
use Rattle.sw_decls.proofs.holders.add_holders.Given as goal

-- the words so far, and those of the shapes that are left
abbrev pub invariant-loop-number : goal.invariant-loop-number
invariant-loop-number l =
    l.found ++ holders_from l.marks l.number (drop l.number l.shapes)
    ≡ l.fn.found ++ holders l.shapes l.marks
