use Rattle.std.proofs.Common.{◌≡◌, ◌++◌, drop}
use Rattle.sw_gen.specs.Program.{filled}
use Rattle.sw_gen.proofs.program.push_filled.Given as goal

-- the text so far and what the bytes that are left give are the whole
abbrev pub invariant-loop-byte : goal.invariant-loop-byte
invariant-loop-byte l = l.text.items ++ filled (drop l.byte-index l.template) l.fn.number
    ≡ l.fn.text.items ++ filled l.template l.fn.number
