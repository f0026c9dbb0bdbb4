use Rattle.std.proofs.Common.{◌≡◌, ◌≤◌, ◌+◌}
use Rattle.sw_text.specs.Text.{line_of, column_of}
use Rattle.sw_text.proofs.position.line_col_of.Given as goal

abbrev pub invariant-loop-byte : goal.invariant-loop-byte
invariant-loop-byte l =
    (l.line ≡ line_of l.before l.byte-index) × (l.column ≡ column_of l.before l.byte-index)
    × (l.line ≤ 1 + l.byte-index) × (l.column ≤ 1 + l.byte-index)
