use Rattle.std.proofs.Common.{arith}
use Rattle.sw_breach.proofs.LineSearch.{starts_rise, found}
use Rattle.sw_see_lines.proofs.table.line_col_in.Goals as goal

pub lines_begun-line-requires : goal.lines_begun-line-requires
lines_begun-line-requires c = starts_rise _ _ c.requires.starts

pub overflow_sub-result : goal.overflow_sub-result
overflow_sub-result c =
    let line = c.lines_begun-line.ensures in
    (found _ _ c.args.at c.min-within.result _ c.requires.starts (omega arith)
    line.within line.begun line.ahead).some

pub overflow_sub-result-2 : goal.overflow_sub-result-2
overflow_sub-result-2 c =
    let line = c.lines_begun-line.ensures in
    (found _ _ c.args.at c.min-within.result _ c.requires.starts (omega arith)
    line.within line.begun line.ahead).begun

pub returns-clause-line : goal.returns-clause-line
returns-clause-line c =
    let line = c.lines_begun-line.ensures in
    (found _ _ c.args.at c.min-within.result _ c.requires.starts (omega arith)
    line.within line.begun line.ahead).line_is

pub returns-clause-column : goal.returns-clause-column
returns-clause-column c =
    let line = c.lines_begun-line.ensures in
    (found _ _ c.args.at c.min-within.result _ c.requires.starts (omega arith)
    line.within line.begun line.ahead).column_is
