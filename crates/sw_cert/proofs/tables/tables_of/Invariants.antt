use Rattle.std.proofs.Common.{take, IfSome}
use Rattle.sw_cert.specs.Stated.{IsStatedBy}
use Rattle.sw_cert.specs.Tables.{AreTabled}
use Rattle.sw_cert.proofs.tables.tables_of.Given as goal

abbrev pub invariant-loop-line : goal.invariant-loop-line
invariant-loop-line l =
    AreTabled l.flows (take l.line-index l.lines) l.tables × IfSome l.last IsStatedBy
