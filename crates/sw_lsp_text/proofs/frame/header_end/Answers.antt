use Rattle.std.proofs.Common.{arith, refl}
use Rattle.sw_lsp_text.proofs.Heads.{no_header, late_header}
use Rattle.sw_lsp_text.proofs.frame.header_end.Goals as goal

pub returns-in_err-end-clause-header : goal.returns-in_err-end-clause-header
returns-in_err-end-clause-header c =
    rw c.from_residual.ensures (no_header c.args.bytes.now c.in_err-end.ensures)

pub returns-then-end-gt-HEADER_LIMIT-clause-header : goal.returns-then-end-gt-HEADER_LIMIT-clause-header
returns-then-end-gt-HEADER_LIMIT-clause-header c =
    late_header c.args.bytes.now c.in_ok-end.end c.in_ok-end.ensures (omega arith)

pub returns-clause-header : goal.returns-clause-header
returns-clause-header c = record {
  end = c.in_ok-end.end;
  ends = c.in_ok-end.ensures;
  header_is = refl;
  short = omega arith;
  lines_are = refl;
}
