use Rattle.std.proofs.Common.{◌≤◌, length}
use Rattle.sw_cert.specs.declared.verdict.TheConstants.{CERTIFICATE_LIMIT}
use Rattle.sw_cert_making.specs.Made.{AreLinesAdded}
use Rattle.sw_cert_making.proofs.making.add_lines.Given as goal

abbrev pub invariant-loop-block : goal.invariant-loop-block
invariant-loop-block l = record {
  added : AreLinesAdded l.function l.states l.block l.fn.text.items l.text.items;
  within : length l.text.items ≤ CERTIFICATE_LIMIT;
}
