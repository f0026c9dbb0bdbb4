use Rattle.std.proofs.Common.{◌≤◌, length}
use Rattle.sw_cert_making.specs.Made.{IsMadeBelow}
use Rattle.sw_cert.specs.declared.verdict.TheConstants.{CERTIFICATE_LIMIT}
use Rattle.sw_cert_making.proofs.making.lines_of.Given as goal

abbrev pub invariant-loop-function : goal.invariant-loop-function
invariant-loop-function g l = record {
  made : IsMadeBelow l.graph l.function l.text.items;
  grown : l.function ≤ length l.text.items;
  within : length l.text.items ≤ CERTIFICATE_LIMIT;
}
