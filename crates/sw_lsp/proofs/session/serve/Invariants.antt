use Rattle.sw_lsp.specs.Served.{IsUnderWay}
use Rattle.sw_lsp.proofs.session.serve.Given as goal

abbrev pub invariant-loop : goal.invariant-loop
invariant-loop g l =
    IsUnderWay l.fn.setting (g.R.Read.remaining l.fn.input) (g.R.Read.remaining l.input)
    (g.W.Write.contents l.fn.output) (g.W.Write.contents l.output) l.held.items l.server
