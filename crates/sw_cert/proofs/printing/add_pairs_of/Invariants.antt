use Rattle.sw_cert.proofs.Gathered.{ArePairsTo}
use Rattle.sw_cert.proofs.printing.add_pairs_of.Given as goal

abbrev pub invariant-loop-site : goal.invariant-loop-site
invariant-loop-site l = ArePairsTo l.state l.element l.site-index l.pairs
