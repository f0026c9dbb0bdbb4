use Rattle.std.proofs.Common.{arith}
use Rattle.sw_solve.proofs.Rising.{length-rising}
use Rattle.sw_solve.proofs.laws.chains_are_short.Goals as goal

pub returns : goal.returns
returns g c first rest chain =
    let h = length-rising g.T.Lattice.size g.T.Lattice.le g.T.Lattice.alike g.T.Lattice.rank
    g.T.Lattice.height g.met.T.Lattice.rises g.met.T.Lattice.bounded first rest chain in
    omega (arith, h)
