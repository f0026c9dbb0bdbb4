use Rattle.std.proofs.Common.{ap, subst, arith}
use Rattle.sw_solve.specs.Marks.{AreMarked}
use Rattle.sw_solve.specs.Work.{Listed}
use Rattle.sw_solve.proofs.Members.{marks_pop, first_in_range}
use Rattle.sw_solve.proofs.waiting.Worklist.pop.Goals as goal

pub index_mut-requires : goal.index_mut-requires
index_mut-requires c =
    let lt = first_in_range _ _ c.in_ok-point.point _ c.in_ok-point.ensures.items c.self.invariant
    in omega (arith, lt)

pub invariant_of-self-2 : goal.invariant_of-self-2
invariant_of-self-2 c =
    marks_pop _ _ _ (subst (λ ps. AreMarked ps c.self.inside.listed.items)
    c.in_ok-point.ensures.items c.self.invariant)

pub returns-clause-in_range : goal.returns-clause-in_range
returns-clause-in_range c =
    let lt = first_in_range _ _ c.in_ok-point.point _ c.in_ok-point.ensures.items c.self.invariant
    in
    let room = ap (λ (l : Listed). l.room) c.self.view_is in omega (arith, lt, room)
