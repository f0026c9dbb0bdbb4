use Rattle.std.proofs.Common.{ap, arith}
use Rattle.sw_solve.specs.Work.{Listed}
use Rattle.sw_solve.proofs.Members.{marks_push}
use Rattle.sw_solve.proofs.waiting.Worklist.push.Goals as goal

pub invariant_of-self-then-not-index : goal.invariant_of-self-then-not-index
invariant_of-self-then-not-index c =
    let room = ap (λ (l : Listed). l.room) c.self.view_is in
    rw c.in_ok-push_back.ensures.items
    (marks_push _ _ _ (omega (arith, room, c.requires)) c.self.invariant)
