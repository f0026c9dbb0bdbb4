use Rattle.std.proofs.Common.{◌∙◌, sym}
use Rattle.sw_owners.specs.Owners.{owner_at}
use Rattle.sw_owners.proofs.OwnerSteps.{next_bare, next_owned}
use Rattle.sw_owners.proofs.owners.owners_of.Goals as goal
use Rattle.sw_owners.proofs.owners.owners_of.Goals.{in-Some+in_ok-push, in_default}

pub loop-cell-preserved : goal.loop-cell-preserved
loop-cell-preserved c =
    let found = owner_at c.args.colored.now in
    elim c.match-owner_at.branch [
      | in-Some+in_ok-push w ↦
          next_owned found c.loop-cell.cell c.loop-cell.owners _ w.in-Some.owned
          c.loop-cell.invariant
          (sym c.owner_at.ensures ∙ w.in-Some.is) (w.owners-is ∙ w.in_ok-push.ensures.ok)
      | in_default w ↦
          w.owners-is
          ∙ next_bare found c.loop-cell.cell c.loop-cell.owners c.loop-cell.invariant
          (sym c.owner_at.ensures ∙ w.in_default.is)
    ]
