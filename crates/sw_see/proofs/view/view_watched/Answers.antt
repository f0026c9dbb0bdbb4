use Rattle.std.proofs.Common.{IfOk, subst, sym}
use Rattle.sw_check.specs.Programs.{seen_graph}
use Rattle.sw_see.specs.View.{InPicture, InSteps, IsViewOf, as_picture, as_steps, drawn_outcome}
use Rattle.sw_see.specs.View.{lent_view, picture_of, steps_outcome}
use Rattle.sw_see.proofs.PartLemmas.{shown_as}
use Rattle.sw_see.proofs.view.view_watched.Goals as goal

pub returns-in-Steps : goal.returns-in-Steps
returns-in-Steps c =
    let text = c.args.text.now in let passed = seen_graph c.args.made.now in
    subst (λ view. IfOk c.tell_watched.result
    (IsViewOf text passed c.args.watched (lent_view view))) (sym c.in-Steps.is)
    (shown_as text passed c.args.watched InSteps (steps_outcome text passed c.args.watched) _
    as_steps c.tell_watched.ensures)

pub returns-in-Picture : goal.returns-in-Picture
returns-in-Picture c =
    let text = c.args.text.now in let passed = seen_graph c.args.made.now in
    subst (λ view. IfOk c.draw_watched.result
    (IsViewOf text passed c.args.watched (lent_view view))) (sym c.in-Picture.is)
    (shown_as text passed c.args.watched InPicture
    (drawn_outcome (picture_of text passed c.args.watched)) _ as_picture c.draw_watched.ensures)
