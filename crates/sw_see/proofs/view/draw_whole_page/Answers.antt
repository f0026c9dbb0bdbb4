use Rattle.std.proofs.Common.{◌≡◌, List, IfOk, subst}
use Rattle.sw_breach.specs.declared.Breach.{Breach}
use Rattle.sw_check.specs.Programs.{seen_graph}
use Rattle.sw_see_page.specs.Page.{page}
use Rattle.sw_see.specs.View.{InPage, as_page, drawn_outcome, picture_of}
use Rattle.sw_see.proofs.PartLemmas.{shown_as}
use Rattle.sw_see.proofs.view.draw_whole_page.Goals as goal

pub returns : goal.returns
returns c =
    let passed = seen_graph c.args.made.now in
    let list = c.in_ok-breaches.breaches in
    let picture = picture_of c.args.text.now passed c.args.watched.now in
    shown_as c.args.text.now passed c.args.watched.now (InPage c.args.default c.args.file.now)
    (drawn_outcome (page c.args.file.now c.args.text.now list picture)) _
    (as_page c.args.default c.args.file.now list c.in_ok-breaches.ensures)
    (subst (λ (breaches : List Breach). IfOk c.draw_page.result
    (λ outcome. outcome ≡ drawn_outcome (page c.args.file.now c.args.text.now breaches picture)))
    c.as_slice.ensures c.draw_page.ensures)
