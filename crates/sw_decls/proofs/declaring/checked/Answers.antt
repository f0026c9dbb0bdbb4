use Rattle.std.proofs.Common.{◌++◌, None, Some, ap, sym, subst, ◌∙◌}
use Rattle.sw_decl_words.specs.Placed.{IsFirstPlaced}
use Rattle.sw_decls.specs.Declaring.{breaches_of_shapes}
use Rattle.sw_decls.specs.Holders.{AreHolders}
use Rattle.sw_decls.specs.Hollow.{hollowed}
use Rattle.sw_decls.proofs.FirstLemmas.{first_found, shapes_found}
use Rattle.sw_decls.proofs.declaring.checked.Goals as goal

pub returns-in-None-clause-shapes : goal.returns-in-None-clause-shapes
returns-in-None-clause-shapes c =
    let list = c.in_ok-list.list in
    let marks = c.in_ok-marks.marks in
    let found = c.add_of_shapes.new.found in
    let before = c.in_ok-found.found in
    let is = c.in_ok-shapes.ensures.found ∙ ap (λ m. before ++ breaches_of_shapes list m)
    c.as_slice-2.ensures in
    c.in_ok-shapes.ensures.shapes ∙ ap (λ m. hollowed m list) c.as_slice-2.ensures
    ∙ shapes_found c.args.decls.now list marks before found c.in_ok-list.ensures.shapes is
    (sym c.as_slice-3.ensures ∙ c.in-None.ensures)

pub returns-in-None-clause-none : goal.returns-in-None-clause-none
returns-in-None-clause-none c =
    let list = c.in_ok-list.list in
    let marks = c.in_ok-marks.marks in
    let found = c.add_of_shapes.new.found in
    let before = c.in_ok-found.found in
    let is = c.in_ok-shapes.ensures.found ∙ ap (λ m. before ++ breaches_of_shapes list m)
    c.as_slice-2.ensures in
    first_found c.args.decls.now list marks before found c.in_ok-list.ensures.shapes is
    (subst (λ s. AreHolders s marks) c.as_slice.ensures c.in_ok-marks.ensures)
    c.in_ok-found.ensures None
    (subst (λ f. IsFirstPlaced f None) c.as_slice-3.ensures c.in-None.ensures)

pub returns-clause-refused : goal.returns-clause-refused
returns-clause-refused c =
    let list = c.in_ok-list.list in
    let marks = c.in_ok-marks.marks in
    let found = c.add_of_shapes.new.found in
    let before = c.in_ok-found.found in
    let is = c.in_ok-shapes.ensures.found ∙ ap (λ m. before ++ breaches_of_shapes list m)
    c.as_slice-2.ensures in
    first_found c.args.decls.now list marks before found c.in_ok-list.ensures.shapes is
    (subst (λ s. AreHolders s marks) c.as_slice.ensures c.in_ok-marks.ensures)
    c.in_ok-found.ensures (Some c.in-Some.first)
    (subst (λ f. IsFirstPlaced f (Some c.in-Some.first)) c.as_slice-3.ensures c.in-Some.ensures)
