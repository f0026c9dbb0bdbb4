use Rattle.std.proofs.Common.{List, ℕ, sym, subst, ◌∙◌}
use Rattle.sw_partition.specs.Effects.{IsClassed}
use Rattle.sw_partition.specs.Tables.{AreLabels}
use Rattle.sw_cert.proofs.Stated.{all_shown, are_labels, pairs_in_blank}
use Rattle.sw_cert.specs.Stating.{IsGivenAll}
use Rattle.sw_cert.specs.declared.line.Pair.{Pair}
use Rattle.sw_cert.proofs.states.state_of.Goals as goal

pub set_classes-requires-clause-classes : goal.set_classes-requires-clause-classes
set_classes-requires-clause-classes c =
    subst AreLabels (sym c.as_slice-2.ensures)
    (subst AreLabels (sym c.get.ensures)
    (are_labels c.args.line.now.classes c.requires.line.1.classes))

pub returns-clause-shows : goal.returns-clause-shows
returns-clause-shows c =
    let fits = c.requires.line.1 in
    all_shown c.args.line.now c.args.elements c.args.sites.now c.in_ok-state.state
    c.give_all.new.state c.set_classes.new.self c.in_ok-state.ensures fits.elements fits.classes
    (pairs_in_blank c.requires.line.0 c.args.elements c.args.sites.now c.in_ok-state.state
    c.args.line.now.pairs fits.pairs c.in_ok-state.ensures) fits.rising
    (subst (λ (l : List Pair). IsGivenAll c.in_ok-state.state l c.give_all.new.state)
    c.as_slice.ensures c.give_all.ensures)
    (subst (λ (l : List ℕ). IsClassed l c.give_all.new.state c.set_classes.new.self)
    (c.as_slice-2.ensures ∙ c.get.ensures) c.set_classes.ensures)
