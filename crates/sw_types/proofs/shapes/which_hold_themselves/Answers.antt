use Rattle.std.proofs.Common.{sym, subst, ◌∙◌}
use Rattle.sw_types.specs.Paths.{AreInRange}
use Rattle.sw_types.proofs.WithinLemmas.{edges_within}
use Rattle.sw_types.proofs.shapes.which_hold_themselves.Goals as goal

pub sorting_of-requires-clause-edges : goal.sorting_of-requires-clause-edges
sorting_of-requires-clause-edges c =
    subst AreInRange (sym (c.as_slice.ensures ∙ c.in_ok-edges.ensures))
    (edges_within c.args.shapes.now c.requires.in_range)
