use Rattle.std.proofs.Common.{sym, ap, subst, ◌∙◌}
use Rattle.sw_types.specs.Held.{edges_of}
use Rattle.sw_types.specs.Paths.{AreInRange}
use Rattle.sw_types.proofs.WithinLemmas.{edges_within}
use Rattle.sw_types.proofs.shapes.Shapes.new.Goals as goal

pub sorting_of-requires-clause-edges : goal.sorting_of-requires-clause-edges
sorting_of-requires-clause-edges c =
    subst AreInRange (sym (c.as_slice-2.ensures ∙ c.in_ok-edges.ensures
    ∙ ap edges_of c.as_slice.ensures)) (edges_within c.args.list c.requires.in_range)
