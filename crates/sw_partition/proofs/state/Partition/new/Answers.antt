use Rattle.std.proofs.Common.{◌*◌, length, ap, subst, sym, ◌∙◌, arith}
use Rattle.std.specs.List.Sorted.{IsStrictlyIncreasing}
use Rattle.sw_partition.specs.Regions.{words_for}
use Rattle.sw_partition.proofs.Answering.{blank, blank_tables}
use Rattle.sw_partition.proofs.state.Partition.new.Goals as goal

pub invariant_of-result : goal.invariant_of-result
invariant_of-result c =
    blank_tables c.args.elements c.words_for-width.result _ _ _ c.requires.elements (omega arith)
    (subst IsStrictlyIncreasing (sym c.in_ok-from_slice.ensures.items) c.requires.sites)
    c.in_ok-numbers.ensures c.in_ok-zeros.ensures (c.words_for-width.ensures
    ∙ ap (λ s. words_for (length s)) (sym c.in_ok-from_slice.ensures.items))

pub returns : goal.returns
returns c =
    blank c.args.elements (c.args.elements * c.words_for-width.result) c.args.sites.now _ _ _
    c.in_ok-numbers.ensures c.in_ok-zeros.ensures c.in_ok-from_slice.ensures.items
