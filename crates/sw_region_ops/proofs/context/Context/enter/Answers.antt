use Rattle.std.proofs.Common.{◌∷◌, [], refl, subst, arith}
use Rattle.sw_partition.specs.Effects.{IsBlank}
use Rattle.sw_region_ops.specs.Elements.{element_count}
use Rattle.sw_region_ops.proofs.EntryLemmas.{blank_met}
use Rattle.sw_region_ops.proofs.context.Context.enter.Goals as goal

pub returns : goal.returns
returns c =
    let blank = subst (λ n. IsBlank n c.args.sites.now c.in_ok-state.state) c.element_count.ensures
    c.in_ok-state.ensures in
    let met = c.lend_all.ensures (element_count c.args.self.now.elements) c.args.sites.now (0 ∷ [])
    (0, omega arith, refl) (blank_met _ _ _ (omega arith) blank) in
    rw (c.elements.ensures.value, c.as_slice.ensures, c.body.ensures) at met
