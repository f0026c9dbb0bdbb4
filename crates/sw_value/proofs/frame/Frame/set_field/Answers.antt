use Rattle.std.proofs.Common.{Some, ap, ◌∙◌}
use Rattle.sw_value.specs.Frame.{set_field}
use Rattle.sw_value.proofs.ListLemmas.{mapped_some, mapped_none}
use Rattle.sw_value.proofs.frame.Frame.set_field.Goals as goal

pub returns-in-Some : goal.returns-in-Some
unfolding set_field
returns-in-Some c =
    let frame = c.args.self.now in
    ap (λ l. record frame { regs = l; point = c.args.next })
    (mapped_some _ c.args.reg frame.regs _ _ (c.at_mut.ensures.value ∙ ap Some c.in-Some.is)
    c.set_field.ensures)

pub returns-in_default : goal.returns-in_default
unfolding set_field
returns-in_default c =
    let frame = c.args.self.now in
    ap (λ l. record frame { regs = l; point = c.args.next })
    (mapped_none _ c.args.reg frame.regs _ (c.at_mut.ensures.value) c.in_default.is)
