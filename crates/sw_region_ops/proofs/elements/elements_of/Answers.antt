use Rattle.std.proofs.Common.{◌≡◌, subst, sym, arith}
use Rattle.std.proofs.lemmas.Grind.{common_steps}
use Rattle.sw_region_ops.specs.Elements.{elements_of, AreElements}
use Rattle.sw_region_ops.proofs.ContextLemmas.{are_elements}
use Rattle.sw_region_ops.proofs.elements.elements_of.Goals as goal

pub returns-clause-in_range : goal.returns-clause-in_range
returns-clause-in_range c =
    let e : c.loop-kind.elements ≡ elements_of c.args.shapes.now c.args.regs.now =
    grind (arith, common_steps) in
    subst AreElements (sym e)
    (are_elements c.args.shapes.now c.args.regs.now c.requires.few)
