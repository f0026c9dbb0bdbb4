use Rattle.std.proofs.Common.{length, ap, sym, subst, ◌∙◌, arith}
use Rattle.sw_types.specs.Cycles.{IsShapeFault}
use Rattle.sw_types.specs.Held.{AreWithin, edges_of}
use Rattle.sw_types.specs.Paths.{Path}
use Rattle.sw_decls.proofs.HollowLemmas.{hollowed_within, length_hollowed, none_holds_itself}
use Rattle.sw_decls.proofs.declaring.hollow_shapes.Goals as goal

pub new-requires-clause-small : goal.new-requires-clause-small
new-requires-clause-small c =
    let same = ap length c.in_ok-hollowed.ensures
    ∙ length_hollowed c.args.marks.now 0 c.args.list in
    let small = c.requires.small in
    omega (arith, same, small)

pub new-requires-clause-in_range : goal.new-requires-clause-in_range
new-requires-clause-in_range c =
    subst AreWithin (sym c.in_ok-hollowed.ensures)
    (hollowed_within c.args.marks.now c.args.list c.requires.within)

pub unreachable-requires : goal.unreachable-requires
unreachable-requires c =
    let number = c.in-Err-Cycle.field-0-0 in
    let fault = c.in-Err-Cycle.field-0-is in
    let refused = subst (IsShapeFault c.in_ok-hollowed.field-0) fault
    c.in-Err-Cycle.ensures.refused in
    none_holds_itself c.args.marks.now c.args.list c.requires.marked number
    (subst (λ shapes. Path (edges_of shapes) number number) c.in_ok-hollowed.ensures refused.0)
