use Rattle.std.proofs.Common.{length, ap, ◌∙◌, arith}
use Rattle.sw_decls.proofs.HollowLemmas.{length_hollowed}
use Rattle.sw_decls.proofs.declaring.add_of_shapes.Goals as goal

pub add_wide-requires : goal.add_wide-requires
add_wide-requires c =
    let same = ap length c.in_ok-shapes.ensures.shapes
    ∙ length_hollowed c.args.marks.now 0 c.args.list in
    let small = c.requires.small in
    omega (arith, same, small)
