use Rattle.sw_color.proofs.OwnerLemmas.{handed_there}
use Rattle.sw_color.proofs.palette.hand_over.Goals as goal

pub returns-then-left-len : goal.returns-then-left-len
returns-then-left-len c =
    handed_there c.args.number c.args.job c.name-left.result c.args.palette.now
    c.at-owner.result.now c.handed_to.result c.set.new.self c.name-left.ensures.value
    c.at-owner.ensures c.handed_to.ensures c.set.ensures
