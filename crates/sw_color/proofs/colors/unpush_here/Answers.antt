use Rattle.sw_color.proofs.HereLemmas.{unpushes}
use Rattle.sw_color.proofs.colors.unpush_here.Goals as goal

pub returns : goal.returns
returns c = λ number before pushed.
    unpushes c.args.job number c.args.colors.now _ before c.pop_here.ensures pushed
