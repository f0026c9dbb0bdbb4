use Rattle.sw_partition.proofs.Bits.{marked}
use Rattle.sw_partition.proofs.words.mark.Goals as goal

pub returns : goal.returns
returns c = marked c.args.words.now c.args.word c.args.bit c.requires.word c.requires.bit
