use Rattle.sw_dictation.proofs.Among.{neither}
use Rattle.sw_dictation.proofs.choice.number.Goals as goal

pub returns-in-Err-tried-clause-err : goal.returns-in-Err-tried-clause-err
returns-in-Err-tried-clause-err c =
    neither c.args.ending.now c.args.going.now c.args.bytes.now c.in-Err.at c.in-Err-tried.at
    c.max.result c.in-Err.ensures.err c.in-Err-tried.ensures.err c.max.ensures
