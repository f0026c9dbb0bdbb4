use Rattle.sw_value.proofs.BusyLemmas.{out_there}
use Rattle.sw_value.proofs.busy.replace.Goals as goal

pub release-requires : goal.release-requires
release-requires c = record {
  there = out_there c.args.held c.moved-out.result.0 c.args.busy.now c.occupy.new.busy
      c.requires.there c.moved-out.ensures.out c.in_ok-occupy.ensures.more;
}
