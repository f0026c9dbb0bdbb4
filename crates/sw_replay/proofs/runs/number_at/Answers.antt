use Rattle.sw_scan.specs.Classes.{is_digit}
use Rattle.sw_scan.proofs.Prefixes.{prefix_passes}
use Rattle.sw_replay.proofs.runs.number_at.Goals as goal

pub number_of-requires : goal.number_of-requires
number_of-requires c =
    rw c.digits_len-len.ensures.value (prefix_passes is_digit c.args.bytes.now)
