use Rattle.std.proofs.Common.{◌≡◌, ◌++◌, take}
use Rattle.sw_cert.specs.Certificate.{pair_numbers}
use Rattle.sw_cert.proofs.printing.add_pairs.Given as goal

abbrev pub invariant-loop-pair : goal.invariant-loop-pair
invariant-loop-pair l =
    l.numbers.items ≡ l.fn.numbers.items ++ pair_numbers (take l.pair-index l.pairs)
