use Rattle.sw_before.proofs.PairLemmas.{none_without}
use Rattle.sw_before.proofs.RivalLemmas.{heard_all, first_unheard}
use Rattle.sw_before.proofs.laws.first_pair_is_found_by_clocks.Goals as goal

pub returns : goal.returns
returns c = record {
  quiet = none_without;
  none = λ events e b named ordered makes. heard_all events e named b makes ordered;
  found = λ events e a b p named ordered makes.
      first_unheard events e named b makes ordered p a;
}
