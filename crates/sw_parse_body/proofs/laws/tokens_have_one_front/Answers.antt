use Rattle.std.proofs.Common.{inl, inr}
use Rattle.sw_parse_body.proofs.PhraseFronts.{decided, one_front, one_fault, never_both, same_place}
use Rattle.sw_parse_body.proofs.PhraseFronts.{same_fault}
use Rattle.sw_parse_body.proofs.laws.tokens_have_one_front.Goals as goal

pub returns : goal.returns
returns c = record {
  decided = λ phrase id_of depth tokens from is within.
      elim (decided phrase depth tokens from id_of is within) [
        | inl read ↦ inl read
        | inr fault ↦ inr (fault.0, fault.1 id_of)
      ];
  one_front = λ phrase id_of depth tokens from. one_front phrase depth tokens from id_of;
  one_fault = λ phrase id_of depth tokens from. one_fault phrase depth tokens from id_of;
  never_both = λ phrase id_of depth tokens from. never_both phrase depth tokens from id_of;
  same_place = λ phrase f g depth tokens from. same_place phrase depth tokens from f g;
  same_fault = λ phrase f g depth tokens from fault. same_fault phrase depth tokens from f g fault;
}
