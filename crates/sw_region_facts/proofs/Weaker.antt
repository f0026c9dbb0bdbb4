-- States that unite more and give more away.
use Rattle.std.proofs.Common.{ℕ, Option, List}
use Rattle.sw_partition.specs.Regions.{Regions, Together, HasPair, IsWithin, IsSameState}
use Rattle.sw_region_facts.specs.FrameRegions.{IsWeaker, HaveOwnNumbers, IsStateOf}
use Rattle.sw_region_facts.proofs.Numbers.{together_by, live_by}

module _ (elements : List (Option ℕ)) where
  pub weaker_itself : (a : Regions) → IsWeaker elements a a
  weaker_itself a = record { together = λ x y t. t; live = λ x l. l }

  pub weaker_on : (a b c : Regions) → IsWeaker elements a b → IsWeaker elements b c
      → IsWeaker elements a c
  weaker_on a b c first second = record {
    together = λ x y t. second.together x y (first.together x y t);
    live = λ x l. first.live x (second.live x l);
  }

  module _ (own : HaveOwnNumbers elements) (a b : Regions) (sized : IsStateOf elements a) where
    pub weaker_by : ((x y : ℕ) → Together a x y → Together b x y)
        → ((x site : ℕ) → HasPair a x site → HasPair b x site) → IsWeaker elements a b
    weaker_by together pairs = record {
      together = λ x y t. together_by elements own a b sized x y (λ p q _ _. together p q) t;
      live = λ x l. live_by elements own a b sized x (λ p site _. pairs p site) l;
    }

    pub weaker_within : IsWithin a b → IsWeaker elements a b
    weaker_within within = weaker_by within.together within.pairs

    pub weaker_same : IsSameState a b → IsWeaker elements a b
    weaker_same same =
        weaker_by (λ x y. (same.together x y).0) (λ x site. (same.pairs x site).0)
