-- The effects of the operations are monotone.
use Rattle.std.proofs.Common.{◌≡◌, ◌≢◌, ℕ, ◌<◌, ◌⊎◌, inl, inr, length, subst}
use Rattle.sw_partition.specs.Regions.{Regions, size_of, Together, HasPair, IsWithin}
use Rattle.sw_partition.specs.Effects.{IsFreshened, IsPut, IsJoined, IsGiven}

pub fresh_monotone : (x : ℕ) (a b c d : Regions) → size_of a ≡ size_of b → IsWithin a b
    → IsFreshened x a c → IsFreshened x b d → IsWithin c d
fresh_monotone x a b c d size within first second = record {
  together = λ p q t. (second.together p q).1 (lifted p q ((first.together p q).0 t));
  pairs = λ p site has. (let h = (first.pairs p site).0 has in
      (second.pairs p site).1 (h.0, within.pairs p site h.1));
}
  where
    elements : length a.labels ≡ length b.labels
    elements = cc

    lifted : (p q : ℕ) → (((p ≡ q) × (p < length a.labels)) ⊎ ((p ≢ x) × (q ≢ x) × Together a p q))
        → (((p ≡ q) × (p < length b.labels)) ⊎ ((p ≢ x) × (q ≢ x) × Together b p q))
    lifted p q (inl h) = inl (h.0, subst (λ n. p < n) elements h.1)
    lifted p q (inr h) = inr (h.0, h.1, within.together p q h.2)

pub put_monotone : (x y : ℕ) (a b c d : Regions) → IsWithin a b → IsPut x y a c → IsPut x y b d
    → IsWithin c d
put_monotone x y a b c d within first second = record {
  together = λ p q t. (second.together p q).1 (within.together _ _ ((first.together p q).0 t));
  pairs = λ p site has. (second.pairs p site).1 (within.pairs _ site ((first.pairs p site).0 has));
}

pub join_monotone : (x y : ℕ) (a b c d : Regions) → IsWithin a b → IsJoined x y a c
    → IsJoined x y b d → IsWithin c d
join_monotone x y a b c d within first second = record {
  together = λ p q t. (second.together p q).1 (lifted p q ((first.together p q).0 t));
  pairs = λ p site has. (second.pairs p site).1 (within.pairs p site ((first.pairs p site).0 has));
}
  where
    lifted : (p q : ℕ) → (Together a p q
        ⊎ ((Together a p x × Together a y q) ⊎ (Together a p y × Together a x q)))
        → (Together b p q ⊎ ((Together b p x × Together b y q) ⊎ (Together b p y × Together b x q)))
    lifted p q (inl t) = inl (within.together p q t)
    lifted p q (inr (inl w)) = inr (inl (within.together p x w.0, within.together y q w.1))
    lifted p q (inr (inr w)) = inr (inr (within.together p y w.0, within.together x q w.1))

pub give_monotone : (x site : ℕ) (a b c d : Regions) → IsWithin a b → IsGiven x site a c
    → IsGiven x site b d → IsWithin c d
give_monotone x site a b c d within first second = record {
  together = λ p q t. (second.together p q).1 (within.together p q ((first.together p q).0 t));
  pairs = λ p s has. (second.pairs p s).1 (lifted p s ((first.pairs p s).0 has));
}
  where
    lifted : (p s : ℕ) → (HasPair a p s ⊎ ((s ≡ site) × (p ≢ 0) × Together a p x))
        → (HasPair b p s ⊎ ((s ≡ site) × (p ≢ 0) × Together b p x))
    lifted p s (inl has) = inl (within.pairs p s has)
    lifted p s (inr w) = inr (w.0, w.1, within.together p x w.2)
