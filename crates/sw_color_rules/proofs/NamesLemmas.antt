-- One number turns into another.
use Rattle.std.proofs.Common.{◌≡◌, ◌≢◌, ℕ, refl, Bool, true, false, cond, eqb, inl, inr, ◌⊎◌}
use Rattle.std.proofs.lemmas.Bool.Decides.{eqb_tells}
use Rattle.sw_color_rules.specs.Names.{turned}

pub turned_other : (from to n : ℕ) → n ≢ from → turned from to n ≡ n
turned_other from to n other = by (eqb n from) (eqb_tells n from) where
  by : (b : Bool) → ((b ≡ true) × (n ≡ from)) ⊎ ((b ≡ false) × (n ≢ from)) → cond b to n ≡ n
  by true (inl t) = absurd (other t.1)
  by true (inr f) = cc
  by false _ = refl

pub turned_same : (from to n : ℕ) → n ≡ from → turned from to n ≡ to
turned_same from to n same = by (eqb n from) (eqb_tells n from) where
  by : (b : Bool) → ((b ≡ true) × (n ≡ from)) ⊎ ((b ≡ false) × (n ≢ from)) → cond b to n ≡ to
  by true _ = refl
  by false (inl t) = cc
  by false (inr f) = absurd (f.1 same)
