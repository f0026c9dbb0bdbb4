-- Two ways, by whether two numbers are equal.
use Rattle.std.proofs.Common.{◌≡◌, ℕ, inl, inr, Bool, true, false, sym, subst}
use Rattle.std.proofs.lemmas.Bool.Decides.{eqb_tells}
use Rattle.std.specs.Prelude.{◌==◌}

pub by_test : (P : Bool → Type 0) (a b : ℕ) → (a ≡ b → P true) → ((a ≡ b → ⊥) → P false)
    → P (a == b)
by_test P a b same_way other_way = elim (eqb_tells a b) [
  | inl (is, same) ↦ subst P (sym is) (same_way same)
  | inr (is, apart) ↦ subst P (sym is) (other_way apart)
]
