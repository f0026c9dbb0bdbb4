-- The kind that is found by a key is in the list, and where none is found none there has the key.
use Rattle.std.proofs.Common.{◌≡◌, ℕ, zero, suc, Bool, true, false, cond, List, [], ◌∷◌, Option}
use Rattle.std.proofs.Common.{Some, None, Contains, ap, arith, refl, inl, inr}
use Rattle.std.proofs.lemmas.Grind.{common_steps}
use Rattle.std.proofs.lemmas.List.Elements.{Contains-append_cases, Contains-append_right}
use Rattle.std.specs.Prelude.{◌==◌, MatchOption}
use Rattle.sw_list.proofs.Members.{none_in}
use Rattle.sw_types.specs.declared.isolation.CallKind.{CallKind}
use Rattle.sw_isolation_rules.specs.Lists.{kind_with}
use Rattle.sw_isolation_rules.specs.declared.note.Kinded.{Kinded}

abbrev kinded : ℕ → CallKind → Kinded
kinded key kind = record { at = key; kind = kind }

abbrev pub IsKindIn : List Kinded → ℕ → Option CallKind → Type 0
IsKindIn kinds key found =
    MatchOption found ((kind : CallKind) → Contains kinds (kinded key kind) → ⊥)
    (λ kind. Contains kinds (kinded key kind))

more : (one : Kinded) (kinds : List Kinded) (key : ℕ) → (one.at == key) ≡ false
    → (found : Option CallKind) → IsKindIn kinds key found → IsKindIn (one ∷ kinds) key found
more one kinds key other None none = λ kind has.
    elim (Contains-append_cases (one ∷ []) kinds (kinded key kind) has) [
      | inl (zero, below, is) ↦
          let same : one.at ≡ key = ap (λ (k : Kinded). k.at) is in
          grind (arith, common_steps)
      | inl (suc k, below, is) ↦ omega (arith, below)
      | inr there ↦ none kind there
    ]
more one kinds key other (Some kind) has =
    Contains-append_right (one ∷ []) kinds (kinded key kind) has

pub kind_found : (kinds : List Kinded) (key : ℕ) → IsKindIn kinds key (kind_with kinds key)
kind_found [] key = λ kind has. none_in (kinded key kind) has
kind_found (one ∷ kinds) key = by (one.at == key) refl (kind_found kinds key) where
  by : (same : Bool) → (one.at == key) ≡ same → IsKindIn kinds key (kind_with kinds key)
      → IsKindIn (one ∷ kinds) key (cond same (Some one.kind) (kind_with kinds key))
  by true same later =
      let is : one.at ≡ key = grind (arith, same) in
      (0, omega arith, λ i. kinded (is i) one.kind)
  by false other later = more one kinds key other (kind_with kinds key) later
