-- Two places are one, or apart.
use Rattle.std.proofs.Common.{◌≡◌, ◌⊎◌, inl, inr, ap, ◌∙◌}
use Rattle.std.proofs.lemmas.Bool.{cases_eq}
use Rattle.sw_value.specs.declared.race.Place.{Place}
use Rattle.sw_value.specs.declared.race.Place.TheVariants.{Prop, Global, BoxOf}

pub cases_place : (p q : Place) → (p ≡ q) ⊎ (p ≡ q → ⊥)
cases_place (Prop c i) (Prop d k) = elim (cases_eq c d) [
  | inl same ↦ elim (cases_eq i k) [
    | inl e ↦ inl (ap (λ n. Prop n i) same ∙ ap (Prop d) e)
    | inr apart ↦ inr (λ e. apart (cc))
  ]
  | inr apart ↦ inr (λ e. apart (cc))
]
cases_place (Prop c i) (Global g) = inr (λ e. cc)
cases_place (Prop c i) (BoxOf d) = inr (λ e. cc)
cases_place (Global g) (Prop d k) = inr (λ e. cc)
cases_place (Global g) (Global h) = elim (cases_eq g h) [
  | inl e ↦ inl (ap Global e)
  | inr apart ↦ inr (λ e. apart (cc))
]
cases_place (Global g) (BoxOf d) = inr (λ e. cc)
cases_place (BoxOf c) (Prop d k) = inr (λ e. cc)
cases_place (BoxOf c) (Global h) = inr (λ e. cc)
cases_place (BoxOf c) (BoxOf d) = elim (cases_eq c d) [
  | inl e ↦ inl (ap BoxOf e)
  | inr apart ↦ inr (λ e. apart (cc))
]
