-- What becomes of a colour where several become one.
use Rattle.std.proofs.Common.{◌≡◌, ℕ, suc, ◌⊎◌, List, [], ◌∷◌, Contains}
use Rattle.std.proofs.Common.{refl, ap, ◌∙◌, arith, inl, inr}
use Rattle.sw_owner_facts.specs.Colours.{Colour, OfJob}
use Rattle.sw_view_facts.specs.Renaming.{renames}
use Rattle.sw_view_facts.proofs.RenameLemmas.{becomes, cases_colour}
use Rattle.sw_secure_facts.proofs.Uniting.{united_colour}

-- a colour is one of those that become `kept`, or it stays
pub becomes_or_stays : (job : ℕ) (ns : List ℕ) (kept c : Colour)
    → ((n : ℕ) × Contains ns n × (c ≡ OfJob job n)) ⊎ (united_colour job ns kept c ≡ c)
becomes_or_stays job [] kept c = inr refl
becomes_or_stays job (m ∷ ns) kept c = elim (cases_colour c job m) [
  | inl is ↦ inl (m, (0, omega arith, refl), is)
  | inr differ ↦
      let same : renames job m kept c ≡ c = elim (becomes job m kept c) [
        | inl both ↦ absurd (differ both.0)
        | inr other ↦ other.1
      ] in
      elim (becomes_or_stays job ns kept c) [
        | inl (n, has, is) ↦ inl (n, (suc has.0, omega (arith, has.1), has.2), is)
        | inr stays ↦ inr (ap (united_colour job ns kept) same ∙ stays)
      ]
]
