-- Of colours that one frame holds, all but one are the job's own.
use Rattle.std.proofs.Common.{◌≡◌, ℕ, ◌⊎◌, sym, ◌∙◌, inl, inr, refl, List, [], ◌∷◌, Contains, suc}
use Rattle.std.proofs.Common.{arith}
use Rattle.sw_list.proofs.Members.{none_in, first_or_later}
use Rattle.sw_owner_facts.specs.Colours.{Colour, OfJob}
use Rattle.sw_owner_facts.specs.View.{Frame, Element, View, HoldsLive}
use Rattle.sw_owner_facts.specs.Owned.{IsOwned}
use Rattle.sw_owner_facts.proofs.OwnerLemmas.{one_merges}
use Rattle.sw_view_facts.specs.Renaming.{AllButOne}

-- Of colours that are held live by elements of one frame one can be kept.
pub some_kept : (w : View) (p : Frame) → IsOwned w → (first : Colour) (rest : List Colour)
    → ((c : Colour) → Contains (first ∷ rest) c → (x : Element) × HoldsLive w p x c)
    → (kept : Colour) × Contains (first ∷ rest) kept × AllButOne p kept (first ∷ rest)
some_kept w p owned first [] held = (
  first,
  (0, omega arith, refl),
  λ c has. elim (first_or_later first [] c has) [
    | inl same ↦ inl (sym same)
    | inr none ↦ absurd (none_in c none)
  ],
)
some_kept w p owned first (second ∷ rest) held =
    let more = some_kept w p owned second rest (λ c has. held c (later first (second ∷ rest) c has)) in
    let one = held first (0, omega arith, refl) in
    let other = held more.0 (later first (second ∷ rest) more.0 more.1) in
    by more (one_merges w p one.0 other.0 first more.0 owned one.1 other.1)
  where
    later : (x : Colour) (xs : List Colour) (c : Colour) → Contains xs c → Contains (x ∷ xs) c
    later x xs c has = (suc has.0, omega (arith, has.1), has.2)

    by : (more : (kept : Colour) × Contains (second ∷ rest) kept
        × AllButOne p kept (second ∷ rest))
        → (first ≡ more.0) ⊎ ((n : ℕ) × ((first ≡ OfJob p.job n) ⊎ (more.0 ≡ OfJob p.job n)))
        → (kept : Colour) × Contains (first ∷ (second ∷ rest)) kept
        × AllButOne p kept (first ∷ (second ∷ rest))
    by more (inl same) = (
      more.0,
      later first (second ∷ rest) more.0 more.1,
      λ c has. elim (first_or_later first (second ∷ rest) c has) [
        | inl is ↦ inl (sym is ∙ same)
        | inr there ↦ more.2 c there
      ],
    )
    by more (inr (n, inl own)) = (
      more.0,
      later first (second ∷ rest) more.0 more.1,
      λ c has. elim (first_or_later first (second ∷ rest) c has) [
        | inl is ↦ inr (n, sym is ∙ own)
        | inr there ↦ more.2 c there
      ],
    )
    by more (inr (n, inr own)) = (
      first,
      (0, omega arith, refl),
      λ c has. elim (first_or_later first (second ∷ rest) c has) [
        | inl is ↦ inl (sym is)
        | inr there ↦ elim (more.2 c there) [
          | inl is ↦ inr (n, is ∙ own)
          | inr job ↦ inr job
        ]
      ],
    )
