-- What a cell's colour was before colours became one, or were handed over.
use Rattle.std.proofs.Common.{◌≡◌, ◌≢◌, ◌⊎◌, inl, inr, ℕ, zero, suc, Option, Some, None, List, [], ◌∷◌}
use Rattle.std.proofs.Common.{Contains, refl, sym, subst, ap, ◌∙◌, arith}
use Rattle.std.specs.Option.{option_map}
use Rattle.std.specs.List.{slice_index_or}
use Rattle.sw_graph.specs.declared.graph.Graph.{Graph}
use Rattle.sw_value.specs.declared.state.State.{State}
use Rattle.sw_owner_facts.specs.Colours.{Colour, OfJob}
use Rattle.sw_reach_facts.proofs.RenamedLemmas.{index_renamed}
use Rattle.sw_view_facts.specs.Renaming.{recoloured_by}
use Rattle.sw_view_facts.specs.Views.{Colours}
use Rattle.sw_view_facts.proofs.RenameLemmas.{becomes}
use Rattle.sw_secure_facts.specs.Painting.{Unites, handed}
use Rattle.sw_secure_facts.proofs.Recoloured.{colour_was}
use Rattle.sw_secure_facts.proofs.Uniting.{actors_stay, kept_stays, united_colour, united_is}
use Rattle.sw_secure_job_facts.proofs.Handing.{handed_actor, handed_cases, handed_colour, handed_given}
use Rattle.sw_secure_job_facts.proofs.Handing.{handed_is}

-- each colour stays, or is one of the numbered ones and becomes the one that is kept
pub united_cases : (job : ℕ) (ns : List ℕ) (kept c : Colour)
    → (united_colour job ns kept c ≡ c)
    ⊎ ((n : ℕ) × Contains ns n × (c ≡ OfJob job n) × (united_colour job ns kept c ≡ kept))
united_cases job [] kept c = inl refl
united_cases job (n ∷ ns) kept c = elim (becomes job n kept c) [
  | inl both ↦ inr (
    n,
    (zero, omega arith, refl),
    both.0,
    ap (united_colour job ns kept) both.1 ∙ kept_stays job ns kept,
  )
  | inr other ↦ elim (united_cases job ns kept c) [
    | inl stays ↦ inl (ap (united_colour job ns kept) other.1 ∙ stays)
    | inr (m, has, is, now) ↦ inr (
      m,
      (suc has.0, (let inside = has.1 in omega (arith, inside)), has.2),
      is,
      ap (united_colour job ns kept) other.1 ∙ now,
    )
  ]
]

nothing : {A B : Type 0} (f : A → B) (o : Option A) → option_map f o ≡ None → o ≡ None
nothing f None is = refl
nothing f (Some x) is = cc

-- a cell without colour had none before colours were renamed
pub bare_was : (f : Colour → Colour) (colours : Colours) (c : ℕ)
    → slice_index_or (recoloured_by f colours).cells c None ≡ None
    → slice_index_or colours.cells c None ≡ None
bare_was f colours c is = nothing f (slice_index_or colours.cells c None)
    (sym (index_renamed f colours.cells c) ∙ is)

module _ (graph : Graph) (state : State) (job : ℕ) where
  -- ---- where colours become one
  module _ (joined : List Colour) (base after : Colours) (unites : Unites job joined base after)
    where
      after_is : after ≡ recoloured_by (united_colour job unites.numbers unites.kept) base
      after_is = unites.is ∙ united_is job unites.numbers unites.kept base

      -- a colour was there, or it is one that was joined and was the job's
      pub united_was : (c : ℕ) (colour : Colour) → slice_index_or after.cells c None ≡ Some colour
          → (slice_index_or base.cells c None ≡ Some colour)
          ⊎ ((n : ℕ) × (slice_index_or base.cells c None ≡ Some (OfJob job n))
          × Contains joined colour)
      united_was c colour is =
          let old = colour_was graph state (united_colour job unites.numbers unites.kept) base
          (actors_stay job unites.numbers unites.kept) c colour
          (subst (λ (cs : Colours). slice_index_or cs.cells c None ≡ Some colour) after_is is) in
          elim (united_cases job unites.numbers unites.kept old.0) [
            | inl stays ↦ inl (old.1 ∙ ap Some (sym stays ∙ old.2))
            | inr (n, has, own, now) ↦ inr (
              n,
              old.1 ∙ ap Some own,
              subst (Contains joined) (sym now ∙ old.2)
                  (unites.among (OfJob job n) (unites.only n has)),
            )
          ]

      pub united_bare : (c : ℕ) → slice_index_or after.cells c None ≡ None
          → slice_index_or base.cells c None ≡ None
      united_bare c is = bare_was (united_colour job unites.numbers unites.kept) base c
          (subst (λ (cs : Colours). slice_index_or cs.cells c None ≡ None) after_is is)

  -- ---- where they are handed over
  module _ (heir : ℕ) (other : job ≢ heir) (given : List ℕ) (base : Colours) where
    -- a colour was there, or it is the heir's and was the job's
    pub handed_was : (c : ℕ) (colour : Colour)
        → slice_index_or (handed job heir given base).cells c None ≡ Some colour
        → (slice_index_or base.cells c None ≡ Some colour)
        ⊎ ((n : ℕ) × (slice_index_or base.cells c None ≡ Some (OfJob job n))
        × (colour ≡ OfJob heir n))
    handed_was c colour is =
        let old = colour_was graph state (handed_colour job heir given) base
        (handed_actor job heir given) c colour
        (subst (λ (cs : Colours). slice_index_or cs.cells c None ≡ Some colour)
        (handed_is job heir given base) is) in
        elim (handed_cases job heir given old.0 other) [
          | inl stays ↦ inl (old.1 ∙ ap Some (sym stays ∙ old.2))
          | inr (n, has, own) ↦ inr (
            n,
            old.1 ∙ ap Some own,
            sym old.2 ∙ ap (handed_colour job heir given) own
                ∙ handed_given job heir given n other has,
          )
        ]

    pub handed_bare : (c : ℕ)
        → slice_index_or (handed job heir given base).cells c None ≡ None
        → slice_index_or base.cells c None ≡ None
    handed_bare c is = bare_was (handed_colour job heir given) base c
        (subst (λ (cs : Colours). slice_index_or cs.cells c None ≡ None)
        (handed_is job heir given base) is)
