-- Which numbers may stand at the beginning of a line.
use Rattle.std.proofs.Common.{◌≡◌, ℕ, ◌+◌, ◌<◌, ◌≤◌, ◌⊎◌, inl, inr, ◌↔◌, Some, List, [], ◌∷◌}
use Rattle.std.proofs.Common.{◌++◌}
use Rattle.std.proofs.Common.{length, refl, sym, subst, ap, ◌∙◌, arith}
use Rattle.std.specs.List.{slice_get}
use Rattle.std.proofs.lemmas.Bool.{cases_eq}
use Rattle.std.proofs.lemmas.Option.{slice_get_within}
use Rattle.sw_dictation.specs.Lines.{MayFollow, IsBadPlace}
use Rattle.sw_cert.proofs.Beginning.{none_begun, begun_more, stuck_same}
use Rattle.sw_cert.proofs.Beginning.{stuck_is_bad}
use Rattle.sw_region_flow.proofs.Places.{element_at}
use Rattle.sw_cert.proofs.Following.{one_extent, function_follows, block_follows}
use Rattle.sw_cert.proofs.Following.{elements_follow}
use Rattle.sw_cert.specs.Begun.{IsForm, IsBegun, IsNext, IsStuck, IsBlockRead, IsHeadRead}
use Rattle.sw_cert.specs.Begun.{IsBetween}
use Rattle.sw_cert.specs.Choices.{RisesTo, HasBlock, HasLine}
use Rattle.sw_cert.specs.Form.{certificate_form}
use Rattle.sw_cert.specs.declared.form.Form.{Form}
use Rattle.sw_cert.specs.declared.line.Extent.{Extent}
use Rattle.sw_cert.specs.declared.line.Spot.{Spot}

-- what is said and what is not, where numbers that a blank closes may follow
module _ (form : Form) (is : IsForm form) (spot : Spot) (text so_far : List ℕ) (at : ℕ)
    (begun : IsBegun text so_far at) (P : ℕ → Type 0)
    (follows : (n c : ℕ) → MayFollow (certificate_form form.extents) spot so_far n c
    ↔ ((c ≡ 32) × P n)) (from to : ℕ) (offers : (n : ℕ) → ((from ≤ n) × (n < to)) ↔ P n) where
  pub said : (n end : ℕ) → IsNext (IsBetween from to) text at n end
      → P n × IsBegun text (so_far ++ n ∷ []) end
  said n end next = (
    (offers n).0 next.offered.1,
    begun_more (IsBetween from to) text so_far at n end begun next next.offered.0,
  )

  pub not_said : (place : ℕ) → (so_far ≡ []) ⊎ ((n : ℕ) × P n) → (so_far ≡ [] → at < length text)
      → IsStuck (IsBetween from to) text at place
      → IsBadPlace (certificate_form form.extents) spot text place
  not_said place some inside stuck = stuck_is_bad form.extents spot text so_far at begun
      place (viable some) inside
      (stuck_same (IsBetween from to) (MayFollow (certificate_form form.extents) spot so_far) text
      at place (λ n c. (
        λ (blank, within). (follows n c).1 (blank, (offers n).0 within),
        λ may. let h = (follows n c).0 may in (h.0, (offers n).1 h.1),
      )) stuck)
    where
      viable : (so_far ≡ []) ⊎ ((n : ℕ) × P n) → (so_far ≡ [])
          ⊎ ((n closer : ℕ) × MayFollow (certificate_form form.extents) spot so_far n closer)
      viable (inl none) = inl none
      viable (inr (n, may)) = inr (n, 32, (follows n 32).1 (refl, may))

-- the function
pub functions_from : (extents : List Extent) (spot : Spot) (extent : Extent)
    → slice_get extents spot.function ≡ Some extent → spot.block < extent.blocks
    → (n : ℕ) → HasBlock extents spot n ↔ ((spot.function ≤ n) × (n < length extents))
functions_from extents spot extent at room n =
    (λ has. (at_least has has.room, slice_get_within extents n has.extent has.is_extent), back)
  where
    at_least : (has : HasBlock extents spot n)
        → (spot.function < n) ⊎ ((spot.function ≡ n) × (spot.block < has.extent.blocks))
        → spot.function ≤ n
    at_least has (inl lt) = omega (arith, lt)
    at_least has (inr (e, lt)) = omega (arith, e)

    back : (spot.function ≤ n) × (n < length extents) → HasBlock extents spot n
    back (le, lt) = elim (cases_eq spot.function n) [
      | inl e ↦ record {
        extent = extent;
        is_extent = ap (slice_get extents) (sym e) ∙ at;
        room = inr (e, room);
      }
      | inr ne ↦ (let h = element_at extents n lt in
          record { extent = h.0; is_extent = h.1; room = inl (omega (arith, le, ne)) })
    ]

pub functions_past : (extents : List Extent) (spot : Spot) (from : ℕ) → spot.function < from
    → ((n : ℕ) → n < length extents → spot.function < n → from ≤ n)
    → ((extent : Extent) → slice_get extents spot.function ≡ Some extent
    → extent.blocks ≤ spot.block)
    → (n : ℕ) → HasBlock extents spot n ↔ ((from ≤ n) × (n < length extents))
functions_past extents spot from past next full n =
    (λ has. (at_least has has.room, slice_get_within extents n has.extent has.is_extent), back)
  where
    at_least : (has : HasBlock extents spot n)
        → (spot.function < n) ⊎ ((spot.function ≡ n) × (spot.block < has.extent.blocks))
        → from ≤ n
    at_least has (inl lt) = next n (slice_get_within extents n has.extent has.is_extent) lt
    at_least has (inr (e, lt)) = absurd (omega (
      arith,
      lt,
      full has.extent (ap (slice_get extents) e ∙ has.is_extent),
    ))

    back : (from ≤ n) × (n < length extents) → HasBlock extents spot n
    back (le, lt) = let h = element_at extents n lt in
        record { extent = h.0; is_extent = h.1; room = inl (omega (arith, le, past)) }

-- a function that may stand at a place isn't before it
pub block_after : (extents : List Extent) (spot : Spot) (function : ℕ)
    → HasBlock extents spot function → spot.function ≤ function
block_after extents spot function has = by has.room
  where
    by : (spot.function < function)
        ⊎ ((spot.function ≡ function) × (spot.block < has.extent.blocks))
        → spot.function ≤ function
    by (inl lt) = omega (arith, lt)
    by (inr (e, lt)) = omega (arith, e)

pub functions_none : (extents : List Extent) (spot : Spot) → length extents ≤ spot.function
    → (n : ℕ) → HasBlock extents spot n ↔ ((spot.function ≤ n) × (n < length extents))
functions_none extents spot past n = (
  λ has. absurd (omega (
    arith,
    slice_get_within extents n has.extent has.is_extent,
    block_after extents spot n has,
    past,
  )),
  λ (le, lt). absurd (omega (arith, le, lt, past)),
)

module _ (form : Form) (is : IsForm form) (spot : Spot) (text : List ℕ) where
  module _ (list : List Extent) (same : list ≡ form.extents) (from : ℕ)
      (may : (n : ℕ) → HasBlock list spot n ↔ ((from ≤ n) × (n < length list))) where
    functions_offered : (n : ℕ) → ((from ≤ n) × (n < length list)) ↔ HasBlock form.extents spot n
    functions_offered n = subst (λ l. ((from ≤ n) × (n < length list)) ↔ HasBlock l spot n) same
        ((may n).1, (may n).0)

    pub function_said : (n end : ℕ) → IsNext (IsBetween from (length list)) text 0 n end
        → HasBlock form.extents spot n × IsBegun text (n ∷ []) end
    function_said n end =
        said form is spot text [] 0 (none_begun text) (HasBlock form.extents spot)
        (function_follows form.extents is.fit spot) from (length list) functions_offered n end

    pub function_not_said : (place : ℕ) → 0 < length text
        → IsStuck (IsBetween from (length list)) text 0 place
        → IsBadPlace (certificate_form form.extents) spot text place
    function_not_said place some =
        not_said form is spot text [] 0 (none_begun text) (HasBlock form.extents spot)
        (function_follows form.extents is.fit spot) from (length list) functions_offered place
        (inl refl) (λ none. some)

  -- the block
  module _ (function : ℕ) (extent : Extent) (has : HasBlock form.extents spot function)
      (at : slice_get form.extents function ≡ Some extent) (place : ℕ)
      (begun : IsBegun text (function ∷ []) place) (from : ℕ)
      (rises : (n : ℕ) → RisesTo spot function n ↔ (from ≤ n)) where
    block_may : (n c : ℕ) → MayFollow (certificate_form form.extents) spot (function ∷ []) n c
        ↔ ((c ≡ 32) × ((n < extent.blocks) × RisesTo spot function n))
    block_may n c = let h = block_follows form.extents is.fit spot function extent at n c in (
      λ may. let parts = h.0 may in (parts.0, (parts.1, parts.2)),
      λ (blank, may). h.1 (blank, may.0, may.1),
    )

    block_offers : (n : ℕ) → ((from ≤ n) × (n < extent.blocks))
        ↔ ((n < extent.blocks) × RisesTo spot function n)
    block_offers n = (
      λ (after, before). (before, (rises n).1 after),
      λ may. ((rises n).0 may.1, may.0),
    )

    pub block_said : (n end : ℕ) → IsNext (IsBetween from extent.blocks) text place n end
        → IsBlockRead form.extents spot text function n end
    block_said n end next =
        let h = said form is spot text (function ∷ []) place begun
        (λ n. (n < extent.blocks) × RisesTo spot function n)
        block_may from extent.blocks block_offers n end next in
        record {
          extent = extent;
          has_line = record { is_extent = at; within = h.0.0; rises = h.0.1 };
          begun = h.1;
        }

    pub block_not_said : (bad : ℕ) → IsStuck (IsBetween from extent.blocks) text place bad
        → IsBadPlace (certificate_form form.extents) spot text bad
    block_not_said bad = not_said form is spot text (function ∷ []) place begun
        (λ n. (n < extent.blocks) × RisesTo spot function n)
        block_may from extent.blocks block_offers bad
        (inr (some has.room)) (λ none. cc)
      where
        same : has.extent ≡ extent
        same = one_extent form.extents has.extent extent function function has.is_extent refl at

        some : (spot.function < function)
            ⊎ ((spot.function ≡ function) × (spot.block < has.extent.blocks))
            → (n : ℕ) × ((n < extent.blocks) × RisesTo spot function n)
        some (inl lt) = (0, ((is.fit.each function extent at).blocks, inl lt))
        some (inr (e, lt)) = (
          spot.block,
          (subst (λ (x : Extent). spot.block < x.blocks) same lt, inr (e, omega arith)),
        )

  -- the number of elements
  module _ (head : Spot) (place : ℕ)
      (read : IsBlockRead form.extents spot text head.function head.block place)
      (extent : Extent) (at : slice_get form.extents head.function ≡ Some extent) where
    same_extent : read.extent ≡ extent
    same_extent = one_extent form.extents read.extent extent head.function head.function
        read.has_line.is_extent refl at

    line_here : HasLine form.extents spot head.function head.block extent
    line_here = subst (HasLine form.extents spot head.function head.block) same_extent
        read.has_line

    elements_offered : (n : ℕ)
        → ((extent.elements ≤ n) × (n < extent.elements + 1)) ↔ (n ≡ extent.elements)
    elements_offered n = (
      λ (after, before). omega (arith, after, before),
      λ e. (omega (arith, e), omega (arith, e)),
    )

    pub elements_said : (n end : ℕ)
        → IsNext (IsBetween extent.elements (extent.elements + 1)) text place n end
        → IsHeadRead form.extents spot text head end
    elements_said n end next =
        let h = said form is spot text (head.function ∷ head.block ∷ []) place read.begun
        (λ n. n ≡ extent.elements)
        (elements_follow form.extents is.fit spot head.function extent at head.block
        line_here.within line_here.rises) extent.elements (extent.elements + 1)
        elements_offered n end next in
        record {
          extent = extent;
          has_line = line_here;
          begun = subst (λ k. IsBegun text (head.function ∷ head.block ∷ k ∷ []) end) h.0 h.1;
        }

    pub elements_not_said : (bad : ℕ)
        → IsStuck (IsBetween extent.elements (extent.elements + 1)) text place bad
        → IsBadPlace (certificate_form form.extents) spot text bad
    elements_not_said bad =
        not_said form is spot text (head.function ∷ head.block ∷ []) place read.begun
        (λ n. n ≡ extent.elements)
        (elements_follow form.extents is.fit spot head.function extent at head.block
        line_here.within line_here.rises) extent.elements (extent.elements + 1)
        elements_offered bad (inr (extent.elements, refl)) (λ none. cc)
