-- Parts of lists, and what stands at a byte of a text.
use Rattle.std.proofs.Common.{◌≡◌, ℕ, ◌+◌, ◌-◌, ◌<◌, ◌≤◌, ◌↔◌, inl, inr, List, [], ◌∷◌, ◌++◌, length}
use Rattle.std.proofs.Common.{take, drop, slice_index, get_or, Contains, sym, subst, ap, ◌∙◌, arith}
use Rattle.std.proofs.Common.{length-append}
use Rattle.std.proofs.Math.Seq.{drop-append-add, drop-append_seam}
use Rattle.std.proofs.lemmas.Bool.{cases_eq, cases_lt}
use Rattle.std.proofs.lemmas.List.{take-append-drop, length-take-le, length-drop, get_or-take}
use Rattle.std.proofs.lemmas.List.{take_all, get_or-drop, get_or_default, get_or_push, get_or_append_left}
use Rattle.sw_dictation.specs.Numbers.{spelled, BeginsWith, IsSaid}
use Rattle.sw_cert.specs.Begun.{IsScale, IsNext, IsJust}

-- what a part of a list has
module _ (xs : List ℕ) (from to : ℕ) (le : from ≤ to) (within : to ≤ length xs) where
  abbrev pub part : List ℕ
  part = take (to - from) (drop from xs)

  part_length : length part ≡ to - from
  part_length = length-take-le (to - from) (drop from xs)
      (omega (arith, length-drop from xs, le, within))

  part_at : (k : ℕ) → k < to - from → get_or part k 0 ≡ get_or xs (from + k) 0
  part_at k lt = get_or-take (to - from) (drop from xs) k 0 lt ∙ get_or-drop from xs k 0

  pub part_has : (n : ℕ)
      → Contains part n ↔ ((k : ℕ) × (from ≤ k) × (k < to) × (slice_index xs k ≡ n))
  part_has n = (forth, back)
    where
      forth : Contains part n → (k : ℕ) × (from ≤ k) × (k < to) × (slice_index xs k ≡ n)
      forth (k, lt, at) =
          let below : k < to - from = omega (arith, lt, part_length) in (
            from + k,
            omega arith,
            omega (arith, below),
            sym (part_at k below) ∙ get_or_default part k 0 n lt ∙ at,
          )

      back : (k : ℕ) × (from ≤ k) × (k < to) × (slice_index xs k ≡ n) → Contains part n
      back (k, after, before, at) =
          let below : k - from < to - from = omega (arith, after, before) in
          let inside : k - from < length part = omega (arith, below, part_length) in
          let there : from + (k - from) ≡ k = omega (arith, after) in (
            k - from,
            inside,
            sym (get_or_default part (k - from) 0 n inside) ∙ part_at (k - from) below
                ∙ ap (slice_index xs) there ∙ at,
          )

-- numbers that stand at their own place
pub range_has : (scale : List ℕ) (from first to : ℕ) → IsScale scale → to ≤ length scale
    → first ≤ to → (from ≤ to → first ≡ from) → (to < from → first ≡ to) → (n : ℕ)
    → Contains (take (to - first) (drop first scale)) n ↔ ((from ≤ n) × (n < to))
range_has scale from first to is within le same none n = (forth, back)
  where
    forth : Contains (take (to - first) (drop first scale)) n → (from ≤ n) × (n < to)
    forth has =
        let h = (part_has scale first to le within n).0 has in
        let at : h.0 ≡ n = sym (is.each h.0 (omega (arith, h.2, within))) ∙ h.3 in (
          elim (cases_lt to from) [
            | inl lt ↦ (let e = none lt in absurd (omega (arith, e, h.1, h.2)))
            | inr ge ↦ (let e = same ge in omega (arith, e, h.1, at))
          ],
          omega (arith, h.2, at),
        )

    back : (from ≤ n) × (n < to) → Contains (take (to - first) (drop first scale)) n
    back (after, before) =
        let e = same (omega (arith, after, before)) in
        (part_has scale first to le within n).1 (
          n,
          omega (arith, e, after),
          before,
          is.each n (omega (arith, before, within)),
        )

-- ---- what stands at a byte
pub rest_is : (text : List ℕ) (at : ℕ) → take (length text - at) (drop at text) ≡ drop at text
rest_is text at = take_all (length text - at) (drop at text) (omega (arith, length-drop at text))

behind : (text : List ℕ) (at n closer : ℕ) (rest : List ℕ) → at ≤ length text
    → drop at text ≡ spelled n closer ++ rest
    → drop (at + length (spelled n closer)) text ≡ rest
behind text at n closer rest le e =
    let whole : text ≡ take at text ++ (spelled n closer ++ rest) =
    sym (take-append-drop at text) ∙ ap (λ l. take at text ++ l) e in
    ap (λ l. drop (at + length (spelled n closer)) l) whole
    ∙ ap (λ k. drop (k + length (spelled n closer)) (take at text ++ (spelled n closer ++ rest)))
    (sym (length-take-le at text le))
    ∙ drop-append-add (take at text) (spelled n closer ++ rest) (length (spelled n closer))
    ∙ drop-append_seam (spelled n closer) rest

pub next_begins : (Offered : ℕ → ℕ → Type 0) (text : List ℕ) (at n closer len : ℕ)
    → at ≤ length text → Offered n closer → BeginsWith n closer (drop at text)
    → len ≡ length (spelled n closer) → IsNext Offered text at n (at + len)
next_begins Offered text at n closer len le offered (rest, e) len_is = record {
  closer = closer;
  offered = offered;
  within = (
      let long : length (drop at text) ≡ length (spelled n closer) + length rest =
      ap length e ∙ length-append (spelled n closer) rest in
      omega (arith, long, length-drop at text, len_is, le)
      );
  end_is = ap (λ k. at + k) len_is;
  splits = e ∙ ap (λ l. spelled n closer ++ l) (sym (behind text at n closer rest le e))
      ∙ ap (λ k. spelled n closer ++ drop (at + k) text) (sym len_is);
}

pub next_said : (Offered : ℕ → ℕ → Type 0) (text : List ℕ) (at n len : ℕ) → at ≤ length text
    → IsSaid Offered (drop at text) n len → IsNext Offered text at n (at + len)
next_said Offered text at n len le said =
    next_begins Offered text at n said.closer len le said.offered said.begins said.len_is

-- one that is just there, where it is offered
pub next_just : (Offered : ℕ → ℕ → Type 0) (text : List ℕ) (at n closer end : ℕ)
    → IsNext (IsJust n closer) text at n end → Offered n closer → IsNext Offered text at n end
next_just Offered text at n closer end next offered = record {
  closer = next.closer;
  offered = subst (Offered n) (sym next.offered.1) offered;
  within = next.within;
  end_is = next.end_is;
  splits = next.splits;
}

-- ---- the numbers in order
pub no_scale : IsScale []
no_scale = record { each = λ k lt. absurd (omega (arith, lt)) }

pub scale_more : (scale new : List ℕ) (n : ℕ) → IsScale scale → length scale ≡ n
    → new ≡ scale ++ n ∷ [] → (length new ≡ n + 1) × IsScale new
scale_more scale new n is count grown = (
  ap length grown ∙ length-append scale (n ∷ []) ∙ ap (λ k. k + 1) count,
  record {
    each = λ k lt. elim (cases_eq k n) [
      | inl e ↦ ap (λ l. slice_index l k) grown
          ∙ get_or_push scale n 0 k (count ∙ sym e) ∙ sym e
      | inr ne ↦ (let inside : k < length scale =
          omega (arith, lt, ne, ap length grown, length-append scale (n ∷ []), count) in
          ap (λ l. slice_index l k) grown ∙ get_or_append_left scale (n ∷ []) 0 k inside
          ∙ is.each k inside)
    ];
  },
)
