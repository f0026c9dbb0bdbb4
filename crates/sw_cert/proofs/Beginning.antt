-- The numbers of a line that is being read, one after the other.
use Rattle.std.proofs.Common.{◌≡◌, ℕ, ◌+◌, ◌<◌, ◌⊎◌, inl, inr, ◌↔◌, List, [], ◌∷◌, ◌++◌}
use Rattle.std.proofs.Common.{length, take, drop, Contains, refl, sym, subst, ap, ◌∙◌, arith}
use Rattle.std.proofs.Common.{length-append, append_assoc}
use Rattle.std.proofs.lemmas.Grind.{flat_map-append}
use Rattle.std.proofs.lemmas.List.{append-nil, length-drop}
use Rattle.sw_dictation.proofs.Reading.{line_split, bad_here}
use Rattle.sw_dictation.specs.Lines.{line_text, begun_line, MayFollow, IsBadPlace}
use Rattle.sw_dictation.specs.Numbers.{spelled, IsOffered, IsNone}
use Rattle.sw_cert.proofs.Texts.{form_is_readable}
use Rattle.sw_cert.specs.Begun.{IsBegun, IsNext, IsStuck}
use Rattle.sw_cert.specs.Form.{certificate_form}
use Rattle.sw_cert.specs.Slips.{IfBad}
use Rattle.sw_cert.specs.declared.line.Extent.{Extent}
use Rattle.sw_cert.specs.declared.line.Spot.{Spot}
use Rattle.sw_cert.specs.declared.slip.Slip.{Slip}
use Rattle.sw_cert.specs.declared.slip.Slip.TheVariants.{Bad, Memory}

pub none_dropped : (xs : List ℕ) → xs ≡ drop 0 xs
none_dropped [] = refl
none_dropped (x ∷ xs) = refl

-- ---- numbers behind numbers
begun_push : (so_far : List ℕ) (n : ℕ)
    → begun_line (so_far ++ n ∷ []) ≡ begun_line so_far ++ spelled n 32
begun_push so_far n = flat_map-append (λ (m : ℕ). spelled m 32) so_far (n ∷ [])
    ∙ ap (λ l. begun_line so_far ++ l) (append-nil (spelled n 32))

last_push : (so_far : List ℕ) (n : ℕ)
    → line_text (so_far ++ n ∷ []) ≡ begun_line so_far ++ spelled n 10
last_push so_far n = line_split so_far (n ∷ []) (λ none. cc)
    ∙ ap (λ l. begun_line so_far ++ l) (append-nil (spelled n 10))

pub none_begun : (text : List ℕ) → IsBegun text [] 0
none_begun text = record { within = omega arith; at_is = refl; begins = none_dropped text }

module _ (Offered : ℕ → ℕ → Type 0) (text so_far : List ℕ) (at n end : ℕ)
    (begun : IsBegun text so_far at) (next : IsNext Offered text at n end) where
  -- how far a text goes behind the next number
  place_behind : (new : List ℕ) → new ≡ begun_line so_far ++ spelled n next.closer
      → end ≡ length new
  place_behind new is = next.end_is
      ∙ ap (λ k. k + length (spelled n next.closer)) begun.at_is
      ∙ sym (length-append (begun_line so_far) (spelled n next.closer)) ∙ ap length (sym is)

  text_behind : (new : List ℕ) → new ≡ begun_line so_far ++ spelled n next.closer
      → text ≡ new ++ drop end text
  text_behind new is = begun.begins ∙ ap (λ l. begun_line so_far ++ l) next.splits
      ∙ sym (append_assoc (begun_line so_far) (spelled n next.closer) (drop end text))
      ∙ ap (λ l. l ++ drop end text) (sym is)

  -- the line goes on
  pub begun_more : next.closer ≡ 32 → IsBegun text (so_far ++ n ∷ []) end
  begun_more blank = record {
    within = next.within;
    at_is = place_behind (begun_line (so_far ++ n ∷ [])) is;
    begins = text_behind (begun_line (so_far ++ n ∷ [])) is;
  }
    where
      is : begun_line (so_far ++ n ∷ []) ≡ begun_line so_far ++ spelled n next.closer
      is = begun_push so_far n ∙ ap (λ c. begun_line so_far ++ spelled n c) (sym blank)

  -- the line ends
  pub line_ends : next.closer ≡ 10
      → (text ≡ line_text (so_far ++ n ∷ []) ++ drop end text)
      × (end ≡ length (line_text (so_far ++ n ∷ [])))
  line_ends feed = (
    text_behind (line_text (so_far ++ n ∷ [])) is,
    place_behind (line_text (so_far ++ n ∷ [])) is,
  )
    where
      is : line_text (so_far ++ n ∷ []) ≡ begun_line so_far ++ spelled n next.closer
      is = last_push so_far n ∙ ap (λ c. begun_line so_far ++ spelled n c) (sym feed)

-- ---- what is offered
pub bad_weaker : (P Q : ℕ → Type 0) (slip : Slip) → ((at : ℕ) → P at → Q at) → IfBad P slip
    → IfBad Q slip
bad_weaker P Q (Bad at) weaker bad = weaker at bad
bad_weaker P Q Memory weaker bad = tt

none_same : (P Q : ℕ → ℕ → Type 0) (bytes : List ℕ) (at : ℕ) → ((n c : ℕ) → P n c ↔ Q n c)
    → IsNone P bytes at → IsNone Q bytes at
none_same P Q bytes at same none = record {
  within = none.within;
  none = λ n c offered. none.none n c ((same n c).1 offered);
  some = of_one none.some;
  longest = λ n c offered. none.longest n c ((same n c).1 offered);
}
  where
    of_one : (at ≡ 0) ⊎ ((n closer : ℕ) × P n closer
        × ((more : List ℕ) × (spelled n closer ≡ take at bytes ++ more)))
        → (at ≡ 0) ⊎ ((n closer : ℕ) × Q n closer
        × ((more : List ℕ) × (spelled n closer ≡ take at bytes ++ more)))
    of_one (inl start) = inl start
    of_one (inr (n, c, is, more)) = inr (n, c, (same n c).0 is, more)

pub stuck_same : (P Q : ℕ → ℕ → Type 0) (text : List ℕ) (at place : ℕ)
    → ((n c : ℕ) → P n c ↔ Q n c) → IsStuck P text at place → IsStuck Q text at place
stuck_same P Q text at place same stuck = record {
  over = stuck.over;
  place_is = stuck.place_is;
  none = none_same P Q (drop at text) stuck.over same stuck.none;
}

pub next_same : (P Q : ℕ → ℕ → Type 0) (text : List ℕ) (at n end : ℕ)
    → ((n c : ℕ) → P n c → Q n c) → IsNext P text at n end → IsNext Q text at n end
next_same P Q text at n end same next = record {
  closer = next.closer;
  offered = same n next.closer next.offered;
  within = next.within;
  end_is = next.end_is;
  splits = next.splits;
}

-- numbers that a blank closes
pub going_offered : (going : List ℕ) (P : ℕ → Type 0) → ((n : ℕ) → Contains going n ↔ P n)
    → (n c : ℕ) → IsOffered [] going n c ↔ ((c ≡ 32) × P n)
going_offered going P same n c = (forth, λ (blank, is). inr (blank, (same n).1 is))
  where
    forth : IsOffered [] going n c → (c ≡ 32) × P n
    forth (inl (feed, (k, within, at))) = absurd (omega (arith, within))
    forth (inr (blank, has)) = (blank, (same n).0 has)

-- numbers that a line feed closes
pub ending_offered : (ending : List ℕ) (P : ℕ → Type 0) → ((n : ℕ) → Contains ending n ↔ P n)
    → (n c : ℕ) → IsOffered ending [] n c ↔ ((c ≡ 10) × P n)
ending_offered ending P same n c = (forth, λ (feed, is). inl (feed, (same n).1 is))
  where
    forth : IsOffered ending [] n c → (c ≡ 10) × P n
    forth (inl (feed, has)) = (feed, (same n).0 has)
    forth (inr (blank, (k, within, at))) = absurd (omega (arith, within))

-- ---- a place at which no number that may follow stands
module _ (extents : List Extent) (spot : Spot) (text so_far : List ℕ) (at : ℕ)
    (begun : IsBegun text so_far at) where
  pub stuck_is_bad : (place : ℕ)
      → (so_far ≡ [])
      ⊎ ((n closer : ℕ) × MayFollow (certificate_form extents) spot so_far n closer)
      → (so_far ≡ [] → at < length text)
      → IsStuck (MayFollow (certificate_form extents) spot so_far) text at place
      → IsBadPlace (certificate_form extents) spot text place
  stuck_is_bad place viable some stuck =
      let bad = bad_here (certificate_form extents) (form_is_readable extents) spot so_far
      (drop at text) stuck.over stuck.none viable
      (λ empty none. omega (arith, ap length empty, length-drop at text, some none)) in
      subst (λ t. IsBadPlace (certificate_form extents) spot t place) (sym begun.begins)
      (subst (λ p. IsBadPlace (certificate_form extents) spot (begun_line so_far ++ drop at text) p)
      (sym (stuck.place_is ∙ ap (λ k. k + stuck.over) begun.at_is)) bad)
