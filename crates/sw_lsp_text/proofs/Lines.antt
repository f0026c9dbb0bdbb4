-- The lines of a header, one after the other.
use Rattle.std.proofs.Common.{◌≡◌, ℕ, ◌+◌, ◌-◌, ◌<◌, ◌==◌, Bool, true, false, List, ◌∷◌, ◌++◌, length, get_or}
use Rattle.std.proofs.Common.{take, drop, Option, Some, None, refl, sym, ap, ◌∙◌, arith, get_or-take, length-drop, length-take}
use Rattle.std.proofs.Math.Seq.{take-length}
use Rattle.std.specs.List.{All}
use Rattle.std.specs.Option.{option_or}
use Rattle.std.proofs.lemmas.List.{drop_more, take-append-drop}
use Rattle.std.proofs.lemmas.List.Elements.{All-from_get_or}
use Rattle.std.proofs.lemmas.List.Splits.{slice_split_at, slice_split_none}
use Rattle.memchr.specs.Find.{IsFirstByte, is_byte}
use Rattle.sw_lsp_text.specs.Header.{value_of, value_in, first_value}

not_true : (b : Bool) → (b ≡ true → ⊥) → b ≡ false
not_true true no_way = absurd (no_way refl)
not_true false no_way = refl

module _ (rest : List ℕ) where
  whole_line : IsFirstByte (is_byte 10) rest None → All (λ x. (x == 10) ≡ false) rest
  whole_line nowhere =
      All-from_get_or (λ x. (x == 10) ≡ false) rest 0
      (λ i less. not_true (get_or rest i 0 == 10) (nowhere i (omega arith) less))

  or_none : (o : Option (List ℕ)) → option_or o None ≡ o
  or_none None = refl
  or_none (Some value) = refl

  -- there is one line
  pub last_line : IsFirstByte (is_byte 10) rest None → value_in rest ≡ value_of rest
  last_line nowhere =
      ap first_value (slice_split_none (λ x. x == 10) rest (whole_line nowhere)) ∙ or_none (value_of rest)

  module _ (end : ℕ) (found : IsFirstByte (is_byte 10) rest (Some end)) where
    this_line : All (λ x. (x == 10) ≡ false) (take end rest)
    this_line =
        All-from_get_or (λ x. (x == 10) ≡ false) (take end rest) 0
        (λ i less.
        let before : i < end = omega (arith, length-take end rest) in
        let same : get_or (take end rest) i 0 ≡ get_or rest i 0 = rw get_or-take in
        rw same (not_true (get_or rest i 0 == 10) (found.0.before i (omega arith) before))
        )

    parted : rest ≡ take end rest ++ (get_or rest end 0 ∷ drop (end + 1) rest)
    parted =
        sym (take-append-drop end rest) ∙ ap (λ xs. take end rest ++ xs) (drop_more rest end 0 found.0.high)

    -- a line ends there, and more lines stand behind it
    pub first_line : value_in rest ≡ option_or (value_of (take end rest)) (value_in (drop (end + 1) rest))
    first_line =
        ap value_in parted
        ∙ ap first_value
        (slice_split_at (λ x. x == 10) (take end rest) (get_or rest end 0) (drop (end + 1) rest) this_line found.1)

    pub value_here : (whole : Option (List ℕ)) (value : List ℕ) → Some value ≡ value_of (take end rest)
        → value_in rest ≡ whole → Some value ≡ whole
    value_here whole value is before =
        ap (λ o. option_or o (value_in (drop (end + 1) rest))) is ∙ sym first_line ∙ before

    pub value_later : (whole : Option (List ℕ)) → None ≡ value_of (take end rest)
        → value_in rest ≡ whole → value_in (drop (end + 1) rest) ≡ whole
    value_later whole none before =
        ap (λ o. option_or o (value_in (drop (end + 1) rest))) none ∙ sym first_line ∙ before

pub rest_of : (xs : List ℕ) (n : ℕ) → take (length xs - n) (drop n xs) ≡ drop n xs
rest_of xs n = rw (← length-drop n xs) (take-length (drop n xs))
