-- The word of a text with `?`.
use Rattle.std.proofs.Common.{◌≡◌, ◌≢◌, ℕ, ◌-◌, List, [], ◌∷◌, ◌++◌, length, take, refl, sym, ◌∙◌, ap}
use Rattle.std.proofs.Common.{arith, subst, Bor}
use Rattle.std.proofs.Math.Seq.{take-append_seam}
use Rattle.std.proofs.lemmas.List.{length-append}
use Rattle.std.specs.Prelude.{Option, Some, None, IsSome, MatchOption}
use Rattle.sw_grammar.specs.Tokens.{optional_text}
use Rattle.sw_parse_body.specs.Wanted.{word_of}

-- what is left of a text without the `?` at its end, or that it has none
abbrev pub Stripped : List ℕ → Option (Bor (List ℕ)) → Type 0
Stripped text r =
    MatchOption r ((front : List ℕ) → text ≢ front ++ (63 ∷ [])) (λ x. text ≡ x.now ++ (63 ∷ []))

pub has_word : (text : List ℕ) (r : Option (Bor (List ℕ))) → Stripped text r
    → (word : List ℕ) × (text ≡ optional_text word) → IsSome r
has_word text None none is = absurd (none is.0 is.1)
has_word text (Some x) some is = refl

without_mark : (front : List ℕ) → take (length (front ++ (63 ∷ [])) - 1) (front ++ (63 ∷ [])) ≡ front
without_mark front =
    let count : length (front ++ (63 ∷ [])) - 1 ≡ length front =
    omega (arith, length-append front (63 ∷ [])) in
    ap (λ n. take n (front ++ (63 ∷ []))) count ∙ take-append_seam front (63 ∷ [])

pub word_is : (text : List ℕ) (r : Option (Bor (List ℕ))) → Stripped text r
    → (x : Bor (List ℕ)) → r ≡ Some x → x.now ≡ word_of text
word_is text r stripped x is =
    let same : text ≡ x.now ++ (63 ∷ []) = subst (Stripped text) is stripped in
    sym (ap word_of same ∙ without_mark x.now)
