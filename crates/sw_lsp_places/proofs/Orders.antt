-- The tokens of a text end one after the other, and each stands in it.
use Rattle.std.proofs.Common.{◌≤◌, ◌<◌, ◌+◌, ℕ, zero, suc, List, [], ◌∷◌, length, get_or, arith, false, inl, inr, subst, sym}
use Rattle.std.proofs.Common.{All}
use Rattle.std.proofs.lemmas.List.Elements.{All-nil}
use Rattle.std.proofs.lemmas.List.Sorted.{IsNonDecreasingBy-from_all_adjacent}
use Rattle.std.specs.List.Sorted.{IsNonDecreasingBy}
use Rattle.sw_token.specs.declared.Fixity.TheVariants.{None as NoFixity}
use Rattle.sw_token.specs.declared.Kind.TheVariants.{Underscore}
use Rattle.sw_token.specs.declared.TheConstants.{MOST_TOKENS}
use Rattle.sw_token.specs.declared.Token.{Token}
use Rattle.sw_token.specs.Tokens.{IsTokenIn, StandInOrder}
use Rattle.sw_token.proofs.TokenLaws.{IsTokens-each, IsTokens-most, IsTokens-order}
use Rattle.sw_lsp_places.specs.Ranges.{AreTokensIn}

-- a token that stands in no list
pub no_token : Token
no_token = record { kind = Underscore; span = record { start = 0; end = 0 }; fixity = NoFixity; first = false }

next_ends_later : (from : ℕ) (tokens : List Token) → StandInOrder from tokens
    → ((k : ℕ) (d : Token) → k < length tokens → (get_or tokens k d).span.start < (get_or tokens k d).span.end)
    → (k : ℕ) (d : Token) → k + 1 < length tokens
    → (get_or tokens k d).span.end ≤ (get_or tokens (suc k) d).span.end
next_ends_later from [] order some k d lt = absurd (omega (arith, lt))
next_ends_later from (t ∷ []) order some k d lt = absurd (omega (arith, lt))
next_ends_later from (t ∷ u ∷ ts) order some zero d lt =
    let later : u.span.start < u.span.end = some 1 d (omega (arith, lt)) in
    omega (arith, order.1.0, later)
next_ends_later from (t ∷ u ∷ ts) order some (suc k) d lt =
    next_ends_later t.span.end (u ∷ ts) order.1 (λ j e l. some (suc j) e (omega (arith, l))) k d
    (omega (arith, lt))

pub ends_rise : (text : List ℕ) (tokens : List Token) → AreTokensIn text tokens
    → IsNonDecreasingBy (λ token. token.span.end) tokens
ends_rise text tokens (inl is) =
    IsNonDecreasingBy-from_all_adjacent (λ token. token.span.end) tokens (λ k d lt.
    subst (λ j. (get_or tokens k d).span.end ≤ (get_or tokens j d).span.end) (omega arith)
    (next_ends_later 0 tokens (IsTokens-order text tokens is.1)
    (λ j e l. (IsTokens-each text tokens is.0 is.1 j e l).some) k d (omega (arith, lt))))
ends_rise text tokens (inr none) = subst (IsNonDecreasingBy (λ token. token.span.end)) (sym none.0)
    (λ i j d le lt. absurd (omega (arith, lt)))

pub each_in : (text : List ℕ) (tokens : List Token) → AreTokensIn text tokens → All (IsTokenIn text) tokens
each_in text tokens (inl is) = IsTokens-each text tokens is.0 is.1
each_in text tokens (inr none) = subst (All (IsTokenIn text)) (sym none.0) (All-nil (IsTokenIn text))

pub are_few : (text : List ℕ) (tokens : List Token) → AreTokensIn text tokens → length tokens ≤ MOST_TOKENS
are_few text tokens (inl is) = IsTokens-most text tokens is.1
are_few text tokens (inr none) = rw none.0 (omega arith)
