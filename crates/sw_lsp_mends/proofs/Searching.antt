-- Searches through the tokens of a text.
use Rattle.std.proofs.Common.{◌≡◌, ◌≤◌, ◌<◌, ◌+◌, ◌-◌, ℕ, zero, suc, ◌⊎◌, inl, inr, Bool, true, false, List, [], ◌∷◌, ◌++◌}
use Rattle.std.proofs.Common.{length, take, drop, codes, Option, None, option_map, option_to_list, refl, sym, ap, ◌∙◌}
use Rattle.std.proofs.Common.{add-one, arith, append_assoc, slice_get, bytes_eq}
use Rattle.std.proofs.Math.Seq.{take-append_seam}
use Rattle.std.proofs.lemmas.Bool.{false≢true}
use Rattle.std.proofs.lemmas.List.{append-nil}
use Rattle.std.proofs.lemmas.Option.{slice_get_past}
use Rattle.std.specs.List.{prefix_len}
use Rattle.std.specs.Option.{option_map_or}
use Rattle.sw_token.specs.declared.Token.{Token}
use Rattle.sw_lsp_places.specs.Ranges.{Tokenized, spelled}
use Rattle.sw_lsp_mends.specs.Sites.{before_arrow, behind_arrow, is_at, no_arrow, sites_below, start_at}

-- ---- sites by tokens, from the last

module _ (by : ℕ → Option ℕ) where
  below_step : (n : ℕ) → 0 < n
      → sites_below by n ≡ option_to_list (by (n - 1)) ++ sites_below by (n - 1)
  below_step zero some = absurd (omega (arith, some))
  below_step (suc n) some = let one : suc n - 1 ≡ n = omega arith in rw one refl

  pub none_below : (n : ℕ) → n ≤ 0 → sites_below by n ≡ []
  none_below zero le = refl
  none_below (suc n) le = absurd (omega (arith, le))

  -- one more token was tried
  pub tried_more : (all found : List ℕ) (n : ℕ) → 0 < n → all ≡ found ++ sites_below by n
      → (o : Option ℕ) → o ≡ by (n - 1)
      → all ≡ (found ++ option_to_list o) ++ sites_below by (n - 1)
  tried_more all found n some is o e =
      is ∙ ap (λ xs. found ++ xs) (below_step n some)
      ∙ ap (λ p. found ++ (option_to_list p ++ sites_below by (n - 1))) (sym e)
      ∙ sym (append_assoc found (option_to_list o) (sites_below by (n - 1)))

-- a list that is full, or that has all
pub has_enough : (all found rest : List ℕ) → all ≡ found ++ rest → length found ≤ 32
    → (rest ≡ []) ⊎ (length found ≡ 32) → found ≡ take 32 all
has_enough all found rest is few (inl none) =
    let whole : all ≡ found = is ∙ ap (λ xs. found ++ xs) none ∙ append-nil found in
    rw whole (all_of found 32 few) where
      all_of : (xs : List ℕ) (n : ℕ) → length xs ≤ n → xs ≡ take n xs
      all_of [] zero le = refl
      all_of [] (suc n) le = refl
      all_of (x ∷ xs) zero le = absurd (omega (arith, le))
      all_of (x ∷ xs) (suc n) le = ap (λ ys. x ∷ ys) (all_of xs n (omega (arith, le)))
has_enough all found rest is few (inr full) =
    sym (take-append_seam found rest) ∙ rw (full, is) refl

-- ---- the first `->` from a token on

module _ (t : Tokenized) where
  abbrev is_arrow : Option Token → Bool
  is_arrow o = option_map_or (λ found. bytes_eq found (codes "->")) (option_map (spelled t.text) o) false

  here : (ts : List Token) (n : ℕ) → is_arrow (slice_get ts n) ≡ true
      → prefix_len (no_arrow t) (drop n ts) ≡ 0
  here [] n e = absurd (false≢true e)
  here (x ∷ ts) zero e = rw e refl
  here (x ∷ ts) (suc n) e = here ts n e

  later : (ts : List Token) (n : ℕ) → is_arrow (slice_get ts n) ≡ false → n < length ts
      → prefix_len (no_arrow t) (drop n ts) ≡ 1 + prefix_len (no_arrow t) (drop (suc n) ts)
  later [] n e lt = absurd (omega (arith, lt))
  later (x ∷ ts) zero e lt = rw e refl
  later (x ∷ ts) (suc n) e lt = later ts n e (omega (arith, lt))

  pub arrow_here : (n : ℕ) → is_at t n (codes "->") ≡ true → start_at t (n + 1) ≡ behind_arrow t n
  arrow_here n e =
      let none : before_arrow t n ≡ 0 = here t.tokens n e in
      ap (start_at t) (omega (arith, none))

  pub arrow_later : (n : ℕ) → is_at t n (codes "->") ≡ false → n < length t.tokens
      → behind_arrow t n ≡ behind_arrow t (n + 1)
  arrow_later n e lt =
      let one : before_arrow t n ≡ 1 + before_arrow t (n + 1) = rw add-one (later t.tokens n e lt) in
      ap (start_at t) (omega (arith, one))

  pub no_arrow_left : (n : ℕ) → length t.tokens ≤ n → None ≡ behind_arrow t n
  no_arrow_left n le =
      let past : slice_get t.tokens (n + before_arrow t n + 1) ≡ None =
      slice_get_past t.tokens (n + before_arrow t n + 1) (omega arith) in
      rw past refl
