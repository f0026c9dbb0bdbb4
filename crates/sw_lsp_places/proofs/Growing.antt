-- The places of a text, one position after the other.
use Rattle.std.proofs.Common.{◌≡◌, ◌<◌, ◌+◌, ℕ, List, [], ◌∷◌, ◌++◌, length, get_or, min, arith, ap, ◌∙◌}
use Rattle.std.proofs.Common.{below_more, count_by, sum, map}
use Rattle.std.specs.List.{after_last}
use Rattle.std.proofs.lemmas.List.{get_or_append_left, get_or_push, length_push, take_min}
use Rattle.sw_lsp_text.specs.declared.place.Place.{Place}
use Rattle.sw_text.specs.Text.{is_line_feed}
use Rattle.sw_lsp_places.specs.Places.{ArePlaces, origin, line_in, character_in, place_in, units}

module _ (text : List ℕ) (places : List Place) (n line character : ℕ) (all : length places ≡ n)
    (each : (at : ℕ) → at < n → get_or places at origin ≡ place_in text at)
    (line_is : line ≡ line_in text n) (character_is : character ≡ character_in text n) where
  abbrev here : Place
  here = record { line = line; character = character }

  here_is : here ≡ place_in text n
  here_is = cc

  -- one more place
  pub each_more : (at : ℕ) → at < n + 1 → get_or (places ++ here ∷ []) at origin ≡ place_in text at
  each_more =
      below_more (λ at. get_or (places ++ here ∷ []) at origin ≡ place_in text at) n
      (λ at low. get_or_append_left places (here ∷ []) origin at (omega arith) ∙ each at low)
      (get_or_push places here origin n all ∙ here_is)

  -- the last place
  pub are_places : n ≡ length text → ArePlaces text (places ++ here ∷ [])
  are_places end = record {
    all = length_push places here ∙ omega arith;
    each = λ at within. each_more at (omega arith);
  }

-- the place behind these bytes
place_behind : List ℕ → Place
place_behind before = record {
  line = count_by is_line_feed before;
  character = sum (map units (after_last is_line_feed before));
}

-- a position after the end has the place of the end
pub place_within : (text : List ℕ) (at : ℕ) → place_in text (min at (length text)) ≡ place_in text at
unfolding place_behind
place_within text at = ap place_behind (take_min at text)
