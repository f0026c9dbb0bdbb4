-- The colours of the values with which a frame begins.
use Rattle.std.proofs.Common.{◌≡◌, ℕ, zero, suc, Bool, true, false, cond, Option, Some, None, List}
use Rattle.std.proofs.Common.{[], ◌∷◌, ◌++◌, ◌-◌, length, map, Contains, refl, replicate, inl, inr}
use Rattle.std.specs.List.{slice_get, slice_index_or}
use Rattle.std.proofs.lemmas.List.Elements.{Contains-append_cases, Contains-append_left}
use Rattle.std.proofs.lemmas.List.Elements.{Contains-append_right}
use Rattle.sw_list.proofs.Members.{none_in}
use Rattle.sw_value.specs.declared.state.State.{State}
use Rattle.sw_value.specs.declared.value.Value.{Value}
use Rattle.sw_value.specs.Value.{registers}
use Rattle.sw_owner_facts.specs.Colours.{Colour}
use Rattle.sw_reach_facts.specs.Reached.{colours_of}
use Rattle.sw_view_facts.specs.Views.{Colours}
use Rattle.sw_secure_facts.specs.Painting.{passed}

module _ (state : State) (colours : Colours) where
  abbrev shows : Value → List Colour
  shows v = colours_of state.cells colours.cells v

  -- what isn't given away is passed
  passed_first : (sending : List Bool) (values : List Value) (rest : List (Option Value)) (k : ℕ)
      (v : Value) (d : Colour) → slice_get values k ≡ Some v → slice_get sending k ≡ Some false
      → Contains (shows v) d → Contains (passed state colours sending (map Some values ++ rest)) d
  passed_first sending [] rest k v d at keeps has = absurd (let clash : ⊥ = cc in clash)
  passed_first [] (w ∷ values) rest k v d at keeps has = absurd (let clash : ⊥ = cc in clash)
  passed_first (true ∷ sending) (w ∷ values) rest zero v d at keeps has =
      absurd (let clash : ⊥ = cc in clash)
  passed_first (false ∷ sending) (w ∷ values) rest zero v d at keeps has =
      Contains-append_left (shows w) (passed state colours sending (map Some values ++ rest)) d
      (let same : v ≡ w = cc in rw (← same) has)
  passed_first (sends ∷ sending) (w ∷ values) rest (suc k) v d at keeps has =
      Contains-append_right (cond sends [] (shows w))
      (passed state colours sending (map Some values ++ rest)) d
      (passed_first sending values rest k v d at keeps has)

  pub passed_in : (sending : List Bool) (count : ℕ) (values : List Value) (k : ℕ) (v : Value)
      (d : Colour) → slice_get values k ≡ Some v → slice_get sending k ≡ Some false
      → Contains (shows v) d → Contains (passed state colours sending (registers count values)) d
  unfolding registers
  passed_in sending count values k v d at keeps has =
      passed_first sending values (replicate (count - length values) None) k v d at keeps has

  -- what is passed is that of a value which isn't given away
  pub record FromValue (sending : List Bool) (values : List Value) (d : Colour) : Type 0 where
    pub index : ℕ
    pub value : Value
    pub at : slice_get values index ≡ Some value
    pub keeps : slice_index_or sending index false ≡ false
    pub has : Contains (shows value) d

  nothing : (sending : List Bool) (count : ℕ) (d : Colour)
      → Contains (passed state colours sending (replicate count None)) d → ⊥
  nothing sending zero d has = none_in d has
  nothing sending (suc count) d has = none_in d has

  later_value : (sends : Bool) (sending : List Bool) (w : Value) (values : List Value) (d : Colour)
      → FromValue sending values d → FromValue (sends ∷ sending) (w ∷ values) d
  later_value sends sending w values d from = record {
    index = suc from.index;
    value = from.value;
    at = from.at;
    keeps = from.keeps;
    has = from.has;
  }

  none_later : (w : Value) (values : List Value) (d : Colour)
      → FromValue [] values d → FromValue [] (w ∷ values) d
  none_later w values d from = record {
    index = suc from.index;
    value = from.value;
    at = from.at;
    keeps = refl;
    has = from.has;
  }

  passed_was : (sending : List Bool) (values : List Value) (count : ℕ) (d : Colour)
      → Contains (passed state colours sending (map Some values ++ replicate count None)) d
      → FromValue sending values d
  passed_was sending [] count d has = absurd (nothing sending count d has)
  passed_was [] (w ∷ values) count d has =
      elim (Contains-append_cases (shows w)
      (passed state colours [] (map Some values ++ replicate count None)) d has) [
        | inl here ↦ record { index = 0; value = w; at = refl; keeps = refl; has = here }
        | inr there ↦ none_later w values d (passed_was [] values count d there)
      ]
  passed_was (true ∷ sending) (w ∷ values) count d has =
      later_value true sending w values d (passed_was sending values count d has)
  passed_was (false ∷ sending) (w ∷ values) count d has =
      elim (Contains-append_cases (shows w)
      (passed state colours sending (map Some values ++ replicate count None)) d has) [
        | inl here ↦ record { index = 0; value = w; at = refl; keeps = refl; has = here }
        | inr there ↦ later_value false sending w values d (passed_was sending values count d there)
      ]

  pub of_passed : (sending : List Bool) (count : ℕ) (values : List Value) (d : Colour)
      → Contains (passed state colours sending (registers count values)) d
      → FromValue sending values d
  unfolding registers
  of_passed sending count values d has = passed_was sending values (count - length values) d has
