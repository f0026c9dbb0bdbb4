-- What is taken at the beginning of a body is bound there.
use Rattle.std.proofs.Common.{◌≡◌, ℕ, Bool, true, false, List, [], ◌∷◌, map, Contains, ap, sym, ◌∙◌}
use Rattle.std.proofs.Common.{subst}
use Rattle.std.proofs.lemmas.List.Elements.{All-cons, All-contains, All-head, All-nil, All-tail}
use Rattle.std.specs.Prelude.{All, Some}
use Rattle.sw_types.specs.declared.ty.Ty.{Ty}
use Rattle.sw_isolation_rules.specs.Captures.{is_among}
use Rattle.sw_lower_plans.specs.declared.bound.Bound.{Bound}
use Rattle.sw_lower_code.specs.declared.taken.Taken.{Taken}
use Rattle.sw_lower_rules.specs.Tables.{Tables}
use Rattle.sw_lower_total_facts.specs.Bound.{InBox, InBoxes, VariableIsBound}
use Rattle.sw_lower_total_facts.proofs.Bodies.Taking.{AreTaken, IsFound, taken_found}

-- what a variable has to be where something is taken as it, in a box or not
pub record Fits (tables : Tables) (listed : List ℕ) (key : ℕ) (boxed : Bool) : Type 0 where
  pub typed : boxed ≡ true → (ty : Ty) × (tables.answers.type_at key ≡ Some ty)
  pub in_box : tables.isolation.is_boxed key ≡ true → is_among listed key ≡ false → boxed ≡ true

module _ (tables : Tables) (listed : List ℕ) where
  abbrev pub TakenFits : Taken → Type 0
  TakenFits one = Fits tables listed one.key one.boxed

  -- What is taken is bound.
  pub taken_is_bound : (takes : List Taken) (vars : List Bound) → AreTaken takes vars
      → All TakenFits takes → (key : ℕ) → Contains (map (λ (one : Taken). one.key) takes) key
      → VariableIsBound tables listed vars key
  taken_is_bound takes vars are all key has = record {
    bound = is.bound;
    found = is.found;
    typed = λ boxed. fits.typed (sym is.boxed ∙ boxed);
    in_box = λ needs unlisted. is.boxed ∙ fits.in_box needs unlisted;
  } where
    is : IsFound takes vars key
    is = taken_found takes vars key are has

    fits : Fits tables listed key is.one.boxed
    fits = subst (λ key. Fits tables listed key is.one.boxed) is.same
        (All-contains TakenFits takes is.one all is.among)

  -- And all that is bound is in boxes that are to be.
  pub taken_in_boxes : (takes : List Taken) (vars : List Bound) → AreTaken takes vars
      → All TakenFits takes → InBoxes tables listed vars
  taken_in_boxes [] [] are all = All-nil (InBox tables listed)
  taken_in_boxes [] (bound ∷ vars) are all = absurd are
  taken_in_boxes (one ∷ takes) [] are all = absurd are
  taken_in_boxes (one ∷ takes) (bound ∷ vars) are all =
      All-cons (InBox tables listed) bound vars
      (λ needs unlisted.
      are.1 ∙ (All-head TakenFits one takes all).in_box
      (ap tables.isolation.is_boxed (sym are.0) ∙ needs)
      (ap (is_among listed) (sym are.0) ∙ unlisted))
      (taken_in_boxes takes vars are.2 (All-tail TakenFits one takes all))
