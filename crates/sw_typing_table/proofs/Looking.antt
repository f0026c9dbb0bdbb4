-- What is looked up by a key is what a row says of it.
use Rattle.std.proofs.Common.{◌≡◌, ◌==◌, ℕ, suc, zero, Bool, true, false, List, [], ◌∷◌, Option}
use Rattle.std.proofs.Common.{Some, None, Contains, ap, arith, inl, inr, is_some, refl, subst, sym}
use Rattle.std.proofs.Common.{◌∙◌, if◌then◌else◌, nat_eq}
use Rattle.indexmap.specs.IndexMap.{get}
use Rattle.std.proofs.lemmas.Bool.{eqb-true, false≢true}
use Rattle.std.proofs.lemmas.Grind.{common_steps}
use Rattle.std.proofs.lemmas.List.Elements.{Contains-append_cases}
use Rattle.std.proofs.lemmas.List.Elements.{Contains-append_left, Contains-append_right}
use Rattle.sw_list.proofs.Members.{none_in}
use Rattle.sw_tree.specs.declared.decl.Decl.{Decl}
use Rattle.sw_types.specs.declared.ty.Ty.{Ty}
use Rattle.sw_typing_rules.proofs.Saying.{is_said, said_is}
use Rattle.sw_typing_rules.specs.Programs.{HasMeaning, HasType, said}
use Rattle.sw_typing_rules.specs.Worlds.{World}
use Rattle.sw_typing_rules.specs.declared.row.Meaning.{Meaning}
use Rattle.sw_typing_rules.specs.declared.row.Row.{Row}
use Rattle.sw_typing_rules.specs.declared.row.Row.TheVariants.{Typed, Means, Ill}
use Rattle.sw_typing_table.specs.Typed.{IsTyped, meaning_in, type_in}
use Rattle.sw_typing_table.specs.declared.typed.Typed as answers

the_one : {X : Type 0} (x y : X) → Contains (x ∷ []) y → x ≡ y
the_one x y (zero, lt, is) = is
the_one x y (suc k, lt, is) = absurd (omega (arith, lt))

has_one : {X : Type 0} (x : X) → Contains (x ∷ []) x
has_one x = (0, (omega arith), refl)

itself : (at : ℕ) → (at == at) ≡ true
itself at = grind (arith, common_steps)

no_some : {X : Type 0} (x : X) → Some x ≡ None → ⊥
no_some x p = false≢true (sym (ap is_some p))

abbrev value_or : {X : Type 0} → X → Option X → X
value_or other None = other
value_or other (Some x) = x

-- an answer by a test is found where the test holds, or further on
module _ {X : Type 0} (row : ℕ → X → Row) where
  found_here : (here : Bool) (key at : ℕ) (x y : X) (rest : Option X) (rows : List Row)
      → (key == at) ≡ here → (if here then Some x else rest) ≡ Some y
      → (rest ≡ Some y → Contains rows (row at y)) → Contains (row key x ∷ rows) (row at y)
  found_here true key at x y rest rows e p more =
      Contains-append_left (row key x ∷ []) rows (row at y)
      (subst (λ r. Contains (row key x ∷ []) r)
      (ap (λ k. row k x) (eqb-true key at e) ∙ ap (row at) (ap (value_or x) p))
      (has_one (row key x)))
  found_here false key at x y rest rows e p more =
      Contains-append_right (row key x ∷ []) rows (row at y) (more p)

  -- where no answer is found none is given
  unless_here : (here : Bool) (x : X) (rest : Option X) → (if here then Some x else rest) ≡ None
      → rest ≡ None
  unless_here true x rest p = absurd (no_some x p)
  unless_here false x rest p = p

  not_here : (key at : ℕ) (x : X) (rest : Option X) → key ≡ at
      → (if key == at then Some x else rest) ≡ None → ⊥
  not_here key at x rest e p = no_some x
      (subst (λ b. (if b then Some x else rest) ≡ None) (ap (λ k. k == at) e ∙ itself at) p)

abbrev row_key : Row → ℕ
row_key (Typed at ty) = at
row_key (Means at meaning) = at
row_key (Ill at code unless) = at

abbrev is_type : Row → Bool
is_type (Typed at ty) = true
is_type (Means at meaning) = false
is_type (Ill at code unless) = false

abbrev is_meaning : Row → Bool
is_meaning (Typed at ty) = false
is_meaning (Means at meaning) = true
is_meaning (Ill at code unless) = false

type_found : (rows : List Row) (at : ℕ) (ty : Ty) → type_in rows at ≡ Some ty
    → Contains rows (Typed at ty)
type_found [] at ty p = absurd (no_some ty (sym p))
type_found (Typed key t ∷ rows) at ty p =
    found_here Typed (key == at) key at t ty (type_in rows at) rows refl p (type_found rows at ty)
type_found (Means key meaning ∷ rows) at ty p =
    Contains-append_right (Means key meaning ∷ []) rows (Typed at ty) (type_found rows at ty p)
type_found (Ill key code unless ∷ rows) at ty p =
    Contains-append_right (Ill key code unless ∷ []) rows (Typed at ty) (type_found rows at ty p)

no_type : (rows : List Row) (at : ℕ) (ty : Ty) → Contains rows (Typed at ty)
    → type_in rows at ≡ None → ⊥
no_type [] at ty has p = none_in (Typed at ty) has
no_type (Typed key t ∷ rows) at ty has p = elim (Contains-append_cases (Typed key t ∷ []) rows
    (Typed at ty) has) [
      | inl here ↦ not_here Typed key at t (type_in rows at)
          (ap row_key (the_one (Typed key t) (Typed at ty) here)) p
      | inr there ↦ no_type rows at ty there
          (unless_here Typed (key == at) t (type_in rows at) p)
    ]
no_type (Means key meaning ∷ rows) at ty has p = elim (Contains-append_cases
    (Means key meaning ∷ []) rows (Typed at ty) has) [
      | inl here ↦ false≢true (ap is_type (the_one (Means key meaning) (Typed at ty) here))
      | inr there ↦ no_type rows at ty there p
    ]
no_type (Ill key code unless ∷ rows) at ty has p =
    elim (Contains-append_cases (Ill key code unless ∷ []) rows
    (Typed at ty) has) [
      | inl here ↦ false≢true (ap is_type (the_one (Ill key code unless) (Typed at ty) here))
      | inr there ↦ no_type rows at ty there p
    ]

meaning_found : (rows : List Row) (at : ℕ) (meaning : Meaning) → meaning_in rows at ≡ Some meaning
    → Contains rows (Means at meaning)
meaning_found [] at meaning p = absurd (no_some meaning (sym p))
meaning_found (Typed key t ∷ rows) at meaning p = Contains-append_right (Typed key t ∷ []) rows
    (Means at meaning) (meaning_found rows at meaning p)
meaning_found (Means key m ∷ rows) at meaning p =
    found_here Means (key == at) key at m meaning (meaning_in rows at) rows refl p
    (meaning_found rows at meaning)
meaning_found (Ill key code unless ∷ rows) at meaning p =
    Contains-append_right (Ill key code unless ∷ []) rows
    (Means at meaning) (meaning_found rows at meaning p)

no_meaning : (rows : List Row) (at : ℕ) (meaning : Meaning) → Contains rows (Means at meaning)
    → meaning_in rows at ≡ None → ⊥
no_meaning [] at meaning has p = none_in (Means at meaning) has
no_meaning (Typed key t ∷ rows) at meaning has p = elim (Contains-append_cases
    (Typed key t ∷ []) rows (Means at meaning) has) [
      | inl here ↦ false≢true (ap is_meaning (the_one (Typed key t) (Means at meaning) here))
      | inr there ↦ no_meaning rows at meaning there p
    ]
no_meaning (Means key m ∷ rows) at meaning has p = elim (Contains-append_cases (Means key m ∷ [])
    rows (Means at meaning) has) [
      | inl here ↦ not_here Means key at m (meaning_in rows at)
          (ap row_key (the_one (Means key m) (Means at meaning) here)) p
      | inr there ↦ no_meaning rows at meaning there
          (unless_here Means (key == at) m (meaning_in rows at) p)
    ]
no_meaning (Ill key code unless ∷ rows) at meaning has p =
    elim (Contains-append_cases (Ill key code unless ∷ [])
    rows (Means at meaning) has) [
      | inl here ↦
          false≢true (ap is_meaning (the_one (Ill key code unless) (Means at meaning) here))
      | inr there ↦ no_meaning rows at meaning there p
    ]

module _ (world : World) (decls : List Decl) (typed : answers.Typed)
    (is : IsTyped world decls typed)
  where
    pub type_is : (at : ℕ) (ty : Ty) → get nat_eq typed.types at ≡ Some ty
        → HasType world decls at ty
    type_is at ty p = is_said world decls (Typed at ty)
        (type_found (said world decls) at ty (sym (is.types at) ∙ p))

    pub untyped : (at : ℕ) (ty : Ty) → get nat_eq typed.types at ≡ None
        → HasType world decls at ty → ⊥
    untyped at ty p has = no_type (said world decls) at ty (said_is world decls (Typed at ty) has)
        (sym (is.types at) ∙ p)

    pub meaning_is : (at : ℕ) (meaning : Meaning) → get nat_eq typed.meanings at ≡ Some meaning
        → HasMeaning world decls at meaning
    meaning_is at meaning p = is_said world decls (Means at meaning)
        (meaning_found (said world decls) at meaning (sym (is.meanings at) ∙ p))

    pub unmeant : (at : ℕ) (meaning : Meaning) → get nat_eq typed.meanings at ≡ None
        → HasMeaning world decls at meaning → ⊥
    unmeant at meaning p has = no_meaning (said world decls) at meaning
        (said_is world decls (Means at meaning) has) (sym (is.meanings at) ∙ p)
