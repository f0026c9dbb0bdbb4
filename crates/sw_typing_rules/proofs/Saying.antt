-- What the function over trees says of a program is what the relation says, and its ill nodes have
-- a first, and one.
use Rattle.std.proofs.Common.{◌≡◌, ℕ, suc, zero, Bool, true, false, List, [], ◌∷◌, Option}
use Rattle.std.proofs.Common.{None, Some, Contains, flat_map, refl, sym, subst, ap}
use Rattle.std.proofs.Common.{arith, inl, inr}
use Rattle.std.proofs.lemmas.Grind.{common_steps}
use Rattle.std.proofs.lemmas.List.Elements.{Contains-append_cases}
use Rattle.std.proofs.lemmas.List.Elements.{Contains-append_left, Contains-append_right}
use Rattle.std.specs.Ordering.{is_lt}
use Rattle.sw_list.proofs.Members.{none_in, one_in, in_one, in_flat_map, of_flat_map}
use Rattle.sw_tree.specs.declared.decl.Decl.{Decl}
use Rattle.sw_types.specs.Accepts.{is_marked}
use Rattle.sw_decl_words.specs.Placed.{placed_cmp}
use Rattle.sw_decl_words.specs.declared.placed.Placed.{Placed}
use Rattle.sw_typing_rules.specs.Programs.{Says, of_body, of_value, IsIll, IsFirstIll}
use Rattle.sw_typing_rules.specs.Programs.{said, said_of_body, said_of_value, bodies_from}
use Rattle.sw_typing_rules.specs.Programs.{values_from}
use Rattle.sw_typing_rules.specs.Programs.{body_noted, value_noted, body_state, value_setting}
use Rattle.sw_typing_rules.specs.Statements.{in_body}
use Rattle.sw_typing_rules.specs.Verdicts.{ill_in, ills_in}
use Rattle.sw_typing_rules.specs.Worlds.{World}
use Rattle.sw_typing_rules.specs.declared.row.Row.{Row}
use Rattle.sw_typing_rules.specs.declared.row.Row.TheVariants.{Typed, Means, Ill}
use Rattle.sw_typing_rules.proofs.Sound.{judges, leaves_block}
use Rattle.sw_typing_rules.proofs.Unique.{judge_is, leave_block_is}

module _ (world : World) (decls : List Decl) where
  pub said_is : (row : Row) → Says world decls row → Contains (said world decls) row
  said_is row (of_body body left _ is leaves has) =
      Contains-append_left (flat_map (said_of_body world) (bodies_from world 0 decls))
      (flat_map (said_of_value world) (values_from world 0 decls)) row
      (in_flat_map (said_of_body world) (bodies_from world 0 decls) body row is
      (subst (λ l. Contains (body_noted world body l) row)
      (sym (leave_block_is world (in_body body.owner body.init) (body_state world body) body.block
      left leaves)) has))
  said_is row (of_value value judged _ is judges has) =
      Contains-append_right (flat_map (said_of_body world) (bodies_from world 0 decls))
      (flat_map (said_of_value world) (values_from world 0 decls)) row
      (in_flat_map (said_of_value world) (values_from world 0 decls) value row is
      (subst (λ j. Contains (value_noted value j) row)
      (sym (judge_is world (value_setting value) (is_marked value.wanted) value.value judged
      judges)) has))

  pub is_said : (row : Row) → Contains (said world decls) row → Says world decls row
  is_said row has = elim (Contains-append_cases
      (flat_map (said_of_body world) (bodies_from world 0 decls))
      (flat_map (said_of_value world) (values_from world 0 decls)) row has) [
        | inl here ↦
            let found = of_flat_map (said_of_body world) (bodies_from world 0 decls) row here in
            of_body found.0 _ row found.1 (leaves_block world (in_body found.0.owner found.0.init)
            (body_state world found.0) found.0.block) found.2
        | inr there ↦
            let found = of_flat_map (said_of_value world) (values_from world 0 decls) row there in
            of_value found.0 _ row found.1
            (judges world (value_setting found.0) (is_marked found.0.wanted) found.0.value) found.2
      ]

  -- an ill row of the list, and an ill node
  of_ill : (row : Row) (one : Placed) → Contains (ill_in row) one
      → (unless : Option ℕ) × (row ≡ Ill one.at one.code unless)
  of_ill (Typed at ty) one has = absurd (none_in one has)
  of_ill (Means at meaning) one has = absurd (none_in one has)
  of_ill (Ill at code unless) one has = (
    unless,
    ap (λ (p : Placed). Ill p.at p.code unless)
        (one_in (record { at = at; code = code }) one has),
  )

  pub ill_is : (one : Placed) → Contains (ills_in (said world decls)) one
      → IsIll world decls one.at one.code
  ill_is one has =
      let found = of_flat_map ill_in (said world decls) one has in
      let ill = of_ill found.0 one found.2 in
      (ill.0, subst (Says world decls) ill.1 (is_said found.0 found.1))

  pub is_ill : (at code : ℕ) → IsIll world decls at code
      → Contains (ills_in (said world decls)) (record { at = at; code = code })
  is_ill at code is =
      in_flat_map ill_in (said world decls) (Ill at code is.0) (record { at = at; code = code })
      (said_is (Ill at code is.0) is.1) (in_one (record { at = at; code = code }))

itself : (one : Placed) → is_lt (placed_cmp one one) ≡ false
itself one = grind (arith, common_steps)

not_both : (one other : Placed) → is_lt (placed_cmp one other) ≡ true
    → is_lt (placed_cmp other one) ≡ false
not_both one other before = grind (arith, common_steps)

later : (a b c : Placed) → is_lt (placed_cmp b a) ≡ false → is_lt (placed_cmp c b) ≡ false
    → is_lt (placed_cmp c a) ≡ false
later a b c first second = grind (arith, common_steps)

abbrev NoneBefore : Placed → List Placed → Type 0
NoneBefore one found = (other : Placed) → Contains found other
    → is_lt (placed_cmp other one) ≡ false

-- the first of a list that has one
abbrev HasFirst : List Placed → Type 0
HasFirst found = (one : Placed) × Contains found one × NoneBefore one found

by_order : (one : Placed) (found : List Placed) (first : HasFirst found) (before : Bool)
    → is_lt (placed_cmp first.0 one) ≡ before → HasFirst (one ∷ found)
by_order one found first true is = (
  first.0,
  Contains-append_right (one ∷ []) found first.0 first.1,
  λ other has. elim (Contains-append_cases (one ∷ []) found other has) [
    | inl here ↦ subst (λ o. is_lt (placed_cmp o first.0) ≡ false) (one_in one other here)
        (not_both first.0 one is)
    | inr there ↦ first.2 other there
  ],
)
by_order one found first false is = (
  one,
  Contains-append_left (one ∷ []) found one (in_one one),
  λ other has. elim (Contains-append_cases (one ∷ []) found other has) [
    | inl here ↦ subst (λ o. is_lt (placed_cmp o one) ≡ false) (one_in one other here) (itself one)
    | inr there ↦ later one first.0 other is (first.2 other there)
  ],
)

some_first : (one : Placed) (found : List Placed) → HasFirst (one ∷ found)
some_first one [] = (
  one,
  in_one one,
  λ other has. subst (λ o. is_lt (placed_cmp o one) ≡ false)
      (one_in one other has) (itself one),
)
some_first one (two ∷ found) =
    let rest = some_first two found in
    by_order one (two ∷ found) rest (is_lt (placed_cmp rest.0 one)) refl

module _ (world : World) (decls : List Decl) where
  first_of_list : (found : List Placed) → found ≡ ills_in (said world decls)
      → (first : Option Placed) × IsFirstIll world decls first
  first_of_list [] is = (
    None,
    λ at code ill. none_in (record { at = at; code = code })
        (subst (λ f. Contains f (record { at = at; code = code })) (sym is)
        (is_ill world decls at code ill)),
  )
  first_of_list (one ∷ found) is =
      let first = some_first one found in (
        Some first.0,
        (
          ill_is world decls first.0 (subst (λ f. Contains f first.0) is first.1),
          λ at code ill. first.2 (record { at = at; code = code })
              (subst (λ f. Contains f (record { at = at; code = code })) (sym is)
              (is_ill world decls at code ill)),
        ),
      )

  pub some_first_ill : (first : Option Placed) × IsFirstIll world decls first
  some_first_ill = first_of_list (ills_in (said world decls)) refl

same_placed : (a b : Placed) → is_lt (placed_cmp a b) ≡ false → is_lt (placed_cmp b a) ≡ false
    → (a.at ≡ b.at) × (a.code ≡ b.code)
same_placed a b one other = grind (arith, common_steps)

pub one_first_ill : (world : World) (decls : List Decl) (a b : Option Placed)
    → IsFirstIll world decls a → IsFirstIll world decls b → a ≡ b
one_first_ill world decls None None one other = refl
one_first_ill world decls None (Some b) one other = absurd (one b.at b.code other.0)
one_first_ill world decls (Some a) None one other = absurd (other a.at a.code one.0)
one_first_ill world decls (Some a) (Some b) one other =
    let same = same_placed a b (other.1 a.at a.code one.0) (one.1 b.at b.code other.0) in
    ap Some (λ i. record { at = same.0 i; code = same.1 i })
