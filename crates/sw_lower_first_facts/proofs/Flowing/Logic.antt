-- `&&` and `||` go on in a block that they make: where they begin, and where the right value goes
-- on, a block ends.
use Rattle.std.proofs.Common.{◌≡◌, ℕ, suc, ◌+◌, ◌≤◌, ◌<◌, ◌==◌, inl, inr, Bool, true, false, ◌||◌}
use Rattle.std.proofs.Common.{List, [], ◌∷◌, ◌++◌, length, refl, sym, subst, ◌∙◌, arith, ap}
use Rattle.std.proofs.lemmas.Bool.{cases_lt, eq-eqb}
use Rattle.std.proofs.Common.{length-append}
use Rattle.std.specs.List.{AllByRecursion}
use Rattle.sw_graph.specs.Placed.{IsReturn}
use Rattle.sw_graph.specs.declared.instr.Last.{Last}
use Rattle.sw_graph.specs.declared.instr.Last.TheVariants.{Jump}
use Rattle.sw_graph.specs.declared.instr.Operand.{Operand}
use Rattle.sw_lower_plans.specs.Plan.{Ended, NewBlock, Piece, Place}
use Rattle.sw_lower_code.specs.Code.{Code, andthen, block_for, close, done, emit, reg, resume}
use Rattle.sw_lower_rules.specs.Expressions.{both, either}
use Rattle.sw_lower_first_facts.specs.Flowing.{FlowsWithoutReturn, GoesWithoutReturn, IsNoReturn, IsOwn}
use Rattle.sw_lower_first_facts.specs.Flowing.{ends}
use Rattle.sw_lower_first_facts.proofs.Flowing.Joining.{all_joined, ends_first, ends_second}

abbrev with_last : ℕ → Last → Ended
with_last block last = record { block = block; last = last }

ends_here : (number : ℕ) (last : Last) (more : List Ended)
    → ends number (with_last number last ∷ more) ≡ true
ends_here number last more =
    ap (λ same. same || ends number more) (eq-eqb number number refl)

-- What the right value makes stands between a branch and a jump, in the first of two new blocks.
record Wraps {A B : Type 0} (place inner : Place) (right : Piece A) (piece : Piece B)
    (branch : Last) : Type 0 where
  branches : IsReturn branch → ⊥
  own : inner.here ≡ place.blocks
  more : inner.blocks ≡ place.blocks + 2
  lasts : piece.lasts ≡ with_last place.here branch ∷ right.lasts
      ++ with_last right.there (Jump piece.there) ∷ []
  made : length piece.made ≡ 2 + length right.made
  there : piece.there ≡ place.blocks + 1

wrapped : {A B : Type 0} (place inner : Place) (right : Piece A) (piece : Piece B) (branch : Last)
    → Wraps place inner right piece branch → GoesWithoutReturn inner right
    → GoesWithoutReturn place piece
wrapped place inner right piece branch wraps goes = record {
  lasts = subst (AllByRecursion IsNoReturn) (sym wraps.lasts) (
    wraps.branches,
    all_joined IsNoReturn right.lasts (with_last right.there (Jump piece.there) ∷ []) goes.lasts
        ((λ never. never), tt),
  );
  ended = λ number own left.
      subst (λ all. ends number all ≡ true) (sym wraps.lasts) (by number own left);
} where
  jump : List Ended
  jump = with_last right.there (Jump piece.there) ∷ []

  Done : ℕ → Type 0
  Done number = ends number (with_last place.here branch ∷ right.lasts ++ jump) ≡ true

  later : (number : ℕ) → ends number (right.lasts ++ jump) ≡ true → Done number
  later number is = ends_second number (with_last place.here branch ∷ []) (right.lasts ++ jump) is

  in_right : (number : ℕ) → IsOwn inner right number → (here : Bool)
      → (number == right.there) ≡ here → Done number
  in_right number own true same =
      let is : number ≡ right.there = grind (arith, same) in
      later number (ends_second number right.lasts jump
      (subst (λ n. ends n jump ≡ true) (sym is) (ends_here right.there (Jump piece.there) [])))
  in_right number own false apart =
      later number (ends_first number right.lasts jump
      (goes.ended number own (λ same. grind (arith, same, apart))))

  made : (number : ℕ) → place.blocks ≤ number → number < place.blocks + length piece.made
      → (number ≡ piece.there → ⊥) → (first : Bool) → (number == place.blocks) ≡ first
      → Done number
  made number low high left true same =
      let is : number ≡ place.blocks = grind (arith, same) in
      in_right number (inl (is ∙ sym wraps.own)) (number == right.there) refl
  made number low high left false apart =
      elim (cases_lt number (place.blocks + 2)) [
        | inl here ↦
            let other : (number ≡ place.blocks → ⊥) = λ is. grind (arith, is, apart) in
            absurd (left (let is : number ≡ piece.there = omega (
              arith,
              low,
              here,
              other,
              wraps.there,
            ) in is))
        | inr there ↦ in_right number
            (inr (omega (arith, there, wraps.more), omega (arith, high, wraps.made, wraps.more)))
            (number == right.there) refl
      ]

  by : (number : ℕ) → IsOwn place piece number → (number ≡ piece.there → ⊥) → Done number
  by number (inl begins) left =
      subst Done (sym begins) (ends_here place.here branch (right.lasts ++ jump))
  by number (inr (low, high)) left =
      made number low high left (number == place.blocks) refl

two_more : (made : List NewBlock) → suc (suc (length (made ++ []))) ≡ 2 + length made
two_more made = omega (arith, length-append made [])

pub flows_both : (at : ℕ) (right : Code Operand) (left : Operand) → FlowsWithoutReturn right
    → FlowsWithoutReturn (both at right left)
unfolding andthen reg emit block_for close resume done
flows_both at right left flows place =
    wrapped place _ _ ((both at right left).plan place) _ (record {
      branches = λ never. never;
      own = omega arith;
      more = omega arith;
      lasts = refl;
      made = two_more _;
      there = omega arith;
    }) (flows _)

pub flows_or : (at : ℕ) (right : Code Operand) (left : Operand) → FlowsWithoutReturn right
    → FlowsWithoutReturn (either at right left)
unfolding andthen reg emit block_for close resume done
flows_or at right left flows place =
    wrapped place _ _ ((either at right left).plan place) _ (record {
      branches = λ never. never;
      own = omega arith;
      more = omega arith;
      lasts = refl;
      made = two_more _;
      there = omega arith;
    }) (flows _)
