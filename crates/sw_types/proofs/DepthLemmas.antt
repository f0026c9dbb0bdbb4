-- What a step says of a shape is said by what it says of the shapes that it holds.
use Rattle.std.proofs.Common.{◌≡◌, ℕ, zero, suc, ◌<◌, ◌≤◌, List, length, get_or, Contains}
use Rattle.std.proofs.Common.{sym, subst, ◌∙◌, arith, inl, inr, false, None, []}
use Rattle.std.proofs.lemmas.Bool.{cases_lt}
use Rattle.std.proofs.lemmas.List.{get_or-map, get_or_past, length-map, length-replicate}
use Rattle.sw_types.specs.Depths.{by_depth, of_shape, LooksAtHeld}
use Rattle.sw_types.specs.Held.{held_by, edges_of}
use Rattle.sw_types.specs.Paths.{IsEdge, AreRanked}
use Rattle.sw_types.specs.declared.shape.Shape.{Shape}
use Rattle.sw_types.specs.declared.shape.ShapeKind.TheVariants.{Struct}

-- some shape, which is never looked at
pub nothing : Shape
nothing = record {
  kind = Struct;
  at = 0;
  conforms = false;
  actor = None;
  parts = [];
  cases = [];
}

module _ {A : Type 0} (none : A) (step : (ℕ → A) → Shape → A) (shapes : List Shape) where
  -- what is said of a shape at a depth
  said : ℕ → ℕ → A
  said depth k = get_or (by_depth none step shapes depth) k none

  length-by_depth : (depth : ℕ) → length (by_depth none step shapes depth) ≡ length shapes
  length-by_depth zero = length-replicate (length shapes) none
  length-by_depth (suc depth) =
      length-map shapes (step (λ k. get_or (by_depth none step shapes depth) k none))

  said_beyond : (depth k : ℕ) → length shapes ≤ k → said depth k ≡ none
  unfolding said
  said_beyond depth k le =
      get_or_past (by_depth none step shapes depth) k none (omega (arith, length-by_depth depth))

  said_deeper : (depth k : ℕ) (d : Shape) → k < length shapes
      → said (suc depth) k ≡ step (said depth) (get_or shapes k d)
  unfolding said
  said_deeper depth k d lt = get_or-map (step (said depth)) shapes k d none lt

  leads_of : (k : ℕ) (d : Shape) → k < length shapes → (b : ℕ)
      → Contains (held_by (get_or shapes k d)) b → IsEdge (edges_of shapes) k b
  leads_of k d lt b has =
      subst (λ row. Contains row b) (sym (get_or-map held_by shapes k d _ lt)) has

  module _ (looks : LooksAtHeld step) (are : AreRanked (edges_of shapes)) where
    -- deeper than its rank, a shape is said the same
    stable : (one other k : ℕ) → are.rank k < one → are.rank k < other → said one k ≡ said other k
    stable zero other k low high = absurd (omega arith)
    stable (suc one) zero k low high = absurd (omega arith)
    stable (suc one) (suc other) k low high = elim (cases_lt k (length shapes)) [
      | inr le ↦ said_beyond (suc one) k le ∙ sym (said_beyond (suc other) k le)
      | inl lt ↦ at_shape one other k low high lt (λ b under up. stable one other b under up)
    ]
      where
        at_shape : (one other k : ℕ) → are.rank k < suc one → are.rank k < suc other
            → k < length shapes
            → ((b : ℕ) → are.rank b < one → are.rank b < other → said one b ≡ said other b)
            → said (suc one) k ≡ said (suc other) k
        at_shape one other k low high lt below =
            said_deeper one k nothing lt
            ∙ looks (said one) (said other) (get_or shapes k nothing) (λ b has.
            let falls = are.falls k b (leads_of k nothing lt b has) in
            below b (omega arith) (omega arith))
            ∙ sym (said_deeper other k nothing lt)

    -- deep enough, what is said of a shape is said by what is said of those that it holds
    said_by_parts : (depth k : ℕ) (d : Shape) → k < length shapes
        → ((a : ℕ) → a < length shapes → are.rank a < depth)
        → said depth k ≡ step (said depth) (get_or shapes k d)
    said_by_parts zero k d lt deep = absurd (let deeper = deep k lt in omega arith)
    said_by_parts (suc depth) k d lt deep =
        said_deeper depth k d lt
        ∙ looks (said depth) (said (suc depth)) (get_or shapes k d) (λ b has.
        let falls = are.falls k b (leads_of k d lt b has) in
        let top = deep k lt in
        stable depth (suc depth) b (omega arith) (omega arith))

    pub of_shape-by_parts : (k : ℕ) (d : Shape) → k < length shapes
        → of_shape none step shapes k ≡ step (of_shape none step shapes) (get_or shapes k d)
    unfolding of_shape said
    of_shape-by_parts k d lt =
        said_by_parts (length shapes) k d lt (λ a under. subst (λ n. are.rank a < n)
        (length-map shapes held_by)
        (are.bounded a (subst (λ n. a < n) (sym (length-map shapes held_by)) under)))

  pub of_shape-beyond : (k : ℕ) → length shapes ≤ k → of_shape none step shapes k ≡ none
  unfolding of_shape said
  of_shape-beyond k le = said_beyond (length shapes) k le
