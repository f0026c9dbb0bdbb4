-- A member that is noted under its name.
use Rattle.std.proofs.Common.{◌≡◌, ℕ, Bool, true, false, not, ◌&&◌, cond, Option, Some, nat_eq}
use Rattle.std.proofs.Common.{refl, ap, sym, ◌∙◌}
use Rattle.std.proofs.lemmas.Bool.{eqb-true}
use Rattle.sw_decl_words.specs.Members.{earlier_member}
use Rattle.sw_decl_words.specs.Words.{declares, is_reserved}
use Rattle.sw_decl_words.specs.declared.members.Member.{Member}

module _ (f : ℕ → ℕ → Option Member) (member : Member) (rest : Option Member) where
  by_names : (a b shape word : ℕ) (one other : Bool) → (one ≡ true → a ≡ shape)
      → (other ≡ true → b ≡ word)
      → cond (one && other) (Some (earlier_member (f a b) member)) rest
      ≡ cond (one && other) (Some (earlier_member (f shape word) member)) rest
  by_names a b shape word true true first second =
      ap (λ p. Some (earlier_member (f p b) member)) (first refl)
      ∙ ap (λ q. Some (earlier_member (f shape q) member)) (second refl)
  by_names a b shape word true false first second = refl
  by_names a b shape word false other first second = refl

  -- the table has the same member at equal keys, and its names can be declared
  pub noted_same : (a b shape word : ℕ) → is_reserved b ≡ false
      → cond (nat_eq a shape && nat_eq b word) (Some (earlier_member (f a b) member)) rest
      ≡ cond (nat_eq a shape && declares b word) (Some (earlier_member (f shape word) member)) rest
  noted_same a b shape word free =
      by_names a b shape word (nat_eq a shape) (nat_eq b word) (eqb-true a shape)
      (eqb-true b word)
      ∙ ap (λ reserved. cond (nat_eq a shape && (not reserved && nat_eq b word))
      (Some (earlier_member (f shape word) member)) rest) (sym free)
