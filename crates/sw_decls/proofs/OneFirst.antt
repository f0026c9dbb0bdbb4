-- A program has one first breach, or none.
use Rattle.std.proofs.Common.{◌≡◌, ◌<◌, ◌≤◌, ◌+◌, ℕ, Bool, true, false, List, [], ◌∷◌, ◌++◌}
use Rattle.std.proofs.Common.{Option, Some, None, length, get_or, ap, sym, subst, refl, ◌∙◌, arith}
use Rattle.std.proofs.Common.{inl, inr}
use Rattle.std.proofs.lemmas.Bool.{cases_lt, false≢true}
use Rattle.std.specs.Cmp.{nat_cmp_is}
use Rattle.std.specs.Ordering.{is_lt, nat_cmp, ordering_then}
use Rattle.std.specs.declared.cmp.Ordering.TheVariants.{Less, Equal}
use Rattle.sw_tree.specs.declared.decl.Decl.{Decl}
use Rattle.sw_types.specs.declared.shape.Shape.{Shape}
use Rattle.sw_decl_words.specs.Placed.{IsFirstPlaced, placed_cmp}
use Rattle.sw_decl_words.specs.declared.placed.Placed.{Placed}
use Rattle.sw_decls.specs.Declaring.{IsFirstBreach, breaches_of, breaches_of_decls, made_shapes}
use Rattle.sw_decls.specs.Holders.{AreHolders, holder, holders, holders_from}
use Rattle.sw_decls.specs.Hollow.{hollow_if, hollowed, hollowed_from}
use Rattle.sw_decls.specs.Wide.{wide}

less_first : (x y c d : ℕ) → x < y
    → is_lt (ordering_then (nat_cmp x y) (nat_cmp c d)) ≡ true
less_first x y c d lt =
    ap (λ r. is_lt (ordering_then r (nat_cmp c d))) (sym (nat_cmp_is x y Less lt))

less_second : (x y c d : ℕ) → x ≡ y → c < d
    → is_lt (ordering_then (nat_cmp x y) (nat_cmp c d)) ≡ true
less_second x y c d is lt =
    ap (λ r. is_lt (ordering_then r (nat_cmp c d))) (sym (nat_cmp_is x y Equal is))
    ∙ ap is_lt (sym (nat_cmp_is c d Less lt))

first_most : (x y c d : ℕ) → is_lt (ordering_then (nat_cmp x y) (nat_cmp c d)) ≡ false → y ≤ x
first_most x y c d none = elim (cases_lt x y) [
  | inl lt ↦ absurd (false≢true (sym none ∙ less_first x y c d lt))
  | inr le ↦ le
]

second_most : (x y c d : ℕ) → x ≡ y → is_lt (ordering_then (nat_cmp x y) (nat_cmp c d)) ≡ false
    → d ≤ c
second_most x y c d is none = elim (cases_lt c d) [
  | inl lt ↦ absurd (false≢true (sym none ∙ less_second x y c d is lt))
  | inr le ↦ le
]

-- of two breaches of which neither comes before the other
same_placed : (a b : Placed) → is_lt (placed_cmp a b) ≡ false → is_lt (placed_cmp b a) ≡ false
    → a ≡ b
same_placed a b one other =
    let le = first_most a.at b.at a.code b.code one in
    let ge = first_most b.at a.at b.code a.code other in
    let at : a.at ≡ b.at = omega (arith, le, ge) in
    let less = second_most a.at b.at a.code b.code at one in
    let more = second_most b.at a.at b.code a.code (sym at) other in
    let code : a.code ≡ b.code = omega (arith, less, more) in
    λ i. record { at = at i; code = code i }

none_in_nil : (found : List Placed) (one : Placed) → found ≡ [] → IsFirstPlaced found (Some one) → ⊥
none_in_nil found one none is =
    let some = is.0.1 in
    let empty = ap length none in
    omega (arith, some, empty)

pub one_first : (found : List Placed) (a b : Option Placed) → IsFirstPlaced found a
    → IsFirstPlaced found b
    → a ≡ b
one_first found None None one other = refl
one_first found None (Some b) one other = absurd (none_in_nil found b one other)
one_first found (Some a) None one other = absurd (none_in_nil found a other one)
one_first found (Some a) (Some b) one other =
    ap Some (same_placed a b
    (subst (λ x. is_lt (placed_cmp x b) ≡ false) one.0.2 (other.1 one.0.0 a one.0.1))
    (subst (λ x. is_lt (placed_cmp x a) ≡ false) other.0.2 (one.1 other.0.0 b other.0.1)))

by_truth : (a b : Bool) → (a ≡ true → b ≡ true) → (b ≡ true → a ≡ true) → a ≡ b
by_truth true b there back = sym (there refl)
by_truth false true there back = back refl
by_truth false false there back = refl

same_marks : (shapes : List Shape) (m n : List Bool) → AreHolders shapes m → AreHolders shapes n
    → (k : ℕ) → get_or m k false ≡ get_or n k false
same_marks shapes m n one other k =
    by_truth (get_or m k false) (get_or n k false) (λ is. (other k).1 ((one k).0 is))
    (λ is. (one k).1 ((other k).0 is))

module _ (m n : List Bool) (agree : (k : ℕ) → get_or m k false ≡ get_or n k false) where
  same_holders : (at : ℕ) (shapes : List Shape)
      → holders_from m at shapes ≡ holders_from n at shapes
  same_holders at [] = refl
  same_holders at (shape ∷ shapes) =
      ap (λ b. holder b shape ++ holders_from m (at + 1) shapes) (agree at)
      ∙ ap (λ more. holder (get_or n at false) shape ++ more) (same_holders (at + 1) shapes)

  same_hollowed : (at : ℕ) (shapes : List Shape)
      → hollowed_from m at shapes ≡ hollowed_from n at shapes
  same_hollowed at [] = refl
  same_hollowed at (shape ∷ shapes) =
      ap (λ b. hollow_if b shape ∷ hollowed_from m (at + 1) shapes) (agree at)
      ∙ ap (λ more. hollow_if (get_or n at false) shape ∷ more) (same_hollowed (at + 1) shapes)

  same_breaches : (decls : List Decl) → breaches_of decls m ≡ breaches_of decls n
  same_breaches decls =
      let shapes = made_shapes decls in
      ap (λ held. breaches_of_decls decls ++ (held ++ wide (hollowed m shapes)))
      (same_holders 0 shapes)
      ∙ ap (λ cut. breaches_of_decls decls ++ (holders shapes n ++ wide cut))
      (same_hollowed 0 shapes)

pub one_first_breach : (decls : List Decl) (a b : Option Placed) → IsFirstBreach decls a
    → IsFirstBreach decls b → a ≡ b
one_first_breach decls a b one other =
    let agree = same_marks (made_shapes decls) one.0 other.0 one.1.0 other.1.0 in
    one_first (breaches_of decls other.0) a b
    (subst (λ found. IsFirstPlaced found a) (same_breaches one.0 other.0 agree decls) one.1.1)
    other.1.1
