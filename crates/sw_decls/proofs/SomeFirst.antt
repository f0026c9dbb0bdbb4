-- There is a first breach or none: a list of breaches has a first or is empty, and the shapes that
-- hold themselves can be marked.
use Rattle.std.proofs.Common.{◌≡◌, suc, Bool, true, false, List, [], ◌∷◌, Option, None, Some}
use Rattle.std.proofs.Common.{All, Contains, get_or, refl, sym, subst, arith}
use Rattle.std.proofs.lemmas.Grind.{common_steps}
use Rattle.std.proofs.lemmas.List.Elements.{All-nil, All-cons}
use Rattle.std.specs.Ordering.{is_lt}
use Rattle.sw_tree.specs.declared.decl.Decl.{Decl}
use Rattle.sw_types.specs.Held.{edges_of}
use Rattle.sw_types.specs.declared.shape.Shape.{Shape}
use Rattle.sw_decl_words.specs.Placed.{IsFirstPlaced, placed_cmp}
use Rattle.sw_decl_words.specs.declared.placed.Placed.{Placed}
use Rattle.sw_decls.specs.Declaring.{IsFirstBreach, breaches_of, made_shapes}
use Rattle.sw_decls.specs.Holders.{AreHolders}
use Rattle.sw_decls.proofs.ReturnLemmas.{returning_marks}

itself : (one : Placed) → is_lt (placed_cmp one one) ≡ false
itself one = grind (arith, common_steps)

not_both : (one other : Placed) → is_lt (placed_cmp one other) ≡ true
    → is_lt (placed_cmp other one) ≡ false
not_both one other before = grind (arith, common_steps)

later : (a b c : Placed) → is_lt (placed_cmp b a) ≡ false → is_lt (placed_cmp c b) ≡ false
    → is_lt (placed_cmp c a) ≡ false
later a b c first second = grind (arith, common_steps)

-- none of the breaches is before this one
abbrev NoneBefore : Placed → List Placed → Type 0
NoneBefore one found = All (λ other. is_lt (placed_cmp other one) ≡ false) found

by_order : (one first : Placed) (found : List Placed) → Contains found first
    → NoneBefore first found → (before : Bool) → is_lt (placed_cmp first one) ≡ before
    → (first : Option Placed) × IsFirstPlaced (one ∷ found) first
by_order one first found has all true is = (
  Some first,
  (
    (suc has.0, (omega (arith, has.1)), has.2),
    All-cons (λ other. is_lt (placed_cmp other first) ≡ false) one found
        (not_both first one is) all,
  ),
)
by_order one first found has all false is = (
  Some one,
  (
    (0, (omega arith), refl),
    All-cons (λ other. is_lt (placed_cmp other one) ≡ false) one found (itself one)
        (λ k d lt. later one first (get_or found k d) is (all k d lt)),
  ),
)

with_one : (one : Placed) (found : List Placed) (first : Option Placed) → IsFirstPlaced found first
    → (first : Option Placed) × IsFirstPlaced (one ∷ found) first
with_one one found None none = (
  Some one,
  (
    (0, (omega arith), refl),
    All-cons (λ other. is_lt (placed_cmp other one) ≡ false) one found (itself one)
        (subst (NoneBefore one) (sym none)
        (All-nil (λ other. is_lt (placed_cmp other one) ≡ false))),
  ),
)
with_one one found (Some first) (has, all) =
    by_order one first found has all (is_lt (placed_cmp first one)) refl

pub some_first : (found : List Placed) → (first : Option Placed) × IsFirstPlaced found first
some_first [] = (None, refl)
some_first (one ∷ found) = let rest = some_first found in with_one one found rest.0 rest.1

-- the shapes that hold themselves can be marked
pub some_marks : (shapes : List Shape) → (marks : List Bool) × AreHolders shapes marks
some_marks shapes = returning_marks (edges_of shapes)

pub some_first_breach : (decls : List Decl) → (first : Option Placed) × IsFirstBreach decls first
some_first_breach decls =
    let marks = some_marks (made_shapes decls) in
    let first = some_first (breaches_of decls marks.0) in
    (first.0, (marks.0, (marks.1, first.1)))
