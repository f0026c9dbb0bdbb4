-- Shapes in which those that hold themselves hold nothing: no shape of them holds itself, and they
-- are the same shapes where none was marked.
use Rattle.std.proofs.Common.{◌≡◌, ◌+◌, ◌<◌, ℕ, suc, zero, Bool, true, false, cond, refl}
use Rattle.std.proofs.Common.{List, [], ◌∷◌, ◌++◌, length, get_or, Contains, All, ap, sym, subst}
use Rattle.std.proofs.Common.{◌∙◌, arith, IsTrue}
use Rattle.std.proofs.lemmas.Bool.{false≢true}
use Rattle.std.proofs.lemmas.List.Elements.{All-nil, All-cons}
use Rattle.sw_types.specs.Cycles.{HoldsItself}
use Rattle.sw_types.specs.Held.{AreWithin, edges_of, held_by, types_in}
use Rattle.sw_types.specs.Named.{is_within}
use Rattle.sw_types.specs.Paths.{IsEdge, Path, one, more}
use Rattle.sw_types.specs.declared.shape.Shape.{Shape}
use Rattle.sw_decl_words.specs.declared.placed.Placed.{Placed}
use Rattle.sw_decls.specs.Holders.{AreHolders, holder, holders, holders_from}
use Rattle.sw_decls.specs.Hollow.{hollow_if, hollowed, hollowed_from}

pub length_hollowed : (marks : List Bool) (n : ℕ) (shapes : List Shape)
    → length (hollowed_from marks n shapes) ≡ length shapes
length_hollowed marks n [] = refl
length_hollowed marks n (shape ∷ shapes) = ap suc (length_hollowed marks (n + 1) shapes)

hollowed_next : (marks : List Bool) (n k : ℕ) (shapes : List Shape) (shape : Shape)
    → k ≡ n + length shapes
    → hollowed_from marks n (shapes ++ shape ∷ [])
    ≡ hollowed_from marks n shapes ++ hollow_if (get_or marks k false) shape ∷ []
hollowed_next marks n k [] shape is =
    ap (λ m. hollow_if (get_or marks m false) shape ∷ []) (omega arith)
hollowed_next marks n k (first ∷ shapes) shape is =
    ap (λ rest. hollow_if (get_or marks n false) first ∷ rest)
    (hollowed_next marks (n + 1) k shapes shape (omega arith))

-- one shape more
pub hollowed_more : (marks : List Bool) (shapes : List Shape) (shape : Shape)
    → hollowed marks (shapes ++ shape ∷ [])
    ≡ hollowed marks shapes
    ++ hollow_if (get_or marks (length (hollowed marks shapes)) false) shape ∷ []
hollowed_more marks shapes shape = hollowed_next marks 0 (length (hollowed marks shapes)) shapes
    shape (let same = length_hollowed marks 0 shapes in omega arith)

held_hollow : (holds : Bool) (shape : Shape)
    → held_by (hollow_if holds shape) ≡ cond holds [] (held_by shape)
held_hollow true shape = refl
held_hollow false shape = refl

none_either : (holds : Bool) (none : List ℕ) → none ≡ cond holds none none
none_either true none = refl
none_either false none = refl

-- a marked shape holds nothing, and any other what it held
edges_hollowed : (marks : List Bool) (n k a : ℕ) (shapes : List Shape) → k ≡ n + a
    → get_or (edges_of (hollowed_from marks n shapes)) a []
    ≡ cond (get_or marks k false) [] (get_or (edges_of shapes) a [])
edges_hollowed marks n k a [] is = none_either (get_or marks k false) []
edges_hollowed marks n k zero (shape ∷ shapes) is =
    held_hollow (get_or marks n false) shape
    ∙ ap (λ m. cond (get_or marks m false) [] (held_by shape)) (omega arith)
edges_hollowed marks n k (suc a) (shape ∷ shapes) is =
    edges_hollowed marks (n + 1) k a shapes (omega arith)

leads_by_mark : (holds : Bool) (row : List ℕ) (b : ℕ) → Contains (cond holds [] row) b
    → (holds ≡ false) × Contains row b
leads_by_mark true row b (k, lt, e) = absurd (let gone : k < 0 = lt in omega arith)
leads_by_mark false row b has = (refl, has)

leads_hollowed : (marks : List Bool) (shapes : List Shape) (a b : ℕ)
    → IsEdge (edges_of (hollowed marks shapes)) a b
    → (get_or marks a false ≡ false) × IsEdge (edges_of shapes) a b
leads_hollowed marks shapes a b leads =
    leads_by_mark (get_or marks a false) (get_or (edges_of shapes) a []) b
    (subst (λ row. Contains row b) (edges_hollowed marks 0 a a shapes (omega arith)) leads)

-- a path stays one, and begins at a number without mark
path_hollowed : (marks : List Bool) (shapes : List Shape) (a b : ℕ)
    → Path (edges_of (hollowed marks shapes)) a b
    → (get_or marks a false ≡ false) × Path (edges_of shapes) a b
path_hollowed marks shapes a b (one c leads) =
    let before = leads_hollowed marks shapes a c leads in (before.0, one c before.1)
path_hollowed marks shapes a b (more c d path leads) =
    let before = path_hollowed marks shapes a c path in
    (before.0, more c d before.1 (leads_hollowed marks shapes c d leads).1)

pub none_holds_itself : (marks : List Bool) (shapes : List Shape) → AreHolders shapes marks
    → (k : ℕ) → HoldsItself (hollowed marks shapes) k → ⊥
none_holds_itself marks shapes are k path =
    let before = path_hollowed marks shapes k k path in
    false≢true (sym before.0 ∙ (are k).1 before.1)

abbrev Holds : ℕ → Shape → Type 0
Holds n shape = All (λ ty. IsTrue (is_within n ty)) (types_in shape)

hollow_within : (n : ℕ) (holds : Bool) (shape : Shape) → Holds n shape
    → Holds n (hollow_if holds shape)
hollow_within n true shape is = All-nil (λ ty. IsTrue (is_within n ty))
hollow_within n false shape is = is

all_within : (n at : ℕ) (marks : List Bool) (shapes : List Shape) → All (Holds n) shapes
    → All (Holds n) (hollowed_from marks at shapes)
all_within n at marks [] are = All-nil (Holds n)
all_within n at marks (shape ∷ shapes) are =
    All-cons (Holds n) (hollow_if (get_or marks at false) shape)
    (hollowed_from marks (at + 1) shapes)
    (hollow_within n (get_or marks at false) shape (are 0 shape (omega arith)))
    (all_within n (at + 1) marks shapes (λ k d lt. are (suc k) d (omega arith)))

pub hollowed_within : (marks : List Bool) (shapes : List Shape) → AreWithin shapes
    → AreWithin (hollowed marks shapes)
hollowed_within marks shapes are =
    subst (λ n. All (Holds n) (hollowed marks shapes)) (sym (length_hollowed marks 0 shapes))
    (all_within (length shapes) 0 marks shapes are)

by_mark : (holds : Bool) (shape : Shape) (found : List Placed) (rest shapes : List Shape)
    → holder holds shape ++ found ≡ [] → (found ≡ [] → rest ≡ shapes)
    → hollow_if holds shape ∷ rest ≡ shape ∷ shapes
by_mark true shape found rest shapes none go =
    absurd (let some = ap length none in omega arith)
by_mark false shape found rest shapes none go = ap (λ more. shape ∷ more) (go none)

same_from : (marks : List Bool) (n : ℕ) (shapes : List Shape) → holders_from marks n shapes ≡ []
    → hollowed_from marks n shapes ≡ shapes
same_from marks n [] none = refl
same_from marks n (shape ∷ shapes) none =
    by_mark (get_or marks n false) shape (holders_from marks (n + 1) shapes)
    (hollowed_from marks (n + 1) shapes) shapes none (same_from marks (n + 1) shapes)

-- where none holds itself, the shapes are the same
pub hollowed_same : (shapes : List Shape) (marks : List Bool) → holders shapes marks ≡ []
    → hollowed marks shapes ≡ shapes
hollowed_same shapes marks none = same_from marks 0 shapes none
