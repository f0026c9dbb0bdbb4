-- Each program has one first function that is too large, or none.
use Rattle.std.proofs.Common.{◌≡◌, ℕ, zero, suc, ◌+◌, ◌*◌, List, [], ◌∷◌, map, flat_map}
use Rattle.std.proofs.Common.{Bool, true, false, Option, Some, None, Contains, ◌⊎◌, inl, inr}
use Rattle.std.proofs.Common.{refl, ap, sym, ◌∙◌, subst, arith}
use Rattle.std.specs.Ordering.{is_lt}
use Rattle.std.specs.Prelude.{if◌then◌else◌}
use Rattle.std.specs.List.Sorted.{IsPermutation}
use Rattle.std.proofs.lemmas.List.Elements.{All-contains, All-contains_itself, All-weaker}
use Rattle.std.proofs.lemmas.List.Elements.{Contains-append_cases, Contains-append_left}
use Rattle.std.proofs.lemmas.List.Elements.{Contains-append_right}
use Rattle.std.proofs.lemmas.List.Sorted.{Contains-permutation, IsPermutation-map}
use Rattle.std.proofs.lemmas.List.Sorted.{IsPermutation-sym, IsPermutation-trans}
use Rattle.sw_tree.specs.declared.decl.Decl.{Decl}
use Rattle.sw_graph.specs.Limits.{excess_of}
use Rattle.sw_graph.specs.declared.function.Excess.{Excess}
use Rattle.sw_graph.specs.declared.function.Excess.TheVariants.{Registers, Points}
use Rattle.sw_graph.specs.declared.function.Function.{Function}
use Rattle.sw_decl_words.specs.Placed.{IsFirstPlaced, placed_cmp}
use Rattle.sw_decl_words.specs.declared.placed.Placed.{Placed}
use Rattle.sw_decls.proofs.OneFirst.{one_first}
use Rattle.sw_decls.proofs.SomeFirst.{some_first}
use Rattle.sw_lower_plans.specs.Plan.{Numbers}
use Rattle.sw_lower_plans.specs.declared.name.FunctionName.{FunctionName}
use Rattle.sw_lower_code.specs.Whole.{Body, function_of}
use Rattle.sw_lower_rules.specs.Bodies.{IsFirstTooLarge, functions_of}
use Rattle.sw_lower_rules.specs.Bodies.{numbers_of, order_of, placed_excess, program_bodies}
use Rattle.sw_lower_rules.specs.Bodies.{too_large_in}
use Rattle.sw_lower_rules.specs.Tables.{Tables, name_of, number_in}
use Rattle.sw_lower_rules.proofs.Orders.{one_numbering, some_order}

pub some_too_large : (tables : Tables) (decls : List Decl)
    → (first : Option Placed) × IsFirstTooLarge tables decls first
some_too_large tables decls =
    let (ordered, same, up) = some_order order_of (program_bodies tables decls) in
    let (first, is) = some_first (too_large_in (functions_of ordered)) in
    (first, (ordered, record { bodies = same; in_order = up }, is))

-- the order of a body says its name

abbrev named : ℕ → Bool → FunctionName
named key getter = record { key = key; getter = getter }

one_name : (one other : Body) → order_of one ≡ order_of other → name_of one ≡ name_of other
one_name one other same = by one.getter other.getter same where
  by : (first second : Bool)
      → 2 * one.key + (if first then 1 else 0) ≡ 2 * other.key + (if second then 1 else 0)
      → named one.key first ≡ named other.key second
  by true true is =
      let key : one.key ≡ other.key = omega (arith, is) in ap (λ k. named k true) key
  by true false is = absurd (omega (arith, is))
  by false true is = absurd (omega (arith, is))
  by false false is =
      let key : one.key ≡ other.key = omega (arith, is) in ap (λ k. named k false) key

same_names : (xs ys : List Body) → map order_of xs ≡ map order_of ys
    → map name_of xs ≡ map name_of ys
same_names [] [] same = refl
same_names [] (y ∷ ys) same = cc
same_names (x ∷ xs) [] same = cc
same_names (x ∷ xs) (y ∷ ys) same =
    let first : order_of x ≡ order_of y = cc in
    let rest : map order_of xs ≡ map order_of ys = cc in
    ap (λ name. name ∷ map name_of xs) (one_name x y first)
    ∙ ap (λ names. name_of y ∷ names) (same_names xs ys rest)

-- what the lists of a list's items hold

module _ {X Y : Type 0} (f : X → List Y) where
  contained_each : (xs : List X) (y : Y) → Contains (flat_map f xs) y
      → (x : X) × Contains xs x × Contains (f x) y
  contained_each [] y has = let lt = has.1 in absurd (omega (arith, lt))
  contained_each (x ∷ xs) y has =
      by (Contains-append_cases (f x) (flat_map f xs) y has) (contained_each xs y)
    where
      by : Contains (f x) y ⊎ Contains (flat_map f xs) y
          → (Contains (flat_map f xs) y → (one : X) × Contains xs one × Contains (f one) y)
          → (one : X) × Contains (x ∷ xs) one × Contains (f one) y
      by (inl here) rest = (x, (0, omega arith, refl), here)
      by (inr later) rest =
          let (one, has, gives) = rest later in
          (one, Contains-append_right (x ∷ []) xs one has, gives)

  contained_all : (xs : List X) (x : X) (y : Y) → Contains xs x → Contains (f x) y
      → Contains (flat_map f xs) y
  contained_all [] x y (k, lt, is) gives = absurd (omega (arith, lt))
  contained_all (one ∷ xs) x y (zero, lt, is) gives =
      Contains-append_left (f one) (flat_map f xs) y
      (subst (λ item. Contains (f item) y) (sym is) gives)
  contained_all (one ∷ xs) x y (suc k, lt, is) gives =
      Contains-append_right (f one) (flat_map f xs) y
      (contained_all xs x y (k, omega (arith, lt), is) gives)

  contained_moved : (xs ys : List X) → IsPermutation xs ys → (y : Y) → Contains (flat_map f xs) y
      → Contains (flat_map f ys) y
  contained_moved xs ys same y has =
      let (x, there, gives) = contained_each xs y has in
      contained_all ys x y (Contains-permutation xs ys x same there) gives

-- lists that hold the same have the same first

abbrev Holds : List Placed → List Placed → Type 0
Holds found others = (one : Placed) → Contains found one → Contains others one

none_there : (found : List Placed) → Holds found [] → found ≡ []
none_there [] holds = refl
none_there (one ∷ found) holds =
    let lt = (holds one (0, omega arith, refl)).1 in absurd (omega (arith, lt))

first_there : (found others : List Placed) (first : Option Placed) → Holds found others
    → Holds others found → IsFirstPlaced found first → IsFirstPlaced others first
first_there found others None there back none =
    none_there others (λ one has. subst (λ list. Contains list one) none (back one has))
first_there found others (Some first) there back (has, all) = (
  there first has,
  All-weaker (Contains others) (λ other. is_lt (placed_cmp other first) ≡ false)
      (λ other has. All-contains (λ one. is_lt (placed_cmp one first) ≡ false) found other all
      (back other has)) others (All-contains_itself others),
)

-- the functions of two orders of a program's bodies are the same, in two orders

abbrev excess_at : Function → List Placed
excess_at function = placed_excess function.key (excess_of function)

moved_functions : (xs ys : List Body) → IsPermutation xs ys → map order_of xs ≡ map order_of ys
    → IsPermutation (functions_of xs) (functions_of ys)
moved_functions xs ys moved same =
    let names = same_names xs ys same in
    subst (λ (number : Numbers). IsPermutation (functions_of xs) (map (function_of number) ys))
    (ap number_in names)
    (IsPermutation-map (function_of (numbers_of xs)) xs ys moved)

pub one_too_large : (tables : Tables) (decls : List Decl) (one other : Option Placed)
    → IsFirstTooLarge tables decls one → IsFirstTooLarge tables decls other → one ≡ other
one_too_large tables decls one other (xs, first, is_one) (ys, second, is_other) =
    let all = program_bodies tables decls in
    let moved = IsPermutation-trans xs all ys (IsPermutation-sym all xs first.bodies)
    second.bodies in
    let same = one_numbering order_of all xs ys first.bodies first.in_order second.bodies
    second.in_order in
    let there = moved_functions xs ys moved same in
    let back = IsPermutation-sym (functions_of xs) (functions_of ys) there in
    one_first (too_large_in (functions_of ys)) one other
    (first_there (too_large_in (functions_of xs)) (too_large_in (functions_of ys)) one
    (contained_moved excess_at (functions_of xs) (functions_of ys) there)
    (contained_moved excess_at (functions_of ys) (functions_of xs) back) is_one) is_other

-- the code says what a function has too many of

excess_codes : (key : ℕ) (excess : Option Excess) (one : Placed)
    → Contains (placed_excess key excess) one → (one.code ≡ 510) ⊎ (one.code ≡ 511)
excess_codes key None one (k, lt, is) = absurd (omega (arith, lt))
excess_codes key (Some Registers) one (zero, lt, is) =
    inl (ap (λ (placed : Placed). placed.code) (sym is))
excess_codes key (Some Points) one (zero, lt, is) =
    inr (ap (λ (placed : Placed). placed.code) (sym is))
excess_codes key (Some excess) one (suc k, lt, is) = absurd (omega (arith, lt))

pub too_large_code : (tables : Tables) (decls : List Decl) (one : Placed)
    → IsFirstTooLarge tables decls (Some one) → (one.code ≡ 510) ⊎ (one.code ≡ 511)
too_large_code tables decls one (ordered, are, (has, _)) =
    let (function, there, is) = contained_each excess_at (functions_of ordered) one has in
    excess_codes function.key (excess_of function) one is
