-- What is made of bodies in order is what is made of their program.
use Rattle.std.proofs.Common.{◌≡◌, ℕ, ◌+◌, ◌<◌, ◌≤◌, List, [], ◌∷◌, ◌++◌, map, length, get_or, take}
use Rattle.std.proofs.Common.{Option, Some, None}
use Rattle.std.proofs.Common.{All, IsOk, refl, ap, sym, ◌∙◌, arith, subst}
use Rattle.std.proofs.Common.{append-nil, append_assoc, drop}
use Rattle.std.proofs.lemmas.List.{drop_more, get_or-map, length-map}
use Rattle.std.proofs.lemmas.List.Elements.{All-map, All-more}
use Rattle.std.proofs.lemmas.List.Sorted.{IsPermutation-map}
use Rattle.std.specs.List.Sorted.{IsNonDecreasingBy, IsPermutation}
use Rattle.sw_graph.specs.Limits.{excess_of}
use Rattle.sw_graph.specs.declared.function.Function.{Function}
use Rattle.sw_lower_draft.specs.Drafts.{number_by}
use Rattle.sw_lower_draft.specs.declared.numbers.NumberTable.{NumberTable}
use Rattle.sw_lower_plans.specs.Plan.{Numbers}
use Rattle.sw_lower_plans.specs.declared.name.FunctionName.{FunctionName}
use Rattle.sw_lower_bodies.specs.Trees.{bodies_by, body_by}
use Rattle.sw_lower_bodies.specs.declared.body_tree.BodyTree.{BodyTree}
use Rattle.sw_lower_code.specs.Whole.{Body, function_of, lower_body}
use Rattle.sw_lower_known.specs.Knowledge.{tables_by}
use Rattle.sw_lower_known.specs.declared.known.Known.{Known}
use Rattle.sw_lower_rules.specs.Bodies.{AreMade, functions_of, numbers_of, order_of}
use Rattle.sw_lower_rules.specs.Bodies.{placed_excess, too_large_in}
use Rattle.sw_lower_rules.specs.Tables.{Tables, name_of, number_in}
use Rattle.sw_decl_words.specs.Words.{or_else}
use Rattle.sw_decl_words.specs.declared.placed.Placed.{Placed}
use Rattle.sw_lower.specs.Lowered.{EndsWell, function_by}
use Rattle.sw_lower.specs.Ordered.{tree_name, tree_order}

pub or_else-none : {A : Type 0} (found : Option A) → or_else found None ≡ found
or_else-none None = refl
or_else-none (Some x) = refl

module _ (tables : Tables) where
  pub names_are : (trees : List BodyTree)
      → map name_of (map (body_by tables) trees) ≡ map tree_name trees
  names_are [] = refl
  names_are (tree ∷ trees) = ap (λ names. tree_name tree ∷ names) (names_are trees)

  -- the bodies of trees in order are in order
  pub order_kept : (trees : List BodyTree) → IsNonDecreasingBy tree_order trees
      → IsNonDecreasingBy order_of (bodies_by tables trees)
  unfolding bodies_by
  order_kept [] up i j d le lt = absurd (omega (arith, lt))
  order_kept (tree ∷ trees) up i j d le lt =
      let within : j < length (tree ∷ trees) =
      omega (arith, lt, length-map (tree ∷ trees) (body_by tables)) in
      let rises : tree_order (get_or (tree ∷ trees) i tree)
      ≤ tree_order (get_or (tree ∷ trees) j tree) = up i j tree le within in
      omega (
        arith,
        rises,
        ap order_of
            (get_or-map (body_by tables) (tree ∷ trees) i tree d (omega (arith, le, within))),
        ap order_of (get_or-map (body_by tables) (tree ∷ trees) j tree d within),
      )

  pub bodies_moved : (trees moved : List BodyTree) → IsPermutation trees moved
      → IsPermutation (bodies_by tables trees) (bodies_by tables moved)
  unfolding bodies_by
  bodies_moved trees moved same = IsPermutation-map (body_by tables) trees moved same

  functions_map : (number : Numbers) (trees : List BodyTree)
      → map (λ (tree : BodyTree). function_of number (body_by tables tree)) trees
      ≡ map (function_of number) (map (body_by tables) trees)
  functions_map number [] = refl
  functions_map number (tree ∷ trees) =
      ap (λ more. function_of number (body_by tables tree) ∷ more) (functions_map number trees)

earlier_empty : {A : Type 0} (earlier more : List A) → earlier ++ more ≡ [] → earlier ≡ []
earlier_empty [] more is = refl
earlier_empty (x ∷ earlier) more is = cc

-- Where nothing is listed, all items so far have a property, and so has the next one.
pub all_so_far : {A X : Type 0} (P : X → Type 0) (xs : List X) (i : ℕ) (x : X)
    (old new more : List A) → i < length xs → x ≡ get_or xs i x → new ≡ old ++ more
    → (old ≡ [] → All P (take i xs)) → (new ≡ [] → P x) → new ≡ [] → All P (take (i + 1) xs)
all_so_far P xs i x old new more below is longer before here none_listed =
    All-more P xs i x below
    (before (earlier_empty old more (sym longer ∙ none_listed)))
    (subst P is (here none_listed))

-- the first of the items that are left
pub next_left : {X : Type 0} (xs : List X) (i : ℕ) (x : X) → i < length xs → x ≡ get_or xs i x
    → drop i xs ≡ x ∷ drop (i + 1) xs
next_left xs i x below is = drop_more xs i x below ∙ ap (λ y. y ∷ drop (i + 1) xs) (sym is)

module _ {X : Type 0} (made : X → Function) (xs : List X) (i : ℕ) (x : X) (below : i < length xs)
    (is : x ≡ get_or xs i x) where
  -- what is too large so far, with what is too large of what is left
  pub too_large_next : (old new whole : List Placed) → new ≡ old ++ too_large_in (made x ∷ [])
      → old ++ too_large_in (map made (drop i xs)) ≡ whole
      → new ++ too_large_in (map made (drop (i + 1) xs)) ≡ whole
  too_large_next old new whole longer left =
      let one = placed_excess (made x).key (excess_of (made x)) in
      let others = too_large_in (map made (drop (i + 1) xs)) in
      ap (λ list. list ++ others) (longer ∙ ap (λ list. old ++ list) (append-nil one))
      ∙ (append_assoc old one others
      ∙ (ap (λ list. old ++ too_large_in (map made list)) (sym (next_left xs i x below is)) ∙ left))

  -- the functions so far, with those of what is left
  pub functions_next : (old new more : List Placed) (fewer functions whole : List Function)
      → new ≡ old ++ more → (new ≡ [] → functions ≡ fewer ++ made x ∷ [])
      → (old ≡ [] → fewer ++ map made (drop i xs) ≡ whole)
      → new ≡ [] → functions ++ map made (drop (i + 1) xs) ≡ whole
  functions_next old new more fewer functions whole longer one left none_listed =
      ap (λ list. list ++ map made (drop (i + 1) xs)) (one none_listed)
      ∙ (append_assoc fewer (made x ∷ []) (map made (drop (i + 1) xs))
      ∙ (ap (λ list. fewer ++ map made list) (sym (next_left xs i x below is))
      ∙ left (earlier_empty old more (sym longer ∙ none_listed))))

module _ (known : Known) (numbers : NumberTable) (trees : List BodyTree)
    (are : (name : FunctionName) → number_by numbers name
    ≡ number_in (map tree_name trees) name) where
  -- the numbers of a table are those of the bodies
  pub same_numbers : number_by numbers ≡ numbers_of (map (body_by (tables_by known)) trees)
  same_numbers = λ i. λ name. named name i where
    named : (name : FunctionName)
        → number_by numbers name ≡ numbers_of (map (body_by (tables_by known)) trees) name
    named name = are name
        ∙ ap (λ names. number_in names name) (sym (names_are (tables_by known) trees))

  -- the functions of trees in order are those of their bodies
  pub functions_are : map (function_by known numbers) trees
      ≡ functions_of (bodies_by (tables_by known) trees)
  unfolding bodies_by
  functions_are = functions_map (tables_by known) (number_by numbers) trees
      ∙ ap (λ number. map (function_of number) (map (body_by (tables_by known)) trees)) same_numbers

  -- the runs of the code of all bodies end well
  pub bodies_end : All (EndsWell known numbers) trees → AreMade (bodies_by (tables_by known) trees)
  unfolding bodies_by
  bodies_end ended =
      let bodies = map (body_by (tables_by known)) trees in
      subst (λ number. All (λ (body : Body). IsOk (lower_body number body)) bodies) same_numbers
      (All-map (λ (body : Body). IsOk (lower_body (number_by numbers) body))
      (body_by (tables_by known)) trees ended)
