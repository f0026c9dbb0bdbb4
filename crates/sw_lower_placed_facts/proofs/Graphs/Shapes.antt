-- The declared types and the global variables of a program that shares no value that may not be.
use Rattle.std.proofs.Common.{◌≡◌, ℕ, Bool, true, false, not, ◌&&◌, ◌||◌, List, [], ◌∷◌}
use Rattle.std.proofs.Common.{All, None, flat_map, map, refl, sym, ap, subst, ◌∙◌}
use Rattle.std.specs.Prelude.{is_none, if◌then◌else◌}
use Rattle.std.proofs.lemmas.Bool.{and_from, not-false, not_from_false, or_parts, true≢false}
use Rattle.std.proofs.lemmas.List.Elements.{All-cons, All-head, All-nil, All-tail}
use Rattle.std.specs.List.{list_all, list_any}
use Rattle.sw_tree.specs.declared.decl.Decl.{Decl}
use Rattle.sw_tree.specs.declared.decl.Decl.TheVariants.{Entry, Struct, Enum, Class, Actor}
use Rattle.sw_tree.specs.declared.decl.Decl.TheVariants.{GlobalActor, Func, Global}
use Rattle.sw_types.specs.Held.{types_in}
use Rattle.sw_types.specs.Sendable.{is_sendable}
use Rattle.sw_types.specs.declared.shape.Part.{Part}
use Rattle.sw_types.specs.declared.shape.Shape.{Shape}
use Rattle.sw_types.specs.declared.shape.ShapeKind.{ShapeKind}
use Rattle.sw_types.specs.declared.shape.ShapeKind.TheVariants as kinds
use Rattle.sw_graph.specs.Clean.{GlobalClean, ShapeClean}
use Rattle.sw_graph.specs.Kinds.{is_class}
use Rattle.sw_graph.specs.Placed.{ActorOfClass}
use Rattle.sw_graph.specs.declared.graph.Graph.{Graph}
use Rattle.sw_decl_words.specs.Evident.{Meanings, meanings_of}
use Rattle.sw_decl_words.specs.Shaped.{shape_of}
use Rattle.sw_decl_words.specs.declared.placed.Placed.{Placed}
use Rattle.sw_decls.specs.declared.signature.AsyncDefault.{AsyncDefault}
use Rattle.sw_decls.specs.declared.signature.GlobalVar.{GlobalVar}
use Rattle.sw_typing_rules.specs.Worlds.{IsWorldOf, World}
use Rattle.sw_isolation_rules.specs.Programs.{global_refusals, is_shared}
use Rattle.sw_isolation_rules.specs.Races.{breaks_promise, has_var, holds_unsent, shape_races}
use Rattle.sw_lower_rules.specs.Bodies.{global_kind}
use Rattle.sw_typing_facts.proofs.Programs.DeclStands.{none_left, none_right}
use Rattle.sw_typing_facts.proofs.Programs.MadeOf.{each_shape}

-- Only a class has a global actor, and an actor doesn't declare that it is Sendable.
pub record IsDeclared (shape : Shape) : Type 0 where
  pub actors : ActorOfClass shape
  pub unsaid : shape.kind ≡ kinds.Actor → shape.conforms ≡ false

one_declared : (shape : Shape) → ActorOfClass shape
    → (shape.kind ≡ kinds.Actor → shape.conforms ≡ false) → All IsDeclared (shape ∷ [])
one_declared shape actors unsaid =
    All-cons IsDeclared shape [] (record { actors = actors; unsaid = unsaid })
    (All-nil IsDeclared)

decl_declared : (known : Meanings) (number : ℕ) (decl : Decl)
    → All IsDeclared (shape_of known number decl)
unfolding shape_of
decl_declared known number (Entry word written at is_async body) = All-nil IsDeclared
decl_declared known number (Struct word conforms fields funcs) =
    one_declared _ (λ never. cc) (λ never. cc)
decl_declared known number (Enum word conforms cases funcs) =
    one_declared _ (λ never. cc) (λ never. cc)
decl_declared known number (Class written word conforms props inits funcs) =
    one_declared _ (λ actors. refl) (λ never. cc)
decl_declared known number (Actor word props inits funcs) =
    one_declared _ (λ never. cc) (λ is. refl)
decl_declared known number (GlobalActor word made) = All-nil IsDeclared
decl_declared known number (Func func) = All-nil IsDeclared
decl_declared known number (Global prop) = All-nil IsDeclared

-- the declared types of a program
pub shapes_declared : (decls : List Decl) (rule : AsyncDefault) (world : World)
    → IsWorldOf decls rule world → All IsDeclared world.shapes
shapes_declared decls rule world is =
    subst (All IsDeclared) (sym is.shapes)
    (each_shape IsDeclared (meanings_of decls) (decl_declared (meanings_of decls)) 0 decls)

pub actors_of_classes : (shapes : List Shape) → All IsDeclared shapes
    → All ActorOfClass shapes
actors_of_classes shapes declared = λ k d below. (declared k d below).actors

-- where no element passes a test, each passes the other
all_of_none : {X : Type 0} (test : X → Bool) (xs : List X) → list_any test xs ≡ false
    → list_all (λ x. not (test x)) xs ≡ true
all_of_none test [] none = refl
all_of_none test (x ∷ xs) none =
    let parts = or_parts (test x) (list_any test xs) none in
    and_from (not (test x)) _ (not_from_false (test x) parts.0) (all_of_none test xs parts.1)

all_of_no_fault : {X : Type 0} (test : X → Bool) (xs : List X)
    → list_any (λ x. not (test x)) xs ≡ false → list_all test xs ≡ true
all_of_no_fault test [] none = refl
all_of_no_fault test (x ∷ xs) none =
    let parts = or_parts (not (test x)) _ none in
    and_from (test x) _ (not-false (test x) parts.0) (all_of_no_fault test xs parts.1)

-- where nothing is found in any of a list, nothing is in each
none_in_each : {X Y : Type 0} (f : X → List Y) (xs : List X) → flat_map f xs ≡ []
    → All (λ x. f x ≡ []) xs
none_in_each f [] none = All-nil (λ x. f x ≡ [])
none_in_each f (x ∷ xs) none =
    All-cons (λ x. f x ≡ []) x xs (none_left (f x) (flat_map f xs) none)
    (none_in_each f xs (none_right (f x) (flat_map f xs) none))

-- what isn't placed doesn't fail
no_fault : (fails : Bool) (one : Placed) → (if fails then one ∷ [] else []) ≡ []
    → fails ≡ false
no_fault false one none = refl
no_fault true one none = cc

all_also : {X : Type 0} (P Q R : X → Type 0) (xs : List X) → ((x : X) → P x → Q x → R x)
    → All P xs → All Q xs → All R xs
all_also P Q R xs both first second = λ k d below. both _ (first k d below) (second k d below)

module _ (world : World) (graph : Graph) (same_shapes : graph.shapes ≡ world.shapes) where
  crosses_all : (shape : Shape) → holds_unsent world shape ≡ false
      → list_all (is_sendable graph.shapes) (types_in shape) ≡ true
  crosses_all shape none =
      ap (λ all. list_all (is_sendable all) (types_in shape)) same_shapes
      ∙ all_of_no_fault (is_sendable world.shapes) (types_in shape) none

  -- what a type that declares it is Sendable keeps, by its kind
  keeps : (kind : ShapeKind) (shape : Shape) → (kind ≡ kinds.Actor → ⊥) → shape.actor ≡ None
      → breaks_promise world kind shape ≡ false
      → (list_all (is_sendable graph.shapes) (types_in shape)
      && (not (is_class kind) || list_all (λ (part : Part). not part.mutable) shape.parts)) ≡ true
  keeps kinds.Struct shape other alone none =
      and_from (list_all (is_sendable graph.shapes) (types_in shape)) _ (crosses_all shape none)
      refl
  keeps kinds.Enum shape other alone none =
      and_from (list_all (is_sendable graph.shapes) (types_in shape)) _ (crosses_all shape none)
      refl
  keeps kinds.Class shape other alone none =
      let parts = or_parts (has_var shape) (holds_unsent world shape)
      (sym (ap (λ found. is_none found && (has_var shape || holds_unsent world shape)) alone)
      ∙ none) in
      and_from (list_all (is_sendable graph.shapes) (types_in shape)) _
      (crosses_all shape parts.1)
      (all_of_none (λ (part : Part). part.mutable) shape.parts parts.0)
  keeps kinds.Actor shape other alone none = absurd (other refl)

  shape_clean : (shape : Shape) → IsDeclared shape → shape_races world shape ≡ []
      → ShapeClean graph shape
  shape_clean shape declared none says alone =
      keeps shape.kind shape (λ actor. true≢false (sym says ∙ declared.unsaid actor)) alone
      (sym (ap (λ said. said && breaks_promise world shape.kind shape) says)
      ∙ no_fault (shape.conforms && breaks_promise world shape.kind shape) _ none)

  -- Each type that declares that it is Sendable may.
  pub shapes_clean : All IsDeclared world.shapes → flat_map (shape_races world) world.shapes ≡ []
      → All (ShapeClean graph) graph.shapes
  shapes_clean declared none =
      subst (All (ShapeClean graph)) (sym same_shapes)
      (all_also IsDeclared (λ shape. shape_races world shape ≡ []) (ShapeClean graph) world.shapes
      shape_clean declared (none_in_each (shape_races world) world.shapes none))

  global_clean : (global : GlobalVar) → global_refusals world global ≡ []
      → GlobalClean graph (global_kind global)
  global_clean global none alone =
      let parts = or_parts global.mutable (not (is_sendable world.shapes global.ty))
      (sym (ap (λ found. is_none found
      && (global.mutable || not (is_sendable world.shapes global.ty))) alone)
      ∙ no_fault (is_shared world global) _ none) in
      and_from (not global.mutable) _ (not_from_false global.mutable parts.0)
      (ap (λ all. is_sendable all global.ty) same_shapes
      ∙ not-false (is_sendable world.shapes global.ty) parts.1)

  -- Each global variable that no global actor isolates is a `let` that may cross.
  pub globals_clean : graph.globals ≡ map global_kind world.globals
      → flat_map (global_refusals world) world.globals ≡ []
      → All (GlobalClean graph) graph.globals
  globals_clean same none =
      subst (All (GlobalClean graph)) (sym same)
      (all_mapped world.globals (none_in_each (global_refusals world) world.globals none)) where
        all_mapped : (list : List GlobalVar) → All (λ one. global_refusals world one ≡ []) list
            → All (GlobalClean graph) (map global_kind list)
        all_mapped [] none = All-nil (GlobalClean graph)
        all_mapped (one ∷ list) none =
            All-cons (GlobalClean graph) (global_kind one) (map global_kind list)
            (global_clean one (All-head (λ one. global_refusals world one ≡ []) one list none))
            (all_mapped list (All-tail (λ one. global_refusals world one ≡ []) one list none))
