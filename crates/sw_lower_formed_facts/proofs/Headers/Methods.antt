-- Methods are found by their names.
use Rattle.std.proofs.Common.{◌≡◌, ℕ, Option, Some, List, [], ◌∷◌, ◌++◌, map, Contains, refl, ap}
use Rattle.std.proofs.Common.{sym, ◌∙◌, subst}
use Rattle.std.proofs.lemmas.List.Elements.{Contains-append_right}
use Rattle.std.specs.Prelude.{flat_map, slice_get}
use Rattle.sw_list.proofs.Members.{in_flat_map, none_in}
use Rattle.sw_tree.specs.Contents.{AreKeyed}
use Rattle.sw_tree.specs.declared.decl.Decl.{Decl}
use Rattle.sw_tree.specs.declared.decl.Decl.TheVariants.{Entry, Struct, Enum, Class, Actor}
use Rattle.sw_tree.specs.declared.decl.Decl.TheVariants.{GlobalActor, Func, Global}
use Rattle.sw_tree.specs.declared.decl.FuncTree.{FuncTree}
use Rattle.sw_tree.proofs.Members.{in_map}
use Rattle.sw_types.specs.declared.isolation.Iso.{Iso}
use Rattle.sw_types.specs.declared.isolation.Iso.TheVariants as iso
use Rattle.sw_types.specs.declared.shape.Shape.{Shape}
use Rattle.sw_types.specs.declared.ty.Ty.TheVariants as types
use Rattle.sw_graph.specs.declared.function.RegKind.TheVariants.{Plain}
use Rattle.sw_decl_words.specs.Evident.{meanings_of}
use Rattle.sw_decl_words.specs.Shaped.{written_actor}
use Rattle.sw_decl_words.specs.Words.{shapes_made, top_meaning}
use Rattle.sw_decl_words.specs.declared.members.Member.{Member}
use Rattle.sw_decl_words.specs.declared.members.Role.TheVariants.{Method}
use Rattle.sw_decl_words.specs.declared.words.Meaning.{Meaning}
use Rattle.sw_decls.specs.Signatures.{actor_iso, func_of, funcs_of, inits_of}
use Rattle.sw_decls.specs.declared.signature.AsyncDefault.{AsyncDefault}
use Rattle.sw_decls.specs.declared.signature.Signature.{Signature}
use Rattle.sw_typing_rules.specs.Programs.{bodies_of, func_body, init_body}
use Rattle.sw_typing_rules.specs.Worlds.{IsWorldOf, World}
use Rattle.sw_isolation_rules.specs.Answers.{Answers, for_some}
use Rattle.sw_lower_code.specs.Whole.{Body}
use Rattle.sw_lower_rules.specs.Bodies.{AreNumbered, AreOrdered, decl_bodies, func_tree_bodies}
use Rattle.sw_lower_rules.specs.Bodies.{functions_of, inits_bodies, numbers_of, prop_getters}
use Rattle.sw_lower_rules.specs.Bodies.{self_by, self_taken, tables_of}
use Rattle.sw_lower_rules.specs.Tables.{Isolation, Tables, plain}
use Rattle.sw_lower_formed_facts.specs.Ground.{IsHeader, params_of}
use Rattle.sw_lower_formed_facts.proofs.Headers.ParamTypes.{AreAnswered, kind_of}
use Rattle.sw_lower_formed_facts.proofs.Headers.Signed.{tree_header}
use Rattle.sw_typing_facts.proofs.Programs.MadeOf.{shape_stands}
use Rattle.sw_typing_facts.proofs.Programs.MemberTrees.{method_place, trees_of}

-- the isolation of what a type declares
abbrev actor_of : (ℕ → Option Meaning) → Decl → Iso
actor_of known (Entry word written at is_async body) = iso.Free
actor_of known (Struct word conforms fields funcs) = iso.Free
actor_of known (Enum word conforms cases funcs) = iso.Free
actor_of known (Class written word conforms props inits funcs) =
    actor_iso (written_actor known written)
actor_of known (Actor word props inits funcs) = iso.Own
actor_of known (GlobalActor word made) = iso.Free
actor_of known (Func func) = iso.Free
actor_of known (Global global) = iso.Free

-- what is made of a method
method_declared : (known : ℕ → Option Meaning) (rule : AsyncDefault) (n : ℕ) (decl : Decl)
    (tree : FuncTree) → Contains (trees_of decl) tree
    → Contains (funcs_of known rule n decl)
    (func_of known rule (Some n) (actor_of known decl) tree)
unfolding funcs_of
method_declared known rule n (Entry word written at is_async body) tree has =
    absurd (none_in tree has)
method_declared known rule n (Struct word conforms fields funcs) tree has =
    in_map (func_of known rule (Some n) iso.Free) funcs tree has
method_declared known rule n (Enum word conforms cases funcs) tree has =
    in_map (func_of known rule (Some n) iso.Free) funcs tree has
method_declared known rule n (Class written word conforms props inits funcs) tree has =
    let actor = actor_iso (written_actor known written) in
    Contains-append_right (inits_of known word n actor inits)
    (map (func_of known rule (Some n) actor) funcs) (func_of known rule (Some n) actor tree)
    (in_map (func_of known rule (Some n) actor) funcs tree has)
method_declared known rule n (Actor word props inits funcs) tree has =
    Contains-append_right (inits_of known word n iso.Own inits)
    (map (func_of known rule (Some n) iso.Own) funcs) (func_of known rule (Some n) iso.Own tree)
    (in_map (func_of known rule (Some n) iso.Own) funcs tree has)
method_declared known rule n (GlobalActor word made) tree has = absurd (none_in tree has)
method_declared known rule n (Func func) tree has = absurd (none_in tree has)
method_declared known rule n (Global global) tree has = absurd (none_in tree has)

method_typed : (world : World) (n : ℕ) (decl : Decl) (tree : FuncTree)
    → Contains (trees_of decl) tree
    → Contains (bodies_of world n decl) (func_body world (Some n) tree)
unfolding bodies_of
method_typed world n (Entry word written at is_async body) tree has = absurd (none_in tree has)
method_typed world n (Struct word conforms fields funcs) tree has =
    in_map (func_body world (Some n)) funcs tree has
method_typed world n (Enum word conforms cases funcs) tree has =
    in_map (func_body world (Some n)) funcs tree has
method_typed world n (Class written word conforms props inits funcs) tree has =
    Contains-append_right (map (init_body n) inits) (map (func_body world (Some n)) funcs)
    (func_body world (Some n) tree) (in_map (func_body world (Some n)) funcs tree has)
method_typed world n (Actor word props inits funcs) tree has =
    Contains-append_right (map (init_body n) inits) (map (func_body world (Some n)) funcs)
    (func_body world (Some n) tree) (in_map (func_body world (Some n)) funcs tree has)
method_typed world n (GlobalActor word made) tree has = absurd (none_in tree has)
method_typed world n (Func func) tree has = absurd (none_in tree has)
method_typed world n (Global global) tree has = absurd (none_in tree has)

-- after the getters and the initialisers of an object's type
object_made : (tables : Tables) (getters inits : List Body) (funcs : List FuncTree)
    (tree : FuncTree) (body : Body) → Contains funcs tree
    → Contains (func_tree_bodies tables tree) body
    → Contains (getters ++ inits ++ flat_map (func_tree_bodies tables) funcs) body
object_made tables getters inits funcs tree body has is =
    Contains-append_right (getters ++ inits) (flat_map (func_tree_bodies tables) funcs) body
    (in_flat_map (func_tree_bodies tables) funcs tree body has is)

pub method_made : (tables : Tables) (n g : ℕ) (decl : Decl) (tree : FuncTree)
    → Contains (trees_of decl) tree → (body : Body) → Contains (func_tree_bodies tables tree) body
    → Contains (decl_bodies tables n g decl) body
unfolding decl_bodies
method_made tables n g (Entry word written at is_async block) tree has body is =
    absurd (none_in tree has)
method_made tables n g (Struct word conforms fields funcs) tree has body is =
    in_flat_map (func_tree_bodies tables) funcs tree body has is
method_made tables n g (Enum word conforms cases funcs) tree has body is =
    in_flat_map (func_tree_bodies tables) funcs tree body has is
method_made tables n g (Class written word conforms props inits funcs) tree has body is =
    object_made tables (prop_getters tables n 0 props) (inits_bodies tables n props word inits)
    funcs tree body has is
method_made tables n g (Actor word props inits funcs) tree has body is =
    object_made tables (prop_getters tables n 0 props) (inits_bodies tables n props word inits)
    funcs tree body has is
method_made tables n g (GlobalActor word made) tree has body is = absurd (none_in tree has)
method_made tables n g (Func func) tree has body is = absurd (none_in tree has)
method_made tables n g (Global global) tree has body is = absurd (none_in tree has)

-- a type with methods makes a shape
pub method_shape : (decl : Decl) (tree : FuncTree) → Contains (trees_of decl) tree
    → shapes_made decl ≡ 1
method_shape (Entry word written at is_async body) tree has = absurd (none_in tree has)
method_shape (Struct word conforms fields funcs) tree has = refl
method_shape (Enum word conforms cases funcs) tree has = refl
method_shape (Class written word conforms props inits funcs) tree has = refl
method_shape (Actor word props inits funcs) tree has = refl
method_shape (GlobalActor word made) tree has = absurd (none_in tree has)
method_shape (Func func) tree has = absurd (none_in tree has)
method_shape (Global global) tree has = absurd (none_in tree has)

-- `self` has the type
self_kinds : (tables : Tables) (n : ℕ) (shape : Shape)
    → slice_get tables.world.shapes n ≡ Some shape
    → map kind_of (self_taken tables (Some n)) ≡ Plain (types.Named n) ∷ []
self_kinds tables n shape at =
    ap (λ found. map kind_of (for_some found (λ shape. self_by n shape ∷ []))) at

module _ (world : World) (answers : Answers) (isolation : Isolation) (decls : List Decl)
    (rule : AsyncDefault) (keys : AreKeyed decls)
    (is : IsWorldOf decls rule world) (ordered : List Body)
    (are : AreOrdered (tables_of world answers isolation decls) decls ordered)
    (numbered : AreNumbered ordered) (typed_once : AreAnswered world answers decls) where
  -- the method that a name means
  pub method_headers : (k id n f : ℕ) (member : Member) (func : Signature)
      → world.known.members k id ≡ Some member → member.role ≡ Method
      → world.numbers member.word.at ≡ Some n → slice_get world.funcs n ≡ Some func
      → numbers_of ordered (plain func.key.at) ≡ Some f
      → IsHeader (functions_of ordered) (Plain (types.Named k) ∷ params_of func) func.result f
  method_headers k id n f member func meant role number at found =
      let tables = tables_of world answers isolation decls in
      let one = method_place decls k id member (sym (is.members k id) ∙ meant) role in
      let (shape, there) = shape_stands (meanings_of decls) decls one.n one.g one.decl one.stands
      (method_shape one.decl one.tree one.has) in
      subst (λ number. IsHeader (functions_of ordered) (Plain (types.Named number) ∷ params_of func)
      func.result f) one.there
      (tree_header world answers isolation decls rule keys is ordered are numbered typed_once
      one.n one.g one.decl (Some one.n) (actor_of (top_meaning decls) one.decl) one.tree
      (Plain (types.Named one.n) ∷ []) one.stands
      (method_declared (top_meaning decls) rule one.n one.decl one.tree one.has)
      (method_typed world one.n one.decl one.tree one.has)
      (method_made tables one.n one.g one.decl one.tree one.has)
      (self_kinds tables one.n shape (ap (λ shapes. slice_get shapes one.n) is.shapes ∙ there))
      member.word.at n f func one.word number at found)
