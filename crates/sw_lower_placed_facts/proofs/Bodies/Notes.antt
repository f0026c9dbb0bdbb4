-- What is noted of each part of a declaration is noted of the program.
use Rattle.std.proofs.Common.{◌≡◌, ℕ, Bool, false, List, [], ◌∷◌, ◌++◌, flat_map, Option, Some}
use Rattle.std.proofs.Common.{Contains, sym, subst}
use Rattle.std.proofs.lemmas.List.Elements.{Contains-append_left, Contains-append_right}
use Rattle.std.specs.Prelude.{slice_get}
use Rattle.sw_list.proofs.Members.{in_flat_map, none_in}
use Rattle.sw_tree.specs.declared.decl.Decl.{Decl}
use Rattle.sw_tree.specs.declared.decl.Decl.TheVariants.{Entry, Struct, Enum, Class, Actor}
use Rattle.sw_tree.specs.declared.decl.Decl.TheVariants.{GlobalActor, Func, Global}
use Rattle.sw_tree.specs.declared.decl.FuncTree.{FuncTree}
use Rattle.sw_tree.specs.declared.decl.InitTree.{InitTree}
use Rattle.sw_tree.specs.declared.decl.PropTree.{PropTree}
use Rattle.sw_tree.specs.declared.decl.Written.{Written}
use Rattle.sw_tree.specs.declared.expr.Expr.{Expr}
use Rattle.sw_tree.specs.declared.name.Name.{Name}
use Rattle.sw_tree.specs.declared.stmt.Block.{Block}
use Rattle.sw_types.specs.declared.isolation.Iso.{Iso}
use Rattle.sw_types.specs.declared.shape.Shape.{Shape}
use Rattle.sw_decls.specs.declared.signature.Signature.{Signature}
use Rattle.sw_typing_rules.specs.Worlds.{World}
use Rattle.sw_isolation_rules.specs.Answers.{Answers}
use Rattle.sw_isolation_rules.specs.Kinds.{shape_iso}
use Rattle.sw_isolation_rules.specs.Noting.{block_notes, see}
use Rattle.sw_isolation_rules.specs.Programs.{body_notes, context_of, decl_notes, declared_body}
use Rattle.sw_isolation_rules.specs.Programs.{func_at, func_context, func_notes, getter_notes}
use Rattle.sw_isolation_rules.specs.Programs.{global_notes, init_notes, inits_notes, noted}
use Rattle.sw_isolation_rules.specs.Programs.{prop_notes, shape_prop, value_notes}
use Rattle.sw_isolation_rules.specs.declared.note.Note.{Note}
use Rattle.sw_lower_formed_facts.proofs.Headers.Signed.{for_found}
use Rattle.sw_typing_facts.proofs.Lists.Listed.{in_rest, only_in}
use Rattle.sw_typing_facts.proofs.Programs.DeclParts.{funcs_in, inits_in, props_in}
use Rattle.sw_typing_facts.proofs.Programs.Standing.{Stands}
use Rattle.sw_lower_placed_facts.proofs.Settling.NotedGetters.{decl_noted}

-- These notes are among those.
abbrev pub AreIn : List Note → List Note → Type 0
AreIn all some = (note : Note) → Contains some note → Contains all note

module _ (world : World) (answers : Answers) (decls : List Decl) where
  abbrev all : List Note
  all = noted world answers decls

  -- functions and methods
  tree_in : (n : ℕ) (decl : Decl) (tree : FuncTree) → Contains (funcs_in decl) tree
      → AreIn (decl_notes world answers n decl) (func_notes world answers tree)
  unfolding decl_notes
  tree_in n (Entry word written at is_async body) tree has note noted = absurd (none_in tree has)
  tree_in n (Struct word conforms fields funcs) tree has note noted =
      in_flat_map (func_notes world answers) funcs tree note has noted
  tree_in n (Enum word conforms cases funcs) tree has note noted =
      in_flat_map (func_notes world answers) funcs tree note has noted
  tree_in n (Class written word conforms props inits funcs) tree has note noted =
      Contains-append_right
      (flat_map (prop_notes world answers n) props ++ inits_notes world answers word inits)
      (flat_map (func_notes world answers) funcs) note
      (in_flat_map (func_notes world answers) funcs tree note has noted)
  tree_in n (Actor word props inits funcs) tree has note noted =
      Contains-append_right
      (flat_map (prop_notes world answers n) props ++ inits_notes world answers word inits)
      (flat_map (func_notes world answers) funcs) note
      (in_flat_map (func_notes world answers) funcs tree note has noted)
  tree_in n (GlobalActor word made) tree has note noted = absurd (none_in tree has)
  tree_in n (Func func) tree has note noted =
      let same : func ≡ tree = only_in func tree has in
      subst (λ one. Contains (func_notes world answers one) note) (sym same) noted
  tree_in n (Global prop) tree has note noted = absurd (none_in tree has)

  -- initialisers
  each_init_in : (word : Name) (inits : List InitTree) (init : InitTree) → Contains inits init
      → AreIn (inits_notes world answers word inits) (init_notes world answers init)
  each_init_in word [] init has note noted = absurd (none_in init has)
  each_init_in word (first ∷ inits) init has note noted =
      in_flat_map (init_notes world answers) (first ∷ inits) init note has noted

  middle_in : (before here after some : List Note) → AreIn here some
      → AreIn (before ++ here ++ after) some
  middle_in before here after some among note has =
      Contains-append_left (before ++ here) after note
      (Contains-append_right before here note (among note has))

  init_in : (n : ℕ) (decl : Decl) (init : InitTree) → Contains (inits_in decl) init
      → AreIn (decl_notes world answers n decl) (init_notes world answers init)
  unfolding decl_notes
  init_in n (Entry word written at is_async body) init has = absurd (none_in init has)
  init_in n (Struct word conforms fields funcs) init has = absurd (none_in init has)
  init_in n (Enum word conforms cases funcs) init has = absurd (none_in init has)
  init_in n (Class written word conforms props inits funcs) init has =
      middle_in (flat_map (prop_notes world answers n) props)
      (inits_notes world answers word inits) (flat_map (func_notes world answers) funcs)
      (init_notes world answers init) (each_init_in word inits init has)
  init_in n (Actor word props inits funcs) init has =
      middle_in (flat_map (prop_notes world answers n) props)
      (inits_notes world answers word inits) (flat_map (func_notes world answers) funcs)
      (init_notes world answers init) (each_init_in word inits init has)
  init_in n (GlobalActor word made) init has = absurd (none_in init has)
  init_in n (Func func) init has = absurd (none_in init has)
  init_in n (Global prop) init has = absurd (none_in init has)

  -- properties
  first_of_three : (xs ys zs some : List Note) → AreIn xs some
      → AreIn (xs ++ ys ++ zs) some
  first_of_three xs ys zs some among note has =
      Contains-append_left (xs ++ ys) zs note
      (Contains-append_left xs ys note (among note has))

  prop_in : (n : ℕ) (decl : Decl) (prop : PropTree) → Contains (props_in decl) prop
      → AreIn (decl_notes world answers n decl) (prop_notes world answers n prop)
  unfolding decl_notes
  prop_in n (Entry word written at is_async body) prop has = absurd (none_in prop has)
  prop_in n (Struct word conforms fields funcs) prop has = absurd (none_in prop has)
  prop_in n (Enum word conforms cases funcs) prop has = absurd (none_in prop has)
  prop_in n (Class written word conforms props inits funcs) prop has =
      first_of_three (flat_map (prop_notes world answers n) props)
      (inits_notes world answers word inits) (flat_map (func_notes world answers) funcs)
      (prop_notes world answers n prop) (λ note noted.
      in_flat_map (prop_notes world answers n) props prop note has noted)
  prop_in n (Actor word props inits funcs) prop has =
      first_of_three (flat_map (prop_notes world answers n) props)
      (inits_notes world answers word inits) (flat_map (func_notes world answers) funcs)
      (prop_notes world answers n prop) (λ note noted.
      in_flat_map (prop_notes world answers n) props prop note has noted)
  prop_in n (GlobalActor word made) prop has = absurd (none_in prop has)
  prop_in n (Func func) prop has = absurd (none_in prop has)
  prop_in n (Global global) prop has = absurd (none_in prop has)

  -- what is noted of the block of a body
  body_in : (key : ℕ) (block : Block) (func : Signature) → func_at world answers key ≡ Some func
      → AreIn (body_notes world answers key block)
      (block_notes world answers block (func_context func) [])
  unfolding body_notes
  body_in key block func found note has =
      for_found (func_at world answers key) func (declared_body world answers block) note found
      (in_rest _ (block_notes world answers block (func_context func) []) note has)

  -- what is noted of a property of a shape
  shape_in : (n : ℕ) (prop : PropTree) (shape : Shape) → slice_get world.shapes n ≡ Some shape
      → AreIn (prop_notes world answers n prop) (shape_prop world answers n prop shape)
  unfolding prop_notes
  shape_in n prop shape there note has =
      for_found (slice_get world.shapes n) shape (shape_prop world answers n prop) note there has

  value_in : (isolation : Iso) (owner : Option ℕ) (found : Option Expr) (value : Expr)
      → found ≡ Some value
      → AreIn (value_notes world answers isolation owner found)
      ((see world answers value).notes (context_of isolation false owner) [])
  value_in isolation owner found value is note has =
      subst (λ some. Contains (value_notes world answers isolation owner some) note) (sym is) has

  module _ (n g : ℕ) (decl : Decl) (stands : Stands decls n g decl) where
    -- the block of a function or a method
    pub tree_noted : (tree : FuncTree) (func : Signature) → Contains (funcs_in decl) tree
        → func_at world answers tree.word.at ≡ Some func
        → AreIn all (block_notes world answers tree.body (func_context func) [])
    tree_noted tree func has found note noted =
        decl_noted world answers decls n g decl note stands
        (tree_in n decl tree has note (body_in tree.word.at tree.body func found note noted))

    -- that of an initialiser
    pub init_noted : (init : InitTree) (func : Signature) → Contains (inits_in decl) init
        → func_at world answers init.at ≡ Some func
        → AreIn all (block_notes world answers init.body (func_context func) [])
    init_noted init func has found note noted =
        decl_noted world answers decls n g decl note stands
        (init_in n decl init has note (body_in init.at init.body func found note noted))

    prop_noted : (prop : PropTree) (shape : Shape) → Contains (props_in decl) prop
        → slice_get world.shapes n ≡ Some shape
        → AreIn all (shape_prop world answers n prop shape)
    prop_noted prop shape has there note noted =
        decl_noted world answers decls n g decl note stands
        (prop_in n decl prop has note (shape_in n prop shape there note noted))

    -- the getter of a property, and its first value
    pub prop_getter_noted : (prop : PropTree) (shape : Shape) → Contains (props_in decl) prop
        → slice_get world.shapes n ≡ Some shape → AreIn all (getter_notes prop (shape_iso shape))
    prop_getter_noted prop shape has there note noted =
        prop_noted prop shape has there note
        (Contains-append_left (getter_notes prop (shape_iso shape)) _ note noted)

    pub prop_value_noted : (prop : PropTree) (shape : Shape) (value : Expr)
        → Contains (props_in decl) prop → slice_get world.shapes n ≡ Some shape
        → prop.value ≡ Some value
        → AreIn all
        ((see world answers value).notes (context_of (shape_iso shape) false (Some n)) [])
    prop_value_noted prop shape value has there is note noted =
        prop_noted prop shape has there note
        (Contains-append_right (getter_notes prop (shape_iso shape)) _ note
        (value_in (shape_iso shape) (Some n) prop.value value is note noted))

  -- the block of the entry
  pub entry_noted : (n g : ℕ) (word : Name) (written : Written) (at : ℕ) (is_async : Bool)
      (body : Block) (func : Signature) → Stands decls n g (Entry word written at is_async body)
      → func_at world answers at ≡ Some func
      → AreIn all (block_notes world answers body (func_context func) [])
  unfolding decl_notes
  entry_noted n g word written at is_async body func stands found note noted =
      decl_noted world answers decls n g (Entry word written at is_async body) note stands
      (body_in at body func found note noted)

  -- a global variable
  pub global_noted : (n g : ℕ) (prop : PropTree) → Stands decls n g (Global prop)
      → AreIn all (global_notes world answers prop)
  unfolding decl_notes
  global_noted n g prop stands note noted =
      decl_noted world answers decls n g (Global prop) note stands noted
