-- The initialiser of a class is isolated to no `self`.
use Rattle.std.proofs.Common.{◌≡◌, ℕ, List, [], ◌∷◌, map, flat_map, Option, Some}
use Rattle.std.proofs.Common.{Contains, refl, sym, ap, subst, ◌∙◌, length, Bool}
use Rattle.std.proofs.lemmas.List.Elements.{Contains-append_left, Contains-append_right}
use Rattle.std.proofs.lemmas.List.Sorted.{Contains-permutation}
use Rattle.std.proofs.lemmas.Option.{same_Some}
use Rattle.std.specs.Prelude.{◌==◌, if◌then◌else◌, slice_get}
use Rattle.sw_tree.specs.Contents.{AreKeyed}
use Rattle.sw_tree.specs.declared.decl.Decl.{Decl}
use Rattle.sw_tree.specs.declared.decl.Decl.TheVariants.{Entry, Struct, Enum, Class, Actor}
use Rattle.sw_tree.specs.declared.decl.Decl.TheVariants.{GlobalActor, Func, Global}
use Rattle.sw_tree.specs.declared.decl.InitTree.{InitTree}
use Rattle.sw_tree.specs.declared.decl.PropTree.{PropTree}
use Rattle.sw_tree.specs.declared.name.Name.{Name}
use Rattle.sw_types.specs.declared.isolation.Iso.{Iso}
use Rattle.sw_types.specs.declared.isolation.Iso.TheVariants as iso
use Rattle.sw_types.specs.declared.shape.Shape.{Shape}
use Rattle.sw_types.specs.declared.shape.ShapeKind.TheVariants as kinds
use Rattle.sw_graph.specs.declared.function.Function.{Function}
use Rattle.sw_decl_words.specs.Evident.{meanings_of}
use Rattle.sw_decl_words.specs.Shaped.{shape_of, written_actor}
use Rattle.sw_decl_words.specs.Words.{top_meaning}
use Rattle.sw_decl_words.specs.declared.words.Meaning.{Meaning}
use Rattle.sw_lower_total_facts.specs.Known.{IsMade}
use Rattle.sw_tree.specs.declared.decl.FuncTree.{FuncTree}
use Rattle.sw_tree.specs.declared.decl.Written.{Written}
use Rattle.sw_tree.proofs.Members.{in_map}
use Rattle.sw_decls.specs.Declaring.{init_key, key_place, maker_keys}
use Rattle.sw_decls.specs.Signatures.{actor_iso, func_of, funcs_of, init_of, inits_of}
use Rattle.sw_decls.specs.declared.signature.AsyncDefault.{AsyncDefault}
use Rattle.sw_decls.specs.declared.signature.Signature.{Signature}
use Rattle.sw_typing_rules.specs.Worlds.{IsWorldOf, and_then, item}
use Rattle.sw_isolation_rules.specs.Programs.{func_at}
use Rattle.sw_isolation_rules.specs.Uses.{maker_at}
use Rattle.sw_lower_code.specs.Whole.{Body, function_of}
use Rattle.sw_lower_rules.specs.Bodies.{AreNumbered, AreOrdered, decl_bodies}
use Rattle.sw_lower_rules.specs.Bodies.{func_tree_bodies, functions_of}
use Rattle.sw_lower_rules.specs.Bodies.{inits_bodies, numbers_of}
use Rattle.sw_lower_rules.specs.Bodies.{program_bodies, prop_getters, signed}
use Rattle.sw_lower_rules.specs.Tables.{Tables, plain}
use Rattle.sw_lower_formed_facts.proofs.Headers.FoundFuncs.{func_is}
use Rattle.sw_typing_facts.proofs.Lists.Listed.{between, in_first}
use Rattle.sw_typing_facts.proofs.Programs.DeclStands.{shape_there}
use Rattle.sw_typing_facts.proofs.Programs.MadeOf.{func_stands}
use Rattle.sw_lower_formed_facts.proofs.Bodies.MadeOf.{body_stands}
use Rattle.sw_typing_facts.proofs.Programs.Standing.{Stands}
use Rattle.sw_lower_total_facts.proofs.Programs.Objects.{object_at}
use Rattle.sw_lower_call_facts.proofs.Functions.Methods.{function_is}
use Rattle.sw_lower_call_facts.proofs.Functions.Owners.{actor_not_own, init_is}
use Rattle.sw_lower_call_facts.proofs.Functions.Signed.{IsSigned, maker_body_signed, signed_among}

-- the signature of the initialiser that makes a type
maker_signed : (known : ℕ → Option Meaning) (word : Name) (n : ℕ) (isolation : Iso)
    (inits : List InitTree)
    → (one : Signature) × Contains (inits_of known word n isolation inits) one
    × (key_place one ≡ init_key word.at inits)
maker_signed known word n isolation [] =
    (init_of known word n isolation [], in_first (init_of known word n isolation []) [], refl)
maker_signed known word n isolation (init ∷ inits) =
    let signature : InitTree → Signature = λ (one : InitTree).
    init_of known (record { at = one.at; id = word.id }) n isolation one.params in (
      signature init,
      Contains-append_right
          (if length (init ∷ inits) == 0 then init_of known word n isolation [] ∷ [] else [])
          (map signature (init ∷ inits)) (signature init)
          (in_map signature (init ∷ inits) init (in_first init inits)),
      refl,
    )

module _ (tables : Tables) (decls : List Decl) (rule : AsyncDefault) (keyed : AreKeyed decls)
    (is_world : IsWorldOf decls rule tables.world) (ordered : List Body)
    (are : AreOrdered tables decls ordered) (numbered : AreNumbered ordered) where
  abbrev known : ℕ → Option Meaning
  known = top_meaning decls

  -- a function with the number of a signature has its isolation
  signed_iso : (func : Signature) (f : ℕ) (function : Function)
      → IsSigned tables (program_bodies tables decls) func
      → numbers_of ordered (plain func.key.at) ≡ Some f
      → slice_get (functions_of ordered) f ≡ Some function → function.iso ≡ func.iso
  unfolding function_of
  signed_iso func f function one found there =
      let body = signed tables func one.takes one.code in
      ap (λ (f : Function). f.iso)
      (sym (function_is (program_bodies tables decls) ordered body f function numbered
      (Contains-permutation (program_bodies tables decls) ordered body are.bodies one.has) found
      there))

  in_class : (k g : ℕ) (written : Written) (word : Name) (conforms : Bool) (props : List PropTree)
      (inits : List InitTree) (funcs : List FuncTree) (shape : Shape) (func : Signature) (f : ℕ)
      (function : Function) → Stands decls k g (Class written word conforms props inits funcs)
      → slice_get tables.world.shapes k ≡ Some shape
      → func_at tables.world tables.answers (init_key word.at inits) ≡ Some func
      → numbers_of ordered (plain func.key.at) ≡ Some f
      → slice_get (functions_of ordered) f ≡ Some function → function.iso ≡ iso.Own → ⊥
  unfolding decl_bodies funcs_of
  in_class k g written word conforms props inits funcs shape func f function stands at made found
      there own =
      let decl = Class written word conforms props inits funcs in
      let actor = written_actor known written in
      let (one, among, key) = maker_signed known word k (actor_iso actor) inits in
      let same = func_is decls rule tables.world tables.answers keyed is_world
      (init_key word.at inits) func one made
      (func_stands known rule decls k g decl one stands
      (Contains-append_left (inits_of known word k (actor_iso actor) inits)
      (map (func_of known rule (Some k) (actor_iso actor)) funcs) one among)) key in
      let has = signed_among tables (inits_bodies tables k props word inits)
      (program_bodies tables decls) func
      (λ body inside. body_stands tables decls k g decl body stands
      (between (prop_getters tables k 0 props) (inits_bodies tables k props word inits)
      (flat_map (func_tree_bodies tables) funcs) body inside))
      (maker_body_signed tables k props shape at word inits func made) in
      actor_not_own actor
      (sym (init_is known word k (actor_iso actor) inits one among).1
      ∙ sym (ap (λ (f : Signature). f.iso) same)
      ∙ sym (signed_iso func f function has found there) ∙ own)

  -- a declaration whose shape is another's kind
  other_kind : (k g : ℕ) (decl : Decl) (shape made : Shape) → Stands decls k g decl
      → slice_get tables.world.shapes k ≡ Some shape
      → slice_get (shape_of (meanings_of decls) k decl) 0 ≡ Some made → shape.kind ≡ made.kind
  other_kind k g decl shape made stands at is =
      ap (λ (s : Shape). s.kind) (same_Some shape made
      (sym at ∙ shape_there decls rule tables.world is_world k g decl made stands is))

  by_decl : (k g : ℕ) (decl : Decl) (key : ℕ) (shape : Shape) (func : Signature) (f : ℕ)
      (function : Function) → Stands decls k g decl → maker_keys decl ≡ key ∷ []
      → slice_get tables.world.shapes k ≡ Some shape → shape.kind ≡ kinds.Class
      → func_at tables.world tables.answers key ≡ Some func
      → numbers_of ordered (plain func.key.at) ≡ Some f
      → slice_get (functions_of ordered) f ≡ Some function → function.iso ≡ iso.Own → ⊥
  unfolding shape_of
  by_decl k g (Entry word written at is_async body) key shape func f function stands makes there
      class made found here own = cc
  by_decl k g (Struct word conforms fields funcs) key shape func f function stands makes there
      class made found here own =
      cc (other_kind k g (Struct word conforms fields funcs) shape _ stands there refl, class)
  by_decl k g (Enum word conforms cases funcs) key shape func f function stands makes there class
      made found here own =
      cc (other_kind k g (Enum word conforms cases funcs) shape _ stands there refl, class)
  by_decl k g (Class written word conforms props inits funcs) key shape func f function stands
      makes there class made found here own =
      in_class k g written word conforms props inits funcs shape func f function stands there
      (ap (func_at tables.world tables.answers)
      (let same : init_key word.at inits ≡ key = cc in same) ∙ made) found here own
  by_decl k g (Actor word props inits funcs) key shape func f function stands makes there class
      made found here own =
      cc (other_kind k g (Actor word props inits funcs) shape _ stands there refl, class)
  by_decl k g (GlobalActor word given) key shape func f function stands makes there class made
      found here own = cc
  by_decl k g (Func tree) key shape func f function stands makes there class made found here own =
      cc
  by_decl k g (Global prop) key shape func f function stands makes there class made found here own =
      cc

  -- The initialiser of a class is isolated to no `self`.
  pub class_maker_free : (k f : ℕ) (shape : Shape) (func : Signature) (function : Function)
      → slice_get tables.world.shapes k ≡ Some shape → shape.kind ≡ kinds.Class
      → maker_at tables.world k ≡ Some func → numbers_of ordered (plain func.key.at) ≡ Some f
      → slice_get (functions_of ordered) f ≡ Some function → function.iso ≡ iso.Own → ⊥
  unfolding maker_at func_at
  class_maker_free k f shape func function there class made found at own =
      let one = object_at decls rule tables.world is_world k shape there
      (subst IsMade (sym class) tt) in
      by_decl k one.g one.decl (init_key one.object.word.at one.object.inits) shape func f function
      one.stands one.object.maker there class
      (sym (ap (λ found. item (and_then found tables.world.numbers) tables.world.funcs) one.maker)
      ∙ made) found at own
