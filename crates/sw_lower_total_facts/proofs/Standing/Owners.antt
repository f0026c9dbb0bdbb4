-- The function that is found by the key of a declaration's function is a member of the declaration.
use Rattle.std.proofs.Common.{◌≡◌, ℕ, Bool, List, [], ◌∷◌, ◌++◌, map, Option, None, Some, Contains}
use Rattle.std.proofs.Common.{refl, ap, ◌∙◌}
use Rattle.std.proofs.lemmas.List.Elements.{Contains-append_left, Contains-append_right}
use Rattle.sw_list.proofs.Members.{none_in}
use Rattle.sw_tree.specs.Contents.{AreKeyed}
use Rattle.sw_tree.specs.declared.decl.Decl.{Decl}
use Rattle.sw_tree.specs.declared.decl.Decl.TheVariants.{Entry, Struct, Enum, Class, Actor}
use Rattle.sw_tree.specs.declared.decl.Decl.TheVariants.{GlobalActor, Func, Global}
use Rattle.sw_tree.specs.declared.decl.FuncTree.{FuncTree}
use Rattle.sw_tree.specs.declared.decl.InitTree.{InitTree}
use Rattle.sw_tree.specs.declared.decl.Written.{Written}
use Rattle.sw_tree.specs.declared.name.Name.{Name}
use Rattle.sw_tree.specs.declared.stmt.Block.{Block}
use Rattle.sw_tree.proofs.Members.{in_map}
use Rattle.sw_types.specs.declared.isolation.Iso.{Iso}
use Rattle.sw_types.specs.declared.isolation.Iso.TheVariants as iso
use Rattle.sw_decl_words.specs.Shaped.{written_actor}
use Rattle.sw_decl_words.specs.Words.{top_meaning}
use Rattle.sw_decls.specs.Declaring.{key_place}
use Rattle.sw_decls.specs.Signatures.{actor_iso, func_of, funcs_of, init_of, inits_of}
use Rattle.sw_decls.specs.declared.signature.AsyncDefault.{AsyncDefault}
use Rattle.sw_decls.specs.declared.signature.Signature.{Signature}
use Rattle.sw_typing_rules.specs.Worlds.{IsWorldOf, World}
use Rattle.sw_isolation_rules.specs.Answers.{Answers}
use Rattle.sw_isolation_rules.specs.Programs.{func_at}
use Rattle.sw_lower_formed_facts.proofs.Headers.FoundFuncs.{func_is}
use Rattle.sw_typing_facts.proofs.Lists.Listed.{in_first}
use Rattle.sw_typing_facts.proofs.Programs.DeclParts.{funcs_in, inits_in}
use Rattle.sw_typing_facts.proofs.Programs.MadeOf.{func_stands}
use Rattle.sw_typing_facts.proofs.Programs.Standing.{Stands}
use Rattle.sw_lower_total_facts.proofs.Standing.Ordered.{owner_of}

-- a signature that is declared with a key, and its type
record HasOwner (signatures : List Signature) (key : ℕ) (owner : Option ℕ) : Type 0 where
  one : Signature
  has : Contains signatures one
  keyed : key_place one ≡ key
  owned : one.owner ≡ owner

module _ (decls : List Decl) (rule : AsyncDefault) (n : ℕ) where
  abbrev made : Decl → List Signature
  made decl = funcs_of (top_meaning decls) rule n decl

  -- a function
  func_has : (owner : Option ℕ) (around : Iso) (before : List Signature) (funcs : List FuncTree)
      (tree : FuncTree) → Contains funcs tree
      → HasOwner (before ++ map (func_of (top_meaning decls) rule owner around) funcs)
      tree.word.at owner
  func_has owner around before funcs tree has = record {
    one = func_of (top_meaning decls) rule owner around tree;
    has = Contains-append_right before _ _
        (in_map (func_of (top_meaning decls) rule owner around) funcs tree has);
    keyed = refl;
    owned = refl;
  }

  func_made : (decl : Decl) (tree : FuncTree) → Contains (funcs_in decl) tree
      → HasOwner (made decl) tree.word.at (owner_of n decl)
  unfolding funcs_of
  func_made (Entry word written at is_async body) tree has = absurd (none_in tree has)
  func_made (Struct word conforms fields funcs) tree has =
      func_has (Some n) iso.Free [] funcs tree has
  func_made (Enum word conforms cases funcs) tree has =
      func_has (Some n) iso.Free [] funcs tree has
  func_made (Class written word conforms props inits funcs) tree has =
      let around = actor_iso (written_actor (top_meaning decls) written) in
      func_has (Some n) around (inits_of (top_meaning decls) word n around inits) funcs tree has
  func_made (Actor word props inits funcs) tree has =
      func_has (Some n) iso.Own (inits_of (top_meaning decls) word n iso.Own inits) funcs tree has
  func_made (GlobalActor word made) tree has = absurd (none_in tree has)
  func_made (Func func) tree has = func_has None iso.Free [] (func ∷ []) tree has
  func_made (Global prop) tree has = absurd (none_in tree has)

  -- an initialiser
  init_has : (word : Name) (around : Iso) (inits : List InitTree) (more : List Signature)
      (init : InitTree) → Contains inits init
      → HasOwner (inits_of (top_meaning decls) word n around inits ++ more) init.at (Some n)
  init_has word around inits more init has = record {
    one = make init;
    has = Contains-append_left (inits_of (top_meaning decls) word n around inits) more _
        (Contains-append_right _ (map make inits) _ (in_map make inits init has));
    keyed = refl;
    owned = refl;
  } where
    make : InitTree → Signature
    make one =
        init_of (top_meaning decls) (record { at = one.at; id = word.id }) n around one.params

  init_made : (decl : Decl) (init : InitTree) → Contains (inits_in decl) init
      → HasOwner (made decl) init.at (owner_of n decl)
  unfolding funcs_of
  init_made (Entry word written at is_async body) init has = absurd (none_in init has)
  init_made (Struct word conforms fields funcs) init has = absurd (none_in init has)
  init_made (Enum word conforms cases funcs) init has = absurd (none_in init has)
  init_made (Class written word conforms props inits funcs) init has =
      init_has word (actor_iso (written_actor (top_meaning decls) written)) inits _ init has
  init_made (Actor word props inits funcs) init has = init_has word iso.Own inits _ init has
  init_made (GlobalActor word made) init has = absurd (none_in init has)
  init_made (Func func) init has = absurd (none_in init has)
  init_made (Global prop) init has = absurd (none_in init has)

  -- the entry
  entry_made : (word : Name) (written : Written) (at : ℕ) (is_async : Bool) (body : Block)
      → HasOwner (made (Entry word written at is_async body)) at None
  unfolding funcs_of
  entry_made word written at is_async body =
      record { one = _; has = in_first _ []; keyed = refl; owned = refl }

module _ (decls : List Decl) (rule : AsyncDefault) (world : World) (answers : Answers)
    (keyed : AreKeyed decls) (is : IsWorldOf decls rule world) (n g : ℕ) (decl : Decl)
    (stands : Stands decls n g decl) where
  owned : (key : ℕ) (owner : Option ℕ) (func : Signature)
      → HasOwner (funcs_of (top_meaning decls) rule n decl) key owner
      → func_at world answers key ≡ Some func → func.owner ≡ owner
  owned key owner func made found =
      ap (λ (one : Signature). one.owner)
      (func_is decls rule world answers keyed is key func made.one found
      (func_stands (top_meaning decls) rule decls n g decl made.one stands made.has) made.keyed)
      ∙ made.owned

  -- What is found by the key of a member belongs to the type around it.
  pub func_owner : (tree : FuncTree) (func : Signature) → Contains (funcs_in decl) tree
      → func_at world answers tree.word.at ≡ Some func → func.owner ≡ owner_of n decl
  func_owner tree func has =
      owned tree.word.at (owner_of n decl) func (func_made decls rule n decl tree has)

  pub init_owner : (init : InitTree) (func : Signature) → Contains (inits_in decl) init
      → func_at world answers init.at ≡ Some func → func.owner ≡ owner_of n decl
  init_owner init func has =
      owned init.at (owner_of n decl) func (init_made decls rule n decl init has)

-- The entry belongs to no type.
pub entry_owner : (decls : List Decl) (rule : AsyncDefault) (world : World) (answers : Answers)
    → AreKeyed decls → IsWorldOf decls rule world → (n g : ℕ) (word : Name) (written : Written)
    (at : ℕ) (is_async : Bool) (body : Block) (func : Signature)
    → Stands decls n g (Entry word written at is_async body)
    → func_at world answers at ≡ Some func → func.owner ≡ None
entry_owner decls rule world answers keyed is n g word written at is_async body func stands =
    owned decls rule world answers keyed is n g (Entry word written at is_async body) stands at None
    func (entry_made decls rule n word written at is_async body)
