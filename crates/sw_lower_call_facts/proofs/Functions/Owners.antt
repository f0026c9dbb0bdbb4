-- The functions that are isolated to `self` are those of actors.
use Rattle.std.proofs.Common.{◌≡◌, ℕ, ◌+◌, Bool, true, false, List, [], ◌∷◌, map, Option}
use Rattle.std.proofs.Common.{Some, None, Contains, refl, sym, ap, ◌∙◌, inl, inr, length}
use Rattle.std.proofs.lemmas.List.Elements.{Contains-append_cases}
use Rattle.std.proofs.lemmas.List.Sorted.{Contains-permutation, IsPermutation-sym}
use Rattle.std.specs.Prelude.{◌==◌, if◌then◌else◌}
use Rattle.sw_list.proofs.Members.{none_in}
use Rattle.sw_tree.specs.declared.decl.Decl.{Decl}
use Rattle.sw_tree.specs.declared.decl.Decl.TheVariants.{Entry, Struct, Enum, Class, Actor}
use Rattle.sw_tree.specs.declared.decl.Decl.TheVariants.{GlobalActor, Func, Global}
use Rattle.sw_tree.specs.declared.decl.FuncTree.{FuncTree}
use Rattle.sw_tree.specs.declared.decl.InitTree.{InitTree}
use Rattle.sw_tree.specs.declared.decl.PropTree.{PropTree}
use Rattle.sw_tree.specs.declared.decl.Written.{Written}
use Rattle.sw_tree.specs.declared.decl.Written.TheVariants.{Absent, At, Nonisolated, Concurrent}
use Rattle.sw_tree.specs.declared.decl.Written.TheVariants.{Nonsending}
use Rattle.sw_tree.specs.declared.name.Name.{Name}
use Rattle.sw_tree.proofs.Members.{of_map}
use Rattle.sw_types.specs.declared.isolation.Iso.{Iso}
use Rattle.sw_types.specs.declared.isolation.Iso.TheVariants as iso
use Rattle.sw_types.specs.declared.shape.ShapeKind.TheVariants as kinds
use Rattle.sw_decl_words.specs.Evident.{meanings_of}
use Rattle.sw_decl_words.specs.Shaped.{part_of, shape_of, written_actor}
use Rattle.sw_decl_words.specs.Words.{shapes_made, top_meaning}
use Rattle.sw_decl_words.specs.declared.words.Meaning.{Meaning}
use Rattle.sw_decls.specs.Signatures.{actor_iso, async_iso, func_iso, func_of, funcs_from, funcs_of}
use Rattle.sw_decls.specs.Signatures.{init_of, inits_of, with_default}
use Rattle.sw_decls.specs.declared.signature.AsyncDefault.{AsyncDefault}
use Rattle.sw_decls.specs.declared.signature.AsyncDefault.TheVariants as default
use Rattle.sw_decls.specs.declared.signature.Signature.{Signature}
use Rattle.sw_typing_rules.specs.Worlds.{IsWorldOf, World}
use Rattle.sw_decl_words.specs.Words.{globals_made}
use Rattle.sw_typing_facts.proofs.Lists.Listed.{only_in}
use Rattle.sw_typing_facts.proofs.Programs.DeclStands.{shape_there}
use Rattle.sw_typing_facts.proofs.Programs.Standing.{Stands, StandsFrom}
use Rattle.sw_lower_call_facts.specs.Taking.{IsActorAt, IsOfActor}

-- a global actor's isolation, or none, is not to `self`
pub actor_not_own : (actor : Option ℕ) → actor_iso actor ≡ iso.Own → ⊥
actor_not_own None is = cc
actor_not_own (Some number) is = cc

async_not_own : (rule : AsyncDefault) (is_async : Bool) → async_iso rule is_async ≡ iso.Own → ⊥
async_not_own default.Concurrent is_async is = cc
async_not_own default.Caller false is = cc
async_not_own default.Caller true is = cc

default_own : (rule : AsyncDefault) (is_async : Bool) (owner : Iso)
    → with_default rule is_async owner ≡ iso.Own → owner ≡ iso.Own
default_own rule is_async iso.Free is = absurd (async_not_own rule is_async is)
default_own rule is_async iso.Own is = refl
default_own rule is_async (iso.Global number) is = cc
default_own rule is_async iso.Caller is = cc

-- A function is isolated to `self` only where its type is an actor.
pub func_own : (known : ℕ → Option Meaning) (rule : AsyncDefault) (owner : Iso) (is_async : Bool)
    (written : Written) → func_iso known rule owner is_async written ≡ iso.Own → owner ≡ iso.Own
func_own known rule owner is_async Absent is = default_own rule is_async owner is
func_own known rule owner is_async (At name) is =
    absurd (actor_not_own (written_actor known (At name))
    (default_own rule is_async (actor_iso (written_actor known (At name))) is))
func_own known rule owner is_async Nonisolated is = absurd (async_not_own rule is_async is)
func_own known rule owner is_async Concurrent is = cc
func_own known rule owner is_async Nonsending is = cc

-- the isolation and the type of an initialiser
init_among : (known : ℕ → Option Meaning) (word : Name) (n : ℕ) (isolation : Iso) (none : Bool)
    (func : Signature)
    → Contains (if none then init_of known word n isolation [] ∷ [] else []) func
    → (func.owner ≡ Some n) × (func.iso ≡ isolation)
init_among known word n isolation true func has =
    let is = only_in (init_of known word n isolation []) func has in
    (ap (λ (f : Signature). f.owner) (sym is), ap (λ (f : Signature). f.iso) (sym is))
init_among known word n isolation false func has = absurd (none_in func has)

pub init_is : (known : ℕ → Option Meaning) (word : Name) (n : ℕ) (isolation : Iso)
    (inits : List InitTree) (func : Signature)
    → Contains (inits_of known word n isolation inits) func
    → (func.owner ≡ Some n) × (func.iso ≡ isolation)
init_is known word n isolation inits func has =
    elim (Contains-append_cases
    (if length inits == 0 then init_of known word n isolation [] ∷ [] else [])
    (map (λ (one : InitTree). init_of known (record { at = one.at; id = word.id }) n isolation
    one.params) inits) func has) [
      | inl here ↦ init_among known word n isolation (length inits == 0) func here
      | inr there ↦ let (one, among, is) = of_map (λ (one : InitTree).
          init_of known (record { at = one.at; id = word.id }) n isolation one.params) inits func
          there in
          (ap (λ (f : Signature). f.owner) (sym is), ap (λ (f : Signature). f.iso) (sym is))
    ]

-- the isolation and the type of a method
method_is : (known : ℕ → Option Meaning) (rule : AsyncDefault) (owner : Option ℕ) (isolation : Iso)
    (funcs : List FuncTree) (func : Signature)
    → Contains (map (func_of known rule owner isolation) funcs) func → func.iso ≡ iso.Own
    → (func.owner ≡ owner) × (isolation ≡ iso.Own)
method_is known rule owner isolation funcs func has own =
    let (tree, among, is) = of_map (func_of known rule owner isolation) funcs func has in (
      ap (λ (f : Signature). f.owner) (sym is),
      func_own known rule isolation tree.is_async tree.written
          (ap (λ (f : Signature). f.iso) is ∙ own),
    )

free_not_own : iso.Free ≡ iso.Own → ⊥
free_not_own is = cc

module _ (decls : List Decl) (rule : AsyncDefault) (world : World)
    (is_world : IsWorldOf decls rule world) where
  abbrev known : ℕ → Option Meaning
  known = top_meaning decls

  -- an actor's shape
  pub actor_at : (n g : ℕ) (word : Name) (props : List PropTree) (inits : List InitTree)
      (funcs : List FuncTree) → Stands decls n g (Actor word props inits funcs)
      → IsActorAt world.shapes n
  unfolding shape_of
  actor_at n g word props inits funcs stands = record {
    shape = record {
      kind = kinds.Actor;
      at = word.at;
      conforms = false;
      actor = None;
      parts = map (part_of (meanings_of decls) (Some n)) props;
      cases = [];
    };
    at = shape_there decls rule world is_world n g (Actor word props inits funcs) _ stands refl;
    is = refl;
  }

  of_decl : (n g : ℕ) (decl : Decl) (func : Signature) → Stands decls n g decl
      → Contains (funcs_of known rule n decl) func → func.iso ≡ iso.Own
      → IsOfActor world.shapes func
  unfolding funcs_of
  of_decl n g (Entry word written at is_async body) func stands has own =
      absurd (actor_not_own (written_actor known written)
      (ap (λ (f : Signature). f.iso) (only_in _ func has) ∙ own))
  of_decl n g (Struct word conforms fields funcs) func stands has own =
      absurd (free_not_own (method_is known rule (Some n) iso.Free funcs func has own).1)
  of_decl n g (Enum word conforms cases funcs) func stands has own =
      absurd (free_not_own (method_is known rule (Some n) iso.Free funcs func has own).1)
  of_decl n g (Class written word conforms props inits funcs) func stands has own =
      let actor = written_actor known written in
      elim (Contains-append_cases (inits_of known word n (actor_iso actor) inits)
      (map (func_of known rule (Some n) (actor_iso actor)) funcs) func has) [
        | inl here ↦ absurd (actor_not_own actor
            (sym (init_is known word n (actor_iso actor) inits func here).1 ∙ own))
        | inr there ↦ absurd (actor_not_own actor
            (method_is known rule (Some n) (actor_iso actor) funcs func there own).1)
      ]
  of_decl n g (Actor word props inits funcs) func stands has own =
      let actor = actor_at n g word props inits funcs stands in
      elim (Contains-append_cases (inits_of known word n iso.Own inits)
      (map (func_of known rule (Some n) iso.Own) funcs) func has) [
        | inl here ↦ record {
          k = n;
          owner = (init_is known word n iso.Own inits func here).0;
          actor = actor;
        }
        | inr there ↦ record {
          k = n;
          owner = (method_is known rule (Some n) iso.Own funcs func there own).0;
          actor = actor;
        }
      ]
  of_decl n g (GlobalActor word made) func stands has own = absurd (none_in func has)
  of_decl n g (Func tree) func stands has own =
      let is = only_in (func_of known rule None iso.Free tree) func has in
      absurd (free_not_own (func_own known rule iso.Free tree.is_async tree.written
      (ap (λ (f : Signature). f.iso) is ∙ own)))
  of_decl n g (Global prop) func stands has own = absurd (none_in func has)

  of_decls : (number index : ℕ) (some : List Decl) (func : Signature)
      → ((n g : ℕ) (decl : Decl) → StandsFrom number index some n g decl → Stands decls n g decl)
      → Contains (funcs_from known rule number some) func → func.iso ≡ iso.Own
      → IsOfActor world.shapes func
  of_decls number index [] func stand has own = absurd (none_in func has)
  of_decls number index (decl ∷ some) func stand has own =
      elim (Contains-append_cases (funcs_of known rule number decl)
      (funcs_from known rule (number + shapes_made decl) some) func has) [
        | inl here ↦
            of_decl number index decl func (stand number index decl (inl (refl, refl, refl))) here
            own
        | inr there ↦
            of_decls (number + shapes_made decl) (index + globals_made decl) some func
            (λ n g one later. stand n g one (inr later)) there own
      ]

  -- A function that is isolated to `self` is one of an actor.
  pub owner_is_actor : (func : Signature) → Contains world.funcs func → func.iso ≡ iso.Own
      → IsOfActor world.shapes func
  owner_is_actor func has own =
      of_decls 0 0 decls func (λ n g decl stands. stands)
      (Contains-permutation world.funcs (funcs_from known rule 0 decls) func
      (IsPermutation-sym (funcs_from known rule 0 decls) world.funcs is_world.funcs) has) own
