-- A global variable of a program has a declaration.
use Rattle.std.proofs.Common.{◌≡◌, ℕ, Some, List, [], ◌∷◌, refl, ap, sym, ◌∙◌, subst, arith}
use Rattle.std.proofs.lemmas.Option.{same_Some}
use Rattle.std.specs.Prelude.{slice_get}
use Rattle.sw_tree.specs.declared.decl.Decl.{Decl}
use Rattle.sw_tree.specs.declared.decl.Decl.TheVariants.{Entry, Struct, Enum, Class, Actor}
use Rattle.sw_tree.specs.declared.decl.Decl.TheVariants.{GlobalActor, Func, Global}
use Rattle.sw_tree.specs.declared.decl.PropTree.{PropTree}
use Rattle.sw_decl_words.specs.Evident.{Meanings, meanings_of}
use Rattle.sw_decls.specs.Signatures.{global_of}
use Rattle.sw_decls.specs.declared.signature.AsyncDefault.{AsyncDefault}
use Rattle.sw_decls.specs.declared.signature.GlobalVar.{GlobalVar}
use Rattle.sw_typing_rules.specs.Worlds.{IsWorldOf, World}
use Rattle.sw_decl_words.specs.Words.{globals_made}
use Rattle.sw_typing_facts.proofs.Programs.DeclStands.{globals_counted, made_flat, one_global}
use Rattle.sw_typing_facts.proofs.Programs.Standing.{PlaceOf, Stands, place_of_thing}

-- the declaration of a global variable with a number
pub record GlobalAt (decls : List Decl) (g : ℕ) (global : GlobalVar) : Type 0 where
  pub n : ℕ
  pub prop : PropTree
  pub stands : Stands decls n g (Global prop)
  pub key : prop.word.at ≡ global.key.at

global_stands : (decls : List Decl) (n g : ℕ) (decl : Decl) (global : GlobalVar)
    → Stands decls n g decl → global_of (meanings_of decls) decl ≡ global ∷ []
    → GlobalAt decls g global
global_stands decls n g (Entry word written at is_async body) global stands is = cc
global_stands decls n g (Struct word conforms fields funcs) global stands is = cc
global_stands decls n g (Enum word conforms cases funcs) global stands is = cc
global_stands decls n g (Class written word conforms props inits funcs) global stands is = cc
global_stands decls n g (Actor word props inits funcs) global stands is = cc
global_stands decls n g (GlobalActor word made) global stands is = cc
global_stands decls n g (Func func) global stands is = cc
global_stands decls n g (Global prop) global stands is = record {
  n = n;
  prop = prop;
  stands = stands;
  key = ap (λ (one : GlobalVar). one.key.at)
      (same_Some _ global (ap (λ globals. slice_get globals 0) is));
}

-- A global variable has a declaration.
pub global_at : (decls : List Decl) (rule : AsyncDefault) (world : World)
    → IsWorldOf decls rule world → (g : ℕ) (global : GlobalVar)
    → slice_get world.globals g ≡ Some global → GlobalAt decls g global
global_at decls rule world is g global at =
    global_stands decls place.n g place.decl global
    (subst (λ h. Stands decls place.n h place.decl)
    (let same : place.g ≡ g = omega (arith, place.at) in same) place.stands) place.is
  where
    known : Meanings
    known = meanings_of decls

    place : PlaceOf (λ n g decl. global_of known decl) (λ n g. g) globals_made
        (λ n g decl. refl) (λ n g decl. globals_counted known decl) one_global 0 0 decls g global
    place = place_of_thing (λ n g decl. global_of known decl) (λ n g. g) globals_made
        (λ n g decl. refl) (λ n g decl. globals_counted known decl) one_global 0 0 decls g global
        (ap (λ globals. slice_get globals g)
        (sym (is.globals ∙ made_flat (global_of known) 0 0 decls)) ∙ at)
