-- Getters of global variables are found by the keys of these.
use Rattle.std.proofs.Common.{◌≡◌, ℕ, Some, List, [], ◌⊎◌, inl, inr, refl, ap, sym, ◌∙◌, arith}
use Rattle.std.proofs.lemmas.Option.{same_Some}
use Rattle.std.specs.Prelude.{slice_get}
use Rattle.sw_tree.specs.Contents.{AreKeyed}
use Rattle.sw_tree.specs.declared.decl.Decl.{Decl}
use Rattle.sw_tree.specs.declared.decl.Decl.TheVariants.{Global}
use Rattle.sw_decls.specs.declared.signature.AsyncDefault.{AsyncDefault}
use Rattle.sw_decls.specs.declared.signature.GlobalVar.{GlobalVar}
use Rattle.sw_typing_rules.specs.Worlds.{IsWorldOf, World}
use Rattle.sw_isolation_rules.specs.Answers.{Answers}
use Rattle.sw_lower_code.specs.Whole.{Body}
use Rattle.sw_lower_rules.specs.Bodies.{AreNumbered, AreOrdered, functions_of, numbers_of}
use Rattle.sw_lower_rules.specs.Bodies.{tables_of}
use Rattle.sw_lower_rules.specs.Tables.{Isolation, Tables, getter_of}
use Rattle.sw_lower_formed_facts.specs.Ground.{IsHeader}
use Rattle.sw_lower_formed_facts.proofs.Functions.Takes.{kinds_of}
use Rattle.sw_lower_formed_facts.proofs.Headers.ByName.{header_as}
use Rattle.sw_lower_formed_facts.proofs.Headers.FoundGetters.{GetterAt, getter_at}
use Rattle.sw_lower_formed_facts.proofs.Headers.Getters.{GlobalGetter, IsObjectDecl, PartGetter, props_of}
use Rattle.sw_typing_facts.proofs.Programs.GlobalDecls.{GlobalAt, global_at}
use Rattle.sw_typing_facts.proofs.Programs.Keyed.{one_place}
use Rattle.sw_lower_formed_facts.proofs.Programs.PropKeys.{global_key_in, no_props, prop_key_in}

module _ (world : World) (answers : Answers) (isolation : Isolation) (decls : List Decl)
    (rule : AsyncDefault) (keys : AreKeyed decls)
    (is : IsWorldOf decls rule world) (ordered : List Body)
    (are : AreOrdered (tables_of world answers isolation decls) decls ordered)
    (numbered : AreNumbered ordered) where
  abbrev tables : Tables
  tables = tables_of world answers isolation decls

  -- the getter of a global variable that is found by its key
  pub record GlobalGetterAt (f : ℕ) (global : GlobalVar) : Type 0 where
    pub one : GetterAt world answers isolation decls rule keys is ordered are numbered
        global.key.at f
    pub of : GlobalGetter tables one.g one.decl one.body
    pub global_is : of.global ≡ global

  pub global_getter_at : (g f : ℕ) (global : GlobalVar)
      → slice_get world.globals g ≡ Some global
      → numbers_of ordered (getter_of global.key.at) ≡ Some f → GlobalGetterAt f global
  global_getter_at g f global at found = by one.whose where
    declared : GlobalAt decls g global
    declared = global_at decls rule world is g global at

    one : GetterAt world answers isolation decls rule keys is ordered are numbered
        global.key.at f
    one = getter_at world answers isolation decls rule keys is ordered are numbered
        global.key.at f found

    by : (IsObjectDecl one.decl × PartGetter tables one.n 0 (props_of one.decl) one.body)
        ⊎ GlobalGetter tables one.g one.decl one.body → GlobalGetterAt f global
    by (inl of) =
        let part = of.1 in
        let key : part.prop.word.at ≡ global.key.at = sym part.key ∙ one.key_is in
        let same = one_place decls one.n one.g one.decl declared.n g (Global declared.prop)
        global.key.at keys one.stands declared.stands
        (prop_key_in one.decl part.place part.prop global.key.at part.prop_at key)
        (global_key_in (Global declared.prop) declared.prop global.key.at refl declared.key) in
        absurd (no_props one.decl declared.prop part.prop part.place same.same part.prop_at)
    by (inr other) =
        let key : other.prop.word.at ≡ global.key.at = sym other.key ∙ one.key_is in
        let same = one_place decls one.n one.g one.decl declared.n g (Global declared.prop)
        global.key.at keys one.stands declared.stands
        (global_key_in one.decl other.prop global.key.at other.decl_is key)
        (global_key_in (Global declared.prop) declared.prop global.key.at refl declared.key) in
        let index : one.g ≡ g = omega (arith, same.globals) in record {
          one = one;
          of = other;
          global_is = same_Some other.global global
              (sym other.global_at ∙ ap (slice_get world.globals) index ∙ at);
        }

  -- the getter of a global variable
  pub global_getter_headers : (g f : ℕ) (global : GlobalVar)
      → slice_get world.globals g ≡ Some global
      → numbers_of ordered (getter_of global.key.at) ≡ Some f
      → IsHeader (functions_of ordered) [] global.ty f
  global_getter_headers g f global at found =
      let it = global_getter_at g f global at found in
      header_as (functions_of ordered) (kinds_of it.one.body) [] it.one.body.result global.ty f
      it.of.takes (it.of.gives ∙ ap (λ (x : GlobalVar). x.ty) it.global_is) it.one.header
