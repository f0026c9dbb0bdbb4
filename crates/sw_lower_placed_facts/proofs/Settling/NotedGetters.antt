-- What is noted of the getters of properties and of global variables.
use Rattle.std.proofs.Common.{◌≡◌, ℕ, ◌+◌, Bool, true, false, List, [], ◌∷◌, ◌++◌, flat_map, Some}
use Rattle.std.proofs.Common.{Contains, refl, ap, sym, ◌∙◌, subst}
use Rattle.std.proofs.lemmas.List.Elements.{Contains-append_left}
use Rattle.std.proofs.lemmas.Option.{same_Some}
use Rattle.std.specs.Prelude.{◌&&◌, if◌then◌else◌, slice_get}
use Rattle.sw_list.proofs.Members.{in_flat_map}
use Rattle.sw_tree.specs.declared.decl.Decl.{Decl}
use Rattle.sw_tree.specs.declared.decl.Decl.TheVariants.{Actor, Class, Entry, Enum, Func, Global}
use Rattle.sw_tree.specs.declared.decl.Decl.TheVariants.{GlobalActor, Struct}
use Rattle.sw_tree.specs.declared.decl.PropTree.{PropTree}
use Rattle.sw_types.specs.declared.shape.Shape.{Shape}
use Rattle.sw_decl_words.specs.Evident.{Meanings, meanings_of}
use Rattle.sw_decl_words.specs.Shaped.{written_actor}
use Rattle.sw_decl_words.specs.Words.{shapes_made}
use Rattle.sw_decls.specs.Signatures.{actor_iso, global_of}
use Rattle.sw_decls.specs.declared.signature.AsyncDefault.{AsyncDefault}
use Rattle.sw_decls.specs.declared.signature.GlobalVar.{GlobalVar}
use Rattle.sw_typing_rules.specs.Worlds.{IsWorldOf, World}
use Rattle.sw_isolation_rules.specs.Answers.{Answers}
use Rattle.sw_isolation_rules.specs.Kinds.{is_isolated, shape_iso}
use Rattle.sw_isolation_rules.specs.Noting.{body_note}
use Rattle.sw_isolation_rules.specs.Programs.{decl_notes, func_notes, getter_notes, global_notes}
use Rattle.sw_isolation_rules.specs.Programs.{inits_notes, noted, notes_from, prop_notes}
use Rattle.sw_isolation_rules.specs.Programs.{shape_prop, value_notes}
use Rattle.sw_isolation_rules.specs.declared.note.Note.{Note}
use Rattle.sw_decl_words.specs.Words.{globals_made}
use Rattle.sw_lower_formed_facts.proofs.Headers.Getters.{IsObjectDecl, props_of}
use Rattle.sw_lower_formed_facts.proofs.Headers.Signed.{for_found}
use Rattle.sw_typing_facts.proofs.Lists.Listed.{in_first, in_place}
use Rattle.sw_typing_facts.proofs.Programs.DeclStands.{global_there, known_is}
use Rattle.sw_typing_facts.proofs.Programs.Standing.{Stands, made_by_one, made_from}

module _ (world : World) (answers : Answers) (decls : List Decl) where
  -- what is noted of a program is noted of its declarations
  notes_are : (number index : ℕ) (some : List Decl)
      → notes_from world answers number some
      ≡ made_from (λ n g decl. decl_notes world answers n decl) number index some
  notes_are number index [] = refl
  notes_are number index (decl ∷ some) =
      ap (λ more. decl_notes world answers number decl ++ more)
      (notes_are (number + shapes_made decl) (index + globals_made decl) some)

  pub decl_noted : (n g : ℕ) (decl : Decl) (note : Note) → Stands decls n g decl
      → Contains (decl_notes world answers n decl) note → Contains (noted world answers decls) note
  decl_noted n g decl note stands has =
      subst (λ notes. Contains notes note) (sym (notes_are 0 0 decls))
      (made_by_one (λ n g decl. decl_notes world answers n decl) 0 0 decls n g decl note stands
      has)

  -- a property of a class or an actor, which has a getter
  module _ (n : ℕ) (prop : PropTree) (shape : Shape)
      (there : slice_get world.shapes n ≡ Some shape)
      (isolated : (prop.mutable && is_isolated (shape_iso shape)) ≡ true) where
    abbrev note : Note
    note = body_note prop.word.at (shape_iso shape) false

    getter_noted : Contains (getter_notes prop (shape_iso shape)) note
    getter_noted =
        subst (λ (some : Bool). Contains (if some then note ∷ [] else []) note) (sym isolated)
        (in_first note [])

    prop_noted : Contains (prop_notes world answers n prop) note
    unfolding prop_notes
    prop_noted =
        for_found (slice_get world.shapes n) shape (shape_prop world answers n prop) note there
        (Contains-append_left (getter_notes prop (shape_iso shape))
        (value_notes world answers (shape_iso shape) (Some n) prop.value) note getter_noted)

    in_props : (props : List PropTree) (second third : List Note) → Contains props prop
        → Contains (flat_map (prop_notes world answers n) props ++ second ++ third) note
    in_props props second third has =
        let first = flat_map (prop_notes world answers n) props in
        Contains-append_left (first ++ second) third note
        (Contains-append_left first second note
        (in_flat_map (prop_notes world answers n) props prop note has prop_noted))

    in_object : (decl : Decl) → IsObjectDecl decl → Contains (props_of decl) prop
        → Contains (decl_notes world answers n decl) note
    unfolding decl_notes
    in_object (Entry word written at is_async body) object has = absurd object
    in_object (Struct word conforms fields funcs) object has = absurd object
    in_object (Enum word conforms cases funcs) object has = absurd object
    in_object (Class written word conforms props inits funcs) object has =
        in_props props (inits_notes world answers word inits)
        (flat_map (func_notes world answers) funcs) has
    in_object (Actor word props inits funcs) object has =
        in_props props (inits_notes world answers word inits)
        (flat_map (func_notes world answers) funcs) has
    in_object (GlobalActor word made) object has = absurd object
    in_object (Func func) object has = absurd object
    in_object (Global other) object has = absurd object

  pub part_noted : (n g place : ℕ) (decl : Decl) (prop : PropTree) (shape : Shape)
      → Stands decls n g decl → IsObjectDecl decl → slice_get (props_of decl) place ≡ Some prop
      → slice_get world.shapes n ≡ Some shape
      → (prop.mutable && is_isolated (shape_iso shape)) ≡ true
      → Contains (noted world answers decls) (body_note prop.word.at (shape_iso shape) false)
  part_noted n g place decl prop shape stands object at there isolated =
      decl_noted n g decl (body_note prop.word.at (shape_iso shape) false) stands
      (in_object n prop shape there isolated decl object (in_place (props_of decl) place prop at))

  -- a global variable
  pub global_noted : (rule : AsyncDefault) → IsWorldOf decls rule world → (n g : ℕ)
      (prop : PropTree) (global : GlobalVar) → Stands decls n g (Global prop)
      → slice_get world.globals g ≡ Some global
      → Contains (noted world answers decls)
      (body_note prop.word.at (actor_iso global.actor) false)
  unfolding global_notes decl_notes
  global_noted rule is n g prop global stands there =
      let made : slice_get (global_of (meanings_of decls) (Global prop)) 0
      ≡ slice_get world.globals g =
      sym (global_there decls rule world is n g (Global prop) _ stands refl) in
      let actor : written_actor world.known.top prop.written ≡ global.actor =
      ap (λ (known : Meanings). written_actor known.top prop.written)
      (known_is decls rule world is)
      ∙ ap (λ (one : GlobalVar). one.actor) (same_Some _ global (made ∙ there)) in
      decl_noted n g (Global prop) (body_note prop.word.at (actor_iso global.actor) false) stands
      (subst (λ actor. Contains (global_notes world answers prop)
      (body_note prop.word.at (actor_iso actor) false)) actor
      (in_first (body_note prop.word.at
      (actor_iso (written_actor world.known.top prop.written)) false) _))
