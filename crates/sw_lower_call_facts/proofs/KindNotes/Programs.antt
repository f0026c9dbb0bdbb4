-- What is noted of a program: the making of an actor has its own kind.
use Rattle.std.proofs.Common.{ℕ, ◌+◌, Bool, true, false, ◌&&◌, cond, List, []}
use Rattle.std.proofs.Common.{◌∷◌, ◌++◌, flat_map, Option, Some, None, slice_get}
use Rattle.std.specs.List.{AllByRecursion}
use Rattle.sw_tree.specs.declared.decl.Decl.{Decl}
use Rattle.sw_tree.specs.declared.decl.Decl.TheVariants.{Entry, Struct, Enum, Class, Actor}
use Rattle.sw_tree.specs.declared.decl.Decl.TheVariants.{GlobalActor, Func, Global}
use Rattle.sw_tree.specs.declared.decl.FuncTree.{FuncTree}
use Rattle.sw_tree.specs.declared.decl.InitTree.{InitTree}
use Rattle.sw_tree.specs.declared.decl.PropTree.{PropTree}
use Rattle.sw_tree.specs.declared.expr.Expr.{Expr}
use Rattle.sw_tree.specs.declared.name.Name.{Name}
use Rattle.sw_tree.specs.declared.stmt.Block.{Block}
use Rattle.sw_types.specs.declared.isolation.Iso.{Iso}
use Rattle.sw_types.specs.declared.shape.Shape.{Shape}
use Rattle.sw_decl_words.specs.Shaped.{written_actor}
use Rattle.sw_decl_words.specs.Words.{shapes_made}
use Rattle.sw_decls.specs.Signatures.{actor_iso}
use Rattle.sw_decls.specs.declared.signature.Signature.{Signature}
use Rattle.sw_typing_rules.specs.Worlds.{World}
use Rattle.sw_isolation_rules.proofs.Each.{each_made, each_some}
use Rattle.sw_isolation_rules.specs.Answers.{Answers}
use Rattle.sw_isolation_rules.specs.Kinds.{shape_iso, is_isolated}
use Rattle.sw_isolation_rules.specs.Noting.{body_note}
use Rattle.sw_isolation_rules.specs.Programs.{getter_notes, value_notes, body_notes, declared_body}
use Rattle.sw_isolation_rules.specs.Programs.{default_notes, inits_notes, init_notes, shape_prop}
use Rattle.sw_isolation_rules.specs.Programs.{prop_notes, global_notes, func_notes, decl_notes}
use Rattle.sw_isolation_rules.specs.Programs.{notes_from, noted, func_at}
use Rattle.sw_isolation_rules.specs.Programs.{context_of, func_context, func_note}
use Rattle.sw_isolation_rules.specs.declared.note.Note.{Note}
use Rattle.sw_isolation_rules.specs.declared.note.Note.TheVariants.{Body, Kind, Refused, Race, Var}
use Rattle.sw_isolation_rules.specs.declared.note.Note.TheVariants.{Mentioned, Captures}
use Rattle.std.proofs.Common.{◌≡◌, Option, Some, None, refl, sym, ◌∙◌, ap, slice_get}
use Rattle.std.specs.Prelude.{◌==◌}
use Rattle.std.proofs.lemmas.Bool.{eqb-true}
use Rattle.sw_types.specs.declared.isolation.CallKind.{CallKind}
use Rattle.sw_isolation_rules.specs.Lists.{kind_with, kinds_in}
use Rattle.sw_isolation_rules.specs.declared.note.Kinded.{Kinded}
use Rattle.sw_lower_call_facts.specs.Making.{KindMakes, NoteMakes}
use Rattle.sw_lower_call_facts.proofs.KindNotes.Noted.{AllMake, join}
use Rattle.sw_lower_call_facts.proofs.KindNotes.Trees.{block_makes, expr_makes}

module _ (world : World) (answers : Answers) where
  make_getter : (prop : PropTree) (iso : Iso) → AllMake world answers (getter_notes prop iso)
  make_getter prop iso = by (prop.mutable && is_isolated iso) where
    by : (is : Bool) → AllMake world answers (cond is (body_note prop.word.at iso false ∷ []) [])
    by true = (tt, tt)
    by false = tt

  make_body : (body : Block) (func : Signature)
      → AllMake world answers (declared_body world answers body func)
  make_body body func = (tt, block_makes world answers body (func_context func) [])

  make_func : (key : ℕ) (body : Block) → AllMake world answers (body_notes world answers key body)
  unfolding body_notes
  make_func key body =
      each_some (NoteMakes world answers) (declared_body world answers body) (make_body body)
      (func_at world answers key)

  make_default : (key : ℕ) → AllMake world answers (default_notes world answers key)
  unfolding default_notes
  make_default key =
      each_some (NoteMakes world answers) (λ func. func_note func ∷ [])
      (λ func. (tt, tt)) (func_at world answers key)

  make_inits : (word : Name) (inits : List InitTree)
      → AllMake world answers (inits_notes world answers word inits)
  make_inits word [] = make_default word.at
  make_inits word (init ∷ inits) =
      each_made (NoteMakes world answers) (init_notes world answers)
      (λ one. make_func one.at one.body) (init ∷ inits)

  make_value : (iso : Iso) (owner : Option ℕ) (value : Option Expr)
      → AllMake world answers (value_notes world answers iso owner value)
  make_value iso owner None = tt
  make_value iso owner (Some value) =
      expr_makes world answers value (context_of iso false owner) []

  make_shape_prop : (number : ℕ) (prop : PropTree) (shape : Shape)
      → AllMake world answers (shape_prop world answers number prop shape)
  make_shape_prop number prop shape =
      join world answers (getter_notes prop (shape_iso shape)) _
      (make_getter prop (shape_iso shape))
      (make_value (shape_iso shape) (Some number) prop.value)

  make_prop : (number : ℕ) (prop : PropTree)
      → AllMake world answers (prop_notes world answers number prop)
  unfolding prop_notes
  make_prop number prop =
      each_some (NoteMakes world answers) (shape_prop world answers number prop)
      (make_shape_prop number prop) (slice_get world.shapes number)

  make_global : (prop : PropTree) → AllMake world answers (global_notes world answers prop)
  unfolding global_notes
  make_global prop =
      let iso = actor_iso (written_actor world.known.top prop.written) in (
        tt,
        join world answers (getter_notes prop iso) (value_notes world answers iso None prop.value)
            (make_getter prop iso) (make_value iso None prop.value),
      )

  make_type : (number : ℕ) (word : Name) (props : List PropTree) (inits : List InitTree)
      (funcs : List FuncTree)
      → AllMake world answers (flat_map (prop_notes world answers number) props
      ++ inits_notes world answers word inits ++ flat_map (func_notes world answers) funcs)
  make_type number word props inits funcs =
      join world answers _ (flat_map (func_notes world answers) funcs)
      (join world answers (flat_map (prop_notes world answers number) props)
      (inits_notes world answers word inits)
      (each_made (NoteMakes world answers) (prop_notes world answers number) (make_prop number)
      props) (make_inits word inits))
      (each_made (NoteMakes world answers) (func_notes world answers)
      (λ func. make_func func.word.at func.body)
      funcs)

  make_decl : (number : ℕ) (decl : Decl)
      → AllMake world answers (decl_notes world answers number decl)
  unfolding decl_notes
  make_decl number (Entry word written at is_async body) = make_func at body
  make_decl number (Struct word conforms fields funcs) =
      each_made (NoteMakes world answers) (func_notes world answers)
      (λ func. make_func func.word.at func.body) funcs
  make_decl number (Enum word conforms cases funcs) =
      each_made (NoteMakes world answers) (func_notes world answers)
      (λ func. make_func func.word.at func.body) funcs
  make_decl number (Class written word conforms props inits funcs) =
      make_type number word props inits funcs
  make_decl number (Actor word props inits funcs) = make_type number word props inits funcs
  make_decl number (GlobalActor word made) = tt
  make_decl number (Func func) = make_func func.word.at func.body
  make_decl number (Global prop) = make_global prop

  make_decls : (decls : List Decl) (number : ℕ)
      → AllMake world answers (notes_from world answers number decls)
  make_decls [] number = tt
  make_decls (decl ∷ decls) number =
      join world answers (decl_notes world answers number decl) _ (make_decl number decl)
      (make_decls decls (number + shapes_made decl))

  kinds_make : (notes : List Note) → AllMake world answers notes
      → AllByRecursion (KindMakes world answers) (kinds_in notes)
  kinds_make [] are = tt
  kinds_make (Body body ∷ notes) are = kinds_make notes are.1
  kinds_make (Kind kinded ∷ notes) are = (are.0, kinds_make notes are.1)
  kinds_make (Refused one ∷ notes) are = kinds_make notes are.1
  kinds_make (Race one ∷ notes) are = kinds_make notes are.1
  kinds_make (Var key ∷ notes) are = kinds_make notes are.1
  kinds_make (Mentioned one ∷ notes) are = kinds_make notes are.1
  kinds_make (Captures held ∷ notes) are = kinds_make notes are.1

  with_makes : (list : List Kinded) (at : ℕ) (kind : CallKind)
      → AllByRecursion (KindMakes world answers) list → kind_with list at ≡ Some kind
      → KindMakes world answers (record { at = at; kind = kind })
  with_makes [] at kind are found = cc
  with_makes (one ∷ list) at kind are found =
      by (one.at == at) refl found (with_makes list at kind are.1) where
        by : (same : Bool) → (one.at == at) ≡ same
            → cond same (Some one.kind) (kind_with list at) ≡ Some kind
            → (kind_with list at ≡ Some kind
            → KindMakes world answers (record { at = at; kind = kind }))
            → KindMakes world answers (record { at = at; kind = kind })
        by true same is later =
            let here : one.at ≡ at = eqb-true one.at at same in
            let kinds_are : one.kind ≡ kind = cc in
            λ k shape meant there actor. sym kinds_are
            ∙ are.0 k shape (ap answers.meaning_at here ∙ meant) there actor
        by false same is later = later is

  -- The kind that is found at the making of an actor is that of making one.
  pub makes_by_kind : (decls : List Decl) (at : ℕ) (kind : CallKind)
      → kind_with (kinds_in (noted world answers decls)) at ≡ Some kind
      → KindMakes world answers (record { at = at; kind = kind })
  makes_by_kind decls at kind found =
      with_makes (kinds_in (noted world answers decls)) at kind
      (kinds_make (noted world answers decls) (make_decls decls 0)) found
