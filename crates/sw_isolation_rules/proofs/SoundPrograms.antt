-- The codes of a program's breaches, and that what its closures capture are outer variables.
use Rattle.std.proofs.Common.{ℕ, ◌+◌, ◌≤◌, ◌<◌, Bool, true, false, ◌&&◌, cond, List, []}
use Rattle.std.proofs.Common.{◌∷◌, ◌++◌, map, flat_map, Option, Some, None, Contains, slice_get}
use Rattle.std.proofs.Common.{arith}
use Rattle.std.proofs.lemmas.List.Elements.{All-contains, All-from_recursion}
use Rattle.std.specs.List.{AllByRecursion}
use Rattle.sw_tree.specs.declared.decl.Decl.{Decl}
use Rattle.sw_tree.specs.declared.decl.Decl.TheVariants.{Entry, Struct, Enum, Class, Actor}
use Rattle.sw_tree.specs.declared.decl.Decl.TheVariants.{GlobalActor, Func, Global}
use Rattle.sw_tree.specs.declared.decl.FuncTree.{FuncTree}
use Rattle.sw_tree.specs.declared.decl.InitTree.{InitTree}
use Rattle.sw_tree.specs.declared.decl.PropTree.{PropTree}
use Rattle.sw_tree.specs.declared.expr.Expr.{Expr}
use Rattle.sw_tree.specs.declared.name.Name.{Name}
use Rattle.sw_tree.specs.declared.stmt.Block.{Block}
use Rattle.sw_types.specs.declared.isolation.Iso.{Iso}
use Rattle.sw_types.specs.declared.shape.Shape.{Shape}
use Rattle.sw_decl_words.specs.Shaped.{written_actor}
use Rattle.sw_decl_words.specs.Words.{shapes_made}
use Rattle.sw_decl_words.specs.declared.placed.Placed.{Placed}
use Rattle.sw_decls.specs.Signatures.{actor_iso}
use Rattle.sw_decls.specs.declared.signature.Signature.{Signature}
use Rattle.sw_typing_rules.specs.Statements.{marked_type}
use Rattle.sw_typing_rules.specs.Worlds.{World}
use Rattle.sw_isolation_rules.specs.Answers.{Answers}
use Rattle.sw_isolation_rules.specs.Kinds.{shape_iso, is_isolated}
use Rattle.sw_isolation_rules.specs.Lists.{held_in, capture_of, captures_in}
use Rattle.sw_isolation_rules.specs.Lists.{vars_in, refusals_in, races_in}
use Rattle.sw_isolation_rules.specs.Noting.{body_note}
use Rattle.sw_isolation_rules.specs.Programs.{getter_notes, value_notes, body_notes, declared_body}
use Rattle.sw_isolation_rules.specs.Programs.{default_notes, inits_notes, init_notes, shape_prop}
use Rattle.sw_isolation_rules.specs.Programs.{prop_notes, global_notes, func_notes, decl_notes}
use Rattle.sw_isolation_rules.specs.Programs.{notes_from, noted, refusals, global_refusals, func_at}
use Rattle.sw_isolation_rules.specs.Programs.{context_of, func_context, func_note, is_shared}
use Rattle.sw_isolation_rules.specs.Races.{races, shape_races, races_if, sent_races, capture_races}
use Rattle.sw_isolation_rules.specs.Races.{variable_type, is_unsent, breaks_promise}
use Rattle.sw_isolation_rules.specs.declared.note.Capture.{Capture}
use Rattle.sw_isolation_rules.specs.declared.note.Captured.{Captured as Held}
use Rattle.sw_isolation_rules.specs.declared.note.Note.{Note}
use Rattle.sw_isolation_rules.specs.declared.note.Note.TheVariants.{Body, Kind, Refused, Race, Var}
use Rattle.sw_isolation_rules.specs.declared.note.Note.TheVariants.{Mentioned, Captures}
use Rattle.sw_isolation_rules.proofs.Each.{each_join, each_made, each_some}
use Rattle.sw_isolation_rules.proofs.Sound.{IsSound, AreSound, join}
use Rattle.sw_isolation_rules.proofs.SoundNotes.{sound_expr, sound_block}

sound_getter : (prop : PropTree) (iso : Iso) → AreSound (getter_notes prop iso)
sound_getter prop iso = by (prop.mutable && is_isolated iso) where
  by : (is : Bool) → AreSound (cond is (body_note prop.word.at iso false ∷ []) [])
  by true = (tt, tt)
  by false = tt

module _ (world : World) (answers : Answers) where
  sound_body : (body : Block) (func : Signature) → AreSound (declared_body world answers body func)
  sound_body body func = (tt, sound_block world answers body (func_context func) [])

  sound_func : (key : ℕ) (body : Block) → AreSound (body_notes world answers key body)
  unfolding body_notes
  sound_func key body =
      each_some IsSound (declared_body world answers body) (sound_body body)
      (func_at world answers key)

  sound_default : (key : ℕ) → AreSound (default_notes world answers key)
  unfolding default_notes
  sound_default key =
      each_some IsSound (λ func. func_note func ∷ []) (λ func. (tt, tt))
      (func_at world answers key)

  sound_inits : (word : Name) (inits : List InitTree)
      → AreSound (inits_notes world answers word inits)
  sound_inits word [] = sound_default word.at
  sound_inits word (init ∷ inits) =
      each_made IsSound (init_notes world answers) (λ one. sound_func one.at one.body)
      (init ∷ inits)

  sound_value : (iso : Iso) (owner : Option ℕ) (value : Option Expr)
      → AreSound (value_notes world answers iso owner value)
  sound_value iso owner None = tt
  sound_value iso owner (Some value) =
      sound_expr world answers value (context_of iso false owner) []

  sound_shape_prop : (number : ℕ) (prop : PropTree) (shape : Shape)
      → AreSound (shape_prop world answers number prop shape)
  sound_shape_prop number prop shape =
      join (getter_notes prop (shape_iso shape)) _ (sound_getter prop (shape_iso shape))
      (sound_value (shape_iso shape) (Some number) prop.value)

  sound_prop : (number : ℕ) (prop : PropTree) → AreSound (prop_notes world answers number prop)
  unfolding prop_notes
  sound_prop number prop =
      each_some IsSound (shape_prop world answers number prop) (sound_shape_prop number prop)
      (slice_get world.shapes number)

  sound_global : (prop : PropTree) → AreSound (global_notes world answers prop)
  unfolding global_notes
  sound_global prop =
      let iso = actor_iso (written_actor world.known.top prop.written) in (
        tt,
        join (getter_notes prop iso) (value_notes world answers iso None prop.value)
            (sound_getter prop iso) (sound_value iso None prop.value),
      )

  sound_type : (number : ℕ) (word : Name) (props : List PropTree) (inits : List InitTree)
      (funcs : List FuncTree)
      → AreSound (flat_map (prop_notes world answers number) props
      ++ inits_notes world answers word inits ++ flat_map (func_notes world answers) funcs)
  sound_type number word props inits funcs =
      join _ (flat_map (func_notes world answers) funcs)
      (join (flat_map (prop_notes world answers number) props)
      (inits_notes world answers word inits)
      (each_made IsSound (prop_notes world answers number) (sound_prop number) props)
      (sound_inits word inits))
      (each_made IsSound (func_notes world answers) (λ func. sound_func func.word.at func.body)
      funcs)

  sound_decl : (number : ℕ) (decl : Decl) → AreSound (decl_notes world answers number decl)
  unfolding decl_notes
  sound_decl number (Entry word written at is_async body) = sound_func at body
  sound_decl number (Struct word conforms fields funcs) =
      each_made IsSound (func_notes world answers) (λ func. sound_func func.word.at func.body) funcs
  sound_decl number (Enum word conforms cases funcs) =
      each_made IsSound (func_notes world answers) (λ func. sound_func func.word.at func.body) funcs
  sound_decl number (Class written word conforms props inits funcs) =
      sound_type number word props inits funcs
  sound_decl number (Actor word props inits funcs) = sound_type number word props inits funcs
  sound_decl number (GlobalActor word made) = tt
  sound_decl number (Func func) = sound_func func.word.at func.body
  sound_decl number (Global prop) = sound_global prop

  sound_decls : (decls : List Decl) (number : ℕ) → AreSound (notes_from world answers number decls)
  sound_decls [] number = tt
  sound_decls (decl ∷ decls) number =
      join (decl_notes world answers number decl) _ (sound_decl number decl)
      (sound_decls decls (number + shapes_made decl))

abbrev IsRefusalCode : Placed → Type 0
IsRefusalCode one = (501 ≤ one.code) × (one.code ≤ 505)

abbrev IsRaceCode : Placed → Type 0
IsRaceCode one = (601 ≤ one.code) × (one.code ≤ 606)

abbrev IsOuter : Held → Type 0
IsOuter one = one.mention.variable < one.closure

refused_are : (notes : List Note) → AreSound notes
    → AllByRecursion IsRefusalCode (refusals_in notes)
refused_are [] are = tt
refused_are (Body body ∷ notes) are = refused_are notes are.1
refused_are (Kind kinded ∷ notes) are = refused_are notes are.1
refused_are (Refused one ∷ notes) are =
    let low = are.0.0 in
    let high = are.0.1 in
    ((omega (arith, low), omega (arith, high)), refused_are notes are.1)
refused_are (Race one ∷ notes) are = refused_are notes are.1
refused_are (Var key ∷ notes) are = refused_are notes are.1
refused_are (Mentioned one ∷ notes) are = refused_are notes are.1
refused_are (Captures held ∷ notes) are = refused_are notes are.1

races_are : (notes : List Note) → AreSound notes → AllByRecursion IsRaceCode (races_in notes)
races_are [] are = tt
races_are (Body body ∷ notes) are = races_are notes are.1
races_are (Kind kinded ∷ notes) are = races_are notes are.1
races_are (Refused one ∷ notes) are = races_are notes are.1
races_are (Race one ∷ notes) are =
    let low = are.0.0 in
    let high = are.0.1 in
    ((omega (arith, low), omega (arith, high)), races_are notes are.1)
races_are (Var key ∷ notes) are = races_are notes are.1
races_are (Mentioned one ∷ notes) are = races_are notes are.1
races_are (Captures held ∷ notes) are = races_are notes are.1

held_are : (notes : List Note) → AreSound notes
    → AllByRecursion IsOuter (flat_map held_in notes)
held_are [] are = tt
held_are (Body body ∷ notes) are = held_are notes are.1
held_are (Kind kinded ∷ notes) are = held_are notes are.1
held_are (Refused one ∷ notes) are = held_are notes are.1
held_are (Race one ∷ notes) are = held_are notes are.1
held_are (Var key ∷ notes) are = held_are notes are.1
held_are (Mentioned one ∷ notes) are = held_are notes are.1
held_are (Captures held ∷ notes) are = (are.0, held_are notes are.1)

abbrev IsOuterCapture : Capture → Type 0
IsOuterCapture one = one.variable < one.closure

captures_are : (vars : List ℕ) (helds : List Held) → AllByRecursion IsOuter helds
    → AllByRecursion IsOuterCapture (map (capture_of vars) helds)
captures_are vars [] all = tt
captures_are vars (held ∷ helds) all = (all.0, captures_are vars helds all.1)

race_if_is : (fails : Bool) (at code : ℕ) → 601 ≤ code → code ≤ 606
    → AllByRecursion IsRaceCode (races_if fails at code)
race_if_is true at code low high = ((low, high), tt)
race_if_is false at code low high = tt

either_is : (is : Bool) (one other : List Placed) → AllByRecursion IsRaceCode one
    → AllByRecursion IsRaceCode other → AllByRecursion IsRaceCode (cond is one other)
either_is true one other first second = first
either_is false one other first second = second

shared_is : (is : Bool) (at : ℕ)
    → AllByRecursion IsRefusalCode (cond is (record { at = at; code = 505 } ∷ []) [])
shared_is true at = ((omega arith, omega arith), tt)
shared_is false at = tt

module _ (world : World) (answers : Answers) where
  capture_race : (one : Capture) → AllByRecursion IsRaceCode (capture_races world answers one)
  unfolding capture_races
  capture_race one =
      let ty = variable_type world answers one.variable in
      either_is (marked_type (answers.type_at one.closure)) (sent_races world one ty) []
      (either_is one.by_ref (races_if true one.first 603)
      (races_if (is_unsent world ty) one.first 602)
      (race_if_is true one.first 603 (omega arith) (omega arith))
      (race_if_is (is_unsent world ty) one.first 602 (omega arith) (omega arith)))
      tt

  shape_race : (shape : Shape) → AllByRecursion IsRaceCode (shape_races world shape)
  shape_race shape =
      race_if_is (shape.conforms && breaks_promise world shape.kind shape) shape.at 601
      (omega arith) (omega arith)

  pub refusal_codes : (decls : List Decl) (one : Placed)
      → Contains (refusals world answers decls) one → IsRefusalCode one
  refusal_codes decls one has =
      All-contains IsRefusalCode (refusals world answers decls) one
      (All-from_recursion IsRefusalCode (refusals world answers decls)
      (each_join IsRefusalCode (refusals_in (noted world answers decls))
      (flat_map (global_refusals world) world.globals)
      (refused_are (noted world answers decls) (sound_decls world answers decls 0))
      (each_made IsRefusalCode (global_refusals world)
      (λ global. shared_is (is_shared world global) global.key.at) world.globals))) has

  pub race_codes : (decls : List Decl) (one : Placed)
      → Contains (races world answers decls) one → IsRaceCode one
  race_codes decls one has =
      let notes = noted world answers decls in
      All-contains IsRaceCode (races world answers decls) one
      (All-from_recursion IsRaceCode (races world answers decls)
      (each_join IsRaceCode (flat_map (shape_races world) world.shapes ++ races_in notes)
      (flat_map (capture_races world answers) (captures_in notes))
      (each_join IsRaceCode (flat_map (shape_races world) world.shapes) (races_in notes)
      (each_made IsRaceCode (shape_races world) shape_race world.shapes)
      (races_are notes (sound_decls world answers decls 0)))
      (each_made IsRaceCode (capture_races world answers) capture_race (captures_in notes)))) has

  pub outer_captures : (decls : List Decl) (one : Capture)
      → Contains (captures_in (noted world answers decls)) one → one.variable < one.closure
  outer_captures decls one has =
      let notes = noted world answers decls in
      All-contains IsOuterCapture (captures_in notes) one
      (All-from_recursion IsOuterCapture (captures_in notes)
      (captures_are (vars_in notes) (flat_map held_in notes)
      (held_are notes (sound_decls world answers decls 0)))) has
