-- The functions of getters have the isolation of what they read, and give its type.
use Rattle.std.proofs.Common.{◌≡◌, ℕ, Some, List}
use Rattle.std.proofs.Common.{false, Contains, ap, ◌∙◌, subst}
use Rattle.std.specs.Prelude.{slice_get}
use Rattle.sw_tree.specs.Contents.{AreKeyed}
use Rattle.sw_tree.specs.declared.decl.Decl.{Decl}
use Rattle.sw_types.specs.declared.isolation.Iso.{Iso}
use Rattle.sw_types.specs.declared.shape.Part.{Part}
use Rattle.sw_types.specs.declared.shape.Shape.{Shape}
use Rattle.sw_types.specs.declared.ty.Ty.{Ty}
use Rattle.sw_graph.specs.declared.instr.Operand.{Operand}
use Rattle.sw_decls.specs.Signatures.{actor_iso}
use Rattle.sw_decls.specs.declared.signature.AsyncDefault.{AsyncDefault}
use Rattle.sw_decls.specs.declared.signature.GlobalVar.{GlobalVar}
use Rattle.sw_typing_rules.specs.Programs.{said}
use Rattle.sw_typing_rules.specs.Worlds.{IsWorldOf, World}
use Rattle.sw_isolation_rules.specs.Answers.{Answers, answers_in}
use Rattle.sw_isolation_rules.specs.Kinds.{shape_iso}
use Rattle.sw_isolation_rules.specs.Noting.{body_note}
use Rattle.sw_isolation_rules.specs.declared.note.BodyIso.{BodyIso}
use Rattle.sw_lower_code.specs.Code.{Code}
use Rattle.sw_lower_code.specs.Whole.{Body}
use Rattle.sw_lower_code.specs.declared.taken.Taken.{Taken}
use Rattle.sw_lower_rules.specs.Bodies.{AreNumbered, AreOrdered, getter, numbers_of}
use Rattle.sw_lower_rules.specs.Bodies.{program_bodies}
use Rattle.sw_lower_rules.specs.Expressions.{is_async_of, iso_of}
use Rattle.sw_lower_rules.specs.Tables.{Tables, getter_of, name_of, part_key_in}
use Rattle.sw_lower_formed_facts.proofs.Headers.GlobalGetters.{global_getter_at}
use Rattle.sw_lower_formed_facts.proofs.Headers.PartGetters.{part_getter_at}
use Rattle.sw_typing_facts.proofs.Programs.Standing.{Stands}
use Rattle.sw_lower_total_facts.specs.Programs.{noted_tables, notes_of}
use Rattle.sw_lower_placed_facts.specs.Allowed.{FunctionIs}
use Rattle.sw_lower_placed_facts.specs.Hosts.{Program}
use Rattle.sw_lower_placed_facts.proofs.Settling.Found.{noted_body}
use Rattle.sw_lower_placed_facts.proofs.Settling.NotedGetters.{global_noted, part_noted}
use Rattle.sw_lower_placed_facts.proofs.Settling.Program.{program_of}
use Rattle.sw_lower_placed_facts.proofs.Settling.Signed.{body_function}

module _ (world : World) (decls : List Decl) (rule : AsyncDefault) (keyed : AreKeyed decls)
    (is : IsWorldOf decls rule world) (ordered : List Body)
    (are : AreOrdered (noted_tables world decls) decls ordered) (numbered : AreNumbered ordered)
  where
    abbrev tables : Tables
    tables = noted_tables world decls

    abbrev answers : Answers
    answers = answers_in (said world decls)

    abbrev program : Program
    program = program_of world decls ordered

    -- the function of a getter, by what is noted of its key
    getter_function : (body : Body) (f key : ℕ) (iso : Iso) (takes : List Taken) (ty : Ty)
        (read : Code Operand) → Contains (program_bodies tables decls) body
        → numbers_of ordered (name_of body) ≡ Some f
        → body ≡ getter tables key takes ty read
        → Contains (notes_of world decls) (body_note key iso false)
        → FunctionIs program f iso false false ty
    getter_function body f key iso takes ty read has found same note =
        let one : BodyIso = record { key = key; iso = iso; is_async = false } in
        let noted : tables.isolation.body_at key ≡ Some one =
        noted_body decls rule world answers keyed is one note in
        body_function world decls ordered are numbered body f iso false false ty has found
        (ap (λ (b : Body). b.iso) same ∙ ap iso_of noted)
        (ap (λ (b : Body). b.is_async) same ∙ ap is_async_of noted)
        (ap (λ (b : Body). b.sends) same) (ap (λ (b : Body). b.result) same)

    pub part_getter_function : (k i key f : ℕ) (shape : Shape) (part : Part)
        → part_key_in decls k i ≡ Some key → numbers_of ordered (getter_of key) ≡ Some f
        → slice_get world.shapes k ≡ Some shape → slice_get shape.parts i ≡ Some part
        → FunctionIs program f (shape_iso shape) false false part.ty
    part_getter_function k i key f shape part key_is found shape_at part_at =
        let it = part_getter_at world answers tables.isolation decls rule keyed is ordered are
        numbered k i key f shape part key_is found shape_at part_at in
        let one = it.one in
        let of = it.of in
        subst (λ (s : Shape). FunctionIs program f (shape_iso s) false false part.ty) it.shape_is
        (subst (λ (p : Part). FunctionIs program f (shape_iso of.shape) false false p.ty)
        it.part_is
        (getter_function one.body f of.prop.word.at (shape_iso of.shape) _ of.part.ty _ one.has
        one.found of.is
        (part_noted world answers decls one.n one.g of.place one.decl of.prop of.shape one.stands
        it.object of.prop_at of.shape_at of.isolated)))

    pub global_getter_function : (g f : ℕ) (global : GlobalVar)
        → slice_get world.globals g ≡ Some global
        → numbers_of ordered (getter_of global.key.at) ≡ Some f
        → FunctionIs program f (actor_iso global.actor) false false global.ty
    global_getter_function g f global at found =
        let it = global_getter_at world answers tables.isolation decls rule keyed is ordered are
        numbered g f global at found in
        let one = it.one in
        let of = it.of in
        subst (λ (v : GlobalVar). FunctionIs program f (actor_iso v.actor) false false v.ty)
        it.global_is
        (getter_function one.body f of.prop.word.at (actor_iso of.global.actor) _ of.global.ty _
        one.has one.found of.is
        (global_noted world answers decls rule is one.n one.g of.prop of.global
        (subst (Stands decls one.n one.g) of.decl_is one.stands) of.global_at))
