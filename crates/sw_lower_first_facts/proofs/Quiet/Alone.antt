-- The functions that give first values, and those that they lead to, read no global variable and
-- make no task.
use Rattle.std.proofs.Common.{◌≡◌, ℕ, List, [], ◌∷◌, Some, None, Contains, ap, sym}
use Rattle.std.proofs.Common.{◌∙◌, subst, slice_get, inl, inr}
use Rattle.std.proofs.lemmas.List.Elements.{All-contains}
use Rattle.std.proofs.lemmas.Option.{same_Some, slice_get-map}
use Rattle.std.specs.Option.{option_map}
use Rattle.sw_list.proofs.Members.{none_in}
use Rattle.sw_tree.specs.declared.decl.Decl.{Decl}
use Rattle.sw_types.specs.declared.ty.Ty.TheVariants as types
use Rattle.sw_graph.specs.Kinds.{taken}
use Rattle.sw_graph.specs.Limits.{IsWithinLimits}
use Rattle.sw_graph.specs.Placed.{GivesFirst, IsAlone, leads, leads_to, starts}
use Rattle.sw_graph.specs.Points.{Middle, point_in}
use Rattle.sw_graph.specs.declared.function.Function.{Function}
use Rattle.sw_graph.specs.declared.function.RegKind.TheVariants.{Plain}
use Rattle.sw_graph.specs.declared.graph.Graph.{Graph}
use Rattle.sw_graph.specs.declared.instr.Instr.{Instr}
use Rattle.sw_graph.specs.declared.instr.Instr.TheVariants.{Const, Un, Bin, Print, Copy, Field}
use Rattle.sw_graph.specs.declared.instr.Instr.TheVariants.{Payload, SetField, Make, NewObject}
use Rattle.sw_graph.specs.declared.instr.Instr.TheVariants.{NewBox, NewActor, LoadBox, StoreBox}
use Rattle.sw_graph.specs.declared.instr.Instr.TheVariants.{LoadProp, StoreProp, LoadGlobal}
use Rattle.sw_graph.specs.declared.instr.Instr.TheVariants.{StoreGlobal, NewClosure, Call}
use Rattle.sw_graph.specs.declared.instr.Instr.TheVariants.{CallClosure, NewTask, Await, Yield}
use Rattle.sw_decls.specs.declared.signature.AsyncDefault.{AsyncDefault}
use Rattle.sw_decls.specs.declared.signature.Signature.{Signature}
use Rattle.sw_typing_rules.specs.Worlds.{World, and_then, item}
use Rattle.sw_isolation_rules.specs.Programs.{func_at}
use Rattle.sw_isolation_rules.specs.Uses.{maker_at}
use Rattle.sw_lower_plans.specs.Plan.{Numbers}
use Rattle.sw_lower_plans.specs.declared.name.FunctionName.{FunctionName}
use Rattle.sw_lower_code.specs.Code.{emit}
use Rattle.sw_lower_code.specs.Whole.{Body, function_of}
use Rattle.sw_lower_rules.specs.Bodies.{AreNumbered, first_value, numbers_of}
use Rattle.sw_lower_rules.specs.Bodies.{program_bodies}
use Rattle.sw_lower_rules.specs.Carriers.{ExprCode}
use Rattle.sw_lower_rules.specs.Statements.{expr_code}
use Rattle.sw_lower_rules.specs.Tables.{Tables, getter_of}
use Rattle.sw_lower_formed_facts.proofs.Functions.Takes.{kinds_of}
use Rattle.sw_lower_formed_facts.proofs.Headers.ByName.{body_found}
use Rattle.sw_lower_formed_facts.proofs.Headers.PartGetters.{part_getter_headers}
use Rattle.sw_typing_facts.proofs.Lists.Listed.{in_place, only_in, place_in}
use Rattle.sw_lower_formed_facts.proofs.Bodies.MadeOf.{body_made, body_stands}
use Rattle.sw_lower_total_facts.specs.Proceeding.{BodyProceeds}
use Rattle.sw_lower_total_facts.specs.Programs.{IsWelltyped, noted_tables, notes_of}
use Rattle.sw_lower_total_facts.proofs.Lowering.{bodies_are_found, bodies_proceed}
use Rattle.sw_lower_total_facts.proofs.Programs.Objects.{object_at}
use Rattle.sw_lower_rules.specs.Tables.{isolation_in}
use Rattle.sw_lower_first_facts.specs.Programs.{IsGraph}
use Rattle.sw_lower_first_facts.specs.Quiet.{CallsQuiet, IsQuiet, IsQuietName, WritesQuiet, getter}
use Rattle.sw_lower_first_facts.specs.Quiet.{maker}
use Rattle.sw_lower_first_facts.proofs.Programs.Places.{body_at}
use Rattle.sw_lower_first_facts.proofs.Programs.Starts.{start_at}
use Rattle.sw_lower_first_facts.proofs.Quiet.Functions.{instr_quiet}
use Rattle.sw_lower_first_facts.proofs.Quiet.Getters.{getter_so}
use Rattle.sw_lower_first_facts.proofs.Quiet.Joining.{writes_close, writes_emit, writes_then}
use Rattle.sw_lower_first_facts.proofs.Quiet.Makers.{maker_quiet}
use Rattle.sw_lower_first_facts.proofs.Quiet.Values.{global_quiet}

-- A quiet instruction reads no global variable and makes no task.
quiet_alone : (tables : Tables) (numbers : Numbers) (instr : Instr)
    → IsQuiet tables numbers instr → IsAlone instr
quiet_alone tables numbers (LoadGlobal at r g) quiet = quiet
quiet_alone tables numbers (NewTask at r f cs) quiet = quiet
quiet_alone tables numbers (NewClosure at r f cs) quiet = tt
quiet_alone tables numbers (Call at r kind f ss) quiet = tt
quiet_alone tables numbers (Const at r v) quiet = tt
quiet_alone tables numbers (Un at r op s) quiet = tt
quiet_alone tables numbers (Bin at r op s t) quiet = tt
quiet_alone tables numbers (Print at r ss) quiet = tt
quiet_alone tables numbers (Copy at r s) quiet = tt
quiet_alone tables numbers (Field at r s i) quiet = tt
quiet_alone tables numbers (Payload at r s i) quiet = tt
quiet_alone tables numbers (SetField at r i s) quiet = tt
quiet_alone tables numbers (Make at r k tag ss) quiet = tt
quiet_alone tables numbers (NewObject at r k ss) quiet = tt
quiet_alone tables numbers (NewBox at r s) quiet = tt
quiet_alone tables numbers (NewActor at r k ss) quiet = tt
quiet_alone tables numbers (LoadBox at r b) quiet = tt
quiet_alone tables numbers (StoreBox at b s) quiet = tt
quiet_alone tables numbers (LoadProp at r o i) quiet = tt
quiet_alone tables numbers (StoreProp at o i s) quiet = tt
quiet_alone tables numbers (StoreGlobal at g s) quiet = tt
quiet_alone tables numbers (CallClosure at r c ss) quiet = tt
quiet_alone tables numbers (Await at r t) quiet = tt
quiet_alone tables numbers (Yield at r) quiet = tt

-- What a quiet instruction leads to is called by a quiet name.
quiet_leads : (tables : Tables) (numbers : Numbers) (instr : Instr) (f : ℕ)
    → IsQuiet tables numbers instr → Contains (leads_to instr) f → CallsQuiet tables numbers f
quiet_leads tables numbers (Call at r kind g ss) f quiet has =
    subst (CallsQuiet tables numbers) (only_in g f has) quiet
quiet_leads tables numbers (NewClosure at r g cs) f quiet has = absurd quiet
quiet_leads tables numbers (LoadGlobal at r g) f quiet has = absurd quiet
quiet_leads tables numbers (NewTask at r g cs) f quiet has = absurd quiet
quiet_leads tables numbers (Const at r v) f quiet has = absurd (none_in f has)
quiet_leads tables numbers (Un at r op s) f quiet has = absurd (none_in f has)
quiet_leads tables numbers (Bin at r op s t) f quiet has = absurd (none_in f has)
quiet_leads tables numbers (Print at r ss) f quiet has = absurd (none_in f has)
quiet_leads tables numbers (Copy at r s) f quiet has = absurd (none_in f has)
quiet_leads tables numbers (Field at r s i) f quiet has = absurd (none_in f has)
quiet_leads tables numbers (Payload at r s i) f quiet has = absurd (none_in f has)
quiet_leads tables numbers (SetField at r i s) f quiet has = absurd (none_in f has)
quiet_leads tables numbers (Make at r k tag ss) f quiet has = absurd (none_in f has)
quiet_leads tables numbers (NewObject at r k ss) f quiet has = absurd (none_in f has)
quiet_leads tables numbers (NewBox at r s) f quiet has = absurd (none_in f has)
quiet_leads tables numbers (NewActor at r k ss) f quiet has = absurd (none_in f has)
quiet_leads tables numbers (LoadBox at r b) f quiet has = absurd (none_in f has)
quiet_leads tables numbers (StoreBox at b s) f quiet has = absurd (none_in f has)
quiet_leads tables numbers (LoadProp at r o i) f quiet has = absurd (none_in f has)
quiet_leads tables numbers (StoreProp at o i s) f quiet has = absurd (none_in f has)
quiet_leads tables numbers (StoreGlobal at g s) f quiet has = absurd (none_in f has)
quiet_leads tables numbers (CallClosure at r c ss) f quiet has = absurd (none_in f has)
quiet_leads tables numbers (Await at r t) f quiet has = absurd (none_in f has)
quiet_leads tables numbers (Yield at r) f quiet has = absurd (none_in f has)

module _ (decls : List Decl) (rule : AsyncDefault) (world : World) (graph : Graph)
    (is : IsWelltyped decls rule world) (lowered : IsGraph world decls graph) where
  abbrev tables : Tables
  tables = noted_tables world decls

  abbrev ordered : List Body
  ordered = lowered.ordered

  abbrev numbers : Numbers
  numbers = numbers_of lowered.ordered

  numbered : AreNumbered lowered.ordered
  numbered = bodies_are_found decls rule world is lowered.ordered lowered.are_ordered

  -- a quiet body with a number
  record QuietAt (f : ℕ) : Type 0 where
    body : Body
    at : slice_get lowered.ordered f ≡ Some body
    quiet : WritesQuiet tables numbers body.code

  first_quiet : (key g : ℕ) (code : ExprCode) → WritesQuiet tables numbers code.read
      → WritesQuiet tables numbers (first_value tables key g code).code
  first_quiet key g code quiet =
      writes_then tables numbers code.read _ quiet (λ given.
      writes_then tables numbers (emit _) _ (writes_emit tables numbers _ tt) (λ value.
      writes_close tables numbers _))

  start_quiet : (g f : ℕ) → slice_get graph.starts g ≡ Some f → QuietAt f
  start_quiet g f at =
      let one = start_at decls rule world graph is lowered g f at in
      let code = expr_code tables None one.value in
      record {
        body = first_value tables one.prop.word.at g code;
        at = one.at;
        quiet = first_quiet one.prop.word.at g code
            (global_quiet decls rule world is numbers one.n g one.prop one.value one.stands
            one.value_is);
      }

  -- what is found of the initialiser of a type
  maker_found : (k key : ℕ) (func : Signature) → slice_get world.makers k ≡ Some key
      → maker_at world k ≡ Some func → func_at world tables.answers key ≡ Some func
  unfolding maker_at func_at
  maker_found k key func made at =
      sym (ap (λ found. item (and_then found world.numbers) world.funcs) made) ∙ at

  name_quiet : (name : FunctionName) (f : ℕ) → IsQuietName tables name → numbers name ≡ Some f
      → QuietAt f
  name_quiet name f (maker k shape func there made at) found =
      let one = object_at decls rule world is.declared k shape there made in
      let has = maker_quiet decls rule world is numbers k one.g one.decl one.stands shape there made
      _ func one.object.maker (maker_found k _ func one.maker at) in
      record {
        body = has.body;
        at = body_at tables decls lowered.ordered lowered.are_ordered numbered has.body f
            (body_stands tables decls k one.g one.decl has.body one.stands has.has)
            (ap numbers has.named ∙ found);
        quiet = has.quiet;
      }
  name_quiet name f (getter k i key shape part there is_part keyed) found =
      let one = body_found (program_bodies tables decls) lowered.ordered
      lowered.are_ordered.bodies numbered (getter_of key) f found in
      let made = body_made tables decls one.body one.has in
      let header = part_getter_headers world tables.answers (isolation_in (notes_of world decls))
      decls rule is.keyed is.declared lowered.ordered lowered.are_ordered numbered k i key f shape
      part keyed found there is_part in
      let same = same_Some one.header.function header.function
      (sym one.header.at ∙ header.at) in
      let kinds : kinds_of one.body ≡ Plain (types.Named k) ∷ [] =
      sym one.header.takes_these ∙ ap (λ (function : Function). taken function) same
      ∙ header.takes_these in
      record {
        body = one.body;
        at = body_at tables decls lowered.ordered lowered.are_ordered numbered one.body f one.has
            (ap numbers one.named ∙ found);
        quiet = elim (getter_so tables numbers made.n made.g made.decl one.body made.has
            (ap (λ (name : FunctionName). name.getter) one.named)) [
              | inl quiet ↦ quiet
              | inr none ↦
                  absurd (let never : [] ≡ Plain (types.Named k) ∷ [] = sym none ∙ kinds in cc)
            ];
      }

  -- each instruction of a quiet body's function
  at_quiet : (f p : ℕ) (function : Function) (instr : Instr) → QuietAt f
      → slice_get graph.functions f ≡ Some function → point_in function p ≡ Some (Middle instr)
      → IsQuiet tables numbers instr
  at_quiet f p function instr one at point =
      let same : function_of numbers one.body ≡ function =
      same_Some (function_of numbers one.body) function
      (sym (ap (λ all. slice_get all f) lowered.functions
      ∙ slice_get-map (function_of numbers) lowered.ordered f
      ∙ ap (option_map (function_of numbers)) one.at) ∙ at) in
      instr_quiet tables numbers one.body one.quiet
      (All-contains (BodyProceeds numbers) lowered.ordered one.body
      (bodies_proceed decls rule world is lowered.ordered lowered.are_ordered)
      (in_place lowered.ordered f one.body one.at))
      (subst IsWithinLimits (sym same)
      (All-contains IsWithinLimits graph.functions function graph.well_formed.limits
      (in_place graph.functions f function at))) p instr
      (subst (λ one. point_in one p ≡ Some (Middle instr)) (sym same) point)

  gives_quiet : (f : ℕ) → GivesFirst graph f → QuietAt f
  gives_quiet f (starts f' has) =
      let (g, at) = place_in graph.starts f has in start_quiet g f at
  gives_quiet f (leads n f' p body instr gives at point has) =
      let before = gives_quiet n gives in
      let calls = quiet_leads tables numbers instr f
      (at_quiet n p body instr before at point) has in
      name_quiet calls.name f calls.quiet calls.found

  -- What gives a first value, and each function that it leads to, reads no global variable and
  -- makes no task.
  pub firsts_alone : (f p : ℕ) (body : Function) (instr : Instr) → GivesFirst graph f
      → slice_get graph.functions f ≡ Some body → point_in body p ≡ Some (Middle instr)
      → IsAlone instr
  firsts_alone f p body instr gives at point =
      quiet_alone tables numbers instr (at_quiet f p body instr (gives_quiet f gives) at point)
