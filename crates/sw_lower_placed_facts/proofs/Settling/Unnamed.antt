-- No function that gives a global variable its first value is named by a call, a closure or a task.
use Rattle.std.proofs.Common.{◌≡◌, ℕ, List, [], Some, Option, map, Contains, refl, ap, sym}
use Rattle.std.proofs.Common.{◌∙◌, subst, true, false}
use Rattle.std.proofs.lemmas.List.Sorted.{Contains-permutation}
use Rattle.std.proofs.lemmas.Option.{same_Some}
use Rattle.std.specs.Prelude.{slice_get}
use Rattle.sw_list.proofs.Members.{none_in}
use Rattle.sw_tree.specs.declared.decl.Decl.{Decl}
use Rattle.sw_tree.proofs.Members.{in_map, of_map}
use Rattle.sw_types.specs.declared.isolation.CallKind.{CallKind}
use Rattle.sw_types.specs.declared.ty.Ty.{Ty}
use Rattle.sw_graph.specs.Placed.{named_by}
use Rattle.sw_graph.specs.Points.{Middle, point_in}
use Rattle.sw_graph.specs.declared.function.Function.{Function}
use Rattle.sw_graph.specs.declared.instr.Instr.{Instr}
use Rattle.sw_graph.specs.declared.instr.Instr.TheVariants as instrs
use Rattle.sw_decls.specs.declared.signature.AsyncDefault.{AsyncDefault}
use Rattle.sw_decls.specs.declared.signature.GlobalVar.{GlobalVar}
use Rattle.sw_typing_rules.specs.Worlds.{World}
use Rattle.sw_lower_plans.specs.declared.name.FunctionName.{FunctionName}
use Rattle.sw_lower_code.specs.Whole.{Body}
use Rattle.sw_lower_rules.specs.Bodies.{AreMade, AreNumbered, AreOrdered, functions_of, numbers_of}
use Rattle.sw_lower_rules.specs.Bodies.{program_bodies}
use Rattle.sw_lower_rules.specs.Carriers.{ClosureCode}
use Rattle.sw_lower_rules.specs.Expressions.{closure_body}
use Rattle.sw_lower_rules.specs.Tables.{Tables, getter_of, name_of, plain}
use Rattle.sw_lower_formed_facts.proofs.Headers.ByName.{body_found}
use Rattle.sw_typing_facts.proofs.Lists.Listed.{only_in, place_in}
use Rattle.sw_typing_facts.proofs.Programs.Standing.{maker_of}
use Rattle.sw_lower_total_facts.specs.Programs.{IsWelltyped, noted_tables}
use Rattle.sw_lower_call_facts.specs.Calls.{CallOf, IsOfBody}
use Rattle.sw_lower_call_facts.specs.Calls.CallOf.{of_func, of_getter, of_maker}
use Rattle.sw_lower_call_facts.proofs.Calls.Insides.{inside_of, insides, instr_inside}
use Rattle.sw_lower_call_facts.proofs.Giving.Places.{inside_deep}
use Rattle.sw_lower_call_facts.proofs.Meant.Answers.{func_is_meant}
use Rattle.sw_lower_placed_facts.specs.Hosts.{Program}
use Rattle.sw_lower_placed_facts.proofs.Settling.Apart.{KeyedBy, func_by, global_by, global_keyed}
use Rattle.sw_lower_placed_facts.proofs.Settling.Apart.{no_global_deep, no_global_func, no_global_maker}
use Rattle.sw_lower_placed_facts.proofs.Settling.Makers.{maker_key, maker_of as type_maker}
use Rattle.sw_lower_placed_facts.proofs.Settling.Program.{program_of}

-- the function with the number gives a global variable its first value
pub record GivesFirstValue (world : World) (ordered : List Body) (f : ℕ) : Type 0 where
  pub global : GlobalVar
  pub is : Contains world.globals global
  pub numbered : numbers_of ordered (plain global.key.at) ≡ Some f

-- what starts is so
pub starts_give : (world : World) (ordered : List Body) (starts : List ℕ)
    → map Some starts
    ≡ map (λ (global : GlobalVar). numbers_of ordered (plain global.key.at)) world.globals
    → (f : ℕ) → Contains starts f → GivesFirstValue world ordered f
starts_give world ordered starts are f has =
    let (global, is, numbered) = of_map
    (λ (global : GlobalVar). numbers_of ordered (plain global.key.at)) world.globals (Some f)
    (subst (λ all. Contains all (Some f)) are (in_map Some starts f has)) in
    record { global = global; is = is; numbered = numbered }

-- The body of a closure that is made is one of the program.
pub record ClosureFrom (program : Program) (f : ℕ) : Type 0 where
  pub owner : Option ℕ
  pub closure : ClosureCode
  pub result : Ty
  pub has : Contains program.inside (closure_body program.tables owner closure result)
  pub numbered : program.numbers (plain closure.at) ≡ Some f

abbrev pub ClosuresFrom : Program → Instr → Type 0
ClosuresFrom program (instrs.NewClosure at r f cs) = ClosureFrom program f
ClosuresFrom program _ = Unit {0}

module _ (decls : List Decl) (rule : AsyncDefault) (world : World) (ordered : List Body)
    (is : IsWelltyped decls rule world) (are : AreOrdered (noted_tables world decls) decls ordered)
    (numbered : AreNumbered ordered) where
  abbrev tables : Tables
  tables = noted_tables world decls

  -- A number is that of one name.
  pub name_at : (name : FunctionName) (f : ℕ) → numbers_of ordered name ≡ Some f
      → (body : Body) × (slice_get ordered f ≡ Some body) × (name_of body ≡ name)
  name_at name f found =
      let bodies = program_bodies tables decls in
      let one = body_found bodies ordered are.bodies numbered name f found in
      let (k, at) = place_in ordered one.body
      (Contains-permutation bodies ordered one.body are.bodies one.has) in
      let same : k ≡ f =
      same_Some k f (sym (numbered k one.body at) ∙ ap (numbers_of ordered) one.named ∙ found) in
      (one.body, subst (λ place. slice_get ordered place ≡ Some one.body) same at, one.named)

  one_name : (one other : FunctionName) (f : ℕ) → numbers_of ordered one ≡ Some f
      → numbers_of ordered other ≡ Some f → one ≡ other
  one_name one other f first second =
      let (body, at, named) = name_at one f first in
      let (next, there, called) = name_at other f second in
      sym named ∙ ap name_of (same_Some body next (sym at ∙ there)) ∙ called

  -- A key whose function gives a global variable its first value is the variable's.
  plain_key : (key f : ℕ) → numbers_of ordered (plain key) ≡ Some f
      → (gives : GivesFirstValue world ordered f) → gives.global.key.at ≡ key
  plain_key key f found gives =
      ap (λ (name : FunctionName). name.key)
      (one_name (plain gives.global.key.at) (plain key) f gives.numbered found)

  global_is : (key f : ℕ) → numbers_of ordered (plain key) ≡ Some f
      → GivesFirstValue world ordered f → KeyedBy decls global_keyed key
  global_is key f found gives =
      subst (KeyedBy decls global_keyed) (plain_key key f found gives)
      (global_by decls rule world is.declared gives.global gives.is)

  getter_not_plain : true ≡ false → ⊥
  getter_not_plain same = cc

  pub call_unnamed : (at : ℕ) (kind : CallKind) (f : ℕ)
      → CallOf tables (numbers_of ordered) at kind f → GivesFirstValue world ordered f → ⊥
  call_unnamed at kind f (of_getter key found) gives =
      getter_not_plain
      (ap (λ (name : FunctionName). name.getter)
      (one_name (getter_of key) (plain gives.global.key.at) f found gives.numbered))
  call_unnamed at kind f (of_func n func meant there noted found) gives =
      no_global_func decls is.keyed func.key.at (global_is func.key.at f found gives)
      (func_by decls rule world is.declared n func (func_is_meant world decls at n meant) there)
  call_unnamed at kind f (of_maker k shape func meant there made maker noted found) gives =
      no_global_maker decls is.keyed func.key.at (global_is func.key.at f found gives)
      (maker_key world decls rule is.keyed is.declared k func
      (type_maker world decls rule is.keyed is.declared k shape func there maker))

  -- the body of a closure or a task
  pub inside_unnamed : (body : Body) (f : ℕ) → Contains (insides tables decls) body
      → numbers_of ordered (plain body.key) ≡ Some f → GivesFirstValue world ordered f → ⊥
  inside_unnamed body f has found gives =
      let place = maker_of (inside_of tables) 0 0 decls body has in
      no_global_deep decls is.keyed body.key (global_is body.key f found gives) (record {
        n = place.n;
        g = place.g;
        decl = place.decl;
        stands = place.stands;
        counted = inside_deep tables body.key place.n place.g place.decl body place.has refl;
      })

  closure_unnamed : (owner : Option ℕ) (closure : ClosureCode) (result : Ty) (f : ℕ)
      → Contains (insides tables decls) (closure_body tables owner closure result)
      → numbers_of ordered (plain closure.at) ≡ Some f → GivesFirstValue world ordered f → ⊥
  unfolding closure_body
  closure_unnamed owner closure result f has found gives =
      inside_unnamed (closure_body tables owner closure result) f has found gives

  instr_unnamed : (f : ℕ) (instr : Instr)
      → IsOfBody tables (numbers_of ordered) (insides tables decls) instr
      → ClosuresFrom (program_of world decls ordered) instr → GivesFirstValue world ordered f
      → Contains (named_by instr) f → ⊥
  instr_unnamed f (instrs.Call at r kind g ss) of from gives has =
      call_unnamed at kind g of
      (subst (GivesFirstValue world ordered) (sym (only_in g f has)) gives)
  instr_unnamed f (instrs.NewTask at r g cs) of from gives has =
      closure_unnamed of.owner (record of.closure { params = [] }) of.result g of.has of.numbered
      (subst (GivesFirstValue world ordered) (sym (only_in g f has)) gives)
  instr_unnamed f (instrs.NewClosure at r g cs) of from gives has =
      closure_unnamed from.owner from.closure from.result g from.has from.numbered
      (subst (GivesFirstValue world ordered) (sym (only_in g f has)) gives)
  instr_unnamed f _ of from gives has = absurd (none_in f has)

  pub firsts_unnamed : AreMade ordered → (n p f : ℕ) (function : Function) (instr : Instr)
      → slice_get (functions_of ordered) n ≡ Some function
      → point_in function p ≡ Some (Middle instr)
      → ClosuresFrom (program_of world decls ordered) instr → GivesFirstValue world ordered f
      → Contains (named_by instr) f → ⊥
  firsts_unnamed made n p f function instr there stands from gives has =
      instr_unnamed f instr
      (instr_inside tables decls ordered is.keyed is.sound are made n p function instr there stands)
      from gives has
