-- The bodies of functions, methods and the entry proceed.
use Rattle.std.proofs.Common.{◌≡◌, ℕ, false, List, [], ◌∷◌, ◌++◌, Option, Some, None, map, refl}
use Rattle.std.proofs.Common.{sym, ap, ◌∙◌, subst, Contains, inl, inr, ◌⊎◌, arith, zero, suc}
use Rattle.std.proofs.lemmas.List.{map-append}
use Rattle.std.proofs.lemmas.List.Elements.{All-cons, All-nil, All-tail, Contains-append_cases}
use Rattle.std.proofs.lemmas.List.Elements.{Contains-append_left}
use Rattle.std.specs.Prelude.{slice_get}
use Rattle.sw_tree.specs.declared.decl.Decl.{Decl}
use Rattle.sw_tree.specs.declared.decl.ParamTree.{ParamTree}
use Rattle.sw_tree.specs.declared.stmt.Block.{Block}
use Rattle.sw_tree_facts.specs.Unwritten.{block_unwritten}
use Rattle.sw_types.specs.declared.shape.Shape.{Shape}
use Rattle.sw_decls.specs.declared.signature.AsyncDefault.{AsyncDefault}
use Rattle.sw_decls.specs.declared.signature.Signature.{Signature}
use Rattle.sw_typing_rules.specs.Judging.{leave_block}
use Rattle.sw_typing_rules.specs.Programs.{BodyOf, bodies_from, body_state, param_var}
use Rattle.sw_typing_rules.specs.Statements.{Left, State, in_body}
use Rattle.sw_typing_rules.specs.Worlds.{World}
use Rattle.sw_typing_rules.specs.declared.scope.Inside.{Inside}
use Rattle.sw_typing_rules.specs.declared.scope.Var.{Var}
use Rattle.sw_typing_rules.proofs.Sound.{leaves_block}
use Rattle.sw_isolation_rules.specs.Answers.{for_some}
use Rattle.sw_isolation_rules.specs.Captures.{self_of}
use Rattle.sw_isolation_rules.specs.Programs.{func_context}
use Rattle.sw_isolation_rules.specs.declared.note.Note.{Note}
use Rattle.sw_isolation_rules.specs.declared.uses.Context.{Context}
use Rattle.sw_lower_plans.specs.Plan.{Numbers}
use Rattle.sw_lower_plans.specs.Run.{Making}
use Rattle.sw_lower_plans.specs.declared.bound.Bound.{Bound}
use Rattle.sw_lower_code.specs.Whole.{Body}
use Rattle.sw_lower_code.specs.declared.taken.Taken.{Taken}
use Rattle.sw_lower_rules.specs.Bodies.{func_signed, param_taken, self_by, self_taken, signed}
use Rattle.sw_lower_rules.specs.Carriers.{BlockCode}
use Rattle.sw_lower_rules.specs.Expressions.{body_code}
use Rattle.sw_lower_rules.specs.Statements.{block_code}
use Rattle.sw_lower_rules.specs.Tables.{Tables}
use Rattle.sw_lower_formed_facts.proofs.Bodies.FuncBodies.{body_by}
use Rattle.sw_typing_facts.proofs.Lists.Joined.{Gives}
use Rattle.sw_typing_facts.proofs.Lists.Listed.{in_first, in_rest}
use Rattle.sw_lower_formed_facts.proofs.Said.RowsOf.{body_rows_hold, params_hold}
use Rattle.sw_lower_total_facts.specs.Bound.{InBox, InBoxes, VariableIsBound, Ready, seen_in}
use Rattle.sw_lower_total_facts.specs.Forms.{BlockProceeds}
use Rattle.sw_lower_total_facts.specs.Proceeding.{BodyProceeds, BodyIsNumbered}
use Rattle.sw_lower_total_facts.specs.Programs.{noted_tables, notes_of}
use Rattle.sw_lower_total_facts.specs.Trees.{BlockStands, noted_in}
use Rattle.sw_lower_total_facts.proofs.Bodies.AllStand.{ParamsAreLets}
use Rattle.sw_lower_total_facts.proofs.Bodies.BodyCode.{body_code_proceeds}
use Rattle.sw_lower_total_facts.proofs.Bodies.Given.{IsProgram}
use Rattle.sw_lower_total_facts.proofs.Bodies.Taking.{AreTaken, Entered, body_proceeds, taken_found}
use Rattle.sw_lower_total_facts.proofs.EnumWords.{body_unmeant}
use Rattle.sw_lower_total_facts.proofs.Statements.NotBoxed.{not_boxed}

-- What is taken is in no box.
abbrev pub IsPlain : Tables → Taken → Type 0
IsPlain tables one = (one.boxed ≡ false) × (tables.isolation.is_boxed one.key ≡ false)

-- what is taken in no box is bound
pub plain_bound : (tables : Tables) (number : Numbers) (takes : List Taken)
    → ((one : Taken) → Contains takes one → IsPlain tables one) → (t : Making)
    → Entered number takes t → (key : ℕ)
    → Contains (map (λ (one : Taken). one.key) takes) key → VariableIsBound tables [] t.vars key
plain_bound tables number takes plain t entered key has =
    let it = taken_found takes t.vars key entered.vars has in
    let is = plain it.one it.among in record {
      bound = it.bound;
      found = it.found;
      typed = λ boxed. cc (it.boxed, is.0);
      in_box = λ boxed none. cc (ap tables.isolation.is_boxed it.same, is.1);
    }

-- and so all that is taken
boxes_by : (tables : Tables) (takes : List Taken) (vars : List Bound)
    → ((one : Taken) → Contains takes one → IsPlain tables one) → AreTaken takes vars
    → InBoxes tables [] vars
boxes_by tables [] [] plain are = All-nil (InBox tables [])
boxes_by tables [] (bound ∷ vars) plain are = absurd are
boxes_by tables (one ∷ takes) [] plain are = absurd are
boxes_by tables (one ∷ takes) (bound ∷ vars) plain are =
    All-cons (InBox tables []) bound vars
    (λ boxed none. cc (ap tables.isolation.is_boxed are.0, (plain one (in_first one takes)).1))
    (boxes_by tables takes vars (λ other has. plain other (in_rest one takes other has)) are.2)

pub plain_boxes : (tables : Tables) (number : Numbers) (takes : List Taken)
    → ((one : Taken) → Contains takes one → IsPlain tables one) → (t : Making)
    → Entered number takes t → InBoxes tables [] t.vars
plain_boxes tables number takes plain t entered =
    boxes_by tables takes t.vars plain entered.vars

-- `self` is taken where there is one.
self_taken_keys : (tables : Tables) (owner : Option ℕ)
    → map (λ (one : Taken). one.key) (self_taken tables owner) ≡ self_of tables.world owner
self_taken_keys tables None = refl
self_taken_keys tables (Some number) = by (slice_get tables.world.shapes number) where
  by : (found : Option Shape)
      → map (λ (one : Taken). one.key)
      (for_some found (λ (shape : Shape). self_by number shape ∷ []))
      ≡ for_some found (λ (shape : Shape). shape.at ∷ [])
  by None = refl
  by (Some shape) = refl

-- the keys of parameters
pub param_keys : (tables : Tables) (params : List ParamTree)
    → map (λ (one : Taken). one.key) (map (param_taken tables) params)
    ≡ map (λ (one : Var). one.at) (map (param_var tables.world) params)
param_keys tables [] = refl
param_keys tables (param ∷ params) =
    ap (λ keys. param.name.at ∷ keys) (param_keys tables params)

-- what a function takes is seen in it, and nothing else
pub taken_keys : (tables : Tables) (owner : Option ℕ) (params : List ParamTree)
    → map (λ (one : Taken). one.key)
    (self_taken tables owner ++ map (param_taken tables) params)
    ≡ seen_in tables owner (map (param_var tables.world) params)
taken_keys tables owner params =
    map-append (λ (one : Taken). one.key) (self_taken tables owner)
    (map (param_taken tables) params)
    ∙ ap (λ keys. keys ++ map (λ (one : Taken). one.key) (map (param_taken tables) params))
    (self_taken_keys tables owner)
    ∙ ap (λ keys. self_of tables.world owner ++ keys) (param_keys tables params)

module _ (world : World) (decls : List Decl) (rule : AsyncDefault) (number : Numbers)
    (program : IsProgram world decls rule number) where
  abbrev tables : Tables
  tables = noted_tables world decls

  abbrev all : List Note
  all = notes_of world decls

  plain_self : (owner : Option ℕ) (one : Taken) → Contains (self_taken tables owner) one
      → IsPlain tables one
  plain_self None one (k, lt, is) = absurd (omega (arith, lt))
  plain_self (Some n) one has = by (slice_get world.shapes n) refl has where
    by : (found : Option Shape) → slice_get world.shapes n ≡ found
        → Contains (for_some found (λ (shape : Shape). self_by n shape ∷ [])) one
        → IsPlain tables one
    by None is (k, lt, at) = absurd (omega (arith, lt))
    by (Some shape) is (zero, lt, at) =
        subst (IsPlain tables) at
        (refl, not_boxed tables number all program.known shape.at (program.known.selves n shape is))
    by (Some shape) is (suc k, lt, at) = absurd (omega (arith, lt))

  -- parameters are in no box
  pub plain_param : (params : List ParamTree) → ParamsAreLets world decls number params
      → (one : Taken) → Contains (map (param_taken tables) params) one → IsPlain tables one
  plain_param [] none one (k, lt, is) = absurd (omega (arith, lt))
  plain_param (param ∷ params) none one (zero, lt, is) =
      subst (IsPlain tables) is (
        refl,
        not_boxed tables number all program.known param.name.at
            (none param (in_first param params)),
      )
  plain_param (param ∷ params) none one (suc k, lt, is) =
      plain_param params (λ other has. none other (in_rest param params other has)) one
      (k, omega (arith, lt), is)

  -- what a function takes is in no box
  plain_taken : (owner : Option ℕ) (params : List ParamTree)
      → ParamsAreLets world decls number params → (one : Taken)
      → Contains (self_taken tables owner ++ map (param_taken tables) params) one
      → IsPlain tables one
  plain_taken owner params none one has =
      by (Contains-append_cases (self_taken tables owner) (map (param_taken tables) params) one has)
    where
      by : Contains (self_taken tables owner) one
          ⊎ Contains (map (param_taken tables) params) one → IsPlain tables one
      by (inl has) = plain_self owner one has
      by (inr has) = plain_param params none one has

  -- Where a function begins, all that is seen is bound.
  pub func_ready : (context : Context) (params : List ParamTree) (notes : List Note)
      → ParamsAreLets world decls number params → (t : Making)
      → Entered number (self_taken tables context.owner ++ map (param_taken tables) params) t
      → Ready tables number context []
      (seen_in tables context.owner (map (param_var world) params)) notes t
  func_ready context params notes none t entered = record {
    going = entered.going;
    numbers = entered.numbers;
    vars = λ key seen mentioned. bound key seen;
    held = λ own has key me.
        bound key (Contains-append_left (self_of world context.owner) _ key me);
  } where
    bound : (key : ℕ) → Contains (seen_in tables context.owner (map (param_var world) params)) key
        → VariableIsBound tables [] t.vars key
    bound key seen =
        plain_bound tables number _ (plain_taken context.owner params none) t entered key
        (subst (λ keys. Contains keys key) (sym (taken_keys tables context.owner params)) seen)

  -- the body of a function, and those in it
  pub signed_proceeds : (at : ℕ) (params : List ParamTree) (block : Block) (func : Signature)
      → Contains (bodies_from world 0 decls) (body_by at params block func)
      → BlockStands tables number all (func_context func) [] (map (param_var world) params) block
      → block_unwritten block ≡ [] → ParamsAreLets world decls number params
      → Gives (BodyIsNumbered number) (BodyProceeds number) (func_signed tables params block func)
  signed_proceeds at params block func stands there tasks none numbered =
      All-cons (BodyProceeds number) body code.inside
      (body_proceeds number body (λ t entered.
      body_code_proceeds tables number (func_context func) [] func.owner false state
      (noted_in tables number all block (func_context func) []) code ok func.result t
      (func_ready (func_context func) params _ none t entered)
      (plain_boxes tables number body.takes (plain_taken func.owner params none) t entered)))
      ok.inside_proceed where
        from : BodyOf
        from = body_by at params block func

        state : State
        state = body_state world from

        around : Inside
        around = in_body func.owner false

        left : Left
        left = leave_block world block around state

        code : BlockCode
        code = block_code tables func.owner block

        body : Body
        body = signed tables func (self_taken tables func.owner ++ map (param_taken tables) params)
            (body_code func.result code)

        ok : BlockProceeds tables number (func_context func) [] around state
            (noted_in tables number all block (func_context func) []) code
        ok = program.blocks around state block left (leaves_block world around state block)
            (body_unmeant world decls program.keyed from stands) tasks refl
            (params_hold world decls program.keyed program.well from stands)
            (body_rows_hold world decls program.keyed program.well from left stands
            (leaves_block world around state block))
            (All-tail (BodyIsNumbered number) body code.inside numbered) (func_context func) [] refl
            there
