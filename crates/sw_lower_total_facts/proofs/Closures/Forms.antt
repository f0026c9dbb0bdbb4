-- A closure and a task proceed, and so do their bodies.
use Rattle.std.proofs.Common.{◌≡◌, ℕ, Bool, true, false, List, [], ◌∷◌, ◌++◌, map, flat_map}
use Rattle.std.proofs.Common.{Contains, refl, sym, subst, Option, Some, None, is_some}
use Rattle.std.proofs.lemmas.List.Elements.{All-cons}
use Rattle.std.specs.Prelude.{All, IsSome, ◌||◌, not}
use Rattle.sw_tree.specs.Keys.{Keys}
use Rattle.sw_tree.specs.declared.expr.ClosureParam.{ClosureParam}
use Rattle.sw_tree.specs.declared.name.Name.{Name}
use Rattle.sw_tree.specs.declared.type_tree.TypeTree.{TypeTree}
use Rattle.sw_types.specs.Sendable.{is_sendable}
use Rattle.sw_types.specs.declared.ty.Ty.{Ty}
use Rattle.sw_graph.specs.declared.instr.Instr.{Instr}
use Rattle.sw_graph.specs.declared.instr.Instr.TheVariants.{NewClosure, NewTask}
use Rattle.sw_graph.specs.declared.instr.Operand.{Operand}
use Rattle.sw_typing_rules.specs.Expressions.{Closed, fun_judged, fun_types, spawn_judged}
use Rattle.sw_typing_rules.specs.Expressions.{task_types}
use Rattle.sw_typing_rules.specs.Statements.{Left, capture_rows, closed, closure_state}
use Rattle.sw_typing_rules.specs.Statements.{decided_rows, in_body, param_var, vars_rows}
use Rattle.sw_typing_rules.specs.Verdicts.{rows_of}
use Rattle.sw_typing_rules.specs.Words.{Setting, local}
use Rattle.sw_isolation_rules.specs.Captures.{is_among}
use Rattle.sw_isolation_rules.specs.Kinds.{is_own}
use Rattle.sw_isolation_rules.specs.Lists.{vars_in}
use Rattle.sw_isolation_rules.specs.Noting.{Notes, body_note, closure_iso, race_if, result_races}
use Rattle.sw_isolation_rules.specs.Noting.{task_iso, task_races, task_result}
use Rattle.sw_isolation_rules.specs.declared.note.Note.{Note}
use Rattle.sw_isolation_rules.specs.declared.uses.Context.{Context}
use Rattle.sw_lower_plans.specs.Plan.{Numbers}
use Rattle.sw_lower_code.specs.Code.{number, ◌>>=◌}
use Rattle.sw_lower_rules.specs.Carriers.{ClosureCode}
use Rattle.sw_lower_rules.specs.Expressions.{captured, closure_body, fun_code, fun_result}
use Rattle.sw_lower_rules.specs.Expressions.{spawn_code, spawn_result, task_body}
use Rattle.sw_lower_rules.specs.Tables.{Tables, plain}
use Rattle.sw_lower_rules.specs.Uses.{give, typed}
use Rattle.sw_lower_formed_facts.specs.Forms.{VarsHold}
use Rattle.sw_typing_facts.specs.Rows.{RowsHold}
use Rattle.sw_lower_formed_facts.proofs.Bodies.ClosureRows.{fun_gives, spawn_gives}
use Rattle.sw_typing_facts.proofs.Said.Rows.{rows_left, rows_right}
use Rattle.sw_lower_total_facts.specs.Bound.{sight_in}
use Rattle.sw_lower_total_facts.specs.Forms.{BlockProceeds, ExprProceeds, Reads}
use Rattle.sw_lower_total_facts.specs.Known.{TablesAgree}
use Rattle.sw_lower_total_facts.specs.Noted.{StandsInText, held_of}
use Rattle.sw_lower_total_facts.specs.Proceeding.{BodyProceeds, BodyIsNumbered}
use Rattle.sw_tree.specs.Scopes.{Scoped}
use Rattle.sw_lower_total_facts.proofs.Closures.Captured.{SaysClosed, captured_proceed}
use Rattle.sw_lower_total_facts.proofs.Closures.Enclosed.{Enclosure, IsEnclosed, block, lists, outside}
use Rattle.sw_lower_total_facts.proofs.Closures.Enclosed.{within}
use Rattle.sw_lower_total_facts.proofs.Closures.Inside.{closure_proceeds}
use Rattle.sw_lower_total_facts.proofs.Closures.Isolated.{closure_own, task_own}
use Rattle.sw_lower_total_facts.proofs.Closures.Places.{IsSeenInside, SaysAs, is_enclosed, noted_closed}
use Rattle.sw_lower_total_facts.proofs.Closures.Places.{says_closed, scoped_with}
use Rattle.sw_lower_total_facts.proofs.Proceeding.Using.{goes_give, goes_number, goes_then, goes_typed}

-- What the code makes of captures and of the number of a function.
module _ (tables : Tables) (numbers : Numbers) (all : List Note)
    (known : TablesAgree tables numbers all) (closure : Enclosure)
    (enclosed : IsEnclosed tables all closure) (notes : List Note)
    (says : SaysClosed tables closure notes) where
  made_proceeds : (owner : Option ℕ) (key : ℕ) (instr : ℕ → List Operand → ℕ → Instr)
      → IsSome (numbers (plain closure.at)) → IsSome (tables.answers.type_at key)
      → Reads tables numbers closure.context closure.listed closure.vars notes
      (captured tables owner key closure.at
      >>= λ operands. number (plain closure.at)
      >>= λ f. typed tables key
      >>= λ ty. give key ty (instr f operands))
  made_proceeds owner key instr numbered has_type =
      goes_then tables numbers closure.context closure.listed (outside tables closure) notes
      (captured tables owner key closure.at)
      (λ operands. number (plain closure.at)
      >>= λ f. typed tables key >>= λ ty. give key ty (instr f operands))
      (captured_proceed tables numbers all known.noted closure enclosed notes says owner key)
      (λ operands.
      goes_number tables numbers closure.context closure.listed (outside tables closure) notes
      (plain closure.at) (λ f. typed tables key >>= λ ty. give key ty (instr f operands)) numbered
      (λ f.
      goes_typed tables numbers closure.context closure.listed (outside tables closure) notes key
      (λ ty. give key ty (instr f operands)) has_type
      (λ ty.
      goes_give tables numbers closure.context closure.listed (outside tables closure) notes key ty
      (instr f operands))))

-- the number of the function of a closure's body
its_number : (tables : Tables) (numbers : Numbers) (owner : Option ℕ) (code : ClosureCode) (ty : Ty)
    → BodyIsNumbered numbers (closure_body tables owner code ty) → IsSome (numbers (plain code.at))
unfolding closure_body
its_number tables numbers owner code ty is = is

module _ (tables : Tables) where
  -- the type of a closure is known, by its row
  fun_typed : (at : ℕ) (marked : Bool) (params : List Ty) (found : Option Ty) (result : Ty)
      → found ≡ Some result → RowsHold tables.answers (rows_of at (fun_types marked params found))
      → IsSome (tables.answers.type_at at)
  fun_typed at marked params None result is hold = cc
  fun_typed at marked params (Some found) result is hold = subst IsSome (sym hold.0) refl

  -- and that of a task
  task_typed : (at : ℕ) (found : Option Ty) (result : Ty) → found ≡ Some result
      → RowsHold tables.answers (rows_of at (task_types found))
      → IsSome (tables.answers.type_at at)
  task_typed at None result is hold = cc
  task_typed at (Some found) result is hold = subst IsSome (sym hold.0) refl

  -- what is noted of the result of a task mentions and takes nothing
  race_as : (fails : Bool) (at : ℕ) (notes : List Note)
      → SaysAs (race_if fails at 605 ++ notes) notes
  race_as true at notes = record { sees = refl; holds = refl }
  race_as false at notes = record { sees = refl; holds = refl }

  result_as : (at : ℕ) (result : Option Ty) (notes : List Note)
      → SaysAs (result_races tables.world at result ++ notes) notes
  result_as at None notes = record { sees = refl; holds = refl }
  result_as at (Some ty) notes = race_as (not (is_sendable tables.world.shapes ty)) at notes

  races_as : (at : ℕ) (notes : List Note)
      → SaysAs (task_races tables.world tables.answers at ++ notes) notes
  unfolding task_races
  races_as at notes = result_as at (task_result (tables.answers.type_at at)) notes

  -- what is noted of a closure, and of a task
  abbrev pub fun_noted : Enclosure → List Note
  fun_noted closure =
      body_note closure.at closure.iso closure.is_async ∷ noted_closed tables closure

  abbrev pub spawn_noted : ℕ → Enclosure → List Note
  spawn_noted at closure =
      body_note closure.at closure.iso closure.is_async ∷ task_races tables.world tables.answers at
      ++ noted_closed tables closure

  fun_as : (closure : Enclosure) → SaysAs (fun_noted closure) (noted_closed tables closure)
  fun_as closure = record { sees = refl; holds = refl }

  spawn_as : (at : ℕ) (closure : Enclosure)
      → SaysAs (spawn_noted at closure) (noted_closed tables closure)
  spawn_as at closure =
      let races = races_as at (noted_closed tables closure) in
      record { sees = races.sees; holds = races.holds }

  -- where a closure and a task stand
  abbrev pub fun_at : Context → List ℕ → Setting → ℕ → List Name → List ClosureParam → Notes
      → Enclosure
  fun_at context listed setting at words params body = record {
    context = context;
    listed = listed;
    vars = setting.vars;
    iso = closure_iso tables.answers at context.iso;
    is_async = false;
    at = at;
    words = words;
    params = params;
    body = body;
  }

  abbrev pub spawn_at : Context → List ℕ → Setting → Option Name → Bool → ℕ → List Name → Notes
      → Enclosure
  spawn_at context listed setting mark detached at words body = record {
    context = context;
    listed = listed;
    vars = setting.vars;
    iso = task_iso tables.world mark detached context.iso;
    is_async = true;
    at = at;
    words = words;
    params = [];
    body = body;
  }

-- What is left of a closure or a task where it stands: nothing in its block is noted of its key, no
-- parameter is declared by `var`, what its block mentions is seen there or declared in it, and its
-- block proceeds.
pub record BlockFits (tables : Tables) (number : Numbers) (all : List Note) (owner : Option ℕ)
    (closure : Enclosure) (setting : Setting) (result : Option TypeTree) (scoped : Scoped)
    (code : ClosureCode) : Type 0 where
  pub none : held_of closure.at (block tables closure) ≡ []
  pub params_fixed : All (λ (param : ClosureParam). is_among (vars_in all) param.name.at ≡ false)
      closure.params
  pub seen : IsSeenInside tables closure scoped
  pub proceeds : BlockProceeds tables number (within tables closure) (lists tables closure)
      (in_body owner false) (closure_state tables.world setting closure.words closure.params result)
      (block tables closure) code.body

module _ (tables : Tables) (number : Numbers) (all : List Note)
    (known : TablesAgree tables number all)
    (context : Context) (listed : List ℕ) (setting : Setting) (code : ClosureCode)
    (mark : Option Name) (words : List Name) (result : Option TypeTree) (left : Left)
    (body : Notes) (vars : VarsHold tables.answers setting.vars) where
  -- what is known of it, by what its block leaves
  abbrev closing : Closed
  closing = closed tables.world setting code.at mark words code.params left

  -- the rows of the words that it lists
  word_rows : RowsHold tables.answers closing.rows
      → RowsHold tables.answers (flat_map (λ (word : Name).
      capture_rows word (local setting.vars word.id)) words)
  word_rows rows =
      rows_left tables.answers
      (flat_map (λ (word : Name). capture_rows word (local setting.vars word.id)) words)
      (vars_rows (map (param_var tables.world) code.params) ++ decided_rows code.at left) rows

  -- A closure that has a type proceeds, and so do the bodies in it.
  pub fun_proceeds : (expected : Bool) → is_some (fun_judged expected closing).ty ≡ true
      → RowsHold tables.answers (fun_judged expected closing).rows
      → BodyIsNumbered number
      (closure_body tables setting.owner code (fun_result tables setting.owner code.at))
      → (keys : Keys) (scoped : Scoped) → Contains keys code.at
      → StandsInText all (sight_in tables context.owner setting.vars)
      (fun_noted tables (fun_at tables context listed setting code.at words code.params body)) keys
      (scoped_with tables (fun_at tables context listed setting code.at words code.params body)
      scoped)
      → ((key : ℕ) → Contains (scoped_with tables
      (fun_at tables context listed setting code.at words code.params body) scoped).declared key
      → Contains keys key)
      → BlockFits tables number all setting.owner
      (fun_at tables context listed setting code.at words code.params body) setting result scoped
      code
      → ExprProceeds tables number context listed setting.vars
      (fun_noted tables (fun_at tables context listed setting code.at words code.params body))
      (fun_code tables setting.owner code)
  fun_proceeds expected typed_so rows numbered keys scoped among stands new fits = record {
    read = made_proceeds tables number all known closure enclosed (fun_noted tables closure)
        (says_closed tables closure (fun_noted tables closure) (fun_as tables closure))
        setting.owner
        code.at (λ f xs r. NewClosure code.at r f xs)
        (its_number tables number setting.owner code (fun_result tables setting.owner code.at)
        numbered)
        (fun_typed tables code.at (closing.marked || expected) closing.params closing.result
        gives.0 gives.1
        (rows_right tables.answers closing.rows
        (rows_of code.at (fun_types (closing.marked || expected) closing.params closing.result))
        rows));
    inside = All-cons (BodyProceeds number)
        (closure_body tables setting.owner code (fun_result tables setting.owner code.at))
        code.body.inside
        (closure_proceeds tables number all known closure enclosed vars setting.owner code.body
        (fun_result tables setting.owner code.at) _ fits.proceeds)
        fits.proceeds.inside_proceed;
  } where
    closure : Enclosure
    closure = fun_at tables context listed setting code.at words code.params body

    gives : (r : Ty) × (closing.result ≡ Some r)
    gives = fun_gives expected closing typed_so

    isolated : is_own closure.iso ≡ true → is_own context.iso ≡ true
    isolated own = closure_own tables.world tables.answers code.at context.iso own

    enclosed : IsEnclosed tables all closure
    enclosed =
        is_enclosed tables all known.noted closure (fun_noted tables closure)
        (fun_as tables closure) scoped keys among stands new isolated fits.none
        (word_rows (rows_left tables.answers closing.rows
        (rows_of code.at (fun_types (closing.marked || expected) closing.params closing.result))
        rows)) fits.params_fixed fits.seen

  -- A task that has a type proceeds, and so do the bodies in it, where its block does without
  -- parameters.
  pub spawn_proceeds : (at : ℕ) (detached : Bool)
      → is_some (spawn_judged at closing).ty ≡ true
      → RowsHold tables.answers (spawn_judged at closing).rows
      → BodyIsNumbered number
      (task_body tables setting.owner code (spawn_result tables setting.owner at))
      → (keys : Keys) (scoped : Scoped) → Contains keys code.at
      → StandsInText all (sight_in tables context.owner setting.vars)
      (spawn_noted tables at
      (spawn_at tables context listed setting mark detached code.at words body)) keys
      (scoped_with tables
      (spawn_at tables context listed setting mark detached code.at words body) scoped)
      → ((key : ℕ) → Contains (scoped_with tables
      (spawn_at tables context listed setting mark detached code.at words body) scoped).declared key
      → Contains keys key)
      → BlockFits tables number all setting.owner
      (spawn_at tables context listed setting mark detached code.at words body) setting result
      scoped code
      → ExprProceeds tables number context listed setting.vars
      (spawn_noted tables at
      (spawn_at tables context listed setting mark detached code.at words body))
      (spawn_code tables setting.owner at code)
  spawn_proceeds at detached typed_so rows numbered keys scoped among stands new fits = record {
    read = made_proceeds tables number all known closure enclosed (spawn_noted tables at closure)
        (says_closed tables closure (spawn_noted tables at closure) (spawn_as tables at closure))
        setting.owner at (λ f xs r. NewTask at r f xs)
        (its_number tables number setting.owner (record code { params = [] })
        (spawn_result tables setting.owner at) numbered)
        (task_typed tables at closing.result gives.0 gives.1
        (rows_right tables.answers closing.rows (rows_of at (task_types closing.result)) rows));
    inside = All-cons (BodyProceeds number)
        (task_body tables setting.owner code (spawn_result tables setting.owner at))
        code.body.inside
        (closure_proceeds tables number all known closure enclosed vars setting.owner code.body
        (spawn_result tables setting.owner at) _ fits.proceeds)
        fits.proceeds.inside_proceed;
  } where
    closure : Enclosure
    closure = spawn_at tables context listed setting mark detached code.at words body

    gives : (r : Ty) × (closing.result ≡ Some r)
    gives = spawn_gives at closing typed_so

    isolated : is_own closure.iso ≡ true → is_own context.iso ≡ true
    isolated own = task_own tables.world tables.answers mark detached context.iso own

    enclosed : IsEnclosed tables all closure
    enclosed =
        is_enclosed tables all known.noted closure (spawn_noted tables at closure)
        (spawn_as tables at closure) scoped keys among stands new isolated fits.none
        (word_rows (rows_left tables.answers closing.rows
        (rows_of at (task_types closing.result)) rows)) fits.params_fixed fits.seen
