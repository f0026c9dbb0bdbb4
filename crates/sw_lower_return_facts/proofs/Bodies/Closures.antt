-- The functions of closures and tasks return their results.
use Rattle.std.proofs.Common.{◌≡◌, ℕ, Bool, true, false, List, [], ◌∷◌, ◌++◌, Option, Some, None}
use Rattle.std.proofs.Common.{sym, ap, ◌∙◌}
use Rattle.std.specs.Prelude.{All, ◌&&◌, ◌||◌, flat_map, is_some, not, if◌then◌else◌, map}
use Rattle.std.proofs.lemmas.List.Elements.{All-cons}
use Rattle.std.proofs.lemmas.Option.{same_Some}
use Rattle.sw_tree.specs.declared.name.Name.{Name}
use Rattle.sw_types.specs.declared.ty.Ty.{Ty}
use Rattle.sw_types.specs.declared.ty.Ty.TheVariants as types
use Rattle.sw_isolation_rules.specs.Answers.{Answers}
use Rattle.sw_isolation_rules.specs.Noting.{result_layer as task_layer, task_result}
use Rattle.sw_typing_rules.specs.Expressions.{Closed, fun_judged, fun_types, spawn_judged}
use Rattle.sw_typing_rules.specs.Expressions.{task_types}
use Rattle.sw_typing_rules.specs.Statements.{Left, State, are_captured, body_result, body_rows}
use Rattle.sw_typing_rules.specs.Statements.{capture_rows, closed, lacks_result, param_var}
use Rattle.sw_typing_rules.specs.Statements.{decided_rows, is_result, result_of, vars_rows}
use Rattle.sw_typing_rules.specs.Verdicts.{rows_of}
use Rattle.sw_typing_rules.specs.Words.{Setting, local}
use Rattle.sw_lower_plans.specs.Plan.{Numbers}
use Rattle.sw_lower_rules.specs.Carriers.{ClosureCode}
use Rattle.sw_lower_rules.specs.Expressions.{closure_body, fun_code, fun_result, spawn_code}
use Rattle.sw_lower_rules.specs.Expressions.{spawn_result}
use Rattle.sw_lower_rules.specs.Tables.{Tables, func_result, or_void, result_layer}
use Rattle.sw_typing_facts.specs.Rows.{RowsHold}
use Rattle.sw_lower_formed_facts.proofs.Bodies.ClosureRows.{fun_gives, spawn_gives}
use Rattle.sw_typing_facts.proofs.Said.Rows.{rows_left, rows_right, rows_undecided}
use Rattle.sw_lower_return_facts.specs.Forms.{BlockReturns, BodyReturns}
use Rattle.sw_lower_return_facts.proofs.Bodies.Codes.{body_closes}
use Rattle.sw_lower_return_facts.proofs.Functions.Bodies.{body_returns}
use Rattle.sw_lower_return_facts.proofs.Typing.Giving.{body_ends}

where_so : {A : Type 0} (so : Bool) (found : Option A) (x : A)
    → (if so then found else None) ≡ Some x → found ≡ Some x
where_so true found x is = is
where_so false found x is = cc

-- the type of a closure, by its row
fun_type : (answers : Answers) (at : ℕ) (marked : Bool) (params : List Ty) (found : Option Ty)
    (result : Ty) → found ≡ Some result
    → RowsHold answers (rows_of at (fun_types marked params found))
    → answers.type_at at ≡ Some (types.Func marked params result)
fun_type answers at marked params None result is hold = cc
fun_type answers at marked params (Some found) result is hold =
    hold.0 ∙ ap (λ ty. Some (types.Func marked params ty)) (same_Some found result is)

-- and that of a task
task_type : (answers : Answers) (at : ℕ) (found : Option Ty) (result : Ty) → found ≡ Some result
    → RowsHold answers (rows_of at (task_types found))
    → answers.type_at at ≡ Some (types.Task result)
task_type answers at None result is hold = cc
task_type answers at (Some found) result is hold =
    hold.0 ∙ ap (λ ty. Some (types.Task ty)) (same_Some found result is)

module _ (tables : Tables) (number : Numbers) (owner : Option ℕ) where
  -- a body with those inside it
  closure_returns : (closure : ClosureCode) (given : Ty) (state : State) (left : Left)
      → BlockReturns number true state closure.body left
      → body_result left.state.returned ≡ Some given
      → RowsHold tables.answers (body_rows closure.at left)
      → All (BodyReturns number) (closure_body tables owner closure given ∷ closure.body.inside)
  unfolding closure_body
  closure_returns closure given state left block is hold =
      All-cons (BodyReturns number) (closure_body tables owner closure given) closure.body.inside
      (body_returns number (closure_body tables owner closure given)
      (λ value. body_closes number given state closure.body left block is
      (body_ends tables.answers closure.at left given hold is value) value))
      block.inside

  module _ (closure : ClosureCode) (setting : Setting) (mark : Option Name) (captures : List Name)
      (state : State) (left : Left) (block : BlockReturns number true state closure.body left) where
    -- what is known of the closure or the task
    abbrev closing : Closed
    closing = closed tables.world setting closure.at mark captures closure.params left

    rows_inside : RowsHold tables.answers closing.rows
        → RowsHold tables.answers (body_rows closure.at left)
    rows_inside hold =
        rows_undecided tables.answers (is_result (body_result left.state.returned))
        (body_rows closure.at left)
        (rows_right tables.answers (vars_rows (map (param_var tables.world) closure.params))
        (decided_rows closure.at left)
        (rows_right tables.answers
        (flat_map (λ (word : Name). capture_rows word (local setting.vars word.id)) captures)
        (vars_rows (map (param_var tables.world) closure.params) ++ decided_rows closure.at left)
        hold))

    gives_result : (given : Ty) → closing.result ≡ Some given
        → body_result left.state.returned ≡ Some given
    gives_result given is =
        where_so (left.fine && not (lacks_result left)) (body_result left.state.returned) given
        (where_so (are_captured setting.vars captures) (result_of left) given is)

    pub fun_returns : (expected : Bool) → is_some (fun_judged expected closing).ty ≡ true
        → RowsHold tables.answers (fun_judged expected closing).rows
        → All (BodyReturns number) (fun_code tables owner closure).inside
    fun_returns expected typed rows =
        let gives = fun_gives expected closing typed in
        let marked = closing.marked || expected in
        let own = rows_of closure.at (fun_types marked closing.params closing.result) in
        let at_type =
        fun_type tables.answers closure.at marked closing.params closing.result gives.0
        gives.1 (rows_right tables.answers closing.rows own rows) in
        let is : fun_result tables owner closure.at ≡ gives.0 = ap func_result at_type
        ∙ ap result_layer (types.outs-Func marked closing.params gives.0) in
        closure_returns closure (fun_result tables owner closure.at) state left block
        (gives_result (fun_result tables owner closure.at) (gives.1 ∙ ap Some (sym is)))
        (rows_inside (rows_left tables.answers closing.rows own rows))

    pub spawn_returns : (at : ℕ) → is_some (spawn_judged at closing).ty ≡ true
        → RowsHold tables.answers (spawn_judged at closing).rows
        → All (BodyReturns number) (spawn_code tables owner at closure).inside
    spawn_returns at typed rows =
        let gives = spawn_gives at closing typed in
        let own = rows_of at (task_types closing.result) in
        let at_type = task_type tables.answers at closing.result gives.0 gives.1
        (rows_right tables.answers closing.rows own rows) in
        let is : spawn_result tables owner at ≡ gives.0 =
        ap (λ found. or_void (task_result found)) at_type
        ∙ ap (λ outer. or_void (task_layer outer)) (types.outs-Task gives.0) in
        closure_returns (record closure { params = [] }) (spawn_result tables owner at) state left
        block (gives_result (spawn_result tables owner at) (gives.1 ∙ ap Some (sym is)))
        (rows_inside (rows_left tables.answers closing.rows own rows))
