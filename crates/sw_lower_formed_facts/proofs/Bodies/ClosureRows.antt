-- What the rows of a closure say: the variables that its body sees have types, and so does what it
-- gives.
use Rattle.std.proofs.Common.{◌≡◌, ℕ, List, [], ◌∷◌, ◌++◌, refl, ap, ◌∙◌, Bool, true, false, Option}
use Rattle.std.proofs.Common.{None, Some, is_some}
use Rattle.std.proofs.lemmas.Bool.{false≢true}
use Rattle.std.proofs.lemmas.List.Elements.{All-append, All-cons, All-head, All-nil, All-tail}
use Rattle.std.specs.Prelude.{◌&&◌, ◌||◌, flat_map, if◌then◌else◌, map, not}
use Rattle.std.proofs.lemmas.Option.{same_Some}
use Rattle.sw_tree.specs.declared.expr.ClosureParam.{ClosureParam}
use Rattle.sw_tree.specs.declared.name.Name.{Name}
use Rattle.sw_tree.specs.declared.type_tree.TypeTree.{TypeTree}
use Rattle.sw_types.specs.declared.ty.Ty.{Ty}
use Rattle.sw_decl_words.specs.TypeWords.{type_of}
use Rattle.sw_typing_rules.specs.Expressions.{Closed, fun_judged, fun_types, spawn_judged}
use Rattle.sw_typing_rules.specs.Expressions.{task_types}
use Rattle.sw_typing_rules.specs.Statements.{Left, are_captured, body_result, body_rows}
use Rattle.sw_typing_rules.specs.Statements.{capture_rows, captured, closed, closure_vars}
use Rattle.sw_typing_rules.specs.Statements.{lacks_result, param_var, result_of, result_wanted}
use Rattle.sw_typing_rules.specs.Statements.{decided_rows, is_result, vars_rows}
use Rattle.sw_typing_rules.specs.Typedness.{vars_typed}
use Rattle.sw_typing_rules.specs.Verdicts.{ill_if, type_in}
use Rattle.sw_typing_rules.specs.Words.{Setting, local}
use Rattle.sw_typing_rules.specs.Worlds.{World}
use Rattle.sw_typing_rules.specs.declared.row.Row.{Row}
use Rattle.sw_typing_rules.specs.declared.scope.Returned.{Returned}
use Rattle.sw_typing_rules.specs.declared.scope.Returned.TheVariants.{Gives, Open, Wants}
use Rattle.sw_typing_rules.specs.declared.scope.Var.{Var}
use Rattle.sw_isolation_rules.specs.Answers.{Answers}
use Rattle.sw_lower_formed_facts.specs.Forms.{IsBegun, ReturnsOk, VarHolds, VarsHold}
use Rattle.sw_typing_facts.specs.Rows.{RowsHold}
use Rattle.sw_typing_facts.proofs.Lists.Found.{local_has}
use Rattle.sw_typing_facts.proofs.Said.Rows.{rows_left, rows_right, rows_undecided}

module _ (answers : Answers) where
  -- Variables that hold have types.
  pub vars_are_typed : (vars : List Var) → VarsHold answers vars → vars_typed vars ≡ true
  vars_are_typed [] hold = refl
  vars_are_typed (one ∷ vars) hold =
      ap (λ some. is_some some && vars_typed vars) (All-head (VarHolds answers) one vars hold).has
      ∙ vars_are_typed vars (All-tail (VarHolds answers) one vars hold)

  -- a word that a closure lists
  captured_one : (found : Option Var)
      → ((one : Var) → found ≡ Some one → VarHolds answers one) → VarsHold answers (captured found)
  captured_one None holds = All-nil (VarHolds answers)
  captured_one (Some one) holds =
      let var = holds one refl in
      All-cons (VarHolds answers) (record one { mutable = false }) []
      (record { ty = var.ty; has = var.has; typed = var.typed }) (All-nil (VarHolds answers))

  -- what a closure lists
  captured_hold : (vars : List Var) → VarsHold answers vars → (captures : List Name)
      → VarsHold answers (flat_map (λ (word : Name). captured (local vars word.id)) captures)
  captured_hold vars hold [] = All-nil (VarHolds answers)
  captured_hold vars hold (word ∷ captures) =
      All-append (VarHolds answers) (captured (local vars word.id))
      (flat_map (λ (word : Name). captured (local vars word.id)) captures)
      (captured_one (local vars word.id)
      (λ one is. local_has (VarHolds answers) vars word.id one hold is))
      (captured_hold vars hold captures)

  module _ (world : World) where
    -- a parameter
    param_holds : (param : ClosureParam) → answers.type_at param.name.at
        ≡ Some (type_of world.known.top param.ty) → VarHolds answers (param_var world param)
    param_holds param typed =
        record { ty = type_of world.known.top param.ty; has = refl; typed = typed }

    -- parameters
    params_hold : (params : List ClosureParam)
        → RowsHold answers (vars_rows (map (param_var world) params))
        → VarsHold answers (map (param_var world) params)
    params_hold [] hold = All-nil (VarHolds answers)
    params_hold (param ∷ params) hold =
        All-cons (VarHolds answers) (param_var world param) (map (param_var world) params)
        (param_holds param hold.0) (params_hold params hold.1)

    module _ (setting : Setting) (at : ℕ) (mark : Option Name) (captures : List Name)
        (params : List ClosureParam) (left : Left) where
      -- what is known of a closure
      abbrev closing : Closed
      closing = closed world setting at mark captures params left

      -- the rows of the words that it lists
      abbrev listed_rows : List Row
      listed_rows =
          flat_map (λ (word : Name). capture_rows word (local setting.vars word.id)) captures

      -- the rows of the parameters
      pub params_rows : RowsHold answers closing.rows
          → RowsHold answers (vars_rows (map (param_var world) params))
      params_rows hold =
          rows_left answers (vars_rows (map (param_var world) params)) (decided_rows at left)
          (rows_right answers listed_rows
          (vars_rows (map (param_var world) params) ++ decided_rows at left)
          hold)

      -- the rows of its block
      pub inner_rows : RowsHold answers closing.rows → RowsHold answers left.rows
      inner_rows hold =
          rows_left answers left.rows (ill_if (lacks_result left) at 406)
          (rows_undecided answers (is_result (body_result left.state.returned)) (body_rows at left)
          (rows_right answers (vars_rows (map (param_var world) params)) (decided_rows at left)
          (rows_right answers listed_rows
          (vars_rows (map (param_var world) params) ++ decided_rows at left)
          hold)))

      -- The variables that the body sees have types.
      pub inner_vars : VarsHold answers setting.vars → RowsHold answers closing.rows
          → VarsHold answers (closure_vars world setting.vars captures params)
      inner_vars vars hold =
          All-append (VarHolds answers) setting.vars
          (map (param_var world) params
          ++ flat_map (λ (word : Name). captured (local setting.vars word.id)) captures) vars
          (All-append (VarHolds answers) (map (param_var world) params)
          (flat_map (λ (word : Name). captured (local setting.vars word.id)) captures)
          (params_hold params (params_rows hold)) (captured_hold setting.vars vars captures))

-- Nothing is given where a body begins.
pub wanted_begun : (world : World) (result : Option TypeTree) → IsBegun (result_wanted world result)
wanted_begun world None = tt
wanted_begun world (Some tree) = tt

-- A body gives what its result is known to be.
returns_by : (returned : Returned) (result : Ty) → body_result returned ≡ Some result
    → ReturnsOk returned result
returns_by (Wants ty) result is = same_Some ty result is
returns_by (Open places) result is = tt
returns_by (Gives None) result is = cc
returns_by (Gives (Some ty)) result is = same_Some ty result is

-- what is found is what there is
where_so : {A : Type 0} (so : Bool) (found : Option A) (x : A)
    → (if so then found else None) ≡ Some x → found ≡ Some x
where_so true found x is = is
where_so false found x is = cc

-- The body of a closure with a result gives it.
pub closed_returns : (world : World) (setting : Setting) (at : ℕ) (mark : Option Name)
    (captures : List Name) (params : List ClosureParam) (left : Left) (result : Ty)
    → (closed world setting at mark captures params left).result ≡ Some result
    → ReturnsOk left.state.returned result
closed_returns world setting at mark captures params left result is =
    returns_by left.state.returned result
    (where_so (left.fine && not (lacks_result left)) (body_result left.state.returned) result
    (where_so (are_captured setting.vars captures) (result_of left) result is))

-- A closure that has a type has a result.
pub fun_gives : (expected : Bool) (closing : Closed)
    → is_some (fun_judged expected closing).ty ≡ true
    → (result : Ty) × (closing.result ≡ Some result)
fun_gives expected closing typed = by closing.result refl typed where
  by : (result : Option Ty) → closing.result ≡ result
      → is_some (type_in (fun_types (closing.marked || expected) closing.params result)) ≡ true
      → (result : Ty) × (closing.result ≡ Some result)
  by None is typed = absurd (false≢true typed)
  by (Some result) is typed = (result, is)

-- and so has a task
pub spawn_gives : (at : ℕ) (closing : Closed) → is_some (spawn_judged at closing).ty ≡ true
    → (result : Ty) × (closing.result ≡ Some result)
spawn_gives at closing typed = by closing.result refl typed where
  by : (result : Option Ty) → closing.result ≡ result
      → is_some (type_in (task_types result)) ≡ true
      → (result : Ty) × (closing.result ≡ Some result)
  by None is typed = absurd (false≢true typed)
  by (Some result) is typed = (result, is)
