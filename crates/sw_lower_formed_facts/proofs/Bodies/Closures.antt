-- A closure and a task are safe, and the functions of their bodies fit.
use Rattle.std.proofs.Common.{◌≡◌, ℕ, List, [], ◌∷◌, ◌++◌, length, map, refl, ap, sym, ◌∙◌, subst}
use Rattle.std.proofs.Common.{Bool, true, false, Option, None, Some, is_some, append-nil}
use Rattle.std.proofs.lemmas.Bool.{false≢true}
use Rattle.std.proofs.lemmas.List.{length-map, map-append}
use Rattle.std.proofs.lemmas.List.Elements.{All-append, All-cons, All-nil}
use Rattle.std.specs.Prelude.{All, IsOk, ◌||◌, is_some, option_map, slice_get}
use Rattle.std.proofs.lemmas.Option.{same_Some}
use Rattle.sw_tree.specs.declared.expr.ClosureParam.{ClosureParam}
use Rattle.sw_tree.specs.declared.name.Name.{Name}
use Rattle.sw_tree.specs.declared.type_tree.TypeTree.{TypeTree}
use Rattle.sw_types.specs.declared.ty.Ty.{Ty}
use Rattle.sw_types.specs.declared.ty.Ty.TheVariants as types
use Rattle.sw_decl_words.specs.TypeWords.{type_of}
use Rattle.sw_graph.specs.Kinds.{types_of}
use Rattle.sw_graph.specs.Mentions.{reads, set_by}
use Rattle.sw_graph.specs.Payloads.{is_payload}
use Rattle.sw_graph.specs.declared.function.Function.{Function}
use Rattle.sw_graph.specs.declared.function.RegKind.{RegKind}
use Rattle.sw_graph.specs.declared.function.RegKind.TheVariants.{Plain}
use Rattle.sw_graph.specs.declared.instr.Instr.{Instr}
use Rattle.sw_graph.specs.declared.instr.Instr.TheVariants.{NewClosure, NewTask}
use Rattle.sw_graph.specs.declared.instr.Operand.{Operand}
use Rattle.sw_typing_rules.specs.Expressions.{Closed, fun_judged, fun_types, spawn_judged}
use Rattle.sw_typing_rules.specs.Expressions.{task_types}
use Rattle.sw_typing_rules.specs.Statements.{Left, State, closed, closure_state, closure_vars}
use Rattle.sw_typing_rules.specs.Statements.{param_var, vars_rows}
use Rattle.sw_typing_rules.specs.Verdicts.{rows_of, type_in}
use Rattle.sw_typing_rules.specs.Words.{Setting}
use Rattle.sw_isolation_rules.specs.Noting.{result_layer as task_layer, task_result}
use Rattle.sw_isolation_rules.specs.declared.note.Capture.{Capture}
use Rattle.sw_lower_plans.specs.Plan.{Numbers}
use Rattle.sw_lower_code.specs.Code.{number, ◌>>=◌}
use Rattle.sw_lower_code.specs.Whole.{Body, function_of, lower_body}
use Rattle.sw_lower_code.specs.declared.taken.Taken.{Taken}
use Rattle.sw_lower_rules.specs.Bodies.{global_kind}
use Rattle.sw_lower_rules.specs.Carriers.{ClosureCode}
use Rattle.sw_lower_rules.specs.Expressions.{captured, capture_taken, closure_body}
use Rattle.sw_lower_rules.specs.Expressions.{closure_param_taken, fun_code, fun_result, spawn_code}
use Rattle.sw_lower_rules.specs.Expressions.{spawn_result, task_body}
use Rattle.sw_lower_rules.specs.Tables.{Tables, func_result, or_void, plain, result_layer}
use Rattle.sw_lower_rules.specs.Uses.{give, typed}
use Rattle.sw_lower_formed_facts.specs.Forms.{BlockOk, BodiesFit, BodyFits, ExprOk, IsBegun, ReturnsOk}
use Rattle.sw_lower_formed_facts.specs.Forms.{VarsHold}
use Rattle.sw_typing_facts.specs.Rows.{RowsHold}
use Rattle.sw_lower_formed_facts.specs.Ground.{Ground, IsDeclaredIn, IsOfGraph, Knows}
use Rattle.sw_lower_formed_facts.specs.Safe.{Keeps, Position, SafeAt, ValueAfter, here}
use Rattle.sw_lower_formed_facts.specs.Taking.{AreHeld, TakenOk}
use Rattle.sw_lower_formed_facts.specs.Whole.{IsSet, Whole}
use Rattle.sw_lower_formed_facts.proofs.Bodies.BodyCode.{body_code_ok}
use Rattle.sw_lower_formed_facts.proofs.Bodies.BodyFits.{body_fits}
use Rattle.sw_lower_formed_facts.proofs.Bodies.Captures.{captures_in, held_count, held_kinds, held_set}
use Rattle.sw_lower_formed_facts.proofs.Bodies.Captures.{held_takes, kinds_for, var_typed}
use Rattle.sw_lower_formed_facts.proofs.Bodies.ClosureKinds.{closure_fits, task_fits}
use Rattle.sw_lower_formed_facts.proofs.Bodies.ClosureRows.{closed_returns, fun_gives, inner_rows}
use Rattle.sw_lower_formed_facts.proofs.Bodies.ClosureRows.{inner_vars, params_rows, spawn_gives}
use Rattle.sw_lower_formed_facts.proofs.Bodies.ClosureRows.{wanted_begun}
use Rattle.sw_lower_formed_facts.proofs.Functions.Takes.{gives_of, takes_of}
use Rattle.sw_lower_formed_facts.proofs.Positions.Asking.{function_then, typed_then}
use Rattle.sw_lower_formed_facts.proofs.Positions.Following.{keeps_then, knows_still}
use Rattle.sw_lower_formed_facts.proofs.Positions.Then.{safe_then, safe_weaker}
use Rattle.sw_lower_formed_facts.proofs.Positions.Using.{Fits, give_in}
use Rattle.sw_typing_facts.proofs.Said.Rows.{rows_left, rows_right}
use Rattle.sw_typing_facts.proofs.Types.Within.{awaited_within, result_within}

-- the kinds of parameters
abbrev param_kinds : Tables → List ClosureParam → List RegKind
param_kinds tables params =
    map (λ (one : Taken). one.kind) (map (closure_param_taken tables) params)

-- the types of parameters
abbrev param_types : Tables → List ClosureParam → List Ty
param_types tables params =
    map (λ (param : ClosureParam). type_of tables.world.known.top param.ty) params

-- the kinds of what the body of a closure takes
takes_kinds : (tables : Tables) (owner : Option ℕ) (closure : ClosureCode) (result : Ty)
    → map (λ (one : Taken). one.kind) (closure_body tables owner closure result).takes
    ≡ kinds_for tables owner (tables.isolation.captures_of closure.at)
    ++ param_kinds tables closure.params
unfolding closure_body
takes_kinds tables owner closure result =
    map-append (λ (one : Taken). one.kind)
    (map (capture_taken tables owner) (tables.isolation.captures_of closure.at))
    (map (closure_param_taken tables) closure.params)

-- as many kinds as captures
kinds_count : (tables : Tables) (owner : Option ℕ) (captures : List Capture)
    → length (kinds_for tables owner captures) ≡ length captures
kinds_count tables owner captures =
    length-map (map (capture_taken tables owner) captures) (λ (one : Taken). one.kind)
    ∙ length-map captures (capture_taken tables owner)

-- its result is as it was asked for
body_gives : (tables : Tables) (owner : Option ℕ) (closure : ClosureCode) (result : Ty)
    → (closure_body tables owner closure result).result ≡ result
unfolding closure_body
body_gives tables owner closure result = refl

module _ (tables : Tables) (numbers : Numbers) (functions : List Function)
    (ground : Ground tables numbers functions) (owner : Option ℕ) where
  -- What the body takes for its parameters has their types.
  params_taken : (params : List ClosureParam)
      → RowsHold tables.answers (vars_rows (map (param_var tables.world) params))
      → All (TakenOk tables owner) (map (closure_param_taken tables) params)
  params_taken [] hold = All-nil (TakenOk tables owner)
  params_taken (param ∷ params) hold =
      All-cons (TakenOk tables owner) (closure_param_taken tables param)
      (map (closure_param_taken tables) params)
      (record {
        ty = type_of tables.world.known.top param.ty;
        typed = var_typed tables numbers functions ground owner param.name.at
            (type_of tables.world.known.top param.ty) hold.0;
        kind = ap (λ ty. Plain (or_void ty)) hold.0;
        declared = ground.typed param.name.at (type_of tables.world.known.top param.ty) hold.0;
      })
      (params_taken params hold.1)

  -- the kinds of parameters are of these types
  params_types : (params : List ClosureParam)
      → RowsHold tables.answers (vars_rows (map (param_var tables.world) params))
      → types_of (param_kinds tables params) ≡ Some (param_types tables params)
  params_types [] hold = refl
  params_types (param ∷ params) hold =
      ap (option_map (λ tys. or_void (tables.answers.type_at param.name.at) ∷ tys))
      (params_types params hold.1)
      ∙ ap (λ ty. Some (or_void ty ∷ param_types tables params)) hold.0

  -- The functions of a body and of those inside it fit.
  inside_fits : (closure : ClosureCode) (result : Ty) (state : State) (left : Left)
      → IsDeclaredIn tables result
      → IsOk (lower_body numbers (closure_body tables owner closure result))
      → RowsHold tables.answers (vars_rows (map (param_var tables.world) closure.params))
      → BlockOk tables numbers functions owner true state closure.body left
      → IsBegun state.returned → ReturnsOk left.state.returned result
      → All (TakenOk tables owner)
      (map (capture_taken tables owner) (tables.isolation.captures_of closure.at))
      → BodiesFit tables numbers functions
      (closure_body tables owner closure result ∷ closure.body.inside)
  unfolding closure_body
  inside_fits closure result state left declared ok params block begun returns captures =
      let body = closure_body tables owner closure result in
      let got = body_fits tables numbers functions owner body
      (All-append (TakenOk tables owner)
      (map (capture_taken tables owner) (tables.isolation.captures_of closure.at))
      (map (closure_param_taken tables) closure.params) captures
      (params_taken closure.params params)) declared
      (BodiesFit tables numbers functions closure.body.inside)
      (body_code_ok tables numbers functions owner result state closure.body left block begun
      returns) ok in
      All-cons (BodyFits tables numbers functions) body closure.body.inside (λ _. got.0) got.1

  -- what is made of captures and of a function
  made_in : (w : Whole) (of : IsOfGraph tables functions w) (p : Position)
      → Knows tables owner numbers w p → (at key : ℕ) (ty : Ty) (Inside : Type 0)
      (instr : ℕ → List Operand → ℕ → Instr) → tables.answers.type_at at ≡ Some ty
      → ((f : ℕ) (xs : List Operand) (r : ℕ) → is_payload (instr f xs r) ≡ false)
      → ((f : ℕ) (xs : List Operand) (r : ℕ) → set_by (instr f xs r) ≡ Some r)
      → ((f : ℕ) (xs : List Operand) (r : ℕ)
      → reads (instr f xs r) ≡ map (λ (x : Operand). x.reg) xs)
      → ((f : ℕ) (xs : List Operand) (q : Position) → numbers (plain key) ≡ Some f
      → AreHeld tables owner w q (tables.isolation.captures_of key) xs → (r : ℕ)
      → slice_get w.regs r ≡ Some (Plain ty) → Fits tables functions w of (instr f xs r))
      → ((xs : List Operand) (q : Position)
      → AreHeld tables owner w q (tables.isolation.captures_of key) xs → Inside)
      → SafeAt w p (captured tables owner at key
      >>= λ operands. number (plain key)
      >>= λ f. typed tables at
      >>= λ ty. give at ty (instr f operands)) (λ x q. ValueAfter w p ty x q × Inside)
  made_in w of p knows at key ty Inside instr has plainly sets read fits inside_is =
      safe_then w p (captured tables owner at key)
      (λ operands. number (plain key)
      >>= λ f. typed tables at >>= λ ty. give at ty (instr f operands))
      (λ xs q. AreHeld tables owner w q (tables.isolation.captures_of key) xs × Keeps w p q)
      (λ x q. ValueAfter w p ty x q × Inside)
      (captures_in tables numbers functions ground owner w of at
      (tables.isolation.captures_of key) p knows)
      (λ xs q inside mid.
      function_then tables owner numbers w q (plain key)
      (λ f. typed tables at >>= λ ty. give at ty (instr f xs))
      (λ x q. ValueAfter w p ty x q × Inside)
      (knows_still tables owner numbers w p q mid.1 knows)
      (λ f found.
      typed_then tables w q at (λ ty. give at ty (instr f xs))
      (λ x q. ValueAfter w p ty x q × Inside)
      (λ other is. subst (λ t. SafeAt w q (give at t (instr f xs))
      (λ x s. ValueAfter w p ty x s × Inside)) (same_Some ty other (sym has ∙ is))
      (last q xs f mid.0 mid.1 found)))) where
        last : (q : Position) (xs : List Operand) (f : ℕ)
            → AreHeld tables owner w q (tables.isolation.captures_of key) xs → Keeps w p q
            → numbers (plain key) ≡ Some f
            → SafeAt w q (give at ty (instr f xs)) (λ x s. ValueAfter w p ty x s × Inside)
        last q xs f are keeps found =
            safe_weaker w q (give at ty (instr f xs)) (ValueAfter w q ty)
            (λ x s. ValueAfter w p ty x s × Inside)
            (give_in tables functions w of q at ty (instr f xs) (ground.typed at ty has)
            (plainly f xs) (fits f xs q found are)
            (λ r. subst (All (IsSet w q.writes (here q))) (sym (read f xs r))
            (held_set tables owner w q (tables.isolation.captures_of key) xs are))
            (sets f xs))
            (λ x s in_s value. (
              (value.0, keeps_then w p q s keeps value.1),
              inside_is xs q are,
            ))

  -- the type of a closure, by its row
  fun_type : (at : ℕ) (marked : Bool) (params : List Ty) (found : Option Ty) (result : Ty)
      → found ≡ Some result
      → RowsHold tables.answers (rows_of at (fun_types marked params found))
      → tables.answers.type_at at ≡ Some (types.Func marked params result)
  fun_type at marked params None result is hold = cc
  fun_type at marked params (Some found) result is hold =
      hold.0 ∙ ap (λ ty. Some (types.Func marked params ty)) (same_Some found result is)

  -- and that of a task
  task_type : (at : ℕ) (found : Option Ty) (result : Ty) → found ≡ Some result
      → RowsHold tables.answers (rows_of at (task_types found))
      → tables.answers.type_at at ≡ Some (types.Task result)
  task_type at None result is hold = cc
  task_type at (Some found) result is hold =
      hold.0 ∙ ap (λ ty. Some (types.Task ty)) (same_Some found result is)

  module _ (closure : ClosureCode) (setting : Setting) (mark : Option Name) (captures : List Name)
      (result : Option TypeTree) (left : Left) where
    -- what is known of a closure or a task, by what its block leaves
    abbrev closing : Closed
    closing = closed tables.world setting closure.at mark captures closure.params left

    -- the function with its number is that of its body
    abbrev IsItsFunction : Body → Type 0
    IsItsFunction body = (f : ℕ) → numbers (plain closure.at) ≡ Some f
        → slice_get functions f ≡ Some (function_of numbers body)

    -- Its block is safe where the variables that it sees have types.
    abbrev IsSafeInside : Type 0
    IsSafeInside =
        VarsHold tables.answers (closure_vars tables.world setting.vars captures closure.params)
        → RowsHold tables.answers left.rows
        → BlockOk tables numbers functions owner true
        (closure_state tables.world setting captures closure.params result) closure.body left

    -- what it captures
    abbrev its_captures : List Capture
    its_captures = tables.isolation.captures_of closure.at

    -- The functions of its body and of those inside it fit.
    all_fit : (given : Ty) → closing.result ≡ Some given → IsDeclaredIn tables given
        → IsOk (lower_body numbers (closure_body tables owner closure given))
        → VarsHold tables.answers setting.vars → RowsHold tables.answers closing.rows
        → IsSafeInside → (w : Whole) (q : Position) (xs : List Operand)
        → AreHeld tables owner w q its_captures xs
        → BodiesFit tables numbers functions
        (closure_body tables owner closure given ∷ closure.body.inside)
    all_fit given gives declared ok vars rows block w q xs are =
        inside_fits closure given
        (closure_state tables.world setting captures closure.params result) left declared ok
        (params_rows tables.answers tables.world setting closure.at mark captures closure.params
        left rows)
        (block (inner_vars tables.answers tables.world setting closure.at mark captures
        closure.params left vars rows)
        (inner_rows tables.answers tables.world setting closure.at mark captures closure.params
        left rows)) (wanted_begun tables.world result)
        (closed_returns tables.world setting closure.at mark captures closure.params left given
        gives)
        (held_takes tables owner w q its_captures xs are)

    -- the same of a task, which takes its captures alone
    alone_fit : (given : Ty) → closing.result ≡ Some given → IsDeclaredIn tables given
        → IsOk (lower_body numbers (task_body tables owner closure given))
        → VarsHold tables.answers setting.vars → RowsHold tables.answers closing.rows
        → IsSafeInside → (w : Whole) (q : Position) (xs : List Operand)
        → AreHeld tables owner w q its_captures xs
        → BodiesFit tables numbers functions
        (task_body tables owner closure given ∷ closure.body.inside)
    alone_fit given gives declared ok vars rows block w q xs are =
        inside_fits (record closure { params = [] }) given
        (closure_state tables.world setting captures closure.params result) left declared ok tt
        (block (inner_vars tables.answers tables.world setting closure.at mark captures
        closure.params left vars rows)
        (inner_rows tables.answers tables.world setting closure.at mark captures closure.params
        left rows)) (wanted_begun tables.world result)
        (closed_returns tables.world setting closure.at mark captures closure.params left given
        gives)
        (held_takes tables owner w q its_captures xs are)

    -- A closure that has a type is safe, and the function of its body fits.
    pub fun_ok : (expected : Bool) → is_some (fun_judged expected closing).ty ≡ true
        → IsOk (lower_body numbers
        (closure_body tables owner closure (fun_result tables owner closure.at)))
        → IsItsFunction (closure_body tables owner closure (fun_result tables owner closure.at))
        → VarsHold tables.answers setting.vars
        → RowsHold tables.answers (fun_judged expected closing).rows → IsSafeInside
        → ExprOk tables numbers functions owner (fun_code tables owner closure)
        (fun_judged expected closing)
    fun_ok expected typed_so ok function vars rows block = record {
      ty = ty;
      has = ap (λ r. type_in (fun_types marked closing.params r)) gives.1;
      typed = at_type;
      read = λ w of p knows.
          made_in w of p knows closure.at closure.at ty
          (BodiesFit tables numbers functions (body ∷ closure.body.inside))
          (λ f xs r. NewClosure closure.at r f xs) at_type (λ f xs r. refl) (λ f xs r. refl)
          (λ f xs r. refl)
          (λ f xs q found are r kind.
          closure_fits tables.world.shapes (map global_kind tables.world.globals) functions w.regs
          closure.at r f xs (function_of numbers body) (kinds_for tables owner its_captures)
          (param_kinds tables closure.params) marked closing.params gives.0 (function f found)
          (takes_of numbers body ∙ takes_kinds tables owner closure given)
          (gives_of numbers body ∙ body_gives tables owner closure given ∙ given_is)
          (held_count tables owner w q its_captures xs are
          ∙ sym (kinds_count tables owner its_captures))
          (held_kinds tables owner w q its_captures xs are)
          (params_types closure.params
          (params_rows tables.answers tables.world setting closure.at mark captures closure.params
          left closing_rows)) kind)
          (λ xs q are.
          all_fit given (gives.1 ∙ ap Some (sym given_is))
          (subst (IsDeclaredIn tables) (sym given_is)
          (result_within (length tables.world.shapes) marked closing.params gives.0
          (ground.typed closure.at ty at_type))) ok vars closing_rows block w q xs are);
      write = λ settable. absurd (false≢true settable);
    } where
      given : Ty
      given = fun_result tables owner closure.at

      body : Body
      body = closure_body tables owner closure given

      marked : Bool
      marked = closing.marked || expected

      gives : (r : Ty) × (closing.result ≡ Some r)
      gives = fun_gives expected closing typed_so

      ty : Ty
      ty = types.Func marked closing.params gives.0

      closing_rows : RowsHold tables.answers closing.rows
      closing_rows = rows_left tables.answers closing.rows
          (rows_of closure.at (fun_types marked closing.params closing.result)) rows

      at_type : tables.answers.type_at closure.at ≡ Some ty
      at_type = fun_type closure.at marked closing.params closing.result gives.0 gives.1
          (rows_right tables.answers closing.rows
          (rows_of closure.at (fun_types marked closing.params closing.result)) rows)

      given_is : given ≡ gives.0
      given_is = ap func_result at_type
          ∙ ap result_layer (types.outs-Func marked closing.params gives.0)

    -- A task that has a type is safe, and the function of its body fits.
    pub spawn_ok : (at : ℕ) → is_some (spawn_judged at closing).ty ≡ true
        → IsOk (lower_body numbers
        (task_body tables owner closure (spawn_result tables owner at)))
        → IsItsFunction (task_body tables owner closure (spawn_result tables owner at))
        → VarsHold tables.answers setting.vars
        → RowsHold tables.answers (spawn_judged at closing).rows → IsSafeInside
        → ExprOk tables numbers functions owner (spawn_code tables owner at closure)
        (spawn_judged at closing)
    spawn_ok at typed_so ok function vars rows block = record {
      ty = ty;
      has = ap (λ r. type_in (task_types r)) gives.1;
      typed = at_type;
      read = λ w of p knows.
          made_in w of p knows at closure.at ty
          (BodiesFit tables numbers functions (body ∷ closure.body.inside))
          (λ f xs r. NewTask at r f xs) at_type (λ f xs r. refl) (λ f xs r. refl)
          (λ f xs r. refl)
          (λ f xs q found are r kind.
          task_fits tables.world.shapes (map global_kind tables.world.globals) functions w.regs at r
          f xs (function_of numbers body) (kinds_for tables owner its_captures) gives.0
          (function f found) (takes_of numbers body ∙ captures_alone)
          (gives_of numbers body ∙ body_gives tables owner (record closure { params = [] }) given
          ∙ given_is)
          (held_kinds tables owner w q its_captures xs are) kind)
          (λ xs q are.
          alone_fit given (gives.1 ∙ ap Some (sym given_is))
          (subst (IsDeclaredIn tables) (sym given_is)
          (awaited_within (length tables.world.shapes) gives.0 (ground.typed at ty at_type))) ok
          vars closing_rows block w q xs are);
      write = λ settable. absurd (false≢true settable);
    } where
      given : Ty
      given = spawn_result tables owner at

      body : Body
      body = task_body tables owner closure given

      gives : (r : Ty) × (closing.result ≡ Some r)
      gives = spawn_gives at closing typed_so

      ty : Ty
      ty = types.Task gives.0

      closing_rows : RowsHold tables.answers closing.rows
      closing_rows =
          rows_left tables.answers closing.rows (rows_of at (task_types closing.result)) rows

      at_type : tables.answers.type_at at ≡ Some ty
      at_type = task_type at closing.result gives.0 gives.1
          (rows_right tables.answers closing.rows (rows_of at (task_types closing.result)) rows)

      given_is : given ≡ gives.0
      given_is = ap (λ found. or_void (task_result found)) at_type
          ∙ ap (λ outer. or_void (task_layer outer)) (types.outs-Task gives.0)

      captures_alone : map (λ (one : Taken). one.kind) body.takes
          ≡ kinds_for tables owner its_captures
      captures_alone = takes_kinds tables owner (record closure { params = [] }) given
          ∙ append-nil (kinds_for tables owner its_captures)
