-- `let` and `var`.
use Rattle.std.proofs.Common.{◌≡◌, ℕ, Bool, true, false, List, [], ◌∷◌, ◌++◌, Option, Some, None}
use Rattle.std.proofs.Common.{refl, ap, sym, ◌∙◌, subst, inl, inr, ◌⊎◌, map, if◌then◌else◌}
use Rattle.std.proofs.lemmas.List.{map-append}
use Rattle.std.proofs.lemmas.List.Elements.{All-cons, All-append, All-nil, Contains-append_cases}
use Rattle.std.specs.Prelude.{Contains}
use Rattle.sw_tree.specs.declared.name.Name.{Name}
use Rattle.sw_types.specs.declared.ty.Ty.{Ty}
use Rattle.sw_types.specs.declared.ty.Ty.TheVariants as types
use Rattle.sw_graph.specs.declared.function.RegKind.{RegKind}
use Rattle.sw_graph.specs.declared.function.RegKind.TheVariants.{BoxOf, Plain}
use Rattle.sw_graph.specs.declared.instr.Instr.{Instr}
use Rattle.sw_graph.specs.declared.instr.Instr.TheVariants.{Copy, NewBox}
use Rattle.sw_graph.specs.declared.instr.Operand.{Operand}
use Rattle.sw_typing_rules.specs.Expressions.{Judged}
use Rattle.sw_typing_rules.specs.Statements.{Left, State, bind_left, refused, variable}
use Rattle.sw_typing_rules.specs.Verdicts.{variable_rows}
use Rattle.sw_typing_rules.specs.declared.scope.Inside.{Inside}
use Rattle.sw_typing_rules.specs.declared.scope.Var.{Var}
use Rattle.sw_isolation_rules.specs.Noting.{var_notes}
use Rattle.sw_isolation_rules.specs.declared.note.Note.{Note}
use Rattle.sw_isolation_rules.specs.declared.uses.Context.{Context}
use Rattle.sw_lower_plans.specs.Plan.{Numbers, Place, after, var_in}
use Rattle.sw_lower_plans.specs.Run.{IsGoing, Making, place_of}
use Rattle.sw_lower_plans.specs.declared.bound.Bound.{Bound}
use Rattle.sw_lower_code.specs.Code.{Code, andthen, bind, emit, known, reg, ◌>>=◌, ◌>>◌}
use Rattle.sw_lower_rules.specs.Carriers.{ExprCode}
use Rattle.sw_lower_rules.specs.Statements.{boxed_var, declare_var, plain_var, statement}
use Rattle.sw_lower_rules.specs.Tables.{Tables}
use Rattle.sw_lower_rules.specs.Uses.{typed}
use Rattle.sw_typing_facts.specs.Rows.{RowsHold}
use Rattle.sw_typing_facts.proofs.Lists.Listed.{only_in}
use Rattle.sw_typing_facts.proofs.Said.Rows.{rows_right, variable_typed}
use Rattle.sw_lower_total_facts.specs.Binding.{ExprBindsNothing}
use Rattle.sw_lower_total_facts.specs.Bound.{InBox, InBoxes, VariableIsBound}
use Rattle.sw_lower_total_facts.specs.Forms.{Binds, ExprProceeds, StmtProceeds}
use Rattle.sw_lower_total_facts.specs.Proceeding.{Proceeds}
use Rattle.sw_lower_total_facts.proofs.Proceeding.Steps.{proceeds_bind, proceeds_emit, proceeds_known}
use Rattle.sw_lower_total_facts.proofs.Proceeding.Steps.{proceeds_reg}
use Rattle.sw_lower_total_facts.proofs.Proceeding.Then.{proceeds_then, ran_of}
use Rattle.sw_lower_total_facts.proofs.Statements.Beginning.{begins_right, proceeds_by, then_begins}
use Rattle.sw_lower_total_facts.proofs.Statements.Bounds.{bound_of, var_added}
use Rattle.sw_lower_total_facts.proofs.Statements.Stating.{stmt_of}

-- one variable, with its key, in a box or not
pub record NewVar (boxed : Bool) (key : ℕ) (vars : List Bound) : Type 0 where
  pub register : ℕ
  pub is : vars ≡ record { key = key; reg = register; boxed = boxed } ∷ []

-- a register with a value, which is a variable from then on
put_proceeds : (kind : RegKind) (instr : ℕ → Instr) (bound : ℕ → Bound) (s : Making) → IsGoing s
    → Proceeds s (reg kind >>= λ r. emit (instr r) >> bind (bound r))
put_proceeds kind instr bound s going =
    proceeds_then (reg kind) (λ r. emit (instr r) >> bind (bound r)) s going (proceeds_reg kind s)
    (λ r t is ran.
    proceeds_then (emit (instr r)) (λ _. bind (bound r)) t ran.1.there (proceeds_emit (instr r) t)
    (λ _ u emitted made. proceeds_bind (bound r) u))

module _ (tables : Tables) where
  abbrev either : Bool → ℕ → Operand → Ty → Code (Unit {0})
  either boxed key given =
      if boxed then boxed_var tables key given else plain_var tables key given

  either_proceeds : (boxed : Bool) (key : ℕ) (given : Operand) (ty : Ty) (s : Making)
      → IsGoing s → Proceeds s (either boxed key given ty)
  either_proceeds true key given ty s going =
      put_proceeds (BoxOf ty) (λ r. NewBox key r given)
      (λ r. record { key = key; reg = r; boxed = true }) s going
  either_proceeds false key given ty s going =
      put_proceeds (Plain ty) (λ r. Copy key r given)
      (λ r. record { key = key; reg = r; boxed = false }) s going

  -- The code that declares a variable with a type proceeds.
  declare_proceeds : (key : ℕ) (given : Operand) (ty : Ty) (s : Making) → IsGoing s
      → tables.answers.type_at key ≡ Some ty → Proceeds s (declare_var tables key given)
  unfolding declare_var typed
  declare_proceeds key given ty s going has =
      proceeds_then (known types.Unit (tables.answers.type_at key))
      (either (tables.isolation.is_boxed key) key given) s going
      (proceeds_known types.Unit (tables.answers.type_at key) ty s has)
      (λ found t is ran.
      either_proceeds (tables.isolation.is_boxed key) key given found t ran.1.there)

  -- and it declares that variable alone, in a box where it is to be in one
  either_vars : (boxed : Bool) (key : ℕ) (given : Operand) (ty : Ty) (place : Place)
      → NewVar boxed key ((either boxed key given ty).plan place).vars
  unfolding andthen reg emit bind
  either_vars true key given ty place = record { register = place.regs; is = refl }
  either_vars false key given ty place = record { register = place.regs; is = refl }

  declared_vars : (key : ℕ) (given : Operand) (place : Place)
      → NewVar (tables.isolation.is_boxed key) key
      ((declare_var tables key given).plan place).vars
  unfolding declare_var typed known andthen
  declared_vars key given place =
      let first = (known types.Unit (tables.answers.type_at key)).plan place in
      either_vars (tables.isolation.is_boxed key) key given first.value (after place first)

  -- after a value that declares nothing
  bind_vars : (name : Name) (value : ExprCode) → ExprBindsNothing value → (place : Place)
      → NewVar (tables.isolation.is_boxed name.at) name.at
      ((value.read >>= declare_var tables name.at).plan place).vars
  unfolding andthen
  bind_vars name value nothing place =
      let first = value.read.plan place in
      let new = declared_vars name.at first.value (after place first) in record {
        register = new.register;
        is = ap (λ vars.
            vars ++ ((declare_var tables name.at first.value).plan (after place first)).vars)
            (nothing.read place) ∙ new.is;
      }

  -- A variable that is new is bound.
  pub new_bound : (listed : List ℕ) (vars after : List Bound) (one : Var) (before : List Var)
      (ty : Ty) → NewVar (tables.isolation.is_boxed one.at) one.at after
      → tables.answers.type_at one.at ≡ Some ty → InBoxes tables listed vars
      → InBoxes tables listed (vars ++ after)
      × ((key : ℕ) → Contains (map (λ (var : Var). var.at) (before ++ one ∷ [])) key
      → Contains (map (λ (var : Var). var.at) before) key
      ⊎ VariableIsBound tables listed (vars ++ after) key)
  new_bound listed vars after one before ty new has boxes = (all_boxed, bound) where
    own : Bound
    own = record { key = one.at; reg = new.register; boxed = tables.isolation.is_boxed one.at }

    all_boxed : InBoxes tables listed (vars ++ after)
    all_boxed = subst (λ list. InBoxes tables listed (vars ++ list)) (sym new.is)
        (All-append (InBox tables listed) vars (own ∷ []) boxes
        (All-cons (InBox tables listed) own [] (λ boxed unlisted. boxed)
        (All-nil (InBox tables listed))))

    here : VariableIsBound tables listed (vars ++ after) one.at
    here =
        let found = var_added one.at vars [] own refl in
        bound_of tables listed (vars ++ after) one.at ty found.0 all_boxed
        (ap (λ list. var_in one.at (vars ++ list)) new.is ∙ found.1) has

    bound : (key : ℕ) → Contains (map (λ (var : Var). var.at) (before ++ one ∷ [])) key
        → Contains (map (λ (var : Var). var.at) before) key
        ⊎ VariableIsBound tables listed (vars ++ after) key
    bound key seen =
        by (Contains-append_cases (map (λ (var : Var). var.at) before) (one.at ∷ []) key
        (subst (λ list. Contains list key)
        (map-append (λ (var : Var). var.at) before (one ∷ [])) seen)) where
          by : Contains (map (λ (var : Var). var.at) before) key ⊎ Contains (one.at ∷ []) key
              → Contains (map (λ (var : Var). var.at) before) key
              ⊎ VariableIsBound tables listed (vars ++ after) key
          by (inl old) = inl old
          by (inr this) = inr (subst (VariableIsBound tables listed (vars ++ after))
              (only_in one.at key this) here)

module _ (tables : Tables) (number : Numbers) (context : Context) (listed : List ℕ) where
  bind_binds : (name : Name) (value : ExprCode) (before : List Var) (one : Var) (ty : Ty)
      → one.at ≡ name.at → ExprBindsNothing value → tables.answers.type_at name.at ≡ Some ty
      → Binds tables number context listed before (before ++ one ∷ [])
      (λ targets. value.read >>= declare_var tables name.at)
  bind_binds name value before one ty same nothing has targets s t going boxes is =
      let code = value.read >>= declare_var tables name.at in
      let ran = ran_of code s going tt t is in
      let after = (code.plan (place_of s)).vars in
      let new = new_bound tables listed s.vars after one before ty
      (subst (λ key. NewVar (tables.isolation.is_boxed key) key after) (sym same)
      (bind_vars tables name value nothing (place_of s)))
      (ap tables.answers.type_at same ∙ has) boxes in record {
        new = subst (λ vars. (key : ℕ)
            → Contains (map (λ (var : Var). var.at) (before ++ one ∷ [])) key
            → Contains (map (λ (var : Var). var.at) before) key
            ⊎ VariableIsBound tables listed vars key) (sym ran.1.vars) new.1;
        boxes = subst (InBoxes tables listed) (sym ran.1.vars) new.0;
      }

  bind_by : (inside : Inside) (state : State) (mutable : Bool) (notes : List Note) (name : Name)
      (value : ExprCode) (one : Var) (ty : Ty) (left : Left) → one.at ≡ name.at
      → left.state.vars ≡ state.vars ++ one ∷ []
      → ExprProceeds tables number context listed state.vars notes value
      → ExprBindsNothing value → tables.answers.type_at name.at ≡ Some ty
      → StmtProceeds tables number context listed inside state
      (var_notes mutable name.at ++ notes)
      (statement (λ targets. value.read >>= declare_var tables name.at) value.inside) left
  bind_by inside state mutable notes name value one ty left same vars proceeds nothing has =
      stmt_of tables number context listed inside state (first ++ notes)
      (λ targets. value.read >>= declare_var tables name.at) value.inside left
      (proceeds_by tables number context listed inside state.vars (first ++ notes)
      (λ targets. value.read >>= declare_var tables name.at)
      (λ targets s begins.
      then_begins tables number context listed inside state.vars (first ++ notes) targets
      value.read (declare_var tables name.at) s nothing.read begins
      (proceeds.read s
      (begins_right tables number context listed inside state.vars first notes targets s
      begins).ready)
      (λ given t begins_t more is ran.
      declare_proceeds tables name.at given ty t begins_t.ready.going has)))
      (subst (λ after. Binds tables number context listed state.vars after
      (λ targets. value.read >>= declare_var tables name.at)) (sym vars)
      (bind_binds name value state.vars one ty same nothing has)) proceeds.inside where
        first : List Note
        first = var_notes mutable name.at

  -- `let` and `var`, where the value has a type
  pub bind_proceeds : (inside : Inside) (state : State) (notes : List Note) (mutable : Bool)
      (name : Name) (written : Option Ty) (value : ExprCode) (judged : Judged) (ty : Ty)
      → judged.ty ≡ Some ty → ExprProceeds tables number context listed state.vars notes value
      → ExprBindsNothing value
      → RowsHold tables.answers (bind_left state mutable name written judged).rows
      → StmtProceeds tables number context listed inside state
      (var_notes mutable name.at ++ notes)
      (statement (λ targets. value.read >>= declare_var tables name.at) value.inside)
      (bind_left state mutable name written judged)
  bind_proceeds inside state notes mutable name None value judged ty has proceeds nothing rows =
      bind_by inside state mutable notes name value (variable name mutable judged.ty) ty
      (bind_left state mutable name None judged) refl refl proceeds nothing
      (variable_typed tables.answers name.at judged.ty ty has
      (rows_right tables.answers judged.rows (variable_rows name.at judged.ty) rows))
  bind_proceeds inside state notes mutable name (Some wanted) value judged ty has proceeds nothing
      rows =
      bind_by inside state mutable notes name value (variable name mutable (Some wanted)) wanted
      (bind_left state mutable name (Some wanted) judged) refl refl proceeds nothing
      (rows_right tables.answers (refused name.at judged.ty wanted)
      (variable_rows name.at (Some wanted))
      (rows_right tables.answers judged.rows
      (refused name.at judged.ty wanted ++ variable_rows name.at (Some wanted)) rows)).0
