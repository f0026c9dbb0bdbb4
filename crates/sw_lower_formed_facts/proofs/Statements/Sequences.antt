-- What holds of the variables and the rows of statements after each other.
use Rattle.std.proofs.Common.{◌≡◌, ℕ, Bool, true, false, List, [], ◌∷◌, ◌++◌, Option, Some, None}
use Rattle.std.proofs.Common.{refl, sym, ◌∙◌, subst, arith, length, true≢false}
use Rattle.std.proofs.lemmas.List.Elements.{All-append, All-cons, All-nil}
use Rattle.std.specs.Prelude.{◌==◌, ◌||◌, is_some, map, option_map, if◌then◌else◌}
use Rattle.sw_decl_words.specs.TypeWords.{type_of}
use Rattle.sw_tree.specs.declared.expr.Expr.{Expr}
use Rattle.sw_tree.specs.declared.name.Name.{Name}
use Rattle.sw_tree.specs.declared.stmt.CaseArm.{CaseArm}
use Rattle.sw_tree.specs.declared.stmt.IfArm.{IfArm}
use Rattle.sw_tree.specs.declared.stmt.Pattern.{Pattern}
use Rattle.sw_tree.specs.declared.stmt.Pattern.TheVariants.{Let, Skip}
use Rattle.sw_tree.specs.declared.stmt.Stmt.{Stmt}
use Rattle.sw_types.specs.declared.shape.CaseShape.{CaseShape}
use Rattle.sw_types.specs.declared.ty.Ty.{Ty}
use Rattle.sw_tree.specs.declared.stmt.Block.{Block}
use Rattle.sw_typing_rules.specs.Expressions.{Judged}
use Rattle.sw_typing_rules.specs.Judges as is
use Rattle.sw_typing_rules.specs.Statements.{Armed, Left, State, accepted_left, cases_of}
use Rattle.sw_typing_rules.specs.Statements.{discard_left, Head, arm_vars, bare_rows, bind_left}
use Rattle.sw_typing_rules.specs.Statements.{in_switch, is_one, pattern_vars, patterns_fit, refused}
use Rattle.sw_typing_rules.specs.Statements.{setting_of, variable, vars_rows, return_value}
use Rattle.sw_typing_rules.specs.Statements.{return_void, plain_left, result_left}
use Rattle.sw_typing_rules.specs.Verdicts.{variable_rows}
use Rattle.sw_typing_rules.specs.Worlds.{World}
use Rattle.sw_typing_rules.specs.declared.scope.Inside.{Inside}
use Rattle.sw_typing_rules.specs.declared.scope.Returned.{Returned}
use Rattle.sw_typing_rules.specs.declared.scope.Returned.TheVariants.{Gives, Open, Wants}
use Rattle.sw_typing_rules.specs.declared.scope.Var.{Var}
use Rattle.sw_isolation_rules.specs.Answers.{Answers}
use Rattle.sw_typing_rules.specs.Verdicts.{is_unit}
use Rattle.sw_lower_formed_facts.specs.Forms.{VarHolds, VarsHold}
use Rattle.sw_typing_facts.specs.Rows.{RowsHold}
use Rattle.sw_typing_facts.proofs.Said.Rows.{rows_left, rows_right}

-- A list stays one of one element.
pub one_still : {A B : Type 0} (f : A → B) (xs : List A) → is_one (map f xs) ≡ is_one xs
one_still f [] = refl
one_still f (x ∷ []) = refl
one_still f (x ∷ y ∷ more) = refl

-- A `return` leaves the variables as they are.
pub void_vars : (found : Returned) (state : State) (at : ℕ)
    → (return_void found state at).state.vars ≡ state.vars
void_vars (Wants ty) state at = refl
void_vars (Open places) state at = refl
void_vars (Gives None) state at = refl
void_vars (Gives (Some ty)) state at = refl

pub value_vars : (found : Returned) (state : State) (at : ℕ) (value : Judged)
    → (return_value found state at value).state.vars ≡ state.vars
value_vars (Wants ty) state at value = refl
value_vars (Open places) state at value = refl
value_vars (Gives None) state at value = refl
value_vars (Gives (Some ty)) state at value = refl

-- So does an expression.
result_vars : (found : Returned) (state : State) (value : Judged)
    → (result_left found state value).state.vars ≡ state.vars
result_vars (Wants ty) state value = by (is_unit ty) where
  by : (unit : Bool) → (if unit then discard_left state value
      else accepted_left state value.key value ty).state.vars ≡ state.vars
  by true = refl
  by false = refl
result_vars (Open places) state value = refl
result_vars (Gives ty) state value = refl

pub plain_vars : (only : Bool) (state : State) (value : Judged)
    → (plain_left only state value).state.vars ≡ state.vars
plain_vars false state value = refl
plain_vars true state value = result_vars state.returned state value

-- the arms of an `if` and of a `switch` leave the variables as they are
pub arms_vars : (world : World) (inside : Inside) (state : State) (arms : List IfArm) (left : Left)
    → is.LeavesArms world inside state arms left → left.state.vars ≡ state.vars
arms_vars world inside state arms left (is.no_arm _ _) = refl
arms_vars world inside state arms left (is.one_arm _ _ at cond body more judged one last of_cond
    of_body rest) =
    arms_vars world inside _ more last rest

-- the last block of an `if` or a `switch`
pub otherwise_vars : (world : World) (ends : Bool) (inside : Inside) (state : State)
    (other : Option Block) (left : Left) → is.LeavesOtherwise world ends inside state other left
    → left.state.vars ≡ state.vars
otherwise_vars world ends inside state other left (is.absent _ _) = refl
otherwise_vars world ends inside state other left (is.absent_default _ _) = refl
otherwise_vars world ends inside state other left (is.present _ _ _ body one of_body) = refl

-- The cases of a `switch` leave the variables as they are.
pub cases_vars : (world : World) (inside : Inside) (cases : Option (List CaseShape)) (state : State)
    (arms : List CaseArm) (armed : Armed) → is.LeavesCases world inside cases state arms armed
    → armed.left.state.vars ≡ state.vars
cases_vars world inside cases state arms armed (is.no_case _ _ _) = refl
cases_vars world inside cases state arms armed (is.one_case _ _ _ name patterns body more left last
    of_body rest) =
    cases_vars world inside cases _ more last rest

-- a variable more
var_holds : (answers : Answers) (vars : List Var) (name : Name) (mutable : Bool) (found : Option Ty)
    (ty : Ty) → found ≡ Some ty → RowsHold answers (variable_rows name.at found)
    → VarsHold answers vars → VarsHold answers (vars ++ variable name mutable found ∷ [])
var_holds answers vars name mutable None ty is hold before = cc
var_holds answers vars name mutable (Some other) ty is hold before =
    All-append (VarHolds answers) vars (variable name mutable (Some other) ∷ []) before
    (All-cons (VarHolds answers) (variable name mutable (Some other)) []
    (record { ty = other; has = refl; typed = hold.0 }) (All-nil (VarHolds answers)))

-- The variables after a statement hold, where its value has a type if it declares one.
pub vars_after : (world : World) (answers : Answers) (inside : Inside) (state : State) (stmt : Stmt)
    (left : Left) → is.Leaves world inside state stmt left
    → ((judged : Judged) (expected : Bool) (value : Expr)
    → is.Judges world (setting_of inside state) expected value judged
    → RowsHold answers judged.rows → (ty : Ty) × (judged.ty ≡ Some ty))
    → VarsHold answers state.vars → RowsHold answers left.rows → VarsHold answers left.state.vars
vars_after world answers inside state stmt left
    (is.bind _ _ mutable name None value judged of_value) typed vars hold =
    let has = typed judged _ value of_value
    (rows_left answers judged.rows (variable_rows name.at judged.ty) hold) in
    var_holds answers state.vars name mutable judged.ty has.0 has.1
    (rows_right answers judged.rows (variable_rows name.at judged.ty) hold) vars
vars_after world answers inside state stmt left
    (is.bind _ _ mutable name (Some tree) value judged of_value) typed vars hold =
    let ty = type_of world.known.top tree in
    var_holds answers state.vars name mutable (Some ty) ty refl
    (rows_right answers (refused name.at judged.ty ty) (variable_rows name.at (Some ty))
    (rows_right answers judged.rows
    (refused name.at judged.ty ty ++ variable_rows name.at (Some ty)) hold)) vars
vars_after world answers inside state stmt left
    (is.assign _ _ at op place value placed judged of_place of_value) typed vars hold = vars
vars_after world answers inside state stmt left (is.discard _ _ at value judged of_value) typed
    vars hold = vars
vars_after world answers inside state stmt left (is.if_of _ _ arms other one last of_arms of_other)
    typed vars hold =
    subst (VarsHold answers) (sym (otherwise_vars world false inside one.state other last of_other
    ∙ arms_vars world inside state arms one of_arms)) vars
vars_after world answers inside state stmt left
    (is.while_of _ _ at cond body judged one of_cond of_body) typed vars hold = vars
vars_after world answers inside state stmt left
    (is.switch _ _ at subject arms other judged armed last of_subject of_cases of_other) typed vars
    hold =
    subst (VarsHold answers)
    (sym (otherwise_vars world true (in_switch inside) armed.left.state other last of_other
    ∙ cases_vars world (in_switch inside) (cases_of world judged.ty) state arms armed of_cases))
    vars
vars_after world answers inside state stmt left (is.return_nothing _ _ at) typed vars hold =
    subst (VarsHold answers) (sym (void_vars state.returned state at)) vars
vars_after world answers inside state stmt left (is.return_of _ _ at value judged of_value) typed
    vars hold =
    subst (VarsHold answers) (sym (value_vars state.returned state at judged)) vars
vars_after world answers inside state stmt left (is.break_of _ _ at) typed vars hold = vars
vars_after world answers inside state stmt left (is.continue_of _ _ at) typed vars hold = vars
vars_after world answers inside state stmt left (is.plain _ _ value judged of_value) typed vars
    hold =
    subst (VarsHold answers) (sym (plain_vars inside.only state judged)) vars

-- what is noted of the value of a declaration
pub bind_rows : (answers : Answers) (state : State) (mutable : Bool) (name : Name)
    (written : Option Ty) (value : Judged)
    → RowsHold answers (bind_left state mutable name written value).rows
    → RowsHold answers value.rows
bind_rows answers state mutable name None value hold =
    rows_left answers value.rows (variable_rows name.at value.ty) hold
bind_rows answers state mutable name (Some ty) value hold =
    rows_left answers value.rows (refused name.at value.ty ty ++ variable_rows name.at (Some ty))
    hold

-- what is noted of a value that is returned
pub return_rows : (answers : Answers) (found : Returned) (state : State) (at : ℕ) (value : Judged)
    → RowsHold answers (return_value found state at value).rows → RowsHold answers value.rows
return_rows answers (Wants ty) state at value hold =
    rows_left answers value.rows (refused at value.ty ty) hold
return_rows answers (Open places) state at value hold =
    rows_left answers value.rows (bare_rows places value.ty) hold
return_rows answers (Gives None) state at value hold = hold
return_rows answers (Gives (Some ty)) state at value hold =
    rows_left answers value.rows (refused at value.ty ty) hold

result_rows : (answers : Answers) (found : Returned) (state : State) (value : Judged)
    → RowsHold answers (result_left found state value).rows → RowsHold answers value.rows
result_rows answers (Wants ty) state value hold = by (is_unit ty) hold where
  by : (unit : Bool) → RowsHold answers (if unit then discard_left state value
      else accepted_left state value.key value ty).rows → RowsHold answers value.rows
  by true hold = hold
  by false hold = rows_left answers value.rows (refused value.key value.ty ty) hold
result_rows answers (Open places) state value hold =
    rows_left answers value.rows (bare_rows places value.ty) hold
result_rows answers (Gives ty) state value hold = hold

-- what is noted of an expression that is a statement
pub plain_rows : (answers : Answers) (only : Bool) (state : State) (value : Judged)
    → RowsHold answers (plain_left only state value).rows → RowsHold answers value.rows
plain_rows answers false state value hold = hold
plain_rows answers true state value hold = result_rows answers state.returned state value hold

-- What is found stays found after a function.
pub some_still : {A B : Type 0} (f : A → B) (found : Option A)
    → is_some (option_map f found) ≡ is_some found
some_still f None = refl
some_still f (Some x) = refl

-- The variables of patterns hold that are as many as the types.
pattern_vars_hold : (answers : Answers) (patterns : List Pattern) (tys : List Ty)
    → length patterns ≡ length tys → RowsHold answers (vars_rows (pattern_vars patterns tys))
    → VarsHold answers (pattern_vars patterns tys)
pattern_vars_hold answers [] tys same hold = All-nil (VarHolds answers)
pattern_vars_hold answers (pattern ∷ patterns) [] same hold = absurd (omega (arith, same))
pattern_vars_hold answers (Skip at ∷ patterns) (ty ∷ tys) same hold =
    pattern_vars_hold answers patterns tys (omega (arith, same)) hold
pattern_vars_hold answers (Let name ∷ patterns) (ty ∷ tys) same hold =
    All-cons (VarHolds answers) (variable name false (Some ty)) (pattern_vars patterns tys)
    (record { ty = ty; has = refl; typed = hold.0 })
    (pattern_vars_hold answers patterns tys (omega (arith, same)) hold.1)

-- The variables of an arm hold whose patterns fit.
pub arm_vars_hold : (answers : Answers) (head : Head) (payload : Option (List Ty))
    → patterns_fit head.patterns payload ≡ true
    → RowsHold answers (vars_rows (arm_vars head payload))
    → VarsHold answers (arm_vars head payload)
arm_vars_hold answers head None fit hold = absurd (true≢false (sym fit))
arm_vars_hold answers head (Some tys) fit hold =
    by (length head.patterns == length tys) refl (length head.patterns == 0) refl fit hold where
      none : (patterns : List Pattern) → length patterns ≡ 0
          → VarsHold answers (pattern_vars patterns [])
      none [] is = All-nil (VarHolds answers)
      none (pattern ∷ patterns) is = absurd (omega (arith, is))

      by : (same : Bool) → (length head.patterns == length tys) ≡ same → (empty : Bool)
          → (length head.patterns == 0) ≡ empty → (empty || same) ≡ true
          → RowsHold answers (vars_rows (pattern_vars head.patterns (if same then tys else [])))
          → VarsHold answers (pattern_vars head.patterns (if same then tys else []))
      by true is empty zero_is fit hold =
          let same : length head.patterns ≡ length tys = grind (arith, is) in
          pattern_vars_hold answers head.patterns tys same hold
      by false is true zero_is fit hold =
          let empty : length head.patterns ≡ 0 = grind (arith, zero_is) in none head.patterns empty
      by false is false zero_is fit hold = absurd (true≢false (sym fit))
