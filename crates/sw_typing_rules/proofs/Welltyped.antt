-- Where no node is ill, each expression has a type, and all that a statement holds has one.
use Rattle.std.proofs.Common.{◌≡◌, ℕ, Bool, true, false, List, [], ◌∷◌, Option, Some, None, is_some}
use Rattle.std.proofs.Common.{map, sym, ◌∙◌}
use Rattle.std.proofs.Common.{ap, refl, ◌++◌, ◌&&◌, not, flat_map, if◌then◌else◌}
use Rattle.std.proofs.lemmas.Bool.{false≢true}
use Rattle.sw_tree.specs.declared.expr.Arg.{Arg}
use Rattle.sw_tree.specs.declared.expr.Closure.{Closure}
use Rattle.sw_tree.specs.declared.expr.ClosureParam.{ClosureParam}
use Rattle.sw_tree.specs.declared.expr.Expr.{Expr}
use Rattle.sw_tree.specs.declared.expr.Link.{Link}
use Rattle.sw_tree.specs.declared.name.Name.{Name}
use Rattle.sw_tree.specs.declared.operator.AssignOp.{AssignOp}
use Rattle.sw_tree.specs.declared.stmt.Block.{Block}
use Rattle.sw_tree.specs.declared.stmt.CaseArm.{CaseArm}
use Rattle.sw_tree.specs.declared.stmt.IfArm.{IfArm}
use Rattle.sw_tree.specs.declared.stmt.Stmt.{Stmt}
use Rattle.sw_tree.specs.declared.type_tree.TypeTree.{TypeTree}
use Rattle.sw_types.specs.declared.shape.CaseShape.{CaseShape}
use Rattle.sw_typing_rules.specs.Calls.{Slot, slots_of}
use Rattle.sw_typing_rules.specs.Expressions.{Judged, Closed, Passed, none_passed, one_passed}
use Rattle.sw_typing_rules.specs.Expressions.{first_marked, later, call_judged, int_judged}
use Rattle.sw_typing_rules.specs.Expressions.{bool_judged}
use Rattle.sw_typing_rules.specs.Expressions.{me_judged, prefix_judged, infix_judged, await_judged}
use Rattle.sw_typing_rules.specs.Expressions.{yield_judged, fun_judged, spawn_judged, word_judged}
use Rattle.sw_typing_rules.specs.Expressions.{member_judged, call_callee, method_callee, base_rows}
use Rattle.sw_typing_rules.specs.Statements.{State, Left, Head, Armed, setting_of, scoped}
use Rattle.sw_typing_rules.specs.declared.scope.Inside.{Inside}
use Rattle.sw_typing_rules.specs.Statements.{goes_on, then_left, beside, no_branch, no_arms}
use Rattle.sw_typing_rules.specs.Statements.{more_arms, in_branch, in_loop, in_switch, in_body}
use Rattle.sw_typing_rules.specs.Statements.{is_one}
use Rattle.sw_typing_rules.specs.Statements.{with_only, marked_type, bind_left, place_type}
use Rattle.sw_typing_rules.specs.Statements.{assign_left, discard_left, arm_left, while_left}
use Rattle.sw_typing_rules.specs.Statements.{break_left, continue_left, return_void, return_value}
use Rattle.sw_typing_rules.specs.Statements.{plain_left, expects, marked_result, switch_left}
use Rattle.sw_typing_rules.specs.Statements.{case_left, arm_payload, arm_vars, with_vars, cases_of}
use Rattle.sw_typing_rules.specs.Statements.{written, closure_state, closed}
use Rattle.sw_typing_rules.specs.Words.{Setting}
use Rattle.sw_typing_rules.specs.Worlds.{World}
use Rattle.sw_typing_rules.specs.Judges.{closure_of, head_of, arm_state, case_of}
use Rattle.sw_typing_rules.specs.Judges as is
use Rattle.sw_types.specs.declared.ty.Ty.{Ty}
use Rattle.sw_typing_rules.proofs.Doubts.{all_decided}
use Rattle.sw_typing_rules.proofs.Steps as step
use Rattle.sw_typing_rules.proofs.Steps.{and_both, and_left, and_right, well_left, well_right}
use Rattle.sw_typing_rules.proofs.Steps.{well_both}
use Rattle.sw_typing_rules.proofs.Steps.{not_ill, not_false, settled, if_some, else_some}
use Rattle.sw_typing_rules.specs.Calls as calls
use Rattle.sw_typing_rules.specs.Expressions as exps
use Rattle.sw_typing_rules.specs.Statements as left
use Rattle.sw_typing_rules.specs.Typedness.{vars_typed, returned_typed, state_typed}
use Rattle.sw_typing_rules.specs.Verdicts.{type_in, rows_of, ill_if, all_well}
use Rattle.sw_typing_rules.specs.declared.verdict.Verdict.{Verdict}
use Rattle.sw_typing_rules.specs.Verdicts.{meaning_rows, variable_rows, is_unit}
use Rattle.sw_typing_rules.specs.Words as senses
use Rattle.sw_typing_rules.specs.declared.row.Row.{Row}
use Rattle.sw_typing_rules.specs.declared.scope.Returned.{Returned}
use Rattle.sw_typing_rules.specs.declared.scope.Returned.TheVariants.{Wants, Open, Gives}
use Rattle.sw_typing_rules.specs.declared.scope.Var.{Var}

-- all that a statement holds has a type, and what it leaves is typed
abbrev pub Good : Left → Type 0
Good l = (l.fine ≡ true) × (state_typed l.state ≡ true)

vars_of : (s : State) → state_typed s ≡ true → vars_typed s.vars ≡ true
vars_of s t = and_left (vars_typed s.vars) (returned_typed s.returned) t

returned_of : (s : State) → state_typed s ≡ true → returned_typed s.returned ≡ true
returned_of s t = and_right (vars_typed s.vars) (returned_typed s.returned) t

-- a node of a rule that says something
noted : (at : ℕ) (v : Verdict) (rows : List Row) → step.is_held v ≡ false
    → all_well (rows ++ rows_of at v) ≡ true → is_some (type_in v) ≡ true
noted at v rows h w = settled at v h (well_right rows (rows_of at v) w)

fun_held : (marked : Bool) (params : List Ty) (o : Option Ty) → is_some o ≡ true
    → step.is_held (exps.fun_types marked params o) ≡ false
fun_held marked params None p = absurd (false≢true p)
fun_held marked params (Some ty) p = refl

task_held : (o : Option Ty) → is_some o ≡ true → step.is_held (exps.task_types o) ≡ false
task_held None p = absurd (false≢true p)
task_held (Some ty) p = refl

bind_fine : (s : State) (mutable : Bool) (name : Name) (o : Option Ty) (j : Judged)
    → state_typed s ≡ true → (all_well j.rows ≡ true → is_some j.ty ≡ true)
    → all_well (bind_left s mutable name o j).rows ≡ true → Good (bind_left s mutable name o j)
bind_fine s mutable name None j t k w =
    let some = k (well_left j.rows (variable_rows name.at j.ty) w) in (
      some,
      and_both _ _ (step.vars_append s.vars _ (vars_of s t)
          (step.one_typed (left.variable name mutable j.ty) some)) (returned_of s t),
    )
bind_fine s mutable name (Some ty) j t k w =
    let some = k (well_left j.rows _ w) in (
      step.accepted j.ty ty name.at some
          (well_left (left.refused name.at j.ty ty) _ (well_right j.rows _ w)),
      and_both _ _ (step.vars_append s.vars _ (vars_of s t)
          (step.one_typed (left.variable name mutable (Some ty)) refl)) (returned_of s t),
    )

void_fine : (r : Returned) (s : State) (at : ℕ) → state_typed s ≡ true → returned_typed r ≡ true
    → all_well (return_void r s at).rows ≡ true → Good (return_void r s at)
void_fine (Wants ty) s at t q w = (not_false (is_unit ty) (not_ill (not (is_unit ty)) at 402 w), t)
void_fine (Open places) s at t q w = (refl, and_both (vars_typed s.vars) true (vars_of s t) refl)
void_fine (Gives None) s at t q w = absurd (false≢true q)
void_fine (Gives (Some ty)) s at t q w =
    (not_false (is_unit ty) (not_ill (not (is_unit ty)) at 402 w), t)

accepted_fine : (s : State) (at : ℕ) (j : Judged) (ty : Ty) → state_typed s ≡ true
    → (all_well j.rows ≡ true → is_some j.ty ≡ true)
    → all_well (left.accepted_left s at j ty).rows ≡ true → Good (left.accepted_left s at j ty)
accepted_fine s at j ty t k w = (
  step.accepted j.ty ty at (k (well_left j.rows _ w)) (well_right j.rows _ w),
  t,
)

first_fine : (s : State) (places : List ℕ) (j : Judged) → state_typed s ≡ true
    → (all_well j.rows ≡ true → is_some j.ty ≡ true)
    → all_well (left.first_value_left s places j).rows ≡ true
    → Good (left.first_value_left s places j)
first_fine s places j t k w =
    let some = k (well_left j.rows _ w) in (
      step.no_bare places j.ty some (well_right j.rows _ w),
      and_both (vars_typed s.vars) (is_some j.ty) (vars_of s t) some,
    )

value_fine : (r : Returned) (s : State) (at : ℕ) (j : Judged) → state_typed s ≡ true
    → (all_well j.rows ≡ true → is_some j.ty ≡ true)
    → all_well (return_value r s at j).rows ≡ true → Good (return_value r s at j)
value_fine (Wants ty) s at j t k w = accepted_fine s at j ty t k w
value_fine (Open places) s at j t k w = first_fine s places j t k w
value_fine (Gives None) s at j t k w = (k w, t)
value_fine (Gives (Some ty)) s at j t k w = accepted_fine s at j ty t k w

unit_fine : (b : Bool) (s : State) (j : Judged) (ty : Ty) → state_typed s ≡ true
    → (all_well j.rows ≡ true → is_some j.ty ≡ true)
    → all_well (if b then discard_left s j else left.accepted_left s j.key j ty).rows ≡ true
    → Good (if b then discard_left s j else left.accepted_left s j.key j ty)
unit_fine true s j ty t k w = (k w, t)
unit_fine false s j ty t k w = accepted_fine s j.key j ty t k w

result_fine : (r : Returned) (s : State) (j : Judged) → state_typed s ≡ true
    → (all_well j.rows ≡ true → is_some j.ty ≡ true)
    → all_well (left.result_left r s j).rows ≡ true → Good (left.result_left r s j)
result_fine (Wants ty) s j t k w = unit_fine (is_unit ty) s j ty t k w
result_fine (Open places) s j t k w = first_fine s places j t k w
result_fine (Gives ty) s j t k w = (k w, t)

plain_fine : (only : Bool) (s : State) (j : Judged) → state_typed s ≡ true
    → (all_well j.rows ≡ true → is_some j.ty ≡ true)
    → all_well (plain_left only s j).rows ≡ true → Good (plain_left only s j)
plain_fine false s j t k w = (k w, t)
plain_fine true s j t k w = result_fine s.returned s j t k w

captured_one : (word : Name) (o : Option Var) → step.var_ok o ≡ true
    → all_well (left.capture_rows word o) ≡ true → left.is_captured o ≡ true
captured_one word None p w = w
captured_one word (Some one) p w = p

captured_typed : (o : Option Var) → step.var_ok o ≡ true → vars_typed (left.captured o) ≡ true
captured_typed None p = refl
captured_typed (Some one) p = and_both (is_some one.ty) true p refl

captures_typed : (vars : List Var) (words : List Name) → vars_typed vars ≡ true
    → vars_typed (flat_map (λ (word : Name). left.captured (senses.local vars word.id)) words)
    ≡ true
captures_typed vars [] t = refl
captures_typed vars (word ∷ words) t =
    step.vars_append (left.captured (senses.local vars word.id)) _
    (captured_typed (senses.local vars word.id) (step.local_ok vars word.id t))
    (captures_typed vars words t)

are_captured : (vars : List Var) (words : List Name) → vars_typed vars ≡ true
    → all_well (flat_map (λ (word : Name). left.capture_rows word
    (senses.local vars word.id)) words)
    ≡ true
    → left.are_captured vars words ≡ true
are_captured vars [] t w = refl
are_captured vars (word ∷ words) t w =
    and_both (left.is_captured (senses.local vars word.id)) (left.are_captured vars words)
    (captured_one word (senses.local vars word.id) (step.local_ok vars word.id t)
    (well_left (left.capture_rows word (senses.local vars word.id)) _ w))
    (are_captured vars words t
    (well_right (left.capture_rows word (senses.local vars word.id)) _ w))

module _ (world : World) where
  params_typed : (params : List ClosureParam)
      → vars_typed (map (left.param_var world) params) ≡ true
  params_typed [] = refl
  params_typed (param ∷ params) = params_typed params

  wanted_typed : (o : Option TypeTree) → returned_typed (left.result_wanted world o) ≡ true
  wanted_typed None = refl
  wanted_typed (Some tree) = refl

  begins_typed : (s : Setting) (captures : List Name) (params : List ClosureParam)
      (result : Option TypeTree) → vars_typed s.vars ≡ true
      → state_typed (closure_state world s captures params result) ≡ true
  begins_typed s captures params result t =
      and_both _ _ (step.vars_append s.vars _ t
      (step.vars_append (map (left.param_var world) params) _ (params_typed params)
      (captures_typed s.vars captures t))) (wanted_typed result)

  closed_typed : (s : Setting) (at : ℕ) (mark : Option Name) (captures : List Name)
      (params : List ClosureParam) (l : Left) → vars_typed s.vars ≡ true
      → (all_well l.rows ≡ true → Good l)
      → all_well (closed world s at mark captures params l).rows ≡ true
      → is_some (closed world s at mark captures params l).result ≡ true
  closed_typed s at mark captures params l t k w =
      let outer = flat_map (λ (word : Name). left.capture_rows word (senses.local s.vars word.id))
      captures in
      let rest = well_right outer _ w in
      let inner = sym (all_decided _ (left.body_rows at l))
      ∙ well_right (left.vars_rows (map (left.param_var world) params)) _ rest in
      let good = k (well_left l.rows _ inner) in
      let none = not_ill (left.lacks_result l) at 406 (well_right l.rows _ inner) in
      if_some (left.are_captured s.vars captures) (left.result_of l)
      (are_captured s.vars captures t (well_left outer _ w))
      (if_some (l.fine && not (left.lacks_result l)) (left.body_result l.state.returned)
      (and_both l.fine (not (left.lacks_result l)) good.0 (ap not none))
      (step.body_result_some l.state.returned (returned_of l.state good.1)))

  value_typed : (base : Judged) (o : Option Ty) (name : Name)
      → (all_well base.rows ≡ true → is_some o ≡ true)
      → all_well (exps.value_member world base o name).rows ≡ true
      → is_some (exps.value_member world base o name).ty ≡ true
  value_typed base None name k w = k (well_left base.rows _ w)
  value_typed base (Some ty) name k w =
      noted name.at (senses.found_types world (senses.found_in world ty name.id))
      (meaning_rows name.at (senses.found_meaning (senses.found_in world ty name.id)))
      (step.found_held world (senses.found_in world ty name.id)) (well_right base.rows _ w)

  member_typed : (base : Judged) (o : Option ℕ) (name : Name)
      → (all_well base.rows ≡ true → is_some base.ty ≡ true)
      → all_well (exps.member_by world base o name).rows ≡ true
      → is_some (exps.member_by world base o name).ty ≡ true
  member_typed base None name k w = value_typed base base.ty name k w
  member_typed base (Some shape) name k w =
      noted name.at (calls.enum_types world shape (calls.case_in world shape name.id))
      (meaning_rows name.at (calls.case_meaning shape (calls.case_in world shape name.id)))
      (step.enum_held world shape (calls.case_in world shape name.id)) w

  value_method_ok : (o : Option Ty) (id : ℕ) → is_some o ≡ true
      → step.callee_ok world (exps.value_method world o id) ≡ true
  value_method_ok None id p = p
  value_method_ok (Some ty) id p = step.found_callee_ok world (senses.found_in world ty id)

  method_ok : (en : Option ℕ) (o : Option Ty) (rows : List Row) (id : ℕ)
      → (all_well rows ≡ true → is_some o ≡ true) → all_well (exps.rows_by en rows) ≡ true
      → step.callee_ok world (exps.method_by world en o id) ≡ true
  method_ok None o rows id k w = value_method_ok o id (k w)
  method_ok (Some shape) o rows id k w =
      step.enum_ok world shape (calls.case_in world shape id)

  call_typed : (callee : calls.Callee) (at : ℕ) (before : List Row) (passed : Passed)
      → (all_well before ≡ true → step.callee_ok world callee ≡ true)
      → (all_well passed.rows ≡ true → calls.all_typed passed.given ≡ true)
      → all_well (call_judged callee at before passed).rows ≡ true
      → is_some (call_judged callee at before passed).ty ≡ true
  call_typed callee at before passed b k w =
      let parts = well_left (before ++ (passed.rows ++ meaning_rows at
      (calls.callee_meaning callee)))
      _ w in
      noted at (calls.call_types callee passed.given)
      (before ++ (passed.rows ++ meaning_rows at (calls.callee_meaning callee)))
      (step.call_held world callee passed.given (b (well_left before _ parts))
      (k (well_left passed.rows _ (well_right before _ parts)))) w

  assign_fine : (i : Inside) (s : State) (at : ℕ) (op : AssignOp) (p v : Judged)
      → state_typed s ≡ true
      → (all_well p.rows ≡ true → is_some p.ty ≡ true)
      → (all_well v.rows ≡ true → is_some v.ty ≡ true)
      → all_well (assign_left i s at op p v).rows ≡ true → Good (assign_left i s at op p v)
  assign_fine i s at op p v t kp kv w =
      let rest = well_right p.rows _ w in
      let fixed = not_ill (left.fixed i p) p.key 404
      (well_left (ill_if (left.fixed i p) p.key 404) _ rest) in
      let more = well_right (ill_if (left.fixed i p) p.key 404) _ rest in (
        step.assigned op (place_type i p) v.ty at
            (else_some (left.fixed i p) p.ty fixed (kp (well_left p.rows _ w)))
            (kv (well_left v.rows _ more)) (well_right v.rows _ more),
        t,
      )

  cond_typed : (c : Judged) → (all_well c.rows ≡ true → is_some c.ty ≡ true)
      → all_well (left.condition_rows c) ≡ true → left.is_condition c.ty ≡ true
  cond_typed c k w =
      step.condition c.ty c.key (k (well_left c.rows _ w)) (well_right c.rows _ w)

  restored_typed : (s l : State) → state_typed s ≡ true → state_typed l ≡ true
      → state_typed (left.restored s l) ≡ true
  restored_typed s l p q = and_both _ _ (vars_of s p) (returned_of l q)

  beside_good : (a b : Left) → Good a → Good b → Good (beside a b)
  beside_good a b p q = (and_both a.fine b.fine p.0 q.0, q.1)

  arm_fine : (s : State) (c : Judged) (l : Left) → state_typed s ≡ true
      → (all_well c.rows ≡ true → is_some c.ty ≡ true) → (all_well l.rows ≡ true → Good l)
      → all_well (arm_left s c l).rows ≡ true → Good (arm_left s c l)
  arm_fine s c l t kc kl w =
      let good = kl (well_right (left.condition_rows c) _ w) in (
        and_both _ _ (cond_typed c kc (well_left (left.condition_rows c) _ w)) good.0,
        restored_typed s l.state t good.1,
      )

  switch_fine : (cases : Option (List CaseShape)) (at : ℕ) (j : Judged) (heads : List Head)
      (b : Bool) (l : Left)
      → (all_well j.rows ≡ true → is_some j.ty ≡ true)
      → (left.heads_fit cases heads ≡ true → all_well l.rows ≡ true → Good l)
      → all_well (switch_left cases at j heads b l).rows ≡ true
      → Good (switch_left cases at j heads b l)
  switch_fine cases at j heads b l k kl w =
      let outer = well_left j.rows _ w in
      let rest = well_right j.rows _ w in
      let inner = well_left l.rows _ rest in
      let some = k outer in
      let fits = step.switch_ok (is_some j.ty) (all_well (j.rows ++ l.rows))
      (left.switch_fits cases heads b) some (well_both j.rows l.rows outer inner)
      (step.not_ill_unless _ at 405 _ (well_right l.rows _ rest)) in
      let good = kl (step.fits_heads cases heads b fits) inner in
      (and_both (is_some j.ty) _ some (and_both l.fine _ good.0 fits), good.1)

  mutual
    pub typed_expr : (s : Setting) (m : Bool) (e : Expr) (j : Judged) → is.Judges world s m e j
        → vars_typed s.vars ≡ true → all_well j.rows ≡ true → is_some j.ty ≡ true
    typed_expr s m e j (is.int _ _ at value) t w = refl
    typed_expr s m e j (is.bool _ _ at value) t w = refl
    typed_expr s m e j (is.word _ _ name) t w =
        noted name.at (senses.word_types world (senses.sense world s name.id))
        (meaning_rows name.at (senses.word_meaning (senses.sense world s name.id)))
        (step.word_held world (senses.sense world s name.id) (step.sensed_ok world s name.id t)) w
    typed_expr s m e j (is.me _ _ at) t w =
        noted at (senses.me_types s.owner) [] (step.me_held s.owner) w
    typed_expr s m e j (is.member _ _ base name judged d) t w =
        member_typed judged judged.enum name (typed_expr s false base judged d t) w
    typed_expr s m e j (is.call _ _ name args passed d) t w =
        call_typed (call_callee world s name) name.at [] passed
        (λ _. step.word_callee_ok world (senses.sense world s name.id)
        (step.sensed_ok world s name.id t))
        (typed_args s (slots_of (call_callee world s name)) args passed d t) w
    typed_expr s m e j (is.method _ _ base name args judged passed of_base d) t w =
        call_typed (method_callee world judged name) name.at (base_rows judged) passed
        (method_ok judged.enum judged.ty judged.rows name.id
        (typed_expr s false base judged of_base t))
        (typed_args s (slots_of (method_callee world judged name)) args passed d t) w
    typed_expr s m e j (is.chain _ _ first rest l _ of_first d) t w =
        typed_links s l rest j d t (typed_expr s false first l of_first t) w
    typed_expr s m e j (is.prefix _ _ op at inner judged d) t w =
        noted at _ judged.rows (step.prefix_held op judged.ty
        (typed_expr s false inner judged d t (well_left judged.rows _ w))) w
    typed_expr s m e j (is.await _ _ at inner judged d) t w =
        noted at _ judged.rows (step.var_held judged.ty
        (typed_expr s false inner judged d t (well_left judged.rows _ w))) w
    typed_expr s m e j (is.fun _ _ closure closed d) t w =
        noted closed.at _ closed.rows (fun_held _ closed.params closed.result
        (typed_closure s closure closed d t (well_left closed.rows _ w))) w
    typed_expr s m e j (is.spawn _ _ at detached body closed d) t w =
        noted at _ closed.rows (task_held closed.result
        (typed_closure s body closed d t (well_left closed.rows _ w))) w
    typed_expr s m e j (is.yield _ _ at) t w = refl

    typed_args : (s : Setting) (slots : List Slot) (args : List Arg) (p : Passed)
        → is.Passes world s slots args p → vars_typed s.vars ≡ true → all_well p.rows ≡ true
        → calls.all_typed p.given ≡ true
    typed_args s slots args p (is.passes_none _ _) t w = refl
    typed_args s slots args p (is.passes_one _ _ label value more judged passed d rest) t w =
        and_both (is_some judged.ty) (calls.all_typed passed.given)
        (typed_expr s (first_marked slots) value judged d t (well_left judged.rows _ w))
        (typed_args s (later slots) more passed rest t (well_right judged.rows _ w))

    typed_links : (s : Setting) (l : Judged) (links : List Link) (j : Judged)
        → is.Links world s l links j → vars_typed s.vars ≡ true
        → (all_well l.rows ≡ true → is_some l.ty ≡ true) → all_well j.rows ≡ true
        → is_some j.ty ≡ true
    typed_links s l links j (is.no_link _ _) t k w = k w
    typed_links s l links j (is.one_link _ _ op at operand more right _ d rest) t k w =
        typed_links s (infix_judged op at l right) more j rest t
        (λ all. let both = well_left (l.rows ++ right.rows) _ all in
        noted at _ (l.rows ++ right.rows) (step.infix_held op l.ty right.ty
        (k (well_left l.rows _ both))
        (typed_expr s false operand right d t (well_right l.rows _ both))) all) w

    typed_closure : (s : Setting) (closure : Closure) (c : Closed) → is.Closes world s closure c
        → vars_typed s.vars ≡ true → all_well c.rows ≡ true → is_some c.result ≡ true
    typed_closure s closure c (is.closes _ at mark captures params result body l d) t w =
        closed_typed s at mark captures params l t
        (fine_block (in_body s.owner false) (closure_state world s captures params result) body l d
        (begins_typed s captures params result t)) w

    pub fine_stmt : (i : Inside) (s : State) (x : Stmt) (l : Left) → is.Leaves world i s x l
        → state_typed s ≡ true → all_well l.rows ≡ true → Good l
    fine_stmt i s x l (is.bind _ _ mutable name ty value judged d) t w =
        bind_fine s mutable name (written world ty) judged t
        (typed_expr (setting_of i s) (marked_type (written world ty)) value judged d
        (vars_of s t)) w
    fine_stmt i s x l (is.assign _ _ at op place value placed judged of_place d) t w =
        assign_fine i s at op placed judged t
        (typed_expr (setting_of i s) false place placed of_place (vars_of s t))
        (typed_expr (setting_of i s) (marked_type (place_type i placed)) value judged d
        (vars_of s t)) w
    fine_stmt i s x l (is.discard _ _ at value judged d) t w =
        (typed_expr (setting_of i s) false value judged d (vars_of s t) w, t)
    fine_stmt i s x l (is.if_of _ _ arms otherwise a last of_arms d) t w =
        let good = fine_arms i s arms a of_arms t (well_left a.rows _ w) in
        beside_good a last good
        (fine_otherwise false i a.state otherwise last d good.1 (well_right a.rows _ w))
    fine_stmt i s x l (is.while_of _ _ at cond body judged inner of_cond d) t w =
        let good = fine_block (in_loop i) s body inner d t
        (well_right (left.condition_rows judged) _ w) in (
          and_both _ _ (cond_typed judged
              (typed_expr (setting_of i s) false cond judged of_cond (vars_of s t))
              (well_left (left.condition_rows judged) _ w)) good.0,
          restored_typed s inner.state t good.1,
        )
    fine_stmt i s x l
        (is.switch _ _ at subject arms otherwise judged armed last of_subject of_arms d)
        t w =
        switch_fine (cases_of world judged.ty) at judged armed.heads (is_some otherwise)
        (beside armed.left last)
        (typed_expr (setting_of i s) false subject judged of_subject (vars_of s t))
        (λ fit all.
        let good = fine_cases (in_switch i) (cases_of world judged.ty) s arms armed of_arms t fit
        (well_left armed.left.rows _ all) in
        beside_good armed.left last good
        (fine_otherwise true (in_switch i) armed.left.state otherwise last d good.1
        (well_right armed.left.rows _ all))) w
    fine_stmt i s x l (is.return_nothing _ _ at) t w =
        void_fine s.returned s at t (returned_of s t) w
    fine_stmt i s x l (is.return_of _ _ at value judged d) t w =
        value_fine s.returned s at judged t
        (typed_expr (setting_of i s) (marked_result s.returned) value judged d (vars_of s t)) w
    fine_stmt i s x l (is.break_of _ _ at) t w =
        (not_false i.leaves (not_ill (not i.leaves) at 408 w), t)
    fine_stmt i s x l (is.continue_of _ _ at) t w =
        (not_false i.loops (not_ill (not i.loops) at 408 w), t)
    fine_stmt i s x l (is.plain _ _ value judged d) t w =
        plain_fine i.only s judged t
        (typed_expr (setting_of i s) (expects i.only s) value judged d (vars_of s t)) w

    fine_all : (i : Inside) (s : State) (xs : List Stmt) (l : Left) → is.LeavesAll world i s xs l
        → state_typed s ≡ true → all_well l.rows ≡ true → Good l
    fine_all i s xs l (is.no_stmt _ _) t w = (refl, t)
    fine_all i s xs l (is.one_stmt _ _ stmt stmts one last d rest) t w =
        let good = fine_stmt i s stmt one d t (well_left one.rows _ w) in
        let more = fine_all i one.state stmts last rest good.1 (well_right one.rows _ w) in
        (and_both one.fine last.fine good.0 more.0, more.1)

    pub fine_block : (i : Inside) (s : State) (b : Block) (l : Left) → is.LeavesBlock world i s b l
        → state_typed s ≡ true → all_well l.rows ≡ true → Good l
    fine_block i s b l (is.block _ _ stmts _ d) t w =
        fine_all (with_only i (is_one stmts)) s stmts l d t w

    fine_arms : (i : Inside) (s : State) (arms : List IfArm) (l : Left)
        → is.LeavesArms world i s arms l → state_typed s ≡ true → all_well l.rows ≡ true → Good l
    fine_arms i s arms l (is.no_arm _ _) t w = (refl, t)
    fine_arms i s arms l (is.one_arm _ _ at cond body more judged inner last of_cond d rest) t w =
        let one = arm_left s judged inner in
        let good = arm_fine s judged inner t
        (typed_expr (setting_of i s) false cond judged of_cond (vars_of s t))
        (fine_block (in_branch i) s body inner d t) (well_left one.rows _ w) in
        beside_good one last good
        (fine_arms i one.state more last rest good.1 (well_right one.rows _ w))

    fine_otherwise : (ends : Bool) (i : Inside) (s : State) (o : Option Block) (l : Left)
        → is.LeavesOtherwise world ends i s o l → state_typed s ≡ true → all_well l.rows ≡ true
        → Good l
    fine_otherwise ends i s o l (is.absent _ _) t w = (refl, t)
    fine_otherwise ends i s o l (is.absent_default _ _) t w = (refl, t)
    fine_otherwise ends i s o l (is.present _ _ _ body inner d) t w =
        let good = fine_block (in_branch i) s body inner d t w in
        (good.0, restored_typed s inner.state t good.1)

    fine_cases : (i : Inside) (cases : Option (List CaseShape)) (s : State) (arms : List CaseArm)
        (a : Armed) → is.LeavesCases world i cases s arms a → state_typed s ≡ true
        → left.heads_fit cases a.heads ≡ true → all_well a.left.rows ≡ true → Good a.left
    fine_cases i cases s arms a (is.no_case _ _ _) t fit w = (refl, t)
    fine_cases i cases s arms a
        (is.one_case _ _ _ name patterns body more inner armed d rest) t fit w
        =
        let head = head_of name patterns in
        let payload = arm_payload cases name.id in
        let one = case_of cases s head inner in
        let fits = and_left (left.patterns_fit patterns payload) (left.heads_fit cases armed.heads)
        fit in
        let all = well_left one.rows _ w in
        let begins = and_both _ _ (step.vars_append s.vars _ (vars_of s t)
        (step.arms_typed patterns payload fits)) (returned_of s t) in
        let good = fine_block (in_branch i) (arm_state cases s head) body inner d begins
        (well_right (left.vars_rows (arm_vars head payload)) _ all) in
        let done : Good one = (
          and_both _ inner.fine fits good.0,
          restored_typed s inner.state t good.1,
        ) in
        beside_good one armed.left done
        (fine_cases i cases one.state more armed rest done.1
        (and_right (left.patterns_fit patterns payload) (left.heads_fit cases armed.heads) fit)
        (well_right one.rows _ w))
