-- How often a thing is noted of a key: each form of node notes it of its own key once at most.
use Rattle.std.proofs.Common.{◌≡◌, ℕ, ◌+◌, ◌≤◌, Bool, true, false, List, [], ◌∷◌, ◌++◌, Option}
use Rattle.std.proofs.Common.{Some, None, arith, map, flat_map, refl, if◌then◌else◌, not, ◌&&◌}
use Rattle.std.proofs.Common.{is_some, sym, ◌∙◌}
use Rattle.sw_tree.proofs.Counting.{Weight, hits, in_all, in_all-append, in_all-cons, in_all-map}
use Rattle.sw_tree.proofs.Counting.{in_all-nil}
use Rattle.sw_tree.proofs.KeyCounts.{in_closure_param, in_name, in_pattern, in_pattern-Let}
use Rattle.sw_tree.proofs.KeyCounts.{in_pattern-Skip}
use Rattle.sw_tree.specs.declared.expr.ClosureParam.{ClosureParam}
use Rattle.sw_tree.specs.declared.name.Name.{Name}
use Rattle.sw_tree.specs.declared.operator.AssignOp.{AssignOp}
use Rattle.sw_tree.specs.declared.stmt.Pattern.{Pattern}
use Rattle.sw_tree.specs.declared.stmt.Pattern.TheVariants.{Skip, Let}
use Rattle.sw_types.specs.declared.shape.CaseShape.{CaseShape}
use Rattle.sw_types.specs.declared.ty.Ty.{Ty}
use Rattle.sw_types.specs.declared.ty.Ty.TheVariants as types
use Rattle.sw_typing_rules.specs.Calls as calls
use Rattle.sw_typing_rules.specs.Calls.{Callee, callee_meaning}
use Rattle.sw_typing_rules.specs.Expressions as exps
use Rattle.sw_typing_rules.specs.Expressions.{Judged, Passed, call_judged}
use Rattle.sw_typing_rules.specs.Doubts.{bare_in, decided}
use Rattle.sw_typing_rules.specs.Fits.{fits}
use Rattle.sw_typing_rules.specs.Operators as operators
use Rattle.sw_typing_rules.specs.Statements as left
use Rattle.sw_typing_rules.specs.Statements.{State, Left, place_type}
use Rattle.sw_typing_rules.specs.Verdicts.{rows_of, meaning_rows, variable_rows, ill_if, is_unit}
use Rattle.sw_typing_rules.specs.Verdicts.{all_well, ill_unless}
use Rattle.sw_typing_rules.specs.Words as senses
use Rattle.sw_typing_rules.specs.Words.{Setting}
use Rattle.sw_typing_rules.specs.Worlds.{World}
use Rattle.sw_typing_rules.specs.declared.row.Meaning.{Meaning}
use Rattle.sw_typing_rules.specs.declared.row.Meaning.TheVariants as means
use Rattle.sw_typing_rules.specs.declared.row.Row.{Row}
use Rattle.sw_typing_rules.specs.declared.row.Row.TheVariants.{Typed, Means, Ill}
use Rattle.sw_typing_rules.specs.declared.scope.Inside.{Inside}
use Rattle.sw_typing_rules.specs.declared.scope.Returned.{Returned}
use Rattle.sw_typing_rules.specs.declared.scope.Returned.TheVariants.{Wants, Open, Gives}
use Rattle.sw_typing_rules.specs.declared.scope.Var.{Var}
use Rattle.sw_typing_rules.specs.declared.verdict.Verdict.{Verdict}
use Rattle.sw_typing_rules.specs.declared.verdict.Verdict.TheVariants.{Has, Fails, Held}

-- The weight counts types or meanings, not both, each at its own key.
pub record Counts (w : Row → Weight) : Type 0 where
  pub pair : (at : ℕ) (ty : Ty) (meaning : Meaning) (k : ℕ)
      → w (Typed at ty) k + w (Means at meaning) k ≤ hits at k
  pub ill : (at code : ℕ) (unless : Option ℕ) (k : ℕ) → w (Ill at code unless) k ≡ 0

module _ (w : Row → Weight) (counts : Counts w) where
  -- An ill node is not counted, in doubt or not.
  doubted : (fails : Bool) (at code : ℕ) (unless : Option ℕ) (k : ℕ)
      → in_all w (ill_unless fails at code unless) k ≡ 0
  doubted true at code unless k =
      omega (
        arith,
        in_all-cons w (Ill at code unless) [] k,
        in_all-nil w k,
        counts.ill at code unless k,
      )
  doubted false at code unless k = in_all-nil w k

  ill : (fails : Bool) (at code k : ℕ) → in_all w (ill_if fails at code) k ≡ 0
  ill fails at code k = doubted fails at code None k

  decided_one : (valued : Bool) (row : Row) (k : ℕ) → w (decided valued row) k ≡ w row k
  decided_one valued (Typed at ty) k = refl
  decided_one valued (Means at meaning) k = refl
  decided_one valued (Ill at code None) k = refl
  decided_one true (Ill at code (Some bare)) k =
      counts.ill bare 402 None k ∙ sym (counts.ill at code (Some bare) k)
  decided_one false (Ill at code (Some bare)) k =
      counts.ill at code None k ∙ sym (counts.ill at code (Some bare) k)

  decided_all : (valued : Bool) (rows : List Row) (k : ℕ)
      → in_all w (map (decided valued) rows) k ≡ in_all w rows k
  decided_all valued [] k = refl
  decided_all valued (row ∷ rows) k =
      omega (
        arith,
        in_all-cons w (decided valued row) (map (decided valued) rows) k,
        in_all-cons w row rows k,
        decided_one valued row k,
        decided_all valued rows k,
      )

  -- what is noted of one node
  pub node : (at : ℕ) (meaning : Option Meaning) (says : Verdict) (k : ℕ)
      → in_all w (meaning_rows at meaning) k + in_all w (rows_of at says) k ≤ hits at k
  unfolding in_all
  node at None (Has ty) k = omega (arith, counts.pair at ty means.Print k)
  node at None (Fails code) k = omega (arith, counts.ill at code None k)
  node at None Held k = omega arith
  node at (Some meaning) (Has ty) k = omega (arith, counts.pair at ty meaning k)
  node at (Some meaning) (Fails code) k =
      omega (arith, counts.pair at types.Unit meaning k, counts.ill at code None k)
  node at (Some meaning) Held k = omega (arith, counts.pair at types.Unit meaning k)

  -- and its type alone
  pub verdict : (at : ℕ) (says : Verdict) (k : ℕ) → in_all w (rows_of at says) k ≤ hits at k
  verdict at says k = omega (arith, node at None says k)

  -- a variable with its type
  pub variable : (at : ℕ) (ty : Option Ty) (k : ℕ) → in_all w (variable_rows at ty) k ≤ hits at k
  unfolding in_all
  variable at None k = omega arith
  variable at (Some ty) k = omega (arith, counts.pair at ty means.Print k)

  -- variables that are declared together
  pub vars : (list : List Var) (k : ℕ)
      → in_all w (left.vars_rows list) k ≤ in_all (λ (one : Var). hits one.at) list k
  unfolding in_all
  vars [] k = omega arith
  vars (one ∷ list) k =
      omega (
        arith,
        in_all-append w (variable_rows one.at one.ty) (left.vars_rows list) k,
        variable one.at one.ty k,
        vars list k,
      )

  -- the variables of patterns
  pub patterns : (list : List Pattern) (tys : List Ty) (k : ℕ)
      → in_all (λ (one : Var). hits one.at) (left.pattern_vars list tys) k
      ≤ in_all in_pattern list k
  unfolding in_all
  patterns [] tys k = omega arith
  patterns (Skip at ∷ list) tys k =
      omega (arith, patterns list (left.more_types tys) k, in_pattern-Skip at k)
  patterns (Let name ∷ list) tys k =
      omega (arith, patterns list (left.more_types tys) k, in_pattern-Let name k)

  -- what an arm of a `switch` tells of its patterns
  pub arm : (list : List Pattern) (id : ℕ) (payload : Option (List Ty)) (k : ℕ)
      → in_all w (left.vars_rows (left.arm_vars (record { name = id; patterns = list }) payload)) k
      ≤ in_all in_pattern list k
  arm list id payload k =
      let tys = left.pattern_types list payload in
      omega (arith, vars (left.pattern_vars list tys) k, patterns list tys k)

  -- a word of a capture list, which means a variable and has its type
  pub capture : (name : Name) (one : Option Var) (k : ℕ)
      → in_all w (left.capture_rows name one) k ≤ hits name.at k
  unfolding in_all
  capture name None k = omega (arith, counts.ill name.at 401 None k)
  capture name (Some one) k = by one.ty where
    by : (ty : Option Ty)
        → in_all w (meaning_rows name.at (Some (means.Local one.at)) ++ variable_rows name.at ty) k
        ≤ hits name.at k
    by None = omega (arith, counts.pair name.at types.Unit (means.Local one.at) k)
    by (Some ty) = omega (arith, counts.pair name.at ty (means.Local one.at) k)

  -- a capture list
  pub captures : (vars : List Var) (words : List Name) (k : ℕ)
      → in_all w (flat_map (λ (word : Name). left.capture_rows word (senses.local vars word.id))
      words) k
      ≤ in_all (λ (word : Name). hits word.at) words k
  unfolding in_all
  captures vars [] k = omega arith
  captures vars (word ∷ words) k =
      let one = senses.local vars word.id in
      let more = flat_map (λ (word : Name). left.capture_rows word (senses.local vars word.id))
      words in
      omega (
        arith,
        in_all-append w (left.capture_rows word one) more k,
        capture word one k,
        captures vars words k,
      )

  -- A value that is not accepted is ill.
  refused : (at : ℕ) (ty : Option Ty) (wanted : Ty) (k : ℕ)
      → in_all w (left.refused at ty wanted) k ≡ 0
  refused at None wanted k = in_all-nil w k
  refused at (Some ty) wanted k = ill (not (fits ty wanted)) at 402 k

  -- a node after its parts
  pub noted : (at : ℕ) (says : Verdict) (rows : List Row) (k : ℕ)
      → in_all w (rows ++ rows_of at says) k ≤ in_all w rows k + hits at k
  noted at says rows k = omega (arith, in_all-append w rows (rows_of at says) k, verdict at says k)

  -- a node that means something, after its parts
  pub meant : (at : ℕ) (meaning : Option Meaning) (says : Verdict) (rows : List Row) (k : ℕ)
      → in_all w (rows ++ (meaning_rows at meaning ++ rows_of at says)) k
      ≤ in_all w rows k + hits at k
  meant at meaning says rows k =
      omega (
        arith,
        in_all-append w rows (meaning_rows at meaning ++ rows_of at says) k,
        in_all-append w (meaning_rows at meaning) (rows_of at says) k,
        node at meaning says k,
      )

  -- a call, after its base and its arguments
  pub call : (callee : Callee) (at : ℕ) (before : List Row) (passed : Passed) (k : ℕ)
      → in_all w (call_judged callee at before passed).rows k
      ≤ in_all w before k + in_all w passed.rows k + hits at k
  call callee at before passed k =
      let says = calls.call_types callee passed.given in
      let own = meaning_rows at (callee_meaning callee) in
      omega (
        arith,
        in_all-append w (before ++ (passed.rows ++ own)) (rows_of at says) k,
        in_all-append w before (passed.rows ++ own) k,
        in_all-append w passed.rows own k,
        node at (callee_meaning callee) says k,
      )

  module _ (world : World) where
    -- a member of a value
    pub value_member : (base : Judged) (ty : Option Ty) (name : Name) (k : ℕ)
        → in_all w (exps.value_member world base ty name).rows k
        ≤ in_all w base.rows k + hits name.at k
    value_member base None name k = noted name.at Held base.rows k
    value_member base (Some ty) name k =
        let found = senses.found_in world ty name.id in
        meant name.at (senses.found_meaning found) (senses.found_types world found) base.rows k

    -- a case of an enum
    pub case_named : (shape : ℕ) (name : Name) (k : ℕ)
        → in_all w (exps.case_judged world shape name).rows k ≤ hits name.at k
    case_named shape name k =
        let number = calls.case_in world shape name.id in
        let meaning = calls.case_meaning shape number in
        let says = calls.enum_types world shape number in
        omega (
          arith,
          in_all-append w (meaning_rows name.at meaning) (rows_of name.at says) k,
          node name.at meaning says k,
        )

  -- `let` and `var`: the variable, after its value
  pub bind : (state : State) (mutable : Bool) (name : Name) (ty : Option Ty) (value : Judged)
      (k : ℕ)
      → in_all w (left.bind_left state mutable name ty value).rows k
      ≤ in_all w value.rows k + hits name.at k
  bind state mutable name None value k =
      omega (
        arith,
        in_all-append w value.rows (variable_rows name.at value.ty) k,
        variable name.at value.ty k,
      )
  bind state mutable name (Some ty) value k =
      let not_taken = left.refused name.at value.ty ty in
      let own = variable_rows name.at (Some ty) in
      omega (
        arith,
        in_all-append w value.rows (not_taken ++ own) k,
        in_all-append w not_taken own k,
        refused name.at value.ty ty k,
        variable name.at (Some ty) k,
      )

  -- Other statements tell of what they hold alone.

  misassigned : (op : AssignOp) (at : ℕ) (place value : Option Ty) (k : ℕ)
      → in_all w (left.misassigned op at place value) k ≡ 0
  misassigned op at None value k = in_all-nil w k
  misassigned op at (Some place) None k = in_all-nil w k
  misassigned op at (Some place) (Some value) k =
      ill (not (operators.assigns op place value)) at 402 k

  -- an assignment
  pub assign : (inside : Inside) (state : State) (at : ℕ) (op : AssignOp) (place value : Judged)
      (k : ℕ)
      → in_all w (left.assign_left inside state at op place value).rows k
      ≡ in_all w place.rows k + in_all w value.rows k
  assign inside state at op place value k =
      let constant = ill_if (left.fixed inside place) place.key 404 in
      let apart = left.misassigned op at (place_type inside place) value.ty in
      omega (
        arith,
        in_all-append w place.rows (constant ++ (value.rows ++ apart)) k,
        in_all-append w constant (value.rows ++ apart) k,
        in_all-append w value.rows apart k,
        ill (left.fixed inside place) place.key 404 k,
        misassigned op at (place_type inside place) value.ty k,
      )

  -- a condition
  pub condition : (cond : Judged) (k : ℕ)
      → in_all w (left.condition_rows cond) k ≡ in_all w cond.rows k
  condition cond k =
      let fails = is_some cond.ty && not (left.is_condition cond.ty) in
      omega (
        arith,
        in_all-append w cond.rows (ill_if fails cond.key 402) k,
        ill fails cond.key 402 k,
      )

  -- a `return` without a value
  pub void : (returned : Returned) (state : State) (at k : ℕ)
      → in_all w (left.return_void returned state at).rows k ≡ 0
  void (Wants ty) state at k = ill (not (is_unit ty)) at 402 k
  void (Open places) state at k = in_all-nil w k
  void (Gives None) state at k = in_all-nil w k
  void (Gives (Some ty)) state at k = ill (not (is_unit ty)) at 402 k

  accepted : (state : State) (at : ℕ) (value : Judged) (ty : Ty) (k : ℕ)
      → in_all w (left.accepted_left state at value ty).rows k ≡ in_all w value.rows k
  accepted state at value ty k =
      omega (
        arith,
        in_all-append w value.rows (left.refused at value.ty ty) k,
        refused at value.ty ty k,
      )

  ill_each : (places : List ℕ) (k : ℕ) → in_all w (map (λ at. Ill at 402 None) places) k ≡ 0
  unfolding in_all
  ill_each [] k = refl
  ill_each (at ∷ places) k = omega (arith, counts.ill at 402 None k, ill_each places k)

  unless : (test : Bool) (rows : List Row) (k : ℕ) → in_all w rows k ≡ 0
      → in_all w (if test then [] else rows) k ≡ 0
  unless true rows k is = in_all-nil w k
  unless false rows k is = is

  bare : (places : List ℕ) (ty : Option Ty) (k : ℕ) → in_all w (left.bare_rows places ty) k ≡ 0
  bare places None k = in_all-nil w k
  bare places (Some ty) k =
      unless (is_unit ty) (map (λ at. Ill at 402 None) places) k (ill_each places k)

  first_value : (state : State) (places : List ℕ) (value : Judged) (k : ℕ)
      → in_all w (left.first_value_left state places value).rows k ≡ in_all w value.rows k
  first_value state places value k =
      omega (
        arith,
        in_all-append w value.rows (left.bare_rows places value.ty) k,
        bare places value.ty k,
      )

  -- a `return` with a value
  pub given : (returned : Returned) (state : State) (at : ℕ) (value : Judged) (k : ℕ)
      → in_all w (left.return_value returned state at value).rows k ≡ in_all w value.rows k
  given (Wants ty) state at value k = accepted state at value ty k
  given (Open places) state at value k = first_value state places value k
  given (Gives None) state at value k = refl
  given (Gives (Some ty)) state at value k = accepted state at value ty k

  unit : (test : Bool) (state : State) (value : Judged) (ty : Ty) (k : ℕ)
      → in_all w (if test then left.discard_left state value
      else left.accepted_left state value.key value ty).rows k ≡ in_all w value.rows k
  unit true state value ty k = refl
  unit false state value ty k = accepted state value.key value ty k

  result : (returned : Returned) (state : State) (value : Judged) (k : ℕ)
      → in_all w (left.result_left returned state value).rows k ≡ in_all w value.rows k
  result (Wants ty) state value k = unit (is_unit ty) state value ty k
  result (Open places) state value k = first_value state places value k
  result (Gives ty) state value k = refl

  -- an expression as a statement
  pub plain : (only : Bool) (state : State) (value : Judged) (k : ℕ)
      → in_all w (left.plain_left only state value).rows k ≡ in_all w value.rows k
  plain false state value k = refl
  plain true state value k = result state.returned state value k

  -- a `switch`
  pub switch : (cases : Option (List CaseShape)) (at : ℕ) (subject : Judged)
      (heads : List left.Head) (otherwise : Bool) (inner : Left) (k : ℕ)
      → in_all w (left.switch_left cases at subject heads otherwise inner).rows k
      ≡ in_all w subject.rows k + in_all w inner.rows k
  switch cases at subject heads otherwise inner k =
      let bare = bare_in at inner.state.returned in
      let fails = is_some subject.ty && (all_well (subject.rows ++ inner.rows)
      && not (left.switch_fits cases heads otherwise)) in
      omega (
        arith,
        in_all-append w subject.rows (inner.rows ++ ill_unless fails at 405 bare) k,
        in_all-append w inner.rows (ill_unless fails at 405 bare) k,
        doubted fails at 405 bare k,
      )

  -- the end of a body
  pub body : (at : ℕ) (l : Left) (k : ℕ)
      → in_all w (left.body_rows at l) k ≡ in_all w l.rows k
  body at l k =
      omega (
        arith,
        in_all-append w l.rows (ill_if (left.lacks_result l) at 406) k,
        ill (left.lacks_result l) at 406 k,
      )

  -- a `break` or a `continue`
  pub leaving : (leaves : Bool) (at k : ℕ) → in_all w (ill_if (not leaves) at 408) k ≡ 0
  leaving leaves at k = ill (not leaves) at 408 k

  -- the first value of a property or a global variable
  pub first_given : (at : ℕ) (value : Judged) (wanted : Ty) (k : ℕ)
      → in_all w (value.rows ++ left.refused at value.ty wanted) k ≡ in_all w value.rows k
  first_given at value wanted k =
      omega (
        arith,
        in_all-append w value.rows (left.refused at value.ty wanted) k,
        refused at value.ty wanted k,
      )

  -- A closure tells of its captures and its parameters, and of what its body holds.
  pub closed : (world : World) (s : Setting) (at : ℕ) (mark : Option Name) (words : List Name)
      (params : List ClosureParam) (l : Left) (k : ℕ)
      → in_all w (left.closed world s at mark words params l).rows k
      ≤ in_all in_name words k + in_all in_closure_param params k + in_all w l.rows k
  closed world s at mark words params l k =
      let own = flat_map (λ (name : Name). left.capture_rows name
      (senses.local s.vars name.id)) words in
      let declared = map (left.param_var world) params in
      omega (
        arith,
        in_all-append w own (left.vars_rows declared ++ left.decided_rows at l) k,
        in_all-append w (left.vars_rows declared) (left.decided_rows at l) k,
        decided_all (left.is_result (left.body_result l.state.returned)) (left.body_rows at l) k,
        captures s.vars words k,
        vars declared k,
        in_all-map (λ (one : Var). hits one.at) (left.param_var world) params k,
        body at l k,
      )
