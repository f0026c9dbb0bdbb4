-- What a statement leaves, by what is known of its parts.
use Rattle.std.specs.Prelude.{ℕ, Bool, true, false, not, ◌&&◌, ◌||◌, ◌==◌, List, [], ◌∷◌, ◌++◌}
use Rattle.std.specs.Prelude.{Option, Some, None, map, flat_map, length, is_some, if◌then◌else◌}
use Rattle.std.specs.Prelude.{slice_get}
use Rattle.std.specs.List.{list_all, list_any}
use Rattle.sw_tree.specs.declared.expr.ClosureParam.{ClosureParam}
use Rattle.sw_tree.specs.declared.name.Name.{Name}
use Rattle.sw_tree.specs.declared.operator.AssignOp.{AssignOp}
use Rattle.sw_tree.specs.declared.stmt.Pattern.{Pattern}
use Rattle.sw_tree.specs.declared.stmt.Pattern.TheVariants.{Skip, Let}
use Rattle.sw_tree.specs.declared.type_tree.TypeTree.{TypeTree}
use Rattle.sw_types.specs.Accepts.{is_marked}
use Rattle.sw_types.specs.declared.shape.CaseShape.{CaseShape}
use Rattle.sw_types.specs.declared.shape.Shape.{Shape}
use Rattle.sw_types.specs.declared.shape.ShapeKind.TheVariants as kind
use Rattle.sw_types.specs.declared.ty.Ty.{Ty, out-Ty}
use Rattle.sw_types.specs.declared.ty.Ty.TheOpen as layer
use Rattle.sw_types.specs.declared.ty.Ty.TheVariants as types
use Rattle.sw_decl_words.specs.TypeWords.{type_of}
use Rattle.sw_typing_rules.specs.Doubts.{bare_in, decided}
use Rattle.sw_typing_rules.specs.Expressions.{Judged, Closed}
use Rattle.sw_typing_rules.specs.Fits.{fits}
use Rattle.sw_typing_rules.specs.Operators.{assigns}
use Rattle.sw_typing_rules.specs.Verdicts.{ill_if, ill_unless, all_well, is_accepted, is_bool}
use Rattle.sw_typing_rules.specs.Verdicts.{is_unit, meaning_rows, variable_rows}
use Rattle.sw_typing_rules.specs.Words.{Setting, local}
use Rattle.sw_typing_rules.specs.Worlds.{World}
use Rattle.sw_typing_rules.specs.declared.row.Meaning.TheVariants as means
use Rattle.sw_typing_rules.specs.declared.row.Row.{Row}
use Rattle.sw_typing_rules.specs.declared.row.Row.TheVariants.{Ill}
use Rattle.sw_typing_rules.specs.declared.scope.Inside.{Inside}
use Rattle.sw_typing_rules.specs.declared.scope.Returned.{Returned}
use Rattle.sw_typing_rules.specs.declared.scope.Returned.TheVariants.{Wants, Open, Gives}
use Rattle.sw_typing_rules.specs.declared.scope.Var.{Var}

-- the variables that are visible before a statement, the innermost last, and what is known of the
-- result of its body
pub record State : Type 0 where
  pub vars : List Var
  pub returned : Returned

-- what a statement leaves
pub record Left : Type 0 where
  -- the state after it
  pub state : State
  -- what is noted inside
  pub rows : List Row
  -- whether nothing in it is ill or held
  pub fine : Bool
  -- whether each way through it ends in a `return` or in a loop that nothing leaves
  pub ends : Bool
  -- whether a `break` in it leaves the loop or the `switch` around
  pub breaks : Bool

-- where the expressions of a statement stand
abbrev pub setting_of : Inside → State → Setting
setting_of inside state = record { owner = inside.owner; vars = state.vars }

-- what a statement leaves some of whose ways don't end
abbrev pub goes_on : State → List Row → Bool → Left
goes_on state rows fine =
    record { state = state; rows = rows; fine = fine; ends = false; breaks = false }

-- what a statement leaves each of whose ways ends
abbrev pub ended : State → List Row → Bool → Left
ended state rows fine =
    record { state = state; rows = rows; fine = fine; ends = true; breaks = false }

-- statements after each other
abbrev pub then_left : Left → Left → Left
then_left one next = record {
  state = next.state;
  rows = one.rows ++ next.rows;
  fine = one.fine && next.fine;
  ends = one.ends || next.ends;
  breaks = one.breaks || next.breaks;
}

-- branches of which one is taken; of no branch all ways end
abbrev pub beside : Left → Left → Left
beside one next = record {
  state = next.state;
  rows = one.rows ++ next.rows;
  fine = one.fine && next.fine;
  ends = one.ends && next.ends;
  breaks = one.breaks || next.breaks;
}

abbrev pub no_branch : State → Left
no_branch state = ended state [] true

-- the variables of a block are visible in it alone
abbrev pub restored : State → State → State
restored state inner = record { vars = state.vars; returned = inner.returned }

abbrev pub scoped : State → Left → Left
scoped state left = record left { state = restored state left.state }

-- in a block of an `if` or a `switch`: no statement there is the one statement of the body
abbrev pub in_branch : Inside → Inside
in_branch inside = record inside { only = false }

-- in the block of a loop, where `continue` and `break` may stand
abbrev pub in_loop : Inside → Inside
in_loop inside = record inside { only = false; loops = true; leaves = true }

-- in a `switch`, where `break` may stand
abbrev pub in_switch : Inside → Inside
in_switch inside = record inside { only = false; leaves = true }

abbrev pub is_one : {A : Type 0} → List A → Bool
is_one [] = false
is_one (x ∷ []) = true
is_one (x ∷ y ∷ more) = false

abbrev pub with_only : Inside → Bool → Inside
with_only inside one = record inside { only = inside.only && one }

-- a value whose type isn't accepted
abbrev pub refused : ℕ → Option Ty → Ty → List Row
refused at None wanted = []
refused at (Some ty) wanted = ill_if (not (fits ty wanted)) at 402

-- whether a `@Sendable` function is expected of a value
abbrev pub marked_type : Option Ty → Bool
marked_type None = false
marked_type (Some ty) = is_marked ty

abbrev pub marked_result : Returned → Bool
marked_result (Wants ty) = is_marked ty
marked_result (Open places) = false
marked_result (Gives ty) = marked_type ty

-- `let` and `var`: a written type is the variable's, whatever the value is
abbrev pub variable : Name → Bool → Option Ty → Var
variable name mutable ty = record { name = name.id; at = name.at; mutable = mutable; ty = ty }

abbrev pub with_var : State → Var → State
with_var state one = record state { vars = state.vars ++ one ∷ [] }

abbrev pub bind_left : State → Bool → Name → Option Ty → Judged → Left
bind_left state mutable name None value =
    goes_on (with_var state (variable name mutable value.ty))
    (value.rows ++ variable_rows name.at value.ty) (is_some value.ty)
bind_left state mutable name (Some ty) value =
    goes_on (with_var state (variable name mutable (Some ty)))
    (value.rows ++ (refused name.at value.ty ty ++ variable_rows name.at (Some ty)))
    (is_accepted value.ty ty)

-- a place that can't be assigned; in an initialiser each can
abbrev pub fixed : Inside → Judged → Bool
fixed inside place = is_some place.ty && not (inside.init || place.settable)

abbrev pub assigned : AssignOp → Option Ty → Option Ty → Bool
assigned op None value = false
assigned op (Some place) None = false
assigned op (Some place) (Some value) = assigns op place value

abbrev pub misassigned : AssignOp → ℕ → Option Ty → Option Ty → List Row
misassigned op at None value = []
misassigned op at (Some place) None = []
misassigned op at (Some place) (Some value) = ill_if (not (assigns op place value)) at 402

-- an ill place has no type
abbrev pub place_type : Inside → Judged → Option Ty
place_type inside place = if fixed inside place then None else place.ty

abbrev pub assign_left : Inside → State → ℕ → AssignOp → Judged → Judged → Left
assign_left inside state at op place value =
    goes_on state
    (place.rows ++ (ill_if (fixed inside place) place.key 404
    ++ (value.rows ++ misassigned op at (place_type inside place) value.ty)))
    (assigned op (place_type inside place) value.ty)

abbrev pub discard_left : State → Judged → Left
discard_left state value = goes_on state value.rows (is_some value.ty)

-- a condition is a Bool
abbrev pub is_condition : Option Ty → Bool
is_condition None = false
is_condition (Some ty) = is_bool ty

abbrev pub condition_rows : Judged → List Row
condition_rows cond = cond.rows ++ ill_if (is_some cond.ty && not
    (is_condition cond.ty)) cond.key 402

abbrev pub arm_left : State → Judged → Left → Left
arm_left state cond body = record {
  state = restored state body.state;
  rows = condition_rows cond ++ body.rows;
  fine = is_condition cond.ty && body.fine;
  ends = body.ends;
  breaks = body.breaks;
}

-- A `while` ends the ways where its condition is `true` and no `break` leaves it.
abbrev pub while_left : State → Judged → Left → Left
while_left state cond body = record {
  state = restored state body.state;
  rows = condition_rows cond ++ body.rows;
  fine = is_condition cond.ty && body.fine;
  ends = cond.is_true && not body.breaks;
  breaks = false;
}

-- a `break` and a `continue` stand in what they leave
abbrev pub break_left : Inside → State → ℕ → Left
break_left inside state at = record {
  state = state;
  rows = ill_if (not inside.leaves) at 408;
  fine = inside.leaves;
  ends = false;
  breaks = true;
}

abbrev pub continue_left : Inside → State → ℕ → Left
continue_left inside state at = goes_on state (ill_if (not inside.loops) at 408) inside.loops

-- `return` without a value counts as one of type `Void`
abbrev pub bare_left : State → ℕ → Ty → Left
bare_left state at ty = ended state (ill_if (not (is_unit ty)) at 402) (is_unit ty)

abbrev pub return_void : Returned → State → ℕ → Left
return_void (Wants ty) state at = bare_left state at ty
return_void (Open places) state at =
    ended (record state { returned = Open (places ++ at ∷ []) }) [] true
return_void (Gives None) state at = ended state [] true
return_void (Gives (Some ty)) state at = bare_left state at ty

abbrev pub accepted_left : State → ℕ → Judged → Ty → Left
accepted_left state at value ty =
    ended state (value.rows ++ refused at value.ty ty) (is_accepted value.ty ty)

-- The first value that a body without written result returns has its type. A `return` without a
-- value before it is ill then, unless that type is `Void`.
abbrev pub bare_rows : List ℕ → Option Ty → List Row
bare_rows places None = []
bare_rows places (Some ty) = if is_unit ty then [] else map (λ at. Ill at 402 None) places

abbrev pub no_bare : List ℕ → Option Ty → Bool
no_bare places None = false
no_bare [] (Some ty) = true
no_bare (at ∷ places) (Some ty) = is_unit ty

abbrev pub first_value_left : State → List ℕ → Judged → Left
first_value_left state places value =
    ended (record state { returned = Gives value.ty })
    (value.rows ++ bare_rows places value.ty) (no_bare places value.ty)

abbrev pub return_value : Returned → State → ℕ → Judged → Left
return_value (Wants ty) state at value = accepted_left state at value ty
return_value (Open places) state at value = first_value_left state places value
return_value (Gives None) state at value = ended state value.rows (is_some value.ty)
return_value (Gives (Some ty)) state at value = accepted_left state at value ty

-- An expression as a statement. Where it is the one statement of a body with a result other than
-- `Void` it is returned.
abbrev pub result_left : Returned → State → Judged → Left
result_left (Wants ty) state value =
    if is_unit ty then discard_left state value else accepted_left state value.key value ty
result_left (Open places) state value = first_value_left state places value
result_left (Gives ty) state value = discard_left state value

abbrev pub plain_left : Bool → State → Judged → Left
plain_left false state value = discard_left state value
plain_left true state value = result_left state.returned state value

abbrev pub expects : Bool → State → Bool
expects only state = only && marked_result state.returned

-- an arm of a `switch`: the word of its case, and its patterns
pub record Head : Type 0 where
  pub name : ℕ
  pub patterns : List Pattern

-- the arms of a `switch`, and what they leave
pub record Armed : Type 0 where
  pub heads : List Head
  pub left : Left

abbrev pub no_arms : State → Armed
no_arms state = record { heads = []; left = no_branch state }

abbrev pub case_named : List CaseShape → ℕ → Option CaseShape
case_named [] id = None
case_named (one ∷ more) id = if one.name == id then Some one else case_named more id

abbrev pub payload_of : Option CaseShape → Option (List Ty)
payload_of None = None
payload_of (Some one) = Some one.payload

-- the payload of the case that an arm names, if the subject is an enum that has it
abbrev pub arm_payload : Option (List CaseShape) → ℕ → Option (List Ty)
arm_payload None id = None
arm_payload (Some cases) id = payload_of (case_named cases id)

-- none or all of a payload has patterns
abbrev pub patterns_fit : List Pattern → Option (List Ty) → Bool
patterns_fit patterns None = false
patterns_fit patterns (Some payload) =
    (length patterns == 0) || (length patterns == length payload)

-- the types of patterns; where they don't fit they have none
abbrev pub pattern_types : List Pattern → Option (List Ty) → List Ty
pattern_types patterns None = []
pattern_types patterns (Some payload) =
    if length patterns == length payload then payload else []

abbrev pub first_type : List Ty → Option Ty
first_type [] = None
first_type (ty ∷ tys) = Some ty

abbrev pub more_types : List Ty → List Ty
more_types [] = []
more_types (ty ∷ tys) = tys

abbrev pub pattern_vars : List Pattern → List Ty → List Var
pattern_vars [] tys = []
pattern_vars (Skip at ∷ patterns) tys = pattern_vars patterns (more_types tys)
pattern_vars (Let name ∷ patterns) tys =
    variable name false (first_type tys) ∷ pattern_vars patterns (more_types tys)

-- what is noted of variables that are declared together
abbrev pub vars_rows : List Var → List Row
vars_rows vars = flat_map (λ (one : Var). variable_rows one.at one.ty) vars

abbrev pub arm_vars : Head → Option (List Ty) → List Var
arm_vars head payload = pattern_vars head.patterns (pattern_types head.patterns payload)

abbrev pub with_vars : State → List Var → State
with_vars state vars = record state { vars = state.vars ++ vars }

abbrev pub case_left : State → Head → Option (List Ty) → Left → Left
case_left state head payload body = record {
  state = restored state body.state;
  rows = vars_rows (arm_vars head payload) ++ body.rows;
  fine = patterns_fit head.patterns payload && body.fine;
  ends = body.ends;
  breaks = body.breaks;
}

abbrev pub more_arms : Head → Left → Armed → Armed
more_arms head left more =
    record { heads = head ∷ more.heads; left = beside left more.left }

abbrev pub has_arm : List Head → CaseShape → Bool
has_arm heads one = list_any (λ (head : Head). head.name == one.name) heads

-- each arm names a case of the enum, with patterns for none or all of its payload
abbrev pub heads_fit : Option (List CaseShape) → List Head → Bool
heads_fit cases [] = true
heads_fit cases (head ∷ heads) =
    patterns_fit head.patterns (arm_payload cases head.name) && heads_fit cases heads

-- The subject is an enum, each arm names a case of it with patterns for none or all of the payload,
-- and each case has an arm, or there is a `default`.
abbrev pub switch_fits : Option (List CaseShape) → List Head → Bool → Bool
switch_fits None heads otherwise = false
switch_fits (Some cases) heads otherwise =
    heads_fit (Some cases) heads && (otherwise || list_all (has_arm heads) cases)

-- A `switch` is ill where nothing inside it is; it is in doubt where a `return` inside it may turn
-- out ill. A `break` leaves it, so its ways don't end then.
abbrev pub switch_left : Option (List CaseShape) → ℕ → Judged → List Head → Bool → Left → Left
switch_left cases at subject heads otherwise inner = record {
  state = inner.state;
  rows = subject.rows ++ (inner.rows
      ++ ill_unless (is_some subject.ty && (all_well (subject.rows ++ inner.rows)
      && not (switch_fits cases heads otherwise))) at 405 (bare_in at inner.state.returned));
  fine = is_some subject.ty && (inner.fine && switch_fits cases heads otherwise);
  ends = inner.ends && not inner.breaks;
  breaks = false;
}

-- the result of a body, as far as its statements tell
abbrev pub body_result : Returned → Option Ty
body_result (Wants ty) = Some ty
body_result (Open places) = Some types.Unit
body_result (Gives ty) = ty

abbrev pub is_result : Option Ty → Bool
is_result None = false
is_result (Some ty) = not (is_unit ty)

-- A body with a result other than `Void` has a way that doesn't end in `return`, and nothing inside
-- it is ill.
abbrev pub lacks_result : Left → Bool
lacks_result left =
    all_well left.rows && (is_result (body_result left.state.returned) && not left.ends)

abbrev pub body_rows : ℕ → Left → List Row
body_rows at left = left.rows ++ ill_if (lacks_result left) at 406

-- what is noted of the body of a closure or a task, whose result is known at its end
abbrev pub decided_rows : ℕ → Left → List Row
decided_rows at left =
    map (decided (is_result (body_result left.state.returned))) (body_rows at left)

-- the result of a body all of which has types
abbrev pub result_of : Left → Option Ty
result_of left =
    if left.fine && not (lacks_result left) then body_result left.state.returned else None

abbrev pub in_body : Option ℕ → Bool → Inside
in_body owner init =
    record { owner = owner; only = true; loops = false; leaves = false; init = init }

-- the words of a capture list: each means a variable that is visible, and is none to assign then
abbrev pub captured : Option Var → List Var
captured None = []
captured (Some one) = record one { mutable = false } ∷ []

abbrev pub capture_rows : Name → Option Var → List Row
capture_rows word None = Ill word.at 401 None ∷ []
capture_rows word (Some one) =
    meaning_rows word.at (Some (means.Local one.at)) ++ variable_rows word.at one.ty

abbrev pub is_captured : Option Var → Bool
is_captured None = false
is_captured (Some one) = is_some one.ty

abbrev pub are_captured : List Var → List Name → Bool
are_captured vars [] = true
are_captured vars (word ∷ words) = is_captured (local vars word.id) && are_captured vars words

abbrev pub cases_of_shape : Option Shape → Option (List CaseShape)
cases_of_shape None = None
cases_of_shape (Some shape) = elim shape.kind as (λ _. Option (List CaseShape)) [
  | kind.Struct ↦ None
  | kind.Enum ↦ Some shape.cases
  | kind.Class ↦ None
  | kind.Actor ↦ None
]

module _ (world : World) where
  abbrev pub cases_layer : layer.Ty-F Ty → Option (List CaseShape)
  cases_layer (layer.Named shape) = cases_of_shape (slice_get world.shapes shape)
  cases_layer _ = None

  -- the cases of the subject of a `switch`, where it is an enum
  abbrev pub cases_of : Option Ty → Option (List CaseShape)
  cases_of None = None
  cases_of (Some ty) = cases_layer (out-Ty ty)

  abbrev pub written : Option TypeTree → Option Ty
  written None = None
  written (Some tree) = Some (type_of world.known.top tree)

  abbrev pub param_var : ClosureParam → Var
  param_var param = record {
    name = param.name.id;
    at = param.name.at;
    mutable = false;
    ty = Some (type_of world.known.top param.ty);
  }

  abbrev pub result_wanted : Option TypeTree → Returned
  result_wanted None = Open []
  result_wanted (Some tree) = Wants (type_of world.known.top tree)

  -- what a closure begins with: a parameter hides what is outside, and a listed word a parameter
  abbrev pub closure_vars : List Var → List Name → List ClosureParam → List Var
  closure_vars vars captures params =
      vars ++ (map param_var params
      ++ flat_map (λ (word : Name). captured (local vars word.id)) captures)

  abbrev pub closure_state : Setting → List Name → List ClosureParam → Option TypeTree → State
  closure_state setting captures params result = record {
    vars = closure_vars setting.vars captures params;
    returned = result_wanted result;
  }

  -- a closure or the body of a task, by what its statements leave
  abbrev pub closed : Setting → ℕ → Option Name → List Name → List ClosureParam → Left → Closed
  closed setting at mark captures params left = record {
    at = at;
    params = map (λ (param : ClosureParam). type_of world.known.top param.ty) params;
    marked = is_some mark;
    result = if are_captured setting.vars captures then result_of left else None;
    rows = flat_map (λ (word : Name). capture_rows word (local setting.vars word.id)) captures
        ++ (vars_rows (map param_var params) ++ decided_rows at left);
  }
