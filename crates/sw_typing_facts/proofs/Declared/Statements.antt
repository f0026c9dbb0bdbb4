-- The rules of statements: what they leave names declared types.
use Rattle.std.proofs.Common.{ℕ, Bool, true, false, List, [], ◌∷◌, Option, Some, None, is_some, map}
use Rattle.std.proofs.Common.{not, if◌then◌else◌, ◌&&◌}
use Rattle.sw_tree.specs.declared.name.Name.{Name}
use Rattle.sw_tree.specs.declared.operator.AssignOp.{AssignOp}
use Rattle.sw_tree.specs.declared.type_tree.TypeTree.{TypeTree}
use Rattle.sw_types.specs.declared.shape.CaseShape.{CaseShape}
use Rattle.sw_types.specs.declared.ty.Ty.{Ty}
use Rattle.sw_typing_rules.specs.Expressions.{Judged}
use Rattle.sw_typing_rules.specs.Operators as operators
use Rattle.sw_typing_rules.specs.Statements as stmts
use Rattle.sw_typing_rules.specs.Statements.{Head, Left, State, place_type}
use Rattle.sw_typing_rules.specs.Verdicts.{ill_if, is_unit}
use Rattle.sw_typing_rules.specs.Worlds.{World}
use Rattle.sw_typing_rules.specs.declared.row.Row.{Row}
use Rattle.sw_typing_rules.specs.declared.row.Row.TheVariants.{Ill}
use Rattle.sw_typing_rules.specs.declared.scope.Inside.{Inside}
use Rattle.sw_typing_rules.specs.declared.scope.Returned.{Returned}
use Rattle.sw_typing_rules.specs.declared.scope.Returned.TheVariants.{Gives, Open, Wants}
use Rattle.sw_typing_facts.proofs.Declared.Lookups.{written_is}
use Rattle.sw_typing_rules.specs.Doubts.{bare_in}
use Rattle.sw_typing_facts.proofs.Declared.Noted.{JudgedWithin, LeftWithin, RowsWithin, StateWithin}
use Rattle.sw_typing_facts.proofs.Declared.Noted.{VarWithin, doubted, ill, join, refused, size}
use Rattle.sw_typing_facts.proofs.Declared.Noted.{variables}
use Rattle.sw_typing_facts.proofs.Declared.Tables.{TablesWithin}
use Rattle.sw_typing_facts.proofs.Types.Within.{IfWithin, all_append}

module _ (n : ℕ) where
  -- a declaration of a variable
  pub bind : (state : State) (mutable : Bool) (name : Name) (ty : Option Ty) (value : Judged)
      → StateWithin n state → IfWithin n ty → JudgedWithin n value
      → LeftWithin n (stmts.bind_left state mutable name ty value)
  bind state mutable name None value first is are = (
    (all_append (VarWithin n) state.vars _ first.0 (are.0, tt), first.1),
    join n value.rows _ are.1 (variables n name.at value.ty are.0),
  )
  bind state mutable name (Some ty) value first is are = (
    (all_append (VarWithin n) state.vars _ first.0 (is, tt), first.1),
    join n value.rows _ are.1
        (join n (stmts.refused name.at value.ty ty) _ (refused n name.at value.ty ty)
        (variables n name.at (Some ty) is)),
  )

  misassigned : (op : AssignOp) (at : ℕ) (place value : Option Ty)
      → RowsWithin n (stmts.misassigned op at place value)
  misassigned op at None value = tt
  misassigned op at (Some place) None = tt
  misassigned op at (Some place) (Some value) =
      ill n (not (operators.assigns op place value)) at 402

  -- an assignment
  pub assign : (inside : Inside) (state : State) (at : ℕ) (op : AssignOp) (place value : Judged)
      → StateWithin n state → JudgedWithin n place → JudgedWithin n value
      → LeftWithin n (stmts.assign_left inside state at op place value)
  assign inside state at op place value is first second = (
    is,
    join n place.rows _ first.1
        (join n (ill_if (stmts.fixed inside place) place.key 404) _
        (ill n (stmts.fixed inside place) place.key 404)
        (join n value.rows _ second.1 (misassigned op at (place_type inside place) value.ty))),
  )

  -- a condition
  pub condition : (cond : Judged) → JudgedWithin n cond
      → RowsWithin n (stmts.condition_rows cond)
  condition cond are =
      join n cond.rows _ are.1
      (ill n (is_some cond.ty && not (stmts.is_condition cond.ty)) cond.key 402)

  -- a `return` without a value
  pub void : (returned : Returned) (state : State) (at : ℕ) → StateWithin n state
      → LeftWithin n (stmts.return_void returned state at)
  void (Wants ty) state at is = (is, ill n (not (is_unit ty)) at 402)
  void (Open places) state at is = ((is.0, tt), tt)
  void (Gives None) state at is = (is, tt)
  void (Gives (Some ty)) state at is = (is, ill n (not (is_unit ty)) at 402)

  accepted : (state : State) (at : ℕ) (value : Judged) (ty : Ty) → StateWithin n state
      → JudgedWithin n value → LeftWithin n (stmts.accepted_left state at value ty)
  accepted state at value ty is are = (is, join n value.rows _ are.1 (refused n at value.ty ty))

  ill_each : (places : List ℕ) → RowsWithin n (map (λ at. Ill at 402 None) places)
  ill_each [] = tt
  ill_each (at ∷ places) = (tt, ill_each places)

  unless : (test : Bool) (rows : List Row) → RowsWithin n rows
      → RowsWithin n (if test then [] else rows)
  unless true rows are = tt
  unless false rows are = are

  bare : (places : List ℕ) (ty : Option Ty) → RowsWithin n (stmts.bare_rows places ty)
  bare places None = tt
  bare places (Some ty) = unless (is_unit ty) (map (λ at. Ill at 402 None) places) (ill_each places)

  first_value : (state : State) (places : List ℕ) (value : Judged) → StateWithin n state
      → JudgedWithin n value → LeftWithin n (stmts.first_value_left state places value)
  first_value state places value is are =
      ((is.0, are.0), join n value.rows _ are.1 (bare places value.ty))

  -- a `return` with a value
  pub value_of : (returned : Returned) (state : State) (at : ℕ) (value : Judged)
      → StateWithin n state → JudgedWithin n value
      → LeftWithin n (stmts.return_value returned state at value)
  value_of (Wants ty) state at value is are = accepted state at value ty is are
  value_of (Open places) state at value is are = first_value state places value is are
  value_of (Gives None) state at value is are = (is, are.1)
  value_of (Gives (Some ty)) state at value is are = accepted state at value ty is are

  discard_or : (test : Bool) (state : State) (value : Judged) (ty : Ty) → StateWithin n state
      → JudgedWithin n value
      → LeftWithin n (if test then stmts.discard_left state value
      else stmts.accepted_left state value.key value ty)
  discard_or true state value ty is are = (is, are.1)
  discard_or false state value ty is are = accepted state value.key value ty is are

  result : (returned : Returned) (state : State) (value : Judged) → StateWithin n state
      → JudgedWithin n value → LeftWithin n (stmts.result_left returned state value)
  result (Wants ty) state value is are = discard_or (is_unit ty) state value ty is are
  result (Open places) state value is are = first_value state places value is are
  result (Gives ty) state value is are = (is, are.1)

  -- an expression as a statement
  pub plain : (only : Bool) (state : State) (value : Judged) → StateWithin n state
      → JudgedWithin n value → LeftWithin n (stmts.plain_left only state value)
  plain false state value is are = (is, are.1)
  plain true state value is are = result state.returned state value is are

  -- a `switch`
  pub switch : (cases : Option (List CaseShape)) (at : ℕ) (subject : Judged) (heads : List Head)
      (otherwise : Bool) (inner : Left) → JudgedWithin n subject → LeftWithin n inner
      → LeftWithin n (stmts.switch_left cases at subject heads otherwise inner)
  switch cases at subject heads otherwise inner first second = (
    second.0,
    join n subject.rows _ first.1
        (join n inner.rows _ second.1 (doubted n _ at 405 (bare_in at inner.state.returned))),
  )

module _ (world : World) (tables : TablesWithin world) where
  -- a type that is written
  pub written_type : (tree : Option TypeTree) → IfWithin (size world) (stmts.written world tree)
  written_type None = tt
  written_type (Some tree) = written_is world tables tree
