-- What is noted of nodes, where the functions that are meant are those of the top level and
-- methods.
use Rattle.std.proofs.Common.{ℕ, Bool, true, false, List, [], ◌∷◌, ◌++◌, Option, Some, None}
use Rattle.std.proofs.Common.{flat_map, not}
use Rattle.std.specs.List.{AllByRecursion}
use Rattle.sw_types.specs.declared.ty.Ty.{Ty}
use Rattle.sw_typing_rules.specs.Calls as calls
use Rattle.sw_typing_rules.specs.Calls.{Callee, Slot, Takes, Untyped, Prints, Uncallable}
use Rattle.sw_typing_rules.specs.Calls.{slots_of, callee_meaning}
use Rattle.sw_typing_rules.specs.Expressions as exps
use Rattle.sw_typing_rules.specs.Expressions.{Judged, Closed, Passed, call_judged, infix_judged}
use Rattle.sw_typing_rules.specs.Expressions.{call_callee, method_callee, base_rows, later}
use Rattle.sw_typing_rules.specs.Expressions.{first_marked}
use Rattle.sw_typing_rules.specs.Fits.{fits}
use Rattle.sw_typing_rules.specs.Statements as left
use Rattle.sw_typing_rules.specs.Statements.{State, Left, Armed, setting_of, in_branch, in_loop}
use Rattle.sw_typing_rules.specs.Statements.{in_switch, in_body, with_only, is_one, written}
use Rattle.sw_typing_rules.specs.Statements.{marked_type, place_type, marked_result, expects}
use Rattle.sw_typing_rules.specs.Statements.{cases_of, arm_payload, closure_state, beside}
use Rattle.sw_typing_rules.specs.Verdicts.{rows_of, meaning_rows, variable_rows, ill_if}
use Rattle.sw_typing_rules.specs.Verdicts.{ill_unless}
use Rattle.sw_typing_rules.specs.Worlds.{World}
use Rattle.sw_typing_rules.specs.declared.row.Meaning.{Meaning}
use Rattle.sw_typing_rules.specs.declared.row.Row.{Row}
use Rattle.sw_typing_rules.specs.declared.scope.Var.{Var}
use Rattle.sw_typing_rules.specs.declared.verdict.Verdict.{Verdict}
use Rattle.sw_typing_rules.specs.declared.verdict.Verdict.TheVariants.{Has, Fails, Held}
use Rattle.sw_lower_call_facts.specs.Meant.{MeaningSo, RowSo}

module _ (world : World) where
  abbrev pub RowsSo : List Row → Type 0
  RowsSo rows = AllByRecursion (RowSo world) rows

  -- a meaning, if there is one
  abbrev pub IfSo : Option Meaning → Type 0
  IfSo None = Unit {0}
  IfSo (Some meaning) = MeaningSo world meaning

  pub join : (rows more : List Row) → RowsSo rows → RowsSo more → RowsSo (rows ++ more)
  join [] more first second = second
  join (row ∷ rows) more first second = (first.0, join rows more first.1 second)

  pub each : {X : Type 0} (f : X → List Row) → ((x : X) → RowsSo (f x)) → (xs : List X)
      → RowsSo (flat_map f xs)
  each f are [] = tt
  each f are (x ∷ xs) = join (f x) (flat_map f xs) (are x) (each f are xs)

  pub doubted : (fails : Bool) (at code : ℕ) (unless : Option ℕ)
      → RowsSo (ill_unless fails at code unless)
  doubted true at code unless = (tt, tt)
  doubted false at code unless = tt

  pub ill : (fails : Bool) (at code : ℕ) → RowsSo (ill_if fails at code)
  ill fails at code = doubted fails at code None

  pub meanings : (at : ℕ) (meaning : Option Meaning) → IfSo meaning
      → RowsSo (meaning_rows at meaning)
  meanings at None so = tt
  meanings at (Some meaning) so = (so, tt)

  pub variables : (at : ℕ) (ty : Option Ty) → RowsSo (variable_rows at ty)
  variables at None = tt
  variables at (Some ty) = (tt, tt)

  pub vars : (list : List Var) → RowsSo (left.vars_rows list)
  vars list =
      each (λ (one : Var). variable_rows one.at one.ty) (λ one. variables one.at one.ty) list

  verdict : (at : ℕ) (says : Verdict) → RowsSo (rows_of at says)
  verdict at (Has ty) = (tt, tt)
  verdict at (Fails code) = (tt, tt)
  verdict at Held = tt

  pub noted : (at : ℕ) (says : Verdict) (rows : List Row) → RowsSo rows
      → RowsSo (rows ++ rows_of at says)
  noted at says rows are = join rows (rows_of at says) are (verdict at says)

  pub refused : (at : ℕ) (ty : Option Ty) (wanted : Ty) → RowsSo (left.refused at ty wanted)
  refused at None wanted = tt
  refused at (Some ty) wanted = ill (not (fits ty wanted)) at 402

  pub rows_by : (enum : Option ℕ) (rows : List Row) → RowsSo rows
      → RowsSo (exps.rows_by enum rows)
  rows_by None rows are = are
  rows_by (Some shape) rows are = tt

  pub call : (callee : Callee) (at : ℕ) (before : List Row) (passed : Passed)
      → IfSo (callee_meaning callee) → RowsSo before → RowsSo passed.rows
      → RowsSo (call_judged callee at before passed).rows
  call callee at before passed is first are =
      noted at (calls.call_types callee passed.given) _
      (join before _ first
      (join passed.rows _ are (meanings at (callee_meaning callee) is)))
