-- What it means that the types are declared that are noted of nodes, or known of variables,
-- expressions, statements and closures. Lists of what is noted.
use Rattle.std.proofs.Common.{ℕ, ◌<◌, Bool, true, false, List, [], ◌∷◌, ◌++◌, Option, Some, None}
use Rattle.std.proofs.Common.{length, flat_map, not}
use Rattle.std.specs.List.{AllByRecursion}
use Rattle.std.specs.Prelude.{IfSome}
use Rattle.sw_types.specs.declared.shape.CaseShape.{CaseShape}
use Rattle.sw_types.specs.declared.ty.Ty.{Ty}
use Rattle.sw_typing_rules.specs.Expressions.{Closed, Judged}
use Rattle.sw_typing_rules.specs.Fits.{fits}
use Rattle.sw_typing_rules.specs.Statements as stmts
use Rattle.sw_typing_rules.specs.Statements.{Left, State}
use Rattle.sw_typing_rules.specs.Verdicts.{ill_if, ill_unless, meaning_rows, variable_rows}
use Rattle.sw_typing_rules.specs.Worlds.{World}
use Rattle.sw_typing_rules.specs.declared.row.Meaning.{Meaning}
use Rattle.sw_typing_rules.specs.declared.row.Row.{Row}
use Rattle.sw_typing_rules.specs.declared.row.Row.TheVariants.{Ill, Means, Typed}
use Rattle.sw_typing_rules.specs.declared.scope.Returned.{Returned}
use Rattle.sw_typing_rules.specs.declared.scope.Returned.TheVariants.{Gives, Open, Wants}
use Rattle.sw_typing_rules.specs.declared.scope.Var.{Var}
use Rattle.sw_typing_facts.proofs.Declared.Tables.{CaseWithin}
use Rattle.sw_typing_facts.proofs.Types.Within.{AreWithin, IfWithin, Within, all_append}

-- a type that is noted of a node names the first n types alone
abbrev pub RowWithin : ℕ → Row → Type 0
RowWithin n (Typed at ty) = Within n ty
RowWithin n (Means at meaning) = Unit {0}
RowWithin n (Ill at code unless) = Unit {0}

-- the types that are noted of nodes
abbrev pub RowsWithin : ℕ → List Row → Type 0
RowsWithin n rows = AllByRecursion (RowWithin n) rows

-- the type of a variable, if it has one
abbrev pub VarWithin : ℕ → Var → Type 0
VarWithin n one = IfWithin n one.ty

-- the types of variables
abbrev pub VarsWithin : ℕ → List Var → Type 0
VarsWithin n vars = AllByRecursion (VarWithin n) vars

-- the result of a body, as far as it is known
abbrev pub ReturnedWithin : ℕ → Returned → Type 0
ReturnedWithin n (Wants ty) = Within n ty
ReturnedWithin n (Open places) = Unit {0}
ReturnedWithin n (Gives ty) = IfWithin n ty

-- the types of the visible variables, and the result
abbrev pub StateWithin : ℕ → State → Type 0
StateWithin n state = VarsWithin n state.vars × ReturnedWithin n state.returned

-- the type of an expression, if it has one, and what is noted of its nodes
abbrev pub JudgedWithin : ℕ → Judged → Type 0
JudgedWithin n judged = IfWithin n judged.ty × RowsWithin n judged.rows

-- what a statement leaves, and what is noted of its nodes
abbrev pub LeftWithin : ℕ → Left → Type 0
LeftWithin n left = StateWithin n left.state × RowsWithin n left.rows

-- the types of a closure's parameters, its result, and what is noted of its nodes
abbrev pub ClosedWithin : ℕ → Closed → Type 0
ClosedWithin n closed =
    (AreWithin n closed.params × IfWithin n closed.result) × RowsWithin n closed.rows

-- The type around, if there is one, is among the first n.
abbrev pub OwnerWithin : ℕ → Option ℕ → Type 0
OwnerWithin n owner = IfSome owner (λ shape. shape < n)

-- the types of the payloads of cases
abbrev pub CasesWithin : ℕ → Option (List CaseShape) → Type 0
CasesWithin n cases = IfSome cases (AllByRecursion (CaseWithin n))

-- how many types a program declares
abbrev pub size : World → ℕ
size world = length world.shapes

module _ (n : ℕ) where
  -- lists of what is noted

  -- rows after each other
  pub join : (rows more : List Row) → RowsWithin n rows → RowsWithin n more
      → RowsWithin n (rows ++ more)
  join = all_append (RowWithin n)

  pub each : {X : Type 0} (f : X → List Row) → ((x : X) → RowsWithin n (f x)) → (list : List X)
      → RowsWithin n (flat_map f list)
  each f are [] = tt
  each f are (x ∷ list) = join (f x) (flat_map f list) (are x) (each f are list)

  -- the row of an ill node
  pub doubted : (fails : Bool) (at code : ℕ) (unless : Option ℕ)
      → RowsWithin n (ill_unless fails at code unless)
  doubted true at code unless = (tt, tt)
  doubted false at code unless = tt

  pub ill : (fails : Bool) (at code : ℕ) → RowsWithin n (ill_if fails at code)
  ill fails at code = doubted fails at code None

  pub meanings : (at : ℕ) (meaning : Option Meaning) → RowsWithin n (meaning_rows at meaning)
  meanings at None = tt
  meanings at (Some meaning) = (tt, tt)

  pub variables : (at : ℕ) (ty : Option Ty) → IfWithin n ty → RowsWithin n (variable_rows at ty)
  variables at None is = tt
  variables at (Some ty) is = (is, tt)

  -- the rows of variables that are declared
  pub vars_rows : (vars : List Var) → VarsWithin n vars → RowsWithin n (stmts.vars_rows vars)
  vars_rows [] are = tt
  vars_rows (one ∷ vars) are =
      join (variable_rows one.at one.ty) (stmts.vars_rows vars) (variables one.at one.ty are.0)
      (vars_rows vars are.1)

  -- a value that may be refused
  pub refused : (at : ℕ) (ty : Option Ty) (wanted : Ty)
      → RowsWithin n (stmts.refused at ty wanted)
  refused at None wanted = tt
  refused at (Some ty) wanted = ill (not (fits ty wanted)) at 402
