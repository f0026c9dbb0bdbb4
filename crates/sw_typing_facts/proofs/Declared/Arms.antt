-- The arms of a `switch`: the types of the cases of an enum, and of the variables of an arm, are
-- declared.
use Rattle.std.proofs.Common.{ℕ, Bool, true, false, List, [], ◌∷◌, Option, Some, None, length}
use Rattle.std.proofs.Common.{slice_get, if◌then◌else◌, ◌==◌}
use Rattle.std.specs.List.{AllByRecursion}
use Rattle.std.specs.Prelude.{IfSome}
use Rattle.sw_tree.specs.declared.stmt.Pattern.{Pattern}
use Rattle.sw_tree.specs.declared.stmt.Pattern.TheVariants.{Skip, Let}
use Rattle.sw_types.specs.declared.shape.CaseShape.{CaseShape}
use Rattle.sw_types.specs.declared.shape.Shape.{Shape}
use Rattle.sw_types.specs.declared.shape.ShapeKind.{ShapeKind}
use Rattle.sw_types.specs.declared.shape.ShapeKind.TheVariants as kind
use Rattle.sw_types.specs.declared.ty.Ty.{Ty, out-Ty}
use Rattle.sw_types.specs.declared.ty.Ty.TheOpen as layer
use Rattle.sw_typing_rules.specs.Statements as stmts
use Rattle.sw_typing_rules.specs.Statements.{Head}
use Rattle.sw_typing_rules.specs.Worlds.{World}
use Rattle.sw_typing_facts.proofs.Declared.Noted.{CasesWithin, VarsWithin, size}
use Rattle.sw_typing_facts.proofs.Declared.Tables.{CaseWithin, ShapeWithin, TablesWithin}
use Rattle.sw_typing_facts.proofs.Types.Within.{AreWithin, IfWithin, get_of_all}

module _ (n : ℕ) where
  case_named : (cases : List CaseShape) (id : ℕ) → AllByRecursion (CaseWithin n) cases
      → IfSome (stmts.case_named cases id) (CaseWithin n)
  case_named [] id are = tt
  case_named (one ∷ more) id are = by (one.name == id) (case_named more id are.1) where
    by : (test : Bool) → IfSome (stmts.case_named more id) (CaseWithin n)
        → IfSome (if test then Some one else stmts.case_named more id) (CaseWithin n)
    by true later = are.0
    by false later = later

  payload_of : (one : Option CaseShape) → IfSome one (CaseWithin n)
      → IfSome (stmts.payload_of one) (AreWithin n)
  payload_of None is = tt
  payload_of (Some one) is = is

  arm_payload : (cases : Option (List CaseShape)) (id : ℕ) → CasesWithin n cases
      → IfSome (stmts.arm_payload cases id) (AreWithin n)
  arm_payload None id are = tt
  arm_payload (Some cases) id are =
      payload_of (stmts.case_named cases id) (case_named cases id are)

  types_or : (test : Bool) (payload : List Ty) → AreWithin n payload
      → AreWithin n (if test then payload else [])
  types_or true payload are = are
  types_or false payload are = tt

  pattern_types : (patterns : List Pattern) (payload : Option (List Ty))
      → IfSome payload (AreWithin n) → AreWithin n (stmts.pattern_types patterns payload)
  pattern_types patterns None are = tt
  pattern_types patterns (Some payload) are =
      types_or (length patterns == length payload) payload are

  first_type : (list : List Ty) → AreWithin n list → IfWithin n (stmts.first_type list)
  first_type [] are = tt
  first_type (ty ∷ list) are = are.0

  more_types : (list : List Ty) → AreWithin n list → AreWithin n (stmts.more_types list)
  more_types [] are = tt
  more_types (ty ∷ list) are = are.1

  pattern_vars : (patterns : List Pattern) (list : List Ty) → AreWithin n list
      → VarsWithin n (stmts.pattern_vars patterns list)
  pattern_vars [] list are = tt
  pattern_vars (Skip at ∷ patterns) list are =
      pattern_vars patterns (stmts.more_types list) (more_types list are)
  pattern_vars (Let name ∷ patterns) list are = (
    first_type list are,
    pattern_vars patterns (stmts.more_types list) (more_types list are),
  )

  -- the variables of an arm of a `switch`
  pub arm_vars : (cases : Option (List CaseShape)) (head : Head) → CasesWithin n cases
      → VarsWithin n (stmts.arm_vars head (stmts.arm_payload cases head.name))
  arm_vars cases head are =
      pattern_vars head.patterns _
      (pattern_types head.patterns _ (arm_payload cases head.name are))

module _ (world : World) (tables : TablesWithin world) where
  by_kind : (made : ShapeKind) (cases : List CaseShape)
      → AllByRecursion (CaseWithin (size world)) cases
      → CasesWithin (size world) (elim made as (λ _. Option (List CaseShape)) [
        | kind.Struct ↦ None
        | kind.Enum ↦ Some cases
        | kind.Class ↦ None
        | kind.Actor ↦ None
      ])
  by_kind kind.Struct cases are = tt
  by_kind kind.Enum cases are = are
  by_kind kind.Class cases are = tt
  by_kind kind.Actor cases are = tt

  cases_of_shape : (shape : Option Shape) → IfSome shape (ShapeWithin (size world))
      → CasesWithin (size world) (stmts.cases_of_shape shape)
  cases_of_shape None is = tt
  cases_of_shape (Some shape) is = by_kind shape.kind shape.cases is.1

  cases_layer : (form : layer.Ty-F Ty)
      → CasesWithin (size world) (stmts.cases_layer world form)
  cases_layer layer.Int = tt
  cases_layer layer.Bool = tt
  cases_layer layer.Unit = tt
  cases_layer (layer.Named shape) =
      cases_of_shape (slice_get world.shapes shape)
      (get_of_all (ShapeWithin (size world)) world.shapes shape tables.shapes)
  cases_layer (layer.Func marked params result) = tt
  cases_layer (layer.Task inner) = tt

  -- the cases of an enum
  pub cases_of : (ty : Option Ty) → CasesWithin (size world) (stmts.cases_of world ty)
  cases_of None = tt
  cases_of (Some ty) = cases_layer (out-Ty ty)
