-- The rules of bodies and closures: the types that they give are declared.
use Rattle.std.proofs.Common.{ℕ, Bool, true, false, List, [], ◌∷◌, Option, Some, None, map}
use Rattle.std.proofs.Common.{flat_map, not, if◌then◌else◌, ◌&&◌}
use Rattle.std.specs.Prelude.{IfSome}
use Rattle.sw_tree.specs.declared.expr.ClosureParam.{ClosureParam}
use Rattle.sw_tree.specs.declared.name.Name.{Name}
use Rattle.sw_tree.specs.declared.type_tree.TypeTree.{TypeTree}
use Rattle.sw_types.specs.declared.ty.Ty.{Ty}
use Rattle.sw_decl_words.specs.TypeWords.{type_of}
use Rattle.sw_typing_rules.specs.Statements as stmts
use Rattle.sw_typing_rules.specs.Statements.{Left}
use Rattle.sw_typing_rules.specs.Verdicts.{meaning_rows}
use Rattle.sw_typing_rules.specs.Words as senses
use Rattle.sw_typing_rules.specs.Words.{Setting}
use Rattle.sw_typing_rules.specs.Worlds.{World}
use Rattle.sw_typing_rules.specs.declared.row.Meaning.TheVariants as means
use Rattle.sw_typing_rules.specs.declared.scope.Returned.{Returned}
use Rattle.sw_typing_rules.specs.declared.scope.Returned.TheVariants.{Gives, Open, Wants}
use Rattle.sw_typing_rules.specs.declared.scope.Var.{Var}
use Rattle.sw_typing_rules.proofs.Doubts.{decided_keep}
use Rattle.sw_typing_facts.proofs.Declared.Lookups.{written_is}
use Rattle.sw_typing_facts.proofs.Declared.Noted.{ClosedWithin, LeftWithin, ReturnedWithin}
use Rattle.sw_typing_facts.proofs.Declared.Noted.{RowWithin, RowsWithin, StateWithin, VarWithin}
use Rattle.sw_typing_facts.proofs.Declared.Noted.{VarsWithin}
use Rattle.sw_typing_facts.proofs.Declared.Noted.{each, ill, join, meanings, size, variables}
use Rattle.sw_typing_facts.proofs.Declared.Noted.{vars_rows}
use Rattle.sw_typing_facts.proofs.Declared.Senses.{local}
use Rattle.sw_typing_facts.proofs.Declared.Tables.{TablesWithin}
use Rattle.sw_typing_facts.proofs.Types.Within.{IfWithin, Within, all_append, all_map, unit_within}

module _ (n : ℕ) where
  -- the rows of a body
  pub body : (at : ℕ) (left : Left) → RowsWithin n left.rows
      → RowsWithin n (stmts.body_rows at left)
  body at left are = join n left.rows _ are (ill n (stmts.lacks_result left) at 406)

  body_result : (returned : Returned) → ReturnedWithin n returned
      → IfWithin n (stmts.body_result returned)
  body_result (Wants ty) is = is
  body_result (Open places) is = unit_within n
  body_result (Gives ty) is = is

  type_or : (test : Bool) (ty : Option Ty) → IfWithin n ty
      → IfWithin n (if test then ty else None)
  type_or true ty is = is
  type_or false ty is = tt

  result_of : (left : Left) → LeftWithin n left → IfWithin n (stmts.result_of left)
  result_of left are =
      type_or (left.fine && not (stmts.lacks_result left)) (stmts.body_result left.state.returned)
      (body_result left.state.returned are.0.1)

  capture : (name : Name) (one : Option Var) → IfSome one (VarWithin n)
      → RowsWithin n (stmts.capture_rows name one)
  capture name None is = (tt, tt)
  capture name (Some one) is =
      join n (meaning_rows name.at (Some (means.Local one.at))) _
      (meanings n name.at (Some (means.Local one.at))) (variables n name.at one.ty is)

  captured : (one : Option Var) → IfSome one (VarWithin n) → VarsWithin n (stmts.captured one)
  captured None is = tt
  captured (Some one) is = (is, tt)

  captures : (vars : List Var) (list : List Name) → VarsWithin n vars
      → VarsWithin n (flat_map (λ (name : Name). stmts.captured (senses.local vars name.id)) list)
  captures vars [] are = tt
  captures vars (name ∷ list) are =
      all_append (VarWithin n) (stmts.captured (senses.local vars name.id)) _
      (captured (senses.local vars name.id) (local n vars name.id are)) (captures vars list are)

module _ (world : World) (tables : TablesWithin world) where
  param_vars : (params : List ClosureParam)
      → VarsWithin (size world) (map (stmts.param_var world) params)
  param_vars =
      all_map (VarWithin (size world)) (stmts.param_var world)
      (λ param. written_is world tables param.ty)

  result_wanted : (tree : Option TypeTree)
      → ReturnedWithin (size world) (stmts.result_wanted world tree)
  result_wanted None = tt
  result_wanted (Some tree) = written_is world tables tree

  -- what a closure begins with
  pub closure_state : (setting : Setting) (list : List Name) (params : List ClosureParam)
      (tree : Option TypeTree) → VarsWithin (size world) setting.vars
      → StateWithin (size world) (stmts.closure_state world setting list params tree)
  closure_state setting list params tree are = (
    all_append (VarWithin (size world)) setting.vars _ are
        (all_append (VarWithin (size world)) (map (stmts.param_var world) params) _
        (param_vars params) (captures (size world) setting.vars list are)),
    result_wanted tree,
  )

  -- a closure, by what its statements leave
  pub closed : (setting : Setting) (at : ℕ) (mark : Option Name) (list : List Name)
      (params : List ClosureParam) (left : Left) → VarsWithin (size world) setting.vars
      → LeftWithin (size world) left
      → ClosedWithin (size world) (stmts.closed world setting at mark list params left)
  closed setting at mark list params left vars are = (
    (
      all_map (Within (size world)) (λ (param : ClosureParam). type_of world.known.top param.ty)
          (λ param. written_is world tables param.ty) params,
      type_or (size world) (stmts.are_captured setting.vars list) (stmts.result_of left)
          (result_of (size world) left are),
    ),
    join (size world) (flat_map (λ (name : Name).
        stmts.capture_rows name (senses.local setting.vars name.id)) list) _
        (each (size world) (λ (name : Name).
        stmts.capture_rows name (senses.local setting.vars name.id))
        (λ name. capture (size world) name (senses.local setting.vars name.id)
        (local (size world) setting.vars name.id vars)) list)
        (join (size world) (stmts.vars_rows (map (stmts.param_var world) params)) _
        (vars_rows (size world) (map (stmts.param_var world) params) (param_vars params))
        (decided_keep (RowWithin (size world)) (λ _ _ _ _. (tt, tt)) _ (stmts.body_rows at left)
        (body (size world) at left are.1))),
  )
