-- The codes of all breaches of a program are those of declarations.
use Rattle.std.proofs.Common.{ℕ, Bool, true, false, ◌&&◌, ◌+◌, List, [], ◌∷◌, ◌++◌, flat_map}
use Rattle.std.proofs.Common.{cond, Option, None, Some, get_or, nat_lt, arith}
use Rattle.std.proofs.lemmas.List.Elements.{All-contains, All-from_recursion}
use Rattle.sw_tree.specs.NodeKey.{expr_key, stmt_key}
use Rattle.sw_tree.specs.declared.decl.Decl.{Decl}
use Rattle.sw_tree.specs.declared.decl.Decl.TheVariants.{Entry, Struct, Enum, Class, Actor}
use Rattle.sw_tree.specs.declared.decl.Decl.TheVariants.{GlobalActor, Func, Global}
use Rattle.sw_tree.specs.declared.decl.InitTree.{InitTree}
use Rattle.sw_tree.specs.declared.decl.ParamTree.{ParamTree}
use Rattle.sw_tree.specs.declared.decl.PropTree.{PropTree}
use Rattle.sw_tree.specs.declared.expr.Expr.{Expr}
use Rattle.sw_tree.specs.declared.expr.Expr.TheOpen as layer
use Rattle.sw_tree.specs.declared.stmt.Stmt.{Stmt, out-Stmt}
use Rattle.sw_tree.specs.declared.type_tree.TypeTree.{TypeTree}
use Rattle.sw_types.specs.declared.shape.Shape.{Shape}
use Rattle.sw_decl_words.specs.Evident.{Meanings, meanings_of}
use Rattle.sw_decl_words.specs.Words.{shapes_made, top_meaning}
use Rattle.sw_decl_words.specs.declared.placed.Placed.{Placed}
use Rattle.sw_decl_names.specs.Repeats.{first_place}
use Rattle.sw_decl_members.specs.Members.{in_program}
use Rattle.sw_decl_values.specs.Counts.{times_in}
use Rattle.sw_decl_values.specs.Profile.{first_value, in_first_init, in_object, in_stmt, in_stmts}
use Rattle.sw_decl_values.specs.Profile.{is_filled, is_typed, outside, param_names, unless_simple}
use Rattle.sw_decl_values.specs.Profile.{value_found, value_layer, values_from, values_of, wanted_names}
use Rattle.sw_decl_values.specs.Simple.{is_simple}
use Rattle.sw_decl_values.specs.Values.{StmtLayer, has_value, lacking, set_by, set_first, set_in}
use Rattle.sw_decl_values.specs.Values.{without_value}
use Rattle.sw_decl_values.specs.declared.counts.Times.{Times}
use Rattle.sw_decls.specs.Declaring.{IsFirstBreach, breaches_of, breaches_of_decls}
use Rattle.sw_decls.specs.Declaring.{breaches_of_shapes, made_shapes}
use Rattle.sw_decls.specs.Holders.{holder, holders, holders_from}
use Rattle.sw_decls.specs.Hollow.{hollowed}
use Rattle.sw_decls.specs.Wide.{declared_parts, too_wide, wide, wide_from}
use Rattle.sw_decls.proofs.Coded.{AreCoded, IsDeclCode, coded_each, coded_if, coded_join, coded_one}
use Rattle.sw_decls.proofs.Coded.{coded_unless}
use Rattle.sw_decls.proofs.DeclCodes.{coded_program}

coded_outside : (at : ℕ) → AreCoded (outside at)
coded_outside at = coded_one at 306 (omega arith) (omega arith)

coded_lacking : (places : ℕ → Option ℕ) (prop : PropTree) → AreCoded (lacking places prop)
coded_lacking places prop =
    coded_unless (has_value places prop) (record { at = prop.word.at; code = 305 } ∷ [])
    (coded_one prop.word.at 305 (omega arith) (omega arith))

module _ (known : Meanings) where
  coded_simple : (owner : Option ℕ) (params : ℕ → Option ℕ) (value : Expr)
      → AreCoded (unless_simple known owner params value)
  coded_simple owner params value =
      coded_unless (is_simple known owner params value) (outside (expr_key value))
      (coded_outside (expr_key value))

  coded_value : (owner : Option ℕ) (params : ℕ → Option ℕ) (ty : Option TypeTree)
      (value : Option Expr) → AreCoded (value_found known owner params ty value)
  coded_value owner params ty None = tt
  coded_value owner params ty (Some value) =
      coded_unless (is_simple known owner params value && is_typed known owner ty value)
      (outside (expr_key value)) (coded_outside (expr_key value))

  coded_first : (owner : Option ℕ) (prop : PropTree) → AreCoded (first_value known owner prop)
  coded_first owner prop = coded_value owner (first_place []) prop.ty prop.value

  coded_set : (shape : ℕ) (params : ℕ → Option ℕ) (node : StmtLayer)
      → AreCoded (value_layer known shape params node)
  coded_set shape params (layer.Assign at operator place value) =
      coded_simple (Some shape) params value
  coded_set shape params _ = tt

  coded_stmt : (shape : ℕ) (params wanted : ℕ → Option ℕ) (given : ℕ → Option Times)
      (stmt : Stmt) (is : Bool) → AreCoded (cond is (value_layer known shape params (out-Stmt stmt))
      (outside (stmt_key stmt)))
  coded_stmt shape params wanted given stmt true = coded_set shape params (out-Stmt stmt)
  coded_stmt shape params wanted given stmt false = coded_outside (stmt_key stmt)

  coded_stmts : (shape : ℕ) (props : List PropTree) (params : List ParamTree) (stmts : List Stmt)
      → AreCoded (in_stmts known shape props params stmts)
  coded_stmts shape props params stmts =
      let names = first_place (param_names params) in
      let wanted = first_place (wanted_names known shape props) in
      let given = times_in (set_in stmts) in
      coded_each (in_stmt known shape names wanted given)
      (λ stmt. coded_stmt shape names wanted given stmt (is_filled wanted given (set_by stmt)))
      stmts

  coded_init : (shape : ℕ) (props : List PropTree) (inits : List InitTree)
      → AreCoded (in_first_init known shape props inits)
  coded_init shape props [] = tt
  coded_init shape props (init ∷ more) = coded_stmts shape props init.params init.body.stmts

  coded_object : (shape : ℕ) (props : List PropTree) (inits : List InitTree)
      → AreCoded (in_object known shape props inits)
  unfolding in_object
  coded_object shape props inits =
      coded_join (without_value props inits)
      (flat_map (first_value known (Some shape)) props ++ in_first_init known shape props inits)
      (coded_each (lacking (first_place (set_first inits)))
      (coded_lacking (first_place (set_first inits))) props)
      (coded_join (flat_map (first_value known (Some shape)) props)
      (in_first_init known shape props inits)
      (coded_each (first_value known (Some shape)) (coded_first (Some shape)) props)
      (coded_init shape props inits))

  coded_values_of : (shape : ℕ) (decl : Decl) → AreCoded (values_of known shape decl)
  unfolding values_of
  coded_values_of shape (Entry word written at is_async body) = tt
  coded_values_of shape (Struct word conforms fields funcs) = tt
  coded_values_of shape (Enum word conforms cases funcs) = tt
  coded_values_of shape (Class written word conforms props inits funcs) =
      coded_object shape props inits
  coded_values_of shape (Actor word props inits funcs) = coded_object shape props inits
  coded_values_of shape (GlobalActor word made) = tt
  coded_values_of shape (Func func) = tt
  coded_values_of shape (Global global) = coded_first None global

  coded_values : (shape : ℕ) (decls : List Decl) → AreCoded (values_from known shape decls)
  coded_values shape [] = tt
  coded_values shape (decl ∷ decls) =
      coded_join (values_of known shape decl) (values_from known (shape + shapes_made decl) decls)
      (coded_values_of shape decl) (coded_values (shape + shapes_made decl) decls)

coded_holders : (marks : List Bool) (number : ℕ) (shapes : List Shape)
    → AreCoded (holders_from marks number shapes)
coded_holders marks number [] = tt
coded_holders marks number (shape ∷ shapes) =
    coded_join (holder (get_or marks number false) shape) (holders_from marks (number + 1) shapes)
    (coded_if (get_or marks number false) (record { at = shape.at; code = 303 } ∷ [])
    (coded_one shape.at 303 (omega arith) (omega arith)))
    (coded_holders marks (number + 1) shapes)

coded_wide : (all : List Shape) (number : ℕ) (shapes : List Shape)
    → AreCoded (wide_from all number shapes)
coded_wide all number [] = tt
coded_wide all number (shape ∷ shapes) =
    coded_join (too_wide all number shape) (wide_from all (number + 1) shapes)
    (coded_if (nat_lt 64 (declared_parts all number shape))
    (record { at = shape.at; code = 307 } ∷ [])
    (coded_one shape.at 307 (omega arith) (omega arith)))
    (coded_wide all (number + 1) shapes)

coded_breaches : (decls : List Decl) (marks : List Bool) → AreCoded (breaches_of decls marks)
coded_breaches decls marks =
    let shapes = made_shapes decls in
    coded_join (breaches_of_decls decls) (breaches_of_shapes shapes marks)
    (coded_join (in_program (top_meaning decls) decls) (values_from (meanings_of decls) 0 decls)
    (coded_program (top_meaning decls) decls) (coded_values (meanings_of decls) 0 decls))
    (coded_join (holders shapes marks) (wide (hollowed marks shapes))
    (coded_holders marks 0 shapes) (coded_wide (hollowed marks shapes) 0 (hollowed marks shapes)))

pub first_is_coded : (decls : List Decl) (placed : Placed) → IsFirstBreach decls (Some placed)
    → IsDeclCode placed.code
first_is_coded decls placed (marks, (are, (has, all))) =
    All-contains (λ (one : Placed). IsDeclCode one.code) (breaches_of decls marks) placed
    (All-from_recursion (λ (one : Placed). IsDeclCode one.code) (breaches_of decls marks)
    (coded_breaches decls marks))
    has
