-- The breaches of names and written types in bodies.
use Rattle.std.specs.Prelude.{ℕ, List, [], ◌∷◌, ◌++◌, Option, Some, None, map, flat_map}
use Rattle.sw_tree.specs.Folds.{Steps, fold_expr}
use Rattle.sw_tree.specs.Folds.{fold_block}
use Rattle.sw_tree.specs.declared.expr.ClosureParam.{ClosureParam}
use Rattle.sw_tree.specs.declared.expr.Expr.{Expr}
use Rattle.sw_tree.specs.declared.expr.Expr.TheOpen as layer
use Rattle.sw_tree.specs.declared.name.Name.{Name}
use Rattle.sw_tree.specs.declared.stmt.Block.{Block}
use Rattle.sw_tree.specs.declared.stmt.Pattern.{Pattern}
use Rattle.sw_tree.specs.declared.stmt.Pattern.TheVariants.{Skip, Let}
use Rattle.sw_tree.specs.declared.type_tree.TypeTree.{TypeTree}
use Rattle.sw_decl_names.specs.Repeats.{repeats}
use Rattle.sw_decl_words.specs.TypeWords.{bad_words}
use Rattle.sw_decl_words.specs.declared.placed.Placed.{Placed}
use Rattle.sw_decl_words.specs.declared.words.Meaning.{Meaning}
use Rattle.sw_decl_words.specs.declared.words.Meaning.TheVariants.{Shape, GlobalActor, Func, Global}
use Rattle.sw_decl_words.specs.declared.words.Meaning.TheVariants.{Entry}

-- the names that a statement or the statements of a block declare, and the breaches inside
pub record DeclaredInside : Type 0 where
  pub names : List Name
  pub found : List Placed

-- a closure: the word of its attribute, `Sendable` or a global actor, if one is written, and the
-- breaches inside
pub record MarkedClosure : Type 0 where
  pub mark : Option Name
  pub found : List Placed

abbrev pub pattern_names : Pattern → List Name
pattern_names (Skip at) = []
pattern_names (Let name) = name ∷ []

-- the breaches of a scope that has these names and those of the statements
abbrev pub scope_found : List Name → DeclaredInside → List Placed
scope_found names inside = inside.found ++ repeats (names ++ inside.names)

abbrev pub otherwise_found : Option DeclaredInside → List Placed
otherwise_found None = []
otherwise_found (Some inside) = scope_found [] inside

abbrev pub all_found : List (List Placed) → List Placed
all_found lists = flat_map (λ more. more) lists

-- what the word of an attribute may mean: a global actor
abbrev pub bad_actor : Option Meaning → ℕ → List Placed
bad_actor None at = record { at = at; code = 302 } ∷ []
bad_actor (Some (Shape kind number)) at = record { at = at; code = 302 } ∷ []
bad_actor (Some (GlobalActor number)) at = []
bad_actor (Some (Func key)) at = record { at = at; code = 302 } ∷ []
bad_actor (Some (Global number)) at = record { at = at; code = 302 } ∷ []
bad_actor (Some Entry) at = record { at = at; code = 302 } ∷ []

module _ (known : ℕ → Option Meaning) where
  -- an attribute that names no global actor
  abbrev pub bad_attribute : Name → List Placed
  bad_attribute name = bad_actor (known name.id) name.at

  abbrev pub bad_mark : Option Name → List Placed
  bad_mark None = []
  bad_mark (Some name) = bad_attribute name

  abbrev pub bad_type : Option TypeTree → List Placed
  bad_type None = []
  bad_type (Some tree) = bad_words known tree

  -- the breaches of a closure's parameters
  unfoldable pub params_found : List ClosureParam → List Placed
  params_found params = flat_map (λ (param : ClosureParam). bad_words known param.ty) params
      ++ repeats (map (λ (param : ClosureParam). param.name) params)

  abbrev pub expr_layer : layer.Expr-F (List Placed) DeclaredInside (List Placed) MarkedClosure
      (List Placed) DeclaredInside (List Placed) (List Placed) → List Placed
  expr_layer (layer.Int at value) = []
  expr_layer (layer.Bool at value) = []
  expr_layer (layer.Use name) = []
  expr_layer (layer.Me at) = []
  expr_layer (layer.Member base name) = base
  expr_layer (layer.Call name args) = all_found args
  expr_layer (layer.Method base name args) = base ++ all_found args
  expr_layer (layer.Chain first rest) = first ++ all_found rest
  expr_layer (layer.Prefix op at inner) = inner
  expr_layer (layer.Await at inner) = inner
  expr_layer (layer.Fun closure) = closure.found
  expr_layer (layer.Spawn at detached body) = bad_mark body.mark ++ body.found
  expr_layer (layer.Yield at) = []

  abbrev pub stmt_layer : layer.Stmt-F (List Placed) DeclaredInside (List Placed) MarkedClosure
      (List Placed) DeclaredInside (List Placed) (List Placed) → DeclaredInside
  stmt_layer (layer.Bind mutable name ty value) =
      record { names = name ∷ []; found = bad_type ty ++ value }
  stmt_layer (layer.Assign at op place value) = record { names = []; found = place ++ value }
  stmt_layer (layer.Discard at value) = record { names = []; found = value }
  stmt_layer (layer.If arms otherwise) =
      record { names = []; found = all_found arms ++ otherwise_found otherwise }
  stmt_layer (layer.While at cond body) =
      record { names = []; found = cond ++ scope_found [] body }
  stmt_layer (layer.Switch at subject arms otherwise) =
      record { names = []; found = subject ++ all_found arms ++ otherwise_found otherwise }
  stmt_layer (layer.Return at None) = record { names = []; found = [] }
  stmt_layer (layer.Return at (Some value)) = record { names = []; found = value }
  stmt_layer (layer.Break at) = record { names = []; found = [] }
  stmt_layer (layer.Continue at) = record { names = []; found = [] }
  stmt_layer (layer.Plain value) = record { names = []; found = value }

  abbrev pub closure_layer : layer.Closure-F (List Placed) DeclaredInside
      (List Placed) MarkedClosure (List Placed)
      DeclaredInside (List Placed) (List Placed) → MarkedClosure
  closure_layer closure = record {
    mark = closure.mark;
    found = params_found closure.params
        ++ (bad_type closure.result ++ scope_found [] closure.body);
  }

  -- A block's variables are one scope; a pattern's are in the scope of its arm. A closure's
  -- parameters are a scope of their own, and its capture list declares nothing.
  abbrev pub body_steps : Steps
  body_steps = record {
    E = List Placed;
    S = DeclaredInside;
    A = List Placed;
    C = MarkedClosure;
    L = List Placed;
    B = DeclaredInside;
    K = List Placed;
    I = List Placed;
    expr = expr_layer;
    stmt = stmt_layer;
    arg = λ arg. arg.value;
    closure = closure_layer;
    link = λ link. link.operand;
    block = λ block. record {
      names = flat_map (λ (one : DeclaredInside). one.names) block.stmts;
      found = flat_map (λ (one : DeclaredInside). one.found) block.stmts;
    };
    case_arm = λ arm. scope_found (flat_map pattern_names arm.patterns) arm.body;
    if_arm = λ arm. arm.cond ++ scope_found [] arm.body;
  }

  -- the breaches of names and types inside an expression
  abbrev pub in_expr : Expr → List Placed
  in_expr = fold_expr body_steps

  -- the breaches of names and types in a body
  abbrev pub in_body : Block → List Placed
  in_body body = scope_found [] (fold_block body_steps body)
