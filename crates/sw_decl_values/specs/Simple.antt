-- Simple values: literals, operators, members of simple values, calls of structs, classes, actors
-- and cases of enums by name with simple arguments, and in an initialiser its parameters.
use Rattle.std.specs.Prelude.{ℕ, Bool, true, false, ◌||◌, ◌&&◌, List, Option, None, is_some}
use Rattle.std.specs.Prelude.{if◌then◌else◌}
use Rattle.std.specs.List.{list_all}
use Rattle.sw_tree.specs.Folds.{Steps, fold_expr}
use Rattle.sw_tree.specs.NodeKey.{Nothing}
use Rattle.sw_tree.specs.declared.expr.Expr.{Expr}
use Rattle.sw_tree.specs.declared.expr.Expr.TheOpen as layer
use Rattle.sw_decl_words.specs.Evident.{Meanings, case_type, enum_of, made_type, seen}
use Rattle.sw_decl_words.specs.declared.words.Meaning.{Meaning}

-- whether an expression is simple, and the enum that it names before a `.`
pub record Worth : Type 0 where
  pub simple : Bool
  pub enum : Option ℕ

-- a value that names no enum
abbrev pub valued : Bool → Worth
valued simple = record { simple = simple; enum = None }

abbrev pub all_simple : List Bool → Bool
all_simple are = list_all (λ is. is) are

module _ (known : Meanings) (owner : Option ℕ) (params : ℕ → Option ℕ) where
  -- What a word means in a value inside a type: a parameter hides all else, which is a variable.
  abbrev pub read : ℕ → Option Meaning
  read word = if is_some (params word) then None else seen known owner word

  abbrev pub expr_layer : layer.Expr-F Worth Nothing Bool Nothing Bool Nothing Nothing Nothing
      → Worth
  expr_layer (layer.Int at value) = valued true
  expr_layer (layer.Bool at value) = valued true
  expr_layer (layer.Use name) =
      record { simple = is_some (params name.id); enum = enum_of (read name.id) }
  expr_layer (layer.Me at) = valued false
  expr_layer (layer.Member base name) =
      valued (base.simple || is_some (case_type known base.enum name.id))
  expr_layer (layer.Call name args) =
      valued (is_some (made_type (read name.id)) && all_simple args)
  expr_layer (layer.Method base name args) =
      valued (is_some (case_type known base.enum name.id) && all_simple args)
  expr_layer (layer.Chain first rest) = valued (first.simple && all_simple rest)
  expr_layer (layer.Prefix op at inner) = valued inner.simple
  expr_layer (layer.Await at inner) = valued false
  expr_layer (layer.Fun closure) = valued false
  expr_layer (layer.Spawn at detached body) = valued false
  expr_layer (layer.Yield at) = valued false

  abbrev pub worth_steps : Steps
  worth_steps = record {
    E = Worth;
    S = Nothing;
    A = Bool;
    C = Nothing;
    L = Bool;
    B = Nothing;
    K = Nothing;
    I = Nothing;
    expr = expr_layer;
    stmt = λ _. tt;
    arg = λ arg. arg.value.simple;
    closure = λ _. tt;
    link = λ link. link.operand.simple;
    block = λ _. tt;
    case_arm = λ _. tt;
    if_arm = λ _. tt;
  }

  abbrev pub worth : Expr → Worth
  worth = fold_expr worth_steps

  abbrev pub is_simple : Expr → Bool
  is_simple expr = (worth expr).simple
