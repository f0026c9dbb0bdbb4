-- What a closure begins with, and what is known of it at its end.
use Rattle.std.specs.Prelude.{◌++◌, ℕ, List, Option, flat_map, is_some, length, map, if◌then◌else◌}
use Rattle.std.specs.Prelude.{None}
use Rattle.sw_tree.specs.declared.expr.Closure.{Closure, out-Closure}
use Rattle.sw_tree.specs.declared.expr.ClosureParam.{ClosureParam}
use Rattle.sw_tree.specs.declared.name.Name.{Name}
use Rattle.sw_tree.specs.declared.type_tree.TypeTree.{TypeTree}
use Rattle.sw_decl_words.specs.TypeWords.{type_of}
use Rattle.sw_typing_rules.specs.Statements.{Left, are_captured, capture_rows, captured}
use Rattle.sw_typing_rules.specs.Statements.{closure_vars}
use Rattle.sw_typing_rules.specs.Statements.{param_var, result_of, result_wanted, vars_rows}
use Rattle.sw_typing_rules.specs.Words.{local}
use Rattle.sw_typing_rules.specs.Worlds.{World}
use Rattle.sw_typing_rules.specs.declared.row.Row.{Row}
use Rattle.sw_typing_rules.specs.declared.scope.Var.{Var}
use Rattle.sw_typing_steps.specs.declared.closures.Opened.{Opened}
use Rattle.sw_typing_steps.specs.declared.known.Enclosed.{Enclosed}
use Rattle.sw_typing_steps.specs.declared.table.Table.{Table}

-- what is noted of the words of a capture list
abbrev pub captures_rows : List Var → List Name → List Row
captures_rows vars words = flat_map (λ (word : Name). capture_rows word (local vars word.id)) words

-- the variables that the words of a capture list mean
abbrev pub captured_vars : List Var → List Name → List Var
captured_vars vars words = flat_map (λ (word : Name). captured (local vars word.id)) words

module _ (world : World) where
  -- what is noted of a capture list and of parameters
  abbrev pub opening_rows : List Var → List Name → List ClosureParam → List Row
  opening_rows vars captures params =
      captures_rows vars captures ++ vars_rows (map (param_var world) params)

  -- the table at the start of a closure's body
  abbrev pub opening_of : List Name → List ClosureParam → Option TypeTree → Table → Table
  opening_of captures params result table = record {
    vars = closure_vars world table.vars captures params;
    rows = table.rows ++ opening_rows table.vars captures params;
    returned = result_wanted world result;
  }

  abbrev pub opening : Closure → Table → Table
  opening closure table =
      opening_of (out-Closure closure).captures (out-Closure closure).params
      (out-Closure closure).result table

  abbrev pub opened_of : List Name → List ClosureParam → Table → Opened
  opened_of captures params table = record {
    depth = length table.vars;
    start = length (table.rows ++ opening_rows table.vars captures params);
    captured = are_captured table.vars captures;
    params = map (λ (param : ClosureParam). type_of world.known.top param.ty) params;
    outer = table.returned;
  }

  abbrev pub opened : Closure → Table → Opened
  opened closure table =
      opened_of (out-Closure closure).captures (out-Closure closure).params table

-- what is known of a closure by what its statements leave
abbrev pub closed_after : ℕ → Option Name → Opened → Left → Enclosed
closed_after at mark opened left = record {
  at = at;
  params = opened.params;
  marked = is_some mark;
  result = if opened.captured then result_of left else None;
}
