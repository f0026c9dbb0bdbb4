-- Variables that are declared together.
use Rattle.std.specs.Prelude.{List, ◌++◌}
use Rattle.sw_typing_rules.specs.Statements.{vars_rows}
use Rattle.sw_typing_rules.specs.declared.scope.Var.{Var}
use Rattle.sw_typing_steps.specs.declared.table.Table.{Table}

-- the table with more variables, which are noted
abbrev pub with_variables : Table → List Var → Table
with_variables table vars = record table {
  vars = table.vars ++ vars;
  rows = table.rows ++ vars_rows vars;
}
