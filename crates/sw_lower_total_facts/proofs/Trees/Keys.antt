-- What is noted of an expression and its code have one key.
use Rattle.std.proofs.Common.{◌≡◌, ℕ, Option, sym, ◌∙◌}
use Rattle.sw_tree.specs.declared.expr.Expr.{Expr}
use Rattle.sw_isolation_rules.proofs.NotedKeys.{noted_key}
use Rattle.sw_isolation_rules.specs.Noting.{see}
use Rattle.sw_lower_rules.proofs.CodedKeys.{coded_key}
use Rattle.sw_lower_rules.specs.Statements.{expr_code}
use Rattle.sw_lower_rules.specs.Tables.{Tables}

pub seen_key : (tables : Tables) (owner : Option ℕ) (expr : Expr)
    → (see tables.world tables.answers expr).key ≡ (expr_code tables owner expr).key
seen_key tables owner expr =
    noted_key tables.world tables.answers expr ∙ sym (coded_key tables owner expr)
