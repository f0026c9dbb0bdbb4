-- A member.
use Rattle.std.proofs.Common.{Bool, false, List}
use Rattle.sw_tree.specs.declared.expr.Expr.{Expr}
use Rattle.sw_tree.specs.declared.name.Name.{Name}
use Rattle.sw_tree.proofs.FoldEquations as eq
use Rattle.sw_tree_facts.specs.Unwritten.{expr_unwritten, unwritten_steps}
use Rattle.sw_typing_rules.specs.Expressions.{Judged}
use Rattle.sw_typing_rules.specs.Judges as is
use Rattle.sw_typing_rules.specs.Words.{Setting}
use Rattle.sw_isolation_rules.specs.Noting.{see}
use Rattle.sw_isolation_rules.specs.declared.note.Note.{Note}
use Rattle.sw_lower_plans.specs.Plan.{Numbers}
use Rattle.sw_lower_rules.specs.Statements.{code_steps, expr_code}
use Rattle.sw_lower_rules.specs.Tables.{Tables}
use Rattle.sw_typing_facts.specs.EnumWords.{in_expr}
use Rattle.sw_lower_total_facts.specs.Known.{TablesAgree}
use Rattle.sw_lower_total_facts.proofs.Expressions.Members.{member_proceeds}
use Rattle.sw_lower_total_facts.proofs.Expressions.Senses.{ShapesStand}
use Rattle.sw_lower_total_facts.proofs.Induction.Bases.{member_rows, value_unmeant}
use Rattle.sw_lower_total_facts.proofs.Induction.Claims.{ExprClaim}
use Rattle.sw_lower_total_facts.proofs.Induction.Forms.{expr_by, tasks_in}
use Rattle.sw_lower_total_facts.proofs.Standing.NoteForms as noted
use Rattle.sw_lower_total_facts.proofs.Standing.Own.{member_kinds}
use Rattle.sw_lower_total_facts.proofs.Standing.Trees as standing
use Rattle.sw_lower_total_facts.proofs.Trees.Enums.{enum_alone}
use Rattle.sw_lower_total_facts.proofs.Trees.Keys.{seen_key}
use Rattle.sw_lower_formed_facts.proofs.Expressions.Typed.{has_type}
use Rattle.sw_lower_total_facts.proofs.Trees.Types.{node_typed}

module _ (tables : Tables) (number : Numbers) (all : List Note)
    (known : TablesAgree tables number all)
    (stand : ShapesStand tables.world) where
  pub member_case : (setting : Setting) (expected : Bool) (base : Expr) (name : Name)
      (one : Judged) (of_base : is.Judges tables.world setting false base one)
      → ExprClaim tables number all of_base
      → ExprClaim tables number all (is.member setting expected base name one of_base)
  unfolding expr_code expr_unwritten in_expr
  member_case setting expected base name one of_base base_proceeds unmeant none vars rows numbered
      context listed same stands =
      expr_by tables number setting.owner context listed setting.vars _ _ _ _
      (noted.notes-Member tables.world tables.answers context listed base name)
      (eq.fold_expr-Member (code_steps tables setting.owner) base name) numbered
      (λ form. member_proceeds tables number all known stand context listed setting.vars
      setting.owner (see tables.world tables.answers base) one
      (expr_code tables setting.owner base) name
      (record {
        proceeds = λ no. base_proceeds
            (value_unmeant tables one (in_expr tables.world setting false base one of_base) unmeant
            no) (tasks_in _ _ (eq.fold_expr-Member unwritten_steps base name) none) vars
            (member_rows tables one name no rows) form context listed same
            (standing.member_base_stands tables all context listed setting.vars base name stands);
        typed = λ no ty has. node_typed tables setting false base one of_base
            (member_rows tables one name no rows) ty has;
        alone = enum_alone tables setting false base one of_base;
      })
      (seen_key tables setting.owner base)
      (has_type tables setting expected _ _ (is.member _ _ base name one of_base) vars rows) rows
      (member_kinds tables.world tables.answers context listed all _ _ base name stands))
