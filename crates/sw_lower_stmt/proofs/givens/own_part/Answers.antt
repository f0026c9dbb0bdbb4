use Rattle.std.proofs.Common.{◌≡◌, ℕ, Bool, true, false, Option, ◌∙◌, ap, refl, sym}
use Rattle.std.specs.Bool.{then_some}
use Rattle.sw_tree.proofs.FoldEquations as eq
use Rattle.sw_tree.specs.declared.expr.Expr.{Expr}
use Rattle.sw_tree.specs.declared.expr.Expr.TheVariants as exprs
use Rattle.sw_tree.specs.declared.name.Name.{Name}
use Rattle.sw_lower_rules.specs.Expressions.{own_part_of}
use Rattle.sw_lower_rules.specs.Statements.{code_steps, expr_code}
use Rattle.sw_lower_rules.specs.Tables.{Tables}
use Rattle.sw_lower_stmt.proofs.givens.own_part.Goals as goal

member_part : (tables : Tables) (owner : Option ℕ) (tree base part : Expr) (name : Name)
    (own : Bool) → tree ≡ exprs.Member base name → part ≡ base
    → own ≡ (expr_code tables owner part).is_self
    → (expr_code tables owner tree).own_part ≡ own_part_of own name.id
unfolding expr_code
member_part tables owner tree base part name own is p o =
    ap (λ t. (expr_code tables owner t).own_part) is
    ∙ (ap (λ e. e.own_part) (eq.fold_expr-Member (code_steps tables owner) base name)
    ∙ (ap (λ b. own_part_of (expr_code tables owner b).is_self name.id) (sym p)
    ∙ ap (λ b. own_part_of b name.id) (sym o)))

then_own : (own : Bool) (name : ℕ) → then_some own name ≡ own_part_of own name
then_own true name = refl
then_own false name = refl

pub returns-in-Member : goal.returns-in-Member
returns-in-Member c = λ tables owner. c.then_some.ensures
    ∙ (then_own c.is_self.result c.in-Member.name.id
    ∙ sym (member_part tables owner c.args.tree.now c.in-Member.base c.get.result.now
    c.in-Member.name c.is_self.result c.in-Member.is c.get.ensures
    (c.is_self.ensures tables owner)))
