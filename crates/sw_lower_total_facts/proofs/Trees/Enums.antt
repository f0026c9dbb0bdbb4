-- A word that names an enum has no bodies in it, and its code and notes have no tasks.
use Rattle.std.proofs.Common.{◌≡◌, ℕ, Bool, false, [], ◌++◌, map, flat_map, Some, ap, ◌∙◌}
use Rattle.sw_tree.specs.Folds.{fold_link}
use Rattle.sw_tree.specs.declared.expr.Expr.{Expr}
use Rattle.sw_tree.proofs.FoldEquations as eq
use Rattle.sw_typing_rules.specs.Expressions.{Judged}
use Rattle.sw_typing_rules.specs.Judges as is
use Rattle.sw_typing_rules.specs.Words.{Setting}
use Rattle.sw_lower_rules.specs.Carriers.{ExprCode, LinkCode}
use Rattle.sw_lower_rules.specs.Statements.{code_steps, expr_code}
use Rattle.sw_lower_rules.specs.Tables.{Tables}
use Rattle.sw_typing_facts.proofs.Said.EnumNames.{links_enum, member_no_enum}

pub enum_alone : (tables : Tables) (setting : Setting) (expected : Bool) (expr : Expr)
    (judged : Judged) → is.Judges tables.world setting expected expr judged → (k : ℕ)
    → judged.enum ≡ Some k → (expr_code tables setting.owner expr).inside ≡ []
unfolding expr_code
enum_alone tables setting expected expr judged (is.int _ _ at value) k is = cc
enum_alone tables setting expected expr judged (is.bool _ _ at value) k is = cc
enum_alone tables setting expected expr judged (is.word _ _ name) k is =
    ap (λ (code : ExprCode). code.inside)
    (eq.fold_expr-Use (code_steps tables setting.owner) name)
enum_alone tables setting expected expr judged (is.me _ _ at) k is = cc
enum_alone tables setting expected expr judged (is.member _ _ base name one d) k is =
    absurd (member_no_enum tables.world one name k is)
enum_alone tables setting expected expr judged (is.call _ _ name args passed d) k is = cc
enum_alone tables setting expected expr judged (is.method _ _ base name args one passed d ds) k is =
    cc
enum_alone tables setting expected expr judged (is.chain _ _ first rest left _ of_first d) k is =
    let alone = links_enum tables.world setting left judged rest d k is in
    ap (λ (code : ExprCode). code.inside)
    (eq.fold_expr-Chain (code_steps tables setting.owner) first rest)
    ∙ ap (λ more. (expr_code tables setting.owner first).inside
    ++ flat_map (λ (link : LinkCode). link.inside)
    (map (fold_link (code_steps tables setting.owner)) more)) alone.0
    ∙ ap (λ bodies. bodies ++ [])
    (enum_alone tables setting false first left of_first k alone.1)
enum_alone tables setting expected expr judged (is.prefix _ _ op at inner one d) k is = cc
enum_alone tables setting expected expr judged (is.await _ _ at inner one d) k is = cc
enum_alone tables setting expected expr judged (is.fun _ _ closure closed d) k is = cc
enum_alone tables setting expected expr judged (is.spawn _ _ at detached body closed d) k is = cc
enum_alone tables setting expected expr judged (is.yield _ _ at) k is = cc
