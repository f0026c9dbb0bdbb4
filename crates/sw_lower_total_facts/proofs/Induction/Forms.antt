-- What is claimed of an expression, a block and a statement, by the notes and the code that its
-- form gives.
use Rattle.std.proofs.Common.{◌≡◌, ℕ, List, [], Option, sym, ◌∙◌, subst}
use Rattle.sw_tree.specs.Folds.{Steps}
use Rattle.sw_typing_rules.specs.Statements.{Left, State}
use Rattle.sw_typing_rules.specs.declared.scope.Inside.{Inside}
use Rattle.sw_typing_rules.specs.declared.scope.Var.{Var}
use Rattle.sw_isolation_rules.specs.Noting.{note_steps}
use Rattle.sw_isolation_rules.specs.declared.note.Note.{Note}
use Rattle.sw_isolation_rules.specs.declared.uses.Context.{Context}
use Rattle.sw_lower_plans.specs.Plan.{Numbers}
use Rattle.sw_lower_rules.specs.Carriers.{BlockCode, ExprCode, StmtCode}
use Rattle.sw_lower_rules.specs.Tables.{Tables}
use Rattle.sw_lower_total_facts.specs.Forms.{BlockProceeds, ExprProceeds, StmtProceeds}
use Rattle.sw_lower_total_facts.proofs.Induction.Claims.{Numbered}

-- No parameters of tasks are in the parts of a form.
pub tasks_in : (found form : List ℕ) → found ≡ form → found ≡ [] → form ≡ []
tasks_in found form is none = sym is ∙ none

-- what is noted of each form
abbrev pub seeing : Tables → Steps
seeing tables = note_steps tables.world tables.answers

module _ (tables : Tables) (number : Numbers) where
  pub expr_by : (owner : Option ℕ) (context : Context) (listed : List ℕ) (vars : List Var)
      (notes other : List Note) (code form : ExprCode) → notes ≡ other → code ≡ form
      → Numbered number code.inside
      → (Numbered number form.inside → ExprProceeds tables number context listed vars other form)
      → ExprProceeds tables number context listed vars notes code
  expr_by owner context listed vars notes other code form same is numbered proceeds =
      subst (λ these. ExprProceeds tables number context listed vars these code) (sym same)
      (subst (ExprProceeds tables number context listed vars other) (sym is)
      (proceeds (subst (λ (one : ExprCode). Numbered number one.inside) is numbered)))

  pub block_by : (context : Context) (listed : List ℕ) (inside : Inside) (state : State)
      (notes other : List Note) (code form : BlockCode) → notes ≡ other → code ≡ form
      → Numbered number code.inside
      → (Numbered number form.inside
      → BlockProceeds tables number context listed inside state other form)
      → BlockProceeds tables number context listed inside state notes code
  block_by context listed inside state notes other code form same is numbered proceeds =
      subst (λ these. BlockProceeds tables number context listed inside state these code) (sym same)
      (subst (BlockProceeds tables number context listed inside state other) (sym is)
      (proceeds (subst (λ (one : BlockCode). Numbered number one.inside) is numbered)))

  pub stmt_by : (context : Context) (listed : List ℕ) (inside : Inside) (state : State)
      (left : Left) (notes other : List Note) (code form : StmtCode) → notes ≡ other → code ≡ form
      → Numbered number code.inside
      → (Numbered number form.inside
      → StmtProceeds tables number context listed inside state other form left)
      → StmtProceeds tables number context listed inside state notes code left
  stmt_by context listed inside state left notes other code form same is numbered proceeds =
      subst (λ these. StmtProceeds tables number context listed inside state these code left)
      (sym same)
      (subst (λ these. StmtProceeds tables number context listed inside state other these left)
      (sym is)
      (proceeds (subst (λ (one : StmtCode). Numbered number one.inside) is numbered)))
