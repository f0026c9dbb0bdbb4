-- What is known of a program whose trees are well typed: among it, that the code of each expression
-- is safe in a member of the type around.
use Rattle.std.proofs.Common.{◌≡◌, ℕ, Bool, Some, subst}
use Rattle.std.specs.Prelude.{All, slice_get}
use Rattle.sw_tree.specs.declared.expr.Expr.{Expr}
use Rattle.sw_types.specs.declared.shape.Shape.{Shape}
use Rattle.sw_typing_rules.specs.Expressions.{Judged}
use Rattle.sw_typing_rules.specs.Judges.{Judges}
use Rattle.sw_typing_rules.specs.Words.{Setting}
use Rattle.sw_lower_rules.specs.Statements.{expr_code}
use Rattle.sw_lower_formed_facts.specs.Forms.{ExprOk, VarsHold}
use Rattle.sw_typing_facts.specs.Rows.{RowsHold}
use Rattle.sw_lower_formed_facts.specs.Ground.{Ground}
use Rattle.sw_lower_formed_facts.specs.Trees.{IsHere}
use Rattle.sw_lower_formed_facts.proofs.Induction.{expr_ok}
use Rattle.sw_typing_facts.proofs.Programs.Enums.{OnlyEnums}
use Rattle.sw_typing_facts.proofs.Programs.WordKinds.{WordKinds}
use Rattle.sw_lower_formed_facts.proofs.Statements.Cases.{CasesDiffer}
use Rattle.sw_lower_total_facts.specs.Known.{TablesAgree}
use Rattle.sw_lower_placed_facts.specs.Claims.{AreInside}
use Rattle.sw_lower_placed_facts.specs.Settled.{IsSettled}
use Rattle.sw_lower_placed_facts.specs.Hosts.{Program, Host}

-- What is known of a program whose trees are well typed.
pub record Sound (program : Program) : Type 0 where
  pub ground : Ground program.tables program.numbers program.functions
  pub kinds : WordKinds program.tables.world
  pub enums : OnlyEnums program.tables.world.shapes
  pub differ : (k : ℕ) (shape : Shape)
      → slice_get program.tables.world.shapes k ≡ Some shape → CasesDiffer shape.cases
  pub known : TablesAgree program.tables program.numbers program.notes
  pub settled : IsSettled program

pub typed_ok : (program : Program) → Sound program → (setting : Setting) (expected : Bool)
    (expr : Expr) (judged : Judged)
    → Judges program.tables.world setting expected expr judged
    → (host : Host) → setting.owner ≡ host.owner → VarsHold program.tables.answers setting.vars
    → RowsHold program.tables.answers judged.rows
    → AreInside program (expr_code program.tables host.owner expr).inside
    → ExprOk program.tables program.numbers program.functions host.owner
    (expr_code program.tables host.owner expr) judged
typed_ok program sound setting expected expr judged judges host same vars rows inside =
    subst (λ owner. All (IsHere program.tables program.numbers program.functions)
    (expr_code program.tables owner expr).inside
    → ExprOk program.tables program.numbers program.functions owner
    (expr_code program.tables owner expr) judged) same
    (expr_ok program.tables program.numbers program.functions sound.ground sound.kinds sound.enums
    sound.differ setting expected expr judged judges vars rows) inside.here
