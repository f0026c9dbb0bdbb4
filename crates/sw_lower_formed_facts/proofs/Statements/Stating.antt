-- A statement by its code.
use Rattle.std.proofs.Common.{ℕ, Bool, List, Option, refl}
use Rattle.std.proofs.lemmas.Option.{none-some}
use Rattle.sw_graph.specs.declared.function.Function.{Function}
use Rattle.sw_typing_rules.specs.Statements.{Left, State}
use Rattle.sw_lower_plans.specs.Plan.{Numbers}
use Rattle.sw_lower_code.specs.Code.{Code}
use Rattle.sw_lower_code.specs.Whole.{Body}
use Rattle.sw_lower_rules.specs.Statements.{statement}
use Rattle.sw_lower_rules.specs.Tables.{Tables}
use Rattle.sw_lower_rules.specs.declared.targets.Targets.{Targets}
use Rattle.sw_lower_formed_facts.specs.Forms.{BodiesFit, CodeOk, ReturnsBack, StmtOk}
use Rattle.sw_lower_formed_facts.specs.Ground.{Knows}
use Rattle.sw_lower_formed_facts.specs.Safe.{Follows, Keeps, Position, seeing}
use Rattle.sw_lower_formed_facts.specs.Whole.{Whole}
use Rattle.sw_lower_formed_facts.proofs.Positions.Following.{knows_still}
use Rattle.sw_lower_formed_facts.proofs.Positions.Then.{safe_weaker}

-- with the variables of the earlier position
pub keeps_seeing : (w : Whole) (p q : Position) → Follows w p q
    → Keeps w p (seeing p.making.vars q)
keeps_seeing w p q follows = record {
  follows = record {
    kept = follows.kept;
    under = follows.under;
    regs = follows.regs;
    numbers = follows.numbers;
  };
  vars = refl;
}

module _ (tables : Tables) (number : Numbers) (functions : List Function) (owner : Option ℕ) where
  -- after a statement
  abbrev pub Stated : List Body → Whole → Position → Position → Type 0
  Stated inside w p q = Follows w p q
      × (Knows tables owner number w q × BodiesFit tables number functions inside)

  -- after code that declares no variable
  abbrev pub Kept : List Body → Whole → Position → Position → Type 0
  Kept inside w p q = Keeps w p q × BodiesFit tables number functions inside

  -- a statement that is no expression
  pub stmt_of : (only : Bool) (state : State) (code : Targets → Code (Unit {0}))
      (inside : List Body) (left : Left)
      → CodeOk tables number functions owner left.state.returned code (Stated inside)
      → ReturnsBack tables number functions state.returned left.state.returned
      → StmtOk tables number functions owner only state (statement code inside) left
  stmt_of only state code inside left ok back = record {
    code_ok = ok;
    only_ok = λ is read some. absurd (none-some read some);
    back = back;
  }

  -- the same variables are known
  pub stated : (w : Whole) (p q : Position) (inside : List Body)
      → Knows tables owner number w p → Kept inside w p q → Stated inside w p q
  stated w p q inside knows kept =
      (kept.0.follows, (knows_still tables owner number w p q kept.0 knows, kept.1))

  -- one that declares no variable
  pub stmt_keeps : (only : Bool) (state : State) (code : Targets → Code (Unit {0}))
      (inside : List Body) (left : Left)
      → CodeOk tables number functions owner left.state.returned code (Kept inside)
      → ReturnsBack tables number functions state.returned left.state.returned
      → StmtOk tables number functions owner only state (statement code inside) left
  stmt_keeps only state code inside left ok back =
      stmt_of only state code inside left
      (λ w of p knows targets targets_ok returns.
      safe_weaker w p (code targets) (λ _ q. Kept inside w p q) (λ _ q. Stated inside w p q)
      (ok w of p knows targets targets_ok returns)
      (λ _ q in_q kept. stated w p q inside knows kept)) back
