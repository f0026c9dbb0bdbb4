-- An expression that is no place has what its code gives.
use Rattle.std.proofs.Common.{◌≡◌, ℕ, List, Option, Some, None}
use Rattle.std.proofs.lemmas.Option.{none-some}
use Rattle.sw_types.specs.declared.ty.Ty.{Ty}
use Rattle.sw_graph.specs.declared.function.Function.{Function}
use Rattle.sw_graph.specs.declared.instr.Operand.{Operand}
use Rattle.sw_typing_rules.specs.Expressions.{Judged}
use Rattle.sw_lower_plans.specs.Plan.{Numbers}
use Rattle.sw_lower_code.specs.Code.{Code}
use Rattle.sw_lower_code.specs.Whole.{Body}
use Rattle.sw_lower_rules.specs.Expressions.{value}
use Rattle.sw_lower_rules.specs.Tables.{Tables}
use Rattle.sw_lower_formed_facts.specs.Forms.{BodiesFit, ExprOk, Wherever}
use Rattle.sw_lower_formed_facts.specs.Safe.{Keeps, Position, SafeAt, ValueAfter}
use Rattle.sw_lower_formed_facts.specs.Whole.{Whole}
use Rattle.sw_lower_formed_facts.proofs.Positions.Steps.{safe_known}

module _ (tables : Tables) (number : Numbers) (functions : List Function) where
  -- what is known after the code of an expression and its bodies
  abbrev pub After : Whole → Position → Ty → List Body → Operand → Position → Type 0
  After w p ty inside x q = ValueAfter w p ty x q × BodiesFit tables number functions inside

  -- Code gives a value of a type, and the bodies fit.
  abbrev pub CodeGives : Option ℕ → Code Operand → Ty → List Body → Type 0
  CodeGives owner read ty inside = Wherever tables number functions owner
      (λ w p. SafeAt w p read (After w p ty inside))

  -- an expression that is no place
  pub value_ok : (owner : Option ℕ) (at : ℕ) (read : Code Operand) (inside : List Body)
      (judged : Judged) (ty : Ty) → judged.ty ≡ Some ty → tables.answers.type_at at ≡ Some ty
      → CodeGives owner read ty inside
      → ExprOk tables number functions owner (value at read inside) judged
  value_ok owner at read inside judged ty has typed safe = record {
    ty = ty;
    has = has;
    typed = typed;
    read = safe;
    write = λ settable w of p knows from x given accepted.
        safe_known w p tt None
        (λ _ q. Keeps w p q × BodiesFit tables number functions inside)
        (λ some is. absurd (none-some some is));
  }
