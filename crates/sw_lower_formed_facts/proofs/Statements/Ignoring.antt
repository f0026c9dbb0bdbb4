-- Expressions as statements are safe. The one expression of a body gives its result.
use Rattle.std.proofs.Common.{◌≡◌, ℕ, List, [], sym, ◌∙◌, subst, refl, Bool, true, false}
use Rattle.std.proofs.Common.{true≢false, Option, Some}
use Rattle.std.proofs.lemmas.Option.{same_Some}
use Rattle.std.specs.Prelude.{if◌then◌else◌}
use Rattle.sw_types.specs.Accepts.{IsAcceptedAs}
use Rattle.sw_types.specs.declared.ty.Ty.{Ty}
use Rattle.sw_graph.specs.declared.function.Function.{Function}
use Rattle.sw_typing_rules.specs.Expressions.{Judged}
use Rattle.sw_typing_rules.specs.Statements.{State, accepted_left, discard_left, plain_left}
use Rattle.sw_typing_rules.specs.Statements.{result_left}
use Rattle.sw_typing_rules.specs.Verdicts.{is_unit}
use Rattle.sw_typing_rules.specs.declared.scope.Returned.{Returned}
use Rattle.sw_typing_rules.specs.declared.scope.Returned.TheVariants.{Gives, Open, Wants}
use Rattle.sw_lower_plans.specs.Plan.{Numbers}
use Rattle.sw_lower_code.specs.Code.{done}
use Rattle.sw_lower_rules.specs.Carriers.{ExprCode, StmtCode}
use Rattle.sw_lower_rules.specs.Statements.{ignored, statement}
use Rattle.sw_lower_rules.specs.Tables.{Tables}
use Rattle.sw_lower_formed_facts.specs.Forms.{BodiesFit, ExprOk, GivesTo, IsBegun, OnlyOk, ReturnsBack}
use Rattle.sw_lower_formed_facts.specs.Forms.{ReturnsOk, StmtOk}
use Rattle.sw_typing_facts.specs.Rows.{RowsHold}
use Rattle.sw_lower_formed_facts.specs.Ground.{IsOfGraph, Knows}
use Rattle.sw_lower_formed_facts.specs.Safe.{Keeps, Position, SafeAt, ValueAfter}
use Rattle.sw_lower_formed_facts.specs.Whole.{Whole}
use Rattle.sw_lower_formed_facts.proofs.Positions.Steps.{safe_done}
use Rattle.sw_lower_formed_facts.proofs.Positions.Then.{safe_then, safe_weaker}
use Rattle.sw_lower_formed_facts.proofs.Statements.Leaving.{gives_typed, wants_typed}
use Rattle.sw_lower_formed_facts.proofs.Statements.Stating.{Kept, Stated, stated, stmt_keeps}

module _ (tables : Tables) (number : Numbers) (functions : List Function) (owner : Option ℕ) where
  ignored_in : (value : ExprCode) (judged : Judged)
      → ExprOk tables number functions owner value judged → (w : Whole)
      → IsOfGraph tables functions w
      → (p : Position) → Knows tables owner number w p
      → SafeAt w p (ignored tables value.read)
      (λ _ q. Kept tables number functions owner value.inside w p q)
  ignored_in value judged ok w of p knows =
      safe_then w p value.read (λ given. done tt)
      (λ x q. ValueAfter w p ok.ty x q × BodiesFit tables number functions value.inside)
      (λ _ q. Kept tables number functions owner value.inside w p q) (ok.read w of p knows)
      (λ x q in_q got.
      safe_done w q tt (λ _ s. Kept tables number functions owner value.inside w p s)
      (got.0.1, got.1))

  -- an expression whose value isn't used
  pub discard_ok : (only : Bool) (state : State) (value : ExprCode) (judged : Judged)
      → ExprOk tables number functions owner value judged
      → StmtOk tables number functions owner only state
      (statement (λ targets. ignored tables value.read) value.inside) (discard_left state judged)
  discard_ok only state value judged ok =
      stmt_keeps tables number functions owner only state (λ targets. ignored tables value.read)
      value.inside (discard_left state judged)
      (λ w of p knows targets targets_ok returns. ignored_in value judged ok w of p knows)
      (λ result returns. returns)

  unit_back : (b : Bool) (state : State) (value : Judged) (ty : Ty)
      → (if b then discard_left state value else accepted_left state value.key value ty).state
      ≡ state
  unit_back true state value ty = refl
  unit_back false state value ty = refl

  result_back : (found : Returned) (state : State) (value : Judged) → state.returned ≡ found
      → ReturnsBack tables number functions state.returned
      (result_left found state value).state.returned
  result_back (Wants ty) state value is result returns =
      subst (λ (one : State). ReturnsOk one.returned result)
      (unit_back (is_unit ty) state value ty) returns
  result_back (Open places) state value is result returns =
      subst (λ one. ReturnsOk one result) (sym is) tt
  result_back (Gives ty) state value is result returns = returns

  plain_back : (only : Bool) (state : State) (value : Judged)
      → ReturnsBack tables number functions state.returned
      (plain_left only state value).state.returned
  plain_back false state value result returns = returns
  plain_back true state value result returns =
      result_back state.returned state value refl result returns

  result_typed : (found : Returned) (state : State) (value : Judged) (ty result : Ty)
      → state.returned ≡ found → value.ty ≡ Some ty → IsBegun found
      → RowsHold tables.answers (result_left found state value).rows
      → ReturnsOk (result_left found state value).state.returned result
      → is_unit result ≡ false → IsAcceptedAs ty result
  result_typed (Wants wanted) state value ty result is has begun hold returns valued =
      by (is_unit wanted) refl hold where
        same : ReturnsOk state.returned result
        same = subst (λ (one : State). ReturnsOk one.returned result)
            (unit_back (is_unit wanted) state value wanted) returns

        wanted_is : wanted ≡ result
        wanted_is = subst (λ one. ReturnsOk one result) is same

        by : (b : Bool) → is_unit wanted ≡ b
            → RowsHold tables.answers (if b then discard_left state value
            else accepted_left state value.key value wanted).rows → IsAcceptedAs ty result
        by true unit held =
            absurd (true≢false (sym unit
            ∙ subst (λ t. is_unit t ≡ false) (sym wanted_is) valued))
        by false unit held =
            wants_typed tables number functions owner value value.key ty wanted result
            state.returned has is same held
  result_typed (Open places) state value ty result is has begun hold returns valued =
      gives_typed tables number functions owner value.ty ty result has returns
  result_typed (Gives other) state value ty result is has begun hold returns valued = absurd begun

  only_gives : (only : Bool) (state : State) (value : ExprCode) (judged : Judged)
      → ExprOk tables number functions owner value judged
      → RowsHold tables.answers (plain_left only state judged).rows → only ≡ true
      → OnlyOk tables number functions owner state.returned
      (plain_left only state judged).state.returned (Some value.read) value.inside
  only_gives false state value judged ok hold one read is begun result returns valued w of p knows =
      absurd (true≢false (sym one))
  only_gives true state value judged ok hold one read is begun result returns valued w of p knows =
      subst (λ code. SafeAt w p code (λ x q. GivesTo w q result x
      × (Keeps w p q × BodiesFit tables number functions value.inside)))
      (same_Some value.read read is)
      (safe_weaker w p value.read
      (λ x q. ValueAfter w p ok.ty x q × BodiesFit tables number functions value.inside)
      (λ x q. GivesTo w q result x
      × (Keeps w p q × BodiesFit tables number functions value.inside))
      (ok.read w of p knows)
      (λ x q in_q got. (
        record {
          ty = ok.ty;
          value = got.0.0;
          accepted = result_typed state.returned state judged ok.ty result refl ok.has begun hold
              returns valued;
        },
        (got.0.1, got.1),
      )))

  -- an expression as a statement
  abbrev pub plain_code : ExprCode → StmtCode
  plain_code value = record {
    code = λ targets. ignored tables value.read;
    only = Some value.read;
    gives = [];
    inside = value.inside;
  }

  -- an expression as a statement
  pub plain_ok : (only : Bool) (state : State) (value : ExprCode) (judged : Judged)
      → ExprOk tables number functions owner value judged
      → RowsHold tables.answers (plain_left only state judged).rows
      → StmtOk tables number functions owner only state (plain_code value)
      (plain_left only state judged)
  plain_ok only state value judged ok hold = record {
    code_ok = λ w of p knows targets targets_ok returns.
        safe_weaker w p (ignored tables value.read)
        (λ _ q. Kept tables number functions owner value.inside w p q)
        (λ _ q. Stated tables number functions owner value.inside w p q)
        (ignored_in value judged ok w of p knows)
        (λ _ q in_q kept. stated tables number functions owner w p q value.inside knows kept);
    only_ok = only_gives only state value judged ok hold;
    back = plain_back only state judged;
  }
