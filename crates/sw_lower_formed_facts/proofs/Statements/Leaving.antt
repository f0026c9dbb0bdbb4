-- Statements that leave a body, a loop or a `switch` are safe.
use Rattle.std.proofs.Common.{◌≡◌, ℕ, List, [], ◌++◌, sym, ◌∙◌, subst, refl, Bool, Option, Some}
use Rattle.std.proofs.Common.{None}
use Rattle.std.proofs.lemmas.List.Elements.{All-nil}
use Rattle.std.proofs.lemmas.Option.{none-some, same_Some}
use Rattle.std.specs.Prelude.{slice_get}
use Rattle.sw_types.specs.Accepts.{IsAcceptedAs}
use Rattle.sw_types.specs.declared.ty.Ty.{Ty}
use Rattle.sw_graph.specs.declared.function.Function.{Function}
use Rattle.sw_graph.specs.declared.function.RegKind.TheVariants.{Plain}
use Rattle.sw_graph.specs.declared.instr.Last.TheVariants.{Return}
use Rattle.sw_graph.specs.declared.instr.Operand.{Operand}
use Rattle.sw_typing_rules.specs.Expressions.{Judged}
use Rattle.sw_typing_rules.specs.Statements.{State, break_left, continue_left, refused}
use Rattle.sw_typing_rules.specs.Statements.{return_value, return_void}
use Rattle.sw_typing_rules.specs.declared.scope.Inside.{Inside}
use Rattle.sw_typing_rules.specs.declared.scope.Returned.{Returned}
use Rattle.sw_typing_rules.specs.declared.scope.Returned.TheVariants.{Gives, Open, Wants}
use Rattle.sw_lower_plans.specs.Plan.{Numbers}
use Rattle.sw_lower_code.specs.Code.{close, ◌>>◌}
use Rattle.sw_lower_rules.specs.Carriers.{ExprCode}
use Rattle.sw_lower_rules.specs.Statements.{in_new_block, leave, return_code, statement}
use Rattle.sw_lower_rules.specs.Tables.{Tables}
use Rattle.sw_lower_formed_facts.specs.Forms.{BodiesFit, BodyFits, ExprOk, ReturnsBack, ReturnsOk}
use Rattle.sw_typing_facts.specs.Rows.{RowsHold}
use Rattle.sw_lower_formed_facts.specs.Forms.{StmtOk}
use Rattle.sw_lower_formed_facts.specs.Ground.{IsOfGraph}
use Rattle.sw_lower_formed_facts.specs.Safe.{MadeLast, IsValue, Keeps, Position, SafeAt, ValueAfter, here}
use Rattle.sw_lower_formed_facts.specs.Whole.{IsSet, Whole}
use Rattle.sw_lower_formed_facts.proofs.Positions.Entering.{leave_in, new_block_in}
use Rattle.sw_lower_formed_facts.proofs.Positions.Following.{keeps_then}
use Rattle.sw_lower_formed_facts.proofs.Positions.Then.{safe_then, safe_weaker}
use Rattle.sw_lower_formed_facts.proofs.Positions.Using.{close_in, reads_one}
use Rattle.sw_typing_facts.proofs.Said.Rows.{not_refused, rows_right}
use Rattle.sw_lower_formed_facts.proofs.Statements.Stating.{Kept, stmt_keeps}
use Rattle.sw_lower_formed_facts.proofs.Types.Going.{accepts_same, goes_by}

module _ (tables : Tables) (number : Numbers) (functions : List Function) (owner : Option ℕ) where
  -- a last instruction that leads nowhere, and a new block after it
  end_in : (w : Whole) → IsOfGraph tables functions w → (p : Position) (given : Option Operand)
      → ((x : Operand) → given ≡ Some x
      → (from : Ty) × (IsValue w p from x × IsAcceptedAs from w.result))
      → SafeAt w p (close (Return given) >> in_new_block) (λ _ q. Keeps w p q)
  end_in w of p given valued =
      safe_then w p (close (Return given)) (λ _. in_new_block) (λ _. MadeLast w p)
      (λ _ q. Keeps w p q) (closes given valued)
      (λ _ q in_q closed.
      safe_weaker w q in_new_block (λ _ s. Keeps w q s) (λ _ s. Keeps w p s)
      (new_block_in w q) (λ _ s in_s keeps. keeps_then w p q s closed.keeps keeps)) where
        nowhere : {A : Type 0} (index to : ℕ) → slice_get [] index ≡ Some to → A
        nowhere index to is = absurd (none-some to is)

        closes : (one : Option Operand)
            → ((x : Operand) → one ≡ Some x
            → (from : Ty) × (IsValue w p from x × IsAcceptedAs from w.result))
            → SafeAt w p (close (Return one)) (λ _. MadeLast w p)
        closes None one = close_in tables functions w of p (Return None) tt
            (All-nil (IsSet w p.writes (here p))) (λ index to is. nowhere index to is)
        closes (Some x) one =
            let is = one x refl in
            close_in tables functions w of p (Return (Some x))
            (goes_by (slice_get w.regs x.reg) (Some (Plain w.result)) is.0 w.result is.1.0.kind refl
            is.1.1)
            (reads_one w p.writes (here p) x.reg is.1.0.set) (λ index to is. nowhere index to is)

  void_back : (found : Returned) (state : State) (at : ℕ) → state.returned ≡ found
      → ReturnsBack tables number functions state.returned
      (return_void found state at).state.returned
  void_back (Wants ty) state at is result returns = returns
  void_back (Open places) state at is result returns =
      subst (λ one. ReturnsOk one result) (sym is) tt
  void_back (Gives None) state at is result returns = returns
  void_back (Gives (Some ty)) state at is result returns = returns

  -- `return` without a value
  pub return_nothing_ok : (only : Bool) (state : State) (at : ℕ)
      → StmtOk tables number functions owner only state
      (statement (λ targets. return_code tables None) [])
      (return_void state.returned state at)
  return_nothing_ok only state at =
      stmt_keeps tables number functions owner only state (λ targets. return_code tables None) []
      (return_void state.returned state at)
      (λ w of p knows targets targets_ok returns.
      safe_weaker w p (return_code tables None) (λ _ q. Keeps w p q)
      (λ _ q. Kept tables number functions owner [] w p q)
      (end_in w of p None (λ x is. absurd (none-some x is)))
      (λ _ q in_q keeps. (keeps, All-nil (BodyFits tables number functions))))
      (void_back state.returned state at refl)

  value_back : (found : Returned) (state : State) (at : ℕ) (value : Judged)
      → state.returned ≡ found
      → ReturnsBack tables number functions state.returned
      (return_value found state at value).state.returned
  value_back (Wants ty) state at value is result returns = returns
  value_back (Open places) state at value is result returns =
      subst (λ one. ReturnsOk one result) (sym is) tt
  value_back (Gives None) state at value is result returns = returns
  value_back (Gives (Some ty)) state at value is result returns = returns

  -- What a body gives, as far as it is known after a value, is the value's type or one that
  -- accepts it.
  pub gives_typed : (found : Option Ty) (ty result : Ty) → found ≡ Some ty
      → ReturnsOk (Gives found) result → IsAcceptedAs ty result
  gives_typed None ty result has returns = absurd (none-some ty has)
  gives_typed (Some other) ty result has returns =
      accepts_same ty result (sym (same_Some other ty has) ∙ returns)

  -- A value that is given where a type is wanted is accepted by it.
  pub wants_typed : (value : Judged) (at : ℕ) (ty wanted result : Ty) (found : Returned)
      → value.ty ≡ Some ty → found ≡ Wants wanted → ReturnsOk found result
      → RowsHold tables.answers (value.rows ++ refused at value.ty wanted) → IsAcceptedAs ty result
  wants_typed value at ty wanted result found has is returns hold =
      let same : wanted ≡ result = subst (λ one. ReturnsOk one result) is returns in
      subst (IsAcceptedAs ty) same
      (not_refused tables.answers at value.ty ty wanted has
      (rows_right tables.answers value.rows (refused at value.ty wanted) hold))

  value_typed : (found : Returned) (state : State) (at : ℕ) (value : Judged) (ty result : Ty)
      → state.returned ≡ found → value.ty ≡ Some ty
      → ReturnsOk (return_value found state at value).state.returned result
      → RowsHold tables.answers (return_value found state at value).rows → IsAcceptedAs ty result
  value_typed (Wants wanted) state at value ty result is has returns hold =
      wants_typed value at ty wanted result state.returned has is returns hold
  value_typed (Open places) state at value ty result is has returns hold =
      gives_typed value.ty ty result has returns
  value_typed (Gives None) state at value ty result is has returns hold =
      absurd (subst (λ one. ReturnsOk one result) is returns)
  value_typed (Gives (Some wanted)) state at value ty result is has returns hold =
      let same : wanted ≡ result = subst (λ one. ReturnsOk one result) is returns in
      subst (IsAcceptedAs ty) same
      (not_refused tables.answers at value.ty ty wanted has
      (rows_right tables.answers value.rows (refused at value.ty wanted) hold))

  -- `return` with a value
  pub return_ok : (only : Bool) (state : State) (at : ℕ) (value : ExprCode) (judged : Judged)
      → ExprOk tables number functions owner value judged
      → RowsHold tables.answers (return_value state.returned state at judged).rows
      → StmtOk tables number functions owner only state
      (statement (λ targets. return_code tables (Some value.read)) value.inside)
      (return_value state.returned state at judged)
  return_ok only state at value judged ok hold =
      stmt_keeps tables number functions owner only state
      (λ targets. return_code tables (Some value.read)) value.inside
      (return_value state.returned state at judged)
      (λ w of p knows targets targets_ok returns.
      safe_then w p value.read (λ given. close (Return (Some given)) >> in_new_block)
      (λ x q. ValueAfter w p ok.ty x q × BodiesFit tables number functions value.inside)
      (λ _ q. Kept tables number functions owner value.inside w p q) (ok.read w of p knows)
      (λ x q in_q got.
      safe_weaker w q (close (Return (Some x)) >> in_new_block) (λ _ s. Keeps w q s)
      (λ _ s. Kept tables number functions owner value.inside w p s)
      (end_in w of q (Some x) (λ y is. (
        ok.ty,
        (
          subst (IsValue w q ok.ty) (same_Some x y is) got.0.0,
          value_typed state.returned state at judged ok.ty w.result refl ok.has returns hold,
        ),
      )))
      (λ _ s in_s keeps. (keeps_then w p q s got.0.1 keeps, got.1))))
      (value_back state.returned state at judged refl)

  -- `break`
  pub break_ok : (only : Bool) (inside : Inside) (state : State) (at : ℕ)
      → StmtOk tables number functions owner only state
      (statement (λ targets. leave tables targets.breaks) []) (break_left inside state at)
  break_ok only inside state at =
      stmt_keeps tables number functions owner only state (λ targets. leave tables targets.breaks)
      [] (break_left inside state at)
      (λ w of p knows targets targets_ok returns.
      safe_weaker w p (leave tables targets.breaks) (λ _ q. Keeps w p q)
      (λ _ q. Kept tables number functions owner [] w p q)
      (leave_in tables functions w of p targets.breaks targets_ok.breaks)
      (λ _ q in_q keeps. (keeps, All-nil (BodyFits tables number functions))))
      (λ result returns. returns)

  -- `continue`
  pub continue_ok : (only : Bool) (inside : Inside) (state : State) (at : ℕ)
      → StmtOk tables number functions owner only state
      (statement (λ targets. leave tables targets.continues) []) (continue_left inside state at)
  continue_ok only inside state at =
      stmt_keeps tables number functions owner only state
      (λ targets. leave tables targets.continues) [] (continue_left inside state at)
      (λ w of p knows targets targets_ok returns.
      safe_weaker w p (leave tables targets.continues) (λ _ q. Keeps w p q)
      (λ _ q. Kept tables number functions owner [] w p q)
      (leave_in tables functions w of p targets.continues targets_ok.continues)
      (λ _ q in_q keeps. (keeps, All-nil (BodyFits tables number functions))))
      (λ result returns. returns)
