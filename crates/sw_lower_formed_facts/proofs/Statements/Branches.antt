-- An `if` is safe where its conditions, its arms and its `else` are.
use Rattle.std.proofs.Common.{◌≡◌, ℕ, List, [], ◌∷◌, ◌++◌, sym, subst, refl, flat_map, Bool, true}
use Rattle.std.proofs.Common.{false, Option, Some, None, not, ◌&&◌, append_assoc}
use Rattle.std.proofs.lemmas.List.Elements.{All-append, All-nil}
use Rattle.std.proofs.lemmas.Option.{none-some, same_Some}
use Rattle.std.specs.Prelude.{is_some}
use Rattle.std.proofs.lemmas.Bool.{not-false}
use Rattle.sw_types.specs.declared.ty.Ty.{Ty}
use Rattle.sw_types.specs.declared.ty.Ty.TheVariants as types
use Rattle.sw_graph.specs.declared.function.Function.{Function}
use Rattle.sw_graph.specs.declared.instr.Last.TheVariants.{Branch}
use Rattle.sw_graph.specs.declared.instr.Operand.{Operand}
use Rattle.sw_typing_rules.specs.Expressions.{Judged}
use Rattle.sw_typing_rules.specs.Statements.{Left, State, arm_left, beside, condition_rows, goes_on}
use Rattle.sw_typing_rules.specs.Statements.{is_condition, no_branch, scoped}
use Rattle.sw_typing_rules.specs.Verdicts.{ill_if, is_bool}
use Rattle.sw_typing_rules.specs.declared.scope.Returned.{Returned}
use Rattle.sw_isolation_rules.specs.Answers.{Answers}
use Rattle.sw_lower_plans.specs.Plan.{Anywhere, Numbers}
use Rattle.sw_lower_code.specs.Code.{Code, close, done, resume, ◌>>=◌, ◌>>◌}
use Rattle.sw_lower_code.specs.Whole.{Body}
use Rattle.sw_lower_rules.specs.Carriers.{BlockCode, ExprCode, IfCode}
use Rattle.sw_lower_rules.specs.Expressions.{block_made, jump}
use Rattle.sw_lower_rules.specs.Statements.{arms_code, else_code, inside_of, statement}
use Rattle.sw_lower_rules.specs.Tables.{Tables}
use Rattle.sw_lower_rules.specs.declared.targets.Targets.{Targets}
use Rattle.sw_lower_formed_facts.specs.Forms.{BlockOk, BodiesFit, BodyFits, CodeOk, ExprOk, ReturnsBack}
use Rattle.sw_lower_formed_facts.specs.Forms.{StmtOk}
use Rattle.sw_typing_facts.specs.Rows.{RowsHold}
use Rattle.sw_lower_formed_facts.specs.Ground.{IsOfGraph}
use Rattle.sw_lower_formed_facts.specs.Safe.{MadeLast, IsIn, IsValue, Keeps, Position, SafeAt, ValueAfter}
use Rattle.sw_lower_formed_facts.specs.Safe.{here}
use Rattle.sw_lower_formed_facts.specs.Whole.{Whole}
use Rattle.sw_lower_formed_facts.proofs.Positions.Entering.{MadeAt, block_then, branch_in, grown_keeps}
use Rattle.sw_lower_formed_facts.proofs.Positions.Entering.{jump_then, made_target, resume_in, resume_then}
use Rattle.sw_lower_formed_facts.proofs.Positions.Entering.{targets_still}
use Rattle.sw_lower_formed_facts.proofs.Positions.Following.{keeps_self, keeps_then, knows_still}
use Rattle.sw_lower_formed_facts.proofs.Positions.Following.{value_stays}
use Rattle.sw_lower_formed_facts.proofs.Positions.Steps.{safe_done}
use Rattle.sw_lower_formed_facts.proofs.Positions.Then.{safe_then, safe_weaker}
use Rattle.sw_typing_facts.proofs.Said.Rows.{not_ill, rows_left, rows_right}
use Rattle.sw_lower_formed_facts.proofs.Statements.Stating.{Kept, stmt_keeps}
use Rattle.sw_typing_facts.proofs.Types.Forms.{is_Bool}

holds_some : (found : Option Ty) (ty : Ty) → found ≡ Some ty
    → (is_some found && not (is_condition found)) ≡ false → is_bool ty ≡ true
holds_some None ty has is = absurd (none-some ty has)
holds_some (Some other) ty has is =
    subst (λ t. is_bool t ≡ true) (same_Some other ty has) (not-false (is_bool other) is)

-- A condition that isn't ill is a `Bool`.
pub condition_typed : (answers : Answers) (cond : Judged) (ty : Ty) → cond.ty ≡ Some ty
    → RowsHold answers (condition_rows cond) → ty ≡ types.Bool
condition_typed answers cond ty has hold =
    is_Bool ty (holds_some cond.ty ty has
    (not_ill answers (is_some cond.ty && not (is_condition cond.ty)) cond.key 402
    (rows_right answers cond.rows
    (ill_if (is_some cond.ty && not (is_condition cond.ty)) cond.key 402) hold)))

-- two ways of which one is gone, and the block in which they meet
abbrev pub ways : Operand → Code (Unit {0}) → Code (Unit {0}) → Code (Unit {0})
ways given one other = block_made
    >>= λ first. block_made
    >>= λ second. block_made
    >>= λ merge. close (Branch given first second)
    >> resume first
    >> one
    >> jump merge
    >> resume second
    >> other
    >> jump merge
    >> resume merge

-- the bodies in arms
abbrev pub arms_inside : List IfCode → List Body
arms_inside arms = flat_map (λ (arm : IfCode). arm.inside) arms

-- an arm of an `if`
abbrev pub if_arm : ExprCode → BlockCode → IfCode
if_arm cond body =
    record { cond = cond.read; body = body; inside = cond.inside ++ body.inside }

module _ (tables : Tables) (number : Numbers) (functions : List Function) (owner : Option ℕ) where
  module _ (w : Whole) (of : IsOfGraph tables functions w) (b : Position) (inside : IsIn w b)
      (given : Operand) (value : IsValue w b types.Bool given) (one other : Code (Unit {0}))
      (P Q : Type 0)
      (one_ok : (s : Position) → Keeps w b s → SafeAt w s one (λ _ t. Keeps w s t × P))
      (other_ok : (s : Position) → Keeps w b s → SafeAt w s other (λ _ t. Keeps w s t × Q)) where
    abbrev Met : Unit {0} → Position → Type 0
    Met _ q = Keeps w b q × (P × Q)

    -- the end of a way
    meet_in : (merge : ℕ) → MadeAt w b Anywhere merge → P → Q → (q : Position) → Keeps w b q
        → SafeAt w q (jump merge >> resume merge) Met
    meet_in merge made p_holds q_holds q keeps =
        jump_then tables functions w of q merge (resume merge) Met
        (made_target w b q merge made keeps.follows)
        (λ s in_s kept.
        safe_weaker w s (resume merge) (λ _ t. Keeps w b t × (here t ≡ merge)) Met
        (resume_in w b s Anywhere merge inside made
        (grown_keeps w b s (keeps_then w b q s keeps kept)))
        (λ _ t in_t got. (got.0, (p_holds, q_holds))))

    other_in : (second merge : ℕ) → MadeAt w b Anywhere second → MadeAt w b Anywhere merge → P
        → (q : Position) → Keeps w b q
        → SafeAt w q (resume second >> other >> jump merge >> resume merge) Met
    other_in second merge made_no made_merge p_holds q keeps =
        resume_then w b q Anywhere second (other >> jump merge >> resume merge) Met inside made_no
        (grown_keeps w b q keeps)
        (λ s in_s kept there.
        safe_then w s other (λ _. jump merge >> resume merge) (λ _ t. Keeps w s t × Q) Met
        (other_ok s kept)
        (λ _ t in_t got.
        meet_in merge made_merge p_holds got.1 t (keeps_then w b s t kept got.0)))

    one_in : (first second merge : ℕ) → MadeAt w b Anywhere first → MadeAt w b Anywhere second
        → MadeAt w b Anywhere merge → (q : Position) → Keeps w b q
        → SafeAt w q (resume first >> one >> jump merge >> resume second >> other >> jump merge
        >> resume merge) Met
    one_in first second merge made_yes made_no made_merge q keeps =
        resume_then w b q Anywhere first
        (one >> jump merge >> resume second >> other >> jump merge >> resume merge) Met inside
        made_yes
        (grown_keeps w b q keeps)
        (λ s in_s kept there.
        safe_then w s one (λ _. jump merge >> resume second >> other >> jump merge >> resume merge)
        (λ _ t. Keeps w s t × P) Met (one_ok s kept)
        (λ _ t in_t got.
        let still = keeps_then w b s t kept got.0 in
        jump_then tables functions w of t merge
        (resume second >> other >> jump merge >> resume merge) Met
        (made_target w b t merge made_merge still.follows)
        (λ u in_u jumped.
        other_in second merge made_no made_merge got.1 u (keeps_then w b t u still jumped))))

    -- Two ways that meet again are safe where each of them is.
    pub ways_in : SafeAt w b (ways given one other) Met
    ways_in =
        block_then w b b Anywhere
        (λ first. block_made >>= λ second. block_made >>= λ merge. then first second merge) Met
        (keeps_self w b) refl
        (λ first q in_q made_yes keeps_q there_q.
        block_then w b q Anywhere (λ second. block_made >>= λ merge. then first second merge) Met
        keeps_q
        there_q
        (λ second s in_s made_no keeps_s there_s.
        block_then w b s Anywhere (λ merge. then first second merge) Met keeps_s there_s
        (λ merge t in_t made_merge keeps_t there_t.
        safe_then w t (close (Branch given first second))
        (λ _. resume first >> one >> jump merge >> resume second >> other >> jump merge
        >> resume merge) (λ _. MadeLast w t) Met
        (branch_in tables functions w of t given first second
        (value_stays w b t types.Bool given keeps_t.follows value)
        (made_target w b t first made_yes keeps_t.follows)
        (made_target w b t second made_no keeps_t.follows))
        (λ _ u in_u closed.
        one_in first second merge made_yes made_no made_merge u
        (keeps_then w b t u keeps_t closed.keeps))))) where
          then : ℕ → ℕ → ℕ → Code (Unit {0})
          then first second merge = close (Branch given first second) >> resume first >> one
              >> jump merge
              >> resume second
              >> other
              >> jump merge
              >> resume merge

  -- code that keeps the variables, and the bodies in it
  abbrev pub KeptOk : Returned → (Targets → Code (Unit {0})) → List Body → Type 0
  KeptOk after code inside = CodeOk tables number functions owner after code
      (Kept tables number functions owner inside)

  -- arms of an `if`, whatever comes after them
  pub record ArmsOk (state : State) (arms : List IfCode) (left : Left) : Type 0 where
    pub code_ok : (otherwise : Targets → Code (Unit {0})) (inside : List Body) (after : Returned)
        → ReturnsBack tables number functions left.state.returned after
        → KeptOk after otherwise inside
        → KeptOk after (λ targets. arms_code arms (otherwise targets) targets)
        (arms_inside arms ++ inside)
    pub back : ReturnsBack tables number functions state.returned left.state.returned

  -- no arms
  pub no_arms_ok : (state : State) → ArmsOk state [] (no_branch state)
  unfolding arms_code
  no_arms_ok state = record {
    code_ok = λ otherwise inside after back ok. ok;
    back = λ result returns. returns;
  }

  -- an arm before others
  pub more_arms_ok : (state : State) (cond : ExprCode) (judged : Judged) (body : BlockCode)
      (left : Left) (arms : List IfCode) (last : Left)
      → ExprOk tables number functions owner cond judged
      → RowsHold tables.answers (arm_left state judged left).rows
      → BlockOk tables number functions owner false state body left
      → ArmsOk (arm_left state judged left).state arms last
      → ArmsOk state (if_arm cond body ∷ arms) (beside (arm_left state judged left) last)
  unfolding arms_code
  more_arms_ok state cond judged body left arms last ok hold body_ok more = record {
    code_ok = λ otherwise inside after back rest_ok w of p knows targets targets_ok returns.
        safe_then w p cond.read
        (λ given. ways given (body.code targets) (arms_code arms (otherwise targets) targets))
        (λ x q. ValueAfter w p ok.ty x q × BodiesFit tables number functions cond.inside)
        (λ _ q. Kept tables number functions owner (arms_inside (if_arm cond body ∷ arms) ++ inside)
        w p q) (ok.read w of p knows)
        (λ x q in_q got.
        let keeps = got.0.1 in
        safe_weaker w q
        (ways x (body.code targets) (arms_code arms (otherwise targets) targets))
        (λ _ s. Keeps w q s × (BodiesFit tables number functions body.inside
        × BodiesFit tables number functions (arms_inside arms ++ inside)))
        (λ _ s. Kept tables number functions owner
        (arms_inside (if_arm cond body ∷ arms) ++ inside) w p s)
        (ways_in w of q in_q x
        (subst (λ t. IsValue w q t x) (condition_typed tables.answers judged ok.ty ok.has
        (rows_left tables.answers (condition_rows judged) left.rows hold)) got.0.0)
        (body.code targets) (arms_code arms (otherwise targets) targets)
        (BodiesFit tables number functions body.inside)
        (BodiesFit tables number functions (arms_inside arms ++ inside))
        (λ s kept.
        let all = keeps_then w p q s keeps kept in
        body_ok.code_ok w of s (knows_still tables owner number w p s all knows) targets
        (targets_still w p s targets all.follows targets_ok)
        (more.back w.result (back w.result returns)))
        (λ s kept.
        let all = keeps_then w p q s keeps kept in
        more.code_ok otherwise inside after back rest_ok w of s
        (knows_still tables owner number w p s all knows) targets
        (targets_still w p s targets all.follows targets_ok) returns))
        (λ _ s in_s met. (
          keeps_then w p q s keeps met.0,
          subst (BodiesFit tables number functions)
              (sym (append_assoc (cond.inside ++ body.inside) (arms_inside arms) inside))
              (All-append (BodyFits tables number functions) (cond.inside ++ body.inside)
              (arms_inside arms ++ inside)
              (All-append (BodyFits tables number functions) cond.inside body.inside got.1
              met.1.0) met.1.1),
        )));
    back = λ result returns. body_ok.back result (more.back result returns);
  }

  -- an `else` or a `default`, which may be left out
  pub record OtherwiseOk (state : State) (otherwise : Option BlockCode) (left : Left)
      : Type 0 where
    pub code_ok : KeptOk left.state.returned (else_code otherwise) (inside_of otherwise)
    pub back : ReturnsBack tables number functions state.returned left.state.returned

  nothing_kept : (returned : Returned) → KeptOk returned (λ targets. done tt) []
  nothing_kept returned w of p knows targets targets_ok returns =
      safe_done w p tt (λ _ q. Kept tables number functions owner [] w p q)
      (keeps_self w p, All-nil (BodyFits tables number functions))

  -- an `if` without an `else`
  pub no_else_ok : (state : State) → OtherwiseOk state None (goes_on state [] true)
  no_else_ok state = record {
    code_ok = nothing_kept state.returned;
    back = λ result returns. returns;
  }

  -- a `switch` without a `default`
  pub no_default_ok : (state : State) → OtherwiseOk state None (no_branch state)
  no_default_ok state = record {
    code_ok = nothing_kept state.returned;
    back = λ result returns. returns;
  }

  -- the block of an `else` or a `default`
  pub some_block_ok : (state : State) (block : BlockCode) (left : Left)
      → BlockOk tables number functions owner false state block left
      → OtherwiseOk state (Some block) (scoped state left)
  some_block_ok state block left ok = record { code_ok = ok.code_ok; back = ok.back }

  -- an `if`
  pub if_ok : (only : Bool) (state : State) (arms : List IfCode) (otherwise : Option BlockCode)
      (left last : Left) → ArmsOk state arms left → OtherwiseOk left.state otherwise last
      → StmtOk tables number functions owner only state
      (statement (λ targets. arms_code arms (else_code otherwise targets) targets)
      (arms_inside arms ++ inside_of otherwise)) (beside left last)
  if_ok only state arms otherwise left last arms_ok otherwise_ok =
      stmt_keeps tables number functions owner only state
      (λ targets. arms_code arms (else_code otherwise targets) targets)
      (arms_inside arms ++ inside_of otherwise) (beside left last)
      (arms_ok.code_ok (else_code otherwise) (inside_of otherwise) last.state.returned
      otherwise_ok.back otherwise_ok.code_ok)
      (λ result returns. arms_ok.back result (otherwise_ok.back result returns))
