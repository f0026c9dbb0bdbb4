-- A loop is safe where its condition and its body are.
use Rattle.std.proofs.Common.{◌≡◌, ℕ, List, ◌++◌, subst, refl, Bool, false, Option, Some}
use Rattle.std.proofs.lemmas.List.Elements.{All-append}
use Rattle.std.proofs.lemmas.Option.{same_Some}
use Rattle.sw_types.specs.declared.ty.Ty.TheVariants as types
use Rattle.sw_graph.specs.declared.function.Function.{Function}
use Rattle.sw_graph.specs.declared.instr.Last.TheVariants.{Branch}
use Rattle.sw_graph.specs.declared.instr.Operand.{Operand}
use Rattle.sw_typing_rules.specs.Expressions.{Judged}
use Rattle.sw_typing_rules.specs.Statements.{Left, State, condition_rows, while_left}
use Rattle.sw_lower_plans.specs.Plan.{Anywhere, Numbers}
use Rattle.sw_lower_code.specs.Code.{Code, close, resume, ◌>>=◌, ◌>>◌}
use Rattle.sw_lower_rules.specs.Carriers.{BlockCode, ExprCode}
use Rattle.sw_lower_rules.specs.Expressions.{block_made, jump}
use Rattle.sw_lower_rules.specs.Statements.{statement, while_code}
use Rattle.sw_lower_rules.specs.Tables.{Tables}
use Rattle.sw_lower_rules.specs.declared.targets.Targets.{Targets}
use Rattle.sw_lower_formed_facts.specs.Forms.{BlockOk, BodiesFit, BodyFits, ExprOk, IsTarget, ReturnsOk}
use Rattle.sw_lower_formed_facts.specs.Forms.{StmtOk, TargetsOk}
use Rattle.sw_typing_facts.specs.Rows.{RowsHold}
use Rattle.sw_lower_formed_facts.specs.Ground.{IsOfGraph, Knows}
use Rattle.sw_lower_formed_facts.specs.Safe.{MadeLast, IsIn, IsValue, Keeps, Position, SafeAt, ValueAfter}
use Rattle.sw_lower_formed_facts.specs.Safe.{here}
use Rattle.sw_lower_formed_facts.specs.Whole.{Whole}
use Rattle.sw_lower_formed_facts.proofs.Positions.Entering.{MadeAt, block_then, branch_in, grown_keeps}
use Rattle.sw_lower_formed_facts.proofs.Positions.Entering.{jump_then, made_target, resume_in, resume_then}
use Rattle.sw_lower_formed_facts.proofs.Positions.Following.{keeps_self, keeps_then, knows_still}
use Rattle.sw_lower_formed_facts.proofs.Positions.Then.{safe_in, safe_then, safe_weaker}
use Rattle.sw_typing_facts.proofs.Said.Rows.{rows_left}
use Rattle.sw_lower_formed_facts.proofs.Statements.Branches.{condition_typed}
use Rattle.sw_lower_formed_facts.proofs.Statements.Stating.{Kept, stmt_keeps}

-- the targets in a loop
abbrev pub loop_targets : ℕ → ℕ → Targets
loop_targets head after = record { breaks = Some after; continues = Some head }

module _ (tables : Tables) (number : Numbers) (functions : List Function) (owner : Option ℕ) where
  module _ (state : State) (cond : ExprCode) (judged : Judged) (body : BlockCode) (left : Left)
      (ok : ExprOk tables number functions owner cond judged) (is_bool : ok.ty ≡ types.Bool)
      (body_ok : BlockOk tables number functions owner false state body left)
      (w : Whole) (of : IsOfGraph tables functions w)
      (returns : ReturnsOk left.state.returned w.result)
      (p : Position) (inside : IsIn w p) (knows : Knows tables owner number w p)
      (head inner after : ℕ) (made_head : MadeAt w p Anywhere head)
      (made_inner : MadeAt w p Anywhere inner) (made_after : MadeAt w p Anywhere after) where
    abbrev Looped : Unit {0} → Position → Type 0
    Looped _ q = Kept tables number functions owner (cond.inside ++ body.inside) w p q

    targets_in : (q : Position) → Keeps w p q → TargetsOk w q (loop_targets head after)
    targets_in q keeps = record {
      breaks = λ to is.
          subst (IsTarget w q) (same_Some after to is)
          (made_target w p q after made_after keeps.follows);
      continues = λ to is.
          subst (IsTarget w q) (same_Some head to is)
          (made_target w p q head made_head keeps.follows);
    }

    -- the block of the body, and the one after the loop
    body_in : BodiesFit tables number functions cond.inside → (q : Position) → Keeps w p q
        → SafeAt w q (resume inner >> body.code (loop_targets head after) >> jump head
        >> resume after) Looped
    body_in cond_fits q keeps =
        resume_then w p q Anywhere inner
        (body.code (loop_targets head after) >> jump head >> resume after) Looped inside made_inner
        (grown_keeps w p q keeps)
        (λ s in_s kept there.
        safe_then w s (body.code (loop_targets head after)) (λ _. jump head >> resume after)
        (λ _ t. Kept tables number functions owner body.inside w s t) Looped
        (body_ok.code_ok w of s (knows_still tables owner number w p s kept knows)
        (loop_targets head after) (targets_in s kept) returns)
        (λ _ t in_t got.
        let still = keeps_then w p s t kept got.0 in
        jump_then tables functions w of t head (resume after) Looped
        (made_target w p t head made_head still.follows)
        (λ u in_u jumped.
        safe_weaker w u (resume after) (λ _ v. Keeps w p v × (here v ≡ after)) Looped
        (resume_in w p u Anywhere after inside made_after
        (grown_keeps w p u (keeps_then w p t u still jumped)))
        (λ _ v in_v resumed. (
          resumed.0,
          All-append (BodyFits tables number functions) cond.inside body.inside cond_fits
              got.1,
        )))))

    -- the block of the condition, and what comes after it
    pub head_in : (q : Position) → Keeps w p q
        → SafeAt w q (jump head >> resume head >> cond.read >>= λ given.
        close (Branch given inner after) >> resume inner >> body.code (loop_targets head after)
        >> jump head >> resume after) Looped
    head_in q keeps =
        jump_then tables functions w of q head (resume head >> then) Looped
        (made_target w p q head made_head keeps.follows)
        (λ s in_s jumped.
        resume_then w p s Anywhere head then Looped inside made_head
        (grown_keeps w p s (keeps_then w p q s keeps jumped))
        (λ t in_t kept there.
        safe_then w t cond.read next
        (λ x u. ValueAfter w t ok.ty x u × BodiesFit tables number functions cond.inside) Looped
        (ok.read w of t (knows_still tables owner number w p t kept knows))
        (λ x u in_u got.
        let still = keeps_then w p t u kept got.0.1 in
        safe_then w u (close (Branch x inner after))
        (λ _. resume inner >> body.code (loop_targets head after) >> jump head
        >> resume after) (λ _. MadeLast w u) Looped
        (branch_in tables functions w of u x inner after
        (subst (λ one. IsValue w u one x) is_bool got.0.0)
        (made_target w p u inner made_inner still.follows)
        (made_target w p u after made_after still.follows))
        (λ _ v in_v closed. body_in got.1 v (keeps_then w p u v still closed.keeps))))) where
          next : Operand → Code (Unit {0})
          next given = close (Branch given inner after) >> resume inner
              >> body.code (loop_targets head after)
              >> jump head
              >> resume after

          then : Code (Unit {0})
          then = cond.read >>= next

  -- `while`
  pub while_ok : (only : Bool) (state : State) (cond : ExprCode) (judged : Judged)
      (body : BlockCode) (left : Left) → ExprOk tables number functions owner cond judged
      → RowsHold tables.answers (while_left state judged left).rows
      → BlockOk tables number functions owner false state body left
      → StmtOk tables number functions owner only state
      (statement (λ targets. while_code cond.read body) (cond.inside ++ body.inside))
      (while_left state judged left)
  while_ok only state cond judged body left ok hold body_ok =
      stmt_keeps tables number functions owner only state (λ targets. while_code cond.read body)
      (cond.inside ++ body.inside) (while_left state judged left)
      (λ w of p knows targets targets_ok returns.
      safe_in w p (while_code cond.read body)
      (λ _ q. Kept tables number functions owner (cond.inside ++ body.inside) w p q)
      (λ inside.
      block_then w p p Anywhere
      (λ head. block_made >>= λ inner. block_made >>= λ after. then head inner after)
      (λ _ q. Kept tables number functions owner (cond.inside ++ body.inside) w p q)
      (keeps_self w p) refl
      (λ head q in_q made_head keeps_q there_q.
      block_then w p q Anywhere (λ inner. block_made >>= λ after. then head inner after)
      (λ _ s. Kept tables number functions owner (cond.inside ++ body.inside) w p s)
      keeps_q there_q
      (λ inner s in_s made_inner keeps_s there_s.
      block_then w p s Anywhere (λ after. then head inner after)
      (λ _ t. Kept tables number functions owner (cond.inside ++ body.inside) w p t)
      keeps_s there_s
      (λ after t in_t made_after keeps_t there_t.
      head_in state cond judged body left ok
      (condition_typed tables.answers judged ok.ty ok.has
      (rows_left tables.answers (condition_rows judged) left.rows hold)) body_ok w of
      returns p inside knows head inner after made_head made_inner made_after t
      keeps_t)))))
      body_ok.back where
        then : ℕ → ℕ → ℕ → Code (Unit {0})
        then head inner after = jump head >> resume head >> cond.read >>= λ given.
            close (Branch given inner after) >> resume inner >> body.code (loop_targets head after)
            >> jump head
            >> resume after
