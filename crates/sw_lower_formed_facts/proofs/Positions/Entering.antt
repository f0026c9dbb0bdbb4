-- Blocks that are made, go on, and are jumped to: what is known where a block was made is known in
-- it.
use Rattle.std.proofs.Common.{◌≡◌, ℕ, ◌≤◌, List, length, ap, sym, ◌∙◌, subst, refl, Some, zero, suc}
use Rattle.std.proofs.Common.{◌∷◌, []}
use Rattle.std.proofs.lemmas.Option.{none-some, same_Some}
use Rattle.std.specs.Prelude.{Option, slice_get}
use Rattle.sw_types.specs.declared.ty.Ty.TheVariants as types
use Rattle.sw_graph.specs.declared.function.Function.{Function}
use Rattle.sw_graph.specs.declared.instr.Last.{Last}
use Rattle.sw_graph.specs.declared.instr.Last.TheVariants.{Branch}
use Rattle.sw_graph.specs.declared.instr.Operand.{Operand}
use Rattle.sw_lower_plans.specs.Plan.{Anywhere, Entry}
use Rattle.sw_lower_code.specs.Code.{Code, block_for, close, known, resume, ◌>>=◌, ◌>>◌}
use Rattle.sw_lower_rules.specs.Expressions.{jump}
use Rattle.sw_lower_rules.specs.Statements.{in_new_block, leave}
use Rattle.sw_lower_rules.specs.Tables.{Tables}
use Rattle.sw_lower_rules.specs.declared.targets.Targets.{Targets}
use Rattle.sw_lower_formed_facts.specs.Fitting.{EntersBy, LeadsOk}
use Rattle.sw_lower_formed_facts.specs.Forms.{IsTarget, TargetsOk}
use Rattle.sw_lower_formed_facts.specs.Ground.{IsOfGraph}
use Rattle.sw_lower_formed_facts.specs.Safe.{MadeLast, Follows, IsIn, IsValue, Keeps, MadeBlock, Position}
use Rattle.sw_lower_formed_facts.specs.Safe.{Resumed, SafeAt, here}
use Rattle.sw_lower_formed_facts.specs.Whole.{Whole, made_at}
use Rattle.sw_lower_formed_facts.proofs.Positions.Following.{follows_resumed, keeps_self, keeps_then}
use Rattle.sw_lower_formed_facts.proofs.Positions.Steps.{safe_block, safe_known, safe_resume}
use Rattle.sw_lower_formed_facts.proofs.Positions.Then.{safe_in, safe_then, safe_weaker}
use Rattle.sw_lower_formed_facts.proofs.Positions.Using.{close_in, jump_in, reads_one}

-- There are no fewer registers than at an earlier position, and the variables are the same.
pub record Grown (b q : Position) : Type 0 where
  pub regs : length b.making.made.regs ≤ length q.making.made.regs
  pub vars : q.making.vars ≡ b.making.vars
  pub numbers : q.making.number ≡ b.making.number

-- A position that keeps what was known has grown.
pub grown_keeps : (w : Whole) (b q : Position) → Keeps w b q → Grown b q
grown_keeps w b q keeps = record {
  regs = keeps.follows.regs;
  vars = keeps.vars;
  numbers = keeps.follows.numbers;
}

-- the block was made at a position
abbrev pub MadeAt : Whole → Position → Entry → ℕ → Type 0
MadeAt w b entry number = made_at w number ≡ Some (record { entry = entry; from = here b })

made_from : (w : Whole) (b q : Position) (entry : Entry) (number : ℕ) → here q ≡ here b
    → MadeAt w q entry number → MadeAt w b entry number
made_from w b q entry number there made =
    made ∙ ap (λ from. Some (record { entry = entry; from = from })) there

-- code after a block that is made
pub block_then : {A : Type 0} (w : Whole) (b q : Position) (entry : Entry) (rest : ℕ → Code A)
    (Post : A → Position → Type 0) → Keeps w b q → here q ≡ here b
    → ((number : ℕ) (s : Position) → IsIn w s → MadeAt w b entry number → Keeps w b s
    → here s ≡ here b → SafeAt w s (rest number) Post)
    → SafeAt w q (block_for entry >>= rest) Post
block_then w b q entry rest Post keeps there next =
    safe_then w q (block_for entry) rest (MadeBlock w q entry) Post (safe_block w q entry)
    (λ number s inside made.
    next number s inside (made_from w b q entry number there made.made)
    (keeps_then w b q s keeps made.keeps) (made.there ∙ there))

-- A block goes on that was made where b stands.
pub resume_in : (w : Whole) (b q : Position) (entry : Entry) (number : ℕ) → IsIn w b
    → MadeAt w b entry number → Grown b q
    → SafeAt w q (resume number) (λ _ s. Keeps w b s × (here s ≡ number))
resume_in w b q entry number inside made grown =
    safe_weaker w q (resume number) (λ _. Resumed q number)
    (λ _ s. Keeps w b s × (here s ≡ number)) (safe_resume w q number)
    (λ _ s in_s resumed. (
      record {
        follows = follows_resumed w b q s number (record { entry = entry; from = here b }) inside
            made refl resumed grown.regs grown.numbers;
        vars = resumed.vars ∙ grown.vars;
      },
      resumed.there,
    ))

-- code after a block that goes on
pub resume_then : {A : Type 0} (w : Whole) (b q : Position) (entry : Entry) (number : ℕ)
    (rest : Code A) (Post : A → Position → Type 0) → IsIn w b → MadeAt w b entry number
    → Grown b q
    → ((s : Position) → IsIn w s → Keeps w b s → here s ≡ number → SafeAt w s rest Post)
    → SafeAt w q (resume number >> rest) Post
resume_then w b q entry number rest Post inside made grown next =
    safe_then w q (resume number) (λ _. rest) (λ _ s. Keeps w b s × (here s ≡ number)) Post
    (resume_in w b q entry number inside made grown) (λ _ s in_s got. next s in_s got.0 got.1)

-- After a last instruction a new block goes on.
pub new_block_in : (w : Whole) (p : Position) → SafeAt w p in_new_block (λ _ q. Keeps w p q)
new_block_in w p = safe_in w p in_new_block (λ _ q. Keeps w p q) (λ inside.
    block_then w p p Anywhere resume (λ _ q. Keeps w p q) (keeps_self w p) refl
    (λ number s in_s made keeps there.
    safe_weaker w s (resume number) (λ _ t. Keeps w p t × (here t ≡ number))
    (λ _ t. Keeps w p t)
    (resume_in w p s Anywhere number inside made (grown_keeps w p s keeps))
    (λ _ t in_t got. got.0)))

-- a block to which `break` or `continue` may lead, from a later position too
pub target_still : (w : Whole) (p q : Position) (number : ℕ) → Follows w p q → IsTarget w p number
    → IsTarget w q number
target_still w p q number follows target = record {
  one = target.one;
  made = target.made;
  entry = target.entry;
  passes = λ r holds. follows.under r (target.passes r holds);
}

-- both blocks to which `break` and `continue` may lead
pub targets_still : (w : Whole) (p q : Position) (targets : Targets) → Follows w p q
    → TargetsOk w p targets → TargetsOk w q targets
targets_still w p q targets follows ok = record {
  breaks = λ number is. target_still w p q number follows (ok.breaks number is);
  continues = λ number is. target_still w p q number follows (ok.continues number is);
}

-- a block that was made for every way
pub made_target : (w : Whole) (b q : Position) (number : ℕ) → MadeAt w b Anywhere number
    → Follows w b q → IsTarget w q number
made_target w b q number made follows = record {
  one = record { entry = Anywhere; from = here b };
  made = made;
  entry = refl;
  passes = follows.under;
}

module _ (tables : Tables) (functions : List Function) (w : Whole)
    (of : IsOfGraph tables functions w) where
  -- a jump to a block that was made for every way
  pub jump_target : (q : Position) (to : ℕ) → IsTarget w q to
      → SafeAt w q (jump to) (λ _. MadeLast w q)
  jump_target q to target =
      jump_in tables functions w of q to target.one target.made target.entry target.passes

  -- a way of a last instruction leads to a block that was made for every way
  pub leads_to : (q : Position) (last : Last) (index to : ℕ) → IsTarget w q to
      → LeadsOk w (here q) last index to
  leads_to q last index to target = record {
    one = target.one;
    made = target.made;
    entry = subst (EntersBy last index) (sym target.entry) tt;
    passes = target.passes;
  }

  -- a branch to two blocks that were made for every way
  pub branch_in : (q : Position) (given : Operand) (first second : ℕ) → IsValue w q types.Bool given
      → IsTarget w q first → IsTarget w q second
      → SafeAt w q (close (Branch given first second)) (λ _. MadeLast w q)
  branch_in q given first second value to_yes to_no =
      close_in tables functions w of q (Branch given first second) value.kind
      (reads_one w q.writes (here q) given.reg value.set) leads where
        leads : (index to : ℕ) → slice_get (first ∷ second ∷ []) index ≡ Some to
            → LeadsOk w (here q) (Branch given first second) index to
        leads zero to is =
            leads_to q (Branch given first second) zero to
            (subst (IsTarget w q) (same_Some first to is) to_yes)
        leads (suc zero) to is =
            leads_to q (Branch given first second) (suc zero) to
            (subst (IsTarget w q) (same_Some second to is) to_no)
        leads (suc (suc index)) to is = absurd (none-some to is)

  -- code after a jump
  pub jump_then : {A : Type 0} (q : Position) (to : ℕ) (rest : Code A)
      (Post : A → Position → Type 0) → IsTarget w q to
      → ((s : Position) → IsIn w s → Keeps w q s → SafeAt w s rest Post)
      → SafeAt w q (jump to >> rest) Post
  jump_then q to rest Post target next =
      safe_then w q (jump to) (λ _. rest) (λ _. MadeLast w q) Post (jump_target q to target)
      (λ _ s in_s closed. next s in_s closed.keeps)

  -- `break` and `continue`
  pub leave_in : (p : Position) (to : Option ℕ) → ((n : ℕ) → to ≡ Some n → IsTarget w p n)
      → SafeAt w p (leave tables to) (λ _ q. Keeps w p q)
  leave_in p to targets =
      safe_then w p (known 0 to) (λ number. jump number >> in_new_block)
      (λ number q. (to ≡ Some number) × (q ≡ p)) (λ _ q. Keeps w p q)
      (safe_known w p 0 to (λ number q. (to ≡ Some number) × (q ≡ p)) (λ number is. (is, refl)))
      (λ number q inside is.
      subst (λ s. SafeAt w s (jump number >> in_new_block) (λ _ t. Keeps w p t)) (sym is.1)
      (jump_then p number in_new_block (λ _ t. Keeps w p t) (targets number is.0)
      (λ s in_s keeps.
      safe_weaker w s in_new_block (λ _ t. Keeps w s t) (λ _ t. Keeps w p t)
      (new_block_in w s) (λ _ t in_t got. keeps_then w p s t keeps got))))
