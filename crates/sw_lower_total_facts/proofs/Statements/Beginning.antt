-- What is known where the code of a statement begins is known after code in it that declares
-- nothing.
use Rattle.std.proofs.Common.{◌≡◌, ℕ, ◌+◌, ◌<◌, ◌≤◌, List, ◌++◌, length, arith, ap, ◌∙◌, subst, sym}
use Rattle.std.proofs.Common.{append-nil, Option}
use Rattle.std.proofs.lemmas.List.Elements.{Contains-append_left, Contains-append_right}
use Rattle.std.specs.Prelude.{Ok, Contains}
use Rattle.sw_graph.specs.declared.instr.Last.{Last}
use Rattle.sw_typing_rules.specs.declared.scope.Inside.{Inside}
use Rattle.sw_typing_rules.specs.declared.scope.Var.{Var}
use Rattle.sw_isolation_rules.specs.declared.note.Note.{Note}
use Rattle.sw_isolation_rules.specs.declared.uses.Context.{Context}
use Rattle.sw_lower_plans.specs.Plan.{Entry, Numbers}
use Rattle.sw_lower_plans.specs.Run.{Making, place_of}
use Rattle.sw_lower_code.specs.Code.{Code, andthen, block_for, close, resume}
use Rattle.sw_lower_rules.specs.Tables.{Tables}
use Rattle.sw_lower_rules.specs.declared.targets.Targets.{Targets}
use Rattle.sw_lower_total_facts.specs.Binding.{BindsNothing}
use Rattle.sw_lower_total_facts.specs.Bound.{InBoxes, Ready, seen_in}
use Rattle.sw_lower_total_facts.specs.Forms.{CodeProceeds, HasTarget, HasTargets}
use Rattle.sw_lower_total_facts.specs.Proceeding.{Proceeds}
use Rattle.sw_lower_total_facts.proofs.Binding.Codes.{nothing_block, nothing_close, nothing_resume}
use Rattle.sw_lower_total_facts.proofs.Proceeding.Ready.{ready_after, ready_less}
use Rattle.sw_lower_total_facts.proofs.Proceeding.Steps.{proceeds_block, proceeds_close, proceeds_resume}
use Rattle.sw_lower_total_facts.proofs.Proceeding.Then.{Ran, proceeds_then}

-- where a body may be left, once there are more blocks
target_still : (s t : Making) (to : Option ℕ) → length s.made.blocks ≤ length t.made.blocks
    → HasTarget s to → HasTarget t to
target_still s t to more target = record {
  block = target.block;
  is = target.is;
  made = omega (arith, more, target.made);
}

pub targets_still : (inside : Inside) (s t : Making) (targets : Targets)
    → length s.made.blocks ≤ length t.made.blocks → HasTargets inside s targets
    → HasTargets inside t targets
targets_still inside s t targets more has = record {
  breaks = λ is. target_still s t targets.breaks more (has.breaks is);
  continues = λ is. target_still s t targets.continues more (has.continues is);
}

-- in a part that may be left in the same ways
pub targets_for : (inside other : Inside) (s : Making) (targets : Targets)
    → other.leaves ≡ inside.leaves → other.loops ≡ inside.loops → HasTargets inside s targets
    → HasTargets other s targets
targets_for inside other s targets leaves loops has = record {
  breaks = λ is. has.breaks (sym leaves ∙ is);
  continues = λ is. has.continues (sym loops ∙ is);
}

-- Code that declares nothing leaves the variables as they are.
pub vars_still : {A : Type 0} (code : Code A) (s t : Making) (value : A) → BindsNothing code
    → Ran code s value t → t.vars ≡ s.vars
vars_still code s t value nothing ran =
    ran.1.vars ∙ ap (λ vars. s.vars ++ vars) (nothing (place_of s)) ∙ append-nil s.vars

-- Blocks stay.
pub blocks_more : {A : Type 0} (code : Code A) (s t : Making) (value : A) → Ran code s value t
    → length s.made.blocks ≤ length t.made.blocks
blocks_more code s t value ran = omega (arith, ran.1.blocks)

-- a block that was made
pub record MadeBlock (s t : Making) (block : ℕ) : Type 0 where
  pub is : block ≡ length s.made.blocks
  pub more : length t.made.blocks ≡ 1 + length s.made.blocks

pub made_block : (entry : Entry) (s t : Making) (block : ℕ) → Ran (block_for entry) s block t
    → MadeBlock s t block
unfolding block_for
made_block entry s t block ran = record { is = ran.0; more = omega (arith, ran.1.blocks) }

module _ (tables : Tables) (number : Numbers) (context : Context) (listed : List ℕ) where
  -- What is known where the code of a statement begins.
  pub record Begins (inside : Inside) (vars : List Var) (notes : List Note) (targets : Targets)
      (making : Making) : Type 0 where
    pub ready : Ready tables number context listed (seen_in tables context.owner vars) notes making
    pub boxes : InBoxes tables listed making.vars
    pub has : HasTargets inside making targets

  -- So code proceeds, as it is claimed.
  pub proceeds_by : (inside : Inside) (vars : List Var) (notes : List Note)
      (code : Targets → Code (Unit {0}))
      → ((targets : Targets) (s : Making) → Begins inside vars notes targets s
      → Proceeds s (code targets))
      → CodeProceeds tables number context listed inside vars notes code
  proceeds_by inside vars notes code one targets s ready boxes has =
      one targets s (record { ready = ready; boxes = boxes; has = has })

  pub by_begins : (inside : Inside) (vars : List Var) (notes : List Note)
      (code : Targets → Code (Unit {0})) (targets : Targets) (s : Making)
      → CodeProceeds tables number context listed inside vars notes code
      → Begins inside vars notes targets s → Proceeds s (code targets)
  by_begins inside vars notes code targets s proceeds begins =
      proceeds targets s begins.ready begins.boxes begins.has

  -- for fewer notes
  pub begins_less : (inside : Inside) (vars : List Var) (notes fewer : List Note)
      (targets : Targets) (s : Making)
      → ((note : Note) → Contains fewer note → Contains notes note)
      → Begins inside vars notes targets s → Begins inside vars fewer targets s
  begins_less inside vars notes fewer targets s among begins = record {
    ready = ready_less tables number context listed (seen_in tables context.owner vars) notes fewer
        s among begins.ready;
    boxes = begins.boxes;
    has = begins.has;
  }

  pub begins_left : (inside : Inside) (vars : List Var) (first second : List Note)
      (targets : Targets) (s : Making) → Begins inside vars (first ++ second) targets s
      → Begins inside vars first targets s
  begins_left inside vars first second targets s begins =
      begins_less inside vars (first ++ second) first targets s
      (Contains-append_left first second) begins

  pub begins_right : (inside : Inside) (vars : List Var) (first second : List Note)
      (targets : Targets) (s : Making) → Begins inside vars (first ++ second) targets s
      → Begins inside vars second targets s
  begins_right inside vars first second targets s begins =
      begins_less inside vars (first ++ second) second targets s
      (Contains-append_right first second) begins

  -- in another part, with its targets
  pub begins_in : (inside other : Inside) (vars : List Var) (notes : List Note)
      (targets later : Targets) (s : Making) → HasTargets other s later
      → Begins inside vars notes targets s → Begins other vars notes later s
  begins_in inside other vars notes targets later s has begins =
      record { ready = begins.ready; boxes = begins.boxes; has = has }

  module _ (inside : Inside) (vars : List Var) (notes : List Note) (targets : Targets) where
    -- after code that declares nothing
    pub begins_after : {A : Type 0} (code : Code A) (s t : Making) (value : A) → BindsNothing code
        → Begins inside vars notes targets s → Ran code s value t
        → Begins inside vars notes targets t
    begins_after code s t value nothing begins ran = record {
      ready = ready_after tables number context listed (code.plan (place_of s))
          (seen_in tables context.owner vars) notes s t ran.1 begins.ready;
      boxes = subst (InBoxes tables listed) (sym (vars_still code s t value nothing ran))
          begins.boxes;
      has = targets_still inside s t targets (blocks_more code s t value ran) begins.has;
    }

    -- Code after such code proceeds.
    pub then_begins : {A B : Type 0} (first : Code A) (next : A → Code B) (s : Making)
        → BindsNothing first → Begins inside vars notes targets s → Proceeds s first
        → ((value : A) (t : Making) → Begins inside vars notes targets t
        → length s.made.blocks ≤ length t.made.blocks → first.run s ≡ Ok (value, t)
        → Ran first s value t → Proceeds t (next value))
        → Proceeds s (andthen first next)
    then_begins first next s nothing begins one two =
        proceeds_then first next s begins.ready.going one
        (λ value t is ran.
        two value t (begins_after first s t value nothing begins ran)
        (blocks_more first s t value ran) is ran)

    -- a block that is made, and what comes after it
    pub then_block : {B : Type 0} (entry : Entry) (next : ℕ → Code B) (s : Making)
        → Begins inside vars notes targets s
        → ((block : ℕ) (t : Making) → Begins inside vars notes targets t → MadeBlock s t block
        → (block_for entry).run s ≡ Ok (block, t) → Proceeds t (next block))
        → Proceeds s (andthen (block_for entry) next)
    then_block entry next s begins two =
        then_begins (block_for entry) next s (nothing_block entry) begins (proceeds_block entry s)
        (λ block t begins_t more is ran.
        two block t begins_t (made_block entry s t block ran) is)

    -- a last instruction
    pub then_close : {B : Type 0} (last : Last) (next : Code B) (s : Making)
        → Begins inside vars notes targets s
        → ((t : Making) → Begins inside vars notes targets t
        → length s.made.blocks ≤ length t.made.blocks → (close last).run s ≡ Ok (tt, t)
        → Proceeds t next)
        → Proceeds s (andthen (close last) (λ _. next))
    then_close last next s begins two =
        then_begins (close last) (λ _. next) s (nothing_close last) begins (proceeds_close last s)
        (λ _ t begins_t more is ran. two t begins_t more is)

    -- a block that was made goes on
    pub then_resume : {B : Type 0} (to : ℕ) (next : Code B) (s : Making)
        → to < length s.made.blocks → Begins inside vars notes targets s
        → ((t : Making) → Begins inside vars notes targets t
        → length s.made.blocks ≤ length t.made.blocks → (resume to).run s ≡ Ok (tt, t)
        → Proceeds t next)
        → Proceeds s (andthen (resume to) (λ _. next))
    then_resume to next s below begins two =
        then_begins (resume to) (λ _. next) s (nothing_resume to) begins
        (proceeds_resume to s below) (λ _ t begins_t more is ran. two t begins_t more is)
