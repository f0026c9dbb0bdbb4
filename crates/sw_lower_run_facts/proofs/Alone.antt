-- The code of each form writes into the block that goes on and into blocks that it makes alone, and
-- ends no other blocks.
use Rattle.std.proofs.Common.{ℕ, ◌≤◌, inr, Option, List, [], ◌∷◌, ◌++◌, arith}
use Rattle.std.specs.List.{AllByRecursion}
use Rattle.sw_graph.specs.declared.function.RegKind.{RegKind}
use Rattle.sw_graph.specs.declared.instr.Instr.{Instr}
use Rattle.sw_graph.specs.declared.instr.Last.{Last}
use Rattle.sw_lower_plans.specs.Plan.{Entry, Place, after}
use Rattle.sw_lower_plans.specs.declared.bound.Bound.{Bound}
use Rattle.sw_lower_plans.specs.declared.name.FunctionName.{FunctionName}
use Rattle.sw_lower_code.specs.Code as steps
use Rattle.sw_lower_code.specs.Code.{Code, andthen}
use Rattle.sw_lower_rules.specs.Tables.{Tables}
use Rattle.sw_lower_code_facts.specs.Kept.{Kept, KeptByForms}
use Rattle.sw_lower_code_facts.specs.Said.{Said}
use Rattle.sw_lower_code_facts.specs.Steps.{KeptByBlocks, KeptByStatements, KeptByVariables}
use Rattle.sw_lower_code_facts.proofs.Calls.{kept_by_forms}
use Rattle.sw_lower_code_facts.proofs.Logic.{has_both, has_either}
use Rattle.sw_lower_code_facts.proofs.Statements.{said_by_steps}
use Rattle.sw_lower_run_facts.specs.Apart.{Apart}

-- each of two lists
all_both : {A : Type 0} (Is : A → Type 0) (xs ys : List A) → AllByRecursion Is xs
    → AllByRecursion Is ys → AllByRecursion Is (xs ++ ys)
all_both Is [] ys first second = second
all_both Is (x ∷ xs) ys first second = (first.0, all_both Is xs ys first.1 second)

module _ (count own : ℕ) where
  abbrev pub Has : {A : Type 0} → Code A → Type 0
  Has code = Apart count own code

  -- what is so of the value that code gives, where as many blocks are made as the count
  abbrev pub Yields : {A : Type 0} → (A → Type 0) → Code A → Type 0
  Yields Is code = (place : Place) → count ≤ place.blocks → Is (code.plan place).value

  pub after_with : {A B : Type 0} (Is : A → Type 0) (first : Code A) (next : A → Code B) → Has first
      → Yields Is first → ((value : A) → Is value → Has (next value)) → Has (andthen first next)
  unfolding andthen
  after_with Is first next one gives two place made here =
      let piece = first.plan place in
      let a = one place made here in
      let b = two piece.value (gives place made) (after place piece)
      (omega (arith, made)) a.there in
      record {
        writes = all_both _ piece.writes _ a.writes b.writes;
        lasts = all_both _ piece.lasts _ a.lasts b.lasts;
        there = b.there;
      }

  pub after_any : {A B : Type 0} (first : Code A) (next : A → Code B) → Has first
      → ((value : A) → Has (next value)) → Has (andthen first next)
  after_any first next one two =
      after_with (λ value. Unit {0}) first next one (λ place made. tt) (λ value is. two value)

  -- nothing is written or ended, and the same block goes on
  pub done_apart : {A : Type 0} (value : A) → Has (steps.done value)
  unfolding steps.done
  done_apart value place made here = record { writes = tt; lasts = tt; there = here }

  pub known_apart : {A : Type 0} (fallback : A) (found : Option A)
      → Has (steps.known fallback found)
  unfolding steps.known
  known_apart fallback found place made here = record { writes = tt; lasts = tt; there = here }

  pub var_apart : (key : ℕ) → Has (steps.var key)
  unfolding steps.var
  var_apart key place made here = record { writes = tt; lasts = tt; there = here }

  pub number_apart : (name : FunctionName)
      → Has (steps.number name)
  unfolding steps.number
  number_apart name place made here = record { writes = tt; lasts = tt; there = here }

  pub reg_apart : (kind : RegKind)
      → Has (steps.reg kind)
  unfolding steps.reg
  reg_apart kind place made here = record { writes = tt; lasts = tt; there = here }

  pub bind_apart : (bound : Bound)
      → Has (steps.bind bound)
  unfolding steps.bind
  bind_apart bound place made here = record { writes = tt; lasts = tt; there = here }

  pub emit_apart : (instr : Instr) → Has (steps.emit instr)
  unfolding steps.emit
  emit_apart instr place made here = record { writes = (here, tt); lasts = tt; there = here }

  pub front_apart : (instr : Instr) → Has (steps.front instr)
  unfolding steps.front
  front_apart instr place made here = record { writes = (here, tt); lasts = tt; there = here }

  pub close_apart : (last : Last) → Has (steps.close last)
  unfolding steps.close
  close_apart last place made here = record { writes = tt; lasts = (here, tt); there = here }

  pub resume_apart : (number : ℕ) → count ≤ number → Has (steps.resume number)
  unfolding steps.resume
  resume_apart number fresh place made here =
      record { writes = tt; lasts = tt; there = inr fresh }

  pub block_apart : (entry : Entry) → Has (steps.block_for entry)
  unfolding steps.block_for
  block_apart entry place made here = record { writes = tt; lasts = tt; there = here }

  pub block_yields : (entry : Entry) → Yields (λ number. count ≤ number) (steps.block_for entry)
  unfolding steps.block_for
  block_yields entry place made = made

  pub scope_apart : {A : Type 0} (code : Code A) → Has code → Has (steps.scope code)
  unfolding steps.scope
  scope_apart code has place made here =
      let all = has place made here in
      record { writes = all.writes; lasts = all.lasts; there = all.there }

  pub yields_done : {A : Type 0} (Is : A → Type 0) (value : A) → Is value
      → Yields Is (steps.done value)
  unfolding steps.done
  yields_done Is value is place made = is

  pub yields_after : {A B : Type 0} (Is : A → Type 0) (Are : B → Type 0) (first : Code A)
      (next : A → Code B) → Yields Is first → ((value : A) → Is value → Yields Are (next value))
      → Yields Are (andthen first next)
  unfolding andthen
  yields_after Is Are first next one two place made =
      let piece = first.plan place in
      two piece.value (one place made) (after place piece) (omega (arith, made))

  abbrev pub apart : Kept
  apart = record {
    Has = λ code. Has code;
    done = done_apart;
    after = after_any;
    known = known_apart;
    var = var_apart;
    number = number_apart;
    reg = reg_apart;
    emit = λ instr so. emit_apart instr;
  }

  abbrev pub apart_blocks : KeptByBlocks apart
  apart_blocks = record {
    Fresh = λ block. count ≤ block;
    after_block = λ entry next has.
        after_with (λ block. count ≤ block) (steps.block_for entry) next (block_apart entry)
        (block_yields entry) has;
    close = close_apart;
    resume = resume_apart;
  }

  abbrev pub apart_variables : KeptByVariables apart
  apart_variables = record { bind = bind_apart; front = λ instr so. front_apart instr }

  abbrev pub apart_statements : KeptByStatements apart apart_blocks
  apart_statements = record {
    Gives = λ Is code. Yields Is code;
    gives_any = λ code place made. tt;
    gives_done = yields_done;
    gives_after = yields_after;
    gives_block = block_yields;
    after_given = after_with;
    scope = scope_apart;
  }

  -- so it is for calls, and for all statements
  abbrev pub apart_forms : (tables : Tables) (owner : Option ℕ)
      → KeptByForms apart tables owner
  apart_forms tables owner =
      kept_by_forms apart emit_apart tables owner (has_both apart apart_blocks)
      (has_either apart apart_blocks)

  abbrev pub apart_said : (tables : Tables) → Said apart tables
  apart_said tables = said_by_steps apart apart_blocks apart_variables apart_statements tables
