-- Pieces of code: each is a plan and a run that does what the plan says. They are put after each
-- other by `>>=`.
use Rattle.std.specs.Prelude.{ℕ, false, List, [], ◌∷◌, Option, Ok}
use Rattle.std.specs.Option.{unwrap_or}
use Rattle.sw_graph.specs.declared.function.RegKind.{RegKind}
use Rattle.sw_graph.specs.declared.instr.Instr.{Instr}
use Rattle.sw_graph.specs.declared.instr.Last.{Last}
use Rattle.sw_lower_plans.specs.Plan.{Entry, Plan, nothing, plan_after, plan_bind, plan_block}
use Rattle.sw_lower_plans.specs.Plan.{plan_close, plan_emit, plan_reg, plan_resume, plan_scope}
use Rattle.sw_lower_plans.specs.Plan.{var_in}
use Rattle.sw_lower_plans.specs.Run.{IsGoing, Making, Meets, Run, place_of, run_after, run_bind}
use Rattle.sw_lower_plans.specs.Run.{run_block, run_close, run_emit, run_front, run_known}
use Rattle.sw_lower_plans.specs.Run.{run_number, run_reg, run_resume, run_scope, run_var}
use Rattle.sw_lower_plans.specs.declared.bound.Bound.{Bound}
use Rattle.sw_lower_plans.specs.declared.name.FunctionName.{FunctionName}
use Rattle.sw_lower_plans.proofs.SameParts.{same_bind, same_block, same_close, same_done, same_emit}
use Rattle.sw_lower_plans.proofs.SameParts.{same_front, same_known, same_number, same_reg}
use Rattle.sw_lower_plans.proofs.SameParts.{same_resume, same_var}
use Rattle.sw_lower_plans.proofs.SameThen.{same_scope, same_then}

pub record Code (A : Type 0) : Type 0 where
  pub run : Run A
  pub plan : Plan A
  pub same : (making : Making) → IsGoing making
      → Meets making (run making) (plan (place_of making))

-- nothing is made, and this is given
unfoldable pub done : {A : Type 0} → A → Code A
done value = record {
  run = λ making. Ok (value, making);
  plan = nothing value;
  same = same_done value;
}

-- a register of a kind; its number is given
unfoldable pub reg : RegKind → Code ℕ
reg kind = record { run = run_reg kind; plan = plan_reg kind; same = same_reg kind }

-- a block that is entered so; its number is given
unfoldable pub block_for : Entry → Code ℕ
block_for entry = record { run = run_block; plan = plan_block entry; same = same_block entry }

-- an instruction of the block that goes on
unfoldable pub emit : Instr → Code (Unit {0})
emit instr = record { run = run_emit instr; plan = plan_emit instr; same = same_emit instr }

-- a payload at the front of the block that goes on
unfoldable pub front : Instr → Code (Unit {0})
front instr = record { run = run_front instr; plan = plan_emit instr; same = same_front instr }

-- the block that goes on gets its last instruction
unfoldable pub close : Last → Code (Unit {0})
close last = record { run = run_close last; plan = plan_close last; same = same_close last }

-- another block goes on
unfoldable pub resume : ℕ → Code (Unit {0})
resume number = record {
  run = run_resume number;
  plan = plan_resume number;
  same = same_resume number;
}

-- a variable, from here on
unfoldable pub bind : Bound → Code (Unit {0})
bind bound = record { run = run_bind bound; plan = plan_bind bound; same = same_bind bound }

abbrev pub no_var : Bound
no_var = record { key = 0; reg = 0; boxed = false }

-- the variable with a key
unfoldable pub var : ℕ → Code Bound
var key = record {
  run = run_var key;
  plan = λ place. nothing (unwrap_or (var_in key place.vars) no_var) place;
  same = same_var no_var key;
}

-- the number of a function
unfoldable pub number : FunctionName → Code ℕ
number name = record {
  run = run_number name;
  plan = λ place. nothing (unwrap_or (place.number name) 0) place;
  same = same_number 0 name;
}

-- something that is known of every accepted program
unfoldable pub known : {A : Type 0} → A → Option A → Code A
known fallback value = record {
  run = run_known value;
  plan = nothing (unwrap_or value fallback);
  same = same_known fallback value;
}

-- code, and after it code that takes its value
unfoldable pub andthen : {A B : Type 0} → Code A → (A → Code B) → Code B
andthen first next = record {
  run = λ making. run_after (first.run making) (λ value. (next value).run);
  plan = plan_after first.plan (λ value. (next value).plan);
  same = same_then first.run first.plan (λ value. (next value).run) (λ value. (next value).plan)
      first.same (λ value. (next value).same);
}

-- code whose variables are seen in it alone
unfoldable pub scope : {A : Type 0} → Code A → Code A
scope code = record {
  run = run_scope code.run;
  plan = plan_scope code.plan;
  same = same_scope code.run code.plan code.same;
}

infixr 10 ◌>>=◌
abbrev pub ◌>>=◌ : {A B : Type 0} → Code A → (A → Code B) → Code B
first >>= next = andthen first next

infixr 10 ◌>>◌
abbrev pub ◌>>◌ : {A B : Type 0} → Code A → Code B → Code B
first >> next = andthen first (λ value. next)

-- code for each item, in order, and all that it gives
unfoldable pub each : {A B : Type 0} → (A → Code B) → List A → Code (List B)
each code [] = done []
each code (x ∷ xs) = code x >>= λ y. each code xs >>= λ ys. done (y ∷ ys)

-- code for each item, in order
unfoldable pub all : {A : Type 0} → (A → Code (Unit {0})) → List A → Code (Unit {0})
all code [] = done tt
all code (x ∷ xs) = code x >> all code xs
