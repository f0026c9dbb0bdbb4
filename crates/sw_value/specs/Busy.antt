-- The executors that are taken: what a state keeps of its jobs, to find whether an executor is
-- free.
use Rattle.std.specs.Prelude.{◌≡◌, ℕ, ◌+◌, Bool, true, false, Option, Some, None, List, count_by}
use Rattle.std.specs.Prelude.{if◌then◌else◌, option_and_then}
use Rattle.sw_value.specs.declared.executor.Executor.{Executor}
use Rattle.sw_value.specs.declared.executor.Executor.TheVariants.{Generic}
use Rattle.sw_value.specs.declared.job.Job.{Job}
use Rattle.sw_value.specs.Executor.{is_same}
use Rattle.sw_value.specs.Job.{top_frame, is_running, runs_on}

-- an executor, unless it is the generic one, which is never taken
abbrev pub exclusive : Executor → Option Executor
exclusive Generic = None
exclusive e = Some e

abbrev pub is_exclusive : Executor → Bool
is_exclusive Generic = false
is_exclusive _ = true

-- the executor that a job takes: that of its top frame, if it runs
unfoldable pub held : Job → Option Executor
held job =
    if is_running job then option_and_then (λ frame. exclusive frame.executor) (top_frame job)
    else None

-- how often an executor is among others
abbrev pub times : Executor → List Executor → ℕ
times e busy = count_by (λ b. is_same b e) busy

abbrev pub time : Executor → Option Executor → ℕ
time e None = 0
time e (Some b) = if is_same b e then 1 else 0

-- one executor is taken out, and another is put in
pub record IsReplaced (out in_place : Option Executor) (before after : List Executor) : Type 0 where
  pub each : (e : Executor) → times e after + time e out ≡ times e before + time e in_place

-- Each executor but the generic one is there as often as jobs run on it.
pub record IsBusy (busy : List Executor) (jobs : List Job) : Type 0 where
  pub each : (e : Executor) → is_exclusive e ≡ true → times e busy ≡ count_by (runs_on e) jobs
