use Rattle.std.proofs.Common.{◌≡◌, ◌<◌, ◌+◌, ◌≤◌, Ok, length, drop, refl, sym, ap, ◌∙◌, inl, inr}
use Rattle.std.proofs.Common.{arith}
use Rattle.std.proofs.lemmas.List.{take_rest}
use Rattle.std.proofs.lemmas.Result.{err_from_is_err_and}
use Rattle.sw_scan.specs.declared.Step.TheVariants.{Skip, Take}
use Rattle.sw_scan.proofs.Turns as turns
use Rattle.sw_replay.specs.declared.text.Found.TheVariants as found
use Rattle.sw_replay.specs.Reading.{found_at, stepped, step, written, items_or_fault}
use Rattle.sw_replay.proofs.ScheduleSteps.{agrees, found_item, found_run}
use Rattle.sw_replay.proofs.ScheduleLaws.{written_out-push}
use Rattle.sw_replay.proofs.text.items_of.Goals as goal
use Rattle.sw_replay.proofs.text.items_of.Goals.{In-Separator, In-Run}

separator_is : (c : In-Separator)
    → found_at c.loop-runs.at c.loop-runs.count (drop c.loop-runs.at c.args.bytes.now)
    ≡ Ok found.Separator
separator_is c =
    let called = rw (take_rest c.args.bytes.now c.loop-runs.at) at c.found_at.ensures in
    let there = c.in_ok-found_at.was in
    let is = c.in-Separator.is in
    cc

run_is : (c : In-Run)
    → found_at c.loop-runs.at c.loop-runs.count (drop c.loop-runs.at c.args.bytes.now)
    ≡ Ok (found.Run c.in-Run.run')
run_is c =
    let called = rw (take_rest c.args.bytes.now c.loop-runs.at) at c.found_at.ensures in
    let there = c.in_ok-found_at.was in
    let is = c.in-Run.is in
    cc

skip_is : (c : In-Separator)
    → step c.loop-runs.at c.loop-runs.count (drop c.loop-runs.at c.args.bytes.now) ≡ Ok (Skip 1)
unfolding step
skip_is c = ap stepped (separator_is c)

take_is : (c : In-Run)
    → step c.loop-runs.at c.loop-runs.count (drop c.loop-runs.at c.args.bytes.now)
    ≡ Ok (Take c.in-Run.run'.len)
unfolding step
take_is c = ap stepped (run_is c)

skip_ahead : (c : In-Separator) → c.loop-runs.at + 1 ≤ length c.args.bytes.now
skip_ahead c = (turns.ahead agrees c.loop-runs.invariant.here 1 (inl (skip_is c))).1

take_ahead : (c : In-Run)
    → (0 < c.in-Run.run'.len) × (c.loop-runs.at + c.in-Run.run'.len ≤ length c.args.bytes.now)
take_ahead c =
    let ahead = turns.ahead agrees c.loop-runs.invariant.here c.in-Run.run'.len (inr (take_is c)) in
    (ahead.0, ahead.1)

pub loop-runs-init : goal.loop-runs-init
unfolding Rattle.sw_replay.specs.Reading.runs_or_fault
loop-runs-init c = record {
  here = rw c.new-runs.ensures (turns.starts agrees c.args.bytes.now 0 tt);
  counted = rw c.new-runs.ensures refl;
  few = omega arith;
}

pub returns-in_err-found_at : goal.returns-in_err-found_at
unfolding step items_or_fault
returns-in_err-found_at c =
    let called = rw (take_rest c.args.bytes.now c.loop-runs.at) at c.found_at.ensures in
    let there = c.in_err-found_at.was in
    let p = err_from_is_err_and c.from_residual.result c.from_residual.ensures.1 in
    rw (p.1, p.2) (λ _. ap written (turns.fails_with agrees c.loop-runs.invariant.here _
    (ap stepped (sym called ∙ there))))

pub returns-in-End : goal.returns-in-End
unfolding step items_or_fault
returns-in-End c =
    let called = rw (take_rest c.args.bytes.now c.loop-runs.at) at c.found_at.ensures in
    let there = c.in_ok-found_at.was in
    let is = c.in-End.is in
    let ended : found_at c.loop-runs.at c.loop-runs.count (drop c.loop-runs.at c.args.bytes.now)
    ≡ Ok found.End = cc in
    rw c.new.ensures
    (ap written (turns.ends_with agrees c.loop-runs.invariant.here (ap stepped ended)))

pub loop-runs-smaller-in-Separator : goal.loop-runs-smaller-in-Separator
loop-runs-smaller-in-Separator c =
    let ahead = skip_ahead (goal.at.loop-runs-smaller-in-Separator c).In-Separator in omega arith

pub loop-runs-preserved-in-Separator : goal.loop-runs-preserved-in-Separator
loop-runs-preserved-in-Separator c = record {
  here =
      turns.skips_on agrees c.loop-runs.invariant.here 1
      (skip_is (goal.at.loop-runs-preserved-in-Separator c).In-Separator);
  counted = c.loop-runs.invariant.counted;
  few = c.loop-runs.invariant.few;
}

pub overflow_add-at-in-Run : goal.overflow_add-at-in-Run
overflow_add-at-in-Run c =
    let ahead = take_ahead (goal.at.overflow_add-at-in-Run c).In-Run in omega arith

pub loop-runs-smaller : goal.loop-runs-smaller
loop-runs-smaller c = let ahead = take_ahead (goal.at.loop-runs-smaller c).In-Run in omega arith

pub loop-runs-preserved : goal.loop-runs-preserved
loop-runs-preserved c =
    let here = (goal.at.loop-runs-preserved c).In-Run in
    let rest = drop c.loop-runs.at c.args.bytes.now in
    let run = c.in-Run.run' in
    let parts = found_run c.loop-runs.at c.loop-runs.count rest run (run_is here) in
    let is = found_item c.loop-runs.at c.loop-runs.count rest run.len (take_is here) in
    let on = turns.takes_on agrees c.loop-runs.invariant.here run.len (take_is here) in
    let few = is.few in
    let longer = written_out-push c.loop-runs.runs run.job run.count in
    record {
      here = rw (c.in_ok-push-in-Run.ensures.ok, parts.0, parts.1) on;
      counted =
          rw c.in_ok-push-in-Run.ensures.ok (omega (arith, longer, c.loop-runs.invariant.counted));
      few = rw parts.1 few;
    }
