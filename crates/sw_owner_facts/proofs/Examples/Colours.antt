-- What each move of colours needs, and what a job needs to run.
use Rattle.std.specs.Prelude.{◌≡◌, ℕ, zero, suc, Bool, true, false, IsTrue, None, List, [], ◌∷◌}
use Rattle.std.specs.Prelude.{◌&&◌, refl}
use Rattle.std.proofs.Common.{subst, arith}
use Rattle.sw_owner_facts.specs.Colours.{Actor, Colour, Executor, Generic, On}
use Rattle.sw_owner_facts.specs.View.{Frame, Here, Register, FunctionIsolation, Nonisolated, IsolatedTo}
use Rattle.sw_owner_facts.specs.View.{MakesActor, FrameShape, RunsOn}
use Rattle.sw_owner_facts.specs.Within.{BeginsClosing}
use Rattle.sw_owner_facts.specs.Sketch.{RegisterSketch, Row, Job, view_of}
use Rattle.sw_owner_facts.specs.Premises.{IsNeeded, IsPossible, StaysSound, LeavesNothing, MergedPremise}
use Rattle.sw_owner_facts.specs.Premises.{merged_says, Top, HoldsLost, HoldsKept, Recolours, Joined}
use Rattle.sw_owner_facts.specs.Premises.{UnheldPremise, unheld_says, Unheld, SameShape, HereTurns, Held}
use Rattle.sw_owner_facts.specs.Premises.{GivenPremise, given_says, Weakens, Free, Gone, ClosedPremise}
use Rattle.sw_owner_facts.specs.Premises.{closed_says, Jobs, NewShape, SameHere, Others, HandsOver}
use Rattle.sw_owner_facts.specs.Premises.{HandsOverPremise, hands_over_says, Closes, Makes}
use Rattle.sw_owner_facts.specs.Premises.{DispatchedPremise, dispatched_says, Heights, Running, Frames}
use Rattle.sw_owner_facts.specs.Premises.{Exclusive}
use Rattle.sw_owner_facts.proofs.Sketches.Tests.{sound_view}
use Rattle.sw_owner_facts.proofs.Sketches.Reading.{there, same_heights, fewer_run, all_kept_but, kept_but}
use Rattle.sw_owner_facts.proofs.Sketches.Moves.{same_jobs}
use Rattle.sw_owner_facts.proofs.Sketches.Premises.{closed_by, dispatched_by, given_by, merged_by}
use Rattle.sw_owner_facts.proofs.Sketches.Premises.{unheld_by, runs_by}
use Rattle.sw_owner_facts.proofs.Examples.Views.{bank, banks, mine, yours, nobodys, main, callee, task}
use Rattle.sw_owner_facts.proofs.Examples.Views.{called, free, on_bank, slot, dead, row, runs, waits}

-- ---- two colours become one
-- one frame with two registers: their regions and colours
abbrev regs : ℕ → Colour → ℕ → Colour → List Job
regs region c other d = runs (row free (mine 0) (slot region (c ∷ []) ∷ slot other (d ∷ []) ∷ []) ∷
    []) ∷ []

pub merged_possible : IsPossible merged_says
merged_possible = record {
  old = view_of (regs 1 (mine 1) 2 (mine 2));
  new = view_of (regs 1 (mine 2) 1 (mine 2));
  at = (main, Register 0, Register 1, 1, mine 2);
  sound = sound_view (regs 1 (mine 1) 2 (mine 2)) refl;
  all = elim [
    | Top ↦ merged_by (regs 1 (mine 1) 2 (mine 2)) (regs 1 (mine 2) 1 (mine 2)) main (Register 0)
        (Register 1) 1 (mine 2) Top refl
    | other ↦ merged_by (regs 1 (mine 1) 2 (mine 2)) (regs 1 (mine 2) 1 (mine 2)) main (Register 0)
        (Register 1) 1 (mine 2) other refl
  ];
}

-- a callee that left the bank, to which its caller is isolated: what it shares with it, and the
-- region of that
abbrev left_bank : Colour → ℕ → List Job
left_bank c region = runs (row on_bank banks (slot region (c ∷ []) ∷ []) ∷ row free c [] ∷ []) ∷ []

-- a caller with two registers, of which the callee's `Here` has the colour of the second
abbrev below_two : Colour → Colour → List Job
below_two c d = runs (row free (mine 0) (slot 1 (c ∷ []) ∷ slot 2 (d ∷ []) ∷ []) ∷ row free d [] ∷
    []) ∷ []

pub merged_needed : (premise : MergedPremise) → IsNeeded merged_says StaysSound premise
merged_needed Top = record {
  old = view_of (left_bank (mine 1) 1);
  new = view_of (left_bank banks 0);
  at = (main, Register 0, Here, 1, banks);
  sound = sound_view (left_bank (mine 1) 1) refl;
  others = elim [
    | Top ↦ λ n. absurd (n refl)
    | other ↦ λ _. merged_by (left_bank (mine 1) 1) (left_bank banks 0) main
        (Register 0) Here 1 banks other refl
  ];
  fails = λ s. cc (s.owned.owned (there (left_bank banks 0) callee Here banks refl));
}
merged_needed HoldsLost = record {
  old = view_of (below_two (mine 1) (mine 2));
  new = view_of (below_two (mine 2) (mine 2));
  at = (callee, Here, Here, 1, mine 2);
  sound = sound_view (below_two (mine 1) (mine 2)) refl;
  others = elim [
    | HoldsLost ↦ λ n. absurd (n refl)
    | other ↦ λ _. merged_by (below_two (mine 1) (mine 2)) (below_two (mine 2) (mine 2)) callee Here
        Here 1 (mine 2) other refl
  ];
  fails = λ s. cc (s.owned.together (there (below_two (mine 2) (mine 2)) main (Register 0) (mine 2)
      refl) (there (below_two (mine 2) (mine 2)) main (Register 1) (mine 2) refl));
}
merged_needed HoldsKept = record {
  old = view_of (regs 1 (mine 1) 2 (mine 2));
  new = view_of (regs 1 nobodys 2 (mine 2));
  at = (main, Register 0, Register 0, 1, nobodys);
  sound = sound_view (regs 1 (mine 1) 2 (mine 2)) refl;
  others = elim [
    | HoldsKept ↦ λ n. absurd (n refl)
    | other ↦ λ _. merged_by (regs 1 (mine 1) 2 (mine 2)) (regs 1 nobodys 2 (mine 2)) main
        (Register 0) (Register 0) 1 nobodys other refl
  ];
  fails = λ s. cc (s.owned.owned (there (regs 1 nobodys 2 (mine 2)) main (Register 0) nobodys
      refl));
}
merged_needed Recolours = record {
  old = view_of (regs 1 (mine 1) 2 (mine 2));
  new = view_of (regs 1 nobodys 1 (mine 2));
  at = (main, Register 0, Register 1, 1, mine 2);
  sound = sound_view (regs 1 (mine 1) 2 (mine 2)) refl;
  others = elim [
    | Recolours ↦ λ n. absurd (n refl)
    | other ↦ λ _. merged_by (regs 1 (mine 1) 2 (mine 2)) (regs 1 nobodys 1 (mine 2)) main
        (Register 0) (Register 1) 1 (mine 2) other refl
  ];
  fails = λ s. cc (s.owned.owned (there (regs 1 nobodys 1 (mine 2)) main (Register 0) nobodys
      refl));
}
merged_needed Joined = record {
  old = view_of (regs 1 (mine 1) 2 (mine 2));
  new = view_of (regs 1 (mine 2) 2 (mine 2));
  at = (main, Register 0, Register 1, 1, mine 2);
  sound = sound_view (regs 1 (mine 1) 2 (mine 2)) refl;
  others = elim [
    | Joined ↦ λ n. absurd (n refl)
    | other ↦ λ _. merged_by (regs 1 (mine 1) 2 (mine 2)) (regs 1 (mine 2) 2 (mine 2)) main
        (Register 0) (Register 1) 1 (mine 2) other refl
  ];
  fails = λ s. cc (s.owned.together (there (regs 1 (mine 2) 2 (mine 2)) main (Register 0) (mine 2)
      refl) (there (regs 1 (mine 2) 2 (mine 2)) main (Register 1) (mine 2) refl));
}

-- ---- a colour that nothing live holds
-- the second register is not live, and has this colour still
abbrev ghost : Colour → List Job
ghost c = runs (row free (mine 0) (slot 1 (mine 1 ∷ []) ∷ record {
  live = false;
  region = 2;
  colours = c ∷ [];
} ∷ []) ∷ []) ∷ []

-- a job with a call, or without it, beside one that runs on the bank
abbrev deep : List Row → List Job
deep rows = runs (row on_bank banks [] ∷ rows) ∷ runs (row on_bank banks [] ∷ []) ∷ []

abbrev as_isolated : List Job
as_isolated = runs (row on_bank (mine 0) (slot 1 (mine 1 ∷ []) ∷ slot 2 (mine 2 ∷ []) ∷ []) ∷ []) ∷
    []

abbrev closing_here : Colour → List Job
closing_here here = runs
    (row (record {
      isolation = IsolatedTo bank;
      executor = On bank;
      crossing = true;
      closing = true;
      result = None;
    }) here [] ∷ []) ∷ []

pub unheld_possible : IsPossible unheld_says
unheld_possible = record {
  old = view_of (ghost (mine 2));
  new = view_of (ghost banks);
  at = (0, 2, banks);
  sound = sound_view (ghost (mine 2)) refl;
  all = elim [
    | Unheld ↦ unheld_by (ghost (mine 2)) (ghost banks) 0 2 banks Unheld refl
    | other ↦ unheld_by (ghost (mine 2)) (ghost banks) 0 2 banks other refl
  ];
}

pub unheld_needed : (premise : UnheldPremise) → IsNeeded unheld_says StaysSound premise
unheld_needed Unheld = record {
  old = view_of (regs 1 (mine 1) 2 (mine 2));
  new = view_of (regs 1 banks 2 (mine 2));
  at = (0, 1, banks);
  sound = sound_view (regs 1 (mine 1) 2 (mine 2)) refl;
  others = elim [
    | Unheld ↦ λ n. absurd (n refl)
    | other ↦ λ _. unheld_by (regs 1 (mine 1) 2 (mine 2)) (regs 1 banks 2 (mine 2)) 0 1 banks other
        refl
  ];
  fails = λ s. cc (s.owned.owned (there (regs 1 banks 2 (mine 2)) main (Register 0) banks refl));
}
unheld_needed Jobs = record {
  old = view_of (deep (row free (mine 0) [] ∷ []));
  new = view_of (deep []);
  at = (0, 7, banks);
  sound = sound_view (deep (row free (mine 0) [] ∷ [])) refl;
  others = elim [
    | Jobs ↦ λ n. absurd (n refl)
    | other ↦ λ _. unheld_by (deep (row free (mine 0) [] ∷ [])) (deep []) 0 7 banks other refl
  ];
  fails = λ s. cc (s.owned.exclusive (runs_by (deep []) main bank refl)
      (runs_by (deep []) task bank refl));
}
unheld_needed SameShape = record {
  old = view_of (regs 1 (mine 1) 2 (mine 2));
  new = view_of as_isolated;
  at = (0, 7, banks);
  sound = sound_view (regs 1 (mine 1) 2 (mine 2)) refl;
  others = elim [
    | SameShape ↦ λ n. absurd (n refl)
    | other ↦ λ _. unheld_by (regs 1 (mine 1) 2 (mine 2)) as_isolated 0 7 banks other refl
  ];
  fails = λ s. cc (s.owned.isolated {a = bank} main (omega arith) refl);
}
unheld_needed HereTurns = record {
  old = view_of (closing_here banks);
  new = view_of (closing_here (mine 0));
  at = (0, 7, banks);
  sound = sound_view (closing_here banks) refl;
  others = elim [
    | HereTurns ↦ λ n. absurd (n refl)
    | other ↦ λ _. unheld_by (closing_here banks) (closing_here (mine 0)) 0 7 banks other refl
  ];
  fails = λ s. cc (s.owned.isolated {a = bank} main (omega arith) refl);
}
unheld_needed Held = record {
  old = view_of (regs 1 (mine 1) 2 (mine 2));
  new = view_of (regs 1 nobodys 2 (mine 2));
  at = (0, 7, banks);
  sound = sound_view (regs 1 (mine 1) 2 (mine 2)) refl;
  others = elim [
    | Held ↦ λ n. absurd (n refl)
    | other ↦ λ _. unheld_by (regs 1 (mine 1) 2 (mine 2)) (regs 1 nobodys 2 (mine 2)) 0 7 banks
        other refl
  ];
  fails = λ s. cc (s.owned.owned (there (regs 1 nobodys 2 (mine 2)) main (Register 0) nobodys
      refl));
}
unheld_needed Joined = record {
  old = view_of (regs 1 (mine 1) 1 (mine 1));
  new = view_of (regs 1 (mine 1) 2 (mine 1));
  at = (0, 7, banks);
  sound = sound_view (regs 1 (mine 1) 1 (mine 1)) refl;
  others = elim [
    | Joined ↦ λ n. absurd (n refl)
    | other ↦ λ _. unheld_by (regs 1 (mine 1) 1 (mine 1)) (regs 1 (mine 1) 2 (mine 1)) 0 7 banks
        other refl
  ];
  fails = λ s. cc (s.owned.together (there (regs 1 (mine 1) 2 (mine 1)) main (Register 0) (mine 1)
      refl) (there (regs 1 (mine 1) 2 (mine 1)) main (Register 1) (mine 1) refl));
}

-- ---- what is given away
-- the first register is not live, and the second has this region and this colour
abbrev given_first : ℕ → Colour → List Job
given_first region c = runs (row free (mine 0) (dead 1 ∷ slot region (c ∷ []) ∷ []) ∷ []) ∷ []

is_region : (r : ℕ) → (view_of (regs 1 (mine 1) 2 (mine 2))).region main (Register 0)
    ≡ (view_of (regs 1 (mine 1) 2 (mine 2))).region main (Register r) → r ≡ 0
is_region zero e = refl
is_region (suc zero) e = absurd (cc (e))
is_region (suc (suc r)) e = absurd (cc (e))

pub given_possible : IsPossible given_says
given_possible = record {
  old = view_of (regs 1 (mine 1) 2 (mine 2));
  new = view_of (given_first 2 (mine 2));
  at = (main, Register 0);
  sound = sound_view (regs 1 (mine 1) 2 (mine 2)) refl;
  all = elim [
    | Gone ↦ λ r e live. cc (subst (λ r. IsTrue ((view_of (given_first 2 (mine 2))).live main r))
        (is_region r e) live)
    | other ↦ given_by (regs 1 (mine 1) 2 (mine 2)) (given_first 2 (mine 2)) main
        (Register 0) other refl
  ];
}

-- the callee's `Here` has the colour of what the caller gives away
abbrev caller_gives : RegisterSketch → List Job
caller_gives first = runs (row free (mine 0) (first ∷ []) ∷ row (called Nonisolated Generic None)
    (mine 1) [] ∷ []) ∷ []

-- a register with `Here`
abbrev with_here : RegisterSketch → List Job
with_here first = runs (row free (mine 0) (first ∷ []) ∷ []) ∷ []

first_of : (r : ℕ) → (view_of (caller_gives (slot 1 (mine 1 ∷ [])))).region main (Register 0)
    ≡ (view_of (caller_gives (slot 1 (mine 1 ∷ [])))).region main (Register r) → r ≡ 0
first_of zero e = refl
first_of (suc r) e = absurd (cc (e))

none_live : (r : ℕ) → IsTrue ((view_of (with_here (dead 0))).live main r) → ⊥
none_live zero live = cc (live)
none_live (suc r) live = cc (live)

pub given_needed : (premise : GivenPremise) → IsNeeded given_says LeavesNothing premise
given_needed Top = record {
  old = view_of (caller_gives (slot 1 (mine 1 ∷ [])));
  new = view_of (caller_gives (dead 1));
  at = (main, Register 0);
  sound = sound_view (caller_gives (slot 1 (mine 1 ∷ []))) refl;
  others = elim [
    | Top ↦ λ n. absurd (n refl)
    | Gone ↦ λ _ r e live. cc (subst (λ r. IsTrue ((view_of (caller_gives (dead 1))).live main r))
        (first_of r e) live)
    | other ↦ λ _. given_by (caller_gives (slot 1 (mine 1 ∷ []))) (caller_gives (dead 1)) main
        (Register 0) other refl
  ];
  fails = λ nothing. (nothing (mine 1) (there (caller_gives (slot 1 (mine 1 ∷ []))) main
      (Register 0) (mine 1) refl)).unheld callee Here
      (there (caller_gives (dead 1)) callee Here (mine 1) refl);
}
given_needed Weakens = record {
  old = view_of (regs 1 (mine 1) 2 (mine 2));
  new = view_of (given_first 2 (mine 1));
  at = (main, Register 0);
  sound = sound_view (regs 1 (mine 1) 2 (mine 2)) refl;
  others = elim [
    | Weakens ↦ λ n. absurd (n refl)
    | Gone ↦ λ _ r e live. cc (subst (λ r. IsTrue ((view_of (given_first 2 (mine 1))).live main r))
        (is_region r e) live)
    | other ↦ λ _. given_by (regs 1 (mine 1) 2 (mine 2)) (given_first 2 (mine 1)) main
        (Register 0) other refl
  ];
  fails = λ nothing. (nothing (mine 1) (there (regs 1 (mine 1) 2 (mine 2)) main (Register 0)
      (mine 1) refl)).unheld main (Register 1)
      (there (given_first 2 (mine 1)) main (Register 1) (mine 1) refl);
}
given_needed Free = record {
  old = view_of (with_here (slot 0 (mine 0 ∷ [])));
  new = view_of (with_here (dead 0));
  at = (main, Register 0);
  sound = sound_view (with_here (slot 0 (mine 0 ∷ []))) refl;
  others = elim [
    | Free ↦ λ n. absurd (n refl)
    | Gone ↦ λ _ r e live. none_live r live
    | other ↦ λ _. given_by (with_here (slot 0 (mine 0 ∷ []))) (with_here (dead 0)) main
        (Register 0) other refl
  ];
  fails = λ nothing. (nothing (mine 0) (there (with_here (slot 0 (mine 0 ∷ []))) main (Register 0)
      (mine 0) refl)).unheld main Here
      (there (with_here (dead 0)) main Here (mine 0) refl);
}
given_needed Gone = record {
  old = view_of (regs 1 (mine 1) 2 (mine 2));
  new = view_of (regs 1 (mine 1) 2 (mine 2));
  at = (main, Register 0);
  sound = sound_view (regs 1 (mine 1) 2 (mine 2)) refl;
  others = elim [
    | Gone ↦ λ n. absurd (n refl)
    | other ↦ λ _. given_by (regs 1 (mine 1) 2 (mine 2)) (regs 1 (mine 1) 2 (mine 2)) main
        (Register 0) other refl
  ];
  fails = λ nothing. (nothing (mine 1) (there (regs 1 (mine 1) 2 (mine 2)) main (Register 0)
      (mine 1) refl)).unheld main (Register 0)
      (there (regs 1 (mine 1) 2 (mine 2)) main (Register 0) (mine 1) refl);
}

-- ---- only the return is left
abbrev closing_shape : FunctionIsolation → Executor → FrameShape
closing_shape isolation executor = record {
  isolation = isolation;
  executor = executor;
  crossing = false;
  closing = true;
  result = None;
}

abbrev making : FrameShape
making = called MakesActor Generic None

-- an initialiser under its caller, and a task
abbrev initialiser : FrameShape → Colour → Colour → List Job
initialiser shape here task_here = runs (row free (mine 0) (slot 1 (mine 1 ∷ []) ∷ []) ∷ row shape
    here (slot 0 (here ∷ []) ∷ []) ∷ []) ∷ waits (row free task_here [] ∷ []) ∷ []

abbrev initialiser_and_rogue : List Job
initialiser_and_rogue = runs (row free (mine 0) (slot 1 (mine 1 ∷ []) ∷ []) ∷ row
    (closing_shape MakesActor Generic) (mine 2) (slot 0 (mine 2 ∷ []) ∷ []) ∷ [])
    ∷ waits (row free (yours 0) [] ∷ []) ∷ waits (row free (mine 0) [] ∷ []) ∷ []

abbrev closed_caller : List Job
closed_caller = runs (row (record {
  isolation = Nonisolated;
  executor = Generic;
  crossing = true;
  closing = true;
  result = None;
}) (mine 0) (slot 1 (mine 1 ∷ []) ∷ [])
    ∷ row making (mine 2) (slot 0 (mine 2 ∷ []) ∷ []) ∷ []) ∷ waits (row free (yours 0) [] ∷ []) ∷
    []

closes : (old new : List Job) → (same_heights old new && fewer_run old new) ≡ true
    → all_kept_but callee old old new ≡ true
    → (view_of new).shape callee ≡ record ((view_of old).shape callee) { closing = true }
    → (view_of new).here callee ≡ (view_of old).here callee
    → (view_of old).height 0 ≡ 2 → BeginsClosing (view_of old) (view_of new) callee
closes old new jobs others shape here top = record {
  top = top;
  jobs = same_jobs old new jobs;
  shape = shape;
  here = here;
  others = kept_but callee old old new others;
}

pub closed_possible : IsPossible closed_says
closed_possible = record {
  old = view_of (initialiser making (mine 2) (yours 0));
  new = view_of (initialiser (closing_shape MakesActor Generic) (mine 2) (yours 0));
  at = callee;
  sound = sound_view (initialiser making (mine 2) (yours 0)) refl;
  all = elim [
    | Top ↦ closed_by (initialiser making (mine 2) (yours 0))
        (initialiser (closing_shape MakesActor Generic) (mine 2) (yours 0)) callee Top refl
    | other ↦ closed_by (initialiser making (mine 2) (yours 0))
        (initialiser (closing_shape MakesActor Generic) (mine 2) (yours 0)) callee other refl
  ];
}

-- the frame of an isolated initialiser
abbrev isolated : Bool → Colour → List Job
isolated closing here = runs
    (row (record {
      isolation = IsolatedTo bank;
      executor = On bank;
      crossing = true;
      closing = closing;
      result = None;
    }) here [] ∷ []) ∷ []

pub closed_needed : (premise : ClosedPremise) → IsNeeded closed_says StaysSound premise
closed_needed Top = record {
  old = view_of (initialiser making (mine 2) (yours 0));
  new = view_of closed_caller;
  at = main;
  sound = sound_view (initialiser making (mine 2) (yours 0)) refl;
  others = elim [
    | Top ↦ λ n. absurd (n refl)
    | other ↦ λ _. closed_by (initialiser making (mine 2) (yours 0)) closed_caller main other refl
  ];
  fails = λ s. cc (s.stacked.waiting main (omega arith));
}
closed_needed Jobs = record {
  old = view_of (initialiser making (mine 2) (yours 0));
  new = view_of initialiser_and_rogue;
  at = callee;
  sound = sound_view (initialiser making (mine 2) (yours 0)) refl;
  others = elim [
    | Jobs ↦ λ n. absurd (n refl)
    | other ↦ λ _. closed_by (initialiser making (mine 2) (yours 0)) initialiser_and_rogue callee
        other refl
  ];
  fails = λ s. cc (s.owned.owned (there initialiser_and_rogue (record { job = 2; depth = 0 }) Here
      (mine 0) refl));
}
closed_needed NewShape = record {
  old = view_of (regs 1 (mine 1) 2 (mine 2));
  new = view_of (isolated true (mine 0));
  at = main;
  sound = sound_view (regs 1 (mine 1) 2 (mine 2)) refl;
  others = elim [
    | NewShape ↦ λ n. absurd (n refl)
    | other ↦ λ _. closed_by (regs 1 (mine 1) 2 (mine 2)) (isolated true (mine 0)) main other refl
  ];
  fails = λ s. cc (s.owned.isolated main (omega arith) refl);
}
closed_needed SameHere = record {
  old = view_of (isolated false banks);
  new = view_of (isolated true (mine 0));
  at = main;
  sound = sound_view (isolated false banks) refl;
  others = elim [
    | SameHere ↦ λ n. absurd (n refl)
    | other ↦ λ _. closed_by (isolated false banks) (isolated true (mine 0)) main other refl
  ];
  fails = λ s. cc (s.owned.isolated main (omega arith) refl);
}
closed_needed Others = record {
  old = view_of (initialiser making (mine 2) (yours 0));
  new = view_of (initialiser (closing_shape MakesActor Generic) (mine 2) nobodys);
  at = callee;
  sound = sound_view (initialiser making (mine 2) (yours 0)) refl;
  others = elim [
    | Others ↦ λ n. absurd (n refl)
    | other ↦ λ _. closed_by (initialiser making (mine 2) (yours 0))
        (initialiser (closing_shape MakesActor Generic) (mine 2) nobodys) callee other refl
  ];
  fails = λ s. cc (s.owned.owned
      (there (initialiser (closing_shape MakesActor Generic) (mine 2) nobodys) task Here nobodys
      refl));
}

pub hands_over_needed : (premise : HandsOverPremise) → IsNeeded hands_over_says HandsOver premise
hands_over_needed Closes = record {
  old = view_of (initialiser making (mine 2) (yours 0));
  new = view_of (initialiser making (mine 2) (yours 0));
  at = callee;
  sound = sound_view (initialiser making (mine 2) (yours 0)) refl;
  others = elim [
    | Closes ↦ λ n. absurd (n refl)
    | Makes ↦ λ _. refl
  ];
  fails = λ nothing. (nothing Here (mine 2) (there (initialiser making (mine 2) (yours 0)) callee
      Here (mine 2) refl)).unheld callee Here
      (there (initialiser making (mine 2) (yours 0)) callee Here (mine 2) refl);
}
hands_over_needed Makes = record {
  old = view_of (initialiser (called Nonisolated Generic None) (mine 1) (yours 0));
  new = view_of (initialiser (closing_shape Nonisolated Generic) (mine 1) (yours 0));
  at = callee;
  sound = sound_view (initialiser (called Nonisolated Generic None) (mine 1) (yours 0)) refl;
  others = elim [
    | Closes ↦ λ _. closes (initialiser (called Nonisolated Generic None) (mine 1) (yours 0))
        (initialiser (closing_shape Nonisolated Generic) (mine 1) (yours 0)) refl refl refl refl
        refl
    | Makes ↦ λ n. absurd (n refl)
  ];
  fails = λ nothing. (nothing Here (mine 1)
      (there (initialiser (called Nonisolated Generic None) (mine 1) (yours 0)) callee Here (mine 1)
      refl)).unheld main (Register 0)
      (there (initialiser (closing_shape Nonisolated Generic) (mine 1) (yours 0)) main (Register 0)
      (mine 1) refl);
}

-- ---- a job gets its executor
-- two jobs whose frames stand on the bank, and whether they run
abbrev two_on_bank : Bool → Bool → Colour → List Job
two_on_bank one other here = record { running = one; rows = row on_bank banks [] ∷ [] } ∷ record
    { running = other; rows = row on_bank here [] ∷ [] } ∷ []

abbrev on_bank_and_rogue : List Job
on_bank_and_rogue = runs (row on_bank banks [] ∷ []) ∷ waits (row on_bank banks [] ∷ []) ∷ waits
    (row free (mine 0) [] ∷ []) ∷ []

-- none of them runs
idle : (p : Frame) (a : Actor) → ¬ (RunsOn (view_of (two_on_bank false false banks)) p a)
idle p a r = nobody p.job r.running
  where
    nobody : (j : ℕ) → IsTrue ((view_of (two_on_bank false false banks)).running j) → ⊥
    nobody zero e = cc (e)
    nobody (suc zero) e = cc (e)
    nobody (suc (suc j)) e = cc (e)

pub dispatched_possible : IsPossible dispatched_says
dispatched_possible = record {
  old = view_of (two_on_bank false false banks);
  new = view_of (two_on_bank true false banks);
  at = 0;
  sound = sound_view (two_on_bank false false banks) refl;
  all = elim [
    | Exclusive ↦ λ p q a e top on r. idle q a r
    | other ↦ dispatched_by (two_on_bank false false banks) (two_on_bank true false banks) 0 other
        refl
  ];
}

pub dispatched_needed : (premise : DispatchedPremise) → IsNeeded dispatched_says StaysSound premise
dispatched_needed Heights = record {
  old = view_of (two_on_bank false false banks);
  new = view_of on_bank_and_rogue;
  at = 0;
  sound = sound_view (two_on_bank false false banks) refl;
  others = elim [
    | Heights ↦ λ n. absurd (n refl)
    | Exclusive ↦ λ _ p q a e top on r. idle q a r
    | other ↦ λ _. dispatched_by (two_on_bank false false banks) on_bank_and_rogue 0 other refl
  ];
  fails = λ s. cc (s.owned.owned (there on_bank_and_rogue (record { job = 2; depth = 0 }) Here
      (mine 0) refl));
}
dispatched_needed Running = record {
  old = view_of (two_on_bank false false banks);
  new = view_of (two_on_bank true true banks);
  at = 0;
  sound = sound_view (two_on_bank false false banks) refl;
  others = elim [
    | Running ↦ λ n. absurd (n refl)
    | Exclusive ↦ λ _ p q a e top on r. idle q a r
    | other ↦ λ _. dispatched_by (two_on_bank false false banks)
        (two_on_bank true true banks) 0 other refl
  ];
  fails = λ s. cc (s.owned.exclusive (runs_by (two_on_bank true true banks) main bank refl)
      (runs_by (two_on_bank true true banks) task bank refl));
}
dispatched_needed Frames = record {
  old = view_of (two_on_bank false false banks);
  new = view_of (two_on_bank true false nobodys);
  at = 0;
  sound = sound_view (two_on_bank false false banks) refl;
  others = elim [
    | Frames ↦ λ n. absurd (n refl)
    | Exclusive ↦ λ _ p q a e top on r. idle q a r
    | other ↦ λ _. dispatched_by (two_on_bank false false banks) (two_on_bank true false nobodys) 0
        other refl
  ];
  fails = λ s. cc (s.owned.owned (there (two_on_bank true false nobodys) task Here nobodys refl));
}
dispatched_needed Exclusive = record {
  old = view_of (two_on_bank false true banks);
  new = view_of (two_on_bank true true banks);
  at = 0;
  sound = sound_view (two_on_bank false true banks) refl;
  others = elim [
    | Exclusive ↦ λ n. absurd (n refl)
    | other ↦ λ _. dispatched_by (two_on_bank false true banks)
        (two_on_bank true true banks) 0 other refl
  ];
  fails = λ s. cc (s.owned.exclusive (runs_by (two_on_bank true true banks) main bank refl)
      (runs_by (two_on_bank true true banks) task bank refl));
}
