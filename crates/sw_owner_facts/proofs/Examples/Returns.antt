-- What a return needs, and the end of a job.
use Rattle.std.specs.Prelude.{◌≡◌, ◌⊎◌, ℕ, Bool, true, false, Option, Some, None, List, [], ◌∷◌}
use Rattle.std.specs.Prelude.{refl}
use Rattle.std.proofs.Common.{inl, inr, arith}
use Rattle.sw_owner_facts.specs.Colours.{Colour, Generic, On}
use Rattle.sw_owner_facts.specs.View.{Element, Here, Register, Nonisolated, HoldsLive}
use Rattle.sw_owner_facts.specs.Calls.{Handed}
use Rattle.sw_owner_facts.specs.Sketch.{RegisterSketch, Row, Job, row_at, view_of}
use Rattle.sw_owner_facts.specs.Premises.{IsNeeded, IsPossible, StaysSound, ReturnedPremise}
use Rattle.sw_owner_facts.specs.Premises.{returned_says, Top, Leaves, SameShape, Held, Joined, Others}
use Rattle.sw_owner_facts.specs.Premises.{EndedPremise, ended_says, Height, Heights, Running}
use Rattle.sw_owner_facts.proofs.Sketches.Tests.{sound_view, holders}
use Rattle.sw_owner_facts.proofs.Sketches.Reading.{there, AllHold, holds_live, running, for_holders}
use Rattle.sw_owner_facts.proofs.Sketches.Premises.{ended_by, returned_by, runs_by}
use Rattle.sw_owner_facts.proofs.Examples.Views.{bank, banks, mine, yours, nobodys, main, callee, task}
use Rattle.sw_owner_facts.proofs.Examples.Views.{called, free, on_bank, slot, dead, row, runs, waits}

-- a caller whose second register waits, or has the result: its colour and its region
abbrev waiting : Row
waiting = row free (mine 0) (slot 1 (mine 1 ∷ []) ∷ dead 1 ∷ [])

abbrev got : ℕ → Colour → Row
got region c = row free (mine 0) (slot 1 (mine 1 ∷ []) ∷ slot region (c ∷ []) ∷ [])

abbrev returning : Option ℕ → Row
returning result = row (called Nonisolated Generic result) (mine 1) (slot 0 (mine 1 ∷ []) ∷ [])

-- a task beside them
abbrev with_task : List Row → Colour → List Job
with_task rows c = runs rows ∷ waits (row free c [] ∷ []) ∷ []

abbrev calling : Option ℕ → List Job
calling result = with_task (waiting ∷ returning result ∷ []) (yours 0)

-- the result goes to a region of its own: it has to be free
abbrev calling_apart : List Job
calling_apart = with_task (row free (mine 0) (slot 1 (mine 1 ∷ []) ∷ dead 5 ∷ []) ∷ returning None ∷
    []) (yours 0)

abbrev done : Row → List Job
done low = with_task (low ∷ []) (yours 0)

-- what the caller has: its own, and the result
abbrev IsGot : List Job → Element → Colour → Type 0
IsGot old x c = HoldsLive (view_of old) main x c
    ⊎ ((x ≡ Register 1) × Handed (view_of old) main 1 c)

result_of : (old : List Job) → HoldsLive (view_of old) callee (Register 0) (mine 1)
    → ((view_of old).shape callee).result ≡ Some 1
    → IsGot old (Register 1) (mine 1)
result_of old h link = inr (refl, record { value = Register 0; holds = h; allowed = inl link })

-- what holds where the caller has what it had and the result
got_both : (old new : List Job) → AllHold (holders (row_at new main)) (IsGot old)
    → (x : Element) (c : Colour) → HoldsLive (view_of new) main x c → IsGot old x c
got_both old new all = for_holders new main (IsGot old) all

abbrev all_got : (old : List Job) → holds_live old main Here (mine 0) ≡ true
    → holds_live old main (Register 0) (mine 1) ≡ true → holds_live old callee (Register 0) (mine 1)
    ≡ true
    → ((view_of old).shape callee).result ≡ Some 1
    → AllHold ((Here, mine 0) ∷ (Register 0, mine 1) ∷ (Register 1, mine 1) ∷ []) (IsGot old)
all_got old here first value link = record {
  first = inl (there old main Here (mine 0) here);
  rest = record {
    first = inl (there old main (Register 0) (mine 1) first);
    rest = record {
      first = result_of old (there old callee (Register 0) (mine 1) value) link;
      rest = record {};
    };
  };
}

-- a call on the bank, its callee's callee elsewhere, and a job that runs on the bank
abbrev three_deep : List Job
three_deep = runs (row on_bank banks [] ∷ row (called Nonisolated (On bank) None) (mine 1) [] ∷ row
    free (mine 2) [] ∷ []) ∷ runs (row on_bank banks [] ∷ []) ∷ []

abbrev one_deep : Bool → List Job
one_deep running = record { running = running; rows = row on_bank banks [] ∷ [] } ∷ runs
    (row on_bank banks [] ∷ []) ∷ []

abbrev two_deep : List Job
two_deep = runs (row on_bank banks [] ∷ row free (mine 1) [] ∷ []) ∷ runs
    (row on_bank banks [] ∷ []) ∷ []

-- the caller in another shape
abbrev reshaped : Row
reshaped = row on_bank (mine 0) (slot 1 (mine 1 ∷ []) ∷ slot 1 (mine 1 ∷ []) ∷ [])

pub returned_possible : IsPossible returned_says
returned_possible = record {
  old = view_of (calling (Some 1));
  new = view_of (done (got 1 (mine 1)));
  at = (main, 1);
  sound = sound_view (calling (Some 1)) refl;
  all = elim [
    | Held ↦ got_both (calling (Some 1)) (done (got 1 (mine 1)))
        (all_got (calling (Some 1)) refl refl refl refl)
    | other ↦ returned_by (calling (Some 1)) (done (got 1 (mine 1))) main 1 other refl
  ];
}

-- a callee with a value that is free, and the caller with it while the callee is still there
abbrev freeing : RegisterSketch → List Job
freeing second = with_task (row free (mine 0) (slot 1 (mine 1 ∷ []) ∷ second ∷ []) ∷ row
    (called Nonisolated Generic None) (mine 2) (slot 3 (mine 3 ∷ []) ∷ []) ∷ []) (yours 0)

freed : (x : Element) (c : Colour) → HoldsLive (view_of (freeing (slot 5 (mine 3 ∷ [])))) main x c
    → IsGot (freeing (dead 5)) x c
freed = got_both (freeing (dead 5)) (freeing (slot 5 (mine 3 ∷ []))) (record {
  first = inl (there (freeing (dead 5)) main Here (mine 0) refl);
  rest = record {
    first = inl (there (freeing (dead 5)) main (Register 0) (mine 1) refl);
    rest = record {
      first = inr (
        refl,
        record {
          value = Register 0;
          holds = there (freeing (dead 5)) callee (Register 0) (mine 3) refl;
          allowed = inr (λ e. cc (e));
        },
      );
      rest = record {};
    };
  };
})

-- two more jobs
abbrev before_return : Job → List Job
before_return second = runs (waiting ∷ returning (Some 1) ∷ []) ∷ second ∷ runs
    (row on_bank banks [] ∷ []) ∷ []

abbrev after_return : Job → List Job
after_return second = runs (got 1 (mine 1) ∷ []) ∷ second ∷ runs (row on_bank banks [] ∷ []) ∷ []

abbrev bank_job : Bool → List Row → Job
bank_job running rows = record { running = running; rows = row on_bank banks [] ∷ rows }

pub returned_needed : (premise : ReturnedPremise) → IsNeeded returned_says StaysSound premise
returned_needed Top = record {
  old = view_of three_deep;
  new = view_of (one_deep true);
  at = (main, 1);
  sound = sound_view three_deep refl;
  others = elim [
    | Top ↦ λ n. absurd (n refl)
    | Held ↦ λ _. for_holders (one_deep true) main (IsGot three_deep)
        (record { first = inl (there three_deep main Here banks refl); rest = record {} })
    | other ↦ λ _. returned_by three_deep (one_deep true) main 1 other refl
  ];
  fails = λ s. cc (s.owned.exclusive (runs_by (one_deep true) main bank refl)
      (runs_by (one_deep true) task bank refl));
}
returned_needed Height = record {
  old = view_of (freeing (dead 5));
  new = view_of (freeing (slot 5 (mine 3 ∷ [])));
  at = (main, 1);
  sound = sound_view (freeing (dead 5)) refl;
  others = elim [
    | Height ↦ λ n. absurd (n refl)
    | Held ↦ λ _. freed
    | other ↦ λ _. returned_by (freeing (dead 5)) (freeing (slot 5 (mine 3 ∷ []))) main 1 other refl
  ];
  fails = λ s. cc (s.owned.apart {p = main} {q = callee} {x = Register 1} {y = Register 0}
      (refl, omega arith) (there (freeing (slot 5 (mine 3 ∷ []))) main (Register 1) (mine 3) refl)
      (there (freeing (slot 5 (mine 3 ∷ []))) callee (Register 0) (mine 3) refl));
}
returned_needed Heights = record {
  old = view_of (before_return (bank_job true (row free (yours 0) [] ∷ [])));
  new = view_of (after_return (bank_job true []));
  at = (main, 1);
  sound = sound_view (before_return (bank_job true (row free (yours 0) [] ∷ []))) refl;
  others = elim [
    | Heights ↦ λ n. absurd (n refl)
    | Held ↦ λ _. got_both (before_return (bank_job true (row free (yours 0) [] ∷ [])))
        (after_return (bank_job true []))
        (all_got (before_return (bank_job true (row free (yours 0) [] ∷ []))) refl refl refl refl)
    | other ↦ λ _. returned_by (before_return (bank_job true (row free (yours 0) [] ∷ [])))
        (after_return (bank_job true [])) main 1 other refl
  ];
  fails = λ s. cc (s.owned.exclusive (runs_by (after_return (bank_job true [])) task bank refl)
      (runs_by (after_return (bank_job true [])) (record { job = 2; depth = 0 }) bank refl));
}
returned_needed Running = record {
  old = view_of (before_return (bank_job false []));
  new = view_of (after_return (bank_job true []));
  at = (main, 1);
  sound = sound_view (before_return (bank_job false [])) refl;
  others = elim [
    | Running ↦ λ n. absurd (n refl)
    | Held ↦ λ _. got_both (before_return (bank_job false [])) (after_return (bank_job true []))
        (all_got (before_return (bank_job false [])) refl refl refl refl)
    | other ↦ λ _. returned_by (before_return (bank_job false []))
        (after_return (bank_job true [])) main 1 other refl
  ];
  fails = λ s. cc (s.owned.exclusive (runs_by (after_return (bank_job true [])) task bank refl)
      (runs_by (after_return (bank_job true [])) (record { job = 2; depth = 0 }) bank refl));
}
returned_needed Leaves = record {
  old = view_of two_deep;
  new = view_of (one_deep true);
  at = (main, 1);
  sound = sound_view two_deep refl;
  others = elim [
    | Leaves ↦ λ n. absurd (n refl)
    | Held ↦ λ _. for_holders (one_deep true) main (IsGot two_deep)
        (record { first = inl (there two_deep main Here banks refl); rest = record {} })
    | other ↦ λ _. returned_by two_deep (one_deep true) main 1 other refl
  ];
  fails = λ s. cc (s.owned.exclusive (runs_by (one_deep true) main bank refl)
      (runs_by (one_deep true) task bank refl));
}
returned_needed SameShape = record {
  old = view_of (calling (Some 1));
  new = view_of (done reshaped);
  at = (main, 1);
  sound = sound_view (calling (Some 1)) refl;
  others = elim [
    | SameShape ↦ λ n. absurd (n refl)
    | Held ↦ λ _. got_both (calling (Some 1)) (done reshaped)
        (all_got (calling (Some 1)) refl refl refl refl)
    | other ↦ λ _. returned_by (calling (Some 1)) (done reshaped) main 1 other refl
  ];
  fails = λ s. cc (s.owned.isolated {a = bank} main (omega arith) refl);
}
returned_needed Held = record {
  old = view_of calling_apart;
  new = view_of (done (got 5 (mine 1)));
  at = (main, 1);
  sound = sound_view calling_apart refl;
  others = elim [
    | Held ↦ λ n. absurd (n refl)
    | other ↦ λ _. returned_by calling_apart (done (got 5 (mine 1))) main 1 other refl
  ];
  fails = λ s. cc (s.owned.together (there (done (got 5 (mine 1))) main (Register 0) (mine 1) refl)
      (there (done (got 5 (mine 1))) main (Register 1) (mine 1) refl));
}
returned_needed Joined = record {
  old = view_of (calling (Some 1));
  new = view_of (done (got 2 (mine 1)));
  at = (main, 1);
  sound = sound_view (calling (Some 1)) refl;
  others = elim [
    | Joined ↦ λ n. absurd (n refl)
    | Held ↦ λ _. got_both (calling (Some 1)) (done (got 2 (mine 1)))
        (all_got (calling (Some 1)) refl refl refl refl)
    | other ↦ λ _. returned_by (calling (Some 1)) (done (got 2 (mine 1))) main 1 other refl
  ];
  fails = λ s. cc (s.owned.together (there (done (got 2 (mine 1))) main (Register 0) (mine 1) refl)
      (there (done (got 2 (mine 1))) main (Register 1) (mine 1) refl));
}
returned_needed Others = record {
  old = view_of (calling (Some 1));
  new = view_of (with_task (got 1 (mine 1) ∷ []) nobodys);
  at = (main, 1);
  sound = sound_view (calling (Some 1)) refl;
  others = elim [
    | Others ↦ λ n. absurd (n refl)
    | Held ↦ λ _. got_both (calling (Some 1)) (with_task (got 1 (mine 1) ∷ []) nobodys)
        (all_got (calling (Some 1)) refl refl refl refl)
    | other ↦ λ _. returned_by (calling (Some 1)) (with_task (got 1 (mine 1) ∷ []) nobodys) main 1
        other refl
  ];
  fails = λ s. cc (s.owned.owned (there (with_task (got 1 (mine 1) ∷ []) nobodys) task Here nobodys
      refl));
}

-- ---- the end of a job
-- a job, and two that stand on the bank
abbrev before_end : Bool → List Job
before_end running = record { running = running; rows = row on_bank banks [] ∷ [] } ∷ runs
    (row on_bank banks [] ∷ []) ∷ []

abbrev deep_beside : List Row → List Row → List Job
deep_beside first second = runs first ∷ runs second ∷ runs (row on_bank banks [] ∷ []) ∷ []

abbrev ended_beside : Bool → Colour → List Job
ended_beside running here = waits [] ∷ record { running = running; rows = row on_bank here [] ∷ [] }
    ∷ runs (row on_bank banks [] ∷ []) ∷ []

abbrev ending : List Job
ending = runs (row free (mine 0) [] ∷ []) ∷ waits (row on_bank banks [] ∷ []) ∷ runs
    (row on_bank banks [] ∷ []) ∷ []

pub ended_possible : IsPossible ended_says
ended_possible = record {
  old = view_of ending;
  new = view_of (ended_beside false banks);
  at = 0;
  sound = sound_view ending refl;
  all = elim [
    | Height ↦ ended_by ending (ended_beside false banks) 0 Height refl
    | other ↦ ended_by ending (ended_beside false banks) 0 other refl
  ];
}

pub ended_needed : (premise : EndedPremise) → IsNeeded ended_says StaysSound premise
ended_needed Height = record {
  old = view_of (before_end false);
  new = view_of (before_end true);
  at = 0;
  sound = sound_view (before_end false) refl;
  others = elim [
    | Height ↦ λ n. absurd (n refl)
    | other ↦ λ _. ended_by (before_end false) (before_end true) 0 other refl
  ];
  fails = λ s. cc (s.owned.exclusive (runs_by (before_end true) main bank refl)
      (runs_by (before_end true) task bank refl));
}
ended_needed Heights = record {
  old = view_of (deep_beside (row free (mine 0) [] ∷ [])
      (row on_bank banks [] ∷ row free (yours 0) [] ∷ []));
  new = view_of (deep_beside [] (row on_bank banks [] ∷ []));
  at = 0;
  sound = sound_view (deep_beside (row free (mine 0) [] ∷ [])
      (row on_bank banks [] ∷ row free (yours 0) [] ∷ [])) refl;
  others = elim [
    | Heights ↦ λ n. absurd (n refl)
    | other ↦ λ _. ended_by (deep_beside (row free (mine 0) [] ∷ [])
        (row on_bank banks [] ∷ row free (yours 0) [] ∷ []))
        (deep_beside [] (row on_bank banks [] ∷ [])) 0 other refl
  ];
  fails = λ s. cc (s.owned.exclusive
      (runs_by (deep_beside [] (row on_bank banks [] ∷ [])) task bank refl)
      (runs_by (deep_beside [] (row on_bank banks [] ∷ [])) (record { job = 2; depth = 0 }) bank
      refl));
}
ended_needed Running = record {
  old = view_of ending;
  new = view_of (ended_beside true banks);
  at = 0;
  sound = sound_view ending refl;
  others = elim [
    | Running ↦ λ n. absurd (n refl)
    | other ↦ λ _. ended_by ending (ended_beside true banks) 0 other refl
  ];
  fails = λ s. cc (s.owned.exclusive (runs_by (ended_beside true banks) task bank refl)
      (runs_by (ended_beside true banks) (record { job = 2; depth = 0 }) bank refl));
}
ended_needed Others = record {
  old = view_of ending;
  new = view_of (ended_beside false nobodys);
  at = 0;
  sound = sound_view ending refl;
  others = elim [
    | Others ↦ λ n. absurd (n refl)
    | other ↦ λ _. ended_by ending (ended_beside false nobodys) 0 other refl
  ];
  fails = λ s. cc (s.owned.owned (there (ended_beside false nobodys) task Here nobodys refl));
}
