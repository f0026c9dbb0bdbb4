-- What a call needs that leaves its caller's executor, one of an actor's initialiser, and a task.
use Rattle.std.specs.Prelude.{Bool, true, false, Some, None, List, [], ◌∷◌, refl}
use Rattle.std.proofs.Common.{inr, arith}
use Rattle.sw_owner_facts.specs.Colours.{Colour, Executor, Generic, On}
use Rattle.sw_owner_facts.specs.View.{Here, Register, Nonisolated, IsolatedTo, MakesActor, FrameShape}
use Rattle.sw_owner_facts.specs.Sketch.{Row, Job, view_of}
use Rattle.sw_owner_facts.specs.Premises.{IsNeeded, IsPossible, StaysSound, WeakPremise, weak_says, Calls}
use Rattle.sw_owner_facts.specs.Premises.{Crosses, NoExecutor, NotIsolated, Colours, Result, Free}
use Rattle.sw_owner_facts.specs.Premises.{StrongPremise, strong_says, Leaves, IsIsolated, OnActor}
use Rattle.sw_owner_facts.specs.Premises.{HereColour, NoResult, MakePremise, make_says, Stays}
use Rattle.sw_owner_facts.specs.Premises.{SameExecutor, Makes, SpawnedPremise, spawned_says, Pushes}
use Rattle.sw_owner_facts.specs.Premises.{Others, Ready, Held, Stands}
use Rattle.sw_owner_facts.proofs.Sketches.Tests.{sound_view}
use Rattle.sw_owner_facts.proofs.Sketches.Reading.{there}
use Rattle.sw_owner_facts.proofs.Sketches.Premises.{make_by, spawned_by, strong_by, weak_by, runs_by}
use Rattle.sw_owner_facts.proofs.Examples.Views.{bank, banks, mine, yours, nobodys, main, callee, task}
use Rattle.sw_owner_facts.proofs.Examples.Views.{called, free, on_bank, slot, dead, row, runs, waits}
use Rattle.sw_owner_facts.proofs.Examples.Views.{left, caller, bank_caller, alone, with_callee, and_rogue}

-- ---- a call that leaves its caller's actor
abbrev weakly : FrameShape
weakly = left Nonisolated Generic (Some 1)

pub weak_possible : IsPossible weak_says
weak_possible = record {
  old = view_of (alone bank_caller);
  new = view_of (with_callee bank_caller weakly (mine 1));
  at = (main, Register 0);
  sound = sound_view (alone bank_caller) refl;
  all = elim [
    | Calls ↦ weak_by (alone bank_caller) (with_callee bank_caller weakly (mine 1)) main
        (Register 0) Calls refl
    | other ↦ weak_by (alone bank_caller) (with_callee bank_caller weakly (mine 1)) main
        (Register 0) other refl
  ];
}

-- the register that waits is not with the argument
abbrev misput : Row
misput = row on_bank banks (slot 1 (mine 1 ∷ []) ∷ dead 5 ∷ [])

pub weak_needed : (premise : WeakPremise) → IsNeeded weak_says StaysSound premise
weak_needed Calls = record {
  old = view_of (alone bank_caller);
  new = view_of (and_rogue bank_caller weakly (mine 1));
  at = (main, Register 0);
  sound = sound_view (alone bank_caller) refl;
  others = elim [
    | Calls ↦ λ n. absurd (n refl)
    | other ↦ λ _. weak_by (alone bank_caller) (and_rogue bank_caller weakly (mine 1)) main
        (Register 0) other refl
  ];
  fails = λ s. cc (s.owned.owned (there (and_rogue bank_caller weakly (mine 1)) task Here (mine 0)
      refl));
}
weak_needed Crosses = record {
  old = view_of (alone bank_caller);
  new = view_of (with_callee bank_caller (called Nonisolated Generic (Some 1)) (mine 1));
  at = (main, Register 0);
  sound = sound_view (alone bank_caller) refl;
  others = elim [
    | Crosses ↦ λ n. absurd (n refl)
    | other ↦ λ _. weak_by (alone bank_caller)
        (with_callee bank_caller (called Nonisolated Generic (Some 1)) (mine 1)) main
        (Register 0) other refl
  ];
  fails = λ s. cc (s.stacked.inherited main (omega arith) refl);
}
weak_needed NoExecutor = record {
  old = view_of (alone bank_caller);
  new = view_of (with_callee bank_caller (left Nonisolated (On bank) None) (mine 1));
  at = (main, Register 0);
  sound = sound_view (alone bank_caller) refl;
  others = elim [
    | NoExecutor ↦ λ n. absurd (n refl)
    | other ↦ λ _. weak_by (alone bank_caller)
        (with_callee bank_caller (left Nonisolated (On bank) None) (mine 1)) main
        (Register 0) other refl
  ];
  fails = λ s. cc (s.stacked.entered {a = bank} callee (omega arith) (inr refl) refl);
}
weak_needed NotIsolated = record {
  old = view_of (alone bank_caller);
  new = view_of (with_callee bank_caller (left (IsolatedTo bank) Generic (Some 1)) (mine 1));
  at = (main, Register 0);
  sound = sound_view (alone bank_caller) refl;
  others = elim [
    | NotIsolated ↦ λ n. absurd (n refl)
    | other ↦ λ _. weak_by (alone bank_caller)
        (with_callee bank_caller (left (IsolatedTo bank) Generic (Some 1)) (mine 1)) main
        (Register 0) other refl
  ];
  fails = λ s. cc (s.owned.stands {a = bank} callee (omega arith) refl);
}
weak_needed Colours = record {
  old = view_of (alone bank_caller);
  new = view_of (with_callee bank_caller weakly nobodys);
  at = (main, Register 0);
  sound = sound_view (alone bank_caller) refl;
  others = elim [
    | Colours ↦ λ n. absurd (n refl)
    | other ↦ λ _. weak_by (alone bank_caller) (with_callee bank_caller weakly nobodys) main
        (Register 0) other refl
  ];
  fails = λ s. cc (s.owned.owned (there (with_callee bank_caller weakly nobodys) callee Here nobodys
      refl));
}
weak_needed Result = record {
  old = view_of (alone misput);
  new = view_of (with_callee misput weakly (mine 1));
  at = (main, Register 0);
  sound = sound_view (alone misput) refl;
  others = elim [
    | Result ↦ λ n. absurd (n refl)
    | other ↦ λ _. weak_by (alone misput) (with_callee misput weakly (mine 1)) main
        (Register 0) other refl
  ];
  fails = λ s. cc (s.returns.near {p = main} {x = Register 0} 1 refl
      (there (with_callee misput weakly (mine 1)) callee Here (mine 1) refl)
      (there (with_callee misput weakly (mine 1)) main (Register 0) (mine 1) refl));
}
weak_needed Free = record {
  old = view_of (alone bank_caller);
  new = view_of (with_callee bank_caller (left Nonisolated Generic None) banks);
  at = (main, Here);
  sound = sound_view (alone bank_caller) refl;
  others = elim [
    | Free ↦ λ n. absurd (n refl)
    | other ↦ λ _. weak_by (alone bank_caller)
        (with_callee bank_caller (left Nonisolated Generic None) banks) main Here other refl
  ];
  fails = λ s. cc (s.owned.owned
      (there (with_callee bank_caller (left Nonisolated Generic None) banks) callee Here banks
      refl));
}

-- ---- a call of an actor, from elsewhere
-- what becomes of the caller's job, with a callee whose `Here` has this colour
abbrev on_actor : Bool → FrameShape → Colour → List Job
on_actor running shape here = record {
  running = running;
  rows = caller ∷ row shape here (slot 0 (here ∷ []) ∷ []) ∷ [];
} ∷ []

-- beside another job that runs on the actor
abbrev beside : List Row → Bool → List Job
beside rows running = record { running = running; rows = rows } ∷ runs (row on_bank banks [] ∷ []) ∷
    []

abbrev on_actor_and_rogue : List Job
on_actor_and_rogue = waits (caller ∷ row on_bank banks (slot 0 (banks ∷ []) ∷ []) ∷ []) ∷ waits
    (row free (mine 0) [] ∷ []) ∷ []

pub strong_possible : IsPossible strong_says
strong_possible = record {
  old = view_of (alone caller);
  new = view_of (on_actor false on_bank banks);
  at = (main, bank);
  sound = sound_view (alone caller) refl;
  all = elim [
    | Calls ↦ strong_by (alone caller) (on_actor false on_bank banks) main bank Calls refl
    | other ↦ strong_by (alone caller) (on_actor false on_bank banks) main bank other refl
  ];
}

pub strong_needed : (premise : StrongPremise) → IsNeeded strong_says StaysSound premise
strong_needed Calls = record {
  old = view_of (alone caller);
  new = view_of on_actor_and_rogue;
  at = (main, bank);
  sound = sound_view (alone caller) refl;
  others = elim [
    | Calls ↦ λ n. absurd (n refl)
    | other ↦ λ _. strong_by (alone caller) on_actor_and_rogue main bank other refl
  ];
  fails = λ s. cc (s.owned.owned (there on_actor_and_rogue task Here (mine 0) refl));
}
strong_needed Crosses = record {
  old = view_of (alone caller);
  new = view_of (on_actor false (called (IsolatedTo bank) (On bank) None) banks);
  at = (main, bank);
  sound = sound_view (alone caller) refl;
  others = elim [
    | Crosses ↦ λ n. absurd (n refl)
    | other ↦ λ _. strong_by (alone caller)
        (on_actor false (called (IsolatedTo bank) (On bank) None) banks) main bank other refl
  ];
  fails = λ s. cc (s.stacked.inherited main (omega arith) refl);
}
strong_needed Leaves = record {
  old = view_of (beside (caller ∷ []) true);
  new = view_of (beside (caller ∷ row on_bank banks [] ∷ []) true);
  at = (main, bank);
  sound = sound_view (beside (caller ∷ []) true) refl;
  others = elim [
    | Leaves ↦ λ n. absurd (n refl)
    | other ↦ λ _. strong_by (beside (caller ∷ []) true)
        (beside (caller ∷ row on_bank banks [] ∷ []) true) main bank other refl
  ];
  fails = λ s. cc (s.owned.exclusive
      (runs_by (beside (caller ∷ row on_bank banks [] ∷ []) true) callee bank refl)
      (runs_by (beside (caller ∷ row on_bank banks [] ∷ []) true) task bank refl));
}
strong_needed IsIsolated = record {
  old = view_of (alone caller);
  new = view_of (on_actor false (left Nonisolated (On bank) None) banks);
  at = (main, bank);
  sound = sound_view (alone caller) refl;
  others = elim [
    | IsIsolated ↦ λ n. absurd (n refl)
    | other ↦ λ _. strong_by (alone caller) (on_actor false (left Nonisolated (On bank) None) banks)
        main bank other refl
  ];
  fails = λ s. cc (s.stacked.entered {a = bank} callee (omega arith) (inr refl) refl);
}
strong_needed OnActor = record {
  old = view_of (alone caller);
  new = view_of (on_actor false (left (IsolatedTo bank) Generic None) banks);
  at = (main, bank);
  sound = sound_view (alone caller) refl;
  others = elim [
    | OnActor ↦ λ n. absurd (n refl)
    | other ↦ λ _. strong_by (alone caller)
        (on_actor false (left (IsolatedTo bank) Generic None) banks) main bank other refl
  ];
  fails = λ s. cc (s.owned.stands {a = bank} callee (omega arith) refl);
}
strong_needed HereColour = record {
  old = view_of (alone caller);
  new = view_of (on_actor false on_bank (mine 7));
  at = (main, bank);
  sound = sound_view (alone caller) refl;
  others = elim [
    | HereColour ↦ λ n. absurd (n refl)
    | other ↦ λ _. strong_by (alone caller) (on_actor false on_bank (mine 7)) main bank other refl
  ];
  fails = λ s. cc (s.owned.isolated {a = bank} callee (omega arith) refl);
}
strong_needed NoResult = record {
  old = view_of (alone caller);
  new = view_of (on_actor false (left (IsolatedTo bank) (On bank) (Some 1)) banks);
  at = (main, bank);
  sound = sound_view (alone caller) refl;
  others = elim [
    | NoResult ↦ λ n. absurd (n refl)
    | other ↦ λ _. strong_by (alone caller)
        (on_actor false (left (IsolatedTo bank) (On bank) (Some 1)) banks) main bank other refl
  ];
  fails = λ s. cc (s.stacked.linked 1 main (omega arith) refl refl);
}

-- ---- a call of an actor's initialiser
abbrev makes : Executor → FrameShape
makes executor = called MakesActor executor None

pub make_possible : IsPossible make_says
make_possible = record {
  old = view_of (alone caller);
  new = view_of (with_callee caller (makes Generic) (mine 2));
  at = main;
  sound = sound_view (alone caller) refl;
  all = elim [
    | Calls ↦ make_by (alone caller) (with_callee caller (makes Generic) (mine 2)) main Calls refl
    | other ↦ make_by (alone caller) (with_callee caller (makes Generic) (mine 2)) main other refl
  ];
}

pub make_needed : (premise : MakePremise) → IsNeeded make_says StaysSound premise
make_needed Calls = record {
  old = view_of (alone caller);
  new = view_of (and_rogue caller (makes Generic) (mine 2));
  at = main;
  sound = sound_view (alone caller) refl;
  others = elim [
    | Calls ↦ λ n. absurd (n refl)
    | other ↦ λ _. make_by (alone caller) (and_rogue caller (makes Generic) (mine 2)) main other
        refl
  ];
  fails = λ s. cc (s.owned.owned (there (and_rogue caller (makes Generic) (mine 2)) task Here
      (mine 0) refl));
}
make_needed Stays = record {
  old = view_of (alone bank_caller);
  new = view_of (with_callee bank_caller (left MakesActor (On bank) None) (mine 2));
  at = main;
  sound = sound_view (alone bank_caller) refl;
  others = elim [
    | Stays ↦ λ n. absurd (n refl)
    | other ↦ λ _. make_by (alone bank_caller)
        (with_callee bank_caller (left MakesActor (On bank) None) (mine 2)) main other refl
  ];
  fails = λ s. cc (s.stacked.entered {a = bank} callee (omega arith) (inr refl) refl);
}
make_needed SameExecutor = record {
  old = view_of (alone caller);
  new = view_of (with_callee caller (makes (On bank)) (mine 2));
  at = main;
  sound = sound_view (alone caller) refl;
  others = elim [
    | SameExecutor ↦ λ n. absurd (n refl)
    | other ↦ λ _. make_by (alone caller) (with_callee caller (makes (On bank)) (mine 2)) main other
        refl
  ];
  fails = λ s. cc (s.stacked.inherited main (omega arith) refl);
}
make_needed Makes = record {
  old = view_of (alone caller);
  new = view_of (with_callee caller (called (IsolatedTo bank) Generic None) (mine 2));
  at = main;
  sound = sound_view (alone caller) refl;
  others = elim [
    | Makes ↦ λ n. absurd (n refl)
    | other ↦ λ _. make_by (alone caller)
        (with_callee caller (called (IsolatedTo bank) Generic None) (mine 2)) main other refl
  ];
  fails = λ s. cc (s.owned.stands {a = bank} callee (omega arith) refl);
}
make_needed HereColour = record {
  old = view_of (alone caller);
  new = view_of (with_callee caller (makes Generic) (mine 1));
  at = main;
  sound = sound_view (alone caller) refl;
  others = elim [
    | HereColour ↦ λ n. absurd (n refl)
    | other ↦ λ _. make_by (alone caller) (with_callee caller (makes Generic) (mine 1)) main other
        refl
  ];
  fails = λ s. s.initialisers.alone {p = main} {q = callee} refl (refl, omega arith)
      (there (with_callee caller (makes Generic) (mine 1)) callee Here (mine 1) refl)
      (there (with_callee caller (makes Generic) (mine 1)) main (Register 0) (mine 1) refl);
}

-- ---- a task
-- a job beside a new one: the shape of the new frame, the colour of its `Here`, and of its register
abbrev tasked : Row → Row → List Job
tasked low new = runs (low ∷ []) ∷ waits (new ∷ []) ∷ []

abbrev new_task : FrameShape → Colour → Colour → Row
new_task shape here c = row shape here (slot 0 (c ∷ []) ∷ [])

abbrev task_and_rogue : List Job
task_and_rogue = runs (caller ∷ []) ∷ waits (new_task free (yours 0) (yours 0) ∷ []) ∷ waits
    (row free (mine 0) [] ∷ []) ∷ []

-- a job without a frame that is said to run
abbrev beside_nothing : List Job
beside_nothing = runs (row on_bank banks [] ∷ []) ∷ runs [] ∷ []

abbrev both_on_bank : List Job
both_on_bank = runs (row on_bank banks [] ∷ []) ∷ runs (row on_bank banks [] ∷ []) ∷ []

abbrev robbed : Row
robbed = row free (mine 0) (slot 1 (nobodys ∷ []) ∷ dead 1 ∷ [])

-- a task on an actor, which carries a colour of its own until it runs there
abbrev carrying : Row
carrying = new_task on_bank banks (yours 0)

pub spawned_possible : IsPossible spawned_says
spawned_possible = record {
  old = view_of (alone caller);
  new = view_of (tasked caller carrying);
  at = 1;
  sound = sound_view (alone caller) refl;
  all = elim [
    | Pushes ↦ spawned_by (alone caller) (tasked caller carrying) 1 Pushes refl
    | other ↦ spawned_by (alone caller) (tasked caller carrying) 1 other refl
  ];
}

pub spawned_needed : (premise : SpawnedPremise) → IsNeeded spawned_says StaysSound premise
spawned_needed Pushes = record {
  old = view_of (alone caller);
  new = view_of task_and_rogue;
  at = 1;
  sound = sound_view (alone caller) refl;
  others = elim [
    | Pushes ↦ λ n. absurd (n refl)
    | other ↦ λ _. spawned_by (alone caller) task_and_rogue 1 other refl
  ];
  fails = λ s. cc (s.owned.owned (there task_and_rogue (record { job = 2; depth = 0 }) Here (mine 0)
      refl));
}
spawned_needed Others = record {
  old = view_of (alone caller);
  new = view_of (tasked robbed (new_task free (yours 0) (yours 0)));
  at = 1;
  sound = sound_view (alone caller) refl;
  others = elim [
    | Others ↦ λ n. absurd (n refl)
    | other ↦ λ _. spawned_by (alone caller) (tasked robbed (new_task free (yours 0) (yours 0))) 1
        other refl
  ];
  fails = λ s. cc (s.owned.owned (there (tasked robbed (new_task free (yours 0) (yours 0))) main
      (Register 0) nobodys refl));
}
spawned_needed Ready = record {
  old = view_of beside_nothing;
  new = view_of both_on_bank;
  at = 1;
  sound = sound_view beside_nothing refl;
  others = elim [
    | Ready ↦ λ n. absurd (n refl)
    | other ↦ λ _. spawned_by beside_nothing both_on_bank 1 other refl
  ];
  fails = λ s. cc (s.owned.exclusive (runs_by both_on_bank main bank refl)
      (runs_by both_on_bank task bank refl));
}
spawned_needed Held = record {
  old = view_of (alone caller);
  new = view_of (tasked caller (new_task free (yours 0) nobodys));
  at = 1;
  sound = sound_view (alone caller) refl;
  others = elim [
    | Held ↦ λ n. absurd (n refl)
    | other ↦ λ _. spawned_by (alone caller) (tasked caller (new_task free (yours 0) nobodys)) 1
        other refl
  ];
  fails = λ s. cc (s.owned.owned (there (tasked caller (new_task free (yours 0) nobodys)) task
      (Register 0) nobodys refl));
}
spawned_needed Stands = record {
  old = view_of (alone caller);
  new = view_of (tasked caller (new_task (left (IsolatedTo bank) Generic None) (yours 0)
      (yours 0)));
  at = 1;
  sound = sound_view (alone caller) refl;
  others = elim [
    | Stands ↦ λ n. absurd (n refl)
    | other ↦ λ _. spawned_by (alone caller)
        (tasked caller (new_task (left (IsolatedTo bank) Generic None) (yours 0) (yours 0))) 1 other
        refl
  ];
  fails = λ s. cc (s.owned.stands {a = bank} task (omega arith) refl);
}
