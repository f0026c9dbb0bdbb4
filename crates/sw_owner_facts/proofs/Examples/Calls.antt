-- What a call needs that stays on its caller's executor.
use Rattle.std.specs.Prelude.{◌≡◌, ℕ, Bool, true, false, Some, None, List, [], ◌∷◌, refl}
use Rattle.std.proofs.Common.{inr, arith}
use Rattle.sw_owner_facts.specs.Colours.{Instance, Colour, Generic, On}
use Rattle.sw_owner_facts.specs.View.{Element, Here, Register, Nonisolated, IsolatedTo, MakesActor}
use Rattle.sw_owner_facts.specs.View.{FrameShape}
use Rattle.sw_owner_facts.specs.View.{HoldsLive, InOneRegion}
use Rattle.sw_owner_facts.specs.Calls.{SharesArgument}
use Rattle.sw_owner_facts.specs.Sketch.{RegisterSketch, Row, Job, view_of}
use Rattle.sw_owner_facts.specs.Premises.{IsNeeded, IsPossible, StaysSound, PlainPremise, plain_says}
use Rattle.sw_owner_facts.specs.Premises.{Before, Height, Heights, Running, Fits, NotClosing, CallerShape}
use Rattle.sw_owner_facts.specs.Premises.{CallerHeld, CallerJoined, Others, Sent, SharesPremise}
use Rattle.sw_owner_facts.specs.Premises.{shares_says, Plain, Colours, Calls, Stays, SameExecutor}
use Rattle.sw_owner_facts.specs.Premises.{Isolated, NoInitialiser, HereColour, SamePremise, same_says}
use Rattle.sw_owner_facts.specs.Premises.{IsIsolated, CallerHere, Result}
use Rattle.sw_owner_facts.proofs.Sketches.Tests.{sound_view}
use Rattle.sw_owner_facts.proofs.Sketches.Reading.{there, running}
use Rattle.sw_owner_facts.proofs.Sketches.Moves.{result_with}
use Rattle.sw_owner_facts.proofs.Sketches.Premises.{plain_by, same_by, runs_by}
use Rattle.sw_owner_facts.proofs.Examples.Views.{bank, banks, mine, yours, nobodys, main, callee, last}
use Rattle.sw_owner_facts.proofs.Examples.Views.{task, called, free, on_bank, slot, dead, row, runs}
use Rattle.sw_owner_facts.proofs.Examples.Views.{waits, left, caller, bank_caller, alone, with_callee}
use Rattle.sw_owner_facts.proofs.Examples.Views.{and_rogue}

-- ---- a call that shares its argument
abbrev plainly : FrameShape
plainly = called Nonisolated Generic (Some 1)

shares : (low : Row) (new : List Job) → (s : Element)
    → HoldsLive (view_of (alone low)) main s ((view_of new).here callee)
    → ((r : ℕ) → ((view_of new).shape callee).result ≡ Some r → (y : Element) (c : Colour)
    → HoldsLive (view_of new) main y c
    → InOneRegion (view_of (alone low)) main y s → InOneRegion (view_of new) main y (Register r))
    → (s : Element) × SharesArgument (view_of (alone low)) (view_of new) main s
shares low new s colour result = (s, record { colour = colour; result = result })

-- the caller, the task beside it, and the third job
abbrev beside : List Row → List Job → List Job
beside rows others = runs rows ∷ others

abbrev asker : FrameShape → List RegisterSketch → Row
asker shape slots = row shape (mine 0) (slot 1 (mine 1 ∷ []) ∷ dead 1 ∷ slots)

abbrev callee_row : Row
callee_row = row plainly (mine 1) (slot 0 (mine 1 ∷ []) ∷ [])

abbrev task_of : Colour → List Job
task_of c = waits (row free c [] ∷ []) ∷ []

abbrev bank_job : Bool → Job
bank_job running = record { running = running; rows = row on_bank banks [] ∷ [] }

-- a caller with only its return left
abbrev ending : Row
ending = row (record {
  isolation = Nonisolated;
  executor = Generic;
  crossing = true;
  closing = true;
  result = None;
}) (mine 0) []

-- a call on the bank whose callee runs there and calls in turn, beside a job that runs on the bank
abbrev deep_call : List Row → List Job
deep_call rows = runs (bank_caller ∷ row (called Nonisolated (On bank) None) (mine 1) [] ∷ rows) ∷
    bank_job true ∷ []

-- a callee with one colour in two regions
abbrev torn_callee : List Job
torn_callee = beside (caller ∷ row plainly (mine 1)
    (slot 0 (mine 1 ∷ []) ∷ slot 3 (mine 1 ∷ []) ∷ []) ∷ []) []

-- a call of a frame that is closing
abbrev closing_caller : List Job
closing_caller = beside (ending ∷ row (called Nonisolated Generic None) (mine 2) [] ∷ []) []

-- a callee that holds what nobody sent it
abbrev foreign_callee : List Job
foreign_callee = beside (caller ∷ row plainly (mine 1) (slot 0 (nobodys ∷ []) ∷ []) ∷ []) []

-- the caller before the call: its second register is live, in a region of its own
abbrev asking : Row
asking = row free (mine 0) (slot 1 (mine 1 ∷ []) ∷ slot 7 (mine 7 ∷ []) ∷ [])

pub plain_possible : IsPossible plain_says
plain_possible = record {
  old = view_of (alone asking);
  new = view_of (with_callee caller plainly (mine 1));
  at = main;
  sound = sound_view (alone asking) refl;
  all = elim [
    | Before ↦ plain_by (alone asking) (with_callee caller plainly (mine 1)) main Before refl
    | other ↦ plain_by (alone asking) (with_callee caller plainly (mine 1)) main other refl
  ];
}

pub plain_needed : (premise : PlainPremise) → IsNeeded plain_says StaysSound premise
plain_needed Before = record {
  old = view_of (deep_call (row free (mine 0) [] ∷ []));
  new = view_of (deep_call []);
  at = main;
  sound = sound_view (deep_call (row free (mine 0) [] ∷ [])) refl;
  others = elim [
    | Before ↦ λ n. absurd (n refl)
    | other ↦ λ _. plain_by (deep_call (row free (mine 0) [] ∷ [])) (deep_call []) main other refl
  ];
  fails = λ s. cc (s.owned.exclusive (runs_by (deep_call []) callee bank refl)
      (runs_by (deep_call []) task bank refl));
}
plain_needed Height = record {
  old = view_of (alone caller);
  new = view_of (beside (caller ∷ callee_row ∷ row free nobodys [] ∷ []) []);
  at = main;
  sound = sound_view (alone caller) refl;
  others = elim [
    | Height ↦ λ n. absurd (n refl)
    | other ↦ λ _. plain_by (alone caller)
        (beside (caller ∷ callee_row ∷ row free nobodys [] ∷ []) []) main other refl
  ];
  fails = λ s. cc (s.owned.owned (there (beside (caller ∷ callee_row ∷ row free nobodys [] ∷ []) [])
      last Here nobodys refl));
}
plain_needed Heights = record {
  old = view_of (alone caller);
  new = view_of (beside (caller ∷ callee_row ∷ []) (waits (row free (mine 0) [] ∷ []) ∷ []));
  at = main;
  sound = sound_view (alone caller) refl;
  others = elim [
    | Heights ↦ λ n. absurd (n refl)
    | other ↦ λ _. plain_by (alone caller)
        (beside (caller ∷ callee_row ∷ []) (waits (row free (mine 0) [] ∷ []) ∷ [])) main other refl
  ];
  fails = λ s. cc (s.owned.owned
      (there (beside (caller ∷ callee_row ∷ []) (waits (row free (mine 0) [] ∷ []) ∷ [])) task Here
      (mine 0) refl));
}
plain_needed Running = record {
  old = view_of (beside (caller ∷ []) (bank_job false ∷ bank_job true ∷ []));
  new = view_of (beside (caller ∷ callee_row ∷ []) (bank_job true ∷ bank_job true ∷ []));
  at = main;
  sound = sound_view (beside (caller ∷ []) (bank_job false ∷ bank_job true ∷ [])) refl;
  others = elim [
    | Running ↦ λ n. absurd (n refl)
    | other ↦ λ _. plain_by (beside (caller ∷ []) (bank_job false ∷ bank_job true ∷ []))
        (beside (caller ∷ callee_row ∷ []) (bank_job true ∷ bank_job true ∷ [])) main other refl
  ];
  fails = λ s. cc (s.owned.exclusive
      (runs_by (beside (caller ∷ callee_row ∷ []) (bank_job true ∷ bank_job true ∷ [])) task bank
      refl)
      (runs_by (beside (caller ∷ callee_row ∷ []) (bank_job true ∷ bank_job true ∷ []))
      (record { job = 2; depth = 0 }) bank refl));
}
plain_needed Fits = record {
  old = view_of (alone caller);
  new = view_of torn_callee;
  at = main;
  sound = sound_view (alone caller) refl;
  others = elim [
    | Fits ↦ λ n. absurd (n refl)
    | other ↦ λ _. plain_by (alone caller)
        torn_callee main other refl
  ];
  fails = λ s. cc (s.owned.together
      (there torn_callee callee (Register 0) (mine 1)
      refl) (there torn_callee callee (Register 1) (mine 1)
      refl));
}
plain_needed NotClosing = record {
  old = view_of (alone ending);
  new = view_of closing_caller;
  at = main;
  sound = sound_view (alone ending) refl;
  others = elim [
    | NotClosing ↦ λ n. absurd (n refl)
    | other ↦ λ _. plain_by (alone ending)
        closing_caller main other refl
  ];
  fails = λ s. cc (s.stacked.waiting main (omega arith));
}
plain_needed CallerShape = record {
  old = view_of (alone caller);
  new = view_of (beside (row on_bank (mine 0) (slot 1 (mine 1 ∷ []) ∷ dead 1 ∷ []) ∷ row
      (called Nonisolated (On bank) (Some 1)) (mine 1) [] ∷ []) []);
  at = main;
  sound = sound_view (alone caller) refl;
  others = elim [
    | CallerShape ↦ λ n. absurd (n refl)
    | other ↦ λ _. plain_by (alone caller)
        (beside (row on_bank (mine 0) (slot 1 (mine 1 ∷ []) ∷ dead 1 ∷ []) ∷ row
        (called Nonisolated (On bank) (Some 1)) (mine 1) [] ∷ []) []) main other refl
  ];
  fails = λ s. cc (s.owned.isolated {a = bank} main (omega arith) refl);
}
plain_needed CallerHeld = record {
  old = view_of (beside (asker free (slot 3 (mine 3 ∷ []) ∷ []) ∷ []) []);
  new = view_of (beside (asker free (slot 3 (nobodys ∷ []) ∷ []) ∷ callee_row ∷ []) []);
  at = main;
  sound = sound_view (beside (asker free (slot 3 (mine 3 ∷ []) ∷ []) ∷ []) []) refl;
  others = elim [
    | CallerHeld ↦ λ n. absurd (n refl)
    | other ↦ λ _. plain_by (beside (asker free (slot 3 (mine 3 ∷ []) ∷ []) ∷ []) [])
        (beside (asker free (slot 3 (nobodys ∷ []) ∷ []) ∷ callee_row ∷ []) []) main other refl
  ];
  fails = λ s. cc (s.owned.owned
      (there (beside (asker free (slot 3 (nobodys ∷ []) ∷ []) ∷ callee_row ∷ []) []) main
      (Register 2) nobodys refl));
}
plain_needed CallerJoined = record {
  old = view_of (beside (asker free (slot 3 (mine 3 ∷ []) ∷ slot 3 (mine 3 ∷ []) ∷ []) ∷ []) []);
  new = view_of (beside (asker free (slot 3 (mine 3 ∷ []) ∷ slot 4 (mine 3 ∷ []) ∷ []) ∷ row
      (called Nonisolated Generic None) (mine 1) [] ∷ []) []);
  at = main;
  sound = sound_view (beside (asker free (slot 3 (mine 3 ∷ []) ∷ slot 3 (mine 3 ∷ []) ∷ []) ∷ [])
      []) refl;
  others = elim [
    | CallerJoined ↦ λ n. absurd (n refl)
    | other ↦ λ _. plain_by (beside
        (asker free (slot 3 (mine 3 ∷ []) ∷ slot 3 (mine 3 ∷ []) ∷ []) ∷ []) [])
        (beside (asker free (slot 3 (mine 3 ∷ []) ∷ slot 4 (mine 3 ∷ []) ∷ []) ∷ row
        (called Nonisolated Generic None) (mine 1) [] ∷ []) []) main other refl
  ];
  fails = λ s. cc (s.owned.together
      (there (beside (asker free (slot 3 (mine 3 ∷ []) ∷ slot 4 (mine 3 ∷ []) ∷ []) ∷ row
      (called Nonisolated Generic None) (mine 1) [] ∷ []) []) main (Register 2) (mine 3) refl)
      (there (beside (asker free (slot 3 (mine 3 ∷ []) ∷ slot 4 (mine 3 ∷ []) ∷ []) ∷ row
      (called Nonisolated Generic None) (mine 1) [] ∷ []) []) main (Register 3) (mine 3) refl));
}
plain_needed Others = record {
  old = view_of (beside (caller ∷ []) (task_of (yours 0)));
  new = view_of (beside (caller ∷ callee_row ∷ []) (task_of nobodys));
  at = main;
  sound = sound_view (beside (caller ∷ []) (task_of (yours 0))) refl;
  others = elim [
    | Others ↦ λ n. absurd (n refl)
    | other ↦ λ _. plain_by (beside (caller ∷ []) (task_of (yours 0)))
        (beside (caller ∷ callee_row ∷ []) (task_of nobodys)) main other refl
  ];
  fails = λ s. cc (s.owned.owned (there (beside (caller ∷ callee_row ∷ []) (task_of nobodys)) task
      Here nobodys refl));
}
plain_needed Sent = record {
  old = view_of (alone caller);
  new = view_of foreign_callee;
  at = main;
  sound = sound_view (alone caller) refl;
  others = elim [
    | Sent ↦ λ n. absurd (n refl)
    | other ↦ λ _. plain_by (alone caller)
        foreign_callee main other refl
  ];
  fails = λ s. cc (s.owned.owned
      (there foreign_callee callee
      (Register 0) nobodys refl));
}
plain_needed Stays = record {
  old = view_of (alone bank_caller);
  new = view_of (with_callee bank_caller (left Nonisolated (On bank) None) (mine 1));
  at = main;
  sound = sound_view (alone bank_caller) refl;
  others = elim [
    | Stays ↦ λ n. absurd (n refl)
    | other ↦ λ _. plain_by (alone bank_caller)
        (with_callee bank_caller (left Nonisolated (On bank) None) (mine 1)) main other refl
  ];
  fails = λ s. cc (s.stacked.entered {a = bank} callee (omega arith) (inr refl) refl);
}
plain_needed SameExecutor = record {
  old = view_of (alone caller);
  new = view_of (with_callee caller (called Nonisolated (On bank) None) (mine 1));
  at = main;
  sound = sound_view (alone caller) refl;
  others = elim [
    | SameExecutor ↦ λ n. absurd (n refl)
    | other ↦ λ _. plain_by (alone caller)
        (with_callee caller (called Nonisolated (On bank) None) (mine 1)) main other refl
  ];
  fails = λ s. cc (s.stacked.inherited main (omega arith) refl);
}
plain_needed Isolated = record {
  old = view_of (alone bank_caller);
  new = view_of (with_callee bank_caller (called (IsolatedTo bank) (On bank) None) (mine 1));
  at = main;
  sound = sound_view (alone bank_caller) refl;
  others = elim [
    | Isolated ↦ λ n. absurd (n refl)
    | other ↦ λ _. plain_by (alone bank_caller)
        (with_callee bank_caller (called (IsolatedTo bank) (On bank) None) (mine 1)) main other refl
  ];
  fails = λ s. cc (s.owned.isolated {a = bank} callee (omega arith) refl);
}
plain_needed NoInitialiser = record {
  old = view_of (alone caller);
  new = view_of (with_callee caller (called MakesActor Generic None) (mine 1));
  at = main;
  sound = sound_view (alone caller) refl;
  others = elim [
    | NoInitialiser ↦ λ n. absurd (n refl)
    | other ↦ λ _. plain_by (alone caller)
        (with_callee caller (called MakesActor Generic None) (mine 1)) main other refl
  ];
  fails = λ s. s.initialisers.alone {p = main} {q = callee} refl (refl, omega arith)
      (there (with_callee caller (called MakesActor Generic None) (mine 1)) callee Here (mine 1)
      refl)
      (there (with_callee caller (called MakesActor Generic None) (mine 1)) main (Register 0)
      (mine 1) refl);
}
plain_needed HereColour = record {
  old = view_of (alone caller);
  new = view_of (with_callee caller plainly nobodys);
  at = main;
  sound = sound_view (alone caller) refl;
  others = elim [
    | HereColour ↦ λ n. absurd (n refl)
    | other ↦ λ _. plain_by (alone caller) (with_callee caller plainly nobodys) main other refl
  ];
  fails = λ s. cc (s.owned.owned (there (with_callee caller plainly nobodys) callee Here nobodys
      refl));
}

-- the caller's registers where the one that waits is not with the argument
abbrev misput : Row
misput = row free (mine 0) (slot 1 (mine 1 ∷ []) ∷ dead 5 ∷ [])

pub shares_needed : (premise : SharesPremise) → IsNeeded shares_says StaysSound premise
shares_needed Plain = record {
  old = view_of (alone caller);
  new = view_of (and_rogue caller plainly (mine 1));
  at = (main, Register 0);
  sound = sound_view (alone caller) refl;
  others = elim [
    | Plain ↦ λ n. absurd (n refl)
    | Colours ↦ λ _. there (alone caller) main (Register 0) (mine 1) refl
    | Result ↦ λ _. result_with (alone caller) (and_rogue caller plainly (mine 1)) main 1
        (Register 0) refl refl refl
  ];
  fails = λ s. cc (s.owned.owned (there (and_rogue caller plainly (mine 1)) task Here (mine 0)
      refl));
}
shares_needed Colours = record {
  old = view_of (alone caller);
  new = view_of (with_callee caller plainly nobodys);
  at = (main, Register 0);
  sound = sound_view (alone caller) refl;
  others = elim [
    | Plain ↦ λ _. elim [
      | HereColour ↦ λ n. absurd (n refl)
      | other ↦ λ _. plain_by (alone caller) (with_callee caller plainly nobodys) main other refl
    ]
    | Colours ↦ λ n. absurd (n refl)
    | Result ↦ λ _. result_with (alone caller) (with_callee caller plainly nobodys) main 1
        (Register 0) refl refl refl
  ];
  fails = λ s. cc (s.owned.owned (there (with_callee caller plainly nobodys) callee Here nobodys
      refl));
}
shares_needed Result = record {
  old = view_of (alone misput);
  new = view_of (with_callee misput plainly (mine 1));
  at = (main, Register 0);
  sound = sound_view (alone misput) refl;
  others = elim [
    | Plain ↦ λ _. elim [
      | HereColour ↦ λ n. absurd (n refl)
      | other ↦ λ _. plain_by (alone misput) (with_callee misput plainly (mine 1)) main other refl
    ]
    | Colours ↦ λ _. there (alone misput) main (Register 0) (mine 1) refl
    | Result ↦ λ n. absurd (n refl)
  ];
  fails = λ s. cc (s.returns.near {p = main} {x = Register 0} 1 refl
      (there (with_callee misput plainly (mine 1)) callee Here (mine 1) refl)
      (there (with_callee misput plainly (mine 1)) main (Register 0) (mine 1) refl));
}

-- ---- a call of what is isolated as its caller
-- the region of the register that waits
abbrev on_the_bank : ℕ → Row
on_the_bank region = row on_bank banks (slot 0 (banks ∷ []) ∷ dead region ∷ [])

abbrev samely : FrameShape
samely = called (IsolatedTo bank) (On bank) (Some 1)

-- the callee left its caller's executor
abbrev crossing_same : List Job
crossing_same = with_callee (on_the_bank 0) (left (IsolatedTo bank) (On bank) (Some 1)) banks

-- the callee stands on no actor
abbrev generic_same : List Job
generic_same = with_callee (on_the_bank 0) (called (IsolatedTo bank) Generic (Some 1)) banks

-- the callee is isolated to another actor
abbrev other_same : List Job
other_same = with_callee (on_the_bank 0) (called (IsolatedTo (Instance 1)) (On bank) (Some 1)) banks

pub same_possible : IsPossible same_says
same_possible = record {
  old = view_of (alone (on_the_bank 0));
  new = view_of (with_callee (on_the_bank 0) samely banks);
  at = (main, bank);
  sound = sound_view (alone (on_the_bank 0)) refl;
  all = elim [
    | Calls ↦ same_by (alone (on_the_bank 0)) (with_callee (on_the_bank 0) samely banks) main bank
        Calls refl
    | other ↦ same_by (alone (on_the_bank 0)) (with_callee (on_the_bank 0) samely banks) main bank
        other refl
  ];
}

pub same_needed : (premise : SamePremise) → IsNeeded same_says StaysSound premise
same_needed Calls = record {
  old = view_of (alone (on_the_bank 0));
  new = view_of (and_rogue (on_the_bank 0) samely banks);
  at = (main, bank);
  sound = sound_view (alone (on_the_bank 0)) refl;
  others = elim [
    | Calls ↦ λ n. absurd (n refl)
    | other ↦ λ _. same_by (alone (on_the_bank 0)) (and_rogue (on_the_bank 0) samely banks) main
        bank other refl
  ];
  fails = λ s. cc (s.owned.owned (there (and_rogue (on_the_bank 0) samely banks) task Here (mine 0)
      refl));
}
same_needed Stays = record {
  old = view_of (alone (on_the_bank 0));
  new = view_of crossing_same;
  at = (main, bank);
  sound = sound_view (alone (on_the_bank 0)) refl;
  others = elim [
    | Stays ↦ λ n. absurd (n refl)
    | other ↦ λ _. same_by (alone (on_the_bank 0))
        crossing_same main bank other
        refl
  ];
  fails = λ s. cc (s.stacked.linked 1 main (omega arith) refl refl);
}
same_needed SameExecutor = record {
  old = view_of (alone (on_the_bank 0));
  new = view_of generic_same;
  at = (main, bank);
  sound = sound_view (alone (on_the_bank 0)) refl;
  others = elim [
    | SameExecutor ↦ λ n. absurd (n refl)
    | other ↦ λ _. same_by (alone (on_the_bank 0))
        generic_same main bank other
        refl
  ];
  fails = λ s. cc (s.owned.stands {a = bank} callee (omega arith) refl);
}
same_needed IsIsolated = record {
  old = view_of (alone (on_the_bank 0));
  new = view_of other_same;
  at = (main, bank);
  sound = sound_view (alone (on_the_bank 0)) refl;
  others = elim [
    | IsIsolated ↦ λ n. absurd (n refl)
    | other ↦ λ _. same_by (alone (on_the_bank 0))
        other_same main
        bank other refl
  ];
  fails = λ s. cc (s.owned.stands {a = Instance 1} callee (omega arith) refl);
}
same_needed HereColour = record {
  old = view_of (alone (on_the_bank 0));
  new = view_of (with_callee (on_the_bank 0) samely (mine 7));
  at = (main, bank);
  sound = sound_view (alone (on_the_bank 0)) refl;
  others = elim [
    | HereColour ↦ λ n. absurd (n refl)
    | other ↦ λ _. same_by (alone (on_the_bank 0)) (with_callee (on_the_bank 0) samely (mine 7))
        main bank other refl
  ];
  fails = λ s. cc (s.owned.isolated {a = bank} callee (omega arith) refl);
}
same_needed CallerHere = record {
  old = view_of (alone caller);
  new = view_of (with_callee caller (called (IsolatedTo bank) Generic None) banks);
  at = (main, bank);
  sound = sound_view (alone caller) refl;
  others = elim [
    | CallerHere ↦ λ n. absurd (n refl)
    | other ↦ λ _. same_by (alone caller)
        (with_callee caller (called (IsolatedTo bank) Generic None) banks) main bank other refl
  ];
  fails = λ s. cc (s.owned.stands {a = bank} callee (omega arith) refl);
}
same_needed Result = record {
  old = view_of (alone (on_the_bank 5));
  new = view_of (with_callee (on_the_bank 5) samely banks);
  at = (main, bank);
  sound = sound_view (alone (on_the_bank 5)) refl;
  others = elim [
    | Result ↦ λ n. absurd (n refl)
    | other ↦ λ _. same_by (alone (on_the_bank 5)) (with_callee (on_the_bank 5) samely banks) main
        bank other refl
  ];
  fails = λ s. cc (s.returns.near {p = main} {x = Here} 1 refl
      (there (with_callee (on_the_bank 5) samely banks) callee Here banks refl)
      (there (with_callee (on_the_bank 5) samely banks) main Here banks refl));
}
