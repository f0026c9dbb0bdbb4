-- Three views that are owned and lack one of the three facts beside it each, with the move that
-- breaks ownership; and a frame that waits on an actor while another job runs there.
use Rattle.std.specs.Prelude.{◌≡◌, ◌⊎◌, ℕ, Bool, true, false, Some, None, List, [], ◌∷◌, refl}
use Rattle.std.proofs.Common.{inl, inr, arith}
use Rattle.sw_owner_facts.specs.Colours.{Actor, Colour, OfActor, Generic, On}
use Rattle.sw_owner_facts.specs.View.{Frame, Element, Here, Register, Nonisolated, MakesActor, View}
use Rattle.sw_owner_facts.specs.View.{HoldsLive, RunsOn}
use Rattle.sw_owner_facts.specs.Owned.{IsOwned, IsStacked, IsReturnLinked, IsInitialiserLinked, IsSound}
use Rattle.sw_owner_facts.specs.Within.{Kept, Merged, Recoloured, BeginsClosing}
use Rattle.sw_owner_facts.specs.Calls.{Returned}
use Rattle.sw_owner_facts.specs.Sketch.{Job, view_of}
use Rattle.sw_owner_facts.specs.Premises.{WaitsOn}
use Rattle.sw_owner_facts.proofs.Sketches.Tests.{sound_view, owned_view, stacked_view, returns_view}
use Rattle.sw_owner_facts.proofs.Sketches.Tests.{initialisers_view}
use Rattle.sw_owner_facts.proofs.Sketches.Reading.{there, joined, for_holders, held_by, kept_but}
use Rattle.sw_owner_facts.proofs.Sketches.Moves.{popped, same_jobs, recoloured}
use Rattle.sw_owner_facts.proofs.MergedLemmas.{others_stay}
use Rattle.sw_owner_facts.proofs.Sketches.Premises.{runs_by}
use Rattle.sw_owner_facts.proofs.Examples.Views.{bank, banks, mine, yours, main, callee, task, called}
use Rattle.sw_owner_facts.proofs.Examples.Views.{free, on_bank, slot, dead, row, runs, waits}

-- `let z = Cell(); let a = Cell(); let r = pick(a)`, where `pick` has z in its register
abbrev picking : List Job
picking = runs (row free (mine 0) (slot 1 (mine 1 ∷ []) ∷ slot 2 (mine 2 ∷ []) ∷ dead 2 ∷ [])
    ∷ row (called Nonisolated Generic (Some 2)) (mine 1) (slot 0 (mine 1 ∷ []) ∷ []) ∷ []) ∷ []

abbrev picked : List Job
picked = runs (row free (mine 0) (slot 1 (mine 1 ∷ []) ∷ slot 2 (mine 2 ∷ []) ∷ slot 2 (mine 1 ∷ [])
    ∷ []) ∷ []) ∷ []

pick_returns : Returned (view_of picking) (view_of picked) main 2
pick_returns = record {
  popped = popped picking picked callee refl;
  leaves = λ e. absurd (cc (e));
  shape = refl;
  held = λ {x} {c} h. for_holders picked main (λ x c. HoldsLive (view_of picking) main x c
      ⊎ ((x ≡ Register 2) × Rattle.sw_owner_facts.specs.Calls.Handed (view_of picking) main 2 c))
      (record {
        first = inl (there picking main Here (mine 0) refl);
        rest = record {
          first = inl (there picking main (Register 0) (mine 1) refl);
          rest = record {
            first = inl (there picking main (Register 1) (mine 2) refl);
            rest = record {
              first = inr (
                refl,
                record {
                  value = Register 0;
                  holds = there picking callee (Register 0) (mine 1) refl;
                  allowed = inl refl;
                },
              );
              rest = record {};
            };
          };
        };
      }) x c h;
  together = λ {x} {y} t. joined picking picked main refl x y t;
  others = kept_but main picked picking picked refl;
}

pub without_return_link : (old new : View) × (p : Frame) × (r : ℕ) × IsOwned old × IsStacked old
    × IsInitialiserLinked old
    × Returned old new p r × (¬ (IsOwned new))
without_return_link = (
  view_of picking,
  view_of picked,
  main,
  2,
  owned_view picking refl refl,
  stacked_view picking refl,
  initialisers_view picking refl,
  pick_returns,
  λ o. cc (o.together (there picked main (Register 0) (mine 1) refl)
      (there picked main (Register 2) (mine 1) refl)),
)

-- `let z = Cell(); let k = K(Cell())`, where the `Here` of the initialiser has the colour of z
abbrev making : Bool → Colour → Colour → List Job
making closing z here = runs (row free (mine 0) (slot 1 (z ∷ []) ∷ [])
    ∷ row (record {
      isolation = MakesActor;
      executor = Generic;
      crossing = false;
      closing = closing;
      result = None;
    }) here [] ∷ []) ∷ []

pub without_initialiser_link : (old closed new : View) × (q : Frame) × (number : ℕ) × (a : Actor)
    × IsOwned old × IsStacked old × IsReturnLinked old
    × ((old.shape q).isolation ≡ MakesActor) × BeginsClosing old closed q
    × Recoloured closed new q.job number (OfActor a) × (¬ (IsOwned new))
without_initialiser_link = (
  view_of (making false (mine 1) (mine 1)),
  view_of (making true (mine 1) (mine 1)),
  view_of (making true banks banks),
  callee,
  1,
  bank,
  owned_view (making false (mine 1) (mine 1)) refl refl,
  stacked_view (making false (mine 1) (mine 1)) refl,
  returns_view (making false (mine 1) (mine 1)) refl,
  refl,
  record {
    top = refl;
    jobs = same_jobs (making false (mine 1) (mine 1)) (making true (mine 1) (mine 1)) refl;
    shape = refl;
    here = refl;
    others = kept_but callee (making false (mine 1) (mine 1)) (making false (mine 1) (mine 1))
        (making true (mine 1) (mine 1)) refl;
  },
  recoloured (making true (mine 1) (mine 1)) (making true banks banks) 0 1 banks refl,
  λ o. cc (o.owned (there (making true banks banks) main (Register 0) banks refl)),
)

-- a frame that isn't crossing stands on no actor, above one that stands on the bank
abbrev misplaced : List Job
misplaced = runs (row on_bank banks [] ∷ row (called Nonisolated Generic None) (mine 1) [] ∷ []) ∷
    runs (row on_bank banks [] ∷ []) ∷ []

abbrev two_run : List Job
two_run = runs (row on_bank banks [] ∷ []) ∷ runs (row on_bank banks [] ∷ []) ∷ []

misplaced_returns : Returned (view_of misplaced) (view_of two_run) main 0
misplaced_returns = record {
  popped = popped misplaced two_run callee refl;
  leaves = λ e. absurd (cc (e));
  shape = refl;
  held = λ {x} {c} h. inl (held_by misplaced two_run main (λ x. x) refl x c h);
  together = λ t. t;
  others = kept_but main two_run misplaced two_run refl;
}

pub without_stack_shape : (old new : View) × (p : Frame) × (r : ℕ) × IsOwned old
    × IsReturnLinked old × IsInitialiserLinked old
    × Returned old new p r × (¬ (IsOwned new))
without_stack_shape = (
  view_of misplaced,
  view_of two_run,
  main,
  0,
  owned_view misplaced refl refl,
  returns_view misplaced refl,
  initialisers_view misplaced refl,
  misplaced_returns,
  λ o. cc (o.exclusive (runs_by two_run main bank refl)
      (runs_by two_run task bank refl)),
)

-- ---- a nonisolated function waits on the bank, while another job runs there and gives the bank
-- what it had
abbrev waiting_caller : Colour → ℕ → List Job
waiting_caller c region = waits (row on_bank banks [] ∷ row (called Nonisolated (On bank) None)
    (mine 1) (slot 0 (mine 1 ∷ []) ∷ slot 2 (mine 2 ∷ []) ∷ []) ∷ [])
    ∷ runs (row on_bank banks (slot region (c ∷ []) ∷ []) ∷ []) ∷ []

bank_merges : Merged (view_of (waiting_caller (yours 1) 1)) (view_of (waiting_caller banks 0)) task
    (Register 0) Here 1 banks
bank_merges = record {
  top = refl;
  holds_lost = there (waiting_caller (yours 1) 1) task (Register 0) (yours 1) refl;
  holds_kept = there (waiting_caller (yours 1) 1) task Here banks refl;
  recoloured = recoloured (waiting_caller (yours 1) 1) (waiting_caller banks 0) 1 1 banks refl;
  joined = refl;
}

pub caller_waits : (old new : View) × (p q : Frame) × (a : Actor) × (x y : Element) × (number : ℕ)
    × IsSound old × WaitsOn old p a × RunsOn old q a
    × Merged old new q x y number (OfActor a) × Kept old new p
caller_waits = (
  view_of (waiting_caller (yours 1) 1),
  view_of (waiting_caller banks 0),
  callee,
  task,
  bank,
  Register 0,
  Here,
  1,
  sound_view (waiting_caller (yours 1) 1) refl,
  record { frame = omega arith; isolation = refl; executor = refl; stopped = refl },
  runs_by (waiting_caller (yours 1) 1) task bank refl,
  bank_merges,
  others_stay (view_of (waiting_caller (yours 1) 1)) (view_of (waiting_caller banks 0)) task
      (Register 0) Here 1 banks (sound_view (waiting_caller (yours 1) 1) refl)
      bank_merges callee (λ e. cc (e)) (omega arith) refl,
)
