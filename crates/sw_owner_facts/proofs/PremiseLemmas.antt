-- The premises of each move, one by one, are all of them.
use Rattle.std.specs.Prelude.{ℕ, List}
use Rattle.std.proofs.Common.{inl}
use Rattle.sw_owner_facts.specs.Colours.{Actor, Colour}
use Rattle.sw_owner_facts.specs.View.{Frame, Element, View}
use Rattle.sw_owner_facts.specs.Within.{Within, Comes, Freshened, Recoloured, Merged, Weakened, GivenAway}
use Rattle.sw_owner_facts.specs.Within.{BeginsClosing, Dispatched}
use Rattle.sw_owner_facts.specs.Calls.{CalledPlain, CalledSame, CalledWeak, CalledStrong, CalledMake}
use Rattle.sw_owner_facts.specs.Calls.{Spawned, Returned, JobEnded}
use Rattle.sw_owner_facts.specs.Premises.{WithinPremise, within_says, ComesPremise, comes_says}
use Rattle.sw_owner_facts.specs.Premises.{FreshenedPremise, freshened_says, MergedPremise, merged_says}
use Rattle.sw_owner_facts.specs.Premises.{WeakenedPremise, weakened_says, UnheldPremise, unheld_says}
use Rattle.sw_owner_facts.specs.Premises.{GivenPremise, given_says, ClosedPremise, closed_says}
use Rattle.sw_owner_facts.specs.Premises.{DispatchedPremise, dispatched_says, PlainPremise, plain_says}
use Rattle.sw_owner_facts.specs.Premises.{SharesPremise, shares_says, SamePremise, same_says, WeakPremise}
use Rattle.sw_owner_facts.specs.Premises.{weak_says, StrongPremise, strong_says, MakePremise, make_says}
use Rattle.sw_owner_facts.specs.Premises.{SpawnedPremise, spawned_says, ReturnedPremise, returned_says}
use Rattle.sw_owner_facts.specs.Premises.{EndedPremise, ended_says, Top, Jobs, SameShape, SameHere}
use Rattle.sw_owner_facts.specs.Premises.{Others, Held, Joined, Change, Fresh, NewColour, HoldsLost}
use Rattle.sw_owner_facts.specs.Premises.{HoldsKept, Recolours, Heights, Running, HereTurns, Weakens}
use Rattle.sw_owner_facts.specs.Premises.{Free, Gone, NewShape, Frames, Exclusive, Before, Height, Fits}
use Rattle.sw_owner_facts.specs.Premises.{NotClosing, CallerShape, CallerHeld, CallerJoined, Sent, Stays}
use Rattle.sw_owner_facts.specs.Premises.{SameExecutor, Isolated, NoInitialiser, HereColour, Plain}
use Rattle.sw_owner_facts.specs.Premises.{Colours, Result, Calls, IsIsolated, CallerHere, Crosses}
use Rattle.sw_owner_facts.specs.Premises.{NoExecutor, NotIsolated, Leaves, OnActor, NoResult, Makes}
use Rattle.sw_owner_facts.specs.Premises.{Pushes, Ready, Stands}

pub within_whole : (old new : View) (q : Frame) (origin : Element → Element)
    → ((premise : WithinPremise) → within_says old new (q, origin) premise)
    → Within old new q origin
within_whole old new q origin says = record {
  change = record {
    top = says Top;
    jobs = says Jobs;
    shape = says SameShape;
    here = says SameHere;
    others = says Others;
  };
  held = λ {x} {c}. says Held x c;
  together = λ {x} {y}. says Joined x y;
}

pub comes_whole : (old new : View) (q : Frame) (origins : Element → List Element)
    → ((premise : ComesPremise) → comes_says old new (q, origins) premise)
    → Comes old new q origins
comes_whole old new q origins says = record {
  change = says Change;
  held = λ {x} {c}. says Held x c;
  together = λ {x} {y} {from_x} {from_y}. says Joined x y from_x from_y;
}

pub freshened_whole : (old new : View) (q : Frame) (r number : ℕ)
    → ((premise : FreshenedPremise) → freshened_says old new (q, r, number) premise)
    → Freshened old new q r number
freshened_whole old new q r number says = record {
  change = says Change;
  fresh = says Fresh;
  register = λ {c}. says NewColour c;
  held = λ {x} {c}. says Held x c;
  together = λ {x} {y}. says Joined x y;
}

pub merged_whole : (old new : View) (q : Frame) (x y : Element) (number : ℕ) (kept : Colour)
    → ((premise : MergedPremise) → merged_says old new (q, x, y, number, kept) premise)
    → Merged old new q x y number kept
merged_whole old new q x y number kept says = record {
  top = says Top;
  holds_lost = says HoldsLost;
  holds_kept = says HoldsKept;
  recoloured = says Recolours;
  joined = says Joined;
}

pub weakened_whole : (old new : View)
    → ((premise : WeakenedPremise) → weakened_says old new tt premise) → Weakened old new
weakened_whole old new says = record {
  jobs = record { height = says Heights; running = says Running };
  frames = λ p f. record {
    shape = says SameShape p f;
    here = says SameHere p f;
    held = λ {x} {c}. says Held p f x c;
    together = λ {x} {y}. says Joined p f x y;
  };
}

pub unheld_whole : (old new : View) (j number : ℕ) (kept : Colour)
    → ((premise : UnheldPremise) → unheld_says old new (j, number, kept) premise)
    → Recoloured old new j number kept
unheld_whole old new j number kept says = record {
  jobs = says Jobs;
  shape = says SameShape;
  here = says HereTurns;
  held = λ {p} {x} {d}. says Held p x d;
  together = λ {x} {y} p f. says Joined p f x y;
}

pub given_whole : (old new : View) (q : Frame) (x : Element)
    → ((premise : GivenPremise) → given_says old new (q, x) premise) → GivenAway old new q x
given_whole old new q x says = record {
  top = says Top;
  weakened = says Weakens;
  free = says Free;
  gone = says Gone;
}

pub closed_whole : (old new : View) (q : Frame)
    → ((premise : ClosedPremise) → closed_says old new q premise) → BeginsClosing old new q
closed_whole old new q says = record {
  top = says Top;
  jobs = says Jobs;
  shape = says NewShape;
  here = says SameHere;
  others = says Others;
}

pub dispatched_whole : (old new : View) (j : ℕ)
    → ((premise : DispatchedPremise) → dispatched_says old new j premise) → Dispatched old new j
dispatched_whole old new j says = record {
  height = says Heights;
  running = says Running;
  frames = says Frames;
  exclusive = λ {q} {a} p. says Exclusive p q a;
}

pub plain_whole : (old new : View) (p : Frame)
    → ((premise : PlainPremise) → plain_says old new p premise) → CalledPlain old new p
plain_whole old new p says = record {
  called = record {
    pushed = record {
      before = says Before;
      height = says Height;
      heights = says Heights;
      running = says Running;
      together = λ {x} {y} {c}. says Fits x y c;
    };
    not_closing = says NotClosing;
    caller = record {
      shape = says CallerShape;
      held = λ {x} {c}. says CallerHeld x c;
      together = λ {x} {y} {c} {d}. says CallerJoined x y c d;
    };
    others = says Others;
    held = λ {x} {c}. says Sent x c;
  };
  stays = says Stays;
  executor = says SameExecutor;
  isolated = says Isolated;
  no_initialiser = says NoInitialiser;
  here = says HereColour;
}

pub shares_whole : (old new : View) (p : Frame) (s : Element)
    → ((premise : SharesPremise) → shares_says old new (p, s) premise) → CalledPlain old new p
shares_whole old new p s says = plain_whole old new p (elim [
  | Before ↦ says Plain Before (λ e. cc (e))
  | Height ↦ says Plain Height (λ e. cc (e))
  | Heights ↦ says Plain Heights (λ e. cc (e))
  | Running ↦ says Plain Running (λ e. cc (e))
  | Fits ↦ says Plain Fits (λ e. cc (e))
  | NotClosing ↦ says Plain NotClosing (λ e. cc (e))
  | CallerShape ↦ says Plain CallerShape (λ e. cc (e))
  | CallerHeld ↦ says Plain CallerHeld (λ e. cc (e))
  | CallerJoined ↦ says Plain CallerJoined (λ e. cc (e))
  | Others ↦ says Plain Others (λ e. cc (e))
  | Sent ↦ says Plain Sent (λ e. cc (e))
  | Stays ↦ says Plain Stays (λ e. cc (e))
  | SameExecutor ↦ says Plain SameExecutor (λ e. cc (e))
  | Isolated ↦ says Plain Isolated (λ e. cc (e))
  | NoInitialiser ↦ says Plain NoInitialiser (λ e. cc (e))
  | HereColour ↦ inl (s, record { colour = says Colours; result = says Result })
])

pub same_whole : (old new : View) (p : Frame) (a : Actor)
    → ((premise : SamePremise) → same_says old new (p, a) premise) → CalledSame old new p a
same_whole old new p a says = record {
  called = says Calls;
  stays = says Stays;
  executor = says SameExecutor;
  isolation = says IsIsolated;
  here = says HereColour;
  caller_here = says CallerHere;
  result = says Result;
}

pub weak_whole : (old new : View) (p : Frame) (s : Element)
    → ((premise : WeakPremise) → weak_says old new (p, s) premise) → CalledWeak old new p
weak_whole old new p s says = record {
  called = says Calls;
  crosses = says Crosses;
  executor = says NoExecutor;
  isolation = says NotIsolated;
  here = inl (s, record { colour = says Colours; result = says Result }, says Free);
}

pub strong_whole : (old new : View) (p : Frame) (a : Actor)
    → ((premise : StrongPremise) → strong_says old new (p, a) premise) → CalledStrong old new p a
strong_whole old new p a says = record {
  called = says Calls;
  crosses = says Crosses;
  leaves = says Leaves;
  callee = record { isolation = says IsIsolated; executor = says OnActor; here = says HereColour };
  result = says NoResult;
}

pub make_whole : (old new : View) (p : Frame)
    → ((premise : MakePremise) → make_says old new p premise) → CalledMake old new p
make_whole old new p says = record {
  called = says Calls;
  stays = says Stays;
  executor = says SameExecutor;
  isolation = says Makes;
  here = says HereColour;
}

pub spawned_whole : (old new : View) (j : ℕ)
    → ((premise : SpawnedPremise) → spawned_says old new j premise) → Spawned old new j
spawned_whole old new j says = record {
  pushed = says Pushes;
  others = says Others;
  ready = says Ready;
  held = λ {x} {c}. says Held x c;
  stands = says Stands;
}

pub returned_whole : (old new : View) (p : Frame) (r : ℕ)
    → ((premise : ReturnedPremise) → returned_says old new (p, r) premise) → Returned old new p r
returned_whole old new p r says = record {
  popped = record {
    top = says Top;
    height = says Height;
    heights = says Heights;
    running = says Running;
  };
  leaves = says Leaves;
  shape = says SameShape;
  held = λ {x} {c}. says Held x c;
  together = λ {x} {y}. says Joined x y;
  others = says Others;
}

pub ended_whole : (old new : View) (j : ℕ)
    → ((premise : EndedPremise) → ended_says old new j premise) → JobEnded old new j
ended_whole old new j says = record {
  height = says Height;
  heights = says Heights;
  running = says Running;
  others = says Others;
}
