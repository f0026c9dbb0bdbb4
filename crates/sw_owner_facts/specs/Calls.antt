-- Moves that put a frame on a job's stack or take it off: calls, returns, tasks.
use Rattle.std.specs.Prelude.{◌≡◌, ◌≢◌, ◌⊎◌, ℕ, suc, true, false, IsTrue, Some, None}
use Rattle.sw_owner_facts.specs.Colours.{Actor, Colour, OfJob, OfActor, Generic, On}
use Rattle.sw_owner_facts.specs.View.{Frame, above, bottom, Element, Here, Register, Nonisolated}
use Rattle.sw_owner_facts.specs.View.{IsolatedTo, MakesActor, View, IsFrame, IsTop, HoldsLive}
use Rattle.sw_owner_facts.specs.View.{IsDisconnected, InOneRegion}
use Rattle.sw_owner_facts.specs.Within.{Kept, KeptLive}

-- frame q is put on top of its job's stack
pub record Pushed (old new : View) (q : Frame) : Type 0 where
  pub before : old.height q.job ≡ q.depth
  pub height : new.height q.job ≡ suc q.depth
  pub heights : (j : ℕ) → j ≢ q.job → new.height j ≡ old.height j
  pub running : (j : ℕ) → IsTrue (new.running j) → IsTrue (old.running j)
  -- elements of the new frame that share a colour are in one region
  pub together : {x y : Element} {c : Colour} → HoldsLive new q x c → HoldsLive new q y c
      → InOneRegion new q x y

-- Frame p calls. What the callee holds has the colour of its `Here`, or was sent to it: then
-- nothing else holds it.
pub record Called (old new : View) (p : Frame) : Type 0 where
  pub pushed : Pushed old new (above p)
  pub not_closing : (old.shape p).closing ≡ false
  pub caller : KeptLive old new p
  pub others : (f : Frame) → IsFrame old f → f ≢ p → Kept old new f
  pub held : {x : Element} {c : Colour} → HoldsLive new (above p) x c
      → (new.here (above p) ≡ c) ⊎ IsDisconnected old p.job c

-- The result register, if the callee has one, is with what x was with.
abbrev pub ResultWith : View → View → Frame → Element → Type 0
ResultWith old new p x = (r : ℕ) → (new.shape (above p)).result ≡ Some r
    → (y : Element) (c : Colour) → HoldsLive new p y c
    → InOneRegion old p y x → InOneRegion new p y (Register r)

-- The callee's `Here` takes the colour of argument s, with which the result register is.
pub record SharesArgument (old new : View) (p : Frame) (s : Element) : Type 0 where
  pub colour : HoldsLive old p s (new.here (above p))
  pub result : ResultWith old new p s

-- A nonisolated callee, or a closure, runs where its caller does (SE-0461; so does each synchronous
-- one).
pub record CalledPlain (old new : View) (p : Frame) : Type 0 where
  pub called : Called old new p
  pub stays : (new.shape (above p)).crossing ≡ false
  pub executor : (new.shape (above p)).executor ≡ (new.shape p).executor
  -- an isolated closure has its actor's colour
  pub isolated : (a : Actor) → (new.shape (above p)).isolation ≡ IsolatedTo a
      → new.here (above p) ≡ OfActor a
  pub no_initialiser : (new.shape (above p)).isolation ≢ MakesActor
  pub here : ((s : Element) × SharesArgument old new p s)
      ⊎ IsDisconnected old p.job (new.here (above p))

-- A callee that is isolated as its caller.
pub record CalledSame (old new : View) (p : Frame) (a : Actor) : Type 0 where
  pub called : Called old new p
  pub stays : (new.shape (above p)).crossing ≡ false
  pub executor : (new.shape (above p)).executor ≡ (new.shape p).executor
  pub isolation : (new.shape (above p)).isolation ≡ IsolatedTo a
  pub here : new.here (above p) ≡ OfActor a
  pub caller_here : old.here p ≡ OfActor a
  pub result : ResultWith old new p Here

-- A nonisolated callee that leaves the caller's actor (SE-0338). Its arguments are free.
pub record CalledWeak (old new : View) (p : Frame) : Type 0 where
  pub called : Called old new p
  pub crosses : (new.shape (above p)).crossing ≡ true
  pub executor : (new.shape (above p)).executor ≡ Generic
  pub isolation : (new.shape (above p)).isolation ≡ Nonisolated
  pub here : ((s : Element) × SharesArgument old new p s × (¬ (InOneRegion old p s Here)))
      ⊎ IsDisconnected old p.job (new.here (above p))

-- The frame of a function that is isolated to an actor stands on it, and its `Here` has the actor's
-- colour.
pub record IsOnActor (w : View) (p : Frame) (a : Actor) : Type 0 where
  pub isolation : (w.shape p).isolation ≡ IsolatedTo a
  pub executor : (w.shape p).executor ≡ On a
  pub here : w.here p ≡ OfActor a

-- A callee on an actor, from elsewhere. Its arguments and its result are sent.
pub record CalledStrong (old new : View) (p : Frame) (a : Actor) : Type 0 where
  pub called : Called old new p
  pub crosses : (new.shape (above p)).crossing ≡ true
  pub leaves : new.running p.job ≡ false
  pub callee : IsOnActor new (above p) a
  pub result : (new.shape (above p)).result ≡ None

-- An actor's initialiser. Its arguments are sent.
pub record CalledMake (old new : View) (p : Frame) : Type 0 where
  pub called : Called old new p
  pub stays : (new.shape (above p)).crossing ≡ false
  pub executor : (new.shape (above p)).executor ≡ (new.shape p).executor
  pub isolation : (new.shape (above p)).isolation ≡ MakesActor
  pub here : IsDisconnected old p.job (new.here (above p))

-- A nonisolated function that stands on no actor, with a colour of its job for `Here`.
pub record IsOnNone (w : View) (p : Frame) : Type 0 where
  pub isolation : (w.shape p).isolation ≡ Nonisolated
  pub executor : (w.shape p).executor ≡ Generic
  pub here : (number : ℕ) × (w.here p ≡ OfJob p.job number)

-- A task: a new job of one frame. It holds the colour of its `Here`, and colours of its own that
-- nothing else holds: of what it is to hand over to its actor when it runs.
pub record Spawned (old new : View) (j : ℕ) : Type 0 where
  pub pushed : Pushed old new (bottom j)
  pub others : (p : Frame) → IsFrame old p → Kept old new p
  pub ready : new.running j ≡ false
  pub held : {x : Element} {c : Colour} → HoldsLive new (bottom j) x c
      → (new.here (bottom j) ≡ c) ⊎ IsDisconnected old j c
  pub stands : ((a : Actor) × IsOnActor new (bottom j) a) ⊎ IsOnNone new (bottom j)

-- frame q is taken off the top of its job's stack
pub record Popped (old new : View) (q : Frame) : Type 0 where
  pub top : IsTop old q
  pub height : new.height q.job ≡ q.depth
  pub heights : (j : ℕ) → j ≢ q.job → new.height j ≡ old.height j
  pub running : (j : ℕ) → IsTrue (new.running j) → IsTrue (old.running j)

-- The value whose colour register r gets at a return: that of a call whose result may be in a
-- region of the caller's, or a value that is free (a `sending` result, SE-0430).
pub record Handed (old : View) (p : Frame) (r : ℕ) (c : Colour) : Type 0 where
  pub value : Element
  pub holds : HoldsLive old (above p) value c
  pub allowed : ((old.shape (above p)).result ≡ Some r) ⊎ (¬ (InOneRegion old (above p) value Here))

-- The frame above p returns; register r of p gets the result, if p has such a register. Where the
-- callee was entered from elsewhere, the job leaves the executor.
pub record Returned (old new : View) (p : Frame) (r : ℕ) : Type 0 where
  pub popped : Popped old new (above p)
  pub leaves : (old.shape (above p)).crossing ≡ true → new.running p.job ≡ false
  pub shape : new.shape p ≡ old.shape p
  pub held : {x : Element} {c : Colour} → HoldsLive new p x c → HoldsLive old p x c
      ⊎ ((x ≡ Register r) × Handed old p r c)
  pub together : {x y : Element} → InOneRegion old p x y → InOneRegion new p x y
  pub others : (f : Frame) → IsFrame new f → f ≢ p → Kept old new f

-- A job ends with its last frame.
pub record JobEnded (old new : View) (j : ℕ) : Type 0 where
  pub height : new.height j ≡ 0
  pub heights : (i : ℕ) → i ≢ j → new.height i ≡ old.height i
  pub running : (i : ℕ) → i ≢ j → IsTrue (new.running i) → IsTrue (old.running i)
  pub others : (p : Frame) → IsFrame new p → Kept old new p
