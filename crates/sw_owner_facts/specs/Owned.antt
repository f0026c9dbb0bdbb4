-- When the jobs of a view keep their memory apart, and what makes that last.
use Rattle.std.specs.Prelude.{◌≡◌, ◌⊎◌, ℕ, zero, true, false, Some}
use Rattle.sw_owner_facts.specs.Colours.{Actor, Colour, OfActor, Generic, On, IsOwnedBy}
use Rattle.sw_owner_facts.specs.View.{Frame, above, IsLowerFrame, Element, Here, Register, IsolatedTo}
use Rattle.sw_owner_facts.specs.View.{MakesActor, View, IsFrame, HoldsLive, InOneRegion, RunsOn}

pub record IsOwned (w : View) : Type 0 where
  -- one running job at most stands on an actor with its top frame
  pub exclusive : {p q : Frame} {a : Actor} → RunsOn w p a → RunsOn w q a → p.job ≡ q.job
  -- a frame of an isolated function stands on its actor
  pub stands : {a : Actor} (p : Frame) → IsFrame w p → (w.shape p).isolation ≡ IsolatedTo a
      → (w.shape p).executor ≡ On a
  -- and its `Here` has the actor's colour
  pub isolated : {a : Actor} (p : Frame) → IsFrame w p → (w.shape p).isolation ≡ IsolatedTo a
      → w.here p ≡ OfActor a
  -- live elements of a frame that share a colour are in one region
  pub together : {p : Frame} {x y : Element} {c : Colour} → HoldsLive w p x c → HoldsLive w p y c
      → InOneRegion w p x y
  -- a live element's colours are owned by its job, or by what its frame runs on
  pub owned : {p : Frame} {x : Element} {c : Colour} → HoldsLive w p x c
      → IsOwnedBy p.job (w.shape p).executor c
  -- where an actor owns one, it is the colour of `Here`
  pub actors : {p : Frame} {x : Element} {a : Actor} → HoldsLive w p x (OfActor a)
      → w.here p ≡ OfActor a
  -- what live elements of two frames of a job share is the colour of the later frame's `Here`
  pub apart : {p q : Frame} {x y : Element} {c : Colour} → IsLowerFrame p q → HoldsLive w p x c
      → HoldsLive w q y c → w.here q ≡ c

-- How frames lie on one another. There are no colours in it.
pub record IsStacked (w : View) : Type 0 where
  -- a frame that was entered from elsewhere stands on an actor only where its function is isolated
  -- to it
  pub entered : {a : Actor} (p : Frame) → IsFrame w p
      → ((p.depth ≡ zero) ⊎ ((w.shape p).crossing ≡ true))
      → (w.shape p).executor ≡ On a → (w.shape p).isolation ≡ IsolatedTo a
  -- any other stands where its caller stands
  pub inherited : (p : Frame) → IsFrame w (above p) → (w.shape (above p)).crossing ≡ false
      → (w.shape (above p)).executor ≡ (w.shape p).executor
  -- where it was entered from elsewhere by a call whose result may be in a region of the caller's,
  -- it stands on no actor
  pub linked : (r : ℕ) (p : Frame) → IsFrame w (above p) → (w.shape (above p)).crossing ≡ true
      → (w.shape (above p)).result ≡ Some r → (w.shape (above p)).executor ≡ Generic
  -- a frame that waits for a call isn't closing
  pub waiting : (p : Frame) → IsFrame w (above p) → (w.shape p).closing ≡ false

-- Of a frame that waits for a result in register r: the callee may hand out what has the colour of
-- its `Here`.
pub record IsReturnLinked (w : View) : Type 0 where
  -- what has that colour in the frame that waits is in r's region
  pub near : {p : Frame} {x : Element} {c : Colour} (r : ℕ) → (w.shape (above p)).result ≡ Some r
      → HoldsLive w (above p) Here c → HoldsLive w p x c → InOneRegion w p x (Register r)
  -- and where something further below has it, it is the colour of the waiting frame's `Here`
  pub far : {o p : Frame} {x : Element} {c : Colour} (r : ℕ) → (w.shape (above p)).result ≡ Some r
      → IsLowerFrame o p → HoldsLive w (above p) Here c → HoldsLive w o x c → w.here p ≡ c

-- nothing below the initialiser of an actor has the colour of its `Here`, which is to become the
-- actor's
pub record IsInitialiserLinked (w : View) : Type 0 where
  pub alone : {p q : Frame} {x : Element} {c : Colour} → (w.shape q).isolation ≡ MakesActor
      → IsLowerFrame p q → HoldsLive w q Here c → ¬ (HoldsLive w p x c)

-- the invariant: each move of a program keeps it
pub record IsSound (w : View) : Type 0 where
  pub owned : IsOwned w
  pub stacked : IsStacked w
  pub returns : IsReturnLinked w
  pub initialisers : IsInitialiserLinked w
