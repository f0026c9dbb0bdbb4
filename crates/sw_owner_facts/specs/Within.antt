-- Moves that leave each job with the frames that it has: what a step does to the top frame of its
-- job, or to colours.
use Rattle.std.specs.Prelude.{◌≡◌, ◌≢◌, ◌⊎◌, ℕ, true, IsTrue, ◌==◌, if◌then◌else◌, List, [], ◌∷◌}
use Rattle.std.specs.Prelude.{Contains}
use Rattle.sw_owner_facts.specs.Colours.{Colour, OfJob, On, Actor}
use Rattle.sw_owner_facts.specs.View.{Frame, Element, Here, Register, View, IsFrame, IsTop, HoldsLive}
use Rattle.sw_owner_facts.specs.View.{IsUnheld, InOneRegion, RunsOn}

-- a frame holds what it held, or less; its regions stay, or unite
pub record Kept (old new : View) (p : Frame) : Type 0 where
  pub shape : new.shape p ≡ old.shape p
  pub here : new.here p ≡ old.here p
  pub held : {x : Element} {c : Colour} → HoldsLive new p x c → HoldsLive old p x c
  pub together : {x y : Element} → InOneRegion old p x y → InOneRegion new p x y

-- What is live in a frame was held, and what was together among it is together. A call's operations
-- take the register that waits out of its region.
pub record KeptLive (old new : View) (p : Frame) : Type 0 where
  pub shape : new.shape p ≡ old.shape p
  pub held : {x : Element} {c : Colour} → HoldsLive new p x c → HoldsLive old p x c
  pub together : {x y : Element} {c d : Colour} → HoldsLive new p x c → HoldsLive new p y d
      → InOneRegion old p x y → InOneRegion new p x y

-- each job has the frames that it had, and no job starts to run; one may stop
pub record SameJobs (old new : View) : Type 0 where
  pub height : (j : ℕ) → new.height j ≡ old.height j
  pub running : (j : ℕ) → IsTrue (new.running j) → IsTrue (old.running j)

-- a job's top frame changes inside, and nothing else
pub record ChangesTop (old new : View) (q : Frame) : Type 0 where
  pub top : IsTop old q
  pub jobs : SameJobs old new
  pub shape : new.shape q ≡ old.shape q
  pub here : new.here q ≡ old.here q
  pub others : (p : Frame) → IsFrame old p → p ≢ q → Kept old new p

-- Each element of the top frame is as good as the element that it comes from was.
pub record Within (old new : View) (q : Frame) (origin : Element → Element) : Type 0 where
  pub change : ChangesTop old new q
  pub held : {x : Element} {c : Colour} → HoldsLive new q x c → HoldsLive old q (origin x) c
  pub together : {x y : Element} → InOneRegion old q (origin x) (origin y) → InOneRegion new q x y

-- Each colour of an element of the top frame comes from one of several elements.
pub record Comes (old new : View) (q : Frame) (origins : Element → List Element) : Type 0 where
  pub change : ChangesTop old new q
  pub held : {x : Element} {c : Colour} → HoldsLive new q x c
      → (y : Element) × Contains (origins x) y × HoldsLive old q y c
  pub together : {x y from_x from_y : Element} → Contains (origins x) from_x
      → Contains (origins y) from_y
      → InOneRegion old q from_x from_y → InOneRegion new q x y

-- where an element comes from that is put with y: y, if it is register r; each other one comes from
-- itself
abbrev pub put_with : ℕ → Element → Element → Element
put_with r y Here = Here
put_with r y (Register s) = if s == r then y else Register s

-- where register r gets no colour: from nothing
abbrev pub without : ℕ → Element → List Element
without r Here = Here ∷ []
without r (Register s) = if s == r then [] else Register s ∷ []

-- register r of the top frame gets a colour of its job that nothing live holds
pub record Freshened (old new : View) (q : Frame) (r number : ℕ) : Type 0 where
  pub change : ChangesTop old new q
  pub fresh : IsUnheld old (OfJob q.job number)
  pub register : {c : Colour} → HoldsLive new q (Register r) c → c ≡ OfJob q.job number
  pub held : {x : Element} {c : Colour} → x ≢ Register r → HoldsLive new q x c → HoldsLive old q x c
  pub together : {x y : Element} → x ≢ Register r → y ≢ Register r → InOneRegion old q x y
      → InOneRegion new q x y

-- colour c becomes d where `lost` becomes `kept`
abbrev pub Becomes : Colour → Colour → Colour → Colour → Type 0
Becomes lost kept c d = ((c ≡ lost) × (d ≡ kept)) ⊎ ((c ≢ lost) × (d ≡ c))

-- a colour of a job becomes another one, wherever it is
pub record Recoloured (old new : View) (job number : ℕ) (kept : Colour) : Type 0 where
  pub jobs : SameJobs old new
  pub shape : (p : Frame) → IsFrame old p → new.shape p ≡ old.shape p
  pub here : (p : Frame) → IsFrame old p → Becomes (OfJob job number) kept (old.here p) (new.here p)
  pub held : {p : Frame} {x : Element} {d : Colour} → HoldsLive new p x d
      → (c : Colour) × HoldsLive old p x c × Becomes (OfJob job number) kept c d
  pub together : {x y : Element} (p : Frame) → IsFrame old p → InOneRegion old p x y
      → InOneRegion new p x y

-- Two colours that the top frame holds become one, and what held them is together. An actor's
-- colour stays.
pub record Merged (old new : View) (q : Frame) (x y : Element) (number : ℕ) (kept : Colour) : Type 0
  where
    pub top : IsTop old q
    pub holds_lost : HoldsLive old q x (OfJob q.job number)
    pub holds_kept : HoldsLive old q y kept
    pub recoloured : Recoloured old new q.job number kept
    pub joined : InOneRegion new q x y

-- No frame changes but that it may hold less, or that more is together. A job may stop: it leaves
-- its executor, and its frames wait as they are.
pub record Weakened (old new : View) : Type 0 where
  pub jobs : SameJobs old new
  pub frames : (p : Frame) → IsFrame old p → Kept old new p

-- What is together with x is given away: x is not with `Here`, and no register with x is live
-- afterwards.
pub record GivenAway (old new : View) (q : Frame) (x : Element) : Type 0 where
  pub top : IsTop old q
  pub weakened : Weakened old new
  pub free : ¬ (InOneRegion old q x Here)
  pub gone : (r : ℕ) → InOneRegion old q x (Register r) → ¬ (IsTrue (new.live q r))

-- the top frame has only its return left
pub record BeginsClosing (old new : View) (q : Frame) : Type 0 where
  pub top : IsTop old q
  pub jobs : SameJobs old new
  pub shape : new.shape q ≡ record (old.shape q) { closing = true }
  pub here : new.here q ≡ old.here q
  pub others : (p : Frame) → IsFrame old p → p ≢ q → Kept old new p

-- the job runs, where no running job's top frame stands on the actor of its own top frame
pub record Dispatched (old new : View) (j : ℕ) : Type 0 where
  pub height : (i : ℕ) → new.height i ≡ old.height i
  pub running : (i : ℕ) → i ≢ j → IsTrue (new.running i) → IsTrue (old.running i)
  pub frames : (p : Frame) → IsFrame old p → Kept old new p
  pub exclusive : {q : Frame} {a : Actor} (p : Frame) → p.job ≡ j → IsTop old p
      → (old.shape p).executor ≡ On a → ¬ (RunsOn old q a)
