-- What ownership knows of a running program: the frames of the jobs, the regions in each frame
-- (SE-0414), and the colours that each element holds.
use Rattle.std.specs.Prelude.{◌≡◌, ℕ, zero, suc, ◌<◌, Bool, false, IsTrue, Option, List, Contains}
use Rattle.std.specs.Prelude.{⊤}
use Rattle.sw_owner_facts.specs.Colours.{Actor, Colour, OfJob, Executor, On}

-- a frame, by its job and the number of frames below it
pub record Frame : Type 0 where
  pub job : ℕ
  pub depth : ℕ

abbrev pub above : Frame → Frame
above p = record { job = p.job; depth = suc p.depth }

abbrev pub bottom : ℕ → Frame
bottom j = record { job = j; depth = zero }

-- p lies below q in the stack of one job
abbrev pub IsLowerFrame : Frame → Frame → Type 0
IsLowerFrame p q = (p.job ≡ q.job) × (p.depth < q.depth)

-- what a region is made of: the isolation domain in which the function runs, and its registers
pub data Element : Type 0 where
  Here : Element
  Register : (r : ℕ) → Element

-- What a function is isolated to. The initialiser of an actor stands for itself: its actor isn't
-- there yet.
pub data FunctionIsolation : Type 0 where
  Nonisolated : FunctionIsolation
  IsolatedTo : (actor : Actor) → FunctionIsolation
  MakesActor : FunctionIsolation

-- what is known of a frame without colours
pub record FrameShape : Type 0 where
  pub isolation : FunctionIsolation
  pub executor : Executor
  -- the call left the caller's executor, or there is no caller
  pub crossing : Bool
  -- an initialiser of an actor, or of a class with a global actor, of which only the return is left
  pub closing : Bool
  -- the register of the frame below that the result goes to, where the result can be in a region of
  -- that frame: it is not Sendable and not `sending`, and the call is not one that gives its
  -- arguments away
  pub result : Option ℕ

pub record View : Type 0 where
  pub running : ℕ → Bool
  -- the number of frames of a job
  pub height : ℕ → ℕ
  pub shape : Frame → FrameShape
  -- the colour of `Here`
  pub here : Frame → Colour
  -- Whether a register can still be used. Of a frame that waits for a call, the state is that after
  -- the call's operations, without the register that waits for the result.
  pub live : Frame → ℕ → Bool
  -- the number of the region that an element lies in
  pub region : Frame → Element → ℕ
  -- the colours of the memory that a register reaches
  pub colours : Frame → ℕ → List Colour

abbrev pub IsFrame : View → Frame → Type 0
IsFrame w p = p.depth < w.height p.job

abbrev pub IsTop : View → Frame → Type 0
IsTop w p = w.height p.job ≡ suc p.depth

abbrev pub IsLive : View → Frame → Element → Type 0
IsLive w p Here = ⊤
IsLive w p (Register r) = IsTrue (w.live p r)

abbrev pub Holds : View → Frame → Element → Colour → Type 0
Holds w p Here c = w.here p ≡ c
Holds w p (Register r) c = Contains (w.colours p r) c

-- a live element of a frame that isn't closing holds the colour
pub record HoldsLive (w : View) (p : Frame) (x : Element) (c : Colour) : Type 0 where
  pub frame : IsFrame w p
  pub not_closing : (w.shape p).closing ≡ false
  pub live : IsLive w p x
  pub holds : Holds w p x c

-- no live element holds the colour
abbrev pub IsUnheld : View → Colour → Type 0
IsUnheld w c = (p : Frame) (x : Element) → ¬ (HoldsLive w p x c)

-- the colour is the job's, and no live element holds it
pub record IsDisconnected (w : View) (j : ℕ) (c : Colour) : Type 0 where
  pub number : ℕ
  pub owner : c ≡ OfJob j number
  pub unheld : IsUnheld w c

-- two elements lie in one region
abbrev pub InOneRegion : View → Frame → Element → Element → Type 0
InOneRegion w p x y = w.region p x ≡ w.region p y

-- the frame is the top one of a running job, and stands on the actor
pub record RunsOn (w : View) (p : Frame) (a : Actor) : Type 0 where
  pub running : IsTrue (w.running p.job)
  pub top : IsTop w p
  pub executor : (w.shape p).executor ≡ On a
