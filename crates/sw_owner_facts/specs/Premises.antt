-- The premises of each move, one by one, and what it means that a move needs one of them.
use Rattle.std.specs.Prelude.{◌≡◌, ◌≢◌, ◌⊎◌, ℕ, suc, true, false, IsTrue, None, List, Contains}
use Rattle.sw_owner_facts.specs.Colours.{Actor, Colour, OfJob, OfActor, Generic, On}
use Rattle.sw_owner_facts.specs.View.{Frame, above, bottom, Element, Here, Register, Nonisolated}
use Rattle.sw_owner_facts.specs.View.{IsolatedTo, MakesActor, View, IsFrame, IsTop, HoldsLive, IsUnheld}
use Rattle.sw_owner_facts.specs.View.{IsDisconnected, InOneRegion, RunsOn}
use Rattle.sw_owner_facts.specs.Owned.{IsSound}
use Rattle.sw_owner_facts.specs.Within.{Kept, SameJobs, ChangesTop, Becomes, Recoloured, Weakened}
use Rattle.sw_owner_facts.specs.Within.{BeginsClosing}
use Rattle.sw_owner_facts.specs.Calls.{Pushed, Called, ResultWith, SharesArgument, IsOnActor, IsOnNone}
use Rattle.sw_owner_facts.specs.Calls.{Handed}

-- From some sound view a move that meets each premise but this one ends where the goal does not
-- hold.
pub record IsNeeded {X Premise : Type 0} (says : View → View → X → Premise → Type 0)
    (goal : View → View → X → Type 0) (premise : Premise) : Type 0 where
  pub old : View
  pub new : View
  pub at : X
  pub sound : IsSound old
  pub others : (other : Premise) → other ≢ premise → says old new at other
  pub fails : ¬ (goal old new at)

-- From some sound view the move can be made.
pub record IsPossible {X Premise : Type 0} (says : View → View → X → Premise → Type 0) : Type 0
  where
    pub old : View
    pub new : View
    pub at : X
    pub sound : IsSound old
    pub all : (premise : Premise) → says old new at premise

-- the goal of most moves
abbrev pub StaysSound : {X : Type 0} → View → View → X → Type 0
StaysSound old new at = IsSound new

-- ---- within frames
pub data WithinPremise : Type 0 where
  Top Jobs SameShape SameHere Others Held Joined : WithinPremise

abbrev pub within_says : View → View → Frame × (Element → Element) → WithinPremise → Type 0
within_says old new (q, origin) Top = IsTop old q
within_says old new (q, origin) Jobs = SameJobs old new
within_says old new (q, origin) SameShape = new.shape q ≡ old.shape q
within_says old new (q, origin) SameHere = new.here q ≡ old.here q
within_says old new (q, origin) Others = (p : Frame) → IsFrame old p → p ≢ q → Kept old new p
within_says old new (q, origin) Held = (x : Element) (c : Colour) → HoldsLive new q x c
    → HoldsLive old q (origin x) c
within_says old new (q, origin) Joined = (x y : Element) → InOneRegion old q (origin x) (origin y)
    → InOneRegion new q x y

pub data ComesPremise : Type 0 where
  Change Held Joined : ComesPremise

abbrev pub comes_says : View → View → Frame × (Element → List Element) → ComesPremise → Type 0
comes_says old new (q, origins) Change = ChangesTop old new q
comes_says old new (q, origins) Held = (x : Element) (c : Colour) → HoldsLive new q x c
    → (y : Element) × Contains (origins x) y × HoldsLive old q y c
comes_says old new (q, origins) Joined = (x y from_x from_y : Element) → Contains (origins x) from_x
    → Contains (origins y) from_y
    → InOneRegion old q from_x from_y → InOneRegion new q x y

pub data FreshenedPremise : Type 0 where
  Change Fresh NewColour Held Joined : FreshenedPremise

abbrev pub freshened_says : View → View → Frame × ℕ × ℕ → FreshenedPremise → Type 0
freshened_says old new (q, r, number) Change = ChangesTop old new q
freshened_says old new (q, r, number) Fresh = IsUnheld old (OfJob q.job number)
freshened_says old new (q, r, number) NewColour = (c : Colour) → HoldsLive new q (Register r) c
    → c ≡ OfJob q.job number
freshened_says old new (q, r, number) Held = (x : Element) (c : Colour) → x ≢ Register r
    → HoldsLive new q x c → HoldsLive old q x c
freshened_says old new (q, r, number) Joined = (x y : Element) → x ≢ Register r → y ≢ Register r
    → InOneRegion old q x y → InOneRegion new q x y

pub data MergedPremise : Type 0 where
  Top HoldsLost HoldsKept Recolours Joined : MergedPremise

abbrev pub merged_says : View → View → Frame × Element × Element × ℕ × Colour → MergedPremise
    → Type 0
merged_says old new (q, x, y, number, kept) Top = IsTop old q
merged_says old new (q, x, y, number, kept) HoldsLost = HoldsLive old q x (OfJob q.job number)
merged_says old new (q, x, y, number, kept) HoldsKept = HoldsLive old q y kept
merged_says old new (q, x, y, number, kept) Recolours = Recoloured old new q.job number kept
merged_says old new (q, x, y, number, kept) Joined = InOneRegion new q x y

pub data WeakenedPremise : Type 0 where
  Heights Running SameShape SameHere Held Joined : WeakenedPremise

abbrev pub weakened_says : View → View → Unit {0} → WeakenedPremise → Type 0
weakened_says old new at Heights = (j : ℕ) → new.height j ≡ old.height j
weakened_says old new at Running = (j : ℕ) → IsTrue (new.running j) → IsTrue (old.running j)
weakened_says old new at SameShape = (p : Frame) → IsFrame old p → new.shape p ≡ old.shape p
weakened_says old new at SameHere = (p : Frame) → IsFrame old p → new.here p ≡ old.here p
weakened_says old new at Held = (p : Frame) → IsFrame old p → (x : Element) (c : Colour)
    → HoldsLive new p x c → HoldsLive old p x c
weakened_says old new at Joined =
    (p : Frame) → IsFrame old p → (x y : Element) → InOneRegion old p x y
    → InOneRegion new p x y

pub data UnheldPremise : Type 0 where
  Unheld Jobs SameShape HereTurns Held Joined : UnheldPremise

abbrev pub unheld_says : View → View → ℕ × ℕ × Colour → UnheldPremise → Type 0
unheld_says old new (j, number, kept) Unheld = IsUnheld old (OfJob j number)
unheld_says old new (j, number, kept) Jobs = SameJobs old new
unheld_says old new (j, number, kept) SameShape = (p : Frame) → IsFrame old p
    → new.shape p ≡ old.shape p
unheld_says old new (j, number, kept) HereTurns = (p : Frame) → IsFrame old p
    → Becomes (OfJob j number) kept (old.here p) (new.here p)
unheld_says old new (j, number, kept) Held = (p : Frame) (x : Element) (d : Colour)
    → HoldsLive new p x d
    → (c : Colour) × HoldsLive old p x c × Becomes (OfJob j number) kept c d
unheld_says old new (j, number, kept) Joined = (p : Frame) → IsFrame old p → (x y : Element)
    → InOneRegion old p x y → InOneRegion new p x y

pub data GivenPremise : Type 0 where
  Top Weakens Free Gone : GivenPremise

abbrev pub given_says : View → View → Frame × Element → GivenPremise → Type 0
given_says old new (q, x) Top = IsTop old q
given_says old new (q, x) Weakens = Weakened old new
given_says old new (q, x) Free = ¬ (InOneRegion old q x Here)
given_says old new (q, x) Gone =
    (r : ℕ) → InOneRegion old q x (Register r) → ¬ (IsTrue (new.live q r))

-- what x held, nothing holds
abbrev pub LeavesNothing : View → View → Frame × Element → Type 0
LeavesNothing old new (q, x) = (c : Colour) → HoldsLive old q x c → IsDisconnected new q.job c

pub data ClosedPremise : Type 0 where
  Top Jobs NewShape SameHere Others : ClosedPremise

abbrev pub closed_says : View → View → Frame → ClosedPremise → Type 0
closed_says old new q Top = IsTop old q
closed_says old new q Jobs = SameJobs old new
closed_says old new q NewShape = new.shape q ≡ record (old.shape q) { closing = true }
closed_says old new q SameHere = new.here q ≡ old.here q
closed_says old new q Others = (p : Frame) → IsFrame old p → p ≢ q → Kept old new p

-- what the initialiser of an actor held, nothing holds
pub data HandsOverPremise : Type 0 where
  Closes Makes : HandsOverPremise

abbrev pub hands_over_says : View → View → Frame → HandsOverPremise → Type 0
hands_over_says old new q Closes = BeginsClosing old new q
hands_over_says old new q Makes = (old.shape q).isolation ≡ MakesActor

abbrev pub HandsOver : View → View → Frame → Type 0
HandsOver old new q = (x : Element) (c : Colour) → HoldsLive old q x c → IsDisconnected new q.job c

pub data DispatchedPremise : Type 0 where
  Heights Running Frames Exclusive : DispatchedPremise

abbrev pub dispatched_says : View → View → ℕ → DispatchedPremise → Type 0
dispatched_says old new j Heights = (i : ℕ) → new.height i ≡ old.height i
dispatched_says old new j Running = (i : ℕ) → i ≢ j → IsTrue (new.running i)
    → IsTrue (old.running i)
dispatched_says old new j Frames = (p : Frame) → IsFrame old p → Kept old new p
dispatched_says old new j Exclusive = (p q : Frame) (a : Actor) → p.job ≡ j → IsTop old p
    → (old.shape p).executor ≡ On a → ¬ (RunsOn old q a)

-- ---- calls, tasks and returns
pub data PlainPremise : Type 0 where
  Before Height Heights Running Fits NotClosing CallerShape CallerHeld CallerJoined Others Sent :
      PlainPremise
  Stays SameExecutor Isolated NoInitialiser HereColour : PlainPremise

abbrev pub plain_says : View → View → Frame → PlainPremise → Type 0
plain_says old new p Before = old.height p.job ≡ suc p.depth
plain_says old new p Height = new.height p.job ≡ suc (suc p.depth)
plain_says old new p Heights = (j : ℕ) → j ≢ p.job → new.height j ≡ old.height j
plain_says old new p Running = (j : ℕ) → IsTrue (new.running j) → IsTrue (old.running j)
plain_says old new p Fits = (x y : Element) (c : Colour) → HoldsLive new (above p) x c
    → HoldsLive new (above p) y c → InOneRegion new (above p) x y
plain_says old new p NotClosing = (old.shape p).closing ≡ false
plain_says old new p CallerShape = new.shape p ≡ old.shape p
plain_says old new p CallerHeld = (x : Element) (c : Colour) → HoldsLive new p x c
    → HoldsLive old p x c
plain_says old new p CallerJoined = (x y : Element) (c d : Colour) → HoldsLive new p x c
    → HoldsLive new p y d → InOneRegion old p x y → InOneRegion new p x y
plain_says old new p Others = (f : Frame) → IsFrame old f → f ≢ p → Kept old new f
plain_says old new p Sent = (x : Element) (c : Colour) → HoldsLive new (above p) x c
    → (new.here (above p) ≡ c) ⊎ IsDisconnected old p.job c
plain_says old new p Stays = (new.shape (above p)).crossing ≡ false
plain_says old new p SameExecutor = (new.shape (above p)).executor ≡ (new.shape p).executor
plain_says old new p Isolated = (a : Actor) → (new.shape (above p)).isolation ≡ IsolatedTo a
    → new.here (above p) ≡ OfActor a
plain_says old new p NoInitialiser = (new.shape (above p)).isolation ≢ MakesActor
plain_says old new p HereColour = ((s : Element) × SharesArgument old new p s)
    ⊎ IsDisconnected old p.job (new.here (above p))

-- of a call that shares its argument s: the colour, and the region of the result
pub data SharesPremise : Type 0 where
  Plain Colours Result : SharesPremise

abbrev pub shares_says : View → View → Frame × Element → SharesPremise → Type 0
shares_says old new (p, s) Plain = (premise : PlainPremise) → premise ≢ HereColour
    → plain_says old new p premise
shares_says old new (p, s) Colours = HoldsLive old p s (new.here (above p))
shares_says old new (p, s) Result = ResultWith old new p s

pub data SamePremise : Type 0 where
  Calls Stays SameExecutor IsIsolated HereColour CallerHere Result : SamePremise

abbrev pub same_says : View → View → Frame × Actor → SamePremise → Type 0
same_says old new (p, a) Calls = Called old new p
same_says old new (p, a) Stays = (new.shape (above p)).crossing ≡ false
same_says old new (p, a) SameExecutor = (new.shape (above p)).executor ≡ (new.shape p).executor
same_says old new (p, a) IsIsolated = (new.shape (above p)).isolation ≡ IsolatedTo a
same_says old new (p, a) HereColour = new.here (above p) ≡ OfActor a
same_says old new (p, a) CallerHere = old.here p ≡ OfActor a
same_says old new (p, a) Result = ResultWith old new p Here

pub data WeakPremise : Type 0 where
  Calls Crosses NoExecutor NotIsolated Colours Result Free : WeakPremise

abbrev pub weak_says : View → View → Frame × Element → WeakPremise → Type 0
weak_says old new (p, s) Calls = Called old new p
weak_says old new (p, s) Crosses = (new.shape (above p)).crossing ≡ true
weak_says old new (p, s) NoExecutor = (new.shape (above p)).executor ≡ Generic
weak_says old new (p, s) NotIsolated = (new.shape (above p)).isolation ≡ Nonisolated
weak_says old new (p, s) Colours = HoldsLive old p s (new.here (above p))
weak_says old new (p, s) Result = ResultWith old new p s
weak_says old new (p, s) Free = ¬ (InOneRegion old p s Here)

pub data StrongPremise : Type 0 where
  Calls Crosses Leaves IsIsolated OnActor HereColour NoResult : StrongPremise

abbrev pub strong_says : View → View → Frame × Actor → StrongPremise → Type 0
strong_says old new (p, a) Calls = Called old new p
strong_says old new (p, a) Crosses = (new.shape (above p)).crossing ≡ true
strong_says old new (p, a) Leaves = new.running p.job ≡ false
strong_says old new (p, a) IsIsolated = (new.shape (above p)).isolation ≡ IsolatedTo a
strong_says old new (p, a) OnActor = (new.shape (above p)).executor ≡ On a
strong_says old new (p, a) HereColour = new.here (above p) ≡ OfActor a
strong_says old new (p, a) NoResult = (new.shape (above p)).result ≡ None

pub data MakePremise : Type 0 where
  Calls Stays SameExecutor Makes HereColour : MakePremise

abbrev pub make_says : View → View → Frame → MakePremise → Type 0
make_says old new p Calls = Called old new p
make_says old new p Stays = (new.shape (above p)).crossing ≡ false
make_says old new p SameExecutor = (new.shape (above p)).executor ≡ (new.shape p).executor
make_says old new p Makes = (new.shape (above p)).isolation ≡ MakesActor
make_says old new p HereColour = IsDisconnected old p.job (new.here (above p))

pub data SpawnedPremise : Type 0 where
  Pushes Others Ready Held Stands : SpawnedPremise

abbrev pub spawned_says : View → View → ℕ → SpawnedPremise → Type 0
spawned_says old new j Pushes = Pushed old new (bottom j)
spawned_says old new j Others = (p : Frame) → IsFrame old p → Kept old new p
spawned_says old new j Ready = new.running j ≡ false
spawned_says old new j Held = (x : Element) (c : Colour) → HoldsLive new (bottom j) x c
    → (new.here (bottom j) ≡ c) ⊎ IsDisconnected old j c
spawned_says old new j Stands = ((a : Actor) × IsOnActor new (bottom j) a) ⊎ IsOnNone new (bottom j)

pub data ReturnedPremise : Type 0 where
  Top Height Heights Running Leaves SameShape Held Joined Others : ReturnedPremise

abbrev pub returned_says : View → View → Frame × ℕ → ReturnedPremise → Type 0
returned_says old new (p, r) Top = IsTop old (above p)
returned_says old new (p, r) Height = new.height p.job ≡ suc p.depth
returned_says old new (p, r) Heights = (j : ℕ) → j ≢ p.job → new.height j ≡ old.height j
returned_says old new (p, r) Running = (j : ℕ) → IsTrue (new.running j) → IsTrue (old.running j)
returned_says old new (p, r) Leaves = (old.shape (above p)).crossing ≡ true
    → new.running p.job ≡ false
returned_says old new (p, r) SameShape = new.shape p ≡ old.shape p
returned_says old new (p, r) Held = (x : Element) (c : Colour) → HoldsLive new p x c
    → HoldsLive old p x c ⊎ ((x ≡ Register r) × Handed old p r c)
returned_says old new (p, r) Joined =
    (x y : Element) → InOneRegion old p x y → InOneRegion new p x y
returned_says old new (p, r) Others = (f : Frame) → IsFrame new f → f ≢ p → Kept old new f

pub data EndedPremise : Type 0 where
  Height Heights Running Others : EndedPremise

abbrev pub ended_says : View → View → ℕ → EndedPremise → Type 0
ended_says old new j Height = new.height j ≡ 0
ended_says old new j Heights = (i : ℕ) → i ≢ j → new.height i ≡ old.height i
ended_says old new j Running = (i : ℕ) → i ≢ j → IsTrue (new.running i) → IsTrue (old.running i)
ended_says old new j Others = (p : Frame) → IsFrame new p → Kept old new p

-- a frame of a nonisolated function waits on an actor (SE-0461), while its job does not run
pub record WaitsOn (w : View) (p : Frame) (a : Actor) : Type 0 where
  pub frame : IsFrame w p
  pub isolation : (w.shape p).isolation ≡ Nonisolated
  pub executor : (w.shape p).executor ≡ On a
  pub stopped : w.running p.job ≡ false
