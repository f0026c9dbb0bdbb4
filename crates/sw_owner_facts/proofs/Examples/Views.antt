-- Short names for the parts of small views.
use Rattle.std.specs.Prelude.{ℕ, true, false, Option, None, List, [], ◌∷◌}
use Rattle.sw_owner_facts.specs.Colours.{Actor, Instance, Colour, OfJob, OfActor, Executor, Generic, On}
use Rattle.sw_owner_facts.specs.View.{Frame, bottom, above, FunctionIsolation, Nonisolated, IsolatedTo}
use Rattle.sw_owner_facts.specs.View.{FrameShape}
use Rattle.sw_owner_facts.specs.Sketch.{RegisterSketch, Row, Job}

-- an actor, its colour, colours of the first two jobs, and of a job that isn't there
abbrev pub bank : Actor
bank = Instance 0

abbrev pub banks : Colour
banks = OfActor bank

abbrev pub mine : ℕ → Colour
mine n = OfJob 0 n

abbrev pub yours : ℕ → Colour
yours n = OfJob 1 n

abbrev pub nobodys : Colour
nobodys = OfJob 9 0

-- frames of the first two jobs
abbrev pub main : Frame
main = bottom 0

abbrev pub callee : Frame
callee = above main

abbrev pub last : Frame
last = above callee

abbrev pub task : Frame
task = bottom 1

-- shapes: what entered from elsewhere, and what a frame of its caller's executor called
abbrev pub entered : FunctionIsolation → Executor → FrameShape
entered isolation executor = record {
  isolation = isolation;
  executor = executor;
  crossing = true;
  closing = false;
  result = None;
}

abbrev pub called : FunctionIsolation → Executor → Option ℕ → FrameShape
called isolation executor result = record {
  isolation = isolation;
  executor = executor;
  crossing = false;
  closing = false;
  result = result;
}

abbrev pub free : FrameShape
free = entered Nonisolated Generic

abbrev pub on_bank : FrameShape
on_bank = entered (IsolatedTo bank) (On bank)

-- a live register, and one that is not live
abbrev pub slot : ℕ → List Colour → RegisterSketch
slot region colours = record { live = true; region = region; colours = colours }

abbrev pub dead : ℕ → RegisterSketch
dead region = record { live = false; region = region; colours = [] }

-- a frame whose `Here` lies in region 0
abbrev pub row : FrameShape → Colour → List RegisterSketch → Row
row shape here slots = record { shape = shape; here = here; region = 0; slots = slots }

abbrev pub runs : List Row → Job
runs rows = record { running = true; rows = rows }

abbrev pub waits : List Row → Job
waits rows = record { running = false; rows = rows }

-- a frame whose call left the caller's executor, with a result that may be in a region of the
-- caller's
abbrev pub left : FunctionIsolation → Executor → Option ℕ → FrameShape
left isolation executor result = record {
  isolation = isolation;
  executor = executor;
  crossing = true;
  closing = false;
  result = result;
}

-- a caller with an argument in its first register, whose second one waits for the result
abbrev pub caller : Row
caller = row free (mine 0) (slot 1 (mine 1 ∷ []) ∷ dead 1 ∷ [])

abbrev pub bank_caller : Row
bank_caller = row on_bank banks (slot 1 (mine 1 ∷ []) ∷ dead 1 ∷ [])

abbrev pub alone : Row → List Job
alone low = runs (low ∷ []) ∷ []

-- with a callee that holds the colour of its `Here`
abbrev pub with_callee : Row → FrameShape → Colour → List Job
with_callee low shape here = runs (low ∷ row shape here (slot 0 (here ∷ []) ∷ []) ∷ []) ∷ []

abbrev pub and_rogue : Row → FrameShape → Colour → List Job
and_rogue low shape here = runs (low ∷ row shape here (slot 0 (here ∷ []) ∷ []) ∷ []) ∷ waits
    (row free (mine 0) [] ∷ []) ∷ []
