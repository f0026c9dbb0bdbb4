-- A small view, written down as lists.
use Rattle.std.specs.Prelude.{ℕ, zero, suc, Bool, true, false, None, List, [], ◌∷◌, length}
use Rattle.sw_owner_facts.specs.Colours.{Colour, OfJob, Generic}
use Rattle.sw_owner_facts.specs.View.{Frame, Element, Here, Register, Nonisolated, FrameShape, View}

-- what is known of a register
pub record RegisterSketch : Type 0 where
  pub live : Bool
  pub region : ℕ
  pub colours : List Colour

-- a frame: its shape, the colour and the region of `Here`, its registers
pub record Row : Type 0 where
  pub shape : FrameShape
  pub here : Colour
  pub region : ℕ
  pub slots : List RegisterSketch

-- a job: whether it runs, and its frames from the bottom
pub record Job : Type 0 where
  pub running : Bool
  pub rows : List Row

-- the n-th item, or what stands for none
abbrev pub item : {A : Type 0} → A → List A → ℕ → A
item none [] n = none
item none (x ∷ xs) zero = x
item none (x ∷ xs) (suc n) = item none xs n

abbrev pub no_slot : RegisterSketch
no_slot = record { live = false; region = 0; colours = [] }

abbrev pub no_row : Row
no_row = record {
  shape = record {
    isolation = Nonisolated;
    executor = Generic;
    crossing = true;
    closing = false;
    result = None;
  };
  here = OfJob 0 0;
  region = 0;
  slots = [];
}

abbrev pub no_job : Job
no_job = record { running = false; rows = [] }

abbrev pub rows_of : List Job → ℕ → List Row
rows_of jobs j = (item no_job jobs j).rows

abbrev pub row_at : List Job → Frame → Row
row_at jobs p = item no_row (rows_of jobs p.job) p.depth

abbrev pub region_in : Row → Element → ℕ
region_in row Here = row.region
region_in row (Register r) = (item no_slot row.slots r).region

abbrev pub view_of : List Job → View
view_of jobs = record {
  running = λ j. (item no_job jobs j).running;
  height = λ j. length (rows_of jobs j);
  shape = λ p. (row_at jobs p).shape;
  here = λ p. (row_at jobs p).here;
  live = λ p r. (item no_slot (row_at jobs p).slots r).live;
  region = λ p. region_in (row_at jobs p);
  colours = λ p r. (item no_slot (row_at jobs p).slots r).colours;
}
