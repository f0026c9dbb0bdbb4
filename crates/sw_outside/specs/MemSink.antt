-- A sink in memory: what it is, and how many bytes of a piece its next put writes.
use Rattle.std.specs.Prelude.{ℕ, Bool, List, length, ◌-◌, ◌==◌, ◌||◌, min}
use Rattle.std.specs.List.{list_any}

-- what a sink in memory is
pub record SinkState : Type 0 where
  -- the bytes written so far
  pub bytes : List ℕ
  -- the most bytes that one put writes
  pub step : ℕ
  -- the numbers of the puts that fail
  pub fails : List ℕ
  -- the most bytes that the sink holds
  pub room : ℕ
  -- the number of the next put
  pub number : ℕ
  -- the number of puts that failed
  pub faults : ℕ

-- the number of bytes that the sink still has room for
abbrev pub room_left : SinkState → ℕ
room_left sink = sink.room - length sink.bytes

-- the next put fails: its number is among the failing ones, or no room is left
abbrev pub put_fails : SinkState → Bool
put_fails sink = list_any (λ number. number == sink.number) sink.fails || (room_left sink == 0)

-- the number of bytes that the next put writes of a piece of n bytes
abbrev pub put_length : SinkState → ℕ → ℕ
put_length sink n = min n (min sink.step (room_left sink))
