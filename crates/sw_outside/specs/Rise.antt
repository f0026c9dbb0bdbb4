-- How a counter that stands still at its last value moves.
use Rattle.std.specs.Prelude.{◌≡◌, ℕ, ◌+◌, ◌-◌, ◌^◌, ◌<◌, ◌⊎◌, min}

-- the count rose, or stands at the counter's last value
abbrev pub Rose : ℕ → ℕ → Type 0
Rose before after = (before < after) ⊎ (after ≡ 2 ^ 64 - 1)

-- one more, and never above the counter's last value
abbrev pub raised : ℕ → ℕ
raised count = min (count + 1) (2 ^ 64 - 1)
