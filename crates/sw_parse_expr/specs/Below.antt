-- What is known of the nests further in.
use Rattle.std.specs.Prelude.{◌<◌, ℕ}

-- what is so wherever fewer than `depth` more nests may be opened
abbrev pub Below : {Self : Type 0} → (Self → ℕ → Type 0) → Self → ℕ → Type 0
Below at self depth = (k : ℕ) → k < depth → at self k
