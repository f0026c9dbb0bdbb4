-- What a call writes into a sink, where the bytes that were written are known.
use Rattle.std.specs.Prelude.{◌≡◌, ◌≤◌, ℕ, List, ◌++◌, length, take, Option, option_map}

-- these bytes were written after those written before, and no others
abbrev pub Appended : List ℕ → Option (List ℕ) → Option (List ℕ) → Type 0
Appended bytes before after = after ≡ option_map (λ written. written ++ bytes) before

-- a prefix of the bytes was written, and nothing else
pub record IsPrefixWritten (bytes : List ℕ) (before after : Option (List ℕ)) : Type 0 where
  pub n : ℕ
  pub within : n ≤ length bytes
  pub appended : Appended (take n bytes) before after
