-- Words of which the first is replaced.
use Rattle.std.proofs.Common.{◌≡◌, ℕ, nat_lt, true, List, [], ◌∷◌, length, map, slice_index_or}
use Rattle.std.proofs.Common.{slice_set, string_bytes, sym}
use Rattle.std.proofs.lemmas.Bool.{false≢true}
use Rattle.std.specs.Prelude.{String, codes}
use Rattle.std.specs.declared.alloc.Global.{Global}

-- the first word is `run`, and `trace` is put in its place
pub traced : (words : List (String Global)) (word new : String Global)
    → true ≡ nat_lt 0 (length words) → word ≡ slice_index_or words 0 word
    → string_bytes word ≡ codes "run" → string_bytes new ≡ codes "trace"
    → (others : List (List ℕ)) × (map string_bytes words ≡ codes "run" ∷ others)
    × (map string_bytes (slice_set words 0 new) ≡ codes "trace" ∷ others)
traced [] word new some is was now = absurd (false≢true (sym some))
traced (first ∷ rest) word new some is was now = (map string_bytes rest, cc, cc)
