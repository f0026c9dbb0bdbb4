-- Texts that are interned one after the other.
use Rattle.std.specs.Prelude.{◌≡◌, ◌<◌, ℕ, List, length, take}
use Rattle.sw_tree.specs.Names.{with_texts}

-- some of the texts, but not all, were interned, from the first on
abbrev pub ArePartlyInterned : List (List ℕ) → List (List ℕ) → List (List ℕ) → Type 0
ArePartlyInterned before texts after =
    (n : ℕ) × (n < length texts) × (after ≡ with_texts before (take n texts))
