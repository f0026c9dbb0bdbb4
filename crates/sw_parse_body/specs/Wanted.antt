-- The optional that the result of a body may be, by the id of its text.
use Rattle.std.specs.Prelude.{◌≡◌, ℕ, ◌-◌, List, length, take, Option, Some, None, slice_get}
use Rattle.sw_sugar.specs.Calls.{text_of}
use Rattle.sw_grammar.specs.Tokens.{optional_text}

-- the word `T` of a text `T?`
abbrev pub word_of : List ℕ → List ℕ
word_of text = take (length text - 1) text

-- the id is that of a text `T?`
abbrev pub IsOptionalIn : List (List ℕ) → ℕ → Type 0
IsOptionalIn texts id = (word : List ℕ) × (slice_get texts id ≡ Some (optional_text word))

-- the word `T`, where there is the id of a text `T?`
abbrev pub wanted_in : List (List ℕ) → Option ℕ → Option (List ℕ)
wanted_in texts None = None
wanted_in texts (Some id) = Some (word_of (text_of texts id))
