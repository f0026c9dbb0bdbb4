-- Texts that are made of lines of numbers in decimal, with a blank between two numbers and a line
-- feed at the end of a line, and the place at which bytes stop being the beginning of such a text.
use Rattle.std.specs.Prelude.{◌≡◌, ◌≢◌, ℕ, suc, ◌<◌, ◌≤◌, List, [], ◌∷◌, ◌++◌, length, take}
use Rattle.std.specs.Prelude.{flat_map}
use Rattle.sw_dictation.specs.Numbers.{spelled}

-- the byte that closes a number, before these numbers of its line
abbrev pub closer_before : List ℕ → ℕ
closer_before [] = 10
closer_before (n ∷ ns) = 32

-- a line with these numbers
abbrev pub line_text : List ℕ → List ℕ
line_text [] = []
line_text (n ∷ ns) = spelled n (closer_before ns) ++ line_text ns

-- numbers with a blank behind each, as they begin a line
abbrev pub begun_line : List ℕ → List ℕ
begun_line ns = flat_map (λ n. spelled n 32) ns

-- A form of texts. `A` is what the form knows of the lines before.
pub record LineForm (A : Type 0) : Type 1 where
  -- `IsLine before numbers`: a line with these numbers may stand there.
  pub IsLine : A → List ℕ → Type 0
  -- what is known past a line
  pub past : A → List ℕ → A

-- the lines may stand there, one after the other
abbrev pub AreLines : {A : Type 0} → LineForm A → A → List (List ℕ) → Type 0
AreLines form before [] = Unit {0}
AreLines form before (line ∷ lines) =
    form.IsLine before line × AreLines form (form.past before line) lines

-- the bytes are a text
pub record IsText {A : Type 0} (form : LineForm A) (before : A) (bytes : List ℕ) : Type 0 where
  pub lines : List (List ℕ)
  pub are_lines : AreLines form before lines
  pub spelled : bytes ≡ flat_map line_text lines

-- some text begins so
abbrev pub Begins : {A : Type 0} → LineForm A → A → List ℕ → Type 0
Begins form before prefix = (more : List ℕ) × IsText form before (prefix ++ more)

-- the first byte with which no text goes on, or the end, where the bytes are no text
pub record IsBadPlace {A : Type 0} (form : LineForm A) (before : A) (bytes : List ℕ)
    (at : ℕ) : Type 0 where
  pub within : at ≤ length bytes
  pub begins : Begins form before (take at bytes)
  pub stops : at < length bytes → ¬ (Begins form before (take (suc at) bytes))
  pub no_text : ¬ (IsText form before bytes)

-- behind the numbers of a line so far this number may stand, closed by this byte
pub record MayFollow {A : Type 0} (form : LineForm A) (before : A) (so_far : List ℕ)
    (n closer : ℕ) : Type 0 where
  pub rest : List ℕ
  pub is_line : form.IsLine before (so_far ++ n ∷ rest)
  pub closer_is : closer ≡ closer_before rest

-- each line has a number
pub record IsReadable {A : Type 0} (form : LineForm A) : Type 0 where
  pub some : (before : A) (line : List ℕ) → form.IsLine before line → line ≢ []
