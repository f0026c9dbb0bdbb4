-- The frames of a stream: a header that ends with a blank line, and a body of the length that the
-- header declares.
use Rattle.std.specs.Prelude.{◌≡◌, ℕ, ◌+◌, ◌<◌, ◌≤◌, nat_lt, if◌then◌else◌, List, [], ◌∷◌, length}
use Rattle.std.specs.Prelude.{take, Option, Some, None}
use Rattle.memchr.specs.Find.{FindsNeedle, OccursAt}
use Rattle.sw_lsp_text.specs.Header.{value_in, number_in}
use Rattle.sw_lsp_text.specs.declared.frame.Cut.{Cut}
use Rattle.sw_lsp_text.specs.declared.frame.Cut.TheVariants.{Partial, Endless, NoLength, NoNumber}
use Rattle.sw_lsp_text.specs.declared.frame.Cut.TheVariants.{TooLong, Whole}

-- the end of the last line of a header, and the blank line
abbrev pub blank_line : List ℕ
blank_line = 13 ∷ 10 ∷ 13 ∷ 10 ∷ []

-- no blank line ends within the 1,024 bytes that a header may have
abbrev pub HasNoHeader : List ℕ → Type 0
HasNoHeader bytes = (end : ℕ) → OccursAt bytes blank_line end → 1024 < end + 4

-- the bytes begin with a header of these lines, which has `header` bytes with its blank line
pub record HasHeader (bytes : List ℕ) (header : ℕ) (lines : List ℕ) : Type 0 where
  pub end : ℕ
  pub ends : FindsNeedle bytes blank_line 0 (Some end)
  pub header_is : header ≡ end + 4
  pub short : header ≤ 1024
  pub lines_are : lines ≡ take end bytes

-- the header that the bytes begin with, or that it isn't there
abbrev pub IsHead : List ℕ → Option (ℕ × List ℕ) → Type 0
IsHead bytes None = HasNoHeader bytes
IsHead bytes (Some head) = HasHeader bytes head.0 head.1

-- what that makes of the first `len` bytes of a stream: by the number that the header declares, by
-- what it says of the length, and by the header
abbrev pub cut_by_number : ℕ → ℕ → Option ℕ → Cut
cut_by_number len header None = NoNumber header
cut_by_number len header (Some n) =
    if nat_lt 16777216 n then TooLong header
    else (if nat_lt len (header + n) then Partial else Whole header n)

abbrev pub cut_by_value : ℕ → ℕ → Option (List ℕ) → Cut
cut_by_value len header None = NoLength header
cut_by_value len header (Some value) = cut_by_number len header (number_in value)

abbrev pub cut_by_head : ℕ → Option (ℕ × List ℕ) → Cut
cut_by_head len None = if nat_lt len 1024 then Partial else Endless
cut_by_head len (Some head) = cut_by_value len head.0 (value_in head.1)

-- what the bytes begin with
pub record IsCut (bytes : List ℕ) (cut : Cut) : Type 0 where
  pub head : Option (ℕ × List ℕ)
  pub is_head : IsHead bytes head
  pub cut_is : cut ≡ cut_by_head (length bytes) head

-- what a cut counts has come
abbrev pub IsWithin : ℕ → Cut → Type 0
IsWithin len Partial = Unit {0}
IsWithin len Endless = Unit {0}
IsWithin len (NoLength header) = header ≤ len
IsWithin len (NoNumber header) = header ≤ len
IsWithin len (TooLong header) = header ≤ len
IsWithin len (Whole header body) = (header + body ≤ len) × (body ≤ 16777216)
