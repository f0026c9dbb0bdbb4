-- The header of a frame: lines, each with a name, a colon and a value. A line ends at a line feed.
use Rattle.std.specs.Prelude.{ℕ, ◌+◌, ◌-◌, ◌*◌, ◌==◌, Bool, ◌||◌, nat_lt, List, [], ◌∷◌, length, take, drop}
use Rattle.std.specs.Prelude.{fold, map, codes, Option, Some, None, if◌then◌else◌}
use Rattle.std.specs.Char.{is_ascii_digit, to_ascii_lowercase}
use Rattle.std.specs.List.{prefix_len, slice_split}
use Rattle.std.specs.Option.{option_or}
use Rattle.std.specs.Str.{bytes_eq}

-- a space, a tab or a carriage return
unfoldable pub is_blank : ℕ → Bool
is_blank byte = byte == 32 || byte == 9 || byte == 13

-- the number that digits spell; 48 is the digit 0
abbrev pub number_of : List ℕ → ℕ
number_of digits = fold (λ number digit. number * 10 + (digit - 48)) 0 digits

-- the number that a text is: digits, and blanks behind them
abbrev pub number_at : List ℕ → Option ℕ
number_at text =
    let len = prefix_len is_ascii_digit text in
    if len == 0 then None
    else (if nat_lt (prefix_len is_blank (drop len text)) (length text - len) then None
    else Some (number_of (take len text)))

-- the number that a value is: the same, with blanks before it
abbrev pub number_in : List ℕ → Option ℕ
number_in value = number_at (drop (prefix_len is_blank value) value)

-- what a line says behind the name of the length, in any case
unfoldable pub value_of : List ℕ → Option (List ℕ)
value_of line =
    if bytes_eq (map to_ascii_lowercase (take 15 line)) (codes "content-length:") then Some (drop 15 line)
    else None

-- what the first of these lines that speaks of the length says of it
abbrev pub first_value : List (List ℕ) → Option (List ℕ)
first_value [] = None
first_value (line ∷ lines) = option_or (value_of line) (first_value lines)

-- what the lines of a header say of the length
abbrev pub value_in : List ℕ → Option (List ℕ)
value_in lines = first_value (slice_split (λ byte. byte == 10) lines)
