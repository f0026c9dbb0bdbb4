-- Classes of bytes of ASCII.
use Rattle.std.specs.Prelude.{ℕ, ◌==◌, Bool, ◌||◌}
use Rattle.std.specs.Char.{is_ascii_digit}

-- a space, a tab, a carriage return or a line feed
unfoldable pub is_blank : ℕ → Bool
is_blank byte = byte == 32 || byte == 9 || byte == 13 || byte == 10

-- a decimal digit
unfoldable pub is_digit : ℕ → Bool
is_digit byte = is_ascii_digit byte
