-- Texts in markup.
use Rattle.std.specs.Prelude.{ℕ, ◌==◌, ◌||◌, List, flat_map, chars, encode_utf8, codes}
use Rattle.std.specs.Prelude.{Option, Some, None, unwrap_or, if◌then◌else◌}

-- What stands for a character that means something in markup, and for the two that aren't allowed
-- there.
abbrev pub entity : ℕ → Option (List ℕ)
entity c =
    if c == 38 then Some (codes "&amp;")
    else if c == 60 then Some (codes "&lt;")
    else if c == 62 then Some (codes "&gt;")
    else if c == 34 then Some (codes "&quot;")
    else if (c == 65534) || (c == 65535) then Some (codes "?")
    else None

abbrev pub escaped_char : ℕ → List ℕ
escaped_char c = unwrap_or (entity c) (encode_utf8 c)

abbrev pub escaped_chars : List ℕ → List ℕ
escaped_chars cs = flat_map escaped_char cs

-- a text of UTF-8 in markup
unfoldable pub escaped : List ℕ → List ℕ
escaped text = escaped_chars (chars text)
