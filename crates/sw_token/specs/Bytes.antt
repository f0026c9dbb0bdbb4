-- Classes of bytes that tokens are made of.
use Rattle.std.specs.Prelude.{ℕ, ◌==◌, Bool, false, ◌&&◌, if◌then◌else◌, List, [], ◌∷◌, codes}
use Rattle.std.specs.List.{list_any}

-- a byte of an operator
unfoldable pub is_operator_byte : ℕ → Bool
is_operator_byte byte = list_any (λ other. other == byte) (codes "+-*/%=<>!&|")

-- all marks, which are brackets, separators, a dot and the marks of optionals: a mark's number is
-- its index here, from 0
abbrev pub marks : List (List ℕ)
marks =
    codes "(" ∷ codes ")" ∷ codes "{" ∷ codes "}" ∷ codes "[" ∷ codes "]" ∷ codes "," ∷ codes ":"
    ∷ codes ";" ∷ codes "." ∷ codes "?" ∷ codes "??" ∷ []

-- a byte of a mark; each is a mark by itself
unfoldable pub is_mark : ℕ → Bool
is_mark byte = list_any (λ mark. mark == byte) (codes "(){}[],:;.?")

-- whether bytes begin with `??`, the one mark of two bytes
abbrev pub begins_double : List ℕ → Bool
begins_double (a ∷ b ∷ _) = a == 63 && b == 63
begins_double _ = false

-- the length of the longest mark that bytes begin with, where they begin with one
abbrev pub mark_len : List ℕ → ℕ
mark_len bytes = if begins_double bytes then 2 else 1

-- a mark after which an operator stands as after white space
unfoldable pub is_opening : ℕ → Bool
is_opening byte = list_any (λ mark. mark == byte) (codes "([{,;:")

-- a mark before which an operator stands as before white space
unfoldable pub is_closing : ℕ → Bool
is_closing byte = list_any (λ mark. mark == byte) (codes ")]},;:")

-- whether a line feed is among the bytes
unfoldable pub has_line_feed : List ℕ → Bool
has_line_feed bytes = list_any (λ byte. byte == 10) bytes
