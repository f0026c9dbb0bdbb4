-- Integer literals. What stands before the digits says which form a literal has.
use Rattle.std.specs.Prelude.{ℕ, ◌+◌, ◌-◌, ◌*◌, ◌^◌, ◌==◌, nat_lt, Bool, ◌||◌, IsTrue}
use Rattle.std.specs.Prelude.{if◌then◌else◌, List, [], ◌∷◌, codes, Option, Some, None, ℤ, pos}
use Rattle.std.specs.Prelude.{neg_ℤ, fold}
use Rattle.std.specs.Char.{digit_value}
use Rattle.std.specs.List.{list_all}
use Rattle.sw_token.specs.declared.literals.Literal.{Literal}
use Rattle.sw_token.specs.declared.literals.Literal.TheVariants.{Decimal, Negative, Binary, Octal}
use Rattle.sw_token.specs.declared.literals.Literal.TheVariants.{Hexadecimal}
use Rattle.sw_scan.specs.Classes.{is_digit}

-- the base of the digits
abbrev pub radix : Literal → ℕ
radix Decimal = 10
radix Negative = 10
radix Binary = 2
radix Octal = 8
radix Hexadecimal = 16

-- what stands before the digits
abbrev pub head_of : Literal → List ℕ
head_of Decimal = []
head_of Negative = codes "-"
head_of Binary = codes "0b"
head_of Octal = codes "0o"
head_of Hexadecimal = codes "0x"

-- the greatest number that the digits may spell
abbrev pub most : Literal → ℕ
most Decimal = 2 ^ 63 - 1
most Negative = 2 ^ 63
most Binary = 2 ^ 63 - 1
most Octal = 2 ^ 63 - 1
most Hexadecimal = 2 ^ 63 - 1

-- a digit in the literal's base; letters of either case are digits in base 16
abbrev pub is_digit_of : Literal → ℕ → Bool
is_digit_of literal byte = nat_lt (digit_value byte) (radix literal)

-- what may follow the first digit: a digit or `_`
abbrev pub is_digit_or_line : Literal → ℕ → Bool
is_digit_or_line literal byte = is_digit_of literal byte || byte == 95

-- a digit, and then digits and `_`
abbrev pub AreDigits : Literal → List ℕ → Type 0
AreDigits literal [] = ⊥
AreDigits literal (digit ∷ more) =
    IsTrue (is_digit_of literal digit) × IsTrue (list_all (is_digit_or_line literal) more)

-- the number so far with one more byte, where `_` counts for nothing
abbrev pub with_digit : Literal → ℕ → ℕ → ℕ
with_digit literal number byte =
    if byte == 95 then number else number * radix literal + digit_value byte

-- the number that digits and `_` spell
unfoldable pub number_in : Literal → List ℕ → ℕ
number_in literal digits = fold (with_digit literal) 0 digits

-- the value of a literal whose digits spell a number
abbrev pub signed : Literal → ℕ → ℤ
signed Decimal number = pos number
signed Negative number = neg_ℤ (pos number)
signed Binary number = pos number
signed Octal number = pos number
signed Hexadecimal number = pos number

-- the form that a letter after a `0` announces
abbrev pub after_zero : List ℕ → Literal
after_zero [] = Decimal
after_zero (byte ∷ _) =
    if byte == 120 then Hexadecimal
    else (if byte == 111 then Octal else (if byte == 98 then Binary else Decimal))

-- the form of a literal without a sign that the bytes begin with
unfoldable pub unsigned_of : List ℕ → Option Literal
unsigned_of [] = None
unsigned_of (byte ∷ more) =
    if is_digit byte then Some (if byte == 48 then after_zero more else Decimal) else None

-- a sign belongs to a decimal literal alone
abbrev pub negative : Option Literal → Option Literal
negative (Some Decimal) = Some Negative
negative (Some Negative) = None
negative (Some Binary) = None
negative (Some Octal) = None
negative (Some Hexadecimal) = None
negative None = None

-- The form of the literal that the bytes begin with, where white space or an opening mark stands
-- before them or not: only there a `-` belongs to it.
unfoldable pub literal_of : Bool → List ℕ → Option Literal
literal_of is_white [] = None
literal_of is_white (byte ∷ more) =
    if byte == 45 then (if is_white then negative (unsigned_of more) else None)
    else unsigned_of (byte ∷ more)
