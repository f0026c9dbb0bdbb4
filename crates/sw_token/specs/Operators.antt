-- Operators: maximal runs of operator bytes that are in a list, and how they stand.
use Rattle.std.specs.Prelude.{ℕ, ◌+◌, Bool, true, false, ◌||◌, ◌&&◌, not, IsTrue, if◌then◌else◌}
use Rattle.std.specs.Prelude.{List, [], ◌∷◌, ◌++◌, codes, position, bytes_eq, is_some, Option}
use Rattle.std.specs.Bool.{IsFalse}
use Rattle.sw_scan.specs.Classes.{is_blank}
use Rattle.sw_token.specs.declared.Fixity.{Fixity}
use Rattle.sw_token.specs.declared.Fixity.TheVariants as fixities
use Rattle.sw_token.specs.Bytes.{is_operator_byte, is_opening, is_closing}
use Rattle.sw_token.specs.Comments.{begins_line_comment, begins_block_comment}

-- all operators: an operator's number is its index here, from 0
abbrev pub operators : List (List ℕ)
operators =
    codes "+" ∷ codes "-" ∷ codes "*" ∷ codes "/" ∷ codes "%" ∷ codes "!" ∷ codes "=" ∷ codes "=="
    ∷ codes "!=" ∷ codes "<" ∷ codes "<=" ∷ codes ">" ∷ codes ">=" ∷ codes "&&" ∷ codes "||"
    ∷ codes "+=" ∷ codes "-=" ∷ codes "*=" ∷ codes "/=" ∷ codes "%=" ∷ codes "->" ∷ []

abbrev pub operator_number : List ℕ → Option ℕ
operator_number text = position (λ operator. bytes_eq operator text) operators

abbrev pub is_operator : List ℕ → Bool
is_operator text = is_some (operator_number text)

-- whether bytes begin with a comment
abbrev pub begins_comment : List ℕ → Bool
begins_comment bytes = begins_line_comment bytes || begins_block_comment bytes

-- whether a run of operator bytes goes on: a comment ends it
abbrev pub runs_on : List ℕ → Bool
runs_on [] = false
runs_on (byte ∷ more) = is_operator_byte byte && not (begins_comment (byte ∷ more))

-- `IsRun text after`: `text` is a run of operator bytes where `after` follows it, and the longest.
abbrev pub IsRun : List ℕ → List ℕ → Type 0
IsRun [] after = IsFalse (runs_on after)
IsRun (byte ∷ text) after = IsTrue (runs_on (byte ∷ (text ++ after))) × IsRun text after

-- the length of the run that bytes begin with
abbrev pub run_len : List ℕ → ℕ
run_len [] = 0
run_len (byte ∷ more) = if runs_on (byte ∷ more) then 1 + run_len more else 0

-- whether an operator stands as after white space, where this token is before it
abbrev pub is_opening_text : List ℕ → Bool
is_opening_text [] = false
is_opening_text (byte ∷ []) = is_opening byte
is_opening_text (_ ∷ _) = false

-- whether an operator stands as before white space, where these bytes follow it
abbrev pub is_white_after : List ℕ → Bool
is_white_after [] = true
is_white_after (byte ∷ more) =
    is_blank byte || is_closing byte || begins_comment (byte ∷ more)

-- how an operator stands, by whether white space is before it and after it
abbrev pub fixity_between : Bool → Bool → Fixity
fixity_between true true = fixities.Infix
fixity_between true false = fixities.Prefix
fixity_between false true = fixities.Postfix
fixity_between false false = fixities.Infix
