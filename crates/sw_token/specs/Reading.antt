-- The tokens of a text as a function: what `tokens` answers unless memory runs out. The laws on it
-- are that it finds what the definitions of `Tokens` say, and all that they say.
use Rattle.std.specs.Prelude.{◌≡◌, ◌≢◌, ℕ, ◌+◌, ◌==◌, nat_lt, Bool, false, if◌then◌else◌, List, []}
use Rattle.std.specs.Prelude.{◌∷◌, take, drop, length, Option, Some, None, Result, Ok, Err}
use Rattle.std.specs.List.{prefix_len}
use Rattle.std.specs.Global.{Vec}
use Rattle.sw_scan.specs.declared.Step.{Step}
use Rattle.sw_scan.specs.declared.Step.TheVariants.{End, Skip, Take}
use Rattle.sw_scan.specs.Reading.{StepOf, scan}
use Rattle.sw_token.specs.declared.TheConstants.{MOST_TOKENS}
use Rattle.sw_token.specs.declared.Token.{Token}
use Rattle.sw_token.specs.declared.before.Before.{Before}
use Rattle.sw_token.specs.declared.LexFault.{LexFault}
use Rattle.sw_token.specs.declared.LexFault.TheVariants as faults
use Rattle.sw_token.specs.declared.literals.Literal.{Literal}
use Rattle.sw_token.specs.declared.step.Refusal.{Refusal}
use Rattle.sw_token.specs.declared.step.Refusal.TheVariants.{Unclosed, TooBig, Bad}
use Rattle.sw_scan.specs.Classes.{is_blank}
use Rattle.sw_token.specs.Bytes.{is_operator_byte, is_mark, mark_len}
use Rattle.sw_token.specs.Words.{begins_word, goes_on, word_len}
use Rattle.sw_token.specs.Comments.{is_in_line, begins_line_comment, begins_block_comment}
use Rattle.sw_token.specs.Comments.{comment_len}
use Rattle.sw_token.specs.Literals.{head_of, most, is_digit_of, is_digit_or_line, number_in}
use Rattle.sw_token.specs.Literals.{literal_of}
use Rattle.sw_token.specs.Operators.{is_operator, run_len}
use Rattle.sw_token.specs.Tokens.{at_start, lexis}

-- the step for a literal of this form whose first digits byte stands first in `digits`, of which
-- the first `n` are digits and `_`
abbrev pub digits_step : Literal → List ℕ → ℕ → Result Step Refusal
digits_step form digits n =
    if nat_lt (most form) (number_in form (take n digits)) then Err TooBig
    else (if goes_on (drop n digits) then Err (Bad (length (head_of form) + n))
    else Ok (Take (length (head_of form) + n)))

-- whether bytes begin with a digit of a literal
abbrev pub begins_digit : Literal → List ℕ → Bool
begins_digit form [] = false
begins_digit form (byte ∷ _) = is_digit_of form byte

-- the step for a literal of this form, with these bytes after its head
abbrev pub literal_step : Literal → List ℕ → Result Step Refusal
literal_step form after =
    if begins_digit form after then digits_step form after
    (prefix_len (is_digit_or_line form) after)
    else Err (Bad (length (head_of form)))

-- the step for a run of operator bytes of this length
abbrev pub operator_step : List ℕ → ℕ → Result Step Refusal
operator_step bytes n = if is_operator (take n bytes) then Ok (Take n) else Err (Bad 0)

-- the step for a comment after its `/*`, with this length
abbrev pub comment_step : Option ℕ → Result Step Refusal
comment_step (Some n) = Ok (Skip (2 + n))
comment_step None = Err Unclosed

-- the step for a word, where `n` bytes stand before it
abbrev pub word_step : ℕ → List ℕ → Result Step Refusal
word_step n bytes = if begins_word bytes then Ok (Take (n + word_len bytes)) else Err (Bad 0)

-- the step for a token that is no literal
abbrev pub plain_step : List ℕ → Result Step Refusal
plain_step [] = Ok End
plain_step (byte ∷ more) =
    if is_operator_byte byte then operator_step (byte ∷ more) (run_len (byte ∷ more))
    else (if is_mark byte then Ok (Take (mark_len (byte ∷ more)))
    else (if byte == 64 then word_step 1 more else word_step 0 (byte ∷ more)))

-- the step for a token
abbrev pub token_step : Option Literal → List ℕ → Result Step Refusal
token_step (Some form) bytes = literal_step form (drop (length (head_of form)) bytes)
token_step None bytes = plain_step bytes

-- what bytes begin with
unfoldable pub found : Bool → List ℕ → Result Step Refusal
found is_white [] = Ok End
found is_white (byte ∷ more) =
    if is_blank byte then Ok (Skip 1)
    else (if begins_line_comment (byte ∷ more)
    then Ok (Skip (2 + prefix_len is_in_line (drop 1 more)))
    else (if begins_block_comment (byte ∷ more) then comment_step (comment_len 0 (drop 1 more))
    else token_step (literal_of is_white (byte ∷ more)) (byte ∷ more)))

-- The fault of bytes that are refused, which stand at the offset `at` after `count` tokens. A token
-- that begins there may be one too many.
abbrev pub fault_of : ℕ → ℕ → Refusal → LexFault
fault_of at count Unclosed = faults.Unclosed at
fault_of at count TooBig = faults.TooBig at
fault_of at count (Bad n) =
    if n == 0 then faults.BadChar at
    else (if nat_lt count MOST_TOKENS then faults.BadChar (at + n) else faults.TooMany at)

-- the step of the scan there
abbrev pub counted : ℕ → ℕ → Result Step Refusal → Result Step LexFault
counted at count (Err refusal) = Err (fault_of at count refusal)
counted at count (Ok End) = Ok End
counted at count (Ok (Skip n)) = Ok (Skip n)
counted at count (Ok (Take n)) =
    if nat_lt count MOST_TOKENS then Ok (Take n) else Err (faults.TooMany at)

-- how many bytes stand before what is refused
abbrev pub taken_before : Refusal → ℕ
taken_before Unclosed = 0
taken_before TooBig = 0
taken_before (Bad n) = n

unfoldable pub step : StepOf Before LexFault
step at before bytes = counted at before.count (found before.is_white bytes)

-- the tokens of a text, or its lexical fault
unfoldable pub tokens_or_fault : List ℕ → Result (List Token) LexFault
tokens_or_fault text = scan lexis step 0 at_start text

-- What a call answered is this outcome, unless memory ran out.
abbrev pub Lexes : Result (List Token) LexFault → Result (Vec Token) LexFault → Type 0
Lexes outcome (Ok tokens) = outcome ≡ Ok tokens.items
Lexes outcome (Err fault) = fault ≢ faults.Memory → outcome ≡ Err fault
