-- Fronts: the tokens of a value with which a list of tokens begins, where more may follow; and the
-- first token with which no spelling begins, where there is no front.
use Rattle.std.specs.Prelude.{◌≡◌, ℕ, ◌≤◌, Bool, false, not, List, length, take, drop, Option}
use Rattle.sw_token.specs.Spelling.{Spelled}
use Rattle.sw_grammar_forms.specs.Sets.{Set, starts}
use Rattle.sw_grammar_forms.specs.Relations.{Relation, head}
use Rattle.sw_grammar_forms.specs.Reader.{Reader, pure, then_read, check}
use Rattle.sw_grammar_forms.specs.Whole.{IsSpelledAs, IsUnexpectedIn, IsShallow}

-- The first `n` tokens are a spelling of the value, and the token after them is none of the set:
-- none with which such a spelling goes on.
pub record IsFrontOf {A : Type 0} (R : Relation A) (set : Set) (value : A)
    (tokens : List Spelled) (n : ℕ) : Type 0 where
  pub within : n ≤ length tokens
  pub spelled : IsSpelledAs R value (take n tokens)
  pub ends : starts set (head (drop n tokens)) ≡ false

-- some value has a front of these tokens
abbrev pub HasFront : {A : Type 0} → Relation A → Set → List Spelled → Type 0
HasFront {A} R set tokens = (value : A) × (n : ℕ) × IsFrontOf R set value tokens n

-- The tokens have no front, and the token after the first `n`, or the end, is the first with which
-- no spelling begins. No token before it opens a nest too many.
pub record IsFrontRefused {A : Type 0} (Opens : List Spelled → Type 0) (R : Relation A) (set : Set)
    (tokens : List Spelled) (n : ℕ) : Type 0 where
  pub unexpected : IsUnexpectedIn R tokens n
  pub none : ¬ HasFront R set tokens
  pub shallow : IsShallow Opens tokens n

-- whether the next token is none of a set
abbrev pub ends_before : Set → Option Spelled → Bool
ends_before set token = not (starts set token)

-- a value, where the token after it is none of the set
abbrev pub front : {A : Type 0} → Set → Reader A → Reader A
front set reader =
    then_read reader (λ value. then_read (check (ends_before set)) (λ _. pure value))
