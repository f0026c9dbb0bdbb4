-- Readers: functions that read a value off the beginning of a list of tokens, from left to right,
-- and the reader of a form. A fault says how many tokens are left from the one at fault on, so that
-- it doesn't change when readers are put together; 0 is the end.
use Rattle.std.specs.Prelude.{ℕ, zero, suc, Bool, true, false, if◌then◌else◌, List, [], ◌∷◌, length}
use Rattle.std.specs.Prelude.{Option, Result, Ok, Err, not, ◌++◌, codes}
use Rattle.sw_token.specs.Spelling.{Spelled}
use Rattle.sw_grammar_forms.specs.Sets.{Set, has, starts, quoted}
use Rattle.sw_grammar_forms.specs.Quotes.{quote}
use Rattle.sw_grammar_forms.specs.Form.{Shape, Terminal, Form, a_word}
use Rattle.sw_grammar_forms.specs.Form as forms
use Rattle.sw_grammar_forms.specs.Relations.{head, may_start, stays, is_none_of}

-- why a reader stops
pub data Fault : Type 0 where
  -- no spelling goes on with this token
  unexpected : ℕ → Fault
  -- this token opens a nest more than may be open
  too_deep : ℕ → Fault

abbrev pub Answer : Type 0 → Type 0
Answer A = Result (A × List Spelled) Fault

abbrev pub Reader : Type 0 → Type 0
Reader A = List Spelled → Answer A

abbrev pub refused : {A : Type 0} → Reader A
refused tokens = Err (unexpected (length tokens))

-- reads nothing
abbrev pub pure : {A : Type 0} → A → Reader A
pure value tokens = Ok (value, tokens)

abbrev pub and_then : {X Y : Type 0} → Result X Fault → (X → Result Y Fault) → Result Y Fault
and_then (Ok value) f = f value
and_then (Err fault) f = Err fault

-- one reader after another
abbrev pub then_read : {A B : Type 0} → Reader A → (A → Reader B) → Reader B
then_read first second tokens = and_then (first tokens) (λ read. second read.0 read.1)

-- the next token with its value, where a test holds of it
abbrev pub take_if : {A : Type 0} → Bool → A → Reader A
take_if is_so value others =
    if is_so then Ok (value, others) else Err (unexpected (suc (length others)))

-- the next token, where it is of a set
abbrev pub next : {A : Type 0} → Terminal A → Reader A
next t [] = Err (unexpected 0)
next t (token ∷ others) = take_if (has t.set token) (t.value token) others

-- the next token, where it is of a set and opens a nest, while `depth` more may be opened
abbrev pub opening : {A : Type 0} → ℕ → Terminal A → Reader A
opening zero t tokens =
    if starts t.set (head tokens) then Err (too_deep (length tokens)) else refused tokens
opening (suc depth) t tokens = next t tokens

-- nothing, where the next token passes a test
abbrev pub check : (Option Spelled → Bool) → Reader (Unit {0})
check test tokens = if test (head tokens) then Ok (tt, tokens) else refused tokens

-- a reader whose first token has to pass a test
abbrev pub checked : {A : Type 0} → (Option Spelled → Bool) → Reader A → Reader A
checked test reader = then_read (check test) (λ _. reader)

-- one of two readers, by the next token
abbrev pub choose : {A : Type 0} → Set → Reader A → Reader A → Reader A
choose set this other tokens = if starts set (head tokens) then this tokens else other tokens

-- whether the token with this text is next, which is then taken
abbrev pub skipping : List ℕ → Reader Bool
skipping text = choose (quoted text) (then_read (next (quote text)) (λ _. pure true)) (pure false)

-- the set where a test holds, and else no token
abbrev pub set_if : Bool → Set → Set
set_if true set = set
set_if false set = []

-- at most `n` turns, as long as the state is open and the next token is of a set
abbrev pub repeat : {S : Type 0} → Set → (S → Bool) → (S → Reader S) → ℕ → S → Reader S
repeat set is_open turn zero state = choose (set_if (is_open state) set) refused (pure state)
repeat set is_open turn (suc n) state =
    choose (set_if (is_open state) set) (then_read (turn state) (repeat set is_open turn n))
    (pure state)

-- turns as long as the state is open and the next token is of a set; each takes a token, so as many
-- as tokens are enough
abbrev pub loop : {S : Type 0} → Set → (S → Bool) → (S → Reader S) → S → Reader S
loop set is_open turn state tokens = repeat set is_open turn (length tokens) state tokens

-- one more item after those of a state, and whether a `;` ends it
abbrev pub read_item : {A : Type 0} → Reader A → List A × Bool → Reader (List A × Bool)
read_item item state =
    then_read (checked (may_start (not state.1)) item)
    (λ x. then_read (skipping (codes ";")) (λ ended. pure (state.0 ++ x ∷ [], ended)))

-- items as long as the next token begins one
abbrev pub read_items : {A : Type 0} → Set → Reader A → List A × Bool → Reader (List A × Bool)
read_items set item state = loop set (λ _. true) (read_item item) state

abbrev pub only_if : {A : Type 0} → Bool → Reader A → Reader A → Reader A
only_if is_so this other tokens = if is_so then this tokens else other tokens

-- the end
abbrev pub finish : Reader (Unit {0})
finish [] = Ok (tt, [])
finish (token ∷ others) = Err (unexpected (suc (length others)))

-- a value that all tokens spell
abbrev pub whole : {A : Type 0} → Reader A → Reader A
whole reader = then_read reader (λ value. then_read finish (λ _. pure value))

-- The reader of a form, where `depth` more nests may be opened and `inside` reads what stands in
-- them.
abbrev pub reading : {N : Type 0} (El : N → Type 0) (shape_of : N → Shape)
    → ℕ → ((n : N) → Reader (El n)) → {s : Shape} {A : Type 0} → Form El shape_of s A → Reader A
reading El shape_of depth inside (forms.done value) = pure value
reading El shape_of depth inside (forms.terminal t) = next t
reading El shape_of depth inside (forms.word_but texts value) =
    checked (is_none_of texts) (next (a_word value))
reading El shape_of depth inside (forms.followed p f) =
    then_read (reading El shape_of depth inside p) (λ a. reading El shape_of depth inside (f a))
reading El shape_of depth inside (forms.either {s = s} p q) =
    choose s.first (reading El shape_of depth inside p) (reading El shape_of depth inside q)
reading El shape_of depth inside (forms.turns {s = s} is_open state f) =
    loop s.first is_open (λ now. reading El shape_of depth inside (f now)) state
reading El shape_of depth inside (forms.until {s = s} is_open state f last) =
    then_read (loop s.first is_open (λ now. reading El shape_of depth inside (f now)) state)
    (λ now. only_if (is_open now) (reading El shape_of depth inside (last now)) (pure now))
reading El shape_of depth inside (forms.more_items {s = s} state p) =
    read_items s.first (reading El shape_of depth inside p) state
reading El shape_of depth inside (forms.some_items {s = s} p) =
    then_read (read_item (reading El shape_of depth inside p) ([], true))
    (read_items s.first (reading El shape_of depth inside p))
reading El shape_of depth inside (forms.when {s = s} is_so p q) =
    only_if is_so (choose s.first (reading El shape_of depth inside p)
    (reading El shape_of depth inside q))
    (reading El shape_of depth inside q)
reading El shape_of depth inside (forms.unless {s = s} is_so p q) =
    choose s.first (reading El shape_of depth inside p)
    (only_if is_so (reading El shape_of depth inside q) refused)
reading El shape_of depth inside (forms.nest t n) =
    then_read (opening depth t) (λ a. then_read (inside n) (λ x. pure (a, x)))
reading El shape_of depth inside (forms.line_start asked p) =
    checked (may_start asked) (reading El shape_of depth inside p)
reading El shape_of depth inside (forms.same_line p) =
    checked stays (reading El shape_of depth inside p)
reading El shape_of depth inside (forms.shaped claim p) = reading El shape_of depth inside p
