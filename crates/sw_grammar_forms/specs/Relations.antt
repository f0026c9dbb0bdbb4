-- Relations between values and the tokens that spell them, and how a form puts them together.
use Rattle.std.specs.Prelude.{◌≡◌, ◌⊎◌, Bool, true, false, not, IsTrue, List, [], ◌∷◌, ◌++◌, Option}
use Rattle.std.specs.Prelude.{Some, None, codes, ℕ, bytes_eq}
use Rattle.std.specs.List.{list_any}
use Rattle.sw_token.specs.Spelling.{Spelled}
use Rattle.sw_grammar_forms.specs.Sets.{has}
use Rattle.sw_grammar_forms.specs.Form.{Shape, Terminal, Form, a_word}
use Rattle.sw_grammar_forms.specs.Form as forms
use Rattle.sw_grammar_forms.specs.Quotes.{quote}

abbrev pub Relation : Type 0 → Type 1
Relation A = A → List Spelled → Type 0

abbrev pub head : List Spelled → Option Spelled
head [] = None
head (token ∷ _) = Some token

-- whether the next token is the first on its line
abbrev pub is_first_on_line : Option Spelled → Bool
is_first_on_line None = false
is_first_on_line (Some token) = token.first

abbrev pub NoToken : {A : Type 0} → A → Relation A
NoToken value a tokens = (a ≡ value) × (tokens ≡ [])

pub record One {A : Type 0} (t : Terminal A) (a : A) (tokens : List Spelled) : Type 0 where
  pub token : Spelled
  pub member : IsTrue (has t.set token)
  pub value : a ≡ t.value token
  pub alone : tokens ≡ token ∷ []

pub record FollowedBy {A B : Type 0} (P : Relation A) (Q : A → Relation B) (b : B)
    (tokens : List Spelled) : Type 0 where
  pub value : A
  pub left : List Spelled
  pub right : List Spelled
  pub first : P value left
  pub second : Q value b right
  pub whole : tokens ≡ left ++ right

abbrev pub Either : {A : Type 0} → Relation A → Relation A → Relation A
Either P Q a tokens = P a tokens ⊎ Q a tokens

abbrev pub Only : {A : Type 0} → Bool → Relation A → Relation A
Only is_so P a tokens = IsTrue is_so × P a tokens

-- the first, or the second, by a condition
abbrev pub Chosen : {A : Type 0} → Bool → Relation A → Relation A → Relation A
Chosen true P Q = P
Chosen false P Q = Q

-- turns from one state to another
pub data Turns {S : Type 0} (One : S → Relation S) : S → S → List Spelled → Type 0 where
  stop : (s : S) → Turns One s s []
  turn : (s next last : S) (us vs : List Spelled) → One s next us → Turns One next last vs
      → Turns One s last (us ++ vs)

-- spellings whose first token passes a test
abbrev pub Passing : {A : Type 0} → (Option Spelled → Bool) → Relation A → Relation A
Passing test P a tokens = P a tokens × IsTrue (test (head tokens))

-- whether the next token is the first on its line, where that is asked for
abbrev pub may_start : Bool → Option Spelled → Bool
may_start true token = is_first_on_line token
may_start false token = true

-- whether the next token isn't the first on its line
abbrev pub stays : Option Spelled → Bool
stays None = true
stays (Some token) = not token.first

-- whether the next token has none of these texts; the end has none
abbrev pub is_none_of : List (List ℕ) → Option Spelled → Bool
is_none_of texts None = true
is_none_of texts (Some token) = not (list_any (λ text. bytes_eq token.text text) texts)

-- a `;`, or nothing, and which of the two
abbrev pub Skipped : Relation Bool
Skipped = Either (FollowedBy (One (quote (codes ";"))) (λ _. NoToken true)) (NoToken false)

-- One more item after those of a state, and whether a `;` ends it. Where none ended the item
-- before, it begins a line.
abbrev pub OneMore : {A : Type 0} → Relation A → List A × Bool → Relation (List A × Bool)
OneMore P state =
    FollowedBy (Passing (may_start (not state.1)) P)
    (λ x. FollowedBy Skipped (λ ended. NoToken (state.0 ++ x ∷ [], ended)))

-- What a form spells, where `inside` says what the nests do.
abbrev pub spelled : {N : Type 0} (El : N → Type 0) (shape_of : N → Shape)
    → ((n : N) → Relation (El n)) → {s : Shape} {A : Type 0} → Form El shape_of s A → Relation A
spelled El shape_of inside (forms.done value) = NoToken value
spelled El shape_of inside (forms.terminal t) = One t
spelled El shape_of inside (forms.word_but texts value) =
    Passing (is_none_of texts) (One (a_word value))
spelled El shape_of inside (forms.followed p f) =
    FollowedBy (spelled El shape_of inside p) (λ a. spelled El shape_of inside (f a))
spelled El shape_of inside (forms.either p q) =
    Either (spelled El shape_of inside p) (spelled El shape_of inside q)
spelled El shape_of inside (forms.turns is_open state f) =
    Turns (λ s. Only (is_open s) (spelled El shape_of inside (f s))) state
spelled El shape_of inside (forms.until is_open state f last) =
    FollowedBy (Turns (λ s. Only (is_open s) (spelled El shape_of inside (f s))) state)
    (λ s. Chosen (is_open s) (spelled El shape_of inside (last s)) (NoToken s))
spelled El shape_of inside (forms.more_items state p) =
    Turns (OneMore (spelled El shape_of inside p)) state
spelled El shape_of inside (forms.some_items p) =
    FollowedBy (OneMore (spelled El shape_of inside p) ([], true))
    (Turns (OneMore (spelled El shape_of inside p)))
spelled El shape_of inside (forms.when is_so p q) =
    Either (Only is_so (spelled El shape_of inside p)) (spelled El shape_of inside q)
spelled El shape_of inside (forms.unless is_so p q) =
    Either (spelled El shape_of inside p) (Only is_so (spelled El shape_of inside q))
spelled El shape_of inside (forms.nest t n) =
    FollowedBy (One t) (λ a. FollowedBy (inside n) (λ x. NoToken (a, x)))
spelled El shape_of inside (forms.line_start asked p) =
    Passing (may_start asked) (spelled El shape_of inside p)
spelled El shape_of inside (forms.same_line p) = Passing stays (spelled El shape_of inside p)
spelled El shape_of inside (forms.shaped claim p) = spelled El shape_of inside p
