-- The tokens that open nests, and how many are open there. `opens` says that the last of the tokens
-- opens a nest of a form, where a spelling begins with them.
use Rattle.std.specs.Prelude.{◌≡◌, ◌⊎◌, ℕ, zero, suc, true, not, IsTrue, List, [], ◌∷◌, ◌++◌}
use Rattle.sw_token.specs.Spelling.{Spelled}
use Rattle.sw_grammar_forms.specs.Sets.{has}
use Rattle.sw_grammar_forms.specs.Form.{Shape, Terminal, Form}
use Rattle.sw_grammar_forms.specs.Form as forms
use Rattle.sw_grammar_forms.specs.Relations.{Relation, head, Turns, Only, may_start, stays, OneMore}
use Rattle.sw_grammar_forms.specs.Spells.{Wide}

-- what is said of tokens
abbrev pub Saying : Type 1
Saying = List Spelled → Type 0

-- the first tokens spell a value, and of those after them something is said that depends on it
pub record After {A : Type 0} (P : Relation A) (Last : A → Saying) (tokens : List Spelled)
    : Type 0 where
  pub value : A
  pub left : List Spelled
  pub right : List Spelled
  pub first : P value left
  pub last : Last value right
  pub whole : tokens ≡ left ++ right

-- a token of the terminal, and after it tokens of which this is said
pub record Opener {A : Type 0} (t : Terminal A) (Inner : Saying) (tokens : List Spelled)
    : Type 0 where
  pub token : Spelled
  pub others : List Spelled
  pub member : IsTrue (has t.set token)
  pub inner : Inner others
  pub whole : tokens ≡ token ∷ others

module _ {N : Type 0} (El : N → Type 0) (shape_of : N → Shape)
    (body : (n : N) → Form El shape_of (shape_of n) (El n)) where
  -- The last of the tokens opens a nest of the form. `into` says what stands between the token that
  -- opens the outermost of the nests and the end.
  abbrev pub opens_in : ((n : N) → Saying) → {s : Shape} {A : Type 0} → Form El shape_of s A
      → Saying
  opens_in into (forms.done value) tokens = ⊥
  opens_in into (forms.terminal t) tokens = ⊥
  opens_in into (forms.word_but texts value) tokens = ⊥
  opens_in into (forms.followed p f) tokens =
      opens_in into p tokens
      ⊎ After (Wide El shape_of body p) (λ a us. opens_in into (f a) us) tokens
  opens_in into (forms.either p q) tokens = opens_in into p tokens ⊎ opens_in into q tokens
  opens_in into (forms.turns is_open state f) tokens =
      After (Turns (λ s. Only (is_open s) (Wide El shape_of body (f s))) state)
      (λ s us. IsTrue (is_open s) × opens_in into (f s) us) tokens
  opens_in into (forms.until is_open state f last) tokens =
      After (Turns (λ s. Only (is_open s) (Wide El shape_of body (f s))) state)
      (λ s us. IsTrue (is_open s) × opens_in into (f s) us) tokens
      ⊎ After (Turns (λ s. Only (is_open s) (Wide El shape_of body (f s))) state)
      (λ s us. IsTrue (is_open s) × opens_in into (last s) us) tokens
  opens_in into (forms.more_items state p) tokens =
      After (Turns (OneMore (Wide El shape_of body p)) state)
      (λ s us. opens_in into p us × IsTrue (may_start (not s.1) (head us))) tokens
  opens_in into (forms.some_items p) tokens =
      After (Turns (OneMore (Wide El shape_of body p)) ([], true))
      (λ s us. opens_in into p us × IsTrue (may_start (not s.1) (head us))) tokens
  opens_in into (forms.when is_so p q) tokens =
      (IsTrue is_so × opens_in into p tokens) ⊎ opens_in into q tokens
  opens_in into (forms.unless is_so p q) tokens =
      opens_in into p tokens ⊎ (IsTrue is_so × opens_in into q tokens)
  opens_in into (forms.nest t n) tokens = Opener t (into n) tokens
  opens_in into (forms.line_start asked p) tokens =
      opens_in into p tokens × IsTrue (may_start asked (head tokens))
  opens_in into (forms.same_line p) tokens = opens_in into p tokens × IsTrue (stays (head tokens))
  opens_in into (forms.shaped claim p) tokens = opens_in into p tokens

  -- what stands between a token that opens a nest and the last, where `depth` more nests are open
  abbrev pub into : ℕ → (n : N) → Saying
  into zero n tokens = tokens ≡ []
  into (suc depth) n tokens = opens_in (into depth) (body n) tokens

  -- The last of the tokens opens a nest of the form where `depth` nests are open before it.
  abbrev pub opens : ℕ → {s : Shape} {A : Type 0} → Form El shape_of s A → Saying
  opens depth form = opens_in (into depth) form
