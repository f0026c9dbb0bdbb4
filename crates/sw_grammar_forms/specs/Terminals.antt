-- Forms that most grammars use.
use Rattle.std.specs.Prelude.{ℕ, ℤ, Bool, true, false, List, []}
use Rattle.sw_scan.specs.Classes.{is_digit}
use Rattle.sw_token.specs.Bytes.{is_operator_byte, is_mark}
use Rattle.sw_token.specs.Literals.{unsigned_of, literal_of, number_in}
use Rattle.sw_token.specs.Kinds.{kind_of, word_kind, ruled_words, reserved_words, mark_number}
use Rattle.sw_grammar_forms.specs.Sets.{integer}
use Rattle.sw_grammar_forms.specs.Quotes.{quote, an_integer}
use Rattle.sw_grammar_forms.specs.Form.{Shape, Form, empty, one, solid, seq, alt, listed}
use Rattle.sw_grammar_forms.specs.Form as forms

-- one form after another, as the blocks of `do` are written
infixl 10 ◌>>=◌
abbrev pub ◌>>=◌ : {N : Type 0} {El : N → Type 0} {shape_of : N → Shape} {A B : Type 0}
    {s t : Shape}
    → Form El shape_of s A → (A → Form El shape_of t B) → Form El shape_of (seq s t) B
p >>= f = forms.followed p f

abbrev pub expect : {N : Type 0} {El : N → Type 0} {shape_of : N → Shape} (text : List ℕ)
    → Form El shape_of (one (quote text)) ℕ
expect text = forms.terminal (quote text)

-- an integer literal
unfoldable pub literal : {N : Type 0} {El : N → Type 0} {shape_of : N → Shape}
    → Form El shape_of (solid integer [] 0) (ℕ × ℤ)
unfolding kind_of literal_of unsigned_of number_in is_digit is_operator_byte is_mark
    word_kind ruled_words reserved_words mark_number
literal = forms.shaped _ (forms.terminal an_integer)

-- whether the token with this text is next, which is then taken
abbrev pub skip : {N : Type 0} {El : N → Type 0} {shape_of : N → Shape} (text : List ℕ)
    → Form El shape_of (alt (seq (one (quote text)) empty) empty) Bool
skip text = forms.either (expect text >>= λ _. forms.done true) (forms.done false)

-- items, each of which a `;` or the end of a line ends, and whether a `;` ends the last; before the
-- first, none has to begin a line
abbrev pub items : {N : Type 0} {El : N → Type 0} {shape_of : N → Shape} {A : Type 0} {s : Shape}
    → Form El shape_of s A → Form El shape_of (listed s) (List A × Bool)
items item = forms.more_items ([], true) item
