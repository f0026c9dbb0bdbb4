-- What a call answered, and the answer of a reader.
use Rattle.std.specs.Prelude.{◌≡◌, ℕ, ℤ, Bool, false, ◌==◌, List, [], ◌∷◌, Option, Some, None}
use Rattle.std.specs.Prelude.{Result, Ok, Err, bytes_eq}
use Rattle.std.specs.List.{list_any}
use Rattle.sw_token.specs.declared.Fixity.{Fixity}
use Rattle.sw_token.specs.declared.Kind.{Kind}
use Rattle.sw_token.specs.declared.Kind.TheVariants as kinds
use Rattle.sw_token.specs.Kinds.{kind_of}
use Rattle.sw_token.specs.Spelling.{Spelled}
use Rattle.sw_grammar_forms.specs.Sets.{is_name, is_integer, is_at, fixity_number}
use Rattle.sw_grammar_forms.specs.declared.stop.Stop.{Stop}
use Rattle.sw_grammar_forms.specs.declared.stop.Stop.TheVariants as stops
use Rattle.sw_grammar_forms.specs.Reader.{Answer}
use Rattle.sw_grammar_forms.specs.Reader.Fault.{unexpected, too_deep}

-- `Gives answer result left`: the call answered as the reader and left these tokens, unless memory
-- ran out. After a stop nothing is said of what is left.
abbrev pub Gives : {A : Type 0} → Answer A → Result A Stop → List Spelled → Type 0
Gives answer (Ok value) left = answer ≡ Ok (value, left)
Gives answer (Err (stops.Unexpected count)) left = answer ≡ Err (unexpected count)
Gives answer (Err (stops.TooDeep count)) left = answer ≡ Err (too_deep count)
Gives answer (Err stops.Memory) left = Unit {0}

-- `Takes tokens at left`: the first of the tokens, which stands at the position `at`, is taken, and
-- these are left.
abbrev pub Takes : List Spelled → ℕ → List Spelled → Type 0
Takes [] at left = ⊥
Takes (first ∷ others) at left = (at ≡ first.at) × (left ≡ others)

-- whether the next token has this text
abbrev pub has_text : List ℕ → Option Spelled → Bool
has_text text None = false
has_text text (Some token) = bytes_eq token.text text

-- whether the next token has one of these texts
abbrev pub has_text_of : List (List ℕ) → Option Spelled → Bool
has_text_of texts token = list_any (λ text. has_text text token) texts

-- the text of the next token; nothing stands for the end
abbrev pub text_of : Option Spelled → List ℕ
text_of None = []
text_of (Some token) = token.text

-- whether the next token stands so among its neighbours
abbrev pub stands : Fixity → Option Spelled → Bool
stands fixity None = false
stands fixity (Some token) = fixity_number token.fixity == fixity_number fixity

-- whether the next token is an integer literal
abbrev pub is_literal : Option Spelled → Bool
is_literal None = false
is_literal (Some token) = is_integer (kind_of token.text)

-- whether the next token is an `@` with a word
abbrev pub is_attribute : Option Spelled → Bool
is_attribute None = false
is_attribute (Some token) = is_at (kind_of token.text)

-- whether the next token is a word that names something
abbrev pub names : Option Spelled → Bool
names None = false
names (Some token) = is_name (kind_of token.text)

abbrev pub value_if : Kind → Option ℤ
value_if (kinds.Int value) = Some value
value_if _ = None

-- the value of the next token, where it is an integer literal
abbrev pub literal : Option Spelled → Option ℤ
literal None = None
literal (Some token) = value_if (kind_of token.text)
