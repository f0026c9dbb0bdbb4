-- Sets of tokens. Each token is of one class, which its text, its fixity and whether it is the
-- first on its line decide; a set is a list of classes. So whether two sets have a token in common
-- is a computation.
use Rattle.std.specs.Prelude.{ℕ, ◌+◌, ◌*◌, ◌%◌, ◌==◌, nat_lt, Bool, true, false, not, if◌then◌else◌}
use Rattle.std.specs.Prelude.{List, [], ◌∷◌, ◌++◌, length, filter, codes, bytes_eq, Option, Some}
use Rattle.std.specs.Prelude.{None}
use Rattle.std.specs.List.{list_any, list_all, position_or_len}
use Rattle.sw_token.specs.declared.Fixity.{Fixity}
use Rattle.sw_token.specs.declared.Fixity.TheVariants as fixities
use Rattle.sw_token.specs.declared.Kind.{Kind}
use Rattle.sw_token.specs.declared.Kind.TheVariants as kinds
use Rattle.sw_token.specs.Kinds.{kind_of}
use Rattle.sw_token.specs.Operators.{operators}
use Rattle.sw_token.specs.Spelling.{Spelled}

-- the marks and words that the grammar of programs quotes, and `print`, which no rule quotes: it is
-- the example of a name
abbrev pub other_texts : List (List ℕ)
other_texts =
    codes "(" ∷ codes ")" ∷ codes "{" ∷ codes "}" ∷ codes "[" ∷ codes "]" ∷ codes "," ∷ codes ":"
    ∷ codes ";" ∷ codes "." ∷ codes "?" ∷ codes "??" ∷ codes "_" ∷ codes "@main"
    ∷ codes "@globalActor" ∷ codes "@Sendable" ∷ codes "@escaping" ∷ codes "@concurrent"
    ∷ codes "Never" ∷ codes "Optional" ∷ codes "Sendable" ∷ codes "Task" ∷ codes "actor"
    ∷ codes "async" ∷ codes "await" ∷ codes "break" ∷ codes "case" ∷ codes "class"
    ∷ codes "continue" ∷ codes "default" ∷ codes "detached" ∷ codes "else" ∷ codes "enum"
    ∷ codes "false" ∷ codes "final" ∷ codes "func" ∷ codes "if" ∷ codes "in" ∷ codes "init"
    ∷ codes "let" ∷ codes "main" ∷ codes "nil" ∷ codes "nonisolated" ∷ codes "nonsending"
    ∷ codes "print" ∷ codes "return" ∷ codes "self" ∷ codes "sending" ∷ codes "shared"
    ∷ codes "static" ∷ codes "struct" ∷ codes "switch" ∷ codes "true" ∷ codes "var" ∷ codes "while"
    ∷ codes "yield" ∷ []

-- the quoted texts: the operators and those. Of an operator a rule may ask for the fixity.
abbrev pub quoted_texts : List (List ℕ)
quoted_texts = operators ++ other_texts

-- texts that examples are taken from: those and a literal
abbrev pub sample_texts : List (List ℕ)
sample_texts = quoted_texts ++ (codes "1" ∷ [])

abbrev pub is_sample : List ℕ → Bool
is_sample text = list_any (λ sample. bytes_eq sample text) sample_texts

-- the index of a text among those; their number where it is none of them
abbrev pub index_of : List ℕ → ℕ
index_of text = position_or_len (λ quoted. bytes_eq quoted text) quoted_texts

-- a number for each kind of token that isn't quoted
abbrev pub sort_of : Kind → ℕ
sort_of kinds.Word = 0
sort_of (kinds.Int _) = 1
sort_of kinds.At = 2
sort_of kinds.Underscore = 3
sort_of (kinds.Key _) = 3
sort_of (kinds.Op _) = 3
sort_of (kinds.Mark _) = 3

abbrev pub is_quoted : List ℕ → Bool
is_quoted text = nat_lt (index_of text) (length quoted_texts)

abbrev pub is_name : Kind → Bool
is_name kinds.Word = true
is_name _ = false

abbrev pub is_integer : Kind → Bool
is_integer (kinds.Int _) = true
is_integer _ = false

abbrev pub is_at : Kind → Bool
is_at kinds.At = true
is_at _ = false

-- whether the text is that of an operator
abbrev pub is_quoted_operator : List ℕ → Bool
is_quoted_operator text = nat_lt (index_of text) (length operators)

-- a number for each text that is quoted, and for each kind of the others
abbrev pub text_number : List ℕ → ℕ
text_number text =
    let index = index_of text in
    if is_quoted text then index else index + sort_of (kind_of text)

abbrev pub fixity_number : Fixity → ℕ
fixity_number fixities.Infix = 0
fixity_number fixities.Prefix = 1
fixity_number fixities.Postfix = 2
fixity_number fixities.None = 3

-- the class of a token, apart from whether it is the first on its line
abbrev pub kind_class : List ℕ → Fixity → ℕ
kind_class text fixity =
    let number = text_number text in
    4 * number + (if nat_lt number (length operators) then fixity_number fixity else 0)

-- the class of a token: even, where it isn't the first on its line
abbrev pub class_of : List ℕ → Fixity → Bool → ℕ
class_of text fixity first = 2 * kind_class text fixity + (if first then 1 else 0)

abbrev pub Set : Type 0
Set = List ℕ

-- whether the class is in the set
abbrev pub is_in : Set → ℕ → Bool
is_in set class = list_any (λ member. member == class) set

-- whether the token is in the set
unfoldable pub has : Set → Spelled → Bool
has set token = is_in set (class_of token.text token.fixity token.first)

-- whether there is a next token, and it is in the set
abbrev pub starts : Set → Option Spelled → Bool
starts set None = false
starts set (Some token) = has set token

-- whether no token is in both sets
abbrev pub apart : Set → Set → Bool
apart set other = list_all (λ class. not (is_in other class)) set

-- whether each token of the first set is in the second
abbrev pub within : Set → Set → Bool
within set other = list_all (is_in other) set

-- The sets that grammars are written with.

-- the tokens of this class, first on their line or not
abbrev pub any : ℕ → Set
any class = (2 * class) ∷ (2 * class + 1) ∷ []

-- the token with this text
abbrev pub quoted : List ℕ → Set
quoted text =
    let class = 4 * index_of text in
    if nat_lt (index_of text) (length operators)
    then any class ++ (any (class + 1) ++ (any (class + 2) ++ any (class + 3)))
    else any class

-- the operator with this text, where it stands so among its neighbours
abbrev pub standing : Fixity → List ℕ → Set
standing fixity text = any (4 * index_of text + fixity_number fixity)

-- the operators with one of these texts, where they stand so
abbrev pub standing_of : Fixity → List (List ℕ) → Set
standing_of fixity [] = []
standing_of fixity (text ∷ texts) = standing fixity text ++ standing_of fixity texts

-- the words among the quoted texts that may name something
abbrev pub open_words : List (List ℕ)
open_words =
    codes "Never" ∷ codes "Optional" ∷ codes "Sendable" ∷ codes "Task" ∷ codes "detached"
    ∷ codes "main" ∷ codes "nonsending" ∷ codes "print" ∷ codes "shared" ∷ codes "yield" ∷ []

-- the tokens with one of these texts
abbrev pub one_of : List (List ℕ) → Set
one_of [] = []
one_of (text ∷ texts) = quoted text ++ one_of texts

-- a word that isn't among the quoted texts
abbrev pub unquoted_word : Set
unquoted_word = any (4 * length quoted_texts)

-- an `@` with a word, which isn't among the quoted texts
abbrev pub unquoted_attribute : Set
unquoted_attribute = any (4 * (length quoted_texts + 2))

-- a word that names something
abbrev pub word : Set
word = unquoted_word ++ one_of open_words

-- an integer literal
abbrev pub integer : Set
integer = any (4 * (length quoted_texts + 1))

-- an `@` with a word
abbrev pub attribute : Set
attribute =
    unquoted_attribute ++ one_of (codes "@main" ∷ codes "@globalActor" ∷ codes "@Sendable"
    ∷ codes "@escaping" ∷ codes "@concurrent" ∷ [])

-- the tokens of the set that are the first on their line
abbrev pub first_only : Set → Set
first_only set = filter (λ class. class % 2 == 1) set

-- the tokens of the set that aren't the first on their line
abbrev pub not_first : Set → Set
not_first set = filter (λ class. class % 2 == 0) set
