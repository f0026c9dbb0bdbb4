-- The texts of names, those that tokens give and those that rules make of words, and that a list of
-- texts has them.
use Rattle.std.specs.Prelude.{ℕ, ◌<◌, Bool, false, ◌||◌, ◌&&◌, if◌then◌else◌, List, [], ◌∷◌, ◌++◌}
use Rattle.std.specs.Prelude.{drop, length, All, codes, bytes_eq}
use Rattle.sw_token.specs.declared.Kind.{Kind}
use Rattle.sw_token.specs.declared.Kind.TheVariants as kinds
use Rattle.sw_token.specs.Kinds.{kind_of}
use Rattle.sw_token.specs.Spelling.{Spelled}
use Rattle.sw_tree.specs.Names.{id_in}
use Rattle.sw_sugar.specs.Calls.{declared_texts}
use Rattle.sw_grammar.specs.Tokens.{optional_text}

-- whether the word of a variable comes after the token with this text
abbrev pub is_binding : List ℕ → Bool
is_binding text = bytes_eq text (codes "let") || bytes_eq text (codes "var")

-- The texts that rules may make of a word: before a `?` that of the optional of a type, and before a
-- `:`, where the word is that of a variable, those of one that a `??` gives its value.
abbrev pub made_texts : Bool → List ℕ → List Spelled → List (List ℕ)
made_texts bound text [] = []
made_texts bound text (next ∷ _) =
    if bytes_eq next.text (codes "?") then optional_text text ∷ []
    else (if bound && bytes_eq next.text (codes ":") then declared_texts text else [])

-- The texts that a token gives before the tokens after it. A word gives its own and those that are
-- made of it, an `@` with a word gives that word, and no other token names anything.
abbrev pub texts_by : Bool → Kind → List ℕ → List Spelled → List (List ℕ)
texts_by bound kinds.Word text after = text ∷ made_texts bound text after
texts_by bound kinds.At text after = drop 1 text ∷ []
texts_by bound kinds.Underscore text after = []
texts_by bound (kinds.Key _) text after = []
texts_by bound (kinds.Int _) text after = []
texts_by bound (kinds.Op _) text after = []
texts_by bound (kinds.Mark _) text after = []

-- those of the first token
abbrev pub next_texts : Bool → List Spelled → List (List ℕ)
next_texts bound [] = []
next_texts bound (token ∷ after) = texts_by bound (kind_of token.text) token.text after

-- those of all tokens, as they come
abbrev pub given_texts : Bool → List Spelled → List (List ℕ)
given_texts bound [] = []
given_texts bound (token ∷ after) =
    next_texts bound (token ∷ after) ++ given_texts (is_binding token.text) after

-- the words of the cases of an optional
abbrev pub case_texts : List (List ℕ)
case_texts = codes "none" ∷ codes "some" ∷ []

-- the texts of all names that a tree of these tokens may have
abbrev pub texts_in : List Spelled → List (List ℕ)
texts_in tokens = case_texts ++ given_texts false tokens

-- each name of the tokens is among the texts
abbrev pub AreInterned : List (List ℕ) → List Spelled → Type 0
AreInterned texts tokens = All (λ text. id_in texts text < length texts) (texts_in tokens)
