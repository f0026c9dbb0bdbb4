-- The enums of the optionals of tokens, while the tokens are gone through.
use Rattle.std.specs.Prelude.{◌≡◌, ℕ, List, [], ◌∷◌, ◌++◌, map}
use Rattle.sw_token.specs.Spelling.{Spelled}
use Rattle.sw_tree.specs.declared.decl.Decl.{Decl}
use Rattle.sw_grammar.specs.Enums.{Marked, enum_of}
use Rattle.sw_parse_decl.specs.declared.enums.Word.{Word}
use Rattle.sw_parse_decl.specs.declared.enums.Found.{Found}

-- a word has the text and the place of this token
abbrev pub IsWordOf : Spelled → Word → Type 0
IsWordOf token word = (token.text ≡ word.text.now) × (token.at ≡ word.at)

-- the first token is taken as a word
abbrev pub TakesWord : List Spelled → Word → List Spelled → Type 0
TakesWord [] word left = ⊥
TakesWord (token ∷ after) word left = IsWordOf token word × (left ≡ after)

-- What is found are the declarations that are written, and the enums of these optionals after them;
-- and the texts of their words.
pub record AreFound (id_of : List ℕ → ℕ) (written : List Decl) (all : List Marked)
    (found : Found) : Type 0 where
  pub decls : found.decls.items ≡ written ++ map (enum_of id_of) all
  pub texts : map (λ text. text.now) found.texts.keys ≡ map (λ one. one.word.text) all
