-- The enums of a program's optionals. A `?` of a spelling stands after the word of a type, so the
-- tokens say which there are: one for each text of such a word, at the first `?` after it.
use Rattle.std.specs.Prelude.{◌≡◌, ℕ, if◌then◌else◌, List, [], ◌∷◌, ◌++◌, map, fold, codes, bytes_eq}
use Rattle.std.specs.List.{list_any}
use Rattle.sw_token.specs.Spelling.{Spelled}
use Rattle.sw_grammar_forms.specs.Relations.{Relation}
use Rattle.sw_tree.specs.declared.decl.Decl.{Decl}
use Rattle.sw_sugar.specs.Optionals.{optional_enum_tree}
use Rattle.sw_grammar.specs.Tokens.{name_of, optional_text}

-- a word and the `?` after it
pub record Marked : Type 0 where
  pub word : Spelled
  pub mark : Spelled

-- the token with a `?` after it, where one comes next
abbrev pub marked_by : Spelled → List Spelled → List Marked
marked_by word [] = []
marked_by word (next ∷ _) =
    if bytes_eq next.text (codes "?") then record { word = word; mark = next } ∷ [] else []

abbrev pub marked : List Spelled → List Marked
marked [] = []
marked (token ∷ tokens) = marked_by token tokens ++ marked tokens

-- the same with one more, where none has the text of its word
abbrev pub with_marked : List Marked → Marked → List Marked
with_marked all one =
    if list_any (λ other. bytes_eq other.word.text one.word.text) all then all
    else all ++ one ∷ []

-- the first of each text
abbrev pub optionals : List Spelled → List Marked
optionals tokens = fold with_marked [] (marked tokens)

module _ (id_of : List ℕ → ℕ) where
  abbrev pub enum_of : Marked → Decl
  enum_of one =
      optional_enum_tree (id_of (codes "none")) (id_of (codes "some"))
      (id_of (optional_text one.word.text)) (name_of id_of one.word) one.mark.at

  abbrev pub enums : List Spelled → List Decl
  enums tokens = map enum_of (optionals tokens)

  -- the declarations that the tokens spell, and after them the enums of the optionals
  pub record WithEnums (R : Relation (List Decl)) (decls : List Decl)
      (tokens : List Spelled) : Type 0 where
    pub written : List Decl
    pub spelled : R written tokens
    pub whole : decls ≡ written ++ enums tokens
