-- The texts that the trees of the forms name, and the ids of a declared word's parts.
use Rattle.std.specs.Prelude.{ℕ, Bool, List, [], ◌∷◌, ◌++◌, codes, slice_get, unwrap_or}
use Rattle.sw_sugar.specs.declared.words.Declared.{Declared}
use Rattle.sw_sugar.specs.declared.words.OrLiteral.{OrLiteral}
use Rattle.sw_tree.specs.declared.name.Name.{Name}

-- the text with an id, or none where no text has it
abbrev pub text_of : List (List ℕ) → ℕ → List ℕ
text_of texts id = unwrap_or (slice_get texts id) []

-- the text of an optional type, and of the part of a declared word; and that of its whole
abbrev pub part_text : List ℕ → List ℕ
part_text text = text ++ codes "?"

abbrev pub whole_text : List ℕ → List ℕ
whole_text text = text ++ codes "??"

abbrev pub declared_texts : List ℕ → List (List ℕ)
declared_texts text = part_text text ∷ whole_text text ∷ []

abbrev pub or_literal_texts : List ℕ → List (List ℕ)
or_literal_texts text = part_text text ∷ whole_text text ∷ codes "some" ∷ []

abbrev pub enum_texts : List ℕ → List (List ℕ)
enum_texts text = part_text text ∷ codes "none" ∷ codes "some" ∷ []

module _ (id_of : List ℕ → ℕ) (text : List ℕ) where
  -- a word with this text that is declared
  abbrev pub declared_as : Name → Declared
  declared_as name =
      record { name = name; part = id_of (part_text text); whole = id_of (whole_text text) }

  -- `let name: T = value ?? literal`, or `var`, with the places of its tokens
  abbrev pub or_literal_form : Bool → Name → ℕ → ℕ → ℕ → ℕ → OrLiteral
  or_literal_form mutable name let_at colon_at eq_at op_at = record {
    mutable = mutable;
    word = declared_as name;
    some = id_of (codes "some");
    let_at = let_at;
    colon_at = colon_at;
    eq_at = eq_at;
    op_at = op_at;
  }
