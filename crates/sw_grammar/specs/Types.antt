-- Types.
use Rattle.std.specs.Prelude.{ℕ, Bool, true, false, Option, Some, None, List, [], ◌∷◌, ◌++◌, codes}
use Rattle.sw_token.specs.declared.Fixity.TheVariants as fixities
use Rattle.sw_token.specs.Spelling.{Spelled}
use Rattle.sw_grammar_forms.specs.Sets.{Set, quoted}
use Rattle.sw_grammar_forms.specs.Form.{Shape, Terminal, solid, one, empty, seq, alt, star}
use Rattle.sw_grammar_forms.specs.Form.Form.{done, terminal, either, unless, nest, turns, shaped}
use Rattle.sw_grammar_forms.specs.Terminals.{◌>>=◌, expect, skip}
use Rattle.sw_grammar_forms.specs.Quotes.{quote}
use Rattle.sw_tree.specs.declared.name.Name.{Name}
use Rattle.sw_tree.specs.declared.type_tree.TypeTree.{TypeTree}
use Rattle.sw_tree.specs.declared.type_tree.TypeTree.TheVariants as trees
use Rattle.sw_sugar.specs.Optionals.{name_at}
use Rattle.sw_grammar.specs.Around.{Around}
use Rattle.sw_grammar.specs.Tokens.{value_word, type_first, type_ext, name_of, at_in, optional_text}
use Rattle.sw_grammar.specs.Nests.{in_types, in_payload, in_result, in_task_type, shape_of, Form}

abbrev pub is_empty : {A : Type 0} → List A → Bool
is_empty [] = true
is_empty (_ ∷ _) = false

-- a written type, and the word `T` where it is `T?`
pub record Typed : Type 0 where
  pub tree : TypeTree
  pub wanted : Option (List ℕ)

-- a word of a type: its name, its text, and the id of its text with `?`
pub record TypeWord : Type 0 where
  pub name : Name
  pub text : List ℕ
  pub optional : ℕ

-- a type that is no optional
abbrev pub typed : TypeTree → Typed
typed tree = record { tree = tree; wanted = None }

-- the type that a word with or without `?` names
abbrev pub named : TypeWord → Bool → Typed
named word true = record {
  tree = trees.Named (name_at word.name.at word.optional);
  wanted = Some word.text;
}
named word false = typed (trees.Named word.name)

-- what there is of a type that may be left out
abbrev pub tree_of : Option Typed → Option TypeTree
tree_of None = None
tree_of (Some written) = Some written.tree

abbrev pub wanted_of : Option Typed → Option (List ℕ)
wanted_of None = None
wanted_of (Some written) = written.wanted

module _ (around : Around) where
  abbrev pub type_word_of : Spelled → TypeWord
  type_word_of token = record {
    name = name_of around.id_of token;
    text = token.text;
    optional = around.id_of (optional_text token.text);
  }

  abbrev pub type_word : Set → List ℕ → Terminal TypeWord
  type_word set text =
      record { set = set; value = type_word_of; text = text; fixity = fixities.None }

  -- "(" types ")" "->" type | "(" ")"
  unfoldable pub round_type : Form (solid (quoted (codes "(")) type_ext 1) TypeTree
  round_type = shaped _ (do
    params ← nest (quote (codes "(")) in_types
    unless (is_empty params.1) (do
      result ← nest (quote (codes "->")) in_result
      done (trees.Arrow params.0 None params.1 result.1)) (done (trees.Unit params.0)))

  -- "@Sendable" "(" types ")" "->" type
  unfoldable pub marked_type : Form (solid (quoted (codes "@Sendable")) type_ext 1) TypeTree
  marked_type = shaped _ (do
    mark ← terminal (at_in around (quoted (codes "@Sendable")) (codes "@Sendable"))
    params ← nest (quote (codes "(")) in_types
    result ← nest (quote (codes "->")) in_result
    done (trees.Arrow params.0 (Some mark) params.1 result.1))

  -- "Task" "<" type "," "Never" ">", or the word with or without "?"
  unfoldable pub task_type : Form (solid (quoted (codes "Task")) type_ext 0) Typed
  task_type = shaped _ (do
    word ← terminal (type_word (quoted (codes "Task")) (codes "Task"))
    either (do
      inner ← nest (quote (codes "<")) in_task_type
      done (typed (trees.TaskOf word.name.at inner.1))) (do
        marked ← skip (codes "?")
        done (named word marked)))

  -- Word ["?"]
  unfoldable pub named_type : Form (solid value_word (quoted (codes "?")) 0) Typed
  named_type = shaped _ (do
    word ← terminal (type_word value_word (codes "print"))
    marked ← skip (codes "?")
    done (named word marked))

  -- a type, and whether it is an optional
  unfoldable pub written_type : Form (solid type_first type_ext 0) Typed
  written_type = shaped _ (either (marked_type >>= λ tree. done (typed tree))
      (either (round_type >>= λ tree. done (typed tree)) (either task_type named_type)))

  -- a type
  unfoldable pub type : Form (solid type_first type_ext 0) TypeTree
  type = shaped _ (do
    written ← written_type
    done written.tree)

  -- more of a list that `,` parts, after those read so far
  abbrev pub more_of : {A : Type 0} {s : Shape} → List A → Form s A
      → Form (star (seq (one (quote (codes ","))) (seq s empty))) (List A)
  more_of first item = turns (λ _. true) first (λ xs. do
    _ ← expect (codes ",")
    x ← item
    done (xs ++ x ∷ []))

  -- one at least, and the token that closes the list
  abbrev pub some_of : {A : Type 0} {s : Shape} → (text : List ℕ) → Form s A
      → Form (seq s (seq (star (seq (one (quote (codes ","))) (seq s empty)))
      (seq (one (quote text)) empty))) (List A)
  some_of text item = do
    x ← item
    xs ← more_of (x ∷ []) item
    _ ← expect text
    done xs

  -- any number, and the token that closes the list
  abbrev pub list_of : {A : Type 0} {s : Shape} → (text : List ℕ) → Form s A
      → Form (alt (seq (one (quote text)) empty)
      (seq s (seq (star (seq (one (quote (codes ","))) (seq s empty)))
      (seq (one (quote text)) empty)))) (List A)
  list_of text item = either (expect text >>= λ _. done []) (some_of text item)

  -- type {"," type} ")", or ")"
  unfoldable pub types : Form (shape_of in_types) (List TypeTree)
  types = shaped _ (list_of (codes ")") type)

  -- type {"," type} ")"
  unfoldable pub payload : Form (shape_of in_payload) (List TypeTree)
  payload = shaped _ (some_of (codes ")") type)

  -- type "," "Never" ">"
  unfoldable pub task_inner : Form (shape_of in_task_type) TypeTree
  task_inner = shaped _ (do
    inner ← type
    _ ← expect (codes ",")
    _ ← expect (codes "Never")
    _ ← expect (codes ">")
    done inner)
