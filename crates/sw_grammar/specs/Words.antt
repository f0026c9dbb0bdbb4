-- Words that are declared. After an `async let` none declares its word again.
use Rattle.std.specs.Prelude.{ℕ, List}
use Rattle.sw_token.specs.Spelling.{Spelled}
use Rattle.sw_grammar_forms.specs.Form.{one, a_word}
use Rattle.sw_grammar_forms.specs.Form.Form.{word_but}
use Rattle.sw_tree.specs.declared.name.Name.{Name}
use Rattle.sw_grammar.specs.Around.{Around}
use Rattle.sw_grammar.specs.Tokens.{name_of}
use Rattle.sw_grammar.specs.Nests.{Form}

-- a word that is declared, and its text
pub record DeclaredWord : Type 0 where
  pub name : Name
  pub text : List ℕ

module _ (around : Around) where
  abbrev pub declared_as : Spelled → DeclaredWord
  declared_as token = record { name = name_of around.id_of token; text = token.text }

  -- a word that is declared
  abbrev pub new_name : Form (one (a_word (name_of around.id_of))) Name
  new_name = word_but around.here.tasks (name_of around.id_of)

  -- the same, with its text
  abbrev pub new_word : Form (one (a_word declared_as)) DeclaredWord
  new_word = word_but around.here.tasks declared_as
