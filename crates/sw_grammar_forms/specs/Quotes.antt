-- The tokens that most grammars quote.
use Rattle.std.specs.Prelude.{ℕ, ℤ, pos, List, codes}
use Rattle.sw_token.specs.declared.Fixity.TheVariants as fixities
use Rattle.sw_token.specs.declared.Kind.{Kind}
use Rattle.sw_token.specs.declared.Kind.TheVariants as kinds
use Rattle.sw_token.specs.Kinds.{kind_of}
use Rattle.sw_grammar_forms.specs.Sets.{quoted, integer, not_first}
use Rattle.sw_grammar_forms.specs.Form.{Terminal}

-- the token with this text; its value is its position
abbrev pub quote : List ℕ → Terminal ℕ
quote text = record {
  set = quoted text;
  value = λ token. token.at;
  text = text;
  fixity = fixities.None;
}

-- the same, where it isn't the first on its line
abbrev pub quote_on_line : List ℕ → Terminal ℕ
quote_on_line text = record {
  set = not_first (quoted text);
  value = λ token. token.at;
  text = text;
  fixity = fixities.None;
}

abbrev pub int_value : Kind → ℤ
int_value (kinds.Int value) = value
int_value _ = pos 0

-- an integer literal; its value is its position and its number
abbrev pub an_integer : Terminal (ℕ × ℤ)
an_integer = record {
  set = integer;
  value = λ token. (token.at, int_value (kind_of token.text));
  text = codes "1";
  fixity = fixities.None;
}
