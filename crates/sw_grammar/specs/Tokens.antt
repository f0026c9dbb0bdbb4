-- The tokens of the grammar, and the sets of those with which its parts begin and go on.
use Rattle.std.specs.Prelude.{ℕ, if◌then◌else◌, List, [], ◌∷◌, ◌++◌, drop, codes, bytes_eq}
use Rattle.sw_token.specs.declared.Fixity.TheVariants as fixities
use Rattle.sw_token.specs.Spelling.{Spelled}
use Rattle.sw_grammar_forms.specs.Sets.{Set, quoted, standing, one_of, unquoted_word, word, integer}
use Rattle.sw_grammar_forms.specs.Sets.{unquoted_attribute, not_first}
use Rattle.sw_grammar_forms.specs.Form.{Terminal}
use Rattle.sw_tree.specs.declared.name.Name.{Name}
use Rattle.sw_tree.specs.declared.operator.PrefixOp.{PrefixOp}
use Rattle.sw_tree.specs.declared.operator.PrefixOp.TheVariants as prefixes
use Rattle.sw_tree.specs.declared.operator.InfixOp.{InfixOp}
use Rattle.sw_tree.specs.declared.operator.InfixOp.TheVariants as infixes
use Rattle.sw_tree.specs.declared.operator.AssignOp.{AssignOp}
use Rattle.sw_tree.specs.declared.operator.AssignOp.TheVariants as assigns
use Rattle.sw_grammar.specs.Around.{Around}

-- the operator with this text, between two operands
abbrev pub infix_op : List ℕ → Set
infix_op text = standing fixities.Infix text

-- the operator with this text, before its operand
abbrev pub prefix_op : List ℕ → Set
prefix_op text = standing fixities.Prefix text

-- The words that an expression may be of: each word outside the quoted texts, and those of the
-- quoted ones that may be names. `Task` isn't one of them, since it begins a form of its own; and
-- `Optional` begins one where a value may be an optional.
abbrev pub plain_word : Set
plain_word =
    unquoted_word ++ one_of (codes "Never" ∷ codes "Sendable" ∷ codes "detached" ∷ codes "main"
    ∷ codes "nonsending" ∷ codes "print" ∷ codes "shared" ∷ codes "yield" ∷ [])

abbrev pub value_word : Set
value_word = plain_word ++ quoted (codes "Optional")

-- an `@` with a word, but `@concurrent`
abbrev pub at_word : Set
at_word =
    unquoted_attribute ++ one_of (codes "@main" ∷ codes "@globalActor" ∷ codes "@Sendable"
    ∷ codes "@escaping" ∷ [])

-- the same, at the beginning of a declaration that is no entry and declares no global actor
abbrev pub plain_at_word : Set
plain_at_word = unquoted_attribute ++ one_of (codes "@Sendable" ∷ codes "@escaping" ∷ [])

abbrev pub times : Set
times = infix_op (codes "*") ++ infix_op (codes "/") ++ infix_op (codes "%")

abbrev pub plus : Set
plus = infix_op (codes "+") ++ infix_op (codes "-")

abbrev pub compares : Set
compares =
    infix_op (codes "==") ++ infix_op (codes "!=") ++ infix_op (codes "<") ++ infix_op (codes "<=")
    ++ infix_op (codes ">") ++ infix_op (codes ">=")

abbrev pub assign_ops : Set
assign_ops =
    infix_op (codes "=") ++ infix_op (codes "+=") ++ infix_op (codes "-=") ++ infix_op (codes "*=")
    ++ infix_op (codes "/=") ++ infix_op (codes "%=")

abbrev pub prefix_ops : Set
prefix_ops = prefix_op (codes "!") ++ prefix_op (codes "-")

-- What parts begin with.

-- `let` or `var`
abbrev pub binding_first : Set
binding_first = one_of (codes "let" ∷ codes "var" ∷ [])

abbrev pub type_first : Set
type_first = quoted (codes "@Sendable") ++ quoted (codes "(") ++ word

abbrev pub literal_first : Set
literal_first = integer ++ quoted (codes "true") ++ quoted (codes "false")

-- an expression that begins with neither a word nor `self` nor a bracket
abbrev pub plain_first : Set
plain_first = quoted (codes "await") ++ prefix_ops ++ literal_first

abbrev pub expr_first : Set
expr_first =
    plain_first ++ quoted (codes "self") ++ quoted (codes "Task") ++ value_word
    ++ quoted (codes "(") ++ quoted (codes "{")

-- a value in a place where it may be an optional
abbrev pub value_first : Set
value_first = quoted (codes "nil") ++ expr_first

abbrev pub stmt_first : Set
stmt_first =
    plain_first ++ quoted (codes "self") ++ quoted (codes "Task") ++ value_word
    ++ one_of (codes "let" ∷ codes "var" ∷ codes "_" ∷ codes "if" ∷ codes "while" ∷ codes "switch"
    ∷ codes "return" ∷ codes "break" ∷ codes "continue" ∷ [])

-- a statement in a block, or an `async let`
abbrev pub item_first : Set
item_first = stmt_first ++ quoted (codes "async")

-- What parts go on with where they could end.

abbrev pub type_ext : Set
type_ext = quoted (codes "->") ++ quoted (codes "<") ++ quoted (codes "?")

abbrev pub postfix_ext : Set
postfix_ext = not_first (quoted (codes "(")) ++ quoted (codes ".")

abbrev pub expr_ext : Set
expr_ext =
    postfix_ext ++ times ++ plus ++ compares ++ infix_op (codes "&&") ++ infix_op (codes "||")

-- after `Optional` a `(` may stand on any line
abbrev pub value_ext : Set
value_ext = quoted (codes "(") ++ expr_ext

-- the value of a variable
abbrev pub bind_ext : Set
bind_ext = value_ext ++ quoted (codes "??")

abbrev pub stmt_ext : Set
stmt_ext = bind_ext ++ assign_ops ++ quoted (codes "else") ++ not_first value_first

-- the text of the optional of a word
abbrev pub optional_text : List ℕ → List ℕ
optional_text text = text ++ codes "?"

-- The values of tokens. `id_of` gives the index of a text among the texts of names.
module _ (id_of : List ℕ → ℕ) where
  abbrev pub name_of : Spelled → Name
  name_of token = record { at = token.at; id = id_of token.text }

  -- the word after an `@`
  abbrev pub at_name : Spelled → Name
  at_name token = record { at = token.at; id = id_of (drop 1 token.text) }

module _ (around : Around) where
  abbrev pub name_in : Set → List ℕ → Terminal Name
  name_in set text = record {
    set = set;
    value = name_of around.id_of;
    text = text;
    fixity = fixities.None;
  }

  abbrev pub at_in : Set → List ℕ → Terminal Name
  at_in set text = record {
    set = set;
    value = at_name around.id_of;
    text = text;
    fixity = fixities.None;
  }

abbrev pub prefix_of : List ℕ → PrefixOp
prefix_of text = if bytes_eq text (codes "!") then prefixes.Not else prefixes.Negate

abbrev pub infix_of : List ℕ → InfixOp
infix_of text =
    if bytes_eq text (codes "*") then infixes.Multiply
    else (if bytes_eq text (codes "/") then infixes.Divide
    else (if bytes_eq text (codes "%") then infixes.Remainder
    else (if bytes_eq text (codes "+") then infixes.Add
    else (if bytes_eq text (codes "-") then infixes.Subtract
    else (if bytes_eq text (codes "==") then infixes.Equal
    else (if bytes_eq text (codes "!=") then infixes.NotEqual
    else (if bytes_eq text (codes "<") then infixes.Less
    else (if bytes_eq text (codes "<=") then infixes.LessEqual
    else (if bytes_eq text (codes ">") then infixes.Greater
    else (if bytes_eq text (codes ">=") then infixes.GreaterEqual
    else (if bytes_eq text (codes "&&") then infixes.And else infixes.Or)))))))))))

abbrev pub assign_of : List ℕ → AssignOp
assign_of text =
    if bytes_eq text (codes "=") then assigns.Set
    else (if bytes_eq text (codes "+=") then assigns.Add
    else (if bytes_eq text (codes "-=") then assigns.Subtract
    else (if bytes_eq text (codes "*=") then assigns.Multiply
    else (if bytes_eq text (codes "/=") then assigns.Divide else assigns.Remainder))))

-- an operator between operands, with its position
abbrev pub infix_in : Set → List ℕ → Terminal (InfixOp × ℕ)
infix_in set text = record {
  set = set;
  value = λ token. (infix_of token.text, token.at);
  text = text;
  fixity = fixities.Infix;
}

abbrev pub a_prefix : Terminal (PrefixOp × ℕ)
a_prefix = record {
  set = prefix_ops;
  value = λ token. (prefix_of token.text, token.at);
  text = codes "!";
  fixity = fixities.Prefix;
}

abbrev pub an_assignment : Terminal (AssignOp × ℕ)
an_assignment = record {
  set = assign_ops;
  value = λ token. (assign_of token.text, token.at);
  text = codes "=";
  fixity = fixities.Infix;
}

-- `=`, as it stands before a value
abbrev pub an_equals : Terminal ℕ
an_equals = record {
  set = infix_op (codes "=");
  value = λ token. token.at;
  text = codes "=";
  fixity = fixities.Infix;
}
