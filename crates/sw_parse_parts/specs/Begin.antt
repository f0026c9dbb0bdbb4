-- Parts of the sets with which literals, expressions and statements begin.
use Rattle.std.specs.Prelude.{[], ◌∷◌, ◌++◌, codes}
use Rattle.sw_grammar_forms.specs.Sets.{Set, integer, one_of}
use Rattle.sw_grammar.specs.Tokens.{value_word, prefix_ops}

abbrev pub booleans : Set
booleans = one_of (codes "true" ∷ codes "false" ∷ [])

-- words that name values, integer literals and operators before an operand
abbrev pub operand_begin : Set
operand_begin = value_word ++ (integer ++ prefix_ops)

-- what else an expression begins with
abbrev pub expr_words : Set
expr_words =
    one_of (codes "await" ∷ codes "true" ∷ codes "false" ∷ codes "self" ∷ codes "Task"
    ∷ codes "(" ∷ codes "{" ∷ [])

-- what else a statement begins with
abbrev pub stmt_words : Set
stmt_words =
    one_of (codes "await" ∷ codes "true" ∷ codes "false" ∷ codes "self" ∷ codes "Task"
    ∷ codes "let" ∷ codes "var" ∷ codes "_" ∷ codes "if" ∷ codes "while" ∷ codes "switch"
    ∷ codes "return" ∷ codes "break" ∷ codes "continue" ∷ [])
