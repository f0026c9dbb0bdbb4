-- Values in places where they may be optionals: how the code stores them, and the parts of their
-- rules that are functions of their own.
use Rattle.std.specs.Prelude.{ℕ, Bool, true, [], ◌++◌, codes, refl}
use Rattle.std.specs.Coded.{Coded, code_by, coded×, coded_bool}
use Rattle.sw_grammar_forms.specs.Sets.{quoted}
use Rattle.sw_grammar_forms.specs.Form.{Shape, one, seq, empty, solid}
use Rattle.sw_grammar_forms.specs.Form.Form.{done, terminal}
use Rattle.sw_grammar_forms.specs.Quotes.{quote}
use Rattle.sw_grammar_forms.specs.Terminals.{◌>>=◌, expect}
use Rattle.sw_tree.specs.declared.expr.Expr.{Expr}
use Rattle.sw_sugar.specs.Optionals.{use_at}
use Rattle.sw_grammar.specs.Around.{Around}
use Rattle.sw_grammar.specs.Nests.{Form}
use Rattle.sw_grammar.specs.Tokens.{name_in, plain_word, postfix_ext, expr_ext}
use Rattle.sw_grammar.specs.Exprs.{loose, operators, after_word, after_operand, after_task}
use Rattle.sw_grammar.specs.Exprs.{more_operands}
use Rattle.sw_grammar.specs.Values.{Given, plain}

-- a value is stored as the pair of its tree and of whether it is an expression as any other
abbrev pub given_code : Coded Expr → Coded Given
given_code expr =
    code_by (Expr × Bool) (coded× expr coded_bool) (λ given. (given.value, given.is_plain))
    (λ pair. record { value = pair.0; is_plain = pair.1 }) (λ _. refl)

abbrev rest_shape : Shape
rest_shape = loose operators expr_ext

-- a value that begins with a word
abbrev pub word_value : (around : Around)
    → Form (seq (one (name_in around plain_word (codes "print")))
    (seq (loose postfix_ext postfix_ext) (seq rest_shape empty))) Given
word_value around = do
  name ← terminal (name_in around plain_word (codes "print"))
  first ← after_word around name
  whole ← more_operands around true first
  done (plain whole)

-- a value that begins with `Task`
abbrev pub task_value : Around → Form (seq (one (quote (codes "Task")))
    (seq (solid (quoted (codes "{") ++ quoted (codes ".")) [] 1)
    (seq (loose (quoted (codes ".")) postfix_ext) (seq rest_shape empty)))) Given
task_value around = do
  at ← expect (codes "Task")
  base ← after_task around true at
  first ← after_operand around base
  whole ← more_operands around true first
  done (plain whole)

-- what else may come after `Optional`, which then is a word as any other
abbrev pub use_value : Around → ℕ
    → Form (seq (loose (quoted (codes ".")) postfix_ext) (seq rest_shape empty)) Given
use_value around at = do
  first ← after_operand around (use_at at (around.id_of (codes "Optional")))
  whole ← more_operands around true first
  done (plain whole)
