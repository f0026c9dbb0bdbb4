-- Parts of the rules of expressions that are functions of their own.
use Rattle.std.specs.Prelude.{ℕ, Bool, true, Some, None, List, [], ◌∷◌, ◌++◌, codes}
use Rattle.sw_grammar_forms.specs.Sets.{quoted, word}
use Rattle.sw_grammar_forms.specs.Form.{Shape, Terminal, solid, alt, one, seq, star, empty}
use Rattle.sw_grammar_forms.specs.Form.Form.{done, terminal, either, turns}
use Rattle.sw_grammar_forms.specs.Quotes.{quote}
use Rattle.sw_grammar_forms.specs.Reader.{Reader, then_read, pure, next}
use Rattle.sw_grammar_forms.specs.Terminals.{◌>>=◌, expect}
use Rattle.sw_tree.specs.declared.name.Name.{Name}
use Rattle.sw_tree.specs.declared.operator.InfixOp.{InfixOp}
use Rattle.sw_tree.specs.declared.expr.Expr.{Expr}
use Rattle.sw_tree.specs.declared.expr.Expr.TheVariants as exprs
use Rattle.sw_tree.specs.declared.expr.Arg.{Arg}
use Rattle.sw_tree.specs.declared.expr.Link.{Link as Operand}
use Rattle.sw_grammar.specs.Around.{Around}
use Rattle.sw_grammar.specs.Nests.{Form, Link}
use Rattle.sw_grammar.specs.Tokens.{name_in, prefix_ops, postfix_ext, expr_ext}
use Rattle.sw_grammar.specs.Exprs.{loose, argument, linked, labelled, after_word, after_operand}
use Rattle.sw_grammar.specs.Exprs.{after_task, more_operands, call, negated, other_primary}
use Rattle.sw_grammar.specs.Exprs.{operators, other_first}
use Rattle.sw_grammar.specs.Reading.{read}

-- an expression with one member after it
abbrev pub with_member : Expr → Link → Expr
with_member base (name, None) = exprs.Member base name
with_member base (name, Some args) = exprs.Method base name args

-- reads a member after its `.`: a word, and its arguments where they come
abbrev pub one_member : Around → ℕ → Reader Link
one_member around depth =
    then_read (next (name_in around word (codes "print")))
    (λ name. then_read (read around depth (call around)) (λ args. pure (name, args)))

-- reads an operator and its right operand
abbrev pub link_with : Terminal (InfixOp × ℕ) → Reader Expr → Reader Operand
link_with t operand =
    then_read (next t) (λ op. then_read operand (λ value. pure (linked op value)))

-- operators with their right operands, after those read so far
abbrev pub links_after : {s : Shape} → List Operand → (t : Terminal (InfixOp × ℕ)) → Form s Expr
    → Form (star (seq (one t) (seq s empty))) (List Operand)
links_after links t item = turns (λ _. true) links (λ so_far. do
  op ← terminal t
  operand ← item
  done (so_far ++ linked op operand ∷ []))

abbrev rest_shape : Shape
rest_shape = loose operators expr_ext

abbrev label_shape : Shape
label_shape = solid (quoted (codes ":")) expr_ext 0

-- an argument after the word that begins it
abbrev pub word_arg : Around → Name
    → Form (alt label_shape (seq (loose postfix_ext postfix_ext) (seq rest_shape empty))) Arg
word_arg around name = either (labelled around name) (do
  first ← after_word around name
  value ← more_operands around true first
  done (argument None value))

-- an argument after the `Task` that begins it
abbrev pub task_arg : Around → Name
    → Form (alt label_shape (seq (solid (quoted (codes "{") ++ quoted (codes ".")) [] 1)
    (seq (loose (quoted (codes ".")) postfix_ext) (seq rest_shape empty)))) Arg
task_arg around name = either (labelled around name) (do
  base ← after_task around true name.at
  first ← after_operand around base
  value ← more_operands around true first
  done (argument None value))

-- a primary that begins with no word that names a value
abbrev pub no_word : Around → Bool
    → Form (alt (seq (one (quote (codes "Task")))
    (solid (quoted (codes "{") ++ quoted (codes ".")) [] 1)) (solid other_first [] 0)) Expr
no_word around closures =
    either (expect (codes "Task") >>= after_task around closures) (other_primary around closures)

-- an operand that begins with neither a word nor `Task`
abbrev pub other_operand : Around
    → Form (alt (solid prefix_ops postfix_ext 0)
    (seq (solid other_first [] 0) (loose (quoted (codes ".")) postfix_ext))) Expr
other_operand around =
    either (negated around true) (other_primary around true >>= after_operand around)
