-- What closures and tasks have before their statements, as the code keeps it, and the parts of its
-- rules that are functions of their own.
use Rattle.std.specs.Prelude.{ℕ, Option, Some, None, List, [], ◌++◌, codes}
use Rattle.sw_grammar_forms.specs.Sets.{quoted}
use Rattle.sw_grammar_forms.specs.Form.{Shape, solid, one, seq, empty}
use Rattle.sw_grammar_forms.specs.Form.Form.{done, terminal}
use Rattle.sw_grammar_forms.specs.Quotes.{quote}
use Rattle.sw_grammar_forms.specs.Reader.{Reader}
use Rattle.sw_grammar_forms.specs.Terminals.{◌>>=◌, expect}
use Rattle.sw_tree.specs.declared.expr.Closure.{Closure, roll-Closure}
use Rattle.sw_tree.specs.declared.stmt.Stmt.{Stmt}
use Rattle.sw_tree.specs.declared.stmt.Block.{roll-Block}
use Rattle.sw_grammar.specs.Around.{Around, returning}
use Rattle.sw_grammar.specs.Nests.{Form}
use Rattle.sw_grammar.specs.Tokens.{at_word, at_in}
use Rattle.sw_grammar.specs.Types.{Typed, tree_of, wanted_of}
use Rattle.sw_grammar.specs.Stmts.{statements}
use Rattle.sw_grammar.specs.Reading.{read}
use Rattle.sw_grammar.specs.Exprs.{loose}
use Rattle.sw_grammar.specs.Closures as closures
use Rattle.sw_grammar.specs.Closures.{header_of, captures, captures_if, signature, signature_if}
use Rattle.sw_grammar.specs.Closures.{task_signature, task_signature_if, signature_ext}
use Rattle.sw_parse_expr.specs.declared.closures.Header.{Header}

-- what a closure has before its statements, as the code keeps it
abbrev pub header_value : closures.Header → Header
header_value header = record {
  mark = header.mark;
  captures = header.captures;
  params = header.params;
  result = header.result;
}

-- a closure with these statements
abbrev pub closure_of : ℕ → Header → List Stmt → Closure
closure_of at header body = roll-Closure (record {
  at = at;
  mark = header.mark;
  captures = header.captures;
  params = header.params;
  result = tree_of header.result;
  body = roll-Block (record { stmts = body });
})

-- reads the statements of a body with this result type, up to their `}`
abbrev pub result_stmts : Around → ℕ → Option Typed → Reader (List Stmt)
result_stmts around depth result =
    read around depth (statements (returning around (wanted_of result)))

abbrev captures_shape : Shape
captures_shape = loose (quoted (codes "[")) (quoted (codes "["))

abbrev list_shape : Shape
list_shape = solid (quoted (codes "[")) [] 1

abbrev signature_shape : Shape
signature_shape = loose (quoted (codes "(")) (quoted (codes "(") ++ signature_ext)

abbrev brackets_shape : Shape
brackets_shape =
    loose (quoted (codes "(")) (quoted (codes "(") ++ quoted (codes "async") ++ signature_ext)

-- `in`, and nothing after it
abbrev in_shape : Shape
in_shape = seq (one (quote (codes "in"))) empty

-- a closure's header that begins with `@Sendable`
abbrev pub marked_header : (around : Around)
    → Form (seq (one (at_in around (quoted (codes "@Sendable")) (codes "@Sendable")))
    (seq captures_shape (seq signature_shape in_shape))) closures.Header
marked_header around = do
  mark ← terminal (at_in around (quoted (codes "@Sendable")) (codes "@Sendable"))
  words ← captures_if around
  written ← signature_if around
  _ ← expect (codes "in")
  done (header_of (Some mark) words written)

-- a closure's header that begins with a capture list
abbrev pub captured_header : Around
    → Form (seq list_shape (seq signature_shape in_shape)) closures.Header
captured_header around = do
  words ← captures around
  written ← signature_if around
  _ ← expect (codes "in")
  done (header_of None words written)

-- a closure's header that begins with its parameters
abbrev pub signed_header : Around
    → Form (seq (solid (quoted (codes "(")) signature_ext 1) in_shape) closures.Header
signed_header around = do
  written ← signature around
  _ ← expect (codes "in")
  done (header_of None [] written)

-- a task's header that begins with an attribute
abbrev pub marked_task_header : (around : Around)
    → Form (seq (one (at_in around at_word (codes "@Sendable")))
    (seq captures_shape (seq brackets_shape in_shape))) closures.Header
marked_task_header around = do
  mark ← terminal (at_in around at_word (codes "@Sendable"))
  words ← captures_if around
  written ← task_signature_if around
  _ ← expect (codes "in")
  done (header_of (Some mark) words written)

-- a task's header that begins with a capture list
abbrev pub captured_task_header : Around
    → Form (seq list_shape (seq brackets_shape in_shape)) closures.Header
captured_task_header around = do
  words ← captures around
  written ← task_signature_if around
  _ ← expect (codes "in")
  done (header_of None words written)

-- a task's header that begins with its brackets
abbrev pub signed_task_header : Around
    → Form (seq (solid (quoted (codes "(")) (quoted (codes "async") ++ signature_ext) 1) in_shape)
    closures.Header
signed_task_header around = do
  written ← task_signature around
  _ ← expect (codes "in")
  done (header_of None [] written)
