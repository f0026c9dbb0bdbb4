-- Expressions. Where closures stand outside brackets is said by `closures`: not in a condition.
use Rattle.std.specs.Prelude.{ℕ, suc, Bool, true, false, Option, Some, None, List, [], ◌∷◌, ◌++◌}
use Rattle.std.specs.Prelude.{codes}
use Rattle.sw_grammar_forms.specs.Sets.{Set, quoted, word, not_first}
use Rattle.sw_grammar_forms.specs.Form.{Shape, solid}
use Rattle.sw_grammar_forms.specs.Form.Form.{done, terminal, either, when, nest, turns, shaped}
use Rattle.sw_grammar_forms.specs.Terminals.{◌>>=◌, expect, literal}
use Rattle.sw_grammar_forms.specs.Quotes.{quote, quote_on_line}
use Rattle.sw_tree.specs.declared.name.Name.{Name}
use Rattle.sw_tree.specs.declared.operator.InfixOp.{InfixOp}
use Rattle.sw_tree.specs.declared.expr.Expr.{Expr}
use Rattle.sw_tree.specs.declared.expr.Expr.TheVariants as exprs
use Rattle.sw_tree.specs.declared.expr.Arg.{Arg, roll-Arg}
use Rattle.sw_tree.specs.declared.expr.Link.{Link as Operand, roll-Link}
use Rattle.sw_tree.specs.declared.expr.Closure.{Closure, roll-Closure}
use Rattle.sw_tree.specs.declared.stmt.Block.{roll-Block}
use Rattle.sw_sugar.specs.Tasks.{of_task}
use Rattle.sw_grammar.specs.Around.{Around, task_ids}
use Rattle.sw_grammar.specs.Tokens.{value_word, literal_first, expr_first, expr_ext, postfix_ext}
use Rattle.sw_grammar.specs.Tokens.{times, plus, compares, infix_op, prefix_ops, infix_in, a_prefix}
use Rattle.sw_grammar.specs.Tokens.{name_in}
use Rattle.sw_grammar.specs.Nests.{in_round, in_args, in_member, in_empty, in_closure, in_task}
use Rattle.sw_grammar.specs.Nests.{shape_of, Form, ClosureInside, Link}
use Rattle.sw_grammar.specs.Types.{list_of}

-- the shape that a rule claims, where no tokens may be a spelling and are the short one, by the
-- tokens that may begin a spelling and those with which it may go on
abbrev pub loose : Set → Set → Shape
loose first ext = record {
  nullable = true;
  first = first;
  ext = ext;
  ok = true;
  bare = true;
  height = 0;
  begins_line = true;
  stays_on_line = true;
}

-- an expression with members after it
abbrev pub with_members : Expr → List Link → Expr
with_members base [] = base
with_members base ((name, None) ∷ links) = with_members (exprs.Member base name) links
with_members base ((name, Some args) ∷ links) = with_members (exprs.Method base name args) links

-- a chain, where there is an operator
abbrev pub chained : Expr → List Operand → Expr
chained first [] = first
chained first (link ∷ links) = exprs.Chain first (link ∷ links)

abbrev pub linked : InfixOp × ℕ → Expr → Operand
linked op operand = roll-Link (record { op = op.0; at = op.1; operand = operand })

-- a closure from its `{` and what it has beside it
abbrev pub closure_at : ℕ → ClosureInside → Closure
closure_at at inside = roll-Closure (record {
  at = at;
  mark = inside.mark;
  captures = inside.captures;
  params = inside.params;
  result = inside.result;
  body = roll-Block (record { stmts = inside.body });
})

abbrev pub argument : Option Name → Expr → Arg
argument label value = roll-Arg (record { label = label; value = value })

abbrev pub other_first : Set
other_first = literal_first ++ quoted (codes "self") ++ quoted (codes "(") ++ quoted (codes "{")

abbrev pub postfix_first : Set
postfix_first = value_word ++ quoted (codes "Task") ++ other_first

abbrev pub product_ext : Set
product_ext = postfix_ext ++ times

abbrev pub sum_ext : Set
sum_ext = product_ext ++ plus

abbrev pub compare_ext : Set
compare_ext = sum_ext ++ compares

abbrev pub and_ext : Set
and_ext = compare_ext ++ infix_op (codes "&&")

abbrev pub operand_first : Set
operand_first = prefix_ops ++ postfix_first

abbrev pub operators : Set
operators = times ++ plus ++ compares ++ infix_op (codes "&&") ++ infix_op (codes "||")

module _ (around : Around) where
  -- "." Word [args] {"." Word [args]}
  unfoldable pub members : Form (loose (quoted (codes ".")) postfix_ext) (List Link)
  members = shaped _ (either (do
    links ← nest (quote (codes ".")) (in_member around.here)
    done links.1) (done []))

  -- args, where they come
  unfoldable pub call : Form
      (loose (not_first (quoted (codes "("))) (not_first (quoted (codes "(")))) (Option (List Arg))
  call = shaped _ (either (do
    args ← nest (quote_on_line (codes "(")) (in_args around.here)
    done (Some args.1)) (done None))

  -- Word [args] {"." Word [args]}, after the first "."
  unfoldable pub member : Form (shape_of (in_member around.here)) (List Link)
  member = shaped _ (do
    name ← terminal (name_in around word (codes "print"))
    args ← call
    links ← members
    done ((name, args) ∷ links))

  abbrev called : Name → Option (List Arg) → Expr
  called name None = exprs.Use name
  called name (Some args) = exprs.Call name args

  -- what may follow a word that begins a primary: its arguments, and members
  unfoldable pub after_word : Name → Form (loose postfix_ext postfix_ext) Expr
  after_word name = shaped _ (do
    args ← call
    links ← members
    done (with_members (called name args) links))

  unfoldable pub after_operand : Expr → Form (loose (quoted (codes ".")) postfix_ext) Expr
  after_operand base = shaped _ (do
    links ← members
    done (with_members base links))

  -- Int | "true" | "false"
  unfoldable pub a_literal : Form (solid literal_first [] 0) Expr
  a_literal = shaped _ (either (do
    value ← literal
    done (exprs.Int value.0 value.1)) (either (do
      at ← expect (codes "true")
      done (exprs.Bool at true)) (do
        at ← expect (codes "false")
        done (exprs.Bool at false))))

  -- after "Task" ".": "detached" tclosure | "yield" "(" ")"
  unfoldable pub after_task_dot : Bool → ℕ
      → Form (solid (quoted (codes "detached") ++ quoted (codes "yield")) [] 1) Expr
  after_task_dot closures at = shaped _ (when closures (do
    _ ← expect (codes "detached")
    body ← nest (quote (codes "{")) (in_task around.here)
    done (exprs.Spawn at true (closure_at body.0 body.1))) (do
      _ ← expect (codes "yield")
      _ ← nest (quote (codes "(")) in_empty
      done (exprs.Yield at)))

  -- after "Task": tclosure | "." "detached" tclosure | "." "yield" "(" ")"
  unfoldable pub after_task : Bool → ℕ
      → Form (solid (quoted (codes "{") ++ quoted (codes ".")) [] 1) Expr
  after_task closures at = shaped _ (when closures (do
    body ← nest (quote (codes "{")) (in_task around.here)
    done (exprs.Spawn at false (closure_at body.0 body.1))) (do
      _ ← expect (codes ".")
      after_task_dot closures at))

  -- "(" expr ")"
  unfoldable pub bracketed : Form (solid (quoted (codes "(")) [] 1) Expr
  bracketed = shaped _ (do
    inner ← nest (quote (codes "(")) (in_round around.here)
    done inner.1)

  unfoldable pub me : Form (solid (quoted (codes "self")) [] 0) Expr
  me = shaped _ (do
    at ← expect (codes "self")
    done (exprs.Me at))

  unfoldable pub closure : Form (solid (quoted (codes "{")) [] 1) Expr
  closure = shaped _ (do
    inside ← nest (quote (codes "{")) (in_closure around.here)
    done (exprs.Fun (closure_at inside.0 inside.1)))

  -- a primary that begins with neither a word nor "Task"
  unfoldable pub other_primary : Bool → Form (solid other_first [] 0) Expr
  other_primary closures = shaped _ (when closures closure (either a_literal (either me bracketed)))

  -- primary { "." Word [args] }
  unfoldable pub postfix : Bool → Form (solid postfix_first postfix_ext 0) Expr
  postfix closures = shaped _ (either (do
    name ← terminal (name_in around value_word (codes "print"))
    after_word name) (do
      base ← either (expect (codes "Task") >>= after_task closures) (other_primary closures)
      after_operand base))

  -- a prefix operator and its operand
  unfoldable pub negated : Bool → Form (solid prefix_ops postfix_ext 0) Expr
  negated closures = shaped _ (do
    op ← terminal a_prefix
    operand ← postfix closures
    done (exprs.Prefix op.0 op.1 operand))

  -- ["!"|"-"] postfix
  unfoldable pub unary : Bool → Form (solid (prefix_ops ++ postfix_first) postfix_ext 0) Expr
  unary closures = shaped _ (either (negated closures) (postfix closures))

  -- {("*"|"/"|"%") unary}, after the first operand
  unfoldable pub more_times : Bool → Expr → Form (loose times product_ext) Expr
  more_times closures first = shaped _ (do
    links ← turns (λ _. true) [] (λ links. do
      op ← terminal (infix_in times (codes "*"))
      operand ← unary closures
      done (links ++ linked op operand ∷ []))
    done (chained first links))

  unfoldable pub product : Bool → Form (solid operand_first product_ext 0) Expr
  product closures = shaped _ (unary closures >>= more_times closures)

  -- {("+"|"-") prod}
  unfoldable pub more_plus : Bool → Expr → Form (loose plus sum_ext) Expr
  more_plus closures first = shaped _ (do
    links ← turns (λ _. true) [] (λ links. do
      op ← terminal (infix_in plus (codes "+"))
      operand ← product closures
      done (links ++ linked op operand ∷ []))
    done (chained first links))

  unfoldable pub sum : Bool → Form (solid operand_first sum_ext 0) Expr
  sum closures = shaped _ (product closures >>= more_plus closures)

  -- [("=="|"!="|"<"|"<="|">"|">=") sum]
  unfoldable pub more_compares : Bool → Expr → Form (loose compares compare_ext) Expr
  more_compares closures first = shaped _ (either (do
    op ← terminal (infix_in compares (codes "=="))
    operand ← sum closures
    done (chained first (linked op operand ∷ []))) (done first))

  unfoldable pub comparison : Bool → Form (solid operand_first compare_ext 0) Expr
  comparison closures = shaped _ (sum closures >>= more_compares closures)

  -- {"&&" cmp}
  unfoldable pub more_and : Bool → Expr → Form (loose (infix_op (codes "&&")) and_ext) Expr
  more_and closures first = shaped _ (do
    links ← turns (λ _. true) [] (λ links. do
      op ← terminal (infix_in (infix_op (codes "&&")) (codes "&&"))
      operand ← comparison closures
      done (links ++ linked op operand ∷ []))
    done (chained first links))

  unfoldable pub conjunction : Bool → Form (solid operand_first and_ext 0) Expr
  conjunction closures = shaped _ (comparison closures >>= more_and closures)

  -- {"||" and}
  unfoldable pub more_or : Bool → Expr → Form (loose (infix_op (codes "||")) expr_ext) Expr
  more_or closures first = shaped _ (do
    links ← turns (λ _. true) [] (λ links. do
      op ← terminal (infix_in (infix_op (codes "||")) (codes "||"))
      operand ← conjunction closures
      done (links ++ linked op operand ∷ []))
    done (chained first links))

  -- the operators and operands after the first operand
  unfoldable pub more_operands : Bool → Expr → Form (loose operators expr_ext) Expr
  more_operands closures first = shaped _ (do
    product ← more_times closures first
    sum ← more_plus closures product
    comparison ← more_compares closures sum
    conjunction ← more_and closures comparison
    more_or closures conjunction)

  -- "await" or. Of a word that stands for a task it awaits the task's value.
  unfoldable pub awaited : Bool → Form (solid (quoted (codes "await")) expr_ext 0) Expr
  awaited closures = shaped _ (do
    at ← expect (codes "await")
    first ← unary closures
    inner ← more_operands closures first
    done (exprs.Await at (of_task (task_ids around) (suc at) inner)))

  -- ["await"] or
  unfoldable pub expr : Bool → Form (solid expr_first expr_ext 0) Expr
  expr closures = shaped _ (either (awaited closures) (unary closures >>= more_operands closures))

  -- an expression that begins with neither a word nor "Task"
  unfoldable pub other_expr : Form
      (solid (quoted (codes "await") ++ prefix_ops ++ other_first) expr_ext 0) Expr
  other_expr = shaped _ (either (awaited true) (do
    first ← either (negated true) (other_primary true >>= after_operand)
    more_operands true first))

  -- ":" expr
  unfoldable pub labelled : Name → Form (solid (quoted (codes ":")) expr_ext 0) Arg
  labelled label = shaped _ (do
    _ ← expect (codes ":")
    value ← expr true
    done (argument (Some label) value))

  -- [Word ":"] expr
  unfoldable pub arg : Form (solid expr_first (expr_ext ++ quoted (codes ":")) 0) Arg
  arg = shaped _ (either (do
    name ← terminal (name_in around value_word (codes "print"))
    either (labelled name) (do
      first ← after_word name
      value ← more_operands true first
      done (argument None value))) (either (do
        name ← terminal (name_in around (quoted (codes "Task")) (codes "Task"))
        either (labelled name) (do
          base ← after_task true name.at
          first ← after_operand base
          value ← more_operands true first
          done (argument None value))) (do
            value ← other_expr
            done (argument None value))))

  -- arg {"," arg} ")", or ")"
  unfoldable pub args : Form (shape_of (in_args around.here)) (List Arg)
  args = shaped _ (list_of around (codes ")") arg)

  -- expr ")"
  unfoldable pub round : Form (shape_of (in_round around.here)) Expr
  round = shaped _ (do
    inner ← expr true
    _ ← expect (codes ")")
    done inner)

  -- ")"
  unfoldable pub nothing : Form (shape_of in_empty) ℕ
  nothing = shaped _ (do
    at ← expect (codes ")")
    done at)
