-- Statements.
use Rattle.std.specs.Prelude.{ℕ, suc, Bool, true, false, not, Option, Some, None, List, [], ◌∷◌, ◌++◌}
use Rattle.std.specs.Prelude.{flat_map, codes}
use Rattle.sw_grammar_forms.specs.Sets.{Set, quoted, one_of, word, not_first}
use Rattle.sw_grammar_forms.specs.Form.{solid}
use Rattle.sw_grammar_forms.specs.Form.Form.{done, terminal, either, when, nest, turns, until}
use Rattle.sw_grammar_forms.specs.Form.Form.{line_start, same_line, more_items, some_items, shaped}
use Rattle.sw_grammar_forms.specs.Terminals.{◌>>=◌, expect, skip, items}
use Rattle.sw_grammar_forms.specs.Quotes.{quote}
use Rattle.sw_tree.specs.Place.{is_place}
use Rattle.sw_tree.specs.declared.name.Name.{Name}
use Rattle.sw_tree.specs.declared.type_tree.TypeTree.{TypeTree}
use Rattle.sw_tree.specs.declared.expr.Expr.{Expr}
use Rattle.sw_tree.specs.declared.expr.Expr.TheVariants as exprs
use Rattle.sw_tree.specs.declared.stmt.Stmt.{Stmt}
use Rattle.sw_tree.specs.declared.stmt.Stmt.TheVariants as stmts
use Rattle.sw_tree.specs.declared.stmt.Block.{Block, roll-Block}
use Rattle.sw_tree.specs.declared.stmt.IfArm.{IfArm, roll-IfArm}
use Rattle.sw_tree.specs.declared.stmt.CaseArm.{CaseArm, roll-CaseArm}
use Rattle.sw_tree.specs.declared.stmt.Pattern.{Pattern}
use Rattle.sw_tree.specs.declared.stmt.Pattern.TheVariants as patterns
use Rattle.sw_sugar.specs.AsyncLet.{task_bind}
use Rattle.sw_sugar.specs.Calls.{or_literal_form}
use Rattle.sw_sugar.specs.Optionals.{if_let_tree, or_literal_stmts}
use Rattle.sw_sugar.specs.Tasks.{of_task}
use Rattle.sw_grammar.specs.Around.{Around, after_tasks, returning, task_ids, with_break}
use Rattle.sw_grammar.specs.Around.{without_break}
use Rattle.sw_grammar.specs.Tokens.{value_word, type_ext, plain_first, expr_first, expr_ext}
use Rattle.sw_grammar.specs.Tokens.{value_first, value_ext, bind_ext, stmt_first, stmt_ext, item_first}
use Rattle.sw_grammar.specs.Tokens.{assign_ops, an_assignment, an_equals, infix_op, binding_first}
use Rattle.sw_grammar.specs.Tokens.{name_in}
use Rattle.sw_grammar.specs.Nests.{in_block, in_switch, in_if_let, in_patterns, in_closure, in_task}
use Rattle.sw_grammar.specs.Nests.{shape_of, Form, ClosureInside, IfLet}
use Rattle.sw_grammar.specs.Types.{Typed, wanted_of, written_type, some_of}
use Rattle.sw_grammar.specs.Words.{DeclaredWord, new_name, new_word}
use Rattle.sw_grammar.specs.Exprs.{loose, operators, after_word, after_operand, after_task}
use Rattle.sw_grammar.specs.Exprs.{a_literal, negated, more_operands, awaited, expr}
use Rattle.sw_grammar.specs.Values.{value_in}
use Rattle.sw_grammar.specs.Closures.{header, task_header, inside_of}

-- what several statements of the text stand for, in order
abbrev pub joined : List (List Stmt) → List Stmt
joined parts = flat_map (λ part. part) parts

abbrev pub block_of : List Stmt → Block
block_of body = roll-Block (record { stmts = body })

abbrev pub if_arm : ℕ → Expr → Block → IfArm
if_arm at cond body = roll-IfArm (record { at = at; cond = cond; body = body })

abbrev pub case_arm : Name → List Pattern → List Stmt → CaseArm
case_arm name patterns body =
    roll-CaseArm (record { name = name; patterns = patterns; body = block_of body })

-- a statement that begins with neither `let` nor `var`
abbrev pub other_stmt_first : Set
other_stmt_first =
    plain_first ++ quoted (codes "self") ++ quoted (codes "Task") ++ value_word
    ++ one_of (codes "_" ∷ codes "if" ∷ codes "while" ∷ codes "switch" ∷ codes "return"
    ∷ codes "break" ∷ codes "continue" ∷ [])

-- statements, where they could end
abbrev pub items_ext : Set
items_ext = stmt_ext ++ quoted (codes ";") ++ stmt_first

abbrev pub arm_ext : Set
arm_ext = items_ext ++ quoted (codes "async")

-- what comes after the arms of an `if` that are read
pub data Next : Type 0 where
  -- another arm, after the `if` at this place
  arm_at : ℕ → Next
  no_more : Next
  -- the block after the last `else`
  other_block : Block → Next
  -- an arm with `let`, and all after it
  last_stmt : Stmt → Next

-- the arms read so far
pub record Arms : Type 0 where
  pub arms : List IfArm
  pub next : Next

abbrev pub is_arm : Next → Bool
is_arm (arm_at at) = true
is_arm no_more = false
is_arm (other_block body) = false
is_arm (last_stmt rest) = false

abbrev pub has_next : Arms → Bool
has_next arms = is_arm arms.next

abbrev pub place_of : Next → ℕ
place_of (arm_at at) = at
place_of no_more = 0
place_of (other_block body) = 0
place_of (last_stmt rest) = 0

-- an `if` of these arms; one that begins with `let` is that statement
abbrev pub if_with : List IfArm → Next → Stmt
if_with [] (last_stmt rest) = rest
if_with (arm ∷ arms) (last_stmt rest) = stmts.If (arm ∷ arms) (Some (block_of (rest ∷ [])))
if_with arms (arm_at at) = stmts.If arms None
if_with arms no_more = stmts.If arms None
if_with arms (other_block body) = stmts.If arms (Some body)

abbrev pub if_of : Arms → Stmt
if_of arms = if_with arms.arms arms.next

-- `let` or `var` and its word
pub record Binding : Type 0 where
  pub mutable : Bool
  pub let_at : ℕ
  pub word : DeclaredWord

-- what comes in place of an optional that has no value
pub record Or : Type 0 where
  pub op_at : ℕ
  pub other : Expr

-- What is read of a block: its statements so far, whether a `;` ends the last, and the words of the
-- `async let`s that what comes next stands after.
pub record Body : Type 0 where
  pub stmts : List Stmt
  pub ended : Bool
  pub tasks : List (List ℕ)

-- the variable of an `async let`, and the text of its word
pub record Task : Type 0 where
  pub stmt : Stmt
  pub text : List ℕ

-- the arms read so far, and whether a `;` ends the last statement
abbrev pub Cases : Type 0
Cases = List CaseArm × Bool

module _ (around : Around) where
  -- the statements of a variable with a type
  abbrev pub bound : Binding → ℕ → TypeTree → ℕ → Expr → Option Or → List Stmt
  bound binding colon_at ty eq_at value None =
      stmts.Bind binding.mutable binding.word.name (Some ty) value ∷ []
  bound binding colon_at ty eq_at value (Some or) =
      or_literal_stmts (or_literal_form around.id_of binding.word.text binding.mutable
      binding.word.name binding.let_at colon_at eq_at or.op_at) ty value or.other

  -- `if let` at these places of `if` and `let`
  abbrev pub if_let_of : ℕ → ℕ → IfLet → Stmt
  if_let_of at let_at inside =
      if_let_tree (around.id_of (codes "some")) at let_at inside.name inside.subject inside.chosen
      inside.otherwise

  -- "{" { stmt } "}"
  unfoldable pub block : Form (solid (quoted (codes "{")) [] 1) Block
  block = shaped _ (do
    body ← nest (quote (codes "{")) (in_block around.here)
    done (block_of body.1))

  -- "=" expr
  unfoldable pub value : Form (solid (infix_op (codes "=")) expr_ext 0) Expr
  value = shaped _ (do
    _ ← terminal an_equals
    given ← expr around true
    done given)

  -- [":" type]
  unfoldable pub type_if : Form (loose (quoted (codes ":")) (quoted (codes ":") ++ type_ext))
      (Option Typed)
  type_if = shaped _ (either (do
    _ ← expect (codes ":")
    written ← written_type around
    done (Some written)) (done None))

  -- "??" and a literal, where they come after an expression
  unfoldable pub literal_if : Bool
      → Form (loose (quoted (codes "??")) (quoted (codes "??"))) (Option Or)
  literal_if is_plain = shaped _ (when is_plain (do
    op_at ← expect (codes "??")
    other ← a_literal around
    done (Some (record { op_at = op_at; other = other }))) (done None))

  -- "=" value ["??" literal], after "let" or "var", the word and its type
  unfoldable pub typed_binding : Binding → ℕ → Typed
      → Form (solid (infix_op (codes "=")) bind_ext 0) (List Stmt)
  typed_binding binding colon_at written = shaped _ (do
    eq_at ← terminal an_equals
    given ← value_in around written.wanted
    or ← literal_if given.is_plain
    done (bound binding colon_at written.tree eq_at given.value or))

  -- ":" type "=" value ["??" literal] | "=" expr, after "let" or "var" and the word
  unfoldable pub after_binding : Binding
      → Form (solid (quoted (codes ":") ++ infix_op (codes "=")) bind_ext 0) (List Stmt)
  after_binding binding = shaped _ (either (do
    colon_at ← expect (codes ":")
    written ← written_type around
    typed_binding binding colon_at written) (do
      given ← value
      done (stmts.Bind binding.mutable binding.word.name None given ∷ [])))

  -- a word and what comes after it, after "let" or "var"
  unfoldable pub binding : Bool → ℕ → Form (solid word bind_ext 0) (List Stmt)
  binding mutable let_at = shaped _ (do
    word ← new_word around
    after_binding (record { mutable = mutable; let_at = let_at; word = word }))

  unfoldable pub bind : Form (solid binding_first bind_ext 0) (List Stmt)
  bind = shaped _ (either (expect (codes "let") >>= binding false)
      (expect (codes "var") >>= binding true))

  -- "_" "=" expr
  unfoldable pub discard : Form (solid (quoted (codes "_")) expr_ext 0) Stmt
  discard = shaped _ (do
    at ← expect (codes "_")
    given ← value
    done (stmts.Discard at given))

  -- after a place or what begins an expression: assign expr, or the rest of the expression
  unfoldable pub after_place : Expr
      → Form (loose (assign_ops ++ operators) (assign_ops ++ expr_ext)) Stmt
  after_place first = shaped _ (when (is_place first) (do
    op ← terminal an_assignment
    given ← expr around true
    done (stmts.Assign op.1 op.0 first given)) (do
      whole ← more_operands around true first
      done (stmts.Plain whole)))

  -- place assign expr | expr, where it begins with a word
  unfoldable pub word_stmt : Form (solid value_word (assign_ops ++ expr_ext) 0) Stmt
  word_stmt = shaped _ (do
    name ← terminal (name_in around value_word (codes "print"))
    first ← after_word around name
    after_place first)

  unfoldable pub self_stmt : Form (solid (quoted (codes "self")) (assign_ops ++ expr_ext) 0) Stmt
  self_stmt = shaped _ (do
    at ← expect (codes "self")
    first ← after_operand around (exprs.Me at)
    after_place first)

  -- an expression that begins with "Task"
  unfoldable pub task_stmt : Form (solid (quoted (codes "Task")) expr_ext 1) Stmt
  task_stmt = shaped _ (do
    at ← expect (codes "Task")
    base ← after_task around true at
    first ← after_operand around base
    whole ← more_operands around true first
    done (stmts.Plain whole))

  -- an expression that begins with a literal, a prefix operator or "await"
  unfoldable pub plain_stmt : Form (solid plain_first expr_ext 0) Stmt
  plain_stmt = shaped _ (do
    whole ← either (awaited around true) (do
      first ← either (negated around true) (a_literal around >>= after_operand around)
      more_operands around true first)
    done (stmts.Plain whole))

  -- "let" Word "=" cond block {..}, after "if"; all later arms are in the nest
  unfoldable pub if_let : ℕ → Form (solid (quoted (codes "let")) (quoted (codes "else")) 2) Stmt
  if_let at = shaped _ (do
    inside ← nest (quote (codes "let")) (in_if_let around.here)
    done (if_let_of at inside.0 inside.1))

  -- "else" "if" | "else" block | nothing, after an arm
  unfoldable pub after_arm : List IfArm
      → Form (loose (quoted (codes "else")) (quoted (codes "else"))) Arms
  after_arm arms = shaped _ (either (do
    _ ← expect (codes "else")
    either (do
      at ← expect (codes "if")
      done (record { arms = arms; next = arm_at at })) (do
        body ← block
        done (record { arms = arms; next = other_block body }))) (done (record {
          arms = arms;
          next = no_more;
        })))

  -- cond block, and what comes after it
  unfoldable pub next_arm : Arms → Form (solid expr_first (quoted (codes "else")) 1) Arms
  next_arm arms = shaped _ (do
    cond ← expr around false
    body ← block
    after_arm (arms.arms ++ if_arm (place_of arms.next) cond body ∷ []))

  -- "let" ..
  unfoldable pub last_arm : Arms
      → Form (solid (quoted (codes "let")) (quoted (codes "else")) 2) Arms
  last_arm arms = shaped _ (do
    rest ← if_let (place_of arms.next)
    done (record { arms = arms.arms; next = last_stmt rest }))

  -- "if" carm block {"else" "if" carm block} ["else" block]
  unfoldable pub if_stmt : Form (solid (quoted (codes "if")) (quoted (codes "else")) 2) Stmt
  if_stmt = shaped _ (do
    at ← expect (codes "if")
    arms ← until has_next (record { arms = []; next = arm_at at }) next_arm last_arm
    done (if_of arms))

  -- "while" cond block
  unfoldable pub while_stmt : Form (solid (quoted (codes "while")) [] 1) Stmt
  while_stmt = shaped _ (do
    at ← expect (codes "while")
    cond ← expr around false
    body ← nest (quote (codes "{")) (in_block (with_break around).here)
    done (stmts.While at cond (block_of body.1)))

  -- "switch" cond "{" .. "}"
  unfoldable pub switch_stmt : Form (solid (quoted (codes "switch")) [] 1) Stmt
  switch_stmt = shaped _ (do
    at ← expect (codes "switch")
    subject ← expr around false
    inside ← nest (quote (codes "{")) (in_switch (with_break around).here)
    done (stmts.Switch at subject inside.1.0 inside.1.1))

  -- "return" [value], where the value begins on the line of the "return"
  unfoldable pub return_stmt : Form
      (solid (quoted (codes "return")) (value_ext ++ not_first value_first) 0) Stmt
  return_stmt = shaped _ (do
    at ← expect (codes "return")
    either (do
      given ← same_line (value_in around around.here.wanted)
      done (stmts.Return at (Some given.value))) (done (stmts.Return at None)))

  -- "break"
  unfoldable pub break_stmt : Form (solid (quoted (codes "break")) [] 0) Stmt
  break_stmt = shaped _ (do
    at ← expect (codes "break")
    done (stmts.Break at))

  -- "continue"
  unfoldable pub continue_stmt : Form (solid (quoted (codes "continue")) [] 0) Stmt
  continue_stmt = shaped _ (do
    at ← expect (codes "continue")
    done (stmts.Continue at))

  -- a statement that isn't a variable
  unfoldable pub other_stmt : Form (solid other_stmt_first stmt_ext 0) Stmt
  other_stmt = shaped _
      (when (not around.here.no_break) break_stmt (either discard (either if_stmt
      (either while_stmt (either switch_stmt (either return_stmt (either continue_stmt
      (either word_stmt (either self_stmt (either task_stmt plain_stmt))))))))))

  -- a statement of the text, and the statements that it stands for
  unfoldable pub stmt : Form (solid stmt_first stmt_ext 0) (List Stmt)
  stmt = shaped _ (either bind (do
    other ← other_stmt
    done (other ∷ [])))

  -- "_" | "let" Word
  unfoldable pub pattern : Form (solid (one_of (codes "_" ∷ codes "let" ∷ [])) [] 0) Pattern
  pattern = shaped _ (either (do
    at ← expect (codes "_")
    done (patterns.Skip at)) (do
      _ ← expect (codes "let")
      name ← new_name around
      done (patterns.Let name)))

  -- pat {"," pat} ")"
  unfoldable pub patterns_inside : Form (shape_of (in_patterns around.here)) (List Pattern)
  patterns_inside = shaped _ (some_of around (codes ")") pattern)

  -- ["(" pat {"," pat} ")"]
  unfoldable pub patterns_if : Form (loose (quoted (codes "(")) (quoted (codes "("))) (List Pattern)
  patterns_if = shaped _ (either (do
    inside ← nest (quote (codes "(")) (in_patterns around.here)
    done inside.1) (done []))

-- Blocks. After an `async let` its word stands for a task.
module _ (around : Around) where
  -- the statements at the beginning of a block
  abbrev pub begun : List (List Stmt) × Bool → Body
  begun read = record { stmts = joined read.0; ended = read.1; tasks = around.here.tasks }

  -- the variable of an `async let`, with the places of `async` and `=`
  abbrev pub task_of : ℕ → Name → ℕ → Expr → Stmt
  task_of at name eq_at value =
      task_bind at name eq_at (of_task (task_ids around) (suc (suc at)) value)

  -- "async" "let" Word "=" expr
  unfoldable pub async_let : Form (solid (quoted (codes "async")) expr_ext 0) Task
  async_let = shaped _ (do
    at ← expect (codes "async")
    _ ← expect (codes "let")
    word ← new_word around
    eq_at ← terminal an_equals
    given ← expr around true
    done (record { stmt = task_of at word.name eq_at given; text = word.text }))

  -- the same [";"], and the statements after it
  unfoldable pub async_part : Form (solid (quoted (codes "async")) items_ext 0) Body
  async_part = shaped _ (do
    task ← async_let
    ended ← skip (codes ";")
    more ← more_items ([], ended) (stmt (after_tasks around (around.here.tasks ++ task.text ∷ [])))
    done (record {
      stmts = task.stmt ∷ joined more.0;
      ended = more.1;
      tasks = around.here.tasks ++ task.text ∷ [];
    }))

-- Each `async let` of a block stands after those before it.
module _ (around : Around) where
  -- any number of these, after the statements at the beginning
  unfoldable pub async_parts : Body → Form (loose (quoted (codes "async")) arm_ext) Body
  async_parts first = shaped _ (turns (λ _. true) first (λ body. do
    part ← line_start (not body.ended) (async_part (after_tasks around body.tasks))
    done (record part { stmts = body.stmts ++ part.stmts })))

  -- { stmt | "async" "let" Word "=" expr } "}"
  unfoldable pub statements : Form (solid (quoted (codes "}") ++ item_first) [] 0) (List Stmt)
  statements = shaped _ (do
    read ← items (stmt around)
    body ← async_parts (begun around read)
    _ ← expect (codes "}")
    done body.stmts)

  -- the same of an arm, one at least
  unfoldable pub arm_body : Form (solid item_first arm_ext 0) Body
  arm_body = shaped _ (do
    first ← either (do
      read ← some_items (stmt around)
      done (begun around read)) (async_part around)
    async_parts first)

  -- "case" "." Word [..] ":" and what it does
  unfoldable pub case_part : Cases → Form (solid (quoted (codes "case")) arm_ext 0) Cases
  case_part cases = shaped _ (do
    _ ← expect (codes "case")
    _ ← expect (codes ".")
    name ← terminal (name_in around word (codes "print"))
    pats ← patterns_if around
    _ ← expect (codes ":")
    body ← arm_body
    done (cases.0 ++ case_arm name pats body.stmts ∷ [], body.ended))

  -- "default" ":" and what it does
  unfoldable pub default_part : Form (solid (quoted (codes "default")) arm_ext 0) (Option Block)
  default_part = shaped _ (do
    _ ← expect (codes "default")
    _ ← expect (codes ":")
    body ← arm_body
    done (Some (block_of body.stmts)))

  -- {arm} ["default" ..] "}"; each is the first on its line, or follows `;`
  unfoldable pub switch_inside : Form (shape_of (in_switch around.here)) (List CaseArm × Option Block)
  switch_inside = shaped _ (do
    cases ← turns (λ _. true) ([], false) (λ cases. line_start (not cases.1) (case_part cases))
    otherwise ← either (line_start (not cases.1) default_part) (done None)
    _ ← expect (codes "}")
    done (cases.0, otherwise))

-- What stands in an `if` after the `let` of an arm. No `break` leaves it.
module _ (around : Around) where
  -- the later arms of the `if`, or none
  unfoldable pub later_arms : Form (loose (quoted (codes "else")) (quoted (codes "else"))) Block
  later_arms = shaped _ (either (do
    _ ← expect (codes "else")
    either (do
      rest ← if_stmt (without_break around)
      done (block_of (rest ∷ []))) (block (without_break around))) (done (block_of [])))

  -- Word "=" cond block, and the later arms
  unfoldable pub if_let_inside : Form (shape_of (in_if_let around.here)) IfLet
  if_let_inside = shaped _ (do
    name ← new_name around
    _ ← terminal an_equals
    subject ← expr around false
    chosen ← block (without_break around)
    otherwise ← later_arms
    done (record {
      name = name;
      subject = subject;
      chosen = chosen;
      otherwise = otherwise;
    }))

-- What a closure has beside its `{`. A `return` in it gives the closure's result.
module _ (around : Around) where
  -- a closure's header, { stmt } and "}"
  unfoldable pub closure_inside : Form (shape_of (in_closure around.here)) ClosureInside
  closure_inside = shaped _ (do
    head ← header around
    body ← statements (returning around (wanted_of head.result))
    done (inside_of head body))

  unfoldable pub task_inside : Form (shape_of (in_task around.here)) ClosureInside
  task_inside = shaped _ (do
    head ← task_header around
    body ← statements (returning around (wanted_of head.result))
    done (inside_of head body))
