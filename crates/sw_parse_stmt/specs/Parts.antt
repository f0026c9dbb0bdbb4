-- Parts of the rules of statements that are functions of their own.
use Rattle.std.specs.Prelude.{ℕ, Bool, true, not, List, Option, Some, None, [], ◌∷◌, ◌++◌, codes}
use Rattle.sw_grammar_forms.specs.Sets.{quoted, word}
use Rattle.sw_grammar_forms.specs.Form.{alt, seq, star, started, empty, one, solid}
use Rattle.sw_grammar_forms.specs.Form.Form.{done, either, turns, line_start}
use Rattle.sw_grammar_forms.specs.Reader.{Reader, next, pure, then_read}
use Rattle.sw_grammar_forms.specs.Quotes.{quote}
use Rattle.sw_grammar_forms.specs.Terminals.{◌>>=◌, expect}
use Rattle.sw_tree.specs.declared.expr.Expr.{Expr}
use Rattle.sw_tree.specs.declared.stmt.Block.{Block}
use Rattle.sw_tree.specs.declared.stmt.CaseArm.{CaseArm}
use Rattle.sw_tree.specs.declared.stmt.Stmt.{Stmt}
use Rattle.sw_grammar.specs.Around.{Around}
use Rattle.sw_grammar.specs.Tokens.{name_in, prefix_ops, literal_first, postfix_ext, expr_first}
use Rattle.sw_grammar.specs.Tokens.{type_first, type_ext, infix_op, bind_ext}
use Rattle.sw_grammar.specs.Nests.{Form}
use Rattle.sw_grammar.specs.Exprs.{loose, negated, a_literal, after_operand}
use Rattle.sw_grammar.specs.Reading.{read}
use Rattle.sw_grammar.specs.Types.{written_type}
use Rattle.sw_grammar.specs.Stmts.{Arms, Binding, Cases, arm_body, arm_ext, block_of, case_arm}
use Rattle.sw_grammar.specs.Stmts.{has_next, next_arm, patterns_if}
use Rattle.sw_grammar.specs.Stmts.{typed_binding, case_part, default_part}
use Rattle.sw_grammar.specs.Stmts.Next.{arm_at}
use Rattle.sw_parse_parts.specs.Nested.{made}
use Rattle.sw_parse_expr.specs.Blocks.{Items, items_of}

-- an operand that begins with a literal or a prefix operator
abbrev pub plain_operand : (around : Around)
    → Form (alt (solid prefix_ops postfix_ext 0)
    (seq (solid literal_first [] 0) (loose (quoted (codes ".")) postfix_ext))) Expr
plain_operand around = either (negated around true) (a_literal around >>= after_operand around)

-- no arm of an `if` at this place is read
abbrev pub begun : ℕ → Arms
begun at = record { arms = []; next = arm_at at }

-- the arms without `let` after some of an `if`, and what comes after them
abbrev pub more_arms : (around : Around) → Arms
    → Form (star (solid expr_first (quoted (codes "else")) 1)) Arms
more_arms around arms = turns has_next arms (next_arm around)

-- a variable after its word, from the `:` before its type on
abbrev pub with_type : (around : Around) → Binding
    → Form (seq (one (quote (codes ":"))) (seq (solid type_first type_ext 0)
    (solid (infix_op (codes "=")) bind_ext 0))) (List Stmt)
with_type around binding = do
  colon_at ← expect (codes ":")
  written ← written_type around
  typed_binding around binding colon_at written

-- the arms of a `switch` after some, each the first on its line or after a `;`
abbrev pub more_cases : (around : Around) → Cases
    → Form (star (started (solid (quoted (codes "case")) arm_ext 0))) Cases
more_cases around cases =
    turns (λ _. true) cases (λ cases. line_start (not cases.1) (case_part around cases))

-- the `default` of a `switch`, where it comes, the first on its line or after a `;`
abbrev pub default_if : (around : Around) → Bool
    → Form (alt (started (solid (quoted (codes "default")) arm_ext 0)) empty) (Option Block)
default_if around ended = either (line_start (not ended) (default_part around)) (done None)

-- reads what an arm does, as the code keeps it
abbrev pub arm_items : Around → ℕ → Reader Items
arm_items around depth = made items_of (read around depth (arm_body around))

-- reads one more arm after these
abbrev pub one_case : Around → ℕ → List CaseArm → Reader Cases
one_case around depth cases =
    then_read (next (quote (codes "case"))) (λ _.
    then_read (next (quote (codes "."))) (λ _.
    then_read (next (name_in around word (codes "print"))) (λ name.
    then_read (read around depth (patterns_if around)) (λ pats.
    then_read (next (quote (codes ":"))) (λ _.
    then_read (arm_items around depth) (λ items.
    pure (cases ++ case_arm name pats items.0 ∷ [], items.1)))))))

-- reads a `default`
abbrev pub one_default : Around → ℕ → Reader (Option Block)
one_default around depth =
    then_read (next (quote (codes "default"))) (λ _.
    then_read (next (quote (codes ":"))) (λ _.
    then_read (arm_items around depth) (λ items. pure (Some (block_of items.0)))))
