-- Values in places where they may be an optional: there stand `nil`, `Optional` with a value in
-- brackets, and each expression.
use Rattle.std.specs.Prelude.{ℕ, Bool, true, false, Option, Some, None, List, ◌++◌, codes}
use Rattle.sw_grammar_forms.specs.Sets.{quoted}
use Rattle.sw_grammar_forms.specs.Form.{solid}
use Rattle.sw_grammar_forms.specs.Form.Form.{done, terminal, either, nest, shaped}
use Rattle.sw_grammar_forms.specs.Terminals.{◌>>=◌, expect}
use Rattle.sw_grammar_forms.specs.Quotes.{quote}
use Rattle.sw_tree.specs.declared.expr.Expr.{Expr}
use Rattle.sw_sugar.specs.Optionals.{use_at, none_tree, some_tree}
use Rattle.sw_grammar.specs.Around.{Around}
use Rattle.sw_grammar.specs.Tokens.{plain_word, expr_ext, value_first, value_ext, infix_op, an_equals}
use Rattle.sw_grammar.specs.Tokens.{name_in, optional_text}
use Rattle.sw_grammar.specs.Nests.{in_round, Form}
use Rattle.sw_grammar.specs.Exprs.{loose, with_members, members, after_word, after_operand}
use Rattle.sw_grammar.specs.Exprs.{after_task, more_operands, other_expr, expr}

-- a value, and whether it is an expression as any other
pub record Given : Type 0 where
  pub value : Expr
  pub is_plain : Bool

abbrev pub plain : Expr → Given
plain value = record { value = value; is_plain = true }

abbrev pub made : Expr → Given
made value = record { value = value; is_plain = false }

module _ (around : Around) where
  -- `nil` at a position, where a `T?` is wanted of this word `T`
  abbrev pub no_value : List ℕ → ℕ → Expr
  no_value wanted at =
      none_tree (around.id_of (codes "none")) (around.id_of (optional_text wanted)) at

  -- `Optional(value)` at a position
  abbrev pub some_value : List ℕ → ℕ → Expr → Expr
  some_value wanted at value =
      some_tree (around.id_of (codes "some")) (around.id_of (optional_text wanted)) at value

  -- after "Optional": "(" expr ")", on whatever line, or what else an expression goes on with
  unfoldable pub after_optional : List ℕ → ℕ
      → Form (loose (quoted (codes "(") ++ expr_ext) value_ext) Given
  after_optional wanted at = shaped _ (either (do
    inner ← nest (quote (codes "(")) (in_round around.here)
    done (made (some_value wanted at inner.1))) (do
      links ← members around
      whole ← more_operands around true
          (with_members (use_at at (around.id_of (codes "Optional"))) links)
      done (plain whole)))

  -- "nil" | "Optional" "(" expr ")" | expr
  unfoldable pub optional_value : List ℕ → Form (solid value_first value_ext 0) Given
  optional_value wanted = shaped _ (either (do
    at ← expect (codes "nil")
    done (made (no_value wanted at))) (either (do
      at ← expect (codes "Optional")
      after_optional wanted at) (either (do
        name ← terminal (name_in around plain_word (codes "print"))
        first ← after_word around name
        whole ← more_operands around true first
        done (plain whole)) (either (do
          at ← expect (codes "Task")
          base ← after_task around true at
          first ← after_operand around base
          whole ← more_operands around true first
          done (plain whole)) (do
            whole ← other_expr around
            done (plain whole))))))

  -- a value where a `T?` may be wanted
  unfoldable pub value_in : Option (List ℕ) → Form (solid value_first value_ext 0) Given
  value_in None = shaped _ (do
    whole ← expr around true
    done (plain whole))
  value_in (Some wanted) = shaped _ (optional_value wanted)

  -- "=" and the value
  unfoldable pub value_for : Option (List ℕ) → Form (solid (infix_op (codes "=")) value_ext 0) Given
  value_for wanted = shaped _ (do
    _ ← terminal an_equals
    given ← value_in wanted
    done given)
