-- What values weigh in places where they may be an optional.
use Rattle.std.proofs.Common.{ℕ, ◌+◌, ◌≤◌, true, IsTrue, Option, None, Some, List}
use Rattle.std.proofs.Common.{codes, refl}
use Rattle.std.proofs.Common.{arith}
use Rattle.sw_grammar_forms.specs.Relations.{Relation, One}
use Rattle.sw_tree.specs.declared.expr.Expr.{Expr}
use Rattle.sw_sugar.specs.Optionals.{use_at}
use Rattle.sw_grammar.specs.Around.{Around}
use Rattle.sw_grammar.specs.Exprs.{with_members}
use Rattle.sw_grammar.specs.Nests.{Nest, El}
use Rattle.sw_grammar.specs.Nests.Nest.{in_round}
use Rattle.sw_grammar.specs.Tokens.{an_equals, infix_op, plain_word}
use Rattle.sw_grammar.specs.Values.{no_value, some_value, after_optional, optional_value}
use Rattle.sw_grammar.specs.Values.{value_in, value_for}
use Rattle.sw_grammar_facts.proofs.ExprRules.{own_after_operand, own_after_task, own_after_word}
use Rattle.sw_grammar_facts.proofs.ExprRules.{own_expr, own_members, own_more_operands}
use Rattle.sw_grammar_facts.proofs.ExprRules.{own_other_expr, with_members_weigh}
use Rattle.sw_grammar_facts.proofs.NestWeights.{weight}
use Rattle.sw_grammar_facts.proofs.Owning.{Owns, none, own_done, own_either, own_from, own_past}
use Rattle.sw_grammar_facts.proofs.Owning.{own_then, own_token, own_with}
use Rattle.sw_grammar_facts.proofs.Questions.{other_of}
use Rattle.sw_grammar_facts.proofs.Spread.{spread}
use Rattle.sw_grammar_facts.proofs.TypeRules.{Keeps, own_name, own_opened, own_quote, own_whole}
use Rattle.sw_grammar_facts.proofs.Unmarked.{fits, is_unmarked, wants_word}
use Rattle.sw_grammar_facts.proofs.Weighing.{Weighing}

module _ {id_of : List ℕ → ℕ} (w : Weighing id_of) where
  first_place : (at k : ℕ) → w.place at k ≤ spread w.place 8 at k
  unfolding spread
  first_place at k = omega arith

  pub own_equals : Owns w.tally none (One an_equals) w.place
  own_equals =
      own_token _ an_equals
      (λ token member k. w.of_place token (other_of (infix_op (codes "=")) token refl member) k)

module _ (around : Around) (w : Weighing around.id_of) where
  no_value_weighs : (wanted : List ℕ) (at : ℕ) → IsTrue (is_unmarked wanted) → (k : ℕ)
      → w.expr (no_value around wanted at) k ≤ spread w.place 3 at k
  unfolding spread
  no_value_weighs wanted at unmarked k = omega (arith, w.expr-None at wanted unmarked k)

  some_value_weighs : (wanted : List ℕ) (at : ℕ) (value : Expr) → IsTrue (is_unmarked wanted)
      → (k : ℕ)
      → w.expr (some_value around wanted at value) k ≤ spread w.place 8 at k + w.expr value k
  unfolding spread
  some_value_weighs wanted at value unmarked k =
      omega (arith, w.expr-Some at wanted value unmarked k)

  module _ (table : (n : Nest) → Relation (El n))
      (nests : (n : Nest) → IsTrue (fits n) → Owns w.tally none (table n) (weight w n))
      (fit : IsTrue (wants_word around.here.wanted)) where
    own_after_optional : (wanted : List ℕ) (at : ℕ) → IsTrue (is_unmarked wanted)
        → Keeps w table (after_optional around wanted at) (spread w.place 8 at)
        (λ given. w.expr given.value)
    unfolding after_optional
    own_after_optional wanted at unmarked =
        own_either _ (own_then _ _
        (own_opened w table nests (codes "(") refl (in_round around.here) fit) (λ inner.
        own_done _ (λ k. omega (arith, some_value_weighs wanted at inner.1 unmarked k))))
        (own_then _ _ (own_members around w table nests fit) (λ links.
        let base = use_at at (around.id_of (codes "Optional")) in
        own_from _ none w.expr (λ k. omega (
          arith,
          with_members_weigh w base links k,
          w.expr-Optional at k,
          first_place w at k,
        )) (own_more_operands around w table nests fit true (with_members base links)) (λ whole.
        own_done _ (λ k. omega arith))))

    own_optional_value : (wanted : List ℕ) → IsTrue (is_unmarked wanted)
        → Keeps w table (optional_value around wanted) none (λ given. w.expr given.value)
    unfolding optional_value
    own_optional_value wanted unmarked =
        own_either _ (own_then _ _ (own_whole w table (codes "nil") refl refl) (λ at.
        own_done _ (λ k. omega (arith, no_value_weighs wanted at unmarked k))))
        (own_either _ (own_then _ _ (own_whole w table (codes "Optional") refl refl) (λ at.
        own_with _ (λ k. omega arith) (own_after_optional wanted at unmarked)))
        (own_either _ (own_then _ _ (own_name around w table plain_word (codes "print") refl) (λ name.
        own_from _ none w.expr (λ k. omega arith) (own_after_word around w table nests fit name)
        (λ first.
        own_from _ none w.expr (λ k. omega arith) (own_more_operands around w table nests fit true first)
        (λ whole. own_done _ (λ k. omega arith)))))
        (own_either _ (own_then _ _ (own_quote w table (codes "Task") refl) (λ at.
        own_from _ none w.expr (λ k. omega arith) (own_after_task around w table nests fit true at)
        (λ base.
        own_from _ none w.expr (λ k. omega arith) (own_after_operand around w table nests fit base)
        (λ first.
        own_from _ none w.expr (λ k. omega arith) (own_more_operands around w table nests fit true first)
        (λ whole. own_done _ (λ k. omega arith))))))
        (own_then _ _ (own_other_expr around w table nests fit) (λ whole.
        own_done _ (λ k. omega arith))))))

    pub own_value_in : (wanted : Option (List ℕ)) → IsTrue (wants_word wanted)
        → Keeps w table (value_in around wanted) none (λ given. w.expr given.value)
    unfolding value_in
    own_value_in None wants =
        own_then _ _ (own_expr around w table nests fit true) (λ whole. own_done _ (λ k. omega arith))
    own_value_in (Some wanted) wants = own_optional_value wanted wants

    pub own_value_for : (wanted : Option (List ℕ)) → IsTrue (wants_word wanted)
        → Keeps w table (value_for around wanted) none (λ given. w.expr given.value)
    unfolding value_for
    own_value_for wanted wants =
        own_past _ (λ _. own_then _ _ (own_value_in wanted wants) (λ given.
        own_done _ (λ k. omega arith)))
