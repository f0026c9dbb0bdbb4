-- What expressions weigh.
use Rattle.std.proofs.Common.{◌≡◌, ℕ, suc, ◌+◌, ◌≤◌, Bool, true, false, List, [], ◌∷◌, ◌++◌}
use Rattle.std.proofs.Common.{None, Some, Option, IsTrue, codes, refl, arith}
use Rattle.sw_grammar_forms.specs.Sets.{Set, integer, quoted, word}
use Rattle.sw_grammar_forms.specs.Form.{Shape}
use Rattle.sw_grammar_forms.specs.Form.Form.{turns, done, nest, terminal}
use Rattle.sw_grammar_forms.specs.Quotes.{an_integer, quote}
use Rattle.sw_grammar_forms.specs.Relations.{Relation}
use Rattle.sw_grammar_forms.specs.Terminals.{literal, ◌>>=◌}
use Rattle.sw_tree.proofs.Counting.{in_all, in_option, in_all-append}
use Rattle.sw_tree.specs.declared.name.Name.{Name}
use Rattle.sw_tree.specs.declared.expr.Expr.{Expr}
use Rattle.sw_tree.specs.declared.expr.Expr.TheVariants as exprs
use Rattle.sw_tree.specs.declared.expr.Arg.{Arg}
use Rattle.sw_tree.specs.declared.expr.Link.{Link as Operand}
use Rattle.sw_grammar_facts.proofs.Owning.{none, Owns, own_done, own_token, own_then, own_either}
use Rattle.sw_grammar_facts.proofs.Owning.{own_only, own_past, own_turns, own_with, own_from}
use Rattle.sw_grammar_facts.proofs.Owning.{own_when, own_opened_nest, paid_after_less}
use Rattle.sw_sugar.specs.Tasks.{of_task}
use Rattle.sw_grammar.specs.Around.{Around, task_ids}
use Rattle.sw_grammar.specs.Nests.{Nest, El, Form, Link}
use Rattle.sw_grammar.specs.Nests.Nest.{in_round, in_args, in_member, in_closure, in_task}
use Rattle.sw_grammar.specs.Tokens.{value_word, times, plus, compares, infix_op, infix_in}
use Rattle.sw_grammar.specs.Exprs.{with_members, chained, linked, closure_at, members}
use Rattle.sw_grammar.specs.Exprs.{call, member, after_word, after_operand, a_literal}
use Rattle.sw_grammar.specs.Exprs.{after_task_dot, after_task, bracketed, me, closure}
use Rattle.sw_grammar.specs.Exprs.{other_primary, postfix, negated, unary, more_times, product}
use Rattle.sw_grammar.specs.Exprs.{more_plus, sum, more_compares, comparison, more_and, conjunction}
use Rattle.sw_grammar.specs.Exprs.{more_or, more_operands, awaited, expr, other_expr, labelled, arg}
use Rattle.sw_grammar.specs.Exprs.{args, round, nothing}
use Rattle.sw_grammar_facts.proofs.Weighing.{Weighing}
use Rattle.sw_grammar_facts.proofs.NestWeights.{weight, dotted, tasked}
use Rattle.sw_grammar_facts.proofs.Questions.{is_paid, other_of}
use Rattle.sw_grammar_facts.proofs.Unmarked.{fits, wants_word}
use Rattle.sw_grammar_facts.proofs.TypeRules.{Keeps, own_list_of, own_quote, own_name, own_infix}
use Rattle.sw_grammar_facts.proofs.Spread.{spread}
use Rattle.sw_grammar_facts.proofs.TypeRules.{own_prefix, own_opened, own_opened_on_line, own_whole}

module _ {id_of : List ℕ → ℕ} (w : Weighing id_of) where
  pub with_members_weigh : (base : Expr) (links : List Link) (k : ℕ)
      → w.expr (with_members base links) k ≤ w.expr base k + in_all (dotted w) links k
  unfolding in_all in_option
  with_members_weigh base [] k = omega arith
  with_members_weigh base ((name, None) ∷ links) k =
      omega (
        arith,
        w.expr-Member base name k,
        with_members_weigh (exprs.Member base name) links k,
      )
  with_members_weigh base ((name, Some given) ∷ links) k =
      omega (
        arith,
        w.expr-Method base name given k,
        with_members_weigh (exprs.Method base name given) links k,
      )

  chained_weighs : (first : Expr) (links : List Operand) (k : ℕ)
      → w.expr (chained first links) k ≤ w.expr first k + in_all w.link links k
  chained_weighs first [] k = omega arith
  chained_weighs first (link ∷ links) k = w.expr-Chain first link links k

  -- a word, or a call of it
  called : Name → Option (List Arg) → Expr
  called name None = exprs.Use name
  called name (Some given) = exprs.Call name given

  called_weighs : (name : Name) (given : Option (List Arg)) (links : List Link) (k : ℕ)
      → w.expr (with_members (called name given) links) k
      ≤ w.node name k + in_option (in_all w.arg) given k + in_all (dotted w) links k
  unfolding in_option called
  called_weighs name None links k =
      omega (arith, w.expr-Use name k, with_members_weigh (exprs.Use name) links k)
  called_weighs name (Some given) links k =
      omega (arith, w.expr-Call name given k, with_members_weigh (exprs.Call name given) links k)

module _ (around : Around) (w : Weighing around.id_of) where
  module _ (table : (n : Nest) → Relation (El n)) where
    -- operators and their operands
    own_links : {s : Shape} (set : Set) (text : List ℕ) → is_paid set ≡ true
        → (operand : Form s Expr)
        → Keeps w table operand none w.expr
        → Keeps w table (turns (λ _. true) [] (λ links. (terminal (infix_in set text) >>= λ op.
        operand >>= λ x. done (links ++ linked op x ∷ []))))
        none (in_all w.link)
    unfolding in_all
    own_links set text paid operand each =
        own_with _ (λ k. omega arith) (own_turns _ {w = in_all w.link} (λ links. own_only _ true (λ _.
        own_then _ _ (own_infix w table set text paid) (λ op. own_then _ _ each (λ x. own_done _ (λ k.
        omega (
          arith,
          in_all-append w.link links (linked op x ∷ []) k,
          w.link-roll op.0 op.1 x k,
        )))))) [])

    own_literal : Keeps w table literal none (λ value. w.place value.0)
    unfolding literal
    own_literal =
        own_token _ an_integer
        (λ token member k. w.of_place token (other_of integer token refl member) k)

    module _ (nests : (n : Nest) → IsTrue (fits n) → Owns w.tally none (table n) (weight w n))
        (fit : IsTrue (wants_word around.here.wanted)) where
      pub own_members : Keeps w table (members around) none (in_all (dotted w))
      unfolding members in_all
      own_members =
          own_either _ (own_then _ _ (own_opened w table nests (codes ".") refl (in_member around.here) fit) (λ links.
          own_done _ (λ k. omega arith))) (own_done _ (λ k. omega arith))

      own_call : Keeps w table (call around) none (in_option (in_all w.arg))
      unfolding call in_option
      own_call =
          own_either _ (own_then _ _ (own_opened_on_line w table nests (codes "(") refl (in_args around.here) fit)
          (λ given. own_done _ (λ k. omega arith))) (own_done _ (λ k. omega arith))

      pub own_member : Keeps w table (member around) none (in_all (dotted w))
      unfolding member in_all
      own_member =
          own_then _ _ (own_name around w table word (codes "print") refl) (λ name.
          own_then _ _ own_call (λ given. own_then _ _ own_members (λ links.
          own_done _ (λ k. omega arith))))

      pub own_after_word : (name : Name)
          → Keeps w table (after_word around name) (w.node name) w.expr
      unfolding after_word called
      own_after_word name =
          own_then _ _ own_call (λ given. own_then _ _ own_members (λ links.
          own_done _ (λ k. let one = called_weighs w name given links k in omega (arith, one))))

      pub own_after_operand : (base : Expr)
          → Keeps w table (after_operand around base) (w.expr base) w.expr
      unfolding after_operand
      own_after_operand base =
          own_then _ _ own_members (λ links. own_done _ (λ k.
          omega (arith, with_members_weigh w base links k)))

      pub own_a_literal : Keeps w table (a_literal around) none w.expr
      unfolding a_literal
      own_a_literal =
          own_either _ (own_then _ _ own_literal (λ value. own_done _ (λ k.
          omega (arith, w.expr-Int value.0 value.1 k)))) (own_either _
          (own_then _ _ (own_quote w table (codes "true") refl) (λ at. own_done _ (λ k.
          omega (arith, w.expr-Bool at true k))))
          (own_then _ _ (own_quote w table (codes "false") refl) (λ at. own_done _ (λ k.
          omega (arith, w.expr-Bool at false k)))))

      -- what stands in a closure or a task is paid by the tokens after its `{`
      own_opened_closure : Keeps w table (nest (quote (codes "{")) (in_closure around.here)) none
          (λ body. w.closure (closure_at body.0 body.1))
      own_opened_closure =
          own_opened_nest _ (quote (codes "{")) w.place w.inside (λ token. refl)
          (own_quote w table (codes "{") refl) (nests (in_closure around.here) fit)
          (λ at it after k. omega (arith, w.closure-opened at it after k))

      own_opened_task : Keeps w table (nest (quote (codes "{")) (in_task around.here)) none
          (λ body k. w.closure (closure_at body.0 body.1) k + in_all w.task_param body.1.params k)
      own_opened_task =
          own_opened_nest _ (quote (codes "{")) w.place (tasked w) (λ token. refl)
          (own_quote w table (codes "{") refl) (nests (in_task around.here) fit)
          (λ at it after k. omega (
            arith,
            w.closure-opened at it (paid_after_less _ (λ j. omega arith) after) k,
          ))

      own_after_task_dot : (closures : Bool) (at : ℕ)
          → Keeps w table (after_task_dot around closures at) (w.place at) w.expr
      unfolding after_task_dot
      own_after_task_dot closures at =
          own_when _ closures (λ _. own_past _ (λ _.
          own_then _ _ own_opened_task (λ body. own_done _ (λ k.
          omega (arith, w.expr-Spawn at true body.0 body.1 k)))))
          (own_past _ (λ _. own_past _ (λ _. own_done _ (λ k. omega (arith, w.expr-Yield at k)))))

      pub own_after_task : (closures : Bool) (at : ℕ)
          → Keeps w table (after_task around closures at) (w.place at) w.expr
      unfolding after_task
      own_after_task closures at =
          own_when _ closures (λ _.
          own_then _ _ own_opened_task (λ body. own_done _ (λ k.
          omega (arith, w.expr-Spawn at false body.0 body.1 k))))
          (own_past _ (λ _. own_after_task_dot closures at))

      own_bracketed : Keeps w table (bracketed around) none w.expr
      unfolding bracketed
      own_bracketed =
          own_then _ _ (own_opened w table nests (codes "(") refl (in_round around.here) fit) (λ inner.
          own_done _ (λ k. omega arith))

      own_me : Keeps w table (me around) none w.expr
      unfolding me
      own_me =
          own_then _ _ (own_quote w table (codes "self") refl) (λ at. own_done _ (λ k.
          omega (arith, w.expr-Me at k)))

      own_closure : Keeps w table (closure around) none w.expr
      unfolding closure
      own_closure =
          own_then _ _ own_opened_closure (λ body. own_done _ (λ k.
          omega (arith, w.expr-Fun (closure_at body.0 body.1) k)))

      own_other_primary : (closures : Bool)
          → Keeps w table (other_primary around closures) none w.expr
      unfolding other_primary
      own_other_primary closures =
          own_when _ closures (λ _. own_closure) (own_either _ own_a_literal (own_either _ own_me
          own_bracketed))

      own_postfix : (closures : Bool) → Keeps w table (postfix around closures) none w.expr
      unfolding postfix
      own_postfix closures =
          own_either _ (own_then _ _ (own_name around w table value_word (codes "print") refl) (λ name.
          own_with _ (λ k. omega arith) (own_after_word name)))
          (own_then _ _ (own_either _ (own_then _ _ (own_quote w table (codes "Task") refl) (λ at.
          own_with _ (λ k. omega arith) (own_after_task closures at)))
          (own_other_primary closures)) (λ base.
          own_with _ (λ k. omega arith) (own_after_operand base)))

      pub own_negated : (closures : Bool) → Keeps w table (negated around closures) none w.expr
      unfolding negated
      own_negated closures =
          own_then _ _ (own_prefix w table) (λ op. own_then _ _ (own_postfix closures)
          (λ operand. own_done _ (λ k. omega (arith, w.expr-Prefix op.0 op.1 operand k))))

      own_unary : (closures : Bool) → Keeps w table (unary around closures) none w.expr
      unfolding unary
      own_unary closures = own_either _ (own_negated closures) (own_postfix closures)

      own_more_times : (closures : Bool) (first : Expr)
          → Keeps w table (more_times around closures first) (w.expr first) w.expr
      unfolding more_times
      own_more_times closures first =
          own_then _ _ (own_links times (codes "*") refl (unary around closures) (own_unary closures))
          (λ links. own_done _ (λ k. omega (arith, chained_weighs w first links k)))

      own_product : (closures : Bool) → Keeps w table (product around closures) none w.expr
      unfolding product
      own_product closures =
          own_then _ _ (own_unary closures) (λ first.
          own_with _ (λ k. omega arith) (own_more_times closures first))

      own_more_plus : (closures : Bool) (first : Expr)
          → Keeps w table (more_plus around closures first) (w.expr first) w.expr
      unfolding more_plus
      own_more_plus closures first =
          own_then _ _ (own_links plus (codes "+") refl (product around closures) (own_product closures))
          (λ links. own_done _ (λ k. omega (arith, chained_weighs w first links k)))

      own_sum : (closures : Bool) → Keeps w table (sum around closures) none w.expr
      unfolding sum
      own_sum closures =
          own_then _ _ (own_product closures) (λ first.
          own_with _ (λ k. omega arith) (own_more_plus closures first))

      own_more_compares : (closures : Bool) (first : Expr)
          → Keeps w table (more_compares around closures first) (w.expr first) w.expr
      unfolding more_compares in_all
      own_more_compares closures first =
          own_either _ (own_then _ _ (own_infix w table compares (codes "==") refl) (λ op.
          own_then _ _ (own_sum closures) (λ operand. own_done _ (λ k.
          omega (
            arith,
            chained_weighs w first (linked op operand ∷ []) k,
            w.link-roll op.0 op.1 operand k,
          ))))) (own_done _ (λ k. omega arith))

      own_comparison : (closures : Bool) → Keeps w table (comparison around closures) none w.expr
      unfolding comparison
      own_comparison closures =
          own_then _ _ (own_sum closures) (λ first.
          own_with _ (λ k. omega arith) (own_more_compares closures first))

      own_more_and : (closures : Bool) (first : Expr)
          → Keeps w table (more_and around closures first) (w.expr first) w.expr
      unfolding more_and
      own_more_and closures first =
          own_then _ _ (own_links (infix_op (codes "&&")) (codes "&&") refl (comparison around closures)
          (own_comparison closures))
          (λ links. own_done _ (λ k. omega (arith, chained_weighs w first links k)))

      own_conjunction : (closures : Bool) → Keeps w table (conjunction around closures) none w.expr
      unfolding conjunction
      own_conjunction closures =
          own_then _ _ (own_comparison closures) (λ first.
          own_with _ (λ k. omega arith) (own_more_and closures first))

      own_more_or : (closures : Bool) (first : Expr)
          → Keeps w table (more_or around closures first) (w.expr first) w.expr
      unfolding more_or
      own_more_or closures first =
          own_then _ _ (own_links (infix_op (codes "||")) (codes "||") refl (conjunction around closures)
          (own_conjunction closures))
          (λ links. own_done _ (λ k. omega (arith, chained_weighs w first links k)))

      pub own_more_operands : (closures : Bool) (first : Expr)
          → Keeps w table (more_operands around closures first) (w.expr first) w.expr
      unfolding more_operands
      own_more_operands closures first =
          own_from _ none w.expr (λ k. omega arith) (own_more_times closures first) (λ product.
          own_from _ none w.expr (λ k. omega arith) (own_more_plus closures product) (λ sum.
          own_from _ none w.expr (λ k. omega arith) (own_more_compares closures sum) (λ compared.
          own_from _ none w.expr (λ k. omega arith) (own_more_and closures compared) (λ both.
          own_with _ (λ k. omega arith) (own_more_or closures both)))))

      pub own_awaited : (closures : Bool) → Keeps w table (awaited around closures) none w.expr
      unfolding awaited spread
      own_awaited closures =
          own_then _ _ (own_whole w table (codes "await") refl refl) (λ at.
          own_then _ _ (own_unary closures) (λ first.
          own_from _ (spread w.place 5 at) w.expr (λ k. omega arith)
          (own_more_operands closures first) (λ inner. own_done _ (λ k.
          let tasks = task_ids around in
          omega (
            arith,
            w.expr-Await at (of_task tasks (suc at) inner) k,
            w.expr-Task tasks (suc at) inner k,
          )))))

      pub own_expr : (closures : Bool) → Keeps w table (expr around closures) none w.expr
      unfolding expr
      own_expr closures =
          own_either _ (own_awaited closures) (own_then _ _ (own_unary closures) (λ first.
          own_with _ (λ k. omega arith) (own_more_operands closures first)))

      pub own_other_expr : Keeps w table (other_expr around) none w.expr
      unfolding other_expr
      own_other_expr =
          own_either _ (own_awaited true) (own_then _ _ (own_either _ (own_negated true)
          (own_then _ _ (own_other_primary true) (λ base.
          own_with _ (λ k. omega arith) (own_after_operand base)))) (λ first.
          own_with _ (λ k. omega arith) (own_more_operands true first)))

      own_labelled : (label : Name) → Keeps w table (labelled around label) (w.label label) w.arg
      unfolding labelled in_option
      own_labelled label =
          own_past _ (λ _. own_then _ _ (own_expr true) (λ value. own_done _ (λ k.
          omega (arith, w.arg-roll (Some label) value k))))

      own_arg : Keeps w table (arg around) none w.arg
      unfolding arg in_option
      own_arg =
          own_either _ (own_then _ _ (own_name around w table value_word (codes "print") refl) (λ name.
          own_either _ (own_with _ (λ k. omega arith) (own_labelled name))
          (own_from _ none w.expr (λ k. omega arith) (own_after_word name) (λ first.
          own_from _ none w.expr (λ k. omega arith) (own_more_operands true first) (λ value.
          own_done _ (λ k. omega (arith, w.arg-roll None value k)))))))
          (own_either _ (own_then _ _ (own_name around w table (quoted (codes "Task")) (codes "Task") refl)
          (λ name. own_either _ (own_with _ (λ k. omega arith) (own_labelled name))
          (own_from _ none w.expr (λ k. omega (arith, w.of_node name k))
          (own_after_task true name.at)
          (λ base. own_from _ none w.expr (λ k. omega arith) (own_after_operand base) (λ first.
          own_from _ none w.expr (λ k. omega arith) (own_more_operands true first) (λ value.
          own_done _ (λ k. omega (arith, w.arg-roll None value k))))))))
          (own_then _ _ own_other_expr (λ value. own_done _ (λ k.
          omega (arith, w.arg-roll None value k)))))

      pub own_args : Keeps w table (args around) none (in_all w.arg)
      unfolding args
      own_args = own_list_of around w table (arg around) w.arg own_arg (codes ")")

      pub own_round : Keeps w table (round around) none w.expr
      unfolding round
      own_round =
          own_then _ _ (own_expr true) (λ inner. own_past _ (λ _. own_done _ (λ k. omega arith)))

      pub own_nothing_inside : Keeps w table (nothing around) none (λ at. none)
      unfolding nothing
      own_nothing_inside = own_past _ (λ _. own_done _ (λ k. omega arith))
