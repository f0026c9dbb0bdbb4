-- Which tokens a statement has doesn't depend on the indices of names.
use Rattle.std.proofs.Common.{◌≡◌, ℕ, Bool, true, false, not, List, [], ◌∷◌, ◌++◌, codes, refl, sym}
use Rattle.std.proofs.Common.{ap, ◌∙◌, subst}
use Rattle.std.specs.Prelude.{Option}
use Rattle.sw_grammar_forms.specs.Sets.{Set, word}
use Rattle.sw_grammar_forms.specs.Form.{Shape}
use Rattle.sw_grammar_forms.specs.Form.Form.{terminal, nest, until}
use Rattle.sw_grammar_forms.specs.Quotes.{quote}
use Rattle.sw_grammar_forms.specs.Reader.{Reader}
use Rattle.sw_grammar_forms.specs.Terminals.{expect, items}
use Rattle.sw_grammar_forms.proofs.Alike.{Alike, Any, EndAlike, same_done, same_token, same_then}
use Rattle.sw_grammar_forms.proofs.Alike.{alike_until, same_word_that}
use Rattle.sw_grammar_forms.proofs.Alike.{same_either, same_when, same_turns, same_more_items}
use Rattle.sw_grammar_forms.proofs.Alike.{same_some_items, same_line_start, same_same_line, same_rule}
use Rattle.sw_tree.specs.declared.expr.Expr.{Expr}
use Rattle.sw_tree.specs.declared.stmt.IfArm.{IfArm}
use Rattle.sw_tree.specs.declared.expr.Expr.TheVariants as exprs
use Rattle.sw_tree.specs.Place.{is_place, place_steps}
use Rattle.sw_tree.proofs.FoldEquations.{fold_expr-Me}
use Rattle.sw_grammar.specs.Around.{Around, Here, after_tasks, around_in, returning}
use Rattle.sw_grammar.specs.Around.{with_break, without_break}
use Rattle.sw_grammar.specs.Nests.{Nest, El, Form}
use Rattle.sw_grammar.specs.Nests.Nest.{in_block, in_switch, in_if_let, in_patterns}
use Rattle.sw_grammar.specs.Tokens.{name_in, value_word, an_assignment, an_equals}
use Rattle.sw_grammar.specs.Types.{Typed, wanted_of}
use Rattle.sw_grammar.specs.Words.{declared_as, new_word}
use Rattle.sw_grammar.specs.Exprs.{expr, more_operands}
use Rattle.sw_grammar.specs.Stmts.{Arms, arm_at, Binding, Body, Cases, begun, has_next, place_of, block, value}
use Rattle.sw_grammar.specs.Stmts.{literal_if, typed_binding, after_binding, binding, bind}
use Rattle.sw_grammar.specs.Stmts.{discard}
use Rattle.sw_grammar.specs.Stmts.{after_place, word_stmt, self_stmt, task_stmt, plain_stmt}
use Rattle.sw_grammar.specs.Stmts.{if_let, after_arm, next_arm, last_arm, if_stmt, while_stmt}
use Rattle.sw_grammar.specs.Stmts.{switch_stmt, return_stmt, later_arms, if_let_inside}
use Rattle.sw_grammar.specs.Stmts.{break_stmt, continue_stmt, other_stmt, stmt, statements}
use Rattle.sw_grammar.specs.Stmts.{closure_inside, task_inside, pattern, patterns_inside, patterns_if, arm_body}
use Rattle.sw_grammar.specs.Stmts.{async_let, async_part, async_parts}
use Rattle.sw_grammar.specs.Stmts.{case_part, default_part, switch_inside}
use Rattle.sw_grammar.proofs.TypesAlike.{NestAlike, OfBody, SameForm, same_quote, same_name}
use Rattle.sw_grammar.proofs.TypesAlike.{TypesAlike, same_new_name, same_skip, same_some_of, same_opened}
use Rattle.sw_grammar.proofs.TypesAlike.{same_written_type}
use Rattle.sw_grammar.proofs.ExprsAlike.{PlacesAlike, same_a_literal, same_after_word}
use Rattle.sw_grammar.proofs.ExprsAlike.{same_after_operand, same_after_any, same_after_task}
use Rattle.sw_grammar.proofs.ExprsAlike.{same_negated, same_more_operands, same_awaited, same_expr}
use Rattle.sw_grammar.proofs.ClosuresAlike.{same_header, same_task_header}
use Rattle.sw_grammar.proofs.ValuesAlike.{same_value_in}

-- another arm comes in both or in none
abbrev ArmsAlike : Arms → Arms → Type 0
ArmsAlike a b = has_next a ≡ has_next b

-- a `;` ends both or none
abbrev CasesAlike : Cases → Cases → Type 0
CasesAlike a b = a.1 ≡ b.1

-- a `;` ends both or none, and the same words stand for tasks
abbrev BodiesAlike : Body → Body → Type 0
BodiesAlike a b = (a.ended ≡ b.ended) × (a.tasks ≡ b.tasks)

self_place : (at other : ℕ) → PlacesAlike (exprs.Me at) (exprs.Me other)
unfolding is_place
self_place at other = fold_expr-Me place_steps at ∙ sym (fold_expr-Me place_steps other)

module _ (f g : List ℕ → ℕ) (here : Here) (depth : ℕ) (F G : (n : Nest) → Reader (El n)) where
  abbrev one : Around
  one = around_in f here

  abbrev two : Around
  two = around_in g here

  abbrev Alike-form : {s : Shape} {A : Type 0} → (A → A → Type 0) → Form s A → Form s A → Type 0
  Alike-form P p q = SameForm depth F G P p q

  text_alike : (text : List ℕ) → Alike-form Any (expect text) (expect text)
  text_alike text = same_quote f g here depth F G text

  word_alike : (set : Set) → Alike-form Any (terminal (name_in one set (codes "print")))
      (terminal (name_in two set (codes "print")))
  word_alike set = same_name f g here depth F G set (codes "print")

  -- the same word is declared
  declared_alike : Alike-form (λ a b. a.text ≡ b.text) (new_word one) (new_word two)
  declared_alike =
      same_word_that (λ a b. a.text ≡ b.text) here.tasks (declared_as one) (declared_as two)
      (λ _. refl)

  same_break : Alike-form Any (break_stmt one) (break_stmt two)
  unfolding break_stmt
  same_break = same_rule (same_then (text_alike (codes "break")) (λ _ _ _. same_done tt))

  same_continue : Alike-form Any (continue_stmt one) (continue_stmt two)
  unfolding continue_stmt
  same_continue = same_rule (same_then (text_alike (codes "continue")) (λ _ _ _. same_done tt))

  same_pattern : Alike-form Any (pattern one) (pattern two)
  unfolding pattern
  same_pattern =
      same_rule (same_either (same_then (text_alike (codes "_")) (λ _ _ _. same_done tt))
      (same_then (text_alike (codes "let")) (λ _ _ _.
      same_then (same_new_name f g here depth F G) (λ _ _ _. same_done tt))))

  pub same_patterns_inside : Alike-form Any (patterns_inside one) (patterns_inside two)
  unfolding patterns_inside
  same_patterns_inside =
      same_rule (same_some_of f g here depth F G (pattern one) (pattern two) same_pattern (codes ")"))

  module _ (nests : (n : Nest) → OfBody n → Alike (NestAlike n) (F n) (G n)) where
    opened_alike : (text : List ℕ) (n : Nest) → OfBody n
        → Alike-form (λ a b. NestAlike n a.1 b.1) (nest (quote text) n) (nest (quote text) n)
    opened_alike text n of_body = same_opened f g here depth F G nests text n of_body

    expr_alike : (closures : Bool) → Alike-form Any (expr one closures) (expr two closures)
    expr_alike closures = same_expr f g here depth F G nests closures

    pub same_block : Alike-form Any (block one) (block two)
    unfolding block
    same_block =
        same_rule (same_then (opened_alike (codes "{") (in_block here) tt) (λ _ _ _. same_done tt))

    same_value : Alike-form Any (value one) (value two)
    unfolding value
    same_value =
        same_rule (same_then (same_token an_equals) (λ _ _ _. same_then (expr_alike true)
        (λ _ _ _. same_done tt)))

    same_literal_if : (is_plain plain : Bool) → is_plain ≡ plain
        → Alike-form Any (literal_if one is_plain) (literal_if two plain)
    unfolding literal_if
    same_literal_if is_plain plain is =
        same_rule (same_when is (same_then (text_alike (codes "??")) (λ _ _ _.
        same_then (same_a_literal f g here depth F G) (λ _ _ _. same_done tt))) (same_done tt))

    same_typed_binding : (a b : Binding) (colon other : ℕ) (written type : Typed)
        → TypesAlike written type
        → Alike-form Any (typed_binding one a colon written) (typed_binding two b other type)
    unfolding typed_binding
    same_typed_binding a b colon other written type is =
        same_rule (same_then (same_token an_equals) (λ _ _ _.
        same_then (same_value_in f g here depth F G nests written.wanted type.wanted is)
        (λ v w same. same_then (same_literal_if v.is_plain w.is_plain same)
        (λ _ _ _. same_done tt))))

    same_after_binding : (a b : Binding)
        → Alike-form Any (after_binding one a) (after_binding two b)
    unfolding after_binding
    same_after_binding a b =
        same_rule (same_either (same_then (text_alike (codes ":")) (λ colon place _.
        same_then (same_written_type f g here depth F G nests) (λ v w is.
        same_typed_binding a b colon place v w is)))
        (same_then same_value (λ _ _ _. same_done tt)))

    same_binding : (mutable : Bool) (at other : ℕ)
        → Alike-form Any (binding one mutable at) (binding two mutable other)
    unfolding binding
    same_binding mutable at other =
        same_rule (same_then declared_alike (λ a b _. same_after_binding
        (record { mutable = mutable; let_at = at; word = a })
        (record { mutable = mutable; let_at = other; word = b })))

    same_bind : Alike-form Any (bind one) (bind two)
    unfolding bind
    same_bind =
        same_rule (same_either (same_then (text_alike (codes "let")) (λ at other _.
        same_binding false at other)) (same_then (text_alike (codes "var")) (λ at other _.
        same_binding true at other)))

    same_discard : Alike-form Any (discard one) (discard two)
    unfolding discard
    same_discard =
        same_rule (same_then (text_alike (codes "_")) (λ _ _ _. same_then same_value
        (λ _ _ _. same_done tt)))

    operands_alike : (first other : Expr) → Alike-form Any (more_operands one true first)
        (more_operands two true other)
    operands_alike first other = same_more_operands f g here depth F G nests true first other

    same_after_place : (first other : Expr) → PlacesAlike first other
        → Alike-form Any (after_place one first) (after_place two other)
    unfolding after_place
    same_after_place first other is =
        same_rule (same_when is (same_then (same_token an_assignment) (λ _ _ _.
        same_then (expr_alike true) (λ _ _ _. same_done tt)))
        (same_then (operands_alike first other) (λ _ _ _. same_done tt)))

    same_word_stmt : Alike-form Any (word_stmt one) (word_stmt two)
    unfolding word_stmt
    same_word_stmt =
        same_rule (same_then (word_alike value_word) (λ name other _.
        same_then (same_after_word f g here depth F G nests name other)
        (λ a b is. same_after_place a b is)))

    same_self_stmt : Alike-form Any (self_stmt one) (self_stmt two)
    unfolding self_stmt
    same_self_stmt =
        same_rule (same_then (text_alike (codes "self")) (λ at other _.
        same_then (same_after_operand f g here depth F G nests (exprs.Me at) (exprs.Me other)
        (self_place at other)) (λ a b is. same_after_place a b is)))

    same_task_stmt : Alike-form Any (task_stmt one) (task_stmt two)
    unfolding task_stmt
    same_task_stmt =
        same_rule (same_then (text_alike (codes "Task")) (λ at other _.
        same_then (same_after_task f g here depth F G nests true at other) (λ a b _.
        same_then (same_after_any f g here depth F G nests a b) (λ c d _.
        same_then (operands_alike c d) (λ _ _ _. same_done tt)))))

    same_plain_stmt : Alike-form Any (plain_stmt one) (plain_stmt two)
    unfolding plain_stmt
    same_plain_stmt =
        same_rule (same_then (same_either (same_awaited f g here depth F G nests true)
        (same_then (same_either (same_negated f g here depth F G nests true)
        (same_then (same_a_literal f g here depth F G)
        (λ a b _. same_after_any f g here depth F G nests a b)))
        (λ c d _. operands_alike c d))) (λ _ _ _. same_done tt))

    same_if_let : (at other : ℕ) → Alike-form Any (if_let one at) (if_let two other)
    unfolding if_let
    same_if_let at other =
        same_rule (same_then (opened_alike (codes "let") (in_if_let here) tt)
        (λ _ _ _. same_done tt))

    same_after_arm : (arms others : List IfArm)
        → Alike-form ArmsAlike (after_arm one arms) (after_arm two others)
    unfolding after_arm
    same_after_arm arms others =
        same_rule (same_either (same_then (text_alike (codes "else")) (λ _ _ _. same_either
        (same_then (text_alike (codes "if")) (λ _ _ _. same_done refl))
        (same_then same_block (λ _ _ _. same_done refl)))) (same_done refl))

    same_next_arm : (arms others : Arms)
        → Alike-form ArmsAlike (next_arm one arms) (next_arm two others)
    unfolding next_arm
    same_next_arm arms others =
        same_rule (same_then (expr_alike false) (λ _ _ _. same_then same_block (λ _ _ _.
        same_after_arm _ _)))

    same_last_arm : (arms others : Arms)
        → Alike-form ArmsAlike (last_arm one arms) (last_arm two others)
    unfolding last_arm
    same_last_arm arms others =
        same_rule (same_then (same_if_let (place_of arms.next) (place_of others.next))
        (λ _ _ _. same_done refl))

    arms_alike : (at other : ℕ) → Alike-form ArmsAlike
        (until has_next (record { arms = []; next = arm_at at }) (next_arm one) (last_arm one))
        (until has_next (record { arms = []; next = arm_at other }) (next_arm two) (last_arm two))
    arms_alike at other = record {
      answers = alike_until ArmsAlike (λ _ _ is. is) refl (λ a b _. same_next_arm a b)
          (λ a b _. same_last_arm a b);
    }

    pub same_if : Alike-form Any (if_stmt one) (if_stmt two)
    unfolding if_stmt
    same_if =
        same_rule (same_then (text_alike (codes "if")) (λ at other _.
        same_then (arms_alike at other) (λ _ _ _. same_done tt)))

    same_while : Alike-form Any (while_stmt one) (while_stmt two)
    unfolding while_stmt
    same_while =
        same_rule (same_then (text_alike (codes "while")) (λ _ _ _. same_then (expr_alike false)
        (λ _ _ _. same_then (opened_alike (codes "{") (in_block (with_break one).here) tt)
        (λ _ _ _. same_done tt))))

    same_switch : Alike-form Any (switch_stmt one) (switch_stmt two)
    unfolding switch_stmt
    same_switch =
        same_rule (same_then (text_alike (codes "switch")) (λ _ _ _. same_then (expr_alike false)
        (λ _ _ _. same_then (opened_alike (codes "{") (in_switch (with_break one).here) tt)
        (λ _ _ _. same_done tt))))

    same_return : Alike-form Any (return_stmt one) (return_stmt two)
    unfolding return_stmt
    same_return =
        same_rule (same_then (text_alike (codes "return")) (λ _ _ _. same_either
        (same_then (same_same_line (same_value_in f g here depth F G nests here.wanted here.wanted
        refl))
        (λ _ _ _. same_done tt)) (same_done tt)))

    same_other_stmt : Alike-form Any (other_stmt one) (other_stmt two)
    unfolding other_stmt
    same_other_stmt =
        same_rule (same_when refl same_break (same_either same_discard (same_either same_if
        (same_either same_while (same_either same_switch (same_either same_return
        (same_either same_continue (same_either same_word_stmt (same_either same_self_stmt
        (same_either same_task_stmt same_plain_stmt))))))))))

    same_stmt : Alike-form Any (stmt one) (stmt two)
    unfolding stmt
    same_stmt =
        same_rule (same_either same_bind (same_then same_other_stmt (λ _ _ _. same_done tt)))

    same_items : Alike-form EndAlike (items (stmt one)) (items (stmt two))
    same_items = same_more_items refl same_stmt

    same_patterns_if : Alike-form Any (patterns_if one) (patterns_if two)
    unfolding patterns_if
    same_patterns_if =
        same_rule (same_either (same_then (opened_alike (codes "(") (in_patterns here) tt)
        (λ _ _ _. same_done tt)) (same_done tt))

-- Blocks: after each `async let` the words are the same.
module _ (f g : List ℕ → ℕ) (here : Here) (depth : ℕ) (F G : (n : Nest) → Reader (El n))
    (nests : (n : Nest) → OfBody n → Alike (NestAlike n) (F n) (G n)) where
  -- a statement after `async let`s
  stmt_alike : (v w : List (List ℕ)) → v ≡ w → SameForm depth F G Any
      (stmt (after_tasks (around_in f here) v)) (stmt (after_tasks (around_in g here) w))
  stmt_alike v w same =
      subst (λ x. SameForm depth F G Any (stmt (after_tasks (around_in f here) v))
      (stmt (after_tasks (around_in g here) x))) same
      (same_stmt f g (after_tasks (around_in f here) v).here depth F G nests)

  same_async_let : SameForm depth F G (λ a b. a.text ≡ b.text) (async_let (around_in f here))
      (async_let (around_in g here))
  unfolding async_let
  same_async_let =
      same_rule (same_then (same_quote f g here depth F G (codes "async")) (λ _ _ _.
      same_then (same_quote f g here depth F G (codes "let")) (λ _ _ _.
      same_then (declared_alike f g here depth F G) (λ _ _ text.
      same_then (same_token an_equals) (λ _ _ _.
      same_then (same_expr f g here depth F G nests true) (λ _ _ _. same_done text))))))

  same_async_part : SameForm depth F G BodiesAlike (async_part (around_in f here))
      (async_part (around_in g here))
  unfolding async_part
  same_async_part =
      same_rule (same_then same_async_let (λ a b text.
      same_then (same_skip f g here depth F G (codes ";")) (λ _ _ ended.
      let tasks = ap (λ x. here.tasks ++ x ∷ []) text in
      same_then (same_more_items ended (stmt_alike (here.tasks ++ a.text ∷ [])
      (here.tasks ++ b.text ∷ []) tasks)) (λ _ _ is. same_done (is, tasks)))))

-- The blocks.
module _ (f g : List ℕ → ℕ) (here : Here) (depth : ℕ) (F G : (n : Nest) → Reader (El n))
    (nests : (n : Nest) → OfBody n → Alike (NestAlike n) (F n) (G n)) where
  abbrev first : Around
  first = around_in f here

  abbrev second : Around
  second = around_in g here

  text_same : (text : List ℕ) → SameForm depth F G Any (expect text) (expect text)
  text_same text = same_quote f g here depth F G text

  -- an `async let` after others
  part_alike : (v w : List (List ℕ)) → v ≡ w → SameForm depth F G BodiesAlike
      (async_part (after_tasks first v)) (async_part (after_tasks second w))
  part_alike v w same =
      subst (λ x. SameForm depth F G BodiesAlike (async_part (after_tasks first v))
      (async_part (after_tasks second x))) same
      (same_async_part f g (after_tasks first v).here depth F G nests)

  same_async_parts : (a b : Body) → BodiesAlike a b
      → SameForm depth F G BodiesAlike (async_parts first a) (async_parts second b)
  unfolding async_parts
  same_async_parts a b alike =
      same_rule (same_turns BodiesAlike (λ _ _ _. refl) alike (λ c d is.
      same_then (same_line_start (ap not is.0) (part_alike c.tasks d.tasks is.1)) (λ _ _ next.
      same_done next)))

  pub same_statements : SameForm depth F G Any (statements first) (statements second)
  unfolding statements
  same_statements =
      same_rule (same_then (same_items f g here depth F G nests) (λ a b is.
      same_then (same_async_parts (begun first a) (begun second b) (is, refl)) (λ _ _ _.
      same_then (text_same (codes "}")) (λ _ _ _. same_done tt))))

  same_arm_body : SameForm depth F G BodiesAlike (arm_body first) (arm_body second)
  unfolding arm_body
  same_arm_body =
      same_rule (same_then (same_either (same_then
      (same_some_items (same_stmt f g here depth F G nests))
      (λ _ _ is. same_done (is, refl)))
      (same_async_part f g here depth F G nests))
      (λ a b is. same_async_parts a b is))

  same_case_part : (cases others : Cases)
      → SameForm depth F G CasesAlike (case_part first cases) (case_part second others)
  unfolding case_part
  same_case_part cases others =
      same_rule (same_then (text_same (codes "case")) (λ _ _ _.
      same_then (text_same (codes ".")) (λ _ _ _. same_then (same_name f g here depth F G word (codes "print")) (λ _ _ _.
      same_then (same_patterns_if f g here depth F G nests) (λ _ _ _. same_then (text_same (codes ":")) (λ _ _ _.
      same_then same_arm_body (λ _ _ is. same_done is.0)))))))

  same_default_part : SameForm depth F G Any (default_part first) (default_part second)
  unfolding default_part
  same_default_part =
      same_rule (same_then (text_same (codes "default")) (λ _ _ _.
      same_then (text_same (codes ":")) (λ _ _ _.
      same_then same_arm_body (λ _ _ _. same_done tt))))

  pub same_switch_inside : SameForm depth F G Any (switch_inside first) (switch_inside second)
  unfolding switch_inside
  same_switch_inside =
      same_rule (same_then (same_turns CasesAlike (λ _ _ _. refl) refl (λ a b is.
      same_line_start (ap not is) (same_case_part a b))) (λ _ _ is.
      same_then (same_either (same_line_start (ap not is) same_default_part) (same_done tt))
      (λ _ _ _. same_then (text_same (codes "}")) (λ _ _ _. same_done tt))))

-- What stands in an `if` after the `let` of an arm.
module _ (f g : List ℕ → ℕ) (here : Here) (depth : ℕ) (F G : (n : Nest) → Reader (El n))
    (nests : (n : Nest) → OfBody n → Alike (NestAlike n) (F n) (G n)) where
  unbroken : Here
  unbroken = (without_break (around_in f here)).here

  block_alike : SameForm depth F G Any (block (without_break (around_in f here)))
      (block (without_break (around_in g here)))
  unfolding unbroken
  block_alike = same_block f g unbroken depth F G nests

  same_later_arms : SameForm depth F G Any (later_arms (around_in f here))
      (later_arms (around_in g here))
  unfolding later_arms unbroken
  same_later_arms =
      same_rule (same_either (same_then (same_quote f g here depth F G (codes "else")) (λ _ _ _.
      same_either (same_then (same_if f g unbroken depth F G nests) (λ _ _ _. same_done tt))
      block_alike)) (same_done tt))

  pub same_if_let_inside : SameForm depth F G Any (if_let_inside (around_in f here))
      (if_let_inside (around_in g here))
  unfolding if_let_inside
  same_if_let_inside =
      same_rule (same_then (same_new_name f g here depth F G) (λ _ _ _.
      same_then (same_token an_equals) (λ _ _ _.
      same_then (same_expr f g here depth F G nests false) (λ _ _ _.
      same_then block_alike (λ _ _ _. same_then same_later_arms (λ _ _ _. same_done tt))))))

-- Closures and tasks: what a `return` in them gives is theirs.
module _ (f g : List ℕ → ℕ) (here : Here) (depth : ℕ) (F G : (n : Nest) → Reader (El n))
    (nests : (n : Nest) → OfBody n → Alike (NestAlike n) (F n) (G n)) where
  same_body : (v w : Option (List ℕ)) → v ≡ w → SameForm depth F G Any
      (statements (returning (around_in f here) v)) (statements (returning (around_in g here) w))
  same_body v w same =
      subst (λ x. SameForm depth F G Any (statements (returning (around_in f here) v))
      (statements (returning (around_in g here) x))) same
      (same_statements f g (returning (around_in f here) v).here depth F G nests)

  pub same_closure_inside : SameForm depth F G Any (closure_inside (around_in f here))
      (closure_inside (around_in g here))
  unfolding closure_inside
  same_closure_inside =
      same_rule (same_then (same_header f g here depth F G nests) (λ a b is.
      same_then (same_body (wanted_of a.result) (wanted_of b.result) is) (λ _ _ _. same_done tt)))

  pub same_task_inside : SameForm depth F G Any (task_inside (around_in f here))
      (task_inside (around_in g here))
  unfolding task_inside
  same_task_inside =
      same_rule (same_then (same_task_header f g here depth F G nests) (λ a b is.
      same_then (same_body (wanted_of a.result) (wanted_of b.result) is) (λ _ _ _. same_done tt)))
