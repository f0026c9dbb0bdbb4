-- What statements weigh.
use Rattle.std.proofs.Common.{◌≡◌, ℕ, ◌+◌, ◌≤◌, Bool, true, false, not, IsTrue, List, [], ◌∷◌, ◌++◌}
use Rattle.std.proofs.Common.{Option, None, Some, codes, length, refl, sym, subst, arith}
use Rattle.sw_token.specs.Spelling.{Spelled}
use Rattle.sw_grammar_forms.proofs.CursorSteps.{seen_text}
use Rattle.sw_grammar_forms.proofs.Rising.{HasTokenText}
use Rattle.sw_grammar_forms.specs.Form.{a_word}
use Rattle.sw_grammar_forms.specs.Quotes.{quote}
use Rattle.sw_grammar_forms.specs.Relations.{Relation, One, is_none_of, spelled, stays}
use Rattle.sw_grammar_forms.specs.Sets.{has, is_quoted, quoted, word}
use Rattle.sw_grammar_forms.specs.Terminals.{expect, ◌>>=◌}
use Rattle.sw_tree.specs.Place.{is_place}
use Rattle.sw_tree.proofs.Counting.{Weight, in_all, in_option, in_all-append}
use Rattle.sw_tree.specs.declared.expr.Expr.{Expr}
use Rattle.sw_tree.specs.declared.expr.Expr.TheVariants as exprs
use Rattle.sw_tree.specs.declared.stmt.IfArm.{IfArm}
use Rattle.sw_tree.specs.declared.stmt.Stmt.TheVariants as stmts
use Rattle.sw_tree.specs.declared.type_tree.TypeTree.{TypeTree}
use Rattle.sw_sugar.specs.Optionals.{some_arm}
use Rattle.sw_grammar.specs.Around.{Around, with_break}
use Rattle.sw_grammar.specs.Nests.{Nest, El, IfLet, shape_of}
use Rattle.sw_grammar.specs.Nests.Nest.{in_block, in_if_let, in_switch}
use Rattle.sw_grammar.specs.Tokens.{name_of, value_word, an_assignment, assign_ops}
use Rattle.sw_grammar.specs.Types.{Typed}
use Rattle.sw_grammar.specs.Words.{declared_as}
use Rattle.sw_grammar.specs.Stmts.{block_of, if_arm, Arms, Binding, Next, Or}
use Rattle.sw_grammar.specs.Stmts.Next.{arm_at, no_more, other_block, last_stmt}
use Rattle.sw_grammar.specs.Stmts.{is_arm, has_next, place_of, if_of, if_with, if_let_of, bound}
use Rattle.sw_grammar.specs.Stmts.{block, value, type_if, literal_if, typed_binding, after_binding}
use Rattle.sw_grammar.specs.Stmts.{binding, bind, discard, after_place, word_stmt, self_stmt}
use Rattle.sw_grammar.specs.Stmts.{task_stmt, plain_stmt, if_let, after_arm, next_arm, last_arm}
use Rattle.sw_grammar.specs.Stmts.{if_stmt, while_stmt, switch_stmt, return_stmt, break_stmt}
use Rattle.sw_grammar.specs.Stmts.{continue_stmt, other_stmt, stmt}
use Rattle.sw_grammar_facts.proofs.ExprRules.{own_after_word, own_after_operand, own_a_literal}
use Rattle.sw_grammar_facts.proofs.ExprRules.{own_after_task, own_negated, own_more_operands}
use Rattle.sw_grammar_facts.proofs.ExprRules.{own_awaited, own_expr}
use Rattle.sw_grammar_facts.proofs.NestWeights.{weight, of_typed_if, if_let_weight}
use Rattle.sw_grammar_facts.proofs.Owning.{none, Owns, OwnsAfter, own_after_any}
use Rattle.sw_grammar_facts.proofs.Owning.{own_after_either, own_after_test, own_chosen}
use Rattle.sw_grammar_facts.proofs.Owning.{own_done, own_either, own_from, own_only}
use Rattle.sw_grammar_facts.proofs.Owning.{own_passing, own_past, own_read}
use Rattle.sw_grammar_facts.proofs.Owning.{own_after_none, own_then, own_token}
use Rattle.sw_grammar_facts.proofs.Owning.{own_turns, own_when, own_with}
use Rattle.sw_grammar_facts.specs.Interned.{is_binding}
use Rattle.sw_grammar_facts.proofs.Questions.{is_paid, other_of}
use Rattle.sw_grammar_facts.proofs.Spread.{spread}
use Rattle.sw_grammar_facts.proofs.TypeRules.{Keeps, own_quote, own_name, own_opened}
use Rattle.sw_grammar_facts.proofs.TypeRules.{own_whole, own_written_type, whole_weighs}
use Rattle.sw_grammar_facts.proofs.Unmarked.{fits, wants_word}
use Rattle.sw_grammar_facts.proofs.ValueRules.{own_equals, own_value_in}
use Rattle.sw_grammar_facts.proofs.Wanted.{own_then_knowing}
use Rattle.sw_grammar_facts.proofs.Wanted.{want_written_type}
use Rattle.sw_grammar_facts.proofs.Weighing.{IsTyped, Weighing}

-- What an optional's other value weighs, and the words of a variable with a type.
module _ {id_of : List ℕ → ℕ} (w : Weighing id_of) where
  abbrev or_weight : Or → Weight
  or_weight or k = spread w.place 2 or.op_at k + w.expr or.other k

  abbrev words_weight : Binding → ℕ → Weight
  words_weight binding colon_at k =
      spread w.place 3 binding.let_at k + w.node binding.word.name k + w.place colon_at k

  -- the arms of an `if` that are read, and what comes after them
  abbrev next_weight : Next → Weight
  next_weight (arm_at at) = w.place at
  next_weight no_more = none
  next_weight (other_block body) = w.block body
  next_weight (last_stmt rest) = w.stmt rest

  -- An `if` without arms weighs what it does. None is read.
  abbrev bare_if : Next → List IfArm → Weight
  bare_if no_more [] = w.stmt (stmts.If [] None)
  bare_if (other_block body) [] = w.stmt (stmts.If [] (Some body))
  bare_if next arms = none

  abbrev armed : Arms → Weight
  armed arms k =
      in_all w.if_arm arms.arms k + next_weight arms.next k + bare_if arms.next arms.arms k

  -- with an arm there is nothing more
  some_arms : (arms : List IfArm) (one : IfArm) (next : Next) (k : ℕ)
      → bare_if next (arms ++ one ∷ []) k ≤ 0
  some_arms arms one (arm_at at) k = omega arith
  some_arms arms one (last_stmt rest) k = omega arith
  some_arms [] one no_more k = omega arith
  some_arms (arm ∷ arms) one no_more k = omega arith
  some_arms [] one (other_block body) k = omega arith
  some_arms (arm ∷ arms) one (other_block body) k = omega arith

  -- the place of the `if` of another arm
  place_paid : (next : Next) → IsTrue (is_arm next) → (k : ℕ)
      → w.place (place_of next) k ≤ next_weight next k
  place_paid (arm_at at) is k = omega arith
  place_paid no_more is k = absurd (cc)
  place_paid (other_block body) is k = absurd (cc)
  place_paid (last_stmt rest) is k = absurd (cc)

  -- An `if` that another arm doesn't follow.
  if_weighs : (arms : List IfArm) (next : Next) → is_arm next ≡ false → (k : ℕ)
      → w.stmt (if_with arms next) k
      ≤ in_all w.if_arm arms k + next_weight next k + bare_if next arms k
  unfolding in_option in_all
  if_weighs arms (arm_at at) ended k = absurd (cc)
  if_weighs [] no_more ended k = omega arith
  if_weighs [] (other_block body) ended k = omega arith
  if_weighs [] (last_stmt rest) ended k = omega arith
  if_weighs (arm ∷ arms) no_more ended k = omega (arith, w.stmt-If arm arms None k)
  if_weighs (arm ∷ arms) (other_block body) ended k =
      omega (arith, w.stmt-If arm arms (Some body) k)
  if_weighs (arm ∷ arms) (last_stmt rest) ended k =
      omega (
        arith,
        w.stmt-If arm arms (Some (block_of (rest ∷ []))) k,
        w.block-roll (rest ∷ []) k,
        w.stmts-one rest k,
      )

module _ (around : Around) (w : Weighing around.id_of) where
  bound_weighs : (binding : Binding) (word_token colon : Spelled)
      → (typed : IsTyped around.id_of binding word_token colon)
      → IsTrue (w.tally.known (typed.let_token ∷ word_token ∷ colon ∷ []))
      → (colon_at : ℕ) (ty : TypeTree)
      → (eq_at : ℕ) (value : Expr) (or : Option Or) (k : ℕ)
      → w.stmts (bound around binding colon_at ty eq_at value or) k
      ≤ words_weight w binding colon_at k + w.type ty k + w.place eq_at k + w.expr value k
      + in_option (or_weight w) or k
  unfolding in_option
  bound_weighs binding word_token colon typed known colon_at ty eq_at value None k =
      let one = stmts.Bind binding.mutable binding.word.name (Some ty) value in
      omega (
        arith,
        w.stmts-one one k,
        w.stmt-Bind binding.mutable binding.word.name (Some ty) value k,
      )
  bound_weighs binding word_token colon typed known colon_at ty eq_at value (Some or) k =
      omega (
        arith,
        w.stmts-Or binding word_token colon typed known colon_at ty eq_at value or k,
      )

  if_let_weighs : (at let_at : ℕ) (it : IfLet) (k : ℕ)
      → w.stmt (if_let_of around at let_at it) k
      ≤ w.place at k + w.place let_at k + if_let_weight w it k
  unfolding in_all in_option
  if_let_weighs at let_at it k =
      let arm = some_arm (around.id_of (codes "some")) let_at it.name it.chosen in
      omega (
        arith,
        w.stmt-Switch at it.subject (arm ∷ []) (Some it.otherwise) k,
        w.arm-Some let_at it.name it.chosen k,
      )

module _ (around : Around) (w : Weighing around.id_of) (table : (n : Nest) → Relation (El n))
    (nests : (n : Nest) → IsTrue (fits n) → Owns w.tally none (table n) (weight w n))
    (fit : IsTrue (wants_word around.here.wanted)) where
  pub own_block : Keeps w table (block around) none w.block
  unfolding block
  own_block =
      own_then _ _ (own_opened w table nests (codes "{") refl (in_block around.here) fit) (λ body.
      own_done _ (λ k. omega (arith, w.block-roll body.1 k)))

  pub own_value : Keeps w table (value around) none w.expr
  unfolding value
  own_value =
      own_past _ (λ _. own_then _ _ (own_expr around w table nests fit true) (λ given.
      own_done _ (λ k. omega arith)))

  pub own_type_if : Keeps w table (type_if around) none (of_typed_if w)
  unfolding type_if in_option
  own_type_if =
      own_either _ (own_past _ (λ _. own_then _ _ (own_written_type around w table nests) (λ written.
      own_done _ (λ k. omega arith)))) (own_done _ (λ k. omega arith))

  own_literal_if : (is_plain : Bool)
      → Keeps w table (literal_if around is_plain) none (in_option (or_weight w))
  unfolding literal_if in_option
  own_literal_if is_plain =
      own_when _ is_plain (λ _. own_then _ _ (own_whole w table (codes "??") refl refl) (λ op_at.
      own_then _ _ (own_a_literal around w table nests fit) (λ other. own_done _ (λ k. omega arith))))
      (own_done _ (λ k. omega arith))

  own_typed_binding : (binding : Binding) (word_token colon : Spelled)
      → (typed : IsTyped around.id_of binding word_token colon)
      → IsTrue (w.tally.known (typed.let_token ∷ word_token ∷ colon ∷ []))
      → (colon_at : ℕ) (written : Typed)
      → IsTrue (wants_word written.wanted)
      → Keeps w table (typed_binding around binding colon_at written)
      (λ k. words_weight w binding colon_at k + w.type written.tree k) w.stmts
  unfolding typed_binding
  own_typed_binding binding word_token colon typed known colon_at written wants =
      own_then _ _ (own_equals w) (λ eq_at.
      own_then _ _ (own_value_in around w table nests fit written.wanted wants) (λ given.
      own_then _ _ (own_literal_if given.is_plain) (λ or. own_done _ (λ k.
      omega (
        arith,
        bound_weighs around w binding word_token colon typed known colon_at written.tree eq_at
            given.value or k,
      )))))

  own_after_binding : (binding : Binding) (let_token word_token : Spelled)
      → is_binding let_token.text ≡ true → HasTokenText word_token → IsTrue (has word word_token)
      → binding.word.text ≡ word_token.text → binding.word.name ≡ name_of around.id_of word_token
      → OwnsAfter w.tally (let_token ∷ word_token ∷ [])
      (λ k. none k + spread w.place 3 binding.let_at k + w.node binding.word.name k)
      (spelled El shape_of table (after_binding around binding)) w.stmts
  unfolding after_binding in_option
  own_after_binding binding let_token word_token is_let whole is_word text name =
      own_after_either _ (own_read _ (quote (codes ":")) w.place
      (λ token _ member k. w.of_place token (other_of (quoted (codes ":")) token refl member) k)
      (λ colon _ is_colon known.
      own_after_any _ (own_then_knowing w.tally _ (want_written_type around table)
      (own_written_type around w table nests) (λ written wants.
      own_with _ (λ k. omega arith) (own_typed_binding binding word_token colon (record {
        let_token = let_token;
        is_let = is_let;
        whole_text = whole;
        is_word = is_word;
        is_colon = is_colon;
        text = text;
        name = name;
      }) known colon.at written wants)))))
      (own_after_any _ (own_then _ _ own_value (λ given. own_done _ (λ k.
      omega (
        arith,
        w.stmts-one (stmts.Bind binding.mutable binding.word.name None given) k,
        w.stmt-Bind binding.mutable binding.word.name None given k,
      )))))

  own_binding : (mutable : Bool) (let_token : Spelled) → is_binding let_token.text ≡ true
      → OwnsAfter w.tally (let_token ∷ []) (λ k. none k + spread w.place 3 let_token.at k)
      (spelled El shape_of table (binding around mutable let_token.at)) w.stmts
  unfolding binding
  own_binding mutable let_token is_let =
      own_after_test _ (is_none_of around.here.tasks)
      (own_read _ (a_word (declared_as around)) (λ found. w.node found.name)
      (λ token whole member k.
      omega (arith, w.of_word token (other_of word token refl member) whole member k))
      (λ token whole member _. own_after_binding (record {
        mutable = mutable;
        let_at = let_token.at;
        word = declared_as around token;
      }) let_token token is_let whole member refl refl))

  -- `let` or `var`, and what comes after it
  own_bound : (text : List ℕ) (mutable : Bool) → is_quoted text ≡ true
      → is_paid (quoted text) ≡ true → length text ≡ 3 → is_binding text ≡ true
      → Keeps w table (expect text >>= binding around mutable) none w.stmts
  own_bound text mutable is paid three is_let =
      own_after_none _ (own_read _ (quote text) (spread w.place 3)
      (λ token _ member k. subst (λ n. spread w.place n token.at k ≤ w.tally.of_token token k) three
      (whole_weighs w table text is paid token member k))
      (λ token _ member _. own_binding mutable token
      (subst (λ chars. is_binding chars ≡ true) (sym (seen_text text (Some token) is member)) is_let)))

  own_bind : Keeps w table (bind around) none w.stmts
  unfolding bind
  own_bind =
      own_either _ (own_bound (codes "let") false refl refl refl refl)
      (own_bound (codes "var") true refl refl refl refl)

  own_discard : Keeps w table (discard around) none w.stmt
  unfolding discard
  own_discard =
      own_then _ _ (own_quote w table (codes "_") refl) (λ at. own_then _ _ own_value (λ given.
      own_done _ (λ k. omega (arith, w.stmt-Discard at given k))))

  own_assignment : Owns w.tally none (One an_assignment) (λ op. w.place op.1)
  own_assignment =
      own_token _ an_assignment
      (λ token member k. w.of_place token (other_of assign_ops token refl member) k)

  own_after_place : (first : Expr) → Keeps w table (after_place around first) (w.expr first) w.stmt
  unfolding after_place
  own_after_place first =
      own_when _ (is_place first) (λ is. own_then _ _ own_assignment (λ op.
      own_then _ _ (own_expr around w table nests fit true) (λ given. own_done _ (λ k.
      omega (arith, w.stmt-Assign op.1 op.0 first given is k)))))
      (own_from _ none w.expr (λ k. omega arith) (own_more_operands around w table nests fit true first)
      (λ whole. own_done _ (λ k. omega (arith, w.stmt-Plain whole k))))

  own_word_stmt : Keeps w table (word_stmt around) none w.stmt
  unfolding word_stmt
  own_word_stmt =
      own_then _ _ (own_name around w table value_word (codes "print") refl) (λ name.
      own_from _ none w.expr (λ k. omega arith) (own_after_word around w table nests fit name) (λ first.
      own_with _ (λ k. omega arith) (own_after_place first)))

  own_self_stmt : Keeps w table (self_stmt around) none w.stmt
  unfolding self_stmt
  own_self_stmt =
      own_then _ _ (own_quote w table (codes "self") refl) (λ at.
      own_from _ none w.expr (λ k. omega (arith, w.expr-Me at k))
      (own_after_operand around w table nests fit (exprs.Me at)) (λ first.
      own_with _ (λ k. omega arith) (own_after_place first)))

  own_task_stmt : Keeps w table (task_stmt around) none w.stmt
  unfolding task_stmt
  own_task_stmt =
      own_then _ _ (own_quote w table (codes "Task") refl) (λ at.
      own_from _ none w.expr (λ k. omega arith) (own_after_task around w table nests fit true at) (λ base.
      own_from _ none w.expr (λ k. omega arith) (own_after_operand around w table nests fit base) (λ first.
      own_from _ none w.expr (λ k. omega arith) (own_more_operands around w table nests fit true first)
      (λ whole. own_done _ (λ k. omega (arith, w.stmt-Plain whole k))))))

  own_plain_stmt : Keeps w table (plain_stmt around) none w.stmt
  unfolding plain_stmt
  own_plain_stmt =
      own_then _ w.expr (own_either _ (own_awaited around w table nests fit true) (own_then _ _
      (own_either _ (own_negated around w table nests fit true)
      (own_then _ _ (own_a_literal around w table nests fit) (λ base.
      own_with _ (λ k. omega arith) (own_after_operand around w table nests fit base))))
      (λ first. own_with _ (λ k. omega arith) (own_more_operands around w table nests fit true first))))
      (λ whole. own_done _ (λ k. omega (arith, w.stmt-Plain whole k)))

  own_if_let : (at : ℕ) → Keeps w table (if_let around at) (w.place at) w.stmt
  unfolding if_let
  own_if_let at =
      own_then _ _ (own_opened w table nests (codes "let") refl (in_if_let around.here) fit)
      (λ inside. own_done _ (λ k. omega (arith, if_let_weighs around w at inside.0 inside.1 k)))

  own_after_arm : (arms : List IfArm) (one : IfArm)
      → Keeps w table (after_arm around (arms ++ one ∷ [])) (in_all w.if_arm (arms ++ one ∷ [])) (armed w)
  unfolding after_arm
  own_after_arm arms one =
      own_either _ (own_past _ (λ _. own_either _
      (own_then _ _ (own_quote w table (codes "if") refl) (λ at. own_done _ (λ k.
      omega (arith, some_arms w arms one (arm_at at) k))))
      (own_then _ _ own_block (λ body. own_done _ (λ k.
      omega (arith, some_arms w arms one (other_block body) k))))))
      (own_done _ (λ k. omega (arith, some_arms w arms one no_more k)))

  own_next_arm : (arms : Arms) → IsTrue (has_next arms)
      → Keeps w table (next_arm around arms) (armed w arms) (armed w)
  unfolding next_arm in_all
  own_next_arm arms is =
      own_then _ _ (own_expr around w table nests fit false) (λ cond. own_then _ _ own_block (λ body.
      let one = if_arm (place_of arms.next) cond body in
      own_with _ (λ k. omega (
        arith,
        in_all-append w.if_arm arms.arms (one ∷ []) k,
        w.if_arm-roll (place_of arms.next) cond body k,
        place_paid w arms.next is k,
      )) (own_after_arm arms.arms one)))

  own_last_arm : (arms : Arms) → IsTrue (has_next arms)
      → Keeps w table (last_arm around arms) (armed w arms) (λ all. w.stmt (if_of all))
  unfolding last_arm
  own_last_arm arms is =
      own_from _ (in_all w.if_arm arms.arms) w.stmt
      (λ k. omega (arith, place_paid w arms.next is k)) (own_if_let (place_of arms.next)) (λ rest.
      own_done _ (λ k. omega (arith, if_weighs w arms.arms (last_stmt rest) refl k)))

  pub own_if_stmt : Keeps w table (if_stmt around) none w.stmt
  unfolding if_stmt in_all
  own_if_stmt =
      own_then _ _ (own_quote w table (codes "if") refl) (λ at.
      let start : Arms = record { arms = []; next = arm_at at } in
      own_from _ {start = armed w start} none (λ all. w.stmt (if_of all)) (λ k. omega arith)
      (own_from _ {start = armed w start} none (armed w) (λ k. omega arith)
      (own_turns _ {w = armed w} (λ arms. own_only _ (has_next arms) (own_next_arm arms))
      start)
      (λ arms. own_chosen _ (has_next arms)
      (λ is. own_with _ (λ k. omega arith) (own_last_arm arms is))
      (λ ended. own_done _ (λ k. omega (arith, if_weighs w arms.arms arms.next ended k)))))
      (λ arms. own_done _ (λ k. omega arith)))

  own_while_stmt : Keeps w table (while_stmt around) none w.stmt
  unfolding while_stmt
  own_while_stmt =
      own_then _ _ (own_quote w table (codes "while") refl) (λ at.
      own_then _ _ (own_expr around w table nests fit false) (λ cond.
      own_then _ _ (own_opened w table nests (codes "{") refl
      (in_block (with_break around).here) fit) (λ body. own_done _ (λ k.
      omega (
        arith,
        w.stmt-While at cond (block_of body.1) k,
        w.block-roll body.1 k,
      )))))

  own_switch_stmt : Keeps w table (switch_stmt around) none w.stmt
  unfolding switch_stmt
  own_switch_stmt =
      own_then _ _ (own_quote w table (codes "switch") refl) (λ at.
      own_then _ _ (own_expr around w table nests fit false) (λ subject.
      own_then _ _ (own_opened w table nests (codes "{") refl
      (in_switch (with_break around).here) fit) (λ arms. own_done _ (λ k.
      omega (arith, w.stmt-Switch at subject arms.1.0 arms.1.1 k)))))

  own_return_stmt : Keeps w table (return_stmt around) none w.stmt
  unfolding return_stmt in_option
  own_return_stmt =
      own_then _ _ (own_quote w table (codes "return") refl) (λ at. own_either _
      (own_then _ _ (own_passing _ stays
      (own_value_in around w table nests fit around.here.wanted fit)) (λ given.
      own_done _ (λ k. omega (arith, w.stmt-Return at (Some given.value) k))))
      (own_done _ (λ k. omega (arith, w.stmt-Return at None k))))

  own_break_stmt : Keeps w table (break_stmt around) none w.stmt
  unfolding break_stmt
  own_break_stmt =
      own_then _ _ (own_quote w table (codes "break") refl) (λ at. own_done _ (λ k.
      omega (arith, w.stmt-Break at k)))

  own_continue_stmt : Keeps w table (continue_stmt around) none w.stmt
  unfolding continue_stmt
  own_continue_stmt =
      own_then _ _ (own_quote w table (codes "continue") refl) (λ at. own_done _ (λ k.
      omega (arith, w.stmt-Continue at k)))

  own_other_stmt : Keeps w table (other_stmt around) none w.stmt
  unfolding other_stmt
  own_other_stmt =
      own_when _ (not around.here.no_break) (λ _. own_break_stmt) (own_either _ own_discard
      (own_either _ own_if_stmt (own_either _ own_while_stmt (own_either _ own_switch_stmt
      (own_either _ own_return_stmt (own_either _ own_continue_stmt (own_either _ own_word_stmt
      (own_either _ own_self_stmt (own_either _ own_task_stmt own_plain_stmt)))))))))

  pub own_stmt : Keeps w table (stmt around) none w.stmts
  unfolding stmt
  own_stmt =
      own_either _ own_bind (own_then _ _ own_other_stmt (λ other. own_done _ (λ k.
      omega (arith, w.stmts-one other k))))
