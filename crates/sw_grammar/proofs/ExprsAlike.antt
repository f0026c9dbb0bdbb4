-- Which tokens an expression has doesn't depend on the indices of names.
use Rattle.std.proofs.Common.{◌≡◌, ℕ, Bool, true, Option, Some, None, List, [], ◌∷◌, ◌++◌}
use Rattle.std.proofs.Common.{codes, refl, sym, ◌∙◌}
use Rattle.std.specs.Prelude.{is_none}
use Rattle.sw_grammar_forms.specs.Sets.{Set, quoted, word}
use Rattle.sw_grammar_forms.specs.Form.{Shape}
use Rattle.sw_grammar_forms.specs.Form.Form.{done, terminal, turns, nest}
use Rattle.sw_grammar_forms.specs.Quotes.{quote, quote_on_line, an_integer}
use Rattle.sw_grammar_forms.specs.Reader.{Reader}
use Rattle.sw_grammar_forms.specs.Terminals.{◌>>=◌, expect, literal}
use Rattle.sw_grammar_forms.proofs.Alike.{Alike, Any, same_done, same_token, same_then, same_either}
use Rattle.sw_grammar_forms.proofs.Alike.{same_when, same_turns, same_nest, same_rule, same_weaker}
use Rattle.sw_tree.proofs.FoldEquations.{fold_expr-Use, fold_expr-Member, fold_expr-Call}
use Rattle.sw_tree.proofs.FoldEquations.{fold_expr-Method}
use Rattle.sw_tree.specs.Place.{is_place, place_steps}
use Rattle.sw_tree.specs.declared.name.Name.{Name}
use Rattle.sw_tree.specs.declared.expr.Expr.{Expr}
use Rattle.sw_tree.specs.declared.expr.Expr.TheVariants as exprs
use Rattle.sw_tree.specs.declared.expr.Arg.{Arg}
use Rattle.sw_grammar.specs.Around.{Around, Here, around_in}
use Rattle.sw_grammar.specs.Nests.{Nest, El, Form, Link}
use Rattle.sw_grammar.specs.Nests.Nest.{in_round, in_args, in_member, in_empty, in_closure, in_task}
use Rattle.sw_grammar.specs.Tokens.{value_word, times, plus, compares, infix_op, infix_in, a_prefix}
use Rattle.sw_grammar.specs.Tokens.{name_in}
use Rattle.sw_grammar.specs.Exprs.{linked, members, call, member, after_word}
use Rattle.sw_grammar.specs.Exprs.{after_operand, a_literal, after_task_dot, after_task, bracketed}
use Rattle.sw_grammar.specs.Exprs.{me, closure, other_primary, postfix, negated, unary, more_times}
use Rattle.sw_grammar.specs.Exprs.{product, more_plus, sum, more_compares, comparison, more_and}
use Rattle.sw_grammar.specs.Exprs.{conjunction, more_or, more_operands, awaited, expr, other_expr}
use Rattle.sw_grammar.specs.Exprs.{labelled, arg, args, round, nothing}
use Rattle.sw_grammar.proofs.TypesAlike.{LinksAlike, NestAlike, OfBody, SameForm, same_quote}
use Rattle.sw_grammar.proofs.TypesAlike.{same_name, same_list_of, same_opened}

-- both are places, or none is
abbrev pub PlacesAlike : Expr → Expr → Type 0
PlacesAlike a b = is_place a ≡ is_place b

-- both are there, or none is
abbrev pub CallsAlike : Option (List Arg) → Option (List Arg) → Type 0
CallsAlike a b = is_none a ≡ is_none b

no_links : LinksAlike [] []
no_links base other same = same

member_place : (base : Expr) (name : Name) → is_place (exprs.Member base name) ≡ is_place base
unfolding is_place
member_place base name = fold_expr-Member place_steps base name

more_links : (name other : Name) (given others : Option (List Arg)) (links more : List Link)
    → CallsAlike given others → LinksAlike links more
    → LinksAlike ((name, given) ∷ links) ((other, others) ∷ more)
unfolding is_place
more_links name other None None links more is alike base base' same =
    alike (exprs.Member base name) (exprs.Member base' other)
    (member_place base name ∙ (same ∙ sym (member_place base' other)))
more_links name other None (Some _) links more is alike base base' same = absurd (cc)
more_links name other (Some _) None links more is alike base base' same = absurd (cc)
more_links name other (Some xs) (Some ys) links more is alike base base' same =
    alike (exprs.Method base name xs) (exprs.Method base' other ys)
    (fold_expr-Method place_steps base name xs ∙ sym (fold_expr-Method place_steps base' other ys))

-- a word, or a call of it
abbrev called : Name → Option (List Arg) → Expr
called name None = exprs.Use name
called name (Some given) = exprs.Call name given

calls_alike : (name other : Name) (given others : Option (List Arg)) → CallsAlike given others
    → PlacesAlike (called name given) (called other others)
unfolding is_place
calls_alike name other None None is =
    fold_expr-Use place_steps name ∙ sym (fold_expr-Use place_steps other)
calls_alike name other None (Some _) is = absurd (cc)
calls_alike name other (Some _) None is = absurd (cc)
calls_alike name other (Some xs) (Some ys) is =
    fold_expr-Call place_steps name xs ∙ sym (fold_expr-Call place_steps other ys)

module _ (f g : List ℕ → ℕ) (here : Here) (depth : ℕ) (F G : (n : Nest) → Reader (El n)) where
  abbrev one : Around
  one = around_in f here

  abbrev two : Around
  two = around_in g here

  abbrev Alike-form : {s : Shape} {A : Type 0} → (A → A → Type 0) → Form s A → Form s A → Type 0
  Alike-form P p q = SameForm depth F G P p q

  word_alike : (set : Set) (text : List ℕ)
      → Alike-form Any (terminal (name_in one set text)) (terminal (name_in two set text))
  word_alike set text = same_name f g here depth F G set text

  text_alike : (text : List ℕ) → Alike-form Any (expect text) (expect text)
  text_alike text = same_quote f g here depth F G text

  -- operators and their operands
  same_links : {s : Shape} (set : Set) (text : List ℕ) (p q : Form s Expr) → Alike-form Any p q
      → Alike-form Any
      (turns (λ _. true) [] (λ links. (terminal (infix_in set text) >>= λ op.
      p >>= λ x. done (links ++ linked op x ∷ []))))
      (turns (λ _. true) [] (λ links. (terminal (infix_in set text) >>= λ op.
      q >>= λ x. done (links ++ linked op x ∷ []))))
  same_links set text p q h =
      same_turns Any (λ _ _ _. refl) tt (λ _ _ _. same_then (same_token (infix_in set text))
      (λ _ _ _. same_then h (λ _ _ _. same_done tt)))

  same_literal : Alike-form Any literal literal
  unfolding literal
  same_literal = same_rule (same_token an_integer)

  pub same_a_literal : Alike-form Any (a_literal one) (a_literal two)
  unfolding a_literal
  same_a_literal =
      same_rule (same_either (same_then same_literal (λ _ _ _. same_done tt))
      (same_either (same_then (text_alike (codes "true")) (λ _ _ _. same_done tt))
      (same_then (text_alike (codes "false")) (λ _ _ _. same_done tt))))

  same_me : Alike-form Any (me one) (me two)
  unfolding me
  same_me = same_rule (same_then (text_alike (codes "self")) (λ _ _ _. same_done tt))

  pub same_nothing : Alike-form Any (nothing one) (nothing two)
  unfolding nothing
  same_nothing = same_rule (same_then (text_alike (codes ")")) (λ _ _ _. same_done tt))

  module _ (nests : (n : Nest) → OfBody n → Alike (NestAlike n) (F n) (G n)) where
    opened_alike : (text : List ℕ) (n : Nest) → OfBody n
        → Alike-form (λ a b. NestAlike n a.1 b.1) (nest (quote text) n) (nest (quote text) n)
    opened_alike text n of_body = same_opened f g here depth F G nests text n of_body

    pub same_members : Alike-form LinksAlike (members one) (members two)
    unfolding members
    same_members =
        same_rule (same_either (same_then (opened_alike (codes ".") (in_member here) tt)
        (λ _ _ is. same_done is)) (same_done no_links))

    same_call : Alike-form CallsAlike (call one) (call two)
    unfolding call
    same_call =
        same_rule (same_either
        (same_then (same_nest (quote_on_line (codes "(")) (in_args here) Any (nests (in_args here) tt))
        (λ _ _ _. same_done refl)) (same_done refl))

    pub same_member : Alike-form LinksAlike (member one) (member two)
    unfolding member
    same_member =
        same_rule (same_then (word_alike word (codes "print")) (λ name other _.
        same_then same_call (λ given others is. same_then same_members (λ links more alike.
        same_done (more_links name other given others links more is alike)))))

    pub same_after_word : (name other : Name)
        → Alike-form PlacesAlike (after_word one name) (after_word two other)
    unfolding after_word
    same_after_word name other =
        same_rule (same_then same_call (λ given others is. same_then same_members
        (λ links more alike. same_done (alike (called name given) (called other others)
        (calls_alike name other given others is)))))

    pub same_after_operand : (base other : Expr) → PlacesAlike base other
        → Alike-form PlacesAlike (after_operand one base) (after_operand two other)
    unfolding after_operand
    same_after_operand base other is =
        same_rule (same_then same_members (λ links more alike. same_done (alike base other is)))

    pub same_after_any : (base other : Expr)
        → Alike-form Any (after_operand one base) (after_operand two other)
    unfolding after_operand
    same_after_any base other = same_rule (same_then same_members (λ _ _ _. same_done tt))

    same_after_task_dot : (closures : Bool) (at other : ℕ)
        → Alike-form Any (after_task_dot one closures at) (after_task_dot two closures other)
    unfolding after_task_dot
    same_after_task_dot closures at other =
        same_rule (same_when refl (same_then (text_alike (codes "detached")) (λ _ _ _.
        same_then (opened_alike (codes "{") (in_task here) tt) (λ _ _ _. same_done tt)))
        (same_then (text_alike (codes "yield")) (λ _ _ _.
        same_then (opened_alike (codes "(") in_empty tt) (λ _ _ _. same_done tt))))

    pub same_after_task : (closures : Bool) (at other : ℕ)
        → Alike-form Any (after_task one closures at) (after_task two closures other)
    unfolding after_task
    same_after_task closures at other =
        same_rule (same_when refl
        (same_then (opened_alike (codes "{") (in_task here) tt) (λ _ _ _. same_done tt))
        (same_then (text_alike (codes ".")) (λ _ _ _. same_after_task_dot closures at other)))

    same_bracketed : Alike-form Any (bracketed one) (bracketed two)
    unfolding bracketed
    same_bracketed =
        same_rule (same_then (opened_alike (codes "(") (in_round here) tt) (λ _ _ _. same_done tt))

    same_closure : Alike-form Any (closure one) (closure two)
    unfolding closure
    same_closure =
        same_rule (same_then (opened_alike (codes "{") (in_closure here) tt) (λ _ _ _. same_done tt))

    same_other_primary : (closures : Bool)
        → Alike-form Any (other_primary one closures) (other_primary two closures)
    unfolding other_primary
    same_other_primary closures =
        same_rule (same_when refl same_closure (same_either same_a_literal (same_either same_me
        same_bracketed)))

    same_postfix : (closures : Bool) → Alike-form Any (postfix one closures) (postfix two closures)
    unfolding postfix
    same_postfix closures =
        same_rule (same_either (same_then (word_alike value_word (codes "print"))
        (λ name other _. same_weaker (λ _ _ _. tt) (same_after_word name other)))
        (same_then (same_either (same_then (text_alike (codes "Task"))
        (λ at other _. same_after_task closures at other)) (same_other_primary closures))
        (λ base other _. same_after_any base other)))

    pub same_negated : (closures : Bool) → Alike-form Any (negated one closures) (negated two closures)
    unfolding negated
    same_negated closures =
        same_rule (same_then (same_token a_prefix) (λ _ _ _.
        same_then (same_postfix closures) (λ _ _ _. same_done tt)))

    same_unary : (closures : Bool) → Alike-form Any (unary one closures) (unary two closures)
    unfolding unary
    same_unary closures = same_rule (same_either (same_negated closures) (same_postfix closures))

    same_more_times : (closures : Bool) (first other : Expr)
        → Alike-form Any (more_times one closures first) (more_times two closures other)
    unfolding more_times
    same_more_times closures first other =
        same_rule (same_then (same_links times (codes "*") (unary one closures) (unary two closures)
        (same_unary closures)) (λ _ _ _. same_done tt))

    same_product : (closures : Bool) → Alike-form Any (product one closures) (product two closures)
    unfolding product
    same_product closures =
        same_rule (same_then (same_unary closures)
        (λ first other _. same_more_times closures first other))

    same_more_plus : (closures : Bool) (first other : Expr)
        → Alike-form Any (more_plus one closures first) (more_plus two closures other)
    unfolding more_plus
    same_more_plus closures first other =
        same_rule (same_then (same_links plus (codes "+") (product one closures) (product two closures)
        (same_product closures)) (λ _ _ _. same_done tt))

    same_sum : (closures : Bool) → Alike-form Any (sum one closures) (sum two closures)
    unfolding sum
    same_sum closures =
        same_rule (same_then (same_product closures)
        (λ first other _. same_more_plus closures first other))

    same_more_compares : (closures : Bool) (first other : Expr)
        → Alike-form Any (more_compares one closures first) (more_compares two closures other)
    unfolding more_compares
    same_more_compares closures first other =
        same_rule (same_either (same_then (same_token (infix_in compares (codes "==")))
        (λ _ _ _. same_then (same_sum closures) (λ _ _ _. same_done tt))) (same_done tt))

    same_comparison : (closures : Bool)
        → Alike-form Any (comparison one closures) (comparison two closures)
    unfolding comparison
    same_comparison closures =
        same_rule (same_then (same_sum closures)
        (λ first other _. same_more_compares closures first other))

    same_more_and : (closures : Bool) (first other : Expr)
        → Alike-form Any (more_and one closures first) (more_and two closures other)
    unfolding more_and
    same_more_and closures first other =
        same_rule (same_then (same_links (infix_op (codes "&&")) (codes "&&")
        (comparison one closures) (comparison two closures) (same_comparison closures))
        (λ _ _ _. same_done tt))

    same_conjunction : (closures : Bool)
        → Alike-form Any (conjunction one closures) (conjunction two closures)
    unfolding conjunction
    same_conjunction closures =
        same_rule (same_then (same_comparison closures)
        (λ first other _. same_more_and closures first other))

    same_more_or : (closures : Bool) (first other : Expr)
        → Alike-form Any (more_or one closures first) (more_or two closures other)
    unfolding more_or
    same_more_or closures first other =
        same_rule (same_then (same_links (infix_op (codes "||")) (codes "||")
        (conjunction one closures) (conjunction two closures) (same_conjunction closures))
        (λ _ _ _. same_done tt))

    pub same_more_operands : (closures : Bool) (first other : Expr)
        → Alike-form Any (more_operands one closures first) (more_operands two closures other)
    unfolding more_operands
    same_more_operands closures first other =
        same_rule (same_then (same_more_times closures first other) (λ a b _.
        same_then (same_more_plus closures a b) (λ c d _.
        same_then (same_more_compares closures c d) (λ i j _.
        same_then (same_more_and closures i j) (λ k l _. same_more_or closures k l)))))

    pub same_awaited : (closures : Bool) → Alike-form Any (awaited one closures) (awaited two closures)
    unfolding awaited
    same_awaited closures =
        same_rule (same_then (text_alike (codes "await")) (λ _ _ _.
        same_then (same_unary closures) (λ first other _.
        same_then (same_more_operands closures first other) (λ _ _ _. same_done tt))))

    pub same_expr : (closures : Bool) → Alike-form Any (expr one closures) (expr two closures)
    unfolding expr
    same_expr closures =
        same_rule (same_either (same_awaited closures) (same_then (same_unary closures)
        (λ first other _. same_more_operands closures first other)))

    pub same_other_expr : Alike-form Any (other_expr one) (other_expr two)
    unfolding other_expr
    same_other_expr =
        same_rule (same_either (same_awaited true) (same_then (same_either (same_negated true)
        (same_then (same_other_primary true) (λ base other _. same_after_any base other)))
        (λ first other _. same_more_operands true first other)))

    same_labelled : (label other : Name) → Alike-form Any (labelled one label) (labelled two other)
    unfolding labelled
    same_labelled label other =
        same_rule (same_then (text_alike (codes ":")) (λ _ _ _.
        same_then (same_expr true) (λ _ _ _. same_done tt)))

    pub same_arg : Alike-form Any (arg one) (arg two)
    unfolding arg
    same_arg =
        same_rule (same_either (same_then (word_alike value_word (codes "print")) (λ name other _.
        same_either (same_labelled name other) (same_then (same_after_word name other) (λ a b _.
        same_then (same_more_operands true a b) (λ _ _ _. same_done tt)))))
        (same_either (same_then (word_alike (quoted (codes "Task")) (codes "Task"))
        (λ name other _. same_either (same_labelled name other)
        (same_then (same_after_task true name.at other.at) (λ a b _.
        same_then (same_after_any a b) (λ c d _.
        same_then (same_more_operands true c d) (λ _ _ _. same_done tt))))))
        (same_then same_other_expr (λ _ _ _. same_done tt))))

    pub same_args : Alike-form Any (args one) (args two)
    unfolding args
    same_args = same_rule (same_list_of f g here depth F G (arg one) (arg two) same_arg (codes ")"))

    pub same_round : Alike-form Any (round one) (round two)
    unfolding round
    same_round =
        same_rule (same_then (same_expr true) (λ _ _ _. same_then (text_alike (codes ")"))
        (λ _ _ _. same_done tt)))
