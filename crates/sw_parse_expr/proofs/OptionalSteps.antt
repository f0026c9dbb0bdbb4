-- What comes after `Optional`, as the code reads it.
use Rattle.std.proofs.Common.{◌≡◌, ℕ, true, false, cond, List, refl, ◌∙◌, ap, codes}
use Rattle.std.specs.Prelude.{Ok, Err}
use Rattle.sw_token.specs.Spelling.{Spelled}
use Rattle.sw_grammar_forms.specs.Form.Form.{nest}
use Rattle.sw_grammar_forms.specs.Quotes.{quote}
use Rattle.sw_grammar_forms.specs.Sets.{starts, quoted}
use Rattle.sw_grammar_forms.specs.Relations.{head}
use Rattle.sw_grammar_forms.specs.Reader.{Answer, and_then, pure}
use Rattle.sw_grammar_forms.proofs.ItemLoops.{Refuses}
use Rattle.sw_grammar_forms.proofs.ReaderLaws.{bind_step, bind_stop}
use Rattle.sw_tree.specs.declared.expr.Expr.{Expr}
use Rattle.sw_sugar.specs.Optionals.{use_at}
use Rattle.sw_grammar.specs.Around.{Around}
use Rattle.sw_grammar.specs.Nests.{Link}
use Rattle.sw_grammar.specs.Nests.Nest.{in_round}
use Rattle.sw_grammar.specs.Exprs.{members, with_members, after_operand, more_operands, bracketed}
use Rattle.sw_grammar.specs.Values.{Given, made, plain, some_value, after_optional}
use Rattle.sw_grammar.specs.Reading.{read}
use Rattle.sw_parse_expr.specs.Values.{use_value}

module _ (around : Around) (depth : ℕ) (wanted : List ℕ) (at : ℕ) (ts : List Spelled) where
  abbrev base : Expr
  base = use_at at (around.id_of (codes "Optional"))

  abbrev in_brackets : Answer Given
  in_brackets =
      and_then (read around depth (nest (quote (codes "(")) (in_round around.here)) ts)
      (λ x. pure {A = Given} (made (some_value around wanted at x.0.1)) x.1)

  abbrev as_word : Answer Given
  as_word = and_then (read around depth (members around) ts)
      (λ links. and_then (read around depth (more_operands around true
      (with_members base links.0)) links.1) (λ whole. pure {A = Given} (plain whole.0) whole.1))

  both : read around depth (after_optional around wanted at) ts
      ≡ cond (starts (quoted (codes "(")) (head ts)) in_brackets as_word
  unfolding after_optional
  both = refl

  -- no bracket comes
  pub used : starts (quoted (codes "(")) (head ts) ≡ false
      → read around depth (after_optional around wanted at) ts
      ≡ read around depth (use_value around at) ts
  unfolding after_operand
  used ends = both
      ∙ (ap (λ b. cond b in_brackets as_word) ends ∙ by (read around depth (members around) ts))
    where
      by : (r : Answer (List Link))
          → and_then r (λ links. and_then (read around depth (more_operands around true
          (with_members base links.0)) links.1)
          (λ whole. pure {A = Given} (plain whole.0) whole.1))
          ≡ and_then (and_then r (λ links. pure {A = Expr} (with_members base links.0) links.1))
          (λ first. and_then (read around depth (more_operands around true first.0) first.1)
          (λ whole. pure {A = Given} (plain whole.0) whole.1))
      by (Ok links) = refl
      by (Err fault) = refl

  module _ (goes : starts (quoted (codes "(")) (head ts) ≡ true) where
    wrapped : read around depth (after_optional around wanted at) ts
        ≡ and_then (read around depth (bracketed around) ts)
        (λ value. pure {A = Given} (made (some_value around wanted at value.0)) value.1)
    unfolding bracketed
    wrapped = both
        ∙ (ap (λ b. cond b in_brackets as_word) goes
        ∙ by (read around depth (nest (quote (codes "(")) (in_round around.here)) ts))
      where
        by : (r : Answer (ℕ × Expr))
            → and_then r (λ x. pure {A = Given} (made (some_value around wanted at x.0.1)) x.1)
            ≡ and_then (and_then r (λ x. pure {A = Expr} x.0.1 x.1))
            (λ value. pure {A = Given} (made (some_value around wanted at value.0)) value.1)
        by (Ok x) = refl
        by (Err fault) = refl

    pub stops_in_brackets : Refuses (read around depth (bracketed around) ts)
        (read around depth (after_optional around wanted at) ts)
    stops_in_brackets fault e =
        wrapped ∙ bind_stop (read around depth (bracketed around) ts) _ fault e

    pub wraps : (value : Expr) (us : List Spelled)
        → read around depth (bracketed around) ts ≡ Ok (value, us)
        → read around depth (after_optional around wanted at) ts
        ≡ Ok (made (some_value around wanted at value), us)
    wraps value us e =
        wrapped ∙ bind_step (read around depth (bracketed around) ts) _ (value, us) _ e refl
