-- A closure after its `{`, from what its header and its statements gave.
use Rattle.std.proofs.Common.{◌≡◌, ℕ, List, refl, ◌∙◌}
use Rattle.std.specs.Prelude.{Option, Ok, Err}
use Rattle.sw_token.specs.Spelling.{Spelled}
use Rattle.sw_grammar_forms.specs.Reader.{Answer, Reader, and_then}
use Rattle.sw_grammar_forms.proofs.ItemLoops.{Refuses}
use Rattle.sw_grammar_forms.proofs.ReaderLaws.{bind_step, bind_stop}
use Rattle.sw_tree.specs.declared.expr.Closure.{Closure}
use Rattle.sw_tree.specs.declared.stmt.Stmt.{Stmt}
use Rattle.sw_grammar.specs.Exprs.{closure_at}
use Rattle.sw_grammar.specs.Nests.{ClosureInside}
use Rattle.sw_grammar.specs.Types.{Typed}
use Rattle.sw_grammar.specs.Closures as closures
use Rattle.sw_grammar.specs.Closures.{inside_of}
use Rattle.sw_parse_expr.specs.Headers.{header_value, closure_of}
use Rattle.sw_parse_expr.specs.declared.closures.Header.{Header}

module _ (at : ℕ) (rest : Option Typed → Reader (List Stmt)) where
  -- the header as the code keeps it
  abbrev pub Headed : Answer closures.Header → Answer Header
  Headed head = and_then head (λ x. Ok (header_value x.0, x.1))

  -- the closure
  abbrev pub Closed : Answer closures.Header → Answer Closure
  Closed head =
      and_then {X = ClosureInside × List Spelled} {Y = Closure × List Spelled}
      (and_then head (λ x. and_then (rest x.0.result x.1) (λ y. Ok (inside_of x.0 y.0, y.1))))
      (λ x. Ok (closure_at at x.0, x.1))

  -- the same from the header as the code keeps it
  abbrev pub Continued : Answer Header → Answer Closure
  Continued head =
      and_then head (λ x. and_then (rest x.0.result x.1) (λ y. Ok (closure_of at x.0 y.0, y.1)))

  pub closed_is : (head : Answer closures.Header) → Closed head ≡ Continued (Headed head)
  closed_is (Ok x) = by (rest x.0.result x.1)
    where
      by : (body : Answer (List Stmt))
          → and_then {X = ClosureInside × List Spelled} {Y = Closure × List Spelled}
          (and_then body (λ y. Ok (inside_of x.0 y.0, y.1))) (λ x. Ok (closure_at at x.0, x.1))
          ≡ and_then body (λ y. Ok (closure_of at (header_value x.0) y.0, y.1))
      by (Ok y) = refl
      by (Err fault) = refl
  closed_is (Err fault) = refl

  module _ (head : Answer closures.Header) where
    pub stops_at_header : Refuses (Headed head) (Closed head)
    stops_at_header fault e = closed_is head ∙ bind_stop (Headed head) _ fault e

    pub stops_in_body : (header : Header) (us : List Spelled) → Headed head ≡ Ok (header, us)
        → Refuses (rest header.result us) (Closed head)
    stops_in_body header us e fault stops =
        closed_is head ∙ bind_step (Headed head) _ (header, us) _ e
        (bind_stop (rest header.result us) _ fault stops)

    pub closed : (header : Header) (us vs : List Spelled) (body : List Stmt)
        → Headed head ≡ Ok (header, us) → rest header.result us ≡ Ok (body, vs)
        → Closed head ≡ Ok (closure_of at header body, vs)
    closed header us vs body e f =
        closed_is head ∙ bind_step (Headed head) _ (header, us) _ e
        (bind_step (rest header.result us) _ (body, vs) _ f refl)
