-- The members of an expression, one after another: each `.` opens a nest that lasts to their end.
use Rattle.std.proofs.Common.{◌≡◌, ℕ, ◌-◌, true, false, cond, List, [], ◌∷◌, refl}
use Rattle.std.proofs.Common.{◌∙◌, ap, codes}
use Rattle.std.specs.Prelude.{Option, Some, None, Ok, Err}
use Rattle.sw_token.specs.Spelling.{Spelled}
use Rattle.sw_grammar_forms.specs.Form.Form.{nest}
use Rattle.sw_grammar_forms.specs.Quotes.{quote}
use Rattle.sw_grammar_forms.specs.Sets.{starts, quoted, word}
use Rattle.sw_grammar_forms.specs.Relations.{head}
use Rattle.sw_grammar_forms.specs.Reader.{Answer, and_then, then_read, pure, next, opening}
use Rattle.sw_grammar_forms.proofs.ItemLoops.{Refuses}
use Rattle.sw_grammar_forms.proofs.NestReads.{nest_reads}
use Rattle.sw_grammar_forms.proofs.ReaderLaws.{bind_step, bind_stop}
use Rattle.sw_tree.specs.declared.name.Name.{Name}
use Rattle.sw_tree.specs.declared.expr.Expr.{Expr}
use Rattle.sw_tree.specs.declared.expr.Arg.{Arg}
use Rattle.sw_grammar.specs.Around.{Around}
use Rattle.sw_grammar.specs.Nests.{Link, El, shape_of}
use Rattle.sw_grammar.specs.Nests.Nest.{in_member}
use Rattle.sw_grammar.specs.Tokens.{name_in}
use Rattle.sw_grammar.specs.Grammar.{body}
use Rattle.sw_grammar.specs.Exprs.{members, member, call, after_operand, with_members}
use Rattle.sw_grammar.specs.Reading.{read}
use Rattle.sw_parse_parts.specs.Nested.{made}
use Rattle.sw_parse_expr.specs.Parts.{with_member, one_member}
use Rattle.sw_parse_expr.proofs.PlacedNests.{nest_opened}

module _ (around : Around) where
  -- the members at a `.` that was tested
  abbrev after_dot : Expr → Answer (ℕ × List Link) → Answer Expr
  after_dot base answer =
      and_then (and_then answer (λ x. pure {A = List Link} x.0.1 x.1))
      (λ x. Ok (with_members base x.0, x.1))

  dotted : (depth : ℕ) (base : Expr) (ts : List Spelled)
      → starts (quoted (codes ".")) (head ts) ≡ true
      → read around depth (after_operand around base) ts
      ≡ after_dot base (read around depth (nest (quote (codes ".")) (in_member around.here)) ts)
  unfolding after_operand members
  dotted depth base ts goes =
      ap (λ b. and_then (cond b (and_then
      (read around depth (nest (quote (codes ".")) (in_member around.here)) ts)
      (λ x. pure {A = List Link} x.0.1 x.1)) (pure {A = List Link} [] ts))
      (λ x. pure {A = Expr} (with_members base x.0) x.1)) goes

  -- no member comes
  pub members_end : (depth : ℕ) (base : Expr) (ts : List Spelled)
      → starts (quoted (codes ".")) (head ts) ≡ false
      → read around depth (after_operand around base) ts ≡ Ok (base, ts)
  unfolding after_operand members
  members_end depth base ts ends =
      ap (λ b. and_then (cond b (and_then
      (read around depth (nest (quote (codes ".")) (in_member around.here)) ts)
      (λ x. pure {A = List Link} x.0.1 x.1)) (pure {A = List Link} [] ts))
      (λ x. pure {A = Expr} (with_members base x.0) x.1)) ends

  pub stops_at_dot : (depth : ℕ) (base : Expr) (ts : List Spelled)
      → starts (quoted (codes ".")) (head ts) ≡ true
      → Refuses (opening depth (quote (codes ".")) ts)
      (read around depth (after_operand around base) ts)
  stops_at_dot depth base ts goes fault e =
      dotted depth base ts goes
      ∙ ap (after_dot base) (nest_reads El shape_of (body around.id_of) depth (quote (codes "."))
      (in_member around.here)
      ts ∙ bind_stop (opening depth (quote (codes ".")) ts) _ fault e)

  -- a member is its word with its arguments, and the members after it
  member_is : (depth : ℕ) (us : List Spelled) → read around depth (member around) us
      ≡ then_read (one_member around depth) (λ link. then_read (read around depth (members around))
      (λ links. pure (link ∷ links))) us
  unfolding member
  member_is depth us = by_name (next (name_in around word (codes "print")) us)
    where
      by_call : (name : Name) (r : Answer (Option (List Arg)))
          → and_then r (λ args. and_then (read around depth (members around) args.1)
          (λ links. pure {A = List Link} ((name, args.0) ∷ links.0) links.1))
          ≡ and_then (and_then r (λ args. pure {A = Link} (name, args.0) args.1))
          (λ link. and_then (read around depth (members around) link.1)
          (λ links. pure {A = List Link} (link.0 ∷ links.0) links.1))
      by_call name (Ok args) = refl
      by_call name (Err fault) = refl

      by_name : (r : Answer Name)
          → and_then r (λ name. and_then (read around depth (call around) name.1)
          (λ args. and_then (read around depth (members around) args.1)
          (λ links. pure {A = List Link} ((name.0, args.0) ∷ links.0) links.1)))
          ≡ and_then (and_then r (λ name. and_then (read around depth (call around) name.1)
          (λ args. pure {A = Link} (name.0, args.0) args.1)))
          (λ link. and_then (read around depth (members around) link.1)
          (λ links. pure {A = List Link} (link.0 ∷ links.0) links.1))
      by_name (Ok name) = by_call name.0 (read around depth (call around) name.1)
      by_name (Err fault) = refl

  abbrev with_links : ℕ → Expr → Answer Link → Answer (List Link)
  with_links depth base answer =
      and_then answer (λ link. and_then (read around depth (members around) link.1)
      (λ links. pure {A = List Link} (link.0 ∷ links.0) links.1))

  one_then : (depth : ℕ) (base : Expr) (at : ℕ) (r : Answer Link)
      → after_dot base (and_then (with_links depth base r)
      (λ x. pure {A = ℕ × List Link} (at, x.0) x.1))
      ≡ and_then (and_then r (λ link. pure {A = Expr} (with_member base link.0) link.1))
      (λ x. read around depth (after_operand around x.0) x.1)
  unfolding after_operand
  one_then depth base at (Ok link) = by_args link.0.0 link.0.1 link.1
    where
      by_none : (name : Name) (r : Answer (List Link))
          → after_dot base (and_then (and_then r
          (λ links. pure {A = List Link} ((name, None) ∷ links.0) links.1))
          (λ x. pure {A = ℕ × List Link} (at, x.0) x.1))
          ≡ and_then r (λ x. pure {A = Expr} (with_members (with_member base (name, None)) x.0) x.1)
      by_none name (Ok x) = refl
      by_none name (Err fault) = refl

      by_some : (name : Name) (args : List Arg) (r : Answer (List Link))
          → after_dot base (and_then (and_then r
          (λ links. pure {A = List Link} ((name, Some args) ∷ links.0) links.1))
          (λ x. pure {A = ℕ × List Link} (at, x.0) x.1))
          ≡ and_then r (λ x. pure {A = Expr}
          (with_members (with_member base (name, Some args)) x.0) x.1)
      by_some name args (Ok x) = refl
      by_some name args (Err fault) = refl

      by_args : (name : Name) (args : Option (List Arg)) (us : List Spelled)
          → after_dot base (and_then (with_links depth base (Ok ((name, args), us)))
          (λ x. pure {A = ℕ × List Link} (at, x.0) x.1))
          ≡ read around depth (after_operand around (with_member base (name, args))) us
      by_args name None us = by_none name (read around depth (members around) us)
      by_args name (Some args) us = by_some name args (read around depth (members around) us)
  one_then depth base at (Err fault) = refl

  at_member : (depth : ℕ) (base : Expr) (ts us : List Spelled) (at : ℕ)
      → starts (quoted (codes ".")) (head ts) ≡ true
      → opening depth (quote (codes ".")) ts ≡ Ok (at, us)
      → read around depth (after_operand around base) ts
      ≡ and_then (made (with_member base) (one_member around (depth - 1)) us)
      (λ x. read around (depth - 1) (after_operand around x.0) x.1)
  at_member depth base ts us at goes opened =
      dotted depth base ts goes
      ∙ (ap (after_dot base) (nest_opened around (in_member around.here) depth
      (quote (codes ".")) ts us at opened
      ∙ ap (λ r. and_then r (λ x. pure {A = ℕ × List Link} (at, x.0) x.1))
      (member_is (depth - 1) us))
      ∙ one_then (depth - 1) base at (one_member around (depth - 1) us))

  -- The code's steps.

  pub member_turn : (depth : ℕ) (base next : Expr) (ts us vs : List Spelled) (at : ℕ)
      → starts (quoted (codes ".")) (head ts) ≡ true
      → opening depth (quote (codes ".")) ts ≡ Ok (at, us)
      → made (with_member base) (one_member around (depth - 1)) us ≡ Ok (next, vs)
      → read around depth (after_operand around base) ts
      ≡ read around (depth - 1) (after_operand around next) vs
  member_turn depth base next ts us vs at goes opened e =
      at_member depth base ts us at goes opened
      ∙ bind_step (made (with_member base) (one_member around (depth - 1)) us) _ (next, vs) _ e refl

  pub stops_at_member : (depth : ℕ) (base : Expr) (ts us : List Spelled) (at : ℕ)
      → starts (quoted (codes ".")) (head ts) ≡ true
      → opening depth (quote (codes ".")) ts ≡ Ok (at, us)
      → Refuses (made (with_member base) (one_member around (depth - 1)) us)
      (read around depth (after_operand around base) ts)
  stops_at_member depth base ts us at goes opened fault e =
      at_member depth base ts us at goes opened
      ∙ bind_stop (made (with_member base) (one_member around (depth - 1)) us) _ fault e
