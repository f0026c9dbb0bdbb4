-- The arms of a `switch`, one by one as the code's loop reads them.
use Rattle.std.proofs.Common.{◌≡◌, ℕ, ◌<◌, Bool, true, not, List, length, codes, refl, ◌∙◌}
use Rattle.std.specs.Prelude.{Ok}
use Rattle.sw_token.specs.Spelling.{Spelled}
use Rattle.sw_grammar_forms.specs.Sets.{starts, quoted}
use Rattle.sw_grammar_forms.specs.Relations.{head, may_start}
use Rattle.sw_grammar_forms.specs.Reader.{Answer, Reader, check}
use Rattle.sw_grammar_forms.specs.Form.{started, solid}
use Rattle.sw_grammar_forms.specs.Form.Form.{line_start}
use Rattle.sw_grammar_forms.proofs.ReaderLaws.{bind_step}
use Rattle.sw_grammar_forms.proofs.ItemLoops.{Refuses}
use Rattle.sw_tree.specs.declared.stmt.CaseArm.{CaseArm}
use Rattle.sw_grammar.specs.Around.{Around}
use Rattle.sw_grammar.specs.Nests.{El, shape_of, Form}
use Rattle.sw_grammar.specs.Grammar.{body, good}
use Rattle.sw_grammar.specs.Stmts.{Cases, arm_ext, case_part}
use Rattle.sw_grammar.specs.Reading.{read}
use Rattle.sw_parse_stmt.specs.Parts.{more_cases, one_case}
use Rattle.sw_parse_stmt.proofs.ArmSteps.{case_is}
use Rattle.sw_parse_expr.proofs.TurnLoops as loops

module _ (around : Around) (depth : ℕ) where
  -- the answer of all arms from some on
  abbrev pub Rest : Cases → Reader Cases
  Rest cases = read around depth (more_cases around cases)

  abbrev turn : Cases → Form (started (solid (quoted (codes "case")) arm_ext 0)) Cases
  turn cases = line_start (not cases.1) (case_part around cases)

  abbrev one : List CaseArm → Reader Cases
  one cases = one_case around depth cases

  begun : (ts us vs : List Spelled) (cases : List CaseArm) (ended : Bool) (value : Unit {0})
      (next : Cases) → check (may_start (not ended)) ts ≡ Ok (value, us)
      → one cases us ≡ Ok (next, vs) → read around depth (turn (cases, ended)) ts ≡ Ok (next, vs)
  begun ts us vs cases ended value next a b =
      bind_step (check (may_start (not ended)) ts) _ (value, us) _ a
      ((λ j. case_is around depth cases ended j us) ∙ b)

  pub one_turn : (start : Answer Cases) (ts us vs : List Spelled) (cases : List CaseArm)
      (ended : Bool) (value : Unit {0}) (next : Cases)
      → starts (quoted (codes "case")) (head ts) ≡ true → Rest (cases, ended) ts ≡ start
      → check (may_start (not ended)) ts ≡ Ok (value, us) → one cases us ≡ Ok (next, vs)
      → Rest next vs ≡ start
  one_turn start ts us vs cases ended value next goes same a b =
      loops.one_turn El shape_of (body around.id_of) good depth (λ _. true) turn refl start ts vs
      (cases, ended) next goes same (begun ts us vs cases ended value next a b)

  pub stops_at_case : (start : Answer Cases) (ts us : List Spelled) (cases : List CaseArm)
      (ended : Bool) (value : Unit {0}) → starts (quoted (codes "case")) (head ts) ≡ true
      → Rest (cases, ended) ts ≡ start → check (may_start (not ended)) ts ≡ Ok (value, us)
      → Refuses (one cases us) start
  stops_at_case start ts us cases ended value goes same a fault e =
      loops.stops_at_turn El shape_of (body around.id_of) good depth (λ _. true) turn refl start ts
      (cases, ended) goes same fault
      (bind_step (check (may_start (not ended)) ts) _ (value, us) _ a
      ((λ j. case_is around depth cases ended j us) ∙ e))

  pub shorter : (ts us vs : List Spelled) (cases : List CaseArm) (ended : Bool)
      (value : Unit {0}) (next : Cases) → check (may_start (not ended)) ts ≡ Ok (value, us)
      → one cases us ≡ Ok (next, vs) → length vs < length ts
  shorter ts us vs cases ended value next a b =
      loops.shorter El shape_of (body around.id_of) good depth (λ _. true) turn refl ts vs
      (cases, ended) next (begun ts us vs cases ended value next a b)
