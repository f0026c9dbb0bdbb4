use Rattle.std.proofs.Common.{◌-◌, ◌≤◌, length, arith, sym, ◌∙◌, ap, subst}
use Rattle.std.proofs.lemmas.List.{length-map}
use Rattle.std.specs.Prelude.{Err}
use Rattle.sw_token.proofs.TokenLaws.{IsTokens-few}
use Rattle.sw_token.specs.Spelling.{spelled, spelling_of}
use Rattle.sw_grammar_forms.specs.Reader.Fault.{unexpected, too_deep}
use Rattle.sw_grammar_forms.specs.Outcome.{Gives}
use Rattle.sw_grammar_forms.specs.declared.stop.Stop.TheVariants as stops
use Rattle.sw_grammar_forms.proofs.TokensSpelled.{tokens_spelled, tokens_readable}
use Rattle.sw_tree.specs.Contents.{AreNamed}
use Rattle.sw_parse_parts.specs.Around.{known}
use Rattle.sw_parse_decl.specs.Programs.{texts_of, whole_around, IsProgramOf, IsSyntaxFault}
use Rattle.sw_parse_decl.specs.declared.fault.ParseFault.TheVariants as faults
use Rattle.sw_parse_decl.proofs.ProgramFaults.{reads_program, stops_with, fault_within}
use Rattle.sw_parse_decl.proofs.ProgramFaults.{unexpected_at, too_deep_at, few_program}
use Rattle.sw_parse_decl.proofs.ProgramFaults.{keyed_program, named_program}
use Rattle.sw_parse_decl.proofs.programs.program.Goals as goal

pub prove-unreachable-requires : goal.prove-unreachable-requires
prove-unreachable-requires g c =
    omega (arith, IsTokens-few c.args.source.now c.args.tokens.now c.requires)

pub new-requires : goal.new-requires
new-requires g c =
    tokens_readable c.args.source.now c.args.tokens.now c.len-bytes.ensures.utf8 c.requires

pub new-requires-2 : goal.new-requires-2
new-requires-2 g c =
    tokens_readable c.args.source.now c.args.tokens.now c.len-bytes.ensures.utf8 c.requires

pub names_of-requires : goal.names_of-requires
names_of-requires g c = omega (
  arith,
  ap length c.new.ensures,
  length-map c.args.tokens.now (spelled c.args.source.now),
  IsTokens-few c.args.source.now c.args.tokens.now c.requires,
  c.len-bytes.ensures.short,
)

pub new-requires-in-Ok : goal.new-requires-in-Ok
new-requires-in-Ok g c =
    tokens_readable c.args.source.now c.args.tokens.now c.len-bytes.ensures.utf8 c.requires

pub new-requires-in-Ok-2-clause-keyed : goal.new-requires-in-Ok-2-clause-keyed
new-requires-in-Ok-2-clause-keyed g c =
    keyed_program (spelling_of c.args.source.now c.args.tokens.now) c.in_ok-decls-in-Ok.decls
    (reads_program (spelling_of c.args.source.now c.args.tokens.now) c.new.result c.new-2.result
    c.in_ok-names.names c.new-around.result _ c.in_ok-names.ensures c.new.ensures c.new-2.ensures
    c.new-around.ensures c.in-Ok.decls c.in_ok-decls-in-Ok.decls c.new-in-Ok.result c.new-in-Ok.ensures
    c.in-Ok.ensures c.in_ok-decls-in-Ok.ensures
    (tokens_spelled c.args.source.now c.args.tokens.now c.len-bytes.ensures.utf8 c.requires))

pub new-requires-in-Ok-2-clause-named : goal.new-requires-in-Ok-2-clause-named
new-requires-in-Ok-2-clause-named g c =
    subst (λ texts. AreNamed texts c.in_ok-decls-in-Ok.decls)
    (sym (c.in_ok-names.ensures ∙ ap texts_of c.new.ensures))
    (named_program (spelling_of c.args.source.now c.args.tokens.now) c.in_ok-decls-in-Ok.decls
    (reads_program (spelling_of c.args.source.now c.args.tokens.now) c.new.result c.new-2.result
    c.in_ok-names.names c.new-around.result _ c.in_ok-names.ensures c.new.ensures c.new-2.ensures
    c.new-around.ensures c.in-Ok.decls c.in_ok-decls-in-Ok.decls c.new-in-Ok.result c.new-in-Ok.ensures
    c.in-Ok.ensures c.in_ok-decls-in-Ok.ensures
    (tokens_spelled c.args.source.now c.args.tokens.now c.len-bytes.ensures.utf8 c.requires)))

pub returns-in-Ok-clause-decls : goal.returns-in-Ok-clause-decls
returns-in-Ok-clause-decls g c =
    subst (λ decls. IsProgramOf decls (spelling_of c.args.source.now c.args.tokens.now))
    (sym c.new-in-Ok-2.ensures.decls)
    (reads_program (spelling_of c.args.source.now c.args.tokens.now) c.new.result c.new-2.result
    c.in_ok-names.names c.new-around.result _ c.in_ok-names.ensures c.new.ensures c.new-2.ensures
    c.new-around.ensures c.in-Ok.decls c.in_ok-decls-in-Ok.decls c.new-in-Ok.result c.new-in-Ok.ensures
    c.in-Ok.ensures c.in_ok-decls-in-Ok.ensures
    (tokens_spelled c.args.source.now c.args.tokens.now c.len-bytes.ensures.utf8 c.requires))

pub returns-in-Ok-clause-few : goal.returns-in-Ok-clause-few
returns-in-Ok-clause-few g c =
    subst (λ decls. length decls ≤ length c.args.tokens.now) (sym c.new-in-Ok-2.ensures.decls)
    (omega (
      arith,
      length-map c.args.tokens.now (spelled c.args.source.now),
      few_program (spelling_of c.args.source.now c.args.tokens.now) c.in_ok-decls-in-Ok.decls
          (reads_program (spelling_of c.args.source.now c.args.tokens.now) c.new.result c.new-2.result
          c.in_ok-names.names c.new-around.result _ c.in_ok-names.ensures c.new.ensures c.new-2.ensures
          c.new-around.ensures c.in-Ok.decls c.in_ok-decls-in-Ok.decls c.new-in-Ok.result c.new-in-Ok.ensures
          c.in-Ok.ensures c.in_ok-decls-in-Ok.ensures
          (tokens_spelled c.args.source.now c.args.tokens.now c.len-bytes.ensures.utf8 c.requires)),
    ))

pub overflow_sub-result : goal.overflow_sub-result
overflow_sub-result g c = omega (
  arith,
  length-map c.args.tokens.now (spelled c.args.source.now),
  fault_within (spelling_of c.args.source.now c.args.tokens.now) (unexpected c.in-Err-Unexpected.left)
      (stops_with (spelling_of c.args.source.now c.args.tokens.now) c.new.result c.new-2.result
      c.in_ok-names.names c.new-around.result c.whole.new.tokens c.in_ok-names.ensures c.new.ensures
      c.new-2.ensures c.new-around.ensures (stops.Unexpected c.in-Err-Unexpected.left) (unexpected c.in-Err-Unexpected.left)
      (λ answer gives. gives)
      (subst (λ stop. Gives (whole_around (known c.new-around.result) c.new-2.result) (Err stop)
      c.whole.new.tokens) c.in-Err-Unexpected.field-0-is c.in-Err-Unexpected.ensures)),
)

pub returns-in-Err-Unexpected-clause-fault : goal.returns-in-Err-Unexpected-clause-fault
returns-in-Err-Unexpected-clause-fault g c =
    subst (λ left. IsSyntaxFault (spelling_of c.args.source.now c.args.tokens.now)
    (faults.Unexpected (length c.args.tokens.now - left)))
    (sym c.in-Err-Unexpected.left-is)
    (subst (λ n. IsSyntaxFault (spelling_of c.args.source.now c.args.tokens.now)
    (faults.Unexpected (n - c.in-Err-Unexpected.left)))
    (length-map c.args.tokens.now (spelled c.args.source.now))
    (unexpected_at (spelling_of c.args.source.now c.args.tokens.now) (tokens_spelled c.args.source.now
    c.args.tokens.now c.len-bytes.ensures.utf8 c.requires) c.in-Err-Unexpected.left
    (stops_with (spelling_of c.args.source.now c.args.tokens.now) c.new.result c.new-2.result
    c.in_ok-names.names c.new-around.result c.whole.new.tokens c.in_ok-names.ensures c.new.ensures
    c.new-2.ensures c.new-around.ensures (stops.Unexpected c.in-Err-Unexpected.left) (unexpected c.in-Err-Unexpected.left)
    (λ answer gives. gives)
    (subst (λ stop. Gives (whole_around (known c.new-around.result) c.new-2.result) (Err stop)
    c.whole.new.tokens) c.in-Err-Unexpected.field-0-is c.in-Err-Unexpected.ensures))))

pub overflow_sub-result-in-Err-TooDeep : goal.overflow_sub-result-in-Err-TooDeep
overflow_sub-result-in-Err-TooDeep g c = omega (
  arith,
  length-map c.args.tokens.now (spelled c.args.source.now),
  fault_within (spelling_of c.args.source.now c.args.tokens.now) (too_deep c.in-Err-TooDeep.left)
      (stops_with (spelling_of c.args.source.now c.args.tokens.now) c.new.result c.new-2.result
      c.in_ok-names.names c.new-around.result c.whole.new.tokens c.in_ok-names.ensures c.new.ensures
      c.new-2.ensures c.new-around.ensures (stops.TooDeep c.in-Err-TooDeep.left) (too_deep c.in-Err-TooDeep.left)
      (λ answer gives. gives)
      (subst (λ stop. Gives (whole_around (known c.new-around.result) c.new-2.result) (Err stop)
      c.whole.new.tokens) c.in-Err-TooDeep.field-0-is c.in-Err-TooDeep.ensures)),
)

pub returns-in-Err-TooDeep-clause-fault : goal.returns-in-Err-TooDeep-clause-fault
returns-in-Err-TooDeep-clause-fault g c =
    subst (λ left. IsSyntaxFault (spelling_of c.args.source.now c.args.tokens.now)
    (faults.TooDeep (length c.args.tokens.now - left)))
    (sym c.in-Err-TooDeep.left-is)
    (subst (λ n. IsSyntaxFault (spelling_of c.args.source.now c.args.tokens.now)
    (faults.TooDeep (n - c.in-Err-TooDeep.left)))
    (length-map c.args.tokens.now (spelled c.args.source.now))
    (too_deep_at (spelling_of c.args.source.now c.args.tokens.now) (tokens_spelled c.args.source.now
    c.args.tokens.now c.len-bytes.ensures.utf8 c.requires) c.in-Err-TooDeep.left
    (stops_with (spelling_of c.args.source.now c.args.tokens.now) c.new.result c.new-2.result
    c.in_ok-names.names c.new-around.result c.whole.new.tokens c.in_ok-names.ensures c.new.ensures
    c.new-2.ensures c.new-around.ensures (stops.TooDeep c.in-Err-TooDeep.left) (too_deep c.in-Err-TooDeep.left)
    (λ answer gives. gives)
    (subst (λ stop. Gives (whole_around (known c.new-around.result) c.new-2.result) (Err stop)
    c.whole.new.tokens) c.in-Err-TooDeep.field-0-is c.in-Err-TooDeep.ensures))))
