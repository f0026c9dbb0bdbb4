use Rattle.std.proofs.Common.{[], ◌∷◌}
use Rattle.sw_verdict.specs.Phases.{Declarations, Encoding, Isolation, Lexis, Size, Syntax, Types}
use Rattle.sw_verdict.specs.Phases.{phases_to_size}
use Rattle.sw_verdict.proofs.InOrder.{all_pass, passed, stopped}
use Rattle.sw_verdict.proofs.Meant.{spelled_program}
use Rattle.sw_verdict.proofs.judging.meaning_of.Goals as goal

pub returns-in_err-spelled-clause-decided : goal.returns-in_err-spelled-clause-decided
returns-in_err-spelled-clause-decided c =
    stopped c.args.default [] (Encoding ∷ Lexis ∷ Syntax ∷ [])
    (Declarations ∷ Types ∷ Isolation ∷ Size ∷ []) c.args.text.now c.in_err-spelled.field-0.0 _ tt
    (c.in_err-spelled.ensures.decided c.args.default) c.from_residual.ensures.1

pub returns-in_err-found-clause-decided : goal.returns-in_err-found-clause-decided
returns-in_err-found-clause-decided c =
    let text = c.args.text.now in
    let is = c.in_ok-spelled.ensures.spelled in
    let read = passed c.args.default (Encoding ∷ Lexis ∷ Syntax ∷ []) text
    (c.in_ok-spelled.ensures.decided c.args.default) in
    stopped c.args.default (Encoding ∷ Lexis ∷ Syntax ∷ [])
    (Declarations ∷ Types ∷ Isolation ∷ Size ∷ []) [] text c.in_err-found.field-0.0 _ read
    (c.in_err-found.ensures.decided text (spelled_program text c.in_ok-spelled.spelled is))
    c.from_residual-in_err-found.ensures.1

pub returns-clause-decided : goal.returns-clause-decided
returns-clause-decided c =
    let text = c.args.text.now in
    let is = c.in_ok-spelled.ensures.spelled in
    let (utf8, (lexis, (syntax, _))) =
    passed c.args.default (Encoding ∷ Lexis ∷ Syntax ∷ []) text
    (c.in_ok-spelled.ensures.decided c.args.default) in
    let rest = passed c.args.default (Declarations ∷ Types ∷ Isolation ∷ Size ∷ []) text
    (c.in_ok-found.ensures.decided text (spelled_program text c.in_ok-spelled.spelled is)) in
    all_pass c.args.default phases_to_size text (utf8, (lexis, (syntax, rest)))

pub returns-clause-meant : goal.returns-clause-meant
returns-clause-meant c = record {
  spelled = c.in_ok-spelled.ensures.spelled;
  analysed = c.in_ok-found.ensures.analysed;
}

pub analyse-requires-clause-spelled : goal.analyse-requires-clause-spelled
analyse-requires-clause-spelled c = (
  c.args.text.now,
  spelled_program c.args.text.now c.in_ok-spelled.spelled c.in_ok-spelled.ensures.spelled,
)
