use Rattle.std.proofs.Common.{[], ◌∷◌, subst}
use Rattle.sw_verdict.specs.Phases.{Encoding, Lexis, Syntax, Finds}
use Rattle.sw_verdict.specs.Found.{FoundBy}
use Rattle.sw_verdict.proofs.InOrder.{all_pass, decided_by, stopped}
use Rattle.sw_verdict.proofs.Verdicts.{spelled_read}
use Rattle.sw_verdict.proofs.judging.read.Goals as goal

pub returns-in_err-source-clause-decided : goal.returns-in_err-source-clause-decided
returns-in_err-source-clause-decided c rule =
    stopped rule [] (Encoding ∷ []) (Lexis ∷ Syntax ∷ []) c.args.text.now c.in_err-source.field-0.0
    _ tt
    (decided_by rule Encoding [] c.args.text.now c.in_err-source.field-0.0
    c.in_err-source.ensures.found)
    c.from_residual.ensures.1

pub returns-in_err-tokens-clause-decided : goal.returns-in_err-tokens-clause-decided
returns-in_err-tokens-clause-decided c rule =
    let found = subst (λ source. FoundBy (Finds rule Lexis source) c.in_err-tokens.field-0.0)
    c.in_ok-source.ensures.same c.in_err-tokens.ensures.found in
    stopped rule (Encoding ∷ []) (Lexis ∷ []) (Syntax ∷ []) c.args.text.now
    c.in_err-tokens.field-0.0 _
    (c.in_ok-source.ensures.found, tt)
    (decided_by rule Lexis [] c.args.text.now c.in_err-tokens.field-0.0 found)
    c.from_residual-in_err-tokens.ensures.1

pub returns-in_err-program-clause-decided : goal.returns-in_err-program-clause-decided
returns-in_err-program-clause-decided c rule =
    let same = c.in_ok-source.ensures.same in
    let lexis = subst (λ source. Finds rule Lexis source []) same c.in_ok-tokens.ensures.found in
    let found = subst (λ source. FoundBy (Finds rule Syntax source) c.in_err-program.field-0.0) same
    c.in_err-program.ensures.found in
    stopped rule (Encoding ∷ Lexis ∷ []) (Syntax ∷ []) [] c.args.text.now c.in_err-program.field-0.0
    _
    (c.in_ok-source.ensures.found, (lexis, tt))
    (decided_by rule Syntax [] c.args.text.now c.in_err-program.field-0.0 found)
    c.from_residual-in_err-program.ensures.1

pub returns-clause-decided : goal.returns-clause-decided
returns-clause-decided c rule =
    let same = c.in_ok-source.ensures.same in
    let lexis = subst (λ source. Finds rule Lexis source []) same c.in_ok-tokens.ensures.found in
    let syntax = subst (λ source. Finds rule Syntax source []) same c.in_ok-program.ensures.found in
    all_pass rule (Encoding ∷ Lexis ∷ Syntax ∷ []) c.args.text.now
    (c.in_ok-source.ensures.found, (lexis, (syntax, tt)))

pub returns-clause-spelled : goal.returns-clause-spelled
returns-clause-spelled c =
    spelled_read c.args.text.now (record {
      source = c.in_ok-source.source;
      tokens = c.in_ok-tokens.tokens;
      program = c.in_ok-program.program;
    }) c.deref.result.now c.in_ok-source.ensures.same c.deref.ensures.value
    c.in_ok-tokens.ensures.tokens c.in_ok-program.ensures.program c.in_ok-program.ensures.texts
    c.in_ok-program.ensures.few c.requires
