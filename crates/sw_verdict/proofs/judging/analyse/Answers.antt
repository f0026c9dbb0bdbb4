use Rattle.std.proofs.Common.{[], ◌∷◌}
use Rattle.sw_verdict.specs.Phases.{Declarations, Types, Isolation, Size}
use Rattle.sw_verdict.proofs.InOrder.{all_pass, decided_by, stopped}
use Rattle.sw_verdict.proofs.judging.analyse.Goals as goal

pub returns-in_err-declared-clause-decided : goal.returns-in_err-declared-clause-decided
returns-in_err-declared-clause-decided c text program =
    stopped c.args.default [] (Declarations ∷ []) (Types ∷ Isolation ∷ Size ∷ []) text
    c.in_err-declared.field-0.0 _ tt
    (decided_by c.args.default Declarations [] text c.in_err-declared.field-0.0
    (c.in_err-declared.ensures.found text program)) c.from_residual.ensures.1

pub returns-in_err-typed-clause-decided : goal.returns-in_err-typed-clause-decided
returns-in_err-typed-clause-decided c text program =
    stopped c.args.default (Declarations ∷ []) (Types ∷ []) (Isolation ∷ Size ∷ []) text
    c.in_err-typed.field-0.0 _ (c.in_ok-declared.ensures.found text program, tt)
    (decided_by c.args.default Types [] text c.in_err-typed.field-0.0
    (c.in_err-typed.ensures.found c.args.default text c.in_ok-declared.ensures.declared
    program)) c.from_residual-in_err-typed.ensures.1

pub returns-in_err-isolated-clause-decided : goal.returns-in_err-isolated-clause-decided
returns-in_err-isolated-clause-decided c text program =
    stopped c.args.default (Declarations ∷ Types ∷ []) (Isolation ∷ []) (Size ∷ []) text
    c.in_err-isolated.field-0.0 _ (
      c.in_ok-declared.ensures.found text program,
      (
        c.in_ok-typed.ensures.found c.args.default text c.in_ok-declared.ensures.declared program,
        tt,
      ),
    ) (decided_by c.args.default Isolation [] text c.in_err-isolated.field-0.0
    (c.in_err-isolated.ensures.found c.args.default text c.in_ok-declared.ensures.declared
    program)) c.from_residual-in_err-isolated.ensures.1

pub returns-in_err-lowering-clause-decided : goal.returns-in_err-lowering-clause-decided
returns-in_err-lowering-clause-decided c text program =
    stopped c.args.default (Declarations ∷ Types ∷ Isolation ∷ []) (Size ∷ []) [] text
    c.in_err-lowering.field-0.0 _ (
      c.in_ok-declared.ensures.found text program,
      (
        c.in_ok-typed.ensures.found c.args.default text c.in_ok-declared.ensures.declared program,
        (
          c.in_ok-isolated.ensures.found c.args.default text c.in_ok-declared.ensures.declared program,
          tt,
        ),
      ),
    ) (decided_by c.args.default Size [] text c.in_err-lowering.field-0.0
    (c.in_err-lowering.ensures.found c.args.default text c.in_ok-declared.ensures.declared
    program)) c.from_residual-in_err-lowering.ensures.1

pub returns-clause-decided : goal.returns-clause-decided
returns-clause-decided c text program =
    all_pass c.args.default (Declarations ∷ Types ∷ Isolation ∷ Size ∷ []) text (
      c.in_ok-declared.ensures.found text program,
      (
        c.in_ok-typed.ensures.found c.args.default text c.in_ok-declared.ensures.declared program,
        (
          c.in_ok-isolated.ensures.found c.args.default text c.in_ok-declared.ensures.declared program,
          (
            c.in_ok-lowering.ensures.found c.args.default text c.in_ok-declared.ensures.declared program,
            tt,
          ),
        ),
      ),
    )

pub size-requires-clause-declared : goal.size-requires-clause-declared
size-requires-clause-declared c = (c.args.default, c.in_ok-declared.ensures.declared)
