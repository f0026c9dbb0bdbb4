use Rattle.std.proofs.Common.{subst}
use Rattle.sw_region_flow.specs.Breaches.{AreAll}
use Rattle.sw_verdict.specs.Phases.{IsRaceBreach}
use Rattle.sw_verdict.proofs.judging.judge.Goals as goal

pub returns-clause-judged : goal.returns-clause-judged
returns-clause-judged c =
    let found = c.in_ok-shared.field-0 in
    let is = c.in_ok-shared.ensures.found in
    record {
      made = is.made;
      races = record {
        shared = found.shared;
        are_shared = is.shared;
        graph = found.made.graph;
        of_text = is.made.verdict.1;
        are_all = subst (λ shared. AreAll (IsRaceBreach shared found.made.graph)
            c.in_ok-races.races) c.as_slice.ensures c.in_ok-races.ensures;
      };
    }
