use Rattle.std.proofs.Common.{Contains, map, subst}
use Rattle.sw_region_flow.specs.Breaches.{AreAll}
use Rattle.sw_verdict.specs.Phases.{breach_of}
use Rattle.sw_verdict.proofs.judging.judge_sharing.Goals as goal

pub returns-clause-judged : goal.returns-clause-judged
returns-clause-judged c =
    let found = c.in_ok-shared.field-0 in
    let is = c.in_ok-shared.ensures.found in
    record {
      made = is.made;
      sharing = record {
        shared = found.shared;
        are_shared = is.shared;
        are_all = subst (λ shared. AreAll (Contains (map breach_of shared)) c.in_ok-races.races)
            c.as_slice.ensures c.in_ok-races.ensures;
      };
    }
