use Rattle.std.proofs.Common.{◌≡◌, [], subst}
use Rattle.sw_lower.proofs.lowering.decided.Goals as goal

pub returns-in-None-clause-functions : goal.returns-in-None-clause-functions
returns-in-None-clause-functions c = λ tables decls made.
    let none_large : c.args.program.made.too_large ≡ [] =
    subst (λ list. list ≡ []) c.as_slice.ensures c.in-None.ensures in
    record {
      has = record {
        ordered = made.ordered;
        are_ordered = made.are_ordered;
        are_those = made.are_made.fitting none_large;
        numbered = made.numbered;
        made = made.ended none_large;
      };
      entry = made.entry;
      starts = made.starts;
    }
