use Rattle.std.proofs.Common.{map, subst, sym}
use Rattle.std.specs.Prelude.{string_bytes}
use Rattle.sw_check_text.specs.Verdicts.{IsAccepted}
use Rattle.sw_check_text.proofs.Judging.{has_races, is_accepted, is_clean, is_passed, is_supplied}
use Rattle.sw_check_text.proofs.checking.verdict_on.Goals as goal

pub of_passed-requires-clause-clean : goal.of_passed-requires-clause-clean
of_passed-requires-clause-clean c =
    let (rule, text, is) = c.requires in
    is_clean rule text c.args.judged is (c.is_empty.ensures.0 c.if-is_empty.true)

pub of_passed-requires-clause-supplied : goal.of_passed-requires-clause-supplied
of_passed-requires-clause-supplied c =
    let (rule, text, is) = c.requires in is_supplied rule text c.args.judged is

pub of_passed-requires-clause-passed : goal.of_passed-requires-clause-passed
of_passed-requires-clause-passed c =
    let (rule, text, is) = c.requires in
    is_passed rule text c.args.judged is (c.is_empty.ensures.0 c.if-is_empty.true)

pub returns-then-is_empty : goal.returns-then-is_empty
returns-then-is_empty c rule text is =
    subst (λ graph. IsAccepted rule text graph (map string_bytes c.args.judged.made.actors))
    (sym c.of_passed.ensures)
    (is_accepted rule text c.args.judged is (c.is_empty.ensures.0 c.if-is_empty.true))

pub returns-else-is_empty : goal.returns-else-is_empty
returns-else-is_empty c rule text is =
    has_races rule text c.args.judged is (λ none.
    let yes = c.is_empty.ensures.1 none in let no = c.if-is_empty.false in cc)
