use Rattle.std.proofs.Common.{sym, ◌∙◌}
use Rattle.std.proofs.lemmas.Slice.Eq.{bytes_eq-Decides}
use Rattle.sw_cases.proofs.WordLemmas.{traced}
use Rattle.sw_cases.proofs.case.put_trace.Goals as goal

pub returns-in_ok-word-in-Some : goal.returns-in_ok-word-in-Some
returns-in_ok-word-in-Some c = λ _.
    let is_run = (bytes_eq-Decides _ _).0 (sym c.eq.ensures ∙ c.if-eq.true) in
    traced c.args.words.now.items c.in-Some.word.now c.in_ok-word-in-Some.field-0
    c.in-Some.ensures.item.0 c.in-Some.ensures.value (sym c.as_str.ensures.value ∙ is_run)
    c.in_ok-word-in-Some.ensures.ok
