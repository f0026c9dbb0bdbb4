use Rattle.std.proofs.Common.{◌∙◌, rules}
use Rattle.std.proofs.lemmas.List.Sorted.{answers_always}
use Rattle.sw_token.proofs.WordLemmas.{find_gives}
use Rattle.sw_token.proofs.words.word_len.Goals as goal

pub returns-clause-value : goal.returns-clause-value
returns-clause-value c =
    c.unwrap_or.ensures
    ∙ find_gives c.args.text.now c.find.result _ c.utf8.text
    (answers_always _ _ _ (λ f a r f' called. search (rules, called))) c.find.ensures.cases
