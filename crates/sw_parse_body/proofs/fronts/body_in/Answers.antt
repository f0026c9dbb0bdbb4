use Rattle.std.proofs.Common.{Bor}
use Rattle.std.specs.Prelude.{ℕ, List, Option, option_map}
use Rattle.std.proofs.lemmas.Result.{err_from_is_err_and}
use Rattle.sw_token.specs.Spelling.{spelling_of}
use Rattle.sw_parse_body.specs.Phrases.{a_block}
use Rattle.sw_parse_body.proofs.FrontSteps.{same_texts, keeps_names, keeps_part, keeps_all}
use Rattle.sw_parse_body.proofs.fronts.body_in.Goals as goal

abbrev word : Option (Bor (List ℕ)) → Option (List ℕ)
word = option_map (λ text. text.now)

pub returns-in_err-to-clause-kept : goal.returns-in_err-to-clause-kept
returns-in_err-to-clause-kept c =
    let failed = err_from_is_err_and c.from_residual.result c.from_residual.ensures.1 in
    rw failed.1 (keeps_names (a_block (word c.args.word)) c.args.depth
    (spelling_of c.args.source.now c.args.tokens.now) c.args.from c.args.names.now failed.0)

pub returns-in_err-intern_between-clause-kept : goal.returns-in_err-intern_between-clause-kept
returns-in_err-intern_between-clause-kept c =
    let stop = c.from_residual-in_err-intern_between in
    let failed = err_from_is_err_and stop.result stop.ensures.1 in
    rw (failed.1, failed.2) (keeps_part (a_block (word c.args.word)) c.args.depth c.args.source.now c.args.tokens.now
    c.args.from c.in_ok-to.to c.in_ok-to.ensures.spelling c.requires.within c.args.names.now
    c.in_ok-to.field-0-0 c.in_ok-to.ensures.front stop.result
    c.intern_between.new.names c.in_err-intern_between.ensures.err)

pub returns-clause-texts : goal.returns-clause-texts
returns-clause-texts c =
    same_texts (a_block (word c.args.word)) c.args.depth c.args.source.now c.args.tokens.now c.args.from c.in_ok-to.to
    c.in_ok-to.ensures.spelling c.requires.within c.args.names.now c.in_ok-to.field-0-0
    c.in_ok-to.ensures.front c.block_at-2.result c.intern_between.new.names
    c.in_ok-intern_between.ensures.texts c.block_at-2.ensures.front

pub returns-clause-kept : goal.returns-clause-kept
returns-clause-kept c =
    keeps_all (a_block (word c.args.word)) c.args.depth c.args.source.now c.args.tokens.now c.args.from c.in_ok-to.to
    c.in_ok-to.ensures.spelling c.requires.within c.args.names.now c.in_ok-to.field-0-0
    c.in_ok-to.ensures.front c.block_at-2.result c.intern_between.new.names
    c.in_ok-intern_between.ensures.texts c.block_at-2.ensures.fault
