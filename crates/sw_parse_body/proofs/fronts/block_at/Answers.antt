use Rattle.std.proofs.Common.{Bor}
use Rattle.std.specs.Prelude.{ℕ, List, Option, option_map}
use Rattle.sw_parse_body.specs.Phrases.{a_block}
use Rattle.sw_parse_body.proofs.FrontSteps.{gives_within, gives_front, stop_is_in, stop_explains}
use Rattle.sw_parse_body.proofs.fronts.block_at.Goals as goal

abbrev word : Option (Bor (List ℕ)) → Option (List ℕ)
word = option_map (λ text. text.now)

pub overflow_sub-result : goal.overflow_sub-result
overflow_sub-result c =
    gives_within (a_block (word c.args.word)) c.args.depth c.args.source.now c.args.tokens.now c.args.from
    c.args.names.now c.cursor_from-left.result c.block.new.tokens
    c.cursor_from-left.ensures.spelling c.requires.within c.cursor_from-left.ensures.left
    c.in-Ok.block c.in-Ok.ensures c.count.result c.count.ensures

pub fault_of-requires-clause-within : goal.fault_of-requires-clause-within
fault_of-requires-clause-within c =
    stop_is_in (a_block (word c.args.word)) c.args.depth c.args.source.now c.args.tokens.now c.args.from
    c.args.names.now c.cursor_from-left.result c.block.new.tokens
    c.cursor_from-left.ensures.spelling c.requires.within c.cursor_from-left.ensures.left
    c.in-Err.stop c.in-Err.ensures

pub returns-in-Ok-clause-front : goal.returns-in-Ok-clause-front
returns-in-Ok-clause-front c =
    gives_front (a_block (word c.args.word)) c.args.depth c.args.source.now c.args.tokens.now c.args.from
    c.args.names.now c.cursor_from-left.result c.block.new.tokens
    c.cursor_from-left.ensures.spelling c.requires.within c.cursor_from-left.ensures.left
    c.in-Ok.block c.in-Ok.ensures c.count.result c.count.ensures

pub returns-in-Err-clause-fault : goal.returns-in-Err-clause-fault
returns-in-Err-clause-fault c =
    stop_explains (a_block (word c.args.word)) c.args.depth c.args.source.now c.args.tokens.now c.args.from
    c.args.names.now c.cursor_from-left.result c.block.new.tokens
    c.cursor_from-left.ensures.spelling c.requires.within c.cursor_from-left.ensures.left
    c.in-Err.stop c.fault_of.result c.fault_of.ensures c.in-Err.ensures
