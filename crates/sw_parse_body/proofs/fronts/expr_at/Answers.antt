use Rattle.sw_parse_body.specs.Phrases.{an_expr}
use Rattle.sw_parse_body.proofs.FrontSteps.{gives_within, gives_front, stop_is_in, stop_explains}
use Rattle.sw_parse_body.proofs.fronts.expr_at.Goals as goal

pub overflow_sub-result : goal.overflow_sub-result
overflow_sub-result c =
    gives_within an_expr c.args.depth c.args.source.now c.args.tokens.now c.args.from
    c.args.names.now c.cursor_from-left.result c.expr.new.tokens
    c.cursor_from-left.ensures.spelling c.requires.within c.cursor_from-left.ensures.left
    c.in-Ok.value c.in-Ok.ensures c.count.result c.count.ensures

pub fault_of-requires-clause-within : goal.fault_of-requires-clause-within
fault_of-requires-clause-within c =
    stop_is_in an_expr c.args.depth c.args.source.now c.args.tokens.now c.args.from
    c.args.names.now c.cursor_from-left.result c.expr.new.tokens
    c.cursor_from-left.ensures.spelling c.requires.within c.cursor_from-left.ensures.left
    c.in-Err.stop c.in-Err.ensures

pub returns-in-Ok-clause-front : goal.returns-in-Ok-clause-front
returns-in-Ok-clause-front c =
    gives_front an_expr c.args.depth c.args.source.now c.args.tokens.now c.args.from
    c.args.names.now c.cursor_from-left.result c.expr.new.tokens
    c.cursor_from-left.ensures.spelling c.requires.within c.cursor_from-left.ensures.left
    c.in-Ok.value c.in-Ok.ensures c.count.result c.count.ensures

pub returns-in-Err-clause-fault : goal.returns-in-Err-clause-fault
returns-in-Err-clause-fault c =
    stop_explains an_expr c.args.depth c.args.source.now c.args.tokens.now c.args.from
    c.args.names.now c.cursor_from-left.result c.expr.new.tokens
    c.cursor_from-left.ensures.spelling c.requires.within c.cursor_from-left.ensures.left
    c.in-Err.stop c.fault_of.result c.fault_of.ensures c.in-Err.ensures
