use Rattle.std.proofs.Common.{map, ap, ◌∙◌, arith}
use Rattle.std.proofs.lemmas.List.{nil_from_length}
use Rattle.sw_grammar.specs.Around.{index_in}
use Rattle.sw_parse_decl.proofs.EnumSteps.{begun, one_turn, all_found, none_found, takes_one}
use Rattle.sw_parse_decl.proofs.enums.with_enums.Goals as goal

pub loop-word-init : goal.loop-word-init
loop-word-init c =
    begun (index_in c.args.around.now.texts) c.args.decls c.args.tokens.now
    c.take_word-word.new.tokens (record { decls = c.into_vec.result; texts = c.new.result })
    c.take_word-word.result c.take_word-word.ensures c.into_vec.ensures
    (ap (map (λ t. t.now)) (nil_from_length c.new.result.keys (omega (arith, c.new.ensures.len))))

pub loop-word-smaller : goal.loop-word-smaller
loop-word-smaller c =
    takes_one c.loop-word.tokens c.take_after.new.tokens c.in_ok-word.word
    c.in_ok-word.ensures.taken

pub loop-word-preserved : goal.loop-word-preserved
loop-word-preserved c =
    one_turn (index_in c.args.around.now.texts) c.args.decls c.args.tokens.now c.loop-word.tokens
    c.take_after.new.tokens c.loop-word.found c.take_after.new.self c.loop-word.word
    c.in_ok-word.word c.in_ok-word.ensures.taken (c.in_ok-word.ensures.found c.args.decls)
    c.loop-word.invariant

pub returns : goal.returns
returns c =
    c.from_vec.ensures ∙ all_found (index_in c.args.around.now.texts) c.args.decls
    c.args.tokens.now c.loop-word.tokens c.loop-word.found c.loop-word.word
    (omega (arith, c.count-in-loop-word.ensures, c.loop-word-test.false)) c.loop-word.invariant

pub returns-then-count-eq0 : goal.returns-then-count-eq0
returns-then-count-eq0 c =
    none_found (index_in c.args.around.now.texts) c.args.decls c.args.tokens.now
    (omega (arith, c.count.ensures, c.if-count-eq0.true))
