use Rattle.std.proofs.Common.{◌∙◌, ap, codes, refl}
use Rattle.std.specs.Prelude.{Ok}
use Rattle.sw_grammar_forms.proofs.ListLoops.{list_turn, list_shorter}
use Rattle.sw_grammar.specs.Grammar.{body, good}
use Rattle.sw_grammar.specs.Nests.{El, shape_of}
use Rattle.sw_grammar.specs.Exprs.{arg}
use Rattle.sw_parse_parts.specs.Around.{known}
use Rattle.sw_parse_expr.proofs.calls.more_args.Goals as goal

pub loop-alloc-smaller : goal.loop-alloc-smaller
loop-alloc-smaller g c =
    list_shorter El shape_of (body (known c.args.around.now).id_of) good c.args.depth (codes ",")
    (arg (known c.args.around.now)) refl _ _ _ _
    (c.skip.ensures ∙ ap (λ found. Ok (found, c.skip.new.self)) c.loop-alloc-test.true)
    c.in_ok-arg.ensures

pub loop-alloc-preserved : goal.loop-alloc-preserved
loop-alloc-preserved g c = rw c.in_ok-push-2.ensures.items
    (list_turn El shape_of (body (known c.args.around.now).id_of) good c.args.depth (codes ",")
    (arg (known c.args.around.now)) refl _ _ _ _ c.loop-alloc.args.items _ c.loop-alloc.invariant
    (c.skip.ensures ∙ ap (λ found. Ok (found, c.skip.new.self)) c.loop-alloc-test.true)
    c.in_ok-arg.ensures)
