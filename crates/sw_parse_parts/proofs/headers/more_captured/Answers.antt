use Rattle.std.proofs.Common.{◌∙◌, ap, codes, refl}
use Rattle.std.specs.Prelude.{Ok}
use Rattle.sw_grammar_forms.proofs.ListLoops.{list_turn, list_shorter}
use Rattle.sw_grammar.specs.Grammar.{body, good}
use Rattle.sw_grammar.specs.Nests.{El, shape_of}
use Rattle.sw_grammar.specs.Closures.{captured}
use Rattle.sw_parse_parts.specs.Around.{known}
use Rattle.sw_parse_parts.proofs.headers.more_captured.Goals as goal

pub loop-words-smaller : goal.loop-words-smaller
loop-words-smaller c =
    list_shorter El shape_of (body (known c.args.around.now).id_of) good c.args.depth (codes ",")
    (captured (known c.args.around.now)) refl _ _ _ _
    (c.skip.ensures ∙ ap (λ found. Ok (found, c.skip.new.self)) c.loop-words-test.true)
    c.in_ok-captured.ensures

pub loop-words-preserved : goal.loop-words-preserved
loop-words-preserved c = rw c.in_ok-push-2.ensures.items
    (list_turn El shape_of (body (known c.args.around.now).id_of) good c.args.depth (codes ",")
    (captured (known c.args.around.now)) refl _ _ _ _ c.loop-words.words.items _
    c.loop-words.invariant
    (c.skip.ensures ∙ ap (λ found. Ok (found, c.skip.new.self)) c.loop-words-test.true)
    c.in_ok-captured.ensures)
