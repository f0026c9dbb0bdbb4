use Rattle.std.proofs.Common.{◌∙◌, ap, rules, codes, refl}
use Rattle.std.specs.Prelude.{Ok}
use Rattle.std.proofs.lemmas.Result.{err_from_is_err_and}
use Rattle.sw_grammar_forms.specs.Quotes.{quote}
use Rattle.sw_grammar_forms.proofs.ItemLoops.{refuses}
use Rattle.sw_grammar_forms.proofs.ListLoops.{list_turn, list_shorter}
use Rattle.sw_grammar.specs.Grammar.{body, good}
use Rattle.sw_grammar.specs.Nests.{El, shape_of, in_types, in_result, in_task_type}
use Rattle.sw_grammar.specs.Types.{type}
use Rattle.sw_parse_parts.specs.Around.{known}
use Rattle.sw_parse_parts.proofs.Anywhere.{same_types, same_type, same_task_inner}
use Rattle.sw_parse_parts.proofs.RuleNests.{rule_read, rule_stops}
use Rattle.sw_parse_parts.proofs.types.+types.Goals as goal

pub type_tree-returns-in_err-written : goal.type_tree-returns-in_err-written
unfolding type
type_tree-returns-in_err-written t c = search rules

pub type_tree-returns : goal.type_tree-returns
unfolding type
type_tree-returns t c = search rules

pub params-returns-in_err-inside : goal.params-returns-in_err-inside
params-returns-in_err-inside t c =
    let stop = err_from_is_err_and c.from_residual-in_err-inside.result
    c.from_residual-in_err-inside.ensures.1 in
    rw (stop.1, stop.2) (refuses _ _ _ _ _
    (rule_stops (known c.args.around.now) in_types
    (same_types (known c.args.around.now)) c.args.depth (quote (codes "("))
    _ _ _ c.in_ok-at.ensures.opened) c.in_err-inside.ensures)

pub params-returns : goal.params-returns
params-returns t c =
    rule_read (known c.args.around.now) in_types
    (same_types (known c.args.around.now)) c.args.depth (quote (codes "("))
    _ _ _ _ _ c.in_ok-at.ensures.opened c.in_ok-inside.ensures

pub result-returns-in_err-inside : goal.result-returns-in_err-inside
result-returns-in_err-inside t c =
    let stop = err_from_is_err_and c.from_residual-in_err-inside.result
    c.from_residual-in_err-inside.ensures.1 in
    rw (stop.1, stop.2) (refuses _ _ _ _ _
    (rule_stops (known c.args.around.now) in_result
    (same_type (known c.args.around.now)) c.args.depth (quote (codes "->"))
    _ _ _ c.in_ok-at.ensures.opened) c.in_err-inside.ensures)

pub result-returns : goal.result-returns
result-returns t c =
    rule_read (known c.args.around.now) in_result
    (same_type (known c.args.around.now)) c.args.depth (quote (codes "->"))
    _ _ _ _ _ c.in_ok-at.ensures.opened c.in_ok-inside.ensures

pub task_result-returns-in_err-inside : goal.task_result-returns-in_err-inside
task_result-returns-in_err-inside t c =
    let stop = err_from_is_err_and c.from_residual-in_err-inside.result
    c.from_residual-in_err-inside.ensures.1 in
    rw (stop.1, stop.2) (refuses _ _ _ _ _
    (rule_stops (known c.args.around.now) in_task_type
    (same_task_inner (known c.args.around.now)) c.args.depth (quote (codes "<"))
    _ _ _ c.in_ok-at.ensures.opened) c.in_err-inside.ensures)

pub task_result-returns : goal.task_result-returns
task_result-returns t c =
    rule_read (known c.args.around.now) in_task_type
    (same_task_inner (known c.args.around.now)) c.args.depth (quote (codes "<"))
    _ _ _ _ _ c.in_ok-at.ensures.opened c.in_ok-inside.ensures

pub more_types-loop-alloc-smaller : goal.more_types-loop-alloc-smaller
more_types-loop-alloc-smaller t c =
    list_shorter El shape_of (body (known c.args.around.now).id_of) good c.args.depth (codes ",")
    (type (known c.args.around.now)) refl _ _ _ _
    (c.skip.ensures ∙ ap (λ found. Ok (found, c.skip.new.self)) c.loop-alloc-test.true)
    c.in_ok-type_tree.ensures

pub more_types-loop-alloc-preserved : goal.more_types-loop-alloc-preserved
more_types-loop-alloc-preserved t c = rw c.in_ok-push-2.ensures.items
    (list_turn El shape_of (body (known c.args.around.now).id_of) good c.args.depth (codes ",")
    (type (known c.args.around.now)) refl _ _ _ _ c.loop-alloc.types.items _ c.loop-alloc.invariant
    (c.skip.ensures ∙ ap (λ found. Ok (found, c.skip.new.self)) c.loop-alloc-test.true)
    c.in_ok-type_tree.ensures)
