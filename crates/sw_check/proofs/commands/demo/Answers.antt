use Rattle.std.proofs.Common.{◌≡◌, Ok, Err, ap, rules, subst}
use Rattle.std.proofs.lemmas.Result.{err_from_is_err_and}
use Rattle.sw_gen.specs.Program.{program}
use Rattle.sw_check_parts.specs.declared.stop.Stop.TheVariants.{Memory}
use Rattle.sw_check_parts.specs.Leaves.{Decides}
use Rattle.sw_check_parts.proofs.Doing.{does_alone, decides_on, decides_stop}
use Rattle.sw_decls.specs.declared.signature.AsyncDefault.TheVariants.{Concurrent}
use Rattle.sw_verdict.specs.Phases.{all_phases}
use Rattle.sw_check.specs.Programs.{Passed, seen_graph}
use Rattle.sw_check.specs.Reply.{EndsWithReply, IsJudgement, demo_items, demo_outcome}
use Rattle.sw_replay.specs.Output.{output_of}
use Rattle.std.proofs.Common.{◌≤◌, ◌∙◌, length, sym}
use Rattle.sw_replay.specs.declared.items.TheConstants.{MAX_ITEMS}
use Rattle.sw_replay.specs.Items.{written_out}
use Rattle.sw_check.proofs.DemoLemmas.{few_items}
use Rattle.sw_check.proofs.commands.demo.Goals as goal

pub returns-in_err-text : goal.returns-in_err-text
returns-in_err-text c shelf =
    let p = err_from_is_err_and c.from_residual.result c.from_residual.ensures.1 in
    rw (p.1, p.2)
    (decides_stop (IsJudgement Concurrent all_phases (program c.args.actors)) _ Memory tt)

pub returns-in_err-made : goal.returns-in_err-made
returns-in_err-made c shelf =
    let p = err_from_is_err_and c.from_residual-in_err-made.result
    c.from_residual-in_err-made.ensures.1 in
    let stop = c.in_err-made.field-0.0 in
    let text_is : c.as_slice.result.now ≡ program c.args.actors = search rules in
    rw (p.1, p.2)
    (decides_stop (IsJudgement Concurrent all_phases (program c.args.actors)) _ stop
    (subst (λ text. Decides {A = Passed} (IsJudgement Concurrent all_phases text) (Err stop)) text_is
    c.in_err-made.ensures))

pub returns-in_err-runs : goal.returns-in_err-runs
returns-in_err-runs c shelf =
    let p = err_from_is_err_and c.from_residual-in_err-runs.result
    c.from_residual-in_err-runs.ensures.1 in
    let passed = seen_graph c.in_ok-made.made in
    let text_is : c.as_slice.result.now ≡ program c.args.actors = search rules in
    rw (p.1, p.2)
    (decides_on (IsJudgement Concurrent all_phases (program c.args.actors))
    (subst (λ text. IsJudgement Concurrent all_phases text (Ok passed)) text_is
    c.in_ok-made.ensures)
    (does_alone
    (EndsWithReply (demo_outcome c.args.actors (output_of passed.graph (demo_items c.args.actors))))
    (Err Memory) tt))

pub new-items-requires : goal.new-items-requires
new-items-requires c =
    subst (λ runs. length (written_out runs) ≤ MAX_ITEMS)
    (sym (c.from_vec.ensures ∙ c.in_ok-runs.ensures)) (few_items c.args.actors c.requires)

pub returns-in_err-demonstrate : goal.returns-in_err-demonstrate
returns-in_err-demonstrate c shelf =
    let p = err_from_is_err_and c.from_residual-in_err-demonstrate.result
    c.from_residual-in_err-demonstrate.ensures.1 in
    let passed = seen_graph c.in_ok-made.made in
    let text_is : c.as_slice.result.now ≡ program c.args.actors = search rules in
    rw (p.1, p.2)
    (decides_on (IsJudgement Concurrent all_phases (program c.args.actors))
    (subst (λ text. IsJudgement Concurrent all_phases text (Ok passed)) text_is
    c.in_ok-made.ensures)
    (does_alone
    (EndsWithReply (demo_outcome c.args.actors (output_of passed.graph (demo_items c.args.actors))))
    (Err Memory) tt))

pub returns : goal.returns
returns c shelf =
    let passed = seen_graph c.in_ok-made.made in
    let outcome = c.in_ok-demonstrate.field-0 in
    let text_is : c.as_slice.result.now ≡ program c.args.actors = search rules in
    let items_are : c.new-items.result ≡ demo_items c.args.actors = search rules in
    decides_on (IsJudgement Concurrent all_phases (program c.args.actors))
    (subst (λ text. IsJudgement Concurrent all_phases text (Ok passed)) text_is
    c.in_ok-made.ensures)
    (does_alone
    (EndsWithReply (demo_outcome c.args.actors (output_of passed.graph (demo_items c.args.actors))))
    (Ok outcome) (ap Ok
    (c.in_ok-demonstrate.ensures
    ∙ ap (λ items. demo_outcome c.args.actors (output_of passed.graph items)) items_are)))
