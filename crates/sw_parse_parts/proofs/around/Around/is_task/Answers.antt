use Rattle.std.proofs.Common.{◌∙◌, ap, sym, bytes_eq, map}
use Rattle.std.specs.List.{list_any}
use Rattle.sw_grammar.specs.Around.{index_in}
use Rattle.sw_parse_parts.specs.Around.{Surroundings}
use Rattle.sw_parse_parts.proofs.TaskSteps.{among, no_task, no_task_of_none}
use Rattle.sw_parse_parts.proofs.around.Around.is_task.Goals as goal

pub returns-then-is_empty : goal.returns-then-is_empty
returns-then-is_empty c =
    no_task_of_none c.self.inside.names.now c.args.text.now
    (map (λ word. word.now) c.self.inside.words.now) c.self.inside.ids.now c.self.invariant
    (sym c.is_empty.ensures ∙ c.if-is_empty.true)
    ∙ ap (λ (around : Surroundings). list_any (λ task. bytes_eq c.args.text.now task)
    around.here.tasks) c.self.view_is

pub returns-then-not-contains : goal.returns-then-not-contains
returns-then-not-contains c =
    no_task c.self.inside.names.now c.args.text.now
    (map (λ word. word.now) c.self.inside.words.now) c.self.inside.ids.now c.self.invariant
    c.id_of.result (c.id_of.ensures ∙ ap (λ (around : Surroundings). index_in around.texts
    c.args.text.now) (sym c.self.view_is)) (sym c.contains.ensures.value ∙ c.if-not-contains.true)
    ∙ ap (λ (around : Surroundings). list_any (λ task. bytes_eq c.args.text.now task)
    around.here.tasks) c.self.view_is

pub returns : goal.returns
returns c =
    c.is_among.ensures
    ∙ (among c.args.text.now (λ word. word.now) c.self.inside.words.now
    ∙ ap (λ (around : Surroundings). list_any (λ task. bytes_eq c.args.text.now task)
    around.here.tasks) c.self.view_is)
