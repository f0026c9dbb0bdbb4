use Rattle.std.proofs.Common.{sym, ◌∙◌, ap, not, ◌&&◌, bytes_eq}
use Rattle.std.specs.List.{list_any}
use Rattle.sw_grammar_forms.specs.Relations.{head, is_none_of}
use Rattle.sw_parse_parts.proofs.TaskSteps.{none_of_is}
use Rattle.sw_parse_parts.proofs.words.sees_new_word.Goals as goal

pub returns-then-sees_word : goal.returns-then-sees_word
returns-then-sees_word c =
    let words = c.args.around.now.here.tasks in
    ap not (c.is_task.ensures ∙ ap (λ text. list_any (λ task. bytes_eq text task) words)
    c.text.ensures)
    ∙ (none_of_is words (head c.args.tokens.now) (sym c.sees_word.ensures ∙ c.if-sees_word.true)
    ∙ ap (λ b. b && is_none_of words (head c.args.tokens.now))
    (sym c.if-sees_word.true ∙ c.sees_word.ensures))

pub returns-else-sees_word : goal.returns-else-sees_word
returns-else-sees_word c =
    c.if-sees_word.false
    ∙ ap (λ b. b && is_none_of c.args.around.now.here.tasks (head c.args.tokens.now))
    (sym c.if-sees_word.false ∙ c.sees_word.ensures)
