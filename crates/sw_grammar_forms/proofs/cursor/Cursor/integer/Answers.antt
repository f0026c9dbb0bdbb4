use Rattle.std.proofs.Common.{sym, ◌∙◌, w64, rules}
use Rattle.std.proofs.lemmas.Int.{to_z-of_z}
use mir.Val.{SFits}
use Rattle.sw_grammar_forms.proofs.CursorSteps.{stopped, integer_refuses, integer_takes}
use Rattle.sw_grammar_forms.proofs.cursor.Cursor.integer.Goals as goal

pub returns-in_default : goal.returns-in_default
returns-in_default c = stopped _ _ _ _ c.stop.ensures
    (integer_refuses _ (sym c.literal.ensures ∙ c.in_default.is))

pub returns : goal.returns
returns c =
    let fits : SFits w64 c.in-Some.value = search rules in
    rw (to_z-of_z w64 c.in-Some.value fits)
    (integer_takes c.in-Some.value _ _ _ (sym c.literal.ensures ∙ c.in-Some.is) c.take.ensures)
