use Rattle.std.proofs.Common.{sym}
use Rattle.sw_grammar_forms.proofs.CursorSteps.{first_within}
use Rattle.sw_grammar_forms.proofs.cursor.Cursor.take_whole.Goals as goal

pub returns-clause-whole : goal.returns-clause-whole
returns-clause-whole c = rw c.start-at.ensures.start
    (first_within c.self.inside.source.now c.self.inside.left.now _ _ _ (sym c.self.view_is)
    c.self.invariant c.requires c.start-at.ensures.end)
