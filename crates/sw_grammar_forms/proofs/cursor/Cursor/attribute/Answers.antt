use Rattle.std.proofs.Common.{subst, sym}
use Rattle.std.specs.Str.{IsUtf8, IsCharBoundary}
use Rattle.sw_grammar_forms.proofs.CursorSteps.{attribute_cut, attribute_some}
use Rattle.sw_grammar_forms.proofs.cursor.Cursor.attribute.Goals as goal

pub text-requires : goal.text-requires
text-requires c = attribute_some c.args.self.now c.requires

pub range_from-requires : goal.range_from-requires
range_from-requires c = λ _. subst (λ text. IsCharBoundary text 1) (sym c.text.ensures)
    (attribute_cut _ (subst IsUtf8 c.text.ensures c.text.utf8) c.requires)
