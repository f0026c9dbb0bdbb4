-- Rows that hold: what is said of a node is what the tables answer, and no node is ill.
use Rattle.std.specs.Prelude.{◌≡◌, List, [], ◌∷◌, Some}
use Rattle.sw_typing_rules.specs.declared.row.Row.{Row}
use Rattle.sw_typing_rules.specs.declared.row.Row.TheVariants.{Ill, Means, Typed}
use Rattle.sw_isolation_rules.specs.Answers.{Answers}

-- What is said of a node is what the tables answer, and the node isn't ill.
abbrev pub RowHolds : Answers → Row → Type 0
RowHolds answers (Typed at ty) = answers.type_at at ≡ Some ty
RowHolds answers (Means at meaning) = answers.meaning_at at ≡ Some meaning
RowHolds answers (Ill at code unless) = ⊥

-- each of these rows
abbrev pub RowsHold : Answers → List Row → Type 0
RowsHold answers [] = Unit {0}
RowsHold answers (row ∷ rows) = RowHolds answers row × RowsHold answers rows
