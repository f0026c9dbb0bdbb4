-- The end of a `switch` over a table.
use Rattle.std.specs.Prelude.{ℕ, Bool, false, List, [], ◌∷◌, Option, map}
use Rattle.sw_tree.specs.declared.stmt.CaseArm.{CaseArm, out-CaseArm}
use Rattle.sw_tree.specs.declared.stmt.Pattern.{Pattern}
use Rattle.sw_tree.specs.declared.stmt.Pattern.TheVariants.{Skip, Let}
use Rattle.sw_types.specs.declared.shape.CaseShape.{CaseShape}
use Rattle.sw_types.specs.declared.ty.Ty.{Ty}
use Rattle.sw_typing_rules.specs.Statements.{Head, Left, switch_left, variable}
use Rattle.sw_typing_rules.specs.declared.scope.Var.{Var}
use Rattle.sw_typing_steps.specs.Steps.{judged_of, left_since}
use Rattle.sw_typing_steps.specs.declared.known.Known.{Known}
use Rattle.sw_typing_steps.specs.declared.known.Went.{Went}
use Rattle.sw_typing_steps.specs.declared.table.Table.{Table}

-- the word and the patterns of an arm
abbrev pub head_at : CaseArm → Head
head_at arm = record {
  name = (out-CaseArm arm).name.id;
  patterns = (out-CaseArm arm).patterns;
}

-- the variable of one pattern, if it has one
abbrev pub pattern_var : Pattern → Option Ty → List Var
pattern_var (Skip at) ty = []
pattern_var (Let name) ty = variable name false ty ∷ []

-- what a `switch` leaves: all that was noted since the table had `start` rows is taken as noted of
-- its arms
abbrev pub switched : Option (List CaseShape) → ℕ → ℕ → Known → List CaseArm → Bool → Went → Table
    → Left
switched cases start at subject arms otherwise inner table =
    switch_left cases at (judged_of subject []) (map head_at arms) otherwise
    (left_since inner start table)
