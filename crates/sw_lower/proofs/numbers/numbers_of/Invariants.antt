use Rattle.std.proofs.Common.{◌≡◌, drop, map}
use Rattle.sw_lower_draft.specs.Drafts.{number_by}
use Rattle.sw_lower_plans.specs.declared.name.FunctionName.{FunctionName}
use Rattle.sw_lower_rules.specs.Tables.{number_from, number_in}
use Rattle.sw_decl_words.specs.Words.{or_else}
use Rattle.sw_lower.specs.Ordered.{tree_name}
use Rattle.sw_lower.proofs.Numbered.{AreBelow, AreFoundBelow}
use Rattle.sw_lower.proofs.numbers.numbers_of.Given as goal

-- what was noted so far, and then what is left to note; and the names so far have their places,
-- and no others are noted
abbrev pub invariant-loop-number : goal.invariant-loop-number
invariant-loop-number l = record {
  noted : (name : FunctionName)
      → or_else (number_by l.table name)
      (number_from l.number (map tree_name (drop l.number l.bodies)) name)
      ≡ number_in (map tree_name l.bodies) name;
  found : AreFoundBelow l.number (map tree_name l.bodies) (number_by l.table);
  below : AreBelow l.number (number_by l.table);
}
