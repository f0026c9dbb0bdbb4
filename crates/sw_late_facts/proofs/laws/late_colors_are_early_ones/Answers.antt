use Rattle.sw_color_rules.specs.Machine.{colored_reach}
use Rattle.sw_late_facts.specs.Late.{late_reach}
use Rattle.sw_late_facts.proofs.Reached.{alike, reach_follows}
use Rattle.sw_late_facts.proofs.laws.late_colors_are_early_ones.Goals as goal

pub returns : goal.returns
returns c = record {
  alike = λ graph items.
      alike graph (colored_reach graph items) (late_reach graph items) (reach_follows graph items);
}
