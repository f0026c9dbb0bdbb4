use Rattle.std.proofs.Common.{ℕ, List, ap, map, subst, ◌∙◌}
use Rattle.sw_isolation_table.specs.Isolated.{AreBoxes}
use Rattle.sw_isolation_rules.specs.Lists.{by_reference, kind_with}
use Rattle.sw_isolation_rules.specs.declared.note.Capture.{Capture}
use Rattle.sw_isolation_rules.specs.declared.note.Kinded.{Kinded}
use Rattle.sw_isolation.proofs.collecting.isolated_of.Goals as goal

pub returns : goal.returns
returns c =
    let boxes_of : List Capture → List ℕ =
    λ captures. map (λ (one : Capture). one.variable) (by_reference captures) in
    record {
      bodies = c.in_ok-bodies.ensures;
      kinds = c.in_ok-kinds.ensures;
      kinds_by_key = λ key. c.in_ok-kinds_by_key.ensures key
          ∙ ap (λ (list : List Kinded). kind_with list key)
          (c.as_slice.ensures ∙ c.in_ok-kinds.ensures);
      captures = c.in_ok-captures.ensures;
      boxes = subst (λ found. AreBoxes found c.each_once-boxes.result)
          (c.in_ok-boxes_in.ensures ∙ ap boxes_of (c.as_slice-2.ensures ∙ c.in_ok-captures.ensures))
          c.each_once-boxes.ensures;
      crossings = c.in_ok-crossings.ensures;
    }
