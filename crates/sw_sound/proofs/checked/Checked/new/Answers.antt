use Rattle.std.proofs.Common.{sym, subst, ◌∙◌}
use Rattle.sw_region_flow.specs.Breaches.{AreBreaches}
use Rattle.sw_region_flow.proofs.Passing.{graph_passes}
use Rattle.sw_sound.proofs.checked.Checked.new.Goals as goal

pub invariant_of-result : goal.invariant_of-result
invariant_of-result g c =
    let none = sym c.from_vec-found.ensures ∙ c.is_empty.ensures.0 c.if-is_empty.true in
    record {
      checked = ∣ record {
        clean = c.requires.clean;
        supplied = c.requires.supplied;
        passed = graph_passes c.args.graph
            (subst (AreBreaches c.args.graph) none c.in_ok-breaches.ensures.breaches);
      } ∣₁;
    }
