use Rattle.std.proofs.Math.Logic.{∥∥₁_elim}
use Rattle.sw_sound.specs.Checks.{IsChecked}
use Rattle.sw_sound_facts.proofs.Theorem.{never_races}
use Rattle.sw_sound.proofs.laws.checked_graphs_never_race.Goals as goal

pub returns : goal.returns
returns c items racing =
    let graph = c.args.checked.now.graph in
    ∥∥₁_elim c.args.checked.now.checked (λ x y. absurd x)
    (λ (is : IsChecked graph). never_races graph is.clean is.supplied is.passed items racing)
