use Rattle.std.proofs.Math.Logic.{∥∥₁_elim}
use Rattle.sw_sound.specs.Checks.{IsChecked}
use Rattle.sw_order_facts.proofs.Passed.{passed_ordered}
use Rattle.sw_sound.proofs.laws.checked_graphs_order_their_accesses.Goals as goal

pub returns : goal.returns
returns c items p q a b unordered =
    let graph = c.args.checked.now.graph in
    ∥∥₁_elim c.args.checked.now.checked (λ x y. absurd x)
    (λ (is : IsChecked graph). passed_ordered graph is.clean is.supplied is.passed items p q a b
    unordered)
