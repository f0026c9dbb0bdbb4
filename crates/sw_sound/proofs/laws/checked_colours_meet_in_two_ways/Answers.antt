use Rattle.std.proofs.Math.Logic.{∥∥₁_map}
use Rattle.sw_sound.specs.Checks.{IsChecked}
use Rattle.sw_sound_facts.proofs.Chosen.{each_annotated, states_of}
use Rattle.sw_owned_facts.proofs.Taking.{met, taken}
use Rattle.sw_sound.proofs.laws.checked_colours_meet_in_two_ways.Goals as goal

pub returns-clause-taken : goal.returns-clause-taken
returns-clause-taken c items item n one other was now differs =
    let graph = c.args.checked.now.graph in
    ∥∥₁_map c.args.checked.now.checked
    (λ (is : IsChecked graph). taken graph is.clean is.supplied (states_of graph is.passed)
    (each_annotated graph is.passed) items item n one other was now differs)

pub returns-clause-met : goal.returns-clause-met
returns-clause-met c items item n m one other was also differs same =
    let graph = c.args.checked.now.graph in
    ∥∥₁_map c.args.checked.now.checked
    (λ (is : IsChecked graph). met graph is.clean is.supplied (states_of graph is.passed)
    (each_annotated graph is.passed) items item n m one other was also differs same)
