use Rattle.std.proofs.Common.{inl, inr}
use Rattle.std.proofs.Math.Logic.{∥∥₁_elim, ∥∥₁_map}
use Rattle.std.proofs.lemmas.Bool.{cases_eq}
use Rattle.sw_color_rules.specs.Machine.{colored_reach}
use Rattle.sw_sound.specs.Checks.{IsChecked}
use Rattle.sw_sound_facts.proofs.Chosen.{each_annotated, states_of}
use Rattle.sw_owned_facts.proofs.Apart.{one_job}
use Rattle.sw_owned_facts.proofs.Owned.{colored_owned}
use Rattle.sw_sound.proofs.laws.checked_graphs_own_their_memory.Goals as goal

pub returns-clause-owned : goal.returns-clause-owned
returns-clause-owned c states are items =
    let graph = c.args.checked.now.graph in
    ∥∥₁_map c.args.checked.now.checked
    (λ (is : IsChecked graph). colored_owned graph is.clean is.supplied states are items)

pub returns-clause-apart : goal.returns-clause-apart
returns-clause-apart c states are items p q x y colour p_runs q_runs one other =
    let graph = c.args.checked.now.graph in
    elim (cases_eq p.job q.job) [
      | inl same ↦ same
      | inr differ ↦ absurd (∥∥₁_elim c.args.checked.now.checked (λ a b. absurd a)
          (λ (is : IsChecked graph). differ (one_job graph states (colored_reach graph items)
          (colored_owned graph is.clean is.supplied states are items) p q x y colour p_runs q_runs
          one other)))
    ]

pub returns-clause-annotated : goal.returns-clause-annotated
returns-clause-annotated c =
    let graph = c.args.checked.now.graph in
    ∥∥₁_map c.args.checked.now.checked
    (λ (is : IsChecked graph). (states_of graph is.passed, each_annotated graph is.passed))
