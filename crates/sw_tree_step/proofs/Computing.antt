-- The events of the examples, by computation.
use Rattle.std.proofs.Common.{◌≡◌, refl, false, true, [], ◌∷◌, ◌++◌}
use Rattle.std.specs.Prelude.{codes, replicate}
use Rattle.sw_value.specs.Lists.{changed_at}
use Rattle.sw_value.specs.declared.state.TrapKind.TheVariants.{ZeroDivisor}
use Rattle.sw_value.specs.declared.value.Value.TheVariants as value
use Rattle.sw_step.specs.declared.event.Event.TheVariants as event
use Rattle.sw_tree_work.specs.Work.{Literal}
use Rattle.sw_tree_step.specs.Examples.{awaits, both_of, events_of, hops, leaves_loop, printed, ran}
use Rattle.sw_tree_step.specs.Items.{tree_events}
use Rattle.sw_tree_step.specs.Step.{move_of, tree_event_of, tree_step_of}

pub skipped : events_of (both_of (Literal (value.Bool false))) (replicate 7 0)
    ≡ event.Dispatched ∷ ran 3 ++ printed (codes "false" ∷ []) ∷ ran 1 ++ event.Nothing ∷ []
unfolding tree_events tree_event_of tree_step_of move_of changed_at
skipped = simp (value.outs-Bool) refl

pub looked_at : events_of (both_of (Literal (value.Bool true))) (replicate 8 0)
    ≡ event.Dispatched ∷ ran 5 ++ event.Trapped ZeroDivisor 5 ∷ event.Nothing ∷ []
unfolding tree_events tree_event_of tree_step_of move_of changed_at
looked_at = simp (value.outs-Bool, value.outs-Int) refl

pub left : events_of leaves_loop (replicate 9 0)
    ≡ event.Dispatched ∷ ran 5 ++ printed (codes "true" ∷ []) ∷ ran 1 ++ event.Nothing ∷ []
unfolding tree_events tree_event_of tree_step_of move_of changed_at
left = simp (value.outs-Bool) refl

pub hopped : events_of hops (replicate 8 0)
    ≡ event.Dispatched ∷ ran 2 ++ event.Dispatched ∷ ran 1 ++ event.Dispatched ∷ ran 1
    ++ event.Nothing ∷ []
unfolding tree_events tree_event_of tree_step_of move_of changed_at
hopped = simp (value.outs-Cell) refl

pub awaited : events_of awaits (replicate 3 0 ++ replicate 2 1 ++ 0 ∷ [])
    ≡ event.Dispatched ∷ ran 2 ++ event.Dispatched ∷ ran 1 ++ event.Woken 1 ∷ []
unfolding tree_events tree_event_of tree_step_of move_of changed_at
awaited = simp (value.outs-Cell) refl
