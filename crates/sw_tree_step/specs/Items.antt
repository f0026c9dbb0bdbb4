-- The first state of a program, the states that items lead to, and their events.
use Rattle.std.specs.Prelude.{ℕ, ◌+◌, suc, zero, List, [], ◌∷◌, ◌++◌, Option, None, fold, length}
use Rattle.std.specs.Prelude.{replicate, option_and_then}
use Rattle.std.specs.List.{filter_map}
use Rattle.sw_tree.specs.declared.decl.Decl.{Decl}
use Rattle.sw_tree.specs.declared.decl.Decl.TheVariants.{Entry}
use Rattle.sw_step.specs.declared.event.Event.{Event}
use Rattle.sw_tree_work.specs.Bodies.{Bodies, bodies_of}
use Rattle.sw_tree_work.specs.Facts.{Facts}
use Rattle.sw_tree_work.specs.Work.{BodyName, FirstValue, Function, TreeBody}
use Rattle.sw_tree_step.specs.Frames.{first_frame}
use Rattle.sw_tree_step.specs.State.{Ready, TreeFrame, TreeState}
use Rattle.sw_tree_step.specs.Step.{tree_event_of, tree_step_of}

-- the first values of so many global variables, from a number on
abbrev pub first_values : ℕ → ℕ → List BodyName
first_values zero number = []
first_values (suc count) number = FirstValue number ∷ first_values count (number + 1)

abbrev pub entry_names : List Decl → List BodyName
entry_names [] = []
entry_names (Entry word written at is_async body ∷ decls) = Function at ∷ []
entry_names (_ ∷ decls) = entry_names decls

-- The bodies with which a program begins, the first one on top: the first value of each global
-- variable in order, and then the entry.
abbrev pub start_names : Facts → List Decl → List BodyName
start_names facts decls = first_values (length facts.world.globals) 0 ++ entry_names decls

abbrev pub body_begun : TreeBody → Option TreeFrame
body_begun body = first_frame body.iso [] body.work

-- No cells, so many global variables without a value, and one job that has not run yet.
abbrev pub started : Bodies → ℕ → List BodyName → TreeState
started bodies globals names = record {
  cells = [];
  globals = replicate globals None;
  jobs = record {
    frames = filter_map (λ name. option_and_then body_begun (bodies name)) names;
    status = Ready;
  } ∷ [];
  halted = None;
}

-- the state before any item
unfoldable pub tree_start_of : Facts → List Decl → TreeState
tree_start_of facts decls =
    started (bodies_of facts decls) (length facts.world.globals) (start_names facts decls)

-- the state after items
unfoldable pub tree_reach : Bodies → TreeState → List ℕ → TreeState
tree_reach bodies state items = fold (tree_step_of bodies) state items

-- the events of items
unfoldable pub tree_events : Bodies → TreeState → List ℕ → List Event
tree_events bodies state [] = []
tree_events bodies state (j ∷ items) =
    tree_event_of bodies state j ∷ tree_events bodies (tree_step_of bodies state j) items
