-- Small programs as bodies, and the events of their items.
use Rattle.std.specs.Prelude.{ℕ, true, false, List, [], ◌∷◌, None, pos, replicate}
use Rattle.sw_types.specs.declared.isolation.CallKind.TheVariants as kinds
use Rattle.sw_types.specs.declared.isolation.Iso.TheVariants as iso
use Rattle.sw_types.specs.declared.shape.Shape.{Shape}
use Rattle.sw_types.specs.declared.shape.ShapeKind.TheVariants as shapes
use Rattle.sw_graph.specs.declared.instr.BinOp.TheVariants as bin
use Rattle.sw_value.specs.declared.value.Value.TheVariants as value
use Rattle.sw_value.specs.Printed.{line_of}
use Rattle.sw_step.specs.declared.event.Event.{Event}
use Rattle.sw_step.specs.declared.event.Event.TheVariants as event
use Rattle.sw_tree_work.specs.Bodies.{body_in}
use Rattle.sw_tree_work.specs.Work.{Act, Await, Binary, Call, Decide, Drop, Finish, Function, Jump}
use Rattle.sw_tree_work.specs.Work.{Keep, Leave, Literal, Loop, New, Print, Replace, Spawn, Test}
use Rattle.sw_tree_work.specs.Work.{Then, TreeBody, Work}
use Rattle.sw_tree_step.specs.Items.{started, tree_events}

abbrev pub int : ℕ → Act
int n = Literal (value.Int (pos n))

abbrev pub body : ℕ → List ℕ → Work → TreeBody
body key takes work =
    record { name = Function key; iso = iso.Free; takes = takes; work = work }

-- the events of items where these are the bodies, the entry has key 1, and nothing is global
abbrev pub events_of : List TreeBody → List ℕ → List Event
events_of bodies items =
    tree_events (body_in bodies) (started (body_in bodies) 0 (Function 1 ∷ [])) items

-- a value is printed, and the entry ends
abbrev pub print_and_end : Work
print_and_end = Then (Print 1) (Then Drop Finish)

-- texts are printed in a line
abbrev pub printed : List (List ℕ) → Event
printed texts = event.Printed (line_of texts)

-- so many steps that print nothing
abbrev pub ran : ℕ → List Event
ran count = replicate count event.Ran

-- `print(false && 1 / 0 == 0)`, and with `true` in place of `false`
abbrev pub looks_right : Work
looks_right = Then (int 1) (Then (int 0) (Then (Binary 5 bin.Div) (Then (int 0)
    (Then (Binary 6 bin.Eq) (Then Replace (Jump print_and_end))))))

abbrev pub both_of : Act → List TreeBody
both_of left =
    body 1 [] (Then left (Then Keep (Test looks_right print_and_end))) ∷ []

-- `while true { break }; print(true)`
abbrev pub leaves_loop : List TreeBody
leaves_loop = body 1 [] (Loop (Then (Literal (value.Bool true)) Decide) Leave
    (Then (Literal (value.Bool true)) print_and_end)) ∷ []

-- `actor Log { func note() { } }`, and in the entry `await Log().note()`, where an actor is made at
-- once
abbrev pub log_shape : Shape
log_shape = record {
  kind = shapes.Actor;
  at = 2;
  conforms = false;
  actor = None;
  parts = [];
  cases = [];
}

abbrev pub on_actor : TreeBody → TreeBody
on_actor one = record one { iso = iso.Own }

abbrev pub hops : List TreeBody
hops = body 1 [] (Then (New 0 log_shape []) (Then (Call 5 kinds.Strong (Function 3) 1)
    (Then Drop Finish)))
    ∷ on_actor (body 3 (2 ∷ []) Finish) ∷ []

-- `await Task.detached { }.value`
abbrev pub awaits : List TreeBody
awaits = body 1 [] (Spawn 2 iso.Free [] Finish (Then Await (Then Drop Finish))) ∷ []
