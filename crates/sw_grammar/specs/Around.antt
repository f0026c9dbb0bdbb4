-- What a rule knows of what stands around it, whatever it reads itself.
use Rattle.std.specs.Prelude.{ℕ, Bool, true, false, nat_lt, if◌then◌else◌, List, [], length, map}
use Rattle.std.specs.Prelude.{Option, None}
use Rattle.sw_tree.specs.Names.{id_in}

-- the part that a nest passes on to what stands in it
pub record Here : Type 0 where
  -- the word `T` where a `return` is to give a `T?`
  pub wanted : Option (List ℕ)
  -- whether a `break` would leave an `if let`, which is none that it may leave
  pub no_break : Bool
  -- the words of the `async let`s after which it stands, in their order
  pub tasks : List (List ℕ)

pub record Around : Type 0 where
  -- the index of a text among the texts of names
  pub id_of : List ℕ → ℕ
  pub here : Here

abbrev pub around_in : (List ℕ → ℕ) → Here → Around
around_in id_of here = record { id_of = id_of; here = here }

-- around which nothing stands
abbrev pub nowhere : Here
nowhere = record { wanted = None; no_break = false; tasks = [] }

-- what a rule knows around which nothing stands
abbrev pub outermost : (List ℕ → ℕ) → Around
outermost id_of = around_in id_of nowhere

-- the same in a body whose result is written so
abbrev pub returning : Around → Option (List ℕ) → Around
returning around wanted =
    record around { here = record around.here { wanted = wanted; no_break = false } }

-- the same in the blocks of an `if let`
abbrev pub without_break : Around → Around
without_break around = record around { here = record around.here { no_break = true } }

-- the same in a statement that a `break` may leave
abbrev pub with_break : Around → Around
with_break around = record around { here = record around.here { no_break = false } }

-- the same after the `async let`s of these words
abbrev pub after_tasks : Around → List (List ℕ) → Around
after_tasks around tasks = record around { here = record around.here { tasks = tasks } }

-- the ids of the words that stand for tasks
abbrev pub task_ids : Around → List ℕ
task_ids around = map around.id_of around.here.tasks

-- the index of a text among the texts of names, or the first where it isn't there: so the name that
-- a rule makes has a text, whatever stands in the text
abbrev pub index_in : List (List ℕ) → List ℕ → ℕ
index_in texts text =
    if nat_lt (id_in texts text) (length texts) then id_in texts text else 0
