-- What rules know of what stands around them, from what the code knows.
use Rattle.std.specs.Prelude.{ℕ, List}
use Rattle.sw_grammar.specs.Around as grammar
use Rattle.sw_grammar.specs.Around.{Here, around_in, index_in, nowhere}

-- what the code knows: the texts of names, and what a nest passes on
pub record Surroundings : Type 0 where
  pub texts : List (List ℕ)
  pub here : Here

abbrev pub known : Surroundings → grammar.Around
known around = around_in (index_in around.texts) around.here

-- nothing stands around
abbrev pub nothing_around : List (List ℕ) → Surroundings
nothing_around texts = record { texts = texts; here = nowhere }

-- the same names elsewhere
abbrev pub with_here : Surroundings → Here → Surroundings
with_here around here = record { texts = around.texts; here = here }

-- words that stand for tasks, and the texts of names
pub record TaskWords : Type 0 where
  pub texts : List (List ℕ)
  pub words : List (List ℕ)

-- the words that stand for tasks here
abbrev pub tasks_here : Surroundings → TaskWords
tasks_here around = record { texts = around.texts; words = around.here.tasks }
