-- What is drawn of a mark.
use Rattle.std.specs.Prelude.{ℕ, ◌+◌, ◌-◌, nat_lt, Bool, true, false, List, [], ◌∷◌, ◌++◌}
use Rattle.std.specs.Prelude.{Option, Some, None, codes, slice_get, if◌then◌else◌}
use Rattle.std.specs.Fmt.{decimal}
use Rattle.sw_value.specs.declared.race.Access.{Access}
use Rattle.sw_see_events.specs.declared.happening.Happening.{Happening}
use Rattle.sw_see_steps.specs.Steps.{step_line}
use Rattle.sw_see_steps.specs.Words.{word_of}
use Rattle.sw_see_draw.specs.Layout.{column_x, lane_y}
use Rattle.sw_see_draw.specs.Markup.{escaped}
use Rattle.sw_see_draw.specs.Paints.{paint}
use Rattle.sw_see_draw.specs.Shapes.{rect, circle, line, slanted}
use Rattle.sw_see_draw.specs.declared.marks.Link.{Link}
use Rattle.sw_see_draw.specs.declared.marks.Link.TheVariants.{From, To}
use Rattle.sw_see_draw.specs.declared.marks.Mark.{Mark}

-- how many events a mark is for beside its first
unfoldable pub more_text : ℕ → List ℕ
more_text count =
    if nat_lt 1 count then codes "and " ++ (decimal (count - 1) ++ codes " more") else []

-- a circle for an access: full for a write
unfoldable pub dot : ℕ → ℕ → Bool → List ℕ
dot x y true = circle x y 4 (codes "fill=\"black\"")
dot x y false = circle x y 4 (codes "fill=\"white\" stroke=\"black\"")

-- an arrow along a column, from the lane of a job to that of another
unfoldable pub arrow : ℕ → ℕ → ℕ → List ℕ
arrow x job to =
    line x (lane_y job) x (lane_y to) (codes "stroke=\"black\" marker-end=\"url(#arrow)\"")

unfoldable pub link_drawn : ℕ → ℕ → Option Link → List ℕ
link_drawn x job None = []
link_drawn x job (Some (To other)) = arrow x job other
link_drawn x job (Some (From other)) = arrow x other job

-- What a viewer shows of a mark that is pointed at: the step of its first event. `names` are those
-- of the global actors.
unfoldable pub title : List ℕ → List (List ℕ) → Mark → Option Happening → List ℕ
title text names mark None = []
title text names mark (Some event) =
    codes "<title>" ++ (escaped (step_line text names mark.number event)
    ++ (more_text mark.count ++ codes "</title>\n"))

-- the name of what is accessed, below a mark
unfoldable pub name_below : List ℕ → Bool → ℕ → ℕ → ℕ → List ℕ
name_below text true x y at = slanted x (y + 18) (word_of text (Some at))
name_below text false x y at = []

unfoldable pub access_drawn : List ℕ → Bool → ℕ → ℕ → Option Access → List ℕ
access_drawn text named x y None = []
access_drawn text named x y (Some access) =
    dot (x + 6) y access.writes ++ name_below text named x y access.at

-- What is the same in all marks of a picture: the program's text, the names of its global actors,
-- the events, and whether the names of what is accessed are written below the marks.
pub record KnownScene : Type 0 where
  pub text : List ℕ
  pub names : List (List ℕ)
  pub events : List Happening
  pub named : Bool

-- the mark in a column, in the lane of its job
unfoldable pub mark_drawn : KnownScene → ℕ → Mark → List ℕ
mark_drawn scene column mark =
    codes "<g>" ++ (title scene.text scene.names mark (slice_get scene.events (mark.number - 1))
    ++ (rect (column_x column) (lane_y mark.job - 10) 12 20 (paint mark.executor)
    ++ (access_drawn scene.text scene.named (column_x column) (lane_y mark.job) mark.access
    ++ (link_drawn (column_x column + 6) mark.job mark.link ++ codes "</g>\n"))))

-- marks one after the other, of which the first is in this column
abbrev pub marks_drawn : KnownScene → ℕ → List Mark → List ℕ
marks_drawn scene column [] = []
marks_drawn scene column (mark ∷ marks) =
    mark_drawn scene column mark ++ marks_drawn scene (column + 1) marks
