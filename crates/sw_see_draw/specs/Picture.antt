-- The picture of a replay, as SVG.
use Rattle.std.specs.Prelude.{ℕ, zero, ◌+◌, ◌*◌, ◌-◌, suc, nat_lt, max, min, List, [], ◌∷◌, ◌++◌, length, fold}
use Rattle.std.specs.Prelude.{Option, Some, None, codes, if◌then◌else◌}
use Rattle.std.specs.List.{list_any}
use Rattle.std.specs.Fmt.{decimal}
use Rattle.sw_value.specs.declared.executor.Executor.{Executor}
use Rattle.sw_value.specs.declared.race.Access.{Access}
use Rattle.sw_value.specs.declared.race.Race.{Race}
use Rattle.sw_see_events.specs.declared.happening.Happening.{Happening}
use Rattle.sw_see_lines.specs.Excerpt.{source_line}
use Rattle.sw_see_steps.specs.Deeds.{executor_text}
use Rattle.sw_see_draw.specs.Layout.{column_x, lane_y}
use Rattle.sw_see_draw.specs.Marking.{KnownScene, marks_drawn}
use Rattle.sw_see_draw.specs.Marks.{drawn, marks, same_executor}
use Rattle.sw_see_draw.specs.Paints.{paint}
use Rattle.sw_see_draw.specs.Shapes.{rect, circle, label, line}
use Rattle.sw_see_draw.specs.declared.marks.Link.{Link}
use Rattle.sw_see_draw.specs.declared.marks.Link.TheVariants.{From, To}
use Rattle.sw_see_draw.specs.declared.marks.Mark.{Mark}
use Rattle.sw_see_draw.specs.declared.picture.TheConstants.{MOST_NAMED}

-- How many lanes there are, from that of job 0 on: so many that each job has one that is that of a
-- mark, is started or heard of, or races.
abbrev pub linked_lanes : Option Link → ℕ
linked_lanes None = 0
linked_lanes (Some (To job)) = suc job
linked_lanes (Some (From job)) = suc job

abbrev pub with_lanes : ℕ → Mark → ℕ
with_lanes count mark = max count (max (suc mark.job) (linked_lanes mark.link))

abbrev pub race_lanes : Option Race → ℕ
race_lanes None = 1
race_lanes (Some race) = max (suc race.first.job) (suc race.second.job)

abbrev pub lanes : Option Race → List Mark → ℕ
lanes race marks = fold with_lanes (race_lanes race) marks

-- the lane of a job, and its name
unfoldable pub lane_drawn : ℕ → ℕ → List ℕ
lane_drawn width job =
    line (column_x 0) (lane_y job) width (lane_y job) (codes "stroke=\"#ddd\"")
    ++ label 4 (lane_y job + 4) [] (codes "job " ++ decimal job)

-- so many lanes, from that of job 0 on
abbrev pub lanes_drawn : ℕ → ℕ → List ℕ
lanes_drawn width zero = []
lanes_drawn width (suc job) = lanes_drawn width job ++ lane_drawn width job

-- the executors of marks, each once
abbrev pub with_executor : List (Option Executor) → Option Executor → List (Option Executor)
with_executor all executor =
    if list_any (λ one. same_executor one executor) all then all else all ++ executor ∷ []

abbrev pub executors : List Mark → List (Option Executor)
executors marks = fold (λ all mark. with_executor all mark.executor) [] marks

-- what the colour of an executor means, in words
unfoldable pub key_text : List (List ℕ) → Option Executor → List ℕ
key_text names None = codes "on no executor"
key_text names (Some executor) = codes "on " ++ executor_text names executor

-- the colour of an executor, and what it means
unfoldable pub key_drawn : List (List ℕ) → ℕ → Option Executor → List ℕ
key_drawn names y executor = rect 70 (y - 9) 12 12 (paint executor)
    ++ label 88 y [] (key_text names executor)

abbrev pub keys_drawn : List (List ℕ) → ℕ → List (Option Executor) → List ℕ
keys_drawn names y [] = []
keys_drawn names y (executor ∷ executors) =
    key_drawn names y executor ++ keys_drawn names (y + 16) executors

-- what the shapes mean, at y
unfoldable pub shapes_told : ℕ → List ℕ
shapes_told y =
    codes "<g transform=\"translate(70," ++ (decimal y ++ codes ")\">\n<circle cx=\"6\" cy=\"-4\" r=\"4\" fill=\"white\" stroke=\"black\"/>\n<text x=\"18\">reads</text>\n<circle cx=\"66\" cy=\"-4\" r=\"4\"/>\n<text x=\"78\">writes</text>\n<line x1=\"126\" y1=\"-4\" x2=\"142\" y2=\"-4\" stroke=\"black\" marker-end=\"url(#arrow)\"/>\n<text x=\"148\">starts a job, or hands its result on</text>\n</g>\n")

-- what the shapes and the colours mean, from y on
unfoldable pub legend : List (List ℕ) → ℕ → List (Option Executor) → List ℕ
legend names y executors = shapes_told y ++ keys_drawn names (y + 20) executors

-- an access of a race in words, with its line of the source
unfoldable pub racing_text : List ℕ → Access → List ℕ
racing_text text access = codes "race: job " ++ (decimal access.job
    ++ ((if access.writes then codes " writes, " else codes " reads, ")
    ++ source_line text access.at))

-- the room for a text, with what is left of it; at most 1000 bytes of it count
abbrev pub room_for : List ℕ → ℕ
room_for text = 110 + 7 * min (length text) 1000

-- the room for both lines of a race
unfoldable pub race_width : List ℕ → Option Race → ℕ
race_width text None = 0
race_width text (Some race) =
    max (room_for (racing_text text race.first)) (room_for (racing_text text race.second))

-- a red ring in the lane of a job, and a red line between two lanes
unfoldable pub ring : ℕ → ℕ → List ℕ
ring x job = circle x (lane_y job) 8 (codes "fill=\"none\" stroke=\"red\" stroke-width=\"2\"")

unfoldable pub between : ℕ → ℕ → ℕ → List ℕ
between x job other =
    line x (lane_y job) x (lane_y other) (codes "stroke=\"red\" stroke-width=\"2\"")

-- a race, red, in the column x
unfoldable pub race_marked : ℕ → Race → List ℕ
race_marked x race =
    between x race.first.job race.second.job ++ (ring x race.first.job ++ ring x race.second.job)

-- both of its lines of the source, at y
unfoldable pub race_told : List ℕ → ℕ → Race → List ℕ
race_told text y race =
    label 70 y (codes "fill=\"red\"") (racing_text text race.first)
    ++ label 70 (y + 16) (codes "fill=\"red\"") (racing_text text race.second)

-- the race at which a replay stopped
unfoldable pub race_drawn : List ℕ → ℕ → ℕ → Option Race → List ℕ
race_drawn text x y None = []
race_drawn text x y (Some race) = race_marked x race ++ race_told text y race

-- how many events come before the first that is drawn
abbrev pub left_out : List Mark → ℕ
left_out [] = 0
left_out (mark ∷ marks) = mark.number - 1

unfoldable pub left_out_drawn : ℕ → List ℕ
left_out_drawn n =
    if nat_lt 0 n then label 70 14 [] (decimal n ++ codes " events before these are not drawn")
    else []

-- what a picture of this size begins with
unfoldable pub head : ℕ → ℕ → List ℕ
head width height =
    codes "<svg xmlns=\"http://www.w3.org/2000/svg\" width=\"" ++ (decimal width ++ (codes "\" height=\""
    ++ (decimal height ++ codes "\" font-family=\"sans-serif\" font-size=\"11\" xml:space=\"preserve\">\n<defs><marker id=\"arrow\" viewBox=\"0 0 6 6\" refX=\"6\" refY=\"3\" markerWidth=\"6\" markerHeight=\"6\" orient=\"auto\"><path d=\"M0 0L6 3L0 6z\"/></marker></defs>\n<rect width=\"100%\" height=\"100%\" fill=\"white\"/>\n")))

-- the width of a picture with so many columns: there is room for the lines of the race
unfoldable pub width_of : List ℕ → ℕ → Option Race → ℕ
width_of text columns race = max (max (column_x columns + 40) 720) (race_width text race)

-- The picture of these marks: the lanes, the marks in order, the race, and what the shapes and the
-- colours mean.
unfoldable pub drawing : KnownScene → Option Race → List Mark → List ℕ
drawing scene race marks =
    let columns = length marks in let count = lanes race marks in
    let width = width_of scene.text columns race in
    let bottom = lane_y count in let keys = executors marks in
    head width (bottom + 16 * length keys + 80) ++ (left_out_drawn (left_out marks)
    ++ (lanes_drawn width count
    ++ (marks_drawn scene 0 marks
    ++ (race_drawn scene.text (column_x columns + 6) bottom race
    ++ (legend scene.names (bottom + 40) keys ++ codes "</svg>\n")))))

-- the picture of these events, which end with this race where there is one
unfoldable pub picture : List ℕ → List (List ℕ) → List Happening → Option Race → List ℕ
picture text names events race = let shown = drawn (marks events) in
    drawing (record {
      text = text;
      names = names;
      events = events;
      named = nat_lt (length shown) MOST_NAMED;
    }) race shown
