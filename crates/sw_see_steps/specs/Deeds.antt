-- What a job did, in the words of the language. `word` is the word of the source at the position at
-- which the job stood.
use Rattle.std.specs.Prelude.{ℕ, ◌-◌, List, [], ◌∷◌, ◌++◌, length, take, Option, Some, None}
use Rattle.std.specs.Prelude.{codes, slice_get, unwrap_or, if◌then◌else◌}
use Rattle.std.specs.Fmt.{decimal}
use Rattle.sw_value.specs.declared.executor.Executor.{Executor}
use Rattle.sw_value.specs.declared.executor.Executor.TheVariants.{ActorOf, Generic, Global}
use Rattle.sw_value.specs.declared.race.Access.{Access}
use Rattle.sw_value.specs.declared.race.Place.{Place}
use Rattle.sw_value.specs.declared.race.Place.TheVariants as places
use Rattle.sw_see_lines.specs.Shown.{shown_text}
use Rattle.sw_see_events.specs.declared.happening.Deed.{Deed}
use Rattle.sw_see_events.specs.declared.happening.Deed.TheVariants as deed

-- where a location is: a part of an object or an actor, a global variable, or a captured variable
unfoldable pub place_text : Place → List ℕ
place_text (places.Prop cell part) = codes " of cell " ++ decimal cell
place_text (places.Global number) = []
place_text (places.BoxOf cell) = codes " in cell " ++ decimal cell

-- `reads WORD of cell C`, or the like
unfoldable pub access_text : List ℕ → Access → List ℕ
access_text word access = (if access.writes then codes "writes " else codes "reads ")
    ++ (word ++ place_text access.place)

-- the access of an instruction that computes, or nothing more than that it computes
abbrev pub computing_text : List ℕ → Option Access → List ℕ
computing_text word None = codes "computes"
computing_text word (Some access) = access_text word access

-- the name of a global actor, by number; nothing where there are fewer names
abbrev pub name_of : List (List ℕ) → ℕ → List ℕ
name_of names g = unwrap_or (slice_get names g) []

-- an executor; `names` are those of the global actors, by number
unfoldable pub executor_text : List (List ℕ) → Executor → List ℕ
executor_text names Generic = codes "no actor"
executor_text names (ActorOf cell) = codes "actor " ++ decimal cell
executor_text names (Global number) = name_of names number

-- a word, and an executor where there is one
unfoldable pub with_executor : List (List ℕ) → List ℕ → Option Executor → List ℕ
with_executor names word None = []
with_executor names word (Some executor) = word ++ executor_text names executor

-- what is made, where it has a name, and its cell
unfoldable pub made_text : List ℕ → ℕ → List ℕ
made_text [] cell = codes "makes cell " ++ decimal cell
made_text (byte ∷ bytes) cell =
    codes "makes " ++ ((byte ∷ bytes) ++ (codes ", cell " ++ decimal cell))

-- a printed line without the line feed that ends it
abbrev pub printed : List ℕ → List ℕ
printed line = shown_text (take (length line - 1) line)

-- what the job did
unfoldable pub deed_text : List (List ℕ) → List ℕ → Option Executor → Option Access → Deed → List ℕ
deed_text names word executor access deed.Runs =
    codes "begins to run" ++ with_executor names (codes " on ") executor
deed_text names word executor access (deed.Resumes ended) =
    codes "gets the result of job " ++ decimal ended
deed_text names word executor access deed.Computes = computing_text word access
deed_text names word executor access (deed.Prints line) = codes "prints " ++ printed line
deed_text names word executor access (deed.Makes cell) = made_text word cell
deed_text names word executor access deed.Jumps = codes "goes on"
deed_text names word executor access (deed.Calls to) =
    codes "calls " ++ (word ++ with_executor names (codes ", leaves for ") to)
deed_text names word executor access (deed.Starts job) = codes "starts job " ++ decimal job
deed_text names word executor access (deed.Waits job) = codes "waits for job " ++ decimal job
deed_text names word executor access deed.Yields = codes "lets others run"
deed_text names word executor access deed.Returns = codes "returns"
deed_text names word executor access deed.Ends = codes "ends"
deed_text names word executor access (deed.Traps kind) = codes "traps"
