-- What is found among notes.
use Rattle.std.specs.Prelude.{ℕ, not, ◌&&◌, ◌==◌, List, [], ◌∷◌, map, flat_map, Option, Some, None}
use Rattle.std.specs.Prelude.{if◌then◌else◌}
use Rattle.std.specs.List.{filter}
use Rattle.sw_types.specs.declared.isolation.CallKind.{CallKind}
use Rattle.sw_decl_words.specs.declared.placed.Placed.{Placed}
use Rattle.sw_isolation_rules.specs.Captures.{is_among}
use Rattle.sw_isolation_rules.specs.declared.note.BodyIso.{BodyIso}
use Rattle.sw_isolation_rules.specs.declared.note.Capture.{Capture}
use Rattle.sw_isolation_rules.specs.declared.note.Captured.{Captured as Held}
use Rattle.sw_isolation_rules.specs.declared.note.Kinded.{Kinded}
use Rattle.sw_isolation_rules.specs.declared.note.Note.{Note}
use Rattle.sw_isolation_rules.specs.declared.note.Note.TheVariants.{Body, Kind, Refused, Race, Var}
use Rattle.sw_isolation_rules.specs.declared.note.Note.TheVariants.{Mentioned, Captures}

abbrev pub body_in : Note → List BodyIso
body_in (Body body) = body ∷ []
body_in (Kind kinded) = []
body_in (Refused placed) = []
body_in (Race placed) = []
body_in (Var key) = []
body_in (Mentioned one) = []
body_in (Captures held) = []

abbrev pub kind_in : Note → List Kinded
kind_in (Body body) = []
kind_in (Kind kinded) = kinded ∷ []
kind_in (Refused placed) = []
kind_in (Race placed) = []
kind_in (Var key) = []
kind_in (Mentioned one) = []
kind_in (Captures held) = []

abbrev pub refused_in : Note → List Placed
refused_in (Body body) = []
refused_in (Kind kinded) = []
refused_in (Refused placed) = placed ∷ []
refused_in (Race placed) = []
refused_in (Var key) = []
refused_in (Mentioned one) = []
refused_in (Captures held) = []

abbrev pub race_in : Note → List Placed
race_in (Body body) = []
race_in (Kind kinded) = []
race_in (Refused placed) = []
race_in (Race placed) = placed ∷ []
race_in (Var key) = []
race_in (Mentioned one) = []
race_in (Captures held) = []

abbrev pub var_in : Note → List ℕ
var_in (Body body) = []
var_in (Kind kinded) = []
var_in (Refused placed) = []
var_in (Race placed) = []
var_in (Var key) = key ∷ []
var_in (Mentioned one) = []
var_in (Captures held) = []

abbrev pub held_in : Note → List Held
held_in (Body body) = []
held_in (Kind kinded) = []
held_in (Refused placed) = []
held_in (Race placed) = []
held_in (Var key) = []
held_in (Mentioned one) = []
held_in (Captures held) = held ∷ []

-- the bodies
abbrev pub bodies_in : List Note → List BodyIso
bodies_in notes = flat_map body_in notes

-- the kinds of calls and crossing reads
abbrev pub kinds_in : List Note → List Kinded
kinds_in notes = flat_map kind_in notes

-- the first kind with a key
abbrev pub kind_with : List Kinded → ℕ → Option CallKind
kind_with [] key = None
kind_with (one ∷ more) key = if one.at == key then Some one.kind else kind_with more key

-- the breaches of isolation
abbrev pub refusals_in : List Note → List Placed
refusals_in notes = flat_map refused_in notes

-- the values that may not cross
abbrev pub races_in : List Note → List Placed
races_in notes = flat_map race_in notes

-- the keys of the variables that are declared by `var`
abbrev pub vars_in : List Note → List ℕ
vars_in notes = flat_map var_in notes

-- A `var` is captured by reference where no closure lists it; all else by value.
abbrev pub capture_of : List ℕ → Held → Capture
capture_of vars held = record {
  closure = held.closure;
  variable = held.mention.variable;
  by_ref = is_among vars held.mention.variable && not held.listed;
  first = held.mention.at;
}

-- each closure's captures, in order
abbrev pub captures_in : List Note → List Capture
captures_in notes = map (capture_of (vars_in notes)) (flat_map held_in notes)

abbrev pub by_reference : List Capture → List Capture
by_reference captures = filter (λ (one : Capture). one.by_ref) captures

-- the variables that some closure captures by reference: they are kept in boxes
abbrev pub boxes_in : List Note → List ℕ
boxes_in notes = map (λ (one : Capture). one.variable) (by_reference (captures_in notes))
