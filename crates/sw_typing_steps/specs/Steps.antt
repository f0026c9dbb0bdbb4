-- What the steps of a walk over a program know, note and leave.
use Rattle.std.specs.Prelude.{ℕ, Bool, List, ◌++◌, Option, map, take, drop}
use Rattle.sw_typing_rules.specs.Doubts.{decided}
use Rattle.sw_typing_rules.specs.Expressions.{Judged, Closed}
use Rattle.sw_typing_rules.specs.Statements.{State, Left}
use Rattle.sw_typing_rules.specs.Words.{Setting}
use Rattle.sw_typing_rules.specs.declared.row.Row.{Row}
use Rattle.sw_typing_steps.specs.declared.known.Known.{Known}
use Rattle.sw_typing_steps.specs.declared.known.Went.{Went}
use Rattle.sw_typing_steps.specs.declared.known.Enclosed.{Enclosed}
use Rattle.sw_typing_steps.specs.declared.table.Table.{Table}

-- what is known of an expression, but for what is noted inside
abbrev pub known_of : Judged → Known
known_of judged = record {
  key = judged.key;
  ty = judged.ty;
  names = judged.enum;
  settable = judged.settable;
  is_true = judged.is_true;
}

abbrev pub judged_of : Known → List Row → Judged
judged_of known rows = record {
  key = known.key;
  ty = known.ty;
  enum = known.names;
  settable = known.settable;
  is_true = known.is_true;
  rows = rows;
}

-- what is known of an expression, with all that was noted since the table had `start` rows
abbrev pub judged_since : Known → ℕ → Table → Judged
judged_since known start table = judged_of known (drop start table.rows)

-- what a statement leaves, but for the state and what is noted inside
abbrev pub went_of : Left → Went
went_of left = record { fine = left.fine; ends = left.ends; breaks = left.breaks }

abbrev pub enclosed_of : Closed → Enclosed
enclosed_of closed =
    record {
      at = closed.at;
      params = closed.params;
      marked = closed.marked;
      result = closed.result;
    }

abbrev pub state_of : Table → State
state_of table = record { vars = table.vars; returned = table.returned }

abbrev pub setting_in : Option ℕ → Table → Setting
setting_in owner table = record { owner = owner; vars = table.vars }

-- the table with more rows
abbrev pub with_rows : Table → List Row → Table
with_rows table rows = record table { rows = table.rows ++ rows }

-- rows of which those from the place `start` on are no longer in doubt
abbrev pub decided_since : ℕ → Bool → List Row → List Row
decided_since start valued rows = take start rows ++ map (decided valued) (drop start rows)

-- the table as it was when it had `start` rows, but for variables and the result
abbrev pub cut : ℕ → Table → Table
cut start table = record table { rows = take start table.rows }

-- the table after a statement
abbrev pub after : Table → Left → Table
after table left = record {
  vars = left.state.vars;
  rows = table.rows ++ left.rows;
  returned = left.state.returned;
}

-- what a statement leaves that went like this, since the table had `start` rows
abbrev pub left_since : Went → ℕ → Table → Left
left_since went start table = record {
  state = state_of table;
  rows = drop start table.rows;
  fine = went.fine;
  ends = went.ends;
  breaks = went.breaks;
}
