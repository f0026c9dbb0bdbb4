-- What a draft holds, and what it means that a call on it does what a run does.
use Rattle.std.specs.Prelude.{◌≡◌, ◌≢◌, Result, Ok, Err, nat_eq, if◌then◌else◌}
use Rattle.indexmap.specs.IndexMap.{get}
use Rattle.sw_lower_plans.specs.Plan.{Numbers}
use Rattle.sw_lower_plans.specs.Run.{Making}
use Rattle.sw_lower_plans.specs.declared.fault.CodeFault.{CodeFault}
use Rattle.sw_lower_plans.specs.declared.fault.CodeFault.TheVariants.{Memory}
use Rattle.sw_lower_draft.specs.declared.draft.Draft.{Draft}
use Rattle.sw_lower_draft.specs.declared.numbers.NumberTable.{NumberTable}

-- the numbers of functions that a table has
abbrev pub number_by : NumberTable → Numbers
number_by table name =
    if name.getter then get nat_eq table.getters name.key else get nat_eq table.others name.key

-- the function that a draft is of, as it stands
unfoldable pub making_of : Draft → Making
making_of draft = record {
  made = draft.builder;
  here = draft.here;
  vars = draft.vars;
  number = number_by draft.numbers.now;
  over = draft.over;
}

-- A call gives what a run gives, and leaves what it leaves. Nothing is said where memory runs out.
abbrev pub GivesAsRun : {A : Type 0} → Result (A × Making) CodeFault → Result A CodeFault → Draft
    → Type 0
GivesAsRun run (Ok value) draft = run ≡ Ok (value, making_of draft)
GivesAsRun run (Err fault) draft = fault ≢ Memory → run ≡ Err fault
