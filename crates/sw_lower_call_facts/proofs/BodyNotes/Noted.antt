-- What is noted of results, tasks and `var`s, and of single notes: no body.
use Rattle.std.proofs.Common.{ℕ, Bool, true, false, not, List, ◌++◌, Option, Some, None}
use Rattle.std.specs.List.{AllByRecursion}
use Rattle.sw_typing_rules.specs.Worlds.{World}
use Rattle.sw_isolation_rules.proofs.Each.{each_join}
use Rattle.sw_isolation_rules.proofs.NotedUses.{EachLeaf, of_race_605}
use Rattle.sw_isolation_rules.specs.declared.note.Note.{Note}
use Rattle.sw_types.specs.declared.ty.Ty.{Ty}
use Rattle.sw_types.specs.Sendable.{is_sendable}
use Rattle.sw_isolation_rules.specs.Answers.{Answers}
use Rattle.sw_isolation_rules.specs.Noting.{result_races, task_races, task_result, var_notes}
use Rattle.sw_lower_call_facts.specs.Owning.{NoteOwn}

module _ (Good : ℕ → Type 0) where
  abbrev pub AllOwn : List Note → Type 0
  AllOwn notes = AllByRecursion (NoteOwn Good) notes

  pub join : (one other : List Note) → AllOwn one → AllOwn other → AllOwn (one ++ other)
  join = each_join (NoteOwn Good)

  pub leaf_own : EachLeaf (NoteOwn Good)
  leaf_own = record {
    refused = λ at code low high. tt;
    race = λ at code low high. tt;
    mentioned = λ one. tt;
    captures = λ closure listed one less. tt;
  }

  module _ (world : World) (answers : Answers) where
    of_result : (at : ℕ) (result : Option Ty) → AllOwn (result_races world at result)
    of_result at None = tt
    of_result at (Some ty) =
        of_race_605 (NoteOwn Good) leaf_own (not (is_sendable world.shapes ty)) at

    pub of_task : (at : ℕ) → AllOwn (task_races world answers at)
    unfolding task_races
    of_task at = of_result at (task_result (answers.type_at at))

    pub var_own : (mutable : Bool) (at : ℕ) → AllOwn (var_notes mutable at)
    var_own true at = (tt, tt)
    var_own false at = tt
