-- What is known and noted of a word or a member that is read.
use Rattle.std.specs.Prelude.{ℕ, Bool, false, List, ◌++◌, Option, Some, None}
use Rattle.sw_types.specs.declared.ty.Ty.{Ty}
use Rattle.sw_typing_rules.specs.Calls.{case_in, case_meaning, enum_types}
use Rattle.sw_typing_rules.specs.Verdicts.{meaning_rows, rows_of, type_in}
use Rattle.sw_typing_rules.specs.Words.{Sense, found_in, found_meaning, found_settable, found_types}
use Rattle.sw_typing_rules.specs.Words.{var_types, word_enum, word_meaning, word_settable}
use Rattle.sw_typing_rules.specs.Words.{word_types}
use Rattle.sw_typing_rules.specs.Worlds.{World}
use Rattle.sw_typing_rules.specs.declared.found.Found.{Found}
use Rattle.sw_typing_rules.specs.declared.row.Meaning.TheVariants as means
use Rattle.sw_typing_rules.specs.declared.row.Row.{Row}
use Rattle.sw_typing_rules.specs.declared.scope.Var.{Var}
use Rattle.sw_typing_rules.specs.declared.verdict.Verdict.TheVariants.{Held}
use Rattle.sw_typing_steps.specs.declared.known.Known.{Known}
use Rattle.sw_typing_steps.specs.declared.reading.Reading.{Reading}

abbrev pub read_known : ℕ → Reading → Known
read_known at reading = record {
  key = at;
  ty = type_in reading.verdict;
  names = reading.names;
  settable = reading.settable;
  is_true = false;
}

abbrev pub read_rows : ℕ → Reading → List Row
read_rows at reading = meaning_rows at reading.meaning ++ rows_of at reading.verdict

-- a member of a value without a type
abbrev pub held_reading : Reading
held_reading = record { meaning = None; verdict = Held; names = None; settable = false }

abbrev pub variable_reading : Var → Reading
variable_reading var = record {
  meaning = Some (means.Local var.at);
  verdict = var_types var.ty;
  names = None;
  settable = var.mutable;
}

module _ (world : World) where
  abbrev pub sense_reading : Sense → Reading
  sense_reading meant = record {
    meaning = word_meaning meant;
    verdict = word_types world meant;
    names = word_enum meant;
    settable = word_settable world meant;
  }

  abbrev pub found_reading : Bool → Found → Reading
  found_reading base found = record {
    meaning = found_meaning found;
    verdict = found_types world found;
    names = None;
    settable = found_settable world base found;
  }

  -- a case of an enum
  abbrev pub case_reading : ℕ → ℕ → Reading
  case_reading shape id = record {
    meaning = case_meaning shape (case_in world shape id);
    verdict = enum_types world shape (case_in world shape id);
    names = None;
    settable = false;
  }

  abbrev pub value_reading : Bool → Option Ty → ℕ → Reading
  value_reading base None id = held_reading
  value_reading base (Some ty) id = found_reading base (found_in world ty id)

  -- a member of a value, or of an enum
  abbrev pub member_reading : Bool → Option ℕ → Option Ty → ℕ → Reading
  member_reading base None ty id = value_reading base ty id
  member_reading base (Some shape) ty id = case_reading shape id
