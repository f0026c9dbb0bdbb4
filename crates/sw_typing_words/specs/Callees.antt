-- What is called, and what it takes and gives.
use Rattle.std.specs.Prelude.{ℕ, Bool, true, false, not, ◌==◌, List, Option, Some, None, length}
use Rattle.std.specs.Prelude.{map, slice_get, if◌then◌else◌}
use Rattle.sw_types.specs.declared.shape.CaseShape.{CaseShape}
use Rattle.sw_types.specs.declared.ty.Ty.{Ty}
use Rattle.sw_typing_rules.specs.Calls as calls
use Rattle.sw_typing_rules.specs.Calls.{Slot, labels_fit, types_fit, unlabelled}
use Rattle.sw_typing_rules.specs.Calls.{case_callee, same_label, signature_callee, struct_callee}
use Rattle.sw_typing_rules.specs.Verdicts.{is_accepted}
use Rattle.sw_typing_rules.specs.Worlds.{World, case_at}
use Rattle.sw_typing_rules.specs.declared.verdict.Given.{Given}
use Rattle.sw_typing_rules.specs.declared.verdict.Verdict.{Verdict}
use Rattle.sw_typing_rules.specs.declared.verdict.Verdict.TheVariants.{Has, Fails}
use Rattle.sw_typing_words.specs.declared.callee.Callee.{Callee}
use Rattle.sw_typing_words.specs.declared.callee.Callee.TheVariants as callee

module _ (world : World) where
  -- a callee by number is what the declarations say of it
  abbrev pub as_callee : Callee → calls.Callee
  as_callee (callee.Func meaning number) =
      signature_callee meaning 401 (slice_get world.funcs number)
  as_callee (callee.Struct number) = struct_callee number (slice_get world.shapes number)
  as_callee (callee.Case shape number) = case_callee shape number (case_at world shape number)
  as_callee (callee.Value meaning params result) =
      calls.Takes meaning (map unlabelled params) result
  as_callee (callee.Untyped meaning) = calls.Untyped meaning
  as_callee callee.Prints = calls.Prints
  as_callee (callee.Uncallable code) = calls.Uncallable code

-- what is said of a call of what takes these and gives this type
abbrev pub taken : List Slot → Ty → List Given → Verdict
taken slots result given =
    if labels_fit slots given
    then (if types_fit slots given then Has result else Fails 402) else Fails 403

-- whether there is a parameter here that wants this label
abbrev pub wants_label : Option Slot → Option ℕ → Bool
wants_label None label = false
wants_label (Some slot) label = same_label slot.label label

-- whether a value of this type is accepted here, where nothing is said past the last parameter
abbrev pub takes_type : Option Slot → Option Ty → Bool
takes_type None ty = true
takes_type (Some slot) ty = is_accepted ty slot.ty

-- whether it is a case with a payload
abbrev pub has_payload : Option CaseShape → Bool
has_payload None = false
has_payload (Some one) = not (length one.payload == 0)
