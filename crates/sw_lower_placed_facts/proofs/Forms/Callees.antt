-- What a well-typed call of a member may mean.
use Rattle.std.proofs.Common.{◌≡◌, ℕ, Bool, true, false, List, [], ◌∷◌, Option, Some, None, refl}
use Rattle.std.proofs.Common.{sym}
use Rattle.std.proofs.Common.{subst}
use Rattle.std.proofs.lemmas.Bool.{false≢true}
use Rattle.std.proofs.lemmas.Option.{same_Some}
use Rattle.std.specs.Prelude.{if◌then◌else◌, is_some, slice_get}
use Rattle.sw_types.specs.declared.shape.CaseShape.{CaseShape}
use Rattle.sw_types.specs.declared.shape.Part.{Part}
use Rattle.sw_types.specs.declared.ty.Ty.{Ty, out-Ty}
use Rattle.sw_types.specs.declared.ty.Ty.TheOpen as layer
use Rattle.sw_decls.specs.declared.signature.Signature.{Signature}
use Rattle.sw_typing_rules.specs.Calls.{Callee, Prints, Takes, Uncallable, Untyped, all_typed}
use Rattle.sw_typing_rules.specs.Calls.{callee_meaning, case_callee, case_in, enum_callee}
use Rattle.sw_typing_rules.specs.Calls.{found_callee}
use Rattle.sw_typing_rules.specs.Calls.{func_callee, part_callee, payload_callee}
use Rattle.sw_typing_rules.specs.Calls.{signature_callee, value_layer}
use Rattle.sw_typing_rules.specs.Expressions.{Passed, call_judged, method_by}
use Rattle.sw_typing_rules.specs.Verdicts.{type_in}
use Rattle.sw_typing_rules.specs.Words.{found_in}
use Rattle.sw_typing_rules.specs.Worlds.{World, case_at, part_at}
use Rattle.sw_typing_rules.specs.declared.found.Found.{Found}
use Rattle.sw_typing_rules.specs.declared.found.Found.TheVariants.{Method, NoMember, Property}
use Rattle.sw_typing_rules.specs.declared.found.Found.TheVariants.{Result}
use Rattle.sw_typing_rules.specs.declared.row.Meaning.{Meaning}
use Rattle.sw_typing_rules.specs.declared.row.Meaning.TheVariants as means
use Rattle.sw_typing_rules.specs.declared.row.Row.{Row}
use Rattle.sw_typing_rules.specs.declared.verdict.Verdict.{Verdict}
use Rattle.sw_typing_rules.specs.declared.verdict.Verdict.TheVariants.{Fails, Held}
use Rattle.sw_isolation_rules.specs.Answers.{Answers}
use Rattle.sw_typing_facts.specs.Rows.{RowsHold}
use Rattle.sw_lower_formed_facts.proofs.Expressions.Callees.{meaning_is}

-- A case is called where an enum is named, and else something of a value.
abbrev pub NoCase : Meaning → Type 0
NoCase (means.CaseOf k i) = ⊥
NoCase _ = Unit {0}

abbrev pub MethodMeans : Option ℕ → Meaning → Type 0
MethodMeans None meaning = NoCase meaning
MethodMeans (Some k) meaning = (i : ℕ) × (meaning ≡ means.CaseOf k i)

module _ (answers : Answers) (at : ℕ) (before : List Row) (passed : Passed) where
  -- what a call has that has a type: what is called has a meaning
  abbrev Meant : Callee → Type 0
  Meant callee = (meaning : Meaning) × (callee_meaning callee ≡ Some meaning)
      × (answers.meaning_at at ≡ Some meaning)

  untyped : (callee : Callee) (all : Bool) (one : Verdict) → type_in one ≡ None
      → is_some (type_in (if all then one else Held)) ≡ true → Meant callee
  untyped callee true one none typed =
      absurd (false≢true (subst (λ ty. is_some ty ≡ true) none typed))
  untyped callee false one none typed = absurd (false≢true typed)

  pub called_means : (callee : Callee)
      → is_some (call_judged callee at before passed).ty ≡ true
      → RowsHold answers (call_judged callee at before passed).rows → Meant callee
  called_means (Takes meaning slots result) typed rows = (
    meaning,
    refl,
    meaning_is answers (Takes meaning slots result) meaning at before passed refl rows,
  )
  called_means (Untyped meaning) typed rows =
      untyped (Untyped meaning) (all_typed passed.given) Held refl typed
  called_means Prints typed rows =
      (means.Print, refl, meaning_is answers Prints means.Print at before passed refl rows)
  called_means (Uncallable code) typed rows =
      untyped (Uncallable code) (all_typed passed.given) (Fails code) refl typed

module _ (world : World) where
  never : (meaning : Meaning) (P : Type 0) → None ≡ Some meaning → P
  never meaning P is = cc

  -- a case of an enum
  case_means : (k : ℕ) (found : Option ℕ) (meaning : Meaning)
      → callee_meaning (enum_callee world k found) ≡ Some meaning
      → (i : ℕ) × (meaning ≡ means.CaseOf k i)
  case_means k None meaning is = never meaning _ is
  case_means k (Some i) meaning is = by (case_at world k i) is where
    by_payload : (payload : List Ty)
        → callee_meaning (payload_callee k i payload) ≡ Some meaning
        → (i : ℕ) × (meaning ≡ means.CaseOf k i)
    by_payload [] is = never meaning _ is
    by_payload (ty ∷ more) is = (i, sym (same_Some (means.CaseOf k i) meaning is))

    by : (found : Option CaseShape) → callee_meaning (case_callee k i found) ≡ Some meaning
        → (i : ℕ) × (meaning ≡ means.CaseOf k i)
    by None is = never meaning _ is
    by (Some one) is = by_payload one.payload is

  -- what is found in a value
  value_means : (P : Meaning → Type 0) (one : Meaning) (code : ℕ) → P one
      → (form : layer.Ty-F Ty) (meaning : Meaning)
      → callee_meaning (value_layer one code form) ≡ Some meaning → P meaning
  value_means P one code so layer.Int meaning is = never meaning _ is
  value_means P one code so layer.Bool meaning is = never meaning _ is
  value_means P one code so layer.Unit meaning is = never meaning _ is
  value_means P one code so (layer.Named k) meaning is = never meaning _ is
  value_means P one code so (layer.Func marked params result) meaning is =
      subst P (same_Some one meaning is) so
  value_means P one code so (layer.Task inner) meaning is = never meaning _ is

  part_means : (P : Meaning → Type 0) (i : ℕ) → P (means.PartOf i) → (found : Option Part)
      → (meaning : Meaning)
      → callee_meaning (part_callee (means.PartOf i) 407 found) ≡ Some meaning → P meaning
  part_means P i so None meaning is = never meaning _ is
  part_means P i so (Some part) meaning is =
      value_means P (means.PartOf i) 407 so (out-Ty part.ty) meaning is

  signature_means : (P : Meaning → Type 0) (n : ℕ) → P (means.FuncOf n)
      → (found : Option Signature) (meaning : Meaning)
      → callee_meaning (signature_callee (means.FuncOf n) 407 found) ≡ Some meaning → P meaning
  signature_means P n so None meaning is = never meaning _ is
  signature_means P n so (Some func) meaning is = subst P (same_Some (means.FuncOf n) meaning is) so

  func_means : (P : Meaning → Type 0) → ((n : ℕ) → P (means.FuncOf n)) → (found : Option ℕ)
      → (meaning : Meaning)
      → callee_meaning (func_callee world means.FuncOf 407 found) ≡ Some meaning → P meaning
  func_means P so None meaning is = never meaning _ is
  func_means P so (Some n) meaning is =
      signature_means P n (so n) (slice_get world.funcs n) meaning is

  found_means : (P : Meaning → Type 0) → ((i : ℕ) → P (means.PartOf i))
      → ((n : ℕ) → P (means.FuncOf n)) → (found : Found) (meaning : Meaning)
      → callee_meaning (found_callee world found) ≡ Some meaning → P meaning
  found_means P part func (Property k i) meaning is =
      part_means P i (part i) (part_at world k i) meaning is
  found_means P part func (Method key) meaning is =
      func_means P func (world.numbers key) meaning is
  found_means P part func (Result inner) meaning is = never meaning _ is
  found_means P part func NoMember meaning is = never meaning _ is

  -- a call of a member
  pub method_means : (named : Option ℕ) (ty : Option Ty) (id : ℕ) (meaning : Meaning)
      → callee_meaning (method_by world named ty id) ≡ Some meaning → MethodMeans named meaning
  method_means None None id meaning is = never meaning _ is
  method_means None (Some ty) id meaning is =
      found_means NoCase (λ i. tt) (λ n. tt) (found_in world ty id) meaning is
  method_means (Some k) ty id meaning is = case_means k (case_in world k id) meaning is
