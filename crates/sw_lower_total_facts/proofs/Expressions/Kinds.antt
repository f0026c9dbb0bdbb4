-- The kind of the call or crossing read that is made at a node, by the use that is noted there.
use Rattle.std.proofs.Common.{◌≡◌, ℕ, Bool, true, false, List, [], ◌∷◌, ◌++◌, Option, Some, None}
use Rattle.std.proofs.Common.{refl, ap, ◌∙◌, arith, map}
use Rattle.std.specs.List.{filter}
use Rattle.std.specs.Prelude.{IsTrue, cond, not, ◌==◌, ◌&&◌, if◌then◌else◌}
use Rattle.sw_types.specs.declared.isolation.CallKind.{CallKind}
use Rattle.sw_isolation_rules.specs.Kinds.{accessor, is_outside, is_strong, kind_of, needs_await}
use Rattle.sw_isolation_rules.specs.Lists.{kind_with, kinds_in}
use Rattle.sw_isolation_rules.specs.Noting.{await_notes, call_notes, race_if, read_notes}
use Rattle.sw_isolation_rules.specs.Noting.{refused_if, use_notes}
use Rattle.sw_isolation_rules.specs.declared.note.Kinded.{Kinded}
use Rattle.sw_isolation_rules.specs.declared.note.Mention.{Mention}
use Rattle.sw_isolation_rules.specs.declared.note.Note.{Note}
use Rattle.sw_isolation_rules.specs.declared.note.Note.TheVariants.{Mentioned}
use Rattle.sw_isolation_rules.specs.declared.uses.Callee.{Callee}
use Rattle.sw_isolation_rules.specs.declared.uses.Context.{Context}
use Rattle.sw_isolation_rules.specs.declared.uses.Storage.{Storage}
use Rattle.sw_isolation_rules.specs.declared.uses.Used.{Used}
use Rattle.sw_isolation_rules.specs.declared.uses.Used.TheVariants.{Called, Field, Nothing, Stored}
use Rattle.sw_isolation_rules.specs.declared.uses.Used.TheVariants.{Waited}
use Rattle.sw_lower_plans.specs.Plan.{Numbers}
use Rattle.sw_lower_rules.specs.Tables.{Isolation, Tables}
use Rattle.sw_lower_total_facts.specs.Known.{TablesAgree}
use Rattle.sw_lower_total_facts.specs.Noted.{kinds_of}
use Rattle.sw_lower_total_facts.proofs.Standing.Noting.{kinds_join}

abbrev is_at : ℕ → Kinded → Bool
is_at key one = one.at == key

-- the first of some kinds
abbrev pub first_kind : List Kinded → Option CallKind
first_kind [] = None
first_kind (one ∷ more) = Some one.kind

-- What is found by a key is the first with that key.
kind_first : (key : ℕ) (kinds : List Kinded)
    → kind_with kinds key ≡ first_kind (filter (is_at key) kinds)
kind_first key [] = refl
kind_first key (one ∷ kinds) = by (one.at == key) (kind_first key kinds) where
  by : (test : Bool) → kind_with kinds key ≡ first_kind (filter (is_at key) kinds)
      → (if test then Some one.kind else kind_with kinds key)
      ≡ first_kind (cond test (one ∷ filter (is_at key) kinds) (filter (is_at key) kinds))
  by true later = refl
  by false later = later

-- None is noted in the first.
pub kinds_after : (key : ℕ) (xs ys : List Note) → kinds_of key xs ≡ []
    → kinds_of key (xs ++ ys) ≡ kinds_of key ys
kinds_after key xs ys none =
    kinds_join key xs ys ∙ ap (λ kinds. kinds ++ kinds_of key ys) none

-- Mentions have no kinds.
pub mentions_no_kinds : (key : ℕ) (mentions : List Mention)
    → kinds_of key (map Mentioned mentions) ≡ []
mentions_no_kinds key [] = refl
mentions_no_kinds key (one ∷ mentions) = mentions_no_kinds key mentions

refused_no_kinds : (key : ℕ) (fails : Bool) (at code : ℕ)
    → kinds_of key (refused_if fails at code) ≡ []
refused_no_kinds key true at code = refl
refused_no_kinds key false at code = refl

race_no_kinds : (key : ℕ) (fails : Bool) (at code : ℕ) → kinds_of key (race_if fails at code) ≡ []
race_no_kinds key true at code = refl
race_no_kinds key false at code = refl

await_no_kinds : (key : ℕ) (context : Context) (at : ℕ) (is_async : Bool)
    → kinds_of key (await_notes context at is_async) ≡ []
await_no_kinds key context at is_async = by context.is_async is_async where
  by : (one two : Bool) → kinds_of key
      (if one then refused_if (not context.awaited) at 502
      else (if two then refused_if true at 503 else refused_if true at 501)) ≡ []
  by true two = refused_no_kinds key (not context.awaited) at 502
  by false true = refl
  by false false = refl

-- A call has its kind.
call_kinds : (context : Context) (at : ℕ) (callee : Callee) (sends : Bool)
    → first_kind (kinds_of at (call_notes context at callee sends))
    ≡ Some (kind_of callee context.iso)
call_kinds context at callee sends = by (at == at) (grind arith) where
  rest : List Kinded
  rest = kinds_of at
      ((if needs_await (kind_of callee context.iso) callee.is_async
      then await_notes context at callee.is_async else [])
      ++ race_if (is_strong (kind_of callee context.iso) && not sends) at 604)

  by : (test : Bool) → IsTrue test → first_kind (cond test
      (record { at = at; kind = kind_of callee context.iso } ∷ rest) rest)
      ≡ Some (kind_of callee context.iso)
  by true is = refl
  by false is = cc

-- the kind of a use: that of a call, or of the getter by which a `var` of another actor is read
abbrev pub read_kind : Context → Storage → Option CallKind
read_kind context storage =
    if is_outside context storage
    then (if storage.mutable then Some (kind_of (accessor storage) context.iso) else None) else None

abbrev pub use_kind : Context → Used → Option CallKind
use_kind context (Called callee sends) = Some (kind_of callee context.iso)
use_kind context (Stored storage) = read_kind context storage
use_kind context Field = None
use_kind context Waited = None
use_kind context Nothing = None

read_kinds : (context : Context) (at : ℕ) (storage : Storage)
    → first_kind (kinds_of at (read_notes context at storage)) ≡ read_kind context storage
read_kinds context at storage = by (is_outside context storage) storage.mutable where
  by : (outside mutable : Bool) → first_kind (kinds_of at
      (if outside then (if mutable then call_notes context at (accessor storage) storage.may_cross
      else race_if (not storage.may_cross) at 606) else []))
      ≡ (if outside
      then (if mutable then Some (kind_of (accessor storage) context.iso) else None) else None)
  by true true = call_kinds context at (accessor storage) storage.may_cross
  by true false = ap first_kind (race_no_kinds at (not storage.may_cross) at 606)
  by false mutable = refl

use_kinds : (context : Context) (at : ℕ) (used : Used)
    → first_kind (kinds_of at (use_notes context at used)) ≡ use_kind context used
use_kinds context at (Called callee sends) = call_kinds context at callee sends
use_kinds context at (Stored storage) = read_kinds context at storage
use_kinds context at Field = refl
use_kinds context at Waited = ap first_kind (await_no_kinds at context at true)
use_kinds context at Nothing = refl

module _ (tables : Tables) (number : Numbers) (all : List Note)
    (known : TablesAgree tables number all)
  where
    -- The kind at a key is the first one that is noted of it.
    kind_of_all : (at : ℕ) → tables.isolation.kind_at at ≡ first_kind (kinds_of at all)
    kind_of_all at =
        ap (λ (isolation : Isolation). isolation.kind_at at) known.noted
        ∙ kind_first at (kinds_in all)

    -- It is that of the use at the node, where no more is noted of the key.
    pub kind_at_use : (context : Context) (at : ℕ) (used : Used)
        → kinds_of at all ≡ kinds_of at (use_notes context at used)
        → tables.isolation.kind_at at ≡ use_kind context used
    kind_at_use context at used same =
        kind_of_all at ∙ ap first_kind same ∙ use_kinds context at used
