-- How often a key is noted as that of a body, of a call or of a crossing read.
use Rattle.std.proofs.Common.{◌≡◌, ℕ, ◌+◌, ◌≤◌, Bool, true, false, not, ◌&&◌, cond, List, [], ◌∷◌}
use Rattle.std.proofs.Common.{◌++◌, map, Option, Some, None, refl, arith}
use Rattle.std.specs.List.{filter}
use Rattle.sw_tree.proofs.Counting.{Weight, hits, in_all, in_all-append, in_all-cons}
use Rattle.sw_types.specs.Sendable.{is_sendable}
use Rattle.sw_types.specs.declared.ty.Ty.{Ty}
use Rattle.sw_typing_rules.specs.Worlds.{World}
use Rattle.sw_isolation_rules.specs.Answers.{Answers}
use Rattle.sw_isolation_rules.specs.Captures.{captured, closed, is_mention, own_mentions, taken}
use Rattle.sw_isolation_rules.specs.Kinds.{accessor, is_outside, is_strong, kind_of, needs_await}
use Rattle.sw_isolation_rules.specs.Noting.{await_notes, call_notes, race_if, read_notes}
use Rattle.sw_isolation_rules.specs.Noting.{refused_if, result_races, store_notes, task_races}
use Rattle.sw_isolation_rules.specs.Noting.{task_result, use_notes, var_notes}
use Rattle.sw_isolation_rules.specs.declared.note.Mention.{Mention}
use Rattle.sw_isolation_rules.specs.declared.note.Note.{Note}
use Rattle.sw_isolation_rules.specs.declared.note.Note.TheVariants.{Body, Captures, Kind, Mentioned}
use Rattle.sw_isolation_rules.specs.declared.note.Note.TheVariants.{Race, Refused, Var}
use Rattle.sw_isolation_rules.specs.declared.uses.Callee.{Callee}
use Rattle.sw_isolation_rules.specs.declared.uses.Context.{Context}
use Rattle.sw_isolation_rules.specs.declared.uses.Storage.{Storage}
use Rattle.sw_isolation_rules.specs.declared.uses.Used.{Used}
use Rattle.sw_isolation_rules.specs.declared.uses.Used.TheVariants.{Called, Field, Nothing, Stored}
use Rattle.sw_isolation_rules.specs.declared.uses.Used.TheVariants.{Waited}

abbrev pub marks : Note → Weight
marks (Body body) k = hits body.key k
marks (Kind kinded) k = hits kinded.at k
marks (Refused placed) k = 0
marks (Race placed) k = 0
marks (Var key) k = 0
marks (Mentioned one) k = 0
marks (Captures held) k = 0

module _ (c : ℕ) where
  abbrev pub few : List Note → ℕ
  few notes = in_all marks notes c

  pub few_join : (one other : List Note) → few (one ++ other) ≡ few one + few other
  few_join one other = in_all-append marks one other c

  pub few_body : (notes : List Note) (note : Note)
      → few (note ∷ notes) ≡ marks note c + few notes
  few_body notes note = in_all-cons marks note notes c

  -- what is none
  none_either : (is : Bool) (one other : List Note) → few one ≡ 0 → few other ≡ 0
      → few (cond is one other) ≡ 0
  none_either true one other first second = first
  none_either false one other first second = second

  pub none_nothing : few [] ≡ 0
  unfolding in_all
  none_nothing = refl

  none_refused : (fails : Bool) (at code : ℕ) → few (refused_if fails at code) ≡ 0
  unfolding in_all
  none_refused true at code = omega arith
  none_refused false at code = refl

  none_race : (fails : Bool) (at code : ℕ) → few (race_if fails at code) ≡ 0
  unfolding in_all
  none_race true at code = omega arith
  none_race false at code = refl

  pub none_await : (context : Context) (at : ℕ) (is_async : Bool)
      → few (await_notes context at is_async) ≡ 0
  none_await context at is_async =
      none_either context.is_async _ _ (none_refused (not context.awaited) at 502)
      (none_either is_async _ _ (none_refused true at 503) (none_refused true at 501))

  pub none_mentions : (mentions : List Mention) → few (map Mentioned mentions) ≡ 0
  unfolding in_all
  none_mentions [] = refl
  none_mentions (one ∷ mentions) = omega (arith, none_mentions mentions)

  none_captures : (closure : ℕ) (listed : List ℕ) (mentions : List Mention)
      → few (map (captured closure listed) mentions) ≡ 0
  unfolding in_all
  none_captures closure listed [] = refl
  none_captures closure listed (one ∷ mentions) =
      omega (arith, none_captures closure listed mentions)

  pub none_store : (context : Context) (at : ℕ) (used : Used) (inside : List Note)
      → few inside ≡ 0 → few (store_notes context at used inside) ≡ 0
  none_store context at (Called callee sends) inside none = none_nothing
  none_store context at (Stored storage) inside none =
      none_refused (is_outside context storage) at 504
  none_store context at Field inside none = none
  none_store context at Waited inside none = none_nothing
  none_store context at Nothing inside none = none_nothing

  -- what is one at most, of its own key
  few_either : (is : Bool) (one other : List Note) (n : ℕ) → few one ≤ n → few other ≤ n
      → few (cond is one other) ≤ n
  few_either true one other n first second = first
  few_either false one other n first second = second

  few_call : (context : Context) (at : ℕ) (callee : Callee) (sends : Bool)
      → few (call_notes context at callee sends) ≤ hits at c
  few_call context at callee sends =
      let kind = kind_of callee context.iso in
      let awaits = cond (needs_await kind callee.is_async)
      (await_notes context at callee.is_async) [] in
      let race = race_if (is_strong kind && not sends) at 604 in
      omega (
        arith,
        few_body (awaits ++ race) (Kind (record { at = at; kind = kind })),
        few_join awaits race,
        none_either (needs_await kind callee.is_async)
            (await_notes context at callee.is_async) []
            (none_await context at callee.is_async) none_nothing,
        none_race (is_strong kind && not sends) at 604,
      )

  few_read : (context : Context) (at : ℕ) (storage : Storage)
      → few (read_notes context at storage) ≤ hits at c
  few_read context at storage =
      few_either (is_outside context storage) _ [] (hits at c)
      (few_either storage.mutable (call_notes context at (accessor storage) storage.may_cross)
      (race_if (not storage.may_cross) at 606) (hits at c)
      (few_call context at (accessor storage) storage.may_cross)
      (omega (arith, none_race (not storage.may_cross) at 606)))
      (omega (arith, none_nothing))

  pub few_use : (context : Context) (at : ℕ) (used : Used)
      → few (use_notes context at used) ≤ hits at c
  few_use context at (Called callee sends) = few_call context at callee sends
  few_use context at (Stored storage) = few_read context at storage
  few_use context at Field = omega (arith, none_nothing)
  few_use context at Waited = omega (arith, none_await context at true)
  few_use context at Nothing = omega (arith, none_nothing)

  kept_cons : (test : Note → Bool) (note : Note) (notes : List Note) (is : Bool)
      → few (filter test notes) ≤ few notes
      → few (cond is (note ∷ filter test notes) (filter test notes)) ≤ few (note ∷ notes)
  kept_cons test note notes true most =
      omega (arith, most, few_body notes note, few_body (filter test notes) note)
  kept_cons test note notes false most = omega (arith, most, few_body notes note)

  few_kept : (test : Note → Bool) (notes : List Note) → few (filter test notes) ≤ few notes
  few_kept test [] = omega arith
  few_kept test (note ∷ notes) =
      kept_cons test note notes (test note) (few_kept test notes)

  module _ (world : World) where
    pub few_closed : (closure : ℕ) (context : Context) (listed : List ℕ) (inner : List Note)
        → few (closed world context closure listed inner) ≤ few inner
    few_closed closure context listed inner =
        let kept = filter (λ note. not (is_mention note)) inner in
        let captures = map (captured closure listed) (taken world context closure inner) in
        let mentions = map Mentioned (own_mentions closure inner) in
        omega (
          arith,
          few_join (kept ++ captures) mentions,
          few_join kept captures,
          few_kept (λ note. not (is_mention note)) inner,
          none_captures closure listed (taken world context closure inner),
          none_mentions (own_mentions closure inner),
        )

    module _ (answers : Answers) where
      none_result : (at : ℕ) (result : Option Ty) → few (result_races world at result) ≡ 0
      none_result at None = none_nothing
      none_result at (Some ty) = none_race (not (is_sendable world.shapes ty)) at 605

      pub none_task : (at : ℕ) → few (task_races world answers at) ≡ 0
      unfolding task_races
      none_task at = none_result at (task_result (answers.type_at at))

      pub none_var : (mutable : Bool) (at : ℕ) → few (var_notes mutable at) ≡ 0
      unfolding in_all
      none_var true at = omega arith
      none_var false at = refl
