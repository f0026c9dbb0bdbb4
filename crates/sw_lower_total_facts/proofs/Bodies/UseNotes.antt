-- A use is noted by kinds and breaches alone.
use Rattle.std.proofs.Common.{◌≡◌, ℕ, Bool, true, false, List, [], ◌∷◌, ◌++◌, flat_map, refl, ap}
use Rattle.std.proofs.Common.{◌∙◌, not, ◌&&◌}
use Rattle.std.proofs.lemmas.List.Concat.{flat_map-append}
use Rattle.std.specs.Prelude.{if◌then◌else◌}
use Rattle.sw_decl_words.specs.declared.placed.Placed.{Placed}
use Rattle.sw_isolation_rules.specs.Kinds.{accessor, is_outside, is_strong, kind_of, needs_await}
use Rattle.sw_isolation_rules.specs.Noting.{await_notes, call_notes, race_if, refused_if, use_notes}
use Rattle.sw_isolation_rules.specs.declared.note.Kinded.{Kinded}
use Rattle.sw_isolation_rules.specs.declared.note.Note.{Note}
use Rattle.sw_isolation_rules.specs.declared.note.Note.TheVariants.{Kind, Race, Refused}
use Rattle.sw_isolation_rules.specs.declared.uses.Callee.{Callee}
use Rattle.sw_isolation_rules.specs.declared.uses.Context.{Context}
use Rattle.sw_isolation_rules.specs.declared.uses.Used.{Used}
use Rattle.sw_isolation_rules.specs.declared.uses.Used.TheVariants.{Called, Field, Nothing, Stored}
use Rattle.sw_isolation_rules.specs.declared.uses.Used.TheVariants.{Waited}

module _ {A : Type 0} (f : Note → List A) where
  pub join_lacks : (one other : List Note) → flat_map f one ≡ [] → flat_map f other ≡ []
      → flat_map f (one ++ other) ≡ []
  join_lacks one other first second =
      flat_map-append f one other ∙ ap (λ all. all ++ flat_map f other) first ∙ second

  -- what is found neither in kinds nor in breaches
  module _ (kind : (one : Kinded) → f (Kind one) ≡ [])
      (refused : (at : Placed) → f (Refused at) ≡ []) (race : (at : Placed) → f (Race at) ≡ [])
    where
      one_lacks : (note : Note) → f note ≡ [] → flat_map f (note ∷ []) ≡ []
      one_lacks note none = ap (λ all. all ++ []) none

      refused_lacks : (fails : Bool) (at code : ℕ) → flat_map f (refused_if fails at code) ≡ []
      refused_lacks true at code = one_lacks (Refused _) (refused _)
      refused_lacks false at code = refl

      race_lacks : (fails : Bool) (at code : ℕ) → flat_map f (race_if fails at code) ≡ []
      race_lacks true at code = one_lacks (Race _) (race _)
      race_lacks false at code = refl

      either_lacks : (is : Bool) (one other : List Note) → flat_map f one ≡ []
          → flat_map f other ≡ [] → flat_map f (if is then one else other) ≡ []
      either_lacks true one other first second = first
      either_lacks false one other first second = second

      await_lacks : (context : Context) (at : ℕ) (is_async : Bool)
          → flat_map f (await_notes context at is_async) ≡ []
      await_lacks context at is_async =
          either_lacks context.is_async _ _ (refused_lacks (not context.awaited) at 502)
          (either_lacks is_async _ _ (refused_lacks true at 503) (refused_lacks true at 501))

      call_lacks : (context : Context) (at : ℕ) (callee : Callee) (sends : Bool)
          → flat_map f (call_notes context at callee sends) ≡ []
      call_lacks context at callee sends =
          let how = kind_of callee context.iso in
          join_lacks (Kind (record { at = at; kind = how }) ∷ []) _ (one_lacks (Kind _) (kind _))
          (join_lacks (if needs_await how callee.is_async
          then await_notes context at callee.is_async else [])
          (race_if (is_strong how && not sends) at 604)
          (either_lacks (needs_await how callee.is_async) _ []
          (await_lacks context at callee.is_async) refl)
          (race_lacks (is_strong how && not sends) at 604))

      pub use_lacks : (context : Context) (at : ℕ) (one : Used)
          → flat_map f (use_notes context at one) ≡ []
      use_lacks context at (Called callee sends) = call_lacks context at callee sends
      use_lacks context at (Stored storage) =
          either_lacks (is_outside context storage) _ []
          (either_lacks storage.mutable _ _
          (call_lacks context at (accessor storage) storage.may_cross)
          (race_lacks (not storage.may_cross) at 606)) refl
      use_lacks context at Field = refl
      use_lacks context at Waited = await_lacks context at true
      use_lacks context at Nothing = refl
