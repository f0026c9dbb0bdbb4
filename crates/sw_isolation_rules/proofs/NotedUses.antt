-- What holds of each refusal, race, mention and capture holds of each note of a use, a store and a
-- closure.
use Rattle.std.proofs.Common.{ℕ, ◌≤◌, ◌<◌, Bool, true, false, not, ◌&&◌, cond, List, [], ◌∷◌}
use Rattle.std.proofs.Common.{◌++◌, map, flat_map, nat_lt, arith}
use Rattle.std.proofs.lemmas.Bool.{ltb-true}
use Rattle.std.specs.List.{AllByRecursion, filter}
use Rattle.sw_typing_rules.specs.Worlds.{World}
use Rattle.sw_types.specs.declared.isolation.CallKind.{CallKind}
use Rattle.sw_isolation_rules.specs.Captures.{outer, firsts, firsts_from, is_among, variables}
use Rattle.sw_isolation_rules.specs.Captures.{held_self}
use Rattle.sw_isolation_rules.specs.Captures.{self_first, self_of, taken, own_mentions, captured}
use Rattle.sw_isolation_rules.specs.Captures.{closed, mentioned, is_mention}
use Rattle.sw_isolation_rules.specs.Kinds.{kind_of, needs_await, is_strong, accessor, is_outside}
use Rattle.sw_isolation_rules.specs.Noting.{refused_if, race_if, await_notes, call_notes}
use Rattle.sw_isolation_rules.specs.Noting.{placed, read_notes, use_notes, store_notes}
use Rattle.sw_isolation_rules.specs.declared.note.Mention.{Mention}
use Rattle.sw_isolation_rules.specs.declared.note.Note.{Note}
use Rattle.sw_isolation_rules.specs.declared.note.Note.TheVariants.{Kind, Refused, Race}
use Rattle.sw_isolation_rules.specs.declared.note.Note.TheVariants.{Mentioned}
use Rattle.sw_isolation_rules.specs.declared.uses.Callee.{Callee}
use Rattle.sw_isolation_rules.specs.declared.uses.Context.{Context}
use Rattle.sw_isolation_rules.specs.declared.uses.Storage.{Storage}
use Rattle.sw_isolation_rules.specs.declared.uses.Used.{Used}
use Rattle.sw_isolation_rules.specs.declared.uses.Used.TheVariants.{Called, Stored, Field, Waited}
use Rattle.sw_isolation_rules.specs.declared.uses.Used.TheVariants.{Nothing}
use Rattle.sw_isolation_rules.proofs.Each.{Each, each_if, each_join, each_kept, each_map}
use Rattle.sw_isolation_rules.proofs.Each.{each_passed}

-- What holds of single notes: of refusals, races, mentions and captures.
pub record EachLeaf (P : Note → Type 0) : Type 0 where
  pub refused : (at code : ℕ) → 501 ≤ code → code ≤ 504 → P (Refused (placed at code))
  pub race : (at code : ℕ) → 604 ≤ code → code ≤ 606 → P (Race (placed at code))
  pub mentioned : (one : Mention) → P (Mentioned one)
  pub captures : (closure : ℕ) (listed : List ℕ) (one : Mention) → one.variable < closure
      → P (captured closure listed one)

module _ (P : Note → Type 0) (leaf : EachLeaf P) where
  join : (one other : List Note) → Each P one → Each P other → Each P (one ++ other)
  join = each_join P

  of_refused : (fails : Bool) (at code : ℕ) → 501 ≤ code → code ≤ 504
      → Each P (refused_if fails at code)
  of_refused true at code low high = (leaf.refused at code low high, tt)
  of_refused false at code low high = tt

  of_race : (fails : Bool) (at code : ℕ) → 604 ≤ code → code ≤ 606
      → Each P (race_if fails at code)
  of_race true at code low high = (leaf.race at code low high, tt)
  of_race false at code low high = tt

  of_either : (is : Bool) (one other : List Note) → Each P one → Each P other
      → Each P (cond is one other)
  of_either true one other first second = first
  of_either false one other first second = second

  pub of_race_605 : (fails : Bool) (at : ℕ) → Each P (race_if fails at 605)
  of_race_605 fails at = of_race fails at 605 (omega arith) (omega arith)

  pub of_await : (context : Context) (at : ℕ) (is_async : Bool)
      → Each P (await_notes context at is_async)
  of_await context at is_async =
      of_either context.is_async _ _
      (of_refused (not context.awaited) at 502 (omega arith) (omega arith))
      (of_either is_async _ _ (of_refused true at 503 (omega arith) (omega arith))
      (of_refused true at 501 (omega arith) (omega arith)))

  pub of_call : (context : Context) (at : ℕ) (callee : Callee) (sends : Bool)
      → P (Kind (record { at = at; kind = kind_of callee context.iso }))
      → Each P (call_notes context at callee sends)
  of_call context at callee sends so =
      let kind = kind_of callee context.iso in (
        so,
        join (cond (needs_await kind callee.is_async)
            (await_notes context at callee.is_async) [])
            (race_if (is_strong kind && not sends) at 604)
            (each_if P (needs_await kind callee.is_async)
            (await_notes context at callee.is_async) (of_await context at callee.is_async))
            (of_race (is_strong kind && not sends) at 604 (omega arith) (omega arith)),
      )

  of_read : (context : Context) (at : ℕ) (storage : Storage)
      → ((kind : CallKind) → P (Kind (record { at = at; kind = kind })))
      → Each P (read_notes context at storage)
  of_read context at storage so =
      each_if P (is_outside context storage) _
      (of_either storage.mutable (call_notes context at (accessor storage) storage.may_cross)
      (race_if (not storage.may_cross) at 606)
      (of_call context at (accessor storage) storage.may_cross (so _))
      (of_race (not storage.may_cross) at 606 (omega arith) (omega arith)))

  pub of_use : (context : Context) (at : ℕ) (used : Used)
      → ((kind : CallKind) → P (Kind (record { at = at; kind = kind })))
      → Each P (use_notes context at used)
  of_use context at (Called callee sends) so = of_call context at callee sends (so _)
  of_use context at (Stored storage) so = of_read context at storage so
  of_use context at Field so = tt
  of_use context at Waited so = of_await context at true
  of_use context at Nothing so = tt

  pub of_store : (context : Context) (at : ℕ) (used : Used) (inside : List Note)
      → Each P inside → Each P (store_notes context at used inside)
  of_store context at (Called callee sends) inside are = tt
  of_store context at (Stored storage) inside are =
      of_refused (is_outside context storage) at 504 (omega arith) (omega arith)
  of_store context at Field inside are = are
  of_store context at Waited inside are = tt
  of_store context at Nothing inside are = tt

  pub of_mentions : (mentions : List Mention) → Each P (map Mentioned mentions)
  of_mentions mentions = each_map P Mentioned leaf.mentioned mentions

  -- what a closure takes are outer variables
  module _ (closure : ℕ) where
    abbrev IsOuter : Mention → Type 0
    IsOuter one = one.variable < closure

    abbrev AreOuter : List Mention → Type 0
    AreOuter mentions = AllByRecursion IsOuter mentions

    outer_are : (mentions : List Mention) → AreOuter (outer closure mentions)
    outer_are mentions =
        each_passed IsOuter (λ (one : Mention). nat_lt one.variable closure)
        (λ one is. ltb-true one.variable closure is) mentions

    one_more : (is : Bool) (found : List Mention) (one : Mention) → AreOuter found → IsOuter one
        → AreOuter (cond is found (found ++ one ∷ []))
    one_more true found one are is = are
    one_more false found one are is = each_join IsOuter found (one ∷ []) are (is, tt)

    firsts_are : (mentions found : List Mention) → AreOuter found → AreOuter mentions
        → AreOuter (firsts_from found mentions)
    firsts_are [] found are all = are
    firsts_are (one ∷ more) found are all =
        firsts_are more
        (cond (is_among (variables found) one.variable) found (found ++ one ∷ []))
        (one_more (is_among (variables found) one.variable) found one are all.0) all.1

    self_first_are : (me : List ℕ) (mentions : List Mention) → AreOuter mentions
        → AreOuter (self_first me mentions)
    self_first_are me mentions are =
        each_join IsOuter _ _
        (each_kept IsOuter (λ (one : Mention). is_among me one.variable) mentions are)
        (each_kept IsOuter (λ (one : Mention). not (is_among me one.variable)) mentions are)

    captures_are : (listed : List ℕ) (mentions : List Mention) → AreOuter mentions
        → Each P (map (captured closure listed) mentions)
    captures_are listed [] are = tt
    captures_are listed (one ∷ more) are =
        (leaf.captures closure listed one are.0, captures_are listed more are.1)

    pub of_closed : (world : World) (context : Context) (listed : List ℕ) (inner : List Note)
        → Each P inner → Each P (closed world context closure listed inner)
    of_closed world context listed inner are =
        let all = flat_map mentioned inner ++ held_self world context closure in
        join
        (filter (λ note. not (is_mention note)) inner
        ++ map (captured closure listed) (taken world context closure inner))
        (map Mentioned (own_mentions closure inner))
        (join (filter (λ note. not (is_mention note)) inner)
        (map (captured closure listed) (taken world context closure inner))
        (each_kept P (λ note. not (is_mention note)) inner are)
        (captures_are listed (taken world context closure inner)
        (self_first_are (self_of world context.owner) (firsts (outer closure all))
        (firsts_are (outer closure all) [] tt (outer_are all)))))
        (of_mentions (own_mentions closure inner))
