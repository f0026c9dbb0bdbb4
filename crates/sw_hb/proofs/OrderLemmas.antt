-- Every list of items has one of the four outcomes.
use Rattle.std.proofs.Common.{◌≡◌, ℕ, inl, inr, Option, Some, None, List, length, refl, sym}
use Rattle.std.proofs.Common.{subst, ap, ◌∙◌, arith}
use Rattle.std.proofs.lemmas.Bool.{cases_lt}
use Rattle.sw_graph.specs.declared.graph.Graph.{Graph}
use Rattle.sw_list.proofs.ListLemmas.{some_injective}
use Rattle.sw_value.specs.declared.race.Access.{Access}
use Rattle.sw_value.specs.declared.state.State.{State}
use Rattle.sw_value.specs.declared.state.TrapKind.{TrapKind}
use Rattle.sw_value.specs.Reach.{reach}
use Rattle.sw_before.specs.Events.{events_of}
use Rattle.sw_before.specs.Unordered.{IsFirstUnordered, AreOrdered}
use Rattle.sw_before.proofs.PairLemmas.{one_first}
use Rattle.sw_before.proofs.RivalLemmas.{first_decided}
use Rattle.sw_replay.specs.Output.{lines_of}
use Rattle.sw_hb.specs.declared.ordering.OrderReplay.{OrderReplay}
use Rattle.sw_hb.specs.declared.ordering.OrderReplay.TheVariants as replay
use Rattle.sw_clocks.specs.declared.links.TheConstants.{MOST_JOBS}
use Rattle.sw_hb.specs.declared.clocked.Clocked.{Clocked}
use Rattle.sw_hb.specs.Clocked.{HasManyJobs, IsClocked}
use Rattle.sw_hb.specs.Events.{accesses_in}
use Rattle.sw_hb.specs.Replay.{IsOrderReplay, many, unordered, trapped, ordered}

module _ (graph : Graph) (items : List ℕ) where
  abbrev lines : List ℕ
  lines = lines_of graph items

  same_trap : (j k : TrapKind) (p q : ℕ) → (reach graph items).halted ≡ Some (j, p)
      → (reach graph items).halted ≡ Some (k, q)
      → replay.Trapped lines j p ≡ replay.Trapped lines k q
  same_trap j k p q one other = ap (λ (t : TrapKind × ℕ). replay.Trapped lines t.0 t.1)
      (some_injective (sym one ∙ other))

  pub one_order : (a b : OrderReplay) → IsOrderReplay graph items a → IsOrderReplay graph items b
      → a ≡ b
  one_order _ _ (many h) (many k) = refl
  one_order _ _ (many h) (unordered few a b is) = absurd (few h)
  one_order _ _ (many h) (trapped few all kind at is) = absurd (few h)
  one_order _ _ (many h) (ordered few all is) = absurd (few h)
  one_order _ _ (unordered few a b is) (many h) = absurd (few h)
  one_order _ _ (unordered few a b is) (unordered also c d other) =
      let same = one_first (events_of graph items) a b c d is other in
      λ i. replay.Unordered lines (same.0 i) (same.1 i)
  one_order _ _ (unordered few a b is) (trapped also all kind at trap) =
      absurd (all is.p is.q a b is.is)
  one_order _ _ (unordered few a b is) (ordered also all none) = absurd (all is.p is.q a b is.is)
  one_order _ _ (trapped few all kind at trap) (many h) = absurd (few h)
  one_order _ _ (trapped few all kind at trap) (unordered also a b is) =
      absurd (all is.p is.q a b is.is)
  one_order _ _ (trapped few all kind at trap) (trapped also too other place is) =
      same_trap kind other at place trap is
  one_order _ _ (trapped few all kind at trap) (ordered also too none) = cc
  one_order _ _ (ordered few all none) (many h) = absurd (few h)
  one_order _ _ (ordered few all none) (unordered also a b is) = absurd (all is.p is.q a b is.is)
  one_order _ _ (ordered few all none) (trapped also too kind at trap) = cc
  one_order _ _ (ordered few all none) (ordered also too other) = refl

  abbrev Outcome : Type 0
  Outcome = (r : OrderReplay) × IsOrderReplay graph items r

  some_end : ¬ HasManyJobs (reach graph items) → AreOrdered (events_of graph items) → Outcome
  some_end few all = by (reach graph items).halted refl
    where
      by : (o : Option (TrapKind × ℕ)) → (reach graph items).halted ≡ o → Outcome
      by None none = (
        replay.Ordered lines (accesses_in (events_of graph items)),
        ordered few all none,
      )
      by (Some trap) is =
          (replay.Trapped lines trap.0 trap.1, trapped few all trap.0 trap.1 is)

  pub some_order : Outcome
  some_order = elim (cases_lt MOST_JOBS (length (reach graph items).jobs)) [
    | inl many_jobs ↦ (replay.ManyJobs, many many_jobs)
    | inr few_jobs ↦ (
        let few : ¬ HasManyJobs (reach graph items) =
        λ more. omega (arith, few_jobs, more) in
        elim (first_decided (events_of graph items)) [
          | inl (a, b, is) ↦ (replay.Unordered lines a b, unordered few a b is)
          | inr all ↦ some_end few all
        ]
        )
  ]

-- ---- what a clocked state and its lines tell
module _ (graph : Graph) (clocked : Clocked) (is : IsClocked graph clocked) (printed : List ℕ)
    (lines_are : printed ≡ lines_of graph clocked.items) where
  abbrev IsReplay : (List ℕ → OrderReplay) → Type 0
  IsReplay of = IsOrderReplay graph clocked.items (of printed)

  by_lines : (of : List ℕ → OrderReplay)
      → IsOrderReplay graph clocked.items (of (lines_of graph clocked.items)) → IsReplay of
  by_lines of = subst (λ l. IsOrderReplay graph clocked.items (of l)) (sym lines_are)

  few : ¬ HasManyJobs (reach graph clocked.items)
  few more = omega (
    arith,
    is.few_jobs,
    subst (λ (s : State). HasManyJobs s) (sym is.state_is) more,
  )

  pub unordered_is : (a b : Access) → IsFirstUnordered (events_of graph clocked.items) a b
      → IsReplay (λ l. replay.Unordered l a b)
  unordered_is a b first = by_lines (λ l. replay.Unordered l a b) (unordered few a b first)

  pub trapped_is : AreOrdered (events_of graph clocked.items) → (kind : TrapKind) (at : ℕ)
      → clocked.state.halted ≡ Some (kind, at) → IsReplay (λ l. replay.Trapped l kind at)
  trapped_is all kind at trap = by_lines (λ l. replay.Trapped l kind at)
      (trapped few all kind at (ap (λ (s : State). s.halted) (sym is.state_is) ∙ trap))

  pub ordered_is : AreOrdered (events_of graph clocked.items) → clocked.state.halted ≡ None
      → (count : ℕ) → count ≡ accesses_in (events_of graph clocked.items)
      → IsReplay (λ l. replay.Ordered l count)
  ordered_is all none count counts = by_lines (λ l. replay.Ordered l count)
      (subst (λ n. IsOrderReplay graph clocked.items
      (replay.Ordered (lines_of graph clocked.items) n)) (sym counts)
      (ordered few all (ap (λ (s : State). s.halted) (sym is.state_is) ∙ none)))
