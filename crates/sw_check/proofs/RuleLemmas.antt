-- The parts that read no file have a result, and no two.
use Rattle.std.proofs.Common.{◌⊎◌, inl, inr, ℕ, List, [], Result, Ok, Err, refl, sym, ap, ◌∙◌}
use Rattle.sw_graph.specs.declared.graph.Graph.{Graph}
use Rattle.sw_cert.proofs.Oneway.{one_verified}
use Rattle.sw_cert.proofs.SomeVerified.{some_verified}
use Rattle.sw_cert_making.proofs.OnePrinted.{one_printed, some_printed}
use Rattle.sw_hb.proofs.OrderLemmas.{one_order, some_order}
use Rattle.sw_replay.specs.declared.text.SchedFault.{SchedFault}
use Rattle.sw_replay.specs.Items.{HasItems}
use Rattle.sw_replay.specs.Reading.{items_or_fault}
use Rattle.sw_replay.proofs.ReplayLemmas.{some_replay, one_replay}
use Rattle.sw_replay.proofs.ScheduleLaws.{items_or_fault-HasItems, one_list, one_fault}
use Rattle.sw_replay.proofs.ScheduleLaws.{never_both as items_and_fault}
use Rattle.sw_check_parts.specs.declared.outcome.Outcome.{Outcome}
use Rattle.sw_check_parts.specs.Lawful.{HasOneResult, HasResult}
use Rattle.sw_decls.specs.declared.signature.AsyncDefault.{AsyncDefault}
use Rattle.sw_verdict.specs.Phases.{Phase, phases_to_size}
use Rattle.sw_verdict.specs.Verdict.{Breaches, Refuses}
use Rattle.sw_verdict.proofs.ActorNames.{one_names, some_names}
use Rattle.sw_verdict.proofs.GraphsExist.{some_graph}
use Rattle.sw_verdict.proofs.OneLowered.{one_graph_of}
use Rattle.sw_verdict.proofs.OneLists.{one_list as one_verdict}
use Rattle.sw_verdict.proofs.Verdicts.{never_both}
use Rattle.sw_check.specs.Programs.{Passed}
use Rattle.sw_check.specs.Reply.{refusal, bad_schedule_outcome, EndsWithReply}
use Rattle.sw_check.specs.Reply.{Certifies, IsJudgement, Verifies, certificate_outcome, prints}
use Rattle.sw_check.specs.Reply.{Orders, in_order, order_outcome, tests, verified_outcome}
use Rattle.sw_check.specs.Reply.{passes, breached, Scheduled, has_items, has_fault, Traces, ends}
use Rattle.sw_check.specs.Reply.{replay_outcome}

pub answers_one : (outcome : Outcome) → HasOneResult (EndsWithReply outcome)
answers_one outcome a b is_a is_b = is_a ∙ sym is_b

pub answers_some : (outcome : Outcome) → HasResult (EndsWithReply outcome)
answers_some outcome = (Ok outcome, refl)

module _ (rule : AsyncDefault) (phases : List Phase) (text : List ℕ) where
  pub judged_one : HasOneResult (IsJudgement rule phases text)
  judged_one _ _ (passes a is_a named) (passes b is_b others) =
      let graphs = one_graph_of rule text a.graph b.graph is_a.1 is_b.1 in
      let names = one_names text a.actors b.actors named others in
      λ i. Ok (record { graph = graphs i; actors = names i })
  judged_one _ _ (passes a is_a _) (breached list is_b) =
      absurd (never_both rule phases text is_a.0 (list, is_b.0, is_b.1))
  judged_one _ _ (breached list is_a) (passes b is_b _) =
      absurd (never_both rule phases text is_b.0 (list, is_a.0, is_a.1))
  judged_one _ _ (breached list is_a) (breached other is_b) =
      ap (λ list. Err (refusal text list)) (one_verdict rule phases text list other is_a.1 is_b.1)

  -- where the phases up to the size of functions find no breach if it passes
  pub judged_some : (Breaches rule phases text [] → Breaches rule phases_to_size text [])
      → Breaches rule phases text [] ⊎ Refuses rule phases text
      → HasResult (IsJudgement rule phases text)
  judged_some to_size (inl pass) =
      let (graph, is) = some_graph rule text (to_size pass) in
      let (names, named) = some_names rule text (to_size pass) in
      let passed : Passed = record { graph = graph; actors = names } in
      (Ok passed, passes passed (pass, is) named)
  judged_some to_size (inr (list, not, found)) = (Err (refusal text list), breached list (not, found))

module _ (schedule : List ℕ) where
  pub scheduled_one : HasOneResult (Scheduled schedule)
  scheduled_one _ _ (has_items a is_a) (has_items b is_b) = ap Ok (one_list schedule a b is_a is_b)
  scheduled_one _ _ (has_items a is_a) (has_fault b is_b) =
      absurd (items_and_fault schedule a b is_a is_b)
  scheduled_one _ _ (has_fault a is_a) (has_items b is_b) =
      absurd (items_and_fault schedule b a is_b is_a)
  scheduled_one _ _ (has_fault a is_a) (has_fault b is_b) =
      ap (λ fault. Err (bad_schedule_outcome schedule fault)) (one_fault schedule a b is_a is_b)

  pub scheduled_some : HasResult (Scheduled schedule)
  scheduled_some = some (items_or_fault schedule) (items_or_fault-HasItems schedule) where
    some : (read : Result (List ℕ) SchedFault) → HasItems schedule read
        → HasResult (Scheduled schedule)
    some (Ok items) are = (Ok items, has_items items are)
    some (Err fault) is = (Err (bad_schedule_outcome schedule fault), has_fault fault is)

module _ (text : List ℕ) (graph : Graph) (items : List ℕ) where
  pub traces_one : HasOneResult (Traces text graph items)
  traces_one _ _ (ends a is_a) (ends b is_b) =
      ap (λ replay. Ok (replay_outcome text replay)) (one_replay graph items a b is_a is_b)

  pub traces_some : HasResult (Traces text graph items)
  traces_some =
      let (replay, is) = some_replay graph items in (Ok (replay_outcome text replay), ends replay is)

module _ (text : List ℕ) (graph : Graph) (items : List ℕ) where
  pub orders_one : HasOneResult (Orders text graph items)
  orders_one _ _ (in_order a is_a) (in_order b is_b) =
      ap (λ replay. Ok (order_outcome text replay)) (one_order graph items a b is_a is_b)

  pub orders_some : HasResult (Orders text graph items)
  orders_some =
      let (replay, is) = some_order graph items in
      (Ok (order_outcome text replay), in_order replay is)

module _ (graph : Graph) where
  pub certifies_one : HasOneResult (Certifies graph)
  certifies_one _ _ (prints a is_a) (prints b is_b) =
      ap (λ printed. Ok (certificate_outcome printed)) (one_printed graph a b is_a is_b)

  pub certifies_some : HasResult (Certifies graph)
  certifies_some =
      let (printed, is) = some_printed graph in
      (Ok (certificate_outcome printed), prints printed is)

module _ (graph : Graph) (certificate : List ℕ) where
  pub verifies_one : HasOneResult (Verifies graph certificate)
  verifies_one _ _ (tests a is_a) (tests b is_b) =
      ap (λ result. Ok (verified_outcome certificate result))
      (one_verified graph certificate a b is_a is_b)

  pub verifies_some : HasResult (Verifies graph certificate)
  verifies_some =
      let (result, is) = some_verified graph certificate in
      (Ok (verified_outcome certificate result), tests result is)
