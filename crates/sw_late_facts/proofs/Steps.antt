-- Each item, in both colourings.
use Rattle.std.proofs.Common.{◌≡◌, ℕ, ◌<◌, arith, refl, ap, sym, ◌∙◌, subst}
use Rattle.std.proofs.Common.{Option, Some, None, List, [], ◌++◌, length}
use Rattle.std.proofs.lemmas.List.{append-nil}
use Rattle.std.specs.Prelude.{filter}
use Rattle.std.specs.Option.{option_map_or}
use Rattle.std.specs.List.{All}
use Rattle.std.proofs.lemmas.List.Elements.{All-weaker, All-push, All-filter}
use Rattle.sw_graph.specs.declared.graph.Graph.{Graph}
use Rattle.sw_value.specs.declared.effect.Act.{Act}
use Rattle.sw_value.specs.declared.effect.Act.TheVariants.{Dispatch, Wake, Execute}
use Rattle.sw_value.specs.Act.{act_of}
use Rattle.sw_value.specs.Reach.{step_of}
use Rattle.sw_color_rules.specs.declared.plan.Plan.{Plan}
use Rattle.sw_color_rules.specs.declared.colored.Colored.{Colored}
use Rattle.sw_color_rules.specs.Ranges.{AreMade, AreBelow}
use Rattle.sw_color_rules.specs.Changes.{Change, after_changes}
use Rattle.sw_color_rules.specs.Plans.{changes_by, makings, merges, handing, plan_of, next_color}
use Rattle.sw_color_rules.specs.Machine.{changes_of, colored_step}
use Rattle.sw_color_rules.proofs.NumberLemmas.{AreNoted}
use Rattle.sw_late_facts.specs.Late.{Late, deliveries, is_of, is_left, late_by, cargo_by, late_changes}
use Rattle.sw_late_facts.specs.Late.{late_cargo, late_step, destination, givings}
use Rattle.sw_late_facts.specs.Late.{merges_here, later_of}
use Rattle.sw_late_facts.proofs.Handing.{IsSight}
use Rattle.sw_late_facts.proofs.Seen.{Jobs, seen}
use Rattle.sw_late_facts.proofs.Links.{seen_count, seen_top, IsSent, sent_stays, first_delivered}
use Rattle.sw_late_facts.proofs.Showing.{sight, palette_sight}
use Rattle.sw_late_facts.proofs.PlanLemmas.{plan_same}
use Rattle.sw_late_facts.proofs.Reaching.{Reaches, Goes, act_reaches, act_owns}
use Rattle.sw_late_facts.proofs.Cells.{cells_after, heres_after, cells_both, heres_both, IsQuiet, quiet_both}
use Rattle.sw_late_facts.proofs.Cells.{merges_quiet, handing_quiet, givings_quiet, merges_here_quiet}
use Rattle.sw_late_facts.proofs.Cells.{deliveries_quiet}
use Rattle.sw_late_facts.proofs.Turns.{agrees, delivered_count}
use Rattle.sw_late_facts.proofs.Follows.{Follows, Turns, turned, have_quiet, have_planned}

-- the item changes nothing
no_turn : (graph : Graph) (early : Colored) (late : Late) → Follows graph early late
    → Turns graph late [] [] late.cargo
no_turn graph early late f = record {
  cells = λ c. refl;
  heres = λ h. refl;
  have = f.have;
  sent = f.sent;
  same = refl;
}

-- a job is dispatched
dispatch_turn : (graph : Graph) (early : Colored) (late : Late) (j : ℕ) → Follows graph early late
    → Turns graph late [] (deliveries (filter (is_of j) late.cargo)) (filter (is_left j) late.cargo)
dispatch_turn graph early late j f =
    let own = filter (is_of j) late.cargo in
    let now = sight late.colors.palette in
    let is = palette_sight late.colors.palette f.late_whole in
    record {
      cells = λ c. sym ((deliveries_quiet own).cells c);
      heres = λ h. sym ((deliveries_quiet own).heres h);
      have = have_quiet graph (deliveries own) late.colors f.late_whole (deliveries_quiet own) f.have;
      sent = All-filter (is_left j) (IsSent (seen (deliveries own) now)) late.cargo
          (All-weaker (IsSent now) (IsSent (seen (deliveries own) now))
          (sent_stays (deliveries own) now is) late.cargo f.sent);
      same = first_delivered j late.cargo now is f.sent;
    }

-- any other act
module _ (graph : Graph) (early : Colored) (late : Late) (f : Follows graph early late)
    (noted : AreNoted (next_color late.colors) late.colors.cells) (j : ℕ) (act : Act)
    (acts : act_of graph late.state j ≡ Some act) where
  abbrev plan : Plan
  plan = plan_of graph late.state late.colors j act

  abbrev to : Option ℕ
  to = destination graph late.state late.colors j act

  abbrev now : Jobs
  now = sight late.colors.palette

  is : IsSight now
  is = palette_sight late.colors.palette f.late_whole

  abbrev early_rest : List Change
  early_rest = merges plan.joined ++ handing plan.joined plan.heir

  abbrev late_rest : List Change
  late_rest = givings plan.heir (later_of plan.joined) ++ merges_here to plan.joined

  early_quiet : IsQuiet early_rest
  early_quiet = quiet_both (merges plan.joined) (handing plan.joined plan.heir)
      (merges_quiet plan.joined) (handing_quiet plan.joined plan.heir)

  late_quiet : IsQuiet late_rest
  late_quiet = quiet_both (givings plan.heir (later_of plan.joined)) (merges_here to plan.joined)
      (givings_quiet plan.heir (later_of plan.joined)) (merges_here_quiet to plan.joined)

  reaches : Reaches late.colors plan to
  reaches = act_reaches graph late.state late.colors f.have noted j act acts

  later : Jobs
  later = seen (late_by j plan to) now

  kept : All (IsSent (seen (late_by j plan to) now)) late.cargo
  kept = All-weaker (IsSent now) (IsSent (seen (late_by j plan to) now))
      (sent_stays (late_by j plan to) now is) late.cargo f.sent

  all_sent : (o : Option ℕ) → to ≡ o → Reaches late.colors plan o
      → All (IsSent (seen (late_by j plan to) now)) (late.cargo ++ cargo_by j plan o)
  all_sent None e r =
      subst (All (IsSent (seen (late_by j plan to) now))) (sym (append-nil late.cargo)) kept
  all_sent (Some a) e (Goes _ ns joined_is fresh_is top below) =
      All-push (IsSent (seen (late_by j plan to) now)) late.cargo _ kept (record {
        actor = seen_top (late_by j plan to) now is a top;
        inside = subst (λ js. AreBelow (seen (late_by j plan to) now).count (later_of js)) (sym joined_is)
            (All-weaker (λ n. n < now.count) (λ n. n < (seen (late_by j plan to) now).count)
            (λ n inside. omega (arith, seen_count (late_by j plan to) now, inside)) ns below);
      })

  plan_turn : Turns graph late (changes_by j plan) (late_by j plan to) (late.cargo ++ cargo_by j plan to)
  plan_turn = record {
    cells = λ c. cells_both (makings j plan) early_rest c ∙ early_quiet.cells (cells_after (makings j plan) c)
        ∙ sym (cells_both (makings j plan) late_rest c ∙ late_quiet.cells (cells_after (makings j plan) c));
    heres = λ h. heres_both (makings j plan) early_rest h ∙ early_quiet.heres (heres_after (makings j plan) h)
        ∙ sym (heres_both (makings j plan) late_rest h ∙ late_quiet.heres (heres_after (makings j plan) h));
    have = have_planned graph j plan late_rest late.colors f.late_whole late_quiet
        (act_owns graph late.state late.colors f.have noted j act) f.have;
    sent = all_sent to refl reaches;
    same = agrees j late.colors plan late.cargo is f.sent to reaches;
  }

-- ---- each item
module _ (graph : Graph) (early : Colored) (late : Late) (f : Follows graph early late)
    (made : AreMade early.colors) (j : ℕ) where
  counts : length early.colors.palette.names ≡ length late.colors.palette.names
  counts = ap (λ (s : Jobs). s.count) f.same ∙ delivered_count late.cargo (sight late.colors.palette)

  pub noted_late : AreNoted (next_color late.colors) late.colors.cells
  noted_late =
      subst (λ n. AreNoted n late.colors.cells) counts
      (subst (AreNoted (next_color early.colors)) f.cells made.cells)

  plans : (act : Act) → plan_of graph early.state early.colors j act
      ≡ plan_of graph late.state late.colors j act
  plans act =
      ap (λ s. plan_of graph s early.colors j act) f.state
      ∙ plan_same graph late.state early.colors late.colors f.cells f.heres counts j act

  act_turn : (act : Act) → act_of graph late.state j ≡ Some act
      → Turns graph late (changes_by j (plan_of graph late.state late.colors j act))
      (late_changes graph late j act) (late_cargo graph late j act)
  act_turn Dispatch acts = dispatch_turn graph early late j f
  act_turn (Wake ended r v) acts = plan_turn graph early late f noted_late j (Wake ended r v) acts
  act_turn (Execute e) acts = plan_turn graph early late f noted_late j (Execute e) acts

  item_turn : (o : Option Act) → act_of graph late.state j ≡ o → Turns graph late
      (option_map_or (λ act. changes_by j (plan_of graph early.state early.colors j act)) o [])
      (option_map_or (late_changes graph late j) o []) (option_map_or (late_cargo graph late j) o late.cargo)
  item_turn None acts = no_turn graph early late f
  item_turn (Some act) acts =
      subst (λ p. Turns graph late (changes_by j p) (late_changes graph late j act)
      (late_cargo graph late j act)) (sym (plans act)) (act_turn act acts)

  pub step_follows : Follows graph (colored_step graph early j) (late_step graph late j)
  unfolding colored_step changes_of late_step
  step_follows =
      subst (λ s. Follows graph (record {
        state = step_of graph s j;
        colors = after_changes (option_map_or
            (λ act. changes_by j (plan_of graph early.state early.colors j act)) (act_of graph s j) [])
            early.colors;
      }) (late_step graph late j)) (sym f.state)
      (turned graph early late
      (option_map_or (λ act. changes_by j (plan_of graph early.state early.colors j act))
      (act_of graph late.state j) [])
      (option_map_or (late_changes graph late j) (act_of graph late.state j) [])
      (option_map_or (late_cargo graph late j) (act_of graph late.state j) late.cargo)
      (step_of graph late.state j) f (item_turn (act_of graph late.state j) refl))
