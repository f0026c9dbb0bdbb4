-- The late colouring follows the early one from the start on.
use Rattle.std.proofs.Common.{◌≡◌, ℕ, zero, suc, ◌<◌, arith, refl, ap, sym, ◌∙◌, inl, inr, subst}
use Rattle.std.proofs.Common.{Option, Some, None, List, [], ◌∷◌, ◌++◌, fold}
use Rattle.std.proofs.lemmas.Bool.{cases_eq}
use Rattle.std.proofs.lemmas.List.{append-nil, append_assoc}
use Rattle.std.proofs.lemmas.List.Sums.{fold-append}
use Rattle.std.proofs.lemmas.List.Elements.{All-nil}
use Rattle.sw_graph.specs.declared.graph.Graph.{Graph}
use Rattle.sw_value.specs.declared.frame.Frame.{Frame}
use Rattle.sw_value.specs.Start.{start_frames}
use Rattle.sw_color_rules.specs.declared.colors.Owner.TheVariants as owner
use Rattle.sw_color_rules.specs.declared.colors.Colors.{Colors}
use Rattle.sw_color_rules.specs.declared.plan.FrameChange.TheVariants.{Pushed}
use Rattle.sw_color_rules.specs.declared.plan.Plan.{Plan}
use Rattle.sw_color_rules.specs.declared.colored.Colored.{Colored}
use Rattle.sw_color_rules.specs.Palette.{IsWhole}
use Rattle.sw_color_rules.specs.Tints.{owned_number}
use Rattle.sw_color_rules.specs.Changes.{Fresh}
use Rattle.sw_color_rules.specs.Plans.{begun_with, number_on, next_color, changes_by, merges, handing}
use Rattle.sw_color_rules.specs.Machine.{global_count, global_colors, first_colors, started, start_colors}
use Rattle.sw_color_rules.specs.Machine.{colored_start, colored_step, colored_reach}
use Rattle.sw_color_rules.proofs.PaletteLemmas.{changes_whole, start_whole}
use Rattle.sw_color_rules.proofs.PlanRanges.{reach_made}
use Rattle.sw_late_facts.specs.Late.{Late, deliveries, late_start, late_step, late_reach}
use Rattle.sw_late_facts.specs.Alike.{delivered, AreAlike}
use Rattle.sw_late_facts.proofs.Sights.{if_same}
use Rattle.sw_late_facts.proofs.Seen.{Jobs, see, see_top, IsActors}
use Rattle.sw_late_facts.proofs.Links.{IsSent}
use Rattle.sw_late_facts.proofs.Showing.{sight, palette_sight, sight_change, sight_changes, same_names}
use Rattle.sw_late_facts.proofs.Reaching.{HaveColors, OwnsFresh}
use Rattle.sw_late_facts.proofs.Cells.{quiet_both, merges_quiet, handing_quiet, deliveries_quiet}
use Rattle.sw_late_facts.proofs.Cells.{changes_cells, changes_heres}
use Rattle.sw_late_facts.proofs.Follows.{Follows, have_planned}
use Rattle.sw_late_facts.proofs.Steps.{step_follows}

-- ---- the start
abbrev with_globals : ℕ → Colors
with_globals n = record { cells = []; palette = global_colors n; heres = [] }

pub globals_whole : (n : ℕ) → IsWhole (global_colors n)
globals_whole zero = record { owned = refl; lower = λ n. omega arith; left = λ n. refl }
globals_whole (suc n) =
    changes_whole (Fresh (owner.Global n) ∷ []) (with_globals n) (globals_whole n)

global_made : (n : ℕ) → sight (global_colors (suc n))
    ≡ see (Fresh (owner.Global n)) (sight (global_colors n))
global_made n = sight_change (Fresh (owner.Global n)) (with_globals n) (globals_whole n)

pub globals_counted : (n : ℕ) → (sight (global_colors n)).count ≡ n
globals_counted zero = refl
globals_counted (suc n) = omega (arith, ap (λ (s : Jobs). s.count) (global_made n), globals_counted n)

globals_owned : (n g : ℕ) → g < n → IsActors (sight (global_colors n)) g
globals_owned zero g few = absurd (omega arith)
globals_owned (suc n) g few = subst (λ s. IsActors s g) (sym (global_made n)) (elim (cases_eq g n) [
  | inl last ↦ record {
    inside = omega (arith, globals_counted n, last);
    none = if_same g (sight (global_colors n)).count _ _ (last ∙ sym (globals_counted n));
  }
  | inr earlier ↦
      see_top (Fresh (owner.Global n)) (sight (global_colors n))
      (palette_sight (global_colors n) (globals_whole n)) g
      (globals_owned n g (omega (arith, few, earlier)))
])

frames_have : (graph : Graph) (frames : List Frame) (colors : Colors) → IsWhole colors.palette
    → HaveColors graph colors → HaveColors graph (fold started colors frames)
unfolding started
frames_have graph [] colors whole have = have
frames_have graph (frame ∷ frames) colors whole have =
    frames_have graph frames (started colors frame) (changes_whole (changes_by 0 plan) colors whole)
    (have_planned graph 0 plan (merges plan.joined ++ handing plan.joined plan.heir) colors whole
    (quiet_both (merges plan.joined) (handing plan.joined plan.heir) (merges_quiet plan.joined)
    (handing_quiet plan.joined plan.heir)) (owns (number_on colors frame.executor)) have)
  where
    plan : Plan
    plan = begun_with (number_on colors frame.executor) (owner.Job 0) Pushed (next_color colors) []

    owns : (o : Option ℕ)
        → OwnsFresh colors (begun_with o (owner.Job 0) Pushed (next_color colors) [])
    owns None n e = cc
    owns (Some a) n e = cc

start_have : (graph : Graph) → HaveColors graph (start_colors graph)
unfolding start_colors owned_number
start_have graph = frames_have graph (start_frames graph) (first_colors graph)
    (globals_whole (global_count graph.functions)) (record {
      globals = globals_owned (global_count graph.functions);
      actors = λ c n e. cc;
    })

start_follows : (graph : Graph) → Follows graph (colored_start graph) (late_start graph)
start_follows graph = record {
  state = refl;
  cells = refl;
  heres = refl;
  early_whole = start_whole graph;
  late_whole = start_whole graph;
  have = start_have graph;
  sent = All-nil (IsSent (sight (start_colors graph).palette));
  same = refl;
}

-- ---- each state that items lead to
pub early_next : (graph : Graph) (items : List ℕ) (item : ℕ)
    → colored_reach graph (items ++ item ∷ []) ≡ colored_step graph (colored_reach graph items) item
unfolding colored_reach
early_next graph items item = fold-append (colored_step graph) (colored_start graph) items (item ∷ [])

pub late_next : (graph : Graph) (items : List ℕ) (item : ℕ)
    → late_reach graph (items ++ item ∷ []) ≡ late_step graph (late_reach graph items) item
unfolding late_reach
late_next graph items item = fold-append (late_step graph) (late_start graph) items (item ∷ [])

abbrev FollowsAfter : Graph → List ℕ → Type 0
FollowsAfter graph items = Follows graph (colored_reach graph items) (late_reach graph items)

next_follows : (graph : Graph) (items : List ℕ) (item : ℕ) → FollowsAfter graph items
    → FollowsAfter graph (items ++ item ∷ [])
next_follows graph items item f =
    subst (λ early. Follows graph early (late_reach graph (items ++ item ∷ [])))
    (sym (early_next graph items item))
    (subst (Follows graph (colored_step graph (colored_reach graph items) item))
    (sym (late_next graph items item))
    (step_follows graph (colored_reach graph items) (late_reach graph items) f (reach_made graph items)
    item))

goes_on : (graph : Graph) (done items : List ℕ) → FollowsAfter graph done
    → FollowsAfter graph (done ++ items)
goes_on graph done [] f = subst (FollowsAfter graph) (sym (append-nil done)) f
goes_on graph done (item ∷ items) f =
    subst (FollowsAfter graph) (append_assoc done (item ∷ []) items)
    (goes_on graph (done ++ item ∷ []) items (next_follows graph done item f))

pub reach_follows : (graph : Graph) (items : List ℕ) → FollowsAfter graph items
unfolding colored_reach late_reach
reach_follows graph items = goes_on graph [] items (start_follows graph)

-- ---- the two are alike
pub alike : (graph : Graph) (early : Colored) (late : Late) → Follows graph early late
    → AreAlike early.colors (delivered late)
alike graph early late f = record {
  cells = f.cells ∙ sym (changes_cells (deliveries late.cargo) late.colors ∙ (deliveries_quiet late.cargo).cells late.colors.cells);
  heres = f.heres ∙ sym (changes_heres (deliveries late.cargo) late.colors ∙ (deliveries_quiet late.cargo).heres late.colors.heres);
  names = same_names early.colors.palette (delivered late).palette same;
  jobs = λ n. ap (λ (s : Jobs). s.owner n) same;
} where
  same : sight early.colors.palette ≡ sight (delivered late).palette
  same = f.same ∙ sym (sight_changes (deliveries late.cargo) late.colors f.late_whole)
