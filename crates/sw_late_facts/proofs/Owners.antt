-- In each state that items lead to, what is owned is one colour with a number that its owner has.
use Rattle.std.proofs.Common.{◌≡◌, ℕ, zero, suc, ◌≤◌, arith, refl, sym, ap, ◌∙◌, subst}
use Rattle.std.proofs.Common.{Option, Some, None, List, [], ◌∷◌, ◌++◌, map, length, length-append, fold}
use Rattle.std.specs.Prelude.{option_map, filter}
use Rattle.std.specs.Option.{option_map_or, option_to_list}
use Rattle.sw_graph.specs.declared.graph.Graph.{Graph}
use Rattle.sw_value.specs.declared.frame.Frame.{Frame}
use Rattle.sw_value.specs.declared.state.State.{State}
use Rattle.sw_value.specs.declared.effect.Act.{Act}
use Rattle.sw_value.specs.declared.effect.Act.TheVariants.{Dispatch, Wake, Execute}
use Rattle.sw_value.specs.Act.{act_of}
use Rattle.sw_value.specs.Reach.{after_act}
use Rattle.sw_value.specs.Start.{start_of, start_frames}
use Rattle.sw_value.proofs.ReachLemmas.{step_by_act, after_acts}
use Rattle.sw_color_rules.specs.declared.colors.Owner.{Owner}
use Rattle.sw_color_rules.specs.declared.colors.Owner.TheVariants as owner
use Rattle.sw_color_rules.specs.declared.colors.Tint.{Tint}
use Rattle.sw_color_rules.specs.declared.colors.Tint.TheVariants.{Owns}
use Rattle.sw_color_rules.specs.declared.colors.Colors.{Colors}
use Rattle.sw_color_rules.specs.declared.colored.Colored.{Colored}
use Rattle.sw_color_rules.specs.declared.plan.Plan.{Plan}
use Rattle.sw_color_rules.specs.declared.plan.FrameChange.{FrameChange}
use Rattle.sw_color_rules.specs.declared.plan.FrameChange.TheVariants.{Stays, Pushed, Begun, Popped}
use Rattle.sw_color_rules.specs.Names.{name_in}
use Rattle.sw_color_rules.specs.Palette.{IsWhole}
use Rattle.sw_color_rules.specs.Tints.{owned_number}
use Rattle.sw_color_rules.specs.Changes.{Change, Fresh, Mark, Push, Begin, Pop, Merge, HandOver, after_change}
use Rattle.sw_color_rules.specs.Changes.{after_changes, mark, push_here, pop_here, begin_heres}
use Rattle.sw_color_rules.specs.Plans.{frame_changes, makings, merges, handing, changes_by, begun_with}
use Rattle.sw_color_rules.specs.Plans.{number_on, next_color, plan_of}
use Rattle.sw_color_rules.specs.Machine.{global_count, global_colors, first_colors, started, start_colors}
use Rattle.sw_color_rules.specs.Machine.{changes_of, colored_start, colored_step, colored_reach}
use Rattle.sw_color_rules.proofs.PaletteLemmas.{changes_whole, start_whole}
use Rattle.sw_late_facts.specs.Late.{Cargo, Late, delivery, deliveries, givings, merges_here, late_by}
use Rattle.sw_late_facts.specs.Late.{later_of, is_of, late_changes, late_start, late_step, late_reach}
use Rattle.sw_late_facts.specs.Late.{destination}
use Rattle.sw_late_facts.specs.Alike.{delivered}
use Rattle.sw_late_facts.specs.Owners.{OwnByNumber}
use Rattle.sw_late_facts.proofs.Cells.{cells_after, changes_cells, cells_both, IsQuiet, quiet_both}
use Rattle.sw_late_facts.proofs.Cells.{merges_quiet, handing_quiet, givings_quiet, merges_here_quiet}
use Rattle.sw_late_facts.proofs.Cells.{deliveries_quiet}
use Rattle.sw_late_facts.proofs.Follows.{cells_made}
use Rattle.sw_late_facts.proofs.Makings.{count_with, OwnsMade, Makes, act_makes}
use Rattle.sw_late_facts.proofs.Numbers.{AreNumbered, owners_of, merge_numbered, hand_over_numbered}
use Rattle.sw_late_facts.proofs.Numbers.{fresh_numbered, more_numbered, owned_next}
use Rattle.sw_late_facts.proofs.Reached.{globals_whole, globals_counted}

-- the numbers of owners in the colours of a state
abbrev pub HasNumbers : ℕ → Colors → Type 0
HasNumbers globals colors = AreNumbered globals colors.cells (owners_of colors.palette)

-- ---- changes
-- changes in which no colour is made but jobs'
abbrev pub MakeJobs : List Change → Type 0
MakeJobs [] = Unit {0}
MakeJobs (Fresh (owner.Job j) ∷ cs) = MakeJobs cs
MakeJobs (Fresh (owner.ActorOf c) ∷ cs) = ⊥
MakeJobs (Fresh (owner.Global g) ∷ cs) = ⊥
MakeJobs (_ ∷ cs) = MakeJobs cs

jobs_both : (cs ds : List Change) → MakeJobs cs → MakeJobs ds → MakeJobs (cs ++ ds)
jobs_both [] ds one other = other
jobs_both (Fresh (owner.Job j) ∷ cs) ds one other = jobs_both cs ds one other
jobs_both (Fresh (owner.ActorOf c) ∷ cs) ds one other = absurd one
jobs_both (Fresh (owner.Global g) ∷ cs) ds one other = absurd one
jobs_both (Mark t ∷ cs) ds one other = jobs_both cs ds one other
jobs_both (Push j n ∷ cs) ds one other = jobs_both cs ds one other
jobs_both (Begin n ∷ cs) ds one other = jobs_both cs ds one other
jobs_both (Pop j ∷ cs) ds one other = jobs_both cs ds one other
jobs_both (Merge a b ∷ cs) ds one other = jobs_both cs ds one other
jobs_both (HandOver n j ∷ cs) ds one other = jobs_both cs ds one other

merge_list_jobs : (a : ℕ) (ns : List ℕ) → MakeJobs (map (Merge a) ns)
merge_list_jobs a [] = tt
merge_list_jobs a (n ∷ ns) = merge_list_jobs a ns

merges_jobs : (ns : List ℕ) → MakeJobs (merges ns)
merges_jobs [] = tt
merges_jobs (a ∷ ns) = merge_list_jobs a ns

handing_jobs : (ns : List ℕ) (heir : Option ℕ) → MakeJobs (handing ns heir)
handing_jobs [] None = tt
handing_jobs [] (Some j) = tt
handing_jobs (a ∷ ns) None = tt
handing_jobs (a ∷ ns) (Some j) = tt

hand_list_jobs : (j : ℕ) (ns : List ℕ) → MakeJobs (map (λ n. HandOver n j) ns)
hand_list_jobs j [] = tt
hand_list_jobs j (n ∷ ns) = hand_list_jobs j ns

givings_jobs : (heir : Option ℕ) (ns : List ℕ) → MakeJobs (givings heir ns)
givings_jobs None ns = tt
givings_jobs (Some j) ns = hand_list_jobs j ns

merges_here_jobs : (to : Option ℕ) (ns : List ℕ) → MakeJobs (merges_here to ns)
merges_here_jobs None ns = merges_jobs ns
merges_here_jobs (Some a) ns = tt

deliveries_jobs : (cargo : List Cargo) → MakeJobs (deliveries cargo)
deliveries_jobs [] = tt
deliveries_jobs (c ∷ cs) =
    jobs_both (delivery c) (deliveries cs) (merge_list_jobs c.actor c.colors) (deliveries_jobs cs)

frame_jobs : (j : ℕ) (frame : FrameChange) → MakeJobs (frame_changes j frame)
frame_jobs j Stays = tt
frame_jobs j (Pushed n) = tt
frame_jobs j (Begun n) = tt
frame_jobs j Popped = tt

marked_jobs : (j : ℕ) (t : Option Tint) (frame : FrameChange)
    → MakeJobs (option_to_list (option_map Mark t) ++ frame_changes j frame)
marked_jobs j None frame = frame_jobs j frame
marked_jobs j (Some t) frame = frame_jobs j frame

module _ (globals : ℕ) where
  pub changes_numbered : (cs : List Change) → MakeJobs cs → (colors : Colors)
      → IsWhole colors.palette → HasNumbers globals colors
      → HasNumbers globals (after_changes cs colors)
  unfolding mark push_here pop_here begin_heres
  changes_numbered [] jobs colors whole has = has
  changes_numbered (Fresh (owner.Job j) ∷ cs) jobs colors whole has =
      changes_numbered cs jobs (after_change colors (Fresh (owner.Job j)))
      (changes_whole (Fresh (owner.Job j) ∷ []) colors whole)
      (fresh_numbered globals colors.cells colors.palette whole has (owner.Job j) tt)
  changes_numbered (Fresh (owner.ActorOf c) ∷ cs) jobs colors whole has = absurd jobs
  changes_numbered (Fresh (owner.Global g) ∷ cs) jobs colors whole has = absurd jobs
  changes_numbered (Mark t ∷ cs) jobs colors whole has =
      changes_numbered cs jobs (after_change colors (Mark t)) whole
      (more_numbered globals colors.cells (owners_of colors.palette) has t)
  changes_numbered (Push j n ∷ cs) jobs colors whole has =
      changes_numbered cs jobs (after_change colors (Push j n)) whole has
  changes_numbered (Begin n ∷ cs) jobs colors whole has =
      changes_numbered cs jobs (after_change colors (Begin n)) whole has
  changes_numbered (Pop j ∷ cs) jobs colors whole has =
      changes_numbered cs jobs (after_change colors (Pop j)) whole has
  changes_numbered (Merge a b ∷ cs) jobs colors whole has =
      changes_numbered cs jobs (after_change colors (Merge a b))
      (changes_whole (Merge a b ∷ []) colors whole)
      (merge_numbered globals colors.cells colors.palette whole has a b)
  changes_numbered (HandOver n j ∷ cs) jobs colors whole has =
      changes_numbered cs jobs (after_change colors (HandOver n j))
      (changes_whole (HandOver n j ∷ []) colors whole)
      (hand_over_numbered globals colors.cells colors.palette whole has n j)

  -- an actor is made, and its colour is noted
  actor_numbered : (c : ℕ) (colors : Colors) → IsWhole colors.palette → c ≡ length colors.cells
      → HasNumbers globals colors
      → HasNumbers globals
      (after_changes (Fresh (owner.ActorOf c) ∷ Mark (Owns (next_color colors)) ∷ []) colors)
  unfolding mark
  actor_numbered c colors whole is has =
      fresh_numbered globals (colors.cells ++ Owns (next_color colors) ∷ []) colors.palette whole
      (more_numbered globals colors.cells (owners_of colors.palette) has (Owns (next_color colors)))
      (owner.ActorOf c)
      (subst (λ k. HasOwn k (next_color colors)) (sym is) (owned_next colors.cells (next_color colors)))
    where
      HasOwn : ℕ → ℕ → Type 0
      HasOwn k n = owned_number (colors.cells ++ Owns (next_color colors) ∷ []) k ≡ Some n

  -- a plan, and then changes of the palette alone
  pub planned_numbered : (j cells later : ℕ) (plan : Plan) (rest : List Change) (colors : Colors)
      → IsWhole colors.palette → Makes (next_color colors) cells later plan
      → length colors.cells ≡ cells → MakeJobs rest → HasNumbers globals colors
      → HasNumbers globals (after_changes (makings j plan ++ rest) colors)
  planned_numbered j cells later plan rest colors whole makes counts jobs has =
      by plan.fresh plan.tint makes.owned where
        framed : List Change
        framed = frame_changes j plan.frame

        by : (o : Option Owner) (t : Option Tint) → OwnsMade (next_color colors) cells o t
            → HasNumbers globals (after_changes ((option_to_list (option_map Fresh o)
            ++ (option_to_list (option_map Mark t) ++ framed)) ++ rest) colors)
        by None t owned =
            changes_numbered ((option_to_list (option_map Mark t) ++ framed) ++ rest)
            (jobs_both (option_to_list (option_map Mark t) ++ framed) rest (marked_jobs j t plan.frame) jobs)
            colors whole has
        by (Some (owner.Job i)) t owned =
            changes_numbered (Fresh (owner.Job i) ∷ ((option_to_list (option_map Mark t) ++ framed) ++ rest))
            (jobs_both (option_to_list (option_map Mark t) ++ framed) rest (marked_jobs j t plan.frame) jobs)
            colors whole has
        by (Some (owner.ActorOf c)) t owned =
            subst (λ u. HasNumbers globals (after_changes ((Fresh (owner.ActorOf c)
            ∷ (option_to_list (option_map Mark u) ++ framed)) ++ rest) colors)) (sym owned.1)
            (changes_numbered (framed ++ rest) (jobs_both framed rest (frame_jobs j plan.frame) jobs)
            (after_changes (Fresh (owner.ActorOf c) ∷ Mark (Owns (next_color colors)) ∷ []) colors)
            (changes_whole (Fresh (owner.ActorOf c) ∷ Mark (Owns (next_color colors)) ∷ []) colors whole)
            (actor_numbered c colors whole (owned.0 ∙ sym counts) has))
        by (Some (owner.Global g)) t owned = absurd owned

-- ---- states
-- what is kept by each step
pub record Numbering (graph : Graph) (state : State) (colors : Colors) : Type 0 where
  pub counted : length colors.cells ≡ length state.cells
  pub whole : IsWhole colors.palette
  pub numbers : HasNumbers (global_count graph.functions) colors

act_numbered : (graph : Graph) (state : State) (colors : Colors) → Numbering graph state colors
    → (j : ℕ) (act : Act) → act_of graph state j ≡ Some act → (rest : List Change) → IsQuiet rest
    → MakeJobs rest
    → Numbering graph (after_act j act state)
    (after_changes (makings j (plan_of graph state colors j act) ++ rest) colors)
act_numbered graph state colors n j act acts rest quiet jobs = record {
  counted = ap (λ (ts : List Tint). length ts)
      (changes_cells (makings j plan ++ rest) colors
      ∙ cells_both (makings j plan) rest colors.cells
      ∙ quiet.cells (cells_after (makings j plan) colors.cells)
      ∙ cells_made j plan colors.cells)
      ∙ noted plan.tint ∙ ap (count_with plan.tint) n.counted ∙ sym makes.counted;
  whole = changes_whole (makings j plan ++ rest) colors n.whole;
  numbers = planned_numbered (global_count graph.functions) j (length state.cells)
      (length (after_act j act state).cells) plan rest colors n.whole makes n.counted jobs n.numbers;
} where
  plan : Plan
  plan = plan_of graph state colors j act

  makes : Makes (next_color colors) (length state.cells) (length (after_act j act state).cells) plan
  makes = act_makes graph state colors j act acts

  noted : (t : Option Tint) → length (colors.cells ++ option_to_list t) ≡ count_with t (length colors.cells)
  noted None = omega (arith, length-append colors.cells [])
  noted (Some t) = omega (arith, length-append colors.cells (t ∷ []))

early_step : (graph : Graph) (early : Colored) → Numbering graph early.state early.colors → (j : ℕ)
    → Numbering graph (colored_step graph early j).state (colored_step graph early j).colors
unfolding colored_step changes_of
early_step graph early n j =
    subst (λ s. Numbering graph s (after_changes (option_map_or
    (λ act. changes_by j (plan_of graph early.state early.colors j act)) (act_of graph early.state j) [])
    early.colors)) (sym (step_by_act graph early.state j)) (by (act_of graph early.state j) refl)
  where
    by : (o : Option Act) → act_of graph early.state j ≡ o
        → Numbering graph (after_acts j o early.state) (after_changes (option_map_or
        (λ act. changes_by j (plan_of graph early.state early.colors j act)) o []) early.colors)
    by None acts = n
    by (Some act) acts =
        let plan = plan_of graph early.state early.colors j act in
        act_numbered graph early.state early.colors n j act acts
        (merges plan.joined ++ handing plan.joined plan.heir)
        (quiet_both (merges plan.joined) (handing plan.joined plan.heir) (merges_quiet plan.joined)
        (handing_quiet plan.joined plan.heir))
        (jobs_both (merges plan.joined) (handing plan.joined plan.heir) (merges_jobs plan.joined)
        (handing_jobs plan.joined plan.heir))

late_act : (graph : Graph) (late : Late) → Numbering graph late.state late.colors → (j : ℕ) (act : Act)
    → act_of graph late.state j ≡ Some act
    → Numbering graph (after_act j act late.state)
    (after_changes (late_changes graph late j act) late.colors)
late_act graph late n j act acts = by act acts where
  planned : (act : Act) → act_of graph late.state j ≡ Some act
      → Numbering graph (after_act j act late.state)
      (after_changes (late_by j (plan_of graph late.state late.colors j act)
      (destination graph late.state late.colors j act)) late.colors)
  planned act acts =
      let plan = plan_of graph late.state late.colors j act in
      let to = destination graph late.state late.colors j act in
      act_numbered graph late.state late.colors n j act acts
      (givings plan.heir (later_of plan.joined) ++ merges_here to plan.joined)
      (quiet_both (givings plan.heir (later_of plan.joined)) (merges_here to plan.joined)
      (givings_quiet plan.heir (later_of plan.joined)) (merges_here_quiet to plan.joined))
      (jobs_both (givings plan.heir (later_of plan.joined)) (merges_here to plan.joined)
      (givings_jobs plan.heir (later_of plan.joined)) (merges_here_jobs to plan.joined))

  by : (act : Act) → act_of graph late.state j ≡ Some act
      → Numbering graph (after_act j act late.state)
      (after_changes (late_changes graph late j act) late.colors)
  by Dispatch acts =
      act_numbered graph late.state late.colors n j Dispatch acts (deliveries (filter (is_of j) late.cargo))
      (deliveries_quiet (filter (is_of j) late.cargo)) (deliveries_jobs (filter (is_of j) late.cargo))
  by (Wake ended r v) acts = planned (Wake ended r v) acts
  by (Execute e) acts = planned (Execute e) acts

late_numbered : (graph : Graph) (late : Late) → Numbering graph late.state late.colors → (j : ℕ)
    → Numbering graph (late_step graph late j).state (late_step graph late j).colors
unfolding late_step
late_numbered graph late n j =
    subst (λ s. Numbering graph s (after_changes (option_map_or (late_changes graph late j)
    (act_of graph late.state j) []) late.colors)) (sym (step_by_act graph late.state j))
    (by (act_of graph late.state j) refl)
  where
    by : (o : Option Act) → act_of graph late.state j ≡ o
        → Numbering graph (after_acts j o late.state)
        (after_changes (option_map_or (late_changes graph late j) o []) late.colors)
    by None acts = n
    by (Some act) acts = late_act graph late n j act acts

-- ---- the start
globals_numbered : (globals n : ℕ) → n ≤ globals → AreNumbered globals [] (owners_of (global_colors n))
globals_numbered globals zero few = record { each = λ n o e. cc }
globals_numbered globals (suc n) few =
    fresh_numbered globals [] (global_colors n) (globals_whole n)
    (globals_numbered globals n (omega (arith, few))) (owner.Global n)
    (omega (arith, few), globals_counted n)

frames_numbered : (globals : ℕ) (frames : List Frame) (colors : Colors) → IsWhole colors.palette
    → HasNumbers globals colors → HasNumbers globals (fold started colors frames)
unfolding started
frames_numbered globals [] colors whole has = has
frames_numbered globals (frame ∷ frames) colors whole has =
    frames_numbered globals frames (started colors frame) (changes_whole (changes_by 0 plan) colors whole)
    (changes_numbered globals (changes_by 0 plan) (begun (number_on colors frame.executor)) colors whole has)
  where
    plan : Plan
    plan = begun_with (number_on colors frame.executor) (owner.Job 0) Pushed (next_color colors) []

    begun : (o : Option ℕ)
        → MakeJobs (changes_by 0 (begun_with o (owner.Job 0) Pushed (next_color colors) []))
    begun None = tt
    begun (Some a) = tt

frames_cells : (frames : List Frame) (colors : Colors)
    → (fold started colors frames).cells ≡ colors.cells
unfolding started push_here
frames_cells [] colors = refl
frames_cells (frame ∷ frames) colors =
    frames_cells frames (started colors frame) ∙ by (number_on colors frame.executor)
  where
    by : (o : Option ℕ) → (after_changes (changes_by 0 (begun_with o (owner.Job 0) Pushed
        (next_color colors) [])) colors).cells ≡ colors.cells
    by None = refl
    by (Some a) = refl

start_numbered : (graph : Graph) → Numbering graph (start_of graph) (start_colors graph)
unfolding start_colors start_of
start_numbered graph = record {
  counted = ap (λ (ts : List Tint). length ts) (frames_cells (start_frames graph) (first_colors graph));
  whole = start_whole graph;
  numbers = frames_numbered (global_count graph.functions) (start_frames graph) (first_colors graph)
      (globals_whole (global_count graph.functions))
      (globals_numbered (global_count graph.functions) (global_count graph.functions) (omega arith));
}

-- ---- each state that items lead to
early_steps : (graph : Graph) (items : List ℕ) (early : Colored) → Numbering graph early.state early.colors
    → Numbering graph (fold (colored_step graph) early items).state
    (fold (colored_step graph) early items).colors
early_steps graph [] early n = n
early_steps graph (item ∷ items) early n =
    early_steps graph items (colored_step graph early item) (early_step graph early n item)

late_steps : (graph : Graph) (items : List ℕ) (late : Late) → Numbering graph late.state late.colors
    → Numbering graph (fold (late_step graph) late items).state (fold (late_step graph) late items).colors
late_steps graph [] late n = n
late_steps graph (item ∷ items) late n =
    late_steps graph items (late_step graph late item) (late_numbered graph late n item)

by_number : (globals : ℕ) (colors : Colors) → HasNumbers globals colors → OwnByNumber globals colors
by_number globals colors has = record {
  actors = λ n c e. has.each n (owner.ActorOf c) e;
  globals = λ n g e. let own = has.each n (owner.Global g) e in
      (own.1.0, ap (name_in colors.palette.names) (sym own.1.1) ∙ own.2);
}

pub early_own : (graph : Graph) (items : List ℕ)
    → OwnByNumber (global_count graph.functions) (colored_reach graph items).colors
unfolding colored_reach
early_own graph items =
    let end = fold (colored_step graph) (colored_start graph) items in
    by_number (global_count graph.functions) end.colors
    (early_steps graph items (colored_start graph) (start_numbered graph)).numbers

late_numbers : (graph : Graph) (items : List ℕ)
    → Numbering graph (late_reach graph items).state (late_reach graph items).colors
unfolding late_reach
late_numbers graph items = late_steps graph items (late_start graph) (start_numbered graph)

pub late_own : (graph : Graph) (items : List ℕ)
    → OwnByNumber (global_count graph.functions) (late_reach graph items).colors
late_own graph items =
    by_number (global_count graph.functions) (late_reach graph items).colors
    (late_numbers graph items).numbers

pub delivered_own : (graph : Graph) (items : List ℕ)
    → OwnByNumber (global_count graph.functions) (delivered (late_reach graph items))
delivered_own graph items =
    let late = late_reach graph items in
    let n = late_numbers graph items in
    by_number (global_count graph.functions) (delivered late)
    (changes_numbered (global_count graph.functions) (deliveries late.cargo)
    (deliveries_jobs late.cargo) late.colors n.whole n.numbers)
