-- The late state before any item is secure by hue.
use Rattle.std.proofs.Common.{◌≡◌, ◌⊎◌, ◌<◌, ℕ, zero, suc, Bool, cond, Option, Some, None, List, []}
use Rattle.std.proofs.Common.{◌∷◌, ◌++◌}
use Rattle.std.proofs.Common.{length, map, fold, length-append, append_assoc, refl, sym, subst, ap}
use Rattle.std.proofs.Common.{◌∙◌, arith, inl, inr}
use Rattle.std.specs.List.{All, slice_get}
use Rattle.std.proofs.lemmas.Bool.{cases_eq}
use Rattle.std.proofs.lemmas.List.{append-nil, map-append}
use Rattle.std.proofs.lemmas.List.Elements.{All-append, All-cons, All-head, All-nil, All-weaker}
use Rattle.std.proofs.lemmas.Option.{slice_get_within}
use Rattle.sw_list.proofs.ListLemmas.{some_injective, slice_get_first}
use Rattle.sw_types.specs.declared.isolation.Iso.{Iso}
use Rattle.sw_types.specs.declared.isolation.Iso.TheVariants as iso
use Rattle.sw_graph.specs.declared.graph.Graph.{Graph}
use Rattle.sw_graph.specs.Clean.{IsClean}
use Rattle.sw_graph.specs.Placed.{IsFreeOrGlobal}
use Rattle.sw_graph.specs.Supplied.{IsSupplied}
use Rattle.sw_value.specs.declared.executor.Executor.{Executor}
use Rattle.sw_value.specs.declared.executor.Executor.TheVariants as executor
use Rattle.sw_value.specs.declared.frame.Frame.{Frame}
use Rattle.sw_value.specs.Executor.{executor_of}
use Rattle.sw_value.specs.Lists.{changed_at}
use Rattle.sw_value.specs.Start.{start_frames, start_of}
use Rattle.sw_value.specs.Value.{registers}
use Rattle.sw_value.proofs.ListLemmas.{slice_get_end}
use Rattle.sw_machine_kind_facts.proofs.ItemLemmas.{at_end}
use Rattle.sw_color_rules.specs.declared.colors.Colors.{Colors}
use Rattle.sw_color_rules.specs.declared.colors.Owner.TheVariants as owner
use Rattle.sw_color_rules.specs.declared.colors.Tint.{Tint}
use Rattle.sw_color_rules.specs.declared.plan.FrameChange.TheVariants.{Pushed}
use Rattle.sw_color_rules.specs.Changes.{Fresh, Push, after_change, after_changes, push_here}
use Rattle.sw_color_rules.specs.Changes.{with_last}
use Rattle.sw_color_rules.specs.Machine.{actors_to, first_colors, global_colors, global_count}
use Rattle.sw_color_rules.specs.Machine.{start_colors}
use Rattle.sw_color_rules.specs.Machine.{started}
use Rattle.sw_color_rules.specs.Palette.{IsWhole, fresh}
use Rattle.sw_color_rules.specs.Plans.{begun_with, changes_by, next_color, number_on}
use Rattle.sw_color_rules.specs.Ranges.{AreBelow, AreMade, noted}
use Rattle.sw_color_rules.proofs.PaletteLemmas.{changes_whole}
use Rattle.sw_partition.specs.Regions.{Regions}
use Rattle.sw_owner_facts.specs.Colours.{Colour, GlobalActor, OfActor}
use Rattle.sw_late_facts.specs.Hues.{hue}
use Rattle.sw_late_facts.specs.Late.{late_start}
use Rattle.sw_late_facts.proofs.HueLemmas.{fresh_stays}
use Rattle.sw_late_facts.proofs.Reached.{globals_counted, globals_whole}
use Rattle.sw_late_facts.proofs.Seen.{ltb_is}
use Rattle.sw_secure_facts.specs.Painting.{actor_on, begun_here}
use Rattle.sw_secure_facts.specs.Secure.{IsSecure}
use Rattle.sw_secure_job_facts.specs.Begins.{AreAnnotated, HeresBegin}
use Rattle.sw_secure_job_facts.proofs.Starts.{IsStart, start_frame, starts_secure}
use Rattle.sw_hue_facts.specs.Hued.{cell_hue, hued, hues_of}
use Rattle.sw_hue_facts.specs.Tinted.{TintsFit}
use Rattle.sw_hue_facts.proofs.Lists.{map_all}
use Rattle.sw_hue_facts.proofs.Made.{fresh_made}
use Rattle.sw_secure_late_facts.specs.LateSecure.{CargoFits, IsLateSecure}
use Rattle.sw_secure_late_facts.proofs.Anchors.{known_at}

-- ---- global actors
abbrev without_frames : ℕ → Colors
without_frames n = record { cells = []; heres = []; palette = global_colors n }

nothing_made : (n : ℕ) → AreMade (without_frames n)
nothing_made n = record {
  cells = All-nil (λ tint. AreBelow (length (global_colors n).names) (noted tint));
  heres = All-nil (AreBelow (length (global_colors n).names));
}

global_hue : (n g : ℕ) → g < n → hue (global_colors n) g ≡ OfActor (GlobalActor g)
global_hue zero g few = absurd (omega (arith, few))
global_hue (suc n) g few = elim (cases_eq g n) [
  | inl same ↦
      let count : length (global_colors n).names ≡ n = globals_counted n in
      ap (hue (global_colors (suc n))) (same ∙ sym count)
      ∙ (fresh_made (owner.Global n) (without_frames n) (globals_whole n) (nothing_made n)).1
      ∙ ap (λ k. OfActor (GlobalActor k)) (sym same)
  | inr differ ↦
      let count : length (global_colors n).names ≡ n = globals_counted n in
      fresh_stays (owner.Global n) (global_colors n) (globals_whole n) g
      (omega (arith, few, differ, count))
      ∙ global_hue n g (omega (arith, few, differ))
]

-- ---- frames
-- a frame of the start is on no actor, or on a global one
abbrev BeginsOnGlobal : ℕ → Frame → Type 0
BeginsOnGlobal count frame = (frame.executor ≡ executor.Generic)
    ⊎ ((g : ℕ) × (frame.executor ≡ executor.Global g) × (g < count))

begins_on_global : (graph : Graph) → IsSupplied graph → (i : ℕ) (frame : Frame)
    → slice_get (start_frames graph) i ≡ Some frame
    → BeginsOnGlobal (global_count graph.functions) frame
begins_on_global graph supplied i frame at =
    by start.begun.function.iso refl start.first.iso start.begun.executor
  where
    start : IsStart graph frame
    start = start_frame graph supplied i frame at

    by : (o : Iso) → start.begun.function.iso ≡ o → IsFreeOrGlobal o
        → executor_of o (registers (length start.begun.function.regs) []) ≡ Some frame.executor
        → BeginsOnGlobal (global_count graph.functions) frame
    by iso.Free is free given = inl (sym (some_injective given))
    by (iso.Global g) is free given =
        let low = known_at graph.functions 0 start.number start.begun.function start.begun.is in
        let count = ap actors_to is in
        inr (
          g,
          sym (some_injective given),
          (let few : g < global_count graph.functions =
              omega (arith, low, count) in few),
        )
    by iso.Own is free given = absurd free
    by iso.Caller is free given = absurd free

-- The colours of the frames that have begun.
record Starts (count : ℕ) (done : List Frame) (colors : Colors) : Type 0 where
  whole : IsWhole colors.palette
  made : AreMade colors
  globals : (g : ℕ) → g < count → hue colors.palette g ≡ OfActor (GlobalActor g)
  counted : count < suc (next_color colors)
  cells : colors.cells ≡ []
  row : List ℕ
  heres : colors.heres ≡ row ∷ []
  begins : HeresBegin done (hues_of colors.palette row)

-- one frame more
module _ (count : ℕ) (done : List Frame) (frame : Frame) (colors : Colors)
    (s : Starts count done colors) (n k : ℕ) (inside : n < next_color colors)
    (is : hue colors.palette n ≡ begun_here (actor_on frame.executor) 0 k) where
  row_made : AreBelow (next_color colors) s.row
  row_made = All-head (AreBelow (next_color colors)) s.row []
      (subst (All (AreBelow (next_color colors))) s.heres s.made.heres)

  heres_now : (push_here 0 n colors).heres ≡ (s.row ++ n ∷ []) ∷ []
  unfolding push_here with_last changed_at
  heres_now = ap (λ hs. (push_here 0 n (record colors { heres = hs })).heres) s.heres

  size : length (hues_of colors.palette s.row) ≡ length done
  size = s.begins.count

  abbrev hues : List Colour
  hues = hues_of colors.palette s.row

  more_begin : HeresBegin (done ++ frame ∷ []) (hues ++ hue colors.palette n ∷ [])
  more_begin = record {
    count = (let one = length-append hues (hue colors.palette n ∷ []) in
        let other = length-append done (frame ∷ []) in
        let e : length (hues ++ hue colors.palette n ∷ []) ≡ length (done ++ frame ∷ []) =
        omega (arith, one, other, size) in e);
    each = λ i h colour there at. elim (at_end done frame h i there) [
      | inl old ↦
          let low = slice_get_within done i h old in
          s.begins.each i h colour old
          (sym (slice_get_first hues (hue colors.palette n ∷ []) i (omega (arith, low, size))) ∙ at)
      | inr (end, same) ↦ (
        k,
        some_injective (sym at ∙ ap (slice_get (hues ++ hue colors.palette n ∷ [])) (end ∙ sym size)
            ∙ slice_get_end hues (hue colors.palette n))
            ∙ is ∙ ap (λ (g : Frame). begun_here (actor_on g.executor) 0 k) (sym same),
      )
    ];
  }

  pushed_starts : Starts count (done ++ frame ∷ []) (after_change colors (Push 0 n))
  unfolding push_here
  pushed_starts = record {
    whole = s.whole;
    made = record {
      cells = s.made.cells;
      heres = subst (All (AreBelow (next_color colors))) (sym heres_now)
          (All-cons (AreBelow (next_color colors)) (s.row ++ n ∷ []) []
          (All-append (λ m. m < next_color colors) s.row (n ∷ []) row_made
          (All-cons (λ m. m < next_color colors) n [] inside
          (All-nil (λ m. m < next_color colors))))
          (All-nil (AreBelow (next_color colors))));
    };
    globals = s.globals;
    counted = s.counted;
    cells = s.cells;
    row = s.row ++ n ∷ [];
    heres = heres_now;
    begins = subst (HeresBegin (done ++ frame ∷ []))
        (sym (map-append (hue colors.palette) s.row (n ∷ [])))
        more_begin;
  }

-- a colour of the job
fresh_starts : (count : ℕ) (done : List Frame) (colors : Colors) → Starts count done colors
    → Starts count done (after_change colors (Fresh (owner.Job 0)))
unfolding fresh
fresh_starts count done colors s =
    let stays = fresh_stays (owner.Job 0) colors.palette s.whole in
    let more = length-append colors.palette.names (next_color colors ∷ []) in
    let later : ℕ = length (fresh (owner.Job 0) colors.palette).names in
    record {
      whole = changes_whole (Fresh (owner.Job 0) ∷ []) colors s.whole;
      made = record {
        cells = All-weaker (λ tint. AreBelow (next_color colors) (noted tint))
            (λ tint. AreBelow later (noted tint))
            (λ tint below. All-weaker (λ m. m < next_color colors) (λ m. m < later)
            (λ m low. omega (arith, low, more)) (noted tint) below) colors.cells s.made.cells;
        heres = All-weaker (AreBelow (next_color colors)) (AreBelow later)
            (λ row below. All-weaker (λ m. m < next_color colors) (λ m. m < later)
            (λ m low. omega (arith, low, more)) row below) colors.heres s.made.heres;
      };
      globals = λ g few.
          let counted = s.counted in stays g (omega (arith, few, counted)) ∙ s.globals g few;
      counted = (let counted = s.counted in omega (arith, counted, more));
      cells = s.cells;
      row = s.row;
      heres = s.heres;
      begins = subst (HeresBegin done)
          (sym (map_all (λ m. m < next_color colors) (hue (fresh (owner.Job 0) colors.palette))
          (hue colors.palette) s.row stays
          (All-head (AreBelow (next_color colors)) s.row []
          (subst (All (AreBelow (next_color colors))) s.heres s.made.heres)))) s.begins;
    }

new_below : (colors : Colors) → next_color colors < length
    (fresh (owner.Job 0) colors.palette).names
unfolding fresh
new_below colors = let more = length-append colors.palette.names (next_color colors ∷ []) in omega
    (arith, more)

frame_starts : (count : ℕ) (done : List Frame) (frame : Frame) (colors : Colors)
    → BeginsOnGlobal count frame → Starts count done colors
    → Starts count (done ++ frame ∷ []) (started colors frame)
unfolding started
frame_starts count done frame colors begins s =
    by frame.executor refl begins where
      by : (e : Executor) → frame.executor ≡ e → BeginsOnGlobal count frame
          → Starts count (done ++ frame ∷ [])
          (after_changes (changes_by 0 (begun_with (number_on colors frame.executor) (owner.Job 0)
          Pushed
          (next_color colors) [])) colors)
      by e is (inl generic) =
          subst (λ x. Starts count (done ++ frame ∷ [])
          (after_changes (changes_by 0 (begun_with (number_on colors x) (owner.Job 0) Pushed
          (next_color colors) [])) colors)) (sym generic)
          (pushed_starts count done frame (after_change colors (Fresh (owner.Job 0)))
          (fresh_starts count done colors s) (next_color colors) (next_color colors)
          (new_below colors)
          ((fresh_made (owner.Job 0) colors s.whole s.made).1
          ∙ sym (ap (λ x. begun_here (actor_on x) 0 (next_color colors)) generic)))
      by e is (inr (g, global, few)) =
          subst (λ x. Starts count (done ++ frame ∷ [])
          (after_changes (changes_by 0 (begun_with (number_on colors x) (owner.Job 0) Pushed
          (next_color colors) [])) colors)) (sym global)
          (subst (λ o. Starts count (done ++ frame ∷ [])
          (after_changes (changes_by 0 (begun_with o (owner.Job 0) Pushed (next_color colors) []))
          colors))
          (sym (ap (λ (b : Bool). cond b (Some g) None) (ltb_is g (next_color colors) low)))
          (pushed_starts count done frame colors s g 0 low
          (s.globals g few ∙ sym (ap (λ x. begun_here (actor_on x) 0 0) global))))
        where
          low : g < next_color colors
          low = (let counted = s.counted in omega (arith, few, counted))

frames_start : (count : ℕ) (frames done : List Frame) (colors : Colors)
    → ((i : ℕ) (frame : Frame) → slice_get frames i ≡ Some frame → BeginsOnGlobal count frame)
    → Starts count done colors → Starts count (done ++ frames) (fold started colors frames)
frames_start count [] done colors begins s =
    subst (λ l. Starts count l colors) (sym (append-nil done)) s
frames_start count (frame ∷ frames) done colors begins s =
    subst (λ l. Starts count l (fold started (started colors frame) frames))
    (append_assoc done (frame ∷ []) frames)
    (frames_start count frames (done ++ frame ∷ []) (started colors frame)
    (λ i h at. begins (suc i) h at)
    (frame_starts count done frame colors (begins 0 frame refl) s))

module _ (graph : Graph) (clean : IsClean graph) (supplied : IsSupplied graph)
    (states : ℕ → List (Option Regions)) (annotated : AreAnnotated graph states) where
  abbrev count : ℕ
  count = global_count graph.functions

  first : Starts count [] (first_colors graph)
  first = record {
    whole = globals_whole count;
    made = record {
      cells = All-nil (λ tint. AreBelow (length (global_colors count).names) (noted tint));
      heres = All-cons (AreBelow (length (global_colors count).names)) [] []
          (All-nil (λ m. m < length (global_colors count).names))
          (All-nil (AreBelow (length (global_colors count).names)));
    };
    globals = global_hue count;
    counted = (let counted : length (global_colors count).names ≡ count = globals_counted count in
        omega (arith, counted));
    cells = refl;
    row = [];
    heres = refl;
    begins = record { count = refl; each = λ i frame colour there at. cc };
  }

  all : Starts count (start_frames graph) (start_colors graph)
  unfolding start_colors
  all = frames_start count (start_frames graph) [] (first_colors graph)
      (begins_on_global graph supplied) first

  abbrev colors : Colors
  colors = start_colors graph

  abbrev row : List Colour
  row = hues_of colors.palette all.row

  hued_is : hued colors ≡ record { cells = []; heres = row ∷ [] }
  hued_is = ap (λ (ts : List Tint). record {
    cells = map (cell_hue colors.palette) ts;
    heres = map (map (hue colors.palette)) colors.heres;
  }) all.cells
      ∙ ap (λ (hs : List (List ℕ)). record {
        cells = [];
        heres = map (map (hue colors.palette))
            hs;
      }) all.heres

  tints : TintsFit graph (start_of graph).cells colors
  unfolding start_of
  tints = record { count = ap length all.cells; each = λ c cell tint there at. cc }

  pub start_secure : IsLateSecure graph states (late_start graph)
  start_secure = record {
    whole = all.whole;
    made = all.made;
    globals = all.globals;
    tints = tints;
    cargo = All-nil (CargoFits graph states (start_of graph) colors);
    secure = subst (IsSecure graph states (start_of graph)) (sym hued_is)
        (starts_secure graph clean supplied states annotated row all.begins);
  }
