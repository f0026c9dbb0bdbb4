-- The elements of frames by number and by hue, and what is live and in one region.
use Rattle.std.proofs.Common.{◌≡◌, ◌≢◌, ◌<◌, ℕ, Bool, true, false, not, ◌&&◌, Option, Some, None}
use Rattle.std.proofs.Common.{List, [], length, map, Contains, refl, sym, subst, ap, ◌∙◌}
use Rattle.std.proofs.Common.{arith}
use Rattle.std.specs.Prelude.{option_and_then, IfSome}
use Rattle.std.specs.Option.{option_map, option_map_or, option_to_list}
use Rattle.std.specs.List.{slice_get, slice_index_or}
use Rattle.std.proofs.lemmas.Bool.{ne_eqb}
use Rattle.std.proofs.lemmas.Option.{get_or_from_slice_get, slice_get-map, slice_get_within}
use Rattle.sw_list.proofs.Members.{none_in, one_in}
use Rattle.sw_list.proofs.ListLemmas.{some_injective}
use Rattle.sw_graph.specs.declared.function.Function.{Function}
use Rattle.sw_graph.specs.declared.graph.Graph.{Graph}
use Rattle.sw_value.specs.declared.frame.Frame.{Frame}
use Rattle.sw_value.specs.declared.job.Job.{Job}
use Rattle.sw_value.specs.declared.state.State.{State}
use Rattle.sw_value.specs.declared.value.Value.{Value}
use Rattle.sw_value.specs.Value.{value_at}
use Rattle.sw_color_rules.specs.declared.colored.Colored.{Colored}
use Rattle.sw_color_rules.specs.Plans.{next_color}
use Rattle.sw_color_rules.specs.Ranges.{AreBelow}
use Rattle.sw_color_rules.proofs.NumberLemmas.{all_there}
use Rattle.sw_solve.specs.Annotation as annotation
use Rattle.sw_partition.specs.Regions.{Regions}
use Rattle.sw_region_flow.specs.Passing.{IsNotGivenAway}
use Rattle.sw_region_ops.specs.Elements.{element_at, elements_of}
use Rattle.sw_owner_facts.specs.Colours.{Colour, OfJob}
use Rattle.sw_owner_facts.specs.View.{Element, FrameShape, Here, HoldsLive, InOneRegion, IsFrame}
use Rattle.sw_owner_facts.specs.View.{Register, View, above, Frame as Spot}
use Rattle.sw_owner_facts.specs.View as view
use Rattle.sw_reach_facts.specs.Reached.{colours_of}
use Rattle.sw_region_facts.specs.FrameRegions.{HaveOwnNumbers, IsStateOf, element_in}
use Rattle.sw_region_facts.proofs.Annotated.{numbers_of_registers, sized_at}
use Rattle.sw_region_facts.proofs.Numbers.{live_from, together_tells}
use Rattle.sw_view_facts.specs.Renaming.{HasHere}
use Rattle.sw_view_facts.specs.Views.{Colours, annotated, awaited_by, colours_by, elements_in}
use Rattle.sw_view_facts.specs.Views.{elements_with, frame_at, here_at}
use Rattle.sw_view_facts.specs.Views.{closes_at, live_with, view_at, waits}
use Rattle.sw_view_facts.proofs.IsolationLemmas.{shape_at}
use Rattle.sw_late_facts.specs.Hues.{hue}
use Rattle.sw_secure_facts.proofs.Heres.{have_heres}
use Rattle.sw_secure_job_facts.proofs.Frames as frames
use Rattle.sw_hue_facts.specs.Hued.{hued}
use Rattle.sw_owned_facts.specs.Holding.{AreInOneRegion, HasLive, IsLive}
use Rattle.sw_owned_facts.specs.Holding.{colour_with, colours_at, colours_in, here_colour}
use Rattle.sw_owned_facts.specs.Holding.{here_number, is_closing}
use Rattle.sw_owned_facts.proofs.Numbers.{IsKnown, reaches, secure}

-- the job of a frame
pub job_at : (state : State) (p : Spot) (frame : Frame) → frame_at state p ≡ Some frame
    → (job : Job) × (slice_get state.jobs p.job ≡ Some job)
    × (slice_get job.frames p.depth ≡ Some frame)
job_at state p frame there = by (slice_get state.jobs p.job) refl there where
  by : (o : Option Job) → slice_get state.jobs p.job ≡ o
      → option_and_then (λ (job : Job). slice_get job.frames p.depth) o ≡ Some frame
      → (job : Job) × (slice_get state.jobs p.job ≡ Some job)
      × (slice_get job.frames p.depth ≡ Some frame)
  by None is e = absurd (let clash : ⊥ = cc in clash)
  by (Some job) is e = (job, is, e)

-- a register that isn't awaited
not_awaited : (o : Option ℕ) (r : ℕ) → o ≢ Some r → not (waits o r) ≡ true
not_awaited None r differs = refl
not_awaited (Some k) r differs = ap not (ne_eqb r k (λ same. differs (ap (λ n. Some n) (sym same))))

module _ (graph : Graph) (states : ℕ → List (Option Regions)) (colored : Colored)
    (known : IsKnown graph states colored) where
  abbrev state : State
  state = colored.state

  abbrev colours : Colours
  colours = hued colored.colors

  abbrev shade : ℕ → Colour
  shade = hue colored.colors.palette

  abbrev pub w : View
  w = view_at graph states colored.state (hued colored.colors)

  module _ (p : Spot) (frame : Frame) (there : frame_at colored.state p ≡ Some frame) where
    pub inside : IsFrame w p
    inside =
        let job = job_at colored.state p frame there in
        let height : option_map_or (λ (j : Job). length j.frames)
        (slice_get colored.state.jobs p.job) 0 ≡ length job.0.frames =
        ap (λ o. option_map_or (λ (j : Job). length j.frames) o 0) job.1 in
        let few = slice_get_within job.0.frames p.depth frame job.2 in
        omega (arith, few, height)

    pub function_at : (function : Function)
        × (slice_get graph.functions frame.function ≡ Some function)
    function_at = frames.function_at graph states colored.state (hued colored.colors)
        (secure graph states colored known).coloured p frame there

    abbrev elements : List (Option ℕ)
    elements = elements_of graph.shapes function_at.0.regs

    elements_are : elements_in graph (frame_at colored.state p)
        ≡ elements_of graph.shapes function_at.0.regs
    elements_are = ap (elements_in graph) there ∙ ap (elements_with graph) function_at.1

    pub state_at : (a : Regions)
        × (annotation.value_at (states frame.function) frame.point ≡ Some a)
        × (annotated states colored.state p ≡ Some a)
    state_at = frames.state_at graph states colored.state (hued colored.colors)
        (secure graph states colored known).coloured p frame there

    own_numbers : HaveOwnNumbers (elements_of graph.shapes function_at.0.regs)
    own_numbers = numbers_of_registers graph frame.function function_at.0 function_at.1

    sized : IsStateOf (elements_of graph.shapes function_at.0.regs) state_at.0
    sized = sized_at graph function_at.0 (states frame.function)
        ((secure graph states colored known).coloured.annotates frame.function function_at.0
        function_at.1) frame.point state_at.0 state_at.1

    closing_is : (w.shape p).closing ≡ is_closing graph frame
    closing_is =
        ap (λ (s : FrameShape). s.closing) (shape_at graph (annotated states colored.state)
        colored.state (hued colored.colors) p frame function_at.0 there function_at.1)
        ∙ sym (ap (λ o. option_map_or (λ (f : Function). closes_at graph f frame.point) o false)
        function_at.1)

    live_is : (x : Element) → IsLive graph states colored.state p x → view.IsLive w p x
    live_is Here live = tt
    live_is (Register r) live = both (not_awaited (awaited_by colored.state p) r live.awaited)
        (ap (λ l. live_with l (annotated states colored.state p) r) elements_are
        ∙ ap (λ o. live_with (elements_of graph.shapes function_at.0.regs) o r) state_at.2
        ∙ live_from (elements_of graph.shapes function_at.0.regs) own_numbers state_at.0 sized
        (Register r) live.element
        (ap (λ l. element_at l r) (sym elements_are) ∙ live.tracked)
        (subst (λ o. IfSome o (λ a. IsNotGivenAway a live.element)) state_at.2 live.kept))
      where
        both : {b c : Bool} → b ≡ true → c ≡ true → (b && c) ≡ true
        both {c = c} is other = ap (λ b. b && c) is ∙ other

    -- ---- `Here`
    pub record HasNumber : Type 0 where
      pub number : ℕ
      pub made : number < next_color colored.colors
      pub at : here_number colored p ≡ Some number
      pub is : here_at (hued colored.colors) p ≡ hue colored.colors.palette number

    pub here_has : HasNumber
    here_has = by (slice_get colored.colors.heres p.job) refl where
      has : HasHere (hued colored.colors) p
      has = have_heres graph states colored.state (hued colored.colors)
          (secure graph states colored known).heres p inside

      rows_are : slice_get (map (map shade) colored.colors.heres) p.job
          ≡ option_map (map shade) (slice_get colored.colors.heres p.job)
      rows_are = slice_get-map (map shade) colored.colors.heres p.job

      of_row : (ns : List ℕ) → slice_get colored.colors.heres p.job ≡ Some ns → (o : Option ℕ)
          → slice_get ns p.depth ≡ o → HasNumber
      of_row ns row None at =
          let is : has.row ≡ map shade ns =
          some_injective (sym has.rows ∙ rows_are ∙ ap (option_map (map shade)) row) in
          let clash : Some has.colour ≡ None =
          sym has.at ∙ ap (λ r. slice_get r p.depth) is ∙ slice_get-map shade ns p.depth
          ∙ ap (option_map shade) at in
          absurd (let none : ⊥ = cc in none)
      of_row ns row (Some n) at = record {
        number = n;
        made = all_there (λ k. k < next_color colored.colors) ns p.depth n at
            (all_there (AreBelow (next_color colored.colors)) colored.colors.heres p.job ns row
            known.late.made.heres);
        at = ap (option_and_then (λ (r : List ℕ). slice_get r p.depth)) row ∙ at;
        is = ap (λ r. slice_index_or r p.depth (OfJob p.job 0))
            (get_or_from_slice_get (map (map shade) colored.colors.heres) p.job (map shade ns) []
            (rows_are ∙ ap (option_map (map shade)) row))
            ∙ get_or_from_slice_get (map shade ns) p.depth (shade n) (OfJob p.job 0)
            (slice_get-map shade ns p.depth ∙ ap (option_map shade) at);
      }

      by : (o : Option (List ℕ)) → slice_get colored.colors.heres p.job ≡ o → HasNumber
      by None is =
          let clash : Some has.row ≡ None =
          sym has.rows ∙ rows_are ∙ ap (option_map (map shade)) is in
          absurd (let none : ⊥ = cc in none)
      by (Some ns) is = of_row ns is (slice_get ns p.depth) refl

    pub here_coloured : here_colour colored p ≡ Some (colour_with colored here_has.number)
    here_coloured = ap (option_map (colour_with colored)) here_has.at

    -- ---- what an element has
    pub record Holds (x : Element) (colour : ℕ) : Type 0 where
      pub number : ℕ
      pub made : number < next_color colored.colors
      pub is : colour_with colored number ≡ colour
      pub holds : view.Holds w p x (hue colored.colors.palette number)

    pub holds : (x : Element) (colour : ℕ) → Contains (colours_at colored p x) colour
        → Holds x colour
    holds Here colour has = record {
      number = here_has.number;
      made = here_has.made;
      is = one_in (colour_with colored here_has.number) colour
          (subst (λ o. Contains (option_to_list o) colour) here_coloured has);
      holds = here_has.is;
    }
    holds (Register r) colour has = by (value_at frame.regs r) refl
        (subst (λ (o : Option Frame). Contains (option_map_or (colours_in colored)
        (option_and_then (λ (f : Frame). value_at f.regs r) o) []) colour) there has)
      where
        by : (o : Option Value) → value_at frame.regs r ≡ o
            → Contains (option_map_or (colours_in colored) o []) colour → Holds (Register r) colour
        by None is has = absurd (none_in colour has)
        by (Some v) is has =
            let reached = reaches graph states colored known v colour has in
            record {
              number = reached.number;
              made = reached.made;
              is = reached.is;
              holds = subst (λ o. Contains (colours_by colored.state (hued colored.colors) o r)
                  (hue colored.colors.palette reached.number)) (sym there)
                  (subst (λ o. Contains (option_map_or
                  (colours_of colored.state.cells (hued colored.colors).cells) o [])
                  (hue colored.colors.palette reached.number)) (sym is) reached.reached);
            }

    -- elements in one region of the view
    pub one_region : (x y : Element) → IsLive graph states colored.state p x
        → IsLive graph states colored.state p y → InOneRegion w p x y
        → AreInOneRegion graph states colored.state p x y
    one_region x y x_live y_live one = record {
      regions = state_at.0;
      stands = state_at.2;
      one = (numbered x x_live).0;
      is_one = (numbered x x_live).1;
      other = (numbered y y_live).0;
      is_other = (numbered y y_live).1;
      together = together_tells (elements_of graph.shapes function_at.0.regs) own_numbers
          state_at.0 sized x y (numbered x x_live).0 (numbered y y_live).0
          (ap (λ l. element_in l x) (sym elements_are) ∙ (numbered x x_live).1)
          (ap (λ l. element_in l y) (sym elements_are) ∙ (numbered y y_live).1)
          (frames.together_at graph (annotated states colored.state) colored.state
          (hued colored.colors) p frame function_at.0 there function_at.1 state_at.0 state_at.2 x y
          one);
    }
      where
        numbered : (z : Element) → IsLive graph states colored.state p z
            → (k : ℕ) × (element_in (elements_in graph (frame_at colored.state p)) z ≡ Some k)
        numbered Here live = (0, refl)
        numbered (Register r) live = (live.element, live.tracked)

  -- ---- what a live element holds
  pub record Seen (p : Spot) (x : Element) (colour : ℕ) : Type 0 where
    pub number : ℕ
    pub made : number < next_color colored.colors
    pub is : colour_with colored number ≡ colour
    pub held : HoldsLive w p x (hue colored.colors.palette number)

  pub seen : (p : Spot) (x : Element) (colour : ℕ) → HasLive graph states colored p x colour
      → Seen p x colour
  seen p x colour has =
      let held = holds p has.frame has.there x colour has.has in
      record {
        number = held.number;
        made = held.made;
        is = held.is;
        held = record {
          frame = inside p has.frame has.there;
          not_closing = closing_is p has.frame has.there ∙ has.not_closing;
          live = live_is p has.frame has.there x has.live;
          holds = held.holds;
        };
      }
