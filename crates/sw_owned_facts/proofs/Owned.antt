-- A coloured state of which enough is known is owned.
use Rattle.std.proofs.Common.{◌≡◌, ℕ, Option, Some, List, refl, sym, subst, ap, ◌∙◌, inl, inr}
use Rattle.sw_graph.specs.declared.graph.Graph.{Graph}
use Rattle.sw_graph.specs.Clean.{IsClean}
use Rattle.sw_graph.specs.Supplied.{IsSupplied}
use Rattle.sw_value.specs.declared.frame.Frame.{Frame}
use Rattle.sw_color_rules.specs.declared.colored.Colored.{Colored}
use Rattle.sw_color_rules.specs.declared.colors.Owner.TheVariants as owner
use Rattle.sw_color_rules.specs.Machine.{colored_reach}
use Rattle.sw_partition.specs.Regions.{Regions}
use Rattle.sw_owner_facts.specs.Colours.{Colour, OfActor, OfJob}
use Rattle.sw_owner_facts.specs.Owned.{IsOwned}
use Rattle.sw_owner_facts.specs.View.{Element, FrameShape, HoldsLive, IsLowerFrame, Frame as Spot}
use Rattle.sw_view_facts.specs.Views.{annotated, frame_at, stands_on}
use Rattle.sw_view_facts.proofs.IsolationLemmas.{shape_at}
use Rattle.sw_late_facts.specs.Hues.{hue}
use Rattle.sw_late_facts.proofs.Owners.{early_own}
use Rattle.sw_secure_job_facts.specs.Begins.{AreAnnotated}
use Rattle.sw_hue_facts.specs.Hued.{hued}
use Rattle.sw_secure_late_facts.proofs.Coloured.{colored_keep_numbers, colored_late}
use Rattle.sw_owned_facts.specs.Holding.{AreInOneRegion, HasLive, colour_with, here_colour}
use Rattle.sw_owned_facts.specs.Owned.{IsOwnColour, Owned, owner_on}
use Rattle.sw_owned_facts.proofs.Actors.{actors}
use Rattle.sw_owned_facts.proofs.Closures.{closures}
use Rattle.sw_owned_facts.proofs.Contents.{contents}
use Rattle.sw_owned_facts.proofs.Crossing.{crossing}
use Rattle.sw_owned_facts.proofs.Frames.{Seen, function_at, here_coloured, here_has}
use Rattle.sw_owned_facts.proofs.Frames.{one_region, seen, w}
use Rattle.sw_owned_facts.proofs.Numbers.{IsKnown, is_actors, is_colour, is_jobs, owner_as}
use Rattle.sw_owned_facts.proofs.Numbers.{same_name, secure}
use Rattle.sw_owned_facts.proofs.Standing.{at_home, one_runs, owner_is, stood}

module _ (graph : Graph) (states : ℕ → List (Option Regions)) (colored : Colored)
    (known : IsKnown graph states colored) where
  sound : IsOwned (w graph states colored known)
  sound = (secure graph states colored known).coloured.sound.owned

  -- what two elements have by number, they have by hue
  shared : (p q : Spot) (x y : Element) (colour : ℕ)
      (one : Seen graph states colored known p x colour)
      (other : Seen graph states colored known q y colour)
      → HoldsLive (w graph states colored known) q y (hue colored.colors.palette one.number)
  shared p q x y colour one other =
      subst (HoldsLive (w graph states colored known) q y)
      (same_name colored.colors.palette other.number one.number (other.is ∙ sym one.is)) other.held

  together : (p : Spot) (x y : Element) (colour : ℕ) → HasLive graph states colored p x colour
      → HasLive graph states colored p y colour → AreInOneRegion graph states colored.state p x y
  together p x y colour one other =
      let first = seen graph states colored known p x colour one in
      let second = seen graph states colored known p y colour other in
      one_region graph states colored known p one.frame one.there x y one.live other.live
      (sound.together first.held (shared p p x y colour first second))

  -- the colour of a frame's `Here`, by hue
  here_is : (p : Spot) (frame : Frame) → frame_at colored.state p ≡ Some frame → (n colour : ℕ)
      → colour_with colored n ≡ colour
      → (w graph states colored known).here p ≡ hue colored.colors.palette n
      → here_colour colored p ≡ Some colour
  here_is p frame there n colour is same =
      let here = here_has graph states colored known p frame there in
      here_coloured graph states colored known p frame there
      ∙ ap (λ k. Some k) (is_colour graph states colored known here.number n (sym here.is ∙ same)
      ∙ is)

  apart : (p q : Spot) (x y : Element) (colour : ℕ) → IsLowerFrame p q
      → HasLive graph states colored p x colour → HasLive graph states colored q y colour
      → here_colour colored q ≡ Some colour
  apart p q x y colour lower one other =
      let first = seen graph states colored known p x colour one in
      let second = seen graph states colored known q y colour other in
      here_is q other.frame other.there first.number colour first.is
      (sound.apart lower first.held (shared p q x y colour first second))

  owned : (p : Spot) (x : Element) (colour : ℕ) (has : HasLive graph states colored p x colour)
      → IsOwnColour colored p has.frame.executor colour
  owned p x colour has = by (hue colored.colors.palette one.number) refl where
    one : Seen graph states colored known p x colour
    one = seen graph states colored known p x colour has

    executor_is : ((w graph states colored known).shape p).executor ≡ stands_on has.frame.executor
    executor_is =
        let function = function_at graph states colored known p has.frame has.there in
        ap (λ (s : FrameShape). s.executor) (shape_at graph (annotated states colored.state)
        colored.state (hued colored.colors) p has.frame function.0 has.there function.1)

    held : (c : Colour) → hue colored.colors.palette one.number ≡ c
        → HoldsLive (w graph states colored known) p x c
    held c is = subst (HoldsLive (w graph states colored known) p x) is one.held

    by : (c : Colour) → hue colored.colors.palette one.number ≡ c
        → IsOwnColour colored p has.frame.executor colour
    by (OfJob job k) is = inl (
        is_jobs graph states colored known one.number colour job k one.made one.is is
        ∙ ap (λ j. Some (owner.Job j)) (sound.owned (held (OfJob job k) is)))
    by (OfActor a) is = inr (
      owner_as a,
      is_actors graph states colored known one.number colour a one.is is,
      ap owner_on (stood has.frame.executor a (sym executor_is
          ∙ sound.owned (held (OfActor a) is))) ∙ owner_is a,
      here_is p has.frame has.there one.number colour one.is
          (sound.actors (held (OfActor a) is) ∙ sym is),
    )

  pub is_owned : Owned graph states colored
  is_owned = record {
    exclusive = one_runs graph states colored known;
    stands = λ p frame function there is.
        at_home graph states colored known p frame function there is;
    together = together;
    owned = owned;
    apart = apart;
    contents = contents graph states colored known;
    closures = λ c f captures function there is.
        closures graph states colored known c f function is captures there;
    crossing = crossing graph states colored known;
    actors = actors graph states colored known;
  }

-- ---- the coloured machine
pub colored_known : (graph : Graph) → IsClean graph → IsSupplied graph
    → (states : ℕ → List (Option Regions)) → AreAnnotated graph states → (items : List ℕ)
    → IsKnown graph states (colored_reach graph items)
colored_known graph clean supplied states annotated items = record {
  late = colored_late graph clean supplied states annotated items;
  own = early_own graph items;
  keep = colored_keep_numbers graph clean supplied states annotated items;
}

pub colored_owned : (graph : Graph) → IsClean graph → IsSupplied graph
    → (states : ℕ → List (Option Regions)) → AreAnnotated graph states → (items : List ℕ)
    → Owned graph states (colored_reach graph items)
colored_owned graph clean supplied states annotated items =
    is_owned graph states (colored_reach graph items)
    (colored_known graph clean supplied states annotated items)
