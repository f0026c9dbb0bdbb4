-- Stores and makers, as chains of views.
use Rattle.std.proofs.Common.{◌≡◌, ℕ, Option, Some, None, List, Contains, ◌∙◌}
use Rattle.sw_graph.specs.declared.function.Function.{Function}
use Rattle.sw_graph.specs.declared.graph.Graph.{Graph}
use Rattle.sw_value.specs.declared.effect.Effect.{Effect}
use Rattle.sw_value.specs.declared.frame.Frame.{Frame}
use Rattle.sw_value.specs.declared.state.State.{State}
use Rattle.sw_partition.specs.Regions.{Regions}
use Rattle.sw_region_ops.specs.Elements.{elements_of}
use Rattle.sw_owner_facts.specs.Colours.{Colour, OfJob}
use Rattle.sw_owner_facts.specs.Owned.{IsSound}
use Rattle.sw_owner_facts.specs.View.{Element, HoldsLive, IsFrame, IsUnheld, Frame as Spot}
use Rattle.sw_owner_facts.proofs.WithinLemmas.{weakened}
use Rattle.sw_region_facts.specs.FrameRegions.{IsWeaker}
use Rattle.sw_region_facts.specs.Moves.{Makes}
use Rattle.sw_view_facts.specs.Changes.{KeepsShape}
use Rattle.sw_view_facts.specs.Effects.{register_of, turn_of}
use Rattle.sw_view_facts.specs.Executing.{Executes}
use Rattle.sw_view_facts.specs.Renaming.{HasHere, MayUnite, united}
use Rattle.sw_view_facts.specs.Views.{Colours, annotated, colours_by, over, view_at, view_of}
use Rattle.sw_view_facts.proofs.EffectLemmas.{over_other, over_there}
use Rattle.sw_view_facts.proofs.RenameLemmas.{unites_all}
use Rattle.sw_view_facts.proofs.StepLemmas.{effect_changes, effect_freshens, effect_goes_on}
use Rattle.sw_view_facts.proofs.StepLemmas.{regions_weaken}
use Rattle.sw_view_facts.proofs.TopLemmas.{height_is}

module _ (graph : Graph) (states : ℕ → List (Option Regions)) (state next : State) (q : Spot)
    (f : Frame) (function : Function) (e : Effect) where
  -- a store
  pub store_keeps : (colours : Colours) (a c : Regions) (y : Element) (kept : Colour)
      (numbers : List ℕ)
      → Executes graph states state next q f function e (over (annotated states state) q c)
      (annotated states next) (united q.job numbers kept colours)
      (united q.job numbers kept colours) c c
      → KeepsShape graph f (turn_of e f) → register_of e ≡ None
      → annotated states state q ≡ Some a
      → IsWeaker (elements_of graph.shapes function.regs) a c
      → ((p : Spot) → IsFrame (view_of graph (over (annotated states state) q c) state colours) p
      → HasHere colours p)
      → HoldsLive (view_of graph (over (annotated states state) q c) state colours) q y kept
      → ((n : ℕ) → Contains numbers n
      → MayUnite (view_of graph (over (annotated states state) q c) state colours) q y kept n)
      → IsSound (view_at graph states state colours)
      → IsSound (view_at graph states next (united q.job numbers kept colours))
  store_keeps colours a c y kept numbers x shape none before weaker heres holds may sound =
      effect_goes_on graph states state next q f function e (over (annotated states state) q c)
      (annotated states next) (united q.job numbers kept colours)
      (united q.job numbers kept colours) c c x shape none
      (record { together = λ y z same. same; live = λ y live. live })
      (unites_all graph (over (annotated states state) q c) state q y kept numbers colours heres
      (height_is state q x.job f x.top) holds may
      (weakened (view_at graph states state colours)
      (view_of graph (over (annotated states state) q c) state colours) sound
      (regions_weaken graph (annotated states state) (over (annotated states state) q c) state
      colours q x.job f x.top function x.is a c before (over_there (annotated states state) q c)
      (over_other (annotated states state) q c) weaker)))

  -- a maker
  pub maker_keeps : (colours after : Colours) (a c : Regions) (y : Element) (kept : Colour)
      (numbers : List ℕ)
      → Executes graph states state next q f function e (annotated states state)
      (annotated states next) colours after a c
      → KeepsShape graph f (turn_of e f) → (r number : ℕ) (xs : List Element)
      → register_of e ≡ Some r → Makes (elements_of graph.shapes function.regs) r xs a c
      → IsUnheld (view_at graph states state colours) (OfJob q.job number)
      → ((colour : Colour) → Contains (colours_by next after (Some (turn_of e f)) r) colour
      → colour ≡ OfJob q.job number)
      → ((p : Spot) → IsFrame (view_at graph states next after) p → HasHere after p)
      → HoldsLive (view_at graph states next after) q y kept
      → ((n : ℕ) → Contains numbers n → MayUnite (view_at graph states next after) q y kept n)
      → IsSound (view_at graph states state colours)
      → IsSound (view_at graph states next (united q.job numbers kept after))
  maker_keeps colours after a c y kept numbers x shape r number xs sets makes unheld shows heres
      holds may sound =
      let changes = effect_changes graph states state next q f function e (annotated states state)
      (annotated states next) colours after a c x in
      unites_all graph (annotated states next) next q y kept numbers after heres
      (changes.frames.heights q.job ∙ changes.frames.top) holds may
      (effect_freshens graph states state next q f function e (annotated states state)
      (annotated states next) colours after a c x shape r number sets makes.together makes.live
      unheld shows sound)
