-- Elements of the top frame come together, and then colours that they hold may become one.
use Rattle.std.proofs.Common.{◌≡◌, ℕ, false, Option, List, Contains}
use Rattle.std.proofs.Common.{ap, inl, inr}
use Rattle.sw_graph.specs.declared.function.Function.{Function}
use Rattle.sw_graph.specs.declared.graph.Graph.{Graph}
use Rattle.sw_graph.specs.declared.instr.Instr.{Instr}
use Rattle.sw_graph.specs.Points.{Middle}
use Rattle.sw_value.specs.declared.frame.Frame.{Frame}
use Rattle.sw_value.specs.declared.job.Job.{Job}
use Rattle.sw_value.specs.declared.state.State.{State}
use Rattle.sw_partition.specs.Regions.{Regions}
use Rattle.sw_region_ops.specs.Elements.{elements_of}
use Rattle.sw_owner_facts.specs.Colours.{Colour, OfJob}
use Rattle.sw_owner_facts.specs.Owned.{IsSound}
use Rattle.sw_owner_facts.specs.View.{Element, HoldsLive, Frame as Spot}
use Rattle.sw_owner_facts.proofs.WithinLemmas.{weakened}
use Rattle.sw_region_facts.specs.FrameRegions.{LiveIn, TogetherIn}
use Rattle.sw_region_facts.specs.Moves.{Gathers}
use Rattle.sw_view_facts.specs.Changes.{HoldsIn}
use Rattle.sw_view_facts.specs.Renaming.{MayUnite, united}
use Rattle.sw_view_facts.specs.Standing.{StandsAt}
use Rattle.sw_view_facts.specs.Views.{Colours, annotated, here_at, over}
use Rattle.sw_view_facts.specs.Views.{view_at, view_of, closes_at, is_return}
use Rattle.sw_view_facts.specs.Steps.{ChangesFrame}
use Rattle.sw_view_facts.proofs.EffectLemmas.{over_other, over_there}
use Rattle.sw_view_facts.proofs.RenameLemmas.{unites_all}
use Rattle.sw_view_facts.proofs.StepLemmas.{regions_weaken}
use Rattle.sw_view_facts.proofs.ShapeLemmas.{open_here}
use Rattle.sw_view_facts.proofs.TopLemmas.{untouched}
use Rattle.sw_store_facts.specs.Sound.{HaveHeres, IsColoured, MayBecomeOne}
use Rattle.sw_store_facts.proofs.Holding.{holds_live, one_region, together_is}
use Rattle.sw_store_facts.proofs.Stepping.{Row, row, stands_before}

module _ (graph : Graph) (states : ℕ → List (Option Regions)) (state : State) (colours : Colours)
    (s : IsColoured graph states state colours) (q : Spot) (job : Job) (f : Frame)
    (function : Function) (instr : Instr)
    (x : StandsAt graph state q job f function (Middle instr)) where
  abbrev elements : List (Option ℕ)
  elements = elements_of graph.shapes function.regs

  abbrev here : Row graph states state colours s q job f function instr x
  here = row graph states state colours s q job f function instr x

  -- the frame is in the state behind the instruction
  abbrev pub between : Spot → Option Regions
  between = over (annotated states state) q here.c

  same : ChangesFrame state state q f f
  same = untouched state q job f x.top

  goes_on : closes_at graph function f.point ≡ false
  goes_on = open_here graph function f.point (ap is_return x.here)

  -- what is live before the instruction is held live
  pub held_live : (y : Element) (c : Colour) → LiveIn elements here.a y
      → HoldsIn state colours f (here_at colours q) y c
      → HoldsLive (view_at graph states state colours) q y c
  held_live = holds_live graph state colours q f function same.was x.is same.alone same.top goes_on
      (annotated states state) here.a
      (stands_before graph states state colours s q job f function instr x)

  -- and what holds one colour then is in one region
  pub one_region_before : (y z : Element) (c : Colour) → LiveIn elements here.a y
      → LiveIn elements here.a z → HoldsIn state colours f (here_at colours q) y c
      → HoldsIn state colours f (here_at colours q) z c → TogetherIn elements here.a y z
  one_region_before y z c live other holds shares =
      together_is graph state colours q f function same.was x.is same.alone same.top goes_on
      (annotated states state) here.a
      (stands_before graph states state colours s q job f function instr x) y z
      (s.sound.owned.together {p = q} {x = y} {y = z} {c = c} (held_live y c live holds)
      (held_live z c other shares))

  module _ (xs : List Element) (gathers : Gathers elements xs here.a here.c) where
    -- the regions have come together
    pub gathered_view : IsSound (view_of graph between state colours)
    gathered_view = weakened (view_of graph (annotated states state) state colours)
        (view_of graph between state colours) s.sound
        (regions_weaken graph (annotated states state) between state colours q job f x.top function
        x.is here.a here.c (stands_before graph states state colours s q job f function instr x)
        (over_there (annotated states state) q here.c)
        (λ p differ. over_other (annotated states state) q here.c p differ) gathers.uses.weaker)

    pub held_between : (y : Element) (colour : Colour) → Contains xs y
        → HoldsIn state colours f (here_at colours q) y colour
        → HoldsLive (view_of graph between state colours) q y colour
    held_between y colour has holds = holds_live graph state colours q f function same.was x.is
        same.alone same.top goes_on between here.c (over_there (annotated states state) q here.c) y
        colour (gathers.still y has) holds

    -- and then colours that they hold have become one
    pub united_between : HaveHeres graph states state colours → (kept : Colour) (numbers : List ℕ)
        → MayBecomeOne state colours q f xs kept numbers
        → IsSound (view_of graph between state (united q.job numbers kept colours))
    united_between heres kept numbers one =
        unites_all graph between state q one.holder kept numbers colours heres same.top
        (held_between one.holder kept one.among one.holds) may gathered_view
      where
        may : (n : ℕ) → Contains numbers n
            → MayUnite (view_of graph between state colours) q one.holder kept n
        may n has = elim (one.others n has) [
          | inl is ↦ inl is
          | inr (y, among, holds) ↦ inr (inr (
            y,
            held_between y (OfJob q.job n) among holds,
            one_region graph state colours q f function same.was x.is same.alone same.top goes_on
                between here.c (over_there (annotated states state) q here.c) y one.holder
                (gathers.together y one.holder among one.among),
          ))
        ]
