-- What the operands of an instruction hold, and that it may become one with `Here` and what is new.
use Rattle.std.proofs.Common.{◌≡◌, ℕ, Option, Some, List, ◌∷◌, Contains, refl, sym, subst, inl, inr}
use Rattle.sw_list.proofs.Members.{none_in, first_in, later_in, first_or_later}
use Rattle.sw_graph.specs.declared.function.Function.{Function}
use Rattle.sw_graph.specs.declared.graph.Graph.{Graph}
use Rattle.sw_graph.specs.declared.instr.Instr.{Instr}
use Rattle.sw_graph.specs.declared.instr.Operand.{Operand}
use Rattle.sw_graph.specs.Points.{Middle}
use Rattle.sw_value.specs.declared.frame.Frame.{Frame}
use Rattle.sw_value.specs.declared.job.Job.{Job}
use Rattle.sw_value.specs.declared.state.State.{State}
use Rattle.sw_value.specs.declared.value.Value.{Value}
use Rattle.sw_value.specs.Value.{values_at}
use Rattle.sw_partition.specs.Regions.{Regions}
use Rattle.sw_region_ops.specs.Elements.{elements_of}
use Rattle.sw_owner_facts.specs.Colours.{Colour, OfJob}
use Rattle.sw_owner_facts.specs.View.{Element, Here, HoldsLive, Frame as Spot}
use Rattle.sw_region_facts.specs.FrameRegions.{LiveIn}
use Rattle.sw_region_facts.specs.Moves.{tracked}
use Rattle.sw_view_facts.specs.Standing.{StandsAt}
use Rattle.sw_view_facts.specs.Views.{Colours, here_at, view_at}
use Rattle.sw_store_facts.specs.Sound.{IsColoured}
use Rattle.sw_store_facts.proofs.Gathering.{held_live}
use Rattle.sw_store_facts.proofs.Operands.{HeldBy, values_held}
use Rattle.sw_store_facts.proofs.Stepping.{Row, frame_is, row}
use Rattle.sw_secure_facts.specs.Painting.{MayUnite, reached_by_all}

module _ (graph : Graph) (states : ℕ → List (Option Regions)) (state : State) (colours : Colours)
    (s : IsColoured graph states state colours) (q : Spot) (job : Job) (f : Frame)
    (function : Function) (instr : Instr)
    (x : StandsAt graph state q job f function (Middle instr)) where
  abbrev elements : List (Option ℕ)
  elements = elements_of graph.shapes function.regs

  abbrev here : Row graph states state colours s q job f function instr x
  here = row graph states state colours s q job f function instr x

  -- a colour that the values of operands reach is held by a tracked operand
  pub of_operands : (args : List Operand) (values : List Value)
      → values_at f.regs args ≡ Some values
      → HeldBy state colours q f (tracked elements args) (reached_by_all state colours values)
  of_operands = values_held graph s.clean state s.kinded colours s.have q f
      (frame_is graph states state colours s q job f function instr x) function x.is

  -- so it is held live if the instruction uses that, and so is the colour of `Here`
  pub all_held : (args : List Operand) (values : List Value)
      → values_at f.regs args ≡ Some values
      → ((y : Element) → Contains (tracked elements args) y → LiveIn elements here.a y)
      → (c : Colour) → Contains (here_at colours q ∷ reached_by_all state colours values) c
      → (y : Element) × HoldsLive (view_at graph states state colours) q y c
  all_held args values are used c has =
      elim (first_or_later (here_at colours q) (reached_by_all state colours values) c has) [
        | inl same ↦ (
          Here,
          held_live graph states state colours s q job f function instr x Here c
              tt same,
        )
        | inr there ↦
            let y = of_operands args values are c there in (
              y.0,
              held_live graph states state colours s q job f function instr x y.0 c
                  (used y.0 y.1) y.2,
            )
      ]

-- what may become one, may with one more of the job
pub new_unites : (q : Spot) (n : ℕ) (joined : List Colour) → MayUnite q joined
    → MayUnite q (OfJob q.job n ∷ joined)
new_unites q n joined (inl none) = inr (
  OfJob q.job n,
  first_in (OfJob q.job n) joined,
  λ c has. elim (first_or_later (OfJob q.job n) joined c has) [
    | inl same ↦ inl (sym same)
    | inr there ↦ absurd (none_in c (subst (λ l. Contains l c) none there))
  ],
  inr (n, refl),
)
new_unites q n joined (inr (kept, among, others, own)) = inr (
  kept,
  later_in (OfJob q.job n) joined kept among,
  λ c has. elim (first_or_later (OfJob q.job n) joined c has) [
    | inl same ↦ inr (n, sym same)
    | inr there ↦ others c there
  ],
  own,
)
