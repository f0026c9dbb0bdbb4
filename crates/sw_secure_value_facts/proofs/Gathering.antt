-- Elements of the top frame come together, and then colours that they hold may become one.
use Rattle.std.proofs.Common.{◌≡◌, ◌⊎◌, ℕ, Option, List, [], ◌∷◌, Contains, refl}
use Rattle.std.proofs.Common.{inl}
use Rattle.std.proofs.Common.{inr, arith, sym, subst}
use Rattle.sw_graph.specs.declared.function.Function.{Function}
use Rattle.sw_graph.specs.declared.graph.Graph.{Graph}
use Rattle.sw_graph.specs.declared.instr.Instr.{Instr}
use Rattle.sw_graph.specs.Points.{Middle}
use Rattle.sw_value.specs.declared.frame.Frame.{Frame}
use Rattle.sw_value.specs.declared.job.Job.{Job}
use Rattle.sw_value.specs.declared.state.State.{State}
use Rattle.sw_partition.specs.Regions.{Regions}
use Rattle.sw_region_ops.specs.Elements.{elements_of}
use Rattle.sw_owner_facts.specs.Colours.{Colour, OfJob}
use Rattle.sw_owner_facts.specs.Owned.{IsSound}
use Rattle.sw_owner_facts.specs.View.{Element, Frame as Spot}
use Rattle.sw_region_facts.specs.Moves.{Gathers}
use Rattle.sw_view_facts.specs.Standing.{StandsAt}
use Rattle.sw_view_facts.specs.Views.{Colours, annotated, over}
use Rattle.sw_view_facts.specs.Views.{view_of}
use Rattle.sw_store_facts.specs.Sound.{HaveHeres, IsColoured, MayBecomeOne}
use Rattle.sw_store_facts.proofs.Gathering.{gathered_view, held_between, united_between}
use Rattle.sw_store_facts.proofs.Stepping.{Row, row}
use Rattle.sw_secure_facts.specs.Painting.{MayUnite, Unites}
use Rattle.sw_secure_facts.proofs.Kept.{held_unite}
use Rattle.sw_secure_facts.proofs.Uniting.{nothing_unites}
use Rattle.sw_store_facts.proofs.Operands.{HeldBy}

-- ---- what becomes one
-- what elements hold, and becomes one, may
pub become_one : (state : State) (colours after : Colours) (q : Spot) (f : Frame)
    (xs : List Element) (joined : List Colour) (u : Unites q.job joined colours after)
    (first : Colour) → Contains joined first → HeldBy state colours q f xs joined
    → MayBecomeOne state colours q f xs u.kept u.numbers
become_one state colours after q f xs joined u first has held =
    let holder = held u.kept (u.among first has) in
    record {
      holder = holder.0;
      among = holder.1;
      holds = holder.2;
      others = λ n numbered. inr (held (OfJob q.job n) (u.only n numbered));
    }

-- a list is empty or has a first
pub first_or_none : {X : Type 0} (xs : List X) → (xs ≡ []) ⊎ ((x : X) × Contains xs x)
first_or_none [] = inl refl
first_or_none (x ∷ xs) = inr (x, (0, omega arith, refl))

module _ (graph : Graph) (states : ℕ → List (Option Regions)) (state : State) (colours : Colours)
    (s : IsColoured graph states state colours) (q : Spot) (job : Job) (f : Frame)
    (function : Function) (instr : Instr)
    (x : StandsAt graph state q job f function (Middle instr)) where
  abbrev elements : List (Option ℕ)
  elements = elements_of graph.shapes function.regs

  abbrev here : Row graph states state colours s q job f function instr x
  here = row graph states state colours s q job f function instr x

  abbrev between : Spot → Option Regions
  between = over (annotated states state) q here.c

  module _ (xs : List Element) (gathers : Gathers elements xs here.a here.c) where
    sound : IsSound (view_of graph between state colours)
    sound = gathered_view graph states state colours s q job f function instr x xs gathers

    -- colours that they hold may become one
    pub gathered_join : (joined : List Colour) → HeldBy state colours q f xs joined
        → MayUnite q joined
    gathered_join joined held = held_unite (view_of graph between state colours) q sound.owned
        joined (λ c has. let h = held c has in (
          h.0,
          held_between graph states state colours s q job
              f function instr x xs gathers h.0 c h.1 h.2,
        ))

    -- colours become one, if there are any
    pub unites_between : HaveHeres graph states state colours → (joined : List Colour)
        → HeldBy state colours q f xs joined → (after : Colours)
        → Unites q.job joined colours after → IsSound (view_of graph between state after)
    unites_between heres joined held after u = elim (first_or_none joined) [
      | inl none ↦ subst (λ cs. IsSound (view_of graph between state cs))
          (sym (nothing_unites q.job colours after
          (subst (λ (l : List Colour). Unites q.job l colours after) none u))) sound
      | inr (first, has) ↦ subst (λ cs. IsSound (view_of graph between state cs)) (sym u.is)
          (united_between graph states state colours s q job f function instr x xs gathers heres
          u.kept u.numbers
          (become_one state colours after q f xs joined u first has held))
    ]
