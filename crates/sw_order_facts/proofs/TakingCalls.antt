-- A call hands what is the job's to takers alone.
use Rattle.std.proofs.Common.{◌≡◌, inl, inr, ℕ, Bool, true, false, cond, Option, Some}
use Rattle.std.proofs.Common.{None, List, [], ◌∷◌, ◌++◌, length, Contains, refl, sym, subst, ap, ◌∙◌}
use Rattle.std.specs.Prelude.{◌&&◌, is_some}
use Rattle.sw_list.proofs.Members.{first_or_later, none_in}
use Rattle.sw_graph.specs.declared.function.Function.{Function}
use Rattle.sw_graph.specs.declared.graph.Graph.{Graph}
use Rattle.sw_graph.specs.Points.{Point}
use Rattle.sw_value.specs.declared.effect.Act.TheVariants.{Execute}
use Rattle.sw_value.specs.declared.effect.Effect.TheVariants as effect
use Rattle.sw_value.specs.declared.frame.Frame.{Frame}
use Rattle.sw_value.specs.declared.job.Job.{Job}
use Rattle.sw_value.specs.declared.state.State.{State}
use Rattle.sw_value.specs.Act.{act_of}
use Rattle.sw_color_rules.specs.Plans.{sending_of}
use Rattle.sw_partition.specs.Regions.{Regions}
use Rattle.sw_owner_facts.specs.Colours.{Actor, Colour}
use Rattle.sw_owner_facts.specs.View.{Frame as Spot}
use Rattle.sw_view_facts.specs.Views.{Colours}
use Rattle.sw_secure_facts.specs.Executing.{Executing}
use Rattle.sw_secure_facts.specs.Painting.{Unites, begun_here, called_closure, called_on, with_here}
use Rattle.sw_secure_facts.specs.Painting.{joined_by_call, passed, takes_along}
use Rattle.sw_owned_facts.proofs.Passing.{calls_held}
use Rattle.sw_machine_name_facts.specs.Given.{made_cell}
use Rattle.sw_order_facts.specs.Taking.{AllTake, IsTakers, own, runner}
use Rattle.sw_order_facts.proofs.Entering.{begins_on, entered_stays}
use Rattle.sw_order_facts.proofs.TakingEffects.{of_held, on_executor, runs_where, without_cell}

not_both : (b c : Bool) → b && c ≡ false → c ≡ true → b ≡ false
not_both true true both is = cc
not_both true false both is = cc
not_both false c both is = refl

module _ (graph : Graph) (states : ℕ → List (Option Regions)) (state : State) (colours : Colours)
    (q : Spot) (number : ℕ) (job : Job) (f : Frame) (function : Function) (point : Point)
    (frame : Frame) (next : ℕ)
    (x : Executing graph states state colours q number job f function point
    (effect.Enter frame next))
    (acts : act_of graph state q.job ≡ Some (Execute (effect.Enter frame next)))
    (next_cell : (k : ℕ) → made_cell (Execute (effect.Enter frame next)) ≡ Some k
    → k ≡ length state.cells) (after : Colours)
    (unites : Unites q.job (joined_by_call graph state colours q number f point frame)
    (with_here q.job (begun_here (called_on point frame) q.job number) colours) after) where
  abbrev Taker : Colour → Type 0
  Taker = IsTakers state q.job (Execute (effect.Enter frame next))

  -- the colour of the callee's `Here`
  here : takes_along point frame ≡ false → (on : Option Actor) → called_on point frame ≡ on
      → Taker (begun_here on q.job number)
  here along None is = own number refl
  here along (Some a) is =
      let crosses = not_both frame.crossing (is_some (called_on point frame)) along (ap is_some is)
      in
      let stays = entered_stays graph state (length job.frames) f point frame next x.gives crosses in
      runner a (runs_where graph states state colours q number job f function point
      (effect.Enter frame next) x acts next_cell after a
      (sym stays ∙ on_executor frame.executor a (begins_on point frame a is))) refl

  joined : (b : Bool) → takes_along point frame ≡ b → (d : Colour)
      → Contains (cond b [] (begun_here (called_on point frame) q.job number
      ∷ called_closure state colours f point
      ++ passed state colours (sending_of graph frame.function) frame.regs)) d → Taker d
  joined true along d has = absurd (none_in d has)
  joined false along d has = elim (first_or_later
      (begun_here (called_on point frame) q.job number) (called_closure state colours f point
      ++ passed state colours (sending_of graph frame.function) frame.regs) d has) [
        | inl first ↦ subst Taker first (here along (called_on point frame) refl)
        | inr later ↦ of_held graph states state colours q number job f function point
            (effect.Enter frame next) x acts next_cell after d
            (calls_held graph states state colours x.secure q job f function number x.numbered point
            frame next x.stands x.gives d later)
      ]

  pub calls_take : AllTake graph state colours q.job (Execute (effect.Enter frame next)) after
  calls_take = without_cell graph states state colours q number job f function point
      (effect.Enter frame next) x acts next_cell after
      (joined_by_call graph state colours q number f point frame)
      (with_here q.job (begun_here (called_on point frame) q.job number) colours) refl unites
      (joined (takes_along point frame) refl) (λ cell added. let no : ⊥ = cc in no)
