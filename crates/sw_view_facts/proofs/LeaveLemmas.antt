-- A return, from the machine's step to a move of views.
use Rattle.std.specs.Option.{option_and_then, option_map_or}
use Rattle.std.specs.List.{slice_get, slice_set}
use Rattle.std.proofs.Common.{◌≡◌, ◌≤◌, ◌==◌, ℕ, zero, suc, Bool, true, false, Option, Some, None}
use Rattle.std.proofs.Common.{List, [], ◌∷◌, ◌++◌, length, Contains, refl, sym, subst, ap, ◌∙◌}
use Rattle.std.proofs.Common.{arith, cond}
use Rattle.std.proofs.lemmas.Bool.{eqb-true}
use Rattle.std.proofs.lemmas.Option.{slice_get_past}
use Rattle.sw_list.proofs.ListLemmas.{some_injective, slice_get_first}
use Rattle.sw_list.proofs.Members.{none_in}
use Rattle.sw_graph.specs.declared.function.Function.{Function}
use Rattle.sw_graph.specs.declared.graph.Graph.{Graph}
use Rattle.sw_value.specs.declared.effect.Effect.TheVariants.{Leave}
use Rattle.sw_value.specs.declared.frame.Frame.{Frame}
use Rattle.sw_value.specs.declared.frame.TheConstants.{NO_REGISTER}
use Rattle.sw_value.specs.declared.job.Job.{Job}
use Rattle.sw_value.specs.declared.state.State.{State}
use Rattle.sw_value.specs.declared.value.Value.{Value}
use Rattle.sw_value.specs.Frame.{set_register, take_result}
use Rattle.sw_value.specs.Job.{leave}
use Rattle.sw_value.specs.Reach.{step_of}
use Rattle.sw_value.specs.State.{in_job}
use Rattle.sw_value.specs.Value.{value_at}
use Rattle.sw_partition.specs.Regions.{Regions}
use Rattle.sw_owner_facts.specs.Calls.{Handed, Returned}
use Rattle.sw_owner_facts.specs.Colours.{Colour}
use Rattle.sw_owner_facts.specs.View.{View, above, Frame as Spot}
use Rattle.sw_reach_facts.specs.Reached.{colours_of}
use Rattle.sw_view_facts.specs.Changes.{KeepsShape}
use Rattle.sw_view_facts.specs.Returning.{Leaves}
use Rattle.sw_view_facts.specs.Views.{Colours, annotated, closes_at, colours_by, view_of}
use Rattle.sw_view_facts.proofs.EffectLemmas.{step_is}
use Rattle.sw_view_facts.proofs.ReturnLemmas.{others_keep, returns_to, same_call, same_point}
use Rattle.sw_view_facts.proofs.ShapeLemmas.{isolation_kept, shape_kept}
use Rattle.sw_view_facts.proofs.TopLemmas.{ends_with}

value_of : Option Value → Value → Type 0
value_of None v = Unit {0}
value_of (Some w) v = w ≡ v

-- a register that is set has the value, or isn't there
pub set_has : (regs : List (Option Value)) (r : ℕ) (v w : Value)
    → value_at (slice_set regs r (Some v)) r ≡ Some w → w ≡ v
set_has [] r v w has = cc
set_has (o ∷ regs) zero v w has = sym (some_injective has)
set_has (o ∷ regs) (suc r) v w has = set_has regs r v w has

-- what register r has after a result was taken is the result
result_is : (f : Frame) (r : ℕ) (v w : Value) → length f.regs ≤ NO_REGISTER
    → value_at (take_result r v f).regs r ≡ Some w → w ≡ v
unfolding take_result set_register
result_is f r v w few = by (r == NO_REGISTER) refl where
  by : (b : Bool) → (r == NO_REGISTER) ≡ b
      → value_at (cond b f (set_register r v f)).regs r ≡ Some w → w ≡ v
  by true e has =
      let past = slice_get_past f.regs r (let same = eqb-true r NO_REGISTER e in
      omega (arith, few, same)) in
      let none : None ≡ Some w =
      sym (ap (option_and_then (λ (o : Option Value). o)) past) ∙ has in
      absurd (let wrong : ⊥ = cc in wrong)
  by false e has = set_has f.regs r v w has

module _ (graph : Graph) (states : ℕ → List (Option Regions)) (state : State) (p : Spot)
    (f t : Frame) (function callee : Function) (v : Value) (colours after : Colours)
    (x : Leaves graph state p f t function callee v colours after) where
  abbrev old : View
  old = view_of graph (annotated states state) state colours

  abbrev next : State
  next = step_of graph state p.job

  abbrev new : View
  new = view_of graph (annotated states next) next after

  keeps : KeepsShape graph f (take_result t.result v f)
  keeps = shape_kept graph function f (take_result t.result v f) (same_call t.result v f) x.is
      (isolation_kept function f.regs (take_result t.result v f).regs
      (λ has. others_keep t.result v f 0 (λ e. x.self has (sym e))))
      (ap (closes_at graph function) (same_point t.result v f))

  stepped : next ≡ in_job (leave v) p.job state
  stepped = step_is graph state (above p) x.job t callee x.point (Leave v) x.stands x.gives refl

  -- The frame above p returns v, whose colours may be handed to p.
  pub leaves_returns : ((c : Colour) → Contains (colours_of state.cells colours.cells v) c
      → Handed old p t.result c) → Returned old new p t.result
  unfolding in_job
  leaves_returns handed =
      subst (λ s. Returned old (view_of graph (annotated states s) s after) p t.result) (sym stepped)
      (returns_to graph states state colours after p x.job rest.0 f t callee v x.stands.top.there
      (top.1 ∙ ap (λ l. l ++ t ∷ []) rest.1) rest.2 x.stands.running x.stands.is keeps x.cells
      x.heres (λ c has. handed c (shown c has)))
    where
      later : State
      later = in_job (leave v) p.job state

      top : (rest : List Frame) × (x.job.frames ≡ rest ++ t ∷ []) × (length rest ≡ suc p.depth)
      top = ends_with x.job.frames (suc p.depth) t x.stands.top.top x.stands.top.height

      below : slice_get top.0 p.depth ≡ Some f
      below = sym (slice_get_first top.0 (t ∷ []) p.depth (let e = top.2 in omega (arith, e)))
          ∙ ap (λ l. slice_get l p.depth) (sym top.1)
          ∙ sym (ap (option_and_then (λ (j : Job). slice_get j.frames p.depth)) x.stands.top.there)
          ∙ x.below

      rest : (rest : List Frame) × (top.0 ≡ rest ++ f ∷ []) × (length rest ≡ p.depth)
      rest = ends_with top.0 p.depth f below top.2

      shown : (c : Colour)
          → Contains (colours_by later after (Some (take_result t.result v f)) t.result) c
          → Contains (colours_of state.cells colours.cells v) c
      shown c = by (value_at (take_result t.result v f).regs t.result) refl where
        by : (o : Option Value) → value_at (take_result t.result v f).regs t.result ≡ o
            → Contains (option_map_or (colours_of state.cells after.cells) o []) c
            → Contains (colours_of state.cells colours.cells v) c
        by None is has = absurd (none_in c has)
        by (Some w) is has =
            subst (λ l. Contains l c)
            (ap (λ cs. colours_of state.cells cs w) x.cells
            ∙ ap (colours_of state.cells colours.cells) (result_is f t.result v w x.few is)) has
