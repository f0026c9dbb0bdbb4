-- What is in a cell that isn't tracked: it is of the actor that the body runs on, or it may cross.
use Rattle.std.proofs.Common.{◌≡◌, ◌⊎◌, ℕ, Bool, true, false, not, Option, Some, None, List, refl}
use Rattle.std.proofs.Common.{sym, ap, ◌∙◌, inl, inr, ◌||◌}
use Rattle.std.specs.Option.{is_some, option_map_or}
use Rattle.std.specs.List.{list_all, slice_get}
use Rattle.std.proofs.lemmas.Bool.{and_parts}
use Rattle.sw_types.specs.Held.{types_in}
use Rattle.sw_types.specs.Sendable.{sends_at}
use Rattle.sw_graph.specs.declared.function.Function.{Function}
use Rattle.sw_graph.specs.declared.function.RegKind.{RegKind}
use Rattle.sw_graph.specs.declared.graph.Graph.{Graph}
use Rattle.sw_graph.specs.declared.instr.Operand.{Operand}
use Rattle.sw_graph.specs.Clean.{conforms, is_untracked, may_cross}
use Rattle.sw_graph.specs.Kinds.{is_cell, is_class, shape_of}
use Rattle.sw_graph.specs.Placed.{is_inside, is_inside_shape}
use Rattle.sw_graph.specs.Points.{Point}
use Rattle.sw_value.specs.declared.cell.HeapCell.{HeapCell}
use Rattle.sw_value.specs.declared.frame.Frame.{Frame}
use Rattle.sw_value.specs.declared.job.Job.{Job}
use Rattle.sw_value.specs.declared.state.State.{State}
use Rattle.sw_value.specs.declared.value.Value.{Value}
use Rattle.sw_partition.specs.Regions.{Regions}
use Rattle.sw_region_ops.specs.Elements.{element_at, elements_of}
use Rattle.sw_owner_facts.specs.Colours.{Actor as Owner, OfActor}
use Rattle.sw_owner_facts.specs.View.{Frame as Spot}
use Rattle.sw_reach_facts.proofs.CellShapeLemmas.{HasShape, shape_here}
use Rattle.sw_reach_facts.proofs.CrossingLemmas.{part_crosses}
use Rattle.sw_reach_facts.proofs.ElementLemmas.{named_element}
use Rattle.sw_view_facts.specs.Standing.{StandsAt}
use Rattle.sw_view_facts.specs.Views.{Colours, here_at}
use Rattle.sw_store_facts.specs.Sound.{IsColoured}
use Rattle.sw_store_facts.proofs.Standing.{here_of}
use Rattle.sw_secure_facts.specs.Memory.{keeper}
use Rattle.sw_secure_facts.proofs.Belonging as either
use Rattle.sw_store_facts.proofs.Referring.{OfCell}

not_true : (b : Bool) → false ≡ not b → b ≡ true
not_true true is = refl
not_true false is = cc

module _ (graph : Graph) (states : ℕ → List (Option Regions)) (state : State) (colours : Colours)
    (s : IsColoured graph states state colours) (q : Spot) (job : Job) (f : Frame)
    (function : Function) (point : Point) (x : StandsAt graph state q job f function point)
    (o : Operand) (c : ℕ) (cell : HeapCell)
    (of : OfCell graph states state colours s q job f function point x o c cell)
    (k : ℕ) (vs : List Value) (has : HasShape graph s.kinded.world cell of.kind k vs)
    (none : element_at (elements_of graph.shapes function.regs) o.reg ≡ None) where
  -- the cell's contents are an actor's, which `Here` is of
  pub record IsHere : Type 0 where
    pub owner : Owner
    pub keeps : keeper graph c cell ≡ Some owner
    pub here : here_at colours q ≡ OfActor owner

  -- the cell's parts may cross
  pub record MayCross : Type 0 where
    pub keeps : keeper graph c cell ≡ None
    pub crosses : (i : ℕ) (kind : RegKind) → slice_get has.kinds i ≡ Some kind
        → is_untracked graph (Some kind) ≡ true

  inside_is : is_inside graph.shapes function o ≡ is_inside_shape function o has.shape
  inside_is =
      ap (λ k. option_map_or (is_inside_shape function o) (shape_of graph.shapes is_cell k) false)
      of.kind_is
      ∙ ap (λ p. option_map_or (is_inside_shape function o) p false)
      (shape_here graph s.kinded.world cell of.kind k vs has)

  sends : sends_at graph.shapes k ≡ true
  sends = not_true (sends_at graph.shapes k) (sym (ap is_some none)
      ∙ named_element graph function.regs o.reg of.kind k of.kind_is has.form)

  conforming : conforms graph has.shape ≡ true → (i : ℕ) (kind : RegKind)
      → slice_get has.kinds i ≡ Some kind → is_untracked graph (Some kind) ≡ true
  conforming says i kind at =
      part_crosses graph has.shape (and_parts (list_all (may_cross graph) (types_in has.shape))
      (not (is_class has.shape.kind) || list_all (λ part. not part.mutable) has.shape.parts) says).0
      has.kinds has.are i kind at

  -- where the body is of the cell's isolation
  pub belongs : is_inside graph.shapes function o ≡ true → IsHere ⊎ MayCross
  belongs inside = elim (either.belongs graph s.clean function f.regs o c cell of.reference k vs
      has.shape has.at (sym inside_is ∙ inside) has.sort (λ class. sends)) [
        | inl of_actor ↦ inl (record {
          owner = of_actor.owner;
          keeps = of_actor.keeps;
          here = here_of graph states state colours s q job f function point x of_actor.owner
              of_actor.isolated;
        })
        | inr (nobody, says) ↦ inr (record { keeps = nobody; crosses = conforming says })
      ]
