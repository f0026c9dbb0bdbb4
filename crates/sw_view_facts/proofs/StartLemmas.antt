-- Before any item: frames that hold nothing but the colour of their `Here`.
use Rattle.std.specs.Option.{option_map_or}
use Rattle.std.proofs.Common.{◌≡◌, ℕ, false, Option, Some}
use Rattle.std.proofs.Common.{[], Contains, refl, subst, ap, ◌∙◌, inl, inr}
use Rattle.sw_list.proofs.Members.{none_in}
use Rattle.sw_types.specs.declared.isolation.Iso.TheVariants.{Free}
use Rattle.sw_graph.specs.declared.graph.Graph.{Graph}
use Rattle.sw_graph.specs.Points.{point_in}
use Rattle.sw_graph.specs.Sure.{point_before}
use Rattle.sw_value.specs.declared.frame.Frame.{Frame}
use Rattle.sw_value.specs.declared.state.State.{State}
use Rattle.sw_partition.specs.Regions.{Regions}
use Rattle.sw_owner_facts.specs.View.{View, IsFrame}
use Rattle.sw_owner_facts.specs.View.{FrameShape}
use Rattle.sw_owner_facts.specs.View.{Frame as Spot}
use Rattle.sw_owner_facts.specs.Owned.{IsSound}
use Rattle.sw_reach_facts.specs.Reached.{colours_of}
use Rattle.sw_view_facts.specs.Views.{Colours, view_of, frame_at}
use Rattle.sw_view_facts.specs.Views.{colours_by}
use Rattle.sw_view_facts.specs.Views.{stands_on, closes}
use Rattle.sw_view_facts.specs.Entering.{IsFirstFrame}
use Rattle.sw_view_facts.proofs.FirstLemmas.{IsFirstOf, firsts_sound}
use Rattle.sw_view_facts.proofs.IsolationLemmas.{global_isolation, isolated_as, shape_at}

module _ (graph : Graph) (regions : Spot → Option Regions) (state : State) (colours : Colours)
    (first : (p : Spot) → IsFrame (view_of graph regions state colours) p
    → (h : Frame) × (frame_at state p ≡ Some h) × IsFirstFrame graph state colours p h)
    (ready : (j : ℕ) → (view_of graph regions state colours).running j ≡ false) where
  abbrev w : View
  w = view_of graph regions state colours

  looks : (p : Spot) → IsFrame w p → IsFirstOf w p
  looks p inside =
      let found = first p inside in
      let h = found.0 in
      let f = found.2 in
      let shape = shape_at graph regions state colours p h f.function found.1 f.is in
      record {
        crossing = ap (λ (s : FrameShape). s.crossing) shape ∙ f.crossing;
        closing = ap (λ (s : FrameShape). s.closing) shape
            ∙ ap (λ n. closes graph f.function (point_in f.function n) (point_before f.function n))
            f.point;
        result = ap (λ (s : FrameShape). s.result) shape ∙ f.result;
        stands = elim f.stands [
          | inl free ↦ inl (
            ap (λ (s : FrameShape). s.isolation) shape ∙ isolated_as f.function h.regs Free free.0 refl,
            ap (λ (s : FrameShape). s.executor) shape ∙ ap stands_on free.1,
            free.2,
          )
          | inr held ↦ inr (
            held.0,
            ap (λ (s : FrameShape). s.isolation) shape
                ∙ global_isolation f.function h.regs held.0 held.1,
            ap (λ (s : FrameShape). s.executor) shape ∙ ap stands_on held.2,
            held.3,
          )
        ];
        bare = λ r c has. none_in c (subst (λ l. Contains l c)
            (ap (λ o. colours_by state colours o r) found.1
            ∙ ap (λ v. option_map_or (colours_of state.cells colours.cells) v []) (f.bare r)) has);
      }

  pub start_sound : IsSound w
  start_sound = firsts_sound w looks ready
