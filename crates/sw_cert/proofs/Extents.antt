-- What a certificate depends on of each function of a graph: there are such extents for each graph.
use Rattle.std.proofs.Common.{◌≡◌, ℕ, Option, Some, None, List, length, map, refl, sym, subst, ap}
use Rattle.std.proofs.Common.{◌∙◌}
use Rattle.std.proofs.lemmas.List.{length-map}
use Rattle.std.proofs.lemmas.Option.{none-some, same_Some, slice_get-map}
use Rattle.std.specs.List.{slice_get}
use Rattle.std.specs.Option.{option_map}
use Rattle.sw_graph.specs.declared.function.Function.{Function}
use Rattle.sw_graph.specs.declared.graph.Graph.{Graph}
use Rattle.sw_region_flow.proofs.Leasts.{some_sites}
use Rattle.sw_region_ops.specs.Elements.{element_count}
use Rattle.sw_region_ops.specs.Setting.{FunctionSetting, setting_of}
use Rattle.sw_cert.specs.Reading.{IsExtentOf, AreExtentsOf}
use Rattle.sw_cert.specs.declared.line.Extent.{Extent}

abbrev pub extent_for : FunctionSetting → Extent
extent_for setting = record {
  blocks = length setting.body.blocks;
  elements = element_count setting.elements;
  sites = (some_sites setting).0;
}

abbrev pub extents_for : Graph → List Extent
extents_for graph = map (λ body. extent_for (setting_of graph body)) graph.functions

pub extent_at : (graph : Graph) (number : ℕ) (body : Function)
    → slice_get graph.functions number ≡ Some body
    → slice_get (extents_for graph) number ≡ Some (extent_for (setting_of graph body))
extent_at graph number body is =
    slice_get-map (λ body. extent_for (setting_of graph body)) graph.functions number
    ∙ ap (option_map (λ body. extent_for (setting_of graph body))) is

pub body_at : (graph : Graph) (number : ℕ) (extent : Extent)
    → slice_get (extents_for graph) number ≡ Some extent
    → (body : Function) × (slice_get graph.functions number ≡ Some body)
    × (extent ≡ extent_for (setting_of graph body))
body_at graph number extent is = by (slice_get graph.functions number) refl
    (sym (slice_get-map (λ body. extent_for (setting_of graph body)) graph.functions number) ∙ is)
  where
    by : (o : Option Function) → slice_get graph.functions number ≡ o
        → option_map (λ body. extent_for (setting_of graph body))
        (slice_get graph.functions number) ≡ Some extent
        → (body : Function) × (slice_get graph.functions number ≡ Some body)
        × (extent ≡ extent_for (setting_of graph body))
    by None e at = absurd (none-some extent
        (sym (ap (option_map (λ body. extent_for (setting_of graph body))) e) ∙ at))
    by (Some body) e at = (
      body,
      e,
      sym (same_Some (extent_for (setting_of graph body)) extent
          (sym (ap (option_map (λ body. extent_for (setting_of graph body))) e) ∙ at)),
    )

pub are_extents : (graph : Graph) → AreExtentsOf graph (extents_for graph)
are_extents graph = record {
  count = length-map graph.functions (λ body. extent_for (setting_of graph body));
  each = λ number body extent is at.
      let w = body_at graph number extent at in
      let same = same_Some w.0 body (sym w.1 ∙ is) in
      subst (IsExtentOf (setting_of graph body))
      (sym (w.2 ∙ ap (λ (b : Function). extent_for (setting_of graph b)) same)) (record {
        blocks = refl;
        elements = refl;
        sites = (some_sites (setting_of graph body)).1;
      });
}

pub some_extents : (graph : Graph) → (extents : List Extent) × AreExtentsOf graph extents
some_extents graph = (extents_for graph, are_extents graph)
