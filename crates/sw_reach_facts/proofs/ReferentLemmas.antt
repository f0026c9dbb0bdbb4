-- The cells to which a value refers go to places of the kinds of its parts.
use Rattle.std.specs.List.{slice_get}
use Rattle.std.proofs.Common.{◌≡◌, ℕ, suc, List, [], Contains, Some, sym, subst, ap, ◌∙◌, ◌≤◌}
use Rattle.std.proofs.lemmas.Option.{slice_get_within}
use Rattle.sw_list.proofs.Members.{none_in, one_in, of_flat_map, stands_at}
use Rattle.sw_types.specs.declared.shape.Shape.{Shape}
use Rattle.sw_graph.specs.declared.function.RegKind.{RegKind}
use Rattle.sw_graph.specs.Kinds.{shape_of, is_struct, is_enum, parts, payload}
use Rattle.sw_value.specs.declared.value.Value.{Value}
use Rattle.sw_machine_kind_facts.specs.Kinds.{HasKind, integer, truth, void, refers, group, choice}
use Rattle.sw_machine_kind_facts.proofs.ItemLemmas.{found_within}
use Rattle.sw_reach_facts.specs.Coloured.{GoesTo}
use Rattle.sw_reach_facts.specs.Reached.{references}
use Rattle.sw_reach_facts.proofs.ReferenceLemmas.{references-cell, references-int, references-truth}
use Rattle.sw_reach_facts.proofs.ReferenceLemmas.{references-void, references-group}
use Rattle.sw_reach_facts.proofs.ReferenceLemmas.{references-case}

-- A property of kinds that parts of structs and payloads of enums have if the whole has it, also
-- goes through references.
module _ (shapes : List Shape) (P : RegKind → Type 0)
    (part : (kind : RegKind) (kinds : List RegKind) → P kind
    → parts (shape_of shapes is_struct (Some kind)) ≡ Some kinds → (i : ℕ) (one : RegKind)
    → slice_get kinds i ≡ Some one → P one)
    (payload_part : (kind : RegKind) (tag : ℕ) (kinds : List RegKind) → P kind
    → payload (shape_of shapes is_enum (Some kind)) tag ≡ Some kinds → (i : ℕ) (one : RegKind)
    → slice_get kinds i ≡ Some one → P one) where
  nothing : (cells : List RegKind) (v : Value) (c : ℕ) → references v ≡ []
      → Contains (references v) c → GoesTo P cells c
  nothing cells v c is has = absurd (none_in c (subst (λ l. Contains l c) is has))

  pub leads_to : (cells : List RegKind) (v : Value) (kind : RegKind)
      → HasKind shapes cells v kind → P kind → (c : ℕ) → Contains (references v) c
      → GoesTo P cells c
  leads_to cells v kind (integer w k n is s) holds c has =
      nothing cells w c (references-int w n is) has
  leads_to cells v kind (truth w k b is s) holds c has =
      nothing cells w c (references-truth w b is) has
  leads_to cells v kind (void w k is s) holds c has =
      nothing cells w c (references-void w is) has
  leads_to cells v kind (refers w k d from is s at goes) holds c has =
      let same : d ≡ c = one_in d c (subst (λ l. Contains l c) (references-cell w d is) has) in
      record {
        from = from;
        at = ap (slice_get cells) (sym same) ∙ at;
        kind = k;
        goes = goes;
        holds = holds;
      }
  leads_to cells v kind (group w k vs kinds is s are count each) holds c has =
      let inside = of_flat_map references vs c
      (subst (λ l. Contains l c) (references-group w vs is) has) in
      let stands = stands_at vs inside.0 inside.1 in
      let there = found_within kinds stands.0 (subst (λ n. suc stands.0 ≤ n) count
      (slice_get_within vs stands.0 inside.0 stands.1)) in
      leads_to cells inside.0 there.0 (each stands.0 inside.0 there.0 stands.1 there.1)
      (part k kinds holds are stands.0 there.0 there.1) c inside.2
  leads_to cells v kind (choice w k tag vs kinds is s are count each) holds c has =
      let inside = of_flat_map references vs c
      (subst (λ l. Contains l c) (references-case w tag vs is) has) in
      let stands = stands_at vs inside.0 inside.1 in
      let there = found_within kinds stands.0 (subst (λ n. suc stands.0 ≤ n) count
      (slice_get_within vs stands.0 inside.0 stands.1)) in
      leads_to cells inside.0 there.0 (each stands.0 inside.0 there.0 stands.1 there.1)
      (payload_part k tag kinds holds are stands.0 there.0 there.1) c inside.2
