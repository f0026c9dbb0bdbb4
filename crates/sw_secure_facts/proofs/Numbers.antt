-- Nothing holds a colour with a number that none in use has.
use Rattle.std.proofs.Common.{◌≡◌, ℕ, Option, Some, None}
use Rattle.std.proofs.Common.{List, [], Contains, sym, subst, ap, ◌∙◌, arith}
use Rattle.std.specs.Option.{option_map_or}
use Rattle.std.specs.List.{slice_index_or}
use Rattle.std.proofs.lemmas.Option.{get_or_from_slice_get}
use Rattle.sw_list.proofs.Members.{member_at, none_in}
use Rattle.sw_graph.specs.declared.graph.Graph.{Graph}
use Rattle.sw_value.specs.declared.cell.HeapCell.{HeapCell}
use Rattle.sw_value.specs.declared.frame.Frame.{Frame}
use Rattle.sw_value.specs.declared.state.State.{State}
use Rattle.sw_value.specs.declared.value.Value.{Value}
use Rattle.sw_value.specs.Value.{value_at}
use Rattle.sw_partition.specs.Regions.{Regions}
use Rattle.sw_owner_facts.specs.Colours.{OfJob}
use Rattle.sw_owner_facts.specs.View.{Here, Register, IsFrame, IsUnheld}
use Rattle.sw_owner_facts.specs.View.{Frame as Spot}
use Rattle.sw_reach_facts.specs.Reached.{colours_of}
use Rattle.sw_view_facts.specs.Renaming.{HasHere}
use Rattle.sw_view_facts.specs.Views.{Colours, colours_by, frame_at, here_at, view_of}
use Rattle.sw_secure_facts.specs.Secure.{AreNumberedBelow}
use Rattle.sw_reach_facts.proofs.MarkedLemmas.{reached_is_coloured}

module _ (number : ℕ) (colours : Colours) (below : AreNumberedBelow number colours) where
  pub not_reached : (cells : List HeapCell) (v : Value) (job : ℕ)
      → Contains (colours_of cells colours.cells v) (OfJob job number) → ⊥
  not_reached cells v job has =
      let at = reached_is_coloured cells colours.cells (OfJob job number) v has in
      let low = below.cells at.0 job number at.1 in
      omega (arith, low)

  not_here : (p : Spot) → HasHere colours p → (job : ℕ) → here_at colours p ≡ OfJob job number → ⊥
  not_here p h job is =
      let here : here_at colours p ≡ h.colour =
      ap (λ row. slice_index_or row p.depth (OfJob p.job 0))
      (get_or_from_slice_get colours.heres p.job h.row [] h.rows)
      ∙ get_or_from_slice_get h.row p.depth h.colour (OfJob p.job 0) h.at in
      let low = below.heres h.row job number (member_at colours.heres p.job h.row h.rows)
      (subst (Contains h.row) (sym here ∙ is) (member_at h.row p.depth h.colour h.at)) in
      omega (arith, low)

  not_by : (state : State) (o : Option Frame) (r job : ℕ)
      → Contains (colours_by state colours o r) (OfJob job number) → ⊥
  not_by state None r job has = none_in (OfJob job number) has
  not_by state (Some f) r job has = by (value_at f.regs r) has where
    by : (v : Option Value)
        → Contains (option_map_or (colours_of state.cells colours.cells) v []) (OfJob job number)
        → ⊥
    by None has = none_in (OfJob job number) has
    by (Some v) has = not_reached state.cells v job has

  pub new_unheld : (graph : Graph) (regions : Spot → Option Regions) (state : State)
      → ((p : Spot) → IsFrame (view_of graph regions state colours) p → HasHere colours p)
      → (job : ℕ) → IsUnheld (view_of graph regions state colours) (OfJob job number)
  new_unheld graph regions state heres job p Here h = not_here p (heres p h.frame) job h.holds
  new_unheld graph regions state heres job p (Register r) h =
      not_by state (frame_at state p) r job h.holds
