-- What the least annotation of a function of a graph says, point by point.
use Rattle.std.proofs.Common.{◌≡◌, ℕ, ◌+◌, Option, Some, List, length, subst, ap, ◌∙◌, false, []}
use Rattle.std.specs.Option.{option_map_or}
use Rattle.std.specs.List.{slice_get}
use Rattle.sw_list.proofs.ListLemmas.{at_index}
use Rattle.sw_graph.specs.declared.function.Function.{Function}
use Rattle.sw_graph.specs.declared.graph.Graph.{Graph}
use Rattle.sw_graph.specs.declared.instr.Instr.{Instr}
use Rattle.sw_graph.specs.declared.instr.Last.{Last}
use Rattle.sw_graph.specs.Limits.{IsWithinLimits}
use Rattle.sw_graph.specs.Mentions.{blocks_of}
use Rattle.sw_graph.specs.Points.{Point, Middle, End, point_in, block_start}
use Rattle.sw_graph.specs.Sure.{SureWay}
use Rattle.sw_owner_facts.specs.View.{Here, Register}
use Rattle.sw_partition.specs.Regions.{Regions, size_of, IsSameState, IsWithin}
use Rattle.sw_region_flow.specs.Least.{point_ops_at, IsLeast}
use Rattle.sw_region_flow.specs.Passing.{IsPassed}
use Rattle.sw_region_flow.specs.Walks.{Walks, IsCopy}
use Rattle.sw_region_ops.specs.Elements.{elements_of, element_at}
use Rattle.sw_region_ops.specs.Setting.{FunctionSetting, setting_of}
use Rattle.sw_region_ops.specs.Table.{point_ops, instr_ops}
use Rattle.sw_solve.specs.Annotation.{value_at}
use Rattle.sw_region_facts.specs.Annotated.{Annotates, StandsAt}
use Rattle.sw_region_facts.specs.FrameRegions.{HaveOwnNumbers, IsStateOf, IsWeaker, TogetherIn}
use Rattle.sw_region_facts.specs.Rows.{InstrMoves, LastAsks}
use Rattle.sw_region_facts.proofs.Between.{moves_between}
use Rattle.sw_region_facts.proofs.Doing.{Done}
use Rattle.sw_region_facts.proofs.Entry.{lent_at_entry}
use Rattle.sw_region_facts.proofs.Follows.{are_there}
use Rattle.sw_region_facts.proofs.Lasts.{last_asks, asks_behind}
use Rattle.sw_region_facts.proofs.LeastMade.{least_is_made}
use Rattle.sw_region_facts.proofs.Points.{own_numbers, state_sized, stepped, leads_on, follows_on}
use Rattle.sw_region_facts.proofs.Points.{follows_to, way_has_state}
use Rattle.sw_region_facts.proofs.Rows.{instr_moves}
use Rattle.sw_region_facts.proofs.Weaker.{weaker_same, weaker_within, weaker_on}
use Rattle.sw_region_facts.proofs.Calling.{done_sized}
use Rattle.sw_partition.specs.Laws.{within_both, same_within}

pub annotation_of : (graph : Graph) → IsPassed graph → (number : ℕ) (body : Function)
    → slice_get graph.functions number ≡ Some body → (states : List (Option Regions))
    → IsLeast (setting_of graph body) states → Annotates graph body states
annotation_of graph passed number body is states least = record {
  number = number;
  is = is;
  least = least;
  passes = passed.passes number body is states least;
}

pub annotated : (graph : Graph) → IsPassed graph → (number : ℕ) (body : Function)
    → slice_get graph.functions number ≡ Some body
    → (states : List (Option Regions)) × Annotates graph body states
annotated graph passed number body is =
    let found = passed.annotated number body is in
    (found.0, annotation_of graph passed number body is found.0 found.1)

pub numbers_of_registers : (graph : Graph) (number : ℕ) (body : Function)
    → slice_get graph.functions number ≡ Some body
    → HaveOwnNumbers (elements_of graph.shapes body.regs)
numbers_of_registers graph number body is = own_numbers graph.shapes body.regs
    (at_index IsWithinLimits graph.functions number body graph.well_formed.limits is).registers

-- the operations at a point are those of what stands there
ops_here : (setting : FunctionSetting) (p : ℕ) (point : Point)
    → point_in setting.body p ≡ Some point → point_ops_at setting p ≡ point_ops setting point
unfolding point_ops_at
ops_here setting p point here = ap (λ o. option_map_or (point_ops setting) o []) here

module _ (graph : Graph) (body : Function) (states : List (Option Regions))
    (annotates : Annotates graph body states) where
  abbrev setting : FunctionSetting
  setting = setting_of graph body

  abbrev elements : List (Option ℕ)
  elements = elements_of graph.shapes body.regs

  own : HaveOwnNumbers elements
  own = numbers_of_registers graph annotates.number body annotates.is

  pub sized_at : (p : ℕ) (a : Regions) → value_at states p ≡ Some a → IsStateOf elements a
  sized_at p a at = state_sized setting states annotates.least p a at

  pub reached_at : (p : ℕ) (passed : List ℕ) → SureWay body p passed
      → (a : Regions) × (value_at states p ≡ Some a)
  reached_at p passed way = way_has_state setting states annotates.least p passed way

  pub lent_here : (e : Regions) → value_at states 0 ≡ Some e → (k x : ℕ)
      → slice_get body.sending k ≡ Some false → element_at elements k ≡ Some x
      → TogetherIn elements e (Register k) Here
  lent_here e stands = lent_at_entry setting states annotates.least e stands

  -- the operations at a point pass in a copy of the state there
  record PassesAt (p : ℕ) (a : Regions) (point : Point) : Type 0 where
    pub copied : Regions
    pub sized : IsStateOf elements copied
    pub weaker : IsWeaker elements a copied
    pub made : Regions
    pub walks : Walks (point_ops_at setting p) a made
    pub done : Done (point_ops setting point) copied made

  passes_at : (p : ℕ) (a : Regions) (at : value_at states p ≡ Some a) (point : Point)
      → point_in body p ≡ Some point → PassesAt p a point
  passes_at p a at point here =
      let step = stepped setting states annotates.least p a at in
      let copied = step.leads_to.copied in
      let a_sized = sized_at p a at in
      record {
        copied = copied;
        sized = copy_sized a copied step.leads_to.is_copy a_sized;
        weaker = weaker_same elements own a copied a_sized step.leads_to.is_copy.same;
        made = step.made;
        walks = step.leads_to;
        done = subst (λ ops. Done ops copied step.made) (ops_here setting p point here) (record {
          runs = step.leads_to.runs;
          passes = annotates.passes p a copied at step.leads_to.is_copy;
        });
      }
    where
      copy_sized : (a copied : Regions) → IsCopy a copied → IsStateOf elements a
          → IsStateOf elements copied
      copy_sized a copied copy sized = same_length copy.sized ∙ sized where
        same_length : size_of copied ≡ size_of a → length copied.labels ≡ length a.labels
        same_length same = cc

  -- ---- an instruction
  module _ (p : ℕ) (instr : Instr) (here : point_in body p ≡ Some (Middle instr)) (a : Regions)
      (at : value_at states p ≡ Some a) where
    pub next_state : StandsAt states (p + 1) (λ c. (made : Regions)
        → Walks (point_ops_at setting p) a made → IsSameState made c)
    next_state =
        let there = leads_on setting states annotates.least p (p + 1) a at
        (follows_on setting states annotates.least p instr here) in
        record {
          state = there.state;
          stands = there.stands;
          is = least_is_made setting states annotates.least own.are.within
              (are_there graph annotates.number body annotates.is) p instr here a there.state at
              there.stands;
        }

    pub row_at : StandsAt states (p + 1) (InstrMoves setting instr a)
    row_at =
        let next = next_state in
        let passes = passes_at p a at (Middle instr) here in
        let same = next.is passes.made passes.walks in
        let made_sized = done_sized elements (instr_ops setting instr) passes.copied passes.made
        passes.done passes.sized in
        record {
          state = next.state;
          stands = next.stands;
          is = moves_between setting a passes.copied passes.weaker passes.made next.state
              (weaker_same elements own passes.made next.state made_sized same)
              (weaker_same elements own next.state passes.made (sized_at (p + 1) next.state next.stands)
              (within_both next.state passes.made (same_within passes.made next.state same).1
              (same_within passes.made next.state same).0)) instr
              (instr_moves setting own passes.copied passes.sized passes.made instr passes.done);
        }

  -- ---- the last instruction of a block
  module _ (p : ℕ) (last : Last) (here : point_in body p ≡ Some (End last)) (a : Regions)
      (at : value_at states p ≡ Some a) where
    pub asks_at : LastAsks setting last a
    asks_at =
        let passes = passes_at p a at (End last) here in
        asks_behind setting a passes.copied passes.weaker last
        (last_asks setting own passes.copied passes.sized passes.made last passes.done).1

    pub goes_on : (k block q : ℕ) → slice_get (blocks_of last) k ≡ Some block
        → block_start body block ≡ Some q → StandsAt states q (IsWeaker elements a)
    unfolding passes_at
    goes_on k block q is starts =
        let passes = passes_at p a at (End last) here in
        let stays = (last_asks setting own passes.copied passes.sized passes.made last passes.done).0
        in
        let there = leads_on setting states annotates.least p q a at
        (follows_to setting states annotates.least p last k block q here is starts) in
        record {
          state = there.state;
          stands = there.stands;
          is = weaker_on elements a passes.copied there.state passes.weaker
              (weaker_within elements own passes.copied there.state passes.sized
              (subst (λ m. IsWithin m there.state) stays there.is));
        }
