-- What the least annotation of a function says of the points that control comes to.
use Rattle.std.proofs.Common.{◌≡◌, ℕ, zero, suc, ◌+◌, ◌≤◌, Option, Some, None, List, [], ◌∷◌}
use Rattle.std.proofs.Common.{length, Contains, map, refl, sym, subst, ap, ◌∙◌, arith, IfSome, take}
use Rattle.std.proofs.Common.{Bool, true, false, cond}
use Rattle.std.specs.Option.{option_map, option_map_or}
use Rattle.std.specs.List.{slice_get}
use Rattle.std.proofs.lemmas.Option.{slice_get-map}
use Rattle.sw_list.proofs.ListLemmas.{some_injective}
use Rattle.sw_list.proofs.Members.{first_in, member_at}
use Rattle.sw_types.specs.declared.shape.Shape.{Shape}
use Rattle.sw_graph.specs.declared.function.RegKind.{RegKind}
use Rattle.sw_graph.specs.declared.function.TheConstants.{MAX_REGISTERS}
use Rattle.sw_graph.specs.declared.instr.Block.{Block}
use Rattle.sw_graph.specs.declared.instr.Instr.{Instr}
use Rattle.sw_graph.specs.declared.instr.Last.{Last}
use Rattle.sw_graph.specs.Mentions.{blocks_of}
use Rattle.sw_graph.specs.Points.{Middle, End, point_in, points_of, block_start}
use Rattle.sw_graph.specs.Sure.{SureWay, begin, further, SureLeads, on, to}
use Rattle.sw_partition.specs.Regions.{Regions, size_of, IsWithin}
use Rattle.sw_region_flow.specs.Least.{point_ops_at, followers, following, first_point, IsLeast}
use Rattle.sw_region_ops.specs.Elements.{elements_of, numbered, element_at, is_tracked, element_count}
use Rattle.sw_region_ops.specs.Setting.{FunctionSetting}
use Rattle.sw_region_ops.proofs.ContextLemmas.{numbered_between, are_elements}
use Rattle.sw_solve.specs.Annotation.{value_at, IsBelow, IsPassedOn}
use Rattle.sw_region_facts.specs.FrameRegions.{HaveOwnNumbers, IsStateOf}
use Rattle.sw_region_facts.specs.Annotated.{StandsAt}
use Rattle.sw_region_flow.specs.Walks.{Walks}

-- ---- registers have numbers of their own
numbers_differ : (shapes : List Shape) (n : ℕ) (kinds : List RegKind) (r s x : ℕ)
    → element_at (numbered shapes n kinds) r ≡ Some x
    → element_at (numbered shapes n kinds) s ≡ Some x → r ≡ s
numbers_differ shapes n [] r s x one other = cc
numbers_differ shapes n (kind ∷ kinds) r s x one other =
    by (is_tracked shapes kind) r s one other (λ m i k. numbers_differ shapes m kinds i k x)
  where
    above : (m k : ℕ) → element_at (numbered shapes m kinds) k ≡ Some x → m ≤ x
    above m k e = (numbered_between shapes m kinds k x e).0

    by : (tracked : Bool) (r s : ℕ)
        → element_at (cond tracked (Some n ∷ numbered shapes (n + 1) kinds)
        (None ∷ numbered shapes n kinds)) r ≡ Some x
        → element_at (cond tracked (Some n ∷ numbered shapes (n + 1) kinds)
        (None ∷ numbered shapes n kinds)) s ≡ Some x
        → ((m i k : ℕ) → element_at (numbered shapes m kinds) i ≡ Some x
        → element_at (numbered shapes m kinds) k ≡ Some x → i ≡ k) → r ≡ s
    by true zero zero one other rest = refl
    by true zero (suc s) one other rest =
        let same : n ≡ x = some_injective one in
        let low = above (n + 1) s other in absurd (omega (arith, same, low))
    by true (suc r) zero one other rest =
        let same : n ≡ x = some_injective other in
        let low = above (n + 1) r one in absurd (omega (arith, same, low))
    by true (suc r) (suc s) one other rest = ap suc (rest (n + 1) r s one other)
    by false zero s one other rest = cc
    by false (suc r) zero one other rest = cc
    by false (suc r) (suc s) one other rest = ap suc (rest n r s one other)

pub own_numbers : (shapes : List Shape) (kinds : List RegKind) → length kinds ≤ MAX_REGISTERS
    → HaveOwnNumbers (elements_of shapes kinds)
own_numbers shapes kinds few =
    record { are = are_elements shapes kinds few; apart = numbers_differ shapes 1 kinds }

-- ---- the state at a point, and those at the points that follow
stands_below : (states : List (Option Regions)) (p : ℕ) (a : Regions)
    → IsBelow IsWithin a (value_at states p) → StandsAt states p (IsWithin a)
stands_below states p a below = by (value_at states p) refl below where
  by : (o : Option Regions) → value_at states p ≡ o → IsBelow IsWithin a o
      → StandsAt states p (IsWithin a)
  by None at below = absurd below
  by (Some c) at below = record { state = c; stands = at; is = below }

module _ (setting : FunctionSetting) (states : List (Option Regions)) (least : IsLeast setting states)
  where
    pub size_at : (p : ℕ) (a : Regions) → value_at states p ≡ Some a
        → size_of a ≡ element_count setting.elements ∷ least.sites
    size_at p a at = subst (λ o. IfSome o (λ x. size_of x ≡ element_count setting.elements
        ∷ least.sites)) at (least.closed.sized p)

    pub state_sized : (p : ℕ) (a : Regions) → value_at states p ≡ Some a
        → IsStateOf setting.elements a
    state_sized p a at = heads (size_at p a at) where
      heads : size_of a ≡ element_count setting.elements ∷ least.sites
          → IsStateOf setting.elements a
      heads same = cc

    -- the operations at a point with a state, and what they make
    pub stepped : (p : ℕ) (a : Regions) → value_at states p ≡ Some a
        → IsPassedOn IsWithin (λ q. Walks (point_ops_at setting q)) (followers setting.body.blocks)
        states p a
    stepped p a at = least.closed.stepped p a at

    pub leads_on : (p q : ℕ) (a : Regions) (at : value_at states p ≡ Some a)
        → Contains (followers setting.body.blocks p) q
        → StandsAt states q (IsWithin (stepped p a at).made)
    leads_on p q a at follows =
        stands_below states q (stepped p a at).made ((stepped p a at).below q follows)

    -- ---- each point that a way leads to has a state
    pub follows_on : (p : ℕ) (instr : Instr) → point_in setting.body p ≡ Some (Middle instr)
        → Contains (followers setting.body.blocks p) (p + 1)
    unfolding followers
    follows_on p instr here =
        subst (λ o. Contains (option_map_or (following setting.body.blocks p) o []) (p + 1))
        (sym here) (first_in (p + 1) [])

    pub follows_to : (p : ℕ) (last : Last) (k block q : ℕ)
        → point_in setting.body p ≡ Some (End last) → slice_get (blocks_of last) k ≡ Some block
        → block_start setting.body block ≡ Some q → Contains (followers setting.body.blocks p) q
    unfolding followers first_point
    follows_to p last k block q here at starts =
        subst (λ o. Contains (option_map_or (following setting.body.blocks p) o []) q) (sym here)
        (member_at (map (first_point setting.body.blocks) (blocks_of last)) k q
        (slice_get-map (first_point setting.body.blocks) (blocks_of last) k
        ∙ ap (option_map (first_point setting.body.blocks)) at
        ∙ ap Some (started (slice_get setting.body.blocks block) starts)))
      where
        started : (o : Option Block)
            → option_map (λ _. length (points_of (take block setting.body.blocks))) o ≡ Some q
            → length (points_of (take block setting.body.blocks)) ≡ q
        started None same = cc
        started (Some b) same = some_injective same

    follows : (p q : ℕ) → SureLeads setting.body p q → Contains (followers setting.body.blocks p) q
    follows p q (on a instr here) = follows_on a instr here
    follows p q (to a last k block c here at starts may) = follows_to a last k block c here at starts

    pub way_has_state : (q : ℕ) (passed : List ℕ)
        → SureWay setting.body q passed → (a : Regions) × (value_at states q ≡ Some a)
    way_has_state q passed begin =
        let there = stands_below states 0 least.closed.entry least.closed.entered in
        (there.state, there.stands)
    way_has_state q passed (further p r before way leads) =
        let at = way_has_state p before way in
        let there = leads_on p r at.0 at.1 (follows p r leads) in
        (there.state, there.stands)
