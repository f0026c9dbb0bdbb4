-- The point after an instruction follows that instruction alone.
use Rattle.std.proofs.Common.{All, ◌≡◌, ℕ, zero, suc, ◌+◌, ◌<◌, Option, Some, None, [], length}
use Rattle.std.proofs.Common.{Contains, map, sym, subst, ap, ◌∙◌, arith, inl, inr, refl}
use Rattle.std.specs.Option.{option_map, option_map_or}
use Rattle.std.specs.List.{slice_get}
use Rattle.std.proofs.lemmas.Bool.{cases_lt}
use Rattle.std.proofs.lemmas.List.Elements.{All-contains}
use Rattle.std.proofs.lemmas.Option.{slice_get-map}
use Rattle.sw_list.proofs.ListLemmas.{some_injective, at_index}
use Rattle.sw_list.proofs.Members.{none_in, one_in, stands_at, member_at}
use Rattle.sw_graph.specs.declared.function.Function.{Function}
use Rattle.sw_graph.specs.declared.graph.Graph.{Graph}
use Rattle.sw_graph.specs.declared.instr.Block.{Block}
use Rattle.sw_graph.specs.declared.instr.Instr.{Instr}
use Rattle.sw_graph.specs.declared.instr.Last.{Last}
use Rattle.sw_graph.specs.Mentions.{blocks_of}
use Rattle.sw_graph.specs.Points.{Point, Middle, End, point_in, points_of, points_of_block}
use Rattle.sw_graph.specs.WellFormed.{BlockFits, FunctionFits}
use Rattle.sw_graph.proofs.PointLemmas.{length-points_of_block}
use Rattle.sw_region_flow.specs.Least.{followers, following, first_point}
use Rattle.sw_region_flow.proofs.Places as places

-- what ends a block names blocks that are there
abbrev pub AreThere : Function → Type 0
AreThere body = (p : ℕ) (last : Last) → point_in body p ≡ Some (End last) → (b : ℕ)
    → Contains (blocks_of last) b → b < length body.blocks

-- the point of a block that is an end is its last
end_of_block : (block : Block) (k : ℕ) (last : Last) → k < length (points_of_block block)
    → slice_get (points_of_block block) k ≡ Some (End last) → block.last ≡ last
end_of_block block k last inside at = elim (cases_lt k (length block.instrs)) [
  | inl before ↦
      let instr = places.instr_at block k before in
      let clash : Some (Middle instr.0) ≡ Some (End last) = sym instr.1 ∙ at in
      absurd (let nothing : ⊥ = cc in nothing)
  | inr past ↦
      let length_is = length-points_of_block block in
      let same : Some (End block.last) ≡ Some (End last) =
      sym (places.last_at block k (omega (arith, past, inside, length_is))) ∙ at in
      (let is : block.last ≡ last = cc in is)
]

pub are_there : (graph : Graph) (number : ℕ) (body : Function)
    → slice_get graph.functions number ≡ Some body → AreThere body
are_there graph number body is p last here b has =
    let place = places.place_of body.blocks p (End last) here in
    let fits = at_index (FunctionFits graph.shapes graph.globals graph.functions) graph.functions
    number body graph.well_formed.each is in
    let block_fits = at_index (BlockFits graph.shapes graph.globals graph.functions body)
    body.blocks place.0 place.2 fits.blocks place.3 in
    All-contains (λ n. n < length body.blocks) (blocks_of last) b
    (subst (λ l. All (λ n. n < length body.blocks) (blocks_of l))
    (end_of_block place.2 place.1 last place.4 place.6) block_fits.last.blocks_in) has

module _ (body : Function) (there : AreThere body) (p : ℕ) (instr : Instr)
    (here : point_in body p ≡ Some (Middle instr)) where
  -- no block begins there
  begins_none : (b : ℕ) → b < length body.blocks → first_point body.blocks b ≡ p + 1 → ⊥
  begins_none zero lt is = let z = places.first_zero body.blocks in omega (arith, z, is)
  begins_none (suc b) lt is =
      let found = places.element_at body.blocks b (omega (arith, lt)) in
      let count = places.count_is body.blocks b found.0 found.1 in
      let length_is = length-points_of_block found.0 in
      let next = places.first_next body.blocks b in
      let place : first_point body.blocks b + length found.0.instrs ≡ p =
      omega (arith, is, count, length_is, next) in
      let end = places.point_is body.blocks b (length found.0.instrs) found.0 found.1
      (omega (arith, length_is)) ∙ places.last_at found.0 (length found.0.instrs) refl in
      let clash : Some (Middle instr) ≡ Some (End found.0.last) =
      sym here ∙ ap (slice_get (points_of body.blocks)) (sym place) ∙ end in
      cc

  pub only_before : (q : ℕ) → Contains (followers body.blocks q) (p + 1) → q ≡ p
  unfolding followers
  only_before q has = by (slice_get (points_of body.blocks) q) refl where
    last_case : (last : Last) → slice_get (points_of body.blocks) q ≡ Some (End last)
        → Contains (map (first_point body.blocks) (blocks_of last)) (p + 1) → q ≡ p
    last_case last at follows =
        let stands = stands_at (map (first_point body.blocks) (blocks_of last)) (p + 1) follows in
        pick stands.0 (slice_get (blocks_of last) stands.0) refl
        (sym (slice_get-map (first_point body.blocks) (blocks_of last) stands.0) ∙ stands.1)
      where
        pick : (k : ℕ) → (o : Option ℕ) → slice_get (blocks_of last) k ≡ o
            → option_map (first_point body.blocks) o ≡ Some (p + 1) → q ≡ p
        pick k None e is = cc
        pick k (Some b) e is = absurd (begins_none b
            (there q last at b (member_at (blocks_of last) k b e)) (some_injective is))

    by : (o : Option Point) → slice_get (points_of body.blocks) q ≡ o → q ≡ p
    by None at = absurd (none_in (p + 1) (subst (λ l. Contains l (p + 1))
        (ap (λ o. option_map_or (following body.blocks q) o []) at) has))
    by (Some (Middle other)) at =
        let one = one_in (q + 1) (p + 1) (subst (λ l. Contains l (p + 1))
        (places.followers_of body.blocks q (Middle other) at) has) in
        omega (arith, one)
    by (Some (End last)) at = last_case last at
        (subst (λ l. Contains l (p + 1)) (places.followers_of body.blocks q (End last) at) has)
