-- A frame that goes on at the beginning of a block is open.
use Rattle.std.specs.Option.{option_map}
use Rattle.std.specs.List.{slice_get}
use Rattle.std.proofs.Common.{◌≡◌, ◌+◌, ◌&&◌, ◌||◌, ◌<◌, ℕ, zero, suc, Bool, true, false, Option}
use Rattle.std.proofs.Common.{Some, None, List, [], ◌∷◌, ◌++◌, length, map, take, refl, sym, ap}
use Rattle.std.proofs.Common.{◌∙◌, arith, length-append}
use Rattle.std.proofs.lemmas.Bool.{and_right}
use Rattle.sw_list.proofs.ListLemmas.{some_injective, slice_get_after, slice_get_first}
use Rattle.sw_graph.specs.declared.function.Function.{Function}
use Rattle.sw_graph.specs.declared.graph.Graph.{Graph}
use Rattle.sw_graph.specs.declared.instr.Block.{Block}
use Rattle.sw_graph.specs.declared.instr.Last.{Last}
use Rattle.sw_graph.specs.Bodies.{is_own}
use Rattle.sw_graph.specs.Points.{Middle, End, block_start, point_in, points_of, points_of_block}
use Rattle.sw_value.proofs.ListLemmas.{slice_get_end}
use Rattle.sw_view_facts.specs.Views.{closes, closes_at, is_return, makes_itself}

-- directly before what follows some blocks stands the last of a block
last_before : (blocks : List Block) (n p : ℕ) → suc p ≡ length (points_of (take n blocks))
    → (l : Last) × (slice_get (points_of blocks) p ≡ Some (End l))
unfolding points_of
last_before [] zero p is = absurd (omega (arith, is))
last_before [] (suc n) p is = absurd (omega (arith, is))
last_before (b ∷ bs) zero p is = absurd (omega (arith, is))
last_before (b ∷ bs) (suc n) p is = by (length (points_of (take n bs))) refl
    (λ r. last_before bs n r) where
      sizes : length (points_of_block b ++ points_of (take n bs))
          ≡ length (points_of_block b) + length (points_of (take n bs))
      sizes = length-append (points_of_block b) (points_of (take n bs))

      size : length (points_of_block b) ≡ length (map Middle b.instrs) + 1
      size = length-append (map Middle b.instrs) (End b.last ∷ [])

      by : (rest : ℕ) → length (points_of (take n bs)) ≡ rest
          → ((r : ℕ) → suc r ≡ length (points_of (take n bs))
          → (l : Last) × (slice_get (points_of bs) r ≡ Some (End l)))
          → (l : Last) × (slice_get (points_of (b ∷ bs)) p ≡ Some (End l))
      by zero none further =
          let here : p ≡ length (map Middle b.instrs) = omega (arith, is, sizes, size, none) in
          let inside : p < length (points_of_block b) = omega (arith, here, size) in (
            b.last,
            slice_get_first (points_of_block b) (points_of bs) p inside
                ∙ ap (slice_get (points_of_block b)) here
                ∙ slice_get_end (map Middle b.instrs) (End b.last),
          )
      by (suc r) some further =
          let rest = further r (sym some) in
          let there : p ≡ length (points_of_block b) + r = omega (arith, is, sizes, some) in (
            rest.0,
            ap (slice_get (points_of_block b ++ points_of bs)) there
                ∙ slice_get_after (points_of_block b) (points_of bs) r ∙ rest.1,
          )

pub open_at_block : (graph : Graph) (function : Function) (n p : ℕ)
    → block_start function n ≡ Some p → closes_at graph function p ≡ false
open_at_block graph function n p begins = by p (start (slice_get function.blocks n) begins) where
  start : (o : Option Block)
      → option_map (λ (block : Block). length (points_of (take n function.blocks))) o ≡ Some p
      → p ≡ length (points_of (take n function.blocks))
  start None e = cc
  start (Some block) e = sym (some_injective e)

  nothing : (b : Bool) → ((b && false) || false) ≡ false
  nothing true = refl
  nothing false = refl

  by : (k : ℕ) → k ≡ length (points_of (take n function.blocks))
      → closes_at graph function k ≡ false
  by zero at = refl
  by (suc k) at =
      let before = last_before function.blocks n k at in
      ap (closes graph function (point_in function (suc k))) before.1
      ∙ and_right (is_return (point_in function (suc k)))
      (makes_itself graph function (End before.0)) (nothing (is_own function.iso))
