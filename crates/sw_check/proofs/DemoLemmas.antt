-- The items by which generated programs are replayed are no more than a schedule may have.
use Rattle.std.proofs.Common.{◌≡◌, ℕ, zero, suc, ◌+◌, ◌*◌, ◌≤◌, List, [], ◌∷◌, ◌++◌, length}
use Rattle.std.proofs.Common.{flat_map, arith, refl}
use Rattle.std.specs.List.{range_with_len}
use Rattle.sw_gen.specs.Schedule.{runs, turn}
use Rattle.sw_replay.specs.declared.items.TheConstants.{MAX_ITEMS}
use Rattle.sw_replay.specs.Items.{written_out}
use Rattle.sw_check.specs.Reply.{demo_items}

-- each turn has forty items
turns_written : (last : List (ℕ × ℕ)) (first n : ℕ)
    → length (written_out (flat_map turn (range_with_len first n) ++ last))
    ≡ 40 * n + length (written_out last)
turns_written last first zero = omega arith
turns_written last first (suc n) =
    let others = turns_written last (first + 1) n in omega (arith, others)

pub few_items : (actors : ℕ) → actors ≤ 200 → length (demo_items actors) ≤ MAX_ITEMS
unfolding runs
few_items actors few =
    let last : length (written_out ((0, 20) ∷ [])) ≡ 20 = refl in
    omega (arith, few, last, turns_written ((0, 20) ∷ []) 1 actors)
