-- How long a generated program is at most: three bytes for each byte of a template, since a number
-- has three digits at most.
use Rattle.std.proofs.Common.{◌≡◌, ◌==◌, ℕ, zero, suc, ◌+◌, ◌*◌, ◌≤◌, Bool, true, false}
use Rattle.std.proofs.Common.{List, [], ◌∷◌, ◌++◌, length, flat_map, decimal, refl, arith}
use Rattle.std.proofs.Common.{length-append}
use Rattle.std.proofs.lemmas.Fmt.{length-decimal-le}
use Rattle.std.specs.List.{range_with_len}
use Rattle.sw_gen.specs.Program.{block, call, entry_end, entry_start, filled, piece, program}

piece_short : (digits : List ℕ) (byte : ℕ) → length digits ≤ 3 → length (piece digits byte) ≤ 3
piece_short digits byte few = by (byte == 35) refl where
  by : (is : Bool) → (byte == 35) ≡ is → length (piece digits byte) ≤ 3
  by true is = rw is few
  by false is = rw is (omega arith)

pieces_short : (digits template : List ℕ) → length digits ≤ 3
    → length (flat_map (piece digits) template) ≤ 3 * length template
pieces_short digits [] few = omega arith
pieces_short digits (byte ∷ template) few =
    let one = piece_short digits byte few in
    let others = pieces_short digits template few in
    omega (arith, length-append (piece digits byte) (flat_map (piece digits) template), one, others)

filled_short : (template : List ℕ) (number : ℕ) → number ≤ 200
    → length (filled template number) ≤ 3 * length template
filled_short template number few =
    pieces_short (decimal number) template
    (length-decimal-le 3 number (omega arith) (omega (arith, few)) (omega (arith, few)))

blocks_short : (first n : ℕ) → first + n ≤ 201
    → length (flat_map (filled block) (range_with_len first n)) ≤ 552 * n
blocks_short first zero few = omega arith
blocks_short first (suc n) few =
    let one : length (filled block first) ≤ 552 = filled_short block first (omega (arith, few)) in
    let others = blocks_short (first + 1) n (omega (arith, few)) in
    omega (
      arith,
      length-append (filled block first)
          (flat_map (filled block) (range_with_len (first + 1) n)),
      one,
      others,
    )

calls_short : (first n : ℕ) → first + n ≤ 201
    → length (flat_map (filled call) (range_with_len first n)) ≤ 45 * n
calls_short first zero few = omega arith
calls_short first (suc n) few =
    let one : length (filled call first) ≤ 45 = filled_short call first (omega (arith, few)) in
    let others = calls_short (first + 1) n (omega (arith, few)) in
    omega (
      arith,
      length-append (filled call first)
          (flat_map (filled call) (range_with_len (first + 1) n)),
      one,
      others,
    )

pub program_short : (n : ℕ) → n ≤ 200 → length (program n) ≤ 600 * n + 70
unfolding program
program_short n few =
    let blocks = flat_map (filled block) (range_with_len 1 n) in
    let calls = flat_map (filled call) (range_with_len 1 n) in
    let start : length entry_start ≤ 50 = omega arith in
    let end : length entry_end ≤ 10 = omega arith in
    omega (
      arith,
      blocks_short 1 n (omega (arith, few)),
      calls_short 1 n (omega (arith, few)),
      start,
      end,
      length-append blocks (entry_start ++ (calls ++ entry_end)),
      length-append entry_start (calls ++ entry_end),
      length-append calls entry_end,
    )
