use Rattle.std.proofs.Common.{◌≡◌, ◌≤◌, ◌^◌, ◌*◌, ◌+◌, ◌-◌, get_or, arith, sym, ◌∙◌}
use Rattle.sw_scan.proofs.Digits.{digit_at}
use Rattle.sw_replay.proofs.Numbers.{number_from-zero, number_from-drop, grown_too_big, number_done}
use Rattle.sw_replay.proofs.runs.number_of.Goals as goal

pub loop-digit-init : goal.loop-digit-init
loop-digit-init c = (number_from-zero c.args.digits.now, omega arith)

pub returns-in_err-tens : goal.returns-in_err-tens
returns-in_err-tens c =
    let big : 2 ^ 32 ≤ c.loop-digit.number * 10 = omega (arith, c.in_err-tens.ensures) in
    c.from_residual.ensures
    ∙ sym
    (grown_too_big c.args.digits.now c.loop-digit.digit-index c.loop-digit.number
    (omega arith) c.loop-digit.invariant.0 (omega arith))

pub overflow_sub-digit : goal.overflow_sub-digit
overflow_sub-digit c =
    (digit_at c.args.digits.now c.loop-digit.digit-index c.requires (omega arith)).0

pub returns-in_err-number : goal.returns-in_err-number
returns-in_err-number c =
    let digit = digit_at c.args.digits.now c.loop-digit.digit-index c.requires (omega arith) in
    let big : 2 ^ 32
    ≤ c.loop-digit.number * 10 + (get_or c.args.digits.now c.loop-digit.digit-index 0 - 48) =
    omega (arith, c.in_err-number.ensures, c.in_ok-tens.ensures, c.from.ensures) in
    c.from_residual-in_err-number.ensures
    ∙ sym
    (grown_too_big c.args.digits.now c.loop-digit.digit-index c.loop-digit.number
    (omega arith) c.loop-digit.invariant.0 big)

pub loop-digit-preserved : goal.loop-digit-preserved
loop-digit-preserved c =
    let step =
    number_from-drop c.loop-digit.number c.args.digits.now c.loop-digit.digit-index (omega arith) in
    let more : c.in_ok-number.number
    ≡ c.loop-digit.number * 10 + (get_or c.args.digits.now c.loop-digit.digit-index 0 - 48) =
    omega (arith, c.in_ok-number.ensures, c.in_ok-tens.ensures, c.from.ensures) in
    (rw more (sym step ∙ c.loop-digit.invariant.0), omega (arith, c.in_ok-number.ensures))

pub returns : goal.returns
returns c =
    number_done c.args.digits.now c.loop-digit.digit-index c.loop-digit.number
    (omega arith) c.loop-digit.invariant.0 c.loop-digit.invariant.1
