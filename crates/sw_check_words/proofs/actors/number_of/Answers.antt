use Rattle.std.proofs.Common.{◌<◌, ◌-◌, ◌+◌, ◌*◌, ◌^◌, get_or, arith, refl, add-one}
use Rattle.std.proofs.lemmas.List.Sums.{fold_more}
use Rattle.sw_scan.specs.Decimal.{number_of}
use Rattle.sw_scan.proofs.Digits.{digit_at}
use Rattle.sw_check_words.proofs.actors.number_of.Goals as goal

pub loop-digit-init : goal.loop-digit-init
unfolding number_of
loop-digit-init c = (refl, omega arith)

pub overflow_sub-digit : goal.overflow_sub-digit
overflow_sub-digit c =
    (digit_at c.args.digits.now c.loop-digit.digit-index c.requires.digits (omega arith)).0

pub loop-digit-preserved : goal.loop-digit-preserved
unfolding number_of
loop-digit-preserved c =
    let i = c.loop-digit.digit-index in
    let number = c.loop-digit.number in
    let digit = get_or c.args.digits.now i 0 in
    let within = digit_at c.args.digits.now i c.requires.digits (omega arith) in
    let step = fold_more (λ number digit. number * 10 + (digit - 48)) 0 c.args.digits.now i 0
    (omega arith) in
    let next : number * 10 + (digit - 48) < 10 ^ (i + 1) =
    rw add-one (omega (arith, c.loop-digit.invariant.1, within)) in
    (rw (step, ← c.loop-digit.invariant.0) (search (arith, c.from.ensures)), rw c.from.ensures next)
