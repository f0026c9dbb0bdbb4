use Rattle.std.proofs.Common.{◌≡◌, ◌-◌, ◌^◌, min, take}
use Rattle.sw_token.specs.Literals.{number_in}
use Rattle.sw_token.proofs.literals.Literal.number_in.Given as goal

abbrev pub invariant-loop-digit : goal.invariant-loop-digit
invariant-loop-digit l =
    l.number ≡ min (number_in l.self (take l.digit-index l.digits)) (2 ^ 64 - 1)
