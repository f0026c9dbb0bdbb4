-- Each of the digits is one of the bytes 48 to 57.
use Rattle.std.proofs.Common.{◌≡◌, ℕ, ◌<◌, ◌≤◌, true, List, length, get_or, arith}
use Rattle.std.specs.List.{list_all}
use Rattle.std.proofs.lemmas.Bool.Decides.{nat_tests}
use Rattle.std.proofs.lemmas.List.Sums.{AllPass-from_list_all}
use Rattle.sw_scan.specs.Classes.{is_digit}

pub digit_at : (digits : List ℕ) (n : ℕ) → list_all is_digit digits ≡ true → n < length digits
    → (48 ≤ get_or digits n 0) × (get_or digits n 0 ≤ 57)
unfolding is_digit
digit_at digits n passes inside =
    let this = AllPass-from_list_all is_digit digits passes n 0 inside in
    (grind (arith, nat_tests), grind (arith, nat_tests))
