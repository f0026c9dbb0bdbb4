use Rattle.std.proofs.Common.{◌≡◌, ◌≤◌, true, nat_le, ℕ, length, arith, rules}
use Rattle.std.proofs.lemmas.Bool.Decides.{nat_tests}
use Rattle.std.specs.List.{list_all}
use Rattle.sw_scan.specs.Classes.{is_digit}
use Rattle.sw_scan.specs.Decimal.{number_of}
use Rattle.sw_check_words.proofs.actors.actors_of.Goals as goal

passes : (a b : ℕ) → a ≤ b → nat_le a b ≡ true
passes a b h = grind (arith, nat_tests)

pub returns-then-number-le200-clause-value : goal.returns-then-number-le200-clause-value
returns-then-number-le200-clause-value c =
    let text = c.args.text.now in
    let digits : list_all is_digit text ≡ true = search (rules, c.are_digits.ensures) in
    let number : number_of text ≡ c.number_of-number.result = search rules in
    let some : 1 ≤ length text = search (arith, rules) in
    let few : length text ≤ 3 = search (arith, rules) in
    rw (
      digits,
      passes 1 (length text) some,
      passes (length text) 3 few,
      number,
      passes 1 c.number_of-number.result c.if-number-ge1.true,
      passes c.number_of-number.result 200 c.if-number-le200.true,
    ) (search rules)
