use Rattle.std.proofs.Common.{◌≡◌, drop}
use Rattle.sw_typing_rules.specs.Calls.{all_typed}
use Rattle.sw_typing_words.proofs.arguments.all_typed.Given as goal

abbrev pub invariant-loop-one : goal.invariant-loop-one
invariant-loop-one l = all_typed l.given ≡ all_typed (drop l.one-index l.given)
