use Rattle.std.proofs.Common.{◌≡◌, drop}
use Rattle.std.specs.List.{list_all}
use Rattle.sw_typing_rules.specs.Calls.{printable_type}
use Rattle.sw_typing_rules.specs.declared.verdict.Given.{Given}
use Rattle.sw_typing_words.proofs.arguments.all_printable.Given as goal

abbrev pub invariant-loop-one : goal.invariant-loop-one
invariant-loop-one l = list_all (λ (one : Given). printable_type one.ty) l.given
    ≡ list_all (λ (one : Given). printable_type one.ty) (drop l.one-index l.given)
