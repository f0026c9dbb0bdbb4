use Rattle.std.proofs.Common.{◌≡◌, drop, is_none}
use Rattle.std.specs.List.{list_all}
use Rattle.sw_typing_rules.specs.declared.verdict.Given.{Given}
use Rattle.sw_typing_words.proofs.arguments.no_labels.Given as goal

abbrev pub invariant-loop-one : goal.invariant-loop-one
invariant-loop-one l = list_all (λ (one : Given). is_none one.label) l.given
    ≡ list_all (λ (one : Given). is_none one.label) (drop l.one-index l.given)
