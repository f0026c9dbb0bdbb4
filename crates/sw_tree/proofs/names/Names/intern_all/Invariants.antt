use Rattle.std.proofs.Common.{◌≡◌, ◌+◌, ◌≤◌, length, map, drop}
use Rattle.sw_tree.specs.Names.{with_texts}
use Rattle.sw_tree.proofs.names.Names.intern_all.Given as goal

abbrev pub invariant-loop-text : goal.invariant-loop-text
invariant-loop-text l =
    (with_texts l.self (map (λ text. text.now) (drop l.text-index l.texts)) ≡ with_texts
    l.initial.self (map (λ text. text.now) l.texts))
    × (length l.self ≤ length l.initial.self + l.text-index)
