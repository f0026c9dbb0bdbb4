use Rattle.std.proofs.Common.{◌≡◌, ◌++◌, ℕ, None, drop, map}
use Rattle.sw_typing_rules.specs.declared.row.Row.TheVariants.{Ill}
use Rattle.sw_typing_steps.proofs.stmts.note_places.Given as goal

-- what is noted so far, and of the places that are left
abbrev pub invariant-loop-at : goal.invariant-loop-at
invariant-loop-at l = l.rows ++ map (λ (at : ℕ). Ill at 402 None) (drop l.at-index l.places)
    ≡ l.fn.rows ++ map (λ (at : ℕ). Ill at 402 None) l.places
