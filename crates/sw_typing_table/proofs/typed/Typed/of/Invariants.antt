use Rattle.std.proofs.Common.{◌≡◌, ℕ, nat_eq}
use Rattle.indexmap.specs.IndexMap.{get}
use Rattle.sw_typing_table.specs.Typed.{meaning_in, type_in}
use Rattle.sw_typing_table.proofs.typed.Typed.of.Given as goal

-- what the rows so far say
abbrev pub invariant-loop-row : goal.invariant-loop-row
invariant-loop-row l =
    ((key : ℕ) → get nat_eq l.typed.types key ≡ type_in l.yielded key)
    × ((key : ℕ) → get nat_eq l.typed.meanings key ≡ meaning_in l.yielded key)
