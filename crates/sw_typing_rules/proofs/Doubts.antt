-- A decided doubt leaves what is ill ill, and keeps what holds of rows.
use Rattle.std.proofs.Common.{◌≡◌, ℕ, Bool, true, false, ◌&&◌, List, [], ◌∷◌, Some, None, map, ap}
use Rattle.std.proofs.Common.{refl, ◌∙◌}
use Rattle.std.specs.List.{AllByRecursion}
use Rattle.sw_typing_rules.specs.Doubts.{decided}
use Rattle.sw_typing_rules.specs.Verdicts.{all_well, is_well}
use Rattle.sw_typing_rules.specs.declared.row.Row.{Row}
use Rattle.sw_typing_rules.specs.declared.row.Row.TheVariants.{Typed, Means, Ill}

pub decided_well : (valued : Bool) (row : Row) → is_well (decided valued row) ≡ is_well row
decided_well valued (Typed at ty) = refl
decided_well valued (Means at meaning) = refl
decided_well valued (Ill at code None) = refl
decided_well true (Ill at code (Some bare)) = refl
decided_well false (Ill at code (Some bare)) = refl

pub all_decided : (valued : Bool) (rows : List Row)
    → all_well (map (decided valued) rows) ≡ all_well rows
all_decided valued [] = refl
all_decided valued (row ∷ rows) =
    ap (λ one. one && all_well (map (decided valued) rows)) (decided_well valued row)
    ∙ ap (λ more. is_well row && more) (all_decided valued rows)

-- What holds of each row holds of what is said in the end, if it does of a row in doubt.
module _ (P : Row → Type 0) (keeps : (at code bare : ℕ) → P (Ill at code (Some bare))
    → P (Ill bare 402 None) × P (Ill at code None)) where
  decided_one : (valued : Bool) (row : Row) → P row → P (decided valued row)
  decided_one valued (Typed at ty) is = is
  decided_one valued (Means at meaning) is = is
  decided_one valued (Ill at code None) is = is
  decided_one true (Ill at code (Some bare)) is = (keeps at code bare is).0
  decided_one false (Ill at code (Some bare)) is = (keeps at code bare is).1

  pub decided_keep : (valued : Bool) (rows : List Row) → AllByRecursion P rows
      → AllByRecursion P (map (decided valued) rows)
  decided_keep valued [] are = tt
  decided_keep valued (row ∷ rows) are =
      (decided_one valued row are.0, decided_keep valued rows are.1)
