-- A search through rows of any type, and the one through their codes and what they have.
use Rattle.std.proofs.Common.{◌≡◌, ◌==◌, ℕ, Bool, true, false, cond, List, [], ◌∷◌, Option, Some, None, find, map}
use Rattle.std.proofs.Common.{option_map, refl}
use Rattle.sw_lsp_findings.specs.Sections.{found_in}

pub found_in-map : {Row A : Type 0} (rows : List Row) (number : Row → ℕ) (part : Row → A) (code : ℕ)
    → option_map part (find (λ row. number row == code) rows)
    ≡ found_in (map (λ row. (number row, part row)) rows) code
found_in-map [] number part code = refl
found_in-map {Row} {A} (row ∷ rows) number part code =
    by (number row == code) (found_in-map rows number part code) where
      by : (b : Bool)
          → option_map part (find (λ other. number other == code) rows)
          ≡ found_in (map (λ other. (number other, part other)) rows) code
          → option_map part (cond b (Some row) (find (λ other. number other == code) rows))
          ≡ cond b (Some (part row)) (found_in (map (λ other. (number other, part other)) rows) code)
      by true rest = refl
      by false rest = rest

-- one part of what is found is the same search for that part
pub found_part : {A B : Type 0} (rows : List (ℕ × A)) (part : A → B) (code : ℕ)
    → option_map part (found_in rows code) ≡ found_in (map (λ row. (row.0, part row.1)) rows) code
found_part [] part code = refl
found_part {A} {B} (row ∷ rows) part code =
    by (row.0 == code) (found_part rows part code) where
      by : (b : Bool)
          → option_map part (found_in rows code)
          ≡ found_in (map (λ other. (other.0, part other.1)) rows) code
          → option_map part (cond b (Some row.1) (found_in rows code))
          ≡ cond b (Some (part row.1)) (found_in (map (λ other. (other.0, part other.1)) rows) code)
      by true rest = refl
      by false rest = rest
