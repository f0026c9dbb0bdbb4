-- A search through rows of any type, and the search through their codes and texts.
use Rattle.std.proofs.Common.{◌≡◌, ◌==◌, ℕ, Bool, true, false, cond, List, [], ◌∷◌, Option, Some}
use Rattle.std.proofs.Common.{None, IsSome, find, map, option_map, refl}
use Rattle.sw_breach.specs.Codes.{text_in}

pub text_in-map : {Row : Type 0} (rows : List Row) (number : Row → ℕ) (text : Row → List ℕ)
    (code : ℕ)
    → option_map text (find (λ row. number row == code) rows)
    ≡ text_in (map (λ row. (number row, text row)) rows) code
text_in-map [] number text code = refl
text_in-map (row ∷ rows) number text code =
    by (number row == code) (text_in-map rows number text code) where
      by : (b : Bool)
          → option_map text (find (λ other. number other == code) rows)
          ≡ text_in (map (λ other. (number other, text other)) rows) code
          → option_map text (cond b (Some row) (find (λ other. number other == code) rows))
          ≡ cond b (Some (text row)) (text_in (map (λ other. (number other, text other)) rows) code)
      by true rest = refl
      by false rest = rest

-- where something is made of the value, there is a value
pub some-option_map : {A B : Type 0} (f : A → B) (o : Option A) → IsSome (option_map f o) → IsSome o
some-option_map f None is = is
some-option_map f (Some value) is = refl
