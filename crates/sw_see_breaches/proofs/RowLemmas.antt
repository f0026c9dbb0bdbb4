-- Rows of codes and texts.
use Rattle.std.proofs.Common.{◌≡◌, ◌==◌, ℕ, Bool, true, false, cond, List, [], ◌∷◌, Option, Some}
use Rattle.std.proofs.Common.{None, IsSome, map, option_map, unwrap_or, refl, ap}
use Rattle.sw_breach.specs.Codes.{text_in}

-- what is seen of the value of an option, or of the default
pub unwrap-option_map : {A B : Type 0} (f : A → B) (o : Option A) (d : A)
    → f (unwrap_or o d) ≡ unwrap_or (option_map f o) (f d)
unwrap-option_map f None d = refl
unwrap-option_map f (Some value) d = refl

-- rows with the same codes have texts for the same codes
pub same_codes : (rows others : List (ℕ × List ℕ)) (code : ℕ)
    → map (λ row. row.0) rows ≡ map (λ row. row.0) others
    → IsSome (text_in rows code) → IsSome (text_in others code)
same_codes [] others code e is = cc
same_codes (row ∷ rows) [] code e is = cc
same_codes (row ∷ rows) (other ∷ others) code e is =
    by (row.0 == code) (other.0 == code) (ap (λ n. n == code) first)
    (same_codes rows others code rest) is where
      first : row.0 ≡ other.0
      first = cc

      rest : map (λ row. row.0) rows ≡ map (λ row. row.0) others
      rest = cc

      by : (b c : Bool) → b ≡ c → (IsSome (text_in rows code) → IsSome (text_in others code))
          → IsSome (cond b (Some row.1) (text_in rows code))
          → IsSome (cond c (Some other.1) (text_in others code))
      by true true same later is = refl
      by true false same later is = cc
      by false true same later is = refl
      by false false same later is = later is
