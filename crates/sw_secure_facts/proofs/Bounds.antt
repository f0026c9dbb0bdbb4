-- For any colours there is a number that is above those of all jobs' colours in use.
use Rattle.std.proofs.Common.{◌≡◌, ◌<◌, ℕ, zero, suc, max, Option, Some, None, List, [], ◌∷◌}
use Rattle.std.proofs.Common.{Contains, arith, subst, sym, inl, inr}
use Rattle.std.specs.List.{slice_index_or}
use Rattle.sw_list.proofs.Members.{first_or_later}
use Rattle.sw_owner_facts.specs.Colours.{Colour, OfJob, OfActor}
use Rattle.sw_view_facts.specs.Views.{Colours}
use Rattle.sw_secure_facts.specs.Secure.{AreNumberedBelow}

-- a number above that of a colour
abbrev above : Colour → ℕ
above (OfJob job number) = suc number
above (OfActor actor) = zero

abbrev above_some : Option Colour → ℕ
above_some (Some colour) = above colour
above_some None = zero

abbrev above_options : List (Option Colour) → ℕ
above_options [] = zero
above_options (o ∷ os) = max (above_some o) (above_options os)

abbrev above_row : List Colour → ℕ
above_row [] = zero
above_row (c ∷ cs) = max (above c) (above_row cs)

abbrev above_rows : List (List Colour) → ℕ
above_rows [] = zero
above_rows (row ∷ rows) = max (above_row row) (above_rows rows)

is_above : (c : Colour) (job number : ℕ) → c ≡ OfJob job number → number < above c
is_above c job number is = subst (λ d. number < above d) (sym is) (omega arith)

in_options : (os : List (Option Colour)) (c job number : ℕ)
    → slice_index_or os c None ≡ Some (OfJob job number) → number < above_options os
in_options [] c job number is = absurd (let clash : ⊥ = cc in clash)
in_options (o ∷ os) zero job number is =
    let low : number < above_some o =
    subst (λ d. number < above_some d) (sym is) (omega arith) in
    omega (arith, low)
in_options (o ∷ os) (suc c) job number is =
    let low = in_options os c job number is in
    omega (arith, low)

in_row : (row : List Colour) (job number : ℕ) → Contains row (OfJob job number)
    → number < above_row row
in_row [] job number has = absurd (let inside = has.1 in omega (arith, inside))
in_row (c ∷ cs) job number has = elim (first_or_later c cs (OfJob job number) has) [
  | inl same ↦ let low = is_above c job number same in omega (arith, low)
  | inr rest ↦ let low = in_row cs job number rest in omega (arith, low)
]

in_rows : (rows : List (List Colour)) (row : List Colour) (job number : ℕ) → Contains rows row
    → Contains row (OfJob job number) → number < above_rows rows
in_rows [] row job number among has = absurd (let inside = among.1 in omega (arith, inside))
in_rows (r ∷ rs) row job number among has = elim (first_or_later r rs row among) [
  | inl same ↦
      let low = in_row r job number
      (subst (λ (l : List Colour). Contains l (OfJob job number)) (sym same) has) in
      omega (arith, low)
  | inr rest ↦ let low = in_rows rs row job number rest has in omega (arith, low)
]

pub some_bound : (colours : Colours) → (bound : ℕ) × AreNumberedBelow bound colours
some_bound colours = (
  max (above_options colours.cells) (above_rows colours.heres),
  record {
    cells = λ c job number is.
        let low = in_options colours.cells c job number is in
        omega (arith, low);
    heres = λ row job number among has.
        let low = in_rows colours.heres row job number among has in
        omega (arith, low);
  },
)
