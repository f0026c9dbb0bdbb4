-- How doubts are decided row by row, and what that leaves as it is.
use Rattle.std.proofs.Common.{◌≡◌, ℕ, ◌+◌, ◌<◌, ◌≤◌, ◌-◌, zero, suc, Bool, true, false, List, [], ◌∷◌}
use Rattle.std.proofs.Common.{◌++◌, Option, Some, None, length, map, take, drop, refl, ap, sym, ◌∙◌}
use Rattle.std.proofs.Common.{arith}
use Rattle.std.specs.List.{slice_get, slice_set}
use Rattle.std.specs.Prelude.{if◌then◌else◌, nat_lt}
use Rattle.std.proofs.lemmas.Bool.Decides.{nat_tests}
use Rattle.std.proofs.lemmas.Grind.{common_steps}
use Rattle.std.proofs.lemmas.List.{take-append-drop}
use Rattle.sw_typing_rules.specs.Doubts.{decided, last_after}
use Rattle.sw_typing_rules.specs.Verdicts.{all_well, is_well}
use Rattle.sw_typing_rules.specs.declared.row.Row.{Row}
use Rattle.sw_typing_rules.specs.declared.row.Row.TheVariants.{Typed, Means, Ill}
use Rattle.sw_typing_rules.proofs.Doubts.{decided_well}
use Rattle.sw_typing_steps.specs.Places.{ill_at, ill_places, ill_places_from}
use Rattle.sw_typing_steps.specs.Steps.{decided_since}

-- the decision of one row leaves the places of ill rows
places_from : (at i : ℕ) (rows : List Row) (row made : Row) → slice_get rows i ≡ Some row
    → is_well made ≡ is_well row
    → ill_places_from at (slice_set rows i made) ≡ ill_places_from at rows
places_from at i [] row made found same = cc
places_from at zero (one ∷ rows) row made found same =
    let well : is_well made ≡ is_well one = cc in
    ap (λ b. (if b then [] else at ∷ []) ++ ill_places_from (at + 1) rows) well
places_from at (suc i) (one ∷ rows) row made found same =
    ap (λ more. ill_at at one ++ more) (places_from (at + 1) i rows row made found same)

pub decided_places : (valued : Bool) (i : ℕ) (rows : List Row) (row made : Row)
    → slice_get rows i ≡ Some row → made ≡ decided valued row
    → ill_places (slice_set rows i made) ≡ ill_places rows
unfolding ill_places
decided_places valued i rows row made found is =
    places_from 0 i rows row made found (ap is_well is ∙ decided_well valued row)

since_suc : (valued : Bool) (i : ℕ) (rows : List Row) (row made : Row)
    → slice_get rows i ≡ Some row → made ≡ decided valued row
    → decided_since (suc i) valued (slice_set rows i made) ≡ decided_since i valued rows
since_suc valued i [] row made found is = cc
since_suc valued zero (one ∷ rows) row made found is =
    let same : made ≡ decided valued one = cc in
    ap (λ first. first ∷ map (decided valued) rows) same
since_suc valued (suc i) (one ∷ rows) row made found is =
    ap (λ rest. one ∷ rest) (since_suc valued i rows row made found is)

same_set : {A : Type 0} (i : ℕ) (xs : List A) (x y : A) → slice_get xs i ≡ Some x → y ≡ x
    → slice_set xs i y ≡ xs
same_set i [] x y e is = cc
same_set zero (z ∷ zs) x y e is = ap (λ one. one ∷ zs) (cc)
same_set (suc i) (z ∷ zs) x y e is = ap (λ rest. z ∷ rest) (same_set i zs x y e is)

-- after the row at a place was decided, those after it are left
pub since_next : (valued : Bool) (i : ℕ) (rows : List Row) (row made : Row)
    → slice_get rows i ≡ Some row → made ≡ decided valued row
    → decided_since (i + 1) valued (slice_set rows i made) ≡ decided_since i valued rows
since_next valued i rows row made found is =
    let one : i + 1 ≡ suc i = omega arith in
    ap (λ k. decided_since k valued (slice_set rows i made)) one
    ∙ since_suc valued i rows row made found is

pub since_same : (valued : Bool) (i : ℕ) (rows : List Row) (row : Row)
    → slice_get rows i ≡ Some row → decided valued row ≡ row
    → decided_since (i + 1) valued rows ≡ decided_since i valued rows
since_same valued i rows row found is =
    ap (decided_since (i + 1) valued) (sym (same_set i rows row row found refl))
    ∙ since_next valued i rows row row found (sym is)

-- no row is left
pub since_end : (valued : Bool) (i : ℕ) (rows : List Row) → length rows ≤ i
    → decided_since i valued rows ≡ rows
since_end valued zero [] past = refl
since_end valued (suc i) [] past = refl
since_end valued zero (row ∷ rows) past = absurd (omega (arith, past))
since_end valued (suc i) (row ∷ rows) past =
    ap (λ rest. row ∷ rest) (since_end valued i rows (omega (arith, past)))

well_stays : (valued : Bool) (rows : List Row) → all_well rows ≡ true
    → map (decided valued) rows ≡ rows
well_stays valued [] well = refl
well_stays valued (Typed at ty ∷ rows) well =
    ap (λ rest. Typed at ty ∷ rest) (well_stays valued rows well)
well_stays valued (Means at meaning ∷ rows) well =
    ap (λ rest. Means at meaning ∷ rest) (well_stays valued rows well)
well_stays valued (Ill at code unless ∷ rows) well = cc

-- where no node is ill there is nothing to decide
pub none_to_decide : (start : ℕ) (valued : Bool) (rows : List Row)
    → all_well (drop start rows) ≡ true → rows ≡ decided_since start valued rows
none_to_decide start valued rows well =
    sym (take-append-drop start rows)
    ∙ ap (λ rest. take start rows ++ rest) (sym (well_stays valued (drop start rows) well))

-- a key, if there is one and it stands after `at`
abbrev if_after : ℕ → Option ℕ → Option ℕ
if_after at None = None
if_after at (Some place) = if nat_lt at place then Some place else None

last_is : (at : ℕ) (places : List ℕ) (last : Option ℕ)
    → last ≡ slice_get places (length places - 1) → if_after at last ≡ last_after at places
last_is at [] last e = ap (if_after at) e
last_is at (place ∷ []) last e = ap (if_after at) e
last_is at (place ∷ next ∷ places) last e =
    last_is at (next ∷ places) last (e ∙ grind (arith, common_steps))

pub none_after : (at : ℕ) (places : List ℕ) → slice_get places (length places - 1) ≡ None
    → None ≡ last_after at places
none_after at places e = last_is at places None (sym e)

pub after_last : (at : ℕ) (places : List ℕ) (last : ℕ)
    → slice_get places (length places - 1) ≡ Some last → at < last
    → Some last ≡ last_after at places
after_last at places last e before =
    let so : nat_lt at last ≡ true = grind (arith, nat_tests) in
    ap (λ b. if b then Some last else None) (sym so) ∙ last_is at places (Some last) (sym e)

pub last_not_after : (at : ℕ) (places : List ℕ) (last : ℕ)
    → slice_get places (length places - 1) ≡ Some last → last ≤ at
    → None ≡ last_after at places
last_not_after at places last e after =
    let so : nat_lt at last ≡ false = grind (arith, nat_tests) in
    ap (λ b. if b then Some last else None) (sym so) ∙ last_is at places (Some last) (sym e)
