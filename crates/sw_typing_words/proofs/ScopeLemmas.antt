-- Variables that come and go.
use Rattle.std.proofs.Common.{◌≡◌, ◌⊎◌, ℕ, zero, suc, ◌+◌, ◌==◌, ◌<◌, ◌≤◌, Bool, true, false, List}
use Rattle.std.proofs.Common.{[], ◌∷◌, ◌++◌, Option, Some, None, length, take, refl, sym, ◌∙◌}
use Rattle.std.proofs.Common.{ap, subst, inl, inr, arith}
use Rattle.std.specs.Prelude.{fold, slice_get, if◌then◌else◌}
use Rattle.std.proofs.lemmas.Bool.{false≢true, eqb-true, eq-eqb}
use Rattle.std.proofs.Math.Nat.{eq-or-lt_of_le}
use Rattle.std.proofs.lemmas.List.{length-append, length-map, map-append, take-append-le}
use Rattle.std.proofs.lemmas.List.Sums.{fold-append}
use Rattle.std.proofs.lemmas.Option.{slice_get_within}
use Rattle.std.proofs.Math.Seq.{take-append_seam}
use Rattle.sw_typing_rules.specs.Words.{local}
use Rattle.sw_typing_rules.specs.declared.scope.Var.{Var}
use Rattle.sw_typing_words.specs.Scopes.{IsPlaceOf, IsScope, vars_in}
use Rattle.sw_typing_words.specs.declared.scope.Entry.{Entry}

get_kept : {A : Type 0} (xs ys : List A) (k : ℕ) → k < length xs
    → slice_get (xs ++ ys) k ≡ slice_get xs k
get_kept [] ys k within = absurd (omega arith)
get_kept (x ∷ xs) ys zero within = refl
get_kept (x ∷ xs) ys (suc k) within = get_kept xs ys k (omega arith)

get_last : {A : Type 0} (xs : List A) (x : A) → slice_get (xs ++ x ∷ []) (length xs) ≡ Some x
get_last [] x = refl
get_last (y ∷ xs) x = get_last xs x

length_more : {A : Type 0} (xs : List A) (x : A) → length (xs ++ x ∷ []) ≡ length xs + 1
length_more xs x = length-append xs (x ∷ [])

abbrev step : ℕ → Option Var → Var → Option Var
step id found one = if one.name == id then Some one else found

-- one more variable
local_more : (vars : List Var) (one : Var) (id : ℕ)
    → local (vars ++ one ∷ []) id ≡ (if one.name == id then Some one else local vars id)
local_more vars one id = fold-append (step id) None vars (one ∷ [])

local_same : (vars : List Var) (one : Var) (id : ℕ) → (one.name == id) ≡ true
    → local (vars ++ one ∷ []) id ≡ Some one
local_same vars one id same =
    local_more vars one id ∙ ap (λ b. if b then Some one else local vars id) same

local_other : (vars : List Var) (one : Var) (id : ℕ) → (one.name == id) ≡ false
    → local (vars ++ one ∷ []) id ≡ local vars id
local_other vars one id other =
    local_more vars one id ∙ ap (λ b. if b then Some one else local vars id) other

-- the variable of a name has it
named_by : (id : ℕ) (vars : List Var) (found : Option Var) (one : Var)
    → ((v : Var) → found ≡ Some v → (v.name == id) ≡ true)
    → fold (step id) found vars ≡ Some one → (one.name == id) ≡ true
named_by id [] found one named e = named one e
named_by id (x ∷ vars) found one named e =
    named_by id vars (step id found x) one (named_step (x.name == id) refl) e
  where
    named_step : (b : Bool) → (x.name == id) ≡ b → (v : Var)
        → (if b then Some x else found) ≡ Some v → (v.name == id) ≡ true
    named_step true is v e =
        let same : x ≡ v = cc in subst (λ (w : Var). (w.name == id) ≡ true) same is
    named_step false is v e = named v e

local_named : (vars : List Var) (id : ℕ) (one : Var) → local vars id ≡ Some one
    → (one.name == id) ≡ true
local_named vars id one e = named_by id vars None one (λ v none. absurd (cc)) e

-- a place stays that of its name where a variable of another name is added or left
place_kept : (vars : List Var) (one : Var) (id : ℕ) (place : Option ℕ)
    → (one.name == id) ≡ false → IsPlaceOf vars id place
    → IsPlaceOf (vars ++ one ∷ []) id place
place_kept vars one id None other here = local_other vars one id other ∙ here
place_kept vars one id (Some place) other here = (
  omega (arith, length_more vars one),
  get_kept vars (one ∷ []) place here.0 ∙ here.1 ∙ sym (local_other vars one id other),
)

place_new : (vars : List Var) (one : Var)
    → IsPlaceOf (vars ++ one ∷ []) one.name (Some (length vars))
place_new vars one = (
  omega (arith, length_more vars one),
  get_last vars one ∙ sym (local_same vars one one.name (eq-eqb one.name one.name refl)),
)

not_last_by : (vars : List Var) (one : Var) (id place : ℕ) → (one.name == id) ≡ false
    → slice_get (vars ++ one ∷ []) place ≡ local vars id
    → (place ≡ length vars) ⊎ (place < length vars) → place < length vars
not_last_by vars one id place other is (inl last) =
    let named = local_named vars id one (sym is
    ∙ (ap (slice_get (vars ++ one ∷ [])) last ∙ get_last vars one)) in
    absurd (false≢true (sym other ∙ named))
not_last_by vars one id place other is (inr less) = less

not_last : (vars : List Var) (one : Var) (id place : ℕ) → (one.name == id) ≡ false
    → slice_get (vars ++ one ∷ []) place ≡ local vars id → place < length (vars ++ one ∷ [])
    → place < length vars
not_last vars one id place other is within =
    let below : place ≤ length vars = omega (arith, length_more vars one) in
    not_last_by vars one id place other is (eq-or-lt_of_le below)

place_left : (vars : List Var) (one : Var) (id : ℕ) (place : Option ℕ)
    → (one.name == id) ≡ false → IsPlaceOf (vars ++ one ∷ []) id place
    → IsPlaceOf vars id place
place_left vars one id None other here = sym (local_other vars one id other) ∙ here
place_left vars one id (Some place) other here =
    let is = here.1 ∙ local_other vars one id other in
    let within = not_last vars one id place other is here.0 in
    (within, sym (get_kept vars (one ∷ []) place within) ∙ is)

-- The table once a variable is declared: that of its name has its place.
newest_more : (vars : List Var) (one : Var) (id : ℕ) (place : Option ℕ)
    → IsPlaceOf vars id place → (b : Bool) → (one.name == id) ≡ b
    → IsPlaceOf (vars ++ one ∷ []) id (if b then Some (length vars) else place)
newest_more vars one id place here true same =
    subst (λ name. IsPlaceOf (vars ++ one ∷ []) name (Some (length vars)))
    (eqb-true one.name id same) (place_new vars one)
newest_more vars one id place here false other = place_kept vars one id place other here

newest_less : (vars : List Var) (one : Var) (id : ℕ) (hidden place : Option ℕ)
    → IsPlaceOf vars one.name hidden → IsPlaceOf (vars ++ one ∷ []) id place
    → (b : Bool) → (one.name == id) ≡ b → IsPlaceOf vars id (if b then hidden else place)
newest_less vars one id hidden place hides here true same =
    subst (λ name. IsPlaceOf vars name hidden) (eqb-true one.name id same) hides
newest_less vars one id hidden place hides here false other =
    place_left vars one id place other here

vars_more : (entries : List Entry) (entry : Entry)
    → vars_in (entries ++ entry ∷ []) ≡ vars_in entries ++ entry.var ∷ []
vars_more entries entry = map-append (λ (one : Entry). one.var) entries (entry ∷ [])

vars_length : (entries : List Entry) → length (vars_in entries) ≡ length entries
vars_length entries = length-map entries (λ (one : Entry). one.var)

vars_before : (entries : List Entry) (entry : Entry) (k : ℕ) → k ≤ length entries
    → take k (vars_in (entries ++ entry ∷ [])) ≡ take k (vars_in entries)
vars_before entries entry k within =
    ap (take k) (vars_more entries entry)
    ∙ take-append-le k (vars_in entries) (entry.var ∷ []) (omega (arith, vars_length entries))

vars_all : (entries : List Entry) (entry : Entry)
    → take (length entries) (vars_in (entries ++ entry ∷ [])) ≡ vars_in entries
vars_all entries entry =
    ap (take (length entries)) (vars_more entries entry)
    ∙ (ap (λ n. take n (vars_in entries ++ entry.var ∷ [])) (sym (vars_length entries))
    ∙ take-append_seam (vars_in entries) (entry.var ∷ []))

abbrev IsHidden : List Entry → ℕ → Entry → Type 0
IsHidden entries k entry = IsPlaceOf (take k (vars_in entries)) entry.var.name entry.hides

hides_more : (entries : List Entry) (newest : ℕ → Option ℕ) (entry : Entry)
    → IsScope entries newest → entry.hides ≡ newest entry.var.name → (k : ℕ) (one : Entry)
    → slice_get (entries ++ entry ∷ []) k ≡ Some one
    → (k ≡ length entries) ⊎ (k < length entries) → IsHidden (entries ++ entry ∷ []) k one
hides_more entries newest entry is hides k one here (inl last) =
    let same : Some entry ≡ Some one = sym (get_last entries entry)
    ∙ (ap (slice_get (entries ++ entry ∷ [])) (sym last) ∙ here) in
    let is_one : entry ≡ one = cc in
    subst (λ (x : Entry). IsHidden (entries ++ entry ∷ []) k x) is_one
    (subst (λ n. IsHidden (entries ++ entry ∷ []) n entry) (sym last)
    (subst (λ vars. IsPlaceOf vars entry.var.name entry.hides) (sym (vars_all entries entry))
    (subst (IsPlaceOf (vars_in entries) entry.var.name) (sym hides) (is.0 entry.var.name))))
hides_more entries newest entry is hides k one here (inr less) =
    subst (λ vars. IsPlaceOf vars one.var.name one.hides)
    (sym (vars_before entries entry k (omega arith)))
    (is.1 k one (sym (get_kept entries (entry ∷ []) k less) ∙ here))

declared_at : (entries : List Entry) (entry : Entry) (newest later : ℕ → Option ℕ)
    → IsScope entries newest → entry.hides ≡ newest entry.var.name
    → ((other : ℕ) → later other
    ≡ (if entry.var.name == other then Some (length entries) else newest other))
    → IsScope (entries ++ entry ∷ []) later
declared_at entries entry newest later is hides now = (
  λ id. subst (IsPlaceOf (vars_in (entries ++ entry ∷ [])) id) (sym (now id))
      (subst (λ vars. IsPlaceOf vars id
      (if entry.var.name == id then Some (length entries) else newest id))
      (sym (vars_more entries entry))
      (subst (λ n. IsPlaceOf (vars_in entries ++ entry.var ∷ []) id
      (if entry.var.name == id then Some n else newest id)) (vars_length entries)
      (newest_more (vars_in entries) entry.var id (newest id) (is.0 id)
      (entry.var.name == id) refl))),
  λ k one here.
      let within = slice_get_within (entries ++ entry ∷ []) k one here in
      let below : k ≤ length entries = omega (arith, length_more entries entry) in
      hides_more entries newest entry is hides k one here (eq-or-lt_of_le below),
)

-- a variable is declared
pub declared : (entries after : List Entry) (entry : Entry) (newest later : ℕ → Option ℕ)
    → IsScope entries newest → after ≡ entries ++ entry ∷ []
    → entry.hides ≡ newest entry.var.name
    → ((other : ℕ) → later other
    ≡ (if entry.var.name == other then Some (length entries) else newest other))
    → IsScope after later
declared entries after entry newest later is made hides now =
    subst (λ (all : List Entry). IsScope all later) (sym made)
    (declared_at entries entry newest later is hides now)

left_at : (entries : List Entry) (last : Entry) (newest later : ℕ → Option ℕ)
    → IsScope (entries ++ last ∷ []) newest
    → ((other : ℕ) → later other ≡ (if last.var.name == other then last.hides else newest other))
    → IsScope entries later
left_at entries last newest later is now =
    let hides : IsPlaceOf (vars_in entries) last.var.name last.hides =
    subst (λ vars. IsPlaceOf vars last.var.name last.hides) (vars_all entries last)
    (is.1 (length entries) last (get_last entries last)) in (
      λ id. subst (IsPlaceOf (vars_in entries) id) (sym (now id))
          (newest_less (vars_in entries) last.var id last.hides (newest id) hides
          (subst (λ vars. IsPlaceOf vars id (newest id)) (vars_more entries last) (is.0 id))
          (last.var.name == id) refl),
      λ k one here.
          let within = slice_get_within entries k one here in
          subst (λ vars. IsPlaceOf vars one.var.name one.hides)
          (vars_before entries last k (omega arith))
          (is.1 k one (get_kept entries (last ∷ []) k within ∙ here)),
    )

-- the last variable is left
pub left : (entries after : List Entry) (last : Entry) (newest later : ℕ → Option ℕ)
    → IsScope entries newest → entries ≡ after ++ last ∷ []
    → ((other : ℕ) → later other ≡ (if last.var.name == other then last.hides else newest other))
    → IsScope after later
left entries after last newest later is made now =
    left_at after last newest later
    (subst (λ (all : List Entry). IsScope all newest) made is) now
