-- Numbers below a bound, in the lists that plans are made of.
use Rattle.std.proofs.Common.{◌≡◌, ℕ, ◌<◌, Bool, true, false, cond, eqb, ltb, List, [], ◌∷◌}
use Rattle.std.proofs.Common.{fold, refl, subst, Option, Some, None, slice_get}
use Rattle.std.specs.Prelude.{flat_map}
use Rattle.std.specs.Option.{option_map_or, option_to_list}
use Rattle.std.specs.List.{All}
use Rattle.std.proofs.lemmas.List.Elements.{All-nil, All-cons, All-head, All-tail, All-append, All-set}
use Rattle.std.proofs.lemmas.List.Elements.{All-get_or, All-same}
use Rattle.std.proofs.lemmas.Option.{get_or_from_slice_get, slice_get_within}
use Rattle.sw_value.specs.declared.value.Value.{Value}
use Rattle.sw_value.specs.Lists.{changed_at}
use Rattle.sw_value.proofs.ListLemmas.{changed_at_there, changed_at_none}
use Rattle.sw_color_rules.specs.declared.colors.Tint.{Tint}
use Rattle.sw_color_rules.specs.declared.colors.Tint.TheVariants.{Bare, Colored, Owns, Holds}
use Rattle.sw_color_rules.specs.Tints.{held, held_by, references_in, colors_in, colors_of, slot_colors}
use Rattle.sw_color_rules.specs.Tints.{inserted, in_order}
use Rattle.sw_color_rules.specs.Ranges.{AreBelow, noted}

-- ---- lists
pub all_there : {A : Type 0} (P : A → Type 0) (xs : List A) (i : ℕ) (x : A) → slice_get xs i ≡ Some x
    → All P xs → P x
all_there P xs i x e all =
    subst P (get_or_from_slice_get xs i x x e)
    (All-get_or P xs i x (slice_get_within xs i x e) all)

pub all_changed : {A : Type 0} (P : A → Type 0) (g : A → A) (i : ℕ) (xs : List A)
    → ((x : A) → P x → P (g x)) → All P xs → All P (changed_at g i xs)
all_changed {A = A} P g i xs keeps all = by (slice_get xs i) refl where
  by : (o : Option A) → slice_get xs i ≡ o → All P (changed_at g i xs)
  by None e = All-same P (changed_at g i xs) xs (changed_at_none g i xs e) all
  by (Some x) e =
      All-same P (changed_at g i xs) _ (changed_at_there g i xs x e)
      (All-set P xs i (g x) (keeps x (all_there P xs i x e all)) all)

pub all_flat : {A B : Type 0} (P : B → Type 0) (f : A → List B) (xs : List A)
    → ((x : A) → All P (f x)) → All P (flat_map f xs)
all_flat P f [] each = All-nil P
all_flat P f (x ∷ xs) each = All-append P (f x) (flat_map f xs) (each x) (all_flat P f xs each)

pub all_option : {B : Type 0} (P : B → Type 0) (o : Option B) → ((x : B) → o ≡ Some x → P x)
    → All P (option_to_list o)
all_option P None each = All-nil P
all_option P (Some x) each = All-cons P x [] (each x refl) (All-nil P)

-- ---- each once, in rising order
pub all_inserted : (P : ℕ → Type 0) (n : ℕ) (ns : List ℕ) → P n → All P ns → All P (inserted n ns)
all_inserted P n [] one all = All-cons P n [] one all
all_inserted P n (m ∷ ms) one all =
    by (ltb n m) (eqb n m) (all_inserted P n ms one (All-tail P m ms all)) where
      by : (low same : Bool) → All P (inserted n ms)
          → All P (cond low (n ∷ m ∷ ms) (cond same (m ∷ ms) (m ∷ inserted n ms)))
      by true same rest = All-cons P n (m ∷ ms) one all
      by false true rest = all
      by false false rest = All-cons P m (inserted n ms) (All-head P m ms all) rest

pub all_ordered : (P : ℕ → Type 0) (done ns : List ℕ) → All P done → All P ns
    → All P (fold (λ ms n. inserted n ms) done ns)
all_ordered P done [] before all = before
all_ordered P done (n ∷ ns) before all =
    all_ordered P (inserted n done) ns (all_inserted P n done (All-head P n ns all) before)
    (All-tail P n ns all)

pub ordered_below : (count : ℕ) (ns : List ℕ) → AreBelow count ns → AreBelow count (in_order ns)
unfolding in_order
ordered_below count ns below =
    all_ordered (λ n. n < count) [] ns (All-nil (λ n. n < count)) below

-- ---- cells and values
-- all that is noted of cells
abbrev pub AreNoted : ℕ → List Tint → Type 0
AreNoted count tints = All (λ tint. AreBelow count (noted tint)) tints

held_below : (count : ℕ) (tints : List Tint) → AreNoted count tints → (c : ℕ)
    → AreBelow count (held tints c)
unfolding held
held_below count tints all c = by (slice_get tints c) refl where
  one : (tint : Tint) → AreBelow count (noted tint) → AreBelow count (held_by tint)
  one Bare below = below
  one (Colored n) below = below
  one (Owns n) below = All-nil (λ m. m < count)
  one (Holds ns) below = below

  by : (o : Option Tint) → slice_get tints c ≡ o → AreBelow count (option_map_or held_by o [])
  by None e = All-nil (λ m. m < count)
  by (Some tint) e =
      one tint (all_there (λ t. AreBelow count (noted t)) tints c tint e all)

pub held_option_below : (count : ℕ) (tints : List Tint) → AreNoted count tints → (o : Option ℕ)
    → AreBelow count (option_map_or (held tints) o [])
held_option_below count tints all None = All-nil (λ m. m < count)
held_option_below count tints all (Some c) = held_below count tints all c

pub value_below : (count : ℕ) (tints : List Tint) → AreNoted count tints → (value : Value)
    → AreBelow count (colors_in tints value)
unfolding colors_in
value_below count tints all value =
    all_flat (λ n. n < count) (held tints) (references_in value) (held_below count tints all)

pub values_below : (count : ℕ) (tints : List Tint) → AreNoted count tints → (values : List Value)
    → AreBelow count (colors_of tints values)
values_below count tints all values =
    all_flat (λ n. n < count) (colors_in tints) values (value_below count tints all)

pub slot_below : (count : ℕ) (tints : List Tint) → AreNoted count tints → (slot : Option Value)
    → AreBelow count (slot_colors tints slot)
slot_below count tints all None = All-nil (λ n. n < count)
slot_below count tints all (Some value) = value_below count tints all value
