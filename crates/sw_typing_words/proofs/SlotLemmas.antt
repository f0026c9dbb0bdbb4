-- Arguments and parameters one after the other.
use Rattle.std.proofs.Common.{◌≡◌, ℕ, zero, suc, ◌+◌, ◌<◌, ◌≤◌, true, false, ◌&&◌, List, []}
use Rattle.std.proofs.Common.{◌∷◌, Some, length, drop, is_none, get_or, refl, arith}
use Rattle.std.proofs.Common.{sym, ◌∙◌, add-one}
use Rattle.std.specs.Prelude.{slice_get}
use Rattle.std.specs.Option.{option_map}
use Rattle.std.proofs.lemmas.Option.{slice_get_read}
use Rattle.sw_typing_rules.specs.Calls.{Slot, labels_fit, types_fit}
use Rattle.sw_typing_rules.specs.Expressions.{first_marked}
use Rattle.sw_typing_rules.specs.Statements.{marked_type}
use Rattle.sw_typing_rules.specs.declared.verdict.Given.{Given}
use Rattle.sw_typing_words.specs.Callees.{takes_type, wants_label}

-- whether the parameter at an index is marked
pub marked_here : (slots : List Slot) (i : ℕ) → first_marked (drop i slots)
    ≡ marked_type (option_map (λ (slot : Slot). slot.ty) (slice_get slots i))
marked_here [] zero = refl
marked_here [] (suc i) = refl
marked_here (slot ∷ slots) zero = refl
marked_here (slot ∷ slots) (suc i) = marked_here slots i

drop_none : {A : Type 0} (i : ℕ) → drop {A = A} i [] ≡ []
drop_none zero = refl
drop_none (suc i) = refl

no_slot_labels : (given : List Given) (i : ℕ) (one : Given) → slice_get given i ≡ Some one
    → labels_fit [] (drop i given) ≡ false
no_slot_labels [] i one e = absurd (cc)
no_slot_labels (first ∷ given) zero one e = refl
no_slot_labels (first ∷ given) (suc i) one e = no_slot_labels given i one e

no_slot_types : (given : List Given) → types_fit [] given ≡ true
no_slot_types [] = refl
no_slot_types (first ∷ given) = refl

no_given_types : (slots : List Slot) → types_fit slots [] ≡ true
no_given_types [] = refl
no_given_types (slot ∷ slots) = refl

no_given_labels : (slots : List Slot) (i : ℕ)
    → labels_fit (drop i slots) [] ≡ is_none (slice_get slots i)
no_given_labels [] zero = refl
no_given_labels [] (suc i) = refl
no_given_labels (slot ∷ slots) zero = refl
no_given_labels (slot ∷ slots) (suc i) = no_given_labels slots i

labels_at : (slots : List Slot) (given : List Given) (i : ℕ) (one : Given)
    → slice_get given i ≡ Some one → labels_fit (drop i slots) (drop i given)
    ≡ (wants_label (slice_get slots i) one.label
    && labels_fit (drop (suc i) slots) (drop (suc i) given))
labels_at slots [] i one e = absurd (cc)
labels_at [] (first ∷ given) zero one e = refl
labels_at (slot ∷ slots) (first ∷ given) zero one e = cc
labels_at [] (first ∷ given) (suc i) one e = no_slot_labels given i one e
labels_at (slot ∷ slots) (first ∷ given) (suc i) one e = labels_at slots given i one e

types_at : (slots : List Slot) (given : List Given) (i : ℕ) (one : Given)
    → slice_get given i ≡ Some one → types_fit (drop i slots) (drop i given)
    ≡ (takes_type (slice_get slots i) one.ty
    && types_fit (drop (suc i) slots) (drop (suc i) given))
types_at slots [] i one e = absurd (cc)
types_at [] (first ∷ given) zero one e = no_slot_types given
types_at (slot ∷ slots) (first ∷ given) zero one e = cc
types_at [] (first ∷ given) (suc i) one e =
    no_slot_types (drop i given) ∙ sym (no_slot_types (drop (suc i) given))
types_at (slot ∷ slots) (first ∷ given) (suc i) one e = types_at slots given i one e

-- the labels from an index on: that of the argument there, and those after it
pub labels_here : (slots : List Slot) (given : List Given) (i : ℕ) (one : Given)
    → i < length given → one ≡ get_or given i one → labels_fit (drop i slots) (drop i given)
    ≡ (wants_label (slice_get slots i) one.label
    && labels_fit (drop (i + 1) slots) (drop (i + 1) given))
labels_here slots given i one within is =
    rw add-one
    (labels_at slots given i one (slice_get_read given (length given) i one refl within is))

-- the types from an index on: that of the argument there, and those after it
pub types_here : (slots : List Slot) (given : List Given) (i : ℕ) (one : Given)
    → i < length given → one ≡ get_or given i one → types_fit (drop i slots) (drop i given)
    ≡ (takes_type (slice_get slots i) one.ty
    && types_fit (drop (i + 1) slots) (drop (i + 1) given))
types_here slots given i one within is =
    rw add-one
    (types_at slots given i one (slice_get_read given (length given) i one refl within is))

drop_all : {A : Type 0} (xs : List A) (i : ℕ) → length xs ≤ i → drop i xs ≡ []
drop_all [] i past = drop_none i
drop_all (x ∷ xs) zero past = absurd (omega arith)
drop_all (x ∷ xs) (suc i) past = drop_all xs i (omega arith)

-- past the last argument
pub labels_end : (slots : List Slot) (given : List Given) (i : ℕ) → length given ≤ i
    → labels_fit (drop i slots) (drop i given) ≡ is_none (slice_get slots i)
labels_end slots given i past = rw (drop_all given i past) (no_given_labels slots i)

pub types_end : (slots : List Slot) (given : List Given) (i : ℕ) → length given ≤ i
    → types_fit (drop i slots) (drop i given) ≡ true
types_end slots given i past = rw (drop_all given i past) (no_given_types (drop i slots))
