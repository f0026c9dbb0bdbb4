-- Where the items of a text and its first fault stand.
use Rattle.std.proofs.Common.{◌≡◌, ℕ, ◌+◌, List, ◌++◌, length, refl, ap, subst, arith}
use Rattle.std.proofs.Common.{length-append}
use Rattle.std.specs.List.{AllByRecursion}
use Rattle.std.proofs.lemmas.List.{append_assoc}
use Rattle.sw_scan.specs.Scan.{TextForm, Splits, Fails}
use Rattle.sw_scan.specs.Scan as scans
use Rattle.sw_scan.specs.Reading.{StepOf}
use Rattle.sw_scan.proofs.Agreement.{Agrees}

-- the item is made of a text that is one, at the offset where it stands in the whole, and the bytes
-- from there on are sound
pub record StandsIn {B T F : Type 0} (form : TextForm B T F) (IsSound : List ℕ → Type 0)
    (whole : List ℕ) (item : T) : Type 0 where
  pub prefix : List ℕ
  pub text : List ℕ
  pub after : List ℕ
  pub before : B
  pub whole_is : whole ≡ prefix ++ (text ++ after)
  pub is_item : form.IsItem before text after
  pub is_made : item ≡ form.item_of (length prefix) before text after
  pub sound : IsSound (text ++ after)

-- the fault is that of bytes that are refused, at the offset where they stand in the whole
pub record IsRefusedIn {B T F : Type 0} (form : TextForm B T F) (whole : List ℕ)
    (fault : F) : Type 0 where
  pub prefix : List ℕ
  pub rest : List ℕ
  pub before : B
  pub whole_is : whole ≡ prefix ++ rest
  pub is_refused : form.IsRefused (length prefix) before rest fault

longer : (prefix piece : List ℕ) (at : ℕ) → at ≡ length prefix
    → at + length piece ≡ length (prefix ++ piece)
longer prefix piece at here = omega (arith, length-append prefix piece)

module _ {B T F : Type 0} {form : TextForm B T F} {IsSound : List ℕ → Type 0} {step : StepOf B F}
    (agrees : Agrees form IsSound step) where
  pub Splits-stand : (prefix : List ℕ) (at : ℕ) (before : B) (bytes : List ℕ) (items : List T)
      → Splits form at before bytes items → at ≡ length prefix → IsSound bytes
      → AllByRecursion (StandsIn form IsSound (prefix ++ bytes)) items
  Splits-stand prefix _ _ _ _ (scans.nothing at before) here sound = tt
  Splits-stand prefix _ _ _ _ (scans.piece at before p after items is rest) here sound =
      subst (λ xs. AllByRecursion (StandsIn form IsSound xs) items) (append_assoc prefix p after)
      (Splits-stand (prefix ++ p) _ _ after items rest (longer prefix p at here)
      (agrees.sound_piece p after is sound))
  Splits-stand prefix _ _ _ _ (scans.item at before t after items is rest) here sound = (
    record {
      prefix = prefix;
      text = t;
      after = after;
      before = before;
      whole_is = refl;
      is_item = is;
      is_made = ap (λ k. form.item_of k before t after) here;
      sound = sound;
    },
    subst (λ xs. AllByRecursion (StandsIn form IsSound xs) items) (append_assoc prefix t after)
        (Splits-stand (prefix ++ t) _ _ after items rest (longer prefix t at here)
        (agrees.sound_item before t after is sound)),
  )

module _ {B T F : Type 0} (form : TextForm B T F) where
  pub Fails-refused : (prefix : List ℕ) (at : ℕ) (before : B) (bytes : List ℕ) (fault : F)
      → Fails form at before bytes fault → at ≡ length prefix
      → IsRefusedIn form (prefix ++ bytes) fault
  Fails-refused prefix _ _ _ _ (scans.here at before bytes fault is) here =
      record {
        prefix = prefix;
        rest = bytes;
        before = before;
        whole_is = refl;
        is_refused = subst (λ k. form.IsRefused k before bytes fault) here is;
      }
  Fails-refused prefix _ _ _ _ (scans.past_piece at before p after fault is rest) here =
      subst (λ xs. IsRefusedIn form xs fault) (append_assoc prefix p after)
      (Fails-refused (prefix ++ p) _ _ after fault rest (longer prefix p at here))
  Fails-refused prefix _ _ _ _ (scans.past_item at before t after fault is rest) here =
      subst (λ xs. IsRefusedIn form xs fault) (append_assoc prefix t after)
      (Fails-refused (prefix ++ t) _ _ after fault rest (longer prefix t at here))
