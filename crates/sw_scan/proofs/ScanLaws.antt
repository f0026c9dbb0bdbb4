-- Where a form and a function agree at each step they agree on whole texts: so a text has one list
-- of items, or one first fault, and never both.
use Rattle.std.proofs.Common.{◌≡◌, ℕ, zero, suc, ◌+◌, ◌<◌, ◌≤◌, List, [], ◌∷◌, ◌++◌, length, take}
use Rattle.std.proofs.Common.{drop, Result, Ok, Err, refl, ap, ◌⊎◌, inl, inr, arith, length-append}
use Rattle.std.proofs.Common.{length-drop}
use Rattle.std.proofs.lemmas.List.{take-append-drop, take_at, drop_at}
use Rattle.sw_scan.specs.declared.Step.{Step}
use Rattle.sw_scan.specs.declared.Step.TheVariants.{End, Skip, Take}
use Rattle.sw_scan.specs.Scan.{TextForm, Splits, Fails, Scans}
use Rattle.sw_scan.specs.Scan as scans
use Rattle.sw_scan.specs.Reading.{StepOf, with_prefix, past_step, read, scan}
use Rattle.sw_scan.proofs.Agreement.{StepHolds, Agrees}

fewer_left : (passed after : List ℕ) (turns : ℕ) → 0 < length passed
    → length (passed ++ after) ≤ suc turns → length after ≤ turns
fewer_left passed after turns some few = omega (arith, length-append passed after)

none_left : (passed after : List ℕ) → 0 < length passed → length (passed ++ after) ≤ zero → ⊥
none_left passed after some few = omega (arith, length-append passed after)

take_within : (n : ℕ) (bytes : List ℕ) → length (take n bytes) ≡ n → n ≤ length bytes
take_within n bytes long = omega (
  arith,
  long,
  length-append (take n bytes) (drop n bytes),
  ap length (take-append-drop n bytes),
)

module _ {B T F : Type 0} {form : TextForm B T F} {IsSound : List ℕ → Type 0} {step : StepOf B F}
    (agrees : Agrees form IsSound step) where
  -- what the form says is read

  read-Splits : (at : ℕ) (before : B) (bytes : List ℕ) (items : List T)
      → Splits form at before bytes items
      → (turns : ℕ) → length bytes ≤ turns → read form step turns at before bytes ≡ Ok items
  unfolding read
  read-Splits _ _ _ _ (scans.nothing at before) zero few = refl
  read-Splits _ _ _ _ (scans.nothing at before) (suc turns) few = rw (agrees.ends at before) refl
  read-Splits _ _ _ _ (scans.piece at before p after items is rest) zero few =
      absurd (none_left p after (agrees.some_piece p after is) few)
  read-Splits _ _ _ _ (scans.piece at before p after items is rest) (suc turns) few =
      let fewer = fewer_left p after turns (agrees.some_piece p after is) few in
      let on = read-Splits _ _ _ _ rest turns fewer in
      rw (
        agrees.skips at before p after is,
        take_at p after (length p) refl,
        drop_at p after (length p) refl,
      ) on
  read-Splits _ _ _ _ (scans.item at before t after items is rest) zero few =
      absurd (none_left t after (agrees.some_item before t after is) few)
  read-Splits _ _ _ _ (scans.item at before t after items is rest) (suc turns) few =
      let fewer = fewer_left t after turns (agrees.some_item before t after is) few in
      let on = read-Splits _ _ _ _ rest turns fewer in
      rw (
        agrees.takes at before t after is,
        take_at t after (length t) refl,
        drop_at t after (length t) refl,
        on,
      ) refl

  refused_somewhere : (at : ℕ) (before : B) (bytes : List ℕ) (fault : F)
      → form.IsRefused at before bytes fault → length bytes ≤ zero → ⊥
  refused_somewhere at before [] fault is few =
      (let refused = agrees.refuses at before [] fault is in let ends = agrees.ends at before in cc)
  refused_somewhere at before (b ∷ bs) fault is few = omega arith

  read-Fails : (at : ℕ) (before : B) (bytes : List ℕ) (fault : F) → Fails form at before bytes fault
      → (turns : ℕ) → length bytes ≤ turns → read form step turns at before bytes ≡ Err fault
  unfolding read
  read-Fails _ _ _ _ (scans.here at before bytes fault is) zero few =
      absurd (refused_somewhere at before bytes fault is few)
  read-Fails _ _ _ _ (scans.here at before bytes fault is) (suc turns) few =
      rw (agrees.refuses at before bytes fault is) refl
  read-Fails _ _ _ _ (scans.past_piece at before p after fault is rest) zero few =
      absurd (none_left p after (agrees.some_piece p after is) few)
  read-Fails _ _ _ _ (scans.past_piece at before p after fault is rest) (suc turns) few =
      let fewer = fewer_left p after turns (agrees.some_piece p after is) few in
      let on = read-Fails _ _ _ _ rest turns fewer in
      rw (
        agrees.skips at before p after is,
        take_at p after (length p) refl,
        drop_at p after (length p) refl,
      ) on
  read-Fails _ _ _ _ (scans.past_item at before t after fault is rest) zero few =
      absurd (none_left t after (agrees.some_item before t after is) few)
  read-Fails _ _ _ _ (scans.past_item at before t after fault is rest) (suc turns) few =
      let fewer = fewer_left t after turns (agrees.some_item before t after is) few in
      let on = read-Fails _ _ _ _ rest turns fewer in
      rw (
        agrees.takes at before t after is,
        take_at t after (length t) refl,
        drop_at t after (length t) refl,
        on,
      ) refl

  -- what is read is what the form says

  -- past a piece and past an item, whatever they lead to
  piece_then : (at : ℕ) (before : B) (p after : List ℕ) → form.IsPiece p after
      → (outcome : Result (List T) F)
      → Scans form (at + length p) (form.past_piece before p) after outcome
      → Scans form at before (p ++ after) outcome
  piece_then at before p after is (Ok items) h = scans.piece at before p after items is h
  piece_then at before p after is (Err fault) h = scans.past_piece at before p after fault is h

  item_then : (at : ℕ) (before : B) (t after : List ℕ) → form.IsItem before t after
      → (outcome : Result (List T) F)
      → Scans form (at + length t) (form.past_item before t) after outcome
      → Scans form at before (t ++ after)
      (with_prefix (form.item_of at before t after ∷ []) outcome)
  item_then at before t after is (Ok items) h = scans.item at before t after items is h
  item_then at before t after is (Err fault) h = scans.past_item at before t after fault is h

  -- a piece or an item that was found is as long as the function says
  skip_long : (at : ℕ) (before : B) (bytes : List ℕ) (n : ℕ) → step at before bytes ≡ Ok (Skip n)
      → form.IsPiece (take n bytes) (drop n bytes) → length (take n bytes) ≡ n
  skip_long at before bytes n e is =
      (let again = rw (take-append-drop n bytes) at (agrees.skips at before (take n bytes)
      (drop n bytes) is) in cc)

  take_long : (at : ℕ) (before : B) (bytes : List ℕ) (n : ℕ) → step at before bytes ≡ Ok (Take n)
      → form.IsItem before (take n bytes) (drop n bytes) → length (take n bytes) ≡ n
  take_long at before bytes n e is =
      (let again = rw (take-append-drop n bytes) at (agrees.takes at before (take n bytes)
      (drop n bytes) is) in cc)

  sound_after_piece : (before : B) (bytes : List ℕ) (n : ℕ)
      → form.IsPiece (take n bytes) (drop n bytes) → IsSound bytes → IsSound (drop n bytes)
  sound_after_piece before bytes n is sound =
      agrees.sound_piece (take n bytes) (drop n bytes) is (rw take-append-drop sound)

  sound_after_item : (before : B) (bytes : List ℕ) (n : ℕ)
      → form.IsItem before (take n bytes) (drop n bytes) → IsSound bytes → IsSound (drop n bytes)
  sound_after_item before bytes n is sound =
      agrees.sound_item before (take n bytes) (drop n bytes) is (rw take-append-drop sound)

  -- past a step that was found, whatever it leads to
  step_then : (at : ℕ) (before : B) (bytes : List ℕ) (found : Result Step F)
      → step at before bytes ≡ found → StepHolds form at before bytes found
      → (on : ℕ → B → List ℕ → Result (List T) F)
      → ((from : ℕ) (known : B) (n : ℕ) → 0 < n → n ≤ length bytes → IsSound (drop n bytes)
      → Scans form from known (drop n bytes) (on from known (drop n bytes)))
      → IsSound bytes → Scans form at before bytes (past_step form found on at before bytes)
  step_then at before bytes (Err fault) e is on further sound = scans.here at before bytes fault is
  step_then at before bytes (Ok End) e is on further sound = rw is (scans.nothing at before)
  step_then at before bytes (Ok (Skip n)) e is on further sound =
      let long = skip_long at before bytes n e is in
      let some : 0 < n = omega (arith, agrees.some_piece (take n bytes) (drop n bytes) is) in
      let held = further (at + n) (form.past_piece before (take n bytes)) n some
      (take_within n bytes long) (sound_after_piece before bytes n is sound) in
      rw take-append-drop at (piece_then at before (take n bytes) (drop n bytes) is
      (on (at + n) (form.past_piece before (take n bytes)) (drop n bytes)) (rw long held))
  step_then at before bytes (Ok (Take n)) e is on further sound =
      let long = take_long at before bytes n e is in
      let some : 0 < n = omega (arith, agrees.some_item before (take n bytes) (drop n bytes) is) in
      let held = further (at + n) (form.past_item before (take n bytes)) n some
      (take_within n bytes long) (sound_after_item before bytes n is sound) in
      rw take-append-drop at (item_then at before (take n bytes) (drop n bytes) is
      (on (at + n) (form.past_item before (take n bytes)) (drop n bytes)) (rw long held))

  read_holds : (turns at : ℕ) (before : B) (bytes : List ℕ) → IsSound bytes → length bytes ≤ turns
      → Scans form at before bytes (read form step turns at before bytes)
  unfolding read
  read_holds zero at before [] sound few = scans.nothing at before
  read_holds zero at before (b ∷ bs) sound few = absurd (omega arith)
  read_holds (suc turns) at before bytes sound few =
      step_then at before bytes (step at before bytes) refl (agrees.holds at before bytes sound)
      (read form step turns)
      (λ from known n some within left. read_holds turns from known (drop n bytes) left
      (omega (arith, length-drop n bytes))) sound

  -- the laws of whole texts

  pub scan-Splits : (at : ℕ) (before : B) (bytes : List ℕ) (items : List T)
      → Splits form at before bytes items → scan form step at before bytes ≡ Ok items
  unfolding scan
  scan-Splits at before bytes items h =
      read-Splits at before bytes items h (length bytes) (omega arith)

  pub scan-Fails : (at : ℕ) (before : B) (bytes : List ℕ) (fault : F)
      → Fails form at before bytes fault → scan form step at before bytes ≡ Err fault
  unfolding scan
  scan-Fails at before bytes fault h =
      read-Fails at before bytes fault h (length bytes) (omega arith)

  pub scan-Scans : (at : ℕ) (before : B) (bytes : List ℕ) (outcome : Result (List T) F)
      → Scans form at before bytes outcome → scan form step at before bytes ≡ outcome
  scan-Scans at before bytes (Ok items) h = scan-Splits at before bytes items h
  scan-Scans at before bytes (Err fault) h = scan-Fails at before bytes fault h

  -- every text has items or a first fault: what the function gives
  pub scan_holds : (at : ℕ) (before : B) (bytes : List ℕ) → IsSound bytes
      → Scans form at before bytes (scan form step at before bytes)
  unfolding scan
  scan_holds at before bytes sound = read_holds (length bytes) at before bytes sound (omega arith)

  pub one_list : (at : ℕ) (before : B) (bytes : List ℕ) (a b : List T)
      → Splits form at before bytes a → Splits form at before bytes b → a ≡ b
  one_list at before bytes a b h k = let p = scan-Splits at before bytes a h in let q =
      scan-Splits at before bytes b k in cc

  pub one_fault : (at : ℕ) (before : B) (bytes : List ℕ) (a b : F) → Fails form at before bytes a
      → Fails form at before bytes b → a ≡ b
  one_fault at before bytes a b h k = let p = scan-Fails at before bytes a h in let q =
      scan-Fails at before bytes b k in cc

  pub never_both : (at : ℕ) (before : B) (bytes : List ℕ) (items : List T) (fault : F)
      → Splits form at before bytes items → Fails form at before bytes fault → ⊥
  never_both at before bytes items fault h k = let p =
      scan-Splits at before bytes items h in let q = scan-Fails at before bytes fault k in cc

  -- one step of the scan

  pub scan-step : (at : ℕ) (before : B) (bytes : List ℕ) → IsSound bytes
      → scan form step at before bytes ≡ past_step form (step at before bytes)
      (scan form step) at before bytes
  scan-step at before bytes sound =
      scan-Scans at before bytes _
      (step_then at before bytes (step at before bytes) refl (agrees.holds at before bytes sound)
      (scan form step)
      (λ from known n some within left. scan_holds from known (drop n bytes) left) sound)

  -- a piece or an item that was found is some of the bytes, and sound bytes follow it
  pub step_ahead : (at : ℕ) (before : B) (bytes : List ℕ) → IsSound bytes → (n : ℕ)
      → (step at before bytes ≡ Ok (Skip n)) ⊎ (step at before bytes ≡ Ok (Take n))
      → (0 < n) × (n ≤ length bytes) × IsSound (drop n bytes)
  step_ahead at before bytes sound n (inl e) =
      let is : form.IsPiece (take n bytes) (drop n bytes) =
      rw e at (agrees.holds at before bytes sound) in
      let long = skip_long at before bytes n e is in (
        omega (arith, agrees.some_piece (take n bytes) (drop n bytes) is),
        take_within n bytes long,
        sound_after_piece before bytes n is sound,
      )
  step_ahead at before bytes sound n (inr e) =
      let is : form.IsItem before (take n bytes) (drop n bytes) =
      rw e at (agrees.holds at before bytes sound) in
      let long = take_long at before bytes n e is in (
        omega (arith, agrees.some_item before (take n bytes) (drop n bytes) is),
        take_within n bytes long,
        sound_after_item before bytes n is sound,
      )
