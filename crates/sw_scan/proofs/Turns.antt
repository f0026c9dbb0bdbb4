-- The turns of a loop that scans a text: it has taken some items, and the scan of the rest gives
-- what is left.
use Rattle.std.proofs.Common.{◌≡◌, ℕ, ◌+◌, ◌<◌, ◌≤◌, List, [], ◌∷◌, ◌++◌, length, take, drop}
use Rattle.std.proofs.Common.{Result, Ok, Err, refl, sym, ap, ◌∙◌, ◌⊎◌, inl, inr, arith}
use Rattle.std.proofs.Common.{length-drop}
use Rattle.std.proofs.lemmas.List.{append-nil, append_assoc, drop-drop}
use Rattle.sw_scan.specs.declared.Step.{Step}
use Rattle.sw_scan.specs.declared.Step.TheVariants.{End, Skip, Take}
use Rattle.sw_scan.specs.Scan.{TextForm}
use Rattle.sw_scan.specs.Reading.{StepOf, with_prefix, past_step, scan}
use Rattle.sw_scan.proofs.Agreement.{Agrees}
use Rattle.sw_scan.proofs.ScanLaws.{scan-step, step_ahead}

-- The scan of `text`, whose outcome is known, has come to the offset `at` with these items taken.
pub record IsAt {B T F : Type 0} (form : TextForm B T F) (IsSound : List ℕ → Type 0)
    (step : StepOf B F) (text : List ℕ) (outcome : Result (List T) F)
    (items : List T) (at : ℕ) (before : B) : Type 0 where
  pub gives : with_prefix items (scan form step at before (drop at text)) ≡ outcome
  pub inside : at ≤ length text
  pub sound : IsSound (drop at text)

with_prefix-nil : {T F : Type 0} (outcome : Result (List T) F) → with_prefix [] outcome ≡ outcome
with_prefix-nil (Ok items) = refl
with_prefix-nil (Err fault) = refl

with_prefix-append : {T F : Type 0} (passed more : List T) (outcome : Result (List T) F)
    → with_prefix passed (with_prefix more outcome) ≡ with_prefix (passed ++ more) outcome
with_prefix-append passed more (Ok items) = ap Ok (sym (append_assoc passed more items))
with_prefix-append passed more (Err fault) = refl

module _ {B T F : Type 0} {form : TextForm B T F} {IsSound : List ℕ → Type 0} {step : StepOf B F}
    (agrees : Agrees form IsSound step) where
  pub starts : (text : List ℕ) (before : B) → IsSound text
      → IsAt form IsSound step text (scan form step 0 before text) [] 0 before
  starts text before sound = record {
    gives = with_prefix-nil (scan form step 0 before text);
    inside = omega arith;
    sound = sound;
  }

  module _ {text : List ℕ} {outcome : Result (List T) F} {items : List T} {at : ℕ} {before : B}
      (is : IsAt form IsSound step text outcome items at before) where
    -- what the step that was found makes of the rest
    goes : (found : Result Step F) → step at before (drop at text) ≡ found
        → with_prefix items (past_step form found (scan form step) at before (drop at text))
        ≡ outcome
    goes found e =
        let step_is = scan-step agrees at before (drop at text) is.sound in
        let past = λ (o : Result Step F). past_step form o (scan form step) at before
        (drop at text) in
        ap (λ o. with_prefix items (past o)) (sym e)
        ∙ (ap (with_prefix items) (sym step_is) ∙ is.gives)

    pub ends_with : step at before (drop at text) ≡ Ok End → outcome ≡ Ok items
    ends_with e = sym (goes (Ok End) e) ∙ ap Ok (append-nil items)

    pub fails_with : (fault : F) → step at before (drop at text) ≡ Err fault → outcome ≡ Err fault
    fails_with fault e = sym (goes (Err fault) e)

    -- the piece or the item lies inside the text
    pub ahead : (n : ℕ)
        → (step at before (drop at text) ≡ Ok (Skip n))
        ⊎ (step at before (drop at text) ≡ Ok (Take n))
        → (0 < n) × (at + n ≤ length text) × IsSound (drop (at + n) text)
    ahead n e =
        let found = step_ahead agrees at before (drop at text) is.sound n e in
        let within : at + n ≤ length text =
        omega (arith, found.1, length-drop at text, is.inside) in
        (found.0, within, rw (drop-drop n at text) at found.2)

    pub skips_on : (n : ℕ) → step at before (drop at text) ≡ Ok (Skip n)
        → IsAt form IsSound step text outcome items (at + n)
        (form.past_piece before (take n (drop at text)))
    skips_on n e =
        let found = ahead n (inl e) in
        record {
          gives = rw (drop-drop n at text) at (goes (Ok (Skip n)) e);
          inside = found.1;
          sound = found.2;
        }

    pub takes_on : (n : ℕ) → step at before (drop at text) ≡ Ok (Take n)
        → IsAt form IsSound step text outcome
        (items ++ form.item_of at before (take n (drop at text)) (drop (at + n) text) ∷ [])
        (at + n) (form.past_item before (take n (drop at text)))
    takes_on n e =
        let found = ahead n (inr e) in
        let rest = rw (drop-drop n at text) at (goes (Ok (Take n)) e) in
        let item = form.item_of at before (take n (drop at text)) (drop (at + n) text) in
        record {
          gives = sym (with_prefix-append items (item ∷ []) _) ∙ rest;
          inside = found.1;
          sound = found.2;
        }
