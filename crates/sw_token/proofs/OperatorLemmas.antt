-- Runs of operator bytes, as the definition says them and as the function finds them.
use Rattle.std.proofs.Common.{◌≡◌, ℕ, suc, ◌+◌, ◌<◌, ◌≤◌, true, false, List, [], ◌∷◌, ◌++◌, length}
use Rattle.std.proofs.Common.{take, drop, get_or, refl, ap, ◌∙◌, subst, inl, inr, arith, drop-cons}
use Rattle.std.proofs.Common.{length-drop}
use Rattle.std.proofs.lemmas.Bool.{cases_Bool}
use Rattle.std.proofs.lemmas.List.{take-append-drop}
use Rattle.sw_token.specs.Operators.{runs_on, IsRun, run_len}

run_len-yes : (byte : ℕ) (more : List ℕ) → runs_on (byte ∷ more) ≡ true
    → run_len (byte ∷ more) ≡ suc (run_len more)
run_len-yes byte more on =
    let one : 1 + run_len more ≡ suc (run_len more) = omega arith in
    rw (on, one) refl

run_len-no : (bytes : List ℕ) → runs_on bytes ≡ false → run_len bytes ≡ 0
run_len-no [] off = refl
run_len-no (byte ∷ more) off = rw off refl

pub run_len-IsRun : (text after : List ℕ) → IsRun text after → run_len (text ++ after) ≡ length text
run_len-IsRun [] after is = run_len-no after is
run_len-IsRun (byte ∷ text) after is =
    run_len-yes byte (text ++ after) is.0 ∙ ap suc (run_len-IsRun text after is.1)

pub IsRun-run_len : (bytes : List ℕ)
    → IsRun (take (run_len bytes) bytes) (drop (run_len bytes) bytes)
IsRun-run_len [] = refl
IsRun-run_len (byte ∷ more) = elim (cases_Bool (runs_on (byte ∷ more))) [
  | inl on ↦
      let whole : runs_on (byte ∷ (take (run_len more) more ++ drop (run_len more) more)) ≡ true =
      rw (take-append-drop (run_len more) more) on in
      rw (run_len-yes byte more on) (whole, IsRun-run_len more)
  | inr off ↦ rw (run_len-no (byte ∷ more) off) off
]

pub run_len-within : (bytes : List ℕ) → run_len bytes ≤ length bytes
run_len-within [] = omega arith
run_len-within (byte ∷ more) = elim (cases_Bool (runs_on (byte ∷ more))) [
  | inl on ↦ omega (arith, run_len-yes byte more on, run_len-within more)
  | inr off ↦ omega (arith, run_len-no (byte ∷ more) off)
]

-- one more byte of the run that the loop counts
pub run_on : (bytes : List ℕ) (n : ℕ) → n ≤ length bytes → runs_on (drop n bytes) ≡ true
    → (n < length bytes) × (run_len (drop n bytes) ≡ 1 + run_len (drop (n + 1) bytes))
run_on bytes n within on = go (drop n bytes) refl on where
  go : (rest : List ℕ) → drop n bytes ≡ rest → runs_on rest ≡ true
      → (n < length bytes) × (run_len (drop n bytes) ≡ 1 + run_len (drop (n + 1) bytes))
  go [] e on_ = cc
  go (byte ∷ more) e on_ =
      let inside : n < length bytes = omega (arith, length-drop n bytes, ap length e) in
      let next : suc n ≡ n + 1 = omega arith in
      let parts : drop n bytes ≡ get_or bytes n 0 ∷ drop (suc n) bytes =
      drop-cons bytes n 0 inside in
      let run =
      run_len-yes (get_or bytes n 0) (drop (suc n) bytes)
      (subst (λ xs. runs_on xs ≡ true) parts on) in
      let one : suc (run_len (drop (n + 1) bytes)) ≡ 1 + run_len (drop (n + 1) bytes) =
      omega arith in
      (inside, ap run_len parts ∙ (run ∙ (ap (λ k. suc (run_len (drop k bytes))) next ∙ one)))
