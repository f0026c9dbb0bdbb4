-- A cut of a stream is one of its first bytes too, if these have all that it counts. Bytes that aren't
-- enough yet are few.
use Rattle.std.proofs.Common.{◌≡◌, ◌≢◌, ℕ, ◌+◌, ◌<◌, ◌≤◌, Bool, true, false, cond, ltb, List, ◌++◌, length}
use Rattle.std.proofs.Common.{Option, Some, None, refl, sym, subst, ◌∙◌, arith, length-append}
use Rattle.std.proofs.lemmas.Bool.{le-ltb, ltb-true, ltb-false}
use Rattle.std.proofs.lemmas.List.{get_or_append_left, take-append-le}
use Rattle.memchr.specs.Find.{OccursAt}
use Rattle.sw_lsp_text.specs.Frames.{HasHeader, IsCut, IsHead, IsWithin, blank_line, cut_by_head}
use Rattle.sw_lsp_text.specs.Frames.{cut_by_number, cut_by_value}
use Rattle.sw_lsp_text.specs.Header.{value_in, number_in}
use Rattle.sw_lsp_text.specs.declared.frame.Cut.{Cut}
use Rattle.sw_lsp_text.specs.declared.frame.Cut.TheVariants.{Partial, Endless}
use Rattle.sw_lsp_text.specs.declared.frame.Cut.TheVariants.{TooLong, Whole}

-- ---- the first bytes

module _ (bytes more : List ℕ) where
  occurs_still : (k : ℕ) → OccursAt bytes blank_line k → OccursAt (bytes ++ more) blank_line k
  occurs_still k o = record {
    fits = omega (arith, o.fits, length-append bytes more);
    reads = λ j h. get_or_append_left bytes more 0 (k + j) (omega (arith, o.fits)) ∙ o.reads j h;
  }

  occurred : (k : ℕ) → k + 4 ≤ length bytes → OccursAt (bytes ++ more) blank_line k
      → OccursAt bytes blank_line k
  occurred k fits o = record {
    fits = fits;
    reads = λ j h. sym (get_or_append_left bytes more 0 (k + j) (omega arith)) ∙ o.reads j h;
  }

  header_was : (header : ℕ) (lines : List ℕ) → header ≤ length bytes
      → HasHeader (bytes ++ more) header lines → HasHeader bytes header lines
  header_was header lines fits h =
      let within : h.end + 4 ≤ length bytes = omega (arith, h.header_is) in
      record {
        end = h.end;
        ends = (
          record {
            low = h.ends.0.low;
            high = omega arith;
            before = λ k low less occurs. h.ends.0.before k low less (occurs_still k occurs);
          },
          occurred h.end within h.ends.1,
        );
        header_is = h.header_is;
        short = h.short;
        lines_are = h.lines_are ∙ take-append-le h.end bytes more (omega arith);
      }

tests_were : (a b c : Bool) (len header n : ℕ) → (header + n ≤ len → c ≡ false)
    → cond a (TooLong header) (cond b Partial (Whole header n)) ≢ Partial
    → IsWithin len (cond a (TooLong header) (cond b Partial (Whole header n)))
    → (header ≤ len) × (cond a (TooLong header) (cond c Partial (Whole header n))
    ≡ cond a (TooLong header) (cond b Partial (Whole header n)))
tests_were true b c len header n short ne within = (within, refl)
tests_were false true c len header n short ne within = absurd (ne refl)
tests_were false false c len header n short ne within =
    (omega (arith, within.0), rw (short within.0) refl)

module _ (len longer header : ℕ) where
  number_was : (n : Option ℕ) → cut_by_number longer header n ≢ Partial
      → IsWithin len (cut_by_number longer header n)
      → (header ≤ len) × (cut_by_number len header n ≡ cut_by_number longer header n)
  number_was None ne within = (within, refl)
  number_was (Some n) ne within =
      tests_were (ltb 16777216 n) (ltb longer (header + n)) (ltb len (header + n)) len header n
      (λ fits. le-ltb len (header + n) fits) ne within

  value_was : (v : Option (List ℕ)) → cut_by_value longer header v ≢ Partial
      → IsWithin len (cut_by_value longer header v)
      → (header ≤ len) × (cut_by_value len header v ≡ cut_by_value longer header v)
  value_was None ne within = (within, refl)
  value_was (Some v) ne within = number_was (number_in v) ne within

neither : (b : Bool) → cond b Partial Endless ≢ Partial → cond b Partial Endless ≢ Endless → ⊥
neither true partial endless = partial refl
neither false partial endless = endless refl

module _ (bytes more : List ℕ) where
  head_was : (head : Option (ℕ × List ℕ)) → cut_by_head (length (bytes ++ more)) head ≢ Partial
      → cut_by_head (length (bytes ++ more)) head ≢ Endless
      → IsWithin (length bytes) (cut_by_head (length (bytes ++ more)) head)
      → IsHead (bytes ++ more) head
      → IsHead bytes head
      × (cut_by_head (length bytes) head ≡ cut_by_head (length (bytes ++ more)) head)
  head_was None partial endless within h =
      absurd (neither (ltb (length (bytes ++ more)) 1024) partial endless)
  head_was (Some head) partial endless within h =
      let was = value_was (length bytes) (length (bytes ++ more)) head.0 (value_in head.1) partial within in
      (header_was bytes more head.0 head.1 was.0 h, was.1)

  pub cut_was : (cut : Cut) → cut ≢ Partial → cut ≢ Endless → IsWithin (length bytes) cut
      → IsCut (bytes ++ more) cut → IsCut bytes cut
  cut_was cut partial endless within h =
      let was = head_was h.head (λ e. partial (h.cut_is ∙ e)) (λ e. endless (h.cut_is ∙ e))
      (subst (IsWithin (length bytes)) h.cut_is within) h.is_head in
      record { head = h.head; is_head = was.0; cut_is = h.cut_is ∙ sym was.1 }

-- ---- bytes that aren't enough yet

few_by_tests : (a b : Bool) (len header n : ℕ) → header ≤ 1024 → (a ≡ false → n ≤ 16777216)
    → (b ≡ true → len < header + n)
    → Partial ≡ cond a (TooLong header) (cond b Partial (Whole header n)) → len < 16778240
few_by_tests true b len header n short few more e = let no : ⊥ = cc in absurd no
few_by_tests false true len header n short few more e = omega (arith, few refl, more refl)
few_by_tests false false len header n short few more e = let no : ⊥ = cc in absurd no

few_by_number : (len header : ℕ) (n : Option ℕ) → header ≤ 1024
    → Partial ≡ cut_by_number len header n → len < 16778240
few_by_number len header None short e = let no : ⊥ = cc in absurd no
few_by_number len header (Some n) short e =
    few_by_tests (ltb 16777216 n) (ltb len (header + n)) len header n short
    (λ e. ltb-false 16777216 n e) (λ e. ltb-true len (header + n) e) e

few_by_value : (len header : ℕ) (v : Option (List ℕ)) → header ≤ 1024
    → Partial ≡ cut_by_value len header v → len < 16778240
few_by_value len header None short e = let no : ⊥ = cc in absurd no
few_by_value len header (Some v) short e = few_by_number len header (number_in v) short e

few_without : (b : Bool) (len : ℕ) → (b ≡ true → len < 1024) → Partial ≡ cond b Partial Endless → len < 16778240
few_without true len few e = omega (arith, few refl)
few_without false len few e = let no : ⊥ = cc in absurd no

few_by_head : (bytes : List ℕ) (head : Option (ℕ × List ℕ)) → IsHead bytes head
    → Partial ≡ cut_by_head (length bytes) head → length bytes < 16778240
few_by_head bytes None h e =
    few_without (ltb (length bytes) 1024) (length bytes) (λ t. ltb-true (length bytes) 1024 t) e
few_by_head bytes (Some head) h e = few_by_value (length bytes) head.0 (value_in head.1) h.short e

pub partial_is_short : (bytes : List ℕ) → IsCut bytes Partial → length bytes < 16778240
partial_is_short bytes h = few_by_head bytes h.head h.is_head h.cut_is
