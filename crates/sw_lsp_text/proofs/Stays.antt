-- What a stream begins with is one, and stays so whatever follows.
use Rattle.std.proofs.Common.{◌≡◌, ◌≢◌, ℕ, ◌+◌, ◌<◌, ◌≤◌, ◌⊎◌, inl, inr, Bool, true, false, cond, ltb}
use Rattle.std.proofs.Common.{List, ◌++◌, length, take, Option, Some, None, refl, sym, ap, ◌∙◌, arith}
use Rattle.std.proofs.Common.{length-append}
use Rattle.std.proofs.lemmas.Bool.{cases_lt, le-ltb, ltb-false}
use Rattle.std.proofs.lemmas.List.{get_or_append_left, take-append-le}
use Rattle.memchr.specs.Find.{OccursAt}
use Rattle.sw_lsp_text.specs.Frames.{HasHeader, HasNoHeader, IsCut, IsHead, blank_line}
use Rattle.sw_lsp_text.specs.Frames.{cut_by_head, cut_by_number, cut_by_value}
use Rattle.sw_lsp_text.specs.Header.{value_in, number_in}
use Rattle.sw_lsp_text.specs.declared.frame.Cut.{Cut}
use Rattle.sw_lsp_text.specs.declared.frame.Cut.TheVariants.{Partial, Endless, TooLong, Whole}
use Rattle.sw_lsp_text.proofs.Heads.{first_is_least}

-- ---- the same bytes

no_two : (bytes : List ℕ) (header : ℕ) (lines : List ℕ) → HasNoHeader bytes → HasHeader bytes header lines → ⊥
no_two bytes header lines none has =
    let past : 1024 < has.end + 4 = none has.end has.ends.1 in
    omega (arith, has.header_is, has.short)

same_pair : (h k : ℕ) (l m : List ℕ) → h ≡ k → l ≡ m → ◌≡◌ {A = Option (ℕ × List ℕ)} (Some (h, l)) (Some (k, m))
same_pair h k l m e f = cc

same_header : (bytes : List ℕ) (h k : ℕ) (l m : List ℕ) → HasHeader bytes h l → HasHeader bytes k m
    → ◌≡◌ {A = Option (ℕ × List ℕ)} (Some (h, l)) (Some (k, m))
same_header bytes h k l m a b =
    let below = first_is_least bytes a.end b.end a.ends b.ends.1 in
    let above = first_is_least bytes b.end a.end b.ends a.ends.1 in
    let e : a.end ≡ b.end = omega arith in
    same_pair h k l m (omega (arith, a.header_is, b.header_is))
    (a.lines_are ∙ ap (λ n. take n bytes) e ∙ sym b.lines_are)

heads_agree : (bytes : List ℕ) (a b : Option (ℕ × List ℕ)) → IsHead bytes a → IsHead bytes b → a ≡ b
heads_agree bytes None None h k = refl
heads_agree bytes None (Some b) h k = absurd (no_two bytes b.0 b.1 h k)
heads_agree bytes (Some a) None h k = absurd (no_two bytes a.0 a.1 k h)
heads_agree bytes (Some a) (Some b) h k = same_header bytes a.0 b.0 a.1 b.1 h k

pub cut_is_one : (bytes : List ℕ) (a b : Cut) → IsCut bytes a → IsCut bytes b → a ≡ b
cut_is_one bytes a b h k =
    h.cut_is ∙ ap (cut_by_head (length bytes)) (heads_agree bytes h.head k.head h.is_head k.is_head)
    ∙ sym k.cut_is

-- ---- more bytes

module _ (bytes more : List ℕ) where
  occurs_more : (k : ℕ) → OccursAt bytes blank_line k → OccursAt (bytes ++ more) blank_line k
  occurs_more k o = record {
    fits = omega (arith, o.fits, length-append bytes more);
    reads = λ j h. get_or_append_left bytes more 0 (k + j) (omega (arith, o.fits)) ∙ o.reads j h;
  }

  occurs_less : (k : ℕ) → k + 4 ≤ length bytes → OccursAt (bytes ++ more) blank_line k → OccursAt bytes blank_line k
  occurs_less k fits o = record {
    fits = fits;
    reads = λ j h. sym (get_or_append_left bytes more 0 (k + j) (omega arith)) ∙ o.reads j h;
  }

  past_or_here : 1024 ≤ length bytes → HasNoHeader bytes → (end : ℕ) → OccursAt (bytes ++ more) blank_line end
      → (length bytes < end + 4) ⊎ (end + 4 ≤ length bytes) → 1024 < end + 4
  past_or_here long none end occurs (inl past) = omega arith
  past_or_here long none end occurs (inr here) = none end (occurs_less end here occurs)

  no_header_stays : 1024 ≤ length bytes → HasNoHeader bytes → HasNoHeader (bytes ++ more)
  no_header_stays long none end occurs =
      past_or_here long none end occurs (cases_lt (length bytes) (end + 4))

  header_stays : (header : ℕ) (lines : List ℕ) → HasHeader bytes header lines → HasHeader (bytes ++ more) header lines
  header_stays header lines h =
      let fits : h.end + 4 ≤ length bytes = h.ends.1.fits in
      record {
        end = h.end;
        ends = (
          record {
            low = h.ends.0.low;
            high = omega (arith, length-append bytes more);
            before = λ k low less occurs. h.ends.0.before k low less (occurs_less k (omega arith) occurs);
          },
          occurs_more h.end h.ends.1,
        );
        header_is = h.header_is;
        short = h.short;
        lines_are = h.lines_are ∙ sym (take-append-le h.end bytes more (omega arith));
      }

-- ---- the cut that a header makes, as more comes

later_test : (b c : Bool) (header n : ℕ) → (b ≡ false → c ≡ false) → cond b Partial (Whole header n) ≢ Partial
    → cond c Partial (Whole header n) ≡ cond b Partial (Whole header n)
later_test true c header n same ne = absurd (ne refl)
later_test false c header n same ne = rw (same refl)

later_tests : (a b c : Bool) (header n : ℕ) → (b ≡ false → c ≡ false)
    → cond a (TooLong header) (cond b Partial (Whole header n)) ≢ Partial
    → cond a (TooLong header) (cond c Partial (Whole header n)) ≡ cond a (TooLong header) (cond b Partial (Whole header n))
later_tests true b c header n same ne = refl
later_tests false b c header n same ne = later_test b c header n same ne

module _ (len longer header : ℕ) (more : len ≤ longer) where
  number_stays : (n : Option ℕ) → cut_by_number len header n ≢ Partial
      → cut_by_number longer header n ≡ cut_by_number len header n
  number_stays None ne = refl
  number_stays (Some n) ne =
      later_tests (ltb 16777216 n) (ltb len (header + n)) (ltb longer (header + n)) header n
      (λ e. let came = ltb-false len (header + n) e in le-ltb longer (header + n) (omega arith)) ne

  value_stays : (v : Option (List ℕ)) → cut_by_value len header v ≢ Partial
      → cut_by_value longer header v ≡ cut_by_value len header v
  value_stays None ne = refl
  value_stays (Some v) ne = number_stays (number_in v) ne

no_longer_short : (b : Bool) → cond b Partial Endless ≢ Partial → b ≡ false
no_longer_short true ne = absurd (ne refl)
no_longer_short false ne = refl

module _ (bytes more : List ℕ) where
  long_without : cut_by_head (length bytes) None ≢ Partial → 1024 ≤ length bytes
  long_without ne = ltb-false (length bytes) 1024 (no_longer_short (ltb (length bytes) 1024) ne)

  head_stays : (head : Option (ℕ × List ℕ)) → cut_by_head (length bytes) head ≢ Partial
      → IsHead bytes head → IsHead (bytes ++ more) head
  head_stays None ne h = no_header_stays bytes more (long_without ne) h
  head_stays (Some head) ne h = header_stays bytes more head.0 head.1 h

  head_cut_stays : (head : Option (ℕ × List ℕ)) → cut_by_head (length bytes) head ≢ Partial
      → cut_by_head (length (bytes ++ more)) head ≡ cut_by_head (length bytes) head
  head_cut_stays None ne =
      let long = long_without ne in
      let now : ltb (length bytes) 1024 ≡ false = le-ltb (length bytes) 1024 long in
      let then : ltb (length (bytes ++ more)) 1024 ≡ false =
      le-ltb (length (bytes ++ more)) 1024 (omega (arith, length-append bytes more)) in
      rw (now, then)
  head_cut_stays (Some head) ne =
      value_stays (length bytes) (length (bytes ++ more)) head.0 (omega (arith, length-append bytes more))
      (value_in head.1) ne

  pub cut_stays : (cut : Cut) → cut ≢ Partial → IsCut bytes cut → IsCut (bytes ++ more) cut
  cut_stays cut ne h =
      let still : cut_by_head (length bytes) h.head ≢ Partial = λ e. ne (h.cut_is ∙ e) in
      record {
        head = h.head;
        is_head = head_stays h.head still h.is_head;
        cut_is = h.cut_is ∙ sym (head_cut_stays h.head still);
      }
