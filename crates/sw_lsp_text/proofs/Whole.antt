-- What is sent is cut off as it was sent.
use Rattle.std.proofs.Common.{◌≡◌, ℕ, ◌+◌, ◌<◌, ◌≤◌, true, false, eqb, List, ◌∷◌, ◌++◌}
use Rattle.std.proofs.Common.{length, take, drop, get_or, codes, decimal, Some, None, refl, sym, ap, ◌∙◌}
use Rattle.std.proofs.Common.{arith, add-zero, append_assoc, lit<, length-append, ne_eqb}
use Rattle.std.proofs.Math.Seq.{take-append_seam, drop-append_seam}
use Rattle.std.proofs.lemmas.Bool.{ltb-true}
use Rattle.std.proofs.lemmas.Fmt.{length-decimal-le}
use Rattle.std.proofs.lemmas.List.{get_or_append_left, get_or-append-add}
use Rattle.std.proofs.lemmas.List.Elements.{All-weaker}
use Rattle.std.proofs.lemmas.List.Folds.{list_all-append}
use Rattle.std.proofs.lemmas.List.Splits.{slice_split_none}
use Rattle.std.proofs.lemmas.List.Sums.{AllPass-from_list_all}
use Rattle.std.specs.List.{list_all, All}
use Rattle.std.specs.Option.{option_or}
use Rattle.memchr.specs.Find.{OccursAt}
use Rattle.sw_lsp_text.specs.Frames.{HasHeader, IsCut, blank_line, cut_by_number, cut_by_value}
use Rattle.sw_lsp_text.specs.Header.{value_of, value_in, first_value}
use Rattle.sw_lsp_text.specs.Sent.{header_of}
use Rattle.sw_lsp_text.specs.declared.frame.Cut.TheVariants.{Whole}
use Rattle.sw_lsp_text.proofs.Heads.{whole}
use Rattle.sw_lsp_text.proofs.Numerals.{IsShown, is_plain, decimal_is_shown, number_in_shown}

-- the line of a header
abbrev line_of : List ℕ → List ℕ
line_of digits = codes "Content-Length: " ++ digits

plain_line : (n : ℕ) (digits : List ℕ) → IsShown n digits → list_all is_plain (line_of digits) ≡ true
plain_line n digits h = rw (list_all-append is_plain (codes "Content-Length: ") digits, h.plain) refl

-- ---- its value

value_of_line : (digits : List ℕ) → value_of (line_of digits) ≡ Some (32 ∷ digits)
unfolding value_of
value_of_line digits = refl

no_end : (xs : List ℕ) → list_all is_plain xs ≡ true → All (λ x. eqb x 10 ≡ false) xs
no_end xs h =
    All-weaker (λ x. is_plain x ≡ true) (λ x. eqb x 10 ≡ false)
    (λ x plain. ne_eqb x 10 (λ e. omega (arith, ltb-true 31 x plain))) xs (AllPass-from_list_all is_plain xs h)

value_in_line : (n : ℕ) (digits : List ℕ) → IsShown n digits → value_in (line_of digits) ≡ Some (32 ∷ digits)
value_in_line n digits h =
    let one = slice_split_none (λ b. eqb b 10) (line_of digits) (no_end (line_of digits) (plain_line n digits h)) in
    ap first_value one ∙ ap (λ v. option_or v None) (value_of_line digits)

-- ---- where it ends

module _ (line rest : List ℕ) where
  ends_here : OccursAt ((line ++ blank_line) ++ rest) blank_line (length line)
  ends_here = record {
    fits = omega (arith, length-append (line ++ blank_line) rest, length-append line blank_line);
    reads = λ j h.
        get_or_append_left (line ++ blank_line) rest 0 (length line + j) (omega (arith, length-append line blank_line))
        ∙ get_or-append-add line blank_line j 0;
  }

  not_before : list_all is_plain line ≡ true → (k : ℕ) → k < length line
      → OccursAt ((line ++ blank_line) ++ rest) blank_line k → ⊥
  not_before plain k less occurs =
      let this : get_or ((line ++ blank_line) ++ rest) k 0 ≡ get_or line k 0 =
      get_or_append_left (line ++ blank_line) rest 0 k (omega (arith, length-append line blank_line))
      ∙ get_or_append_left line blank_line 0 k less in
      let above : 31 < get_or line k 0 = ltb-true 31 (get_or line k 0) (AllPass-from_list_all is_plain line plain k 0 less) in
      let first : get_or ((line ++ blank_line) ++ rest) (k + 0) 0 ≡ 13 = occurs.reads 0 (lit< tt) in
      let at_k : get_or ((line ++ blank_line) ++ rest) k 0 ≡ 13 = rw add-zero at first in
      omega arith

  first_line : take (length line) ((line ++ blank_line) ++ rest) ≡ line
  first_line = rw append_assoc (take-append_seam line (blank_line ++ rest))

  header_there : list_all is_plain line ≡ true → length line ≤ 1020
      → HasHeader ((line ++ blank_line) ++ rest) (length (line ++ blank_line)) line
  header_there plain short = record {
    end = length line;
    ends = (
      record {
        low = omega arith;
        high = omega (arith, length-append (line ++ blank_line) rest, length-append line blank_line);
        before = λ k low less occurs. not_before plain k less occurs;
      },
      ends_here,
    );
    header_is = length-append line blank_line;
    short = omega (arith, length-append line blank_line);
    lines_are = sym first_line;
  }

-- ---- the frame

module _ (body more : List ℕ) (short : length body ≤ 16777216) where
  shown : IsShown (length body) (decimal (length body))
  shown = decimal_is_shown (length body) (omega arith)

  line_short : length (line_of (decimal (length body))) ≤ 1020
  line_short =
      let few : length (decimal (length body)) ≤ 8 = length-decimal-le 8 (length body) (lit< tt) (omega arith) (omega arith) in
      omega (arith, length-append (codes "Content-Length: ") (decimal (length body)))

  abbrev header : ℕ
  header = length (header_of body)

  cut_there : Whole header (length body)
      ≡ cut_by_value (length (header_of body ++ (body ++ more))) header (value_in (line_of (decimal (length body))))
  cut_there =
      let len = length (header_of body ++ (body ++ more)) in
      let long = length-append (header_of body) (body ++ more) in
      let longer = length-append body more in
      whole (length (header_of body ++ (body ++ more))) header (length body) (length body) (omega arith) short
      (omega arith) (omega arith)
      ∙ sym (ap (cut_by_number (length (header_of body ++ (body ++ more))) header)
      (number_in_shown (length body) (decimal (length body)) shown))
      ∙ sym (ap (cut_by_value (length (header_of body ++ (body ++ more))) header)
      (value_in_line (length body) (decimal (length body)) shown))

  cut_off : IsCut (header_of body ++ (body ++ more)) (Whole header (length body))
  cut_off = record {
    head = Some (header, line_of (decimal (length body)));
    is_head =
        header_there (line_of (decimal (length body))) (body ++ more)
        (plain_line (length body) (decimal (length body)) shown) line_short;
    cut_is = cut_there;
  }

  body_there : take (length body) (drop header (header_of body ++ (body ++ more))) ≡ body
  body_there =
      ap (take (length body)) (drop-append_seam (header_of body) (body ++ more)) ∙ take-append_seam body more

regrouped : (sent front body more : List ℕ) → sent ≡ front ++ body → sent ++ more ≡ front ++ (body ++ more)
regrouped sent front body more e = rw e (append_assoc front body more)

pub sent_is_cut_off : (body sent more : List ℕ) → sent ≡ header_of body ++ body → length body ≤ 16777216
    → IsCut (sent ++ more) (Whole (length (header_of body)) (length body))
    × (take (length body) (drop (length (header_of body)) (sent ++ more)) ≡ body)
sent_is_cut_off body sent more e short =
    rw (regrouped sent (header_of body) body more e) (cut_off body more short, body_there body more short)
