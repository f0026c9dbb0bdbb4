-- Lines that are read one after the other.
use Rattle.std.proofs.Common.{◌≡◌, ℕ, ◌+◌, ◌-◌, ◌<◌, ◌≤◌, inl, inr, Some, List, [], ◌∷◌, ◌++◌}
use Rattle.std.proofs.Common.{length, take}
use Rattle.std.proofs.Common.{drop, refl, sym, subst, ap, ◌∙◌, arith}
use Rattle.std.proofs.Common.{length-append, append_assoc}
use Rattle.std.proofs.Math.Seq.{drop-append-add, take-length}
use Rattle.std.proofs.lemmas.Bool.{cases_eq}
use Rattle.std.proofs.lemmas.Grind.{flat_map-append}
use Rattle.std.proofs.lemmas.List.{append-nil, get_or_push, get_or_append_left, length-drop}
use Rattle.std.proofs.lemmas.List.{take-append-le}
use Rattle.std.proofs.Math.ListN.{drop_of_length-le}
use Rattle.std.specs.List.{slice_get}
use Rattle.sw_dictation.proofs.Reading.{bad_past}
use Rattle.sw_dictation.specs.Lines.{line_text, IsBadPlace}
use Rattle.sw_list.proofs.ListLemmas.{at_seam, some_injective}
use Rattle.sw_cert.proofs.Beginning.{none_dropped}
use Rattle.sw_cert.proofs.Tailing.{tail_moved}
use Rattle.sw_cert.proofs.Texts.{form_is_readable}
use Rattle.sw_cert.specs.Begun.{IsRead}
use Rattle.sw_cert.specs.Certificate.{start, behind, IsLineAt, AreLinesFrom, IsCertificate}
use Rattle.sw_cert.specs.Certificate.{numbers_of}
use Rattle.sw_cert.specs.Form.{certificate_form}
use Rattle.sw_cert.specs.ReadLines.{text_of, AreLinesTo, AreStarts, AreLinesRead}
use Rattle.sw_cert.specs.Tails.{IsTail}
use Rattle.sw_cert.specs.declared.line.Extent.{Extent}
use Rattle.sw_cert.specs.declared.line.Line.{Line}
use Rattle.sw_cert.specs.declared.line.Spot.{Spot}
use Rattle.sw_cert.specs.declared.reading.Lines.{Lines}

lines_push : (extents : List Extent) (from : Spot) (lines : List Line) (to : Spot) (line : Line)
    → AreLinesTo extents from lines to → IsLineAt extents to line
    → AreLinesTo extents from (lines ++ line ∷ []) (behind line)
lines_push extents from [] to line e is = (subst (λ s. IsLineAt extents s line) e is, refl)
lines_push extents from (first ∷ lines) to line (is_first, are) is =
    (is_first, lines_push extents (behind first) lines to line are is)

all_lines : (extents : List Extent) (from : Spot) (lines : List Line) (to : Spot)
    → AreLinesTo extents from lines to → AreLinesFrom extents from lines
all_lines extents from [] to e = tt
all_lines extents from (line ∷ lines) to (is, are) =
    (is, all_lines extents (behind line) lines to are)

pub text_push : (lines : List Line) (line : Line)
    → text_of (lines ++ line ∷ []) ≡ text_of lines ++ line_text (numbers_of line)
text_push lines line =
    flat_map-append (λ (l : Line). line_text (numbers_of l)) lines (line ∷ [])
    ∙ ap (λ t. text_of lines ++ t) (append-nil (line_text (numbers_of line)))

-- a bad place behind lines
bad_behind : (extents : List Extent) (from : Spot) (lines : List Line) (to : Spot) (rest : List ℕ)
    (at : ℕ) → AreLinesTo extents from lines to
    → IsBadPlace (certificate_form extents) to rest at
    → IsBadPlace (certificate_form extents) from (text_of lines ++ rest)
    (length (text_of lines) + at)
bad_behind extents from [] to rest at e bad =
    let place : at ≡ 0 + at = omega arith in
    subst (IsBadPlace (certificate_form extents) from rest) place
    (subst (λ s. IsBadPlace (certificate_form extents) s rest at) e bad)
bad_behind extents from (line ∷ lines) to rest at (is, are) bad =
    let later = bad_behind extents (behind line) lines to rest at are bad in
    let first = bad_past (certificate_form extents) (form_is_readable extents) from
    (numbers_of line) (text_of lines ++ rest) (length (text_of lines) + at)
    (record { line = line; is_at = is; numbers_are = refl }) later in
    subst (λ t. IsBadPlace (certificate_form extents) from t
    (length (text_of (line ∷ lines)) + at))
    (sym (append_assoc (line_text (numbers_of line)) (text_of lines) rest))
    (subst (IsBadPlace (certificate_form extents) from
    (line_text (numbers_of line) ++ (text_of lines ++ rest))) place first)
  where
    place : length (line_text (numbers_of line)) + (length (text_of lines) + at)
        ≡ length (text_of (line ∷ lines)) + at
    place = omega (arith, length-append (line_text (numbers_of line)) (text_of lines))

pub starts_none : AreStarts [] []
starts_none = record { count = refl; each = λ k lt. absurd (omega (arith, lt)) }

starts_push : (lines : List Line) (starts : List ℕ) (line : Line) (at : ℕ) → AreStarts lines starts
    → at ≡ length (text_of lines) → AreStarts (lines ++ line ∷ []) (starts ++ at ∷ [])
starts_push lines starts line at are at_is = record {
  count = length-append starts (at ∷ []) ∙ ap (λ n. n + 1) are.count
      ∙ sym (length-append lines (line ∷ []));
  each = λ k lt. elim (cases_eq k (length lines)) [
    | inl e ↦ get_or_push starts at 0 k (are.count ∙ sym e) ∙ at_is
        ∙ ap (λ l. length (text_of l)) (sym (first_lines k e))
    | inr ne ↦ (let inside : k < length lines =
        omega (arith, lt, ne, length-append lines (line ∷ [])) in
        get_or_append_left starts (at ∷ []) 0 k (omega (arith, inside, are.count))
        ∙ are.each k inside
        ∙ ap (λ l. length (text_of l)) (sym (take-append-le k lines (line ∷ [])
        (omega (arith, inside)))))
  ];
}
  where
    first_lines : (k : ℕ) → k ≡ length lines → take k (lines ++ line ∷ []) ≡ lines
    first_lines k e = take-append-le k lines (line ∷ []) (omega (arith, e))
        ∙ ap (λ n. take n lines) e ∙ take-length lines

-- the line that was added is the last one
last_is : (lines : List Line) (line last : Line)
    → slice_get (lines ++ line ∷ []) (length (lines ++ line ∷ []) - 1) ≡ Some last → line ≡ last
last_is lines line last here =
    let place : length (lines ++ line ∷ []) - 1 ≡ length lines =
    omega (arith, length-append lines (line ∷ [])) in
    some_injective (sym (at_seam lines line [])
    ∙ ap (slice_get (lines ++ line ∷ [])) (sym place) ∙ here)

module _ (extents : List Extent) (bytes : List ℕ) where
  pub none_read : AreLinesRead extents bytes
      (record { lines = []; starts = []; spot = start; tail = 0; at = 0 })
  none_read = record {
    are_lines = refl;
    starts = starts_none;
    within = omega arith;
    at_is = refl;
    splits = none_dropped bytes;
    rises = omega arith;
    tail = λ last here. cc;
  }

  -- one line more
  one_more : (read : Lines) (line : Line) (tail len : ℕ) → AreLinesRead extents bytes read
      → IsRead extents read.spot (drop read.at bytes) line len
      → IsTail (drop read.at bytes) line tail len
      → AreLinesRead extents bytes (record {
        lines = read.lines ++ line ∷ [];
        starts = read.starts ++ read.at ∷ [];
        spot = behind line;
        tail = read.at + tail;
        at = read.at + len;
      })
  one_more read line tail len are is is_tail = record {
    are_lines = lines_push extents start read.lines read.spot line are.are_lines is.is_at;
    starts = starts_push read.lines read.starts line read.at are.starts are.at_is;
    within = omega (arith, is.within, length-drop read.at bytes, are.within);
    at_is = ap (λ n. n + len) are.at_is ∙ ap (λ n. length (text_of read.lines) + n) is.end_is
        ∙ sym (length-append (text_of read.lines) (line_text (numbers_of line)))
        ∙ ap length (sym (text_push read.lines line));
    splits = whole ∙ ap (λ l. text_of (read.lines ++ line ∷ []) ++ l) (sym rest);
    rises = omega (arith, is_tail.to_is);
    tail = λ last here. subst (λ l. IsTail bytes l (read.at + tail) (read.at + len))
        (last_is read.lines line last here)
        (tail_moved bytes read.at line tail len are.within is_tail);
  }
    where
      whole : bytes ≡ text_of (read.lines ++ line ∷ []) ++ drop len (drop read.at bytes)
      whole = are.splits ∙ ap (λ l. text_of read.lines ++ l) is.splits
          ∙ sym (append_assoc (text_of read.lines) (line_text (numbers_of line))
          (drop len (drop read.at bytes)))
          ∙ ap (λ l. l ++ drop len (drop read.at bytes)) (sym (text_push read.lines line))

      rest : drop (read.at + len) bytes ≡ drop len (drop read.at bytes)
      rest = ap (λ l. drop (read.at + len) l) are.splits
          ∙ ap (λ n. drop (n + len) (text_of read.lines ++ drop read.at bytes)) are.at_is
          ∙ drop-append-add (text_of read.lines) (drop read.at bytes) len

  pub line_more : (read new : Lines) (line : Line) (tail len : ℕ)
      → AreLinesRead extents bytes read
      → IsRead extents read.spot (drop read.at bytes) line len
      → IsTail (drop read.at bytes) line tail len
      → new.lines ≡ read.lines ++ line ∷ [] → new.starts ≡ read.starts ++ read.at ∷ []
      → new.spot ≡ behind line → new.tail ≡ read.at + tail → new.at ≡ read.at + len
      → AreLinesRead extents bytes new
  line_more read new line tail len are is is_tail lines starts spot tail_is at =
      subst (AreLinesRead extents bytes) same (one_more read line tail len are is is_tail)
    where
      same : record {
        lines = read.lines ++ line ∷ [];
        starts = read.starts ++ read.at ∷ [];
        spot = behind line;
        tail = read.at + tail;
        at = read.at + len;
      } ≡ new
      same = ap (λ (l : List Line). record {
        lines = l;
        starts = read.starts ++ read.at ∷ [];
        spot = behind line;
        tail = read.at + tail;
        at = read.at + len;
      }) (sym lines) ∙ ap (λ (l : List ℕ). record {
        lines = new.lines;
        starts = l;
        spot = behind line;
        tail = read.at + tail;
        at = read.at + len;
      }) (sym starts) ∙ ap (λ (s : Spot). record {
        lines = new.lines;
        starts = new.starts;
        spot = s;
        tail = read.at + tail;
        at = read.at + len;
      }) (sym spot) ∙ ap (λ (n : ℕ). record {
        lines = new.lines;
        starts = new.starts;
        spot = new.spot;
        tail = n;
        at = read.at + len;
      }) (sym tail_is) ∙ ap (λ (n : ℕ). record {
        lines = new.lines;
        starts = new.starts;
        spot = new.spot;
        tail = new.tail;
        at = n;
      }) (sym at)

  pub bad_line : (read : Lines) (over : ℕ) → AreLinesRead extents bytes read
      → IsBadPlace (certificate_form extents) read.spot (drop read.at bytes) over
      → IsBadPlace (certificate_form extents) start bytes (read.at + over)
  bad_line read over are bad =
      subst (λ t. IsBadPlace (certificate_form extents) start t (read.at + over)) (sym are.splits)
      (subst (λ n. IsBadPlace (certificate_form extents) start
      (text_of read.lines ++ drop read.at bytes) (n + over)) (sym are.at_is)
      (bad_behind extents start read.lines read.spot (drop read.at bytes) over are.are_lines
      bad))

  pub all_read : (read : Lines) → AreLinesRead extents bytes read → length bytes ≤ read.at
      → IsCertificate extents bytes read.lines
  all_read read are end = record {
    are_lines = all_lines extents start read.lines read.spot are.are_lines;
    spelled = are.splits ∙ ap (λ l. text_of read.lines ++ l) (drop_of_length-le bytes end)
        ∙ append-nil (text_of read.lines);
  }
