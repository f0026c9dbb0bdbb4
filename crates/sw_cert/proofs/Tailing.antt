-- What stands behind the number of a line's elements, and lines that have it in common.
use Rattle.std.proofs.Common.{◌≡◌, ◌≢◌, ℕ, zero, suc, ◌+◌, ◌-◌, ◌≤◌, Some, List, [], ◌∷◌, ◌++◌}
use Rattle.std.proofs.Common.{length, take, drop, Contains, sym, subst, ap, ◌∙◌, arith}
use Rattle.std.proofs.Common.{length-append, append_assoc}
use Rattle.std.proofs.Math.Seq.{take-append_seam}
use Rattle.std.proofs.lemmas.List.{length-drop, drop-drop, take-append-drop}
use Rattle.std.specs.List.{slice_get, AllByRecursion}
use Rattle.sw_dictation.proofs.Reading.{line_split, goes_on}
use Rattle.sw_dictation.specs.Lines.{line_text, begun_line}
use Rattle.sw_list.proofs.ListLemmas.{some_injective}
use Rattle.sw_cert.specs.Begun.{IsHeadRead, IsRead}
use Rattle.sw_cert.specs.Certificate.{behind, IsLineOf, IsPairOf, numbers_of}
use Rattle.sw_cert.specs.ReadLines.{AreLinesTo, AreLinesRead}
use Rattle.sw_cert.specs.Tables.{IsLineIn}
use Rattle.sw_cert.specs.Tails.{tail_numbers, IsTail, echo_of}
use Rattle.sw_cert.specs.declared.line.Extent.{Extent}
use Rattle.sw_cert.specs.declared.line.Line.{Line}
use Rattle.sw_cert.specs.declared.line.Pair.{Pair}
use Rattle.sw_cert.specs.declared.line.Spot.{Spot}
use Rattle.sw_cert.specs.declared.reading.Lines.{Lines}

-- ---- a tail in a text
pub tail_moved : (text : List ℕ) (at : ℕ) (line : Line) (from to : ℕ) → at ≤ length text
    → IsTail (drop at text) line from to → IsTail text line (at + from) (at + to)
tail_moved text at line from to le is = record {
  to_is = omega (arith, is.to_is);
  within = omega (arith, is.within, length-drop at text, le);
  splits = sym (drop-drop from at text) ∙ is.splits
      ∙ ap (λ l. line_text (tail_numbers line) ++ l) (drop-drop to at text);
}

pub tail_said : (text : List ℕ) (line : Line) (from to : ℕ) → IsTail text line from to
    → take (to - from) (drop from text) ≡ line_text (tail_numbers line)
tail_said text line from to is =
    let long : to - from ≡ length (line_text (tail_numbers line)) = omega (arith, is.to_is) in
    ap (λ n. take n (drop from text)) long
    ∙ ap (take (length (line_text (tail_numbers line)))) is.splits
    ∙ take-append_seam (line_text (tail_numbers line)) (drop to text)

pub stands : (text said : List ℕ) (at : ℕ)
    → take (at + length said - at) (drop at text) ≡ said
    → drop at text ≡ said ++ drop (at + length said) text
stands text said at same =
    let long : at + (at + length said - at) ≡ at + length said = omega arith in
    sym (take-append-drop (at + length said - at) (drop at text))
    ∙ ap (λ l. l ++ drop (at + length said - at) (drop at text)) same
    ∙ ap (λ l. said ++ l) (drop-drop (at + length said - at) at text)
    ∙ ap (λ n. said ++ drop n text) long

-- ---- a line behind its beginning
rest_same : (a b c x y z : ℕ) (rest other : List ℕ) → a ∷ b ∷ c ∷ rest ≡ x ∷ y ∷ z ∷ other
    → other ≡ rest
rest_same a b c x y z rest other e = cc

some_tail : (classes : List ℕ) (n : ℕ) (rest : List ℕ) → classes ++ n ∷ rest ≢ []
some_tail [] n rest = λ none. cc
some_tail (class ∷ classes) n rest = λ none. cc

front_of : (line : Line) → line_text (numbers_of line)
    ≡ begun_line (line.function ∷ line.block ∷ length line.classes ∷ [])
    ++ line_text (tail_numbers line)
front_of line = line_split (line.function ∷ line.block ∷ length line.classes ∷ [])
    (tail_numbers line)
    (some_tail line.classes (length line.pairs) _)

pairs_moved : (one other : Extent) → one.elements ≡ other.elements → one.sites ≡ other.sites
    → (pairs : List Pair) → AllByRecursion (IsPairOf other) pairs
    → AllByRecursion (IsPairOf one) pairs
pairs_moved one other elements sites [] are = tt
pairs_moved one other elements sites (pair ∷ pairs) (is, are) = (
  record {
    not_here = is.not_here;
    element = omega (arith, is.element, elements);
    site = subst (λ (l : List ℕ). Contains l pair.site) (sym sites) is.site;
  },
  pairs_moved one other elements sites pairs are,
)

module _ (extents : List Extent) (spot : Spot) (text : List ℕ) (head : Spot) (at : ℕ)
    (read : IsHeadRead extents spot text head at) where
  abbrev front : List ℕ
  front = head.function ∷ head.block ∷ read.extent.elements ∷ []

  pub tail_of : (line : Line) (end : ℕ) → IsRead extents spot text line end
      → IsTail text line at end
  tail_of line end is = record {
    to_is = omega (
      arith,
      ap length splits,
      length-append (line_text (tail_numbers line)) (drop end text),
      length-drop at text,
      length-drop end text,
      read.begun.within,
      is.within,
    );
    within = is.within;
    splits = splits;
  }
    where
      behind_front : (rest : List ℕ)
          × (numbers_of line ≡ front ++ rest) × (rest ≢ [])
          × (line_text rest ++ drop end text ≡ drop at text)
      behind_front = goes_on front (numbers_of line) (drop end text) (drop at text)
          (λ none. cc) (sym is.splits ∙ read.begun.begins)

      splits : drop at text ≡ line_text (tail_numbers line) ++ drop end text
      splits = sym behind_front.3 ∙ ap (λ l. line_text l ++ drop end text)
          (rest_same _ _ _ _ _ _ (tail_numbers line) behind_front.0 behind_front.1)

  -- a line that goes on as one of a function whose lines are alike
  pub echo_read : (last : Line) (other : Extent) (said : List ℕ) → IsLineOf other last
      → read.extent.elements ≡ other.elements → read.extent.sites ≡ other.sites
      → said ≡ line_text (tail_numbers last) → at + length said ≤ length text
      → drop at text ≡ said ++ drop (at + length said) text
      → IsRead extents spot text (echo_of head last) (at + length said)
  echo_read last other said is elements sites said_is within stand = record {
    is_at = record {
      extent = read.extent;
      is_extent = read.has_line.is_extent;
      fits = record {
        block = read.has_line.within;
        elements = is.elements ∙ sym elements;
        classes = is.classes;
        pairs = pairs_moved read.extent other elements sites last.pairs is.pairs;
        rising = is.rising;
      };
      rises = read.has_line.rises;
    };
    within = within;
    end_is = ap (λ n. n + length said) read.begun.at_is
        ∙ sym (length-append (begun_line front) said) ∙ ap length (sym whole);
    splits = read.begun.begins ∙ ap (λ l. begun_line front ++ l) stand
        ∙ sym (append_assoc (begun_line front) said (drop (at + length said) text))
        ∙ ap (λ l. l ++ drop (at + length said) text) (sym whole);
  }
    where
      whole : line_text (numbers_of (echo_of head last)) ≡ begun_line front ++ said
      whole = front_of (echo_of head last)
          ∙ ap (λ (n : ℕ). begun_line (head.function ∷ head.block ∷ n ∷ [])
          ++ line_text (tail_numbers last)) (is.elements ∙ sym elements)
          ∙ ap (λ l. begun_line front ++ l) (sym said_is)

-- ---- the last line that is read
line_to_in : (extents : List Extent) (from : Spot) (lines : List Line) (to : Spot)
    → AreLinesTo extents from lines to → (k : ℕ) (line : Line) → slice_get lines k ≡ Some line
    → IsLineIn extents line
line_to_in extents from [] to e k line here = cc
line_to_in extents from (first ∷ lines) to (is, are) zero line here =
    subst (IsLineIn extents) (some_injective here)
    (record { extent = is.extent; is_extent = is.is_extent; fits = is.fits })
line_to_in extents from (first ∷ lines) to (is, are) (suc k) line here =
    line_to_in extents (behind first) lines to are k line here

pub last_in : (extents : List Extent) (bytes : List ℕ) (read : Lines)
    → AreLinesRead extents bytes read → (last : Line)
    → slice_get read.lines (length read.lines - 1) ≡ Some last → IsLineIn extents last
last_in extents bytes read are last here =
    line_to_in extents _ read.lines read.spot are.are_lines (length read.lines - 1) last here

-- it goes on as the last one
pub echo_there : (extents : List Extent) (bytes : List ℕ) (read : Lines)
    → AreLinesRead extents bytes read → (head : Spot) (at : ℕ)
    → IsHeadRead extents read.spot (drop read.at bytes) head at → (last : Line)
    → slice_get read.lines (length read.lines - 1) ≡ Some last → (own others : Extent)
    → slice_get extents head.function ≡ Some own → slice_get extents last.function ≡ Some others
    → own.elements ≡ others.elements → own.sites ≡ others.sites
    → read.at + at + length (take (read.at - read.tail) (drop read.tail bytes)) ≤ length bytes
    → drop (read.at + at) bytes ≡ take (read.at - read.tail) (drop read.tail bytes)
    ++ drop (read.at + at + length (take (read.at - read.tail) (drop read.tail bytes))) bytes
    → IsRead extents read.spot (drop read.at bytes) (echo_of head last)
    (at + length (take (read.at - read.tail) (drop read.tail bytes)))
echo_there extents bytes read are head at begun last here own others is_own is_others elements
    sites within stand =
    echo_read extents read.spot (drop read.at bytes) head at begun last is.extent said is.fits
    (ap (λ (e : Extent). e.elements) own_same ∙ elements
    ∙ ap (λ (e : Extent). e.elements) others_same)
    (ap (λ (e : Extent). e.sites) own_same ∙ sites ∙ ap (λ (e : Extent). e.sites) others_same)
    (tail_said bytes last read.tail read.at (are.tail last here))
    (omega (arith, within, length-drop read.at bytes, are.within))
    (drop-drop at read.at bytes ∙ stand ∙ ap (λ n. said ++ drop n bytes) place
    ∙ ap (λ l. said ++ l) (sym (drop-drop (at + length said) read.at bytes)))
  where
    said : List ℕ
    said = take (read.at - read.tail) (drop read.tail bytes)

    is : IsLineIn extents last
    is = last_in extents bytes read are last here

    own_same : begun.extent ≡ own
    own_same = some_injective (sym begun.has_line.is_extent ∙ is_own)

    others_same : others ≡ is.extent
    others_same = some_injective (sym is_others ∙ is.is_extent)

    place : read.at + at + length said ≡ read.at + (at + length said)
    place = omega arith
