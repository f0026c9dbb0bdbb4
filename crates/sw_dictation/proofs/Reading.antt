-- Where a text that is made of lines of numbers goes wrong.
use Rattle.std.proofs.Common.{◌≡◌, ◌≢◌, ℕ, suc, ◌+◌, ◌<◌, ◌≤◌, ◌⊎◌, inl, inr, false, List}
use Rattle.std.proofs.Common.{[], ◌∷◌, ◌++◌, length, take, drop, refl, sym, subst, ap, ◌∙◌}
use Rattle.std.proofs.Common.{arith}
use Rattle.std.proofs.Common.{length-append, append_assoc, flat_map}
use Rattle.std.proofs.Math.Seq.{take-append-add}
use Rattle.std.proofs.lemmas.Bool.{cases_lt}
use Rattle.std.proofs.lemmas.List.{append-nil, take-append-drop, length-take-le}
use Rattle.sw_scan.specs.Classes.{is_digit}
use Rattle.sw_dictation.specs.Lines.{closer_before, line_text, begun_line, LineForm, AreLines}
use Rattle.sw_dictation.specs.Lines.{IsText}
use Rattle.sw_dictation.specs.Lines.{Begins, IsBadPlace, MayFollow, IsReadable}
use Rattle.sw_dictation.specs.Numbers.{spelled, common_len, IsNone}
use Rattle.sw_dictation.specs.Numerals.{numeral}
use Rattle.sw_dictation.proofs.Prefixes.{shorter, common_beginning, one_number}

-- no digit closes a number
no_digit : (ns : List ℕ) → is_digit (closer_before ns) ≡ false
unfolding is_digit
no_digit [] = refl
no_digit (n ∷ ns) = refl

blank_no_digit : is_digit 32 ≡ false
unfolding is_digit
blank_no_digit = refl

none_taken : (bytes : List ℕ) → take 0 bytes ≡ []
none_taken [] = refl
none_taken (b ∷ bytes) = refl

-- a line is read in one way
pub one_line : (ms ns : List ℕ) (x y : List ℕ) → ms ≢ [] → ns ≢ []
    → line_text ms ++ x ≡ line_text ns ++ y → (ms ≡ ns) × (x ≡ y)
one_line [] ns x y some some_too e = absurd (some refl)
one_line (m ∷ ms) [] x y some some_too e = absurd (some_too refl)
one_line (m ∷ ms) (n ∷ ns) x y some some_too e =
    let h = one_number m n (closer_before ms) (closer_before ns) (line_text ms ++ x)
    (line_text ns ++ y) (no_digit ms) (no_digit ns)
    (sym (append_assoc (spelled m (closer_before ms)) (line_text ms) x) ∙ e
    ∙ append_assoc (spelled n (closer_before ns)) (line_text ns) y) in
    tails ms ns h.0 h.1 h.2
    (λ more more_too. one_line ms ns x y more more_too h.2)
  where
    tails : (ms ns : List ℕ) → m ≡ n → closer_before ms ≡ closer_before ns
        → line_text ms ++ x ≡ line_text ns ++ y
        → (ms ≢ [] → ns ≢ [] → (ms ≡ ns) × (x ≡ y)) → (m ∷ ms ≡ n ∷ ns) × (x ≡ y)
    tails [] [] same closers e later = (ap (λ k. k ∷ []) same, e)
    tails [] (k ∷ ns) same closers e later = absurd (omega (arith, closers))
    tails (k ∷ ms) [] same closers e later = absurd (omega (arith, closers))
    tails (j ∷ ms) (k ∷ ns) same closers e later =
        let h = later (λ none. cc) (λ none. cc) in
        (ap (λ i. i ∷ j ∷ ms) same ∙ ap (λ l. n ∷ l) h.0, h.1)

-- a line that begins with numbers goes on with others
pub goes_on : (ns line x y : List ℕ) → line ≢ []
    → line_text line ++ x ≡ begun_line ns ++ y
    → (rest : List ℕ) × (line ≡ ns ++ rest) × (rest ≢ []) × (line_text rest ++ x ≡ y)
goes_on [] line x y some e = (line, refl, some, e)
goes_on (n ∷ ns) [] x y some e = absurd (some refl)
goes_on (n ∷ ns) (m ∷ line) x y some e =
    let h = one_number m n (closer_before line) 32 (line_text line ++ x) (begun_line ns ++ y)
    (no_digit line) blank_no_digit
    (sym (append_assoc (spelled m (closer_before line)) (line_text line) x) ∙ e
    ∙ append_assoc (spelled n 32) (begun_line ns) y) in
    let t = goes_on ns line x y (going line h.1) h.2 in
    (t.0, ap (λ k. k ∷ line) h.0 ∙ ap (λ l. n ∷ l) t.1, t.2, t.3)
  where
    going : (line : List ℕ) → closer_before line ≡ 32 → line ≢ []
    going [] closer none = omega (arith, closer)
    going (k ∷ line) closer none = cc

-- numbers that begin a line, and the others
pub line_split : (ns rest : List ℕ) → rest ≢ []
    → line_text (ns ++ rest) ≡ begun_line ns ++ line_text rest
line_split [] rest some = refl
line_split (n ∷ ns) rest some =
    ap (λ c. spelled n c ++ line_text (ns ++ rest)) (blank ns rest some)
    ∙ ap (λ l. spelled n 32 ++ l) (line_split ns rest some)
    ∙ sym (append_assoc (spelled n 32) (begun_line ns) (line_text rest))
  where
    blank : (ns rest : List ℕ) → rest ≢ [] → closer_before (ns ++ rest) ≡ 32
    blank [] [] some = absurd (some refl)
    blank [] (k ∷ rest) some = refl
    blank (k ∷ ns) rest some = refl

module _ {A : Type 0} (form : LineForm A) (readable : IsReadable form) where
  -- past a line a text goes on
  pub text_past : (before : A) (line rest : List ℕ) → form.IsLine before line
      → IsText form (form.past before line) rest → IsText form before (line_text line ++ rest)
  text_past before line rest is text = record {
    lines = line ∷ text.lines;
    are_lines = (is, text.are_lines);
    spelled = ap (λ l. line_text line ++ l) text.spelled;
  }

  text_behind : (before : A) (line rest text : List ℕ) → form.IsLine before line
      → IsText form before text → text ≡ line_text line ++ rest
      → IsText form (form.past before line) rest
  text_behind before line rest text is whole e =
      by whole.lines whole.are_lines (sym e ∙ whole.spelled)
    where
      lengths : (line rest : List ℕ) → line ≢ [] → line_text line ++ rest ≡ [] → ⊥
      lengths [] rest some none = some refl
      lengths (n ∷ ns) rest some none = omega (
        arith,
        ap length none,
        length-append (line_text (n ∷ ns)) rest,
        length-append (spelled n (closer_before ns)) (line_text ns),
        length-append (numeral n) (closer_before ns ∷ []),
      )

      by : (lines : List (List ℕ)) → AreLines form before lines
          → line_text line ++ rest ≡ flat_map line_text lines
          → IsText form (form.past before line) rest
      by [] are same = absurd (lengths line rest (readable.some before line is) same)
      by (first ∷ lines) are same =
          let h = one_line line first rest (flat_map line_text lines)
          (readable.some before line is) (readable.some before first are.0) same in
          record {
            lines = lines;
            are_lines = subst (λ l. AreLines form (form.past before l) lines) (sym h.0) are.1;
            spelled = h.1;
          }

  -- a bad place past a line
  pub bad_past : (before : A) (line rest : List ℕ) (at : ℕ) → form.IsLine before line
      → IsBadPlace form (form.past before line) rest at
      → IsBadPlace form before (line_text line ++ rest) (length (line_text line) + at)
  bad_past before line rest at is bad = record {
    within = omega (arith, length-append (line_text line) rest, bad.within);
    begins = (
      bad.begins.0,
      subst (IsText form before) (sym (split at bad.begins.0))
          (text_past before line (take at rest ++ bad.begins.0) is bad.begins.1),
    );
    stops = λ inside (more, text).
        let place : suc (length (line_text line) + at) ≡ length (line_text line) + suc at =
        omega arith in
        bad.stops (omega (arith, length-append (line_text line) rest, inside)) (
          more,
          text_behind before line (take (suc at) rest ++ more)
              (take (suc (length (line_text line) + at)) (line_text line ++ rest) ++ more) is text
              (ap (λ k. take k (line_text line ++ rest) ++ more) place ∙ split (suc at) more),
        );
    no_text = λ text.
        bad.no_text (text_behind before line rest (line_text line ++ rest) is text refl);
  }
    where
      split : (k : ℕ) (more : List ℕ)
          → take (length (line_text line) + k) (line_text line ++ rest) ++ more
          ≡ line_text line ++ (take k rest ++ more)
      split k more = ap (λ l. l ++ more) (take-append-add (line_text line) rest k)
          ∙ append_assoc (line_text line) (take k rest) more

  -- A bad place in a line, behind numbers that may go on.
  module _ (before : A) (so_far bytes : List ℕ) (at : ℕ)
      (none : IsNone (MayFollow form before so_far) bytes at)
      (viable : (so_far ≡ []) ⊎ ((n closer : ℕ) × MayFollow form before so_far n closer))
      (unfinished : bytes ≡ [] → so_far ≢ []) where
    abbrev front : List ℕ
    front = begun_line so_far

    taken : (k : ℕ) → k ≤ length bytes → length (take k bytes) ≡ k
    taken k le = length-take-le k bytes le

    -- a number whose text goes past the place has more in common with the bytes
    too_long : (n c : ℕ) (rest more : List ℕ) → at < length bytes
        → MayFollow form before so_far n c
        → spelled n c ++ rest ≡ take (suc at) bytes ++ more → ⊥
    too_long n c rest more inside allowed e =
        let long = taken (suc at) (omega (arith, inside)) in
        elim (cases_lt (suc at) (length (spelled n c))) [
          | inl below ↦ (
              let h = shorter (take (suc at) bytes) (spelled n c) more rest (sym e)
              (omega (arith, long, below)) in
              let shared = common_beginning (take (suc at) bytes) (drop (suc at) bytes) h.0 in
              let both : suc at ≤ common_len bytes (spelled n c) =
              subst (λ l. suc at ≤ common_len bytes l) (sym h.1)
              (subst (λ l. suc at ≤ common_len l (take (suc at) bytes ++ h.0))
              (take-append-drop (suc at) bytes) (omega (arith, shared, long))) in
              omega (arith, both, none.longest n c allowed)
              )
          | inr over ↦ (
              let h = shorter (spelled n c) (take (suc at) bytes) rest more e
              (omega (arith, long, over)) in
              none.none n c allowed (
                h.0 ++ drop (suc at) bytes,
                sym (take-append-drop (suc at) bytes) ∙ ap (λ l. l ++ drop (suc at) bytes) h.1
                    ∙ append_assoc (spelled n c) h.0 (drop (suc at) bytes),
              )
              )
        ]

    -- a text that begins with the numbers so far goes on with a number
    next_number : (lines : List (List ℕ)) (tail : List ℕ) → AreLines form before lines
        → flat_map line_text lines ≡ front ++ tail → (tail ≡ [] → so_far ≢ [])
        → (n c : ℕ) × MayFollow form before so_far n c
        × ((rest : List ℕ) × (spelled n c ++ rest ≡ tail))
    next_number [] tail are e more = absurd (empty so_far tail e more)
      where
        empty : (ns tail : List ℕ) → [] ≡ begun_line ns ++ tail → (tail ≡ [] → ns ≢ []) → ⊥
        empty [] tail e more = more (sym e) refl
        empty (n ∷ ns) tail e more = omega (
          arith,
          ap length e,
          length-append (begun_line (n ∷ ns)) tail,
          length-append (spelled n 32) (begun_line ns),
          length-append (numeral n) (32 ∷ []),
        )
    next_number (line ∷ lines) tail are e more =
        let h = goes_on so_far line (flat_map line_text lines) tail
        (readable.some before line are.0) e in
        first h.0 h.1 h.2 h.3
      where
        first : (rest : List ℕ) → line ≡ so_far ++ rest → rest ≢ []
            → line_text rest ++ flat_map line_text lines ≡ tail
            → (n c : ℕ) × MayFollow form before so_far n c
            × ((rest : List ℕ) × (spelled n c ++ rest ≡ tail))
        first [] is some same = absurd (some refl)
        first (n ∷ ns) is some same = (
          n,
          closer_before ns,
          record {
            rest = ns;
            is_line = subst (form.IsLine before) is are.0;
            closer_is = refl;
          },
          (
            line_text ns ++ flat_map line_text lines,
            sym (append_assoc (spelled n (closer_before ns)) (line_text ns)
                (flat_map line_text lines)) ∙ same,
          ),
        )

    split : (k : ℕ) (more : List ℕ)
        → take (length front + k) (front ++ bytes) ++ more ≡ front ++ (take k bytes ++ more)
    split k more = ap (λ l. l ++ more) (take-append-add front bytes k)
        ∙ append_assoc front (take k bytes) more

    -- a line that goes on with a number is a text
    pub text_with : (n c : ℕ) → MayFollow form before so_far n c
        → (more : List ℕ) × IsText form before (front ++ (spelled n c ++ more))
    text_with n c allowed = (
      line_text allowed.rest,
      record {
        lines = (so_far ++ n ∷ allowed.rest) ∷ [];
        are_lines = (allowed.is_line, tt);
        spelled = ap (λ k. front ++ (spelled n k ++ line_text allowed.rest)) allowed.closer_is
            ∙ sym (line_split so_far (n ∷ allowed.rest) (λ empty. cc))
            ∙ sym (append-nil (line_text (so_far ++ n ∷ allowed.rest)));
      },
    )

    begun : Begins form before (take (length front + at) (front ++ bytes))
    begun = elim none.some [
      | inl start ↦ at_start start viable
      | inr (n, c, allowed, (more, e)) ↦ (
          let h = text_with n c allowed in (
            more ++ h.0,
            subst (IsText form before)
                (ap (λ l. front ++ (l ++ h.0)) e
                ∙ ap (λ l. front ++ l) (append_assoc (take at bytes) more h.0)
                ∙ sym (split at (more ++ h.0))) h.1,
          )
          )
    ]
      where
        at_start : at ≡ 0
            → (so_far ≡ []) ⊎ ((n closer : ℕ) × MayFollow form before so_far n closer)
            → Begins form before (take (length front + at) (front ++ bytes))
        at_start start (inl first) = (
          [],
          record {
            lines = [];
            are_lines = tt;
            spelled = split at [] ∙ ap (λ k. front ++ (take k bytes ++ [])) start
                ∙ ap (λ l. front ++ (l ++ [])) (none_taken bytes)
                ∙ ap (λ ns. begun_line ns ++ []) first;
          },
        )
        at_start start (inr (n, c, allowed)) =
            let h = text_with n c allowed in (
              spelled n c ++ h.0,
              subst (IsText form before)
                  (sym (split at (spelled n c ++ h.0)
                  ∙ ap (λ k. front ++ (take k bytes ++ (spelled n c ++ h.0))) start
                  ∙ ap (λ l. front ++ (l ++ (spelled n c ++ h.0))) (none_taken bytes))) h.1,
            )

    pub bad_here : IsBadPlace form before (front ++ bytes) (length front + at)
    bad_here = record {
      within = omega (arith, length-append front bytes, none.within);
      begins = begun;
      stops = λ inside (more, text).
          let within : at < length bytes = omega (arith, length-append front bytes, inside) in
          let place : suc (length front + at) ≡ length front + suc at = omega arith in
          let h = next_number text.lines (take (suc at) bytes ++ more) text.are_lines
          (sym text.spelled ∙ ap (λ k. take k (front ++ bytes) ++ more) place
          ∙ split (suc at) more)
          (λ empty. absurd (omega (
            arith,
            ap length empty,
            length-append (take (suc at) bytes) more,
            taken (suc at) (omega (arith, within)),
          ))) in
          too_long h.0 h.1 h.3.0 more within h.2 h.3.1;
      no_text = λ text.
          let h = next_number text.lines bytes text.are_lines (sym text.spelled) unfinished in
          none.none h.0 h.1 h.2 (h.3.0, sym h.3.1);
    }
