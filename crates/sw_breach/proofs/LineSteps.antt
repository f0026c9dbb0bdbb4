-- Lines and columns from one offset of a text to the next, and to any later one.
use Rattle.std.proofs.Common.{◌≡◌, ◌≤◌, ◌<◌, ◌+◌, ◌-◌, ℕ, Bool, true, false, not, zero, suc}
use Rattle.std.proofs.Common.{List, length, get_or, take, ap, arith, refl, ◌∙◌, length-drop}
use Rattle.std.proofs.lemmas.List.Sums.{count_by_more_yes, count_by_more_no, suffix_len-take_yes}
use Rattle.std.proofs.lemmas.List.Sums.{suffix_len-take_no, suffix_len-le-length}
use Rattle.std.specs.List.{suffix_len}
use Rattle.sw_text.specs.Text.{is_line_feed, line_of, column_of}

column_by_suffix : (bytes : List ℕ) (at : ℕ)
    → column_of bytes at ≡ 1 + suffix_len (λ byte. not (is_line_feed byte)) (take at bytes)
column_by_suffix bytes at =
    let before = take at bytes in
    let kept = suffix_len (λ byte. not (is_line_feed byte)) before in
    let short = suffix_len-le-length (λ byte. not (is_line_feed byte)) before in
    let rest = length-drop (length before - kept) before in
    omega (arith, short, rest)

-- after a line feed the next line begins
pub line_ends : (bytes : List ℕ) (at : ℕ) → at < length bytes
    → is_line_feed (get_or bytes at 0) ≡ true
    → (line_of bytes (at + 1) ≡ line_of bytes at + 1) × (column_of bytes (at + 1) ≡ 1)
line_ends bytes at within feed =
    let line = count_by_more_yes is_line_feed bytes at 0 within feed in
    let back : at + 1 - 1 ≡ at = omega arith in
    let stops : not (is_line_feed (get_or bytes (at + 1 - 1) 0)) ≡ false =
    ap (λ k. not (is_line_feed (get_or bytes k 0))) back ∙ ap not feed in
    let column = suffix_len-take_no (λ byte. not (is_line_feed byte)) bytes (at + 1) 0 (omega arith)
    (omega (arith, within)) stops in
    (omega (arith, line), omega (arith, column, column_by_suffix bytes (at + 1)))

-- after any other byte the line goes on
pub line_goes_on : (bytes : List ℕ) (at : ℕ) → at < length bytes
    → is_line_feed (get_or bytes at 0) ≡ false
    → (line_of bytes (at + 1) ≡ line_of bytes at)
    × (column_of bytes (at + 1) ≡ column_of bytes at + 1)
line_goes_on bytes at within other =
    let line = count_by_more_no is_line_feed bytes at 0 within other in
    let back : at + 1 - 1 ≡ at = omega arith in
    let passes : not (is_line_feed (get_or bytes (at + 1 - 1) 0)) ≡ true =
    ap (λ k. not (is_line_feed (get_or bytes k 0))) back ∙ ap not other in
    let column = suffix_len-take_yes (λ byte. not (is_line_feed byte)) bytes (at + 1) 0
    (omega arith) (omega (arith, within)) passes in
    let shorter = ap (λ k. suffix_len (λ byte. not (is_line_feed byte)) (take k bytes)) back in (
      omega (arith, line),
      omega (
        arith,
        column,
        shorter,
        column_by_suffix bytes (at + 1),
        column_by_suffix bytes at,
      ),
    )

-- the later offset is on the same line or a later one, and on the same line the columns are as far
-- apart as the offsets
abbrev pub IsLater : List ℕ → ℕ → ℕ → Type 0
IsLater bytes at later =
    (line_of bytes at ≤ line_of bytes later)
    × (line_of bytes at ≡ line_of bytes later
    → column_of bytes later + at ≡ column_of bytes at + later)

next_offset : (bytes : List ℕ) (at : ℕ) → at < length bytes → IsLater bytes at (at + 1)
next_offset bytes at within = by (is_line_feed (get_or bytes at 0)) refl where
  by : (b : Bool) → is_line_feed (get_or bytes at 0) ≡ b → IsLater bytes at (at + 1)
  by true feed =
      let next = line_ends bytes at within feed in
      (omega (arith, next.0), λ same. absurd (omega (arith, same, next.0)))
  by false other =
      let next = line_goes_on bytes at within other in
      (omega (arith, next.0), λ same. omega (arith, next.1))

offset_after : (bytes : List ℕ) (at more later : ℕ) → at + more ≡ later → later ≤ length bytes
    → IsLater bytes at later
offset_after bytes at zero later ends within =
    let here : at ≡ later = omega (arith, ends) in
    (omega (arith, ap (line_of bytes) here), λ _. omega (arith, here, ap (column_of bytes) here))
offset_after bytes at (suc more) later ends within =
    let next : (at + more) + 1 ≡ later = omega (arith, ends) in
    let line = ap (line_of bytes) next in
    let column = ap (column_of bytes) next in
    let rest = offset_after bytes at more (at + more) refl (omega (arith, next, within)) in
    let step = next_offset bytes (at + more) (omega (arith, next, within)) in (
      omega (arith, line, rest.0, step.0),
      λ same.
          let before = rest.1 (omega (arith, line, rest.0, step.0, same)) in
          let last = step.1 (omega (arith, line, rest.0, step.0, same)) in
          omega (arith, column, before, last, next),
    )

pub later_offset : (bytes : List ℕ) (at later : ℕ) → at ≤ later → later ≤ length bytes
    → IsLater bytes at later
later_offset bytes at later ahead within =
    offset_after bytes at (later - at) later (omega (arith, ahead)) within
