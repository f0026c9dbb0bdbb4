-- A search among the offsets at which a text's lines begin finds the line of a position.
use Rattle.std.proofs.Common.{◌≡◌, ◌≤◌, ◌<◌, ◌+◌, ◌-◌, ℕ, zero, suc, List, length, get_or, ap}
use Rattle.std.proofs.Common.{arith, inl, inr, min, take, take_all, count_by, sym, ◌∙◌}
use Rattle.std.proofs.lemmas.Bool.{cases_lt}
use Rattle.std.proofs.lemmas.List.Sorted.{IsNonDecreasingBy-from_default}
use Rattle.std.specs.List.{after_last}
use Rattle.std.specs.List.Sorted.{IsNonDecreasing}
use Rattle.sw_text.specs.Text.{is_line_feed, line_of, column_of}
use Rattle.sw_breach.specs.LineStarts.{AreLineStarts}
use Rattle.sw_breach.proofs.LineSteps.{later_offset}

-- the offsets rise
pub starts_rise : (bytes starts : List ℕ) → AreLineStarts bytes (length bytes) starts
    → IsNonDecreasing starts
starts_rise bytes starts table =
    IsNonDecreasingBy-from_default (λ start. start) starts 0 rise where
      rise : (i j : ℕ) → i ≤ j → j < length starts → get_or starts i 0 ≤ get_or starts j 0
      rise i j before inside = elim (cases_lt (get_or starts j 0) (get_or starts i 0)) [
        | inl falls ↦
            let within = table.within i (omega (arith, before, inside)) in
            let later = later_offset bytes (get_or starts j 0) (get_or starts i 0)
            (omega (arith, falls)) within in
            let line = table.line i (omega (arith, before, inside)) in
            let same : i ≡ j = omega (arith, later.0, line, table.line j inside, before) in
            absurd (omega (arith, falls, ap (λ k. get_or starts k 0) same))
        | inr rises ↦ rises
      ]

-- a line that begins after a position is a later line than that of the position
next_line : (bytes : List ℕ) (at start : ℕ) → at < start → start ≤ length bytes
    → column_of bytes start ≡ 1 → line_of bytes at < line_of bytes start
next_line bytes at start ahead within first =
    let later = later_offset bytes at start (omega (arith, ahead)) within in
    elim (cases_lt (line_of bytes at) (line_of bytes start)) [
      | inl below ↦ below
      | inr above ↦
          let column = later.1 (omega (arith, later.0, above)) in
          absurd (omega (arith, column, first, ahead))
    ]

-- each line that the search passes by begins after the position
abbrev AreAhead : List ℕ → ℕ → ℕ → Type 0
AreAhead starts at line = (k : ℕ) → line ≤ k → k < length starts → at < get_or starts k 0

-- some line begins at the position or before it
some_line : (bytes starts : List ℕ) (at line : ℕ) → AreLineStarts bytes (length bytes) starts
    → AreAhead starts at line → 0 < line
some_line bytes starts at zero table ahead =
    let some : 0 < length starts = omega (arith, table.all) in
    let first = next_line bytes at (get_or starts 0 0) (ahead 0 (omega arith) some)
    (table.within 0 some) (table.first_column 0 some) in
    absurd (omega (arith, first, table.line 0 some))
some_line bytes starts at (suc line) table ahead = omega arith

no_later_line : (bytes starts : List ℕ) (at last : ℕ) → AreLineStarts bytes (length bytes) starts
    → at ≤ length bytes → last < length starts → AreAhead starts at (last + 1)
    → line_of bytes at ≤ last + 1
no_later_line bytes starts at last table within inside ahead =
    elim (cases_lt (last + 1) (length starts)) [
      | inl more ↦
          let next = next_line bytes at (get_or starts (last + 1) 0)
          (ahead (last + 1) (omega arith) more) (table.within (last + 1) more)
          (table.first_column (last + 1) more) in
          omega (arith, next, table.line (last + 1) more)
      | inr none ↦
          let end = later_offset bytes at (length bytes) within (omega arith) in
          omega (arith, end.0, table.all, inside, none)
    ]

-- the position is on the last line that begins at it or before it
on_last_line : (bytes starts : List ℕ) (at last : ℕ) → AreLineStarts bytes (length bytes) starts
    → at ≤ length bytes → last < length starts → get_or starts last 0 ≤ at
    → AreAhead starts at (last + 1)
    → (line_of bytes at ≡ last + 1) × (column_of bytes at + get_or starts last 0 ≡ at + 1)
on_last_line bytes starts at last table within inside begun ahead =
    let later = later_offset bytes (get_or starts last 0) at begun within in
    let most = no_later_line bytes starts at last table within inside ahead in
    let begins = table.line last inside in
    let line : line_of bytes at ≡ last + 1 = omega (arith, later.0, most, begins) in
    let column = later.1 (omega (arith, line, begins)) in
    (line, omega (arith, column, table.first_column last inside))

-- a position after the end is shown as the end
clamped : (bytes : List ℕ) (at : ℕ) → take (min at (length bytes)) bytes ≡ take at bytes
clamped bytes at = elim (cases_lt at (length bytes)) [
  | inl before ↦
      let same : min at (length bytes) ≡ at = omega (arith, before) in
      ap (λ k. take k bytes) same
  | inr after ↦
      let same : min at (length bytes) ≡ length bytes = omega (arith, after) in
      take_all (min at (length bytes)) bytes (omega (arith, same)) ∙ sym (take_all at bytes after)
]

-- what a search for the position `within` that gives `line` says of the position `at`
pub record IsFound (bytes starts : List ℕ) (at within line : ℕ) : Type 0 where
  pub some : 1 ≤ line
  pub begun : get_or starts (line - 1) 0 ≤ within
  pub line_is : line ≡ line_of bytes at
  pub column_is : within - get_or starts (line - 1) 0 + 1 ≡ column_of bytes at

pub found : (bytes starts : List ℕ) (at within line : ℕ)
    → AreLineStarts bytes (length bytes) starts → within ≡ min at (length bytes)
    → line ≤ length starts → ((k : ℕ) → k < line → get_or starts k 0 ≤ within)
    → ((k : ℕ) → line ≤ k → k < length starts → within < get_or starts k 0)
    → IsFound bytes starts at within line
found bytes starts at within line table least inside before ahead =
    let some = some_line bytes starts within line table ahead in
    let begun = before (line - 1) (omega (arith, some)) in
    let position = on_last_line bytes starts within (line - 1) table (omega (arith, least))
    (omega (arith, some, inside)) begun (λ k next. ahead k (omega (arith, some, next))) in
    let text = ap (λ k. take k bytes) least ∙ clamped bytes at in
    record {
      some = some;
      begun = begun;
      line_is = omega (arith, position.0, some, ap (λ before. count_by is_line_feed before) text);
      column_is = omega (
        arith,
        position.1,
        begun,
        ap (λ before. length (after_last is_line_feed before)) text,
      );
    }
