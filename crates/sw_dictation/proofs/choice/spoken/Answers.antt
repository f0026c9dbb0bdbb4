use Rattle.std.proofs.Common.{◌≡◌, ℕ, ◌+◌, ◌-◌, ◌<◌, ◌≤◌, List, [], ◌∷◌, ◌++◌, length, take, drop, get_or}
use Rattle.std.proofs.Common.{◌*◌, refl, sym, ap, ◌∙◌, arith}
use Rattle.std.proofs.lemmas.List.{take_more, length-take-le, take-append-drop}
use Rattle.sw_dictation.specs.Numbers.{spelled}
use Rattle.sw_dictation.specs.Numerals.{numeral}
use Rattle.sw_dictation.proofs.Numerals.{numeral_one, numeral_more}
use Rattle.sw_dictation.proofs.choice.spoken.Goals as goal

-- a first digit is a number
first_digit : (bytes : List ℕ) (first : ℕ) → 0 < length bytes → first ≡ get_or bytes 0 0
    → 48 ≤ first → first ≤ 57 → take 1 bytes ≡ numeral (first - 48)
first_digit bytes first some at low high =
    let back : 48 + (first - 48) ≡ first = omega (arith, low) in
    take_more bytes 0 0 some ∙ ap (λ b. b ∷ []) (sym at ∙ sym back)
    ∙ sym (numeral_one (first - 48) (omega (arith, high)))

-- one more digit makes one of it
next_digit : (bytes : List ℕ) (i number byte : ℕ) → i < length bytes
    → byte ≡ get_or bytes i 0 → 48 ≤ byte → byte ≤ 57 → 0 < number
    → take i bytes ≡ numeral number → (more : ℕ) → more ≡ number * 10 + (byte - 48)
    → take (i + 1) bytes ≡ numeral more
next_digit bytes i number byte lt at low high some is more more_is =
    let back : 48 + (byte - 48) ≡ byte = omega (arith, low) in
    take_more bytes i 0 lt ∙ ap (λ l. l ++ get_or bytes i 0 ∷ []) is
    ∙ ap (λ b. numeral number ++ b ∷ []) (sym at ∙ sym back)
    ∙ sym (numeral_more number (byte - 48) more some (omega (arith, high)) more_is)

-- the byte behind it closes it
closed : (bytes : List ℕ) (i number : ℕ) → i < length bytes → take i bytes ≡ numeral number
    → ((rest : List ℕ) × (bytes ≡ spelled number (get_or bytes i 0) ++ rest))
    × (i + 1 ≡ length (spelled number (get_or bytes i 0)))
closed bytes i number lt is =
    let more : take (i + 1) bytes ≡ spelled number (get_or bytes i 0) =
    take_more bytes i 0 lt ∙ ap (λ l. l ++ get_or bytes i 0 ∷ []) is in (
      (
        drop (i + 1) bytes,
        sym (take-append-drop (i + 1) bytes) ∙ ap (λ l. l ++ drop (i + 1) bytes) more,
      ),
      sym (length-take-le (i + 1) bytes (omega (arith, lt))) ∙ ap length more,
    )

pub loop-i-init : goal.loop-i-init
loop-i-init c = first_digit c.args.bytes.now c.in_ok-first.field-0.now
    (omega (arith, c.in_ok-first.ensures.item.3.0)) (c.in_ok-first.ensures.item.3.1 0)
    c.if-first-lt48.false c.if-first-gt57.false

pub returns-then-byte-lt48 : goal.returns-then-byte-lt48
returns-then-byte-lt48 c = closed c.args.bytes.now c.loop-i.i c.loop-i.number c.loop-i-test.true
    c.loop-i.invariant

pub loop-i-preserved : goal.loop-i-preserved
loop-i-preserved c = next_digit c.args.bytes.now c.loop-i.i c.loop-i.number _ c.loop-i-test.true
    refl c.if-byte-lt48.false c.if-byte-gt57.false (omega (arith, c.if-number-eq0.false))
    c.loop-i.invariant _ refl
