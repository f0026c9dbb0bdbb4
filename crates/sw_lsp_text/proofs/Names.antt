-- The name of a body's length at the beginning of a line.
use Rattle.std.proofs.Common.{◌≡◌, ℕ, ◌<◌, ◌↔◌, Bool, true, false, List, length, take, map, codes}
use Rattle.std.proofs.Common.{Some, None, option_map, if◌then◌else◌, IsTrue, bytes_eq, refl, ap, arith, rules}
use Rattle.std.proofs.Common.{length-take, Bor}
use Rattle.std.specs.Bool.{then_some}
use Rattle.std.specs.Char.{to_ascii_lowercase}
use Rattle.std.specs.List.{IsSplitAt}
use Rattle.std.proofs.lemmas.List.{length-map}
use Rattle.std.proofs.lemmas.Slice.Eq.{bytes_eq-Decides}
use Rattle.sw_lsp_text.specs.Header.{value_of}

abbrev pub lower_name : List ℕ
lower_name = codes "content-length:"

no_room : (b : Bool) (line : List ℕ) → length line < 15 → (b ≡ true → map to_ascii_lowercase (take 15 line) ≡ lower_name) → b ≡ false
no_room true line short same =
    let e : length (map to_ascii_lowercase (take 15 line)) ≡ 15 = ap length (same refl) in
    let all : length (take 15 line) ≡ 15 = rw length-map at e in
    absurd (omega (arith, length-take 15 line))
no_room false line short same = refl

pub value_of_short : (line : List ℕ) → length line < 15 → value_of line ≡ None
unfolding value_of
value_of_short line short =
    let e = no_room (bytes_eq (map to_ascii_lowercase (take 15 line)) lower_name) line short (bytes_eq-Decides (map to_ascii_lowercase (take 15 line)) lower_name).0 in
    rw e

same_name : (r : Bool) (name : List ℕ) → (IsTrue r ↔ (map to_ascii_lowercase name ≡ lower_name)) → r ≡ bytes_eq (map to_ascii_lowercase name) lower_name
same_name r name h = search (rules, bytes_eq-Decides)

pub value_of_long : (line name value : List ℕ) (r : Bool) → IsSplitAt line 15 name value
    → (IsTrue r ↔ (map to_ascii_lowercase name ≡ lower_name)) → value_of line ≡ (if r then Some value else None)
unfolding value_of
value_of_long line name value r split h =
    let e : r ≡ bytes_eq (map to_ascii_lowercase (take 15 line)) lower_name = same_name r _ (rw split.1 at h) in
    rw (split.2, e)

pub then_some_now : (r : Bool) (v : Bor (List ℕ)) → option_map (λ x. x.now) (then_some r v) ≡ (if r then Some v.now else None)
then_some_now true v = refl
then_some_now false v = refl
