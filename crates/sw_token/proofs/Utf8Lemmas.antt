-- Bytes of UTF-8 before and after a piece or a token.
use Rattle.std.proofs.Common.{◌≡◌, ℕ, ◌<◌, Bool, true, List, [], ◌∷◌, ◌++◌, length, take, drop}
use Rattle.std.proofs.Common.{get_or, refl, sym, subst, arith, append_assoc, length-append}
use Rattle.std.specs.Prelude.{Some, slice_get, encode_utf8, encode_utf8_all, IsAscii}
use Rattle.std.specs.List.{list_all, prefix_len}
use Rattle.std.specs.Str.{IsUtf8, IsCharBoundary}
use Rattle.std.proofs.lemmas.Bool.{and_parts}
use Rattle.std.proofs.lemmas.List.{drop_at, take-append-drop}
use Rattle.std.proofs.lemmas.List.Sums.{prefix_len-le-length}
use Rattle.sw_scan.proofs.Prefixes.{prefix_passes}
use Rattle.std.proofs.Math.Seq.{get_or-append_seam}
use Rattle.std.proofs.lemmas.Str.{IsUtf8-past_char, IsUtf8-drop, IsCharBoundary-from_drop}
use Rattle.std.proofs.lemmas.Str.{IsCharBoundary-before_ascii, IsUtf8-from_ascii}
use Rattle.std.proofs.lemmas.Str.Ascii.{IsAscii-nil, IsAscii-cons}

-- after characters
past_chars : (cs after : List ℕ) → IsUtf8 (encode_utf8_all cs ++ after) → IsUtf8 after
past_chars [] after utf8 = utf8
past_chars (c ∷ cs) after utf8 =
    past_chars cs after
    (IsUtf8-past_char ((encode_utf8 c ++ encode_utf8_all cs) ++ after)
    (encode_utf8_all cs ++ after) c utf8
    (append_assoc (encode_utf8 c) (encode_utf8_all cs) after))

pub utf8_after : (earlier after : List ℕ) → IsUtf8 earlier → IsUtf8 (earlier ++ after)
    → IsUtf8 after
utf8_after earlier after is utf8 =
    past_chars is.0 after (subst (λ xs. IsUtf8 (xs ++ after)) (sym is.1.1) utf8)

pub all_ascii : (test : ℕ → Bool) → ((b : ℕ) → test b ≡ true → b < 128) → (bytes : List ℕ)
    → list_all test bytes ≡ true → IsAscii bytes
all_ascii test low [] passes = IsAscii-nil
all_ascii test low (b ∷ bs) passes =
    let parts = and_parts (test b) (list_all test bs) passes in
    IsAscii-cons b bs (low b parts.0) (all_ascii test low bs parts.1)

-- after a byte of ASCII
pub utf8_after_byte : (byte : ℕ) (after : List ℕ) → byte < 128 → IsUtf8 (byte ∷ after)
    → IsUtf8 after
utf8_after_byte byte after low utf8 =
    utf8_after (byte ∷ []) after
    (IsUtf8-from_ascii (byte ∷ []) (IsAscii-cons byte [] low IsAscii-nil)) utf8

-- from a byte of ASCII on
pub utf8_from_byte : (earlier : List ℕ) (byte : ℕ) (after : List ℕ) → byte < 128
    → IsUtf8 (earlier ++ (byte ∷ after)) → IsUtf8 (byte ∷ after)
utf8_from_byte earlier byte after low utf8 =
    let there : get_or (earlier ++ (byte ∷ after)) (length earlier) 0 < 128 =
    rw (get_or-append_seam earlier byte after 0) low in
    let inside : length earlier < length (earlier ++ (byte ∷ after)) =
    omega (arith, length-append earlier (byte ∷ after)) in
    rw (drop_at earlier (byte ∷ after) (length earlier) refl) at
    (IsUtf8-drop (earlier ++ (byte ∷ after)) (length earlier) utf8
    (IsCharBoundary-before_ascii (earlier ++ (byte ∷ after)) (length earlier) inside there))

-- a text may be cut after a prefix of bytes of ASCII
pub boundary_after_prefix : (test : ℕ → Bool) → ((b : ℕ) → test b ≡ true → b < 128)
    → (bytes : List ℕ) (n : ℕ) → IsUtf8 bytes → n ≡ prefix_len test bytes → IsCharBoundary bytes n
boundary_after_prefix test low bytes n utf8 e =
    let long = prefix_len-le-length test bytes in
    let earlier = IsUtf8-from_ascii (take (prefix_len test bytes) bytes)
    (all_ascii test low (take (prefix_len test bytes) bytes) (prefix_passes test bytes)) in
    let whole : IsUtf8 (take (prefix_len test bytes) bytes ++ drop (prefix_len test bytes) bytes) =
    rw take-append-drop utf8 in
    let after = utf8_after (take (prefix_len test bytes) bytes) (drop (prefix_len test bytes) bytes)
    earlier whole in
    rw e (IsCharBoundary-from_drop bytes (prefix_len test bytes) long after)

-- and after one byte of ASCII
pub boundary_after_first : (bytes : List ℕ) (byte : ℕ) → IsUtf8 bytes
    → slice_get bytes 0 ≡ Some byte
    → byte < 128 → IsCharBoundary bytes 1
boundary_after_first [] byte utf8 is low = cc
boundary_after_first (b ∷ more) byte utf8 is low =
    let same : b ≡ byte = cc in
    IsCharBoundary-from_drop (b ∷ more) 1 (omega arith) (utf8_after_byte b more (omega arith) utf8)
