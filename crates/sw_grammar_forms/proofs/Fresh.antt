-- A word that is none of some texts: `aa` and as many `a` as all of them have bytes.
use Rattle.std.proofs.Common.{◌≡◌, ℕ, zero, suc, ◌+◌, ◌<◌, Bool, true, false, not, List, []}
use Rattle.std.proofs.Common.{◌∷◌, length, refl, ap, arith, bytes_eq}
use Rattle.std.specs.Prelude.{ltb, eqb, ◌&&◌, ◌||◌}
use Rattle.std.specs.List.{list_all, list_any}
use Rattle.std.specs.Str.{all_scalars}
use Rattle.std.specs.Char.{is_ascii_alphanumeric}
use Rattle.std.proofs.lemmas.Slice.Eq.{bytes_eq-Decides}
use Rattle.sw_scan.specs.Classes.{is_digit}
use Rattle.sw_token.specs.Bytes.{is_operator_byte, is_mark}
use Rattle.sw_token.specs.Literals.{unsigned_of, literal_of, number_in}
use Rattle.sw_token.specs.Kinds.{kind_of, word_kind, ruled_words, reserved_words, mark_number}
use Rattle.sw_token.specs.declared.Fixity.{Fixity}
use Rattle.sw_token.specs.Spelling.{IsTokenText}
use Rattle.sw_token.proofs.TokenTexts.{IsTokenText-ascii}
use Rattle.sw_grammar_forms.specs.Sets.{is_in, class_of, word}

abbrev is_ascii_char : ℕ → Bool
is_ascii_char char = ltb char 128 && (is_ascii_alphanumeric char || eqb char 95)

letters : ℕ → List ℕ
letters zero = []
letters (suc n) = 97 ∷ letters n

lengths : List (List ℕ) → ℕ
lengths [] = 0
lengths (text ∷ texts) = length text + lengths texts

unfoldable pub fresh : List (List ℕ) → List ℕ
unfolding letters lengths
fresh texts = 97 ∷ 97 ∷ letters (lengths texts)

length_letters : (n : ℕ) → length (letters n) ≡ n
unfolding letters
length_letters zero = refl
length_letters (suc n) = ap suc (length_letters n)

all_letters : (n : ℕ) → list_all is_ascii_char (letters n) ≡ true
unfolding letters
all_letters zero = refl
all_letters (suc n) = all_letters n

scalar_letters : (n : ℕ) → all_scalars (letters n) ≡ true
unfolding letters
scalar_letters zero = refl
scalar_letters (suc n) = scalar_letters n

-- It is a word, by computation: no quoted text and no key word begins so.
pub fresh_in_word : (texts : List (List ℕ)) (fixity : Fixity) (first : Bool)
    → is_in word (class_of (fresh texts) fixity first) ≡ true
unfolding fresh kind_of literal_of unsigned_of number_in is_digit is_operator_byte is_mark word_kind
    ruled_words reserved_words mark_number
fresh_in_word texts fixity true = refl
fresh_in_word texts fixity false = refl

pub fresh_is_token : (texts : List (List ℕ)) → IsTokenText (fresh texts)
unfolding fresh is_operator_byte is_mark
fresh_is_token texts =
    IsTokenText-ascii (fresh texts)
    (rw (scalar_letters (lengths texts), all_letters (lengths texts)) refl)

-- It is longer than each of them.
longer_is_none : (text : List ℕ) (texts : List (List ℕ)) → lengths texts < length text
    → not (list_any (λ some. bytes_eq text some) texts) ≡ true
unfolding lengths
longer_is_none text [] less = refl
longer_is_none text (other ∷ texts) less =
    by (bytes_eq text other) refl (longer_is_none text texts (omega (arith, less)))
  where
    by : (same : Bool) → bytes_eq text other ≡ same
        → not (list_any (λ some. bytes_eq text some) texts) ≡ true
        → not (list_any (λ some. bytes_eq text some) (other ∷ texts)) ≡ true
    by true is rest = absurd (omega (arith, ap length ((bytes_eq-Decides text other).0 is), less))
    by false is rest = rw is rest

pub fresh_is_other : (texts : List (List ℕ))
    → not (list_any (λ text. bytes_eq (fresh texts) text) texts) ≡ true
unfolding fresh
fresh_is_other texts =
    longer_is_none (fresh texts) texts (omega (arith, length_letters (lengths texts)))
