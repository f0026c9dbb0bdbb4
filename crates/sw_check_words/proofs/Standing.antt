-- Words that may stand, and lists in which some word may not.
use Rattle.std.proofs.Common.{◌≡◌, ◌==◌, ℕ, Bool, true, false, ◌&&◌, ◌||◌, List, [], ◌∷◌}
use Rattle.std.proofs.Common.{map, not, option_map}
use Rattle.std.proofs.Common.{None, refl, sym, ap, subst, bytes_eq, codes, if◌then◌else◌, Option}
use Rattle.std.specs.List.{AllByRecursion, list_all}
use Rattle.std.specs.Cmp.{unsigned_Decides}
use Rattle.std.proofs.lemmas.Slice.Eq.{bytes_eq-Decides}
use Rattle.sw_check_words.specs.Words.{Action, Command, Verify, Run, Trace, Owners, Order}
use Rattle.sw_check_words.specs.Words.{are_options, certificate, check_form, check_options}
use Rattle.sw_check_words.specs.Words.{command_of, demo_form, file_form, file_options, is_among}
use Rattle.sw_check_words.specs.Words.{is_name, may_stand, nonsending_default, pair_form}
use Rattle.sw_check_words.proofs.Leaves.{IsWord, name, default_option, certificate_option}
use Rattle.sw_check_words.proofs.Leaves.{names_in, others_in, wrong_behind}

-- a word that is one of the options
option_of : (word : List ℕ) → is_among check_options word ≡ true → IsWord word
option_of word e = by (bytes_eq word certificate) refl where
  default_of : (is : Bool) → bytes_eq word nonsending_default ≡ is → (is || false) ≡ true
      → IsWord word
  default_of true is e =
      subst IsWord (sym ((bytes_eq-Decides word nonsending_default).0 is)) default_option
  default_of false is e = cc (e)

  by : (is : Bool) → bytes_eq word certificate ≡ is → IsWord word
  by true is = subst IsWord (sym ((bytes_eq-Decides word certificate).0 is)) certificate_option
  by false is = default_of (bytes_eq word nonsending_default) refl (rw is at e)

word_of : (word : List ℕ) → may_stand word ≡ true → IsWord word
word_of [] e = cc
word_of (first ∷ rest) e = by (first == 45) refl where
  by : (hyphen : Bool) → (first == 45) ≡ hyphen → IsWord (first ∷ rest)
  by false is = name first rest is
  by true is = option_of (first ∷ rest) (rw is (rw is at e))

-- each word may stand
pub stand : (words : List (List ℕ)) → list_all may_stand words ≡ true → AllByRecursion IsWord words
stand [] e = tt
stand (word ∷ words) e = by (may_stand word) refl (stand words) where
  by : (may : Bool) → may_stand word ≡ may
      → (list_all may_stand words ≡ true → AllByRecursion IsWord words)
      → IsWord word × AllByRecursion IsWord words
  by true is others = (word_of word is, others (rw is at e))
  by false is others = let no : false ≡ true = rw is at e in cc (no)

-- Some word isn't an option of any command: there is a word that isn't a name, and those that
-- aren't are no options.
record Bad (others : List (List ℕ)) : Type 0 where
  first : List ℕ
  rest : List (List ℕ)
  is : others ≡ first ∷ rest
  of_check : are_options check_options others ≡ false
  of_file : are_options file_options others ≡ false

-- after such words, too
bad_behind : (word : List ℕ) (others : List (List ℕ)) → Bad others → Bad (word ∷ others)
bad_behind word others bad = record {
  first = word;
  rest = others;
  is = refl;
  of_check = wrong_behind check_options word others bad.of_check;
  of_file = wrong_behind file_options word others bad.of_file;
}

-- the options of the other commands are options of `check`
of_check_too : (certificate default : Bool) → (certificate || (default || false)) ≡ false
    → (default || false) ≡ false
of_check_too true default e = cc (e)
of_check_too false default e = e

bad_first : (word : List ℕ) (others : List (List ℕ)) → is_among check_options word ≡ false
    → Bad (word ∷ others)
bad_first word others none =
    let none_of_file = of_check_too (bytes_eq word certificate) (bytes_eq word nonsending_default)
    none in
    record {
      first = word;
      rest = others;
      is = refl;
      of_check = rw none refl;
      of_file = rw none_of_file refl;
    }

bad_others : (words : List (List ℕ)) → list_all may_stand words ≡ false → Bad (others_in words)
bad_others [] e = cc
bad_others (word ∷ words) e = by (is_name word) refl (bad_others words) where
  by_option : is_name word ≡ false → (is : Bool) → is_among check_options word ≡ is
      → (list_all may_stand words ≡ false → Bad (others_in words))
      → Bad (others_in (word ∷ words))
  by_option not_name false other others = rw not_name (bad_first word (others_in words) other)
  by_option not_name true same others =
      rw not_name (bad_behind word (others_in words) (others (rw (not_name, same) at e)))

  by : (named : Bool) → is_name word ≡ named
      → (list_all may_stand words ≡ false → Bad (others_in words))
      → Bad (others_in (word ∷ words))
  by true is others = rw is (others (rw is at e))
  by false is others = by_option is (is_among check_options word) refl others

-- beside words that are no options there is no form
no_form_by : (check verify run trace owners order demo : Bool) (names others : List (List ℕ))
    → are_options check_options others ≡ false → are_options file_options others ≡ false
    → demo_form names others ≡ None
    → ◌≡◌ {A = Option Command} (if check
    then file_form check_options (check_form others names) others
    else if verify then file_form file_options (pair_form Verify names) others
    else if run then file_form file_options (pair_form Run names) others
    else if trace then file_form file_options (pair_form Trace names) others
    else if owners then file_form file_options (pair_form Owners names) others
    else if order then file_form file_options (pair_form Order names) others
    else if demo then demo_form names others else None) None
no_form_by true verify run trace owners order demo names others c f d = rw c refl
no_form_by false true run trace owners order demo names others c f d = rw f refl
no_form_by false false true trace owners order demo names others c f d = rw f refl
no_form_by false false false true owners order demo names others c f d = rw f refl
no_form_by false false false false true order demo names others c f d = rw f refl
no_form_by false false false false false true demo names others c f d = rw f refl
no_form_by false false false false false false true names others c f d = d
no_form_by false false false false false false false names others c f d = refl

no_demo : (names others : List (List ℕ)) → Bad others → demo_form names others ≡ None
no_demo names others bad = rw bad.is (by names) where
  by : (names : List (List ℕ)) → demo_form names (bad.first ∷ bad.rest) ≡ None
  by [] = refl
  by (number ∷ []) = refl
  by (number ∷ second ∷ names) = refl

-- A list in which some word may not stand has no form.
pub no_command : (words : List (List ℕ)) → list_all may_stand words ≡ false
    → command_of words ≡ None
unfolding command_of
no_command [] e = refl
no_command ([] ∷ words) e = refl
no_command ((first ∷ rest) ∷ words) e = by (first == 45) refl where
  by : (hyphen : Bool) → (first == 45) ≡ hyphen → command_of ((first ∷ rest) ∷ words) ≡ None
  by true is =
      let first_is : first ≡ 45 = (unsigned_Decides first 45).0 is in
      rw first_is refl
  by false is =
      let bad = bad_others words (rw is at e) in
      no_form_by (bytes_eq (codes "check") (first ∷ rest))
      (bytes_eq (codes "verify") (first ∷ rest)) (bytes_eq (codes "run") (first ∷ rest))
      (bytes_eq (codes "trace") (first ∷ rest)) (bytes_eq (codes "owners") (first ∷ rest))
      (bytes_eq (codes "order") (first ∷ rest)) (bytes_eq (codes "demo") (first ∷ rest))
      (names_in words) (others_in words) bad.of_check bad.of_file
      (no_demo (names_in words) (others_in words) bad)

-- a test of each text, as the words are lent
pub list_all-map : {X Y : Type 0} (test : Y → Bool) (f : X → Y) (xs : List X)
    → list_all (λ x. test (f x)) xs ≡ list_all test (map f xs)
list_all-map test f [] = refl
list_all-map test f (x ∷ xs) = ap (λ rest. test (f x) && rest) (list_all-map test f xs)
