-- The enums of optionals, token by token as the code goes through them.
use Rattle.std.proofs.Common.{◌≡◌, ℕ, ◌<◌, ◌≤◌, Bool, true, false, not, ◌||◌, if◌then◌else◌, List, []}
use Rattle.std.proofs.Common.{◌∷◌, ◌++◌, map, length, codes, bytes_eq, refl, sym, ◌∙◌, ap, subst}
use Rattle.std.proofs.Common.{append_assoc, append-nil, arith}
use Rattle.std.proofs.lemmas.List.{map-append}
use Rattle.std.proofs.lemmas.List.Sums.{fold-append}
use Rattle.std.specs.Cmp.Lexicographic.{nat_list_eq_equiv}
use Rattle.std.specs.List.{list_any}
use Rattle.std.specs.Prelude.{Some, fold}
use Rattle.indexmap.specs.IndexSet.{insert_key}
use Rattle.sw_token.specs.Spelling.{Spelled}
use Rattle.sw_grammar_forms.specs.Relations.{head}
use Rattle.sw_grammar_forms.specs.Sets.{starts, quoted}
use Rattle.sw_grammar_forms.proofs.CursorSteps.{sees_quoted}
use Rattle.sw_tree.specs.declared.decl.Decl.{Decl}
use Rattle.sw_sugar.specs.Optionals.{name_at, optional_enum_tree}
use Rattle.sw_grammar.specs.Enums.{Marked, enum_of, enums, marked, marked_by, optionals, with_marked}
use Rattle.sw_grammar.specs.Tokens.{optional_text}
use Rattle.sw_parse_decl.specs.Found.{AreFound, IsWordOf, TakesWord}
use Rattle.sw_parse_decl.specs.declared.enums.Found.{Found}
use Rattle.sw_parse_decl.specs.declared.enums.Word.{Word}

any_of_map : {X : Type 0} (f : X → List ℕ) (p : List ℕ → Bool) (xs : List X)
    → list_any p (map f xs) ≡ list_any (λ x. p (f x)) xs
any_of_map f p [] = refl
any_of_map f p (x ∷ xs) = ap (λ b. p (f x) || b) (any_of_map f p xs)

any_alike : {X : Type 0} (p q : X → Bool) → ((x : X) → p x ≡ q x) → (xs : List X)
    → list_any p xs ≡ list_any q xs
any_alike p q same [] = refl
any_alike p q same (x ∷ xs) = λ j. same x j || any_alike p q same xs j

-- what isn't new is there
twice : (b : Bool) → b ≡ not (not b)
twice true = refl
twice false = refl

-- whether one of them has this text
abbrev has_word : List Marked → List ℕ → Bool
has_word all text = list_any (λ other. bytes_eq other.word.text text) all

-- A set of texts says which words are there.
module _ {X : Type 0} (f : X → List ℕ) (text : X) (keys : List X) (all : List Marked)
    (same : map f keys ≡ map (λ one. one.word.text) all) where
  abbrev is_key : X → X → Bool
  is_key a b = bytes_eq (f a) (f b)

  seen : list_any (is_key text) keys ≡ has_word all (f text)
  seen =
      sym (any_of_map f (bytes_eq (f text)) keys) ∙ (ap (list_any (bytes_eq (f text))) same
      ∙ (any_of_map (λ one. one.word.text) (bytes_eq (f text)) all
      ∙ any_alike (λ other. bytes_eq (f text) other.word.text)
      (λ other. bytes_eq other.word.text (f text))
      (λ other. nat_list_eq_equiv.symm (f text) other.word.text) all))

  pub seen_before : (new : Bool) → new ≡ not (list_any (is_key text) keys) → new ≡ false
      → (has_word all (f text) ≡ true)
      × (map f (insert_key is_key keys text) ≡ map (λ one. one.word.text) all)
  seen_before new is is' =
      let there : list_any (is_key text) keys ≡ true =
      twice (list_any (is_key text) keys) ∙ ap not (sym is ∙ is') in (
        sym seen ∙ there,
        ap (λ b. map f (if b then keys else keys ++ text ∷ [])) there ∙ same,
      )

  pub seen_first : (new : Bool) → new ≡ not (list_any (is_key text) keys) → new ≡ true
      → (has_word all (f text) ≡ false)
      × (map f (insert_key is_key keys text) ≡ map (λ one. one.word.text) all ++ f text ∷ [])
  seen_first new is is' =
      let none : list_any (is_key text) keys ≡ false =
      twice (list_any (is_key text) keys) ∙ ap not (sym is ∙ is') in (
        sym seen ∙ none,
        ap (λ b. map f (if b then keys else keys ++ text ∷ [])) none
            ∙ (map-append f keys (text ∷ []) ∙ ap (λ texts. texts ++ f text ∷ []) same),
      )

module _ (id_of : List ℕ → ℕ) (written : List Decl) (all : List Marked) (one : Marked)
    (found after : Found) (so_far : AreFound id_of written all found) (text : List ℕ)
    (text-is : one.word.text ≡ text) where
  -- a word with its text is there
  pub found_before : has_word all text ≡ true → after.decls.items ≡ found.decls.items
      → map (λ t. t.now) after.texts.keys ≡ map (λ o. o.word.text) all
      → AreFound id_of written (with_marked all one) after
  found_before there decls texts =
      subst (λ marks. AreFound id_of written marks after) (sym same) (record {
        decls = decls ∙ so_far.decls;
        texts = texts;
      })
    where
      same : with_marked all one ≡ all
      same = ap (λ b. if b then all else all ++ one ∷ [])
          (ap (has_word all) text-is ∙ there)

  -- its enum is added
  pub found_first : has_word all text ≡ false → (tree : Decl) → tree ≡ enum_of id_of one
      → after.decls.items ≡ found.decls.items ++ tree ∷ []
      → map (λ t. t.now) after.texts.keys ≡ map (λ o. o.word.text) all ++ text ∷ []
      → AreFound id_of written (with_marked all one) after
  found_first none tree is decls texts =
      subst (λ marks. AreFound id_of written marks after) (sym same) (record {
        decls =
            decls ∙ ((λ j. so_far.decls j ++ is j ∷ [])
            ∙ (append_assoc written (map (enum_of id_of) all) (enum_of id_of one ∷ [])
            ∙ ap (λ more. written ++ more) (sym (map-append (enum_of id_of) all (one ∷ [])))));
        texts =
            texts ∙ (ap (λ t. map (λ o. o.word.text) all ++ t ∷ []) (sym text-is)
            ∙ sym (map-append (λ o. o.word.text) all (one ∷ [])));
      })
    where
      same : with_marked all one ≡ all ++ one ∷ []
      same = ap (λ b. if b then all else all ++ one ∷ [])
          (ap (has_word all) text-is ∙ none)

-- the enum of a word, as the code makes it
pub made_enum : (id_of : List ℕ → ℕ) (one : Marked) (word : Word) (mark_at : ℕ) (tree : Decl)
    → IsWordOf one.word word → one.mark.at ≡ mark_at
    → tree ≡ optional_enum_tree (id_of (codes "none")) (id_of (codes "some"))
    (id_of (optional_text word.text.now)) (name_at word.at (id_of word.text.now)) mark_at
    → tree ≡ enum_of id_of one
made_enum id_of one word mark_at tree is mark made =
    made ∙ (λ j. optional_enum_tree (id_of (codes "none")) (id_of (codes "some"))
    (id_of (optional_text (sym is.0 j))) (name_at (sym is.1 j) (id_of (sym is.0 j))) (sym mark j))

-- What the token after a word adds.

pub none_marked : (all : List Marked) (token : Spelled) (ts : List Spelled)
    → starts (quoted (codes "?")) (head ts) ≡ false → all ≡ fold with_marked all (marked_by token ts)
none_marked all token [] is = refl
none_marked all token (next ∷ after) is =
    ap (λ b. fold with_marked all (if b then record { word = token; mark = next } ∷ [] else []))
    (sym (sees_quoted (codes "?") (Some next) refl ∙ is))

pub one_marked : (id_of : List ℕ → ℕ) (written : List Decl) (all : List Marked) (token : Spelled)
    (found : Found) (ts left : List Spelled) (mark : Word) → TakesWord ts mark left
    → starts (quoted (codes "?")) (head ts) ≡ true
    → ((one : Marked) → one.word ≡ token → one.mark.at ≡ mark.at
    → AreFound id_of written (with_marked all one) found)
    → AreFound id_of written (fold with_marked all (marked_by token ts)) found
one_marked id_of written all token found [] left mark takes is added = absurd takes
one_marked id_of written all token found (next ∷ after) left mark takes is added =
    subst (λ b. AreFound id_of written
    (fold with_marked all (if b then record { word = token; mark = next } ∷ [] else [])) found)
    (sym (sees_quoted (codes "?") (Some next) refl ∙ is))
    (added (record { word = token; mark = next }) refl takes.0.1)

-- Some tokens are gone through: the last of them is a word, and the optionals before it are found.
pub record Progress (id_of : List ℕ → ℕ) (written : List Decl) (all : List Spelled)
    (found : Found) (word : Word) (left : List Spelled) : Type 0 where
  pub marks : List Marked
  pub token : Spelled
  pub is_word : IsWordOf token word
  pub so_far : AreFound id_of written marks found
  pub rest : fold with_marked marks (marked (token ∷ left)) ≡ optionals all

pub begun : (id_of : List ℕ → ℕ) (written : List Decl) (all left : List Spelled) (found : Found)
    (word : Word) → TakesWord all word left → found.decls.items ≡ written
    → map (λ t. t.now) found.texts.keys ≡ [] → Progress id_of written all found word left
begun id_of written [] left found word takes decls texts = absurd takes
begun id_of written (token ∷ after) left found word takes decls texts = record {
  marks = [];
  token = token;
  is_word = takes.0;
  so_far = record { decls = decls ∙ sym (append-nil written); texts = texts };
  rest = ap (λ ts. fold with_marked [] (marked (token ∷ ts))) takes.1;
}

pub one_turn : (id_of : List ℕ → ℕ) (written : List Decl) (all ts left : List Spelled)
    (found after : Found) (word next : Word) → TakesWord ts next left
    → ((marks : List Marked) (token : Spelled) → AreFound id_of written marks found
    → IsWordOf token word → AreFound id_of written (fold with_marked marks (marked_by token ts)) after)
    → Progress id_of written all found word ts → Progress id_of written all after next left
one_turn id_of written all [] left found after word next takes adds so_far = absurd takes
one_turn id_of written all (t ∷ ts) left found after word next takes adds so_far = record {
  marks = fold with_marked so_far.marks (marked_by so_far.token (t ∷ ts));
  token = t;
  is_word = takes.0;
  so_far = adds so_far.marks so_far.token so_far.so_far so_far.is_word;
  rest =
      ap (λ us. fold with_marked (fold with_marked so_far.marks (marked_by so_far.token (t ∷ ts)))
      (marked (t ∷ us))) takes.1
      ∙ (sym (fold-append with_marked so_far.marks (marked_by so_far.token (t ∷ ts))
      (marked (t ∷ ts))) ∙ so_far.rest);
}

pub all_found : (id_of : List ℕ → ℕ) (written : List Decl) (all left : List Spelled)
    (found : Found) (word : Word) → length left ≤ 0 → Progress id_of written all found word left
    → found.decls.items ≡ written ++ enums id_of all
all_found id_of written all [] found word none so_far =
    so_far.so_far.decls ∙ ap (λ marks. written ++ map (enum_of id_of) marks) so_far.rest
all_found id_of written all (token ∷ left) found word none so_far = absurd (omega arith)

pub takes_one : (ts left : List Spelled) (word : Word) → TakesWord ts word left
    → length left < length ts
takes_one [] left word takes = absurd takes
takes_one (token ∷ after) left word takes = omega (arith, ap length takes.1)

-- where there is no token there is no enum
pub none_found : (id_of : List ℕ → ℕ) (written : List Decl) (all : List Spelled)
    → length all ≤ 0 → written ≡ written ++ enums id_of all
none_found id_of written [] none = sym (append-nil written)
none_found id_of written (token ∷ all) none = absurd (omega arith)
