-- The names of tokens, interned text by text.
use Rattle.std.proofs.Common.{◌≡◌, ℕ, suc, ◌+◌, ◌*◌, ◌<◌, ◌≤◌, Bool, true, false, if◌then◌else◌}
use Rattle.std.proofs.Common.{List, [], ◌∷◌, ◌++◌, length, take, drop, codes, refl, sym, ◌∙◌, ap, subst}
use Rattle.std.proofs.Common.{append_assoc, append-nil, length-append, ◌&&◌, ◌||◌, arith}
use Rattle.std.proofs.lemmas.List.{take-append-le}
use Rattle.std.specs.Prelude.{Some, bytes_eq}
use Rattle.sw_token.specs.declared.Kind.{Kind}
use Rattle.sw_token.specs.declared.Kind.TheVariants as kinds
use Rattle.sw_token.specs.Kinds.{kind_of}
use Rattle.sw_token.specs.Spelling.{Spelled}
use Rattle.sw_grammar_forms.specs.Outcome.{Takes, text_of}
use Rattle.sw_grammar_forms.specs.Relations.{head}
use Rattle.sw_grammar_forms.specs.Sets.{Set, starts, quoted, apart, word, attribute, is_name, is_at}
use Rattle.sw_grammar_forms.proofs.CursorSteps.{sees_quoted}
use Rattle.sw_grammar_forms.proofs.KindSets.{has-attribute, has-one_of}
use Rattle.sw_grammar_forms.proofs.SetLaws.{has-word}
use Rattle.sw_grammar_forms.proofs.SetLemmas.{has-apart}
use Rattle.sw_tree.proofs.NamesLemmas.{length-with_text}
use Rattle.sw_tree.specs.Names.{with_text, with_texts, predeclared}
use Rattle.sw_sugar.specs.Calls.{declared_texts}
use Rattle.sw_grammar.specs.Tokens.{binding_first, optional_text}
use Rattle.sw_grammar_facts.specs.Interned.{is_binding, made_texts, texts_by, next_texts, given_texts}
use Rattle.sw_parse_decl.specs.Texts.{ArePartlyInterned}

-- Several texts, interned in turn.

-- the first isn't interned
pub none_interned : (before after : List (List ℕ)) (text : List ℕ) (more : List (List ℕ))
    → after ≡ before → ArePartlyInterned before (text ∷ more) after
unfolding with_texts
none_interned before after text more same = (0, omega arith, same)

-- the first is interned, and not all others
pub first_interned : (before middle after : List (List ℕ)) (text : List ℕ) (more : List (List ℕ))
    → middle ≡ with_text before text → ArePartlyInterned middle more after
    → ArePartlyInterned before (text ∷ more) after
unfolding with_texts
first_interned before middle after text more is (n, less, same) =
    (suc n, omega (arith, less), same ∙ ap (λ texts. with_texts texts (take n more)) is)

-- the same with several in place of the first
pub then_partly : (before middle after : List (List ℕ)) (first more : List (List ℕ))
    → middle ≡ with_texts before first → ArePartlyInterned middle more after
    → ArePartlyInterned before (first ++ more) after
unfolding with_texts
then_partly before middle after [] more is part =
    subst (λ texts. ArePartlyInterned texts more after) is part
then_partly before middle after (text ∷ first) more is part =
    first_interned before (with_text before text) after text (first ++ more) refl
    (then_partly (with_text before text) middle after first more is part)

-- and more come after them
pub partly_of_more : (before after : List (List ℕ)) (texts more : List (List ℕ))
    → ArePartlyInterned before texts after → ArePartlyInterned before (texts ++ more) after
partly_of_more before after texts more (n, less, same) = (
  n,
  omega (arith, less, length-append texts more),
  same ∙ ap (with_texts before) (sym (take-append-le n texts more (omega (arith, less)))),
)

with_both : (texts more others : List (List ℕ))
    → with_texts texts (more ++ others) ≡ with_texts (with_texts texts more) others
unfolding with_texts
with_both texts [] others = refl
with_both texts (text ∷ more) others = with_both (with_text texts text) more others

pub length-with_texts : (texts more : List (List ℕ))
    → length (with_texts texts more) ≤ length texts + length more
unfolding with_texts
length-with_texts texts [] = omega arith
length-with_texts texts (text ∷ more) = omega (
  arith,
  length-with_text texts text,
  length-with_texts (with_text texts text) more,
)

-- What rules may make of a word, by the tokens beside it.

abbrev made_by : Bool → Bool → List ℕ → List (List ℕ)
made_by marked typed text =
    if marked then optional_text text ∷ [] else (if typed then declared_texts text else [])

made_is : (bound : Bool) (text : List ℕ) (ts : List Spelled) → made_texts bound text ts ≡ made_by
    (starts (quoted (codes "?")) (head ts)) (bound && starts (quoted (codes ":")) (head ts)) text
made_is true text [] = refl
made_is false text [] = refl
made_is bound text (next ∷ after) =
    ap (λ b. made_by b (bound && bytes_eq next.text (codes ":")) text)
    (sees_quoted (codes "?") (Some next) refl)
    ∙ ap (λ b. made_by (starts (quoted (codes "?")) (Some next)) (bound && b) text)
    (sees_quoted (codes ":") (Some next) refl)

pub made_of_optional : (bound : Bool) (text : List ℕ) (ts : List Spelled)
    → starts (quoted (codes "?")) (head ts) ≡ true
    → optional_text text ∷ [] ≡ made_texts bound text ts
made_of_optional bound text ts is =
    sym (made_is bound text ts
    ∙ ap (λ b. made_by b (bound && starts (quoted (codes ":")) (head ts)) text) is)

made_otherwise : (bound typed : Bool) (text : List ℕ) (ts : List Spelled)
    → starts (quoted (codes "?")) (head ts) ≡ false
    → (bound && starts (quoted (codes ":")) (head ts)) ≡ typed
    → made_by false typed text ≡ made_texts bound text ts
made_otherwise bound typed text ts is is' =
    sym (made_is bound text ts
    ∙ (ap (λ b. made_by b (bound && starts (quoted (codes ":")) (head ts)) text) is
    ∙ ap (λ b. made_by false b text) is'))

pub made_of_declared : (bound : Bool) (text : List ℕ) (ts : List Spelled)
    → starts (quoted (codes "?")) (head ts) ≡ false → bound ≡ true
    → starts (quoted (codes ":")) (head ts) ≡ true → declared_texts text ≡ made_texts bound text ts
made_of_declared bound text ts is is_bound is' =
    made_otherwise bound true text ts is (λ j. is_bound j && is' j)

pub made_of_nothing : (bound : Bool) (text : List ℕ) (ts : List Spelled)
    → starts (quoted (codes "?")) (head ts) ≡ false
    → starts (quoted (codes ":")) (head ts) ≡ false → [] ≡ made_texts bound text ts
made_of_nothing bound text ts is is' = made_otherwise bound false text ts is (never bound is')
  where
    never : (b : Bool) {c : Bool} → c ≡ false → (b && c) ≡ false
    never true is = is
    never false is = refl

pub made_unbound : (bound : Bool) (text : List ℕ) (ts : List Spelled)
    → starts (quoted (codes "?")) (head ts) ≡ false → bound ≡ false
    → [] ≡ made_texts bound text ts
made_unbound bound text ts is unbound =
    made_otherwise bound false text ts is (ap (λ b. b && starts (quoted (codes ":")) (head ts)) unbound)

-- What the next token gives.

word_kind : (bound : Bool) (kind : Kind) (text : List ℕ) (after : List Spelled) → is_name kind ≡ true
    → text ∷ made_texts bound text after ≡ texts_by bound kind text after
word_kind bound kinds.Word text after is = refl
word_kind bound kinds.At text after is = absurd (cc)
word_kind bound kinds.Underscore text after is = absurd (cc)
word_kind bound (kinds.Key _) text after is = absurd (cc)
word_kind bound (kinds.Int _) text after is = absurd (cc)
word_kind bound (kinds.Op _) text after is = absurd (cc)
word_kind bound (kinds.Mark _) text after is = absurd (cc)

at_kind : (bound : Bool) (kind : Kind) (text : List ℕ) (after : List Spelled) → is_at kind ≡ true
    → drop 1 text ∷ [] ≡ texts_by bound kind text after
at_kind bound kinds.Word text after is = absurd (cc)
at_kind bound kinds.At text after is = refl
at_kind bound kinds.Underscore text after is = absurd (cc)
at_kind bound (kinds.Key _) text after is = absurd (cc)
at_kind bound (kinds.Int _) text after is = absurd (cc)
at_kind bound (kinds.Op _) text after is = absurd (cc)
at_kind bound (kinds.Mark _) text after is = absurd (cc)

other_kind : (bound : Bool) (kind : Kind) (text : List ℕ) (after : List Spelled) → is_name kind ≡ false
    → is_at kind ≡ false → [] ≡ texts_by bound kind text after
other_kind bound kinds.Word text after is is' = absurd (cc)
other_kind bound kinds.At text after is is' = absurd (cc)
other_kind bound kinds.Underscore text after is is' = refl
other_kind bound (kinds.Key _) text after is is' = refl
other_kind bound (kinds.Int _) text after is is' = refl
other_kind bound (kinds.Op _) text after is is' = refl
other_kind bound (kinds.Mark _) text after is is' = refl

word_gives : (bound : Bool) (ts : List Spelled) → starts word (head ts) ≡ true
    → text_of (head ts) ∷ made_texts bound (text_of (head ts)) (drop 1 ts) ≡ next_texts bound ts
word_gives bound [] is = absurd (cc)
word_gives bound (token ∷ after) is =
    word_kind bound (kind_of token.text) token.text after (sym (has-word token) ∙ is)

attribute_gives : (bound : Bool) (ts : List Spelled) → starts attribute (head ts) ≡ true
    → drop 1 (text_of (head ts)) ∷ [] ≡ next_texts bound ts
attribute_gives bound [] is = absurd (cc)
attribute_gives bound (token ∷ after) is =
    at_kind bound (kind_of token.text) token.text after (sym (has-attribute token) ∙ is)

pub other_gives : (bound : Bool) (ts : List Spelled) → starts word (head ts) ≡ false
    → starts attribute (head ts) ≡ false → [] ≡ next_texts bound ts
other_gives bound [] is is' = refl
other_gives bound (token ∷ after) is is' =
    other_kind bound (kind_of token.text) token.text after (sym (has-word token) ∙ is)
    (sym (has-attribute token) ∙ is')

pub rest_of : (ts left : List Spelled) (at : ℕ) → Takes ts at left → left ≡ drop 1 ts
rest_of [] left at takes = absurd takes
rest_of (token ∷ after) left at takes = takes.1

-- the next token is a word
module _ (bound : Bool) (old : List (List ℕ)) (ts : List Spelled) (is : starts word (head ts) ≡ true) where
  pub word_fails : (new : List (List ℕ)) → new ≡ old → ArePartlyInterned old (next_texts bound ts) new
  word_fails new same =
      subst (λ texts. ArePartlyInterned old texts new) (word_gives bound ts is)
      (none_interned old new (text_of (head ts)) (made_texts bound (text_of (head ts)) (drop 1 ts)) same)

  module _ (middle : List (List ℕ)) (text : List ℕ) (left : List Spelled)
      (text-is : text ≡ text_of (head ts)) (left-is : left ≡ drop 1 ts)
      (one : middle ≡ with_text old text) where
    all_texts : text ∷ made_texts bound text left ≡ next_texts bound ts
    all_texts = (λ j. text-is j ∷ made_texts bound (text-is j) (left-is j)) ∙ word_gives bound ts is

    pub word_texts : (new : List (List ℕ)) → new ≡ with_texts middle (made_texts bound text left)
        → new ≡ with_texts old (next_texts bound ts)
    unfolding with_texts
    word_texts new more =
        more ∙ (ap (λ texts. with_texts texts (made_texts bound text left)) one
        ∙ ap (with_texts old) all_texts)

    pub word_partly : (new : List (List ℕ)) → ArePartlyInterned middle (made_texts bound text left) new
        → ArePartlyInterned old (next_texts bound ts) new
    word_partly new part =
        subst (λ texts. ArePartlyInterned old texts new) all_texts
        (first_interned old middle new text (made_texts bound text left) one part)

-- the next token is an `@` with a word
module _ (bound : Bool) (old : List (List ℕ)) (ts : List Spelled) (is : starts attribute (head ts) ≡ true) where
  pub attribute_fails : (new : List (List ℕ)) → new ≡ old
      → ArePartlyInterned old (next_texts bound ts) new
  attribute_fails new same =
      subst (λ texts. ArePartlyInterned old texts new) (attribute_gives bound ts is)
      (none_interned old new (drop 1 (text_of (head ts))) [] same)

  pub attribute_texts : (new : List (List ℕ)) (text : List ℕ) → text ≡ drop 1 (text_of (head ts))
      → new ≡ with_text old text → new ≡ with_texts old (next_texts bound ts)
  unfolding with_texts
  attribute_texts new text text-is one =
      one ∙ (ap (with_text old) text-is ∙ ap (with_texts old) (attribute_gives bound ts is))

-- Whether it is `let` or `var`.

pub binds_is : (ts : List Spelled)
    → starts binding_first (head ts) ≡ is_binding (text_of (head ts))
binds_is [] = refl
binds_is (token ∷ after) =
    has-one_of (codes "let" ∷ codes "var" ∷ []) token refl
    ∙ no_more (bytes_eq token.text (codes "let")) (bytes_eq token.text (codes "var"))
  where
    no_more : (a b : Bool) → (a || (b || false)) ≡ (a || b)
    no_more true b = refl
    no_more false true = refl
    no_more false false = refl

-- a token of a set that has neither isn't
binds_nothing : (set : Set) → apart set binding_first ≡ true → (ts : List Spelled)
    → starts set (head ts) ≡ true → false ≡ is_binding (text_of (head ts))
binds_nothing set neither [] is = refl
binds_nothing set neither (token ∷ after) is =
    sym (has-apart set binding_first token neither is) ∙ binds_is (token ∷ after)

pub word_binds_nothing : (ts : List Spelled) → starts word (head ts) ≡ true
    → false ≡ is_binding (text_of (head ts))
word_binds_nothing = binds_nothing word refl

pub attribute_binds_nothing : (ts : List Spelled) → starts attribute (head ts) ≡ true
    → false ≡ is_binding (text_of (head ts))
attribute_binds_nothing = binds_nothing attribute refl

-- The texts of all tokens.

made_few : (bound : Bool) (text : List ℕ) (ts : List Spelled) → length (made_texts bound text ts) ≤ 2
made_few bound text [] = omega arith
made_few bound text (next ∷ after) =
    by (bytes_eq next.text (codes "?")) (bound && bytes_eq next.text (codes ":"))
  where
    by : (b c : Bool) → length (made_by b c text) ≤ 2
    by true c = omega arith
    by false true = omega arith
    by false false = omega arith

few_by : (bound : Bool) (kind : Kind) (text : List ℕ) (after : List Spelled)
    → length (texts_by bound kind text after) ≤ 3
few_by bound kinds.Word text after = omega (arith, made_few bound text after)
few_by bound kinds.At text after = omega arith
few_by bound kinds.Underscore text after = omega arith
few_by bound (kinds.Key _) text after = omega arith
few_by bound (kinds.Int _) text after = omega arith
few_by bound (kinds.Op _) text after = omega arith
few_by bound (kinds.Mark _) text after = omega arith

next_few : (bound : Bool) (ts : List Spelled) → length (next_texts bound ts) ≤ 3
next_few bound [] = omega arith
next_few bound (token ∷ after) = few_by bound (kind_of token.text) token.text after

given_split : (bound : Bool) (ts : List Spelled) → 0 < length ts → given_texts bound ts
    ≡ next_texts bound ts ++ given_texts (is_binding (text_of (head ts))) (drop 1 ts)
given_split bound [] some = absurd (omega arith)
given_split bound (token ∷ after) some = refl

-- Of all texts the first are interned, those that the tokens left don't give.
pub record IsInterned (old : List (List ℕ)) (all : List (List ℕ)) (new : List (List ℕ))
    (bound : Bool) (left : List Spelled) : Type 0 where
  pub first : List (List ℕ)
  pub rest : all ≡ first ++ given_texts bound left
  pub texts : new ≡ with_texts old first

pub cases_interned : (old middle new : List (List ℕ)) (none some : List ℕ) (ts : List Spelled)
    → middle ≡ with_text old none → new ≡ with_text middle some
    → IsInterned old ((none ∷ some ∷ []) ++ given_texts false ts) new false ts
unfolding with_texts
cases_interned old middle new none some ts is is' = record {
  first = none ∷ some ∷ [];
  rest = refl;
  texts = is' ∙ ap (λ texts. with_text texts some) is;
}

module _ (old all middle : List (List ℕ)) (bound : Bool) (ts : List Spelled) (some : 0 < length ts)
    (so_far : IsInterned old all middle bound ts) where
  abbrev more : List (List ℕ)
  more = given_texts (is_binding (text_of (head ts))) (drop 1 ts)

  split : all ≡ so_far.first ++ (next_texts bound ts ++ more)
  split = so_far.rest ∙ ap (λ texts. so_far.first ++ texts) (given_split bound ts some)

  pub one_more : (new : List (List ℕ)) (binds : Bool) (left : List Spelled)
      → binds ≡ is_binding (text_of (head ts)) → left ≡ drop 1 ts
      → new ≡ with_texts middle (next_texts bound ts) → IsInterned old all new binds left
  one_more new binds left binds-is left-is texts = record {
    first = so_far.first ++ next_texts bound ts;
    rest =
        split ∙ (sym (append_assoc so_far.first (next_texts bound ts) more)
        ∙ (λ j. (so_far.first ++ next_texts bound ts)
        ++ given_texts (sym binds-is j) (sym left-is j)));
    texts =
        texts ∙ (ap (λ it. with_texts it (next_texts bound ts)) so_far.texts
        ∙ sym (with_both old so_far.first (next_texts bound ts)));
  }

  pub partly_of_all : (new : List (List ℕ)) → ArePartlyInterned middle (next_texts bound ts) new
      → ArePartlyInterned old all new
  partly_of_all new part =
      subst (λ texts. ArePartlyInterned old texts new) (sym split)
      (then_partly old middle new so_far.first (next_texts bound ts ++ more) so_far.texts
      (partly_of_more middle new (next_texts bound ts) more part))

pub all_interned : (old all new : List (List ℕ)) (bound : Bool) (left : List Spelled)
    → length left ≤ 0 → IsInterned old all new bound left → new ≡ with_texts old all
all_interned old all new bound [] none so_far =
    so_far.texts ∙ ap (with_texts old) (sym (so_far.rest ∙ append-nil so_far.first))
all_interned old all new bound (token ∷ left) none so_far = absurd (omega arith)

shorter : (ts left : List Spelled) → 0 < length ts → left ≡ drop 1 ts
    → length ts ≡ length left + 1
shorter [] left some is = absurd (omega arith)
shorter (token ∷ after) left some is = omega (arith, ap length is)

pub takes_one : (ts left : List Spelled) → 0 < length ts → left ≡ drop 1 ts
    → length left < length ts
takes_one ts left some is = omega (arith, shorter ts left some is)

-- a token gives three texts at most
pub room_left : (most : ℕ) (bound : Bool) (texts new : List (List ℕ)) (ts left : List Spelled)
    → 0 < length ts → left ≡ drop 1 ts → new ≡ with_texts texts (next_texts bound ts)
    → length texts + 3 * length ts < most → length new + 3 * length left < most
room_left most bound texts new ts left some is texts-are less = omega (
  arith,
  shorter ts left some is,
  ap length texts-are,
  length-with_texts texts (next_texts bound ts),
  next_few bound ts,
)

pub predeclared_few : length predeclared ≡ 13
unfolding predeclared
predeclared_few = refl
