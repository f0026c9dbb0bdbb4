-- Two forms that differ in their values alone are read alike: their readers take the same tokens,
-- or stop at the same token. What is asked of the two values is what the forms after them look at.
use Rattle.std.proofs.Common.{◌≡◌, ℕ, zero, suc, Bool, true, false, cond, not, List, [], ◌∷◌, ◌++◌}
use Rattle.std.proofs.Common.{length, refl, ap, subst, codes}
use Rattle.std.specs.Prelude.{Option, Ok, Err}
use Rattle.sw_token.specs.declared.Fixity.{Fixity}
use Rattle.sw_token.specs.Spelling.{Spelled}
use Rattle.sw_grammar_forms.specs.Sets.{Set, has, starts}
use Rattle.sw_grammar_forms.specs.Form.{Shape, Terminal, Claim, Form, one, a_word}
use Rattle.sw_grammar_forms.specs.Form as forms
use Rattle.sw_grammar_forms.specs.Relations.{head, may_start, stays, is_none_of}
use Rattle.sw_grammar_forms.specs.Reader.{Answer, Reader, refused, and_then, then_read}
use Rattle.sw_grammar_forms.specs.Reader.{next, opening, check, checked, choose, repeat, set_if, only_if}
use Rattle.sw_grammar_forms.specs.Reader.{loop}
use Rattle.sw_grammar_forms.specs.Reader.{pure, skipping, read_item, read_items, reading}
use Rattle.sw_grammar_forms.specs.Reader.Fault.{unexpected, too_deep}
use Rattle.sw_grammar_forms.specs.Spells.{read_inside}
use Rattle.sw_grammar_forms.specs.Fronts.{ends_before, front}

-- the same tokens are left, and something holds of the two values; or the faults are the same
abbrev pub SameAnswer : {A : Type 0} → (A → A → Type 0) → Answer A → Answer A → Type 0
SameAnswer P (Ok x) (Ok y) = P x.0 y.0 × (x.1 ≡ y.1)
SameAnswer P (Ok x) (Err fault) = ⊥
SameAnswer P (Err fault) (Ok y) = ⊥
SameAnswer P (Err fault) (Err other) = fault ≡ other

abbrev pub Alike : {A : Type 0} → (A → A → Type 0) → Reader A → Reader A → Type 0
Alike P p q = (ts : List Spelled) → SameAnswer P (p ts) (q ts)

-- nothing is asked
abbrev pub Any : {A : Type 0} → A → A → Type 0
Any a b = Unit {0}

pub alike_then : {A B : Type 0} (P : A → A → Type 0) (Q : B → B → Type 0) (p q : Reader A)
    (f g : A → Reader B) → Alike P p q → ((a b : A) → P a b → Alike Q (f a) (g b))
    → Alike Q (then_read p f) (then_read q g)
alike_then {A} {B} P Q p q f g first second ts = by_answers (p ts) (q ts) (first ts)
  where
    by_answers : (r t : Answer A) → SameAnswer P r t
        → SameAnswer Q (and_then r (λ x. f x.0 x.1)) (and_then t (λ x. g x.0 x.1))
    by_answers (Ok x) (Ok y) h =
        subst (λ us. SameAnswer Q (f x.0 x.1) (g y.0 us)) h.1 (second x.0 y.0 h.0 x.1)
    by_answers (Ok x) (Err fault) h = absurd h
    by_answers (Err fault) (Ok y) h = absurd h
    by_answers (Err fault) (Err other) h = h

alike_cond : {A : Type 0} (P : A → A → Type 0) (b c : Bool) (x y x' y' : Answer A) → b ≡ c
    → SameAnswer P x x' → SameAnswer P y y' → SameAnswer P (cond b x y) (cond c x' y')
alike_cond P true true x y x' y' same h k = h
alike_cond P true false x y x' y' same h k = absurd (cc)
alike_cond P false true x y x' y' same h k = absurd (cc)
alike_cond P false false x y x' y' same h k = k

alike_next : {A : Type 0} (P : A → A → Type 0) (t u : Terminal A) → t.set ≡ u.set
    → ((token : Spelled) → P (t.value token) (u.value token)) → Alike P (next t) (next u)
alike_next P t u same values [] = refl
alike_next P t u same values (token ∷ ts) =
    alike_cond P (has t.set token) (has u.set token) (Ok (t.value token, ts))
    (Err (unexpected (suc (length ts)))) (Ok (u.value token, ts))
    (Err (unexpected (suc (length ts)))) (ap (λ set. has set token) same)
    (values token, refl) refl

alike_opening : {A : Type 0} (P : A → A → Type 0) (depth : ℕ) (t u : Terminal A)
    → t.set ≡ u.set → ((token : Spelled) → P (t.value token) (u.value token))
    → Alike P (opening depth t) (opening depth u)
alike_opening P zero t u same values ts =
    alike_cond P (starts t.set (head ts)) (starts u.set (head ts)) (Err (too_deep (length ts)))
    (refused ts) (Err (too_deep (length ts))) (refused ts)
    (ap (λ set. starts set (head ts)) same) refl refl
alike_opening P (suc depth) t u same values ts = alike_next P t u same values ts

pub alike_check : (test other : Option Spelled → Bool) → ((token : Option Spelled)
    → test token ≡ other token) → Alike Any (check test) (check other)
alike_check test other same ts =
    alike_cond Any (test (head ts)) (other (head ts)) (Ok (tt, ts)) (refused ts) (Ok (tt, ts))
    (refused ts) (same (head ts)) (tt, refl) refl

alike_checked : {A : Type 0} (P : A → A → Type 0) (test other : Option Spelled → Bool)
    (p q : Reader A) → ((token : Option Spelled) → test token ≡ other token) → Alike P p q
    → Alike P (checked test p) (checked other q)
alike_checked P test other p q same h =
    alike_then Any P (check test) (check other) (λ _. p) (λ _. q) (alike_check test other same)
    (λ _ _ _. h)

alike_self : {A : Type 0} (p : Reader A) → Alike (λ a b. a ≡ b) p p
alike_self {A} p ts = by_answer (p ts)
  where
    by_answer : (r : Answer A) → SameAnswer (λ a b. a ≡ b) r r
    by_answer (Ok x) = (refl, refl)
    by_answer (Err fault) = refl

alike_repeat : {S : Type 0} (P : S → S → Type 0) (set : Set) (is_open opens : S → Bool)
    (f g : S → Reader S) → ((s t : S) → P s t → is_open s ≡ opens t)
    → ((s t : S) → P s t → Alike P (f s) (g t)) → (n : ℕ) (s t : S) → P s t
    → Alike P (repeat set is_open f n s) (repeat set opens g n t)
alike_repeat P set is_open opens f g same turn zero s t h ts =
    alike_cond P (starts (set_if (is_open s) set) (head ts))
    (starts (set_if (opens t) set) (head ts))
    (refused ts) (Ok (s, ts)) (refused ts) (Ok (t, ts))
    (ap (λ b. starts (set_if b set) (head ts)) (same s t h)) refl (h, refl)
alike_repeat P set is_open opens f g same turn (suc n) s t h ts =
    alike_cond P (starts (set_if (is_open s) set) (head ts))
    (starts (set_if (opens t) set) (head ts))
    (then_read (f s) (repeat set is_open f n) ts) (Ok (s, ts))
    (then_read (g t) (repeat set opens g n) ts) (Ok (t, ts))
    (ap (λ b. starts (set_if b set) (head ts)) (same s t h))
    (alike_then P P (f s) (g t) (repeat set is_open f n) (repeat set opens g n) (turn s t h)
    (alike_repeat P set is_open opens f g same turn n) ts)
    (h, refl)

-- a `;` ends the last item of both states or of none
abbrev pub EndAlike : {A : Type 0} → List A × Bool → List A × Bool → Type 0
EndAlike x y = x.1 ≡ y.1

alike_item : {A : Type 0} (P : A → A → Type 0) (p q : Reader A) → Alike P p q
    → (s t : List A × Bool) → EndAlike s t → Alike EndAlike (read_item p s) (read_item q t)
alike_item P p q h s t same =
    alike_then P EndAlike (checked (may_start (not s.1)) p) (checked (may_start (not t.1)) q)
    (λ x. then_read (skipping (codes ";")) (λ ended. pure (s.0 ++ x ∷ [], ended)))
    (λ x. then_read (skipping (codes ";")) (λ ended. pure (t.0 ++ x ∷ [], ended)))
    (alike_checked P (may_start (not s.1)) (may_start (not t.1)) p q
    (λ token. ap (λ b. may_start (not b) token) same) h)
    (λ a b _. alike_then (λ x y. x ≡ y) EndAlike (skipping (codes ";")) (skipping (codes ";"))
    (λ ended. pure (s.0 ++ a ∷ [], ended)) (λ ended. pure (t.0 ++ b ∷ [], ended))
    (alike_self (skipping (codes ";"))) (λ x y is ts. (is, refl)))

-- Forms, where `F` and `G` read what stands in nests.
module _ {N : Type 0} {El : N → Type 0} {shape_of : N → Shape} (depth : ℕ)
    (F G : (n : N) → Reader (El n)) where
  pub record Same {s : Shape} {A : Type 0} (P : A → A → Type 0) (p q : Form El shape_of s A)
      : Type 0 where
    pub answers : Alike P (reading El shape_of depth F p) (reading El shape_of depth G q)

module _ {N : Type 0} {El : N → Type 0} {shape_of : N → Shape} {depth : ℕ}
    {F G : (n : N) → Reader (El n)} where
  pub same_done : {A : Type 0} {P : A → A → Type 0} {a b : A} → P a b
      → Same {shape_of = shape_of} depth F G P (forms.done a) (forms.done b)
  same_done h = record { answers = λ ts. (h, refl) }

  pub same_token : {A : Type 0} (t : Terminal A)
      → Same {shape_of = shape_of} depth F G Any (forms.terminal t) (forms.terminal t)
  same_token t = record { answers = alike_next Any t t refl (λ _. tt) }

  -- a word that is none of some texts, with other values of which something holds
  pub same_word_that : {A : Type 0} (P : A → A → Type 0) (texts : List (List ℕ))
      (v w : Spelled → A) → ((token : Spelled) → P (v token) (w token))
      → Same {shape_of = shape_of} depth F G P (forms.word_but texts v) (forms.word_but texts w)
  same_word_that P texts v w values = record {
    answers = alike_checked P (is_none_of texts) (is_none_of texts) (next (a_word v))
        (next (a_word w)) (λ _. refl) (alike_next P (a_word v) (a_word w) refl values);
  }

  -- the same word, with other values
  pub same_word_but : {A : Type 0} (texts : List (List ℕ)) (v w : Spelled → A)
      → Same {shape_of = shape_of} depth F G Any (forms.word_but texts v) (forms.word_but texts w)
  same_word_but texts v w = same_word_that Any texts v w (λ _. tt)

  pub same_then : {A B : Type 0} {s t : Shape} {P : A → A → Type 0} {Q : B → B → Type 0}
      {p q : Form El shape_of s A} {f g : A → Form El shape_of t B}
      → Same {shape_of = shape_of} depth F G P p q
      → ((a b : A) → P a b → Same {shape_of = shape_of} depth F G Q (f a) (g b))
      → Same {shape_of = shape_of} depth F G Q (forms.followed p f) (forms.followed q g)
  same_then {P = P} {Q = Q} {p = p} {q = q} {f = f} {g = g} h k = record {
    answers = alike_then P Q (reading El shape_of depth F p) (reading El shape_of depth G q)
        (λ a. reading El shape_of depth F (f a)) (λ a. reading El shape_of depth G (g a)) h.answers
        (λ a b is. (k a b is).answers);
  }

  pub same_either : {A : Type 0} {s t : Shape} {P : A → A → Type 0} {p q : Form El shape_of s A}
      {u v : Form El shape_of t A} → Same {shape_of = shape_of} depth F G P p q
      → Same {shape_of = shape_of} depth F G P u v
      → Same {shape_of = shape_of} depth F G P (forms.either p u) (forms.either q v)
  same_either {s = s} {P = P} {p = p} {q = q} {u = u} {v = v} h k = record {
    answers = λ ts. alike_cond P (starts s.first (head ts)) (starts s.first (head ts))
        (reading El shape_of depth F p ts) (reading El shape_of depth F u ts)
        (reading El shape_of depth G q ts) (reading El shape_of depth G v ts) refl
        (h.answers ts) (k.answers ts);
  }

  -- the same token, with other values of which something holds
  pub same_token_that : {A : Type 0} (P : A → A → Type 0) (set : Set) (text : List ℕ)
      (fixity : Fixity) (v w : Spelled → A) → ((token : Spelled) → P (v token) (w token))
      → Same {shape_of = shape_of} depth F G P
      (forms.terminal (record { set = set; value = v; text = text; fixity = fixity }))
      (forms.terminal (record { set = set; value = w; text = text; fixity = fixity }))
  same_token_that P set text fixity v w values = record {
    answers = alike_next P (record { set = set; value = v; text = text; fixity = fixity })
        (record { set = set; value = w; text = text; fixity = fixity }) refl values;
  }

  -- the same token, with other values
  pub same_token_of : {A : Type 0} (set : Set) (text : List ℕ) (fixity : Fixity)
      (v w : Spelled → A) → Same {shape_of = shape_of} depth F G Any
      (forms.terminal (record { set = set; value = v; text = text; fixity = fixity }))
      (forms.terminal (record { set = set; value = w; text = text; fixity = fixity }))
  same_token_of set text fixity v w = same_token_that Any set text fixity v w (λ _. tt)

  pub same_when : {A : Type 0} {s t : Shape} {P : A → A → Type 0} {b c : Bool}
      {p q : Form El shape_of s A} {u v : Form El shape_of t A} → b ≡ c
      → Same {shape_of = shape_of} depth F G P p q → Same {shape_of = shape_of} depth F G P u v
      → Same {shape_of = shape_of} depth F G P (forms.when b p u) (forms.when c q v)
  same_when {s = s} {P = P} {b = b} {c = c} {p = p} {q = q} {u = u} {v = v} is h k = record {
    answers = λ ts. alike_cond P b c
        (choose s.first (reading El shape_of depth F p) (reading El shape_of depth F u) ts)
        (reading El shape_of depth F u ts)
        (choose s.first (reading El shape_of depth G q) (reading El shape_of depth G v) ts)
        (reading El shape_of depth G v ts) is
        ((same_either h k).answers ts) (k.answers ts);
  }

  pub same_unless : {A : Type 0} {s t : Shape} {P : A → A → Type 0} {b c : Bool}
      {p q : Form El shape_of s A} {u v : Form El shape_of t A} → b ≡ c
      → Same {shape_of = shape_of} depth F G P p q → Same {shape_of = shape_of} depth F G P u v
      → Same {shape_of = shape_of} depth F G P (forms.unless b p u) (forms.unless c q v)
  same_unless {s = s} {P = P} {b = b} {c = c} {p = p} {q = q} {u = u} {v = v} is h k = record {
    answers = λ ts. alike_cond P (starts s.first (head ts)) (starts s.first (head ts))
        (reading El shape_of depth F p ts)
        (only_if b (reading El shape_of depth F u) refused ts)
        (reading El shape_of depth G q ts)
        (only_if c (reading El shape_of depth G v) refused ts) refl (h.answers ts)
        (alike_cond P b c (reading El shape_of depth F u ts) (refused ts)
        (reading El shape_of depth G v ts) (refused ts) is (k.answers ts) refl);
  }

  pub same_turns : {S : Type 0} {s : Shape} (P : S → S → Type 0) {is_open opens : S → Bool}
      {a b : S} {f g : S → Form El shape_of s S} → ((x y : S) → P x y → is_open x ≡ opens y)
      → P a b → ((x y : S) → P x y → Same {shape_of = shape_of} depth F G P (f x) (g y))
      → Same {shape_of = shape_of} depth F G P (forms.turns is_open a f) (forms.turns opens b g)
  same_turns {s = s} P {is_open} {opens} {a} {b} {f} {g} same h k = record {
    answers = λ ts. alike_repeat P s.first is_open opens (λ x. reading El shape_of depth F (f x))
        (λ y. reading El shape_of depth G (g y)) same (λ x y is. (k x y is).answers) (length ts) a b
        h ts;
  }

  -- turns that have to go on from an open state
  pub alike_until : {S : Type 0} {s t : Shape} (P : S → S → Type 0) {is_open : S → Bool} {a b : S}
      {f g : S → Form El shape_of s S} {last end : S → Form El shape_of t S}
      → ((x y : S) → P x y → is_open x ≡ is_open y) → P a b
      → ((x y : S) → P x y → Same {shape_of = shape_of} depth F G P (f x) (g y))
      → ((x y : S) → P x y → Same {shape_of = shape_of} depth F G P (last x) (end y))
      → Alike P (reading El shape_of depth F (forms.until is_open a f last))
      (reading El shape_of depth G (forms.until is_open b g end))
  alike_until {s = s} P {is_open} {a} {b} {f} {g} {last} {end} same h k l =
      alike_then P P (loop s.first is_open (λ x. reading El shape_of depth F (f x)) a)
      (loop s.first is_open (λ y. reading El shape_of depth G (g y)) b)
      (λ x. only_if (is_open x) (reading El shape_of depth F (last x)) (pure x))
      (λ y. only_if (is_open y) (reading El shape_of depth G (end y)) (pure y))
      (λ ts. alike_repeat P s.first is_open is_open (λ x. reading El shape_of depth F (f x))
      (λ y. reading El shape_of depth G (g y)) same (λ x y is. (k x y is).answers) (length ts) a b
      h ts)
      (λ x y is ts. alike_cond P (is_open x) (is_open y) (reading El shape_of depth F (last x) ts)
      (Ok (x, ts)) (reading El shape_of depth G (end y) ts) (Ok (y, ts)) (same x y is)
      ((l x y is).answers ts) (is, refl))

  pub same_more_items : {A : Type 0} {s : Shape} {P : A → A → Type 0} {a b : List A × Bool}
      {p q : Form El shape_of s A} → EndAlike a b → Same {shape_of = shape_of} depth F G P p q
      → Same {shape_of = shape_of} depth F G EndAlike (forms.more_items a p) (forms.more_items b q)
  same_more_items {s = s} {P = P} {a = a} {b = b} {p = p} {q = q} h k = record {
    answers = λ ts. alike_repeat EndAlike s.first (λ _. true) (λ _. true)
        (read_item (reading El shape_of depth F p)) (read_item (reading El shape_of depth G q))
        (λ _ _ _. refl)
        (alike_item P (reading El shape_of depth F p) (reading El shape_of depth G q) k.answers)
        (length ts) a b h ts;
  }

  pub same_some_items : {A : Type 0} {s : Shape} {P : A → A → Type 0}
      {p q : Form El shape_of s A} → Same {shape_of = shape_of} depth F G P p q
      → Same {shape_of = shape_of} depth F G EndAlike (forms.some_items p) (forms.some_items q)
  same_some_items {s = s} {P = P} {p = p} {q = q} k = record {
    answers = alike_then EndAlike EndAlike (read_item (reading El shape_of depth F p) ([], true))
        (read_item (reading El shape_of depth G q) ([], true))
        (read_items s.first (reading El shape_of depth F p))
        (read_items s.first (reading El shape_of depth G q))
        (alike_item P (reading El shape_of depth F p) (reading El shape_of depth G q) k.answers
        ([], true) ([], true) refl)
        (λ a b h. (same_more_items {a = a} {b = b} h k).answers);
  }

  pub same_nest : {A : Type 0} (t : Terminal A) (n : N) (Q : El n → El n → Type 0)
      → Alike Q (F n) (G n)
      → Same {shape_of = shape_of} depth F G (λ a b. Q a.1 b.1) (forms.nest t n) (forms.nest t n)
  same_nest {A} t n Q h = record {
    answers = alike_then Any (λ a b. Q a.1 b.1) (opening depth t) (opening depth t)
        (λ a. then_read (F n) (λ x. pure (a, x))) (λ a. then_read (G n) (λ x. pure (a, x)))
        (alike_opening Any depth t t refl (λ _. tt))
        (λ a b _. alike_then Q (λ c d. Q c.1 d.1) (F n) (G n) (λ x. pure (a, x))
        (λ x. pure (b, x)) h (λ x y is ts. (is, refl)));
  }

  pub same_line_start : {A : Type 0} {s : Shape} {P : A → A → Type 0} {b c : Bool}
      {p q : Form El shape_of s A} → b ≡ c → Same {shape_of = shape_of} depth F G P p q
      → Same {shape_of = shape_of} depth F G P (forms.line_start b p) (forms.line_start c q)
  same_line_start {P = P} {b = b} {c = c} {p = p} {q = q} is h = record {
    answers = alike_checked P (may_start b) (may_start c) (reading El shape_of depth F p)
        (reading El shape_of depth G q) (λ token. ap (λ d. may_start d token) is) h.answers;
  }

  pub same_same_line : {A : Type 0} {s : Shape} {P : A → A → Type 0}
      {p q : Form El shape_of s A} → Same {shape_of = shape_of} depth F G P p q
      → Same {shape_of = shape_of} depth F G P (forms.same_line p) (forms.same_line q)
  same_same_line {P = P} {p = p} {q = q} h = record {
    answers = alike_checked P stays stays (reading El shape_of depth F p)
        (reading El shape_of depth G q) (λ _. refl) h.answers;
  }

  pub same_rule : {A : Type 0} {s : Shape} {P : A → A → Type 0} {claim : Claim}
      {p q : Form El shape_of s A} → Same {shape_of = shape_of} depth F G P p q
      → Same {shape_of = shape_of} depth F G P (forms.shaped claim p) (forms.shaped claim q)
  same_rule h = record { answers = h.answers }

  -- less is asked of the values
  pub same_weaker : {A : Type 0} {s : Shape} {P Q : A → A → Type 0} {p q : Form El shape_of s A}
      → ((a b : A) → P a b → Q a b) → Same {shape_of = shape_of} depth F G P p q
      → Same {shape_of = shape_of} depth F G Q p q
  same_weaker {P = P} {Q = Q} {p = p} {q = q} weaker h = record {
    answers = λ ts. by_answers (reading El shape_of depth F p ts) (reading El shape_of depth G q ts)
        (h.answers ts);
  }
    where
      by_answers : (r t : Answer _) → SameAnswer P r t → SameAnswer Q r t
      by_answers (Ok x) (Ok y) is = (weaker x.0 y.0 is.0, is.1)
      by_answers (Ok x) (Err fault) is = is
      by_answers (Err fault) (Ok y) is = is
      by_answers (Err fault) (Err other) is = is

-- Two grammars: where what stands in the nests that are reached is alike, each nest is read alike.
module _ {N : Type 0} (El : N → Type 0) (shape_of : N → Shape)
    (one other : (n : N) → Form El shape_of (shape_of n) (El n))
    (Reached : N → Type 0) (Like : (n : N) → El n → El n → Type 0)
    (bodies : (depth : ℕ) (F G : (n : N) → Reader (El n))
    → ((n : N) → Reached n → Alike (Like n) (F n) (G n))
    → (n : N) → Reached n → Same depth F G (Like n) (one n) (other n)) where
  pub alike_inside : (depth : ℕ) (n : N) → Reached n
      → Alike (Like n) (read_inside El shape_of one depth n) (read_inside El shape_of other depth n)
  alike_inside zero n reached = λ ts. refl
  alike_inside (suc depth) n reached =
      (bodies depth (read_inside El shape_of one depth) (read_inside El shape_of other depth)
      (alike_inside depth) n reached).answers

-- fronts of forms that are read alike
pub alike_front : {A : Type 0} (P : A → A → Type 0) (set : Set) (p q : Reader A) → Alike P p q
    → Alike P (front set p) (front set q)
alike_front P set p q h =
    alike_then P P p q (λ a. then_read (check (ends_before set)) (λ _. pure a))
    (λ b. then_read (check (ends_before set)) (λ _. pure b)) h
    (λ a b is. alike_then Any P (check (ends_before set)) (check (ends_before set)) (λ _. pure a)
    (λ _. pure b) (alike_check (ends_before set) (ends_before set) (λ _. refl))
    (λ _ _ _ ts. (is, refl)))
