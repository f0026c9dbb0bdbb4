-- The law of every grammar: the reader of a form reads what the form spells.
use Rattle.sw_grammar_forms.proofs.ItemLaws.{reads_items, reads_some_items, items_stop, items_go_on}
use Rattle.sw_grammar_forms.proofs.ItemLaws.{item_takes}
use Rattle.std.proofs.Common.{◌≡◌, ℕ, zero, suc, ◌≤◌, ◌<◌, max, Bool, true, false, cond, ◌&&◌}
use Rattle.std.proofs.Common.{◌⊎◌, inl, inr, List, [], ◌∷◌, ◌++◌, length, refl, sym, ◌∙◌, ap, subst}
use Rattle.std.proofs.Common.{arith, not}
use Rattle.std.specs.Prelude.{Ok, Err}
use Rattle.std.proofs.lemmas.List.{append-nil}
use Rattle.std.proofs.Math.Nat.{le-max_left, le-max_right}
use Rattle.sw_token.specs.Spelling.{Spelled}
use Rattle.sw_grammar_forms.specs.Sets.{has, starts}
use Rattle.sw_grammar_forms.specs.Form.{Shape, Terminal, Form, one, choice, is_shorter, star, started}
use Rattle.sw_grammar_forms.specs.Form.{is_item, a_word}
use Rattle.sw_grammar_forms.specs.Form as forms
use Rattle.sw_grammar_forms.specs.Relations.{Relation, head, NoToken, One, FollowedBy, Either, Turns}
use Rattle.sw_grammar_forms.specs.Relations.{may_start, is_none_of}
use Rattle.sw_grammar_forms.specs.Relations.{stays, Only, OneMore, Passing, Chosen}
use Rattle.sw_grammar_forms.specs.Relations.Turns.{stop, turn}
use Rattle.sw_grammar_forms.specs.Reader.{Fault, Answer, Reader, refused, pure, and_then, then_read, next}
use Rattle.sw_grammar_forms.specs.Reader.{opening, choose, set_if, read_item, only_if}
use Rattle.sw_grammar_forms.specs.Reader.Fault.{too_deep}
use Rattle.sw_grammar_forms.specs.Spells.{inside, spells, Wide, read_inside, reads}
use Rattle.sw_grammar_forms.proofs.ReaderLaws.{Follow, Anything, Outside, Without, Filled, Failed, Reads}
use Rattle.sw_grammar_forms.proofs.ReaderLaws.{refused_at_once, narrow, widen, reads_pure, reads_next}
use Rattle.sw_grammar_forms.proofs.ReaderLaws.{reads_then, reads_choose, reads_only, reads_never}
use Rattle.sw_grammar_forms.proofs.ReaderLaws.{reads_checked, restate}
use Rattle.sw_grammar_forms.proofs.LoopLaws.{IsTurn, Open, reads_loop, loop_ends, loop_turns, turn_shrinks}
use Rattle.sw_grammar_forms.proofs.LoopLaws.{no_token}
use Rattle.sw_grammar_forms.proofs.SetLemmas.{and_left, and_right, not_true}
use Rattle.sw_grammar_forms.proofs.SetLemmas.{and_both}
use Rattle.sw_grammar_forms.proofs.FormLemmas.{StartsWith, covers, good_choice, starts_form, spelled_more}
use Rattle.sw_grammar_forms.proofs.FormLemmas.{GoodItem, good_item, OneMore-map, Turns-map, Chosen-map}
use Rattle.sw_grammar_forms.proofs.FormLemmas.{GoodEnding, good_ending}
use Rattle.sw_grammar_forms.proofs.ShortSpellings.{fill_form}
use Rattle.sw_grammar_forms.proofs.FollowLemmas.{both_not}
use Rattle.sw_grammar_forms.proofs.FollowLemmas.{outside_parts, outside_within, seq_ext, choice_ext}
use Rattle.sw_grammar_forms.proofs.FollowLemmas.{AfterTurns, outside_both}
use Rattle.sw_grammar_forms.proofs.FollowLemmas.{some_first, some_head, some_length, fits_then}
use Rattle.sw_grammar_forms.proofs.FollowLemmas.{not_first_of}

started_ok : (s : Shape) → GoodItem s → (started s).ok ≡ true
started_ok s is =
    and_both (s.ok && not s.nullable) (s.begins_line && not s.bare)
    (and_both s.ok (not s.nullable) is.ok (ap (λ b. not b) is.some))
    (and_both s.begins_line (not s.bare) is.begins_line (ap (λ b. not b) is.solid))

module _ {N : Type 0} (El : N → Type 0) (shape_of : N → Shape)
    (body : (n : N) → Form El shape_of (shape_of n) (El n))
    (good : (n : N) → (shape_of n).ok ≡ true) where
  abbrev Inside : (n : N) → Relation (El n)
  Inside n x ts = (depth : ℕ) × inside El shape_of body depth n x ts

  -- With more nests, more is spelled.
  inside_deeper : (d e : ℕ) → d ≤ e → (n : N) (x : El n) (ts : List Spelled)
      → inside El shape_of body d n x ts → inside El shape_of body e n x ts
  inside_deeper zero e less n x ts h = absurd h
  inside_deeper (suc d) zero less n x ts h = absurd (omega arith)
  inside_deeper (suc d) (suc e) less n x ts h =
      spelled_more El shape_of (inside El shape_of body d) (inside El shape_of body e)
      (inside_deeper d e (omega arith)) (body n) x ts h

  pub deeper : (d e : ℕ) → d ≤ e → {s : Shape} {A : Type 0} (form : Form El shape_of s A) (a : A)
      (ts : List Spelled)
      → spells El shape_of body d form a ts → spells El shape_of body e form a ts
  deeper d e less form a ts h =
      spelled_more El shape_of (inside El shape_of body d) (inside El shape_of body e)
      (inside_deeper d e less) form a ts h

  fill_inside : (d : ℕ) (n : N) → suc (shape_of n).height ≤ d → (from : ℕ)
      → Filled (inside El shape_of body d n) [] from
  fill_inside zero n low from = absurd (omega arith)
  fill_inside (suc d) n low from = fill_form El shape_of d (inside El shape_of body d)
      (fill_inside d) (body n) (good n) (omega arith) from

  fill_nest : (n : N) (from : ℕ) → Filled (Inside n) [] from
  fill_nest n from = let one = fill_inside (suc (shape_of n).height) n (omega arith) from in
      record {
        value = one.value;
        filler = one.filler;
        spelled = (suc (shape_of n).height, one.spelled);
        fills = one.fills;
      }

  pub fill_wide : {s : Shape} {A : Type 0} (form : Form El shape_of s A) → s.ok ≡ true → (from : ℕ)
      → Filled (Wide El shape_of body form) [] from
  fill_wide {s} form ok from =
      let one = fill_form El shape_of s.height (inside El shape_of body s.height)
      (fill_inside s.height) form ok (omega arith) from in
      record {
        value = one.value;
        filler = one.filler;
        spelled = (s.height, one.spelled);
        fills = one.fills;
      }

  join_followed : {A B : Type 0} {s t : Shape} (p : Form El shape_of s A)
      (f : A → Form El shape_of t B) (a : A) (b : B) (us vs : List Spelled)
      → Wide El shape_of body p a us → Wide El shape_of body (f a) b vs
      → Wide El shape_of body (forms.followed p f) b (us ++ vs)
  join_followed p f a b us vs h k = (
    max h.0 k.0,
    record {
      value = a;
      left = us;
      right = vs;
      first = deeper h.0 (max h.0 k.0) (le-max_left h.0 k.0) p a us h.1;
      second = deeper k.0 (max h.0 k.0) (le-max_right h.0 k.0) (f a) b vs k.1;
      whole = refl;
    },
  )

  pub join_turns : {S : Type 0} {s : Shape} (is_open : S → Bool) (f : S → Form El shape_of s S)
      (a b : S)
      (us : List Spelled) → Turns (Open is_open (λ now. Wide El shape_of body (f now))) a b us
      → (d : ℕ) × Turns (Open is_open (λ now. spells El shape_of body d (f now))) a b us
  join_turns is_open f a b us (stop _) = (0, stop a)
  join_turns {S} is_open f a b us (turn _ mid _ vs ws h rest) =
      let k = join_turns is_open f mid b ws rest in (
        max h.1.0 k.0,
        turn a mid b vs ws
            (h.0, deeper h.1.0 (max h.1.0 k.0) (le-max_left h.1.0 k.0) (f a) mid vs h.1.1)
            (grow k.0 (max h.1.0 k.0) (le-max_right h.1.0 k.0) mid b ws k.1),
      )
    where
      grow : (d e : ℕ) → d ≤ e → (a b : S) (us : List Spelled)
          → Turns (Open is_open (λ now. spells El shape_of body d (f now))) a b us
          → Turns (Open is_open (λ now. spells El shape_of body e (f now))) a b us
      grow d e less a b us (stop _) = stop a
      grow d e less a b us (turn _ mid _ vs ws h rest) =
          turn a mid b vs ws (h.0, deeper d e less (f a) mid vs h.1) (grow d e less mid b ws rest)

  -- Turns and the last form of some depth are of one depth.
  join_until : {S : Type 0} {s t : Shape} (is_open : S → Bool) (state : S)
      (f : S → Form El shape_of s S) (last : S → Form El shape_of t S) (a b : S)
      (us vs : List Spelled)
      → Turns (Open is_open (λ now. Wide El shape_of body (f now))) state a us
      → Chosen (is_open a) (Wide El shape_of body (last a)) (NoToken a) b vs
      → Wide El shape_of body (forms.until is_open state f last) b (us ++ vs)
  join_until is_open state f last a b us vs h k =
      let turns = join_turns is_open f state a us h in
      let end = of_depth (is_open a) k in
      let most = max turns.0 end.0 in (
        most,
        record {
          value = a;
          left = us;
          right = vs;
          first = Turns-map (λ now next ws one. (
            one.0,
            deeper turns.0 most
                (le-max_left turns.0 end.0) (f now) next ws one.1,
          )) state a us turns.1;
          second = Chosen-map (NoToken a) (is_open a) (deeper end.0 most (le-max_right turns.0 end.0) (last a))
              b vs end.1;
          whole = refl;
        },
      )
    where
      of_depth : (c : Bool) → Chosen c (Wide El shape_of body (last a)) (NoToken a) b vs
          → (d : ℕ) × Chosen c (spells El shape_of body d (last a)) (NoToken a) b vs
      of_depth true k = k
      of_depth false k = (0, k)

  -- Items of some depth are items of one depth.

  pub deeper_more : {A : Type 0} {s : Shape} (p : Form El shape_of s A) (d e : ℕ) → d ≤ e
      → (a b : List A × Bool) (us : List Spelled) → OneMore (spells El shape_of body d p) a b us
      → OneMore (spells El shape_of body e p) a b us
  deeper_more p d e less a b us h = OneMore-map (deeper d e less p) a b us h

  pub join_more : {A : Type 0} {s : Shape} (p : Form El shape_of s A) (a b : List A × Bool)
      (us : List Spelled) → OneMore (Wide El shape_of body p) a b us
      → (d : ℕ) × OneMore (spells El shape_of body d p) a b us
  join_more p a b us h = (
    h.first.0.0,
    record {
      value = h.value;
      left = h.left;
      right = h.right;
      first = (h.first.0.1, h.first.1);
      second = h.second;
      whole = h.whole;
    },
  )

  join_items : {A : Type 0} {s : Shape} (p : Form El shape_of s A) (a b : List A × Bool)
      (us : List Spelled) → Turns (OneMore (Wide El shape_of body p)) a b us
      → (d : ℕ) × Turns (OneMore (spells El shape_of body d p)) a b us
  join_items p a b us (stop _) = (0, stop a)
  join_items {A} p a b us (turn _ mid _ vs ws h rest) =
      let one = join_more p a mid vs h in
      let more = join_items p mid b ws rest in (
        max one.0 more.0,
        turn a mid b vs ws (deeper_more p one.0 (max one.0 more.0)
            (le-max_left one.0 more.0) a mid vs one.1)
            (Turns-map (deeper_more p more.0 (max one.0 more.0) (le-max_right one.0 more.0)) mid b
            ws more.1),
      )

  join_some : {A : Type 0} {s : Shape} (p : Form El shape_of s A) (b : List A × Bool)
      (us : List Spelled)
      → FollowedBy (OneMore (Wide El shape_of body p) ([], true))
      (Turns (OneMore (Wide El shape_of body p))) b us
      → Wide El shape_of body (forms.some_items p) b us
  join_some p b us h =
      let one = join_more p ([], true) h.value h.left h.first in
      let more = join_items p h.value b h.right h.second in (
        max one.0 more.0,
        record {
          value = h.value;
          left = h.left;
          right = h.right;
          first = deeper_more p one.0 (max one.0 more.0) (le-max_left one.0 more.0)
              ([], true) h.value h.left one.1;
          second = Turns-map (deeper_more p more.0 (max one.0 more.0) (le-max_right one.0 more.0))
              h.value b h.right more.1;
          whole = h.whole;
        },
      )

  -- an item that begins a line, where that is asked for
  pub fill_led : {A : Type 0} {s : Shape} (p : Form El shape_of s A) → GoodItem s
      → (asked : Bool) (from : ℕ)
      → Filled (Passing (may_start asked) (Wide El shape_of body p)) [] from
  fill_led {A} {s} p is asked from =
      let one = fill_wide (forms.line_start asked p) (started_ok s is) from in
      record {
        value = one.value;
        filler = one.filler;
        spelled = ((one.spelled.0, one.spelled.1.0), one.spelled.1.1);
        fills = one.fills;
      }

  -- A nest, where no more may be opened

  abbrev Nest : {A : Type 0} → ℕ → Terminal A → (n : N) → Relation (A × El n)
  Nest d t n = spells El shape_of body d (forms.nest t n)

  abbrev WideNest : {A : Type 0} → Terminal A → (n : N) → Relation (A × El n)
  WideNest t n = Wide El shape_of body (forms.nest t n)

  fill_opened : {A : Type 0} (t : Terminal A) (n : N) (token : Spelled) → has t.set token ≡ true
      → (from : ℕ) → Filled (WideNest t n) (token ∷ []) from
  fill_opened t n token is from = let one = fill_nest n from in record {
    value = (t.value token, one.value);
    filler = one.filler;
    spelled = (
      one.spelled.0,
      record {
        value = t.value token;
        left = token ∷ [];
        right = one.filler;
        first = record { token = token; member = is; value = refl; alone = refl };
        second = record {
          value = one.value;
          left = one.filler;
          right = [];
          first = one.spelled.1;
          second = (refl, refl);
          whole = sym (append-nil one.filler);
        };
        whole = refl;
      },
    );
    fills = one.fills;
  }

  opening_refuses : {A B : Type 0} (t : Terminal A) (f : A → Reader B) (ts : List Spelled)
      → ((starts t.set (head ts) ≡ true)
      × (then_read (opening 0 t) f ts ≡ Err (too_deep (length ts))))
      ⊎ ((starts t.set (head ts) ≡ false) × (then_read (opening 0 t) f ts ≡ refused ts))
  opening_refuses {A} {B} t f ts = by_test (starts t.set (head ts)) refl
    where
      by_test : (b : Bool) → starts t.set (head ts) ≡ b
          → ((starts t.set (head ts) ≡ true)
          × (then_read (opening 0 t) f ts ≡ Err (too_deep (length ts))))
          ⊎ ((starts t.set (head ts) ≡ false) × (then_read (opening 0 t) f ts ≡ refused ts))
      by_test true is = inl (
        is,
        ap (λ b. and_then (cond b (Err (too_deep (length ts))) (refused {A = A} ts))
            (λ x. f x.0 x.1)) is,
      )
      by_test false is = inr (
        is,
        ap (λ b. and_then (cond b (Err (too_deep (length ts))) (refused {A = A} ts))
            (λ x. f x.0 x.1)) is,
      )

  no_nest_fails : {A : Type 0} (t : Terminal A) (n : N) (f : A → Reader (A × El n))
      → (one t).ok ≡ true → (shape_of n).ok ≡ true
      → (F : Follow (A × El n)) (ts : List Spelled) (fault : Fault)
      → then_read (opening 0 t) f ts ≡ Err fault → Failed (Nest 0 t n) (WideNest t n) F ts fault
  no_nest_fails {A} t n f ok ok' F ts fault e = elim (opening_refuses t f ts) [
    | inl is ↦ (let same : too_deep (length ts) ≡ fault = ap
        (λ r. elim r [ Ok x ↦ too_deep (length ts) | Err other ↦ other ]) (sym is.1 ∙ e) in
        subst (λ k. Failed (Nest 0 t n) (WideNest t n) F ts k) same (too_deep_here ts is.0))
    | inr is ↦ refused_at_once (Nest 0 t n) (WideNest t n) F ts fault (sym is.1 ∙ e)
        (λ a prefix rest more s g same heads. absurd s.second.first)
        (fill_wide (forms.nest t n) (ok_both (one t).ok (shape_of n).ok ok ok'))
  ]
    where
      ok_both : (a b : Bool) → a ≡ true → b ≡ true → (a && b) ≡ true
      ok_both a b h k = rw (h, k) refl

      too_deep_here : (ts : List Spelled) → starts t.set (head ts) ≡ true
          → Failed (Nest 0 t n) (WideNest t n) F ts (too_deep (length ts))
      too_deep_here [] h = absurd (cc)
      too_deep_here (token ∷ others) h = record {
        before = [];
        bad = token ∷ others;
        split = refl;
        count = refl;
        opens = λ _. omega arith;
        none = λ a prefix rest more s g same heads. absurd s.second.first;
        begun = fill_opened t n token h;
      }

  no_nest_answers : {A : Type 0} (t : Terminal A) (n : N) (f : A → Reader (A × El n))
      (ts : List Spelled) (x : (A × El n) × List Spelled) → then_read (opening 0 t) f ts ≡ Ok x → ⊥
  no_nest_answers {A} t n f ts x e = elim (opening_refuses t f ts) [
    | inl is ↦ (let clash : ◌≡◌ {A = Answer (A × El n)} (Err (too_deep (length ts)))
        (Ok x) = sym is.1 ∙ e in cc)
    | inr is ↦ (let clash : ◌≡◌ {A = Answer (A × El n)} (refused ts) (Ok x) = sym is.1 ∙ e in cc)
  ]

  reads_no_nest : {A : Type 0} (t : Terminal A) (n : N) (f : A → Reader (A × El n))
      → (one t).ok ≡ true → (shape_of n).ok ≡ true → (F : Follow (A × El n))
      → Reads (Nest 0 t n) (WideNest t n) F (then_read (opening 0 t) f)
  reads_no_nest t n f ok ok' F = record {
    wide = λ a ts s. absurd s.second.first;
    sound = λ ts a rest e. absurd (no_nest_answers t n f ts (a, rest) e);
    complete = λ a prefix rest s g. absurd s.second.first;
    fails = no_nest_fails t n f ok ok' F;
    fill = fill_wide (forms.nest t n) (and_both' (one t).ok (shape_of n).ok ok ok');
  }
    where
      and_both' : (a b : Bool) → a ≡ true → b ≡ true → (a && b) ≡ true
      and_both' a b h k = rw (h, k) refl

  -- A nest, where some may be opened

  abbrev wide_inside : {A : Type 0} (n : N) (a : A) (x : A × El n) (ts : List Spelled) → Type 0
  wide_inside n a x ts =
      (d : ℕ) × FollowedBy (inside El shape_of body d n) (λ y. NoToken (a, y)) x ts

  fill_one : {A : Type 0} (t : Terminal A) → (one t).ok ≡ true → (from : ℕ) → Filled (One t) [] from
  fill_one t ok from = let one = fill_wide (forms.terminal t) ok from in
      record { value = one.value; filler = one.filler; spelled = one.spelled.1; fills = one.fills }

  reads_nest : {A : Type 0} (d : ℕ) (t : Terminal A) (n : N) → (one t).ok ≡ true
      → Reads (inside El shape_of body (suc d) n) (Inside n) (Without (shape_of n).ext)
      (read_inside El shape_of body (suc d) n)
      → Reads (Nest (suc d) t n) (WideNest t n) (Without (shape_of n).ext)
      (reads El shape_of body (suc d) (forms.nest t n))
  reads_nest {A} d t n ok inner =
      reads_then (WideNest t n) {F = Anything} (reads_next t (fill_one t ok))
      (λ a. reads_then (wide_inside n a) inner (λ x. narrow (reads_pure (a, x)) (λ x token g. tt))
      (λ x y us vs h k. (
        h.0,
        record {
          value = x;
          left = us;
          right = vs;
          first = h.1;
          second = k;
          whole = refl;
        },
      ))
      (λ x y right rest h g. subst (λ us. Outside (shape_of n).ext (head (us ++ rest)))
      (sym h.1) g))
      (λ a y us vs h k. (
        k.0,
        record {
          value = a;
          left = us;
          right = vs;
          first = h;
          second = k.1;
          whole = refl;
        },
      ))
      (λ a y right rest h g. tt)

  -- The law

  module _ (d : ℕ) (inner : (n : N) → Reads (inside El shape_of body d n) (Inside n)
      (Without (shape_of n).ext) (read_inside El shape_of body d n)) where
    abbrev pub starts_at : {s : Shape} {A : Type 0} (form : Form El shape_of s A) → s.ok ≡ true
        → (a : A) (ts : List Spelled) → spells El shape_of body d form a ts → StartsWith s ts
    starts_at form ok a ts h = starts_form El shape_of (inside El shape_of body d) form ok a ts h

    reads_either : {s t : Shape} {A : Type 0} (short : Shape) (U : Relation A)
        (p : Form El shape_of s A) (q : Form El shape_of t A) → (choice s t short).ok ≡ true
        → Reads (spells El shape_of body d p) (Wide El shape_of body p) (Without s.ext)
        (reads El shape_of body d p)
        → Reads (spells El shape_of body d q) (Wide El shape_of body q) (Without t.ext)
        (reads El shape_of body d q)
        → ((a : A) (ts : List Spelled) → Wide El shape_of body p a ts → U a ts)
        → ((a : A) (ts : List Spelled) → Wide El shape_of body q a ts → U a ts)
        → Reads (Either (spells El shape_of body d p) (spells El shape_of body d q)) U
        (Without (choice s t short).ext)
        (choose s.first (reads El shape_of body d p) (reads El shape_of body d q))
    reads_either {s} {t} short U p q ok law_p law_q to_left to_right =
        let is = good_choice s t short ok in
        reads_choose U s.first
        (narrow law_p (λ x token g. (choice_ext s t short token g).left))
        (narrow law_q (λ x token g. (choice_ext s t short token g).right))
        (λ a prefix rest h g. some_first s prefix rest is.some (starts_at p is.left a prefix h))
        (λ a prefix rest h g. not_first_of s.first t prefix rest is.apart
        (starts_at q is.right a prefix h) ((choice_ext s t short (head rest) g).not_left))
        to_left to_right

    second_there : {A : Type 0} (P Q : Relation A) (a : A) (ts : List Spelled) → Either P Q a ts
        → Either P (Only true Q) a ts
    second_there P Q a ts (inl h) = inl h
    second_there P Q a ts (inr h) = inr (refl, h)

    second_back : {A : Type 0} (P Q : Relation A) (a : A) (ts : List Spelled)
        → Either P (Only true Q) a ts → Either P Q a ts
    second_back P Q a ts (inl h) = inl h
    second_back P Q a ts (inr h) = inr h.1

    reads_second : {s t : Shape} {A : Type 0} (is_so : Bool) (p : Form El shape_of s A)
        (q : Form El shape_of t A) → (choice s t s).ok ≡ true
        → Reads (spells El shape_of body d p) (Wide El shape_of body p) (Without s.ext)
        (reads El shape_of body d p)
        → Reads (spells El shape_of body d q) (Wide El shape_of body q) (Without t.ext)
        (reads El shape_of body d q)
        → Reads (spells El shape_of body d (forms.unless is_so p q))
        (Wide El shape_of body (forms.unless is_so p q)) (Without (choice s t s).ext)
        (reads El shape_of body d (forms.unless is_so p q))
    reads_second {s} {t} true p q ok law_p law_q =
        restate (reads_either s (Wide El shape_of body (forms.unless true p q)) p q ok law_p law_q
        (λ a ts h. (h.0, inl h.1)) (λ a ts h. (h.0, inr (refl, h.1))))
        (second_there (spells El shape_of body d p) (spells El shape_of body d q))
        (second_back (spells El shape_of body d p) (spells El shape_of body d q))
    reads_second {s} {t} false p q ok law_p law_q =
        let is = good_choice s t s ok in
        reads_choose (Wide El shape_of body (forms.unless false p q)) s.first
        (narrow law_p (λ x token g. (choice_ext s t s token g).left))
        (reads_never (Only false (spells El shape_of body d q)) (Wide El shape_of body p)
        (Without (choice s t s).ext)
        (λ a ts h. let clash : false ≡ true = h.0 in cc) (fill_wide p is.left))
        (λ a prefix rest h g. some_first s prefix rest is.some (starts_at p is.left a prefix h))
        (λ a prefix rest h g. absurd (let clash : false ≡ true = h.0 in cc))
        (λ a ts h. (h.0, inl h.1)) (λ a ts h. (h.0, inl h.1))

    pub is_turn : {s : Shape} {S : Type 0} (is_open : S → Bool) (f : S → Form El shape_of s S)
        → (star s).ok ≡ true → IsTurn is_open (λ now. spells El shape_of body d (f now)) (Without s.ext)
        (Without (star s).ext) s.first
    is_turn {s} is_open f ok =
        let two = and_left _ _ ok in let some = not_true _ (and_right _ _ two) in let good_s =
        and_left _ _ two in
        record {
          takes = λ a b ts h. some_length s ts some (starts_at (f a) good_s b ts h);
          goes_on = λ a b ts rest h. some_first s ts rest some (starts_at (f a) good_s b ts h);
          ends = λ a token _ g. (outside_parts s.ext s.first token g).1;
          stopped = λ a token g. (outside_parts s.ext s.first token g).0;
          followed = λ a b ts rest h. fits_then s s ts rest (and_right _ _ ok)
              (starts_at (f a) good_s b ts h) (λ k. absurd (both_not s.nullable k some));
        }

    -- the same, where only an open state goes on
    pub is_part : {s t : Shape} {S : Type 0} (is_open : S → Bool) (f : S → Form El shape_of s S)
        (state : S) → GoodEnding (is_open state) s t
        → IsTurn is_open (λ now. spells El shape_of body d (f now)) (Without s.ext)
        (AfterTurns s is_open) s.first
    is_part {s} is_open f state is = record {
      takes = λ a b ts h. some_length s ts is.some (starts_at (f a) is.turn b ts h);
      goes_on = λ a b ts rest h. some_first s ts rest is.some (starts_at (f a) is.turn b ts h);
      ends = λ a token opened g.
          subst (λ b. Outside (set_if b s.first) token) opened
          (outside_parts s.ext (set_if (is_open a) s.first) token g).1;
      stopped = λ a token g. (outside_parts s.ext (set_if (is_open a) s.first) token g).0;
      followed = λ a b ts rest h. fits_then s s ts rest is.going
          (starts_at (f a) is.turn b ts h) (λ k. absurd (both_not s.nullable k is.some));
    }

    law_form : {s : Shape} {A : Type 0} (form : Form El shape_of s A) → s.ok ≡ true
        → Reads (spells El shape_of body d form) (Wide El shape_of body form) (Without s.ext)
        (reads El shape_of body d form)
    law_form (forms.done value) ok = narrow (widen (reads_pure value) (λ a ts h. (0, h)))
        (λ x token h. tt)
    law_form (forms.terminal t) ok =
        narrow (widen (reads_next t (fill_one t ok)) (λ a ts h. (0, h))) (λ x token h. tt)
    law_form (forms.word_but texts value) ok =
        narrow (reads_checked (Wide El shape_of body (forms.word_but texts value))
        (is_none_of texts)
        (reads_next (a_word value) (fill_one (a_word value) refl))
        (λ a prefix rest h. subst (λ us. head (us ++ rest) ≡ head us) (sym h.alone) refl)
        (λ a ts h is. (0, (h, is))) (fill_wide (forms.word_but texts value) ok))
        (λ x token h. tt)
    law_form (forms.followed {s = s} {t = t} p f) ok =
        let three = and_left _ _ ok in let two = and_left _ _ three in
        reads_then (Wide El shape_of body (forms.followed p f)) (law_form p (and_left _ _ two))
        (λ a. narrow (law_form (f a) (and_right _ _ two))
        (λ x token g. (seq_ext t.nullable s.ext t.ext token g).0))
        (join_followed p f)
        (λ a b right rest h g. fits_then s t right rest (and_right _ _ three)
        (starts_at (f a) (and_right _ _ two) b right h)
        ((seq_ext t.nullable s.ext t.ext (head rest) g).1))
    law_form (forms.either {s = s} {t = t} p q) ok =
        let is = good_choice s t (cond (is_shorter s t) s t) ok in
        reads_either (cond (is_shorter s t) s t) (Wide El shape_of body (forms.either p q)) p q ok
        (law_form p is.left) (law_form q is.right)
        (λ a ts h. (h.0, inl h.1)) (λ a ts h. (h.0, inr h.1))
    law_form (forms.turns {s = s} is_open state f) ok =
        let good_s = and_left _ _ (and_left _ _ ok) in
        widen (reads_loop s.first is_open (λ now. law_form (f now) good_s) (is_turn is_open f ok)
        state)
        (λ a ts h. join_turns is_open f state a ts h)
    law_form (forms.until {S = S} {s = s} {t = t} is_open state f last) ok =
        let is = good_ending (is_open state) s t ok in
        reads_then (Wide El shape_of body (forms.until is_open state f last))
        (reads_loop s.first is_open (λ now. law_form (f now) is.turn)
        (is_part {t = t} is_open f state is) state)
        (λ now. reads_last is (is_open now) now (last now) (law_form (last now) is.last))
        (λ a b us vs h k. join_until is_open state f last a b us vs h k)
        (λ a b right rest h g. fits_end is (is_open a) a (last a) b right rest h g)
      where
        reads_last : GoodEnding (is_open state) s t → (b : Bool) (now : S)
            (p : Form El shape_of t S)
            → Reads (spells El shape_of body d p) (Wide El shape_of body p) (Without t.ext)
            (reads El shape_of body d p)
            → Reads (Chosen b (spells El shape_of body d p) (NoToken now))
            (Chosen b (Wide El shape_of body p) (NoToken now)) (Without (s.ext ++ t.ext))
            (only_if b (reads El shape_of body d p) (pure now))
        reads_last is true now p law_p =
            narrow law_p (λ x token g. (outside_parts s.ext t.ext token g).1)
        reads_last is false now p law_p = narrow (reads_pure now) (λ x token g. tt)

        fits_end : GoodEnding (is_open state) s t → (b : Bool) (now : S)
            (p : Form El shape_of t S) (x : S) (right rest : List Spelled)
            → Chosen b (spells El shape_of body d p) (NoToken now) x right
            → Outside (s.ext ++ t.ext) (head rest)
            → Outside (s.ext ++ set_if b s.first) (head (right ++ rest))
        fits_end is true now p x right rest h g =
            let starts = starts_at p is.last x right h in
            outside_both s.ext s.first (head (right ++ rest))
            (fits_then s t right rest is.ending starts
            (λ k. absurd (both_not t.nullable k is.some_last)))
            (not_first_of s.first t right rest is.apart starts
            (λ k. absurd (both_not t.nullable k is.some_last)))
        fits_end is false now p x right rest h g =
            subst (λ us. Outside (s.ext ++ []) (head (us ++ rest))) (sym h.1)
            (outside_both s.ext [] (head rest) (outside_parts s.ext t.ext (head rest) g).0
            (no_token (head rest)))
    law_form (forms.unless {s = s} {t = t} is_so p q) ok =
        reads_second is_so p q ok (law_form p (good_choice s t s ok).left)
        (law_form q (good_choice s t s ok).right)
    law_form (forms.more_items {s = s} state p) ok =
        let is = good_item s ok in
        widen (reads_items s (spells El shape_of body d p) (Wide El shape_of body p)
        (reads El shape_of body d p) is (law_form p is.ok) (starts_at p is.ok)
        (fill_led p is) state)
        (λ a ts h. join_items p state a ts h)
    law_form (forms.some_items {s = s} p) ok =
        let is = good_item s ok in
        widen (reads_some_items s (spells El shape_of body d p) (Wide El shape_of body p)
        (reads El shape_of body d p) is (law_form p is.ok) (starts_at p is.ok) (fill_led p is))
        (λ a ts h. join_some p a ts h)
    law_form (forms.when {s = s} {t = t} is_so p q) ok =
        let good_parts = good_choice s t t ok in
        let law_q = law_form q good_parts.right in
        let U = Wide El shape_of body (forms.when is_so p q) in
        reads_only is_so (choose s.first (reads El shape_of body d p) (reads El shape_of body d q))
        (reads El shape_of body d q)
        (λ is. reads_either t U p q ok (law_form p good_parts.left) law_q
        (λ a ts h. (h.0, inl (is, h.1))) (λ a ts h. (h.0, inr h.1)))
        (narrow (widen law_q (λ a ts h. (h.0, inr h.1)))
        (λ x token g. (choice_ext s t t token g).right))
    law_form (forms.nest t n) ok = by_depth d inner
      where
        by_depth : (d : ℕ) → ((n : N) → Reads (inside El shape_of body d n) (Inside n)
            (Without (shape_of n).ext) (read_inside El shape_of body d n))
            → Reads (Nest d t n) (WideNest t n) (Without (shape_of n).ext)
            (reads El shape_of body d (forms.nest t n))
        by_depth zero inner = reads_no_nest t n
            (λ a. then_read (refused {A = El n}) (λ x. pure (a, x))) (and_left _ _ ok)
            (and_right _ _ ok) (Without (shape_of n).ext)
        by_depth (suc d) inner = reads_nest d t n (and_left _ _ ok) (inner n)
    law_form (forms.line_start {s = s} asked p) ok =
        let two = and_left _ _ ok in let some = not_true _ (and_right _ _ two) in
        reads_checked (Wide El shape_of body (forms.line_start asked p)) (may_start asked)
        (law_form p (and_left _ _ two))
        (λ a prefix rest h. some_head s prefix rest some
        (starts_at p (and_left _ _ two) a prefix h))
        (λ a ts h is. (h.0, (h.1, is))) (fill_wide (forms.line_start asked p) ok)
    law_form (forms.same_line {s = s} p) ok =
        let two = and_left _ _ ok in let some = not_true _ (and_right _ _ two) in
        reads_checked (Wide El shape_of body (forms.same_line p)) stays
        (law_form p (and_left _ _ two))
        (λ a prefix rest h. some_head s prefix rest some
        (starts_at p (and_left _ _ two) a prefix h))
        (λ a ts h is. (h.0, (h.1, is))) (fill_wide (forms.same_line p) ok)
    law_form (forms.shaped {s = s} claim p) ok =
        let is = covers s claim ok in
        narrow (law_form p is.ok) (λ x token g. outside_within s.ext claim.ext token is.ext g)

  -- turns before the last form
  pub law_turns : (d : ℕ) → ((n : N) → Reads (inside El shape_of body d n) (Inside n)
      (Without (shape_of n).ext) (read_inside El shape_of body d n))
      → {s t : Shape} {S : Type 0} (is_open : S → Bool) (f : S → Form El shape_of s S) (state : S)
      → GoodEnding (is_open state) s t
      → Reads (spells El shape_of body d (forms.turns is_open state f))
      (Wide El shape_of body (forms.turns is_open state f)) (AfterTurns s is_open)
      (reads El shape_of body d (forms.turns is_open state f))
  law_turns d inner {s} {t} is_open f state is =
      widen (reads_loop s.first is_open (λ now. law_form d inner (f now) is.turn)
      (is_part d inner {t = t} is_open f state is) state)
      (λ a ts h. join_turns is_open f state a ts h)

  pub law_inside : (d : ℕ) (n : N) → Reads (inside El shape_of body d n) (Inside n)
      (Without (shape_of n).ext) (read_inside El shape_of body d n)
  law_inside zero n = record {
    wide = λ x ts h. absurd h;
    sound = λ ts x rest e. absurd (cc);
    complete = λ x prefix rest h g. absurd h;
    fails = λ ts fault e. refused_at_once (inside El shape_of body 0 n) (Inside n)
        (Without (shape_of n).ext) ts fault e (λ x prefix rest more h g same heads. absurd h)
        (fill_nest n);
    fill = fill_nest n;
  }
  law_inside (suc d) n = widen (law_form d (law_inside d) (body n) (good n))
      (λ x ts h. (suc h.0, h.1))

  -- The reader of a form, at a depth, reads what the form spells with at most that many nests open;
  -- a
  -- token at fault is refused as one that begins no such spelling, and those before it begin one.
  pub law : (d : ℕ) {s : Shape} {A : Type 0} (form : Form El shape_of s A) → s.ok ≡ true
      → Reads (spells El shape_of body d form) (Wide El shape_of body form) (Without s.ext)
      (reads El shape_of body d form)
  law d form ok = law_form d (law_inside d) form ok

  -- What the code's loops need: a loop answers as its next turn and the loop after it.

  pub loop_stops : (d : ℕ) {s : Shape} {S : Type 0} (is_open : S → Bool)
      (f : S → Form El shape_of s S)
      → (star s).ok ≡ true → (state : S) (ts : List Spelled)
      → starts (set_if (is_open state) s.first) (head ts) ≡ false
      → reads El shape_of body d (forms.turns is_open state f) ts ≡ Ok (state, ts)
  loop_stops d {s} is_open f ok state ts h =
      loop_ends s.first is_open (λ now. law d (f now) (and_left _ _ (and_left _ _ ok)))
      (is_turn d (law_inside d) is_open f ok) state ts h

  pub loop_goes_on : (d : ℕ) {s : Shape} {S : Type 0} (is_open : S → Bool)
      (f : S → Form El shape_of s S) → (star s).ok ≡ true → (state : S) (ts : List Spelled)
      → starts (set_if (is_open state) s.first) (head ts) ≡ true
      → reads El shape_of body d (forms.turns is_open state f) ts
      ≡ then_read (reads El shape_of body d (f state))
      (λ next. reads El shape_of body d (forms.turns is_open next f)) ts
  loop_goes_on d {s} is_open f ok state ts h =
      loop_turns s.first is_open (λ now. law d (f now) (and_left _ _ (and_left _ _ ok)))
      (is_turn d (law_inside d) is_open f ok) state ts h

  pub turn_takes : (d : ℕ) {s : Shape} {S : Type 0} (f : S → Form El shape_of s S)
      → (star s).ok ≡ true → (state next : S) (ts rest : List Spelled)
      → reads El shape_of body d (f state) ts ≡ Ok (next, rest) → length rest < length ts
  turn_takes d {s} f ok state next ts rest e =
      turn_shrinks s.first (λ _. true) (λ now. law d (f now) (and_left _ _ (and_left _ _ ok)))
      (is_turn d (law_inside d) (λ _. true) f ok) state next ts rest e

  -- The same for items.

  pub items_end : (d : ℕ) {s : Shape} {A : Type 0} (p : Form El shape_of s A) → is_item s ≡ true
      → (state : List A × Bool) (ts : List Spelled) → starts s.first (head ts) ≡ false
      → reads El shape_of body d (forms.more_items state p) ts ≡ Ok (state, ts)
  items_end d {s} p ok state ts h =
      let is = good_item s ok in
      items_stop s (spells El shape_of body d p) (Wide El shape_of body p)
      (reads El shape_of body d p) is (law d p is.ok) (starts_at d (law_inside d) p is.ok)
      (fill_led p is) state ts h

  pub items_next : (d : ℕ) {s : Shape} {A : Type 0} (p : Form El shape_of s A) → is_item s ≡ true
      → (state : List A × Bool) (ts : List Spelled) → starts s.first (head ts) ≡ true
      → reads El shape_of body d (forms.more_items state p) ts
      ≡ then_read (read_item (reads El shape_of body d p) state)
      (λ next. reads El shape_of body d (forms.more_items next p)) ts
  items_next d {s} p ok state ts h =
      let is = good_item s ok in
      items_go_on s (spells El shape_of body d p) (Wide El shape_of body p)
      (reads El shape_of body d p) is (law d p is.ok) (starts_at d (law_inside d) p is.ok)
      (fill_led p is) state ts h

  pub item_shrinks : (d : ℕ) {s : Shape} {A : Type 0} (p : Form El shape_of s A) → is_item s ≡ true
      → (state next : List A × Bool) (ts rest : List Spelled)
      → read_item (reads El shape_of body d p) state ts ≡ Ok (next, rest) → length rest < length ts
  item_shrinks d {s} p ok state next ts rest e =
      let is = good_item s ok in
      item_takes s (spells El shape_of body d p) (Wide El shape_of body p)
      (reads El shape_of body d p) is (law d p is.ok) (starts_at d (law_inside d) p is.ok)
      (fill_led p is) state next ts rest e
