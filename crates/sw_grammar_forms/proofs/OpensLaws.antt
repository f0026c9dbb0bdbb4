-- The reader of a form, at a depth, stops at the first token that opens a nest too many.
use Rattle.std.proofs.Common.{◌≡◌, ℕ, zero, suc, Bool, true, false, cond, not, ◌⊎◌, inl}
use Rattle.std.proofs.Common.{inr, List, [], ◌∷◌, ◌++◌, length, refl, sym, ◌∙◌, ap, subst, arith}
use Rattle.std.proofs.Common.{append_assoc, codes}
use Rattle.std.specs.Prelude.{Ok, Err}
use Rattle.sw_token.specs.Spelling.{Spelled}
use Rattle.sw_grammar_forms.specs.Sets.{has, starts, apart}
use Rattle.sw_grammar_forms.specs.Form.{Shape, Terminal, Form, choice, is_shorter, star, items_ext}
use Rattle.sw_grammar_forms.specs.Form.{a_word}
use Rattle.sw_grammar_forms.specs.Form as forms
use Rattle.sw_grammar_forms.specs.Relations.{Relation, head, Turns, OneMore, may_start, stays}
use Rattle.sw_grammar_forms.specs.Relations.{is_first_on_line, is_none_of, Only}
use Rattle.sw_grammar_forms.specs.Relations.Turns.{stop, turn}
use Rattle.sw_grammar_forms.specs.Reader.{Answer, Reader, refused, pure, then_read, take_if, next}
use Rattle.sw_grammar_forms.specs.Reader.{opening, choose, read_item, read_items, skipping, checked}
use Rattle.sw_grammar_forms.specs.Reader.{only_if, set_if}
use Rattle.sw_grammar_forms.specs.Reader.Fault.{unexpected, too_deep}
use Rattle.sw_grammar_forms.specs.Spells.{spells, Wide, read_inside, reads}
use Rattle.sw_grammar_forms.specs.Opens.{Saying, After, Opener, into, opens}
use Rattle.sw_grammar_forms.proofs.ReaderLaws.{Follow, Outside, Without, Reads, bind_err, bind_stop}
use Rattle.sw_grammar_forms.proofs.ReaderLaws.{bind_step, cond_cases}
use Rattle.sw_grammar_forms.proofs.LoopLaws.{IsTurn, Open}
use Rattle.sw_grammar_forms.proofs.SetLemmas.{and_left, and_right, not_true}
use Rattle.sw_grammar_forms.proofs.FormLemmas.{GoodItem, covers, good_choice, good_item}
use Rattle.sw_grammar_forms.proofs.FormLemmas.{Turns-map, GoodEnding, good_ending}
use Rattle.sw_grammar_forms.proofs.FollowLemmas.{AfterTurns, some_first, apart_back, outside_both}
use Rattle.sw_grammar_forms.proofs.ItemLaws.{AfterItem, after_item, after_end, after_not_ended}
use Rattle.sw_grammar_forms.proofs.ItemLaws.{reads_one_more, is_items_turn}
use Rattle.sw_grammar_forms.proofs.FormLaws.{deeper, deeper_more, join_turns, join_more, fill_led, starts_at}
use Rattle.sw_grammar_forms.proofs.FormLaws.{law_inside, law, law_turns, is_turn, is_part}
use Rattle.sw_grammar_forms.proofs.DepthLaws.{NotDeep, reads_deeper, item_agrees, never_skip}
use Rattle.sw_grammar_forms.proofs.DepthLaws.{never_then, never_next, never_word}
use Rattle.sw_grammar_forms.proofs.Opening.{TooDeepBefore, Passes, passes, Opened, Opening}
use Rattle.sw_grammar_forms.proofs.Opening.{not_empty, resaid, opens_never, opens_then, opens_choose}
use Rattle.sw_grammar_forms.proofs.Opening.{opens_checked, opens_only, Begin}
use Rattle.sw_grammar_forms.proofs.OpeningLoops.{opens_turns}
use Rattle.sw_grammar_forms.proofs.OpensStart.{Leads, leads}

-- The first of two readers alone opens nests.
opens_first : {A B : Type 0} (p : Reader A) (f : A → Reader B) (O : Saying) → Opening O p
    → ((a : A) (ts : List Spelled) → NotDeep (f a ts)) → Opening O (then_read p f)
opens_first p f O opens_p calm = record {
  names = λ ts left e. elim (bind_err (p ts) (λ x. f x.0 x.1) (too_deep left) e) [
    | inl one ↦ opens_p.names ts left one
    | inr two ↦ absurd (subst NotDeep two.2 (calm two.0.0 two.0.1))
  ];
  finds = λ us more h. let deep = opens_p.finds us more h in
      (deep.0, bind_stop (p (us ++ more)) (λ x. f x.0 x.1) (too_deep deep.0) deep.1, deep.2);
  some = opens_p.some;
}

-- turns of some depth are turns of any
wide_turn : {S : Type 0} {is_open : S → Bool} (R : ℕ → S → Relation S) (V : S → Relation S)
    (F G : Follow S) (set : List ℕ) → ((e : ℕ) → IsTurn is_open (R e) F G set)
    → ((s t : S) (ts : List Spelled) → V s t ts → (e : ℕ) × R e s t ts)
    → IsTurn is_open V F G set
wide_turn R V F G set each at = record {
  takes = λ s t ts h. let k = at s t ts h in (each k.0).takes s t ts k.1;
  goes_on = λ s t ts rest h. let k = at s t ts h in (each k.0).goes_on s t ts rest k.1;
  ends = (each 0).ends;
  stopped = (each 0).stopped;
  followed = λ s t ts rest h. let k = at s t ts h in (each k.0).followed s t ts rest k.1;
}

-- A nest

module _ {A B : Type 0} (t : Terminal A) (I : Saying) (p : Reader B) where
  abbrev nest_reader : ℕ → Reader (A × B)
  nest_reader d = then_read (opening d t) (λ a. then_read p (λ x. pure (a, x)))

  -- where no nest may be opened
  deep_at_once : (ts : List Spelled) → starts t.set (head ts) ≡ true
      → opening 0 t ts ≡ Err (too_deep (length ts))
  deep_at_once ts h =
      ap (λ b. cond b (Err (too_deep (length ts))) (refused {A = A} ts)) h

  none_names : (ts : List Spelled) (left : ℕ) → nest_reader 0 ts ≡ Err (too_deep left)
      → Opened (Opener t (λ us. us ≡ [])) ts left
  none_names ts left e = elim (bind_err (opening 0 t ts)
      (λ x. then_read p (λ y. pure (x.0, y)) x.1) (too_deep left) e) [
        | inl one ↦ elim (cond_cases (starts t.set (head ts)) (Err (too_deep (length ts)))
            (refused {A = A} ts) (Err (too_deep left)) one) [
              | inl is ↦ by_first ts is.0
                  (ap (λ r. elim r
                  [ Ok x ↦ 0 | Err fault ↦ elim fault [ unexpected n ↦ 0 | too_deep n ↦ n ] ])
                  is.1)
              | inr is ↦
                  absurd (let clash : ◌≡◌ {A = Answer A} (refused ts) (Err (too_deep left)) = is.1
                  in cc)
            ]
        | inr two ↦ absurd (never (opening 0 t ts) refl two.0 two.1)
      ]
    where
      by_first : (us : List Spelled) → starts t.set (head us) ≡ true → length us ≡ left
          → Opened (Opener t (λ ws. ws ≡ [])) us left
      by_first [] h same = absurd (let clash : false ≡ true = h in cc)
      by_first (u ∷ us) h same = record {
        upto = u ∷ [];
        more = us;
        split = refl;
        count = sym same;
        said = record { token = u; others = []; member = h; inner = refl; whole = refl };
      }

      never : (r : Answer A) → opening 0 t ts ≡ r → (x : A × List Spelled) → r ≡ Ok x → ⊥
      never r e' x ok = elim (cond_cases (starts t.set (head ts)) (Err (too_deep (length ts)))
          (refused {A = A} ts) (Ok x) (e' ∙ ok)) [
            | inl is ↦
                (let clash : ◌≡◌ {A = Answer A} (Err (too_deep (length ts))) (Ok x) = is.1 in cc)
            | inr is ↦ (let clash : ◌≡◌ {A = Answer A} (refused ts) (Ok x) = is.1 in cc)
          ]

  none_finds : (us more : List Spelled) → Opener t (λ ws. ws ≡ []) us
      → TooDeepBefore (nest_reader 0 (us ++ more)) more
  none_finds us more h =
      let text : us ++ more ≡ h.token ∷ more =
      ap (λ ws. ws ++ more) (h.whole ∙ ap (λ ws. h.token ∷ ws) h.inner) in
      subst (λ ws. TooDeepBefore (nest_reader 0 ws) more) (sym text) (
        suc (length more),
        bind_stop (opening 0 t (h.token ∷ more)) (λ x. then_read p (λ y. pure (x.0, y)) x.1)
            (too_deep (suc (length more))) (deep_at_once (h.token ∷ more) h.member),
        omega arith,
      )

  opens_none : Opening (Opener t (λ us. us ≡ [])) (nest_reader 0)
  opens_none = record {
    names = none_names;
    finds = none_finds;
    some = λ us h. omega (arith, ap length h.whole);
  }

  -- where one more may be
  module _ (d : ℕ) (inner : Opening I p) where
    next_answers : (ts : List Spelled) (x : A × List Spelled) → next t ts ≡ Ok x
        → (token : Spelled) × (has t.set token ≡ true) × (ts ≡ token ∷ x.1)
    next_answers [] x e = absurd (let clash : ◌≡◌ {A = Answer A} (Err (unexpected 0)) (Ok x) = e in
        cc)
    next_answers (token ∷ ts) x e = by_test (has t.set token) refl e
      where
        by_test : (b : Bool) → has t.set token ≡ b → take_if b (t.value token) ts ≡ Ok x
            → (u : Spelled) × (has t.set u ≡ true) × (token ∷ ts ≡ u ∷ x.1)
        by_test true is e =
            (token, is, ap (λ r. token ∷ elim r [ Ok y ↦ y.1 | Err n ↦ ts ]) e)
        by_test false is e = absurd (let clash : ◌≡◌ {A = Answer A}
            (Err (unexpected (suc (length ts)))) (Ok x) = e in cc)

    next_calm : (ts : List Spelled) → NotDeep (next t ts)
    next_calm [] = tt
    next_calm (token ∷ ts) = by_test (has t.set token)
      where
        by_test : (b : Bool) → NotDeep (take_if b (t.value token) ts)
        by_test true = tt
        by_test false = tt

    some_names : (ts : List Spelled) (left : ℕ) → nest_reader (suc d) ts ≡ Err (too_deep left)
        → Opened (Opener t I) ts left
    some_names ts left e = elim (bind_err (next t ts)
        (λ x. then_read p (λ y. pure (x.0, y)) x.1) (too_deep left) e) [
          | inl one ↦ absurd (subst NotDeep one (next_calm ts))
          | inr two ↦
              elim (bind_err (p two.0.1) (λ y. Ok ((two.0.0, y.0), y.1)) (too_deep left) two.2) [
                | inl three ↦ (
                    let first = next_answers ts two.0 two.1 in
                    let opened = inner.names two.0.1 left three in
                    record {
                      upto = first.0 ∷ opened.upto;
                      more = opened.more;
                      split = first.2 ∙ ap (λ us. first.0 ∷ us) opened.split;
                      count = opened.count;
                      said = record {
                        token = first.0;
                        others = opened.upto;
                        member = first.1;
                        inner = opened.said;
                        whole = refl;
                      };
                    })
                | inr four ↦ absurd (let clash : ◌≡◌ {A = Answer (A × B)}
                    (Ok ((two.0.0, four.0.0), four.0.1)) (Err (too_deep left)) = four.2 in cc)
              ]
        ]

    some_finds : (us more : List Spelled) → Opener t I us
        → TooDeepBefore (nest_reader (suc d) (us ++ more)) more
    some_finds us more h =
        let text : us ++ more ≡ h.token ∷ (h.others ++ more) = ap (λ ws. ws ++ more) h.whole in
        let deep = inner.finds h.others more h.inner in
        subst (λ ws. TooDeepBefore (nest_reader (suc d) ws) more) (sym text) (
          deep.0,
          bind_step (next t (h.token ∷ (h.others ++ more)))
              (λ x. then_read p (λ y. pure (x.0, y)) x.1)
              (t.value h.token, h.others ++ more) (Err (too_deep deep.0))
              (ap (λ b. take_if b (t.value h.token) (h.others ++ more)) h.member)
              (bind_stop (p (h.others ++ more)) (λ y. Ok ((t.value h.token, y.0), y.1))
              (too_deep deep.0) deep.1),
          deep.2,
        )

    opens_some : Opening (Opener t I) (nest_reader (suc d))
    opens_some = record {
      names = some_names;
      finds = some_finds;
      some = λ us h. omega (arith, ap length h.whole);
    }

-- The first of tokens that lead isn't of a set apart.
apart_lead : (set : List ℕ) (t : Shape) (us rest : List Spelled) → apart set t.first ≡ true
    → Leads t us → starts set (head (us ++ rest)) ≡ false
apart_lead set t [] rest far h = absurd (let some = h.0 in omega arith)
apart_lead set t (u ∷ us) rest far h = apart_back set t.first u far h.1

-- The law

module _ {N : Type 0} (El : N → Type 0) (shape_of : N → Shape)
    (body : (n : N) → Form El shape_of (shape_of n) (El n))
    (good : (n : N) → (shape_of n).ok ≡ true) where
  abbrev R : ℕ → {s : Shape} {A : Type 0} → Form El shape_of s A → Relation A
  R d form = spells El shape_of body d form

  abbrev W : {s : Shape} {A : Type 0} → Form El shape_of s A → Relation A
  W form = Wide El shape_of body form

  abbrev reader : ℕ → {s : Shape} {A : Type 0} → Form El shape_of s A → Reader A
  reader d form = reads El shape_of body d form

  abbrev O : ℕ → {s : Shape} {A : Type 0} → Form El shape_of s A → Saying
  O d form = opens El shape_of body d form

  law_at : (d : ℕ) {s : Shape} {A : Type 0} (form : Form El shape_of s A) → s.ok ≡ true
      → Reads (R d form) (W form) (Without s.ext) (reader d form)
  law_at d form ok = law El shape_of body good d form ok

  lead : (d : ℕ) {s : Shape} {A : Type 0} (form : Form El shape_of s A) → s.ok ≡ true
      → (us : List Spelled) → O d form us → Leads s us
  lead d form ok us h = leads El shape_of body (into El shape_of body d) form ok us h

  -- what is spelled is read, unless a nest in it is too deep
  passes_form : (d : ℕ) {s : Shape} {A : Type 0} (form : Form El shape_of s A) → s.ok ≡ true
      → Passes (W form) (Without s.ext) (reader d form)
  passes_form d {s} form ok =
      passes (W form) (Without s.ext) (λ e. R e form) (λ e. reader e form)
      (λ e. law_at e form ok) (λ a us h. h)
      (λ d e less a us h. deeper El shape_of body good d e less form a us h)
      (λ d e less. reads_deeper El shape_of body d e less form) (λ a. refl) d

  -- Items

  law_item : (d : ℕ) {s : Shape} {A : Type 0} (p : Form El shape_of s A) → GoodItem s
      → (state : List A × Bool)
      → Reads (OneMore (R d p) state) (OneMore (W p) state) (AfterItem s)
      (read_item (reader d p) state)
  law_item d {s} p is state =
      reads_one_more s (R d p) (W p) (reader d p) is (law_at d p is.ok)
      (starts_at El shape_of body good d (law_inside El shape_of body good d) p is.ok)
      (fill_led El shape_of body good p is) state

  turn_item : (d : ℕ) {s : Shape} {A : Type 0} (p : Form El shape_of s A) → GoodItem s
      → IsTurn (λ _. true) (OneMore (R d p)) (AfterItem s) (Without (items_ext s)) s.first
  turn_item d {s} p is =
      is_items_turn s (R d p) (W p) (reader d p) is (law_at d p is.ok)
      (starts_at El shape_of body good d (law_inside El shape_of body good d) p is.ok)
      (fill_led El shape_of body good p is)

  wide_item : {s : Shape} {A : Type 0} (p : Form El shape_of s A) → GoodItem s
      → IsTurn (λ _. true) (OneMore (W p)) (AfterItem s) (Without (items_ext s)) s.first
  wide_item {s} p is =
      wide_turn (λ e. OneMore (R e p)) (OneMore (W p)) (AfterItem s) (Without (items_ext s)) s.first
      (λ e. turn_item e p is) (λ a b us h. join_more El shape_of body good p a b us h)

  passes_item : (d : ℕ) {s : Shape} {A : Type 0} (p : Form El shape_of s A) → GoodItem s
      → (state : List A × Bool)
      → Passes (OneMore (W p) state) (AfterItem s) (read_item (reader d p) state)
  passes_item d {s} p is state =
      passes (OneMore (W p) state) (AfterItem s) (λ e. OneMore (R e p) state)
      (λ e. read_item (reader e p) state) (λ e. law_item e p is state)
      (λ next us h. join_more El shape_of body good p state next us h)
      (λ d e less next us h. deeper_more El shape_of body good p d e less state next us h)
      (λ d e less. item_agrees (reader d p) (reader e p)
      (reads_deeper El shape_of body d e less p) state)
      (λ next. after_end s next.1) d

  -- an item that opens a nest
  abbrev InItem : ℕ → {s : Shape} {A : Type 0} → Form El shape_of s A → List A × Bool → Saying
  InItem d p state us = O d p us × (may_start (not state.1) (head us) ≡ true)

  opens_item : (d : ℕ) {s : Shape} {A : Type 0} (p : Form El shape_of s A)
      → Opening (O d p) (reader d p) → (state : List A × Bool)
      → Opening (InItem d p state) (read_item (reader d p) state)
  opens_item d p opens_p state =
      opens_first (checked (may_start (not state.1)) (reader d p))
      (λ x. then_read (skipping (codes ";")) (λ ended. pure (state.0 ++ x ∷ [], ended)))
      (InItem d p state) (opens_checked (may_start (not state.1)) (reader d p) (O d p) opens_p)
      (λ x ts. never_then (skipping (codes ";")) (λ ended. pure (state.0 ++ x ∷ [], ended))
      (never_skip (codes ";")) (λ _ us. tt) ts)

  begins_item : (d : ℕ) {s : Shape} {A : Type 0} (p : Form El shape_of s A) → GoodItem s
      → (state : List A × Bool) → Begin s.first true (InItem d p state)
  begins_item d {s} p is state us rest h =
      some_first s us rest is.some (lead d p is.ok us h.0).1

  fits_item : (d : ℕ) {s : Shape} {A : Type 0} (p : Form El shape_of s A) → GoodItem s
      → (state : List A × Bool) (us rest : List Spelled) → InItem d p state us
      → AfterItem s state (head (us ++ rest))
  fits_item d {s} p is state us rest h = by_ended state.1 h.1
    where
      by_ended : (b : Bool) → may_start (not b) (head us) ≡ true
          → after_item s b (head (us ++ rest))
      by_ended true k = tt
      by_ended false k = after_not_ended s is (head (us ++ rest))
          (some_first s us rest is.some (lead d p is.ok us h.0).1)
          (ap is_first_on_line (not_empty us rest (lead d p is.ok us h.0).0) ∙ k)

  abbrev InItems : ℕ → {s : Shape} {A : Type 0} → Form El shape_of s A → List A × Bool → Saying
  InItems d p state us = After (Turns (OneMore (W p)) state) (InItem d p) us

  always : {S : Type 0} {P : S → Relation S} (a b : S) (us : List Spelled) → Turns P a b us
      → Turns (Open (λ _. true) P) a b us
  always {S} {P} a b us h = Turns-map (λ a b us k. (refl, k)) a b us h

  ever : {S : Type 0} {P : S → Relation S} (a b : S) (us : List Spelled)
      → Turns (Open (λ _. true) P) a b us → Turns P a b us
  ever {S} {P} a b us h = Turns-map (λ a b us k. k.1) a b us h

  opens_items : (d : ℕ) {s : Shape} {A : Type 0} (p : Form El shape_of s A) → GoodItem s
      → Opening (O d p) (reader d p) → (state : List A × Bool)
      → Opening (InItems d p state) (read_items s.first (reader d p) state)
  opens_items d {s} p is opens_p state =
      resaid (opens_turns (OneMore (R d p)) (OneMore (W p)) (AfterItem s) (Without (items_ext s))
      (InItem d p) s.first (λ _. true) (read_item (reader d p)) (law_item d p is)
      (turn_item d p is) (wide_item p is) (passes_item d p is) (opens_item d p opens_p)
      (begins_item d p is) (fits_item d p is) state)
      (λ us h. record {
        value = h.value;
        left = h.left;
        right = h.right;
        first = ever state h.value h.left h.first;
        last = h.last.1;
        whole = h.whole;
      })
      (λ us h. record {
        value = h.value;
        left = h.left;
        right = h.right;
        first = always state h.value h.left h.first;
        last = (refl, h.last);
        whole = h.whole;
      })

  -- what comes before items one of which opens a nest
  fits_items : (d : ℕ) {s : Shape} {A : Type 0} (p : Form El shape_of s A) → GoodItem s
      → (state : List A × Bool) (us rest : List Spelled) → InItems d p state us
      → AfterItem s state (head (us ++ rest))
  fits_items d {s} {A} p is state us rest h =
      subst (λ ws. AfterItem s state (head ws))
      (sym (ap (λ ws. ws ++ rest) h.whole ∙ append_assoc h.left h.right rest))
      (by_turns h.value h.left h.first h.last)
    where
      by_turns : (last : List A × Bool) (ls : List Spelled) → Turns (OneMore (W p)) state last ls
          → InItem d p last h.right → AfterItem s state (head (ls ++ (h.right ++ rest)))
      by_turns last ls (stop _) k = fits_item d p is state h.right rest k
      by_turns last ls (turn _ next _ vs ws one others) k =
          subst (λ xs. AfterItem s state (head xs)) (sym (append_assoc vs ws (h.right ++ rest)))
          ((wide_item p is).followed state next vs (ws ++ (h.right ++ rest)) one)

  some_there : (d : ℕ) {s : Shape} {A : Type 0} (p : Form El shape_of s A) (state : List A × Bool)
      (us : List Spelled) → InItem d p state us ⊎ After (OneMore (W p) state) (InItems d p) us
      → InItems d p state us
  some_there d p state us (inl h) = record {
    value = state;
    left = [];
    right = us;
    first = stop state;
    last = h;
    whole = refl;
  }
  some_there d p state us (inr h) = record {
    value = h.last.value;
    left = h.left ++ h.last.left;
    right = h.last.right;
    first = turn state h.value h.last.value h.left h.last.left h.first h.last.first;
    last = h.last.last;
    whole = h.whole ∙ (ap (λ ws. h.left ++ ws) h.last.whole
        ∙ sym (append_assoc h.left h.last.left h.last.right));
  }

  some_back : (d : ℕ) {s : Shape} {A : Type 0} (p : Form El shape_of s A) (state : List A × Bool)
      (us : List Spelled) → InItems d p state us
      → InItem d p state us ⊎ After (OneMore (W p) state) (InItems d p) us
  some_back d {A = A} p state us h = by_turns h.value h.left h.first h.last h.whole
    where
      by_turns : (last : List A × Bool) (ls : List Spelled) → Turns (OneMore (W p)) state last ls
          → InItem d p last h.right → us ≡ ls ++ h.right
          → InItem d p state us ⊎ After (OneMore (W p) state) (InItems d p) us
      by_turns last ls (stop _) k same = inl (subst (InItem d p state) (sym same) k)
      by_turns last ls (turn _ next _ vs ws one others) k same = inr (record {
        value = next;
        left = vs;
        right = ws ++ h.right;
        first = one;
        last = record {
          value = last;
          left = ws;
          right = h.right;
          first = others;
          last = k;
          whole = refl;
        };
        whole = same ∙ append_assoc vs ws h.right;
      })

  opens_some_items : (d : ℕ) {s : Shape} {A : Type 0} (p : Form El shape_of s A) → GoodItem s
      → Opening (O d p) (reader d p)
      → Opening (InItems d p ([], true))
      (then_read (read_item (reader d p) ([], true)) (read_items s.first (reader d p)))
  opens_some_items d {s} p is opens_p =
      resaid (opens_then (law_item d p is ([], true)) (passes_item d p is ([], true))
      (opens_item d p opens_p ([], true)) (opens_items d p is opens_p) (fits_items d p is))
      (some_there d p ([], true)) (some_back d p ([], true))

  -- Turns

  opens_loop : (d : ℕ) {S : Type 0} {s : Shape} (is_open : S → Bool) (f : S → Form El shape_of s S)
      → (star s).ok ≡ true → ((now : S) → Opening (O d (f now)) (reader d (f now))) → (state : S)
      → Opening (O d (forms.turns is_open state f)) (reader d (forms.turns is_open state f))
  opens_loop d {S} {s} is_open f ok opens_f state =
      let two = and_left _ _ ok in
      let some = not_true _ (and_right _ _ two) in
      let good_s = and_left _ _ two in
      opens_turns (λ now. R d (f now)) (λ now. W (f now)) (Without s.ext) (Without (star s).ext)
      (λ now. O d (f now)) s.first is_open (λ now. reader d (f now))
      (λ now. law_at d (f now) good_s)
      (is_turn El shape_of body good d (law_inside El shape_of body good d) is_open f ok)
      (wide_turn (λ e now. R e (f now)) (λ now. W (f now)) (Without s.ext) (Without (star s).ext)
      s.first (λ e. is_turn El shape_of body good e (law_inside El shape_of body good e) is_open f
      ok)
      (λ a b us h. h))
      (λ now. passes_form d (f now) good_s) opens_f
      (λ now us rest h. some_first s us rest some (lead d (f now) good_s us h).1)
      (λ now us rest h. apart_lead s.ext s us rest (and_right _ _ ok) (lead d (f now) good_s us h))
      state

  -- Turns that have to go on from an open state

  law_turns_at : (d : ℕ) {S : Type 0} {s t : Shape} (is_open : S → Bool) (f : S → Form El shape_of s S)
      (state : S) → GoodEnding (is_open state) s t
      → Reads (R d (forms.turns is_open state f)) (W (forms.turns is_open state f))
      (AfterTurns s is_open) (reader d (forms.turns is_open state f))
  law_turns_at d {t = t} is_open f state is =
      law_turns El shape_of body good d (law_inside El shape_of body good d) {t = t} is_open f state is

  opens_parts : (d : ℕ) {S : Type 0} {s t : Shape} (is_open : S → Bool)
      (f : S → Form El shape_of s S) (state : S) → GoodEnding (is_open state) s t
      → ((now : S) → Opening (O d (f now)) (reader d (f now)))
      → Opening (O d (forms.turns is_open state f)) (reader d (forms.turns is_open state f))
  opens_parts d {S} {s} {t} is_open f state is opens_f =
      opens_turns (λ now. R d (f now)) (λ now. W (f now)) (Without s.ext) (AfterTurns s is_open)
      (λ now. O d (f now)) s.first is_open (λ now. reader d (f now))
      (λ now. law_at d (f now) is.turn)
      (is_part El shape_of body good d (law_inside El shape_of body good d) {t = t} is_open f state is)
      (wide_turn (λ e now. R e (f now)) (λ now. W (f now)) (Without s.ext) (AfterTurns s is_open)
      s.first (λ e. is_part El shape_of body good e (law_inside El shape_of body good e) {t = t}
      is_open f state is) (λ a b us h. h))
      (λ now. passes_form d (f now) is.turn) opens_f
      (λ now us rest h. some_first s us rest is.some (lead d (f now) is.turn us h).1)
      (λ now us rest h. apart_lead s.ext s us rest is.going (lead d (f now) is.turn us h))
      state

  passes_parts : (d : ℕ) {S : Type 0} {s t : Shape} (is_open : S → Bool)
      (f : S → Form El shape_of s S) (state : S) → GoodEnding (is_open state) s t
      → Passes (W (forms.turns is_open state f)) (AfterTurns s is_open)
      (reader d (forms.turns is_open state f))
  passes_parts d {s = s} {t = t} is_open f state is =
      let form = forms.turns is_open state f in
      passes (W form) (AfterTurns s is_open) (λ e. R e form) (λ e. reader e form)
      (λ e. law_turns_at e {t = t} is_open f state is) (λ a us h. h)
      (λ d e less a us h. deeper El shape_of body good d e less form a us h)
      (λ d e less. reads_deeper El shape_of body d e less form) (λ a. refl) d

  -- the last, where the state is open
  opens_last : (d : ℕ) {S : Type 0} {t : Shape} (b : Bool) (now : S) (last : Form El shape_of t S)
      → Opening (O d last) (reader d last)
      → Opening (λ us. (b ≡ true) × O d last us) (only_if b (reader d last) (pure now))
  opens_last d true now last opens = resaid opens (λ us h. (refl, h)) (λ us h. h.1)
  opens_last d false now last opens = resaid (opens_never (pure now) (λ ts. tt)) (λ us h. absurd h)
      (λ us h. let clash : false ≡ true = h.0 in absurd (cc))

  -- tokens after turns of any depth are such after turns that are of one
  abbrev After_turns : (d : ℕ) {S : Type 0} {s t : Shape} (is_open : S → Bool)
      (f : S → Form El shape_of s S) (last : S → Form El shape_of t S) (state : S) → Saying
  After_turns d is_open f last state =
      After (Turns (λ now. Only (is_open now) (W (f now))) state)
      (λ now us. (is_open now ≡ true) × O d (last now) us)

  abbrev After_wide : (d : ℕ) {S : Type 0} {s t : Shape} (is_open : S → Bool)
      (f : S → Form El shape_of s S) (last : S → Form El shape_of t S) (state : S) → Saying
  After_wide d is_open f last state =
      After (W (forms.turns is_open state f)) (λ now us. (is_open now ≡ true) × O d (last now) us)

  after_there : (d : ℕ) {S : Type 0} {s t : Shape} (is_open : S → Bool)
      (f : S → Form El shape_of s S) (last : S → Form El shape_of t S) (state : S)
      (us : List Spelled) → After_wide d is_open f last state us
      → After_turns d is_open f last state us
  after_there d is_open f last state us h = record {
    value = h.value;
    left = h.left;
    right = h.right;
    first = Turns-map (λ now next ws one. (one.0, (h.first.0, one.1))) state h.value h.left
        h.first.1;
    last = h.last;
    whole = h.whole;
  }

  after_back : (d : ℕ) {S : Type 0} {s t : Shape} (is_open : S → Bool)
      (f : S → Form El shape_of s S) (last : S → Form El shape_of t S) (state : S)
      (us : List Spelled) → After_turns d is_open f last state us
      → After_wide d is_open f last state us
  after_back d is_open f last state us h = record {
    value = h.value;
    left = h.left;
    right = h.right;
    first = join_turns El shape_of body good is_open f state h.value h.left h.first;
    last = h.last;
    whole = h.whole;
  }

  fits_last : (d : ℕ) {S : Type 0} {s t : Shape} (state : Bool) (b : Bool)
      (last : Form El shape_of t S) → GoodEnding state s t → (us rest : List Spelled)
      → (b ≡ true) × O d last us → Outside (s.ext ++ set_if b s.first) (head (us ++ rest))
  fits_last d {s = s} {t = t} state b last is us rest h =
      subst (λ c. Outside (s.ext ++ set_if c s.first) (head (us ++ rest))) (sym h.0)
      (outside_both s.ext s.first (head (us ++ rest))
      (apart_lead s.ext t us rest is.ending (lead d last is.last us h.1))
      (apart_lead s.first t us rest is.apart (lead d last is.last us h.1)))

  -- Choices

  opens_either : (d : ℕ) {A : Type 0} {s t : Shape} (short : Shape) (p : Form El shape_of s A)
      (q : Form El shape_of t A) → (choice s t short).ok ≡ true → Opening (O d p) (reader d p)
      → Opening (O d q) (reader d q)
      → Opening (λ us. O d p us ⊎ O d q us) (choose s.first (reader d p) (reader d q))
  opens_either d {A} {s} {t} short p q ok opens_p opens_q =
      let is = good_choice s t short ok in
      opens_choose s.first opens_p opens_q
      (λ us rest h. some_first s us rest is.some (lead d p is.left us h).1)
      (λ us rest h. apart_lead s.first t us rest is.apart (lead d q is.right us h))

  opens_second : (d : ℕ) {A : Type 0} {t : Shape} (is_so : Bool) (q : Form El shape_of t A)
      → Opening (O d q) (reader d q)
      → Opening (λ us. (is_so ≡ true) × O d q us) (only_if is_so (reader d q) refused)
  opens_second d true q opens_q = resaid opens_q (λ us h. (refl, h)) (λ us h. h.1)
  opens_second d false q opens_q = resaid (opens_never refused (λ ts. tt)) (λ us h. absurd h)
      (λ us h. let clash : false ≡ true = h.0 in absurd (cc))

  -- The law

  abbrev Inner : ℕ → Type 0
  Inner zero = Unit {0}
  Inner (suc d) = (n : N) → Opening (O d (body n)) (reader d (body n))

  opens_form : (d : ℕ) → Inner d → {s : Shape} {A : Type 0} (form : Form El shape_of s A)
      → s.ok ≡ true → Opening (O d form) (reader d form)
  opens_form d inner (forms.done value) ok = opens_never (pure value) (λ ts. tt)
  opens_form d inner (forms.terminal t) ok = opens_never (next t) (never_next t)
  opens_form d inner (forms.word_but texts value) ok =
      opens_never (checked (is_none_of texts) (next (a_word value)))
      (never_word texts value)
  opens_form d inner (forms.followed {s = s} {t = t} p f) ok =
      let three = and_left _ _ ok in let two = and_left _ _ three in
      opens_then (law_at d p (and_left _ _ two)) (passes_form d p (and_left _ _ two))
      (opens_form d inner p (and_left _ _ two)) (λ a. opens_form d inner (f a) (and_right _ _ two))
      (λ a us rest h. apart_lead s.ext t us rest (and_right _ _ three)
      (lead d (f a) (and_right _ _ two) us h))
  opens_form d inner (forms.either {s = s} {t = t} p q) ok =
      let is = good_choice s t (cond (is_shorter s t) s t) ok in
      opens_either d (cond (is_shorter s t) s t) p q ok (opens_form d inner p is.left)
      (opens_form d inner q is.right)
  opens_form d inner (forms.turns {s = s} is_open state f) ok =
      opens_loop d is_open f ok
      (λ now. opens_form d inner (f now) (and_left _ _ (and_left _ _ ok))) state
  opens_form d inner (forms.until {s = s} {t = t} is_open state f last) ok =
      let is = good_ending (is_open state) s t ok in
      resaid (opens_then (law_turns_at d {t = t} is_open f state is)
      (passes_parts d {t = t} is_open f state is)
      (opens_parts d {t = t} is_open f state is (λ now. opens_form d inner (f now) is.turn))
      (λ now. opens_last d (is_open now) now (last now) (opens_form d inner (last now) is.last))
      (λ now us rest h. fits_last d (is_open state) (is_open now) (last now) is us rest h))
      (λ us h. elim h [ inl o ↦ inl o | inr q ↦ inr (after_there d is_open f last state us q) ])
      (λ us h. elim h [ inl o ↦ inl o | inr q ↦ inr (after_back d is_open f last state us q) ])
  opens_form d inner (forms.more_items {s = s} state p) ok =
      let is = good_item s ok in opens_items d p is (opens_form d inner p is.ok) state
  opens_form d inner (forms.some_items {s = s} p) ok =
      let is = good_item s ok in opens_some_items d p is (opens_form d inner p is.ok)
  opens_form d inner (forms.when {s = s} {t = t} is_so p q) ok =
      let is = good_choice s t t ok in
      let opens_q = opens_form d inner q is.right in
      opens_only is_so (λ _. opens_either d t p q ok (opens_form d inner p is.left) opens_q) opens_q
  opens_form d inner (forms.unless {s = s} {t = t} is_so p q) ok =
      let is = good_choice s t s ok in
      opens_choose s.first (opens_form d inner p is.left)
      (opens_second d is_so q (opens_form d inner q is.right))
      (λ us rest h. some_first s us rest is.some (lead d p is.left us h).1)
      (λ us rest h. apart_lead s.first t us rest is.apart (lead d q is.right us h.1))
  opens_form zero inner (forms.nest t n) ok = opens_none t (into El shape_of body 0 n)
      (read_inside El shape_of body 0 n)
  opens_form (suc d) inner (forms.nest t n) ok = opens_some t (into El shape_of body (suc d) n)
      (read_inside El shape_of body (suc d) n) d (inner n)
  opens_form d inner (forms.line_start {s = s} asked p) ok =
      opens_checked (may_start asked) (reader d p) (O d p)
      (opens_form d inner p (and_left _ _ (and_left _ _ ok)))
  opens_form d inner (forms.same_line {s = s} p) ok =
      opens_checked stays (reader d p) (O d p)
      (opens_form d inner p (and_left _ _ (and_left _ _ ok)))
  opens_form d inner (forms.shaped {s = s} claim p) ok =
      opens_form d inner p (covers s claim ok).ok

  -- The reader of a form, at a depth, names as too deep the first token that opens a nest where
  -- that many are open, unless a token that can't be taken stands before it.
  pub opens_law : (d : ℕ) {s : Shape} {A : Type 0} (form : Form El shape_of s A) → s.ok ≡ true
      → Opening (O d form) (reader d form)
  opens_law zero form ok = opens_form 0 tt form ok
  opens_law (suc d) form ok = opens_form (suc d) (λ n. opens_law d (body n) (good n)) form ok
