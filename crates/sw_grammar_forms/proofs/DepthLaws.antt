-- A greater depth changes no answer but that a nest is too deep. So a token that can't be taken
-- begins no spelling of any depth.
use Rattle.sw_grammar_forms.specs.Quotes.{quote}
use Rattle.std.proofs.Common.{◌≡◌, ℕ, zero, suc, ◌+◌, ◌-◌, ◌≤◌, max, Bool, true, false, cond, List}
use Rattle.std.proofs.Common.{[], ◌∷◌, ◌++◌, length, refl, sym, ◌∙◌, ap, subst, arith, not, codes}
use Rattle.std.specs.Prelude.{Option, Ok, Err}
use Rattle.std.proofs.Math.Nat.{le-max_left, le-max_right}
use Rattle.sw_token.specs.Spelling.{Spelled}
use Rattle.sw_grammar_forms.specs.Sets.{Set, has, starts, quoted}
use Rattle.sw_grammar_forms.specs.Form.{Shape, Terminal, Form, a_word}
use Rattle.sw_grammar_forms.specs.Form as forms
use Rattle.sw_grammar_forms.specs.Relations.{head, may_start, stays, is_none_of}
use Rattle.sw_grammar_forms.specs.Reader.{Answer, Reader, refused, pure, and_then, then_read, take_if}
use Rattle.sw_grammar_forms.specs.Reader.{next, opening, check, choose, repeat, finish, whole, set_if}
use Rattle.sw_grammar_forms.specs.Reader.{only_if, loop, read_item, read_items, skipping, checked}
use Rattle.sw_grammar_forms.specs.Reader.Fault.{unexpected, too_deep}
use Rattle.sw_grammar_forms.specs.Spells.{Wide, read_inside, reads}
use Rattle.sw_grammar_forms.proofs.ReaderLaws.{Without, Failed}
use Rattle.sw_grammar_forms.proofs.LoopLaws.{same_ends}
use Rattle.sw_grammar_forms.proofs.FormLaws.{deeper, law}

-- no answer that a nest is too deep
abbrev pub NotDeep : {A : Type 0} → Answer A → Type 0
NotDeep (Ok x) = Unit {0}
NotDeep (Err (unexpected left)) = Unit {0}
NotDeep (Err (too_deep left)) = ⊥

-- the second reader answers what the first does, where that isn't that a nest is too deep
abbrev pub Agrees : {A : Type 0} → Reader A → Reader A → Type 0
Agrees p q = (ts : List Spelled) → NotDeep (p ts) → q ts ≡ p ts

pub then_agrees : {A B : Type 0} (p q : Reader A) (f g : A → Reader B) → Agrees p q
    → ((a : A) → Agrees (f a) (g a))
    → Agrees (then_read p f) (then_read q g)
then_agrees {A} {B} p q f g same also ts shallow = by_answer (p ts) refl shallow
  where
    by_answer : (r : Answer A) → p ts ≡ r → NotDeep (and_then r (λ x. f x.0 x.1))
        → and_then (q ts) (λ x. g x.0 x.1) ≡ and_then (p ts) (λ x. f x.0 x.1)
    by_answer (Ok x) e h =
        let one : q ts ≡ Ok x = same ts (subst NotDeep (sym e) tt) ∙ e in
        ap (λ r. and_then r (λ x. g x.0 x.1)) one
        ∙ (also x.0 x.1 h ∙ ap (λ r. and_then r (λ x. f x.0 x.1)) (sym e))
    by_answer (Err (unexpected left)) e h =
        let one : q ts ≡ Err (unexpected left) = same ts (subst NotDeep (sym e) tt) ∙ e in
        ap (λ r. and_then r (λ x. g x.0 x.1)) one ∙ ap (λ r. and_then r (λ x. f x.0 x.1)) (sym e)
    by_answer (Err (too_deep left)) e h = absurd h

cond_agrees : {A : Type 0} (b : Bool) (x y x' y' : Answer A) → (NotDeep x → x' ≡ x)
    → (NotDeep y → y' ≡ y) → NotDeep (cond b x y) → cond b x' y' ≡ cond b x y
cond_agrees true x y x' y' one two h = one h
cond_agrees false x y x' y' one two h = two h

repeat_agrees : {S : Type 0} (set : Set) (is_open : S → Bool) (f g : S → Reader S)
    → ((s : S) → Agrees (f s) (g s)) → (n : ℕ) (s : S)
    → Agrees (repeat set is_open f n s) (repeat set is_open g n s)
repeat_agrees set is_open f g same zero s ts h =
    cond_agrees (starts (set_if (is_open s) set) (head ts)) (refused ts) (Ok (s, ts)) (refused ts)
    (Ok (s, ts)) (λ _. refl) (λ _. refl) h
repeat_agrees set is_open f g same (suc n) s ts h =
    cond_agrees (starts (set_if (is_open s) set) (head ts))
    (then_read (f s) (repeat set is_open f n) ts) (Ok (s, ts))
    (then_read (g s) (repeat set is_open g n) ts) (Ok (s, ts))
    (then_agrees (f s) (g s) (repeat set is_open f n) (repeat set is_open g n) (same s)
    (repeat_agrees set is_open f g same n) ts) (λ _. refl) h

pub item_agrees : {A : Type 0} (p q : Reader A) → Agrees p q → (state : List A × Bool)
    → Agrees (read_item p state) (read_item q state)
item_agrees p q same state =
    then_agrees (checked (may_start (not state.1)) p) (checked (may_start (not state.1)) q)
    (λ x. then_read (skipping (codes ";")) (λ ended. pure (state.0 ++ x ∷ [], ended)))
    (λ x. then_read (skipping (codes ";")) (λ ended. pure (state.0 ++ x ∷ [], ended)))
    (then_agrees (check (may_start (not state.1))) (check (may_start (not state.1))) (λ _. p)
    (λ _. q) (λ ts _. refl) (λ _. same))
    (λ x ts _. refl)

-- where no nest may be opened, none is
no_nest_agrees : {A B : Type 0} (t : Terminal A) (f g : A → Reader B)
    → Agrees (then_read (opening 0 t) f) (then_read (next t) g)
no_nest_agrees {A} {B} t f g [] h = refl
no_nest_agrees {A} {B} t f g (token ∷ ts) h = by_test (has t.set token) h
  where
    by_test : (b : Bool) → NotDeep
        (and_then (cond b (Err (too_deep (suc (length ts)))) (refused {A = A} (token ∷ ts)))
        (λ x. f x.0 x.1))
        → and_then (take_if b (t.value token) ts) (λ x. g x.0 x.1) ≡ and_then
        (cond b (Err (too_deep (suc (length ts)))) (refused {A = A} (token ∷ ts))) (λ x. f x.0 x.1)
    by_test true h = absurd h
    by_test false h = refl

module _ {N : Type 0} (El : N → Type 0) (shape_of : N → Shape)
    (body : (n : N) → Form El shape_of (shape_of n) (El n)) where
  abbrev Inner : ℕ → Type 0
  Inner zero = Unit {0}
  Inner (suc d) = (n : N) → Agrees (read_inside El shape_of body (suc d) n)
      (read_inside El shape_of body (suc (suc d)) n)

  form_agrees : (d : ℕ) → Inner d → {s : Shape} {A : Type 0} (form : Form El shape_of s A)
      → Agrees (reads El shape_of body d form) (reads El shape_of body (suc d) form)
  form_agrees d inner (forms.done value) ts h = refl
  form_agrees d inner (forms.terminal t) ts h = refl
  form_agrees d inner (forms.word_but texts value) ts h = refl
  form_agrees d inner (forms.followed p f) ts h =
      then_agrees (reads El shape_of body d p) (reads El shape_of body (suc d) p)
      (λ a. reads El shape_of body d (f a)) (λ a. reads El shape_of body (suc d) (f a))
      (form_agrees d inner p) (λ a. form_agrees d inner (f a)) ts h
  form_agrees d inner (forms.either {s = s} p q) ts h =
      cond_agrees (starts s.first (head ts)) (reads El shape_of body d p ts)
      (reads El shape_of body d q ts) (reads El shape_of body (suc d) p ts)
      (reads El shape_of body (suc d) q ts)
      (form_agrees d inner p ts) (form_agrees d inner q ts) h
  form_agrees d inner (forms.more_items {s = s} state p) ts h =
      repeat_agrees s.first (λ _. true) (read_item (reads El shape_of body d p))
      (read_item (reads El shape_of body (suc d) p))
      (item_agrees (reads El shape_of body d p) (reads El shape_of body (suc d) p)
      (form_agrees d inner p))
      (length ts) state ts h
  form_agrees d inner (forms.some_items {s = s} p) ts h =
      then_agrees (read_item (reads El shape_of body d p) ([], true))
      (read_item (reads El shape_of body (suc d) p) ([], true))
      (read_items s.first (reads El shape_of body d p))
      (read_items s.first (reads El shape_of body (suc d) p))
      (item_agrees (reads El shape_of body d p) (reads El shape_of body (suc d) p)
      (form_agrees d inner p) ([], true))
      (λ state us. repeat_agrees s.first (λ _. true) (read_item (reads El shape_of body d p))
      (read_item (reads El shape_of body (suc d) p))
      (item_agrees (reads El shape_of body d p) (reads El shape_of body (suc d) p)
      (form_agrees d inner p))
      (length us) state us)
      ts h
  form_agrees d inner (forms.unless {s = s} is_so p q) ts h =
      cond_agrees (starts s.first (head ts)) (reads El shape_of body d p ts)
      (only_if is_so (reads El shape_of body d q) refused ts) (reads El shape_of body (suc d) p ts)
      (only_if is_so (reads El shape_of body (suc d) q) refused ts) (form_agrees d inner p ts)
      (λ k. cond_agrees is_so (reads El shape_of body d q ts) (refused ts)
      (reads El shape_of body (suc d) q ts) (refused ts) (form_agrees d inner q ts) (λ _. refl) k) h
  form_agrees d inner (forms.turns {s = s} is_open state f) ts h =
      repeat_agrees s.first is_open (λ now. reads El shape_of body d (f now))
      (λ now. reads El shape_of body (suc d) (f now)) (λ now. form_agrees d inner (f now))
      (length ts) state ts h
  form_agrees d inner (forms.until {s = s} is_open state f last) ts h =
      then_agrees (loop s.first is_open (λ now. reads El shape_of body d (f now)) state)
      (loop s.first is_open (λ now. reads El shape_of body (suc d) (f now)) state)
      (λ now. only_if (is_open now) (reads El shape_of body d (last now)) (pure now))
      (λ now. only_if (is_open now) (reads El shape_of body (suc d) (last now)) (pure now))
      (λ us. repeat_agrees s.first is_open (λ now. reads El shape_of body d (f now))
      (λ now. reads El shape_of body (suc d) (f now)) (λ now. form_agrees d inner (f now))
      (length us) state us)
      (λ now us. cond_agrees (is_open now) (reads El shape_of body d (last now) us) (Ok (now, us))
      (reads El shape_of body (suc d) (last now) us) (Ok (now, us))
      (form_agrees d inner (last now) us) (λ _. refl)) ts h
  form_agrees d inner (forms.when {s = s} is_so p q) ts h =
      cond_agrees is_so (choose s.first (reads El shape_of body d p)
      (reads El shape_of body d q) ts) (reads El shape_of body d q ts)
      (choose s.first (reads El shape_of body (suc d) p) (reads El shape_of body (suc d) q) ts)
      (reads El shape_of body (suc d) q ts)
      (λ k. cond_agrees (starts s.first (head ts)) (reads El shape_of body d p ts)
      (reads El shape_of body d q ts) (reads El shape_of body (suc d) p ts)
      (reads El shape_of body (suc d) q ts)
      (form_agrees d inner p ts) (form_agrees d inner q ts) k)
      (form_agrees d inner q ts) h
  form_agrees zero inner (forms.nest t n) ts h =
      no_nest_agrees t (λ a. then_read (read_inside El shape_of body 0 n) (λ x. pure (a, x)))
      (λ a. then_read (read_inside El shape_of body 1 n) (λ x. pure (a, x))) ts h
  form_agrees (suc d) inner (forms.nest t n) ts h =
      then_agrees (next t) (next t)
      (λ a. then_read (read_inside El shape_of body (suc d) n) (λ x. pure (a, x)))
      (λ a. then_read (read_inside El shape_of body (suc (suc d)) n) (λ x. pure (a, x)))
      (λ ts _. refl)
      (λ a. then_agrees (read_inside El shape_of body (suc d) n)
      (read_inside El shape_of body (suc (suc d)) n) (λ x. pure (a, x)) (λ x. pure (a, x)) (inner n)
      (λ x ts _. refl))
      ts h
  form_agrees d inner (forms.line_start asked p) ts h =
      then_agrees (check (may_start asked)) (check (may_start asked))
      (λ _. reads El shape_of body d p) (λ _. reads El shape_of body (suc d) p) (λ us _. refl)
      (λ _. form_agrees d inner p) ts h
  form_agrees d inner (forms.same_line p) ts h =
      then_agrees (check stays) (check stays) (λ _. reads El shape_of body d p)
      (λ _. reads El shape_of body (suc d) p) (λ us _. refl) (λ _. form_agrees d inner p) ts h
  form_agrees d inner (forms.shaped claim p) ts h = form_agrees d inner p ts h

  inner_agrees : (d : ℕ) → Inner d
  inner_agrees zero = tt
  inner_agrees (suc d) = λ n. form_agrees d (inner_agrees d) (body n)

  -- One more nest changes no answer but that one is too deep; nor do more.
  more_agrees : (k d : ℕ) {s : Shape} {A : Type 0} (form : Form El shape_of s A)
      → Agrees (reads El shape_of body d form) (reads El shape_of body (k + d) form)
  more_agrees zero d form ts h = ap (λ e. reads El shape_of body e form ts)
      (let same : 0 + d ≡ d = omega arith in same)
  more_agrees (suc k) d form ts h =
      let one : reads El shape_of body (k + d) form ts ≡ reads El shape_of body d form ts =
      more_agrees k d form ts h in
      let two : suc k + d ≡ suc (k + d) = omega arith in
      ap (λ e. reads El shape_of body e form ts) two
      ∙ (form_agrees (k + d) (inner_agrees (k + d)) form ts (subst NotDeep (sym one) h) ∙ one)

  pub reads_deeper : (d e : ℕ) → d ≤ e → {s : Shape} {A : Type 0} (form : Form El shape_of s A)
      (ts : List Spelled)
      → NotDeep (reads El shape_of body d form ts)
      → reads El shape_of body e form ts ≡ reads El shape_of body d form ts
  reads_deeper d e less form ts h =
      let same : e ≡ (e - d) + d = omega arith in
      ap (λ n. reads El shape_of body n form ts) same ∙ more_agrees (e - d) d form ts h

  -- No spelling of any depth begins with a token that can't be taken and those before it.
  pub unexpected_at_any_depth : ((n : N) → (shape_of n).ok ≡ true)
      → (d : ℕ) {s : Shape} {A : Type 0} (form : Form El shape_of s A) → s.ok ≡ true
      → (ts : List Spelled) (left : ℕ) → reads El shape_of body d form ts ≡ Err (unexpected left)
      → Failed (Wide El shape_of body form) (Wide El shape_of body form) (Without s.ext) ts
      (unexpected left)
  unexpected_at_any_depth good d form ok ts left e =
      let bad = (law El shape_of body good d form ok).fails ts (unexpected left) e in
      record {
        before = bad.before;
        bad = bad.bad;
        split = bad.split;
        count = bad.count;
        opens = bad.opens;
        none = λ a prefix rest more h g same heads.
            let most : ℕ = max d h.0 in
            let again : reads El shape_of body most form ts ≡ Err (unexpected left)
            = reads_deeper d most (le-max_left d h.0) form ts (subst NotDeep (sym e) tt) ∙ e in
            let worse = (law El shape_of body good most form ok).fails ts (unexpected left) again in
            let ends = same_ends bad.before bad.bad worse.before worse.bad
            (sym bad.split ∙ worse.split) (bad.count ∙ sym worse.count) in
            worse.none a prefix rest more
            (deeper El shape_of body good h.0 most (le-max_right d h.0) form a prefix h.1) g
            (same ∙ ap (λ us. us ++ more) ends.0) (heads ∙ ap head ends.1);
        begun = bad.begun;
      }

-- Where no nest is named, none is too deep.

pub never_then : {A B : Type 0} (p : Reader A) (f : A → Reader B)
    → ((ts : List Spelled) → NotDeep (p ts)) → ((a : A) (ts : List Spelled) → NotDeep (f a ts))
    → (ts : List Spelled) → NotDeep (then_read p f ts)
never_then {A} p f one two ts = by_answer (p ts) (one ts)
  where
    by_answer : (r : Answer A) → NotDeep r → NotDeep (and_then r (λ x. f x.0 x.1))
    by_answer (Ok x) h = two x.0 x.1
    by_answer (Err (unexpected left)) h = tt
    by_answer (Err (too_deep left)) h = absurd h

never_cond : {A : Type 0} (b : Bool) (x y : Answer A) → NotDeep x → NotDeep y → NotDeep (cond b x y)
never_cond true x y h k = h
never_cond false x y h k = k

pub never_next : {A : Type 0} (t : Terminal A) (ts : List Spelled) → NotDeep (next t ts)
never_next t [] = tt
never_next t (token ∷ ts) = never_cond (has t.set token) (Ok (t.value token, ts))
    (Err (unexpected (suc (length ts)))) tt tt

never_check : (test : Option Spelled → Bool) (ts : List Spelled) → NotDeep (check test ts)
never_check test ts = never_cond (test (head ts)) (Ok (tt {0}, ts)) (refused ts) tt tt

pub never_word : {A : Type 0} (texts : List (List ℕ)) (value : Spelled → A) (ts : List Spelled)
    → NotDeep (checked (is_none_of texts) (next (a_word value)) ts)
never_word texts value ts =
    never_then (check (is_none_of texts)) (λ _. next (a_word value))
    (never_check (is_none_of texts)) (λ _. never_next (a_word value)) ts

never_repeat : {S : Type 0} (set : Set) (is_open : S → Bool) (f : S → Reader S)
    → ((s : S) (ts : List Spelled) → NotDeep (f s ts)) → (n : ℕ) (s : S) (ts : List Spelled)
    → NotDeep (repeat set is_open f n s ts)
never_repeat set is_open f each zero s ts =
    never_cond (starts (set_if (is_open s) set) (head ts)) (refused ts) (Ok (s, ts)) tt tt
never_repeat set is_open f each (suc n) s ts =
    never_cond (starts (set_if (is_open s) set) (head ts))
    (then_read (f s) (repeat set is_open f n) ts) (Ok (s, ts))
    (never_then (f s) (repeat set is_open f n) (each s) (never_repeat set is_open f each n) ts) tt

pub never_skip : (text : List ℕ) (ts : List Spelled) → NotDeep (skipping text ts)
never_skip text ts =
    never_cond (starts (quoted text) (head ts)) (then_read (next (quote text)) (λ _. pure true) ts)
    (Ok (false, ts))
    (never_then (next (quote text)) (λ _. pure true) (never_next (quote text)) (λ _ us. tt) ts) tt

never_item : {A : Type 0} (p : Reader A) → ((ts : List Spelled) → NotDeep (p ts))
    → (state : List A × Bool) (ts : List Spelled)
    → NotDeep (read_item p state ts)
never_item p each state ts =
    never_then (checked (may_start (not state.1)) p)
    (λ x. then_read (skipping (codes ";")) (λ ended. pure (state.0 ++ x ∷ [], ended)))
    (never_then (check (may_start (not state.1))) (λ _. p) (never_check (may_start (not state.1)))
    (λ _. each))
    (λ x. never_then (skipping (codes ";")) (λ ended. pure (state.0 ++ x ∷ [], ended))
    (never_skip (codes ";")) (λ _ us. tt)) ts

module _ {N : Type 0} (El : N → Type 0) (shape_of : N → Shape)
    (body : (n : N) → Form El shape_of (shape_of n) (El n)) (none : N → ⊥) where
  never : (d : ℕ) {s : Shape} {A : Type 0} (form : Form El shape_of s A) (ts : List Spelled)
      → NotDeep (reads El shape_of body d form ts)
  never d (forms.done value) ts = tt
  never d (forms.terminal t) ts = never_next t ts
  never d (forms.word_but texts value) ts = never_word texts value ts
  never d (forms.followed p f) ts = never_then (reads El shape_of body d p)
      (λ a. reads El shape_of body d (f a)) (never d p) (λ a. never d (f a)) ts
  never d (forms.either {s = s} p q) ts =
      never_cond (starts s.first (head ts)) (reads El shape_of body d p ts)
      (reads El shape_of body d q ts) (never d p ts) (never d q ts)
  never d (forms.more_items {s = s} state p) ts =
      never_repeat s.first (λ _. true) (read_item (reads El shape_of body d p))
      (never_item (reads El shape_of body d p) (never d p)) (length ts) state ts
  never d (forms.some_items {s = s} p) ts =
      never_then (read_item (reads El shape_of body d p) ([], true))
      (read_items s.first (reads El shape_of body d p))
      (never_item (reads El shape_of body d p) (never d p) ([], true))
      (λ state us. never_repeat s.first (λ _. true) (read_item (reads El shape_of body d p))
      (never_item (reads El shape_of body d p) (never d p)) (length us) state us)
      ts
  never d (forms.unless {s = s} is_so p q) ts =
      never_cond (starts s.first (head ts)) (reads El shape_of body d p ts)
      (only_if is_so (reads El shape_of body d q) refused ts) (never d p ts)
      (never_cond is_so (reads El shape_of body d q ts) (refused ts) (never d q ts) tt)
  never d (forms.turns {s = s} is_open state f) ts =
      never_repeat s.first is_open (λ now. reads El shape_of body d (f now))
      (λ now. never d (f now))
      (length ts) state ts
  never d (forms.until {s = s} is_open state f last) ts =
      never_then (loop s.first is_open (λ now. reads El shape_of body d (f now)) state)
      (λ now. only_if (is_open now) (reads El shape_of body d (last now)) (pure now))
      (λ us. never_repeat s.first is_open (λ now. reads El shape_of body d (f now))
      (λ now. never d (f now)) (length us) state us)
      (λ now us. never_cond (is_open now) (reads El shape_of body d (last now) us) (Ok (now, us))
      (never d (last now) us) tt) ts
  never d (forms.when {s = s} is_so p q) ts =
      never_cond is_so (choose s.first (reads El shape_of body d p) (reads El shape_of body d q) ts)
      (reads El shape_of body d q ts)
      (never_cond (starts s.first (head ts)) (reads El shape_of body d p ts)
      (reads El shape_of body d q ts) (never d p ts) (never d q ts)) (never d q ts)
  never d (forms.nest t n) ts = absurd (none n)
  never d (forms.line_start asked p) ts =
      never_then (check (may_start asked)) (λ _. reads El shape_of body d p)
      (never_check (may_start asked)) (λ _. never d p) ts
  never d (forms.same_line p) ts = never_then (check stays) (λ _. reads El shape_of body d p)
      (never_check stays) (λ _. never d p) ts
  never d (forms.shaped claim p) ts = never d p ts

  never_whole : {A : Type 0} (p : Reader A) → ((ts : List Spelled) → NotDeep (p ts))
      → (ts : List Spelled) → NotDeep (whole p ts)
  never_whole p each ts = never_then p (λ a. then_read finish (λ _. pure a)) each
      (λ a. never_then finish (λ _. pure a) never_finish (λ _ us. tt)) ts
    where
      never_finish : (us : List Spelled) → NotDeep (finish us)
      never_finish [] = tt
      never_finish (u ∷ us) = tt

  pub never_deep : (d : ℕ) {s : Shape} {A : Type 0} (form : Form El shape_of s A)
      (ts : List Spelled) (left : ℕ)
      → whole (reads El shape_of body d form) ts ≡ Err (too_deep left) → ⊥
  never_deep d form ts left e =
      subst NotDeep e (never_whole (reads El shape_of body d form) (never d form) ts)
