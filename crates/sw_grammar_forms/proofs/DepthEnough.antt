-- With as many nests as tokens, none is too deep: each opens with a token.
use Rattle.std.proofs.Common.{◌≡◌, ℕ, zero, suc, ◌≤◌, Bool, true, false, cond, not, List, []}
use Rattle.std.proofs.Common.{◌∷◌, ◌++◌, length, subst, arith, codes}
use Rattle.std.specs.Prelude.{Option, Ok, Err}
use Rattle.sw_token.specs.Spelling.{Spelled}
use Rattle.sw_grammar_forms.specs.Sets.{Set, has, starts, quoted}
use Rattle.sw_grammar_forms.specs.Form.{Shape, Terminal, Form, a_word}
use Rattle.sw_grammar_forms.specs.Form as forms
use Rattle.sw_grammar_forms.specs.Quotes.{quote}
use Rattle.sw_grammar_forms.specs.Relations.{head, may_start, stays, is_none_of}
use Rattle.sw_grammar_forms.specs.Reader.{Answer, Reader, refused, pure, and_then, then_read}
use Rattle.sw_grammar_forms.specs.Reader.{take_if, next, opening, check, checked, choose, set_if, repeat}
use Rattle.sw_grammar_forms.specs.Reader.{loop, read_item, read_items, skipping, only_if, finish, whole}
use Rattle.sw_grammar_forms.specs.Reader.Fault.{unexpected, too_deep}
use Rattle.sw_grammar_forms.specs.Spells.{read_inside, reads}

-- no nest is too deep, and no tokens are made
abbrev pub IsCalm : {A : Type 0} → ℕ → Answer A → Type 0
IsCalm count (Ok x) = length x.1 ≤ count
IsCalm count (Err (unexpected left)) = Unit {0}
IsCalm count (Err (too_deep left)) = ⊥

-- of at most `depth` tokens
abbrev Calm : {A : Type 0} → ℕ → Reader A → Type 0
Calm depth p = (ts : List Spelled) → length ts ≤ depth → IsCalm (length ts) (p ts)

IsCalm-more : {A : Type 0} (m n : ℕ) (r : Answer A) → m ≤ n → IsCalm m r → IsCalm n r
IsCalm-more m n (Ok x) less h = omega arith
IsCalm-more m n (Err (unexpected left)) less h = tt
IsCalm-more m n (Err (too_deep left)) less h = h

calm_after : {A B : Type 0} (count depth : ℕ) (r : Answer A) (f : A → Reader B) → count ≤ depth
    → IsCalm count r → ((a : A) → Calm depth (f a)) → IsCalm count (and_then r (λ x. f x.0 x.1))
calm_after count depth (Ok x) f less h each =
    IsCalm-more (length x.1) count (f x.0 x.1) h (each x.0 x.1 (omega arith))
calm_after count depth (Err (unexpected left)) f less h each = tt
calm_after count depth (Err (too_deep left)) f less h each = h

calm_then : {A B : Type 0} (depth : ℕ) (p : Reader A) (f : A → Reader B) → Calm depth p
    → ((a : A) → Calm depth (f a)) → Calm depth (then_read p f)
calm_then depth p f one each ts less = calm_after (length ts) depth (p ts) f less (one ts less) each

calm_pure : {A : Type 0} (depth : ℕ) (a : A) → Calm depth (pure a)
calm_pure depth a ts less = omega arith

calm_cond : {A : Type 0} (count : ℕ) (b : Bool) (x y : Answer A) → IsCalm count x → IsCalm count y
    → IsCalm count (cond b x y)
calm_cond count true x y h k = h
calm_cond count false x y h k = k

calm_next : {A : Type 0} (depth : ℕ) (t : Terminal A) → Calm depth (next t)
calm_next depth t [] less = tt
calm_next depth t (token ∷ ts) less =
    calm_cond (length (token ∷ ts)) (has t.set token) (Ok (t.value token, ts))
    (Err (unexpected (suc (length ts)))) (omega arith) tt

calm_check : (depth : ℕ) (test : Option Spelled → Bool) → Calm depth (check test)
calm_check depth test ts less =
    calm_cond (length ts) (test (head ts)) (Ok (tt {0}, ts)) (refused ts) (omega arith) tt

calm_choose : {A : Type 0} (depth : ℕ) (set : Set) (p q : Reader A) → Calm depth p → Calm depth q
    → Calm depth (choose set p q)
calm_choose depth set p q one two ts less =
    calm_cond (length ts) (starts set (head ts)) (p ts) (q ts) (one ts less) (two ts less)

calm_skip : (depth : ℕ) (text : List ℕ) → Calm depth (skipping text)
calm_skip depth text =
    calm_choose depth (quoted text) (then_read (next (quote text)) (λ _. pure true)) (pure false)
    (calm_then depth (next (quote text)) (λ _. pure true) (calm_next depth (quote text))
    (λ _. calm_pure depth true)) (calm_pure depth false)

calm_repeat : {S : Type 0} (depth : ℕ) (set : Set) (is_open : S → Bool) (f : S → Reader S)
    → ((s : S) → Calm depth (f s)) → (n : ℕ) (s : S) → Calm depth (repeat set is_open f n s)
calm_repeat depth set is_open f each zero s =
    calm_choose depth (set_if (is_open s) set) refused (pure s) (λ ts less. tt) (calm_pure depth s)
calm_repeat depth set is_open f each (suc n) s =
    calm_choose depth (set_if (is_open s) set) (then_read (f s) (repeat set is_open f n)) (pure s)
    (calm_then depth (f s) (repeat set is_open f n) (each s)
    (calm_repeat depth set is_open f each n)) (calm_pure depth s)

calm_loop : {S : Type 0} (depth : ℕ) (set : Set) (is_open : S → Bool) (f : S → Reader S)
    → ((s : S) → Calm depth (f s)) → (s : S) → Calm depth (loop set is_open f s)
calm_loop depth set is_open f each s ts less =
    calm_repeat depth set is_open f each (length ts) s ts less

calm_item : {A : Type 0} (depth : ℕ) (p : Reader A) → Calm depth p → (state : List A × Bool)
    → Calm depth (read_item p state)
calm_item {A} depth p each state =
    calm_then depth (checked (may_start (not state.1)) p)
    (λ x. then_read (skipping (codes ";")) (λ ended. pure (state.0 ++ x ∷ [], ended)))
    (calm_then depth (check (may_start (not state.1))) (λ _. p)
    (calm_check depth (may_start (not state.1))) (λ _. each))
    (λ x. calm_then depth (skipping (codes ";")) (λ ended. pure (state.0 ++ x ∷ [], ended))
    (calm_skip depth (codes ";"))
    (λ ended. calm_pure {A = List A × Bool} depth (state.0 ++ x ∷ [], ended)))

-- a token that opens a nest leaves fewer tokens
calm_opened : {A B : Type 0} (depth : ℕ) (t : Terminal A) (f : A → Reader B)
    → ((a : A) → Calm depth (f a)) → Calm (suc depth) (then_read (next t) f)
calm_opened depth t f each [] less = tt
calm_opened depth t f each (token ∷ ts) less = by_test (has t.set token)
  where
    by_test : (b : Bool)
        → IsCalm (length (token ∷ ts)) (and_then (take_if b (t.value token) ts) (λ x. f x.0 x.1))
    by_test true = IsCalm-more (length ts) (length (token ∷ ts)) (f (t.value token) ts)
        (omega arith)
        (each (t.value token) ts (omega arith))
    by_test false = tt

calm_closed : {A B : Type 0} (t : Terminal A) (f : A → Reader B)
    → Calm 0 (then_read (opening 0 t) f)
calm_closed t f [] less = tt
calm_closed t f (token ∷ ts) less = absurd (omega arith)

module _ {N : Type 0} (El : N → Type 0) (shape_of : N → Shape)
    (body : (n : N) → Form El shape_of (shape_of n) (El n)) where
  abbrev Inner : ℕ → Type 0
  Inner zero = Unit {0}
  Inner (suc d) = (n : N) → Calm d (read_inside El shape_of body (suc d) n)

  calm_form : (d : ℕ) → Inner d → {s : Shape} {A : Type 0} (form : Form El shape_of s A)
      → Calm d (reads El shape_of body d form)
  calm_form d inner (forms.done value) = calm_pure d value
  calm_form d inner (forms.terminal t) = calm_next d t
  calm_form d inner (forms.word_but texts value) =
      calm_then d (check (is_none_of texts)) (λ _. next (a_word value))
      (calm_check d (is_none_of texts)) (λ _. calm_next d (a_word value))
  calm_form d inner (forms.followed p f) =
      calm_then d (reads El shape_of body d p) (λ a. reads El shape_of body d (f a))
      (calm_form d inner p) (λ a. calm_form d inner (f a))
  calm_form d inner (forms.either {s = s} p q) =
      calm_choose d s.first (reads El shape_of body d p) (reads El shape_of body d q)
      (calm_form d inner p) (calm_form d inner q)
  calm_form d inner (forms.turns {s = s} is_open state f) =
      calm_loop d s.first is_open (λ now. reads El shape_of body d (f now))
      (λ now. calm_form d inner (f now)) state
  calm_form d inner (forms.until {s = s} is_open state f last) =
      calm_then d (loop s.first is_open (λ now. reads El shape_of body d (f now)) state)
      (λ now. only_if (is_open now) (reads El shape_of body d (last now)) (pure now))
      (calm_loop d s.first is_open (λ now. reads El shape_of body d (f now))
      (λ now. calm_form d inner (f now)) state)
      (λ now us fewer. calm_cond (length us) (is_open now) (reads El shape_of body d (last now) us)
      (Ok (now, us)) (calm_form d inner (last now) us fewer) (calm_pure d now us fewer))
  calm_form d inner (forms.more_items {s = s} state p) =
      calm_loop d s.first (λ _. true) (read_item (reads El shape_of body d p))
      (calm_item d (reads El shape_of body d p) (calm_form d inner p)) state
  calm_form d inner (forms.some_items {s = s} p) =
      calm_then d (read_item (reads El shape_of body d p) ([], true))
      (read_items s.first (reads El shape_of body d p))
      (calm_item d (reads El shape_of body d p) (calm_form d inner p) ([], true))
      (calm_loop d s.first (λ _. true) (read_item (reads El shape_of body d p))
      (calm_item d (reads El shape_of body d p) (calm_form d inner p)))
  calm_form d inner (forms.when {s = s} is_so p q) = λ ts less.
      calm_cond (length ts) is_so
      (choose s.first (reads El shape_of body d p) (reads El shape_of body d q) ts)
      (reads El shape_of body d q ts)
      (calm_choose d s.first (reads El shape_of body d p) (reads El shape_of body d q)
      (calm_form d inner p) (calm_form d inner q) ts less) (calm_form d inner q ts less)
  calm_form d inner (forms.unless {s = s} is_so p q) =
      calm_choose d s.first (reads El shape_of body d p)
      (only_if is_so (reads El shape_of body d q) refused) (calm_form d inner p)
      (λ us fewer. calm_cond (length us) is_so (reads El shape_of body d q us) (refused us)
      (calm_form d inner q us fewer) tt)
  calm_form zero inner (forms.nest t n) =
      calm_closed t (λ a. then_read (read_inside El shape_of body 0 n) (λ x. pure (a, x)))
  calm_form (suc d) inner (forms.nest {A = B} t n) =
      calm_opened d t (λ a. then_read (read_inside El shape_of body (suc d) n) (λ x. pure (a, x)))
      (λ a. calm_then d (read_inside El shape_of body (suc d) n) (λ x. pure (a, x)) (inner n)
      (λ x. calm_pure {A = B × El n} d (a, x)))
  calm_form d inner (forms.line_start asked p) =
      calm_then d (check (may_start asked)) (λ _. reads El shape_of body d p)
      (calm_check d (may_start asked)) (λ _. calm_form d inner p)
  calm_form d inner (forms.same_line p) =
      calm_then d (check stays) (λ _. reads El shape_of body d p) (calm_check d stays)
      (λ _. calm_form d inner p)
  calm_form d inner (forms.shaped claim p) = calm_form d inner p

  inner_calm : (d : ℕ) → Inner d
  inner_calm zero = tt
  inner_calm (suc d) = λ n. calm_form d (inner_calm d) (body n)

  calm_finish : (depth : ℕ) → Calm depth finish
  calm_finish depth [] less = omega arith
  calm_finish depth (t ∷ ts) less = tt

  -- A reader with as many nests as tokens names none as too deep.
  pub deep_enough : {s : Shape} {A : Type 0} (form : Form El shape_of s A) (ts : List Spelled)
      (left : ℕ) → whole (reads El shape_of body (length ts) form) ts ≡ Err (too_deep left) → ⊥
  deep_enough form ts left e =
      let calm = calm_then (length ts) (reads El shape_of body (length ts) form)
      (λ a. then_read finish (λ _. pure a)) (calm_form (length ts) (inner_calm (length ts)) form)
      (λ a. calm_then (length ts) finish (λ _. pure a) (calm_finish (length ts))
      (λ _. calm_pure (length ts) a)) ts (omega arith) in
      subst (λ r. IsCalm (length ts) r) e calm
