-- Lists whose items have a token before each, turn by turn as a loop of the code reads them.
use Rattle.std.proofs.Common.{◌≡◌, ◌<◌, ℕ, Bool, true, false, cond, List, [], ◌∷◌, ◌++◌, length}
use Rattle.std.proofs.Common.{refl, sym, ◌∙◌, ap}
use Rattle.std.specs.Prelude.{Ok, Err}
use Rattle.sw_token.specs.Spelling.{Spelled}
use Rattle.sw_grammar_forms.specs.Sets.{has, starts, quoted}
use Rattle.sw_grammar_forms.specs.Form.{Shape, Form, Terminal, one, empty, seq, star}
use Rattle.sw_grammar_forms.specs.Form.Form.{done, terminal, followed, turns}
use Rattle.sw_grammar_forms.specs.Quotes.{quote}
use Rattle.sw_grammar_forms.specs.Relations.{head}
use Rattle.sw_grammar_forms.specs.Reader.{Answer, Reader, pure, and_then, then_read, take_if, next}
use Rattle.sw_grammar_forms.specs.Reader.{skipping}
use Rattle.sw_grammar_forms.specs.Spells.{reads}
use Rattle.sw_grammar_forms.proofs.ReaderLaws.{ok_parts, bind_step, bind_stop}
use Rattle.sw_grammar_forms.proofs.FormLaws.{loop_stops, loop_goes_on, turn_takes}
use Rattle.sw_grammar_forms.proofs.ItemLoops.{Refuses}

-- What was taken was there.
pub taken_starts : {A : Type 0} (t : Terminal A) (ts : List Spelled) (a : A) (us : List Spelled)
    → next t ts ≡ Ok (a, us) → starts t.set (head ts) ≡ true
taken_starts t [] a us e = absurd (cc)
taken_starts t (token ∷ ts) a us e = by_test (has t.set token) e
  where
    by_test : (b : Bool) → take_if b (t.value token) ts ≡ Ok (a, us) → b ≡ true
    by_test true k = refl
    by_test false k = absurd (cc)

module _ {N : Type 0} (El : N → Type 0) (shape_of : N → Shape)
    (body : (n : N) → Form El shape_of (shape_of n) (El n))
    (good : (n : N) → (shape_of n).ok ≡ true) (d : ℕ) {s : Shape} {A B C : Type 0}
    (t : Terminal A) (item : Form El shape_of s B) (make : A → B → C)
    (ok : (star (seq (one t) (seq s empty))).ok ≡ true) where
  -- one turn
  abbrev turn : List C → Form El shape_of (seq (one t) (seq s empty)) (List C)
  turn xs = followed (terminal t) (λ a. followed item (λ b. done (xs ++ make a b ∷ [])))

  -- the answer of the list, of which some items are read
  abbrev pub Rest : List C → Reader (List C)
  Rest xs = reads El shape_of body d (turns (λ _. true) xs turn)

  -- the token and the item after it
  abbrev pub One : Reader C
  One = then_read (next t) (λ a. then_read (reads El shape_of body d item)
      (λ b. pure (make a b)))

  with_one : (xs : List C) (ts : List Spelled)
      → reads El shape_of body d (turn xs) ts
      ≡ then_read One (λ x. pure (xs ++ x ∷ [])) ts
  with_one xs ts = by_token (next t ts)
    where
      by_item : (a : A) (r : Answer B)
          → and_then r (λ x. pure (xs ++ make a x.0 ∷ []) x.1)
          ≡ and_then (and_then r (λ x. pure (make a x.0) x.1)) (λ y. pure (xs ++ y.0 ∷ []) y.1)
      by_item a (Ok x) = refl
      by_item a (Err fault) = refl

      by_token : (r : Answer A)
          → and_then r (λ x. and_then (reads El shape_of body d item x.1)
          (λ y. pure (xs ++ make x.0 y.0 ∷ []) y.1))
          ≡ and_then (and_then r (λ x. and_then (reads El shape_of body d item x.1)
          (λ y. pure (make x.0 y.0) y.1))) (λ z. pure (xs ++ z.0 ∷ []) z.1)
      by_token (Ok x) = by_item x.0 (reads El shape_of body d item x.1)
      by_token (Err fault) = refl

  turned : (xs : List C) (ts us : List Spelled) (x : C) → One ts ≡ Ok (x, us)
      → reads El shape_of body d (turn xs) ts ≡ Ok (xs ++ x ∷ [], us)
  turned xs ts us x e = with_one xs ts ∙ bind_step (One ts) _ (x, us) _ e refl

  one_starts : (ts us : List Spelled) (x : C) → One ts ≡ Ok (x, us)
      → starts t.set (head ts) ≡ true
  one_starts ts us x e = by_token (next t ts) refl e
    where
      by_token : (r : Answer A) → next t ts ≡ r
          → and_then r (λ y. and_then (reads El shape_of body d item y.1)
          (λ z. pure (make y.0 z.0) z.1)) ≡ Ok (x, us)
          → starts t.set (head ts) ≡ true
      by_token (Ok y) is k = taken_starts t ts y.0 y.1 is
      by_token (Err fault) is k = absurd (cc)

  -- The code's steps. `start` is the answer of what the loop began with.

  pub one_turn : (start : Answer (List C)) (ts us : List Spelled) (xs : List C) (x : C)
      → Rest xs ts ≡ start → One ts ≡ Ok (x, us) → Rest (xs ++ x ∷ []) us ≡ start
  one_turn start ts us xs x same e =
      sym (loop_goes_on El shape_of body good d (λ _. true) turn ok xs ts (one_starts ts us x e)
      ∙ bind_step (reads El shape_of body d (turn xs) ts) _ (xs ++ x ∷ [], us) _
      (turned xs ts us x e) refl) ∙ same

  pub stops_at_one : (start : Answer (List C)) (ts : List Spelled) (xs : List C)
      → starts t.set (head ts) ≡ true → Rest xs ts ≡ start → Refuses (One ts) start
  stops_at_one start ts xs goes same fault e =
      sym same ∙ (loop_goes_on El shape_of body good d (λ _. true) turn ok xs ts goes
      ∙ bind_stop (reads El shape_of body d (turn xs) ts) _ fault
      (with_one xs ts ∙ bind_stop (One ts) _ fault e))

  pub shorter : (ts us : List Spelled) (x : C) → One ts ≡ Ok (x, us) → length us < length ts
  shorter ts us x e = turn_takes El shape_of body good d turn ok [] (x ∷ []) ts us
      (turned [] ts us x e)

  pub all_read : (start : Answer (List C)) (ts : List Spelled) (xs : List C)
      → starts t.set (head ts) ≡ false → Rest xs ts ≡ start → start ≡ Ok (xs, ts)
  all_read start ts xs ends same =
      sym same ∙ loop_stops El shape_of body good d (λ _. true) turn ok xs ts ends

-- The same where the token is a text that is skipped, and nothing is kept of it.

never : {A : Type 0} → true ≡ false → A
never clash = absurd (let other : true ≡ false = clash in cc)

pub skipped_is : (text : List ℕ) (ts us : List Spelled) → skipping text ts ≡ Ok (true, us)
    → (at : ℕ) × (next (quote text) ts ≡ Ok (at, us))
skipped_is text ts us e = by_test (starts (quoted text) (head ts)) e
  where
    by_answer : (r : Answer ℕ) → next (quote text) ts ≡ r
        → and_then r (λ x. pure true x.1) ≡ Ok (true, us)
        → (at : ℕ) × (next (quote text) ts ≡ Ok (at, us))
    by_answer (Ok x) is k = (x.0, is ∙ ap (λ vs. Ok (x.0, vs)) (ok_parts k).1)
    by_answer (Err fault) is k = absurd (cc)

    by_test : (b : Bool)
        → cond b (then_read (next (quote text)) (λ _. pure true) ts) (Ok (false, ts))
        ≡ Ok (true, us)
        → (at : ℕ) × (next (quote text) ts ≡ Ok (at, us))
    by_test true k = by_answer (next (quote text) ts) refl k
    by_test false k = never (sym (ok_parts k).0)

pub passed_is : (text : List ℕ) (ts us : List Spelled) → skipping text ts ≡ Ok (false, us)
    → (starts (quoted text) (head ts) ≡ false) × (ts ≡ us)
passed_is text ts us e = by_test (starts (quoted text) (head ts)) refl e
  where
    by_answer : (r : Answer ℕ) → and_then r (λ x. pure true x.1) ≡ Ok (false, us) → ⊥
    by_answer (Ok x) k = never (ok_parts k).0
    by_answer (Err fault) k = absurd (cc)

    by_test : (b : Bool) → starts (quoted text) (head ts) ≡ b
        → cond b (then_read (next (quote text)) (λ _. pure true) ts) (Ok (false, ts))
        ≡ Ok (false, us)
        → (starts (quoted text) (head ts) ≡ false) × (ts ≡ us)
    by_test true is k = absurd (by_answer (next (quote text) ts) k)
    by_test false is k = (is, (ok_parts k).1)

module _ {N : Type 0} (El : N → Type 0) (shape_of : N → Shape)
    (body : (n : N) → Form El shape_of (shape_of n) (El n))
    (good : (n : N) → (shape_of n).ok ≡ true) (d : ℕ) {s : Shape} {A : Type 0}
    (text : List ℕ) (item : Form El shape_of s A)
    (ok : (star (seq (one (quote text)) (seq s empty))).ok ≡ true) where
  -- the answer of the list, of which some items are read
  abbrev pub Listed : List A → Reader (List A)
  Listed xs = Rest El shape_of body good d (quote text) item (λ _ x. x) ok xs

  one_is : (ts us vs : List Spelled) (x : A) → skipping text ts ≡ Ok (true, us)
      → reads El shape_of body d item us ≡ Ok (x, vs)
      → One El shape_of body good d (quote text) item (λ _ x. x) ok ts ≡ Ok (x, vs)
  one_is ts us vs x a b = let at = skipped_is text ts us a in
      bind_step (next (quote text) ts) _ (at.0, us) _ at.1
      (bind_step (reads El shape_of body d item us) _ (x, vs) _ b refl)

  pub list_turn : (start : Answer (List A)) (ts us vs : List Spelled) (xs : List A) (x : A)
      → Listed xs ts ≡ start → skipping text ts ≡ Ok (true, us)
      → reads El shape_of body d item us ≡ Ok (x, vs) → Listed (xs ++ x ∷ []) vs ≡ start
  list_turn start ts us vs xs x same a b =
      one_turn El shape_of body good d (quote text) item (λ _ x. x) ok start ts vs xs x same
      (one_is ts us vs x a b)

  pub list_stops : (start : Answer (List A)) (ts us : List Spelled) (xs : List A)
      → Listed xs ts ≡ start → skipping text ts ≡ Ok (true, us)
      → Refuses (reads El shape_of body d item us) start
  list_stops start ts us xs same a fault e = let at = skipped_is text ts us a in
      stops_at_one El shape_of body good d (quote text) item (λ _ x. x) ok start ts xs
      (taken_starts (quote text) ts at.0 us at.1) same fault
      (bind_step (next (quote text) ts) _ (at.0, us) _ at.1
      (bind_stop (reads El shape_of body d item us) _ fault e))

  pub list_shorter : (ts us vs : List Spelled) (x : A) → skipping text ts ≡ Ok (true, us)
      → reads El shape_of body d item us ≡ Ok (x, vs) → length vs < length ts
  list_shorter ts us vs x a b =
      shorter El shape_of body good d (quote text) item (λ _ x. x) ok ts vs x
      (one_is ts us vs x a b)

  pub list_read : (start : Answer (List A)) (ts us : List Spelled) (xs : List A)
      → Listed xs ts ≡ start → skipping text ts ≡ Ok (false, us) → start ≡ Ok (xs, us)
  list_read start ts us xs same a = let is = passed_is text ts us a in
      all_read El shape_of body good d (quote text) item (λ _ x. x) ok start ts xs is.0 same
      ∙ ap (λ vs. Ok (xs, vs)) is.1
