-- Items from a state on, one by one as a loop of the code reads them, with the state that is left.
use Rattle.std.proofs.Common.{◌≡◌, ℕ, Bool, true, false, not, List, [], ◌∷◌, ◌++◌}
use Rattle.std.proofs.Common.{refl, sym, ◌∙◌, codes}
use Rattle.std.specs.Prelude.{Ok}
use Rattle.sw_token.specs.Spelling.{Spelled}
use Rattle.sw_grammar_forms.specs.Sets.{starts}
use Rattle.sw_grammar_forms.specs.Form.{Shape, Form, is_item}
use Rattle.sw_grammar_forms.specs.Form.Form.{more_items}
use Rattle.sw_grammar_forms.specs.Relations.{head, may_start}
use Rattle.sw_grammar_forms.specs.Reader.{Answer, Reader, check, checked, skipping, read_item}
use Rattle.sw_grammar_forms.specs.Spells.{reads}
use Rattle.sw_grammar_forms.proofs.ReaderLaws.{bind_step, bind_stop}
use Rattle.sw_grammar_forms.proofs.FormLaws.{items_end, items_next}
use Rattle.sw_grammar_forms.proofs.ItemLoops.{Refuses}

module _ {N : Type 0} (El : N → Type 0) (shape_of : N → Shape)
    (body : (n : N) → Form El shape_of (shape_of n) (El n))
    (good : (n : N) → (shape_of n).ok ≡ true) (d : ℕ) {s : Shape} {A : Type 0}
    (item : Form El shape_of s A) (ok : is_item s ≡ true) where
  -- the answer of the items after those of a state
  abbrev pub Rest : List A × Bool → Reader (List A × Bool)
  Rest state = reads El shape_of body d (more_items state item)

  abbrev one : Reader A
  one = reads El shape_of body d item

  abbrev turn : List A → Bool → Reader (List A × Bool)
  turn xs ended = read_item one (xs, ended)

  begun : (ended : Bool) (x : A) (value : Unit {0}) (ts us vs : List Spelled)
      → check (may_start (not ended)) ts ≡ Ok (value, us) → one us ≡ Ok (x, vs)
      → checked (may_start (not ended)) one ts ≡ Ok (x, vs)
  begun ended x value ts us vs a b =
      bind_step (check (may_start (not ended)) ts) _ (value, us) _ a b

  turned : (xs : List A) (ended marked : Bool) (x : A) (value : Unit {0})
      (ts us vs ws : List Spelled) → check (may_start (not ended)) ts ≡ Ok (value, us)
      → one us ≡ Ok (x, vs) → skipping (codes ";") vs ≡ Ok (marked, ws)
      → turn xs ended ts ≡ Ok ((xs ++ x ∷ [], marked), ws)
  turned xs ended marked x value ts us vs ws a b c =
      bind_step (checked (may_start (not ended)) one ts) _ (x, vs) _
      (begun ended x value ts us vs a b)
      (bind_step (skipping (codes ";") vs) _ (marked, ws) _ c refl)

  -- The code's steps. `start` is the answer of all items.

  stops : (start : Answer (List A × Bool)) (ts : List Spelled) (xs : List A) (ended : Bool)
      → starts s.first (head ts) ≡ true → Rest (xs, ended) ts ≡ start
      → Refuses (checked (may_start (not ended)) one ts) start
  stops start ts xs ended goes same fault e =
      sym same ∙ (items_next El shape_of body good d item ok (xs, ended) ts goes
      ∙ bind_stop (turn xs ended ts) _ fault
      (bind_stop (checked (may_start (not ended)) one ts) _ fault e))

  pub stops_at_start : (start : Answer (List A × Bool)) (ts : List Spelled) (xs : List A)
      (ended : Bool) → starts s.first (head ts) ≡ true → Rest (xs, ended) ts ≡ start
      → Refuses (check (may_start (not ended)) ts) start
  stops_at_start start ts xs ended goes same fault e =
      stops start ts xs ended goes same fault
      (bind_stop (check (may_start (not ended)) ts) _ fault e)

  pub stops_at_item : (start : Answer (List A × Bool)) (ts us : List Spelled) (xs : List A)
      (ended : Bool) (value : Unit {0}) → starts s.first (head ts) ≡ true
      → Rest (xs, ended) ts ≡ start → check (may_start (not ended)) ts ≡ Ok (value, us)
      → Refuses (one us) start
  stops_at_item start ts us xs ended value goes same first fault e =
      stops start ts xs ended goes same fault
      (bind_step (check (may_start (not ended)) ts) _ (value, us) _ first e)

  pub one_turn : (start : Answer (List A × Bool)) (ts us vs ws : List Spelled) (xs : List A)
      (ended marked : Bool) (x : A) (value : Unit {0}) → starts s.first (head ts) ≡ true
      → Rest (xs, ended) ts ≡ start → check (may_start (not ended)) ts ≡ Ok (value, us)
      → one us ≡ Ok (x, vs) → skipping (codes ";") vs ≡ Ok (marked, ws)
      → Rest (xs ++ x ∷ [], marked) ws ≡ start
  one_turn start ts us vs ws xs ended marked x value goes same a b c =
      sym (items_next El shape_of body good d item ok (xs, ended) ts goes
      ∙ bind_step (turn xs ended ts) _ ((xs ++ x ∷ [], marked), ws) _
      (turned xs ended marked x value ts us vs ws a b c) refl) ∙ same

  pub all_read : (start : Answer (List A × Bool)) (ts : List Spelled) (xs : List A) (ended : Bool)
      → starts s.first (head ts) ≡ false → Rest (xs, ended) ts ≡ start
      → start ≡ Ok ((xs, ended), ts)
  all_read start ts xs ended ends same =
      sym same ∙ items_end El shape_of body good d item ok (xs, ended) ts ends
