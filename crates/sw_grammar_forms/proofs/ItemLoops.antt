-- Items that a `;` or the end of a line ends, turn by turn as a loop of the code reads them.
use Rattle.std.proofs.Common.{◌≡◌, ℕ, ◌<◌, Bool, true, false, not, List, [], ◌∷◌, ◌++◌, length}
use Rattle.std.proofs.Common.{refl, sym, ◌∙◌, codes}
use Rattle.std.specs.Prelude.{Ok, Err}
use Rattle.sw_token.specs.Spelling.{Spelled}
use Rattle.sw_grammar_forms.specs.Sets.{starts}
use Rattle.sw_grammar_forms.specs.Form.{Shape, Form, is_item}
use Rattle.sw_grammar_forms.specs.Relations.{head, may_start}
use Rattle.sw_grammar_forms.specs.Reader.{Fault, Answer, Reader, pure, then_read, check, checked, skipping}
use Rattle.sw_grammar_forms.specs.Reader.{read_item}
use Rattle.sw_grammar_forms.specs.Reader.Fault.{unexpected, too_deep}
use Rattle.sw_grammar_forms.specs.Spells.{reads}
use Rattle.sw_grammar_forms.specs.Form.Form.{more_items}
use Rattle.sw_grammar_forms.specs.Outcome.{Gives}
use Rattle.sw_grammar_forms.specs.declared.stop.Stop.{Stop}
use Rattle.sw_grammar_forms.specs.declared.stop.Stop.TheVariants as stops
use Rattle.sw_grammar_forms.proofs.ReaderLaws.{bind_step, bind_stop}
use Rattle.sw_grammar_forms.proofs.FormLaws.{items_end, items_next, item_shrinks}

-- a refusal of the first is one of the second
abbrev pub Refuses : {A B : Type 0} → Answer A → Answer B → Type 0
Refuses {A} {B} first second = (fault : Fault) → first ≡ Err fault → second ≡ Err fault

pub refuses : {A B : Type 0} (first : Answer A) (second : Answer B) (stop : Stop)
    (left other : List Spelled)
    → Refuses first second → Gives first (Err stop) left → Gives second (Err stop) other
refuses first second (stops.Unexpected count) left other passes gives =
    passes (unexpected count) gives
refuses first second (stops.TooDeep count) left other passes gives = passes (too_deep count) gives
refuses first second stops.Memory left other passes gives = tt

module _ {N : Type 0} (El : N → Type 0) (shape_of : N → Shape)
    (body : (n : N) → Form El shape_of (shape_of n) (El n))
    (good : (n : N) → (shape_of n).ok ≡ true) (d : ℕ) {s : Shape} {A : Type 0}
    (item : Form El shape_of s A) (ok : is_item s ≡ true) where
  -- the answer of the items, of which some are read
  abbrev pub Rest : List A → Bool → Reader (List A × Bool)
  Rest xs ended = reads El shape_of body d (more_items (xs, ended) item)

  -- the answer of all items
  abbrev pub AllItems : Reader (List A)
  AllItems = then_read (Rest [] true) (λ state. pure state.0)

  abbrev turn : List A → Bool → Reader (List A × Bool)
  turn xs ended = read_item (reads El shape_of body d item) (xs, ended)

  abbrev one_item : Reader A
  one_item = reads El shape_of body d item

  begun : (xs : List A) (ended : Bool) (x : A) (value : Unit {0}) (ts us vs : List Spelled)
      → check (may_start (not ended)) ts ≡ Ok (value, us) → one_item us ≡ Ok (x, vs)
      → checked (may_start (not ended)) one_item ts ≡ Ok (x, vs)
  begun xs ended x value ts us vs a b = bind_step (check (may_start (not ended)) ts) _ (value, us)
      (Ok (x, vs)) a b

  turned : (xs : List A) (ended marked : Bool) (x : A) (value : Unit {0})
      (ts us vs ws : List Spelled)
      → check (may_start (not ended)) ts ≡ Ok (value, us) → one_item us ≡ Ok (x, vs)
      → skipping (codes ";") vs ≡ Ok (marked, ws)
      → turn xs ended ts ≡ Ok ((xs ++ x ∷ [], marked), ws)
  turned xs ended marked x value ts us vs ws a b c =
      bind_step (checked (may_start (not ended)) one_item ts) _ (x, vs) _
      (begun xs ended x value ts us vs a b)
      (bind_step (skipping (codes ";") vs) _ (marked, ws) _ c refl)

  turn_refused_first : (xs : List A) (ended : Bool) (ts : List Spelled)
      → Refuses (check (may_start (not ended)) ts) (turn xs ended ts)
  turn_refused_first xs ended ts fault e =
      bind_stop (checked (may_start (not ended)) one_item ts) _ fault
      (bind_stop (check (may_start (not ended)) ts) _ fault e)

  turn_refused : (xs : List A) (ended : Bool) (value : Unit {0}) (ts us : List Spelled)
      → check (may_start (not ended)) ts ≡ Ok (value, us)
      → Refuses (one_item us) (turn xs ended ts)
  turn_refused xs ended value ts us a fault e =
      bind_stop (checked (may_start (not ended)) one_item ts) _ fault
      (bind_step (check (may_start (not ended)) ts) _ (value, us) (Err fault) a e)

  rest_refused : (xs : List A) (ended : Bool) (ts : List Spelled) → starts s.first (head ts) ≡ true
      → Refuses (turn xs ended ts) (Rest xs ended ts)
  rest_refused xs ended ts goes fault e =
      items_next El shape_of body good d item ok (xs, ended) ts goes
      ∙ bind_stop (turn xs ended ts) _ fault e

  all_refused : (ts : List Spelled) → Refuses (Rest [] true ts) (AllItems ts)
  all_refused ts fault e = bind_stop (Rest [] true ts) _ fault e

  -- The code's steps. `start` is what the loop began with.

  pub stops_at_start : (start ts : List Spelled) (xs : List A) (ended : Bool)
      → starts s.first (head ts) ≡ true
      → Rest xs ended ts ≡ Rest [] true start
      → Refuses (check (may_start (not ended)) ts) (AllItems start)
  stops_at_start start ts xs ended goes same fault e =
      all_refused start fault (sym same ∙ rest_refused xs ended ts goes fault
      (turn_refused_first xs ended ts fault e))

  pub stops_at_item : (start ts us : List Spelled) (xs : List A) (ended : Bool) (value : Unit {0})
      → starts s.first (head ts) ≡ true
      → Rest xs ended ts ≡ Rest [] true start → check (may_start (not ended)) ts ≡ Ok (value, us)
      → Refuses (one_item us) (AllItems start)
  stops_at_item start ts us xs ended value goes same first fault e =
      all_refused start fault (sym same ∙ rest_refused xs ended ts goes fault
      (turn_refused xs ended value ts us first fault e))

  pub one_turn : (start ts us vs ws : List Spelled) (xs : List A) (ended marked : Bool) (x : A)
      (value : Unit {0}) → starts s.first (head ts) ≡ true
      → Rest xs ended ts ≡ Rest [] true start → check (may_start (not ended)) ts ≡ Ok (value, us)
      → one_item us ≡ Ok (x, vs) → skipping (codes ";") vs ≡ Ok (marked, ws)
      → Rest (xs ++ x ∷ []) marked ws ≡ Rest [] true start
  one_turn start ts us vs ws xs ended marked x value goes same a b c =
      sym (items_next El shape_of body good d item ok (xs, ended) ts goes
      ∙ bind_step (turn xs ended ts) _ ((xs ++ x ∷ [], marked), ws) _
      (turned xs ended marked x value ts us vs ws a b c) refl) ∙ same

  pub shorter : (ts us vs ws : List Spelled) (xs : List A) (ended marked : Bool) (x : A)
      (value : Unit {0})
      → check (may_start (not ended)) ts ≡ Ok (value, us) → one_item us ≡ Ok (x, vs)
      → skipping (codes ";") vs ≡ Ok (marked, ws) → length ws < length ts
  shorter ts us vs ws xs ended marked x value a b c =
      item_shrinks El shape_of body good d item ok (xs, ended) (xs ++ x ∷ [], marked) ts ws
      (turned xs ended marked x value ts us vs ws a b c)

  pub all_read : (start ts : List Spelled) (xs : List A) (ended : Bool)
      → starts s.first (head ts) ≡ false
      → Rest xs ended ts ≡ Rest [] true start → AllItems start ≡ Ok (xs, ts)
  all_read start ts xs ended ends same =
      bind_step (Rest [] true start) _ ((xs, ended), ts) _
      (sym same ∙ items_end El shape_of body good d item ok (xs, ended) ts ends)
      refl
