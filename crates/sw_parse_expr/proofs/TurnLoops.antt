-- Turns from a state on, one by one as a loop of the code takes them.
use Rattle.std.proofs.Common.{◌≡◌, ℕ, ◌<◌, Bool, true, false, List, length, refl, sym, ◌∙◌}
use Rattle.std.specs.Prelude.{Option, Ok}
use Rattle.sw_token.specs.Spelling.{Spelled}
use Rattle.sw_grammar_forms.specs.Sets.{Set, starts}
use Rattle.sw_grammar_forms.specs.Form.{Shape, Form, star}
use Rattle.sw_grammar_forms.specs.Form.Form.{turns}
use Rattle.sw_grammar_forms.specs.Relations.{head}
use Rattle.sw_grammar_forms.specs.Reader.{Answer, Reader, set_if}
use Rattle.sw_grammar_forms.specs.Spells.{reads}
use Rattle.sw_grammar_forms.proofs.ReaderLaws.{bind_step, bind_stop}
use Rattle.sw_grammar_forms.proofs.LoopLaws.{no_token}
use Rattle.sw_grammar_forms.proofs.FormLaws.{loop_stops, loop_goes_on, turn_takes}
use Rattle.sw_grammar_forms.proofs.ItemLoops.{Refuses}

pub open_starts : (is_open : Bool) (set : Set) (token : Option Spelled) → is_open ≡ true
    → starts set token ≡ true → starts (set_if is_open set) token ≡ true
open_starts true set token is goes = goes
open_starts false set token is goes = absurd (cc)

pub open_ends : (is_open : Bool) (set : Set) (token : Option Spelled)
    → starts set token ≡ false → starts (set_if is_open set) token ≡ false
open_ends true set token ends = ends
open_ends false set token ends = no_token token

pub closed_ends : (is_open : Bool) (set : Set) (token : Option Spelled) → is_open ≡ false
    → starts (set_if is_open set) token ≡ false
closed_ends true set token is = absurd (cc)
closed_ends false set token is = no_token token

module _ {N : Type 0} (El : N → Type 0) (shape_of : N → Shape)
    (body : (n : N) → Form El shape_of (shape_of n) (El n))
    (good : (n : N) → (shape_of n).ok ≡ true) (d : ℕ) {s : Shape} {S : Type 0}
    (is_open : S → Bool) (turn : S → Form El shape_of s S) (ok : (star s).ok ≡ true) where
  -- the answer of all turns from a state on
  abbrev pub Rest : S → Reader S
  Rest state = reads El shape_of body d (turns is_open state turn)

  abbrev one : S → Reader S
  one state = reads El shape_of body d (turn state)

  -- The code's steps. `start` is the answer of all turns.

  pub one_turn : (start : Answer S) (ts us : List Spelled) (state next : S)
      → starts (set_if (is_open state) s.first) (head ts) ≡ true → Rest state ts ≡ start
      → one state ts ≡ Ok (next, us) → Rest next us ≡ start
  one_turn start ts us state next goes same e =
      sym (loop_goes_on El shape_of body good d is_open turn ok state ts goes
      ∙ bind_step (one state ts) _ (next, us) _ e refl) ∙ same

  pub stops_at_turn : (start : Answer S) (ts : List Spelled) (state : S)
      → starts (set_if (is_open state) s.first) (head ts) ≡ true → Rest state ts ≡ start
      → Refuses (one state ts) start
  stops_at_turn start ts state goes same fault e =
      sym same ∙ (loop_goes_on El shape_of body good d is_open turn ok state ts goes
      ∙ bind_stop (one state ts) _ fault e)

  pub shorter : (ts us : List Spelled) (state next : S) → one state ts ≡ Ok (next, us)
      → length us < length ts
  shorter ts us state next e = turn_takes El shape_of body good d turn ok state next ts us e

  pub all_read : (start : Answer S) (ts : List Spelled) (state : S)
      → starts (set_if (is_open state) s.first) (head ts) ≡ false → Rest state ts ≡ start
      → start ≡ Ok (state, ts)
  all_read start ts state ends same =
      sym same ∙ loop_stops El shape_of body good d is_open turn ok state ts ends
