-- The statements of a text, turn by turn as the code's loops read them. The code keeps what they
-- stand for in one list.
use Rattle.std.proofs.Common.{◌≡◌, ℕ, ◌<◌, Bool, true, false, not, List, [], ◌∷◌, ◌++◌, length}
use Rattle.std.proofs.Common.{codes, refl, ap, ◌∙◌, append-nil}
use Rattle.std.proofs.lemmas.List.Concat.{flat_map-append}
use Rattle.std.specs.Prelude.{Ok}
use Rattle.sw_token.specs.Spelling.{Spelled}
use Rattle.sw_grammar_forms.specs.Form.Form.{more_items}
use Rattle.sw_grammar_forms.specs.Sets.{starts}
use Rattle.sw_grammar_forms.specs.Relations.{head, may_start}
use Rattle.sw_grammar_forms.specs.Reader.{Answer, Reader, and_then, check, skipping}
use Rattle.sw_grammar_forms.proofs.ItemLoops as loops
use Rattle.sw_grammar_forms.proofs.ItemLoops.{Refuses}
use Rattle.sw_grammar_forms.proofs.ReaderLaws.{bind_step, bind_stop}
use Rattle.sw_tree.specs.declared.stmt.Stmt.{Stmt}
use Rattle.sw_grammar.specs.Around.{Around}
use Rattle.sw_grammar.specs.Nests.{El, shape_of}
use Rattle.sw_grammar.specs.Grammar.{body, good}
use Rattle.sw_grammar.specs.Stmts.{joined, stmt}
use Rattle.sw_grammar.specs.Tokens.{stmt_first}
use Rattle.sw_grammar.specs.Reading.{read}
use Rattle.sw_parse_expr.proofs.ItemTurns as turns

joined_more : (parts : List (List Stmt)) (part : List Stmt)
    → joined (parts ++ part ∷ []) ≡ joined parts ++ part
joined_more parts part =
    flat_map-append (λ (some : List Stmt). some) parts (part ∷ [])
    ∙ ap (λ more. joined parts ++ more) (append-nil part)

-- what statements of a text stand for, one after another, and whether a `;` ends the last
abbrev pub State : Type 0
State = List (List Stmt) × Bool

module _ (around : Around) (depth : ℕ) where
  -- the answer of all statements from some on
  abbrev pub Rest : State → Reader State
  Rest state = read around depth (more_items state (stmt around))

  abbrev one : Reader (List Stmt)
  one = read around depth (stmt around)

  -- What is read so far stands for these statements, and with what is left gives this answer.
  pub record IsOn (start : Answer State) (ts : List Spelled) (xs : List Stmt)
      (ended : Bool) : Type 0 where
    pub parts : List (List Stmt)
    pub are : joined parts ≡ xs
    pub same : Rest (parts, ended) ts ≡ start

  -- The loop begins with these.
  pub begun : (parts : List (List Stmt)) (xs : List Stmt) (ended : Bool) (ts : List Spelled)
      → joined parts ≡ xs → IsOn (Rest (parts, ended) ts) ts xs ended
  begun parts xs ended ts are = record { parts = parts; are = are; same = refl }

  module _ (start : Answer State) (ts : List Spelled) (xs : List Stmt) (ended : Bool)
      (on : IsOn start ts xs ended) where
    -- `f` makes a value of what is read
    module _ {B : Type 0} (f : List Stmt → Bool → B) where
      abbrev Made : Answer B
      Made = and_then start (λ read. Ok (f (joined read.0.0) read.0.1, read.1))

      pub stops_at_start : starts stmt_first (head ts) ≡ true
          → Refuses (check (may_start (not ended)) ts) Made
      stops_at_start goes fault e =
          bind_stop start _ fault
          (turns.stops_at_start El shape_of (body around.id_of) good depth (stmt around) refl start
          ts on.parts ended goes on.same fault e)

      pub stops_at_stmt : (us : List Spelled) (value : Unit {0})
          → starts stmt_first (head ts) ≡ true → check (may_start (not ended)) ts ≡ Ok (value, us)
          → Refuses (one us) Made
      stops_at_stmt us value goes a fault e =
          bind_stop start _ fault
          (turns.stops_at_item El shape_of (body around.id_of) good depth (stmt around) refl start
          ts us on.parts ended value goes on.same a fault e)

      pub all_read : starts stmt_first (head ts) ≡ false → Made ≡ Ok (f xs ended, ts)
      all_read ends =
          bind_step start _ ((on.parts, ended), ts) _
          (turns.all_read El shape_of (body around.id_of) good depth (stmt around) refl start ts
          on.parts ended ends on.same) (ap (λ (ys : List Stmt). Ok (f ys ended, ts)) on.are)

    pub one_turn : (us vs ws : List Spelled) (marked : Bool) (x : List Stmt) (value : Unit {0})
        → starts stmt_first (head ts) ≡ true → check (may_start (not ended)) ts ≡ Ok (value, us)
        → one us ≡ Ok (x, vs) → skipping (codes ";") vs ≡ Ok (marked, ws)
        → IsOn start ws (xs ++ x) marked
    one_turn us vs ws marked x value goes a b c = record {
      parts = on.parts ++ x ∷ [];
      are = joined_more on.parts x ∙ ap (λ ys. ys ++ x) on.are;
      same =
          turns.one_turn El shape_of (body around.id_of) good depth (stmt around) refl start ts us
          vs ws on.parts ended marked x value goes on.same a b c;
    }

  pub shorter : (ts us vs ws : List Spelled) (ended marked : Bool) (x : List Stmt)
      (value : Unit {0}) → check (may_start (not ended)) ts ≡ Ok (value, us)
      → one us ≡ Ok (x, vs) → skipping (codes ";") vs ≡ Ok (marked, ws) → length ws < length ts
  shorter ts us vs ws ended marked x value a b c =
      loops.shorter El shape_of (body around.id_of) good depth (stmt around) refl ts us vs ws []
      ended marked x value a b c
