-- What turns and items weigh, where a law uses that earlier tokens pay for those so far.
use Rattle.std.proofs.Common.{ℕ, ◌+◌, ◌≤◌, Bool, true, not, List, [], ◌∷◌, ◌++◌, ap, subst, arith}
use Rattle.sw_token.specs.Spelling.{Spelled}
use Rattle.sw_tree.proofs.Counting.{Weight, in_all, in_all-append, in_all-cons, in_all-nil}
use Rattle.sw_grammar_forms.proofs.Rising.{end_of}
use Rattle.sw_grammar_forms.specs.Form.{Shape, Form}
use Rattle.sw_grammar_forms.specs.Form.Form.{more_items, some_items}
use Rattle.sw_grammar_forms.specs.Relations.{Relation, Turns, stop, turn, OneMore, may_start, spelled}
use Rattle.sw_grammar_forms.specs.Terminals.{items}
use Rattle.sw_grammar_facts.proofs.Owning.{Tally, Stands, Part, InTurn, Owns, OwnsAt, none, in_turn}
use Rattle.sw_grammar_facts.proofs.Owning.{own_anywhere, own_at, own_at_with, own_done, own_part}
use Rattle.sw_grammar_facts.proofs.Owning.{own_passing, own_past, part_empty, part_more, stands_left}
use Rattle.sw_grammar_facts.proofs.Owning.{stands_right}

module _ (tally : Tally) where
  -- turns from a state that earlier tokens pay
  module _ {S : Type 0} {One : S → Relation S} {w : S → Weight}
      (each : (from middle : ℕ) (s : S) → Part tally from middle (w s)
      → OwnsAt tally middle (w s) (One s) w) where
    turned : (from middle : ℕ) (s last : S) (tokens : List Spelled) → Part tally from middle (w s)
        → Stands tally middle tokens → Turns One s last tokens → (k : ℕ)
        → w last k ≤ w s k + in_all tally.of_token tokens k
    turned from middle s last tokens part stands (stop s') k =
        omega (arith, in_all-nil tally.of_token k)
    turned from middle s last tokens part stands (turn s' next last' us vs one more) k =
        let first = stands_left tally middle us vs stands in
        let here = (each from middle s' part).owns_at next us first one in
        let now = here k in
        omega (
          arith,
          turned from (end_of middle us) next last' vs (part_more tally part us first here)
              (stands_right tally middle us vs stands) more k,
          in_all-append tally.of_token us vs k,
        )

    pub own_turns_on : {from middle : ℕ} (s : S) → Part tally from middle (w s)
        → OwnsAt tally middle (w s) (Turns One s) w
    own_turns_on {from} {middle} s part = record {
      owns_at = λ last tokens stands all. turned from middle s last tokens part stands all;
    }

  -- Items, each of which a `;` or the end of a line ends. What those so far weigh is paid by the
  -- tokens so far, and what the next weighs by the next tokens.
  module _ {N : Type 0} (El : N → Type 0) (shape_of : N → Shape) (table : (n : N) → Relation (El n))
      {A : Type 0} {s : Shape} (item : Form El shape_of s A) (u : A → Weight)
      (each : Owns tally none (spelled El shape_of table item) u) (w : List A → Weight)
      (empty : (k : ℕ) → w [] k ≤ 0)
      (more : (xs : List A) (x : A) → InTurn tally (w xs) (u x) → (k : ℕ)
      → w (xs ++ x ∷ []) k ≤ w xs k + u x k) where
    one_more_item : (from middle : ℕ) (state : List A × Bool) → Part tally from middle (w state.0)
        → OwnsAt tally middle (w state.0) (OneMore (spelled El shape_of table item) state)
        (λ read. w read.0)
    one_more_item from middle state so_far =
        own_part tally u (own_passing tally (may_start (not state.1)) each) (λ x to part.
        own_at tally to (own_past tally (λ ended. own_done tally (λ k.
        more state.0 x (in_turn tally so_far (omega arith) part) k))))

    -- the items after those of a state
    items_from : {from middle : ℕ} (state : List A × Bool) → Part tally from middle (w state.0)
        → OwnsAt tally middle (w state.0) (spelled El shape_of table (more_items state item))
        (λ read. w read.0)
    items_from state so_far = own_turns_on one_more_item state so_far

    -- items after none, whether or not the first has to begin a line
    pub own_items_after : (ended : Bool)
        → Owns tally none (spelled El shape_of table (more_items ([], ended) item))
        (λ read. w read.0)
    own_items_after ended =
        own_anywhere tally (λ from. own_at_with tally empty
        (items_from ([], ended) (part_empty tally from empty)))

    pub own_items_by : Owns tally none (spelled El shape_of table (items item)) (λ read. w read.0)
    own_items_by = own_items_after true

    pub own_some_items_by : Owns tally none (spelled El shape_of table (some_items item))
        (λ read. w read.0)
    own_some_items_by = record {
      owns = λ from last tokens stands both k.
          let halves = subst (Stands tally from) both.whole stands in
          let left = stands_left tally from both.left both.right halves in
          let start = part_empty tally from empty in
          let first = (one_more_item from from ([], true) start).owns_at both.value both.left left
          both.first in
          let rest = (items_from both.value (part_more tally start both.left left first)).owns_at
          last both.right (stands_right tally from both.left both.right halves) both.second k in
          let now = first k in
          let none = empty k in
          let all = ap (λ ts. in_all tally.of_token ts k) both.whole in
          omega (arith, all, in_all-append tally.of_token both.left both.right k);
    }

  -- the same, where items weigh what they weigh one by one
  module _ {N : Type 0} (El : N → Type 0) (shape_of : N → Shape) (table : (n : N) → Relation (El n))
      {A : Type 0} {s : Shape} (item : Form El shape_of s A) (w : A → Weight) where
    pub own_items : Owns tally none (spelled El shape_of table item) w
        → Owns tally none (spelled El shape_of table (items item)) (λ read. in_all w read.0)
    own_items each =
        own_items_by El shape_of table item w each (in_all w) (λ k. omega (arith, in_all-nil w k))
        (λ xs x _ k. omega (
          arith,
          in_all-append w xs (x ∷ []) k,
          in_all-cons w x [] k,
          in_all-nil w k,
        ))
