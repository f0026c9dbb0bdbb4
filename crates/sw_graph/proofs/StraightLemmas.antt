-- In a function of one block that leads nowhere, whose instructions read in order, each register is
-- set before it is read.
use Rattle.std.proofs.Common.{◌≡◌, ℕ, zero, suc, ◌+◌, ◌<◌, ◌&&◌, ◌||◌, not, Bool, true, false}
use Rattle.std.proofs.Common.{IsTrue, List, [], ◌∷◌, ◌++◌, length, Some, get_or, inl, inr}
use Rattle.std.proofs.Common.{refl}
use Rattle.std.proofs.Common.{ap, sym, ◌∙◌, subst, arith}
use Rattle.std.specs.Prelude.{slice_get}
use Rattle.std.specs.List.{All, list_all}
use Rattle.std.proofs.lemmas.Bool.{cases_lt}
use Rattle.std.proofs.lemmas.List.Elements.{All-from_recursion}
use Rattle.std.proofs.lemmas.List.Sums.{AllPass-from_list_all}
use Rattle.std.proofs.lemmas.Option.{slice_get-get_or}
use Rattle.std.proofs.Math.Nat.{eq-or-lt_of_le}
use Rattle.sw_types.specs.declared.shape.Shape.{Shape}
use Rattle.sw_graph.specs.declared.function.Function.{Function}
use Rattle.sw_graph.specs.declared.function.GlobalKind.{GlobalKind}
use Rattle.sw_graph.specs.declared.instr.Block.{Block}
use Rattle.sw_graph.specs.declared.instr.Instr.{Instr}
use Rattle.sw_graph.specs.declared.instr.Last.{Last}
use Rattle.sw_graph.specs.declared.instr.Last.TheVariants.{Jump, Branch, Switch, Return}
use Rattle.sw_graph.specs.Mentions.{set_by, reads, last_registers, blocks_of}
use Rattle.sw_graph.specs.Payloads.{has_payload, PayloadsFit}
use Rattle.sw_graph.specs.Points.{Point, Middle, End, points_of, point_in}
use Rattle.sw_graph.specs.Straight.{StraightFits, IsStraightGraph}
use Rattle.sw_graph.specs.Straight.{has_value, reads_in_order, returns, are_straight, is_straight}
use Rattle.sw_graph.specs.Ways.{on, to, Way, begin, further, is_number, is_set, point_sets}
use Rattle.sw_graph.specs.Ways.{SetsBeforeReads}
use Rattle.sw_graph.specs.WellFormed.{FunctionFits, IsWellFormed}
use Rattle.sw_list.proofs.ListLemmas.{at_index}
use Rattle.sw_graph.proofs.PayloadLemmas.{no_payloads_fit}
use Rattle.sw_graph.proofs.PointLemmas.{middle_here, end_here, further as after_instrs}

both : (a b : Bool) → IsTrue (a && b) → IsTrue a × IsTrue b
both true b holds = (refl, holds)
both false b holds = cc

of_both : (a b : Bool) → IsTrue a → IsTrue b → IsTrue (a && b)
of_both true b first second = second
of_both false b first second = cc

-- what reads in order also does so before others
pub reads_in_order-append : (takes : ℕ) (last : Last) (done xs ys : List Instr)
    → IsTrue (reads_in_order takes last done xs)
    → ((before : List Instr) → IsTrue (reads_in_order takes last before ys))
    → IsTrue (reads_in_order takes last done (xs ++ ys))
reads_in_order-append takes last done [] ys first second = second done
reads_in_order-append takes last done (x ∷ xs) ys first second =
    let parts = both (list_all (has_value takes done) (reads x))
    (reads_in_order takes last (x ∷ done) xs) first in
    of_both (list_all (has_value takes done) (reads x))
    (reads_in_order takes last (x ∷ done) (xs ++ ys))
    parts.0 (reads_in_order-append takes last (x ∷ done) xs ys parts.1 second)

-- the instructions that are done after the first n
abbrev done_after : ℕ → List Instr → List Instr → List Instr
done_after zero instrs done = done
done_after (suc n) [] done = done
done_after (suc n) (instr ∷ instrs) done = done_after n instrs (instr ∷ done)

reads_in_order_at : (takes : ℕ) (last : Last) (done instrs : List Instr) (k : ℕ) (instr : Instr)
    → IsTrue (reads_in_order takes last done instrs) → slice_get instrs k ≡ Some instr
    → All (λ r. IsTrue (has_value takes (done_after k instrs done) r)) (reads instr)
reads_in_order_at takes last done [] k instr ordered here = cc
reads_in_order_at takes last done (x ∷ instrs) zero instr ordered here =
    let parts = both (list_all (has_value takes done) (reads x))
    (reads_in_order takes last (x ∷ done) instrs) ordered in
    subst (λ i. All (λ r. IsTrue (has_value takes done r)) (reads i))
    (let same : x ≡ instr = cc in same)
    (AllPass-from_list_all (has_value takes done) (reads x) parts.0)
reads_in_order_at takes last done (x ∷ instrs) (suc k) instr ordered here =
    let parts = both (list_all (has_value takes done) (reads x))
    (reads_in_order takes last (x ∷ done) instrs) ordered in
    reads_in_order_at takes last (x ∷ done) instrs k instr parts.1 here

reads_in_order_end : (takes : ℕ) (last : Last) (done instrs : List Instr)
    → IsTrue (reads_in_order takes last done instrs)
    → All (λ r. IsTrue (has_value takes (done_after (length instrs) instrs done) r))
    (last_registers last)
reads_in_order_end takes last done [] ordered =
    AllPass-from_list_all (has_value takes done) (last_registers last) ordered
reads_in_order_end takes last done (x ∷ instrs) ordered =
    let parts = both (list_all (has_value takes done) (reads x))
    (reads_in_order takes last (x ∷ done) instrs) ordered in
    reads_in_order_end takes last (x ∷ done) instrs parts.1

one_more_done : (instrs done : List Instr) (k : ℕ) (instr : Instr)
    → slice_get instrs k ≡ Some instr
    → done_after (suc k) instrs done ≡ instr ∷ done_after k instrs done
one_more_done [] done k instr here = cc
one_more_done (x ∷ instrs) done zero instr here =
    ap (λ i. i ∷ done) (let same : x ≡ instr = cc in same)
one_more_done (x ∷ instrs) done (suc k) instr here =
    one_more_done instrs (x ∷ done) k instr here

-- the element at an index within a list
slice_get-some : {A : Type 0} (xs : List A) (k : ℕ) → k < length xs
    → (x : A) × (slice_get xs k ≡ Some x)
slice_get-some [] k inside = absurd (omega arith)
slice_get-some (x ∷ xs) zero inside = (x, refl)
slice_get-some (x ∷ xs) (suc k) inside = slice_get-some xs k (omega arith)

-- an instruction of a function of one block
inside_block : (block : Block) (p : ℕ) (instr : Instr)
    → slice_get (points_of (block ∷ [])) p ≡ Some (Middle instr)
    → slice_get block.instrs p ≡ Some instr
unfolding points_of
inside_block block p instr here =
    elim (cases_lt p (length block.instrs)) [
      | inl below ↦
          let found = slice_get-get_or block.instrs p instr below in
          let same : instr ≡ get_or block.instrs p instr =
          let middle = middle_here block [] p (get_or block.instrs p instr) found in cc in
          found ∙ ap Some (sym same)
      | inr above ↦
          elim (eq-or-lt_of_le above) [
            | inl at ↦ let end = end_here block [] p (sym at) in cc
            | inr past ↦ let none = after_instrs block [] p past in cc
          ]
    ]

-- the last instruction of a function of one block
record IsEnd (block : Block) (p : ℕ) (last : Last) : Type 0 where
  at : p ≡ length block.instrs
  is : last ≡ block.last

at_end : (block : Block) (p : ℕ) (last : Last)
    → slice_get (points_of (block ∷ [])) p ≡ Some (End last) → IsEnd block p last
unfolding points_of
at_end block p last here =
    elim (cases_lt p (length block.instrs)) [
      | inl below ↦
          let instr = slice_get-some block.instrs p below in
          let middle = middle_here block [] p instr.0 instr.1 in cc
      | inr above ↦
          elim (eq-or-lt_of_le above) [
            | inl at ↦
                let end = end_here block [] p (sym at) in
                record { at = sym at; is = cc }
            | inr past ↦ let none = after_instrs block [] p past in cc
          ]
    ]

-- A function of one block that leads nowhere.
record IsStraight (function : Function) (block : Block) : Type 0 where
  blocks : function.blocks ≡ block ∷ []
  ends : blocks_of block.last ≡ []

point_is : (function : Function) (block : Block) → IsStraight function block → (p : ℕ)
    (point : Point) → point_in function p ≡ Some point
    → slice_get (points_of (block ∷ [])) p ≡ Some point
point_is function block straight p point here =
    ap (λ bs. slice_get (points_of bs) p) (sym straight.blocks) ∙ here

-- On a way to a point, what is set is what the instructions before it set.
way_done : (function : Function) (block : Block) → IsStraight function block → (p : ℕ)
    (passed : List ℕ) → Way function p passed → (r : ℕ)
    → is_set function passed r
    ≡ has_value function.takes (done_after p block.instrs []) r
way_done function block straight p passed begin r = refl
way_done function block straight p passed (further before q earlier way (on at instr here)) r =
    let next : suc before ≡ before + 1 = omega arith in
    let point = point_is function block straight before (Middle instr) here in
    let inside = inside_block block before instr point in
    let before_it = way_done function block straight before earlier way r in
    ap (λ point. point_sets r point || is_set function earlier r) here
    ∙ ap (λ b. is_number r (set_by instr) || b) before_it
    ∙ ap (λ done. has_value function.takes done r)
    (sym (one_more_done block.instrs [] before instr inside)
    ∙ ap (λ n. done_after n block.instrs []) next)
way_done function block straight p passed
    (further before q earlier way (to at last k number start here target begins)) r =
    let end = at_end block before last (point_is function block straight before (End last) here) in
    let none : slice_get [] k ≡ Some number =
    ap (λ bs. slice_get bs k) (sym (ap blocks_of end.is ∙ straight.ends)) ∙ target in cc

sets_in_order : (function : Function) (block : Block) → IsStraight function block
    → IsTrue (reads_in_order function.takes block.last [] block.instrs) → SetsBeforeReads function
sets_in_order function block straight ordered p passed way (Middle instr) here = λ k d inside.
    way_done function block straight p passed way (get_or (reads instr) k d)
    ∙ reads_in_order_at function.takes block.last [] block.instrs p instr ordered
    (inside_block block p instr (point_is function block straight p (Middle instr) here)) k d inside
sets_in_order function block straight ordered p passed way (End last) here =
    let ends = reads_in_order_end function.takes block.last [] block.instrs ordered in
    let end = at_end block p last (point_is function block straight p (End last) here) in
    subst (λ (l : Last). All (λ r. IsTrue (is_set function passed r)) (last_registers l))
    (sym end.is) (λ k d inside.
    way_done function block straight p passed way (get_or (last_registers block.last) k d)
    ∙ ap (λ n. has_value function.takes (done_after n block.instrs [])
    (get_or (last_registers block.last) k d)) end.at ∙ ends k d inside)

no_blocks : (last : Last) → IsTrue (returns last) → blocks_of last ≡ []
no_blocks (Return s) is = refl
no_blocks (Jump next) is = cc
no_blocks (Branch s holds fails) is = cc
no_blocks (Switch s blocks) is = cc

not_true : (b : Bool) → IsTrue (not b) → b ≡ false
not_true true holds = cc
not_true false holds = refl

-- The block of a straight function.
record HasBlock (takes : ℕ) (blocks : List Block) : Type 0 where
  block : Block
  is : blocks ≡ block ∷ []
  returns_there : IsTrue (returns block.last)
  plain : has_payload block.instrs ≡ false
  ordered : IsTrue (reads_in_order takes block.last [] block.instrs)

block_of : (takes : ℕ) (blocks : List Block) → IsTrue (are_straight takes blocks)
    → HasBlock takes blocks
block_of takes [] straight = cc
block_of takes (block ∷ []) straight =
    let outer = both (returns block.last && not (has_payload block.instrs))
    (reads_in_order takes block.last [] block.instrs) straight in
    let parts = both (returns block.last) (not (has_payload block.instrs)) outer.0 in
    record {
      block = block;
      is = refl;
      returns_there = parts.0;
      plain = not_true (has_payload block.instrs) parts.1;
      ordered = outer.1;
    }
block_of takes (block ∷ (other ∷ blocks)) straight = cc

pub straight_sets : (function : Function) → IsTrue (is_straight function) → SetsBeforeReads function
straight_sets function straight =
    let it = block_of function.takes function.blocks straight in
    sets_in_order function it.block
    (record { blocks = it.is; ends = no_blocks it.block.last it.returns_there }) it.ordered

pub straight_payloads : (shapes : List Shape) (function : Function) → IsTrue (is_straight function)
    → (number : ℕ) (block : Block) → slice_get function.blocks number ≡ Some block
    → PayloadsFit shapes function number block
straight_payloads shapes function straight number block here =
    let it = block_of function.takes function.blocks straight in
    let one = ap (λ bs. slice_get bs number) (sym it.is) ∙ here in
    no_payloads_fit shapes function number block
    (at_index (λ (b : Block). has_payload b.instrs ≡ false) (it.block ∷ []) number block
    (All-from_recursion (λ (b : Block). has_payload b.instrs ≡ false) (it.block ∷ [])
    (it.plain, tt)) one)

straight_fits : (shapes : List Shape) (globals : List GlobalKind) (functions : List Function)
    (function : Function) → StraightFits shapes globals functions function
    → FunctionFits shapes globals functions function
straight_fits shapes globals functions function fits =
    let it = block_of function.takes function.blocks fits.straight in
    record {
      takes = fits.takes;
      sending = fits.sending;
      begins = omega (arith, ap length it.is);
      types = fits.types;
      result = fits.result;
      blocks = fits.blocks;
      payloads = straight_payloads shapes function fits.straight;
      sets = straight_sets function fits.straight;
    }

-- A graph of straight functions is well formed.
pub straight_graph : {shapes : List Shape} {globals : List GlobalKind} {functions : List Function}
    {entry : ℕ} {starts : List ℕ} → IsStraightGraph shapes globals functions entry starts
    → IsWellFormed shapes globals functions entry starts
straight_graph {shapes} {globals} {functions} is = record {
  entry_in = is.entry_in;
  starts_in = is.starts_in;
  first_values = is.first_values;
  types = is.types;
  limits = is.limits;
  each = λ k d inside.
      straight_fits shapes globals functions (get_or functions k d) (is.each k d inside);
}
