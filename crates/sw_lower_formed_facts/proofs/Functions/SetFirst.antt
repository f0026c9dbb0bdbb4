-- On each way through a function that is made of whole lists, a register is set before it is read.
use Rattle.std.proofs.Common.{◌≡◌, ℕ, zero, suc, ◌+◌, ◌<◌, ◌≤◌, ◌⊎◌, inl, inr, ◌||◌, Bool, true}
use Rattle.std.proofs.Common.{false, IsTrue, List, [], ◌∷◌, length, take, get_or, Option, Some}
use Rattle.std.proofs.Common.{None, refl, ap, sym, ◌∙◌, subst, arith}
use Rattle.std.specs.Prelude.{slice_get}
use Rattle.std.specs.List.{All}
use Rattle.std.specs.Option.{option_map}
use Rattle.std.proofs.lemmas.Bool.Decides.{nat_tests}
use Rattle.std.proofs.lemmas.List.{take_all}
use Rattle.std.proofs.lemmas.List.Elements.{All-nil}
use Rattle.std.proofs.lemmas.Option.{none-some, same_Some, slice_get_within}
use Rattle.sw_graph.specs.Mentions.{blocks_of, last_registers, reads, set_by}
use Rattle.sw_graph.specs.Points.{Point, Middle, End, block_start, point_in, points_of}
use Rattle.sw_graph.specs.Points.{points_of_block}
use Rattle.sw_graph.specs.Ways.{Way, begin, further, on, to, is_number, is_set, point_sets}
use Rattle.sw_graph.specs.Ways.{SetsBeforeReads}
use Rattle.sw_graph.specs.declared.function.Function.{Function}
use Rattle.sw_graph.specs.declared.instr.Block.{Block}
use Rattle.sw_graph.specs.declared.instr.Instr.{Instr}
use Rattle.sw_graph.specs.declared.instr.Last.{Last}
use Rattle.sw_graph.specs.declared.instr.Last.TheVariants.{Return}
use Rattle.sw_lower_plans.specs.Plan.{Ended, written_in}
use Rattle.sw_lower_formed_facts.specs.Fitting.{AllWritten, LastOk}
use Rattle.sw_lower_formed_facts.specs.Whole.{AtEnd, AtStart, Whole, before, made_at, set_before, sets}
use Rattle.sw_lower_formed_facts.specs.Whole.{taken}
use Rattle.sw_lower_formed_facts.proofs.Functions.Blocks.{block_in, block_is, block_there, blocks_in}
use Rattle.sw_lower_formed_facts.proofs.Functions.Blocks.{ended_at, function_in, instr_at, leads_from}
use Rattle.sw_lower_formed_facts.proofs.Functions.Points.{end_at, middle_at, point_at, start_of}
use Rattle.sw_lower_formed_facts.proofs.Positions.Steps.{end_of}

either : (a b : Bool) → IsTrue (a || b) → IsTrue a ⊎ IsTrue b
either true b holds = inl refl
either false b holds = inr holds

first_holds : (a b : Bool) → IsTrue a → IsTrue (a || b)
first_holds true b holds = refl
first_holds false b holds = cc

second_holds : (a b : Bool) → IsTrue b → IsTrue (a || b)
second_holds true b holds = refl
second_holds false b holds = holds

-- what one instruction more sets
sets_more : (instrs : List Instr) (index : ℕ) (instr : Instr) (r : ℕ)
    → slice_get instrs index ≡ Some instr → IsTrue (sets (take (suc index) instrs) r)
    → IsTrue (is_number r (set_by instr)) ⊎ IsTrue (sets (take index instrs) r)
sets_more [] index instr r here holds = absurd (none-some instr here)
sets_more (first ∷ instrs) zero instr r here holds =
    elim (either (is_number r (set_by first)) false holds) [
      | inl now ↦
          inl (subst (λ (i : Instr). IsTrue (is_number r (set_by i)))
          (same_Some first instr here) now)
      | inr never ↦ cc
    ]
sets_more (first ∷ instrs) (suc index) instr r here holds =
    elim (either (is_number r (set_by first)) (sets (take (suc index) instrs) r) holds) [
      | inl now ↦
          inr (first_holds (is_number r (set_by first)) (sets (take index instrs) r) now)
      | inr rest ↦
          elim (sets_more instrs index instr r here rest) [
            | inl now ↦ inl now
            | inr earlier ↦
                inr (second_holds (is_number r (set_by first)) (sets (take index instrs) r) earlier)
          ]
    ]

-- What has a value where a block begins that isn't made is taken.
only_taken : (w : Whole) (block r : ℕ) → made_at w block ≡ None → AtStart w block r → r < w.takes
only_taken w block r never (taken b s below) = below
only_taken w block r never (before b s one made at) = absurd (none-some one (sym never ∙ made))
only_taken w block r never (set_before b s one made holds) =
    absurd (none-some one (sym never ∙ made))

-- A way has come to a point of a block, and what has a value there was set on it.
record Comes (w : Whole) (lasts : List Ended) (function : Function) (p : ℕ) (passed : List ℕ)
    : Type 0 where
  number : ℕ
  index : ℕ
  there : slice_get (blocks_in w lasts) number ≡ Some (block_in w lasts number)
  at : p ≡ start_of (blocks_in w lasts) number + index
  inside : index ≤ length (written_in number w.writes)
  set : (r : ℕ) → AtStart w number r ⊎ IsTrue (sets (take index (written_in number w.writes)) r)
      → IsTrue (is_set (function_in w lasts function) passed r)

begins : (w : Whole) (lasts : List Ended) (function : Function) → Comes w lasts function 0 []
unfolding points_of
begins w lasts function = record {
  number = 0;
  index = 0;
  there = block_there w lasts 0 (omega arith);
  at = refl;
  inside = omega arith;
  set = λ r holds. elim holds [
    | inl at ↦ let below = only_taken w 0 r refl at in grind (arith, nat_tests, below)
    | inr never ↦ cc
  ];
}

-- what stands at the point
comes_at : (w : Whole) (lasts : List Ended) (function : Function) (p : ℕ) (passed : List ℕ)
    (point : Point) → (comes : Comes w lasts function p passed)
    → point_in (function_in w lasts function) p ≡ Some point
    → slice_get (points_of_block (block_in w lasts comes.number)) comes.index ≡ Some point
comes_at w lasts function p passed point comes here =
    sym (point_at (blocks_in w lasts) comes.number comes.index (block_in w lasts comes.number)
    comes.there comes.inside)
    ∙ ap (slice_get (points_of (blocks_in w lasts))) (sym comes.at) ∙ here

goes_on : (w : Whole) (lasts : List Ended) (function : Function) (p : ℕ) (passed : List ℕ)
    (instr : Instr) → Comes w lasts function p passed
    → point_in (function_in w lasts function) p ≡ Some (Middle instr)
    → Comes w lasts function (p + 1) (p ∷ passed)
goes_on w lasts function p passed instr comes here =
    let block = block_in w lasts comes.number in
    let found = middle_at block.instrs block.last comes.index instr
    (comes_at w lasts function p passed (Middle instr) comes here) in
    let here_set : (r : ℕ) → Bool =
    λ r. point_sets r (point_in (function_in w lasts function) p) in
    record {
      number = comes.number;
      index = suc comes.index;
      there = comes.there;
      at = omega (arith, comes.at);
      inside = slice_get_within block.instrs comes.index instr found;
      set = λ r holds. elim holds [
        | inl at ↦
            second_holds (here_set r) (is_set (function_in w lasts function) passed r)
            (comes.set r (inl at))
        | inr some ↦
            elim (sets_more block.instrs comes.index instr r found some) [
              | inl now ↦
                  first_holds (here_set r) (is_set (function_in w lasts function) passed r)
                  (ap (point_sets r) here ∙ now)
              | inr earlier ↦
                  second_holds (here_set r) (is_set (function_in w lasts function) passed r)
                  (comes.set r (inr earlier))
            ]
      ];
    }

-- where a block begins that is there
record Begins (w : Whole) (lasts : List Ended) (number q : ℕ) : Type 0 where
  there : slice_get (blocks_in w lasts) number ≡ Some (block_in w lasts number)
  at : q ≡ start_of (blocks_in w lasts) number

begins_at : (w : Whole) (lasts : List Ended) (number q : ℕ)
    → option_map (λ (block : Block). start_of (blocks_in w lasts) number)
    (slice_get (blocks_in w lasts) number) ≡ Some q → Begins w lasts number q
begins_at w lasts number q starts = by (slice_get (blocks_in w lasts) number) refl starts where
  by : (found : Option Block) → slice_get (blocks_in w lasts) number ≡ found
      → option_map (λ (block : Block). start_of (blocks_in w lasts) number) found ≡ Some q
      → Begins w lasts number q
  by None is starts = absurd (none-some q starts)
  by (Some block) is starts = record {
    there = is ∙ ap Some (block_is w lasts number block is);
    at = sym (same_Some (start_of (blocks_in w lasts) number) q starts);
  }

goes_to : (w : Whole) (lasts : List Ended) (function : Function) (p : ℕ) (passed : List ℕ)
    (last : Last) (k block q : ℕ) → All (λ (one : Ended). LastOk w one.block one.last) lasts
    → Comes w lasts function p passed
    → point_in (function_in w lasts function) p ≡ Some (End last)
    → slice_get (blocks_of last) k ≡ Some block
    → block_start (function_in w lasts function) block ≡ Some q
    → Comes w lasts function q (p ∷ passed)
goes_to w lasts function p passed last k block q all comes here target starts =
    let from = block_in w lasts comes.number in
    let end = end_at from.instrs from.last last comes.index
    (comes_at w lasts function p passed (End last) comes here) in
    let leads = leads_from w lasts comes.number k block all
    (ap (λ l. slice_get (blocks_of l) k) end.1 ∙ target) in
    let begins = begins_at w lasts block q starts in
    let here_set : (r : ℕ) → Bool =
    λ r. point_sets r (point_in (function_in w lasts function) p) in
    record {
      number = block;
      index = 0;
      there = begins.there;
      at = omega (arith, begins.at);
      inside = omega arith;
      set = λ r holds. elim holds [
        | inl at ↦
            second_holds (here_set r) (is_set (function_in w lasts function) passed r)
            (comes.set r
            (elim (leads.passes r (end_of w block r leads.one leads.made at)) [
              | inl start ↦ inl start
              | inr some ↦
                  inr (subst (λ instrs. IsTrue (sets instrs r))
                  (sym (take_all comes.index from.instrs (omega (arith, end.0)))) some)
            ]))
        | inr never ↦ cc
      ];
    }

comes : (w : Whole) (lasts : List Ended) (function : Function)
    → All (λ (one : Ended). LastOk w one.block one.last) lasts → (p : ℕ) (passed : List ℕ)
    → Way (function_in w lasts function) p passed → Comes w lasts function p passed
comes w lasts function all p passed begin = begins w lasts function
comes w lasts function all p passed (further point q earlier way (on at instr here)) =
    goes_on w lasts function point earlier instr
    (comes w lasts function all point earlier way) here
comes w lasts function all p passed
    (further point q earlier way (to at last k block next here target starts)) =
    goes_to w lasts function point earlier last k block next all
    (comes w lasts function all point earlier way) here target starts

-- Each register is set before it is read.
pub sets_first : (w : Whole) (lasts : List Ended) (function : Function) → AllWritten w [] w.writes
    → All (λ (one : Ended). LastOk w one.block one.last) lasts
    → SetsBeforeReads (function_in w lasts function)
sets_first w lasts function written all p passed way (Middle instr) here =
    let way_comes = comes w lasts function all p passed way in
    let block = block_in w lasts way_comes.number in
    let found = middle_at block.instrs block.last way_comes.index instr
    (comes_at w lasts function p passed (Middle instr) way_comes here) in
    let one = instr_at w way_comes.number way_comes.index instr written found in
    λ k d inside. way_comes.set (get_or (reads instr) k d)
    (subst (λ instrs. AtStart w way_comes.number (get_or (reads instr) k d)
    ⊎ IsTrue (sets instrs (get_or (reads instr) k d))) one.up_to (one.ok.reads k d inside))
sets_first w lasts function written all p passed way (End last) here =
    let way_comes = comes w lasts function all p passed way in
    let block = block_in w lasts way_comes.number in
    let end = end_at block.instrs block.last last way_comes.index
    (comes_at w lasts function p passed (End last) way_comes here) in
    let reads_ok : All (AtEnd w way_comes.number) (last_registers block.last) =
    ended_at w way_comes.number lasts
    (λ last. All (AtEnd w way_comes.number) (last_registers last)) all
    (λ last ok. ok.reads) (Return None) (All-nil (AtEnd w way_comes.number)) in
    subst (λ last. All (λ r. IsTrue (is_set (function_in w lasts function) passed r))
    (last_registers last)) end.1
    (λ k d inside. let r = get_or (last_registers block.last) k d in
    way_comes.set r
    (subst (λ instrs. AtStart w way_comes.number r ⊎ IsTrue (sets instrs r))
    (sym (take_all way_comes.index block.instrs (omega (arith, end.0)))) (reads_ok k d inside)))
