-- The blocks of a function that is made of whole lists, and what is known of each instruction and
-- last instruction in them.
use Rattle.std.proofs.Common.{◌≡◌, ℕ, zero, suc, ◌+◌, ◌<◌, List, [], ◌∷◌, ◌++◌, length, map, take}
use Rattle.std.proofs.Common.{get_or, Some, None, refl, ap, sym, ◌∙◌, subst, arith, append_assoc}
use Rattle.std.proofs.Common.{append-nil, Bool, true, false}
use Rattle.std.specs.Prelude.{◌==◌, if◌then◌else◌, slice_get}
use Rattle.std.specs.List.{All}
use Rattle.std.proofs.lemmas.List.Elements.{All-head, All-tail}
use Rattle.std.proofs.lemmas.Option.{none-some, same_Some, slice_get-get_or}
use Rattle.std.proofs.lemmas.List.{length-map}
use Rattle.std.proofs.lemmas.Bool.Decides.{nat_tests}
use Rattle.sw_graph.specs.Mentions.{blocks_of}
use Rattle.sw_graph.specs.declared.function.Function.{Function}
use Rattle.sw_graph.specs.declared.instr.Block.{Block}
use Rattle.sw_graph.specs.declared.instr.Instr.{Instr}
use Rattle.sw_graph.specs.declared.instr.Last.{Last}
use Rattle.sw_graph.specs.declared.instr.Last.TheVariants.{Return}
use Rattle.sw_lower_plans.specs.Plan.{Ended, Written, counted_from, ended_in, written_in}
use Rattle.sw_lower_plans.proofs.BlockFacts.{written_both}
use Rattle.sw_lower_formed_facts.specs.Fitting.{AllWritten, InstrOk, LastOk, LeadsOk}
use Rattle.sw_lower_formed_facts.specs.Whole.{Whole}

-- the block with a number
abbrev pub block_in : Whole → List Ended → ℕ → Block
block_in w lasts number = record {
  instrs = written_in number w.writes;
  last = ended_in number lasts (Return None);
}

-- all blocks, in order
abbrev pub blocks_in : Whole → List Ended → List Block
blocks_in w lasts = map (block_in w lasts) (counted_from 0 (1 + length w.made))

-- a function that is this as a whole
abbrev pub function_in : Whole → List Ended → Function → Function
function_in w lasts function = record function {
  takes = w.takes;
  result = w.result;
  regs = w.regs;
  blocks = blocks_in w lasts;
}

length_counted : (from count : ℕ) → length (counted_from from count) ≡ count
length_counted from zero = refl
length_counted from (suc count) = omega (arith, length_counted (from + 1) count)

-- There are as many blocks as were made, and the first.
pub length_blocks : (w : Whole) (lasts : List Ended)
    → length (blocks_in w lasts) ≡ 1 + length w.made
length_blocks w lasts =
    length-map (counted_from 0 (1 + length w.made)) (block_in w lasts)
    ∙ length_counted 0 (1 + length w.made)

counted_at : {A : Type 0} (f : ℕ → A) (from count k : ℕ) → k < count
    → slice_get (map f (counted_from from count)) k ≡ Some (f (from + k))
counted_at f from zero k below = absurd (omega arith)
counted_at f from (suc count) zero below = ap (λ n. Some (f n)) (omega arith)
counted_at f from (suc count) (suc k) below =
    counted_at f (from + 1) count k (omega arith) ∙ ap (λ n. Some (f n)) (omega arith)

counted_is : {A : Type 0} (f : ℕ → A) (from count k : ℕ) (x : A)
    → slice_get (map f (counted_from from count)) k ≡ Some x → x ≡ f (from + k)
counted_is f from zero k x found = absurd (none-some x found)
counted_is f from (suc count) zero x found =
    sym (same_Some (f from) x found) ∙ ap f (omega arith)
counted_is f from (suc count) (suc k) x found =
    counted_is f (from + 1) count k x found ∙ ap f (omega arith)

-- the block with a number is there
pub block_there : (w : Whole) (lasts : List Ended) (number : ℕ) → number < 1 + length w.made
    → slice_get (blocks_in w lasts) number ≡ Some (block_in w lasts number)
block_there w lasts number below =
    counted_at (block_in w lasts) 0 (1 + length w.made) number below
    ∙ ap (λ n. Some (block_in w lasts n)) (omega arith)

-- The block with a number is made of what was written and ended in it.
pub block_is : (w : Whole) (lasts : List Ended) (number : ℕ) (block : Block)
    → slice_get (blocks_in w lasts) number ≡ Some block → block ≡ block_in w lasts number
block_is w lasts number block found =
    counted_is (block_in w lasts) 0 (1 + length w.made) number block found
    ∙ ap (block_in w lasts) (omega arith)

-- what holds of each element that is there holds of all
pub all_there : {A : Type 0} (P : A → Type 0) (xs : List A)
    → ((k : ℕ) (x : A) → slice_get xs k ≡ Some x → P x) → All P xs
all_there P xs each k d inside = each k (get_or xs k d) (slice_get-get_or xs k d inside)

-- what holds of each block holds of all blocks
pub all_blocks : (w : Whole) (lasts : List Ended) (P : Block → Type 0)
    → ((number : ℕ) → P (block_in w lasts number)) → All P (blocks_in w lasts)
all_blocks w lasts P each =
    all_there P (blocks_in w lasts) (λ number block found.
    subst P (sym (block_is w lasts number block found)) (each number))

-- An instruction of a block fits after instructions that have those before it in the block.
pub record IsAt (w : Whole) (number index : ℕ) (instr : Instr) : Type 0 where
  pub earlier : List Written
  pub up_to : written_in number earlier ≡ take index (written_in number w.writes)
  pub ok : InstrOk w earlier number instr

-- the same in some of the function's instructions, after some others
record IsAmong (w : Whole) (number index : ℕ) (instr : Instr) (before writes : List Written)
    : Type 0 where
  earlier : List Written
  up_to : written_in number earlier
      ≡ written_in number before ++ take index (written_in number writes)
  ok : InstrOk w earlier number instr

among_more : (w : Whole) (number index more : ℕ) (instr : Instr) (before : List Written)
    (one : Written) (writes : List Written)
    → written_in number (one ∷ []) ++ take index (written_in number writes)
    ≡ take more (written_in number (one ∷ writes))
    → IsAmong w number index instr (before ++ one ∷ []) writes
    → IsAmong w number more instr before (one ∷ writes)
among_more w number index more instr before one writes up_to among = record {
  earlier = among.earlier;
  up_to = among.up_to
      ∙ ap (λ instrs. instrs ++ take index (written_in number writes))
      (written_both number before (one ∷ []))
      ∙ append_assoc (written_in number before) (written_in number (one ∷ []))
      (take index (written_in number writes))
      ∙ ap (λ instrs. written_in number before ++ instrs) up_to;
  ok = among.ok;
}

among : (w : Whole) (number index : ℕ) (instr : Instr) (before writes : List Written)
    → AllWritten w before writes → slice_get (written_in number writes) index ≡ Some instr
    → IsAmong w number index instr before writes
among w number index instr before [] all found = absurd (none-some instr found)
among w number index instr before (one ∷ writes) all found =
    by (one.block == number) index refl found
    (λ index found. among w number index instr (before ++ one ∷ []) writes all.1 found) where
      rest : List Instr
      rest = written_in number writes

      Goal : ℕ → Type 0
      Goal index = IsAmong w number index instr before (one ∷ writes)

      by : (here : Bool) (index : ℕ) → (one.block == number) ≡ here
          → slice_get (if here then one.instr ∷ rest else rest) index ≡ Some instr
          → ((index : ℕ) → slice_get rest index ≡ Some instr
          → IsAmong w number index instr (before ++ one ∷ []) writes) → Goal index
      by true zero is found more =
          let same : one.block ≡ number = grind (arith, nat_tests, is) in
          record {
            earlier = before;
            up_to = sym (append-nil (written_in number before));
            ok = subst (λ n. InstrOk w before n instr) same
                (subst (InstrOk w before one.block) (same_Some one.instr instr found) all.0);
          }
      by true (suc index) is found more =
          among_more w number index (suc index) instr before one writes
          (subst (λ here. (if here then one.instr ∷ [] else []) ++ take index rest
          ≡ take (suc index) (if here then one.instr ∷ rest else rest)) (sym is) refl)
          (more index found)
      by false index is found more =
          among_more w number index index instr before one writes
          (subst (λ here. (if here then one.instr ∷ [] else []) ++ take index rest
          ≡ take index (if here then one.instr ∷ rest else rest)) (sym is) refl)
          (more index found)

-- Each instruction of a block was fitting after those before it.
pub instr_at : (w : Whole) (number index : ℕ) (instr : Instr) → AllWritten w [] w.writes
    → slice_get (written_in number w.writes) index ≡ Some instr → IsAt w number index instr
instr_at w number index instr all found =
    let one = among w number index instr [] w.writes all found in
    record { earlier = one.earlier; up_to = one.up_to; ok = one.ok }

-- what holds of a block's instructions
pub all_instrs : (w : Whole) (number : ℕ) (P : Instr → Type 0) → AllWritten w [] w.writes
    → ((before : List Written) (instr : Instr) → InstrOk w before number instr → P instr)
    → All P (written_in number w.writes)
all_instrs w number P all each = all_there P (written_in number w.writes) (λ index instr found.
    let one = instr_at w number index instr all found in each one.earlier instr one.ok)

-- The last instruction of a block fits, or it was given none.
pub ended_at : (w : Whole) (number : ℕ) (lasts : List Ended) (P : Last → Type 0)
    → All (λ (one : Ended). LastOk w one.block one.last) lasts
    → ((last : Last) → LastOk w number last → P last) → (last : Last) → P last
    → P (ended_in number lasts last)
ended_at w number [] P all each last holds = holds
ended_at w number (one ∷ lasts) P all each last holds =
    ended_at w number lasts P
    (All-tail (λ (one : Ended). LastOk w one.block one.last) one lasts all) each
    (if one.block == number then one.last else last) (by (one.block == number) refl) where
      by : (here : Bool) → (one.block == number) ≡ here → P (if here then one.last else last)
      by true is =
          let same : one.block ≡ number = grind (arith, nat_tests, is) in
          each one.last (subst (λ n. LastOk w n one.last) same
          (All-head (λ (one : Ended). LastOk w one.block one.last) one lasts all))
      by false is = holds

-- what a way of a block's last instruction leads to
pub leads_from : (w : Whole) (lasts : List Ended) (number k target : ℕ)
    → All (λ (one : Ended). LastOk w one.block one.last) lasts
    → slice_get (blocks_of (block_in w lasts number).last) k ≡ Some target
    → LeadsOk w number (block_in w lasts number).last k target
leads_from w lasts number k target all =
    ended_at w number lasts
    (λ last. slice_get (blocks_of last) k ≡ Some target → LeadsOk w number last k target) all
    (λ last ok. ok.leads k target) (Return None) (λ never. absurd (none-some target never))
