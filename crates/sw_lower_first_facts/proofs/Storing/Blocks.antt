-- The blocks of a function whose code stores a global variable at its end.
use Rattle.std.proofs.Common.{◌≡◌, ℕ, zero, suc, ◌+◌, ◌≤◌, ◌<◌, ◌==◌, Bool, true, false, List, []}
use Rattle.std.proofs.Common.{◌∷◌, ◌++◌, length, map, refl, sym, ap, subst, ◌∙◌, arith, inl, inr}
use Rattle.std.proofs.Common.{◌⊎◌, ◌||◌, slice_get, Some, None}
use Rattle.std.proofs.lemmas.Bool.{eq-eqb}
use Rattle.std.proofs.lemmas.Option.{none-some, same_Some}
use Rattle.std.specs.List.{AllByRecursion}
use Rattle.std.specs.Prelude.{if◌then◌else◌}
use Rattle.sw_graph.specs.Placed.{IsReturn}
use Rattle.sw_graph.specs.declared.instr.Block.{Block}
use Rattle.sw_graph.specs.declared.instr.Instr.{Instr}
use Rattle.sw_graph.specs.declared.instr.Instr.TheVariants.{StoreGlobal}
use Rattle.sw_graph.specs.declared.instr.Last.{Last}
use Rattle.sw_graph.specs.declared.instr.Last.TheVariants.{Return}
use Rattle.sw_graph.specs.declared.instr.Operand.{Operand}
use Rattle.sw_lower_plans.specs.Plan.{Ended, Piece, Place, Written, block_by, counted_from, ended_in}
use Rattle.sw_lower_plans.specs.Plan.{written_in}
use Rattle.sw_lower_first_facts.specs.Flowing.{GoesWithoutReturn, IsNoReturn, IsOwn, ends}
use Rattle.sw_lower_first_facts.specs.Storing.{AllReturnStoring, ReturnsStoring}

-- A block that is ended, and by no return, doesn't return.
no_return : (number : ℕ) (lasts : List Ended) (last : Last) → AllByRecursion IsNoReturn lasts
    → (ends number lasts ≡ true) ⊎ (IsReturn last → ⊥) → IsReturn (ended_in number lasts last) → ⊥
no_return number [] last all (inl is) = cc
no_return number [] last all (inr none) = none
no_return number (one ∷ lasts) last all given =
    by (one.block == number) refl given (no_return number lasts) where
      by : (here : Bool) → (one.block == number) ≡ here
          → (ends number (one ∷ lasts) ≡ true) ⊎ (IsReturn last → ⊥)
          → ((last : Last) → AllByRecursion IsNoReturn lasts
          → (ends number lasts ≡ true) ⊎ (IsReturn last → ⊥)
          → IsReturn (ended_in number lasts last) → ⊥)
          → IsReturn (ended_in number lasts (if here then one.last else last)) → ⊥
      by true is given more = more one.last all.1 (inr all.0)
      by false is (inr none) more = more last all.1 (inr none)
      by false is (inl found) more =
          more last all.1 (inl (sym (ap (λ same. same || ends number lasts) is) ∙ found))

ended_both : (number : ℕ) (xs ys : List Ended) (last : Last)
    → ended_in number (xs ++ ys) last ≡ ended_in number ys (ended_in number xs last)
ended_both number [] ys last = refl
ended_both number (x ∷ xs) ys last =
    ended_both number xs ys (if x.block == number then x.last else last)

written_then : (number : ℕ) (xs : List Written) (instr : Instr)
    → written_in number (xs ++ record { block = number; instr = instr } ∷ [])
    ≡ written_in number xs ++ instr ∷ []
written_then number [] instr =
    ap (λ same. if same then instr ∷ [] else []) (eq-eqb number number refl)
written_then number (x ∷ xs) instr =
    by (x.block == number) (written_then number xs instr) where
      by : (here : Bool)
          → written_in number (xs ++ record { block = number; instr = instr } ∷ [])
          ≡ written_in number xs ++ instr ∷ []
          → (if here
          then x.instr ∷ written_in number (xs ++ record { block = number; instr = instr } ∷ [])
          else written_in number (xs ++ record { block = number; instr = instr } ∷ []))
          ≡ (if here then x.instr ∷ written_in number xs else written_in number xs) ++ instr ∷ []
      by true same = ap (λ more. x.instr ∷ more) same
      by false same = same

-- a block with a number, of those that are counted
counted_block : (from count k : ℕ) (f : ℕ → Block) (block : Block)
    → slice_get (map f (counted_from from count)) k ≡ Some block
    → (k < count) × (f (from + k) ≡ block)
counted_block from zero k f block is = absurd (none-some block is)
counted_block from (suc count) zero f block is =
    (omega arith, ap f (let same : from + 0 ≡ from = omega arith in same) ∙ same_Some _ block is)
counted_block from (suc count) (suc k) f block is =
    let one = counted_block (from + 1) count k f block is in (
      omega (arith, one.0),
      ap f (let same : from + suc k ≡ (from + 1) + k = omega arith in same) ∙ one.1,
    )

-- What stores a global variable at the end of code, and returns there.
pub record Stores {A B : Type 0} (g : ℕ) (first : Piece A) (piece : Piece B) : Type 0 where
  pub at : ℕ
  pub given : Operand
  pub writes : piece.writes ≡ first.writes
      ++ record { block = first.there; instr = StoreGlobal at g given } ∷ []
  pub lasts : piece.lasts ≡ first.lasts
      ++ record { block = first.there; last = Return None } ∷ []
  pub made : piece.made ≡ first.made

module _ {A B : Type 0} (g : ℕ) (place : Place) (first : Piece A) (piece : Piece B)
    (stores : Stores g first piece) (goes : GoesWithoutReturn place first) (begins : place.here ≡ 0)
    (blocks : place.blocks ≡ 1) where
  own : (number : ℕ) → number < 1 + length piece.made → (zero_is : Bool) → (number == 0) ≡ zero_is
      → IsOwn place first number
  own number below true is =
      inl (let same : number ≡ place.here = grind (arith, is, begins) in same)
  own number below false is =
      inr (
        (let low : place.blocks ≤ number = grind (arith, is, blocks) in low),
        omega (arith, below, blocks, ap length stores.made),
      )

  storing : (number : ℕ) → number < 1 + length piece.made → (there : Bool)
      → (number == first.there) ≡ there → ReturnsStoring g (block_by piece number)
  storing number below true is returns = record {
    earlier = written_in number first.writes;
    at = stores.at;
    given = stores.given;
    is = ap (written_in number) stores.writes
        ∙ ap (λ n. written_in number (first.writes
        ++ record { block = n; instr = StoreGlobal stores.at g stores.given } ∷ []))
        (let same : first.there ≡ number = grind (arith, is) in same)
        ∙ written_then number first.writes (StoreGlobal stores.at g stores.given);
  }
  storing number below false is returns =
      let apart : (number ≡ first.there → ⊥) = λ same. grind (arith, same, is) in
      let last_is : ended_in number piece.lasts (Return None)
      ≡ ended_in number first.lasts (Return None) =
      ap (λ all. ended_in number all (Return None)) stores.lasts
      ∙ ended_both number first.lasts (record { block = first.there; last = Return None } ∷ [])
      (Return None)
      ∙ ap (λ (same : Bool). if same then Return None
      else ended_in number first.lasts (Return None))
      (let differ : (first.there == number) ≡ false = grind (arith, is) in differ) in
      absurd (no_return number first.lasts (Return None) goes.lasts
      (inl (goes.ended number (own number below (number == 0) refl) apart))
      (subst IsReturn last_is returns))

  -- Each block of the function that returns stores the global variable last.
  pub blocks_store : AllReturnStoring g
      (map (block_by piece) (counted_from 0 (1 + length piece.made)))
  blocks_store number block at =
      let one = counted_block 0 (1 + length piece.made) number (block_by piece) block at in
      let same : 0 + number ≡ number = omega arith in
      subst (ReturnsStoring g) (ap (block_by piece) (sym same) ∙ one.1)
      (storing number one.0 (number == first.there) refl)
