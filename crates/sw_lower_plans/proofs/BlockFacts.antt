-- What the blocks of a function have after a change of one of them.
use Rattle.std.proofs.Common.{◌≡◌, ℕ, zero, suc, ◌<◌, ◌≤◌, List, [], ◌∷◌, ◌++◌}
use Rattle.std.proofs.Common.{length, refl, ap, sym, ◌∙◌, arith, append-nil, inl, inr}
use Rattle.std.proofs.lemmas.Bool.Decides.{eqb_tells, nat_tests}
use Rattle.std.specs.Prelude.{◌==◌, if◌then◌else◌, Bool, true, false}
use Rattle.sw_graph.specs.declared.instr.Block.{Block}
use Rattle.sw_graph.specs.declared.instr.Instr.{Instr}
use Rattle.sw_graph.specs.declared.instr.Last.{Last}
use Rattle.sw_lower_builder.specs.Blocks.{changed_at, new_block, with_instr, with_last}
use Rattle.sw_lower_plans.specs.Plan.{Ended, Written, ended_in, written_in}
use Rattle.sw_lower_plans.specs.Run.{AreInFirstBlocks, instrs_at, last_at}

-- a new block counts as one that isn't there
pub instrs_new : (number : ℕ) (blocks : List Block)
    → instrs_at number (blocks ++ new_block ∷ []) ≡ instrs_at number blocks
unfolding instrs_at
instrs_new zero [] = refl
instrs_new (suc number) [] = refl
instrs_new zero (block ∷ blocks) = refl
instrs_new (suc number) (block ∷ blocks) = instrs_new number blocks

pub last_new : (number : ℕ) (blocks : List Block)
    → last_at number (blocks ++ new_block ∷ []) ≡ last_at number blocks
unfolding last_at
last_new zero [] = refl
last_new (suc number) [] = refl
last_new zero (block ∷ blocks) = refl
last_new (suc number) (block ∷ blocks) = last_new number blocks

zero_suc : (number : ℕ) → (0 == suc number) ≡ false
zero_suc number = grind (arith, nat_tests)

suc_zero : (number : ℕ) → (suc number == 0) ≡ false
suc_zero number = grind (arith, nat_tests)

suc_suc : (one other : ℕ) → (one == other) ≡ (suc one == suc other)
suc_suc one other = elim (eqb_tells one other) [
  | inl same ↦ same.0 ∙ sym (grind (arith, nat_tests, same.1))
  | inr apart ↦ apart.0 ∙ sym (grind (arith, nat_tests, apart.1))
]

-- an instruction more in the block here
pub instrs_emitted : (instr : Instr) (here number : ℕ) (blocks : List Block) → here < length blocks
    → instrs_at number (changed_at (with_instr instr) here blocks)
    ≡ instrs_at number blocks
    ++ written_in number (record { block = here; instr = instr } ∷ [])
unfolding instrs_at changed_at
instrs_emitted instr here number [] below = absurd (omega arith)
instrs_emitted instr zero zero (block ∷ blocks) below = refl
instrs_emitted instr zero (suc number) (block ∷ blocks) below =
    sym (append-nil (instrs_at number blocks))
    ∙ ap (λ here. instrs_at number blocks ++ (if here then instr ∷ [] else []))
    (sym (zero_suc number))
instrs_emitted instr (suc here) zero (block ∷ blocks) below =
    sym (append-nil block.instrs)
    ∙ ap (λ first. block.instrs ++ (if first then instr ∷ [] else [])) (sym (suc_zero here))
instrs_emitted instr (suc here) (suc number) (block ∷ blocks) below =
    instrs_emitted instr here number blocks (omega arith)
    ∙ ap (λ same. instrs_at number blocks ++ (if same then instr ∷ [] else []))
    (suc_suc here number)

pub last_emitted : (instr : Instr) (here number : ℕ) (blocks : List Block)
    → last_at number (changed_at (with_instr instr) here blocks) ≡ last_at number blocks
unfolding last_at changed_at
last_emitted instr here number [] = refl
last_emitted instr zero zero (block ∷ blocks) = refl
last_emitted instr zero (suc number) (block ∷ blocks) = refl
last_emitted instr (suc here) zero (block ∷ blocks) = refl
last_emitted instr (suc here) (suc number) (block ∷ blocks) = last_emitted instr here number blocks

-- another last instruction of the block here
pub instrs_ended : (last : Last) (here number : ℕ) (blocks : List Block)
    → instrs_at number (changed_at (with_last last) here blocks) ≡ instrs_at number blocks
unfolding instrs_at changed_at
instrs_ended last here number [] = refl
instrs_ended last zero zero (block ∷ blocks) = refl
instrs_ended last zero (suc number) (block ∷ blocks) = refl
instrs_ended last (suc here) zero (block ∷ blocks) = refl
instrs_ended last (suc here) (suc number) (block ∷ blocks) = instrs_ended last here number blocks

pub last_ended : (last : Last) (here number : ℕ) (blocks : List Block) → here < length blocks
    → last_at number (changed_at (with_last last) here blocks)
    ≡ ended_in number (record { block = here; last = last } ∷ []) (last_at number blocks)
unfolding last_at changed_at
last_ended last here number [] below = absurd (omega arith)
last_ended last zero zero (block ∷ blocks) below = refl
last_ended last zero (suc number) (block ∷ blocks) below =
    ap (λ here. if here then last else last_at number blocks) (sym (zero_suc number))
last_ended last (suc here) zero (block ∷ blocks) below =
    ap (λ first. if first then last else block.last) (sym (suc_zero here))
last_ended last (suc here) (suc number) (block ∷ blocks) below =
    last_ended last here number blocks (omega arith)
    ∙ ap (λ same. if same then last else last_at number blocks) (suc_suc here number)

-- what is written and ended by two lists, the one after the other
pub written_both : (number : ℕ) (first second : List Written)
    → written_in number (first ++ second) ≡ written_in number first ++ written_in number second
written_both number [] second = refl
written_both number (one ∷ more) second =
    by (one.block == number) (written_both number more second) where
      by : (here : Bool)
          → written_in number (more ++ second)
          ≡ written_in number more ++ written_in number second
          → (if here then one.instr ∷ written_in number (more ++ second)
          else written_in number (more ++ second))
          ≡ (if here then one.instr ∷ written_in number more else written_in number more)
          ++ written_in number second
      by true rest = ap (λ instrs. one.instr ∷ instrs) rest
      by false rest = rest

pub ended_both : (number : ℕ) (first second : List Ended) (last : Last)
    → ended_in number (first ++ second) last
    ≡ ended_in number second (ended_in number first last)
ended_both number [] second last = refl
ended_both number (one ∷ more) second last =
    ended_both number more second (if one.block == number then one.last else last)

-- what is in some blocks is in more
pub inside_more : (writes : List Written) (some more : ℕ) → some ≤ more
    → AreInFirstBlocks some writes → AreInFirstBlocks more writes
inside_more [] some more fewer all = tt
inside_more (one ∷ writes) some more fewer all =
    (omega (arith, all.0), inside_more writes some more fewer all.1)

pub inside_both : (count : ℕ) (first second : List Written) → AreInFirstBlocks count first
    → AreInFirstBlocks count second → AreInFirstBlocks count (first ++ second)
inside_both count [] second one two = two
inside_both count (write ∷ first) second one two =
    (one.0, inside_both count first second one.1 two)
