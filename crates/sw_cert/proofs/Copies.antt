-- The operations of a block, done in a copy of the state at its beginning.
use Rattle.std.proofs.Common.{◌≡◌, ℕ, Option, Some, None, List, [], ◌∷◌, IfSome}
use Rattle.std.proofs.Common.{sym, subst, ◌∙◌, Bool, false, IsTrue}
use Rattle.sw_list.proofs.ListLemmas.{some_injective}
use Rattle.sw_partition.specs.Laws.{within_trans, same_within}
use Rattle.sw_partition.specs.Regions.{Regions, size_of, IsWithin}
use Rattle.sw_region_flow.proofs.Same.{copy_back, copy_trans, runs_same}
use Rattle.sw_region_flow.specs.Analysis.{block_ops_at, targets_at}
use Rattle.sw_region_flow.specs.Passing.{Passes, AllPass}
use Rattle.sw_region_flow.specs.Walks.{IsCopy}
use Rattle.sw_region_ops.specs.Runs.{Runs}
use Rattle.sw_region_ops.specs.Setting.{FunctionSetting}
use Rattle.sw_region_ops.specs.declared.op.Op.{Op}
use Rattle.sw_region_ops.specs.declared.op.Op.TheVariants.{Need, Free, Fresh, Put, Join, Give}
use Rattle.sw_region_ops.proofs.RunLemmas.{does_size, does_monotone}
use Rattle.sw_solve.proofs.Spreading.{below_down}
use Rattle.sw_solve.specs.Annotation.{value_at}
use Rattle.sw_cert.specs.Tests.{IsAllBelow}
use Rattle.sw_cert.specs.Verified.{PassesAt, ClosedAt}

-- what passes in a state passes in a lesser one
passes_below : (op : Op) (c d : Regions) → IsWithin c d → Passes op d → Passes op c
passes_below (Need x at) c d within live = λ has. live (has.0, within.pairs x has.0 has.1)
passes_below (Free x at code) c d within free = (
  λ has. free.0 (has.0, within.pairs x has.0 has.1),
  λ here. free.1 (within.together x 0 here),
)
passes_below (Fresh x) c d within passes = tt
passes_below (Put x y) c d within passes = tt
passes_below (Join x y) c d within passes = tt
passes_below (Give x site) c d within passes = tt

all_below : (ops : List Op) (c d z : Regions) → size_of c ≡ size_of d → IsWithin c d → Runs ops d z
    → AllPass ops d → AllPass ops c
all_below [] c d z size within runs passes = tt
all_below (op ∷ ops) c d z size within (n, does_too, rest) passes = (
  passes_below op c d within passes.0,
  λ made does. all_below ops made n z
      (does_size op c made does ∙ size ∙ sym (does_size op d n does_too))
      (does_monotone op c d made n size within does does_too) rest (passes.1 n does_too),
)

-- what passes in one of two copies passes in the other
pub pass_copied : (ops : List Op) (c d z : Regions) → IsCopy c d → Runs ops d z → AllPass ops d
    → AllPass ops c
pass_copied ops c d z copy runs passes =
    all_below ops c d z (sym copy.sized) (same_within c d copy.same).0 runs passes

-- what a table has at a block is one state
one_state : (table : List (Option Regions)) (block : ℕ) (a b : Regions)
    → value_at table block ≡ Some a → value_at table block ≡ Some b → a ≡ b
one_state table block a b first second = some_injective (sym first ∙ second)

-- the tests of a block pass if they pass in one copy
pub passes_at : (setting : FunctionSetting) (table : List (Option Regions)) (block : ℕ)
    (state copied made : Regions) → value_at table block ≡ Some state → IsCopy state copied
    → Runs (block_ops_at setting block) copied made → AllPass (block_ops_at setting block) copied
    → PassesAt setting table block
passes_at setting table block state copied made is copy runs passes other other_copied is_other
    other_copy =
    let same = one_state table block state other is is_other in
    let back = copy_back other other_copied other_copy in
    pass_copied (block_ops_at setting block) other_copied copied made
    (copy_trans other_copied other copied back
    (subst (λ s. IsCopy s copied) same copy)) runs passes

-- a block is closed exactly if what comes out of it is included in each state that follows
pub closed_at : (setting : FunctionSetting) (table : List (Option Regions)) (block : ℕ)
    (state copied made : Regions) → value_at table block ≡ Some state → IsCopy state copied
    → Runs (block_ops_at setting block) copied made
    → IsAllBelow made table (targets_at setting.body.blocks block) → ClosedAt setting table block
closed_at setting table block state copied made is copy runs below other is_other = record {
  made = made;
  leads_to = record {
    copied = copied;
    is_copy = subst (λ s. IsCopy s copied) (one_state table block state other is is_other) copy;
    runs = runs;
  };
  below = below;
}

pub closed_not : (setting : FunctionSetting) (table : List (Option Regions)) (block : ℕ)
    (state copied made : Regions) → value_at table block ≡ Some state → IsCopy state copied
    → Runs (block_ops_at setting block) copied made
    → ¬ (IsAllBelow made table (targets_at setting.body.blocks block))
    → ¬ (ClosedAt setting table block)
closed_not setting table block state copied made is copy runs gap closed =
    let on = closed state is in
    let same = copy_trans copied state on.leads_to.copied (copy_back state copied copy)
    on.leads_to.is_copy in
    let alike = runs_same (block_ops_at setting block) copied on.leads_to.copied made on.made same
    runs on.leads_to.runs in
    gap (λ next follows. below_down IsWithin within_trans made on.made (value_at table next)
    (same_within made on.made alike.same).0 (on.below next follows))

-- ---- options and answers
pub of_some : {X : Type 0} (o : Option X) (x : X) (P : X → Type 0) → IfSome o P → o ≡ Some x → P x
of_some None x P holds e = cc
of_some (Some y) x P holds e = subst P (some_injective e) holds

pub not_true : (b : Bool) → b ≡ false → IsTrue b → ⊥
not_true b e is = cc
