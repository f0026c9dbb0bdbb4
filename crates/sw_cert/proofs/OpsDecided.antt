-- The operations of a block can be done, and whether they pass can be decided.
use Rattle.std.proofs.Common.{ℕ, ◌<◌, inl, inr, List, [], ◌∷◌, length, refl, sym, subst}
use Rattle.std.specs.List.{All}
use Rattle.sw_partition.specs.Regions.{Regions}
use Rattle.sw_region_flow.proofs.Deciding.{Decided, both_decided, not_decided}
use Rattle.sw_region_flow.proofs.Doing.{tell_together}
use Rattle.sw_region_flow.proofs.Flows.{ops_fit}
use Rattle.sw_region_flow.proofs.Gathering.{given}
use Rattle.sw_region_flow.proofs.Laid.{ops_are}
use Rattle.sw_region_flow.proofs.Places.{element_at}
use Rattle.sw_region_flow.proofs.Same.{copy_same, runs_same}
use Rattle.sw_region_flow.specs.Analysis.{Analysis, IsAnalysis, block_ops_at, facts_of}
use Rattle.sw_region_flow.specs.Passing.{IsNotGivenAway, Passes, AllPass}
use Rattle.sw_region_ops.specs.Runs.{Runs, Fits}
use Rattle.sw_region_ops.specs.declared.op.Op.{Op}
use Rattle.sw_region_ops.specs.declared.op.Op.TheVariants.{Need, Free, Fresh, Put, Join, Give}
use Rattle.sw_cert.proofs.Copies.{pass_copied}

-- the operations of a block fit the states of the flow
pub ops_fit_at : (analysis : Analysis) → IsAnalysis analysis → (b : ℕ)
    → b < length analysis.setting.body.blocks
    → All (Fits (facts_of analysis)) (block_ops_at analysis.setting b)
ops_fit_at analysis fits b within =
    let block = element_at analysis.setting.body.blocks b within in
    subst (All (Fits (facts_of analysis))) (sym (ops_are analysis.setting b block.0 block.1))
    (ops_fit analysis b block.0 _ fits block.1 refl)

pub tell_not_given : (r : Regions) (x : ℕ) → Decided (IsNotGivenAway r x)
tell_not_given r x = elim (given r x) [
  | inl h ↦ inr (λ live. live (h.0, h.1.there))
  | inr live ↦ inl live
]

pub tell_op : (op : Op) (r : Regions) → Decided (Passes op r)
tell_op (Need x at) r = tell_not_given r x
tell_op (Free x at code) r =
    both_decided (tell_not_given r x) (not_decided (tell_together r x 0))
tell_op (Fresh x) r = inl tt
tell_op (Put x y) r = inl tt
tell_op (Join x y) r = inl tt
tell_op (Give x site) r = inl tt

-- What an operation makes of a state are copies, so that all that come behind pass in each or in
-- none.
pub tell_ops : (ops : List Op) (r z : Regions) → Runs ops r z → Decided (AllPass ops r)
tell_ops [] r z runs = inl tt
tell_ops (op ∷ ops) r z (m, does, rest) = by (tell_op op r) (tell_ops ops m z rest)
  where
    by : Decided (Passes op r) → Decided (AllPass ops m) → Decided (AllPass (op ∷ ops) r)
    by (inr fails) later = inr (λ all. fails all.0)
    by (inl passes) (inr fails) = inr (λ all. fails (all.1 m does))
    by (inl passes) (inl later) = inl (
      passes,
      λ made does_too. pass_copied ops made m z
          (runs_same (op ∷ []) r r made m (copy_same r) (made, does_too, refl) (m, does, refl))
          rest later,
    )
