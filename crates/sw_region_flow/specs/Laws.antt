-- The steps of blocks are monotone, and there is one entry.
use Rattle.std.proofs.Common.{◌≡◌, ℕ, List, sym, ◌∙◌}
use Rattle.sw_partition.specs.Laws.{within_trans, same_within}
use Rattle.sw_partition.specs.Regions.{Regions, size_of, IsWithin}
use Rattle.sw_region_flow.specs.Analysis.{Analysis, WalksBlock, facts_of, block_ops_at}
use Rattle.sw_region_flow.specs.Walks.{IsCopy, Walks}
use Rattle.sw_region_ops.proofs.RunLemmas.{runs_size, runs_monotone, one_entry}
use Rattle.sw_region_ops.specs.Elements.{element_count}
use Rattle.sw_region_ops.specs.Entry.{IsEntry, here_at_entry}
use Rattle.sw_region_ops.specs.Setting.{FunctionSetting}
use Rattle.sw_region_ops.specs.declared.op.Op.{Op}

-- operations keep the elements and the sites
pub walks_size : (ops : List Op) (a b : Regions) → Walks ops a b → size_of b ≡ size_of a
walks_size ops a b walks =
    runs_size ops walks.copied b walks.runs ∙ walks.is_copy.sized

-- copies of states are in the states' order
pub copies_within : (a b c d : Regions) → IsWithin a b → IsCopy a c → IsCopy b d → IsWithin c d
copies_within a b c d within first second =
    within_trans c a d (same_within a c first.same).1
    (within_trans a b d within (same_within b d second.same).0)

pub walks_monotone : (ops : List Op) (a b c d : Regions) → size_of a ≡ size_of b → IsWithin a b
    → Walks ops a c → Walks ops b d → IsWithin c d
walks_monotone ops a b c d size within first second =
    runs_monotone ops first.copied second.copied c d
    (first.is_copy.sized ∙ size ∙ sym second.is_copy.sized)
    (copies_within a b first.copied second.copied within first.is_copy second.is_copy)
    first.runs second.runs

pub leads_monotone : (analysis : Analysis) (p : ℕ) (a b c d : Regions)
    → size_of a ≡ facts_of analysis → size_of b ≡ facts_of analysis → IsWithin a b
    → WalksBlock analysis p a c → WalksBlock analysis p b d → IsWithin c d
leads_monotone analysis p a b c d first second within walks walks_too =
    walks_monotone (block_ops_at analysis.setting p) a b c d (first ∙ sym second) within walks.1
    walks_too.1

pub entries_within : (setting : FunctionSetting) (sites : List ℕ) (a b : Regions)
    → IsEntry setting sites a
    → IsEntry setting sites b → IsWithin a b
entries_within setting sites a b first second = (same_within a b
    (one_entry (element_count setting.elements) sites (here_at_entry setting) a b first second)).0
