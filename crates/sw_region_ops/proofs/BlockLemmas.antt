-- The operations of a block are those of its instructions and then those of its last instruction.
use Rattle.std.proofs.Common.{◌≡◌, List, [], ◌∷◌, ◌++◌, map, refl, ap, ◌∙◌}
use Rattle.std.specs.List.{flat_map}
use Rattle.std.proofs.lemmas.List.Concat.{flat_map-append}
use Rattle.std.proofs.lemmas.List.{append-nil}
use Rattle.sw_graph.specs.Points.{Middle, End}
use Rattle.sw_graph.specs.declared.instr.Block.{Block}
use Rattle.sw_graph.specs.declared.instr.Instr.{Instr}
use Rattle.sw_region_ops.specs.Setting.{FunctionSetting}
use Rattle.sw_region_ops.specs.Table.{instr_ops, last_ops, point_ops, block_ops}

middles : (setting : FunctionSetting) (instrs : List Instr)
    → flat_map (point_ops setting) (map Middle instrs) ≡ flat_map (instr_ops setting) instrs
middles setting [] = refl
middles setting (instr ∷ instrs) =
    ap (λ ops. instr_ops setting instr ++ ops) (middles setting instrs)

pub block_is : (setting : FunctionSetting) (block : Block)
    → block_ops setting block
    ≡ flat_map (instr_ops setting) block.instrs ++ last_ops setting block.last
block_is setting block =
    flat_map-append (point_ops setting) (map Middle block.instrs) (End block.last ∷ [])
    ∙ ap (λ ops. ops ++ (last_ops setting block.last ++ [])) (middles setting block.instrs)
    ∙ ap (λ ops. flat_map (instr_ops setting) block.instrs ++ ops)
    (append-nil (last_ops setting block.last))
