use Rattle.sw_store_facts.proofs.Cells.{boxes, objects}
use Rattle.sw_store_facts.proofs.laws.new_cells_keep_soundness.Goals as goal

pub returns : goal.returns
returns c = record { boxes = boxes; objects = objects }
