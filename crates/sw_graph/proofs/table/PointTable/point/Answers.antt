use Rattle.std.proofs.Common.{ap, ◌∙◌, length, arith}
use Rattle.std.specs.Option.{option_and_then}
use Rattle.sw_graph.specs.Table.{at_place}
use Rattle.sw_graph.specs.Lent.{lent_point}
use Rattle.sw_graph.proofs.TableLemmas.{point_placed, length-places_from, on_some}
use Rattle.sw_graph.specs.declared.table.PointTable.{PointTable}
use Rattle.sw_graph.proofs.table.PointTable.point.Goals as goal

pub returns-in_err-place-clause-point : goal.returns-in_err-place-clause-point
returns-in_err-place-clause-point c =
    ap lent_point c.from_residual.ensures
    ∙ ap (option_and_then (at_place c.args.function.now.blocks)) c.in_err-place.ensures.value
    ∙ point_placed c.args.function.now c.args.self.now c.args.point c.requires.table

pub returns-clause-point : goal.returns-clause-point
returns-clause-point c =
    c.at.ensures
    ∙ ap (option_and_then (at_place c.args.function.now.blocks)) c.in_ok-place.ensures.value
    ∙ point_placed c.args.function.now c.args.self.now c.args.point c.requires.table

pub returns-clause-numbered : goal.returns-clause-numbered
returns-clause-numbered c =
    on_some c.at.result
    (omega (
      arith,
      c.in_ok-place.ensures.within,
      ap (λ (table : PointTable). length table.places) c.requires.table,
      length-places_from 0 c.args.function.now.blocks,
    ))
