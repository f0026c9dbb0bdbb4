-- What a point that is lent stands for.
use Rattle.std.specs.Prelude.{Option, Some, None}
use Rattle.sw_graph.specs.Points as points
use Rattle.sw_graph.specs.declared.point.Point.{Point}
use Rattle.sw_graph.specs.declared.point.Point.TheVariants.{Middle, End}

abbrev pub lent_point : Option Point → Option points.Point
lent_point None = None
lent_point (Some (Middle instr)) = Some (points.Middle instr.now)
lent_point (Some (End last)) = Some (points.End last.now)
