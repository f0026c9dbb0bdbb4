use Rattle.std.proofs.Common.{◌≡◌, ◌∷◌, [], drop, reverse}
use Rattle.std.specs.List.{filter_map}
use Rattle.sw_value.specs.Frame.{first_frame}
use Rattle.sw_value.proofs.beginning.start_frames.Given as goal

abbrev pub invariant-loop-i : goal.invariant-loop-i
invariant-loop-i l =
    l.frames ≡ filter_map (λ f. first_frame l.graph f [])
    (l.graph.entry ∷ reverse (drop l.i l.graph.starts))
