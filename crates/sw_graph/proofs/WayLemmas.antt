-- Where an annotation tells which registers are set, each register is set before it is read.
use Rattle.std.proofs.Common.{ℕ, ◌||◌, Bool, true, false, IsTrue, List}
use Rattle.std.proofs.Common.{get_or}
use Rattle.std.proofs.Common.{refl}
use Rattle.sw_graph.specs.declared.function.Function.{Function}
use Rattle.sw_graph.specs.Points.{point_in}
use Rattle.sw_graph.specs.Ways.{Way, begin, further, is_set, point_sets, point_reads}
use Rattle.sw_graph.specs.Ways.{IsAnnotated, SetsBeforeReads}

or_more : (a b c : Bool) → IsTrue (a || b) → (IsTrue b → IsTrue c) → IsTrue (a || c)
or_more true b c holds more = refl
or_more false b c holds more = more holds

annotated_set : (function : Function) (annotation : ℕ → ℕ → Bool) → IsAnnotated function annotation
    → (p : ℕ) (passed : List ℕ) → Way function p passed → (r : ℕ) → IsTrue (annotation p r)
    → IsTrue (is_set function passed r)
annotated_set function annotation is p passed begin r holds = is.starts r holds
annotated_set function annotation is p passed (further before q earlier way leads) r holds =
    or_more (point_sets r (point_in function before)) (annotation before r)
    (is_set function earlier r) (is.leads before p r leads holds)
    (annotated_set function annotation is before earlier way r)

pub annotated : (function : Function) (annotation : ℕ → ℕ → Bool)
    → IsAnnotated function annotation → SetsBeforeReads function
annotated function annotation is p passed way point here k d inside =
    annotated_set function annotation is p passed way (get_or (point_reads point) k d)
    (is.reads_set p point here k d inside)
