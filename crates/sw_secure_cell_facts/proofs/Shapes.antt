-- Objects of classes without a global actor: their parts may cross if they are Sendable, and they
-- are none that an initialiser makes.
use Rattle.std.specs.List.{list_all, slice_get}
use Rattle.std.proofs.Common.{◌≡◌, ◌&&◌, ◌||◌, ℕ, Bool, true, false, not}
use Rattle.std.proofs.Common.{Some, None}
use Rattle.std.proofs.Common.{List, refl, ap, ◌∙◌}
use Rattle.std.proofs.lemmas.Bool.{and_parts}
use Rattle.sw_types.specs.declared.shape.Shape.{Shape}
use Rattle.sw_types.specs.Held.{types_in}
use Rattle.sw_types.specs.Sendable.{sends_at}
use Rattle.sw_graph.specs.declared.graph.Graph.{Graph}
use Rattle.sw_graph.specs.declared.function.Function.{Function}
use Rattle.sw_graph.specs.declared.instr.Instr.TheVariants.{NewObject}
use Rattle.sw_graph.specs.declared.instr.Operand.{Operand}
use Rattle.sw_graph.specs.Bodies.{actor_of, is_on_some, is_own, names}
use Rattle.sw_graph.specs.Points.{Middle}
use Rattle.sw_view_facts.specs.Views.{makes_itself}
use Rattle.sw_graph.specs.Clean.{IsClean, may_cross}
use Rattle.sw_graph.specs.Kinds.{is_class}
use Rattle.sw_reach_facts.proofs.ClassLemmas.{sendable_class}

-- the parts of a Sendable class without a global actor may cross between isolations
pub parts_cross : (graph : Graph) → IsClean graph → (k : ℕ) (shape : Shape)
    → slice_get graph.shapes k ≡ Some shape → is_class shape.kind ≡ true
    → sends_at graph.shapes k ≡ true → shape.actor ≡ None
    → list_all (may_cross graph) (types_in shape) ≡ true
parts_cross graph clean k shape at class sends none =
    (and_parts (list_all (may_cross graph) (types_in shape))
    (not (is_class shape.kind) || list_all (λ part. not part.mutable) shape.parts)
    (sendable_class graph clean k shape at class sends none)).0

-- an object of a class without a global actor is none that an initialiser makes
neither : (b c : Bool) → ((b && false) || (c && false)) ≡ false
neither true true = refl
neither true false = refl
neither false true = refl
neither false false = refl

pub no_initialiser : (graph : Graph) (function : Function) (at dst k : ℕ) (args : List Operand)
    → actor_of graph.shapes k ≡ None
    → makes_itself graph function (Middle (NewObject at dst k args)) ≡ false
no_initialiser graph function at dst k args none =
    ap (λ o. (is_own function.iso && false)
    || (names k function.result && is_on_some o function.iso)) none
    ∙ neither (is_own function.iso) (names k function.result)
