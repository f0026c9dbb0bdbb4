-- What the work of a program depends on beside its tree: what it declares, the types and meanings of
-- its nodes, and its isolation.
use Rattle.std.specs.Prelude.{ℕ, ◌==◌, Bool, List, [], ◌∷◌, Option, Some, None, if◌then◌else◌}
use Rattle.std.specs.Prelude.{option_map}
use Rattle.std.specs.List.{filter}
use Rattle.sw_types.specs.declared.isolation.CallKind.{CallKind}
use Rattle.sw_types.specs.declared.isolation.Iso.{Iso}
use Rattle.sw_types.specs.declared.isolation.Iso.TheVariants as iso
use Rattle.sw_types.specs.declared.shape.Shape.{Shape}
use Rattle.sw_types.specs.declared.ty.Ty.{Ty, out-Ty}
use Rattle.sw_types.specs.declared.ty.Ty.TheOpen as layer
use Rattle.sw_typing_rules.specs.Worlds.{World, item}
use Rattle.sw_isolation_rules.specs.Answers.{Answers}
use Rattle.sw_isolation_rules.specs.Captures.{is_among}
use Rattle.sw_isolation_rules.specs.Lists.{bodies_in, boxes_in, captures_in, kind_with, kinds_in}
use Rattle.sw_isolation_rules.specs.declared.note.BodyIso.{BodyIso}
use Rattle.sw_isolation_rules.specs.declared.note.Capture.{Capture}
use Rattle.sw_isolation_rules.specs.declared.note.Note.{Note}

-- Of the body with a key its isolation, of the call or the crossing read with a key how it crosses,
-- of a closure or a task what it captures, in order, and of a variable whether it is kept in a box,
-- since some closure shares it.
pub record Facts : Type 0 where
  pub world : World
  pub answers : Answers
  pub iso_at : ℕ → Iso
  pub kind_at : ℕ → Option CallKind
  pub captures_of : ℕ → List Capture
  pub is_boxed : ℕ → Bool

-- the isolation of the first body with a key
abbrev pub iso_with : List BodyIso → ℕ → Iso
iso_with [] key = iso.Free
iso_with (body ∷ bodies) key = if body.key == key then body.iso else iso_with bodies key

-- the facts of a program by what is noted of its isolation
abbrev pub facts_in : World → Answers → List Note → Facts
facts_in world answers notes = record {
  world = world;
  answers = answers;
  iso_at = iso_with (bodies_in notes);
  kind_at = kind_with (kinds_in notes);
  captures_of = λ key. filter (λ (one : Capture). one.closure == key) (captures_in notes);
  is_boxed = is_among (boxes_in notes);
}

-- The variable `self` in the members of the type with a number has the key of the type's word.
abbrev pub self_key : Facts → Option ℕ → Option ℕ
self_key facts owner = option_map (λ (shape : Shape). shape.at) (item owner facts.world.shapes)

abbrev pub result_layer : layer.Ty-F Ty → Option Ty
result_layer (layer.Func sendable params result) = Some result
result_layer _ = None

-- the result of a type of functions
abbrev pub func_result : Option Ty → Option Ty
func_result None = None
func_result (Some ty) = result_layer (out-Ty ty)
