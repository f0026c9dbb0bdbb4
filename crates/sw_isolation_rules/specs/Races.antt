-- What may not be shared between isolations, E601 to E606 (SE-0302, SE-0306, SE-0414).
use Rattle.std.specs.Prelude.{ℕ, ◌+◌, Bool, true, false, not, ◌&&◌, ◌||◌, ◌==◌, List, [], ◌∷◌}
use Rattle.std.specs.Prelude.{◌++◌}
use Rattle.std.specs.Prelude.{Option, Some, None, is_none, flat_map, Contains, if◌then◌else◌}
use Rattle.std.specs.List.{list_any}
use Rattle.std.specs.List.Sorted.{IsStrictlySortedBy}
use Rattle.sw_tree.specs.declared.decl.Decl.{Decl}
use Rattle.sw_types.specs.Held.{types_in}
use Rattle.sw_types.specs.Sendable.{is_sendable}
use Rattle.sw_types.specs.declared.shape.Part.{Part}
use Rattle.sw_types.specs.declared.shape.Shape.{Shape}
use Rattle.sw_types.specs.declared.shape.ShapeKind.{ShapeKind}
use Rattle.sw_types.specs.declared.shape.ShapeKind.TheVariants as shapes
use Rattle.sw_types.specs.declared.ty.Ty.{Ty}
use Rattle.sw_types.specs.declared.ty.Ty.TheVariants as types
use Rattle.sw_decl_words.specs.Placed.{placed_cmp}
use Rattle.sw_decl_words.specs.Words.{or_else}
use Rattle.sw_decl_words.specs.declared.placed.Placed.{Placed}
use Rattle.sw_typing_rules.specs.Statements.{marked_type}
use Rattle.sw_typing_rules.specs.Worlds.{World}
use Rattle.sw_isolation_rules.specs.Answers.{Answers}
use Rattle.sw_isolation_rules.specs.Lists.{races_in, captures_in}
use Rattle.sw_isolation_rules.specs.Noting.{placed}
use Rattle.sw_isolation_rules.specs.Programs.{noted}
use Rattle.sw_isolation_rules.specs.declared.note.Capture.{Capture}

abbrev pub races_if : Bool → ℕ → ℕ → List Placed
races_if fails at code = if fails then placed at code ∷ [] else []

-- the type whose word has a key, of types that are numbered from here
abbrev pub shape_from : ℕ → List Shape → ℕ → Option Ty
shape_from number [] key = None
shape_from number (shape ∷ shapes) key =
    or_else (if shape.at == key then Some (types.Named number) else None)
    (shape_from (number + 1) shapes key)

abbrev pub has_var : Shape → Bool
has_var shape = list_any (λ (part : Part). part.mutable) shape.parts

module _ (world : World) where
  abbrev pub holds_unsent : Shape → Bool
  holds_unsent shape = list_any (λ ty. not (is_sendable world.shapes ty)) (types_in shape)

  -- Whether a type that declares Sendable isn't: a struct or an enum with a part that isn't, and a
  -- class without a global actor that has such a part or a `var`.
  abbrev pub breaks_promise : ShapeKind → Shape → Bool
  breaks_promise shapes.Struct shape = holds_unsent shape
  breaks_promise shapes.Enum shape = holds_unsent shape
  breaks_promise shapes.Class shape =
      is_none shape.actor && (has_var shape || holds_unsent shape)
  breaks_promise shapes.Actor shape = false

  abbrev pub shape_races : Shape → List Placed
  shape_races shape =
      races_if (shape.conforms && breaks_promise shape.kind shape) shape.at 601

  -- the type of a variable by the key of its declaration; of `self` the key is the type's own word
  unfoldable pub variable_type : Answers → ℕ → Option Ty
  variable_type answers key = or_else (answers.type_at key) (shape_from 0 world.shapes key)

  abbrev pub is_unsent : Option Ty → Bool
  is_unsent None = false
  is_unsent (Some ty) = not (is_sendable world.shapes ty)

  -- what a closure that may be sent captures: by reference never (E603), by value what is Sendable
  -- (E602)
  abbrev pub sent_races : Capture → Option Ty → List Placed
  sent_races capture ty =
      if capture.by_ref then races_if true capture.first 603
      else races_if (is_unsent ty) capture.first 602

  unfoldable pub capture_races : Answers → Capture → List Placed
  capture_races answers capture =
      if marked_type (answers.type_at capture.closure)
      then sent_races capture (variable_type answers capture.variable) else []

  -- all of E601 to E606
  abbrev pub races : Answers → List Decl → List Placed
  races answers decls =
      flat_map shape_races world.shapes
      ++ races_in (noted world answers decls)
      ++ flat_map (capture_races answers) (captures_in (noted world answers decls))

-- The breaches in order, each once.
pub record IsMerged (all merged : List Placed) : Type 0 where
  -- by position, then by code, and no two alike
  pub rises : IsStrictlySortedBy placed_cmp merged
  pub from : (one : Placed) → Contains merged one → Contains all one
  pub covers : (one : Placed) → Contains all one → Contains merged one

-- the races of a program, in order, each once
abbrev pub AreRaces : World → Answers → List Decl → List Placed → Type 0
AreRaces world answers decls merged = IsMerged (races world answers decls) merged
