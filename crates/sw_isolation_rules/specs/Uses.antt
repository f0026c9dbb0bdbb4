-- What the use of a name, a member or a call is, by its meaning.
use Rattle.std.specs.Prelude.{ℕ, Bool, true, false, ◌||◌, Option, Some, None, slice_get}
use Rattle.std.specs.Prelude.{if◌then◌else◌}
use Rattle.sw_types.specs.Sendable.{is_sendable}
use Rattle.sw_types.specs.declared.shape.Part.{Part}
use Rattle.sw_types.specs.declared.shape.Shape.{Shape}
use Rattle.sw_types.specs.declared.shape.ShapeKind.{ShapeKind}
use Rattle.sw_types.specs.declared.shape.ShapeKind.TheVariants as shapes
use Rattle.sw_types.specs.declared.ty.Ty.{Ty, out-Ty}
use Rattle.sw_types.specs.declared.ty.Ty.TheOpen as layer
use Rattle.sw_decls.specs.Signatures.{actor_iso}
use Rattle.sw_decls.specs.declared.signature.GlobalVar.{GlobalVar}
use Rattle.sw_decls.specs.declared.signature.Signature.{Signature}
use Rattle.sw_typing_rules.specs.Worlds.{World, item, and_then, is_object_kind}
use Rattle.sw_typing_rules.specs.declared.row.Meaning.{Meaning}
use Rattle.sw_typing_rules.specs.declared.row.Meaning.TheVariants as means
use Rattle.sw_isolation_rules.specs.Answers.{Answers}
use Rattle.sw_isolation_rules.specs.Kinds.{shape_iso}
use Rattle.sw_isolation_rules.specs.declared.uses.Base.{Base}
use Rattle.sw_isolation_rules.specs.declared.uses.Storage.{Storage}
use Rattle.sw_isolation_rules.specs.declared.uses.Used.{Used}
use Rattle.sw_isolation_rules.specs.declared.uses.Used.TheVariants.{Called, Stored, Field, Waited}
use Rattle.sw_isolation_rules.specs.declared.uses.Used.TheVariants.{Nothing}

-- nothing stands before a word
abbrev pub no_base : Base
no_base = record { shape = None; is_self = false }

abbrev pub named_layer : layer.Ty-F Ty → Option ℕ
named_layer (layer.Named shape) = Some shape
named_layer _ = None

-- the number of a declared type
abbrev pub named_shape : Option Ty → Option ℕ
named_shape None = None
named_shape (Some ty) = named_layer (out-Ty ty)

-- what stands before a `.`, by its key and by whether it is the word `self`
unfoldable pub base_of : Answers → ℕ → Bool → Base
base_of answers key is_self =
    record { shape = named_shape (answers.type_at key); is_self = is_self }

module _ (world : World) where
  abbrev pub may_cross : Ty → Bool
  may_cross ty = is_sendable world.shapes ty

  -- the call of a function that was found, on `self` or not
  abbrev pub called : Bool → Bool → Option Signature → Used
  called is_initialiser on_self None = Nothing
  called is_initialiser on_self (Some func) = Called (record {
    iso = func.iso;
    is_async = func.is_async;
    is_initialiser = is_initialiser;
    on_self = on_self;
  }) (func.sends || may_cross func.result)

  -- the call of a function by its number
  unfoldable pub func_used : ℕ → Bool → Used
  func_used number on_self = called false on_self (slice_get world.funcs number)

  -- the initialiser of a class or an actor
  unfoldable pub maker_at : ℕ → Option Signature
  maker_at shape = item (and_then (slice_get world.makers shape) world.numbers) world.funcs

  -- To make a struct calls nothing.
  abbrev pub made_kind : ShapeKind → ℕ → Used
  made_kind shapes.Struct shape = Nothing
  made_kind shapes.Enum shape = Nothing
  made_kind shapes.Class shape = called false false (maker_at shape)
  made_kind shapes.Actor shape = called true false (maker_at shape)

  abbrev pub made : ℕ → Option Shape → Used
  made number None = Nothing
  made number (Some shape) = made_kind shape.kind number

  unfoldable pub make_used : ℕ → Used
  make_used number = made number (slice_get world.shapes number)

  abbrev pub part_storage : Shape → Bool → Part → Storage
  part_storage shape on_self part = record {
    iso = shape_iso shape;
    on_self = on_self;
    mutable = part.mutable;
    may_cross = may_cross part.ty;
  }

  -- a property: a part of a struct's value, or storage of an object or an actor
  abbrev pub part_in : Shape → Bool → Option Part → Used
  part_in shape on_self None = Nothing
  part_in shape on_self (Some part) =
      if is_object_kind shape.kind then Stored (part_storage shape on_self part) else Field

  abbrev pub part_of_shape : Option Shape → ℕ → Bool → Used
  part_of_shape None number on_self = Nothing
  part_of_shape (Some shape) number on_self = part_in shape on_self (slice_get shape.parts number)

  -- the property with a number of the type with a number
  unfoldable pub part_used : Option ℕ → ℕ → Bool → Used
  part_used shape number on_self = part_of_shape (item shape world.shapes) number on_self

  abbrev pub global : Option GlobalVar → Used
  global None = Nothing
  global (Some one) = Stored (record {
    iso = actor_iso one.actor;
    on_self = false;
    mutable = one.mutable;
    may_cross = may_cross one.ty;
  })

  unfoldable pub global_used : ℕ → Used
  global_used number = global (slice_get world.globals number)

  -- What is used by what is meant: a word without `self.` is a member of the type around, another
  -- member is one of what stands before its `.`.
  abbrev pub meant : Option ℕ → Base → Option Meaning → Used
  meant owner base None = Nothing
  meant owner base (Some (means.Local variable)) = Nothing
  meant owner base (Some (means.OwnPart number)) = part_used owner number true
  meant owner base (Some (means.OwnFunc number)) = func_used number true
  meant owner base (Some (means.GlobalOf number)) = global_used number
  meant owner base (Some (means.FuncOf number)) = func_used number base.is_self
  meant owner base (Some (means.MakeOf shape)) = make_used shape
  meant owner base (Some (means.CaseOf shape number)) = Nothing
  meant owner base (Some (means.PartOf number)) = part_used base.shape number base.is_self
  meant owner base (Some means.Print) = Nothing
  meant owner base (Some means.TaskValue) = Waited

  -- what is used by the name, member or call with this key
  unfoldable pub used : Answers → Option ℕ → Base → ℕ → Used
  used answers owner base at = meant owner base (answers.meaning_at at)
