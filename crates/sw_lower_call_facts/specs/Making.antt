-- The kinds of calls that make actors.
use Rattle.std.specs.Prelude.{◌≡◌, ℕ, Some, slice_get}
use Rattle.sw_types.specs.declared.isolation.CallKind.TheVariants.{Make}
use Rattle.sw_types.specs.declared.shape.Shape.{Shape}
use Rattle.sw_types.specs.declared.shape.ShapeKind.TheVariants.{Actor}
use Rattle.sw_typing_rules.specs.Worlds.{World}
use Rattle.sw_typing_rules.specs.declared.row.Meaning.TheVariants.{MakeOf}
use Rattle.sw_isolation_rules.specs.Answers.{Answers}
use Rattle.sw_isolation_rules.specs.declared.note.Kinded.{Kinded}
use Rattle.sw_isolation_rules.specs.declared.note.Note.{Note}
use Rattle.sw_isolation_rules.specs.declared.note.Note.TheVariants as notes

module _ (world : World) (answers : Answers) where
  -- Where the making of an actor is meant, the kind is that of making an actor.
  abbrev pub KindMakes : Kinded → Type 0
  KindMakes one = (k : ℕ) (shape : Shape) → answers.meaning_at one.at ≡ Some (MakeOf k)
      → slice_get world.shapes k ≡ Some shape → shape.kind ≡ Actor → one.kind ≡ Make

  abbrev pub NoteMakes : Note → Type 0
  NoteMakes (notes.Kind kinded) = KindMakes kinded
  NoteMakes _ = Unit {0}
