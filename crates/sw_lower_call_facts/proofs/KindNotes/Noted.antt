-- What is noted of a use: the making of an actor has its own kind.
use Rattle.std.proofs.Common.{ℕ, true, false, List}
use Rattle.std.proofs.Common.{◌++◌}
use Rattle.std.specs.List.{AllByRecursion}
use Rattle.sw_typing_rules.specs.Worlds.{World}
use Rattle.sw_isolation_rules.proofs.Each.{each_join}
use Rattle.sw_isolation_rules.proofs.NotedUses.{EachLeaf, of_call, of_use}
use Rattle.sw_isolation_rules.specs.Noting.{use_notes}
use Rattle.sw_isolation_rules.specs.declared.note.Note.{Note}
use Rattle.sw_isolation_rules.specs.declared.uses.Context.{Context}
use Rattle.sw_isolation_rules.specs.declared.uses.Used.{Used}
use Rattle.std.proofs.Common.{◌≡◌, Option, Some, None, refl, sym, ◌∙◌, ap, slice_get, ◌||◌}
use Rattle.std.proofs.lemmas.Option.{same_Some}
use Rattle.sw_types.specs.declared.shape.Shape.{Shape}
use Rattle.sw_types.specs.declared.shape.ShapeKind.{ShapeKind}
use Rattle.sw_types.specs.declared.shape.ShapeKind.TheVariants as shapes
use Rattle.sw_decls.specs.declared.signature.Signature.{Signature}
use Rattle.sw_typing_rules.specs.declared.row.Meaning.{Meaning}
use Rattle.sw_typing_rules.specs.declared.row.Meaning.TheVariants as means
use Rattle.sw_isolation_rules.specs.Answers.{Answers}
use Rattle.sw_isolation_rules.specs.Noting.{used_at}
use Rattle.sw_isolation_rules.specs.Uses.{called, may_cross, made, made_kind, maker_at, meant}
use Rattle.sw_isolation_rules.specs.Uses.{make_used, used}
use Rattle.sw_isolation_rules.specs.declared.uses.Base.{Base}
use Rattle.sw_lower_call_facts.specs.Making.{NoteMakes}

module _ (world : World) (answers : Answers) where
  abbrev pub AllMake : List Note → Type 0
  AllMake notes = AllByRecursion (NoteMakes world answers) notes

  pub join : (one other : List Note) → AllMake one → AllMake other → AllMake (one ++ other)
  join = each_join (NoteMakes world answers)

  pub leaf_makes : EachLeaf (NoteMakes world answers)
  leaf_makes = record {
    refused = λ at code low high. tt;
    race = λ at code low high. tt;
    mentioned = λ one. tt;
    captures = λ closure listed one less. tt;
  }

  -- the making of a type
  of_maker : (context : Context) (at : ℕ) (func : Option Signature)
      → AllMake (use_notes context at (called world true false func))
  of_maker context at None = tt
  of_maker context at (Some func) =
      of_call (NoteMakes world answers) leaf_makes context at (record {
        iso = func.iso;
        is_async = func.is_async;
        is_initialiser = true;
        on_self = false;
      }) (func.sends || may_cross world func.result) (λ k shape means there is. refl)

  of_made : (context : Context) (at k : ℕ) (shape : Shape)
      → answers.meaning_at at ≡ Some (means.MakeOf k) → slice_get world.shapes k ≡ Some shape
      → (kind : ShapeKind) → shape.kind ≡ kind
      → AllMake (use_notes context at (made_kind world kind k))
  of_made context at k shape is there shapes.Struct same = tt
  of_made context at k shape is there shapes.Enum same = tt
  of_made context at k shape is there shapes.Class same =
      of_use (NoteMakes world answers) leaf_makes context at _ (λ kind other one meant found actor.
      let number : k ≡ other = same_make (sym is ∙ meant) in
      let shapes_are : shape ≡ one =
      same_Some shape one (sym there ∙ ap (slice_get world.shapes) number ∙ found) in
      absurd (no_class (sym same ∙ ap (λ (s : Shape). s.kind) shapes_are ∙ actor))) where
        same_make : {i j : ℕ} → Some (means.MakeOf i) ≡ Some (means.MakeOf j) → i ≡ j
        same_make is = cc

        no_class : shapes.Class ≡ shapes.Actor → ⊥
        no_class is = cc
  of_made context at k shape is there shapes.Actor same = of_maker context at (maker_at world k)

  of_making : (context : Context) (at k : ℕ) → answers.meaning_at at ≡ Some (means.MakeOf k)
      → (found : Option Shape) → slice_get world.shapes k ≡ found
      → AllMake (use_notes context at (made world k found))
  of_making context at k is None there = tt
  of_making context at k is (Some shape) there =
      of_made context at k shape is there shape.kind refl

  -- another use
  of_other : (context : Context) (at : ℕ) (meaning : Option Meaning)
      → answers.meaning_at at ≡ meaning → ((k : ℕ) → meaning ≡ Some (means.MakeOf k) → ⊥)
      → (used : Used) → AllMake (use_notes context at used)
  of_other context at meaning is other used =
      of_use (NoteMakes world answers) leaf_makes context at used (λ kind k shape found there actor.
      absurd (other k (sym is ∙ found)))

  of_meant : (context : Context) (base : Base) (at : ℕ) (meaning : Option Meaning)
      → answers.meaning_at at ≡ meaning
      → AllMake (use_notes context at (meant world context.owner base meaning))
  unfolding make_used
  of_meant context base at None is =
      of_other context at None is (λ k same. cc)
      (meant world context.owner base None)
  of_meant context base at (Some (means.Local n)) is =
      of_other context at (Some (means.Local n)) is (λ k same. cc)
      (meant world context.owner base (Some (means.Local n)))
  of_meant context base at (Some (means.OwnPart n)) is =
      of_other context at (Some (means.OwnPart n)) is (λ k same. cc)
      (meant world context.owner base (Some (means.OwnPart n)))
  of_meant context base at (Some (means.OwnFunc n)) is =
      of_other context at (Some (means.OwnFunc n)) is (λ k same. cc)
      (meant world context.owner base (Some (means.OwnFunc n)))
  of_meant context base at (Some (means.GlobalOf n)) is =
      of_other context at (Some (means.GlobalOf n)) is (λ k same. cc)
      (meant world context.owner base (Some (means.GlobalOf n)))
  of_meant context base at (Some (means.FuncOf n)) is =
      of_other context at (Some (means.FuncOf n)) is (λ k same. cc)
      (meant world context.owner base (Some (means.FuncOf n)))
  of_meant context base at (Some (means.MakeOf k)) is =
      of_making context at k is (slice_get world.shapes k) refl
  of_meant context base at (Some (means.CaseOf s n)) is =
      of_other context at (Some (means.CaseOf s n)) is (λ k same. cc)
      (meant world context.owner base (Some (means.CaseOf s n)))
  of_meant context base at (Some (means.PartOf n)) is =
      of_other context at (Some (means.PartOf n)) is (λ k same. cc)
      (meant world context.owner base (Some (means.PartOf n)))
  of_meant context base at (Some means.Print) is =
      of_other context at (Some means.Print) is (λ k same. cc)
      (meant world context.owner base (Some means.Print))
  of_meant context base at (Some means.TaskValue) is =
      of_other context at (Some means.TaskValue) is (λ k same. cc)
      (meant world context.owner base (Some means.TaskValue))

  pub of_used : (context : Context) (base : Base) (at : ℕ)
      → AllMake (use_notes context at (used_at world answers context base at))
  unfolding used
  of_used context base at = of_meant context base at (answers.meaning_at at) refl
