-- What is said of a key of a program is one thing, where its nodes have keys of their own.
use Rattle.std.proofs.Common.{◌≡◌, ℕ, zero, suc, ◌+◌, ◌≤◌, List, [], ◌∷◌, Some, None, arith, sym}
use Rattle.std.proofs.Common.{subst}
use Rattle.std.specs.Prelude.{slice_get}
use Rattle.sw_tree.proofs.Counting.{Weight, hits, hits_same, in_all, in_all-cons}
use Rattle.sw_tree.specs.Contents.{AreKeyed}
use Rattle.sw_tree.specs.Keys.{keys_of}
use Rattle.sw_tree.specs.declared.decl.Decl.{Decl}
use Rattle.sw_types.specs.declared.shape.Shape.{Shape}
use Rattle.sw_types.specs.declared.ty.Ty.{Ty}
use Rattle.sw_decl_words.specs.Evident.{Meanings, meanings_of}
use Rattle.sw_decl_words.specs.Shaped.{shapes_from}
use Rattle.sw_decls.specs.Declaring.{made_shapes}
use Rattle.sw_decls.specs.declared.signature.AsyncDefault.{AsyncDefault}
use Rattle.sw_typing_rules.proofs.OneWorld.{distinct_once}
use Rattle.sw_typing_rules.proofs.Saying.{said_is}
use Rattle.sw_typing_rules.specs.Programs.{HasType, HasMeaning, said, bodies_from, values_from}
use Rattle.sw_typing_rules.specs.Worlds.{IsWorldOf, World}
use Rattle.sw_typing_rules.specs.declared.row.Meaning.{Meaning}
use Rattle.sw_typing_rules.specs.declared.row.Row.{Row}
use Rattle.sw_typing_rules.specs.declared.row.Row.TheVariants.{Typed, Means}
use Rattle.sw_isolation_rules.specs.Answers.{IsOnePerKey, answers_in}
use Rattle.sw_typing_facts.proofs.Said.Counts.{Counts}
use Rattle.sw_typing_facts.proofs.Said.OneAnswer.{meaning_answered, meanings_count, meanings_told}
use Rattle.sw_typing_facts.proofs.Said.OneAnswer.{no_type_answered, type_answered, types_count}
use Rattle.sw_typing_facts.proofs.Said.OneAnswer.{types_told}
use Rattle.sw_typing_facts.proofs.Said.Programs.{all_said, by_one, in_shape, said_by_body}
use Rattle.sw_typing_facts.proofs.Said.Programs.{said_by_value, said_counts, words_of_body}
use Rattle.sw_typing_facts.proofs.Said.Programs.{words_of_value}

module _ (w : Row → Weight) (counts : Counts w) (world : World) where
  -- what is said of a program, and the keys of its shapes
  program_said : (known : Meanings) (decls : List Decl) (k : ℕ)
      → in_all w (said world decls) k + in_all in_shape (shapes_from known 0 decls) k
      ≤ in_all hits (keys_of decls) k
  program_said known decls k =
      omega (
        arith,
        said_counts w counts world decls k,
        by_one (said_by_body w counts world) (words_of_body world) (bodies_from world 0 decls) k,
        by_one (said_by_value w counts world) (words_of_value world) (values_from world 0 decls) k,
        all_said w counts world known decls k,
      )

-- a shape that a list has counts there
got_counts : (shapes : List Shape) (i : ℕ) (shape : Shape) → slice_get shapes i ≡ Some shape
    → 1 ≤ in_all in_shape shapes shape.at
got_counts [] i shape is = absurd (differ is) where
  differ : None ≡ Some shape → ⊥
  differ is = cc
got_counts (one ∷ shapes) zero shape is =
    let same : one ≡ shape = cc in
    let hit = subst (λ (s : Shape). in_shape s shape.at ≡ 1) (sym same) (hits_same shape.at) in
    omega (arith, in_all-cons in_shape one shapes shape.at, hit)
got_counts (one ∷ shapes) (suc i) shape is =
    omega (arith, in_all-cons in_shape one shapes shape.at, got_counts shapes i shape is)

-- An expression, a place or a variable has one type.
pub typed_once : (world : World) (decls : List Decl) → AreKeyed decls → (at : ℕ) (ty : Ty)
    → HasType world decls at ty → (answers_in (said world decls)).type_at at ≡ Some ty
typed_once world decls keyed at ty has =
    type_answered (said world decls) at ty
    (omega (
      arith,
      program_said types_told types_count world (meanings_of decls) decls at,
      distinct_once (keys_of decls) keyed at,
    ))
    (said_is world decls (Typed at ty) has)

pub one_type : (world : World) (decls : List Decl) → AreKeyed decls
    → IsOnePerKey (HasType world decls)
one_type world decls keyed at one other has holds =
    let first = typed_once world decls keyed at one has in
    let second = typed_once world decls keyed at other holds in
    cc

-- A name, a member or a call has one meaning.
pub meant_once : (world : World) (decls : List Decl) → AreKeyed decls → (at : ℕ)
    (meaning : Meaning) → HasMeaning world decls at meaning
    → (answers_in (said world decls)).meaning_at at ≡ Some meaning
meant_once world decls keyed at meaning has =
    meaning_answered (said world decls) at meaning
    (omega (
      arith,
      program_said meanings_told meanings_count world (meanings_of decls) decls at,
      distinct_once (keys_of decls) keyed at,
    ))
    (said_is world decls (Means at meaning) has)

pub one_meaning : (world : World) (decls : List Decl) → AreKeyed decls
    → IsOnePerKey (HasMeaning world decls)
one_meaning world decls keyed at one other has holds =
    let first = meant_once world decls keyed at one has in
    let second = meant_once world decls keyed at other holds in
    cc

-- The word of a declared type has no type of its own.
pub selves_untyped : (world : World) (decls : List Decl) (rule : AsyncDefault) → AreKeyed decls
    → IsWorldOf decls rule world → (k : ℕ) (shape : Shape) → slice_get world.shapes k ≡ Some shape
    → (answers_in (said world decls)).type_at shape.at ≡ None
selves_untyped world decls rule keyed made k shape is =
    no_type_answered (said world decls) shape.at
    (omega (
      arith,
      program_said types_told types_count world (meanings_of decls) decls shape.at,
      distinct_once (keys_of decls) keyed shape.at,
      got_counts (made_shapes decls) k shape
          (subst (λ shapes. slice_get shapes k ≡ Some shape) made.shapes is),
    ))
