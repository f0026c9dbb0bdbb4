-- What the tables of a program have at a number names declared types.
use Rattle.std.proofs.Common.{◌≡◌, ℕ, ◌<◌, Option, Some, None, refl, slice_get}
use Rattle.std.proofs.lemmas.Option.{slice_get_within}
use Rattle.std.specs.Prelude.{IfSome}
use Rattle.sw_tree.specs.declared.type_tree.TypeTree.{TypeTree}
use Rattle.sw_decl_words.proofs.WithinLemmas.{written_within}
use Rattle.sw_decl_words.specs.TypeWords.{type_of}
use Rattle.sw_typing_rules.specs.Worlds.{World, and_then, case_at, part_at}
use Rattle.sw_typing_facts.proofs.Declared.Noted.{size}
use Rattle.sw_typing_facts.proofs.Declared.Tables.{FuncWithin, GlobalWithin, PartWithin, ShapeWithin}
use Rattle.sw_typing_facts.proofs.Declared.Tables.{TablesWithin}
use Rattle.sw_typing_facts.proofs.Types.Within.{Within, at_number, get_of_all}

-- what holds of each value that may be found
if_there : {A : Type 0} (P : A → Type 0) (found : Option A)
    → ((x : A) → found ≡ Some x → P x) → IfSome found P
if_there P None holds = tt
if_there P (Some x) holds = holds x refl

if_found : {A B : Type 0} (P : B → Type 0) (found : Option A) (f : A → Option B)
    → ((x : A) → found ≡ Some x → IfSome (f x) P) → IfSome (and_then found f) P
if_found P None f holds = tt
if_found P (Some x) f holds = holds x refl

in_any : {A : Type 0} (P : Type 0) (found : Option A) → P → IfSome found (λ _. P)
in_any P None is = tt
in_any P (Some x) is = is

module _ (world : World) (tables : TablesWithin world) where
  pub shape_below : (shape : ℕ) → IfSome (slice_get world.shapes shape) (λ _. shape < size world)
  shape_below shape =
      if_there (λ _. shape < size world) (slice_get world.shapes shape)
      (λ found at. slice_get_within world.shapes shape found at)

  pub case_below : (shape number : ℕ)
      → IfSome (case_at world shape number) (λ _. shape < size world)
  case_below shape number =
      if_found (λ _. shape < size world) (slice_get world.shapes shape)
      (λ found. slice_get found.cases number)
      (λ found at. in_any (shape < size world) (slice_get found.cases number)
      (slice_get_within world.shapes shape found at))

  pub part_is : (shape number : ℕ) → IfSome (part_at world shape number) (PartWithin (size world))
  part_is shape number =
      if_found (PartWithin (size world)) (slice_get world.shapes shape)
      (λ found. slice_get found.parts number)
      (λ found at. get_of_all (PartWithin (size world)) found.parts number
      (at_number (ShapeWithin (size world)) world.shapes shape found tables.shapes at).0)

  pub func_is : (number : ℕ) → IfSome (slice_get world.funcs number) (FuncWithin (size world))
  func_is number = get_of_all (FuncWithin (size world)) world.funcs number tables.funcs

  pub global_is : (number : ℕ) → IfSome (slice_get world.globals number) (GlobalWithin (size world))
  global_is number = get_of_all (GlobalWithin (size world)) world.globals number tables.globals

  pub written_is : (tree : TypeTree) → Within (size world) (type_of world.known.top tree)
  written_is = written_within world.known.top (size world) tables.words
