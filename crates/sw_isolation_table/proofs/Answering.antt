-- What the tables of types and meanings answer is what is said of the program.
use Rattle.std.proofs.Common.{◌≡◌, ℕ, List, [], ◌∷◌, Bool, true, false, Option, nat_eq, refl, ap}
use Rattle.std.proofs.Common.{Some, None, ◌∙◌, if◌then◌else◌}
use Rattle.indexmap.specs.IndexMap.{get}
use Rattle.sw_isolation_table.specs.Known.{answers_of}
use Rattle.sw_isolation_rules.specs.Answers.{Answers, answers_in, meaning_row, type_row}
use Rattle.sw_isolation_rules.specs.Answers as rules
use Rattle.sw_decl_words.specs.Words.{or_else}
use Rattle.sw_tree.specs.declared.decl.Decl.{Decl}
use Rattle.sw_types.specs.declared.ty.Ty.{Ty}
use Rattle.sw_typing_table.specs.Typed as tables
use Rattle.sw_typing_table.specs.declared.typed.Typed as typing
use Rattle.sw_typing_rules.specs.Programs.{said}
use Rattle.sw_typing_rules.specs.Worlds.{World}
use Rattle.sw_typing_rules.specs.declared.row.Meaning.{Meaning}
use Rattle.sw_typing_rules.specs.declared.row.Row.{Row}
use Rattle.sw_typing_rules.specs.declared.row.Row.TheVariants.{Typed, Means, Ill}

type_found : (rows : List Row) (key : ℕ) → tables.type_in rows key ≡ rules.type_in rows key
type_found [] key = refl
type_found (Typed at ty ∷ rows) key = by (nat_eq at key) (type_found rows key) where
  by : (same : Bool) → tables.type_in rows key ≡ rules.type_in rows key
      → (if same then Some ty else tables.type_in rows key)
      ≡ or_else (if same then Some ty else None) (rules.type_in rows key)
  by true more = refl
  by false more = more
type_found (Means at meaning ∷ rows) key = type_found rows key
type_found (Ill at code unless ∷ rows) key = type_found rows key

meaning_found : (rows : List Row) (key : ℕ)
    → tables.meaning_in rows key ≡ rules.meaning_in rows key
meaning_found [] key = refl
meaning_found (Typed at ty ∷ rows) key = meaning_found rows key
meaning_found (Means at meaning ∷ rows) key = by (nat_eq at key) (meaning_found rows key) where
  by : (same : Bool) → tables.meaning_in rows key ≡ rules.meaning_in rows key
      → (if same then Some meaning else tables.meaning_in rows key)
      ≡ or_else (if same then Some meaning else None) (rules.meaning_in rows key)
  by true more = refl
  by false more = more
meaning_found (Ill at code unless ∷ rows) key = meaning_found rows key

pub answers_are_said : (world : World) (decls : List Decl) (typed : typing.Typed)
    → tables.IsTyped world decls typed → answers_of typed ≡ answers_in (said world decls)
answers_are_said world decls typed is =
    let rows = said world decls in
    let types : (key : ℕ) → get nat_eq typed.types key ≡ rules.type_in rows key =
    λ key. is.types key ∙ type_found rows key in
    let meanings : (key : ℕ) → get nat_eq typed.meanings key ≡ rules.meaning_in rows key =
    λ key. is.meanings key ∙ meaning_found rows key in
    λ i. record { type_at = λ key. types key i; meaning_at = λ key. meanings key i }
