-- What is known of the nodes of a program by their keys.
use Rattle.std.specs.Prelude.{◌≡◌, ℕ, ◌==◌, List, [], ◌∷◌, Option, Some, None, if◌then◌else◌}
use Rattle.sw_types.specs.declared.ty.Ty.{Ty}
use Rattle.sw_decl_words.specs.Words.{or_else}
use Rattle.sw_typing_rules.specs.declared.row.Meaning.{Meaning}
use Rattle.sw_typing_rules.specs.declared.row.Row.{Row}
use Rattle.sw_typing_rules.specs.declared.row.Row.TheVariants.{Typed, Means, Ill}

-- the type of the expression, place or variable with a key, and what the name, member or call with
-- a key means
pub record Answers : Type 0 where
  pub type_at : ℕ → Option Ty
  pub meaning_at : ℕ → Option Meaning

abbrev pub type_row : ℕ → Row → Option Ty
type_row key (Typed at ty) = if at == key then Some ty else None
type_row key (Means at meaning) = None
type_row key (Ill at code unless) = None

abbrev pub meaning_row : ℕ → Row → Option Meaning
meaning_row key (Typed at ty) = None
meaning_row key (Means at meaning) = if at == key then Some meaning else None
meaning_row key (Ill at code unless) = None

abbrev pub type_in : List Row → ℕ → Option Ty
type_in [] key = None
type_in (row ∷ rows) key = or_else (type_row key row) (type_in rows key)

abbrev pub meaning_in : List Row → ℕ → Option Meaning
meaning_in [] key = None
meaning_in (row ∷ rows) key = or_else (meaning_row key row) (meaning_in rows key)

-- what rows say of a key: the first that does
abbrev pub answers_in : List Row → Answers
answers_in rows = record { type_at = type_in rows; meaning_at = meaning_in rows }

-- what is noted of something that is known, and nothing where it isn't
abbrev pub for_some : {A B : Type 0} → Option A → (A → List B) → List B
for_some None f = []
for_some (Some x) f = f x

-- each key has one of these at most
abbrev pub IsOnePerKey : {A : Type 0} → (ℕ → A → Type 0) → Type 0
IsOnePerKey {A} has = (key : ℕ) (one other : A) → has key one → has key other → one ≡ other
