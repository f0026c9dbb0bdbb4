-- What one more row says of a key: it counts where those before it say nothing.
use Rattle.std.proofs.Common.{◌≡◌, ◌==◌, ℕ, Bool, true, false, List, [], ◌∷◌, ◌++◌, Option, Some}
use Rattle.std.proofs.Common.{None, refl, if◌then◌else◌}
use Rattle.sw_decl_words.specs.Words.{or_else}
use Rattle.sw_types.specs.declared.ty.Ty.{Ty}
use Rattle.sw_typing_rules.specs.declared.row.Meaning.{Meaning}
use Rattle.sw_typing_rules.specs.declared.row.Row.{Row}
use Rattle.sw_typing_rules.specs.declared.row.Row.TheVariants.{Typed, Means, Ill}
use Rattle.sw_typing_table.specs.Typed.{meaning_in, type_in}

either_more : {X : Type 0} (here : Bool) (x : X) (all rest last : Option X)
    → all ≡ or_else rest last
    → (if here then Some x else all) ≡ or_else (if here then Some x else rest) last
either_more true x all rest last is = refl
either_more false x all rest last is = is

pub type_more : (rows : List Row) (row : Row) (key : ℕ)
    → type_in (rows ++ row ∷ []) key ≡ or_else (type_in rows key) (type_in (row ∷ []) key)
type_more [] row key = refl
type_more (Typed at ty ∷ rows) row key =
    either_more (at == key) ty _ (type_in rows key) (type_in (row ∷ []) key)
    (type_more rows row key)
type_more (Means at meaning ∷ rows) row key = type_more rows row key
type_more (Ill at code unless ∷ rows) row key = type_more rows row key

pub meaning_more : (rows : List Row) (row : Row) (key : ℕ)
    → meaning_in (rows ++ row ∷ []) key
    ≡ or_else (meaning_in rows key) (meaning_in (row ∷ []) key)
meaning_more [] row key = refl
meaning_more (Typed at ty ∷ rows) row key = meaning_more rows row key
meaning_more (Means at meaning ∷ rows) row key =
    either_more (at == key) meaning _ (meaning_in rows key) (meaning_in (row ∷ []) key)
    (meaning_more rows row key)
meaning_more (Ill at code unless ∷ rows) row key = meaning_more rows row key
