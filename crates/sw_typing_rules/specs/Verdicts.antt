-- What a rule says of a node, and what is noted of it then.
use Rattle.std.specs.Prelude.{ℕ, Bool, true, false, ◌&&◌, List, [], ◌∷◌, Option, Some, None}
use Rattle.std.specs.Prelude.{flat_map, if◌then◌else◌}
use Rattle.sw_types.specs.declared.ty.Ty.{Ty, out-Ty}
use Rattle.sw_types.specs.declared.ty.Ty.TheOpen as layer
use Rattle.sw_decl_words.specs.declared.placed.Placed.{Placed}
use Rattle.sw_typing_rules.specs.Fits.{fits}
use Rattle.sw_typing_rules.specs.declared.verdict.Verdict.{Verdict}
use Rattle.sw_typing_rules.specs.declared.verdict.Verdict.TheVariants.{Has, Fails, Held}
use Rattle.sw_typing_rules.specs.declared.row.Meaning.{Meaning}
use Rattle.sw_typing_rules.specs.declared.row.Row.{Row}
use Rattle.sw_typing_rules.specs.declared.row.Row.TheVariants.{Typed, Means, Ill}

abbrev pub type_in : Verdict → Option Ty
type_in (Has ty) = Some ty
type_in (Fails code) = None
type_in Held = None

-- what is noted of the node with this key
abbrev pub rows_of : ℕ → Verdict → List Row
rows_of at (Has ty) = Typed at ty ∷ []
rows_of at (Fails code) = Ill at code None ∷ []
rows_of at Held = []

abbrev pub meaning_rows : ℕ → Option Meaning → List Row
meaning_rows at None = []
meaning_rows at (Some meaning) = Means at meaning ∷ []

-- a variable with its type, if it has one
abbrev pub variable_rows : ℕ → Option Ty → List Row
variable_rows at None = []
variable_rows at (Some ty) = Typed at ty ∷ []

-- a node that fails, in doubt or not
abbrev pub ill_unless : Bool → ℕ → ℕ → Option ℕ → List Row
ill_unless fails at code unless = if fails then Ill at code unless ∷ [] else []

abbrev pub ill_if : Bool → ℕ → ℕ → List Row
ill_if fails at code = ill_unless fails at code None

abbrev pub ill_in : Row → List Placed
ill_in (Typed at ty) = []
ill_in (Means at meaning) = []
ill_in (Ill at code unless) = record { at = at; code = code } ∷ []

-- the ill nodes among what was noted
abbrev pub ills_in : List Row → List Placed
ills_in rows = flat_map ill_in rows

abbrev pub is_well : Row → Bool
is_well (Typed at ty) = true
is_well (Means at meaning) = true
is_well (Ill at code unless) = false

-- no node among these is ill
abbrev pub all_well : List Row → Bool
all_well [] = true
all_well (row ∷ rows) = is_well row && all_well rows

abbrev pub int_layer : layer.Ty-F Ty → Bool
int_layer layer.Int = true
int_layer _ = false

abbrev pub bool_layer : layer.Ty-F Ty → Bool
bool_layer layer.Bool = true
bool_layer _ = false

abbrev pub unit_layer : layer.Ty-F Ty → Bool
unit_layer layer.Unit = true
unit_layer _ = false

abbrev pub is_int : Ty → Bool
is_int ty = int_layer (out-Ty ty)

abbrev pub is_bool : Ty → Bool
is_bool ty = bool_layer (out-Ty ty)

abbrev pub is_unit : Ty → Bool
is_unit ty = unit_layer (out-Ty ty)

-- the type of a value, if it has one, is accepted where a type is expected
abbrev pub is_accepted : Option Ty → Ty → Bool
is_accepted None wanted = false
is_accepted (Some ty) wanted = fits ty wanted
