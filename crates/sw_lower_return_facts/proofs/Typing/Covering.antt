-- Each case of a `switch` that isn't ill has an arm, or there is a `default`.
use Rattle.std.proofs.Common.{◌≡◌, ℕ, inl, inr, Bool, true, false, List, [], ◌∷◌, ◌++◌, Option}
use Rattle.std.proofs.Common.{Some, None, refl, sym, ap, ◌∙◌, subst, true≢false, map, eqb-true}
use Rattle.std.specs.Prelude.{◌&&◌, ◌||◌, ◌==◌, not, is_some, slice_get}
use Rattle.std.specs.List.{list_all}
use Rattle.std.specs.Option.{unwrap_or}
use Rattle.std.proofs.lemmas.Bool.{false≢true}
use Rattle.std.proofs.lemmas.Option.{none-some}
use Rattle.sw_tree.specs.declared.stmt.Block.{Block}
use Rattle.sw_lower_rules.specs.Carriers.{BlockCode, CaseCode}
use Rattle.sw_lower_rules.specs.Tables.{Tables}
use Rattle.sw_types.specs.declared.shape.CaseShape.{CaseShape}
use Rattle.sw_types.specs.declared.shape.Shape.{Shape}
use Rattle.sw_types.specs.declared.ty.Ty.{Ty, out-Ty}
use Rattle.sw_types.specs.declared.ty.Ty.TheOpen as layer
use Rattle.sw_isolation_rules.specs.Answers.{Answers}
use Rattle.sw_isolation_rules.specs.Uses.{named_layer, named_shape}
use Rattle.sw_typing_rules.specs.Expressions.{Judged}
use Rattle.sw_typing_rules.specs.Statements.{Head, Left, cases_layer, cases_of, cases_of_shape}
use Rattle.sw_typing_rules.specs.Statements.{has_arm, heads_fit, switch_fits, switch_left}
use Rattle.sw_typing_rules.specs.Verdicts.{all_well}
use Rattle.sw_typing_rules.specs.Worlds.{World}
use Rattle.sw_typing_rules.specs.declared.row.Row.{Row}
use Rattle.sw_typing_rules.specs.declared.row.Row.TheVariants.{Ill, Means, Typed}
use Rattle.sw_types.specs.declared.ty.Ty.TheVariants as types
use Rattle.sw_lower_rules.specs.Uses.{no_shape}
use Rattle.sw_typing_facts.specs.Rows.{RowsHold}
use Rattle.sw_typing_facts.proofs.Said.Rows.{not_in_doubt, rows_left, rows_right, rows_well}
use Rattle.sw_lower_formed_facts.proofs.Statements.Cases.{enum_cases}
use Rattle.sw_typing_facts.proofs.Types.Forms.{is_Named}
use Rattle.sw_lower_return_facts.specs.Flows.{OneOf}
use Rattle.sw_lower_return_facts.proofs.Statements.Arms.{AreCovered, name_in}
use Rattle.sw_typing_rules.proofs.Steps.{and_left, and_right}

-- A `switch` that isn't ill fits.
fits_so : (some well fit : Bool) → some ≡ true → well ≡ true
    → (some && (well && not fit)) ≡ false → fit ≡ true
fits_so true true true one two none = refl
fits_so true true false one two none = absurd (true≢false none)
fits_so true false fit one two none = absurd (false≢true two)
fits_so false well fit one two none = absurd (false≢true one)

both_well : (one other : List Row) → all_well one ≡ true → all_well other ≡ true
    → all_well (one ++ other) ≡ true
both_well [] other first second = second
both_well (Typed at ty ∷ one) other first second = both_well one other first second
both_well (Means at meaning ∷ one) other first second = both_well one other first second
both_well (Ill at code unless ∷ one) other first second = absurd (false≢true first)

pub switch_fit : (answers : Answers) (cases : Option (List CaseShape)) (at : ℕ) (judged : Judged)
    (heads : List Head) (otherwise : Bool) (inner : Left) → is_some judged.ty ≡ true
    → RowsHold answers (switch_left cases at judged heads otherwise inner).rows
    → switch_fits cases heads otherwise ≡ true
switch_fit answers cases at judged heads otherwise inner typed hold =
    let rest = rows_right answers judged.rows _ hold in
    fits_so (is_some judged.ty) (all_well (judged.rows ++ inner.rows))
    (switch_fits cases heads otherwise) typed
    (both_well judged.rows inner.rows (rows_well answers judged.rows
    (rows_left answers judged.rows _ hold))
    (rows_well answers inner.rows (rows_left answers inner.rows _ rest)))
    (not_in_doubt answers _ at 405 _ (rows_right answers inner.rows _ rest))

has_name : (heads : List Head) (one : CaseShape) → has_arm heads one ≡ true
    → OneOf one.name (map (λ (head : Head). head.name) heads)
has_name [] one has = absurd (false≢true has)
has_name (head ∷ heads) one has =
    by (head.name == one.name) refl (has_name heads one) has where
      by : (same : Bool) → (head.name == one.name) ≡ same
          → (has_arm heads one ≡ true → OneOf one.name (map (λ (head : Head). head.name) heads))
          → (same || has_arm heads one) ≡ true
          → OneOf one.name (map (λ (head : Head). head.name) (head ∷ heads))
      by true is rest has = inl (sym (eqb-true head.name one.name is))
      by false is rest has = inr (rest has)

all_named : (ends breaks live : Bool) (heads : List Head) (cases : List CaseShape)
    → list_all (has_arm heads) cases ≡ true
    → AreCovered ends breaks live cases (map (λ (head : Head). head.name) heads)
all_named ends breaks live heads [] all = tt
all_named ends breaks live heads (one ∷ cases) all = (
  has_name heads one (and_left (has_arm heads one) (list_all (has_arm heads) cases) all),
  all_named ends breaks live heads cases
      (and_right (has_arm heads one) (list_all (has_arm heads) cases) all),
)

-- The cases of the enum that the tables know of the subject are those of its type.
named_of : (world : World) (form : layer.Ty-F Ty) (cases : List CaseShape)
    → cases_layer world form ≡ Some cases → (k : ℕ) × (named_layer form ≡ Some k)
named_of world (layer.Named k) cases has = (k, refl)
named_of world layer.Int cases has = cc
named_of world layer.Bool cases has = cc
named_of world layer.Unit cases has = cc
named_of world (layer.Func sendable params result) cases has = cc
named_of world (layer.Task inner) cases has = cc

subject_cases : (world : World) (ty : Ty) (cases : List CaseShape)
    → cases_of world (Some ty) ≡ Some cases
    → (unwrap_or (slice_get world.shapes (unwrap_or (named_shape (Some ty)) 0)) no_shape).cases
    ≡ cases
subject_cases world ty cases has =
    let named = named_of world (out-Ty ty) cases has in
    ap (λ found. (unwrap_or (slice_get world.shapes (unwrap_or found 0)) no_shape).cases) named.1
    ∙ by named.0 (is_Named ty named.0 named.1) (slice_get world.shapes named.0) refl where
      by : (k : ℕ) → ty ≡ types.Named k → (found : Option Shape) → slice_get world.shapes k ≡ found
          → (unwrap_or found no_shape).cases ≡ cases
      by k is None at =
          absurd (none-some cases (sym (ap (cases_layer world) (ap out-Ty is ∙ types.outs-Named k)
          ∙ ap cases_of_shape at) ∙ has))
      by k is (Some shape) at = (enum_cases world ty k shape cases is at has).cases_are

pub cases_covered : (world : World) (ty : Ty) (found : Option Ty) (heads : List Head)
    → found ≡ Some ty → switch_fits (cases_of world (Some ty)) heads false ≡ true
    → (ends breaks live : Bool)
    → AreCovered ends breaks live
    (unwrap_or (slice_get world.shapes (unwrap_or (named_shape found) 0)) no_shape).cases
    (map (λ (head : Head). head.name) heads)
cases_covered world ty found heads is fit ends breaks live =
    subst (λ one. AreCovered ends breaks live
    (unwrap_or (slice_get world.shapes (unwrap_or (named_shape one) 0)) no_shape).cases
    (map (λ (head : Head). head.name) heads)) (sym is)
    (by (cases_of world (Some ty)) refl fit) where
      by : (cases : Option (List CaseShape)) → cases_of world (Some ty) ≡ cases
          → switch_fits cases heads false ≡ true
          → AreCovered ends breaks live
          (unwrap_or (slice_get world.shapes (unwrap_or (named_shape (Some ty)) 0)) no_shape).cases
          (map (λ (head : Head). head.name) heads)
      by None has fit = absurd (false≢true fit)
      by (Some cases) has fit =
          subst (λ all. AreCovered ends breaks live all (map (λ (head : Head). head.name) heads))
          (sym (subject_cases world ty cases has))
          (all_named ends breaks live heads cases
          (and_right (heads_fit (Some cases) heads) (list_all (has_arm heads) cases) fit))

-- Where it has no `default`, each case has an arm.
pub covered_by : (tables : Tables) (ty : Ty) (found at : Option Ty) → found ≡ Some ty
    → at ≡ Some ty → (other : Option Block) (default : Option BlockCode)
    → is_some default ≡ is_some other → (heads : List Head) (codes : List CaseCode)
    → map name_in codes ≡ map (λ (head : Head). head.name) heads
    → switch_fits (cases_of tables.world found) heads (is_some other) ≡ true → (ends breaks : Bool)
    → default ≡ None → (live : Bool)
    → AreCovered ends breaks live
    (unwrap_or (slice_get tables.world.shapes (unwrap_or (named_shape at) 0)) no_shape).cases
    (map name_in codes)
covered_by tables ty found at has typed other default same heads codes names fit ends breaks none
    live =
    subst (AreCovered ends breaks live _) (sym names)
    (cases_covered tables.world ty at heads typed
    (subst (λ one. switch_fits (cases_of tables.world one) heads false ≡ true) has
    (subst (λ one. switch_fits (cases_of tables.world found) heads one ≡ true)
    (sym same ∙ ap is_some none) fit)) ends breaks live)
