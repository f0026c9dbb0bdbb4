-- The cases of an enum by their names and numbers, and the types of patterns.
use Rattle.std.proofs.Common.{◌≡◌, ℕ, suc, ◌+◌, ◌≤◌, List, [], ◌∷◌, ap, sym, ◌∙◌, refl, arith, Bool}
use Rattle.std.proofs.Common.{true, false, true≢false, Option, Some, None, length, map, ◌||◌, ◌==◌}
use Rattle.std.proofs.Common.{if◌then◌else◌, cond, inl, inr, ◌⊎◌, not, ◌&&◌, ◌++◌, is_some}
use Rattle.std.proofs.lemmas.Bool.{eqb-true}
use Rattle.std.proofs.lemmas.List.Elements.{All-cons, All-head, All-nil, All-tail}
use Rattle.std.proofs.lemmas.Option.{none-some, same_Some, slice_get-map}
use Rattle.std.specs.List.{list_all}
use Rattle.std.specs.Option.{option_and_then, option_map, unwrap_or}
use Rattle.std.specs.Prelude.{All, slice_get}
use Rattle.sw_tree.specs.declared.stmt.Pattern.{Pattern}
use Rattle.sw_types.specs.declared.shape.CaseShape.{CaseShape}
use Rattle.sw_types.specs.declared.shape.Shape.{Shape}
use Rattle.sw_types.specs.declared.shape.ShapeKind.{ShapeKind}
use Rattle.sw_types.specs.declared.shape.ShapeKind.TheVariants as sort
use Rattle.sw_types.specs.declared.ty.Ty.{Ty, out-Ty}
use Rattle.sw_types.specs.declared.ty.Ty.TheVariants as types
use Rattle.sw_graph.specs.Kinds.{is_enum, number_of, payload, shape_at, shape_of}
use Rattle.sw_graph.specs.Payloads.{payload_at}
use Rattle.sw_graph.specs.declared.function.RegKind.{RegKind}
use Rattle.sw_graph.specs.declared.function.RegKind.TheVariants.{Plain}
use Rattle.sw_typing_rules.specs.Doubts.{bare_in}
use Rattle.sw_typing_rules.specs.Expressions.{Judged}
use Rattle.sw_typing_rules.specs.Statements.{Head, arm_payload, case_named, cases_layer, cases_of}
use Rattle.sw_typing_rules.specs.Statements.{cases_of_shape, has_arm, heads_fit, pattern_types}
use Rattle.sw_typing_rules.specs.Statements.{Left, patterns_fit, switch_fits, switch_left}
use Rattle.sw_typing_rules.specs.Verdicts.{all_well, ill_unless}
use Rattle.sw_typing_rules.specs.Worlds.{World}
use Rattle.sw_typing_rules.specs.declared.row.Row.{Row}
use Rattle.sw_typing_rules.proofs.Steps.{and_left, and_right, switch_ok, well_both}
use Rattle.sw_isolation_rules.specs.Answers.{Answers}
use Rattle.sw_lower_rules.specs.Statements.{Arm, block_of, case_from, switch_to}
use Rattle.sw_typing_facts.specs.Rows.{RowsHold}
use Rattle.sw_typing_facts.proofs.Said.Rows.{not_in_doubt, rows_left, rows_right, rows_well}

-- No two cases have one name.
abbrev pub CasesDiffer : List CaseShape → Type 0
CasesDiffer cases = (i j : ℕ) (one other : CaseShape) → slice_get cases i ≡ Some one
    → slice_get cases j ≡ Some other → one.name ≡ other.name → i ≡ j

-- the case that a name finds
pub record FoundCase (cases : List CaseShape) (number id tag : ℕ) : Type 0 where
  pub place : ℕ
  pub case : CaseShape
  pub is : tag ≡ number + place
  pub at : slice_get cases place ≡ Some case
  pub named : case_named cases id ≡ Some case
  pub name : case.name ≡ id

-- A case that is found by its name has its place among the cases.
pub found_case : (number : ℕ) (cases : List CaseShape) (id tag : ℕ)
    → case_from number cases id ≡ Some tag → FoundCase cases number id tag
found_case number [] id tag is = absurd (none-some tag is)
found_case number (one ∷ more) id tag is =
    by (one.name == id) refl is (λ later. found_case (number + 1) more id tag later) where
      by : (same : Bool) → (one.name == id) ≡ same
          → (if same then Some number else case_from (number + 1) more id) ≡ Some tag
          → (case_from (number + 1) more id ≡ Some tag → FoundCase more (number + 1) id tag)
          → FoundCase (one ∷ more) number id tag
      by true same found rest = record {
        place = 0;
        case = one;
        is = omega (arith, same_Some number tag found);
        at = refl;
        named = ap (λ b. if b then Some one else case_named more id) same;
        name = eqb-true one.name id same;
      }
      by false same found rest =
          let later = rest found in record {
            place = suc later.place;
            case = later.case;
            is = omega (arith, later.is);
            at = later.at;
            named = ap (λ b. if b then Some one else case_named more id) same ∙ later.named;
            name = later.name;
          }

-- A case of an enum is a type's number, its shape and that it is an enum.
pub enum_shape : (shapes : List Shape) (k : ℕ) (shape : Shape)
    → slice_get shapes k ≡ Some shape → shape.kind ≡ sort.Enum
    → shape_of shapes is_enum (Some (Plain (types.Named k))) ≡ Some shape
enum_shape shapes k shape at is =
    ap (λ form. option_and_then (shape_at shapes is_enum) (number_of (Some form)))
    (types.outs-Named k)
    ∙ ap (option_and_then (λ (one : Shape). cond (is_enum one.kind) (Some one) None)) at
    ∙ ap (λ kind. cond (is_enum kind) (Some shape) None) is

-- what the payload of a case has at a place
pub payload_is : (shapes : List Shape) (kind : Option RegKind) (shape : Shape) (case : CaseShape)
    (tag i : ℕ) (ty : Ty) → shape_of shapes is_enum kind ≡ Some shape
    → slice_get shape.cases tag ≡ Some case → slice_get case.payload i ≡ Some ty
    → payload_at shapes kind tag i ≡ Some (Plain ty)
payload_is shapes kind shape case tag i ty is at found =
    ap (λ one. option_and_then (λ kinds. slice_get kinds i) (payload one tag)) is
    ∙ ap (λ one. option_and_then (λ kinds. slice_get kinds i)
    (option_map (λ (c : CaseShape). map Plain c.payload) one)) at
    ∙ slice_get-map Plain case.payload i
    ∙ ap (option_map Plain) found

-- a declaration that has cases to switch on is an enum
pub record IsEnum (shape : Shape) (cases : List CaseShape) : Type 0 where
  pub sort_is : shape.kind ≡ sort.Enum
  pub cases_are : shape.cases ≡ cases

abbrev of_sort : ShapeKind → Shape → Option (List CaseShape)
of_sort sort.Struct shape = None
of_sort sort.Enum shape = Some shape.cases
of_sort sort.Class shape = None
of_sort sort.Actor shape = None

sorted : (shape : Shape) (kind : ShapeKind) → shape.kind ≡ kind
    → cases_of_shape (Some shape) ≡ of_sort kind shape
sorted shape kind is = same shape.kind ∙ ap (λ k. of_sort k shape) is where
  same : (k : ShapeKind) → cases_of_shape (Some (record shape { kind = k })) ≡ of_sort k shape
  same sort.Struct = refl
  same sort.Enum = refl
  same sort.Class = refl
  same sort.Actor = refl

shape_cases : (kind : ShapeKind) (shape : Shape) (cases : List CaseShape) → shape.kind ≡ kind
    → cases_of_shape (Some shape) ≡ Some cases → IsEnum shape cases
shape_cases sort.Struct shape cases is has =
    absurd (none-some cases (sym (sorted shape sort.Struct is) ∙ has))
shape_cases sort.Enum shape cases is has = record {
  sort_is = is;
  cases_are = same_Some shape.cases cases (sym (sorted shape sort.Enum is) ∙ has);
}
shape_cases sort.Class shape cases is has =
    absurd (none-some cases (sym (sorted shape sort.Class is) ∙ has))
shape_cases sort.Actor shape cases is has =
    absurd (none-some cases (sym (sorted shape sort.Actor is) ∙ has))

-- The declared type with a number, where it has cases.
pub enum_cases : (world : World) (ty : Ty) (k : ℕ) (shape : Shape) (cases : List CaseShape)
    → ty ≡ types.Named k → slice_get world.shapes k ≡ Some shape
    → cases_of world (Some ty) ≡ Some cases → IsEnum shape cases
enum_cases world ty k shape cases is at has =
    shape_cases shape.kind shape cases refl
    (sym (ap (cases_layer world) (ap out-Ty is ∙ types.outs-Named k) ∙ ap cases_of_shape at) ∙ has)

-- Patterns that fit have the types of the payload.
pub record HaveTypes (patterns : List Pattern) (payload : Option (List Ty)) (tys : List Ty)
    : Type 0 where
  pub many : length patterns ≤ length tys
  pub types_are : patterns ≡ [] ⊎ pattern_types patterns payload ≡ tys

-- Patterns that fit a payload have the types of its values.
pub patterns_typed : (patterns : List Pattern) (tys : List Ty)
    → patterns_fit patterns (Some tys) ≡ true → HaveTypes patterns (Some tys) tys
patterns_typed [] tys fit = record { many = omega arith; types_are = inl refl }
patterns_typed (pattern ∷ patterns) tys fit =
    by (length (pattern ∷ patterns) == 0) refl fit where
      by : (empty : Bool) → (length (pattern ∷ patterns) == 0) ≡ empty
          → (empty || (length (pattern ∷ patterns) == length tys)) ≡ true
          → HaveTypes (pattern ∷ patterns) (Some tys) tys
      by true empty fits =
          let none : suc (length patterns) ≡ 0 =
          eqb-true (length (pattern ∷ patterns)) 0 empty in
          absurd (let no_zero : ⊥ = omega (arith, none) in no_zero)
      by false empty fits =
          let same = eqb-true (length (pattern ∷ patterns)) (length tys) fits in record {
            many = omega (arith, same);
            types_are = inr (ap (λ b. if b then tys else []) fits);
          }

-- the patterns of an arm fit
abbrev pub HeadFits : Option (List CaseShape) → Head → Type 0
HeadFits cases head = patterns_fit head.patterns (arm_payload cases head.name) ≡ true

-- what a `switch` says that fits
pub record SwitchFits (cases : Option (List CaseShape)) (heads : List Head) : Type 0 where
  pub list : List CaseShape
  pub has : cases ≡ Some list
  pub each : All (HeadFits cases) heads

heads_each : (cases : Option (List CaseShape)) (heads : List Head) → heads_fit cases heads ≡ true
    → All (HeadFits cases) heads
heads_each cases [] fit = All-nil (HeadFits cases)
heads_each cases (head ∷ heads) fit =
    All-cons (HeadFits cases) head heads
    (and_left (patterns_fit head.patterns (arm_payload cases head.name)) (heads_fit cases heads)
    fit)
    (heads_each cases heads
    (and_right (patterns_fit head.patterns (arm_payload cases head.name)) (heads_fit cases heads)
    fit))

-- The arms of a `switch` that fits fit the cases of its enum.
pub switch_fit : (cases : Option (List CaseShape)) (heads : List Head) (otherwise : Bool)
    → switch_fits cases heads otherwise ≡ true → SwitchFits cases heads
switch_fit None heads otherwise fit = absurd (true≢false (sym fit))
switch_fit (Some cases) heads otherwise fit = record {
  list = cases;
  has = refl;
  each = heads_each (Some cases) heads
      (and_left (heads_fit (Some cases) heads)
      (otherwise || list_all (has_arm heads) cases) fit);
}

-- A `switch` whose node isn't ill fits the cases of its enum.
pub fits_cases : (answers : Answers) (cases : Option (List CaseShape)) (at : ℕ) (judged : Judged)
    (heads : List Head) (otherwise : Bool) (inner : Left) → is_some judged.ty ≡ true
    → RowsHold answers (switch_left cases at judged heads otherwise inner).rows
    → switch_fits cases heads otherwise ≡ true
fits_cases answers cases at judged heads otherwise inner typed hold =
    switch_ok (is_some judged.ty) (all_well (judged.rows ++ inner.rows))
    (switch_fits cases heads otherwise) typed
    (well_both judged.rows inner.rows
    (rows_well answers judged.rows (rows_left answers judged.rows (inner.rows ++ ill) hold))
    (rows_well answers inner.rows (rows_left answers inner.rows ill rest)))
    (not_in_doubt answers fails at 405 bare (rows_right answers inner.rows ill rest)) where
      fails : Bool
      fails = is_some judged.ty && (all_well (judged.rows ++ inner.rows)
          && not (switch_fits cases heads otherwise))

      bare : Option ℕ
      bare = bare_in at inner.state.returned

      ill : List Row
      ill = ill_unless fails at 405 bare

      rest : RowsHold answers (inner.rows ++ ill)
      rest = rows_right answers judged.rows (inner.rows ++ ill) hold

-- So do its arms.
pub switch_well : (answers : Answers) (cases : Option (List CaseShape)) (at : ℕ) (judged : Judged)
    (heads : List Head) (otherwise : Bool) (inner : Left) (ty : Ty) → judged.ty ≡ Some ty
    → RowsHold answers (switch_left cases at judged heads otherwise inner).rows
    → SwitchFits cases heads
switch_well answers cases at judged heads otherwise inner ty has hold =
    switch_fit cases heads otherwise
    (fits_cases answers cases at judged heads otherwise inner (ap is_some has) hold)

-- where a `switch` goes for the case with a number
pub record Goes (cases : List CaseShape) (blocks : List Arm) (otherwise index to : ℕ)
    : Type 0 where
  pub case : CaseShape
  pub at : slice_get cases index ≡ Some case
  pub is : to ≡ unwrap_or (block_of blocks case.name) otherwise

-- Each way of a `switch` leads to the block of its case, or to that of the `default`.
pub switch_way : (cases : List CaseShape) (blocks : List Arm) (otherwise index to : ℕ)
    → slice_get (switch_to cases blocks otherwise) index ≡ Some to
    → Goes cases blocks otherwise index to
switch_way cases blocks otherwise index to is =
    by (slice_get cases index) refl
    (sym (slice_get-map (λ (one : CaseShape). unwrap_or (block_of blocks one.name) otherwise) cases
    index) ∙ is) where
      by : (found : Option CaseShape) → slice_get cases index ≡ found
          → option_map (λ (one : CaseShape). unwrap_or (block_of blocks one.name) otherwise) found
          ≡ Some to → Goes cases blocks otherwise index to
      by None at same = absurd (none-some to same)
      by (Some case) at same = record {
        case = case;
        at = at;
        is = sym (same_Some (unwrap_or (block_of blocks case.name) otherwise) to same);
      }

-- the arm whose block it is
pub record BlockOfArm (P : Arm → Type 0) (name block : ℕ) : Type 0 where
  pub one : Arm
  pub holds : P one
  pub named : one.arm.name.id ≡ name
  pub is : one.block ≡ block

-- The block of a name is that of an arm with the name.
pub block_of_arm : (P : Arm → Type 0) (blocks : List Arm) (name block : ℕ) → All P blocks
    → block_of blocks name ≡ Some block → BlockOfArm P name block
block_of_arm P [] name block all is = absurd (none-some block is)
block_of_arm P (one ∷ more) name block all is =
    by (one.arm.name.id == name) refl is
    (λ later. block_of_arm P more name block (All-tail P one more all) later) where
      by : (same : Bool) → (one.arm.name.id == name) ≡ same
          → (if same then Some one.block else block_of more name) ≡ Some block
          → (block_of more name ≡ Some block → BlockOfArm P name block)
          → BlockOfArm P name block
      by true same found rest = record {
        one = one;
        holds = All-head P one more all;
        named = eqb-true one.arm.name.id name same;
        is = same_Some one.block block found;
      }
      by false same found rest = rest found
