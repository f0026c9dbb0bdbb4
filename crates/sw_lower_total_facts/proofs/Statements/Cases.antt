-- The arms of a `switch`: the cases that they name are found, and their parts proceed.
use Rattle.std.proofs.Common.{◌≡◌, ℕ, ◌+◌, Bool, true, false, ◌==◌, List, [], ◌∷◌, ◌++◌, Option}
use Rattle.std.proofs.Common.{Some, None, ap, sym, refl, true≢false, flat_map, if◌then◌else◌}
use Rattle.std.proofs.lemmas.List.Elements.{All-append, All-cons, All-nil, All-weaker}
use Rattle.std.proofs.lemmas.List.Elements.{Contains-append_left, Contains-append_right}
use Rattle.std.proofs.lemmas.Option.{none-some}
use Rattle.std.specs.Prelude.{All, Contains, slice_get}
use Rattle.sw_tree.specs.Keys.{pattern_keys}
use Rattle.sw_tree.specs.declared.stmt.Pattern.{Pattern}
use Rattle.sw_types.specs.declared.shape.CaseShape.{CaseShape}
use Rattle.sw_types.specs.declared.shape.Shape.{Shape}
use Rattle.sw_types.specs.declared.ty.Ty.{Ty, out-Ty}
use Rattle.sw_types.specs.declared.ty.Ty.TheOpen as layer
use Rattle.sw_typing_rules.specs.Judges.{arm_state, case_of}
use Rattle.sw_typing_rules.specs.Statements.{Armed, Left, State, arm_payload, arm_vars, case_named}
use Rattle.sw_typing_rules.specs.Statements.{cases_layer, cases_of, cases_of_shape, more_arms}
use Rattle.sw_typing_rules.specs.Statements.{no_arms, in_branch, patterns_fit, payload_of}
use Rattle.sw_typing_rules.specs.Statements.{vars_rows}
use Rattle.sw_typing_rules.specs.Worlds.{World}
use Rattle.sw_typing_rules.specs.declared.scope.Inside.{Inside}
use Rattle.sw_typing_rules.specs.declared.scope.Var.{Var}
use Rattle.sw_isolation_rules.specs.Captures.{is_among}
use Rattle.sw_isolation_rules.specs.Lists.{vars_in}
use Rattle.sw_isolation_rules.specs.Uses.{named_layer, named_shape}
use Rattle.sw_isolation_rules.specs.declared.note.Note.{Note}
use Rattle.sw_isolation_rules.specs.declared.uses.Context.{Context}
use Rattle.sw_lower_plans.specs.Plan.{Numbers}
use Rattle.sw_lower_rules.specs.Carriers.{CaseCode}
use Rattle.sw_lower_rules.specs.Statements.{case_from}
use Rattle.sw_lower_rules.specs.Tables.{Tables}
use Rattle.sw_lower_rules.specs.declared.targets.Targets.{Targets}
use Rattle.sw_typing_facts.specs.Rows.{RowsHold}
use Rattle.sw_typing_facts.proofs.Said.Rows.{rows_left}
use Rattle.sw_lower_formed_facts.proofs.Statements.Switches.{cases_inside, head_in, heads_of}
use Rattle.sw_lower_total_facts.specs.Binding.{BindsNothing}
use Rattle.sw_lower_total_facts.specs.Forms.{BlockProceeds, CodeProceeds}
use Rattle.sw_lower_total_facts.specs.Frames.{CodeStays}
use Rattle.sw_lower_total_facts.specs.Known.{TablesAgree}
use Rattle.sw_lower_total_facts.specs.Proceeding.{BodyProceeds}
use Rattle.sw_lower_total_facts.proofs.Statements.Beginning.{begins_less, by_begins, proceeds_by}
use Rattle.sw_lower_total_facts.proofs.Statements.NotBoxed.{not_boxed}

-- A case with patterns that fit is found by its name.
pub case_found : (number : ℕ) (cases : List CaseShape) (id : ℕ) (patterns : List Pattern)
    → patterns_fit patterns (arm_payload (Some cases) id) ≡ true
    → (tag : ℕ) × (case_from number cases id ≡ Some tag)
case_found number [] id patterns fit = absurd (true≢false (sym fit))
case_found number (one ∷ more) id patterns fit =
    by (one.name == id) fit (case_found (number + 1) more id patterns) where
      by : (same : Bool)
          → patterns_fit patterns (payload_of (if same then Some one else case_named more id))
          ≡ true
          → (patterns_fit patterns (arm_payload (Some more) id) ≡ true
          → (tag : ℕ) × (case_from (number + 1) more id ≡ Some tag))
          → (tag : ℕ)
          × ((if same then Some number else case_from (number + 1) more id) ≡ Some tag)
      by true fits later = (number, refl)
      by false fits later = later fits

-- a type with a number, and its declaration
pub record IsNamed (world : World) (ty : Ty) : Type 0 where
  pub place : ℕ
  pub shape : Shape
  pub named : named_shape (Some ty) ≡ Some place
  pub found : slice_get world.shapes place ≡ Some shape

-- A type that has cases is such a type.
pub named_of : (world : World) (ty : Ty) (list : List CaseShape)
    → cases_of world (Some ty) ≡ Some list → IsNamed world ty
named_of world ty list has = by (out-Ty ty) refl has where
  declared : (k : ℕ) → out-Ty ty ≡ layer.Named k → (found : Option Shape)
      → slice_get world.shapes k ≡ found → cases_of_shape found ≡ Some list → IsNamed world ty
  declared k is None at one = absurd (none-some list one)
  declared k is (Some shape) at one =
      record { place = k; shape = shape; named = ap named_layer is; found = at }

  by : (form : layer.Ty-F Ty) → out-Ty ty ≡ form → cases_layer world form ≡ Some list
      → IsNamed world ty
  by (layer.Named k) is one = declared k is (slice_get world.shapes k) refl one
  by layer.Int is one = absurd (none-some list one)
  by layer.Bool is one = absurd (none-some list one)
  by layer.Unit is one = absurd (none-some list one)
  by (layer.Func sendable params result) is one = absurd (none-some list one)
  by (layer.Task inner) is one = absurd (none-some list one)

module _ (tables : Tables) (number : Numbers) (context : Context) (listed : List ℕ) where
  -- An arm: its body proceeds where the variables of its patterns are seen, which have types and
  -- are in no box, and it writes into its own block and such that it makes.
  pub record CaseProceeds (inside : Inside) (cases : Option (List CaseShape)) (vars : List Var)
      (notes : List Note) (arm : CaseCode) : Type 0 where
    pub body : CodeProceeds tables number context listed (in_branch inside)
        (vars ++ arm_vars (head_in arm) (arm_payload cases arm.name.id)) notes arm.body.code
    pub nothing : (targets : Targets) → BindsNothing (arm.body.code targets)
    pub stays : (targets : Targets) → CodeStays (arm.body.code targets)
    pub typed : RowsHold tables.answers
        (vars_rows (arm_vars (head_in arm) (arm_payload cases arm.name.id)))
    pub unboxed : All (λ key. tables.isolation.is_boxed key ≡ false)
        (flat_map pattern_keys arm.patterns)

  -- an arm, where more is noted
  pub case_more : (inside : Inside) (cases : Option (List CaseShape)) (vars : List Var)
      (fewer notes : List Note) → ((note : Note) → Contains fewer note → Contains notes note)
      → (arm : CaseCode) → CaseProceeds inside cases vars fewer arm
      → CaseProceeds inside cases vars notes arm
  case_more inside cases vars fewer notes among arm one = record {
    body = proceeds_by tables number context listed (in_branch inside) seen notes arm.body.code
        (λ targets s begins.
        by_begins tables number context listed (in_branch inside) seen fewer arm.body.code targets s
        one.body
        (begins_less tables number context listed (in_branch inside) seen notes fewer targets s
        among
        begins));
    nothing = one.nothing;
    stays = one.stays;
    typed = one.typed;
    unboxed = one.unboxed;
  } where
    seen : List Var
    seen = vars ++ arm_vars (head_in arm) (arm_payload cases arm.name.id)

  -- The arms of a `switch`.
  pub record CasesProceed (inside : Inside) (cases : Option (List CaseShape)) (vars : List Var)
      (notes : List Note) (arms : List CaseCode) (armed : Armed) : Type 0 where
    pub each : All (CaseProceeds inside cases vars notes) arms
    pub heads : armed.heads ≡ heads_of arms
    pub inside_proceed : All (BodyProceeds number) (cases_inside arms)

  -- no arms
  pub no_cases_proceed : (inside : Inside) (cases : Option (List CaseShape)) (state : State)
      → CasesProceed inside cases state.vars [] [] (no_arms state)
  no_cases_proceed inside cases state = record {
    each = All-nil (CaseProceeds inside cases state.vars []);
    heads = refl;
    inside_proceed = All-nil (BodyProceeds number);
  }

  -- an arm before others; what its patterns name is no `var`
  pub more_cases_proceed : (all : List Note) → TablesAgree tables number all → (inside : Inside)
      (cases : Option (List CaseShape)) (state : State) (notes more : List Note) (arm : CaseCode)
      (left : Left) (arms : List CaseCode) (armed : Armed)
      → BlockProceeds tables number context listed (in_branch inside)
      (arm_state cases state (head_in arm)) notes arm.body
      → ((targets : Targets) → BindsNothing (arm.body.code targets))
      → ((targets : Targets) → CodeStays (arm.body.code targets))
      → All (λ key. is_among (vars_in all) key ≡ false) (flat_map pattern_keys arm.patterns)
      → RowsHold tables.answers (case_of cases state (head_in arm) left).rows
      → CasesProceed inside cases state.vars more arms armed
      → CasesProceed inside cases state.vars (notes ++ more) (arm ∷ arms)
      (more_arms (head_in arm) (case_of cases state (head_in arm) left) armed)
  more_cases_proceed all known inside cases state notes more arm left arms armed one nothing stays
      no_vars hold rest = record {
        each = All-cons (CaseProceeds inside cases state.vars (notes ++ more)) arm arms
            (case_more inside cases state.vars notes (notes ++ more)
            (Contains-append_left notes more) arm (record {
              body = one.code_proceeds;
              nothing = nothing;
              stays = stays;
              typed = rows_left tables.answers
                  (vars_rows (arm_vars (head_in arm) (arm_payload cases arm.name.id))) left.rows
                  hold;
              unboxed = All-weaker (λ key. is_among (vars_in all) key ≡ false)
                  (λ key. tables.isolation.is_boxed key ≡ false)
                  (λ key. not_boxed tables number all known key)
                  (flat_map pattern_keys arm.patterns) no_vars;
            }))
            (All-weaker (CaseProceeds inside cases state.vars more)
            (CaseProceeds inside cases state.vars (notes ++ more))
            (case_more inside cases state.vars more (notes ++ more)
            (Contains-append_right notes more)) arms rest.each);
        heads = ap (λ heads. head_in arm ∷ heads) rest.heads;
        inside_proceed = All-append (BodyProceeds number) arm.body.inside (cases_inside arms)
            one.inside_proceed rest.inside_proceed;
      }
