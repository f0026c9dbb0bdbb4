-- A call of a member asks for nothing that isn't known: a method, a property that holds a closure,
-- or a case of an enum.
use Rattle.std.proofs.Common.{◌≡◌, ℕ, true, false, List, [], ◌∷◌, ◌++◌, Option, Some, None, refl}
use Rattle.std.proofs.Common.{ap, sym, subst, ◌∙◌, map}
use Rattle.std.proofs.lemmas.List.Elements.{All-append}
use Rattle.std.specs.Prelude.{is_some, slice_get}
use Rattle.sw_tree.specs.declared.name.Name.{Name}
use Rattle.sw_types.specs.declared.shape.CaseShape.{CaseShape}
use Rattle.sw_types.specs.declared.ty.Ty.{Ty}
use Rattle.sw_types.specs.declared.ty.Ty.TheVariants as types
use Rattle.sw_graph.specs.declared.instr.Operand.{Operand}
use Rattle.sw_decls.specs.declared.signature.Signature.{Signature}
use Rattle.sw_typing_rules.specs.Calls.{Callee, Takes, Uncallable, case_callee, case_in}
use Rattle.sw_typing_rules.specs.Calls.{enum_callee, found_callee, payload_callee, unlabelled}
use Rattle.sw_typing_rules.specs.Expressions.{Judged, Passed, base_rows, call_judged, method_by}
use Rattle.sw_typing_rules.specs.Expressions.{method_callee, value_method}
use Rattle.sw_typing_rules.specs.Words.{found_in}
use Rattle.sw_typing_rules.specs.Worlds.{case_at, part_at}
use Rattle.sw_typing_rules.specs.declared.found.Found.{Found}
use Rattle.sw_typing_rules.specs.declared.found.Found.TheVariants.{Method, NoMember, Property}
use Rattle.sw_typing_rules.specs.declared.found.Found.TheVariants.{Result}
use Rattle.sw_typing_rules.specs.declared.row.Meaning.{Meaning}
use Rattle.sw_typing_rules.specs.declared.row.Meaning.TheVariants as means
use Rattle.sw_typing_rules.specs.declared.scope.Var.{Var}
use Rattle.sw_isolation_rules.specs.Noting.{Seen, member_notes}
use Rattle.sw_isolation_rules.specs.Uses.{base_of, called}
use Rattle.sw_isolation_rules.specs.declared.note.Note.{Note}
use Rattle.sw_isolation_rules.specs.declared.uses.Context.{Context}
use Rattle.sw_lower_plans.specs.Plan.{Numbers}
use Rattle.sw_lower_code.specs.Code.{Code}
use Rattle.sw_lower_rules.specs.Carriers.{ArgCode, ExprCode}
use Rattle.sw_lower_rules.specs.Expressions.{args_inside, args_read, method_read, read_of_base}
use Rattle.sw_lower_rules.specs.Expressions.{value}
use Rattle.sw_lower_rules.specs.Tables.{Tables}
use Rattle.sw_lower_rules.specs.Uses.{make_value}
use Rattle.sw_typing_facts.specs.Rows.{RowsHold}
use Rattle.sw_lower_formed_facts.proofs.Expressions.Senses.{FoundIn, found_ok}
use Rattle.sw_lower_total_facts.specs.Bound.{seen_in}
use Rattle.sw_lower_total_facts.specs.Forms.{ArgsProceed, ExprProceeds}
use Rattle.sw_lower_total_facts.specs.Known.{TablesAgree}
use Rattle.sw_lower_total_facts.specs.Noted.{kinds_of}
use Rattle.sw_lower_total_facts.specs.Proceeding.{BodyProceeds}
use Rattle.sw_lower_total_facts.proofs.Expressions.Bases.{BaseStands, MemberKind, base_inside, base_part}
use Rattle.sw_lower_total_facts.proofs.Expressions.Bases.{member_kind, named_is}
use Rattle.sw_lower_total_facts.proofs.Expressions.Callees.{CallGoes, func_goes, meant_goes, part_goes}
use Rattle.sw_lower_total_facts.proofs.Expressions.Callees.{uncallable, untyped}
use Rattle.sw_lower_total_facts.proofs.Expressions.Calls.{args_goes, closure_goes, func_kinded}
use Rattle.sw_lower_total_facts.proofs.Expressions.Calls.{method_goes}
use Rattle.sw_lower_total_facts.proofs.Expressions.Kinds.{use_kind}
use Rattle.sw_lower_total_facts.proofs.Expressions.Reading.{goes_make_value}
use Rattle.sw_lower_total_facts.proofs.Expressions.Senses.{ShapesStand}
use Rattle.sw_lower_total_facts.proofs.Expressions.Uses.{func_used_is}
use Rattle.sw_lower_total_facts.proofs.Proceeding.Each.{Goes}
use Rattle.sw_lower_total_facts.proofs.Proceeding.Using.{goes_left, goes_right}

module _ (tables : Tables) (number_of : Numbers) (all : List Note)
    (knows : TablesAgree tables number_of all) (stand : ShapesStand tables.world)
    (context : Context)
    (listed : List ℕ) (vars : List Var) (owner : Option ℕ) (seen : Seen) (judged : Judged)
    (base : ExprCode) (name : Name)
    (stands : BaseStands tables number_of context listed vars judged base
    (seen.notes context listed)) (same : seen.key ≡ base.key) (args : List ArgCode)
    (passed : Passed) (args_notes : List Note) where
  -- what is noted of the base and of the member, and of all
  abbrev before : List Note
  before = seen.notes context listed

  abbrev uses : List Note
  uses = member_notes tables.world tables.answers seen name.at context

  abbrev noted : List Note
  noted = before ++ uses ++ args_notes

  abbrev Here : {A : Type 0} → Code A → Type 0
  Here code = Goes tables number_of context listed (seen_in tables context.owner vars) noted code

  -- the call, as its meaning says
  abbrev code_of : Code Operand
  code_of = method_read tables owner name.at base args (tables.answers.meaning_at name.at)

  abbrev MemberGoes : Callee → Type 0
  MemberGoes callee =
      CallGoes tables number_of context listed vars noted name.at (base_rows judged) passed code_of
      callee

  module _ (kind_is : MemberKind tables number_of all knows stand context listed vars seen name.at)
      (args_go : Here (args_read args)) where
    by_meaning : (meaning : Meaning) → tables.answers.meaning_at name.at ≡ Some meaning
        → Here (method_read tables owner name.at base args (Some meaning)) → Here code_of
    by_meaning meaning is goes =
        subst (λ found. Here (method_read tables owner name.at base args found)) (sym is) goes

    -- a base that is a value
    base_read : judged.enum ≡ None → Here base.read
    base_read none =
        goes_left tables number_of context listed (seen_in tables context.owner vars)
        (before ++ uses) args_notes base.read
        (goes_left tables number_of context listed (seen_in tables context.owner vars) before uses
        base.read (stands.proceeds none).read)

    -- what can't be called
    not_called : (code : ℕ) → MemberGoes (Uncallable code)
    not_called code =
        uncallable tables number_of context listed vars noted name.at (base_rows judged) passed
        code_of code

    -- a case of an enum
    case_called : (k : ℕ) (found : Option ℕ) → MemberGoes (enum_callee tables.world k found)
    case_called k None = not_called 407
    case_called k (Some i) = by (case_at tables.world k i) where
      by_payload : (payload : List Ty) → MemberGoes (payload_callee k i payload)
      by_payload [] = not_called 407
      by_payload (ty ∷ more) =
          meant_goes tables number_of context listed vars noted name.at (base_rows judged) passed
          code_of (Takes (means.CaseOf k i) (map unlabelled (ty ∷ more)) (types.Named k))
          (means.CaseOf k i) refl
          (λ means_is typed. by_meaning (means.CaseOf k i) means_is
          (args_goes tables number_of all knows context listed vars noted args
          (make_value name.at k (Some i)) args_go
          (λ operands. goes_make_value tables number_of all knows context listed vars noted name.at
          k (Some i) operands)))

      by : (found : Option CaseShape) → MemberGoes (case_callee k i found)
      by None = not_called 407
      by (Some one) = by_payload one.payload

    -- what was found in a value
    found_called : judged.enum ≡ None → (ty : Ty) → judged.ty ≡ Some ty → (found : Found)
        → FoundIn tables.world ty found → MemberGoes (found_callee tables.world found)
    unfolding base_of
    found_called none ty has (Property k i) named =
        part_goes tables number_of context listed vars noted name.at (base_rows judged) passed
        code_of (means.PartOf i) 407 (part_at tables.world k i)
        (λ part is means_is typed. by_meaning (means.PartOf i) means_is
        (closure_goes tables number_of all knows context listed vars noted name.at
        (read_of_base tables owner name.at base i) args
        (base_part tables number_of all knows stand context listed vars owner seen base noted
        name.at k i part same is
        (named_is tables base.key k ty (stands.typed none ty has) named) means_is kind_is
        (base_read none)) args_go typed))
    found_called none ty has (Method key) named =
        func_goes tables number_of context listed vars noted name.at (base_rows judged) passed
        code_of means.FuncOf 407 (tables.world.numbers key)
        (λ n func func_is means_is. by_meaning (means.FuncOf n) means_is
        (method_goes tables number_of all knows context listed vars noted name.at n func base.read
        args (base_read none) args_go func_is
        (func_kinded tables context name.at n seen.is_self func
        (kind_is_of n func func_is means_is)))) where
          kind_is_of : (n : ℕ) (func : Signature) → slice_get tables.world.funcs n ≡ Some func
              → tables.answers.meaning_at name.at ≡ Some (means.FuncOf n)
              → tables.isolation.kind_at name.at
              ≡ use_kind context (called tables.world false seen.is_self (Some func))
          kind_is_of n func func_is means_is =
              kind_is (means.FuncOf n) means_is
              ∙ ap (use_kind context) (func_used_is tables.world n seen.is_self func func_is)
    found_called none ty has (Result inner) named = not_called 407
    found_called none ty has NoMember named = not_called 407

    -- a call of a member, by the base
    member_called : MemberGoes (method_callee tables.world judged name)
    member_called = by judged.enum refl where
      by_type : judged.enum ≡ None → (found : Option Ty) → judged.ty ≡ found
          → MemberGoes (value_method tables.world found name.id)
      by_type none None is =
          untyped tables number_of context listed vars noted name.at (base_rows judged) passed
          code_of None
      by_type none (Some ty) is =
          found_called none ty is (found_in tables.world ty name.id)
          (found_ok tables.world ty name.id)

      by : (named : Option ℕ) → judged.enum ≡ named
          → MemberGoes (method_by tables.world named judged.ty name.id)
      by None is = by_type is judged.ty refl
      by (Some k) is = case_called k (case_in tables.world k name.id)

  -- a call of a member
  pub method_proceeds : is_some (call_judged (method_callee tables.world judged name) name.at
      (base_rows judged) passed).ty ≡ true
      → RowsHold tables.answers (call_judged (method_callee tables.world judged name) name.at
      (base_rows judged) passed).rows
      → kinds_of name.at all
      ≡ kinds_of name.at (member_notes tables.world tables.answers seen name.at context)
      → ArgsProceed tables number_of context listed vars args_notes args
      → ExprProceeds tables number_of context listed vars noted
      (value name.at
      (method_read tables owner name.at base args (tables.answers.meaning_at name.at))
      (base.inside ++ args_inside args))
  method_proceeds typed rows alone of_args = record {
    read = member_called
        (member_kind tables number_of all knows stand context listed vars seen name.at alone)
        (goes_right tables number_of context listed (seen_in tables context.owner vars)
        (before ++ uses) args_notes (args_read args) of_args.read) typed rows;
    inside = All-append (BodyProceeds number_of) base.inside (args_inside args)
        (base_inside tables number_of context listed vars judged base before stands)
        of_args.inside;
  }
