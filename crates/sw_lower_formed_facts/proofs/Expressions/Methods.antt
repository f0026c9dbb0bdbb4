-- The code of a call of a member is safe: a method, a property that holds a closure, or a case of
-- an enum.
use Rattle.std.proofs.Common.{◌≡◌, ℕ, List, [], ◌∷◌, ◌++◌, Option, Some, None, refl, sym, ap, ◌∙◌}
use Rattle.std.proofs.Common.{subst}
use Rattle.std.specs.Prelude.{map, slice_get}
use Rattle.sw_tree.specs.declared.name.Name.{Name}
use Rattle.sw_types.specs.declared.shape.CaseShape.{CaseShape}
use Rattle.sw_types.specs.declared.shape.Part.{Part}
use Rattle.sw_types.specs.declared.shape.Shape.{Shape}
use Rattle.sw_types.specs.declared.ty.Ty.{Ty}
use Rattle.sw_types.specs.declared.ty.Ty.TheVariants as types
use Rattle.sw_types.specs.declared.ty.Ty.TheVariants.{outs-Named}
use Rattle.sw_graph.specs.Kinds.{Each, EachOf, Goes, kinds_of}
use Rattle.sw_graph.specs.declared.function.Function.{Function}
use Rattle.sw_graph.specs.declared.instr.Operand.{Operand}
use Rattle.sw_typing_rules.specs.Calls.{Callee, Uncallable, case_callee, case_in, enum_callee}
use Rattle.sw_typing_rules.specs.Calls.{found_callee, part_callee, payload_callee, unlabelled}
use Rattle.sw_typing_rules.specs.Expressions.{Judged, Passed, base_rows, call_judged, method_by}
use Rattle.sw_typing_rules.specs.Expressions.{method_callee, value_method}
use Rattle.sw_typing_rules.specs.Words.{found_in}
use Rattle.sw_typing_rules.specs.Worlds.{case_at, part_at}
use Rattle.sw_typing_rules.specs.declared.found.Found.{Found}
use Rattle.sw_typing_rules.specs.declared.found.Found.TheVariants.{Method, NoMember, Property}
use Rattle.sw_typing_rules.specs.declared.found.Found.TheVariants.{Result}
use Rattle.sw_typing_rules.specs.declared.row.Meaning.{Meaning}
use Rattle.sw_typing_rules.specs.declared.row.Meaning.TheVariants as means
use Rattle.sw_typing_rules.specs.declared.row.Row.{Row}
use Rattle.sw_typing_rules.specs.declared.verdict.Given.{Given}
use Rattle.sw_isolation_rules.specs.Uses.{named_layer, named_shape}
use Rattle.sw_lower_plans.specs.Plan.{Numbers}
use Rattle.sw_lower_code.specs.Code.{Code, ◌>>=◌}
use Rattle.sw_lower_rules.specs.Carriers.{ArgCode, ExprCode}
use Rattle.sw_lower_rules.specs.Expressions.{args_inside, args_read, method_read, read_of_base}
use Rattle.sw_lower_rules.specs.Expressions.{value}
use Rattle.sw_lower_rules.specs.Tables.{Tables}
use Rattle.sw_lower_rules.specs.Uses.{make_value}
use Rattle.sw_lower_formed_facts.specs.Forms.{ArgsOk, ExprOk}
use Rattle.sw_typing_facts.specs.Rows.{RowsHold}
use Rattle.sw_lower_formed_facts.specs.Ground.{Ground}
use Rattle.sw_lower_formed_facts.proofs.Expressions.Arguments.{HaveTypes, values_go, values_set}
use Rattle.sw_lower_formed_facts.proofs.Expressions.Callees.{Fitted, func_ok, never_called, takes_ok}
use Rattle.sw_lower_formed_facts.proofs.Expressions.Calling.{after_args, make_value_in, unlabelled_kinds}
use Rattle.sw_lower_formed_facts.proofs.Expressions.Calls.{method_gives, value_called}
use Rattle.sw_lower_formed_facts.proofs.Expressions.Members.{read_of_base_in}
use Rattle.sw_lower_formed_facts.proofs.Expressions.Senses.{FoundIn, found_ok}
use Rattle.sw_lower_formed_facts.proofs.Expressions.Values.{CodeGives}
use Rattle.sw_typing_facts.proofs.Lists.Found.{found_in_found}
use Rattle.sw_typing_facts.proofs.Programs.Enums.{OnlyEnums}
use Rattle.sw_lower_formed_facts.proofs.Types.Going.{case_by}
use Rattle.sw_typing_facts.proofs.Types.Within.{shape_within}

module _ (tables : Tables) (number : Numbers) (functions : List Function)
    (ground : Ground tables number functions) (owner : Option ℕ) where
  -- A case of an enum is made of values.
  case_gives : OnlyEnums tables.world.shapes → (at k i : ℕ) (shape : Shape) (one : CaseShape)
      (args : List ArgCode) (tys : List Ty) (given : List Given) (meaning : Meaning)
      → slice_get tables.world.shapes k ≡ Some shape → slice_get shape.cases i ≡ Some one
      → Fitted tables.answers at given meaning (map unlabelled one.payload) (types.Named k)
      → HaveTypes given tys → ArgsOk tables number functions owner args tys
      → CodeGives tables number functions owner (args_read args >>= make_value at k (Some i))
      (types.Named k) (args_inside args)
  case_gives enums at k i shape one args tys given meaning at_is case_is fit have ok =
      after_args tables number functions ground owner args tys (make_value at k (Some i))
      (types.Named k) ok
      (λ w of p knows xs are.
      make_value_in tables number functions ground owner w of p at k (Some i) xs
      (shape_within tables.world.shapes k shape at_is)
      (subst (EachOf Goes (kinds_of w.regs xs))
      (sym (case_by tables.world.shapes k i shape one at_is
      (enums k i shape one at_is case_is) case_is))
      (subst (Each Goes (kinds_of w.regs xs)) (unlabelled_kinds one.payload)
      (values_go w p (map unlabelled one.payload) given tys xs fit.labels fit.types have are)))
      (values_set w p tys xs are))

  module _ (base : ExprCode) (at : ℕ) (args : List ArgCode) (before : List Row) (passed : Passed)
      (tys : List Ty) (have : HaveTypes passed.given tys)
      (args_ok : ArgsOk tables number functions owner args tys) where
    -- the call, as its meaning says
    abbrev code_of : Code Operand
    code_of = method_read tables owner at base args (tables.answers.meaning_at at)

    -- what is shown of it
    abbrev CallOk : Callee → Type 0
    CallOk callee = RowsHold tables.answers (call_judged callee at before passed).rows
        → ExprOk tables number functions owner
        (value at code_of (base.inside ++ args_inside args)) (call_judged callee at before passed)

    -- what can't be called
    uncallable : (code : ℕ) → CallOk (Uncallable code)
    uncallable code hold = absurd (never_called tables.answers code at before passed tys have hold)

    -- The code is that of its meaning.
    by_meaning : (meaning : Meaning) (ty : Ty) → tables.answers.meaning_at at ≡ Some meaning
        → CodeGives tables number functions owner
        (method_read tables owner at base args (Some meaning)) ty (base.inside ++ args_inside args)
        → CodeGives tables number functions owner code_of ty (base.inside ++ args_inside args)
    by_meaning meaning ty is safe =
        subst (λ found. CodeGives tables number functions owner
        (method_read tables owner at base args found) ty (base.inside ++ args_inside args)) (sym is)
        safe

    -- a case of an enum
    enum_case_ok : OnlyEnums tables.world.shapes → (k : ℕ) → base.inside ≡ []
        → (found : Option ℕ) → CallOk (enum_callee tables.world k found)
    enum_case_ok enums k alone None = uncallable 407
    enum_case_ok enums k alone (Some i) = by (case_at tables.world k i) refl where
      by_payload : (one : CaseShape) → case_at tables.world k i ≡ Some one → (payload : List Ty)
          → one.payload ≡ payload → CallOk (payload_callee k i payload)
      by_payload one is [] payload_is = uncallable 407
      by_payload one is (ty ∷ more) payload_is = λ hold.
          let found = found_in_found (slice_get tables.world.shapes k)
          (λ (s : Shape). slice_get s.cases i) one is in
          takes_ok tables number functions owner at before passed tys (means.CaseOf k i)
          (map unlabelled (ty ∷ more)) (types.Named k) code_of (base.inside ++ args_inside args)
          have hold
          (λ fit.
          by_meaning (means.CaseOf k i) (types.Named k) fit.means
          (subst (λ inside. CodeGives tables number functions owner
          (args_read args >>= make_value at k (Some i)) (types.Named k)
          (inside ++ args_inside args)) (sym alone)
          (case_gives enums at k i found.0 one args tys passed.given (means.CaseOf k i) found.1
          found.2
          (subst (λ payload. Fitted tables.answers at passed.given (means.CaseOf k i)
          (map unlabelled payload) (types.Named k)) (sym payload_is) fit) have args_ok)))

      by : (found : Option CaseShape) → case_at tables.world k i ≡ found
          → CallOk (case_callee k i found)
      by None is = uncallable 407
      by (Some one) is = by_payload one is one.payload refl

    -- what was found in a value
    found_method : (judged : Judged) (ok : ExprOk tables number functions owner base judged)
        (found : Found) → FoundIn tables.world ok.ty found
        → CallOk (found_callee tables.world found)
    found_method judged ok (Property k i) named = by (part_at tables.world k i) refl where
      by : (found : Option Part) → part_at tables.world k i ≡ found
          → CallOk (part_callee (means.PartOf i) 407 found)
      by None is = uncallable 407
      by (Some part) is =
          let found = found_in_found (slice_get tables.world.shapes k)
          (λ (s : Shape). slice_get s.parts i) part is in
          value_called tables number functions ground owner at before passed args tys
          (means.PartOf i) 407 part.ty (read_of_base tables owner at base i) base.inside code_of
          have args_ok
          (read_of_base_in tables number functions ground owner base at k i found.0 part found.1
          found.2
          (ap named_shape (ok.typed ∙ ap Some named) ∙ ap named_layer (outs-Named k))
          (subst (λ ty. CodeGives tables number functions owner base.read ty base.inside) named
          ok.read))
          (λ is. ap (method_read tables owner at base args) is)
    found_method judged ok (Method key) method = λ hold.
        func_ok tables number functions owner at before passed tys means.FuncOf 407
        (tables.world.numbers key) code_of (base.inside ++ args_inside args) have hold
        (λ n func n_is func_is fit.
        by_meaning (means.FuncOf n) func.result fit.means
        (method_gives tables number functions ground owner at n method.shape key func base.read
        base.inside args tys passed.given (means.FuncOf n) method.method n_is func_is fit have
        (subst (λ ty. CodeGives tables number functions owner base.read ty base.inside)
        method.ty_is ok.read) args_ok))
    found_method judged ok (Result inner) is = uncallable 407
    found_method judged ok NoMember is = uncallable 407

    -- a member of a value
    value_method_ok : (judged : Judged) (id : ℕ)
        → ExprOk tables number functions owner base judged
        → CallOk (value_method tables.world judged.ty id)
    value_method_ok judged id ok =
        subst (λ ty. CallOk (value_method tables.world ty id)) (sym ok.has)
        (found_method judged ok (found_in tables.world ok.ty id) (found_ok tables.world ok.ty id))

  -- a call of a member
  pub method_ok : OnlyEnums tables.world.shapes → (base : ExprCode) (judged : Judged)
      (name : Name) (args : List ArgCode) (passed : Passed) (tys : List Ty)
      → HaveTypes passed.given tys → ArgsOk tables number functions owner args tys
      → (judged.enum ≡ None → ExprOk tables number functions owner base judged)
      → ((k : ℕ) → judged.enum ≡ Some k → base.inside ≡ [])
      → RowsHold tables.answers (call_judged (method_callee tables.world judged name) name.at
      (base_rows judged) passed).rows
      → ExprOk tables number functions owner
      (value name.at
      (method_read tables owner name.at base args (tables.answers.meaning_at name.at))
      (base.inside ++ args_inside args))
      (call_judged (method_callee tables.world judged name) name.at (base_rows judged) passed)
  method_ok enums base judged name args passed tys have args_ok ok alone =
      by judged.enum refl where
        by : (named : Option ℕ) → judged.enum ≡ named
            → CallOk base name.at args (base_rows judged) passed tys have args_ok
            (method_by tables.world named judged.ty name.id)
        by None is =
            value_method_ok base name.at args (base_rows judged) passed tys have args_ok judged
            name.id (ok is)
        by (Some k) is =
            enum_case_ok base name.at args (base_rows judged) passed tys have args_ok enums k
            (alone k is) (case_in tables.world k name.id)
