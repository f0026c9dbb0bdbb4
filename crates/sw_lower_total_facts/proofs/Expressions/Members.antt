-- A member asks for nothing that isn't known, and neither does an assignment to one.
use Rattle.std.proofs.Common.{◌≡◌, ℕ, Bool, true, false, List, [], ◌++◌, Option, Some, None, refl}
use Rattle.std.proofs.Common.{sym, subst, ◌&&◌, ◌||◌}
use Rattle.std.proofs.lemmas.Bool.{false≢true}
use Rattle.std.proofs.lemmas.List.Elements.{Contains-append_left}
use Rattle.std.specs.Prelude.{Contains, IsSome, is_some, slice_get}
use Rattle.sw_tree.specs.declared.name.Name.{Name}
use Rattle.sw_types.specs.declared.shape.Part.{Part}
use Rattle.sw_types.specs.declared.shape.Shape.{Shape}
use Rattle.sw_types.specs.declared.ty.Ty.{Ty}
use Rattle.sw_types.specs.declared.ty.Ty.TheVariants as types
use Rattle.sw_graph.specs.Kinds.{is_struct}
use Rattle.sw_graph.specs.declared.instr.Instr.TheVariants as instr
use Rattle.sw_graph.specs.declared.instr.Operand.{Operand}
use Rattle.sw_typing_rules.specs.Calls.{case_in, case_meaning, enum_types}
use Rattle.sw_typing_rules.specs.Expressions.{Judged, case_judged, found_judged, member_by}
use Rattle.sw_typing_rules.specs.Expressions.{member_judged, noted, value_member}
use Rattle.sw_typing_rules.specs.Verdicts.{meaning_rows, rows_of}
use Rattle.sw_typing_rules.specs.Words.{found_in, found_settable, found_types, is_var_part}
use Rattle.sw_typing_rules.specs.Words.{part_types}
use Rattle.sw_typing_rules.specs.Worlds.{is_object, part_at}
use Rattle.sw_typing_rules.specs.declared.found.Found.{Found}
use Rattle.sw_typing_rules.specs.declared.found.Found.TheVariants.{Method, NoMember, Property}
use Rattle.sw_typing_rules.specs.declared.found.Found.TheVariants.{Result}
use Rattle.sw_typing_rules.specs.declared.row.Meaning.{Meaning}
use Rattle.sw_typing_rules.specs.declared.row.Meaning.TheVariants as means
use Rattle.sw_typing_rules.specs.declared.scope.Var.{Var}
use Rattle.sw_typing_rules.proofs.Steps.{and_left}
use Rattle.sw_isolation_rules.specs.Noting.{Seen, member_notes}
use Rattle.sw_isolation_rules.specs.Uses.{named_shape}
use Rattle.sw_isolation_rules.specs.declared.note.Note.{Note}
use Rattle.sw_isolation_rules.specs.declared.uses.Context.{Context}
use Rattle.sw_lower_plans.specs.Plan.{Numbers}
use Rattle.sw_lower_code.specs.Code.{Code, ◌>>=◌}
use Rattle.sw_lower_rules.specs.Carriers.{ExprCode}
use Rattle.sw_lower_rules.specs.Expressions.{member_code, member_read, member_write, write_part}
use Rattle.sw_lower_rules.specs.Tables.{Tables}
use Rattle.sw_lower_rules.specs.Uses.{give, shape_of, typed}
use Rattle.sw_typing_facts.specs.Rows.{RowsHold}
use Rattle.sw_lower_formed_facts.proofs.Expressions.Senses.{FoundIn, found_ok}
use Rattle.sw_lower_formed_facts.proofs.Expressions.Words.{object_no_struct}
use Rattle.sw_typing_facts.proofs.Lists.Found.{found_in_found}
use Rattle.sw_typing_facts.proofs.Said.Rows.{rows_right}
use Rattle.sw_lower_total_facts.specs.Bound.{seen_in}
use Rattle.sw_lower_total_facts.specs.Forms.{ExprProceeds, PlaceProceeds}
use Rattle.sw_lower_total_facts.specs.Known.{TablesAgree}
use Rattle.sw_lower_total_facts.specs.Noted.{kinds_of}
use Rattle.sw_lower_total_facts.proofs.Expressions.Bases.{BasePlace, BaseStands, MemberKind, base_inside}
use Rattle.sw_lower_total_facts.proofs.Expressions.Bases.{base_part, member_kind, named_is}
use Rattle.sw_lower_total_facts.proofs.Expressions.Reading.{goes_make_value}
use Rattle.sw_lower_total_facts.proofs.Expressions.Senses.{ShapesStand}
use Rattle.sw_lower_total_facts.proofs.Expressions.Writing.{goes_write_part}
use Rattle.sw_lower_total_facts.proofs.Proceeding.Each.{Goes}
use Rattle.sw_lower_total_facts.proofs.Proceeding.Using.{goes_give, goes_known, goes_left, goes_more}
use Rattle.sw_lower_total_facts.proofs.Proceeding.Using.{goes_then, goes_typed}

module _ (tables : Tables) (number_of : Numbers) (all : List Note)
    (knows : TablesAgree tables number_of all) (stand : ShapesStand tables.world)
    (context : Context)
    (listed : List ℕ) (vars : List Var) (owner : Option ℕ) (seen : Seen) (judged : Judged)
    (base : ExprCode) (name : Name)
    (stands : BaseStands tables number_of context listed vars judged base
    (seen.notes context listed)) (same : seen.key ≡ base.key) where
  -- what is noted of the base, and of the member
  abbrev before : List Note
  before = seen.notes context listed

  abbrev noted_of : List Note
  noted_of = before ++ member_notes tables.world tables.answers seen name.at context

  abbrev Here : List Note → {A : Type 0} → Code A → Type 0
  Here notes code =
      Goes tables number_of context listed (seen_in tables context.owner vars) notes code

  abbrev code_of : Code Operand
  code_of = member_read tables owner name.at base (tables.answers.meaning_at name.at)

  -- The code is that of its meaning.
  by_meaning : (meaning : Meaning) → tables.answers.meaning_at name.at ≡ Some meaning
      → Here noted_of (member_read tables owner name.at base (Some meaning)) → Here noted_of code_of
  by_meaning meaning is goes =
      subst (λ found. Here noted_of (member_read tables owner name.at base found)) (sym is) goes

  -- a base that is a value
  base_read : judged.enum ≡ None → Here noted_of base.read
  base_read none =
      goes_left tables number_of context listed (seen_in tables context.owner vars) before
      (member_notes tables.world tables.answers seen name.at context) base.read
      (stands.proceeds none).read

  -- a case of an enum
  case_goes : (k : ℕ) → RowsHold tables.answers (case_judged tables.world k name).rows
      → Here noted_of code_of
  case_goes k rows = by (case_in tables.world k name.id) rows where
    by : (found : Option ℕ)
        → RowsHold tables.answers (noted name.at (enum_types tables.world k found)
        (meaning_rows name.at (case_meaning k found))).rows
        → Here noted_of code_of
    by None hold = absurd hold.0
    by (Some i) hold =
        by_meaning (means.CaseOf k i) hold.0
        (goes_make_value tables number_of all knows context listed vars noted_of name.at k (Some i)
        [])

  -- what was found in a value
  found_goes : judged.enum ≡ None → MemberKind tables number_of all knows stand context listed vars
      seen name.at → (ty : Ty) → judged.ty ≡ Some ty → (found : Found)
      → FoundIn tables.world ty found
      → RowsHold tables.answers (found_judged tables.world judged found name.at).rows
      → Here noted_of code_of
  found_goes none kind_is ty has (Property k i) named rows =
      by (part_at tables.world k i) refl (rows_right tables.answers judged.rows
      (meaning_rows name.at (Some (means.PartOf i))
      ++ rows_of name.at (part_types (part_at tables.world k i) 407)) rows) where
        by : (found : Option Part) → part_at tables.world k i ≡ found
            → RowsHold tables.answers (meaning_rows name.at (Some (means.PartOf i))
            ++ rows_of name.at (part_types found 407))
            → Here noted_of code_of
        by None is hold = absurd hold.1.0
        by (Some part) is hold =
            by_meaning (means.PartOf i) hold.0
            (base_part tables number_of all knows stand context listed vars owner seen base noted_of
            name.at k i part same is
            (named_is tables base.key k ty (stands.typed none ty has) named) hold.0 kind_is
            (base_read none))
  found_goes none kind_is ty has (Method key) named rows =
      absurd (rows_right tables.answers judged.rows
      (meaning_rows name.at None ++ rows_of name.at (found_types tables.world (Method key))) rows).0
  found_goes none kind_is ty has (Result inner) named rows =
      let hold = rows_right tables.answers judged.rows
      (meaning_rows name.at (Some means.TaskValue)
      ++ rows_of name.at (found_types tables.world (Result inner))) rows in
      by_meaning means.TaskValue hold.0
      (goes_then tables number_of context listed (seen_in tables context.owner vars) noted_of
      base.read
      (λ task. typed tables name.at >>= λ one. give name.at one (λ r. instr.Await name.at r task))
      (base_read none)
      (λ task. goes_typed tables number_of context listed (seen_in tables context.owner vars)
      noted_of name.at (λ one. give name.at one (λ r. instr.Await name.at r task))
      (subst IsSome (sym hold.1.0) refl)
      (λ one. goes_give tables number_of context listed (seen_in tables context.owner vars)
      noted_of name.at one (λ r. instr.Await name.at r task))))
  found_goes none kind_is ty has NoMember named rows =
      absurd (rows_right tables.answers judged.rows
      (meaning_rows name.at None ++ rows_of name.at (found_types tables.world NoMember)) rows).0

  -- a member
  pub member_proceeds : is_some (member_judged tables.world judged name).ty ≡ true
      → RowsHold tables.answers (member_judged tables.world judged name).rows
      → kinds_of name.at all
      ≡ kinds_of name.at (member_notes tables.world tables.answers seen name.at context)
      → ExprProceeds tables number_of context listed vars noted_of
      (member_code tables owner base name.at name.id)
  member_proceeds has_type rows alone = record {
    read = by judged.enum refl has_type rows;
    inside = base_inside tables number_of context listed vars judged base before stands;
  } where
    kind_is : MemberKind tables number_of all knows stand context listed vars seen name.at
    kind_is =
        member_kind tables number_of all knows stand context listed vars seen name.at alone

    by_type : judged.enum ≡ None → (found : Option Ty) → judged.ty ≡ found
        → is_some (value_member tables.world judged found name).ty ≡ true
        → RowsHold tables.answers (value_member tables.world judged found name).rows
        → Here noted_of code_of
    by_type none None is typed hold = absurd (false≢true typed)
    by_type none (Some ty) is typed hold =
        found_goes none kind_is ty is (found_in tables.world ty name.id)
        (found_ok tables.world ty name.id) hold

    by : (named : Option ℕ) → judged.enum ≡ named
        → is_some (member_by tables.world judged named name).ty ≡ true
        → RowsHold tables.answers (member_by tables.world judged named name).rows
        → Here noted_of code_of
    by None is typed hold = by_type is judged.ty refl typed hold
    by (Some k) is typed hold = case_goes k hold

  -- An assignment is that to the meaning.
  to_meaning : (meaning : Meaning) (given : Operand)
      → tables.answers.meaning_at name.at ≡ Some meaning
      → Here before (member_write tables owner name.at base (Some meaning) given)
      → Here before
      (member_write tables owner name.at base (tables.answers.meaning_at name.at) given)
  to_meaning meaning given is goes =
      subst (λ found. Here before (member_write tables owner name.at base found given)) (sym is)
      goes

  -- A struct that holds the member can be assigned where the member can.
  base_settable : (k i : ℕ) (shape : Shape) → slice_get tables.world.shapes k ≡ Some shape
      → found_settable tables.world judged.settable (Property k i) ≡ true
      → is_struct shape.kind ≡ true → judged.settable ≡ true
  base_settable k i shape at settable struct_is = by (is_object tables.world k) refl settable where
    by : (object : Bool) → is_object tables.world k ≡ object
        → ((object || judged.settable) && is_var_part (part_at tables.world k i)) ≡ true
        → judged.settable ≡ true
    by true is set = absurd (object_no_struct tables.world k shape at is struct_is)
    by false is set = and_left judged.settable (is_var_part (part_at tables.world k i)) set

  module _ (assigned : BasePlace tables number_of context listed vars seen judged base) where
    -- an assignment to a property of a value
    part_written : judged.enum ≡ None → (ty : Ty) → judged.ty ≡ Some ty → (k i : ℕ) (part : Part)
        → part_at tables.world k i ≡ Some part → ty ≡ types.Named k
        → tables.answers.meaning_at name.at ≡ Some (means.PartOf i)
        → found_settable tables.world judged.settable (Property k i) ≡ true → (given : Operand)
        → Here before
        (member_write tables owner name.at base (tables.answers.meaning_at name.at) given)
    unfolding shape_of
    part_written none ty has k i part is named means_is settable given =
        let found = found_in_found (slice_get tables.world.shapes k)
        (λ (s : Shape). slice_get s.parts i) part is in
        to_meaning (means.PartOf i) given means_is
        (goes_known tables number_of context listed (seen_in tables context.owner vars) before 0
        (named_shape (tables.answers.type_at base.key)) k
        (λ shape. write_part tables owner name.at shape i base given)
        (named_is tables base.key k ty (stands.typed none ty has) named)
        (goes_write_part tables number_of all knows context listed vars before owner name.at k i
        found.0 base given found.1 (stand.parts k i found.0 part found.1 found.2)
        (stands.proceeds none).read
        (λ struct_is x.
        goes_more tables number_of context listed (seen_in tables context.owner vars)
        (seen.before context listed) before (base.write x) assigned.among
        (assigned.place none (base_settable k i found.0 found.1 settable struct_is) x))))

    found_written : judged.enum ≡ None → (ty : Ty) → judged.ty ≡ Some ty → (found : Found)
        → FoundIn tables.world ty found
        → RowsHold tables.answers (found_judged tables.world judged found name.at).rows
        → found_settable tables.world judged.settable found ≡ true → (given : Operand)
        → Here before
        (member_write tables owner name.at base (tables.answers.meaning_at name.at) given)
    found_written none ty has (Property k i) named rows settable given =
        by (part_at tables.world k i) refl (rows_right tables.answers judged.rows
        (meaning_rows name.at (Some (means.PartOf i))
        ++ rows_of name.at (part_types (part_at tables.world k i) 407)) rows) where
          by : (found : Option Part) → part_at tables.world k i ≡ found
              → RowsHold tables.answers (meaning_rows name.at (Some (means.PartOf i))
              ++ rows_of name.at (part_types found 407))
              → Here before
              (member_write tables owner name.at base (tables.answers.meaning_at name.at) given)
          by None is hold = absurd hold.1.0
          by (Some part) is hold = part_written none ty has k i part is named hold.0 settable given
    found_written none ty has (Method key) named rows settable given = absurd (false≢true settable)
    found_written none ty has (Result inner) named rows settable given =
        absurd (false≢true settable)
    found_written none ty has NoMember named rows settable given = absurd (false≢true settable)

    -- an assignment to a member
    pub member_place : RowsHold tables.answers (member_judged tables.world judged name).rows
        → (member_judged tables.world judged name).settable ≡ true
        → PlaceProceeds tables number_of context listed vars before
        (member_code tables owner base name.at name.id)
    member_place rows settable = by judged.enum refl rows settable where
      by_type : judged.enum ≡ None → (found : Option Ty) → judged.ty ≡ found
          → RowsHold tables.answers (value_member tables.world judged found name).rows
          → (value_member tables.world judged found name).settable ≡ true
          → PlaceProceeds tables number_of context listed vars before
          (member_code tables owner base name.at name.id)
      by_type none None is hold set = absurd (false≢true set)
      by_type none (Some ty) is hold set =
          found_written none ty is (found_in tables.world ty name.id)
          (found_ok tables.world ty name.id) hold set

      by : (named : Option ℕ) → judged.enum ≡ named
          → RowsHold tables.answers (member_by tables.world judged named name).rows
          → (member_by tables.world judged named name).settable ≡ true
          → PlaceProceeds tables number_of context listed vars before
          (member_code tables owner base name.at name.id)
      by None is hold set = by_type is judged.ty refl hold set
      by (Some k) is hold set = absurd (false≢true set)

  -- What is noted before an assignment to a member is noted of it.
  pub member_before : (note : Note) → Contains before note → Contains noted_of note
  member_before note has =
      Contains-append_left before (member_notes tables.world tables.answers seen name.at context)
      note has
