-- The code of a member is safe: a property or the result of a task, or a case of an enum.
use Rattle.std.proofs.Common.{◌≡◌, ℕ, Bool, true, false, ◌&&◌, ◌||◌, List, [], ◌∷◌, ◌++◌, Option}
use Rattle.std.proofs.Common.{Some, None, ap, sym, ◌∙◌, subst, refl, true≢false, map}
use Rattle.std.proofs.lemmas.List.Elements.{All-cons, All-nil}
use Rattle.std.specs.Prelude.{slice_get}
use Rattle.std.proofs.lemmas.Option.{same_Some}
use Rattle.sw_typing_rules.proofs.Steps.{and_left}
use Rattle.sw_tree.specs.declared.name.Name.{Name}
use Rattle.sw_types.specs.Accepts.{IsAcceptedAs}
use Rattle.sw_types.specs.declared.shape.CaseShape.{CaseShape}
use Rattle.sw_types.specs.declared.shape.Part.{Part}
use Rattle.sw_types.specs.declared.shape.Shape.{Shape}
use Rattle.sw_types.specs.declared.ty.Ty.{Ty}
use Rattle.sw_types.specs.declared.ty.Ty.TheVariants as types
use Rattle.sw_types.specs.declared.ty.Ty.TheVariants.{outs-Named}
use Rattle.sw_graph.specs.Kinds.{EachOf, Goes, awaited, form_of, is_struct}
use Rattle.sw_graph.specs.declared.function.Function.{Function}
use Rattle.sw_graph.specs.declared.function.RegKind.TheVariants.{Plain}
use Rattle.sw_graph.specs.declared.instr.Instr.TheVariants as instr
use Rattle.sw_graph.specs.declared.instr.Operand.{Operand}
use Rattle.sw_typing_rules.specs.Calls.{case_in, case_meaning, case_types, enum_types}
use Rattle.sw_typing_rules.specs.Calls.{payload_types}
use Rattle.sw_typing_rules.specs.Expressions.{Judged, case_judged, found_judged, member_by}
use Rattle.sw_typing_rules.specs.Expressions.{member_judged, noted, value_member}
use Rattle.sw_typing_rules.specs.Verdicts.{meaning_rows, rows_of, type_in}
use Rattle.sw_typing_rules.specs.Words.{found_in, found_settable, found_types, is_var_part}
use Rattle.sw_typing_rules.specs.Words.{part_types}
use Rattle.sw_typing_rules.specs.Worlds.{case_at, is_object, part_at}
use Rattle.sw_typing_rules.specs.declared.found.Found.{Found}
use Rattle.sw_typing_rules.specs.declared.found.Found.TheVariants.{Method, NoMember, Property}
use Rattle.sw_typing_rules.specs.declared.found.Found.TheVariants.{Result}
use Rattle.sw_typing_rules.specs.declared.row.Meaning.{Meaning}
use Rattle.sw_typing_rules.specs.declared.row.Meaning.TheVariants as means
use Rattle.sw_typing_rules.specs.declared.verdict.Verdict.{Verdict}
use Rattle.sw_isolation_rules.specs.Uses.{named_layer, named_shape}
use Rattle.sw_lower_plans.specs.Plan.{Numbers}
use Rattle.sw_lower_code.specs.Code.{Code, ◌>>=◌}
use Rattle.sw_lower_rules.specs.Carriers.{ExprCode}
use Rattle.sw_lower_rules.specs.Expressions.{member_code, member_read, member_write, read_of_base}
use Rattle.sw_lower_rules.specs.Expressions.{write_part}
use Rattle.sw_lower_rules.specs.Tables.{Tables}
use Rattle.sw_lower_rules.specs.Uses.{give, make_value, read_part, shape_of, typed}
use Rattle.sw_lower_formed_facts.specs.Forms.{BodiesFit, BodyFits, ExprOk, Wherever}
use Rattle.sw_typing_facts.specs.Rows.{RowsHold}
use Rattle.sw_lower_formed_facts.specs.Ground.{Ground}
use Rattle.sw_lower_formed_facts.specs.Safe.{IsValue, Keeps, Position, SafeAt, ValueAfter, here}
use Rattle.sw_lower_formed_facts.specs.Whole.{IsSet}
use Rattle.sw_lower_formed_facts.proofs.Expressions.Parts.{read_part_in}
use Rattle.sw_lower_formed_facts.proofs.Expressions.Senses.{FoundIn, found_ok}
use Rattle.sw_lower_formed_facts.proofs.Expressions.Words.{object_no_struct}
use Rattle.sw_lower_formed_facts.proofs.Expressions.Writes.{BaseOk, WrittenTo, write_part_in}
use Rattle.sw_typing_facts.proofs.Lists.Found.{found_in_found}
use Rattle.sw_lower_formed_facts.proofs.Positions.Asking.{known_then}
use Rattle.sw_lower_formed_facts.proofs.Positions.Following.{keeps_then, knows_still}
use Rattle.sw_lower_formed_facts.proofs.Positions.Then.{safe_then, safe_weaker}
use Rattle.sw_lower_formed_facts.proofs.Positions.Using.{give_in}
use Rattle.sw_typing_facts.proofs.Programs.Enums.{OnlyEnums}
use Rattle.sw_typing_facts.proofs.Said.Rows.{rows_right}
use Rattle.sw_lower_formed_facts.proofs.Types.Going.{accepts_self, awaited_by, case_by, goes_same}
use Rattle.sw_typing_facts.proofs.Types.Within.{shape_within}

module _ (tables : Tables) (number : Numbers) (functions : List Function)
    (ground : Ground tables number functions) (owner : Option ℕ) where
  -- A member that means this has this type, and is safe where the code for the meaning is.
  meant_ok : (base : ExprCode) (at name : ℕ) (judged : Judged) (meaning : Meaning) (ty : Ty)
      → judged.ty ≡ Some ty → tables.answers.meaning_at at ≡ Some meaning
      → tables.answers.type_at at ≡ Some ty
      → Wherever tables number functions owner
      (λ w p. SafeAt w p (member_read tables owner at base (Some meaning))
      (λ x q. ValueAfter w p ty x q × BodiesFit tables number functions base.inside))
      → (judged.settable ≡ true → Wherever tables number functions owner
      (λ w p. (from : Ty) (x : Operand) → IsValue w p from x → IsAcceptedAs from ty
      → SafeAt w p (member_write tables owner at base (Some meaning) x)
      (λ _ q. Keeps w p q × BodiesFit tables number functions base.inside)))
      → ExprOk tables number functions owner (member_code tables owner base at name) judged
  meant_ok base at name judged meaning ty has means_is typed_is read write = record {
    ty = ty;
    has = has;
    typed = typed_is;
    read = λ w of p knows.
        subst (λ found. SafeAt w p (member_read tables owner at base found)
        (λ x q. ValueAfter w p ty x q × BodiesFit tables number functions base.inside))
        (sym means_is) (read w of p knows);
    write = λ settable w of p knows from x value accepts.
        subst (λ found. SafeAt w p (member_write tables owner at base found x)
        (λ _ q. Keeps w p q × BodiesFit tables number functions base.inside))
        (sym means_is) (write settable w of p knows from x value accepts);
  }

  -- A case of an enum that has no payload is made of nothing.
  pub make_case_in : OnlyEnums tables.world.shapes → (at k i : ℕ) (shape : Shape) (one : CaseShape)
      → slice_get tables.world.shapes k ≡ Some shape → slice_get shape.cases i ≡ Some one
      → one.payload ≡ [] → Wherever tables number functions owner
      (λ w p. SafeAt w p (make_value at k (Some i) []) (ValueAfter w p (types.Named k)))
  unfolding make_value
  make_case_in enums at k i shape one shape_is case_is empty w of p knows =
      give_in tables functions w of p at (types.Named k) (λ r. instr.Make at r k (Some i) [])
      (shape_within tables.world.shapes k shape shape_is) (λ r. refl)
      (λ r r_is. (
        subst (EachOf Goes []) (sym (case_by tables.world.shapes k i shape one shape_is
            (enums k i shape one shape_is case_is) case_is
            ∙ ap (λ (tys : List Ty). Some (map Plain tys)) empty)) tt,
        goes_same (Some (Plain (types.Named k))) (slice_get w.regs r) (types.Named k) refl r_is,
      ))
      (λ r. All-nil (IsSet w p.writes (here p))) (λ r. refl)

  -- a case without a payload
  case_ok : OnlyEnums tables.world.shapes → (base : ExprCode) → base.inside ≡ [] → (k : ℕ)
      (name : Name) → RowsHold tables.answers (case_judged tables.world k name).rows
      → ExprOk tables number functions owner (member_code tables owner base name.at name.id)
      (case_judged tables.world k name)
  case_ok enums base alone k name rows = by (case_in tables.world k name.id) rows where
    Ok : Judged → Type 0
    Ok judged =
        ExprOk tables number functions owner (member_code tables owner base name.at name.id) judged

    -- what is said of the case with a number
    said : ℕ → Verdict → Judged
    said i verdict = noted name.at verdict (meaning_rows name.at (Some (means.CaseOf k i)))

    by_payload : (i : ℕ) (one : CaseShape) → case_at tables.world k i ≡ Some one
        → (payload : List Ty) → one.payload ≡ payload
        → RowsHold tables.answers (said i (payload_types k payload)).rows
        → Ok (said i (payload_types k payload))
    by_payload i one is [] empty hold =
        let found = found_in_found (slice_get tables.world.shapes k)
        (λ (s : Shape). slice_get s.cases i) one is in
        meant_ok base name.at name.id (said i (payload_types k [])) (means.CaseOf k i)
        (types.Named k) refl hold.0 hold.1.0
        (λ w of p knows. safe_weaker w p (make_value name.at k (Some i) [])
        (ValueAfter w p (types.Named k))
        (λ x q. ValueAfter w p (types.Named k) x q
        × BodiesFit tables number functions base.inside)
        (make_case_in enums name.at k i found.0 one found.1 found.2 empty w of p knows)
        (λ x q inside got. (
          got,
          subst (BodiesFit tables number functions) (sym alone)
              (All-nil (BodyFits tables number functions)),
        )))
        (λ settable. absurd (true≢false (sym settable)))
    by_payload i one is (ty ∷ tys) empty hold = absurd hold.1.0

    by_case : (i : ℕ) (found : Option CaseShape) → case_at tables.world k i ≡ found
        → RowsHold tables.answers (said i (case_types k found)).rows
        → Ok (said i (case_types k found))
    by_case i None is hold = absurd hold.1.0
    by_case i (Some one) is hold = by_payload i one is one.payload refl hold

    by : (found : Option ℕ)
        → RowsHold tables.answers (noted name.at (enum_types tables.world k found)
        (meaning_rows name.at (case_meaning k found))).rows
        → Ok (noted name.at (enum_types tables.world k found)
        (meaning_rows name.at (case_meaning k found)))
    by None hold = absurd hold.0
    by (Some i) hold = by_case i (case_at tables.world k i) refl hold

  -- where a base is read, and what is in it fits
  abbrev pub BaseRead : ExprCode → Ty → Type 0
  BaseRead base ty = Wherever tables number functions owner (λ w p. SafeAt w p base.read
      (λ x q. ValueAfter w p ty x q × BodiesFit tables number functions base.inside))

  -- a property of a value
  pub read_of_base_in : (base : ExprCode) (at k i : ℕ) (shape : Shape) (part : Part)
      → slice_get tables.world.shapes k ≡ Some shape → slice_get shape.parts i ≡ Some part
      → named_shape (tables.answers.type_at base.key) ≡ Some k → BaseRead base (types.Named k)
      → Wherever tables number functions owner
      (λ w p. SafeAt w p (read_of_base tables owner at base i)
      (λ x q. ValueAfter w p part.ty x q × BodiesFit tables number functions base.inside))
  unfolding shape_of
  read_of_base_in base at k i shape part shape_is part_is named read w of p knows =
      safe_then w p base.read (λ from. shape_of tables base.key >>= to_part from)
      (λ x q. ValueAfter w p (types.Named k) x q
      × BodiesFit tables number functions base.inside) Post
      (read w of p knows)
      (λ from q inside mid. known_then w q 0 (named_shape (tables.answers.type_at base.key))
      (to_part from) Post
      (λ n n_is. subst (λ m. SafeAt w q (to_part from m) Post) (same_Some k n (sym named ∙ n_is))
      (safe_weaker w q (to_part from k) (ValueAfter w q part.ty) Post
      (read_part_in tables number functions ground owner w of q
      (knows_still tables owner number w p q mid.0.1 knows) at k i shape part from shape_is part_is
      mid.0.0)
      (λ x s in_s got. ((got.0, keeps_then w p q s mid.0.1 got.1), mid.1))))) where
        to_part : Operand → ℕ → Code Operand
        to_part from n = read_part tables at n i from

        Post : Operand → Position → Type 0
        Post x q = ValueAfter w p part.ty x q × BodiesFit tables number functions base.inside

  -- a value that goes into a property
  pub write_of_base_in : (base : ExprCode) (at k i : ℕ) (shape : Shape) (part : Part)
      → slice_get tables.world.shapes k ≡ Some shape → slice_get shape.parts i ≡ Some part
      → named_shape (tables.answers.type_at base.key) ≡ Some k
      → BaseOk tables number functions ground owner k shape base
      → Wherever tables number functions owner
      (λ w p. (from : Ty) (x : Operand) → IsValue w p from x → IsAcceptedAs from part.ty
      → SafeAt w p (member_write tables owner at base (Some (means.PartOf i)) x)
      (λ _ q. Keeps w p q × BodiesFit tables number functions base.inside))
  unfolding shape_of
  write_of_base_in base at k i shape part shape_is part_is named ok w of p knows from x value
      accepts =
      known_then w p 0 (named_shape (tables.answers.type_at base.key)) to_part Post
      (λ n n_is. subst (λ m. SafeAt w p (to_part m) Post) (same_Some k n (sym named ∙ n_is))
      (write_part_in tables number functions ground owner at k i shape part base shape_is part_is ok
      w of p knows from x value accepts)) where
        to_part : ℕ → Code (Unit {0})
        to_part n = write_part tables owner at n i base x

        Post : Unit {0} → Position → Type 0
        Post = WrittenTo tables number functions ground owner base w p

  -- a property, where the base is safe
  property_ok : (base : ExprCode) (judged : Judged) (name : Name) (k i : ℕ) (part : Part)
      → part_at tables.world k i ≡ Some part
      → (ok : ExprOk tables number functions owner base judged) → ok.ty ≡ types.Named k
      → tables.answers.meaning_at name.at ≡ Some (means.PartOf i)
      → tables.answers.type_at name.at ≡ Some part.ty
      → ExprOk tables number functions owner (member_code tables owner base name.at name.id)
      (found_judged tables.world judged (Property k i) name.at)
  property_ok base judged name k i part at_is ok named means_is typed_is =
      let found = found_in_found (slice_get tables.world.shapes k)
      (λ (s : Shape). slice_get s.parts i) part at_is in
      meant_ok base name.at name.id (found_judged tables.world judged (Property k i) name.at)
      (means.PartOf i) part.ty (ap (λ one. type_in (part_types one 407)) at_is) means_is typed_is
      (read_of_base_in base name.at k i found.0 part found.1 found.2 shape_is read)
      (λ settable. write_of_base_in base name.at k i found.0 part found.1 found.2 shape_is (record {
        read = read;
        write = write found.0 found.1 settable;
      })) where
        shape_is : named_shape (tables.answers.type_at base.key) ≡ Some k
        shape_is = ap named_shape (ok.typed ∙ ap Some named) ∙ ap named_layer (outs-Named k)

        read : BaseRead base (types.Named k)
        read = subst (BaseRead base) named ok.read

        base_settable : (object : Bool) → (is_object tables.world k ≡ object)
            → (is_object tables.world k ≡ true → ⊥)
            → ((object || judged.settable) && is_var_part (part_at tables.world k i)) ≡ true
            → judged.settable ≡ true
        base_settable true is no_object settable = absurd (no_object is)
        base_settable false is no_object settable =
            and_left judged.settable (is_var_part (part_at tables.world k i)) settable

        write : (shape : Shape) → slice_get tables.world.shapes k ≡ Some shape
            → found_settable tables.world judged.settable (Property k i) ≡ true
            → is_struct shape.kind ≡ true → Wherever tables number functions owner
            (λ w p. (x : Operand) → IsValue w p (types.Named k) x
            → SafeAt w p (base.write x) (λ _ q. Keeps w p q))
        write shape at settable struct_is w of p knows x value =
            safe_weaker w p (base.write x)
            (λ _ q. Keeps w p q × BodiesFit tables number functions base.inside)
            (λ _ q. Keeps w p q)
            (ok.write (base_settable (is_object tables.world k) refl
            (λ object. object_no_struct tables.world k shape at object struct_is) settable) w of p
            knows (types.Named k) x value
            (subst (IsAcceptedAs (types.Named k)) (sym named) (accepts_self (types.Named k))))
            (λ _ q inside got. got.0)

  -- the result of a task
  pub await_in : (base : ExprCode) (at : ℕ) (inner : Ty) → BaseRead base (types.Task inner)
      → tables.answers.type_at at ≡ Some inner → Wherever tables number functions owner
      (λ w p. SafeAt w p (member_read tables owner at base (Some means.TaskValue))
      (λ x q. ValueAfter w p inner x q × BodiesFit tables number functions base.inside))
  unfolding typed
  await_in base at inner read typed_is w of p knows =
      safe_then w p base.read (λ task. typed tables at >>= to_value task)
      (λ x q. ValueAfter w p (types.Task inner) x q
      × BodiesFit tables number functions base.inside) Post
      (read w of p knows)
      (λ task q inside mid. known_then w q types.Unit (tables.answers.type_at at) (to_value task)
      Post
      (λ ty ty_is. subst (λ one. SafeAt w q (to_value task one) Post)
      (same_Some inner ty (sym typed_is ∙ ty_is))
      (safe_weaker w q (to_value task inner) (ValueAfter w q inner) Post
      (give_in tables functions w of q at inner (λ r. instr.Await at r task)
      (ground.typed at inner typed_is) (λ r. refl)
      (λ r r_is. goes_same (awaited (form_of (slice_get w.regs task.reg))) (slice_get w.regs r)
      inner (awaited_by (slice_get w.regs task.reg) inner mid.0.0.kind) r_is)
      (λ r. All-cons (IsSet w q.writes (here q)) task.reg [] mid.0.0.set
      (All-nil (IsSet w q.writes (here q))))
      (λ r. refl))
      (λ x s in_s got. ((got.0, keeps_then w p q s mid.0.1 got.1), mid.1))))) where
        to_value : Operand → Ty → Code Operand
        to_value task ty = give at ty (λ r. instr.Await at r task)

        Post : Operand → Position → Type 0
        Post x q = ValueAfter w p inner x q × BodiesFit tables number functions base.inside

  -- the result of a task, where the base is safe
  result_ok : (base : ExprCode) (judged : Judged) (name : Name) (inner : Ty)
      → (ok : ExprOk tables number functions owner base judged) → ok.ty ≡ types.Task inner
      → tables.answers.meaning_at name.at ≡ Some means.TaskValue
      → tables.answers.type_at name.at ≡ Some inner
      → ExprOk tables number functions owner (member_code tables owner base name.at name.id)
      (found_judged tables.world judged (Result inner) name.at)
  result_ok base judged name inner ok task means_is typed_is =
      meant_ok base name.at name.id (found_judged tables.world judged (Result inner) name.at)
      means.TaskValue inner refl means_is typed_is
      (await_in base name.at inner (subst (BaseRead base) task ok.read) typed_is)
      (λ settable. absurd (true≢false (sym settable)))

  -- a member of a value
  found_member_ok : (base : ExprCode) (judged : Judged) (name : Name)
      → (ok : ExprOk tables number functions owner base judged) → (found : Found)
      → FoundIn tables.world ok.ty found
      → RowsHold tables.answers (found_judged tables.world judged found name.at).rows
      → ExprOk tables number functions owner (member_code tables owner base name.at name.id)
      (found_judged tables.world judged found name.at)
  found_member_ok base judged name ok (Property k i) named rows =
      by (part_at tables.world k i) refl (rows_right tables.answers judged.rows
      (meaning_rows name.at (Some (means.PartOf i))
      ++ rows_of name.at (part_types (part_at tables.world k i) 407)) rows) where
        by : (found : Option Part) → part_at tables.world k i ≡ found
            → RowsHold tables.answers (meaning_rows name.at (Some (means.PartOf i))
            ++ rows_of name.at (part_types found 407))
            → ExprOk tables number functions owner (member_code tables owner base name.at name.id)
            (found_judged tables.world judged (Property k i) name.at)
        by None is hold = absurd hold.1.0
        by (Some part) is hold = property_ok base judged name k i part is ok named hold.0 hold.1.0
  found_member_ok base judged name ok (Method key) is rows =
      absurd (rows_right tables.answers judged.rows
      (meaning_rows name.at None ++ rows_of name.at (found_types tables.world (Method key))) rows).0
  found_member_ok base judged name ok (Result inner) task rows =
      let hold = rows_right tables.answers judged.rows
      (meaning_rows name.at (Some means.TaskValue)
      ++ rows_of name.at (found_types tables.world (Result inner))) rows in
      result_ok base judged name inner ok task hold.0 hold.1.0
  found_member_ok base judged name ok NoMember is rows =
      absurd (rows_right tables.answers judged.rows
      (meaning_rows name.at None ++ rows_of name.at (found_types tables.world NoMember)) rows).0

  -- a member
  pub member_ok : OnlyEnums tables.world.shapes → (base : ExprCode) (judged : Judged) (name : Name)
      → (judged.enum ≡ None → ExprOk tables number functions owner base judged)
      → ((k : ℕ) → judged.enum ≡ Some k → base.inside ≡ [])
      → RowsHold tables.answers (member_judged tables.world judged name).rows
      → ExprOk tables number functions owner (member_code tables owner base name.at name.id)
      (member_judged tables.world judged name)
  member_ok enums base judged name ok alone rows = by judged.enum refl rows where
    typed_member : (base_ok : ExprOk tables number functions owner base judged) (found : Option Ty)
        → judged.ty ≡ found
        → RowsHold tables.answers (value_member tables.world judged found name).rows
        → ExprOk tables number functions owner (member_code tables owner base name.at name.id)
        (value_member tables.world judged found name)
    typed_member base_ok None is hold = absurd (no (sym is ∙ base_ok.has)) where
      no : None ≡ Some base_ok.ty → ⊥
      no same = cc
    typed_member base_ok (Some ty) is hold =
        found_member_ok base judged name base_ok (found_in tables.world ty name.id)
        (subst (λ one. FoundIn tables.world one (found_in tables.world ty name.id))
        (same_Some ty base_ok.ty (sym is ∙ base_ok.has)) (found_ok tables.world ty name.id)) hold

    by : (named : Option ℕ) → judged.enum ≡ named
        → RowsHold tables.answers (member_by tables.world judged named name).rows
        → ExprOk tables number functions owner (member_code tables owner base name.at name.id)
        (member_by tables.world judged named name)
    by None is hold = typed_member (ok is) judged.ty refl hold
    by (Some k) is hold = case_ok enums base (alone k is) k name hold
