-- A member, by what its base is: a value, or a word that names an enum.
use Rattle.std.proofs.Common.{◌≡◌, ℕ, Bool, true, false, ◌&&◌, ◌||◌, List, [], ◌++◌, Option, Some}
use Rattle.std.proofs.Common.{None, refl, ap, sym, ◌∙◌, subst}
use Rattle.std.proofs.lemmas.Bool.{false≢true}
use Rattle.std.proofs.lemmas.Option.{same_Some}
use Rattle.std.specs.Prelude.{if◌then◌else◌, slice_get}
use Rattle.sw_tree.specs.declared.expr.Expr.{Expr}
use Rattle.sw_tree.specs.declared.expr.Expr.TheVariants as exprs
use Rattle.sw_tree.specs.declared.name.Name.{Name}
use Rattle.sw_tree.proofs.FoldEquations as eq
use Rattle.sw_types.specs.declared.shape.Part.{Part}
use Rattle.sw_types.specs.declared.shape.Shape.{Shape}
use Rattle.sw_types.specs.declared.shape.ShapeKind.{ShapeKind}
use Rattle.sw_types.specs.declared.shape.ShapeKind.TheVariants as shapes
use Rattle.sw_types.specs.declared.ty.Ty.{Ty, out-Ty}
use Rattle.sw_types.specs.declared.ty.Ty.TheVariants as types
use Rattle.sw_types.specs.declared.ty.Ty.TheVariants.{outs-Named}
use Rattle.sw_graph.specs.Kinds.{is_struct}
use Rattle.sw_typing_rules.specs.Calls.{case_in, case_meaning, enum_types}
use Rattle.sw_typing_rules.specs.Expressions.{Judged, case_judged, found_judged, member_by}
use Rattle.sw_typing_rules.specs.Expressions.{noted, value_member}
use Rattle.sw_typing_rules.specs.Judges as is
use Rattle.sw_typing_rules.specs.Verdicts.{meaning_rows, rows_of}
use Rattle.sw_typing_rules.specs.Words.{Setting, found_in, found_settable, found_types, is_var_part}
use Rattle.sw_typing_rules.specs.Words.{part_types}
use Rattle.sw_typing_rules.specs.Worlds.{is_object, is_object_kind, part_at}
use Rattle.sw_typing_rules.specs.declared.found.Found.{Found}
use Rattle.sw_typing_rules.specs.declared.found.Found.TheVariants.{Method, NoMember, Property}
use Rattle.sw_typing_rules.specs.declared.found.Found.TheVariants.{Result}
use Rattle.sw_typing_rules.specs.declared.row.Meaning.TheVariants as means
use Rattle.sw_typing_rules.specs.declared.scope.Var.{Var}
use Rattle.sw_typing_rules.proofs.Steps.{and_left, and_right}
use Rattle.sw_isolation_rules.specs.Noting.{Seen, note_steps, see, store_notes, used_at}
use Rattle.sw_isolation_rules.specs.Uses.{base_of, named_layer, named_shape, part_used}
use Rattle.sw_isolation_rules.specs.declared.uses.Context.{Context}
use Rattle.sw_isolation_rules.specs.declared.uses.Used.{Used}
use Rattle.sw_isolation_rules.specs.declared.uses.Used.TheVariants.{Field}
use Rattle.sw_lower_rules.specs.Carriers.{ExprCode}
use Rattle.sw_lower_rules.specs.Expressions.{member_code}
use Rattle.sw_lower_rules.specs.Statements.{code_steps, expr_code}
use Rattle.sw_lower_formed_facts.specs.Forms.{ExprOk}
use Rattle.sw_typing_facts.specs.Rows.{RowsHold}
use Rattle.sw_lower_formed_facts.proofs.Expressions.Senses.{FoundIn, found_ok}
use Rattle.sw_lower_formed_facts.proofs.Expressions.Typed.{member_rows, valued_rows}
use Rattle.sw_lower_formed_facts.proofs.Expressions.Words.{object_no_struct}
use Rattle.sw_typing_facts.proofs.Lists.Found.{found_in_found}
use Rattle.sw_typing_facts.proofs.Said.Rows.{rows_right}
use Rattle.sw_lower_total_facts.proofs.Expressions.Uses.{part_used_is}
use Rattle.sw_lower_total_facts.proofs.Trees.Enums.{enum_alone}
use Rattle.sw_lower_placed_facts.specs.Claims.{AreNoted, BaseNoted, ExprNoted, ExprPlaced, ReadPlaced}
use Rattle.sw_lower_placed_facts.specs.Claims.{WritePlaced}
use Rattle.sw_lower_placed_facts.specs.Hosts.{IsSeenFrom, IsHost, Program, Host}
use Rattle.sw_lower_placed_facts.proofs.Forms.Bases.{code_base, part_use, same_base, seen_base}
use Rattle.sw_lower_placed_facts.proofs.Forms.Claims.{ExprClaim}
use Rattle.sw_lower_placed_facts.proofs.Forms.Members.{case_read, property_read, property_written}
use Rattle.sw_lower_placed_facts.proofs.Forms.Members.{result_read}
use Rattle.sw_lower_placed_facts.proofs.Forms.Noted.{member_base_noted}
use Rattle.sw_lower_placed_facts.proofs.Forms.PlaceNotes.{base_noted}
use Rattle.sw_lower_placed_facts.proofs.Forms.Shaping.{inside_form, place_by}
use Rattle.sw_lower_placed_facts.proofs.Forms.Typed.{Sound, typed_ok}
use Rattle.sw_lower_placed_facts.proofs.Forms.UseNotes.{member_used}
use Rattle.sw_lower_placed_facts.proofs.Uses.Using.{IsUsed}

-- Declared types are the same where their numbers are.
same_named : (j k : ℕ) → types.Named j ≡ types.Named k → j ≡ k
same_named j k same =
    same_Some j k (sym (ap named_layer (outs-Named j)) ∙ ap (λ ty. named_layer (out-Ty ty)) same
    ∙ ap named_layer (outs-Named k))

-- A property of a struct's value is a part of it.
struct_field : (kind : ShapeKind) → is_struct kind ≡ true → (stored : Used)
    → (if is_object_kind kind then stored else Field) ≡ Field
struct_field shapes.Struct is stored = refl
struct_field shapes.Enum is stored = refl
struct_field shapes.Class is stored = absurd (false≢true is)
struct_field shapes.Actor is stored = absurd (false≢true is)

module _ (program : Program) (sound : Sound program) (host : Host)
    (is_host : IsHost program host) (context : Context) (listed : List ℕ) (vars : List Var)
    (seen : IsSeenFrom host context) (base : Expr) (name : Name) (one : Judged)
    (same : seen_base program base
    ≡ code_base program (expr_code program.tables host.owner base)) where
  abbrev code : ExprCode
  code = expr_code program.tables host.owner base

  abbrev sees : Seen
  sees = see program.tables.world program.tables.answers base

  abbrev Placed : Bool → Type 0
  Placed settable =
      ExprPlaced program host context listed vars (exprs.Member base name) settable

  abbrev Hold : Judged → Type 0
  Hold judged = RowsHold program.tables.answers judged.rows

  abbrev Whole : Type 0
  Whole = ExprNoted program context listed vars (exprs.Member base name)

  abbrev MemberRead : Type 0
  MemberRead = ReadPlaced program host (member_code program.tables host.owner code name.at name.id)

  abbrev MemberWritten : Type 0
  MemberWritten =
      WritePlaced program host (member_code program.tables host.owner code name.at name.id)

  abbrev Stores : ℕ → Type 0
  Stores at = AreNoted program
      ((see program.tables.world program.tables.answers (exprs.Member base name)).stores context
      at)

  placed : (settable : Bool) → (Whole → MemberRead)
      → (settable ≡ true → (at : ℕ)
      → BaseNoted program context listed vars (exprs.Member base name) → Stores at
      → MemberWritten)
      → Placed settable
  unfolding expr_code
  placed settable read write =
      place_by program host context listed vars (exprs.Member base name) settable
      (member_code program.tables host.owner code name.at name.id)
      (eq.fold_expr-Member (code_steps program.tables host.owner) base name) read write

  -- a case of an enum
  case_placed : (k : ℕ) → code.inside ≡ [] → Hold (case_judged program.tables.world k name)
      → Placed false
  case_placed k alone rows = by (case_in program.tables.world k name.id) rows where
    by : (found : Option ℕ)
        → Hold (noted name.at (enum_types program.tables.world k found)
        (meaning_rows name.at (case_meaning k found))) → Placed false
    by None hold = absurd hold.0
    by (Some i) hold =
        placed false
        (λ whole. case_read program host sound.settled is_host context seen code name k i alone
        hold.0)
        (λ set. absurd (false≢true set))

  module _ (base_placed : ExprPlaced program host context listed vars base one.settable)
      (ok : ExprOk program.tables program.numbers program.functions host.owner code one) where
    base_read : Whole → ReadPlaced program host code
    base_read whole = base_placed.read (member_base_noted program context listed vars base name
        whole)

    -- what is used by the member
    use_of : (i : ℕ) → program.tables.answers.meaning_at name.at ≡ Some (means.PartOf i) → Whole
        → IsUsed program context name.at
        (part_used program.tables.world (code_base program code).shape i code.is_self)
    use_of i is whole =
        part_use program context (IsUsed program context name.at) name.at (seen_base program base)
        code same i is (member_used program sound.known context listed vars base name whole)

    -- what is noted of an assignment to it
    stores_member : (at : ℕ)
        → (see program.tables.world program.tables.answers (exprs.Member base name)).stores context
        at
        ≡ store_notes context at
        (used_at program.tables.world program.tables.answers context (seen_base program base)
        name.at) (sees.stores context at)
    unfolding see
    stores_member at =
        ap (λ s. s.stores context at)
        (eq.fold_expr-Member (note_steps program.tables.world program.tables.answers) base name)

    stored : (i at : ℕ) → program.tables.answers.meaning_at name.at ≡ Some (means.PartOf i)
        → Stores at
        → AreNoted program (store_notes context at
        (part_used program.tables.world (code_base program code).shape i code.is_self)
        (sees.stores context at))
    stored i at is noted =
        part_use program context
        (λ used. AreNoted program (store_notes context at used (sees.stores context at))) name.at
        (seen_base program base) code same i is
        (subst (AreNoted program) (stores_member at) noted)

    -- The assignment to a part of a struct's value is noted as one to that value.
    part_field : (k i : ℕ) (shape : Shape) (part : Part) → ok.ty ≡ types.Named k
        → slice_get program.tables.world.shapes k ≡ Some shape
        → slice_get shape.parts i ≡ Some part → is_struct shape.kind ≡ true
        → part_used program.tables.world (code_base program code).shape i code.is_self ≡ Field
    unfolding base_of
    part_field k i shape part named shape_is part_is struct =
        part_used_is program.tables.world (named_shape (program.tables.answers.type_at code.key)) k
        i code.is_self shape part
        (ap named_shape (ok.typed ∙ ap Some named) ∙ ap named_layer (outs-Named k)) shape_is part_is
        ∙ struct_field shape.kind struct _

    base_settable : (object set var : Bool) → (object ≡ true → ⊥)
        → ((object || set) && var) ≡ true → set ≡ true
    base_settable true set var none is = absurd (none refl)
    base_settable false set var none is = and_left set var is

    property_placed : (k i : ℕ) → ok.ty ≡ types.Named k
        → program.tables.answers.meaning_at name.at ≡ Some (means.PartOf i)
        → Placed (found_settable program.tables.world one.settable (Property k i))
    property_placed k i named is =
        placed (found_settable program.tables.world one.settable (Property k i))
        (λ whole. property_read program host sound.settled is_host context seen code name i one ok
        (base_read whole) is (use_of i is whole))
        (λ set at base_in noted.
        property_written program host sound.settled is_host context seen code name i at one
        (sees.stores context at) ok (base_placed.read (base_in base name refl))
        (λ j shape is_j shape_is struct.
        let here : slice_get program.tables.world.shapes k ≡ Some shape =
        subst (λ n. slice_get program.tables.world.shapes n ≡ Some shape)
        (same_named j k (sym is_j ∙ named)) shape_is in
        base_written set at base_in noted shape here struct)
        (λ j is_j. subst (λ n. is_var_part (part_at program.tables.world n i) ≡ true)
        (same_named k j (sym named ∙ is_j)) (var_of set)) is (stored i at is noted)) where
          var_of : found_settable program.tables.world one.settable (Property k i) ≡ true
              → is_var_part (part_at program.tables.world k i) ≡ true
          var_of set =
              and_right (is_object program.tables.world k || one.settable)
              (is_var_part (part_at program.tables.world k i)) set

          part_there : is_var_part (part_at program.tables.world k i) ≡ true
              → (part : Part) × (part_at program.tables.world k i ≡ Some part)
          part_there var = by (part_at program.tables.world k i) refl var where
            by : (found : Option Part) → part_at program.tables.world k i ≡ found
                → is_var_part found ≡ true
                → (part : Part) × (part_at program.tables.world k i ≡ Some part)
            by None is_found var = absurd (false≢true var)
            by (Some part) is_found var = (part, is_found)

          base_written : found_settable program.tables.world one.settable (Property k i) ≡ true
              → (at : ℕ)
              → BaseNoted program context listed vars (exprs.Member base name) → Stores at
              → (shape : Shape) → slice_get program.tables.world.shapes k ≡ Some shape
              → is_struct shape.kind ≡ true → WritePlaced program host code
          base_written set at base_in noted shape shape_is struct =
              let part = part_there (var_of set) in
              let found = found_in_found (slice_get program.tables.world.shapes k)
              (λ (s : Shape). slice_get s.parts i) part.0 part.1 in
              let shapes_same : found.0 ≡ shape =
              same_Some found.0 shape (sym found.1 ∙ shape_is) in
              base_placed.write
              (base_settable (is_object program.tables.world k) one.settable
              (is_var_part (part_at program.tables.world k i))
              (λ object. object_no_struct program.tables.world k shape shape_is object struct) set)
              at (base_noted program context listed vars at base (base_in base name refl))
              (subst (λ used. AreNoted program
              (store_notes context at used (sees.stores context at)))
              (part_field k i shape part.0 named shape_is
              (subst (λ (s : Shape). slice_get s.parts i ≡ Some part.0) shapes_same found.2)
              struct) (stored i at is noted))

    -- what was found in a value
    found_placed : (found : Found) → FoundIn program.tables.world ok.ty found
        → Hold (found_judged program.tables.world one found name.at)
        → Placed (found_settable program.tables.world one.settable found)
    found_placed (Property k i) named rows =
        property_placed k i named
        (rows_right program.tables.answers one.rows
        (meaning_rows name.at (Some (means.PartOf i))
        ++ rows_of name.at (part_types (part_at program.tables.world k i) 407)) rows).0
    found_placed (Method key) named rows =
        absurd (rows_right program.tables.answers one.rows
        (meaning_rows name.at None
        ++ rows_of name.at (found_types program.tables.world (Method key))) rows).0
    found_placed (Result inner) named rows =
        placed false
        (λ whole. result_read program host sound.settled is_host context seen code name
        (base_read whole)
        (rows_right program.tables.answers one.rows
        (meaning_rows name.at (Some means.TaskValue)
        ++ rows_of name.at (found_types program.tables.world (Result inner))) rows).0)
        (λ set. absurd (false≢true set))
    found_placed NoMember named rows =
        absurd (rows_right program.tables.answers one.rows
        (meaning_rows name.at None
        ++ rows_of name.at (found_types program.tables.world NoMember)) rows).0

    value_placed : (found : Option Ty) → one.ty ≡ found
        → Hold (value_member program.tables.world one found name)
        → Placed (value_member program.tables.world one found name).settable
    value_placed None is rows = absurd (never (sym is ∙ ok.has)) where
      never : None ≡ Some ok.ty → ⊥
      never same = cc
    value_placed (Some ty) is rows =
        found_placed (found_in program.tables.world ty name.id)
        (subst (λ one. FoundIn program.tables.world one
        (found_in program.tables.world ty name.id))
        (same_Some ty ok.ty (sym is ∙ ok.has)) (found_ok program.tables.world ty name.id)) rows

  pub member_placed : (named : Option ℕ) → one.enum ≡ named
      → (one.enum ≡ None → ExprPlaced program host context listed vars base one.settable)
      → (one.enum ≡ None
      → ExprOk program.tables program.numbers program.functions host.owner code one)
      → ((k : ℕ) → one.enum ≡ Some k → code.inside ≡ [])
      → Hold (member_by program.tables.world one named name)
      → Placed (member_by program.tables.world one named name).settable
  member_placed None is base_placed ok alone rows =
      value_placed (base_placed is) (ok is) one.ty refl rows
  member_placed (Some k) is base_placed ok alone rows = case_placed k (alone k is) rows

module _ (program : Program) (sound : Sound program) where
  pub member_claim : (setting : Setting) (expected : Bool) (base : Expr) (name : Name)
      (one : Judged) (of_base : is.Judges program.tables.world setting false base one)
      → ExprClaim program of_base
      → ExprClaim program (is.member setting expected base name one of_base)
  unfolding expr_code
  member_claim setting expected base name one of_base claim host is_host same vars rows inside
      context listed seen =
      let code = expr_code program.tables host.owner base in
      let base_inside = inside_form program _
      (member_code program.tables host.owner code name.at name.id)
      (eq.fold_expr-Member (code_steps program.tables host.owner) base name) inside in
      let base_rows : one.enum ≡ None → RowsHold program.tables.answers one.rows =
      λ none. valued_rows program.tables.world program.tables.answers one none
      (member_rows program.tables.world program.tables.answers one name rows) in
      member_placed program sound host is_host context listed setting.vars seen base name one
      (same_base program host.owner setting false base one of_base) one.enum refl
      (λ none. claim host is_host same vars (base_rows none) base_inside context listed seen)
      (λ none. typed_ok program sound setting false base one of_base host same vars
      (base_rows none) base_inside)
      (λ k is. subst (λ owner. (expr_code program.tables owner base).inside ≡ []) same
      (enum_alone program.tables setting false base one of_base k is)) rows
