-- The code of a word and of `self` is safe.
use Rattle.std.proofs.Common.{◌≡◌, ℕ, true, List, [], Option, Some, None, ap, sym, ◌∙◌, subst, refl}
use Rattle.std.proofs.Common.{true≢false}
use Rattle.std.proofs.lemmas.List.Elements.{All-nil}
use Rattle.std.specs.Prelude.{slice_get}
use Rattle.std.proofs.lemmas.Option.{same_Some}
use Rattle.sw_typing_rules.proofs.Steps.{and_left}
use Rattle.sw_tree.specs.declared.name.Name.{Name}
use Rattle.sw_types.specs.Accepts.{IsAcceptedAs}
use Rattle.sw_types.specs.declared.shape.Part.{Part}
use Rattle.sw_types.specs.declared.shape.Shape.{Shape}
use Rattle.sw_types.specs.declared.shape.ShapeKind.{ShapeKind}
use Rattle.sw_types.specs.declared.shape.ShapeKind.TheVariants as shapes
use Rattle.sw_types.specs.declared.ty.Ty.{Ty}
use Rattle.sw_types.specs.declared.ty.Ty.TheVariants as types
use Rattle.sw_graph.specs.Kinds.{is_struct}
use Rattle.sw_graph.specs.declared.function.Function.{Function}
use Rattle.sw_graph.specs.declared.instr.Operand.{Operand}
use Rattle.sw_decl_words.specs.declared.words.Meaning.TheVariants as word
use Rattle.sw_decls.specs.declared.signature.GlobalVar.{GlobalVar}
use Rattle.sw_typing_rules.specs.Expressions.{Judged, me_judged, sensed, word_judged}
use Rattle.sw_typing_rules.specs.Verdicts.{rows_of, type_in}
use Rattle.sw_typing_rules.specs.Words.{Nothing, OwnCase, OwnMethod, OwnProperty, Printing, Sense}
use Rattle.sw_typing_rules.specs.Words.{Setting, Top, Variable, global_types, is_var_part, me_types}
use Rattle.sw_typing_rules.specs.Words.{part_types, sense, var_types, word_settable}
use Rattle.sw_typing_rules.specs.Worlds.{World, is_object, is_object_kind, is_object_shape, part_at}
use Rattle.sw_typing_rules.specs.declared.row.Meaning.{Meaning}
use Rattle.sw_typing_rules.specs.declared.row.Meaning.TheVariants as means
use Rattle.sw_lower_plans.specs.Plan.{Numbers}
use Rattle.sw_lower_code.specs.Code.{Code}
use Rattle.sw_lower_rules.specs.Expressions.{own_base, self_code, word_code, word_write, write_part}
use Rattle.sw_lower_rules.specs.Tables.{Tables}
use Rattle.sw_lower_rules.specs.Uses.{read_self, read_word, word_by}
use Rattle.sw_lower_formed_facts.specs.Forms.{BodiesFit, BodyFits, ExprOk, VarsHold, Wherever}
use Rattle.sw_typing_facts.specs.Rows.{RowsHold}
use Rattle.sw_lower_formed_facts.specs.Ground.{Ground}
use Rattle.sw_lower_formed_facts.specs.Safe.{IsValue, Keeps, SafeAt, ValueAfter}
use Rattle.sw_lower_formed_facts.proofs.Expressions.Parts.{read_global_in, read_own_in}
use Rattle.sw_lower_formed_facts.proofs.Expressions.Senses.{SenseOk, sense_ok}
use Rattle.sw_lower_formed_facts.proofs.Expressions.Variables.{read_self_in, read_typed, write_typed}
use Rattle.sw_lower_formed_facts.proofs.Expressions.Writes.{BaseOk, WrittenTo, write_global_in}
use Rattle.sw_lower_formed_facts.proofs.Expressions.Writes.{write_part_in}
use Rattle.sw_typing_facts.proofs.Lists.Found.{found_in_found}
use Rattle.sw_lower_formed_facts.proofs.Positions.Asking.{known_then}
use Rattle.sw_lower_formed_facts.proofs.Positions.Then.{safe_weaker}

-- A class or an actor is no struct.
pub object_no_struct : (world : World) (k : ℕ) (shape : Shape)
    → slice_get world.shapes k ≡ Some shape
    → is_object world k ≡ true → is_struct shape.kind ≡ true → ⊥
object_no_struct world k shape at object = by shape.kind
    (sym (ap (is_object_shape world) at) ∙ object) where
      by : (kind : ShapeKind) → is_object_kind kind ≡ true → is_struct kind ≡ true → ⊥
      by shapes.Struct one two = true≢false (sym one)
      by shapes.Enum one two = true≢false (sym one)
      by shapes.Class one two = true≢false (sym two)
      by shapes.Actor one two = true≢false (sym two)

module _ (tables : Tables) (number : Numbers) (functions : List Function)
    (ground : Ground tables number functions) (owner : Option ℕ) where
  -- no body is in a word
  no_bodies : BodiesFit tables number functions []
  no_bodies = All-nil (BodyFits tables number functions)

  -- A word that means this has this type, and is safe where the code for the meaning is.
  meant_ok : (at : ℕ) (judged : Judged) (meaning : Meaning) (ty : Ty) → judged.ty ≡ Some ty
      → tables.answers.meaning_at at ≡ Some meaning → tables.answers.type_at at ≡ Some ty
      → Wherever tables number functions owner
      (λ w p. SafeAt w p (word_by tables owner at (Some meaning)) (ValueAfter w p ty))
      → (judged.settable ≡ true → Wherever tables number functions owner
      (λ w p. (from : Ty) (x : Operand) → IsValue w p from x → IsAcceptedAs from ty
      → SafeAt w p (word_write tables owner at (Some meaning) x) (λ _ q. Keeps w p q)))
      → ExprOk tables number functions owner (word_code tables owner at) judged
  unfolding read_word
  meant_ok at judged meaning ty has means_is typed_is read write = record {
    ty = ty;
    has = has;
    typed = typed_is;
    read = λ w of p knows.
        safe_weaker w p (word_by tables owner at (tables.answers.meaning_at at))
        (ValueAfter w p ty) (λ x q. ValueAfter w p ty x q × BodiesFit tables number functions [])
        (subst (λ found. SafeAt w p (word_by tables owner at found) (ValueAfter w p ty))
        (sym means_is) (read w of p knows))
        (λ x q inside got. (got, no_bodies));
    write = λ settable w of p knows from x value accepts.
        safe_weaker w p (word_write tables owner at (tables.answers.meaning_at at) x)
        (λ _ q. Keeps w p q) (λ _ q. Keeps w p q × BodiesFit tables number functions [])
        (subst (λ found. SafeAt w p (word_write tables owner at found x) (λ _ q. Keeps w p q))
        (sym means_is) (write settable w of p knows from x value accepts))
        (λ _ q inside keeps. (keeps, no_bodies));
  }

  -- `self` before a property, where it is left out
  own_base_ok : (at k : ℕ) (shape : Shape) → owner ≡ Some k
      → slice_get tables.world.shapes k ≡ Some shape → is_object tables.world k ≡ true
      → BaseOk tables number functions ground owner k shape (own_base tables owner at)
  own_base_ok at k shape owner_is at_is object = record {
    read = λ w of p knows.
        safe_weaker w p (read_self tables owner at) (ValueAfter w p (types.Named k))
        (λ x q. ValueAfter w p (types.Named k) x q × BodiesFit tables number functions [])
        (read_self_in tables number functions ground owner at k owner_is w of p knows)
        (λ x q inside got. (got, no_bodies));
    write = λ struct_is. absurd (object_no_struct tables.world k shape at_is object struct_is);
  }

  -- a word with a sense
  sensed_ok : (meant : Sense) (at : ℕ) → SenseOk tables owner meant
      → RowsHold tables.answers (sensed tables.world meant at).rows
      → ExprOk tables number functions owner (word_code tables owner at)
      (sensed tables.world meant at)
  sensed_ok (Variable one) at ok rows =
      meant_ok at (sensed tables.world (Variable one) at) (means.Local one.at) ok.ty
      (ap (λ found. type_in (var_types found)) ok.has) rows.0
      (subst (λ found. RowsHold tables.answers (rows_of at (var_types found))) ok.has rows.1).0
      (read_typed tables number functions ground owner at one.at ok.ty ok.typed)
      (λ settable. write_typed tables number functions ground owner at one.at ok.ty ok.typed)
  sensed_ok (OwnProperty k i) at ok rows = by (part_at tables.world k i) refl rows.1 where
    write : (shape : Shape) (part : Part) → slice_get tables.world.shapes k ≡ Some shape
        → slice_get shape.parts i ≡ Some part
        → word_settable tables.world (OwnProperty k i) ≡ true
        → Wherever tables number functions owner
        (λ w p. (from : Ty) (x : Operand) → IsValue w p from x → IsAcceptedAs from part.ty
        → SafeAt w p (word_write tables owner at (Some (means.OwnPart i)) x) (λ _ q. Keeps w p q))
    write shape part shape_is part_is settable w of p knows from x value accepts =
        known_then w p 0 owner to_part (λ _ q. Keeps w p q)
        (λ n n_is. subst (λ m. SafeAt w p (to_part m) (λ _ q. Keeps w p q))
        (same_Some k n (sym ok ∙ n_is))
        (safe_weaker w p (to_part k)
        (WrittenTo tables number functions ground owner (own_base tables owner at) w p)
        (λ _ q. Keeps w p q)
        (write_part_in tables number functions ground owner at k i shape part
        (own_base tables owner at) shape_is part_is
        (own_base_ok at k shape ok shape_is (and_left (is_object tables.world k)
        (is_var_part (part_at tables.world k i)) settable)) w of p knows from x value accepts)
        (λ _ q inside got. got.0))) where
          to_part : ℕ → Code (Unit {0})
          to_part n = write_part tables owner at n i (own_base tables owner at) x

    by : (found : Option Part) → part_at tables.world k i ≡ found
        → RowsHold tables.answers (rows_of at (part_types found 401))
        → ExprOk tables number functions owner (word_code tables owner at)
        (sensed tables.world (OwnProperty k i) at)
    by None is typed_rows = absurd typed_rows.0
    by (Some part) is typed_rows =
        let found = found_in_found (slice_get tables.world.shapes k)
        (λ (s : Shape). slice_get s.parts i) part is in
        meant_ok at (sensed tables.world (OwnProperty k i) at) (means.OwnPart i) part.ty
        (ap (λ one. type_in (part_types one 401)) is) rows.0 typed_rows.0
        (read_own_in tables number functions ground owner at k i found.0 part ok found.1 found.2)
        (write found.0 part found.1 found.2)
  sensed_ok (OwnMethod key) at ok rows = absurd rows.0
  sensed_ok OwnCase at ok rows = absurd rows.0
  sensed_ok (Top (word.Shape kind n)) at ok rows = absurd rows.0
  sensed_ok (Top (word.GlobalActor n)) at ok rows = absurd rows.0
  sensed_ok (Top (word.Func key)) at ok rows = absurd rows.0
  sensed_ok (Top (word.Global g)) at ok rows =
      by (slice_get tables.world.globals g) refl rows.1 where
        by : (found : Option GlobalVar) → slice_get tables.world.globals g ≡ found
            → RowsHold tables.answers (rows_of at (global_types found))
            → ExprOk tables number functions owner (word_code tables owner at)
            (sensed tables.world (Top (word.Global g)) at)
        by None is typed_rows = absurd typed_rows.0
        by (Some global) is typed_rows =
            meant_ok at (sensed tables.world (Top (word.Global g)) at) (means.GlobalOf g) global.ty
            (ap (λ one. type_in (global_types one)) is) rows.0 typed_rows.0
            (read_global_in tables number functions ground owner at g global is)
            (λ settable. write_global_in tables number functions ground owner at g global is)
  sensed_ok (Top word.Entry) at ok rows = absurd rows.0
  sensed_ok Printing at ok rows = absurd rows.0
  sensed_ok Nothing at ok rows = absurd rows.0

  -- a word
  pub word_ok : (setting : Setting) (name : Name) → VarsHold tables.answers setting.vars
      → setting.owner ≡ owner
      → RowsHold tables.answers (word_judged tables.world setting name).rows
      → ExprOk tables number functions owner (word_code tables owner name.at)
      (word_judged tables.world setting name)
  word_ok setting name vars same rows =
      sensed_ok (sense tables.world setting name.id) name.at
      (sense_ok tables owner setting name.id vars same)
      rows

  -- `self`
  pub me_ok : (at : ℕ) → RowsHold tables.answers (me_judged owner at).rows
      → ExprOk tables number functions owner (self_code tables owner at) (me_judged owner at)
  me_ok at rows = by owner refl rows where
    by : (around : Option ℕ) → owner ≡ around
        → RowsHold tables.answers (me_judged around at).rows
        → ExprOk tables number functions owner (self_code tables owner at) (me_judged owner at)
    by None is typed_rows = absurd typed_rows.0
    by (Some k) is typed_rows = record {
      ty = types.Named k;
      has = ap (λ one. type_in (me_types one)) is;
      typed = typed_rows.0;
      read = λ w of p knows.
          safe_weaker w p (read_self tables owner at) (ValueAfter w p (types.Named k))
          (λ x q. ValueAfter w p (types.Named k) x q × BodiesFit tables number functions [])
          (read_self_in tables number functions ground owner at k is w of p knows)
          (λ x q inside got. (got, no_bodies));
      write = λ settable. absurd (true≢false (sym settable));
    }
