-- What is written to a property and to a global variable.
use Rattle.std.proofs.Common.{◌≡◌, ℕ, true, List, [], ◌∷◌, Option, Some, None, ap, sym, ◌∙◌, subst}
use Rattle.std.proofs.Common.{refl, arith, map}
use Rattle.std.proofs.lemmas.List.Elements.{All-cons, All-nil}
use Rattle.std.specs.Option.{option_map}
use Rattle.std.specs.Prelude.{slice_get}
use Rattle.std.proofs.lemmas.Option.{same_Some}
use Rattle.sw_types.specs.Accepts.{IsAcceptedAs}
use Rattle.sw_types.specs.declared.shape.Part.{Part}
use Rattle.sw_types.specs.declared.shape.Shape.{Shape}
use Rattle.sw_types.specs.declared.shape.ShapeKind.{ShapeKind}
use Rattle.sw_types.specs.declared.shape.ShapeKind.TheVariants as shapes
use Rattle.sw_types.specs.declared.ty.Ty.{Ty}
use Rattle.sw_types.specs.declared.ty.Ty.TheVariants as types
use Rattle.sw_graph.specs.Kinds.{is_cell, is_struct, part as part_kind, shape_of}
use Rattle.sw_graph.specs.declared.function.Function.{Function}
use Rattle.sw_graph.specs.declared.function.GlobalKind.{GlobalKind}
use Rattle.sw_graph.specs.declared.function.RegKind.TheVariants.{Plain}
use Rattle.sw_graph.specs.declared.instr.Instr.TheVariants as instr
use Rattle.sw_graph.specs.declared.instr.Operand.{Operand}
use Rattle.sw_decls.specs.declared.signature.GlobalVar.{GlobalVar}
use Rattle.sw_lower_plans.specs.Plan.{Numbers}
use Rattle.sw_lower_code.specs.Code.{Code, emit, known, reg, ◌>>=◌, ◌>>◌}
use Rattle.sw_lower_rules.specs.Bodies.{global_kind}
use Rattle.sw_lower_rules.specs.Carriers.{ExprCode}
use Rattle.sw_lower_rules.specs.Expressions.{set_part, write_part}
use Rattle.sw_lower_rules.specs.Tables.{Tables}
use Rattle.sw_lower_rules.specs.Uses.{no_shape, operand, shape_at}
use Rattle.sw_lower_formed_facts.specs.Forms.{BodiesFit, Wherever}
use Rattle.sw_lower_formed_facts.specs.Ground.{Ground}
use Rattle.sw_lower_formed_facts.specs.Safe.{Emitted, IsValue, Keeps, MadeReg, Position, SafeAt, ValueAfter}
use Rattle.sw_lower_formed_facts.specs.Safe.{here}
use Rattle.sw_lower_formed_facts.specs.Whole.{IsSet, Whole}
use Rattle.sw_lower_formed_facts.proofs.Positions.Asking.{known_then}
use Rattle.sw_lower_formed_facts.proofs.Positions.Following.{keeps_then, knows_still}
use Rattle.sw_lower_formed_facts.proofs.Positions.Steps.{safe_known}
use Rattle.sw_lower_formed_facts.proofs.Positions.Then.{safe_then, safe_weaker}
use Rattle.sw_lower_formed_facts.proofs.Positions.Using.{emit_in, emit_keeps, reg_in}
use Rattle.sw_lower_formed_facts.proofs.Types.Going.{global_kind_by, goes_by, goes_same, part_kind_by}
use Rattle.sw_typing_facts.proofs.Types.Within.{shape_within}

-- No run assigns to what isn't known.
pub unwritten_in : (w : Whole) (p : Position) (Post : Unit {0} → Position → Type 0)
    → SafeAt w p (known tt None) Post
unwritten_in w p Post = safe_known w p tt None Post (λ x is. absurd (no x is)) where
  no : (x : Unit {0}) → None ≡ Some x → ⊥
  no x is = cc

module _ (tables : Tables) (number : Numbers) (functions : List Function)
    (ground : Ground tables number functions) (owner : Option ℕ) where
  -- a base of which a property is written: it is read, and a struct's value is written back
  pub record BaseOk (k : ℕ) (shape : Shape) (base : ExprCode) : Type 0 where
    pub read : Wherever tables number functions owner (λ w p. SafeAt w p base.read
        (λ x q. ValueAfter w p (types.Named k) x q × BodiesFit tables number functions base.inside))
    pub write : is_struct shape.kind ≡ true → Wherever tables number functions owner
        (λ w p. (x : Operand) → IsValue w p (types.Named k) x
        → SafeAt w p (base.write x) (λ _ q. Keeps w p q))

  -- what is known after an assignment
  abbrev pub WrittenTo : ExprCode → Whole → Position → Unit {0} → Position → Type 0
  WrittenTo base w p _ q = Keeps w p q × BodiesFit tables number functions base.inside

  -- a property of a cell
  store_part : (at k i : ℕ) (shape : Shape) (part : Part) (base : ExprCode)
      → slice_get tables.world.shapes k ≡ Some shape → slice_get shape.parts i ≡ Some part
      → is_cell shape.kind ≡ true → BaseOk k shape base → Wherever tables number functions owner
      (λ w p. (from : Ty) (given : Operand) → IsValue w p from given → IsAcceptedAs from part.ty
      → SafeAt w p (base.read >>= λ cell. emit (instr.StoreProp at cell i given))
      (WrittenTo base w p))
  store_part at k i shape part base shape_is part_is cell_is ok w of p knows from given value
      accepts =
      safe_then w p base.read (λ cell. emit (instr.StoreProp at cell i given))
      (λ x q. ValueAfter w p (types.Named k) x q × BodiesFit tables number functions base.inside)
      (WrittenTo base w p)
      (ok.read w of p knows)
      (λ cell q inside mid.
      safe_weaker w q (emit (instr.StoreProp at cell i given)) (λ _ s. Keeps w q s)
      (WrittenTo base w p)
      (emit_keeps tables functions w of q (instr.StoreProp at cell i given) refl
      (goes_by (slice_get w.regs given.reg)
      (part_kind (shape_of tables.world.shapes is_cell (slice_get w.regs cell.reg)) i) from part.ty
      value.kind
      (part_kind_by tables.world.shapes is_cell k i shape part (slice_get w.regs cell.reg)
      mid.0.0.kind shape_is cell_is part_is) accepts)
      (All-cons (IsSet w q.writes (here q)) cell.reg (given.reg ∷ []) mid.0.0.set
      (All-cons (IsSet w q.writes (here q)) given.reg []
      (mid.0.1.follows.kept given.reg value.set)
      (All-nil (IsSet w q.writes (here q))))))
      (λ _ s in_s keeps. (keeps_then w p q s mid.0.1 keeps, mid.1)))

  -- a property of a struct's value, which is written back
  set_field : (at k i : ℕ) (shape : Shape) (part : Part) (base : ExprCode)
      → slice_get tables.world.shapes k ≡ Some shape → slice_get shape.parts i ≡ Some part
      → is_struct shape.kind ≡ true → BaseOk k shape base → Wherever tables number functions owner
      (λ w p. (from : Ty) (given : Operand) → IsValue w p from given → IsAcceptedAs from part.ty
      → SafeAt w p (set_part tables owner shapes.Struct at k i base given) (WrittenTo base w p))
  set_field at k i shape part base shape_is part_is struct_is ok w of p knows from given value
      accepts =
      safe_then w p base.read copy_of
      (λ x q. ValueAfter w p (types.Named k) x q × BodiesFit tables number functions base.inside)
      (WrittenTo base w p)
      (ok.read w of p knows)
      (λ old q inside mid.
      safe_then w q (reg (Plain (types.Named k))) (changed_in old)
      (MadeReg w q (Plain (types.Named k))) (WrittenTo base w p)
      (reg_in tables functions w of q (Plain (types.Named k))
      (shape_within tables.world.shapes k shape shape_is))
      (λ r s in_s made.
      safe_then w s (emit (instr.Copy at r old)) (λ _. set_in r)
      (λ _. Emitted w s (instr.Copy at r old)) (WrittenTo base w p)
      (emit_in tables functions w of s (instr.Copy at r old) refl
      (goes_same (slice_get w.regs old.reg) (slice_get w.regs r) (types.Named k) mid.0.0.kind
      made.kind)
      (All-cons (IsSet w s.writes (here s)) old.reg []
      (made.keeps.follows.kept old.reg mid.0.0.set) (All-nil (IsSet w s.writes (here s)))))
      (λ _ t in_t copied.
      let before = keeps_then w p s t (keeps_then w p q s mid.0.1 made.keeps) copied.keeps in
      safe_then w t (emit (instr.SetField at (operand r base.key) i given))
      (λ _. base.write (operand r base.key))
      (λ _. Emitted w t (instr.SetField at (operand r base.key) i given))
      (WrittenTo base w p)
      (emit_in tables functions w of t (instr.SetField at (operand r base.key) i given) refl
      (goes_by (slice_get w.regs given.reg)
      (part_kind (shape_of tables.world.shapes is_struct (slice_get w.regs r)) i) from part.ty
      value.kind
      (part_kind_by tables.world.shapes is_struct k i shape part (slice_get w.regs r) made.kind
      shape_is struct_is part_is) accepts)
      (All-cons (IsSet w t.writes (here t)) r (given.reg ∷ []) (copied.sets r refl)
      (All-cons (IsSet w t.writes (here t)) given.reg []
      (before.follows.kept given.reg value.set)
      (All-nil (IsSet w t.writes (here t))))))
      (λ _ u in_u changed.
      let all = keeps_then w p t u before changed.keeps in
      safe_weaker w u (base.write (operand r base.key)) (λ _ v. Keeps w u v)
      (WrittenTo base w p)
      (ok.write struct_is w of u (knows_still tables owner number w p u all knows)
      (operand r base.key)
      (record {
        kind = made.kind;
        set = changed.keeps.follows.kept r (copied.sets r refl);
        made = omega (
          arith,
          made.below,
          copied.keeps.follows.regs,
          changed.keeps.follows.regs,
        );
      }))
      (λ _ v in_v keeps. (keeps_then w p u v all keeps, mid.1)))))) where
        set_in : ℕ → Code (Unit {0})
        set_in r =
            emit (instr.SetField at (operand r base.key) i given)
            >> base.write (operand r base.key)

        changed_in : Operand → ℕ → Code (Unit {0})
        changed_in old r = emit (instr.Copy at r old) >> set_in r

        copy_of : Operand → Code (Unit {0})
        copy_of old = reg (Plain (types.Named k)) >>= changed_in old

  -- the property with a number
  pub write_part_in : (at k i : ℕ) (shape : Shape) (part : Part) (base : ExprCode)
      → slice_get tables.world.shapes k ≡ Some shape → slice_get shape.parts i ≡ Some part
      → BaseOk k shape base → Wherever tables number functions owner
      (λ w p. (from : Ty) (given : Operand) → IsValue w p from given → IsAcceptedAs from part.ty
      → SafeAt w p (write_part tables owner at k i base given) (WrittenTo base w p))
  unfolding write_part shape_at
  write_part_in at k i shape part base shape_is part_is ok w of p knows from given value accepts =
      known_then w p no_shape (slice_get tables.world.shapes k)
      (λ s. set_part tables owner s.kind at k i base given) (WrittenTo base w p)
      (λ s s_is. subst (λ (one : Shape). SafeAt w p
      (set_part tables owner one.kind at k i base given) (WrittenTo base w p))
      (same_Some shape s (sym shape_is ∙ s_is)) (by shape.kind refl)) where
        by : (kind : ShapeKind) → shape.kind ≡ kind
            → SafeAt w p (set_part tables owner kind at k i base given) (WrittenTo base w p)
        by shapes.Struct is =
            set_field at k i shape part base shape_is part_is (ap is_struct is) ok w of p knows from
            given value accepts
        by shapes.Enum is = unwritten_in w p (WrittenTo base w p)
        by shapes.Class is =
            store_part at k i shape part base shape_is part_is (ap is_cell is) ok w of p knows from
            given value accepts
        by shapes.Actor is =
            store_part at k i shape part base shape_is part_is (ap is_cell is) ok w of p knows from
            given value accepts

  -- a global variable
  pub write_global_in : (at g : ℕ) (global : GlobalVar)
      → slice_get tables.world.globals g ≡ Some global → Wherever tables number functions owner
      (λ w p. (from : Ty) (given : Operand) → IsValue w p from given → IsAcceptedAs from global.ty
      → SafeAt w p (emit (instr.StoreGlobal at g given)) (λ _ q. Keeps w p q))
  write_global_in at g global at_is w of p knows from given value accepts =
      emit_keeps tables functions w of p (instr.StoreGlobal at g given) refl
      (goes_by (slice_get w.regs given.reg) (option_map (λ (kind : GlobalKind). Plain kind.ty)
      (slice_get (map global_kind tables.world.globals) g)) from global.ty value.kind
      (global_kind_by tables.world.globals g global at_is) accepts)
      (All-cons (IsSet w p.writes (here p)) given.reg [] value.set
      (All-nil (IsSet w p.writes (here p))))
