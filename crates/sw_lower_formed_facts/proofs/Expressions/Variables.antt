-- What is read of a variable that is seen, and what is written to it.
use Rattle.std.proofs.Common.{◌≡◌, ℕ, ◌==◌, ◌||◌, inl, inr, Bool, true, false, List, [], ◌∷◌}
use Rattle.std.proofs.Common.{Option, Some, None, ap, sym, ◌∙◌, subst, refl, arith, true≢false}
use Rattle.std.proofs.lemmas.List.Elements.{All-cons, All-nil}
use Rattle.std.specs.Option.{option_map, option_map_or}
use Rattle.std.specs.Prelude.{slice_get, if◌then◌else◌}
use Rattle.sw_types.specs.Accepts.{IsAcceptedAs}
use Rattle.sw_types.specs.declared.shape.Shape.{Shape}
use Rattle.sw_types.specs.declared.ty.Ty.{Ty}
use Rattle.sw_types.specs.declared.ty.Ty.TheVariants as types
use Rattle.sw_graph.specs.Kinds.{box_content}
use Rattle.sw_graph.specs.declared.function.Function.{Function}
use Rattle.sw_graph.specs.declared.function.RegKind.TheVariants.{BoxOf}
use Rattle.sw_graph.specs.declared.instr.Instr.TheVariants as instr
use Rattle.sw_graph.specs.declared.instr.Operand.{Operand}
use Rattle.sw_typing_rules.specs.Worlds.{World, item}
use Rattle.sw_isolation_rules.specs.Answers.{for_some}
use Rattle.sw_isolation_rules.specs.Captures.{is_among, self_of}
use Rattle.sw_lower_plans.specs.Plan.{Numbers}
use Rattle.sw_lower_plans.specs.declared.bound.Bound.{Bound}
use Rattle.sw_lower_code.specs.Code.{done, emit}
use Rattle.sw_lower_rules.specs.Tables.{Tables}
use Rattle.sw_lower_rules.specs.Uses.{from_box, give, operand, read_bound, read_self, read_var}
use Rattle.sw_lower_rules.specs.Uses.{self_key, typed, write_bound, write_var}
use Rattle.sw_lower_formed_facts.specs.Forms.{Wherever}
use Rattle.sw_lower_formed_facts.specs.Ground.{Ground, HasVarType, IsOfGraph, IsSeen, Knows, kind_by}
use Rattle.sw_lower_formed_facts.specs.Safe.{IsValue, Keeps, Position, SafeAt, ValueAfter, here}
use Rattle.sw_lower_formed_facts.specs.Whole.{IsSet, Whole}
use Rattle.sw_typing_facts.proofs.Lists.Found.{mapped}
use Rattle.sw_lower_formed_facts.proofs.Bodies.SeenBy.{seen_by}
use Rattle.sw_lower_formed_facts.proofs.Positions.Asking.{known_then, var_then}
use Rattle.sw_lower_formed_facts.proofs.Positions.Following.{keeps_self}
use Rattle.sw_lower_formed_facts.proofs.Positions.Steps.{safe_done}
use Rattle.sw_lower_formed_facts.proofs.Positions.Using.{emit_keeps, give_in}
use Rattle.sw_lower_formed_facts.proofs.Types.Going.{box_holds, goes_by, goes_same}

-- the shape around, whose declaration is the word of `self`
pub record IsSelf (world : World) (owner : Option ℕ) (key : ℕ) : Type 0 where
  pub number : ℕ
  pub shape : Shape
  pub owner_is : owner ≡ Some number
  pub at : slice_get world.shapes number ≡ Some shape
  pub word : shape.at ≡ key

-- A key that `self` has is the word of the shape around.
pub self_is : (world : World) (owner : Option ℕ) (key : ℕ)
    → is_among (self_of world owner) key ≡ true → IsSelf world owner key
self_is world None key among = cc
self_is world (Some k) key among = by (slice_get world.shapes k) refl among where
  by : (found : Option Shape) → slice_get world.shapes k ≡ found
      → is_among (for_some found (λ (shape : Shape). shape.at ∷ [])) key ≡ true
      → IsSelf world (Some k) key
  by None at among = cc
  by (Some shape) at among = record {
    number = k;
    shape = shape;
    owner_is = refl;
    at = at;
    word = grind (arith, among);
  }

-- and the word of the shape around is the key of `self`
pub self_among : (world : World) (k : ℕ) (shape : Shape) → slice_get world.shapes k ≡ Some shape
    → is_among (self_of world (Some k)) shape.at ≡ true
self_among world k shape at =
    ap (λ found. is_among (for_some found (λ (s : Shape). s.at ∷ [])) shape.at) at
    ∙ same shape.at where
      same : (key : ℕ) → ((key == key) || false) ≡ true
      same key = grind arith

module _ (tables : Tables) (number : Numbers) (functions : List Function)
    (ground : Ground tables number functions) (owner : Option ℕ) where
  -- The node of a variable has the type of the variable.
  pub type_seen : (key : ℕ) (ty other : Ty) → HasVarType tables owner key ty
      → tables.answers.type_at key ≡ Some other → ty ≡ other
  type_seen key ty other (inl self) typed_is =
      let is = self_is tables.world owner key self.0 in
      absurd (no (sym (ground.selves is.number is.shape is.at)
      ∙ ap tables.answers.type_at is.word ∙ typed_is)) where
        no : None ≡ Some other → ⊥
        no is = cc
  type_seen key ty other (inr local) typed_is = some (sym local.1 ∙ typed_is) where
    some : Some ty ≡ Some other → ty ≡ other
    some is = cc

  -- `self` has the type around.
  pub self_seen : (k : ℕ) (shape : Shape) (key : ℕ) (ty : Ty) → owner ≡ Some k
      → slice_get tables.world.shapes k ≡ Some shape → shape.at ≡ key
      → HasVarType tables owner key ty → ty ≡ types.Named k
  self_seen k shape key ty owner_is at word (inl self) =
      self.1 ∙ ap (λ o. option_map_or types.Named o types.Unit) owner_is
  self_seen k shape key ty owner_is at word (inr local) =
      absurd (true≢false (sym (self_among tables.world k shape at)
      ∙ ap (λ o. is_among (self_of tables.world o) shape.at) (sym owner_is)
      ∙ ap (is_among (self_of tables.world owner)) word ∙ local.0))

  -- A variable's value, in its register or in its box.
  pub read_bound_in : (w : Whole) → IsOfGraph tables functions w → (p : Position) (at : ℕ)
      (bound : Bound) (seen : IsSeen tables owner w p bound)
      → SafeAt w p (read_bound tables at bound) (ValueAfter w p seen.ty)
  unfolding read_bound typed
  read_bound_in w of p at bound seen = by bound.boxed seen.kind where
    by : (boxed : Bool) → slice_get w.regs bound.reg ≡ Some (kind_by boxed seen.ty)
        → SafeAt w p
        (if boxed then from_box tables at bound else done (operand bound.reg at))
        (ValueAfter w p seen.ty)
    by true kind =
        known_then w p types.Unit (tables.answers.type_at bound.key)
        (λ ty. give at ty (λ r. instr.LoadBox at r (operand bound.reg at))) (ValueAfter w p seen.ty)
        (λ ty is. subst (λ one. SafeAt w p
        (give at ty (λ r. instr.LoadBox at r (operand bound.reg at))) (ValueAfter w p one))
        (sym (type_seen bound.key seen.ty ty seen.typed is))
        (give_in tables functions w of p at ty
        (λ r. instr.LoadBox at r (operand bound.reg at))
        (ground.typed bound.key ty is)
        (λ r. refl)
        (λ r r_is. goes_same (box_content (slice_get w.regs bound.reg)) (slice_get w.regs r) ty
        (box_holds (slice_get w.regs bound.reg) ty
        (subst (λ one. slice_get w.regs bound.reg ≡ Some (BoxOf one))
        (type_seen bound.key seen.ty ty seen.typed is) kind)) r_is)
        (λ r. All-cons (IsSet w p.writes (here p)) bound.reg [] seen.set
        (All-nil (IsSet w p.writes (here p))))
        (λ r. refl)))
    by false kind = safe_done w p (operand bound.reg at) (ValueAfter w p seen.ty)
        (record { kind = kind; set = seen.set; made = seen.made }, keeps_self w p)

  -- the variable with a key, of which the type is known
  pub read_var_in : (w : Whole) → IsOfGraph tables functions w → (p : Position)
      → Knows tables owner number w p → (at key : ℕ) (ty : Ty)
      → ((other : Ty) → HasVarType tables owner key other → other ≡ ty)
      → SafeAt w p (read_var tables at key) (ValueAfter w p ty)
  unfolding read_var
  read_var_in w of p knows at key ty is =
      var_then w p key (read_bound tables at) (ValueAfter w p ty)
      (λ bound found_is.
      let found = seen_by (IsSeen tables owner w p) key p.making.vars bound knows.vars found_is in
      subst (λ one. SafeAt w p (read_bound tables at bound) (ValueAfter w p one))
      (is found.0.ty (subst (λ k. HasVarType tables owner k found.0.ty) found.1 found.0.typed))
      (read_bound_in w of p at bound found.0))

  -- the variable whose node has a type
  pub read_typed : (at key : ℕ) (ty : Ty) → tables.answers.type_at key ≡ Some ty
      → Wherever tables number functions owner
      (λ w p. SafeAt w p (read_var tables at key) (ValueAfter w p ty))
  read_typed at key ty typed_is w of p knows =
      read_var_in w of p knows at key ty (λ other has. type_seen key other ty has typed_is)

  -- `self`
  pub read_self_in : (at k : ℕ) → owner ≡ Some k → Wherever tables number functions owner
      (λ w p. SafeAt w p (read_self tables owner at) (ValueAfter w p (types.Named k)))
  unfolding read_self self_key
  read_self_in at k owner_is w of p knows =
      known_then w p 0 (option_map word_of (item owner tables.world.shapes)) (read_var tables at)
      (ValueAfter w p (types.Named k))
      (λ key is.
      let me = mapped word_of (item owner tables.world.shapes) key is in
      read_var_in w of p knows at key (types.Named k)
      (λ other. self_seen k me.0 key other owner_is
      (ap (λ o. item o tables.world.shapes) (sym owner_is) ∙ me.1) me.2)) where
        word_of : Shape → ℕ
        word_of shape = shape.at

  -- A value goes into the variable, into its register or its box.
  pub write_bound_in : (w : Whole) → IsOfGraph tables functions w → (p : Position) (at : ℕ)
      (bound : Bound) (seen : IsSeen tables owner w p bound) (from : Ty) (given : Operand)
      → IsValue w p from given → IsAcceptedAs from seen.ty
      → SafeAt w p (write_bound at given bound) (λ _ q. Keeps w p q)
  unfolding write_bound
  write_bound_in w of p at bound seen from given value accepts = by bound.boxed seen.kind where
    by : (boxed : Bool) → slice_get w.regs bound.reg ≡ Some (kind_by boxed seen.ty)
        → SafeAt w p
        (if boxed then emit (instr.StoreBox at (operand bound.reg at) given)
        else emit (instr.Copy at bound.reg given)) (λ _ q. Keeps w p q)
    by true kind =
        emit_keeps tables functions w of p (instr.StoreBox at (operand bound.reg at) given) refl
        (goes_by (slice_get w.regs given.reg) (box_content (slice_get w.regs bound.reg)) from
        seen.ty
        value.kind (box_holds (slice_get w.regs bound.reg) seen.ty kind) accepts)
        (All-cons (IsSet w p.writes (here p)) bound.reg (given.reg ∷ []) seen.set
        (All-cons (IsSet w p.writes (here p)) given.reg [] value.set
        (All-nil (IsSet w p.writes (here p)))))
    by false kind =
        emit_keeps tables functions w of p (instr.Copy at bound.reg given) refl
        (goes_by (slice_get w.regs given.reg) (slice_get w.regs bound.reg) from seen.ty value.kind
        kind accepts)
        (All-cons (IsSet w p.writes (here p)) given.reg [] value.set
        (All-nil (IsSet w p.writes (here p))))

  -- a value that goes into the variable whose node has a type
  pub write_typed : (at key : ℕ) (ty : Ty) → tables.answers.type_at key ≡ Some ty
      → Wherever tables number functions owner (λ w p. (from : Ty) (given : Operand)
      → IsValue w p from given → IsAcceptedAs from ty
      → SafeAt w p (write_var tables at key given) (λ _ q. Keeps w p q))
  unfolding write_var
  write_typed at key ty typed_is w of p knows from given value accepts =
      var_then w p key (write_bound at given) (λ _ q. Keeps w p q)
      (λ bound found_is.
      let found = seen_by (IsSeen tables owner w p) key p.making.vars bound knows.vars found_is in
      let ty_is = type_seen key found.0.ty ty
      (subst (λ k. HasVarType tables owner k found.0.ty) found.1 found.0.typed) typed_is in
      write_bound_in w of p at bound found.0 from given value
      (subst (IsAcceptedAs from) (sym ty_is) accepts))
