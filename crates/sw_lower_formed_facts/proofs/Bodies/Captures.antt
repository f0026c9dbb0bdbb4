-- What a closure captures is safe, and has the kinds of what its function takes for it.
use Rattle.std.proofs.Common.{◌≡◌, ℕ, suc, inl, inr, List, [], ◌∷◌, length, ap, sym, ◌∙◌, subst}
use Rattle.std.proofs.Common.{refl, arith, Bool, true, false, true≢false, Option, None, Some}
use Rattle.std.proofs.lemmas.List.Elements.{All-cons, All-nil}
use Rattle.std.proofs.lemmas.Option.{slice_get_within, same_Some}
use Rattle.std.specs.Prelude.{All, if◌then◌else◌, map, slice_get}
use Rattle.std.specs.Option.{option_map_or}
use Rattle.sw_types.specs.declared.shape.Shape.{Shape}
use Rattle.sw_types.specs.declared.ty.Ty.{Ty}
use Rattle.sw_types.specs.declared.ty.Ty.TheVariants as types
use Rattle.sw_graph.specs.Kinds.{Each, Goes, IsCaptured, box_content, kinds_of}
use Rattle.sw_graph.specs.declared.function.Function.{Function}
use Rattle.sw_graph.specs.declared.function.RegKind.{RegKind}
use Rattle.sw_graph.specs.declared.function.RegKind.TheVariants.{BoxOf, Plain}
use Rattle.sw_graph.specs.declared.instr.Instr.{Instr}
use Rattle.sw_graph.specs.declared.instr.Instr.TheVariants.{LoadBox}
use Rattle.sw_graph.specs.declared.instr.Operand.{Operand}
use Rattle.sw_isolation_rules.specs.Captures.{is_among, self_of}
use Rattle.sw_isolation_rules.specs.declared.note.Capture.{Capture}
use Rattle.sw_lower_plans.specs.Plan.{Numbers}
use Rattle.sw_lower_plans.specs.declared.bound.Bound.{Bound}
use Rattle.sw_lower_code.specs.Code.{done, each, emit, reg, ◌>>=◌, ◌>>◌}
use Rattle.sw_lower_code.specs.declared.taken.Taken.{Taken}
use Rattle.sw_lower_rules.specs.Expressions.{capture_taken, captured_kind, captured_type}
use Rattle.sw_lower_rules.specs.Tables.{Tables, or_void}
use Rattle.sw_lower_rules.specs.Uses.{capture, capture_bound, listed_value, no_operand, operand}
use Rattle.sw_lower_rules.specs.Uses.{typed, unknown}
use Rattle.sw_lower_formed_facts.specs.Ground.{Ground, HasVarType, IsDeclaredIn, IsOfGraph, IsSeen, Knows}
use Rattle.sw_lower_formed_facts.specs.Ground.{kind_by}
use Rattle.sw_lower_formed_facts.specs.Safe.{Emitted, Follows, Keeps, MadeReg, Position, SafeAt, here}
use Rattle.sw_lower_formed_facts.specs.Taking.{AreHeld, IsHeld, TakenOk}
use Rattle.sw_lower_formed_facts.specs.Whole.{IsSet, Whole}
use Rattle.sw_lower_formed_facts.proofs.Positions.Asking.{seen_then, typed_then}
use Rattle.sw_lower_formed_facts.proofs.Positions.Following.{keeps_self, keeps_then, knows_still}
use Rattle.sw_lower_formed_facts.proofs.Positions.Steps.{safe_done, safe_known}
use Rattle.sw_lower_formed_facts.proofs.Positions.Then.{safe_then}
use Rattle.sw_lower_formed_facts.proofs.Positions.Using.{emit_in, reg_in, set_still}
use Rattle.sw_typing_facts.proofs.Types.Within.{named_within}

-- a box goes into a capture of its kind, and so does a value
captured_same : (by_ref : Bool) (ty : Ty)
    → IsCaptured (Some (kind_by by_ref ty)) (Some (kind_by by_ref ty))
captured_same true ty = refl
captured_same false ty = (refl, λ marked. marked)

module _ (tables : Tables) (number : Numbers) (functions : List Function)
    (ground : Ground tables number functions) where
  -- `self` is no node, so it has no type in the tables
  self_untyped : (owner : Option ℕ) (key : ℕ)
      → is_among (self_of tables.world owner) key ≡ true → tables.answers.type_at key ≡ None
  self_untyped None key is = cc
  self_untyped (Some k) key is = by (slice_get tables.world.shapes k) refl where
    by : (found : Option Shape) → slice_get tables.world.shapes k ≡ found
        → tables.answers.type_at key ≡ None
    by None found = absurd (true≢false (sym is ∙ rw found refl))
    by (Some shape) found =
        subst (λ n. tables.answers.type_at n ≡ None) (same (sym (rw found refl) ∙ is))
        (ground.selves k shape found) where
          same : is_among (shape.at ∷ []) key ≡ true → shape.at ≡ key
          same holds = grind (arith, holds)

  -- A variable that has a type in the tables has that type.
  pub var_typed : (owner : Option ℕ) (key : ℕ) (ty : Ty) → tables.answers.type_at key ≡ Some ty
      → HasVarType tables owner key ty
  var_typed owner key ty is = by (is_among (self_of tables.world owner) key) refl where
    by : (me : Bool) → is_among (self_of tables.world owner) key ≡ me
        → HasVarType tables owner key ty
    by true me = absurd (none (sym (self_untyped owner key me) ∙ is)) where
      none : None ≡ Some ty → ⊥
      none never = cc
    by false me = inr (me, is)

  -- and no other
  pub var_type_is : (owner : Option ℕ) (key : ℕ) (ty other : Ty) → HasVarType tables owner key ty
      → tables.answers.type_at key ≡ Some other → ty ≡ other
  var_type_is owner key ty other (inl me) is =
      absurd (none (sym (self_untyped owner key me.0) ∙ is))
    where
      none : None ≡ Some other → ⊥
      none never = cc
  var_type_is owner key ty other (inr has) is = same_Some ty other (sym has.1 ∙ is)

  -- The type of a variable is declared.
  pub var_declared : (owner : Option ℕ) (key : ℕ) (ty : Ty) → HasVarType tables owner key ty
      → IsDeclaredIn tables ty
  var_declared owner key ty (inr has) = ground.typed key ty has.1
  var_declared None key ty (inl me) = cc
  var_declared (Some k) key ty (inl me) =
      subst (IsDeclaredIn tables) (sym me.1) (by (slice_get tables.world.shapes k) refl) where
        by : (found : Option Shape) → slice_get tables.world.shapes k ≡ found
            → IsDeclaredIn tables (types.Named k)
        by None found = absurd (true≢false (sym me.0 ∙ rw found refl))
        by (Some shape) found =
            named_within (length tables.world.shapes) k
            (slice_get_within tables.world.shapes k shape found)

  -- It is the type that a closure takes for it.
  captured_type_is : (owner : Option ℕ) (key : ℕ) (ty : Ty) → HasVarType tables owner key ty
      → captured_type tables owner key ≡ ty
  captured_type_is owner key ty (inl me) =
      ap (λ mine. if mine then option_map_or types.Named owner types.Unit
      else or_void (tables.answers.type_at key)) me.0 ∙ sym me.1
  captured_type_is owner key ty (inr has) =
      ap (λ mine. if mine then option_map_or types.Named owner types.Unit
      else or_void (tables.answers.type_at key)) has.0 ∙ ap or_void has.1

  module _ (owner : Option ℕ) (w : Whole) (of : IsOfGraph tables functions w) where
    -- a register of the kind that is captured
    held_by : (q : Position) (one : Capture) (x : Operand) (ty : Ty)
        → HasVarType tables owner one.variable ty
        → slice_get w.regs x.reg ≡ Some (kind_by one.by_ref ty) → IsSet w q.writes (here q) x.reg
        → IsHeld tables owner w q one x
    held_by q one x ty typed kind set = record {
      kind = subst (λ at. IsCaptured at (Some (captured_kind tables owner one))) (sym kind)
          (subst (λ t. IsCaptured (Some (kind_by one.by_ref ty)) (Some (kind_by one.by_ref t)))
          (sym (captured_type_is owner one.variable ty typed)) (captured_same one.by_ref ty));
      set = set;
      taken = record {
        ty = ty;
        typed = typed;
        kind = ap (kind_by one.by_ref) (captured_type_is owner one.variable ty typed);
        declared = var_declared owner one.variable ty typed;
      };
    }

    -- what code that captures leaves
    abbrev Held : Position → Capture → Operand → Position → Type 0
    Held p one x q = IsHeld tables owner w q one x × Keeps w p q

    -- what is in a register or a box as it is captured
    as_it_is : (p : Position) (one : Capture) (bound : Bound) → IsSeen tables owner w p bound
        → bound.key ≡ one.variable → bound.boxed ≡ one.by_ref
        → SafeAt w p (done (operand bound.reg one.first)) (Held p one)
    as_it_is p one bound seen key same =
        safe_done w p (operand bound.reg one.first) (Held p one) (
          held_by p one (operand bound.reg one.first) seen.ty
              (subst (λ k. HasVarType tables owner k seen.ty) key seen.typed)
              (seen.kind ∙ ap (λ boxed. Some (kind_by boxed seen.ty)) same) seen.set,
          keeps_self w p,
        )

    -- the value in a box
    listed_in : (at : ℕ) (p : Position) (one : Capture) (bound : Bound)
        → IsSeen tables owner w p bound
        → bound.key ≡ one.variable → bound.boxed ≡ true → one.by_ref ≡ false
        → SafeAt w p (listed_value tables at one bound) (Held p one)
    listed_in at p one bound seen key boxed by_ref =
        typed_then tables w p bound.key
        (λ ty. reg (Plain ty)
        >>= λ r. emit (LoadBox at r (operand bound.reg one.first))
        >> done (operand r one.first))
        (Held p one) (λ ty is. loaded ty is) where
          box : slice_get w.regs bound.reg ≡ Some (BoxOf seen.ty)
          box = seen.kind ∙ ap (λ is. Some (kind_by is seen.ty)) boxed

          load : Ty → ℕ → Instr
          load ty r = LoadBox at r (operand bound.reg one.first)

          loads : (ty : Ty) (r : ℕ) → seen.ty ≡ ty → slice_get w.regs r ≡ Some (Plain ty)
              → Goes (box_content (slice_get w.regs bound.reg)) (slice_get w.regs r)
          loads ty r same kind =
              subst (λ at. Goes (box_content at) (slice_get w.regs r)) (sym box)
              (subst (Goes (Some (Plain seen.ty))) (sym kind)
              (subst (λ t. Goes (Some (Plain seen.ty)) (Some (Plain t))) same
              (refl, λ marked. marked)))

          variable_typed : HasVarType tables owner one.variable seen.ty
          variable_typed = subst (λ k. HasVarType tables owner k seen.ty) key seen.typed

          loaded : (ty : Ty) → tables.answers.type_at bound.key ≡ Some ty
              → SafeAt w p (reg (Plain ty)
              >>= λ r. emit (load ty r) >> done (operand r one.first)) (Held p one)
          loaded ty is =
              let same = var_type_is owner bound.key seen.ty ty seen.typed is in
              safe_then w p (reg (Plain ty)) (λ r. emit (load ty r) >> done (operand r one.first))
              (MadeReg w p (Plain ty)) (Held p one)
              (reg_in tables functions w of p (Plain ty) (ground.typed bound.key ty is))
              (λ r q in_q made.
              safe_then w q (emit (load ty r)) (λ _. done (operand r one.first))
              (λ _. Emitted w q (load ty r)) (Held p one)
              (emit_in tables functions w of q (load ty r) refl (loads ty r same made.kind)
              (set_still tables functions w of p q made.writes made.there (bound.reg ∷ [])
              (All-cons (IsSet w p.writes (here p)) bound.reg [] seen.set
              (All-nil (IsSet w p.writes (here p))))))
              (λ _ s in_s emitted.
              safe_done w s (operand r one.first) (Held p one) (
                held_by s one (operand r one.first) seen.ty variable_typed
                    (made.kind ∙ ap (λ t. Some (Plain t)) (sym same)
                    ∙ ap (λ by_value. Some (kind_by by_value seen.ty)) (sym by_ref))
                    (emitted.sets r refl),
                keeps_then w p q s made.keeps emitted.keeps,
              )))

    -- a variable that is captured
    capture_bound_in : (at : ℕ) (p : Position) (one : Capture) (bound : Bound)
        → IsSeen tables owner w p bound → bound.key ≡ one.variable
        → SafeAt w p (capture_bound tables at one bound) (Held p one)
    unfolding capture_bound unknown
    capture_bound_in at p one bound seen key = by one.by_ref bound.boxed refl refl where
      by : (by_ref boxed : Bool) → one.by_ref ≡ by_ref → bound.boxed ≡ boxed
          → SafeAt w p (if by_ref
          then (if boxed then done (operand bound.reg one.first) else unknown)
          else (if boxed then listed_value tables at one bound
          else done (operand bound.reg one.first))) (Held p one)
      by true true by_ref boxed = as_it_is p one bound seen key (boxed ∙ sym by_ref)
      by true false by_ref boxed = safe_known w p no_operand None (Held p one) (λ x is. cc)
      by false true by_ref boxed = listed_in at p one bound seen key boxed by_ref
      by false false by_ref boxed = as_it_is p one bound seen key (boxed ∙ sym by_ref)

    -- a capture
    capture_in : (at : ℕ) (p : Position) (one : Capture) → Knows tables owner number w p
        → SafeAt w p (capture tables at one) (Held p one)
    unfolding capture
    capture_in at p one knows =
        seen_then tables owner number w p one.variable (capture_bound tables at one) (Held p one)
        knows (λ bound seen key. capture_bound_in at p one bound seen key)

    -- what is captured stays as it is
    held_stays : (q s : Position) (one : Capture) (x : Operand) → Follows w q s
        → IsHeld tables owner w q one x → IsHeld tables owner w s one x
    held_stays q s one x follows held = record {
      kind = held.kind;
      set = follows.kept x.reg held.set;
      taken = held.taken;
    }

    -- The captures of a closure are safe.
    pub captures_in : (at : ℕ) (captures : List Capture) (p : Position)
        → Knows tables owner number w p
        → SafeAt w p (each (capture tables at) captures)
        (λ xs q. AreHeld tables owner w q captures xs × Keeps w p q)
    unfolding each
    captures_in at [] p knows =
        safe_done w p [] (λ xs q. AreHeld tables owner w q [] xs × Keeps w p q)
        (tt, keeps_self w p)
    captures_in at (one ∷ more) p knows =
        safe_then w p (capture tables at one)
        (λ y. each (capture tables at) more >>= λ ys. done (y ∷ ys)) (Held p one)
        (λ xs q. AreHeld tables owner w q (one ∷ more) xs × Keeps w p q)
        (capture_in at p one knows)
        (λ y q inside mid.
        safe_then w q (each (capture tables at) more) (λ ys. done (y ∷ ys))
        (λ ys s. AreHeld tables owner w s more ys × Keeps w q s)
        (λ xs s. AreHeld tables owner w s (one ∷ more) xs × Keeps w p s)
        (captures_in at more q (knows_still tables owner number w p q mid.1 knows))
        (λ ys s in_s rest.
        safe_done w s (y ∷ ys)
        (λ xs q. AreHeld tables owner w q (one ∷ more) xs × Keeps w p q) (
          (held_stays q s one y rest.1.follows mid.0, rest.0),
          keeps_then w p q s mid.1 rest.1,
        )))

-- the kinds that are taken for captures
abbrev pub kinds_for : Tables → Option ℕ → List Capture → List RegKind
kinds_for tables owner captures =
    map (λ (one : Taken). one.kind) (map (capture_taken tables owner) captures)

module _ (tables : Tables) (owner : Option ℕ) (w : Whole) (q : Position) where
  -- Each operand goes to what is taken for it.
  pub held_kinds : (captures : List Capture) (xs : List Operand)
      → AreHeld tables owner w q captures xs
      → Each IsCaptured (kinds_of w.regs xs) (kinds_for tables owner captures)
  held_kinds [] [] are = tt
  held_kinds [] (x ∷ xs) are = absurd are
  held_kinds (one ∷ more) [] are = absurd are
  held_kinds (one ∷ more) (x ∷ xs) are = (are.0.kind, held_kinds more xs are.1)

  -- Each operand has a value.
  pub held_set : (captures : List Capture) (xs : List Operand)
      → AreHeld tables owner w q captures xs
      → All (IsSet w q.writes (here q)) (map (λ (x : Operand). x.reg) xs)
  held_set [] [] are = All-nil (IsSet w q.writes (here q))
  held_set [] (x ∷ xs) are = absurd are
  held_set (one ∷ more) [] are = absurd are
  held_set (one ∷ more) (x ∷ xs) are =
      All-cons (IsSet w q.writes (here q)) x.reg (map (λ (y : Operand). y.reg) xs) are.0.set
      (held_set more xs are.1)

  -- What is taken for them has the types of the variables.
  pub held_takes : (captures : List Capture) (xs : List Operand)
      → AreHeld tables owner w q captures xs
      → All (TakenOk tables owner) (map (capture_taken tables owner) captures)
  held_takes [] [] are = All-nil (TakenOk tables owner)
  held_takes [] (x ∷ xs) are = absurd are
  held_takes (one ∷ more) [] are = absurd are
  held_takes (one ∷ more) (x ∷ xs) are =
      All-cons (TakenOk tables owner) (capture_taken tables owner one)
      (map (capture_taken tables owner) more) are.0.taken (held_takes more xs are.1)

  -- There is an operand for each capture.
  pub held_count : (captures : List Capture) (xs : List Operand)
      → AreHeld tables owner w q captures xs → length xs ≡ length captures
  held_count [] [] are = refl
  held_count [] (x ∷ xs) are = absurd are
  held_count (one ∷ more) [] are = absurd are
  held_count (one ∷ more) (x ∷ xs) are = ap suc (held_count more xs are.1)
