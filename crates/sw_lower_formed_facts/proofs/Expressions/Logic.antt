-- `&&` and `||`: the right value is looked at in a block of its own.
use Rattle.std.proofs.Common.{◌≡◌, ℕ, zero, suc, inl, inr, List, [], ◌∷◌, Option, Some, refl, sym}
use Rattle.std.proofs.Common.{subst, arith}
use Rattle.std.specs.Prelude.{All, slice_get, ◌⊎◌}
use Rattle.std.proofs.lemmas.Option.{none-some, same_Some}
use Rattle.sw_types.specs.declared.ty.Ty.{Ty}
use Rattle.sw_types.specs.declared.ty.Ty.TheVariants as types
use Rattle.sw_graph.specs.Mentions.{blocks_of, last_registers}
use Rattle.sw_graph.specs.declared.function.Function.{Function}
use Rattle.sw_graph.specs.declared.function.RegKind.TheVariants.{Plain}
use Rattle.sw_graph.specs.declared.instr.Instr.TheVariants as instr
use Rattle.sw_graph.specs.declared.instr.Last.{Last}
use Rattle.sw_graph.specs.declared.instr.Last.TheVariants as last
use Rattle.sw_graph.specs.declared.instr.Operand.{Operand}
use Rattle.sw_lower_plans.specs.Plan.{Anywhere, Numbers}
use Rattle.sw_lower_code.specs.Code.{Code, close, done, emit, reg, resume, ◌>>=◌, ◌>>◌}
use Rattle.sw_lower_code.specs.Whole.{Body}
use Rattle.sw_lower_rules.specs.Expressions.{block_made, both, copied, either, jump, right_in}
use Rattle.sw_lower_rules.specs.Tables.{Tables}
use Rattle.sw_lower_rules.specs.Uses.{operand}
use Rattle.sw_lower_formed_facts.specs.Fitting.{LeadsOk}
use Rattle.sw_lower_formed_facts.specs.Forms.{BodiesFit, IsTarget}
use Rattle.sw_lower_formed_facts.specs.Ground.{IsDeclaredIn, IsOfGraph, Knows}
use Rattle.sw_lower_formed_facts.specs.Safe.{MadeLast, Emitted, IsIn, IsValue, Keeps, MadeReg, Position}
use Rattle.sw_lower_formed_facts.specs.Safe.{SafeAt, ValueAfter, here}
use Rattle.sw_lower_formed_facts.specs.Whole.{IsSet, Whole}
use Rattle.sw_lower_formed_facts.proofs.Expressions.Values.{After, CodeGives}
use Rattle.sw_lower_formed_facts.proofs.Positions.Entering.{MadeAt, block_then, grown_keeps, jump_then}
use Rattle.sw_lower_formed_facts.proofs.Positions.Entering.{leads_to, made_target, resume_then}
use Rattle.sw_lower_formed_facts.proofs.Positions.Following.{keeps_self, keeps_then, knows_still}
use Rattle.sw_lower_formed_facts.proofs.Positions.Following.{value_stays}
use Rattle.sw_lower_formed_facts.proofs.Positions.Steps.{safe_done}
use Rattle.sw_lower_formed_facts.proofs.Positions.Then.{safe_then, safe_weaker}
use Rattle.sw_lower_formed_facts.proofs.Positions.Using.{Fits, LastFits, close_in, emit_in, reads_one}
use Rattle.sw_lower_formed_facts.proofs.Positions.Using.{reg_in, set_still}
use Rattle.sw_lower_formed_facts.proofs.Types.Going.{goes_same}

module _ (tables : Tables) (number : Numbers) (functions : List Function) where
  -- A copy goes from a register into another of the same type.
  copy_fits : (w : Whole) (of : IsOfGraph tables functions w) (ty : Ty) (at r : ℕ) (x : Operand)
      → slice_get w.regs x.reg ≡ Some (Plain ty) → slice_get w.regs r ≡ Some (Plain ty)
      → Fits tables functions w of (instr.Copy at r x)
  copy_fits w of ty at r x from to =
      goes_same (slice_get w.regs x.reg) (slice_get w.regs r) ty from to

  -- The right value goes into the register of the left one.
  after_right : (w : Whole) (of : IsOfGraph tables functions w) (at r merge : ℕ) (q x : Position)
      (other : Operand) (inside : List Body) → IsValue w q types.Bool (operand r at) → IsIn w q
      → MadeAt w q Anywhere merge → Keeps w q x → IsValue w x types.Bool other
      → BodiesFit tables number functions inside
      → SafeAt w x (emit (instr.Copy at r other) >> jump merge >> resume merge
      >> done (operand r at)) (After tables number functions w q types.Bool inside)
  after_right w of at r merge q x other inside value in_q made keeps given fit =
      safe_then w x (emit (instr.Copy at r other))
      (λ _. jump merge >> resume merge >> done (operand r at))
      (λ _. Emitted w x (instr.Copy at r other))
      (After tables number functions w q types.Bool inside)
      (emit_in tables functions w of x (instr.Copy at r other) refl
      (copy_fits w of types.Bool at r other given.kind value.kind)
      (reads_one w x.writes (here x) other.reg given.set))
      (λ _ y in_y emitted.
      let keeps_y = keeps_then w q x y keeps emitted.keeps in
      jump_then tables functions w of y merge (resume merge >> done (operand r at))
      (After tables number functions w q types.Bool inside)
      (made_target w q y merge made keeps_y.follows)
      (λ z in_z keeps_z.
      resume_then w q z Anywhere merge (done (operand r at))
      (After tables number functions w q types.Bool inside) in_q made
      (grown_keeps w q z (keeps_then w q y z keeps_y keeps_z))
      (λ a in_a keeps_a there.
      safe_done w a (operand r at) (After tables number functions w q types.Bool inside) (
        (value_stays w q a types.Bool (operand r at) keeps_a.follows value, keeps_a),
        fit,
      ))))

  -- the left value in a register of its own
  copied_in : (w : Whole) (of : IsOfGraph tables functions w) (p : Position) (at : ℕ)
      (left : Operand)
      → IsDeclaredIn tables types.Bool → IsValue w p types.Bool left
      → SafeAt w p (copied at left) (λ r q. ValueAfter w p types.Bool (operand r at) q)
  copied_in w of p at left within value =
      safe_then w p (reg (Plain types.Bool)) (λ r. emit (instr.Copy at r left) >> done r)
      (MadeReg w p (Plain types.Bool)) (λ r q. ValueAfter w p types.Bool (operand r at) q)
      (reg_in tables functions w of p (Plain types.Bool) within)
      (λ r q in_q made.
      safe_then w q (emit (instr.Copy at r left)) (λ _. done r)
      (λ _. Emitted w q (instr.Copy at r left))
      (λ r q. ValueAfter w p types.Bool (operand r at) q)
      (emit_in tables functions w of q (instr.Copy at r left) refl
      (copy_fits w of types.Bool at r left value.kind made.kind)
      (set_still tables functions w of p q made.writes made.there (left.reg ∷ [])
      (reads_one w p.writes (here p) left.reg value.set)))
      (λ _ s in_s emitted.
      safe_done w s r (λ r q. ValueAfter w p types.Bool (operand r at) q) (
        record {
          kind = made.kind;
          set = emitted.sets r refl;
          made = omega (arith, made.below, emitted.keeps.follows.regs);
        },
        keeps_then w p q s made.keeps emitted.keeps,
      )))

  -- the block of the right value
  right_safe : (owner : Option ℕ) (right : Code Operand) (inside : List Body) (w : Whole)
      (of : IsOfGraph tables functions w) (at r own merge : ℕ) (q t : Position)
      → Knows tables owner number w q → IsValue w q types.Bool (operand r at) → IsIn w q
      → MadeAt w q Anywhere own → MadeAt w q Anywhere merge → Keeps w q t
      → CodeGives tables number functions owner right types.Bool inside
      → SafeAt w t (right_in at r right own merge)
      (After tables number functions w q types.Bool inside)
  right_safe owner right inside w of at r own merge q t knows value in_q own_made merge_made kept
      safe =
      resume_then w q t Anywhere own
      (right >>= λ other. emit (instr.Copy at r other) >> jump merge >> resume merge
      >> done (operand r at))
      (After tables number functions w q types.Bool inside) in_q own_made (grown_keeps w q t kept)
      (λ v in_v keeps there.
      safe_then w v right
      (λ other. emit (instr.Copy at r other) >> jump merge >> resume merge
      >> done (operand r at))
      (After tables number functions w v types.Bool inside)
      (After tables number functions w q types.Bool inside)
      (safe w of v (knows_still tables owner number w q v keeps knows))
      (λ other x in_x after.
      after_right w of at r merge q x other inside value in_q merge_made
      (keeps_then w q v x keeps after.0.1) after.0.0 after.1))

  -- The block that goes on leads to the two that were made where it stands.
  leads : (w : Whole) (of : IsOfGraph tables functions w) (q : Position) (last : Last)
      (own merge : ℕ)
      → IsTarget w q own → IsTarget w q merge
      → ((k to : ℕ) → slice_get (blocks_of last) k ≡ Some to → (to ≡ own) ⊎ (to ≡ merge))
      → (k to : ℕ) → slice_get (blocks_of last) k ≡ Some to → LeadsOk w (here q) last k to
  leads w of q last own merge own_target merge_target ways k to found =
      leads_to tables functions w of q last k to (by (ways k to found)) where
        by : (to ≡ own) ⊎ (to ≡ merge) → IsTarget w q to
        by (inl is) = subst (IsTarget w q) (sym is) own_target
        by (inr is) = subst (IsTarget w q) (sym is) merge_target

  -- `&&` and `||`, by where the left value leads
  abbrev split_code : ℕ → Code Operand → Operand → (ℕ → ℕ → Last) → Code Operand
  split_code at right left split = copied at left
      >>= λ r. block_made
      >>= λ own. block_made
      >>= λ merge. close (split own merge) >> right_in at r right own merge

  split_safe : (owner : Option ℕ) (right : Code Operand) (inside : List Body) (w : Whole)
      (of : IsOfGraph tables functions w) (p : Position) (at : ℕ) (left : Operand)
      (split : ℕ → ℕ → Last)
      → ((own merge : ℕ) → LastFits tables functions w of (split own merge))
      → ((own merge : ℕ) → last_registers (split own merge) ≡ left.reg ∷ [])
      → ((own merge k to : ℕ) → slice_get (blocks_of (split own merge)) k ≡ Some to
      → (to ≡ own) ⊎ (to ≡ merge))
      → Knows tables owner number w p → IsDeclaredIn tables types.Bool
      → IsValue w p types.Bool left
      → CodeGives tables number functions owner right types.Bool inside
      → SafeAt w p (split_code at right left split)
      (After tables number functions w p types.Bool inside)
  split_safe owner right inside w of p at left split fits reads_it ways knows within value safe =
      safe_then w p (copied at left)
      (λ r. block_made >>= λ own. block_made
      >>= λ merge. close (split own merge) >> right_in at r right own merge)
      (λ r q. ValueAfter w p types.Bool (operand r at) q)
      (After tables number functions w p types.Bool inside)
      (copied_in w of p at left within value)
      (λ r q in_q copy.
      block_then w q q Anywhere
      (λ own. block_made >>= λ merge. close (split own merge) >> right_in at r right own merge)
      (After tables number functions w p types.Bool inside) (keeps_self w q) refl
      (λ own u in_u own_made keeps_u there_u.
      block_then w q u Anywhere
      (λ merge. close (split own merge) >> right_in at r right own merge)
      (After tables number functions w p types.Bool inside) keeps_u there_u
      (λ merge s in_s merge_made keeps_s there_s.
      let keeps = keeps_then w p q s copy.1 keeps_s in
      let given = value_stays w p s types.Bool left keeps.follows value in
      safe_then w s (close (split own merge)) (λ _. right_in at r right own merge)
      (λ _. MadeLast w s) (After tables number functions w p types.Bool inside)
      (close_in tables functions w of s (split own merge) (fits own merge)
      (subst (All (IsSet w s.writes (here s))) (sym (reads_it own merge))
      (reads_one w s.writes (here s) left.reg given.set))
      (leads w of s (split own merge) own merge (made_target w q s own own_made keeps_s.follows)
      (made_target w q s merge merge_made keeps_s.follows) (ways own merge)))
      (λ _ t in_t closed.
      safe_weaker w t (right_in at r right own merge)
      (After tables number functions w q types.Bool inside)
      (After tables number functions w p types.Bool inside)
      (right_safe owner right inside w of at r own merge q t
      (knows_still tables owner number w p q copy.1 knows) copy.0 in_q own_made merge_made
      (keeps_then w q s t keeps_s closed.keeps) safe)
      (λ x a in_a after. ((after.0.0, keeps_then w p q a copy.1 after.0.1), after.1))))))

  -- `&&`
  pub both_safe : (owner : Option ℕ) (right : Code Operand) (inside : List Body) (w : Whole)
      (of : IsOfGraph tables functions w) (p : Position) (at : ℕ) (left : Operand)
      → Knows tables owner number w p → IsDeclaredIn tables types.Bool
      → IsValue w p types.Bool left
      → CodeGives tables number functions owner right types.Bool inside
      → SafeAt w p (both at right left) (After tables number functions w p types.Bool inside)
  both_safe owner right inside w of p at left knows within value =
      split_safe owner right inside w of p at left (λ own merge. last.Branch left own merge)
      (λ own merge. value.kind) (λ own merge. refl) ways knows within value where
        ways : (own merge k to : ℕ) → slice_get (own ∷ merge ∷ []) k ≡ Some to
            → (to ≡ own) ⊎ (to ≡ merge)
        ways own merge zero to is = inl (sym (same_Some own to is))
        ways own merge (suc zero) to is = inr (sym (same_Some merge to is))
        ways own merge (suc (suc k)) to is = absurd (none-some to is)

  -- `||`
  pub either_safe : (owner : Option ℕ) (right : Code Operand) (inside : List Body) (w : Whole)
      (of : IsOfGraph tables functions w) (p : Position) (at : ℕ) (left : Operand)
      → Knows tables owner number w p → IsDeclaredIn tables types.Bool
      → IsValue w p types.Bool left
      → CodeGives tables number functions owner right types.Bool inside
      → SafeAt w p (either at right left) (After tables number functions w p types.Bool inside)
  either_safe owner right inside w of p at left knows within value =
      split_safe owner right inside w of p at left (λ own merge. last.Branch left merge own)
      (λ own merge. value.kind) (λ own merge. refl) ways knows within value where
        ways : (own merge k to : ℕ) → slice_get (merge ∷ own ∷ []) k ≡ Some to
            → (to ≡ own) ⊎ (to ≡ merge)
        ways own merge zero to is = inr (sym (same_Some merge to is))
        ways own merge (suc zero) to is = inl (sym (same_Some own to is))
        ways own merge (suc (suc k)) to is = absurd (none-some to is)
