-- Code that declares a variable is safe, and the variable is known after it.
use Rattle.std.proofs.Common.{◌≡◌, ℕ, List, [], ◌∷◌, ◌++◌, ap, sym, ◌∙◌, subst, refl, arith, Bool}
use Rattle.std.proofs.Common.{true, false, Option, Some, None, inr}
use Rattle.std.proofs.lemmas.List.Elements.{All-append, All-cons, All-nil}
use Rattle.std.proofs.lemmas.Option.{none-some, same_Some}
use Rattle.std.specs.Prelude.{All, if◌then◌else◌, slice_get, ◌==◌, ◌||◌}
use Rattle.sw_tree.specs.declared.name.Name.{Name}
use Rattle.sw_types.specs.Accepts.{IsAcceptedAs}
use Rattle.sw_types.specs.declared.shape.Shape.{Shape}
use Rattle.sw_types.specs.declared.ty.Ty.{Ty}
use Rattle.sw_types.specs.declared.ty.Ty.TheVariants as types
use Rattle.sw_graph.specs.Mentions.{reads, set_by}
use Rattle.sw_graph.specs.Payloads.{is_payload}
use Rattle.sw_graph.specs.WellFormed.{type_in}
use Rattle.sw_graph.specs.declared.function.Function.{Function}
use Rattle.sw_graph.specs.declared.instr.Instr.{Instr}
use Rattle.sw_graph.specs.declared.instr.Instr.TheVariants.{Copy, NewBox}
use Rattle.sw_graph.specs.declared.instr.Operand.{Operand}
use Rattle.sw_typing_rules.specs.Expressions.{Judged}
use Rattle.sw_typing_rules.specs.Statements.{Left, State, bind_left, refused}
use Rattle.sw_typing_rules.specs.Verdicts.{variable_rows}
use Rattle.sw_isolation_rules.specs.Answers.{for_some}
use Rattle.sw_isolation_rules.specs.Captures.{is_among, self_of}
use Rattle.sw_lower_plans.specs.Plan.{Numbers}
use Rattle.sw_lower_plans.specs.declared.bound.Bound.{Bound}
use Rattle.sw_lower_code.specs.Code.{Code, bind, emit, known, reg, ◌>>=◌, ◌>>◌}
use Rattle.sw_lower_rules.specs.Carriers.{ExprCode}
use Rattle.sw_lower_rules.specs.Statements.{boxed_var, declare_var, plain_var, statement}
use Rattle.sw_lower_rules.specs.Tables.{Tables}
use Rattle.sw_lower_rules.specs.Uses.{typed}
use Rattle.sw_lower_formed_facts.specs.Forms.{BodiesFit, CodeOk, ExprOk, StmtOk}
use Rattle.sw_typing_facts.specs.Rows.{RowsHold}
use Rattle.sw_lower_formed_facts.specs.Ground.{Ground, HasVarType, IsDeclaredIn, IsOfGraph, IsSeen, Knows}
use Rattle.sw_lower_formed_facts.specs.Ground.{kind_by}
use Rattle.sw_lower_formed_facts.specs.Safe.{Emitted, Follows, IsValue, MadeReg, Named, Position, SafeAt}
use Rattle.sw_lower_formed_facts.specs.Safe.{ValueAfter, here}
use Rattle.sw_lower_formed_facts.specs.Whole.{IsSet, Whole}
use Rattle.sw_lower_formed_facts.proofs.Positions.Following.{follows_then, keeps_then, knows_still}
use Rattle.sw_lower_formed_facts.proofs.Positions.Following.{seen_stay}
use Rattle.sw_lower_formed_facts.proofs.Positions.Steps.{safe_bind, safe_known}
use Rattle.sw_lower_formed_facts.proofs.Positions.Then.{safe_then, safe_weaker}
use Rattle.sw_lower_formed_facts.proofs.Positions.Using.{Fits, emit_in, reads_one, reg_in, set_still}
use Rattle.sw_typing_facts.proofs.Said.Rows.{not_refused, rows_left, rows_right, variable_typed}
use Rattle.sw_lower_formed_facts.proofs.Statements.Stating.{stmt_of}
use Rattle.sw_lower_formed_facts.proofs.Types.Going.{accepts_self, boxed_goes, goes_by}

-- What the code that declares a variable leaves: the variables are known, with the new one.
pub record Declares (tables : Tables) (owner : Option ℕ) (number : Numbers) (w : Whole)
    (p q : Position) : Type 0 where
  pub follows : Follows w p q
  pub there : here q ≡ here p
  pub knows : Knows tables owner number w q

module _ (tables : Tables) (number : Numbers) (functions : List Function)
    (ground : Ground tables number functions) (owner : Option ℕ) where
  -- `self` has no type in the tables, so a key that has one is not its key.
  pub declared_var_type : (key : ℕ) (ty : Ty) → tables.answers.type_at key ≡ Some ty
      → HasVarType tables owner key ty
  declared_var_type key ty typed = inr (by owner, typed) where
    differs : (at : ℕ) → tables.answers.type_at at ≡ None → (same : Bool) → (at == key) ≡ same
        → (same || false) ≡ false
    differs at no_type true is =
        let same : at ≡ key = grind (arith, is) in
        absurd (none-some ty (sym no_type ∙ ap tables.answers.type_at same ∙ typed))
    differs at no_type false is = refl

    in_shape : (k : ℕ) (shape : Option Shape) → slice_get tables.world.shapes k ≡ shape
        → is_among (for_some shape (λ (one : Shape). one.at ∷ [])) key ≡ false
    in_shape k None is = refl
    in_shape k (Some shape) is =
        differs shape.at (ground.selves k shape is) (shape.at == key) refl

    by : (of : Option ℕ) → is_among (self_of tables.world of) key ≡ false
    by None = refl
    by (Some k) = in_shape k (slice_get tables.world.shapes k) refl

  -- A variable more is known.
  pub knows_named : (w : Whole) (p q : Position) (bound : Bound) → Named w p bound q
      → Knows tables owner number w p → IsSeen tables owner w q bound
      → Knows tables owner number w q
  knows_named w p q bound named knows seen = record {
    vars = subst (All (IsSeen tables owner w q)) (sym named.vars)
        (All-append (IsSeen tables owner w q) p.making.vars (bound ∷ [])
        (seen_stay tables owner w p q p.making.vars named.follows knows.vars)
        (All-cons (IsSeen tables owner w q) bound [] seen (All-nil (IsSeen tables owner w q))));
    numbers = named.follows.numbers ∙ knows.numbers;
  }

  -- A register that was made and set is a variable of its type from then on.
  pub bind_in : (w : Whole) (p q s : Position) (key r : ℕ) (boxed : Bool) (ty : Ty) (instr : Instr)
      → Knows tables owner number w p → MadeReg w p (kind_by boxed ty) r q → Emitted w q instr s
      → set_by instr ≡ Some r → tables.answers.type_at key ≡ Some ty
      → SafeAt w s (bind (record { key = key; reg = r; boxed = boxed }))
      (λ _ t. Declares tables owner number w p t)
  bind_in w p q s key r boxed ty instr knows made emitted sets typed =
      safe_weaker w s (bind bound) (λ _. Named w s bound)
      (λ _ t. Declares tables owner number w p t) (safe_bind w s bound)
      (λ _ t in_t named.
      let kept = keeps_then w p q s made.keeps emitted.keeps in record {
        follows = follows_then w p s t kept.follows named.follows;
        there = named.there ∙ emitted.there ∙ made.there;
        knows = knows_named w s t bound named (knows_still tables owner number w p s kept knows)
            (record {
              ty = ty;
              typed = declared_var_type key ty typed;
              kind = made.kind;
              set = named.follows.kept r (emitted.sets r sets);
              made = omega (arith, made.below, emitted.keeps.follows.regs, named.follows.regs);
            });
      }) where
        bound : Bound
        bound = record { key = key; reg = r; boxed = boxed }

  module _ (w : Whole) (of : IsOfGraph tables functions w) where
    abbrev After : Position → Unit {0} → Position → Type 0
    After p _ q = Declares tables owner number w p q

    -- a value goes into a register that is made for it, which is a variable then
    bound_in : (p : Position) (key from_reg : ℕ) (ty : Ty) (boxed : Bool) (instr : ℕ → Instr)
        → Knows tables owner number w p → IsSet w p.writes (here p) from_reg
        → tables.answers.type_at key ≡ Some ty
        → ((r : ℕ) → is_payload (instr r) ≡ false)
        → ((r : ℕ) → slice_get w.regs r ≡ Some (kind_by boxed ty)
        → Fits tables functions w of (instr r))
        → ((r : ℕ) → reads (instr r) ≡ from_reg ∷ [])
        → ((r : ℕ) → set_by (instr r) ≡ Some r)
        → SafeAt w p (reg (kind_by boxed ty)
        >>= λ r. emit (instr r) >> bind (record { key = key; reg = r; boxed = boxed })) (After p)
    bound_in p key from_reg ty boxed instr knows set typed plain fits read sets =
        safe_then w p (reg (kind_by boxed ty))
        (λ r. emit (instr r) >> bind (record { key = key; reg = r; boxed = boxed }))
        (MadeReg w p (kind_by boxed ty)) (After p)
        (reg_in tables functions w of p (kind_by boxed ty) (within boxed))
        (λ r q inside made.
        safe_then w q (emit (instr r))
        (λ _. bind (record { key = key; reg = r; boxed = boxed }))
        (λ _. Emitted w q (instr r)) (After p)
        (emit_in tables functions w of q (instr r) (plain r) (fits r made.kind)
        (set_still tables functions w of p q made.writes made.there (reads (instr r))
        (subst (All (IsSet w p.writes (here p))) (sym (read r))
        (reads_one w p.writes (here p) from_reg set))))
        (λ _ s in_s emitted.
        bind_in w p q s key r boxed ty (instr r) knows made emitted (sets r) typed)) where
          within : (b : Bool) → IsDeclaredIn tables (type_in (kind_by b ty))
          within true = ground.typed key ty typed
          within false = ground.typed key ty typed

    by_box : (p : Position) (key : ℕ) (from ty : Ty) (x : Operand)
        → Knows tables owner number w p → IsValue w p from x
        → tables.answers.type_at key ≡ Some ty → IsAcceptedAs from ty
        → (boxed : Bool)
        → SafeAt w p ((if boxed then boxed_var tables key x else plain_var tables key x) ty)
        (After p)
    by_box p key from ty x knows value has accepts true =
        bound_in p key x.reg ty true (λ r. NewBox key r x) knows value.set has (λ r. refl)
        (λ r kind. boxed_goes from ty (slice_get w.regs x.reg) (slice_get w.regs r) value.kind kind
        accepts) (λ r. refl) (λ r. refl)
    by_box p key from ty x knows value has accepts false =
        bound_in p key x.reg ty false (λ r. Copy key r x) knows value.set has (λ r. refl)
        (λ r kind. goes_by (slice_get w.regs x.reg) (slice_get w.regs r) from ty value.kind kind
        accepts) (λ r. refl) (λ r. refl)

    -- A variable is declared with a value whose type its own accepts.
    pub declare_in : (p : Position) (key : ℕ) (from ty : Ty) (x : Operand)
        → Knows tables owner number w p → IsValue w p from x
        → tables.answers.type_at key ≡ Some ty → IsAcceptedAs from ty
        → SafeAt w p (declare_var tables key x) (λ _ q. Declares tables owner number w p q)
    unfolding declare_var typed
    declare_in p key from ty x knows value has accepts =
        safe_then w p (known types.Unit (tables.answers.type_at key)) (by (is_boxed key))
        (λ found q. (found ≡ ty) × (q ≡ p)) (After p)
        (safe_known w p types.Unit (tables.answers.type_at key) (λ found q. (found ≡ ty) × (q ≡ p))
        (λ found is. (same_Some found ty (sym is ∙ has), refl)))
        (λ found q inside is.
        subst (λ t. SafeAt w q (by (is_boxed key) t) (After p)) (sym is.0)
        (subst (λ s. SafeAt w s (by (is_boxed key) ty) (After p)) (sym is.1)
        (by_box p key from ty x knows value has accepts (is_boxed key)))) where
          is_boxed : ℕ → Bool
          is_boxed = tables.isolation.is_boxed

          by : Bool → Ty → Code (Unit {0})
          by boxed = if boxed then boxed_var tables key x else plain_var tables key x

  bind_code : (state : State) (left : Left) (name : Name) (value : ExprCode) (judged : Judged)
      (from ty : Ty) → left.state.returned ≡ state.returned
      → (ok : ExprOk tables number functions owner value judged) → ok.ty ≡ from
      → tables.answers.type_at name.at ≡ Some ty → IsAcceptedAs from ty
      → CodeOk tables number functions owner left.state.returned
      (λ targets. value.read >>= declare_var tables name.at) (λ w p q.
      Follows w p q
      × (Knows tables owner number w q × BodiesFit tables number functions value.inside))
  bind_code state left name value judged from ty same ok is has accepts w of p knows targets
      targets_ok returns =
      safe_then w p value.read (declare_var tables name.at)
      (λ x q. ValueAfter w p ok.ty x q × BodiesFit tables number functions value.inside)
      (λ _ q. Follows w p q
      × (Knows tables owner number w q × BodiesFit tables number functions value.inside))
      (ok.read w of p knows)
      (λ x q inside got.
      safe_weaker w q (declare_var tables name.at x)
      (λ _ s. Declares tables owner number w q s)
      (λ _ s. Follows w p s
      × (Knows tables owner number w s × BodiesFit tables number functions value.inside))
      (declare_in w of q name.at from ty x
      (knows_still tables owner number w p q got.0.1 knows)
      (subst (λ t. IsValue w q t x) is got.0.0) has accepts)
      (λ _ s in_s declares.
      (follows_then w p q s got.0.1.follows declares.follows, (declares.knows, got.1))))

  -- `let` and `var`
  pub bind_ok : (only : Bool) (state : State) (mutable : Bool) (name : Name) (written : Option Ty)
      (value : ExprCode) (judged : Judged) → ExprOk tables number functions owner value judged
      → RowsHold tables.answers (bind_left state mutable name written judged).rows
      → StmtOk tables number functions owner only state
      (statement (λ targets. value.read >>= declare_var tables name.at) value.inside)
      (bind_left state mutable name written judged)
  bind_ok only state mutable name None value judged ok hold =
      stmt_of tables number functions owner only state
      (λ targets. value.read >>= declare_var tables name.at) value.inside
      (bind_left state mutable name None judged)
      (bind_code state (bind_left state mutable name None judged) name value judged ok.ty ok.ty refl
      ok refl
      (variable_typed tables.answers name.at judged.ty ok.ty ok.has
      (rows_right tables.answers judged.rows (variable_rows name.at judged.ty) hold))
      (accepts_self ok.ty)) (λ result returns. returns)
  bind_ok only state mutable name (Some ty) value judged ok hold =
      let rest = rows_right tables.answers judged.rows
      (refused name.at judged.ty ty ++ variable_rows name.at (Some ty)) hold in
      stmt_of tables number functions owner only state
      (λ targets. value.read >>= declare_var tables name.at) value.inside
      (bind_left state mutable name (Some ty) judged)
      (bind_code state (bind_left state mutable name (Some ty) judged) name value judged ok.ty ty
      refl
      ok refl
      (rows_right tables.answers (refused name.at judged.ty ty) (variable_rows name.at (Some ty))
      rest).0
      (not_refused tables.answers name.at judged.ty ok.ty ty ok.has
      (rows_left tables.answers (refused name.at judged.ty ty) (variable_rows name.at (Some ty))
      rest))) (λ result returns. returns)
