-- Assignments are safe.
use Rattle.std.proofs.Common.{◌≡◌, ℕ, List, [], ◌∷◌, ◌++◌, ap, sym, ◌∙◌, subst, refl, Bool, true}
use Rattle.std.proofs.Common.{false, true≢false, Option, Some, None, not, ◌||◌, ◌&&◌}
use Rattle.std.proofs.lemmas.List.Elements.{All-append, All-cons, All-nil}
use Rattle.std.proofs.lemmas.Option.{none-some, same_Some}
use Rattle.std.specs.Prelude.{if◌then◌else◌, is_some, slice_get}
use Rattle.sw_tree.specs.declared.operator.AssignOp.{AssignOp}
use Rattle.sw_tree.specs.declared.operator.AssignOp.TheVariants as operators
use Rattle.sw_types.specs.Accepts.{IsAcceptedAs}
use Rattle.sw_types.specs.declared.ty.Ty.{Ty}
use Rattle.sw_types.specs.declared.ty.Ty.TheVariants as types
use Rattle.sw_graph.specs.Kinds.{Goes, TakesBoth, bin_type}
use Rattle.sw_graph.specs.declared.function.Function.{Function}
use Rattle.sw_graph.specs.declared.function.RegKind.{RegKind}
use Rattle.sw_graph.specs.declared.function.RegKind.TheVariants.{Plain}
use Rattle.sw_graph.specs.declared.instr.BinOp.{BinOp}
use Rattle.sw_graph.specs.declared.instr.BinOp.TheVariants as bin
use Rattle.sw_graph.specs.declared.instr.Instr.TheVariants.{Bin}
use Rattle.sw_graph.specs.declared.instr.Operand.{Operand}
use Rattle.sw_typing_rules.specs.Expressions.{Judged}
use Rattle.sw_typing_rules.specs.Operators.{are_ints, assigns}
use Rattle.sw_typing_rules.specs.Statements.{State, assign_left, fixed, misassigned, place_type}
use Rattle.sw_typing_rules.specs.Verdicts.{ill_if, is_int}
use Rattle.sw_typing_rules.specs.declared.scope.Inside.{Inside}
use Rattle.sw_typing_rules.proofs.Acceptance.{fits_accepts}
use Rattle.sw_typing_rules.proofs.Steps.{and_left, and_right}
use Rattle.sw_isolation_rules.specs.Answers.{Answers}
use Rattle.sw_lower_plans.specs.Plan.{Numbers}
use Rattle.sw_lower_code.specs.Code.{◌>>=◌}
use Rattle.sw_lower_rules.specs.Carriers.{ExprCode, StmtCode}
use Rattle.sw_lower_rules.specs.Statements.{assign, assign_by, given_part}
use Rattle.sw_lower_rules.specs.Tables.{Tables}
use Rattle.sw_lower_rules.specs.Uses.{give}
use Rattle.sw_lower_formed_facts.specs.Forms.{BodiesFit, BodyFits, ExprOk, StmtOk}
use Rattle.sw_typing_facts.specs.Rows.{RowsHold}
use Rattle.sw_lower_formed_facts.specs.Ground.{Ground, IsDeclaredIn, IsOfGraph, Knows}
use Rattle.sw_lower_formed_facts.specs.Safe.{Follows, IsValue, Keeps, Position, SafeAt, ValueAfter, here}
use Rattle.sw_lower_formed_facts.specs.Whole.{IsSet, Whole}
use Rattle.sw_lower_formed_facts.proofs.Positions.Following.{keeps_self, keeps_then, knows_still}
use Rattle.sw_lower_formed_facts.proofs.Positions.Following.{value_stays}
use Rattle.sw_lower_formed_facts.proofs.Positions.Then.{safe_then, safe_weaker}
use Rattle.sw_lower_formed_facts.proofs.Positions.Using.{give_in}
use Rattle.sw_typing_facts.proofs.Said.Rows.{not_ill, rows_left, rows_right, well_if}
use Rattle.sw_typing_facts.proofs.Types.Forms.{is_Int}
use Rattle.sw_lower_formed_facts.proofs.Types.Going.{accepts_self, goes_by}

-- what is left of the place of an assignment: it can be assigned, and has its type
pub record Settles (inside : Inside) (place : Judged) (ty : Ty) : Type 0 where
  pub settable : place.settable ≡ true
  pub typed : place_type inside place ≡ Some ty

may_set : (init settable : Bool) → init ≡ false → not (init || settable) ≡ false → settable ≡ true
may_set true settable is holds = absurd (true≢false is)
may_set false true is holds = refl
may_set false false is holds = absurd (true≢false holds)

is_fixed : (found : Option Ty) (ty : Ty) (b : Bool) → found ≡ Some ty
    → (is_some found && b) ≡ false → b ≡ false
is_fixed None ty b has holds = absurd (none-some ty has)
is_fixed (Some other) ty b has holds = holds

pub settles : (answers : Answers) (inside : Inside) (state : State) (at : ℕ) (op : AssignOp)
    (place judged : Judged) (ty : Ty) → inside.init ≡ false → place.ty ≡ Some ty
    → RowsHold answers (assign_left inside state at op place judged).rows
    → Settles inside place ty
settles answers inside state at op place judged ty init has rows = record {
  settable = may_set inside.init place.settable init
      (is_fixed place.ty ty (not (inside.init || place.settable)) has holds);
  typed = ap (λ b. if b then None else place.ty) holds ∙ has;
} where
  holds : fixed inside place ≡ false
  holds = not_ill answers (fixed inside place) place.key 404
      (rows_left answers (ill_if (fixed inside place) place.key 404)
      (judged.rows ++ misassigned op at (place_type inside place) judged.ty)
      (rows_right answers place.rows (ill_if (fixed inside place) place.key 404
      ++ (judged.rows ++ misassigned op at (place_type inside place) judged.ty)) rows))

well_assigned : (answers : Answers) (op : AssignOp) (at : ℕ) (place value : Option Ty)
    (to from : Ty) → place ≡ Some to → value ≡ Some from
    → RowsHold answers (misassigned op at place value) → assigns op to from ≡ true
well_assigned answers op at None value to from is_to is_from hold = absurd (none-some to is_to)
well_assigned answers op at (Some place) None to from is_to is_from hold =
    absurd (none-some from is_from)
well_assigned answers op at (Some place) (Some value) to from is_to is_from hold =
    ap (λ t. assigns op t from) (sym (same_Some place to is_to))
    ∙ ap (assigns op place) (sym (same_Some value from is_from))
    ∙ well_if answers (assigns op place value) at 402 hold

-- the code of an assignment
abbrev pub assign_code : AssignOp → ℕ → ExprCode → ExprCode → StmtCode
assign_code op at place given = record {
  code = λ targets. given.read >>= assign op at place;
  only = None;
  gives = given_part place.own_part given.read;
  inside = place.inside ++ given.inside;
}

module _ (tables : Tables) (number : Numbers) (functions : List Function)
    (ground : Ground tables number functions) (owner : Option ℕ) where
  -- an operator of two integers
  record OfInts (op : BinOp) : Type 0 where
    takes : (one other : Option RegKind) → one ≡ Some (Plain types.Int)
        → other ≡ Some (Plain types.Int) → TakesBoth op one other
    gives : bin_type op ≡ types.Int

  module _ (place : ExprCode) (placed : Judged)
      (ok : ExprOk tables number functions owner place placed) (settable : placed.settable ≡ true)
      (w : Whole) (of : IsOfGraph tables functions w) where
    abbrev Written : Position → Unit {0} → Position → Type 0
    Written p _ q = Keeps w p q × BodiesFit tables number functions place.inside

    write_in : (p q : Position) (from : Ty) (x : Operand) → Knows tables owner number w p
        → Keeps w p q → IsValue w q from x → IsAcceptedAs from ok.ty
        → SafeAt w q (place.write x) (Written p)
    write_in p q from x knows keeps value accepts =
        safe_weaker w q (place.write x) (Written q) (Written p)
        (ok.write settable w of q (knows_still tables owner number w p q keeps knows) from x value
        accepts)
        (λ _ s inside got. (keeps_then w p q s keeps got.0, got.1))

    -- a value goes by its operator
    assign_by_in : (p : Position) (at : ℕ) (op : BinOp) (x : Operand) → OfInts op
        → Knows tables owner number w p → IsValue w p types.Int x → ok.ty ≡ types.Int
        → SafeAt w p (assign_by at op place x) (Written p)
    assign_by_in p at op x ints knows value is =
        safe_then w p place.read
        (λ old. give at types.Int (λ r. Bin at r op old x) >>= place.write)
        (λ old q. ValueAfter w p ok.ty old q × BodiesFit tables number functions place.inside)
        (Written p) (ok.read w of p knows)
        (λ old q inside got.
        let stays = value_stays w p q types.Int x got.0.1.follows value in
        let old_is : IsValue w q types.Int old = subst (λ t. IsValue w q t old) is got.0.0 in
        safe_then w q (give at types.Int (λ r. Bin at r op old x)) place.write
        (ValueAfter w q types.Int) (Written p)
        (give_in tables functions w of q at types.Int (λ r. Bin at r op old x) int_declared
        (λ r. refl)
        (λ r kind. (
          ints.takes (slice_get w.regs old.reg) (slice_get w.regs x.reg) old_is.kind stays.kind,
          subst (λ t. Goes (Some (Plain t)) (slice_get w.regs r)) (sym ints.gives)
              (goes_by (Some (Plain types.Int)) (slice_get w.regs r) types.Int types.Int refl
              kind (accepts_self types.Int)),
        ))
        (λ r. All-cons (IsSet w q.writes (here q)) old.reg (x.reg ∷ []) old_is.set
        (All-cons (IsSet w q.writes (here q)) x.reg [] stays.set
        (All-nil (IsSet w q.writes (here q)))))
        (λ r. refl))
        (λ new s in_s given.
        write_in p s types.Int new knows (keeps_then w p q s got.0.1 given.1) given.0
        (subst (IsAcceptedAs types.Int) (sym is) (accepts_self types.Int)))) where
          int_declared : IsDeclaredIn tables types.Int
          int_declared = subst (IsDeclaredIn tables) is (ground.typed place.key ok.ty ok.typed)

    ints_in : (p : Position) (at : ℕ) (op : BinOp) (from : Ty) (x : Operand) → OfInts op
        → Knows tables owner number w p → IsValue w p from x
        → are_ints ok.ty from ≡ true → SafeAt w p (assign_by at op place x) (Written p)
    ints_in p at op from x ints knows value are =
        assign_by_in p at op x ints knows
        (subst (λ t. IsValue w p t x) (is_Int from (and_right (is_int ok.ty) (is_int from) are))
        value) (is_Int ok.ty (and_left (is_int ok.ty) (is_int from) are))

    assign_in : (p : Position) (at : ℕ) (op : AssignOp) (from : Ty) (x : Operand)
        → Knows tables owner number w p → IsValue w p from x → assigns op ok.ty from ≡ true
        → SafeAt w p (assign op at place x) (Written p)
    assign_in p at operators.Set from x knows value is =
        write_in p p from x knows (keeps_self w p) value (fits_accepts from ok.ty is)
    assign_in p at operators.Add from x knows value is =
        ints_in p at bin.Add from x (record { takes = λ a b l r. (l, r); gives = refl }) knows value
        is
    assign_in p at operators.Subtract from x knows value is =
        ints_in p at bin.Sub from x (record { takes = λ a b l r. (l, r); gives = refl }) knows value
        is
    assign_in p at operators.Multiply from x knows value is =
        ints_in p at bin.Mul from x (record { takes = λ a b l r. (l, r); gives = refl }) knows value
        is
    assign_in p at operators.Divide from x knows value is =
        ints_in p at bin.Div from x (record { takes = λ a b l r. (l, r); gives = refl }) knows value
        is
    assign_in p at operators.Remainder from x knows value is =
        ints_in p at bin.Rem from x (record { takes = λ a b l r. (l, r); gives = refl }) knows value
        is

  -- an assignment, elsewhere than in an initialiser
  pub assign_ok : (only : Bool) (inside : Inside) (state : State) (at : ℕ) (op : AssignOp)
      (place given : ExprCode) (placed judged : Judged) → inside.init ≡ false
      → ExprOk tables number functions owner place placed
      → ExprOk tables number functions owner given judged
      → RowsHold tables.answers (assign_left inside state at op placed judged).rows
      → StmtOk tables number functions owner only state (assign_code op at place given)
      (assign_left inside state at op placed judged)
  assign_ok only inside state at op place given placed judged init ok given_ok hold = record {
    code_ok = λ w of p knows targets targets_ok returns.
        safe_then w p given.read (assign op at place)
        (λ x q. ValueAfter w p given_ok.ty x q × BodiesFit tables number functions given.inside)
        (After w p) (given_ok.read w of p knows)
        (λ x q in_q got.
        let known = knows_still tables owner number w p q got.0.1 knows in
        safe_weaker w q (assign op at place x)
        (λ _ s. Keeps w q s × BodiesFit tables number functions place.inside) (After w p)
        (assign_in place placed ok settled.settable w of q at op given_ok.ty x known got.0.0
        assigned)
        (λ _ s in_s made.
        let keeps = keeps_then w p q s got.0.1 made.0 in (
          keeps.follows,
          (
            knows_still tables owner number w p s keeps knows,
            All-append (BodyFits tables number functions) place.inside given.inside made.1
                got.1,
          ),
        )));
    only_ok = λ is read some. absurd (none-some read some);
    back = λ result returns. returns;
  } where
    After : Whole → Position → Unit {0} → Position → Type 0
    After w p _ q = Follows w p q × (Knows tables owner number w q
        × BodiesFit tables number functions (place.inside ++ given.inside))

    after_place : RowsHold tables.answers (ill_if (fixed inside placed) placed.key 404
        ++ (judged.rows ++ misassigned op at (place_type inside placed) judged.ty))
    after_place = rows_right tables.answers placed.rows (ill_if (fixed inside placed) placed.key 404
        ++ (judged.rows ++ misassigned op at (place_type inside placed) judged.ty)) hold

    settled : Settles inside placed ok.ty
    settled = settles tables.answers inside state at op placed judged ok.ty init ok.has hold

    assigned : assigns op ok.ty given_ok.ty ≡ true
    assigned = well_assigned tables.answers op at (place_type inside placed) judged.ty ok.ty
        given_ok.ty settled.typed given_ok.has
        (rows_right tables.answers judged.rows
        (misassigned op at (place_type inside placed) judged.ty)
        (rows_right tables.answers (ill_if (fixed inside placed) placed.key 404)
        (judged.rows ++ misassigned op at (place_type inside placed) judged.ty) after_place))
