-- Operators between two values, and chains of them.
use Rattle.std.proofs.Common.{◌≡◌, ℕ, List, [], ◌∷◌, ◌++◌, Option, Some, refl, sym, ap, ◌∙◌, subst}
use Rattle.std.proofs.Common.{Bool, true, false, inl, inr}
use Rattle.std.specs.Prelude.{IsTrue, slice_get, if◌then◌else◌, ◌||◌, ◌⊎◌, map, flat_map}
use Rattle.std.proofs.lemmas.List.Elements.{All-nil, All-cons, All-append}
use Rattle.std.proofs.lemmas.Option.{same_Some}
use Rattle.sw_tree.specs.NodeKey.{last_or}
use Rattle.sw_tree.specs.declared.operator.InfixOp.{InfixOp}
use Rattle.sw_tree.specs.declared.operator.InfixOp.TheVariants as infix_of
use Rattle.sw_types.specs.declared.ty.Ty.{Ty, out-Ty}
use Rattle.sw_types.specs.declared.ty.Ty.TheVariants as types
use Rattle.sw_graph.specs.Kinds.{TakesBoth, bin_type, form_is_printable, is_printable}
use Rattle.sw_graph.specs.Kinds.{value as kind_of}
use Rattle.sw_graph.specs.declared.function.Function.{Function}
use Rattle.sw_graph.specs.declared.function.RegKind.{RegKind}
use Rattle.sw_graph.specs.declared.instr.BinOp.{BinOp}
use Rattle.sw_graph.specs.declared.instr.BinOp.TheVariants as bin
use Rattle.sw_graph.specs.declared.instr.Instr.TheVariants as instr
use Rattle.sw_graph.specs.declared.instr.Operand.{Operand}
use Rattle.sw_typing_rules.specs.Expressions.{Judged, infix_judged}
use Rattle.sw_typing_rules.specs.Operators.{are_bools, are_ints, gives, infix_types, sort_of, takes}
use Rattle.sw_typing_rules.specs.Operators.{Equality}
use Rattle.sw_typing_rules.specs.Verdicts.{is_bool, is_int, rows_of, type_in}
use Rattle.sw_typing_rules.specs.declared.verdict.Verdict.TheVariants.{Has, Fails}
use Rattle.sw_typing_rules.proofs.Steps.{and_left, and_right}
use Rattle.sw_lower_plans.specs.Plan.{Numbers}
use Rattle.sw_lower_code.specs.Code.{Code, ◌>>=◌}
use Rattle.sw_lower_code.specs.Whole.{Body}
use Rattle.sw_lower_rules.specs.Carriers.{ExprCode, LinkCode}
use Rattle.sw_lower_rules.specs.Expressions.{binary, by_op, chain_code, links_read, value}
use Rattle.sw_lower_rules.specs.Tables.{Tables}
use Rattle.sw_lower_rules.specs.Uses.{give}
use Rattle.sw_lower_formed_facts.specs.Forms.{BodyFits, ExprOk, LinksOk, Wherever}
use Rattle.sw_typing_facts.specs.Rows.{RowsHold}
use Rattle.sw_lower_formed_facts.specs.Ground.{Ground}
use Rattle.sw_lower_formed_facts.specs.Safe.{IsValue, SafeAt, ValueAfter, here}
use Rattle.sw_lower_formed_facts.specs.Whole.{IsSet}
use Rattle.sw_lower_formed_facts.proofs.Expressions.Logic.{both_safe, either_safe}
use Rattle.sw_lower_formed_facts.proofs.Expressions.Values.{After, CodeGives, value_ok}
use Rattle.sw_lower_formed_facts.proofs.Positions.Following.{keeps_self, keeps_then, knows_still}
use Rattle.sw_lower_formed_facts.proofs.Positions.Following.{value_stays}
use Rattle.sw_lower_formed_facts.proofs.Positions.Steps.{safe_done}
use Rattle.sw_lower_formed_facts.proofs.Positions.Then.{safe_then, safe_weaker}
use Rattle.sw_lower_formed_facts.proofs.Positions.Using.{give_in}
use Rattle.sw_typing_facts.proofs.Said.Rows.{rows_right, tested, verdict_has}
use Rattle.sw_typing_facts.proofs.Types.Forms.{bool_only, int_only, is_Bool, is_Int}
use Rattle.sw_lower_formed_facts.proofs.Types.Going.{goes_same}

-- Integers and truth values can be printed and compared.
pub int_prints : (ty : Ty) → is_int ty ≡ true → IsTrue (is_printable (kind_of ty))
int_prints ty is =
    subst (λ form. IsTrue (form_is_printable (Some form))) (sym (int_only (out-Ty ty) is)) refl

-- and so is a `Bool`
pub bool_prints : (ty : Ty) → is_bool ty ≡ true → IsTrue (is_printable (kind_of ty))
bool_prints ty is =
    subst (λ form. IsTrue (form_is_printable (Some form))) (sym (bool_only (out-Ty ty) is)) refl

-- the types of two integers
ints : (left right : Ty) → are_ints left right ≡ true → (left ≡ types.Int) × (right ≡ types.Int)
ints left right is = (
  is_Int left (and_left (is_int left) (is_int right) is),
  is_Int right (and_right (is_int left) (is_int right) is),
)

-- and of two truth values
bools : (left right : Ty) → are_bools left right ≡ true
    → (left ≡ types.Bool) × (right ≡ types.Bool)
bools left right is = (
  is_Bool left (and_left (is_bool left) (is_bool right) is),
  is_Bool right (and_right (is_bool left) (is_bool right) is),
)

-- one of two tests passes
pub one_of : (a b : Bool) → (a || b) ≡ true → (a ≡ true) ⊎ (b ≡ true)
one_of true b is = inl refl
one_of false b is = inr is

-- the operands of an operator have the types that it takes
abbrev Both : BinOp → Ty → Ty → Type 0
Both op left right = (l r : Option RegKind) → l ≡ kind_of left → r ≡ kind_of right
    → TakesBoth op l r

-- operators on integers
both_ints : (left right : Ty) → are_ints left right ≡ true → (l r : Option RegKind)
    → l ≡ kind_of left → r ≡ kind_of right → (l ≡ kind_of types.Int) × (r ≡ kind_of types.Int)
both_ints left right is l r one two =
    let are = ints left right is in (one ∙ ap kind_of are.0, two ∙ ap kind_of are.1)

-- `==` and `!=`
both_same : (left right : Ty) → takes Equality left right ≡ true → (l r : Option RegKind)
    → l ≡ kind_of left → r ≡ kind_of right → IsTrue (is_printable l) × (l ≡ r)
both_same left right is l r one two = by (one_of (are_ints left right) (are_bools left right) is)
  where
    printed : IsTrue (is_printable (kind_of left)) → IsTrue (is_printable l)
    printed holds = subst (λ kind. IsTrue (is_printable kind)) (sym one) holds

    by : (are_ints left right ≡ true) ⊎ (are_bools left right ≡ true)
        → IsTrue (is_printable l) × (l ≡ r)
    by (inl holds) =
        let are = ints left right holds in (
          printed (int_prints left (and_left (is_int left) (is_int right) holds)),
          one ∙ ap kind_of (are.0 ∙ sym are.1) ∙ sym two,
        )
    by (inr holds) =
        let are = bools left right holds in (
          printed (bool_prints left (and_left (is_bool left) (is_bool right) holds)),
          one ∙ ap kind_of (are.0 ∙ sym are.1) ∙ sym two,
        )

module _ (tables : Tables) (number : Numbers) (functions : List Function)
    (ground : Ground tables number functions) where
  -- code that takes a value of a type
  abbrev GivesAfter : Option ℕ → Ty → (Operand → Code Operand) → Ty → List Body → Type 0
  GivesAfter owner from read ty inside = Wherever tables number functions owner
      (λ w p. (left : Operand) → IsValue w p from left
      → SafeAt w p (read left) (After tables number functions w p ty inside))

  -- an instruction on two values
  binary_safe : (owner : Option ℕ) (at : ℕ) (op : BinOp) (left right ty : Ty)
      (read : Code Operand) (inside : List Body) → bin_type op ≡ ty
      → tables.answers.type_at at ≡ Some ty → Both op left right
      → CodeGives tables number functions owner read right inside
      → GivesAfter owner left (binary at op ty read) ty inside
  binary_safe owner at op left right ty read inside is typed takes_both safe w of p knows x value =
      safe_then w p read (λ other. give at ty (λ r. instr.Bin at r op x other))
      (After tables number functions w p right inside)
      (After tables number functions w p ty inside) (safe w of p knows)
      (λ other q in_q after.
      let stays = value_stays w p q left x after.0.1.follows value in
      safe_weaker w q (give at ty (λ r. instr.Bin at r op x other)) (ValueAfter w q ty)
      (After tables number functions w p ty inside)
      (give_in tables functions w of q at ty (λ r. instr.Bin at r op x other)
      (ground.typed at ty typed) (λ r. refl)
      (λ r kind. (
        takes_both (slice_get w.regs x.reg) (slice_get w.regs other.reg) value.kind
            after.0.0.kind,
        goes_same (kind_of (bin_type op)) (slice_get w.regs r) ty (ap kind_of is) kind,
      ))
      (λ r. All-cons (IsSet w q.writes (here q)) x.reg (other.reg ∷ []) stays.set
      (All-cons (IsSet w q.writes (here q)) other.reg [] after.0.0.set
      (All-nil (IsSet w q.writes (here q))))) (λ r. refl))
      (λ y s in_s given. ((given.0, keeps_then w p q s after.0.1 given.1), after.1)))

  -- an operator between two values
  by_op_safe : (owner : Option ℕ) (op : InfixOp) (at : ℕ) (left right : Ty) (read : Code Operand)
      (inside : List Body) → takes (sort_of op) left right ≡ true
      → tables.answers.type_at at ≡ Some (gives (sort_of op))
      → CodeGives tables number functions owner read right inside
      → GivesAfter owner left (by_op op at read) (gives (sort_of op)) inside
  by_op_safe owner infix_of.Or at left right read inside is typed safe = λ w of p knows x given.
      let are = bools left right is in
      either_safe tables number functions owner read inside w of p at x knows
      (ground.typed at types.Bool typed) (subst (λ ty. IsValue w p ty x) are.0 given)
      (subst (λ ty. CodeGives tables number functions owner read ty inside) are.1 safe)
  by_op_safe owner infix_of.And at left right read inside is typed safe = λ w of p knows x given.
      let are = bools left right is in
      both_safe tables number functions owner read inside w of p at x knows
      (ground.typed at types.Bool typed) (subst (λ ty. IsValue w p ty x) are.0 given)
      (subst (λ ty. CodeGives tables number functions owner read ty inside) are.1 safe)
  by_op_safe owner infix_of.Equal at left right read inside is typed safe =
      binary_safe owner at bin.Eq left right types.Bool read inside refl typed
      (both_same left right is) safe
  by_op_safe owner infix_of.NotEqual at left right read inside is typed safe =
      binary_safe owner at bin.Ne left right types.Bool read inside refl typed
      (both_same left right is) safe
  by_op_safe owner infix_of.Less at left right read inside is typed safe =
      binary_safe owner at bin.Lt left right types.Bool read inside refl typed
      (both_ints left right is) safe
  by_op_safe owner infix_of.LessEqual at left right read inside is typed safe =
      binary_safe owner at bin.Le left right types.Bool read inside refl typed
      (both_ints left right is) safe
  by_op_safe owner infix_of.Greater at left right read inside is typed safe =
      binary_safe owner at bin.Gt left right types.Bool read inside refl typed
      (both_ints left right is) safe
  by_op_safe owner infix_of.GreaterEqual at left right read inside is typed safe =
      binary_safe owner at bin.Ge left right types.Bool read inside refl typed
      (both_ints left right is) safe
  by_op_safe owner infix_of.Add at left right read inside is typed safe =
      binary_safe owner at bin.Add left right types.Int read inside refl typed
      (both_ints left right is) safe
  by_op_safe owner infix_of.Subtract at left right read inside is typed safe =
      binary_safe owner at bin.Sub left right types.Int read inside refl typed
      (both_ints left right is) safe
  by_op_safe owner infix_of.Multiply at left right read inside is typed safe =
      binary_safe owner at bin.Mul left right types.Int read inside refl typed
      (both_ints left right is) safe
  by_op_safe owner infix_of.Divide at left right read inside is typed safe =
      binary_safe owner at bin.Div left right types.Int read inside refl typed
      (both_ints left right is) safe
  by_op_safe owner infix_of.Remainder at left right read inside is typed safe =
      binary_safe owner at bin.Rem left right types.Int read inside refl typed
      (both_ints left right is) safe

  -- the bodies in the right operands
  abbrev links_inside : List LinkCode → List Body
  links_inside links = flat_map (λ (link : LinkCode). link.inside) links

  -- the link of an operand
  abbrev pub link_of : InfixOp → ℕ → ExprCode → LinkCode
  link_of op at code = record { op = op; at = at; read = code.read; inside = code.inside }

  -- no operators
  pub no_link_ok : (owner : Option ℕ) (ty : Ty)
      → LinksOk tables number functions owner [] ty ty
  unfolding links_read
  no_link_ok owner ty = record {
    read = λ w of p knows left value.
        safe_done w p left (After tables number functions w p ty [])
        ((value, keeps_self w p), All-nil (BodyFits tables number functions));
  }

  -- an operator before others
  pub link_ok : (owner : Option ℕ) (op : InfixOp) (at : ℕ) (code : ExprCode) (judged : Judged)
      (links : List LinkCode) (left right ty : Ty)
      → ExprOk tables number functions owner code judged → judged.ty ≡ Some right
      → takes (sort_of op) left right ≡ true
      → tables.answers.type_at at ≡ Some (gives (sort_of op))
      → LinksOk tables number functions owner links (gives (sort_of op)) ty
      → LinksOk tables number functions owner (link_of op at code ∷ links) left ty
  unfolding links_read
  link_ok owner op at code judged links left right ty ok is taken typed rest = record {
    read = λ w of p knows x value.
        safe_then w p (by_op op at code.read x) (links_read links)
        (After tables number functions w p (gives (sort_of op)) code.inside)
        (After tables number functions w p ty (links_inside (link_of op at code ∷ links)))
        (by_op_safe owner op at left right code.read code.inside taken typed
        (subst (λ given. CodeGives tables number functions owner code.read given code.inside)
        (same_Some ok.ty right (sym ok.has ∙ is)) ok.read) w of p knows x value)
        (λ y q in_q after.
        safe_weaker w q (links_read links y)
        (After tables number functions w q ty (links_inside links))
        (After tables number functions w p ty (links_inside (link_of op at code ∷ links)))
        (rest.read w of q (knows_still tables owner number w p q after.0.1 knows) y after.0.0)
        (λ z s in_s last. (
          (last.0.0, keeps_then w p q s after.0.1 last.0.1),
          All-append (BodyFits tables number functions) code.inside (links_inside links) after.1
              last.1,
        )));
  }

  -- what typing says of an operator between two values of types
  record Infix (op : InfixOp) (at : ℕ) (left right : Ty) (judged : Judged) : Type 0 where
    taken : takes (sort_of op) left right ≡ true
    has : judged.ty ≡ Some (gives (sort_of op))
    typed : tables.answers.type_at at ≡ Some (gives (sort_of op))

  -- An operator whose node isn't ill takes its operands.
  infix_is : (op : InfixOp) (at : ℕ) (left right : Judged) (l r : Ty) → left.ty ≡ Some l
      → right.ty ≡ Some r → RowsHold tables.answers (infix_judged op at left right).rows
      → Infix op at l r (infix_judged op at left right)
  infix_is op at left right l r one two hold =
      let is : infix_types op left.ty right.ty ≡ infix_types op (Some l) (Some r) =
      ap (λ ty. infix_types op ty right.ty) one ∙ ap (infix_types op (Some l)) two in
      let rows = rows_right tables.answers (left.rows ++ right.rows)
      (rows_of at (infix_types op left.ty right.ty)) hold in
      let passed = tested tables.answers at 402 (gives (sort_of op)) (takes (sort_of op) l r)
      (subst (λ verdict. RowsHold tables.answers (rows_of at verdict)) is rows) in
      let verdict : infix_types op left.ty right.ty ≡ Has (gives (sort_of op)) =
      is ∙ ap (λ test. if test then Has (gives (sort_of op)) else Fails 402) passed in
      record {
        taken = passed;
        has = ap type_in verdict;
        typed = verdict_has tables.answers at (infix_types op left.ty right.ty)
            (gives (sort_of op)) (left.rows ++ right.rows) verdict hold;
      }

  -- the keys of operators
  abbrev links_at : List LinkCode → List ℕ
  links_at links = map (λ (link : LinkCode). link.at) links

  -- The operators of a chain, after a value of a type whose node has this key: what the last of
  -- them gives has the type of the chain.
  pub record ChainOk (owner : Option ℕ) (key : ℕ) (links : List LinkCode) (from : Ty)
      (judged : Judged) : Type 0 where
    pub ty : Ty
    pub has : judged.ty ≡ Some ty
    pub typed : tables.answers.type_at (last_or key (links_at links)) ≡ Some ty
    pub ok : LinksOk tables number functions owner links from ty

  -- a chain of no operators
  pub no_links_ok : (owner : Option ℕ) (key : ℕ) (from : Ty) (judged : Judged)
      → judged.ty ≡ Some from → tables.answers.type_at key ≡ Some from
      → ChainOk owner key [] from judged
  no_links_ok owner key from judged has typed = record {
    ty = from;
    has = has;
    typed = typed;
    ok = no_link_ok owner from;
  }

  -- an operator more, before these
  pub more_links_ok : (owner : Option ℕ) (key : ℕ) (op : InfixOp) (at : ℕ) (code : ExprCode)
      (links : List LinkCode) (from : Ty) (left right last : Judged) → left.ty ≡ Some from
      → ExprOk tables number functions owner code right
      → RowsHold tables.answers (infix_judged op at left right).rows
      → ((infix_judged op at left right).ty ≡ Some (gives (sort_of op))
      → tables.answers.type_at at ≡ Some (gives (sort_of op))
      → ChainOk owner at links (gives (sort_of op)) last)
      → ChainOk owner key (link_of op at code ∷ links) from last
  more_links_ok owner key op at code links from left right last is ok hold rest =
      let one = infix_is op at left right from ok.ty is ok.has hold in
      let chain = rest one.has one.typed in
      record {
        ty = chain.ty;
        has = chain.has;
        typed = chain.typed;
        ok = link_ok owner op at code right links from ok.ty chain.ty ok ok.has one.taken
            one.typed chain.ok;
      }

  -- a chain
  pub chain_ok : (owner : Option ℕ) (first : ExprCode) (rest : List LinkCode)
      (left judged : Judged) (from : Ty) → ExprOk tables number functions owner first left
      → left.ty ≡ Some from → ChainOk owner first.key rest from judged
      → ExprOk tables number functions owner (chain_code tables owner first rest) judged
  chain_ok owner first rest left judged from ok is chain =
      value_ok tables number functions owner (last_or first.key (links_at rest))
      (first.read >>= links_read rest) (first.inside ++ links_inside rest) judged chain.ty
      chain.has chain.typed
      (λ w of p knows.
      safe_then w p first.read (links_read rest)
      (After tables number functions w p from first.inside)
      (After tables number functions w p chain.ty (first.inside ++ links_inside rest))
      (subst (λ ty. CodeGives tables number functions owner first.read ty first.inside)
      (same_Some ok.ty from (sym ok.has ∙ is)) ok.read w of p knows)
      (λ x q in_q after.
      safe_weaker w q (links_read rest x)
      (After tables number functions w q chain.ty (links_inside rest))
      (After tables number functions w p chain.ty (first.inside ++ links_inside rest))
      (chain.ok.read w of q (knows_still tables owner number w p q after.0.1 knows) x
      after.0.0)
      (λ z s in_s last. (
        (last.0.0, keeps_then w p q s after.0.1 last.0.1),
        All-append (BodyFits tables number functions) first.inside (links_inside rest) after.1
            last.1,
      ))))
