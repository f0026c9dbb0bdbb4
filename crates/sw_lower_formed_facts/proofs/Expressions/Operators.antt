-- Operators before a value, and `await`.
use Rattle.std.proofs.Common.{◌≡◌, ℕ, List, [], ◌∷◌, ◌++◌, Option, Some, refl, sym, ap, ◌∙◌, subst}
use Rattle.std.proofs.Common.{Bool, true, false}
use Rattle.std.specs.Prelude.{All, slice_get, if◌then◌else◌}
use Rattle.std.proofs.lemmas.List.Elements.{All-nil, All-cons}
use Rattle.std.proofs.lemmas.Option.{same_Some}
use Rattle.sw_tree.specs.declared.operator.PrefixOp.{PrefixOp}
use Rattle.sw_tree.specs.declared.operator.PrefixOp.TheVariants as prefix_of
use Rattle.sw_types.specs.declared.ty.Ty.{Ty}
use Rattle.sw_graph.specs.Kinds.{un_type, value as kind_of}
use Rattle.sw_graph.specs.Mentions.{reads, set_by}
use Rattle.sw_graph.specs.Payloads.{is_payload}
use Rattle.sw_graph.specs.declared.function.Function.{Function}
use Rattle.sw_graph.specs.declared.function.RegKind.TheVariants.{Plain}
use Rattle.sw_graph.specs.declared.instr.Instr.{Instr}
use Rattle.sw_graph.specs.declared.instr.Instr.TheVariants as instr
use Rattle.sw_graph.specs.declared.instr.Operand.{Operand}
use Rattle.sw_graph.specs.declared.instr.UnOp.{UnOp}
use Rattle.sw_graph.specs.declared.instr.UnOp.TheVariants as un
use Rattle.sw_typing_rules.specs.Expressions.{Judged, prefix_judged, await_judged}
use Rattle.sw_typing_rules.specs.Operators.{prefix_types}
use Rattle.sw_typing_rules.specs.Verdicts.{is_bool, is_int, rows_of, type_in}
use Rattle.sw_typing_rules.specs.Words.{var_types}
use Rattle.sw_typing_rules.specs.declared.verdict.Verdict.TheVariants.{Has, Fails}
use Rattle.sw_lower_plans.specs.Plan.{Numbers}
use Rattle.sw_lower_code.specs.Code.{Code, done, ◌>>=◌}
use Rattle.sw_lower_code.specs.Whole.{Body}
use Rattle.sw_lower_rules.specs.Carriers.{ExprCode}
use Rattle.sw_lower_rules.specs.Expressions.{prefixed, value, awaited}
use Rattle.sw_lower_rules.specs.Tables.{Tables}
use Rattle.sw_lower_rules.specs.Uses.{give, operand}
use Rattle.sw_lower_formed_facts.specs.Forms.{ExprOk}
use Rattle.sw_typing_facts.specs.Rows.{RowsHold}
use Rattle.sw_lower_formed_facts.specs.Ground.{Ground, IsOfGraph}
use Rattle.sw_lower_formed_facts.specs.Safe.{ValueAfter, here}
use Rattle.sw_lower_formed_facts.specs.Whole.{IsSet, Whole}
use Rattle.sw_lower_formed_facts.proofs.Expressions.Values.{After, CodeGives, value_ok}
use Rattle.sw_lower_formed_facts.proofs.Positions.Following.{keeps_then}
use Rattle.sw_lower_formed_facts.proofs.Positions.Steps.{safe_done}
use Rattle.sw_lower_formed_facts.proofs.Positions.Then.{safe_then, safe_weaker}
use Rattle.sw_lower_formed_facts.proofs.Positions.Using.{Fits, give_in}
use Rattle.sw_typing_facts.proofs.Said.Rows.{rows_right, tested, verdict_has}
use Rattle.sw_typing_facts.proofs.Types.Forms.{is_Bool, is_Int}
use Rattle.sw_lower_formed_facts.proofs.Types.Going.{goes_same}

module _ (tables : Tables) (number : Numbers) (functions : List Function)
    (ground : Ground tables number functions) where
  -- An instruction that reads one value gives the value of a node.
  from_one : (owner : Option ℕ) (at : ℕ) (from ty : Ty) (inner : Code Operand)
      (inside : List Body) (judged : Judged) (instr : Operand → ℕ → Instr)
      → judged.ty ≡ Some ty → tables.answers.type_at at ≡ Some ty
      → ((x : Operand) (r : ℕ) → is_payload (instr x r) ≡ false)
      → ((x : Operand) (r : ℕ) → reads (instr x r) ≡ x.reg ∷ [])
      → ((x : Operand) (r : ℕ) → set_by (instr x r) ≡ Some r)
      → ((w : Whole) (of : IsOfGraph tables functions w) (x : Operand) (r : ℕ)
      → slice_get w.regs x.reg ≡ Some (Plain from)
      → slice_get w.regs r ≡ Some (Plain ty) → Fits tables functions w of (instr x r))
      → CodeGives tables number functions owner inner from inside
      → ExprOk tables number functions owner
      (value at (inner >>= λ x. give at ty (instr x)) inside) judged
  from_one owner at from ty inner inside judged instr has typed plain one sets fits safe =
      value_ok tables number functions owner at (inner >>= λ x. give at ty (instr x)) inside judged
      ty has typed
      (λ w of p knows.
      safe_then w p inner (λ x. give at ty (instr x))
      (After tables number functions w p from inside)
      (After tables number functions w p ty inside) (safe w of p knows)
      (λ x q in_q after.
      safe_weaker w q (give at ty (instr x)) (ValueAfter w q ty)
      (After tables number functions w p ty inside)
      (give_in tables functions w of q at ty (instr x) (ground.typed at ty typed) (plain x)
      (λ r kind. fits w of x r after.0.0.kind kind)
      (λ r. subst (All (IsSet w q.writes (here q))) (sym (one x r))
      (All-cons (IsSet w q.writes (here q)) x.reg [] after.0.0.set
      (All-nil (IsSet w q.writes (here q))))) (sets x))
      (λ y s in_s given. (
        (given.0, keeps_then w p q s after.0.1 given.1),
        after.1,
      ))))

  -- the type of what has been tested, and of the result
  prefix_by : (owner : Option ℕ) (at : ℕ) (inner : ExprCode) (judged : Judged) (op : UnOp)
      (test : Bool) (from : Ty) (result : Judged)
      → result.ty ≡ type_in (if test then Has (un_type op) else Fails 402)
      → ExprOk tables number functions owner inner judged
      → judged.ty ≡ Some from → (test ≡ true → from ≡ un_type op)
      → RowsHold tables.answers (judged.rows ++ rows_of at
      (if test then Has (un_type op) else Fails 402))
      → ExprOk tables number functions owner
      (value at (inner.read >>= λ x. give at (un_type op) (λ r. instr.Un at r op x)) inner.inside)
      result
  prefix_by owner at inner judged op test from result types_it ok from_is is hold =
      let rows = rows_right tables.answers judged.rows
      (rows_of at (if test then Has (un_type op) else Fails 402)) hold in
      let passed = tested tables.answers at 402 (un_type op) test rows in
      from_one owner at (un_type op) (un_type op) inner.read inner.inside result
      (λ x r. instr.Un at r op x)
      (types_it ∙ ap (λ t. type_in (if t then Has (un_type op) else Fails 402)) passed)
      (verdict_has tables.answers at (if test then Has (un_type op) else Fails 402) (un_type op)
      judged.rows (ap (λ t. if t then Has (un_type op) else Fails 402) passed) hold)
      (λ x r. refl) (λ x r. refl) (λ x r. refl)
      (λ w of x r kind made. (
        kind,
        goes_same (kind_of (un_type op)) (slice_get w.regs r)
            (un_type op) refl made,
      ))
      (subst (λ ty. CodeGives tables number functions owner inner.read ty inner.inside)
      (same_Some ok.ty from (sym ok.has ∙ from_is) ∙ is passed)
      ok.read)

  -- `!` and `-`
  pub prefix_ok : (owner : Option ℕ) (op : PrefixOp) (at : ℕ) (inner : ExprCode)
      (judged : Judged) → ExprOk tables number functions owner inner judged
      → RowsHold tables.answers (prefix_judged op at judged).rows
      → ExprOk tables number functions owner
      (value at (inner.read >>= prefixed op at) inner.inside) (prefix_judged op at judged)
  prefix_ok owner prefix_of.Not at inner judged ok hold =
      prefix_by owner at inner judged un.Not (is_bool ok.ty) ok.ty
      (prefix_judged prefix_of.Not at judged)
      (ap (λ ty. type_in (prefix_types prefix_of.Not ty)) ok.has) ok ok.has (is_Bool ok.ty)
      (subst (λ ty. RowsHold tables.answers (judged.rows ++ rows_of at
      (prefix_types prefix_of.Not ty))) ok.has hold)
  prefix_ok owner prefix_of.Negate at inner judged ok hold =
      prefix_by owner at inner judged un.Neg (is_int ok.ty) ok.ty
      (prefix_judged prefix_of.Negate at judged)
      (ap (λ ty. type_in (prefix_types prefix_of.Negate ty)) ok.has) ok ok.has (is_Int ok.ty)
      (subst (λ ty. RowsHold tables.answers (judged.rows ++ rows_of at
      (prefix_types prefix_of.Negate ty))) ok.has hold)

  -- An awaited value is the value, with another key.
  pub await_ok : (owner : Option ℕ) (at : ℕ) (inner : ExprCode) (judged : Judged)
      → ExprOk tables number functions owner inner judged
      → RowsHold tables.answers (await_judged at judged).rows
      → ExprOk tables number functions owner (value at (awaited tables owner at inner) inner.inside)
      (await_judged at judged)
  await_ok owner at inner judged ok hold =
      value_ok tables number functions owner at (awaited tables owner at inner) inner.inside
      (await_judged at judged) ok.ty (ap (λ ty. type_in (var_types ty)) ok.has)
      (verdict_has tables.answers at (var_types judged.ty) ok.ty judged.rows
      (ap var_types ok.has) hold)
      (λ w of p knows.
      safe_then w p inner.read (λ x. done (operand x.reg at))
      (After tables number functions w p ok.ty inner.inside)
      (After tables number functions w p ok.ty inner.inside) (ok.read w of p knows)
      (λ x q in_q after.
      safe_done w q (operand x.reg at) (After tables number functions w p ok.ty inner.inside) (
        (
          record { kind = after.0.0.kind; set = after.0.0.set; made = after.0.0.made },
          after.0.1,
        ),
        after.1,
      )))
