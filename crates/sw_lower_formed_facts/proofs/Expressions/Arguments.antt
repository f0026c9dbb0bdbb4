-- Arguments: each is read in turn, and goes to the place that takes it.
use Rattle.std.proofs.Common.{◌≡◌, ℕ, List, [], ◌∷◌, Option, Some, refl, sym, ap, ◌∙◌, subst, true}
use Rattle.std.specs.Prelude.{slice_get, map}
use Rattle.std.proofs.lemmas.Bool.{false≢true}
use Rattle.std.proofs.lemmas.List.Elements.{All-nil, All-cons, All-append}
use Rattle.std.proofs.lemmas.Option.{same_Some}
use Rattle.sw_types.specs.declared.ty.Ty.{Ty}
use Rattle.sw_graph.specs.Kinds.{Each, Goes, kinds_of}
use Rattle.sw_graph.specs.declared.function.Function.{Function}
use Rattle.sw_graph.specs.declared.function.RegKind.{RegKind}
use Rattle.sw_graph.specs.declared.function.RegKind.TheVariants.{Plain}
use Rattle.sw_graph.specs.declared.instr.Operand.{Operand}
use Rattle.sw_typing_rules.specs.Calls.{Slot, labels_fit, same_label, types_fit}
use Rattle.sw_typing_rules.specs.Expressions.{Judged}
use Rattle.sw_typing_rules.specs.Verdicts.{is_accepted}
use Rattle.sw_typing_rules.specs.declared.verdict.Given.{Given}
use Rattle.sw_typing_rules.proofs.Acceptance.{fits_accepts}
use Rattle.sw_typing_rules.proofs.Steps.{and_left, and_right}
use Rattle.sw_lower_plans.specs.Plan.{Numbers}
use Rattle.sw_lower_code.specs.Code.{done, each, ◌>>=◌}
use Rattle.sw_lower_code.specs.Whole.{Body}
use Rattle.sw_lower_rules.specs.Carriers.{ArgCode, ExprCode}
use Rattle.sw_lower_rules.specs.Expressions.{args_inside, args_read}
use Rattle.sw_lower_rules.specs.Tables.{Tables}
use Rattle.sw_lower_formed_facts.specs.Forms.{AreValues, ArgsOk, BodiesFit, BodyFits, ExprOk}
use Rattle.sw_lower_formed_facts.specs.Safe.{Keeps, Position, SafeAt, ValueAfter, here}
use Rattle.sw_lower_formed_facts.specs.Whole.{IsSet, Whole}
use Rattle.sw_lower_formed_facts.proofs.Expressions.Parts.{AreSet}
use Rattle.sw_lower_formed_facts.proofs.Positions.Following.{keeps_self, keeps_then, knows_still}
use Rattle.sw_lower_formed_facts.proofs.Positions.Following.{value_stays}
use Rattle.sw_lower_formed_facts.proofs.Positions.Steps.{safe_done}
use Rattle.sw_lower_formed_facts.proofs.Positions.Then.{safe_then}
use Rattle.sw_lower_formed_facts.proofs.Types.Going.{goes_by}

-- the types of arguments, each of which has one
abbrev pub HaveTypes : List Given → List Ty → Type 0
HaveTypes [] [] = Unit {0}
HaveTypes (one ∷ given) (ty ∷ tys) = (one.ty ≡ Some ty) × HaveTypes given tys
HaveTypes _ _ = ⊥

-- Their registers are set.
pub values_set : (w : Whole) (q : Position) (tys : List Ty) (xs : List Operand)
    → AreValues w q tys xs → AreSet w q xs
values_set w q [] [] are = All-nil (IsSet w q.writes (here q))
values_set w q [] (x ∷ xs) are = absurd are
values_set w q (ty ∷ tys) [] are = absurd are
values_set w q (ty ∷ tys) (x ∷ xs) are =
    All-cons (IsSet w q.writes (here q)) x.reg (map (λ (one : Operand). one.reg) xs) are.0.set
    (values_set w q tys xs are.1)

-- the kinds of what parameters take
abbrev pub slot_kinds : List Slot → List RegKind
slot_kinds slots = map (λ (slot : Slot). Plain slot.ty) slots

-- Values whose types fit go to the parameters.
pub values_go : (w : Whole) (q : Position) (slots : List Slot) (given : List Given)
    (tys : List Ty) (xs : List Operand) → labels_fit slots given ≡ true
    → types_fit slots given ≡ true → HaveTypes given tys → AreValues w q tys xs
    → Each Goes (kinds_of w.regs xs) (slot_kinds slots)
values_go w q [] [] [] [] labels types have are = tt
values_go w q [] [] [] (x ∷ xs) labels types have are = are
values_go w q [] [] (ty ∷ tys) xs labels types have are = absurd have
values_go w q [] (one ∷ given) tys xs labels types have are = absurd (false≢true labels)
values_go w q (slot ∷ slots) [] tys xs labels types have are = absurd (false≢true labels)
values_go w q (slot ∷ slots) (one ∷ given) [] xs labels types have are = absurd have
values_go w q (slot ∷ slots) (one ∷ given) (ty ∷ tys) [] labels types have are = are
values_go w q (slot ∷ slots) (one ∷ given) (ty ∷ tys) (x ∷ xs) labels types have are = (
  goes_by (slice_get w.regs x.reg) (Some (Plain slot.ty)) ty slot.ty are.0.kind refl
      (fits_accepts ty slot.ty (ap (λ found. is_accepted found slot.ty) (sym have.0)
      ∙ and_left (is_accepted one.ty slot.ty) (types_fit slots given) types)),
  values_go w q slots given tys xs
      (and_right (same_label slot.label one.label) (labels_fit slots given) labels)
      (and_right (is_accepted one.ty slot.ty) (types_fit slots given) types) have.1 are.1,
)

module _ (tables : Tables) (number : Numbers) (functions : List Function) where
  -- what is known after the code of arguments and their bodies
  abbrev pub AfterAll : Whole → Position → List Ty → List Body → List Operand → Position → Type 0
  AfterAll w p tys inside xs q =
      AreValues w q tys xs × (Keeps w p q × BodiesFit tables number functions inside)

  -- the argument of an expression
  abbrev pub arg_of : ExprCode → ArgCode
  arg_of code = record { read = code.read; inside = code.inside }

  -- no arguments
  pub no_arg_ok : (owner : Option ℕ) → ArgsOk tables number functions owner [] []
  unfolding each
  no_arg_ok owner = record {
    read = λ w of p knows.
        safe_done w p [] (AfterAll w p [] [])
        (tt, (keeps_self w p, All-nil (BodyFits tables number functions)));
  }

  -- an argument before others
  pub arg_ok : (owner : Option ℕ) (code : ExprCode) (judged : Judged) (args : List ArgCode)
      (ty : Ty) (tys : List Ty) → ExprOk tables number functions owner code judged
      → judged.ty ≡ Some ty → ArgsOk tables number functions owner args tys
      → ArgsOk tables number functions owner (arg_of code ∷ args) (ty ∷ tys)
  unfolding each
  arg_ok owner code judged args ty tys ok is rest = record {
    read = λ w of p knows.
        safe_then w p code.read (λ y. args_read args >>= λ ys. done (y ∷ ys))
        (λ x q. ValueAfter w p ty x q × BodiesFit tables number functions code.inside)
        (AfterAll w p (ty ∷ tys) (args_inside (arg_of code ∷ args)))
        (subst (λ given. SafeAt w p code.read (λ x q. ValueAfter w p given x q
        × BodiesFit tables number functions code.inside))
        (same_Some ok.ty ty (sym ok.has ∙ is)) (ok.read w of p knows))
        (λ y q in_q after.
        safe_then w q (args_read args) (λ ys. done (y ∷ ys))
        (AfterAll w q tys (args_inside args))
        (AfterAll w p (ty ∷ tys) (args_inside (arg_of code ∷ args)))
        (rest.read w of q (knows_still tables owner number w p q after.0.1 knows))
        (λ ys s in_s more.
        safe_done w s (y ∷ ys) (AfterAll w p (ty ∷ tys) (args_inside (arg_of code ∷ args))) (
          (value_stays w q s ty y more.1.0.follows after.0.0, more.0),
          (
            keeps_then w p q s after.0.1 more.1.0,
            All-append (BodyFits tables number functions) code.inside (args_inside args) after.1
                more.1.1,
          ),
        )));
  }
