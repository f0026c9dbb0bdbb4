-- Calls, by what they mean.
use Rattle.std.proofs.Common.{◌≡◌, ℕ, ◌<◌, true, false, List, [], ◌∷◌, ◌++◌, Option, Some, None}
use Rattle.std.proofs.Common.{length, refl, inl, inr, sym, subst}
use Rattle.std.proofs.lemmas.Bool.{false≢true}
use Rattle.std.proofs.lemmas.List.Elements.{All-nil}
use Rattle.sw_types.specs.declared.ty.Ty.TheVariants as types
use Rattle.sw_graph.specs.declared.instr.Instr.TheVariants as instr
use Rattle.sw_graph.specs.declared.instr.Operand.{Operand}
use Rattle.sw_typing_rules.specs.Expressions.{Judged}
use Rattle.sw_typing_rules.specs.declared.row.Meaning.{Meaning}
use Rattle.sw_typing_rules.specs.declared.row.Meaning.TheVariants as means
use Rattle.sw_isolation_rules.specs.Uses.{func_used, meant, no_base, part_used}
use Rattle.sw_isolation_rules.specs.declared.uses.Context.{Context}
use Rattle.sw_lower_plans.specs.Run.{Making}
use Rattle.sw_lower_code.specs.Code.{Code, andthen}
use Rattle.sw_lower_rules.specs.Carriers.{ArgCode, ExprCode}
use Rattle.sw_lower_rules.specs.Expressions.{args_inside, args_read, call_read, closure_called}
use Rattle.sw_lower_rules.specs.Expressions.{method_read, read_of_base}
use Rattle.sw_lower_rules.specs.Uses.{call_closure, call_func, give, make, make_value, read_global}
use Rattle.sw_lower_rules.specs.Uses.{read_own, read_self, read_var}
use Rattle.sw_lower_formed_facts.specs.Forms.{ExprOk}
use Rattle.sw_lower_placed_facts.specs.Claims.{AreOrdinary, IsOrdinary, ReadPlaced}
use Rattle.sw_lower_placed_facts.specs.Placing.{PlacesAt, PlacesWith}
use Rattle.sw_lower_placed_facts.specs.Settled.{IsSettled}
use Rattle.sw_lower_placed_facts.specs.Hosts.{IsOwnSelf, IsSeenFrom, IsHost, Program, Host}
use Rattle.sw_lower_placed_facts.proofs.Forms.Callees.{NoCase}
use Rattle.sw_lower_placed_facts.proofs.Forms.Bases.{base_read, code_base}
use Rattle.sw_lower_placed_facts.proofs.Forms.Claims.{ArgsPlaced}
use Rattle.sw_lower_placed_facts.proofs.Forms.Joining.{both_ordinary}
use Rattle.sw_lower_placed_facts.proofs.Forms.Values.{Gives, gives_value}
use Rattle.sw_lower_placed_facts.proofs.Placing.Asking.{places_unknown}
use Rattle.sw_lower_placed_facts.proofs.Placing.Joining.{places_any, places_then, places_weaker}
use Rattle.sw_lower_placed_facts.proofs.Placing.Later.{AreBelow}
use Rattle.sw_lower_placed_facts.proofs.Uses.Calls.{call_closure_placed, call_func_placed, make_placed}
use Rattle.sw_lower_placed_facts.proofs.Uses.Calls.{make_value_placed}
use Rattle.sw_lower_placed_facts.proofs.Uses.Members.{read_of_base_placed}
use Rattle.sw_lower_placed_facts.proofs.Uses.Parts.{read_global_placed, read_own_placed}
use Rattle.sw_lower_placed_facts.proofs.Uses.Using.{IsUsed, MadeValue}
use Rattle.sw_lower_placed_facts.proofs.Uses.Variables.{SelfValue, read_self_placed, read_var_placed}

module _ (program : Program) (host : Host) (settled : IsSettled program)
    (is_host : IsHost program host) (context : Context) (seen : IsSeenFrom host context) (at : ℕ)
    (args : List ArgCode) (args_placed : ArgsPlaced program host args) where
  abbrev In_args : Type 0
  In_args = AreOrdinary program (args_inside args)

  -- code after the arguments
  after_args : (next : List Operand → Code Operand) (So : Type 0)
      → ((xs : List Operand) (t : Making) → AreBelow t xs
      → PlacesAt program host t (next xs) MadeValue)
      → (In_args → So) → (s : Making)
      → Gives program host s (andthen (args_read args) next) So
  after_args next So placed gives s =
      places_then s (args_read args) next (λ xs t. AreBelow t xs × In_args)
      (λ x t. (x.reg < length t.made.regs) × So) (args_placed s)
      (λ xs t later so.
      places_weaker t (next xs) MadeValue (λ x t. (x.reg < length t.made.regs) × So)
      (placed xs t so.0) (λ x u after made. (made, gives so.1)))

  -- what holds a closure
  called : (read : Code Operand) (One So : Type 0) → PlacesWith program host read One
      → (One → In_args → So) → (s : Making)
      → Gives program host s (closure_called program.tables host.owner at read args) So
  called read One So placed gives s =
      places_then s read _ (λ x t. One) (λ x t. (x.reg < length t.made.regs) × So) (placed s)
      (λ closure u later one.
      after_args (call_closure program.tables at closure) So
      (λ xs t below. call_closure_placed program host settled is_host at closure xs t)
      (gives one) u)

  -- nothing is called
  unmeant : (So : Type 0) (s : Making)
      → PlacesAt program host s (call_read program.tables host.owner at args None)
      (λ x t. (x.reg < length t.made.regs) × So)
  unmeant So s = places_unknown s (λ x t. (x.reg < length t.made.regs) × So)

  -- a call by a word
  pub call_by : (meaning : Option Meaning) → program.tables.answers.meaning_at at ≡ meaning
      → IsUsed program context at (meant program.tables.world context.owner no_base meaning)
      → (s : Making)
      → Gives program host s (call_read program.tables host.owner at args meaning) In_args
  call_by None is used = unmeant In_args
  call_by (Some (means.Local variable)) is used =
      called (read_var program.tables at variable) (Unit {0}) In_args
      (λ s. places_any s (read_var program.tables at variable) MadeValue
      (read_var_placed program host settled is_host at variable s)) (λ any so. so)
  call_by (Some (means.OwnPart n)) is used =
      called (read_own program.tables host.owner at n) (Unit {0}) In_args
      (λ s. places_any s (read_own program.tables host.owner at n) MadeValue
      (read_own_placed program host settled is_host at n context seen
      (subst (λ around. IsUsed program context at (part_used program.tables.world around n true))
      seen.owner used) s)) (λ any so. so)
  call_by (Some (means.OwnFunc n)) is used = λ s.
      places_then s (read_self program.tables host.owner at) _
      (SelfValue program host settled is_host) (λ x t. (x.reg < length t.made.regs) × In_args)
      (read_self_placed program host settled is_host at s)
      (λ me u later self.
      after_args (λ xs. call_func program.tables at n (me ∷ xs)) In_args
      (λ xs t below. call_func_placed program host settled is_host at n true (me ∷ xs) context
      seen (inr is) used (λ own. self.own) t) (λ so. so) u)
  call_by (Some (means.GlobalOf n)) is used =
      called (read_global program.tables at n) (Unit {0}) In_args
      (λ s. places_any s (read_global program.tables at n) MadeValue
      (read_global_placed program host settled is_host at n context seen used s)) (λ any so. so)
  call_by (Some (means.FuncOf n)) is used =
      after_args (call_func program.tables at n) In_args
      (λ xs t below. call_func_placed program host settled is_host at n false xs context seen
      (inl is) used (λ own. absurd (false≢true own)) t) (λ so. so)
  call_by (Some (means.MakeOf k)) is used =
      after_args (make program.tables at k) In_args
      (λ xs t below. make_placed program host settled is_host at k xs context seen used t below)
      (λ so. so)
  call_by (Some (means.CaseOf k n)) is used = unmeant In_args
  call_by (Some (means.PartOf n)) is used = unmeant In_args
  call_by (Some means.Print) is used =
      after_args (λ xs. give at types.Unit (λ r. instr.Print at r xs)) In_args
      (λ xs t below.
      places_weaker t (give at types.Unit (λ r. instr.Print at r xs)) _ MadeValue
      (gives_value program host at types.Unit (λ r. instr.Print at r xs) (λ r. refl)
      (λ r regs. tt) (λ r. tt) (Unit {0}) tt t) (λ x u later so. so.0)) (λ so. so)
  call_by (Some means.TaskValue) is used = unmeant In_args

  -- a call of a member
  module _ (code : ExprCode) where
    abbrev Inside : Type 0
    Inside = AreOrdinary program (code.inside ++ args_inside args)

    both : AreOrdinary program code.inside → In_args → Inside
    both one other = both_ordinary program code.inside (args_inside args) one other

    -- a method
    pub method_called : (n : ℕ) → program.tables.answers.meaning_at at ≡ Some (means.FuncOf n)
        → ReadPlaced program host code
        → IsUsed program context at (func_used program.tables.world n code.is_self)
        → (s : Making)
        → Gives program host s
        (method_read program.tables host.owner at code args (Some (means.FuncOf n))) Inside
    method_called n is read used s =
        places_then s code.read _
        (λ x t. (x.reg < length t.made.regs)
        × ((code.is_self ≡ true → IsOwnSelf host x) × AreOrdinary program code.inside))
        (λ x t. (x.reg < length t.made.regs) × Inside) (read s)
        (λ me u later so.
        after_args (λ xs. call_func program.tables at n (me ∷ xs)) Inside
        (λ xs t below. call_func_placed program host settled is_host at n code.is_self (me ∷ xs)
        context seen (inl is) used so.1.0 t) (both so.1.1) u)

    -- a property that holds a closure
    pub part_called : (i : ℕ) (judged : Judged)
        → ExprOk program.tables program.numbers program.functions host.owner code judged
        → ReadPlaced program host code
        → IsUsed program context at
        (part_used program.tables.world (code_base program code).shape i code.is_self)
        → (s : Making)
        → Gives program host s
        (method_read program.tables host.owner at code args (Some (means.PartOf i))) Inside
    part_called i judged ok read used =
        called (read_of_base program.tables host.owner at code i)
        (AreOrdinary program code.inside) Inside
        (λ s. places_weaker s (read_of_base program.tables host.owner at code i)
        (λ x t. MadeValue x t × AreOrdinary program code.inside)
        (λ x t. AreOrdinary program code.inside)
        (read_of_base_placed program host settled is_host (AreOrdinary program code.inside) at i
        code ok.ty context seen
        (base_read program host settled is_host code judged ok read) used s)
        (λ x t later so. so.1)) both

    -- a case of an enum
    pub case_called : (k i : ℕ) → code.inside ≡ [] → (s : Making)
        → Gives program host s
        (method_read program.tables host.owner at code args (Some (means.CaseOf k i))) Inside
    case_called k i alone =
        after_args (make_value at k (Some i)) Inside
        (λ xs t below. make_value_placed program host settled is_host at k (Some i) xs t below)
        (both (subst (AreOrdinary program) (sym alone) (All-nil (IsOrdinary program))))

    -- what a value's member means
    pub method_by : (meaning : Meaning) → program.tables.answers.meaning_at at ≡ Some meaning
        → NoCase meaning → (judged : Judged)
        → ExprOk program.tables program.numbers program.functions host.owner code judged
        → ReadPlaced program host code
        → ((n : ℕ) → meaning ≡ means.FuncOf n
        → IsUsed program context at (func_used program.tables.world n code.is_self))
        → ((i : ℕ) → meaning ≡ means.PartOf i → IsUsed program context at
        (part_used program.tables.world (code_base program code).shape i code.is_self))
        → (s : Making)
        → Gives program host s
        (method_read program.tables host.owner at code args (Some meaning)) Inside
    method_by (means.Local variable) is so judged ok read func part = unmeant Inside
    method_by (means.OwnPart n) is so judged ok read func part = unmeant Inside
    method_by (means.OwnFunc n) is so judged ok read func part = unmeant Inside
    method_by (means.GlobalOf n) is so judged ok read func part = unmeant Inside
    method_by (means.FuncOf n) is so judged ok read func part =
        method_called n is read (func n refl)
    method_by (means.MakeOf k) is so judged ok read func part = unmeant Inside
    method_by (means.CaseOf k i) is so judged ok read func part = absurd so
    method_by (means.PartOf i) is so judged ok read func part =
        part_called i judged ok read (part i refl)
    method_by means.Print is so judged ok read func part = unmeant Inside
    method_by means.TaskValue is so judged ok read func part = unmeant Inside
