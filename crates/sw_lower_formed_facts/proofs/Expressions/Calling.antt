-- The code of calls: of functions, initialisers and closures, of what makes values, and of `print`.
use Rattle.std.proofs.Common.{◌≡◌, ℕ, List, [], ◌∷◌, ◌++◌, Option, Some, None, refl, sym, ap, ◌∙◌}
use Rattle.std.proofs.Common.{subst, Bool, true, inl, inr}
use Rattle.std.specs.List.{list_all}
use Rattle.std.specs.Prelude.{All, ◌⊎◌, IsTrue, cond, map, option_and_then, slice_get}
use Rattle.std.proofs.lemmas.List.Elements.{All-nil, All-cons, All-append}
use Rattle.std.proofs.lemmas.Option.{same_Some}
use Rattle.sw_types.specs.declared.isolation.CallKind.TheVariants as kinds
use Rattle.sw_types.specs.declared.shape.Part.{Part}
use Rattle.sw_types.specs.declared.shape.Shape.{Shape}
use Rattle.sw_types.specs.declared.shape.ShapeKind.TheVariants as shapes
use Rattle.sw_types.specs.declared.ty.Ty.{Ty, out-Ty}
use Rattle.sw_types.specs.declared.ty.Ty.TheOpen as layer
use Rattle.sw_types.specs.declared.ty.Ty.TheVariants as types
use Rattle.sw_graph.specs.Kinds.{Each, EachOf, Goes, form_of, given as gives_by, is_printable}
use Rattle.sw_graph.specs.Kinds.{is_struct, kinds_of, made_of, params, parts, value as kind_of}
use Rattle.sw_graph.specs.declared.function.Function.{Function}
use Rattle.sw_graph.specs.declared.function.RegKind.{RegKind}
use Rattle.sw_graph.specs.declared.function.RegKind.TheVariants.{Plain}
use Rattle.sw_graph.specs.declared.instr.Instr.TheVariants as instr
use Rattle.sw_graph.specs.declared.instr.Operand.{Operand}
use Rattle.sw_decls.specs.declared.signature.Signature.{Signature}
use Rattle.sw_decls.specs.declared.signature.Param.{Param}
use Rattle.sw_typing_rules.specs.Calls.{labels_fit, param_slot, part_slot, printable_type}
use Rattle.sw_typing_rules.specs.Calls.{types_fit, unlabelled}
use Rattle.sw_typing_rules.specs.Verdicts.{is_bool, is_int}
use Rattle.sw_typing_rules.specs.declared.verdict.Given.{Given}
use Rattle.sw_typing_rules.proofs.Steps.{and_left, and_right}
use Rattle.sw_isolation_rules.specs.Uses.{maker_at}
use Rattle.sw_lower_plans.specs.Plan.{Numbers}
use Rattle.sw_lower_code.specs.Code.{Code, known, ◌>>=◌}
use Rattle.sw_lower_code.specs.Whole.{Body}
use Rattle.sw_lower_rules.specs.Carriers.{ArgCode}
use Rattle.sw_lower_rules.specs.Expressions.{args_inside, args_read, closure_called}
use Rattle.sw_lower_rules.specs.Tables.{Tables, plain}
use Rattle.sw_lower_rules.specs.Uses.{call_closure, call_func, call_signature, give, make, make_by}
use Rattle.sw_lower_rules.specs.Uses.{make_value, no_func, no_shape, shape_at, typed}
use Rattle.sw_lower_formed_facts.specs.Forms.{AreValues, ArgsOk, BodiesFit, BodyFits}
use Rattle.sw_lower_formed_facts.specs.Ground.{Ground, IsDeclaredIn, IsHeader, IsOfGraph, Knows}
use Rattle.sw_lower_formed_facts.specs.Safe.{IsValue, Position, SafeAt, ValueAfter, here}
use Rattle.sw_lower_formed_facts.specs.Whole.{IsSet, Whole}
use Rattle.sw_lower_formed_facts.proofs.Expressions.Arguments.{AfterAll, HaveTypes, slot_kinds, values_go}
use Rattle.sw_lower_formed_facts.proofs.Expressions.Arguments.{values_set}
use Rattle.sw_lower_formed_facts.proofs.Expressions.Chains.{bool_prints, int_prints, one_of}
use Rattle.sw_lower_formed_facts.proofs.Expressions.Parts.{AreSet, call_fits}
use Rattle.sw_lower_formed_facts.proofs.Expressions.Values.{CodeGives}
use Rattle.sw_lower_formed_facts.proofs.Positions.Asking.{known_then, number_then}
use Rattle.sw_lower_formed_facts.proofs.Positions.Following.{keeps_then, knows_still, value_stays}
use Rattle.sw_lower_formed_facts.proofs.Positions.Then.{safe_then, safe_weaker}
use Rattle.sw_lower_formed_facts.proofs.Positions.Using.{give_in}
use Rattle.sw_lower_formed_facts.proofs.Types.Going.{goes_same}

-- what parameters take, by their types
pub unlabelled_kinds : (tys : List Ty) → slot_kinds (map unlabelled tys) ≡ map Plain tys
unlabelled_kinds [] = refl
unlabelled_kinds (ty ∷ tys) = ap (λ kinds. Plain ty ∷ kinds) (unlabelled_kinds tys)

-- the same of the parameters of a function
pub param_kinds : (params : List Param) → slot_kinds (map param_slot params)
    ≡ map (λ (param : Param). Plain param.ty) params
param_kinds [] = refl
param_kinds (param ∷ params) = ap (λ kinds. Plain param.ty ∷ kinds) (param_kinds params)

-- and of the properties of a struct
pub part_kinds : (parts : List Part) → slot_kinds (map part_slot parts)
    ≡ map (λ (part : Part). Plain part.ty) parts
part_kinds [] = refl
part_kinds (part ∷ parts) = ap (λ kinds. Plain part.ty ∷ kinds) (part_kinds parts)

-- Values that can be printed are in registers that can.
pub values_print : (w : Whole) (q : Position) (given : List Given) (tys : List Ty)
    (xs : List Operand) → HaveTypes given tys → AreValues w q tys xs
    → list_all (λ (one : Given). printable_type one.ty) given ≡ true
    → All (λ kind. IsTrue (is_printable kind)) (kinds_of w.regs xs)
values_print w q [] [] [] have are printable = All-nil (λ kind. IsTrue (is_printable kind))
values_print w q [] [] (x ∷ xs) have are printable = absurd are
values_print w q [] (ty ∷ tys) xs have are printable = absurd have
values_print w q (one ∷ given) [] xs have are printable = absurd have
values_print w q (one ∷ given) (ty ∷ tys) [] have are printable = absurd are
values_print w q (one ∷ given) (ty ∷ tys) (x ∷ xs) have are printable =
    All-cons (λ kind. IsTrue (is_printable kind)) (slice_get w.regs x.reg) (kinds_of w.regs xs)
    (subst (λ kind. IsTrue (is_printable kind)) (sym are.0.kind)
    (by (one_of (is_int ty) (is_bool ty) (ap printable_type (sym have.0)
    ∙ and_left (printable_type one.ty) rest printable))))
    (values_print w q given tys xs have.1 are.1 (and_right (printable_type one.ty) rest printable))
  where
    rest : Bool
    rest = list_all (λ (one : Given). printable_type one.ty) given

    by : (is_int ty ≡ true) ⊎ (is_bool ty ≡ true) → IsTrue (is_printable (kind_of ty))
    by (inl is) = int_prints ty is
    by (inr is) = bool_prints ty is

module _ (tables : Tables) (number : Numbers) (functions : List Function)
    (ground : Ground tables number functions) (owner : Option ℕ) where
  -- a function that is known
  pub signature_in : (w : Whole) → IsOfGraph tables functions w → (p : Position)
      → Knows tables owner number w p → (at : ℕ) (xs : List Operand) (func : Signature)
      (takes : List RegKind)
      → ((f : ℕ) → number (plain func.key.at) ≡ Some f → IsHeader functions takes func.result f)
      → IsDeclaredIn tables func.result → Each Goes (kinds_of w.regs xs) takes → AreSet w p xs
      → SafeAt w p (call_signature tables at xs func) (ValueAfter w p func.result)
  signature_in w of p knows at xs func takes header within go set =
      number_then w p (plain func.key.at)
      (λ f. known kinds.Plain (tables.isolation.kind_at at)
      >>= λ kind. give at func.result (λ r. instr.Call at r kind f xs))
      (ValueAfter w p func.result)
      (λ f f_is.
      known_then w p kinds.Plain (tables.isolation.kind_at at)
      (λ kind. give at func.result (λ r. instr.Call at r kind f xs)) (ValueAfter w p func.result)
      (λ kind kind_is.
      give_in tables functions w of p at func.result (λ r. instr.Call at r kind f xs) within
      (λ r. refl)
      (λ r r_is. call_fits tables functions w of f takes func.result
      (header f (ap (λ names. names (plain func.key.at)) (sym knows.numbers) ∙ f_is)) xs go at r
      kind r_is)
      (λ r. set) (λ r. refl)))

  -- a function by its number
  pub call_func_in : (w : Whole) → IsOfGraph tables functions w → (p : Position)
      → Knows tables owner number w p → (at n : ℕ) (xs : List Operand) (func : Signature)
      (takes : List RegKind) → slice_get tables.world.funcs n ≡ Some func
      → ((f : ℕ) → number (plain func.key.at) ≡ Some f → IsHeader functions takes func.result f)
      → Each Goes (kinds_of w.regs xs) takes → AreSet w p xs
      → SafeAt w p (call_func tables at n xs) (ValueAfter w p func.result)
  unfolding call_func
  call_func_in w of p knows at n xs func takes func_is header go set =
      known_then w p no_func (slice_get tables.world.funcs n) (call_signature tables at xs)
      (ValueAfter w p func.result)
      (λ found found_is.
      subst (λ f. SafeAt w p (call_signature tables at xs f) (ValueAfter w p func.result))
      (same_Some func found (sym func_is ∙ found_is))
      (signature_in w of p knows at xs func takes header (ground.results n func func_is) go set))

  -- the initialiser of a class or an actor
  pub maker_in : (w : Whole) → IsOfGraph tables functions w → (p : Position)
      → Knows tables owner number w p → (at k : ℕ) (xs : List Operand) (func : Signature)
      (takes : List RegKind) → maker_at tables.world k ≡ Some func
      → ((f : ℕ) → number (plain func.key.at) ≡ Some f → IsHeader functions takes func.result f)
      → IsDeclaredIn tables func.result → Each Goes (kinds_of w.regs xs) takes → AreSet w p xs
      → SafeAt w p (known no_func (maker_at tables.world k) >>= call_signature tables at xs)
      (ValueAfter w p func.result)
  maker_in w of p knows at k xs func takes func_is header within go set =
      known_then w p no_func (maker_at tables.world k) (call_signature tables at xs)
      (ValueAfter w p func.result)
      (λ found found_is.
      subst (λ f. SafeAt w p (call_signature tables at xs f) (ValueAfter w p func.result))
      (same_Some func found (sym func_is ∙ found_is))
      (signature_in w of p knows at xs func takes header within go set))

  -- a closure
  pub closure_in : (w : Whole) → IsOfGraph tables functions w → (p : Position) (at : ℕ) (ty : Ty)
      (marked : Bool) (tys : List Ty) (result : Ty) (x : Operand) (xs : List Operand)
      → out-Ty ty ≡ layer.Func marked tys result → tables.answers.type_at at ≡ Some result
      → IsValue w p ty x → Each Goes (kinds_of w.regs xs) (map Plain tys) → AreSet w p xs
      → SafeAt w p (call_closure tables at x xs) (ValueAfter w p result)
  unfolding call_closure typed
  closure_in w of p at ty marked tys result x xs form typed_is value go set =
      known_then w p types.Unit (tables.answers.type_at at)
      (λ ty. give at ty (λ r. instr.CallClosure at r x xs)) (ValueAfter w p result)
      (λ found found_is.
      subst (λ ty. SafeAt w p (give at ty (λ r. instr.CallClosure at r x xs))
      (ValueAfter w p result)) (same_Some result found (sym typed_is ∙ found_is))
      (give_in tables functions w of p at result (λ r. instr.CallClosure at r x xs)
      (ground.typed at result typed_is) (λ r. refl)
      (λ r r_is. (
        subst (EachOf Goes (kinds_of w.regs xs)) (sym (ap params form_is)) go,
        goes_same (gives_by (form_of (slice_get w.regs x.reg))) (slice_get w.regs r) result
            (ap gives_by form_is) r_is,
      ))
      (λ r. All-cons (IsSet w p.writes (here p)) x.reg (map (λ (one : Operand). one.reg) xs)
      value.set set)
      (λ r. refl))) where
        form_is : form_of (slice_get w.regs x.reg) ≡ Some (layer.Func marked tys result)
        form_is = ap form_of value.kind ∙ ap Some form

  -- a struct, or a case of an enum
  pub make_value_in : (w : Whole) → IsOfGraph tables functions w → (p : Position) (at k : ℕ)
      (tag : Option ℕ) (xs : List Operand) → IsDeclaredIn tables (types.Named k)
      → EachOf Goes (kinds_of w.regs xs) (made_of tables.world.shapes k tag) → AreSet w p xs
      → SafeAt w p (make_value at k tag xs) (ValueAfter w p (types.Named k))
  unfolding make_value
  make_value_in w of p at k tag xs within go set =
      give_in tables functions w of p at (types.Named k) (λ r. instr.Make at r k tag xs) within
      (λ r. refl)
      (λ r r_is. (
        go,
        goes_same (kind_of (types.Named k)) (slice_get w.regs r) (types.Named k) refl r_is,
      ))
      (λ r. set) (λ r. refl)

  -- what a struct is made of
  pub struct_of : (k : ℕ) (shape : Shape) → slice_get tables.world.shapes k ≡ Some shape
      → shape.kind ≡ shapes.Struct
      → made_of tables.world.shapes k None ≡ Some (map (λ (part : Part). Plain part.ty) shape.parts)
  struct_of k shape at is =
      ap (λ found. parts (option_and_then
      (λ (s : Shape). cond (is_struct s.kind) (Some s) None) found)) at
      ∙ ap (λ kind. parts (cond (is_struct kind) (Some shape) None)) is

  -- what a type with a number is made by
  pub make_in : (w : Whole) (p : Position) (at k : ℕ) (xs : List Operand)
      (Post : Operand → Position → Type 0)
      → ((shape : Shape) → slice_get tables.world.shapes k ≡ Some shape
      → SafeAt w p (make_by tables shape.kind at k xs) Post)
      → SafeAt w p (make tables at k xs) Post
  unfolding make shape_at
  make_in w p at k xs Post rule =
      known_then w p no_shape (slice_get tables.world.shapes k)
      (λ s. make_by tables s.kind at k xs) Post rule

  -- `print`
  pub print_in : (w : Whole) → IsOfGraph tables functions w → (p : Position) (at : ℕ)
      (xs : List Operand) → tables.answers.type_at at ≡ Some types.Unit
      → All (λ kind. IsTrue (is_printable kind)) (kinds_of w.regs xs) → AreSet w p xs
      → SafeAt w p (give at types.Unit (λ r. instr.Print at r xs)) (ValueAfter w p types.Unit)
  print_in w of p at xs typed_is print set =
      give_in tables functions w of p at types.Unit (λ r. instr.Print at r xs)
      (ground.typed at types.Unit typed_is) (λ r. refl)
      (λ r r_is. (
        print,
        goes_same (kind_of types.Unit) (slice_get w.regs r) types.Unit refl r_is,
      ))
      (λ r. set) (λ r. refl)

  -- arguments, and after them a call
  pub after_args : (args : List ArgCode) (tys : List Ty) (next : List Operand → Code Operand)
      (ty : Ty) → ArgsOk tables number functions owner args tys
      → ((w : Whole) → IsOfGraph tables functions w → (p : Position) → Knows tables owner number w p
      → (xs : List Operand) → AreValues w p tys xs → SafeAt w p (next xs) (ValueAfter w p ty))
      → CodeGives tables number functions owner (args_read args >>= next) ty (args_inside args)
  after_args args tys next ty ok rule w of p knows =
      safe_then w p (args_read args) next
      (AfterAll tables number functions w p tys (args_inside args))
      (λ x q. ValueAfter w p ty x q × BodiesFit tables number functions (args_inside args))
      (ok.read w of p knows)
      (λ xs q in_q after.
      safe_weaker w q (next xs) (ValueAfter w q ty)
      (λ x s. ValueAfter w p ty x s × BodiesFit tables number functions (args_inside args))
      (rule w of q (knows_still tables owner number w p q after.1.0 knows) xs after.0)
      (λ x s in_s got. ((got.0, keeps_then w p q s after.1.0 got.1), after.1.1)))

  -- a value and arguments, and after them a call
  pub after_value_and_args : (read : Code Operand) (inside : List Body) (from : Ty)
      (args : List ArgCode) (tys : List Ty) (next : Operand → List Operand → Code Operand)
      (ty : Ty) → CodeGives tables number functions owner read from inside
      → ArgsOk tables number functions owner args tys
      → ((w : Whole) → IsOfGraph tables functions w → (p : Position) → Knows tables owner number w p
      → (x : Operand) (xs : List Operand) → IsValue w p from x → AreValues w p tys xs
      → SafeAt w p (next x xs) (ValueAfter w p ty))
      → CodeGives tables number functions owner (read >>= λ x. args_read args >>= next x) ty
      (inside ++ args_inside args)
  after_value_and_args read inside from args tys next ty first ok rule w of p knows =
      safe_then w p read (λ x. args_read args >>= next x)
      (λ x q. ValueAfter w p from x q × BodiesFit tables number functions inside)
      (λ x q. ValueAfter w p ty x q
      × BodiesFit tables number functions (inside ++ args_inside args)) (first w of p knows)
      (λ x q in_q one.
      safe_then w q (args_read args) (next x)
      (AfterAll tables number functions w q tys (args_inside args))
      (λ x q. ValueAfter w p ty x q
      × BodiesFit tables number functions (inside ++ args_inside args))
      (ok.read w of q (knows_still tables owner number w p q one.0.1 knows))
      (λ xs s in_s after.
      let keeps = keeps_then w p q s one.0.1 after.1.0 in
      safe_weaker w s (next x xs) (ValueAfter w s ty)
      (λ x q. ValueAfter w p ty x q
      × BodiesFit tables number functions (inside ++ args_inside args))
      (rule w of s (knows_still tables owner number w p s keeps knows) x xs
      (value_stays w q s from x after.1.0.follows one.0.0) after.0)
      (λ y t in_t got. (
        (got.0, keeps_then w p s t keeps got.1),
        All-append (BodyFits tables number functions) inside (args_inside args) one.1 after.1.1,
      ))))

  -- what holds a closure
  pub closure_called_in : (at : ℕ) (ty : Ty) (marked : Bool) (params : List Ty) (result : Ty)
      (read : Code Operand) (inside : List Body) (args : List ArgCode) (tys : List Ty)
      (given : List Given) → out-Ty ty ≡ layer.Func marked params result
      → tables.answers.type_at at ≡ Some result
      → labels_fit (map unlabelled params) given ≡ true
      → types_fit (map unlabelled params) given ≡ true → HaveTypes given tys
      → CodeGives tables number functions owner read ty inside
      → ArgsOk tables number functions owner args tys
      → CodeGives tables number functions owner (closure_called tables owner at read args) result
      (inside ++ args_inside args)
  closure_called_in at ty marked params result read inside args tys given form typed_is labels
      fit have first ok =
      after_value_and_args read inside ty args tys (call_closure tables at) result first ok
      (λ w of p knows x xs value are.
      closure_in w of p at ty marked params result x xs form typed_is value
      (subst (Each Goes (kinds_of w.regs xs)) (unlabelled_kinds params)
      (values_go w p (map unlabelled params) given tys xs labels fit have are))
      (values_set w p tys xs are))
