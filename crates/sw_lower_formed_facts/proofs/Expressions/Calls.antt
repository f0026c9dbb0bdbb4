-- The code of a call by a word is safe.
use Rattle.std.proofs.Common.{◌≡◌, ℕ, List, [], ◌∷◌, ◌++◌, Option, Some, None, refl, sym, ap, ◌∙◌}
use Rattle.std.proofs.Common.{subst, inl, inr}
use Rattle.std.specs.Prelude.{◌⊎◌, map, slice_get}
use Rattle.std.proofs.lemmas.List.Elements.{All-nil, All-cons}
use Rattle.std.proofs.lemmas.Option.{same_Some}
use Rattle.sw_tree.specs.declared.name.Name.{Name}
use Rattle.sw_types.specs.declared.shape.Part.{Part}
use Rattle.sw_types.specs.declared.shape.Shape.{Shape}
use Rattle.sw_types.specs.declared.shape.ShapeKind.{ShapeKind}
use Rattle.sw_types.specs.declared.shape.ShapeKind.TheVariants as shapes
use Rattle.sw_types.specs.declared.ty.Ty.{Ty, out-Ty}
use Rattle.sw_types.specs.declared.ty.Ty.TheOpen as layer
use Rattle.sw_types.specs.declared.ty.Ty.TheVariants as types
use Rattle.sw_graph.specs.Kinds.{Each, EachOf, Goes, kinds_of}
use Rattle.sw_graph.specs.declared.function.Function.{Function}
use Rattle.sw_graph.specs.declared.function.RegKind.TheVariants.{Plain}
use Rattle.sw_graph.specs.declared.instr.Operand.{Operand}
use Rattle.sw_graph.specs.declared.instr.Instr.TheVariants as instr
use Rattle.sw_decl_words.specs.declared.words.Meaning.TheVariants as word
use Rattle.sw_decls.specs.declared.signature.GlobalVar.{GlobalVar}
use Rattle.sw_decls.specs.declared.signature.Signature.{Signature}
use Rattle.sw_typing_rules.specs.Calls.{Callee, Prints, Uncallable, func_callee, global_callee}
use Rattle.sw_typing_rules.specs.Calls.{param_slot, part_callee, part_slot, struct_callee}
use Rattle.sw_typing_rules.specs.Calls.{unlabelled, value_layer, variable_callee, word_callee}
use Rattle.sw_typing_rules.specs.Expressions.{Passed, call_callee, call_judged}
use Rattle.sw_typing_rules.specs.Words.{Nothing, OwnCase, OwnMethod, OwnProperty, Printing, Sense}
use Rattle.sw_typing_rules.specs.Words.{Setting, Top, Variable, sense}
use Rattle.sw_typing_rules.specs.Worlds.{and_then, item, part_at}
use Rattle.sw_typing_rules.specs.declared.row.Meaning.{Meaning}
use Rattle.sw_typing_rules.specs.declared.row.Meaning.TheVariants as means
use Rattle.sw_typing_rules.specs.declared.row.Row.{Row}
use Rattle.sw_typing_rules.specs.declared.scope.Var.{Var}
use Rattle.sw_typing_rules.specs.declared.verdict.Given.{Given}
use Rattle.sw_isolation_rules.specs.Uses.{maker_at}
use Rattle.sw_lower_plans.specs.Plan.{Numbers}
use Rattle.sw_lower_code.specs.Code.{Code, ◌>>=◌}
use Rattle.sw_lower_code.specs.Whole.{Body}
use Rattle.sw_lower_rules.specs.Carriers.{ArgCode}
use Rattle.sw_lower_rules.specs.Expressions.{args_inside, args_read, call_read, closure_called}
use Rattle.sw_lower_rules.specs.Expressions.{value}
use Rattle.sw_lower_rules.specs.Tables.{Tables}
use Rattle.sw_lower_rules.specs.Uses.{call_func, give, make, make_by, read_global, read_own}
use Rattle.sw_lower_rules.specs.Uses.{read_self, read_var}
use Rattle.sw_lower_formed_facts.specs.Forms.{ArgsOk, BodiesFit, BodyFits, ExprOk, VarHolds}
use Rattle.sw_typing_facts.specs.Rows.{RowsHold}
use Rattle.sw_lower_formed_facts.specs.Forms.{VarsHold, Wherever}
use Rattle.sw_lower_formed_facts.specs.Ground.{Ground, params_of}
use Rattle.sw_lower_formed_facts.specs.Safe.{Position, SafeAt, ValueAfter, here}
use Rattle.sw_lower_formed_facts.specs.Whole.{IsSet, Whole}
use Rattle.sw_lower_formed_facts.proofs.Expressions.Arguments.{HaveTypes, values_go, values_set}
use Rattle.sw_lower_formed_facts.proofs.Expressions.Callees.{Fitted, func_ok, meaning_is, never_called}
use Rattle.sw_lower_formed_facts.proofs.Expressions.Callees.{printed, prints_ok, takes_ok}
use Rattle.sw_lower_formed_facts.proofs.Expressions.Calling.{after_args, after_value_and_args, call_func_in}
use Rattle.sw_lower_formed_facts.proofs.Expressions.Calling.{closure_called_in, make_in, make_value_in}
use Rattle.sw_lower_formed_facts.proofs.Expressions.Calling.{maker_in, param_kinds, part_kinds, print_in}
use Rattle.sw_lower_formed_facts.proofs.Expressions.Calling.{struct_of, values_print}
use Rattle.sw_lower_formed_facts.proofs.Expressions.Parts.{read_global_in, read_own_in}
use Rattle.sw_lower_formed_facts.proofs.Expressions.Senses.{IsMethod, IsOwnMethod, SenseOk, sense_ok}
use Rattle.sw_lower_formed_facts.proofs.Expressions.Values.{CodeGives}
use Rattle.sw_lower_formed_facts.proofs.Expressions.Variables.{read_self_in, read_typed}
use Rattle.sw_typing_facts.proofs.Lists.Found.{found_in_found}
use Rattle.sw_lower_formed_facts.proofs.Positions.Then.{safe_weaker}
use Rattle.sw_typing_facts.proofs.Programs.WordKinds.{WordKinds}
use Rattle.sw_lower_formed_facts.proofs.Types.Going.{goes_same}
use Rattle.sw_typing_facts.proofs.Types.Within.{shape_within}

module _ (tables : Tables) (number : Numbers) (functions : List Function)
    (ground : Ground tables number functions) (owner : Option ℕ) where
  -- code that gives a value and has no bodies
  no_inside : (read : Code Operand) (ty : Ty) → Wherever tables number functions owner
      (λ w p. SafeAt w p read (ValueAfter w p ty))
      → CodeGives tables number functions owner read ty []
  no_inside read ty safe w of p knows =
      safe_weaker w p read (ValueAfter w p ty)
      (λ x q. ValueAfter w p ty x q × BodiesFit tables number functions []) (safe w of p knows)
      (λ x q in_q got. (got, All-nil (BodyFits tables number functions)))

  -- the call of a value, whose code is that of a closure's call
  pub value_called : (at : ℕ) (before : List Row) (passed : Passed) (args : List ArgCode)
      (tys : List Ty) (meaning : Meaning) (code : ℕ) (ty : Ty) (read : Code Operand)
      (inside : List Body) (call : Code Operand) → HaveTypes passed.given tys
      → ArgsOk tables number functions owner args tys
      → CodeGives tables number functions owner read ty inside
      → (tables.answers.meaning_at at ≡ Some meaning
      → call ≡ closure_called tables owner at read args)
      → RowsHold tables.answers
      (call_judged (value_layer meaning code (out-Ty ty)) at before passed).rows
      → ExprOk tables number functions owner (value at call (inside ++ args_inside args))
      (call_judged (value_layer meaning code (out-Ty ty)) at before passed)
  value_called at before passed args tys meaning code ty read inside call have ok safe code_is =
      by (out-Ty ty) refl where
        never : RowsHold tables.answers (call_judged (Uncallable code) at before passed).rows → ⊥
        never hold = never_called tables.answers code at before passed tys have hold

        by : (form : layer.Ty-F Ty) → out-Ty ty ≡ form → RowsHold tables.answers
            (call_judged (value_layer meaning code form) at before passed).rows
            → ExprOk tables number functions owner (value at call (inside ++ args_inside args))
            (call_judged (value_layer meaning code form) at before passed)
        by layer.Int is hold = absurd (never hold)
        by layer.Bool is hold = absurd (never hold)
        by layer.Unit is hold = absurd (never hold)
        by (layer.Named k) is hold = absurd (never hold)
        by (layer.Func marked params result) is hold =
            takes_ok tables number functions owner at before passed tys meaning
            (map unlabelled params) result call (inside ++ args_inside args) have hold
            (λ fit.
            subst (λ read. CodeGives tables number functions owner read result
            (inside ++ args_inside args)) (sym (code_is fit.means))
            (closure_called_in tables number functions ground owner at ty marked params result
            read inside args tys passed.given is fit.typed fit.labels fit.types have safe ok))
        by (layer.Task inner) is hold = absurd (never hold)

  -- Values and what stands before them go to a method.
  pub method_gives : (at n k key : ℕ) (func : Signature) (read : Code Operand)
      (inside : List Body) (args : List ArgCode) (tys : List Ty) (given : List Given)
      (meaning : Meaning) → IsMethod tables.world k key → tables.world.numbers key ≡ Some n
      → slice_get tables.world.funcs n ≡ Some func
      → Fitted tables.answers at given meaning (map param_slot func.params) func.result
      → HaveTypes given tys → CodeGives tables number functions owner read (types.Named k) inside
      → ArgsOk tables number functions owner args tys
      → CodeGives tables number functions owner
      (read >>= λ me. args_read args >>= λ xs. call_func tables at n (me ∷ xs)) func.result
      (inside ++ args_inside args)
  method_gives at n k key func read inside args tys given meaning method n_is func_is fit have safe
      ok =
      after_value_and_args tables number functions ground owner read inside (types.Named k) args tys
      (λ me xs. call_func tables at n (me ∷ xs)) func.result safe ok
      (λ w of p knows me xs value are.
      call_func_in tables number functions ground owner w of p knows at n (me ∷ xs) func
      (Plain (types.Named k) ∷ params_of func) func_is
      (λ f f_is.
      ground.methods k method.id n f method.member func method.at method.role_is
      (ap tables.world.numbers method.key_is ∙ n_is) func_is f_is) (
        goes_same (slice_get w.regs me.reg) (Some (Plain (types.Named k))) (types.Named k)
            value.kind refl,
        subst (Each Goes (kinds_of w.regs xs)) (param_kinds func.params)
            (values_go w p (map param_slot func.params) given tys xs fit.labels fit.types have are),
      )
      (All-cons (IsSet w p.writes (here p)) me.reg (map (λ (x : Operand). x.reg) xs) value.set
      (values_set w p tys xs are)))

  -- Values go to a function.
  func_gives : (at n id key : ℕ) (func : Signature) (args : List ArgCode) (tys : List Ty)
      (given : List Given) (meaning : Meaning)
      → tables.world.known.top id ≡ Some (word.Func key) → tables.world.numbers key ≡ Some n
      → slice_get tables.world.funcs n ≡ Some func
      → Fitted tables.answers at given meaning (map param_slot func.params) func.result
      → HaveTypes given tys → ArgsOk tables number functions owner args tys
      → CodeGives tables number functions owner (args_read args >>= call_func tables at n)
      func.result (args_inside args)
  func_gives at n id key func args tys given meaning top_is n_is func_is fit have ok =
      after_args tables number functions ground owner args tys (call_func tables at n) func.result
      ok
      (λ w of p knows xs are.
      call_func_in tables number functions ground owner w of p knows at n xs func (params_of func)
      func_is (λ f f_is. ground.funcs id key n f func top_is n_is func_is f_is)
      (subst (Each Goes (kinds_of w.regs xs)) (param_kinds func.params)
      (values_go w p (map param_slot func.params) given tys xs fit.labels fit.types have are))
      (values_set w p tys xs are))

  -- A struct is made of values.
  struct_gives : (at k : ℕ) (shape : Shape) (args : List ArgCode) (tys : List Ty)
      (given : List Given) (meaning : Meaning) → slice_get tables.world.shapes k ≡ Some shape
      → shape.kind ≡ shapes.Struct
      → Fitted tables.answers at given meaning (map part_slot shape.parts) (types.Named k)
      → HaveTypes given tys → ArgsOk tables number functions owner args tys
      → CodeGives tables number functions owner (args_read args >>= make tables at k)
      (types.Named k) (args_inside args)
  struct_gives at k shape args tys given meaning at_is kind_is fit have ok =
      after_args tables number functions ground owner args tys (make tables at k) (types.Named k) ok
      (λ w of p knows xs are.
      make_in tables number functions ground owner w p at k xs (ValueAfter w p (types.Named k))
      (λ found found_is.
      subst (λ kind. SafeAt w p (make_by tables kind at k xs) (ValueAfter w p (types.Named k)))
      (sym (ap (λ (s : Shape). s.kind) (same_Some found shape (sym found_is ∙ at_is))
      ∙ kind_is))
      (make_value_in tables number functions ground owner w of p at k None xs
      (shape_within tables.world.shapes k shape at_is)
      (subst (EachOf Goes (kinds_of w.regs xs))
      (sym (struct_of tables number functions ground owner k shape at_is kind_is))
      (subst (Each Goes (kinds_of w.regs xs)) (part_kinds shape.parts)
      (values_go w p (map part_slot shape.parts) given tys xs fit.labels fit.types have are)))
      (values_set w p tys xs are))))

  -- A class or an actor is made by its initialiser.
  maker_gives : (at k n : ℕ) (func : Signature) (args : List ArgCode) (tys : List Ty)
      (given : List Given) (meaning : Meaning)
      → and_then (slice_get tables.world.makers k) tables.world.numbers ≡ Some n
      → slice_get tables.world.funcs n ≡ Some func
      → ((shape : Shape) → slice_get tables.world.shapes k ≡ Some shape
      → (shape.kind ≡ shapes.Class) ⊎ (shape.kind ≡ shapes.Actor))
      → Fitted tables.answers at given meaning (map param_slot func.params) func.result
      → HaveTypes given tys → ArgsOk tables number functions owner args tys
      → CodeGives tables number functions owner (args_read args >>= make tables at k)
      func.result (args_inside args)
  unfolding maker_at
  maker_gives at k n func args tys given meaning n_is func_is kinds fit have ok =
      after_args tables number functions ground owner args tys (make tables at k) func.result ok
      (λ w of p knows xs are.
      make_in tables number functions ground owner w p at k xs (ValueAfter w p func.result)
      (λ shape shape_is. by w p xs shape.kind (kinds shape shape_is)
      (maker_in tables number functions ground owner w of p knows at k xs func (params_of func)
      made_by (λ f f_is. ground.makers k f func made_by f_is) (ground.results n func func_is)
      (subst (Each Goes (kinds_of w.regs xs)) (param_kinds func.params)
      (values_go w p (map param_slot func.params) given tys xs fit.labels fit.types have are))
      (values_set w p tys xs are)))) where
        made_by : maker_at tables.world k ≡ Some func
        made_by = ap (λ found. item found tables.world.funcs) n_is ∙ func_is

        by : (w : Whole) (p : Position) (xs : List Operand) (kind : ShapeKind)
            → (kind ≡ shapes.Class) ⊎ (kind ≡ shapes.Actor)
            → SafeAt w p (make_by tables shapes.Class at k xs) (ValueAfter w p func.result)
            → SafeAt w p (make_by tables kind at k xs) (ValueAfter w p func.result)
        by w p xs kind (inl is) safe =
            subst (λ kind. SafeAt w p (make_by tables kind at k xs) (ValueAfter w p func.result))
            (sym is) safe
        by w p xs kind (inr is) safe =
            subst (λ kind. SafeAt w p (make_by tables kind at k xs) (ValueAfter w p func.result))
            (sym is) safe

  module _ (kinds : WordKinds tables.world) (at : ℕ) (args : List ArgCode) (passed : Passed)
      (tys : List Ty) (have : HaveTypes passed.given tys)
      (args_ok : ArgsOk tables number functions owner args tys) where
    -- the call, as its meaning says
    abbrev code_of : Code Operand
    code_of = call_read tables owner at args (tables.answers.meaning_at at)

    -- what is shown of it
    abbrev CallOk : Callee → Type 0
    CallOk callee = RowsHold tables.answers (call_judged callee at [] passed).rows
        → ExprOk tables number functions owner (value at code_of (args_inside args))
        (call_judged callee at [] passed)

    -- what can't be called
    uncallable : (code : ℕ) → CallOk (Uncallable code)
    uncallable code hold = absurd (never_called tables.answers code at [] passed tys have hold)

    -- The code is that of its meaning.
    by_meaning : (meaning : Meaning) (ty : Ty) → tables.answers.meaning_at at ≡ Some meaning
        → CodeGives tables number functions owner (call_read tables owner at args (Some meaning)) ty
        (args_inside args)
        → CodeGives tables number functions owner code_of ty (args_inside args)
    by_meaning meaning ty is safe =
        subst (λ found. CodeGives tables number functions owner
        (call_read tables owner at args found) ty (args_inside args)) (sym is) safe

    -- a variable that holds a closure
    variable_ok : (one : Var) → VarHolds tables.answers one
        → CallOk (variable_callee (means.Local one.at) one.ty)
    variable_ok one holds =
        subst (λ ty. CallOk (variable_callee (means.Local one.at) ty)) (sym holds.has)
        (value_called at [] passed args tys (means.Local one.at) 401 holds.ty
        (read_var tables at one.at) [] code_of have args_ok
        (no_inside (read_var tables at one.at) holds.ty
        (read_typed tables number functions ground owner at one.at holds.ty holds.typed))
        (λ is. ap (call_read tables owner at args) is))

    -- a property of `self`
    own_part_ok : (k i : ℕ) → owner ≡ Some k
        → CallOk (part_callee (means.OwnPart i) 401 (part_at tables.world k i))
    own_part_ok k i owner_is = by (part_at tables.world k i) refl where
      by : (found : Option Part) → part_at tables.world k i ≡ found
          → CallOk (part_callee (means.OwnPart i) 401 found)
      by None is = uncallable 401
      by (Some part) is =
          let found = found_in_found (slice_get tables.world.shapes k)
          (λ (s : Shape). slice_get s.parts i) part is in
          value_called at [] passed args tys (means.OwnPart i) 401 part.ty
          (read_own tables owner at i) [] code_of have args_ok
          (no_inside (read_own tables owner at i) part.ty
          (read_own_in tables number functions ground owner at k i found.0 part owner_is found.1
          found.2))
          (λ is. ap (call_read tables owner at args) is)

    -- a global variable
    global_ok : (g : ℕ)
        → CallOk (global_callee (means.GlobalOf g) (slice_get tables.world.globals g))
    global_ok g = by (slice_get tables.world.globals g) refl where
      by : (found : Option GlobalVar) → slice_get tables.world.globals g ≡ found
          → CallOk (global_callee (means.GlobalOf g) found)
      by None is = uncallable 401
      by (Some global) is =
          value_called at [] passed args tys (means.GlobalOf g) 401 global.ty
          (read_global tables at g) [] code_of have args_ok
          (no_inside (read_global tables at g) global.ty
          (read_global_in tables number functions ground owner at g global is))
          (λ is. ap (call_read tables owner at args) is)

    -- a method of `self`
    own_method_ok : (key : ℕ) → IsOwnMethod tables owner key
        → CallOk (func_callee tables.world means.OwnFunc 401 (tables.world.numbers key))
    own_method_ok key own hold =
        func_ok tables number functions owner at [] passed tys means.OwnFunc 401
        (tables.world.numbers key) code_of (args_inside args) have hold
        (λ n func n_is func_is fit.
        by_meaning (means.OwnFunc n) func.result fit.means
        (method_gives at n own.shape key func (read_self tables owner at) [] args tys passed.given
        (means.OwnFunc n) own.method n_is func_is fit have
        (no_inside (read_self tables owner at) (types.Named own.shape)
        (read_self_in tables number functions ground owner at own.shape own.owner_is)) args_ok))

    -- a function
    function_ok : (id key : ℕ) → tables.world.known.top id ≡ Some (word.Func key)
        → CallOk (func_callee tables.world means.FuncOf 401 (tables.world.numbers key))
    function_ok id key top_is hold =
        func_ok tables number functions owner at [] passed tys means.FuncOf 401
        (tables.world.numbers key) code_of (args_inside args) have hold
        (λ n func n_is func_is fit.
        by_meaning (means.FuncOf n) func.result fit.means
        (func_gives at n id key func args tys passed.given (means.FuncOf n) top_is n_is func_is fit
        have args_ok))

    -- a struct, which is made of all its properties
    struct_ok : (id k : ℕ) → tables.world.known.top id ≡ Some (word.Shape shapes.Struct k)
        → CallOk (struct_callee k (slice_get tables.world.shapes k))
    struct_ok id k top_is = by (slice_get tables.world.shapes k) refl where
      by : (found : Option Shape) → slice_get tables.world.shapes k ≡ found
          → CallOk (struct_callee k found)
      by None is = uncallable 401
      by (Some shape) is = λ hold.
          takes_ok tables number functions owner at [] passed tys (means.MakeOf k)
          (map part_slot shape.parts) (types.Named k) code_of (args_inside args) have hold
          (λ fit.
          by_meaning (means.MakeOf k) (types.Named k) fit.means
          (struct_gives at k shape args tys passed.given (means.MakeOf k) is
          (kinds id k shapes.Struct shape top_is is) fit have args_ok))

    -- an object or an actor, which is made by its initialiser
    maker_ok : (k : ℕ) → ((shape : Shape) → slice_get tables.world.shapes k ≡ Some shape
        → (shape.kind ≡ shapes.Class) ⊎ (shape.kind ≡ shapes.Actor))
        → CallOk (func_callee tables.world (λ n. means.MakeOf k) 401
        (and_then (slice_get tables.world.makers k) tables.world.numbers))
    maker_ok k is hold =
        func_ok tables number functions owner at [] passed tys (λ n. means.MakeOf k) 401
        (and_then (slice_get tables.world.makers k) tables.world.numbers) code_of
        (args_inside args) have hold
        (λ n func n_is func_is fit.
        by_meaning (means.MakeOf k) func.result fit.means
        (maker_gives at k n func args tys passed.given (means.MakeOf k) n_is func_is is fit have
        args_ok))

    -- `print`
    print_ok : CallOk Prints
    print_ok hold =
        prints_ok tables number functions owner at [] passed tys code_of (args_inside args) have
        hold
        (λ typed_is.
        by_meaning means.Print types.Unit
        (meaning_is tables.answers Prints means.Print at [] passed refl hold)
        (after_args tables number functions ground owner args tys
        (λ xs. give at types.Unit (λ r. instr.Print at r xs)) types.Unit args_ok
        (λ w of p knows xs are.
        print_in tables number functions ground owner w of p at xs typed_is
        (values_print w p passed.given tys xs have are
        (printed tables.answers at [] passed tys have hold).printable)
        (values_set w p tys xs are))))

    -- a call by what a word means
    pub called_ok : (meant : Sense) → SenseOk tables owner meant
        → CallOk (word_callee tables.world meant)
    called_ok (Variable one) is = variable_ok one is
    called_ok (OwnProperty k i) is = own_part_ok k i is
    called_ok (OwnMethod key) is = own_method_ok key is
    called_ok OwnCase is = uncallable 401
    called_ok (Top (word.Shape shapes.Struct k)) is = struct_ok is.0 k is.1
    called_ok (Top (word.Shape shapes.Enum k)) is = uncallable 401
    called_ok (Top (word.Shape shapes.Class k)) is =
        maker_ok k (λ shape at_is. inl (kinds is.0 k shapes.Class shape is.1 at_is))
    called_ok (Top (word.Shape shapes.Actor k)) is =
        maker_ok k (λ shape at_is. inr (kinds is.0 k shapes.Actor shape is.1 at_is))
    called_ok (Top (word.GlobalActor k)) is = uncallable 401
    called_ok (Top (word.Func key)) is = function_ok is.0 key is.1
    called_ok (Top (word.Global g)) is = global_ok g
    called_ok (Top word.Entry) is = uncallable 401
    called_ok Printing is = print_ok
    called_ok Nothing is = uncallable 401

  -- a call by a word
  pub call_ok : WordKinds tables.world → (setting : Setting) (name : Name) (args : List ArgCode)
      (passed : Passed) (tys : List Ty) → HaveTypes passed.given tys
      → ArgsOk tables number functions owner args tys → VarsHold tables.answers setting.vars
      → setting.owner ≡ owner
      → RowsHold tables.answers
      (call_judged (call_callee tables.world setting name) name.at [] passed).rows
      → ExprOk tables number functions owner
      (value name.at (call_read tables owner name.at args (tables.answers.meaning_at name.at))
      (args_inside args))
      (call_judged (call_callee tables.world setting name) name.at [] passed)
  call_ok kinds setting name args passed tys have args_ok vars same =
      called_ok kinds name.at args passed tys have args_ok (sense tables.world setting name.id)
      (sense_ok tables owner setting name.id vars same)
