-- The work of calls stands where their code is.
use Rattle.std.proofs.Common.{◌≡◌, ◌⊎◌, inl, inr, ℕ, zero, suc, ◌+◌, Bool, true, false, Option, Some, None, List, []}
use Rattle.std.proofs.Common.{◌∷◌, ◌++◌, length, refl, ap, sym, ◌∙◌, subst, arith}
use Rattle.std.proofs.lemmas.Bool.Decides.{eqb_tells}
use Rattle.std.proofs.lemmas.Option.{same_Some}
use Rattle.std.specs.Prelude.{◌==◌, ◌≢◌, ◌||◌, slice_get, if◌then◌else◌}
use Rattle.sw_types.specs.declared.isolation.CallKind.TheVariants as kinds
use Rattle.sw_types.specs.declared.shape.ShapeKind.{ShapeKind}
use Rattle.sw_types.specs.declared.shape.ShapeKind.TheVariants as shapes
use Rattle.sw_types.specs.declared.ty.Ty.TheVariants as types
use Rattle.sw_graph.specs.declared.function.Function.{Function}
use Rattle.sw_graph.specs.declared.instr.Instr.TheVariants as instr
use Rattle.sw_graph.specs.declared.instr.Operand.{Operand}
use Rattle.sw_decls.specs.declared.signature.Signature.{Signature}
use Rattle.sw_typing_rules.specs.Worlds.{World, and_then, item}
use Rattle.sw_typing_rules.specs.declared.row.Meaning.{Meaning}
use Rattle.sw_typing_rules.specs.declared.row.Meaning.TheVariants as means
use Rattle.sw_isolation_rules.specs.Uses.{maker_at}
use Rattle.sw_lower_plans.specs.Plan.{Numbers}
use Rattle.sw_lower_code.specs.Code.{Code, andthen}
use Rattle.sw_lower_rules.specs.Carriers.{ArgCode, ExprCode}
use Rattle.sw_lower_rules.specs.Expressions.{args_read, call_read, closure_called, method_read}
use Rattle.sw_lower_rules.specs.Tables.{Tables, plain}
use Rattle.sw_lower_rules.specs.Uses.{call_closure, call_func, call_signature, give, make, make_by}
use Rattle.sw_lower_rules.specs.Uses.{make_value, no_func, no_shape}
use Rattle.sw_lower_rules.specs.Uses.{shape_at, typed}
use Rattle.sw_lower_run_facts.proofs.Runs.{ran_both}
use Rattle.sw_tree_work.specs.Forms.{ExprWork, all_in_order}
use Rattle.sw_tree_work.specs.Meanings as works
use Rattle.sw_tree_work.specs.Work as work
use Rattle.sw_tree_work.specs.Work.{Before}
use Rattle.sw_spots.specs.Doing.{Does, used}
use Rattle.sw_spots.specs.Forms.{ExprStands, ValueStands, facts_of, is_declared, program}
use Rattle.sw_spots.specs.Making.{spot_of}
use Rattle.sw_spots.specs.Spots.{ClosureCallAt, PrintAt, Program, Stands}
use Rattle.sw_spots.proofs.Going.{below_rest}
use Rattle.sw_spots.proofs.Joining.{AllRead, did_both, does_for_known, does_known, does_number, does_then}
use Rattle.sw_spots.proofs.Joining.{each_count, fits_between, many_used, reads_all, used_more}
use Rattle.sw_spots.proofs.Writing.{does_give}
use Rattle.sw_spots_expr.proofs.Members.{does_make, reads_of_base}
use Rattle.sw_spots_expr.proofs.Words.{does_call, does_unknown, reads_global, reads_own, reads_self}
use Rattle.sw_spots_expr.proofs.Words.{reads_var}

same_key : (key : ℕ) → (key == key) ≡ true
same_key key = by (eqb_tells key key) where
  by : (((key == key) ≡ true) × (key ≡ key)) ⊎ (((key == key) ≡ false) × (key ≢ key))
      → (key == key) ≡ true
  by (inl tells) = tells.0
  by (inr tells) = absurd (tells.1 refl)

-- The key of a function by its number is that of one that is declared.
or_true : (one : Bool) → one || true ≡ true
or_true true = refl
or_true false = refl

pub declared_at : (funcs : List Signature) (number : ℕ) (func : Signature)
    → slice_get funcs number ≡ Some func → is_declared funcs func.key.at ≡ true
declared_at [] number func found = absurd (let c : ⊥ = cc in c)
declared_at (one ∷ funcs) zero func found =
    ap (λ key. (one.key.at == key) || is_declared funcs key)
    (ap (λ (other : Signature). other.key.at) (sym (same_Some one func found)))
    ∙ ap (λ is. is || is_declared funcs one.key.at) (same_key one.key.at)
declared_at (one ∷ funcs) (suc number) func found =
    ap (λ is. (one.key.at == func.key.at) || is) (declared_at funcs number func found)
    ∙ or_true (one.key.at == func.key.at)

maker_declared : (world : World) (shape : ℕ) (func : Signature) → maker_at world shape ≡ Some func
    → is_declared world.funcs func.key.at ≡ true
unfolding maker_at
maker_declared world shape func found =
    by (and_then (slice_get world.makers shape) world.numbers) found where
      by : (number : Option ℕ) → item number world.funcs ≡ Some func
          → is_declared world.funcs func.key.at ≡ true
      by None found = absurd (let c : ⊥ = cc in c)
      by (Some number) found = declared_at world.funcs number func found

module _ (tables : Tables) (numbers : Numbers) (functions : List Function) where
  abbrev p : Program
  p = program tables numbers functions

  -- the code of each argument, and its work
  abbrev pub ArgsStand : List ArgCode → List Before → Type 0
  ArgsStand args works = AllRead p numbers (λ (arg : ArgCode). arg.read) args works

  as_many : (args : List ArgCode) (ones : List Before) → ArgsStand args ones
      → length args ≡ length ones
  as_many [] [] are = refl
  as_many (arg ∷ args) (one ∷ ones) are = ap (λ n. suc n) (as_many args ones are.1)
  as_many [] (one ∷ ones) are = absurd are
  as_many (arg ∷ args) [] are = absurd are

  -- code that takes arguments
  does_args : {B : Type 0} (temps : List ℕ) (args : List ArgCode) (ones : List Before)
      (next : List Operand → Code B) (two : Before) (after : B → List ℕ) → ArgsStand args ones
      → ((os : List Operand) → length os ≡ length ones
      → Does p numbers (used os ++ temps) (next os) two after)
      → Does p numbers temps (andthen (args_read args) next) (λ rest. all_in_order ones (two rest))
      after
  does_args temps args ones next two after are is s t value ready fits ran =
      let both = ran_both (args_read args) next s t value ran in
      let here = reads_all p numbers (λ (arg : ArgCode). arg.read) args ones are temps s both.1 both.0
      ready (fits_between (args_read args) (next both.0) s both.1 t both.0 value ready.going both.2
      both.3 fits) both.2 in
      let many = each_count (λ (arg : ArgCode). arg.read) args s both.1 both.0 both.2
      ∙ as_many args ones are in
      did_both p numbers s both.1 t temps (used both.0 ++ temps) (after value)
      (all_in_order ones) two here
      (is both.0 many both.1 t value here.ready fits both.3)

  -- closures
  does_closure : (at count : ℕ) (closure : Operand) (os : List Operand) (temps : List ℕ)
      → length os ≡ count
      → Does p numbers (used os ++ closure.reg ∷ temps) (call_closure tables at closure os)
      (work.Then (work.CallClosure at count)) (λ o. o.reg ∷ temps)
  unfolding call_closure typed
  does_closure at count closure os temps many =
      does_known p numbers (used os ++ closure.reg ∷ temps) types.Unit (tables.answers.type_at at)
      (λ ty. give at ty (λ r. instr.CallClosure at r closure os))
      (work.Then (work.CallClosure at count)) (λ o. o.reg ∷ temps)
      (λ ty found. does_give p numbers (used os ++ closure.reg ∷ temps) temps at ty
      (λ r. instr.CallClosure at r closure os) (work.Then (work.CallClosure at count))
      (λ n all. (below_rest n (used os) (closure.reg ∷ temps) all).1)
      (λ f rings rest s gives.
      many_used os (closure.reg ∷ temps) count
      (ClosureCallAt at f (spot_of s (used os ++ closure.reg ∷ temps))
      (λ next. Stands p rest f rings next)) many (closure, refl, (os, refl, gives))))

  -- functions
  does_signature : (at count : ℕ) (func : Signature) (os : List Operand) (temps : List ℕ)
      → length os ≡ count → is_declared tables.world.funcs func.key.at ≡ true
      → Does p numbers (used os ++ temps) (call_signature tables at os func)
      (works.call_signature (facts_of tables) at count func) (λ o. o.reg ∷ temps)
  does_signature at count func os temps many is =
      does_number p numbers (used os ++ temps) (plain func.key.at) _
      (works.call_signature (facts_of tables) at count func) (λ o. o.reg ∷ temps)
      (λ f found. does_for_known p numbers (used os ++ temps) kinds.Plain
      (tables.isolation.kind_at at)
      (λ kind. give at func.result (λ r. instr.Call at r kind f os))
      (λ kind. work.Then (work.Call at kind (work.Function func.key.at) count))
      (λ o. o.reg ∷ temps)
      (λ kind given. does_call tables numbers functions os temps count at kind
      (work.Function func.key.at) f func.result many
      (ap (λ is. and_then (if is then Some (plain func.key.at) else None) numbers) is ∙ found)))

  does_func : (at number count : ℕ) (os : List Operand) (temps : List ℕ) → length os ≡ count
      → Does p numbers (used os ++ temps) (call_func tables at number os)
      (works.call_func (facts_of tables) at number count) (λ o. o.reg ∷ temps)
  unfolding call_func
  does_func at number count os temps many =
      does_for_known p numbers (used os ++ temps) no_func (slice_get tables.world.funcs number)
      (call_signature tables at os) (works.call_signature (facts_of tables) at count)
      (λ o. o.reg ∷ temps)
      (λ func found. does_signature at count func os temps many
      (declared_at tables.world.funcs number func found))

  -- the receiver lies below the arguments
  does_method : (at number count : ℕ) (me : Operand) (os : List Operand) (temps : List ℕ)
      → length os ≡ count
      → Does p numbers (used os ++ me.reg ∷ temps) (call_func tables at number (me ∷ os))
      (works.call_func (facts_of tables) at number (1 + count)) (λ o. o.reg ∷ temps)
  does_method at number count me os temps many =
      subst (λ list. Does p numbers list (call_func tables at number (me ∷ os))
      (works.call_func (facts_of tables) at number (1 + count)) (λ o. o.reg ∷ temps))
      (used_more me os temps)
      (does_func at number (1 + count) (me ∷ os) temps (omega (arith, many)))

  -- what is made
  does_maker : (kind : ShapeKind) (at shape count : ℕ) (os : List Operand) (temps : List ℕ)
      → length os ≡ count
      → Does p numbers (used os ++ temps) (make_by tables kind at shape os)
      (works.make_of_kind (facts_of tables) kind at shape count) (λ o. o.reg ∷ temps)
  does_maker shapes.Struct at shape count os temps many =
      does_make tables numbers functions os temps count at shape None many
  does_maker shapes.Enum at shape count os temps many =
      does_unknown tables numbers functions (used os ++ temps) _ _
  does_maker shapes.Class at shape count os temps many =
      does_for_known p numbers (used os ++ temps) no_func (maker_at tables.world shape)
      (call_signature tables at os) (works.call_signature (facts_of tables) at count)
      (λ o. o.reg ∷ temps)
      (λ func found. does_signature at count func os temps many
      (maker_declared tables.world shape func found))
  does_maker shapes.Actor at shape count os temps many =
      does_for_known p numbers (used os ++ temps) no_func (maker_at tables.world shape)
      (call_signature tables at os) (works.call_signature (facts_of tables) at count)
      (λ o. o.reg ∷ temps)
      (λ func found. does_signature at count func os temps many
      (maker_declared tables.world shape func found))

  does_made : (at shape count : ℕ) (os : List Operand) (temps : List ℕ) → length os ≡ count
      → Does p numbers (used os ++ temps) (make tables at shape os)
      (works.make (facts_of tables) at shape count) (λ o. o.reg ∷ temps)
  unfolding make shape_at
  does_made at shape count os temps many =
      does_for_known p numbers (used os ++ temps) no_shape (slice_get tables.world.shapes shape)
      (λ s. make_by tables s.kind at shape os)
      (λ s. works.make_of_kind (facts_of tables) s.kind at shape count) (λ o. o.reg ∷ temps)
      (λ s found. does_maker s.kind at shape count os temps many)

  does_print : (at count : ℕ) (os : List Operand) (temps : List ℕ) → length os ≡ count
      → Does p numbers (used os ++ temps) (give at types.Unit (λ r. instr.Print at r os))
      (work.Then (work.Print count)) (λ o. o.reg ∷ temps)
  does_print at count os temps many =
      does_give p numbers (used os ++ temps) temps at types.Unit (λ r. instr.Print at r os)
      (work.Then (work.Print count)) (λ n all. below_rest n (used os) temps all)
      (λ f rings rest s gives. many_used os temps count
      (PrintAt f (spot_of s (used os ++ temps)) (λ next. Stands p rest f rings next)) many
      (at, (os, refl, gives)))

  module _ (owner : Option ℕ) (args : List ArgCode) (ones : List Before)
      (are : ArgsStand args ones) where
    reads_called : (at : ℕ) (read : Code Operand) (before : Before)
        → ValueStands tables numbers functions read before
        → ValueStands tables numbers functions (closure_called tables owner at read args)
        (works.call_closure at before ones)
    reads_called at read before is temps =
        does_then p numbers temps read _ before _ (λ o. o.reg ∷ temps) (λ o. o.reg ∷ temps)
        (is temps)
        (λ closure. does_args (closure.reg ∷ temps) args ones
        (λ os. call_closure tables at closure os)
        (work.Then (work.CallClosure at (length ones))) (λ o. o.reg ∷ temps) are
        (λ os many. does_closure at (length ones) closure os temps many))

    reads_method_of : (at number : ℕ) (read : Code Operand) (before : Before)
        → ValueStands tables numbers functions read before
        → ValueStands tables numbers functions
        (andthen read (λ me. andthen (args_read args) (λ os.
        call_func tables at number (me ∷ os))))
        (works.call_method (facts_of tables) owner at before number ones)
    reads_method_of at number read before is temps =
        does_then p numbers temps read _ before _ (λ o. o.reg ∷ temps) (λ o. o.reg ∷ temps)
        (is temps)
        (λ me. does_args (me.reg ∷ temps) args ones (λ os. call_func tables at number (me ∷ os))
        (works.call_func (facts_of tables) at number (1 + length ones)) (λ o. o.reg ∷ temps) are
        (λ os many. does_method at number (length ones) me os temps many))

    pub reads_call : (at : ℕ) (meaning : Option Meaning)
        → ValueStands tables numbers functions (call_read tables owner at args meaning)
        (works.call_read (facts_of tables) owner at ones meaning)
    reads_call at None temps = does_unknown tables numbers functions temps _ _
    reads_call at (Some (means.Local variable)) temps =
        reads_called at _ _ (reads_var tables numbers functions at variable) temps
    reads_call at (Some (means.OwnPart number)) temps =
        reads_called at _ _ (reads_own tables numbers functions owner at number) temps
    reads_call at (Some (means.OwnFunc number)) temps =
        reads_method_of at number _ _ (reads_self tables numbers functions owner at) temps
    reads_call at (Some (means.GlobalOf number)) temps =
        reads_called at _ _ (reads_global tables numbers functions at number) temps
    reads_call at (Some (means.FuncOf number)) temps =
        does_args temps args ones (call_func tables at number)
        (works.call_func (facts_of tables) at number (length ones)) (λ o. o.reg ∷ temps) are
        (λ os many. does_func at number (length ones) os temps many)
    reads_call at (Some (means.MakeOf shape)) temps =
        does_args temps args ones (make tables at shape)
        (works.make (facts_of tables) at shape (length ones)) (λ o. o.reg ∷ temps) are
        (λ os many. does_made at shape (length ones) os temps many)
    reads_call at (Some (means.CaseOf shape number)) temps =
        does_unknown tables numbers functions temps _ _
    reads_call at (Some (means.PartOf number)) temps =
        does_unknown tables numbers functions temps _ _
    reads_call at (Some means.Print) temps =
        does_args temps args ones (λ os. give at types.Unit (λ r. instr.Print at r os))
        (work.Then (work.Print (length ones))) (λ o. o.reg ∷ temps) are
        (λ os many. does_print at (length ones) os temps many)
    reads_call at (Some means.TaskValue) temps = does_unknown tables numbers functions temps _ _

    pub reads_method : (at : ℕ) (base : ExprCode) (one : ExprWork) (meaning : Option Meaning)
        → ExprStands tables numbers functions base one
        → ValueStands tables numbers functions (method_read tables owner at base args meaning)
        (works.method_read (facts_of tables) owner at one ones meaning)
    reads_method at base one None is temps = does_unknown tables numbers functions temps _ _
    reads_method at base one (Some (means.Local variable)) is temps =
        does_unknown tables numbers functions temps _ _
    reads_method at base one (Some (means.OwnPart number)) is temps =
        does_unknown tables numbers functions temps _ _
    reads_method at base one (Some (means.OwnFunc number)) is temps =
        does_unknown tables numbers functions temps _ _
    reads_method at base one (Some (means.GlobalOf number)) is temps =
        does_unknown tables numbers functions temps _ _
    reads_method at base one (Some (means.FuncOf number)) is temps =
        reads_method_of at number base.read one.read is.read temps
    reads_method at base one (Some (means.MakeOf shape)) is temps =
        does_unknown tables numbers functions temps _ _
    reads_method at base one (Some (means.CaseOf shape number)) is temps =
        does_args temps args ones (make_value at shape (Some number))
        (work.Then (work.Make (Some number) (length ones))) (λ o. o.reg ∷ temps) are
        (λ os many.
        does_make tables numbers functions os temps (length ones) at shape (Some number) many)
    reads_method at base one (Some (means.PartOf number)) is temps =
        reads_called at _ _ (reads_of_base tables numbers functions owner base one is at number) temps
    reads_method at base one (Some means.Print) is temps =
        does_unknown tables numbers functions temps _ _
    reads_method at base one (Some means.TaskValue) is temps =
        does_unknown tables numbers functions temps _ _
