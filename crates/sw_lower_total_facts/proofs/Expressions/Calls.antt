-- A call by a word asks for nothing that isn't known.
use Rattle.std.proofs.Common.{◌≡◌, ℕ, Bool, true, false, List, [], ◌∷◌, ◌++◌, Option, Some, None}
use Rattle.std.proofs.Common.{refl, ap, sym, subst, ◌∙◌}
use Rattle.std.specs.Prelude.{IsSome, is_some, slice_get}
use Rattle.sw_tree.specs.declared.name.Name.{Name}
use Rattle.sw_types.specs.declared.shape.Shape.{Shape}
use Rattle.sw_types.specs.declared.shape.ShapeKind.{ShapeKind}
use Rattle.sw_types.specs.declared.shape.ShapeKind.TheVariants as shapes
use Rattle.sw_types.specs.declared.ty.Ty.TheVariants as types
use Rattle.sw_graph.specs.Kinds.{is_enum}
use Rattle.sw_graph.specs.declared.instr.Instr.TheVariants as instr
use Rattle.sw_graph.specs.declared.instr.Operand.{Operand}
use Rattle.sw_decl_words.specs.declared.words.Meaning.TheVariants as word
use Rattle.sw_decls.specs.declared.signature.Signature.{Signature}
use Rattle.sw_typing_rules.specs.Calls.{Callee, Prints, struct_callee, word_callee, func_callee}
use Rattle.sw_typing_rules.specs.Expressions.{Passed, call_callee, call_judged}
use Rattle.sw_typing_rules.specs.Words.{Nothing, OwnCase, OwnMethod, OwnProperty, Printing, Sense}
use Rattle.sw_typing_rules.specs.Words.{Setting, Top, Variable, sense}
use Rattle.sw_typing_rules.specs.Worlds.{and_then, item, part_at}
use Rattle.sw_typing_rules.specs.declared.row.Meaning.{Meaning}
use Rattle.sw_typing_rules.specs.declared.row.Meaning.TheVariants as means
use Rattle.sw_typing_rules.specs.declared.scope.Var.{Var}
use Rattle.sw_isolation_rules.specs.Noting.{mention_notes, use_notes, used_at, word_notes}
use Rattle.sw_isolation_rules.specs.Uses.{called, made, made_kind, maker_at, no_base}
use Rattle.sw_isolation_rules.specs.declared.note.Note.{Note}
use Rattle.sw_isolation_rules.specs.declared.uses.Context.{Context}
use Rattle.sw_lower_plans.specs.Plan.{Numbers}
use Rattle.sw_lower_code.specs.Code.{Code, ◌>>=◌}
use Rattle.sw_lower_rules.specs.Carriers.{ArgCode}
use Rattle.sw_lower_rules.specs.Expressions.{args_inside, args_read, call_read, closure_called}
use Rattle.sw_lower_rules.specs.Expressions.{value}
use Rattle.sw_lower_rules.specs.Tables.{Tables}
use Rattle.sw_lower_rules.specs.Uses.{call_closure, call_func, give, make, read_global, read_own}
use Rattle.sw_lower_rules.specs.Uses.{read_self, read_var}
use Rattle.sw_typing_facts.specs.Rows.{RowsHold}
use Rattle.sw_typing_facts.proofs.Programs.WordKinds.{WordKinds}
use Rattle.sw_lower_total_facts.specs.Bound.{seen_in}
use Rattle.sw_lower_total_facts.specs.Forms.{ArgsProceed, ExprProceeds}
use Rattle.sw_lower_total_facts.specs.Known.{IsMade, TablesAgree}
use Rattle.sw_lower_total_facts.specs.Noted.{kinds_of}
use Rattle.sw_lower_total_facts.proofs.Expressions.Callees.{CallGoes, func_goes, global_goes, meant_goes}
use Rattle.sw_lower_total_facts.proofs.Expressions.Callees.{part_goes, uncallable, variable_goes}
use Rattle.sw_lower_total_facts.proofs.Expressions.Kinds.{use_kind}
use Rattle.sw_lower_total_facts.proofs.Expressions.Mentioned.{own_func_mentioned}
use Rattle.sw_lower_total_facts.proofs.Expressions.Reading.{goes_call_closure, goes_call_func, goes_make}
use Rattle.sw_lower_total_facts.proofs.Expressions.Reading.{goes_read_self}
use Rattle.sw_lower_total_facts.proofs.Expressions.Senses.{HasMethod, SenseSeen, ShapesStand, sense_seen}
use Rattle.sw_lower_total_facts.proofs.Expressions.Uses.{func_used_is, make_used_is}
use Rattle.sw_lower_total_facts.proofs.Expressions.Words.{KindIs, global_read, own_read, variable_read}
use Rattle.sw_lower_total_facts.proofs.Expressions.Words.{word_kind}
use Rattle.sw_lower_total_facts.proofs.Proceeding.Each.{Goes}
use Rattle.sw_lower_total_facts.proofs.Proceeding.Using.{goes_give, goes_left, goes_right, goes_then}

module _ (tables : Tables) (number_of : Numbers) (all : List Note)
    (knows : TablesAgree tables number_of all) (context : Context) (listed : List ℕ)
    (vars : List Var)
    (notes : List Note) where
  abbrev Going : {A : Type 0} → Code A → Type 0
  Going code =
      Goes tables number_of context listed (seen_in tables context.owner vars) notes code

  -- a call of what holds a closure
  pub closure_goes : (at : ℕ) (read : Code Operand) (args : List ArgCode) → Going read
      → Going (args_read args) → IsSome (tables.answers.type_at at)
      → Going (closure_called tables context.owner at read args)
  closure_goes at read args goes args_go typed =
      goes_then tables number_of context listed (seen_in tables context.owner vars) notes read
      (λ closure. args_read args >>= λ operands. call_closure tables at closure operands) goes
      (λ closure. goes_then tables number_of context listed (seen_in tables context.owner vars)
      notes (args_read args) (λ operands. call_closure tables at closure operands) args_go
      (λ operands. goes_call_closure tables number_of all knows context listed vars notes at
      closure operands typed))

  -- a call of a method of what stands before the arguments
  pub method_goes : (at n : ℕ) (func : Signature) (read : Code Operand) (args : List ArgCode)
      → Going read → Going (args_read args) → slice_get tables.world.funcs n ≡ Some func
      → IsSome (tables.isolation.kind_at at)
      → Going (read >>= λ me. args_read args >>= λ operands. call_func tables at n (me ∷ operands))
  method_goes at n func read args goes args_go is kinded =
      goes_then tables number_of context listed (seen_in tables context.owner vars) notes read
      (λ me. args_read args >>= λ operands. call_func tables at n (me ∷ operands)) goes
      (λ me. goes_then tables number_of context listed (seen_in tables context.owner vars) notes
      (args_read args) (λ operands. call_func tables at n (me ∷ operands)) args_go
      (λ operands. goes_call_func tables number_of all knows context listed vars notes at n func
      (me ∷ operands) is kinded))

  -- Arguments go to code that proceeds.
  pub args_goes : {A : Type 0} (args : List ArgCode) (next : List Operand → Code A)
      → Going (args_read args) → ((operands : List Operand) → Going (next operands))
      → Going (args_read args >>= next)
  args_goes args next args_go goes =
      goes_then tables number_of context listed (seen_in tables context.owner vars) notes
      (args_read args) next args_go goes

-- The call of a function has a kind.
pub func_kinded : (tables : Tables) (context : Context) (at n : ℕ) (on_self : Bool)
    (func : Signature)
    → tables.isolation.kind_at at ≡ use_kind context (called tables.world false on_self (Some func))
    → IsSome (tables.isolation.kind_at at)
func_kinded tables context at n on_self func is = subst IsSome (sym is) refl

module _ (tables : Tables) (number_of : Numbers) (all : List Note)
    (knows : TablesAgree tables number_of all) (stand : ShapesStand tables.world)
    (context : Context)
    (listed : List ℕ) (vars : List Var) (at : ℕ) (args : List ArgCode) (passed : Passed)
    (args_notes : List Note) where
  abbrev first : List Note
  first = mention_notes tables.world tables.answers context at

  abbrev uses : List Note
  uses = use_notes context at (used_at tables.world tables.answers context no_base at)

  abbrev noted : List Note
  noted = first ++ uses ++ args_notes

  abbrev Here : {A : Type 0} → Code A → Type 0
  Here code = Goes tables number_of context listed (seen_in tables context.owner vars) noted code

  -- the call, as its meaning says
  abbrev code_of : Code Operand
  code_of = call_read tables context.owner at args (tables.answers.meaning_at at)

  abbrev WordGoes : Callee → Type 0
  WordGoes callee = CallGoes tables number_of context listed vars noted at [] passed code_of callee

  -- what is noted of the word stands before what is noted of the arguments
  in_first : {A : Type 0} (code : Code A)
      → Goes tables number_of context listed (seen_in tables context.owner vars) first code
      → Here code
  in_first code goes =
      goes_left tables number_of context listed (seen_in tables context.owner vars)
      (first ++ uses) args_notes code
      (goes_left tables number_of context listed (seen_in tables context.owner vars) first uses code
      goes)

  module _ (kind_is : KindIs tables number_of all knows stand context listed vars at)
      (args_go : Here (args_read args)) where
    by_meaning : (meaning : Meaning) → tables.answers.meaning_at at ≡ Some meaning
        → Here (call_read tables context.owner at args (Some meaning)) → Here code_of
    by_meaning meaning is goes =
        subst (λ found. Here (call_read tables context.owner at args found)) (sym is) goes

    -- a call of a value
    value_called : (meaning : Meaning) (read : Code Operand)
        → ((is : tables.answers.meaning_at at ≡ Some meaning) → Goes tables number_of context
        listed (seen_in tables context.owner vars) first read)
        → call_read tables context.owner at args (Some meaning)
        ≡ closure_called tables context.owner at read args
        → tables.answers.meaning_at at ≡ Some meaning → IsSome (tables.answers.type_at at)
        → Here code_of
    value_called meaning read goes code_is means_is typed =
        by_meaning meaning means_is
        (subst Here (sym code_is)
        (closure_goes tables number_of all knows context listed vars noted at read args
        (in_first read (goes means_is)) args_go typed))

    -- a method of `self`
    own_method : (key : ℕ) → HasMethod tables.world context.owner
        → WordGoes (func_callee tables.world means.OwnFunc 401 (tables.world.numbers key))
    own_method key own =
        func_goes tables number_of context listed vars noted at [] passed code_of means.OwnFunc 401
        (tables.world.numbers key)
        (λ n func func_is means_is.
        let shape = stand.methods own.shape own.id own.member own.at own.role_is in
        let around = ap (λ owner. item owner tables.world.shapes) own.owner_is ∙ shape.1 in
        by_meaning (means.OwnFunc n) means_is
        (method_goes tables number_of all knows context listed vars noted at n func
        (read_self tables context.owner at) args
        (in_first (read_self tables context.owner at)
        (goes_read_self tables number_of all knows context listed vars first at shape.0 around
        (own_func_mentioned tables.world tables.answers context at n shape.0 means_is around)))
        args_go func_is
        (func_kinded tables context at n true func
        (kind_is (means.OwnFunc n) means_is
        ∙ ap (use_kind context) (func_used_is tables.world n true func func_is)))))

    -- a function
    function : (key : ℕ)
        → WordGoes (func_callee tables.world means.FuncOf 401 (tables.world.numbers key))
    function key =
        func_goes tables number_of context listed vars noted at [] passed code_of means.FuncOf 401
        (tables.world.numbers key)
        (λ n func func_is means_is.
        by_meaning (means.FuncOf n) means_is
        (args_goes tables number_of all knows context listed vars noted args
        (call_func tables at n) args_go
        (λ operands. goes_call_func tables number_of all knows context listed vars noted at n func
        operands func_is
        (func_kinded tables context at n false func
        (kind_is (means.FuncOf n) means_is
        ∙ ap (use_kind context) (func_used_is tables.world n false func func_is))))))

    -- Something is made.
    made_of : (k : ℕ) (shape : Shape) → slice_get tables.world.shapes k ≡ Some shape
        → is_enum shape.kind ≡ false → tables.answers.meaning_at at ≡ Some (means.MakeOf k)
        → Here code_of
    made_of k shape is no_enum means_is =
        by_meaning (means.MakeOf k) means_is
        (args_goes tables number_of all knows context listed vars noted args (make tables at k)
        args_go
        (λ operands. goes_make tables number_of all knows context listed vars noted at k shape
        operands is no_enum (λ made. kinded made))) where
          kind_of_it : tables.isolation.kind_at at
              ≡ use_kind context (made_kind tables.world shape.kind k)
          kind_of_it =
              kind_is (means.MakeOf k) means_is
              ∙ ap (use_kind context) (make_used_is tables.world k shape is)

          by : (kind : ShapeKind) → IsMade kind → (func : Signature)
              → maker_at tables.world k ≡ Some func
              → IsSome (use_kind context (made_kind tables.world kind k))
          by shapes.Struct made func maker = absurd made
          by shapes.Enum made func maker = absurd made
          by shapes.Class made func maker =
              subst (λ found. IsSome (use_kind context (called tables.world false false found)))
              (sym maker) refl
          by shapes.Actor made func maker =
              subst (λ found. IsSome (use_kind context (called tables.world true false found)))
              (sym maker) refl

          kinded : IsMade shape.kind → IsSome (tables.isolation.kind_at at)
          kinded made =
              let maker = knows.makers k shape is made in
              subst IsSome (sym kind_of_it) (by shape.kind made maker.func maker.at)

    -- a struct
    struct_made : WordKinds tables.world → (id k : ℕ)
        → tables.world.known.top id ≡ Some (word.Shape shapes.Struct k)
        → WordGoes (struct_callee k (slice_get tables.world.shapes k))
    struct_made kinds id k top_is = by (slice_get tables.world.shapes k) refl where
      by : (found : Option Shape) → slice_get tables.world.shapes k ≡ found
          → WordGoes (struct_callee k found)
      by None is = uncallable tables number_of context listed vars noted at [] passed code_of 401
      by (Some shape) is =
          meant_goes tables number_of context listed vars noted at [] passed code_of
          (struct_callee k (Some shape)) (means.MakeOf k) refl
          (λ means_is typed. made_of k shape is
          (ap is_enum (kinds id k shapes.Struct shape top_is is)) means_is)

    -- an object or an actor
    object_made : WordKinds tables.world → (id k : ℕ) (kind : ShapeKind) → is_enum kind ≡ false
        → tables.world.known.top id ≡ Some (word.Shape kind k)
        → WordGoes (func_callee tables.world (λ n. means.MakeOf k) 401
        (and_then (slice_get tables.world.makers k) tables.world.numbers))
    object_made kinds id k kind no_enum top_is =
        func_goes tables number_of context listed vars noted at [] passed code_of
        (λ n. means.MakeOf k) 401 (and_then (slice_get tables.world.makers k) tables.world.numbers)
        (λ n func func_is means_is.
        let shape = stand.words id k kind top_is in
        made_of k shape.0 shape.1
        (ap is_enum (kinds id k kind shape.0 top_is shape.1) ∙ no_enum) means_is)

    -- a call by what a word means
    pub called_goes : WordKinds tables.world → (meant : Sense)
        → SenseSeen tables.world vars context.owner meant
        → WordGoes (word_callee tables.world meant)
    called_goes kinds (Variable one) has =
        variable_goes tables number_of context listed vars noted at [] passed code_of
        (means.Local one.at) one.ty
        (value_called (means.Local one.at) (read_var tables at one.at)
        (variable_read tables number_of all knows stand context listed vars at one has) refl)
    called_goes kinds (OwnProperty k i) owner_is =
        part_goes tables number_of context listed vars noted at [] passed code_of
        (means.OwnPart i) 401 (part_at tables.world k i)
        (λ part is. value_called (means.OwnPart i) (read_own tables context.owner at i)
        (λ means_is. own_read tables number_of all knows stand context listed vars at k i part
        owner_is is means_is kind_is) refl)
    called_goes kinds (OwnMethod key) own = own_method key own
    called_goes kinds OwnCase seen =
        uncallable tables number_of context listed vars noted at [] passed code_of 401
    called_goes kinds (Top (word.Shape shapes.Struct k)) seen =
        struct_made kinds seen.0 k seen.1
    called_goes kinds (Top (word.Shape shapes.Enum k)) seen =
        uncallable tables number_of context listed vars noted at [] passed code_of 401
    called_goes kinds (Top (word.Shape shapes.Class k)) seen =
        object_made kinds seen.0 k shapes.Class refl seen.1
    called_goes kinds (Top (word.Shape shapes.Actor k)) seen =
        object_made kinds seen.0 k shapes.Actor refl seen.1
    called_goes kinds (Top (word.GlobalActor k)) seen =
        uncallable tables number_of context listed vars noted at [] passed code_of 401
    called_goes kinds (Top (word.Func key)) seen = function key
    called_goes kinds (Top (word.Global g)) seen =
        global_goes tables number_of context listed vars noted at [] passed code_of
        (means.GlobalOf g) (slice_get tables.world.globals g)
        (λ global is. value_called (means.GlobalOf g) (read_global tables at g)
        (λ means_is. global_read tables number_of all knows stand context listed vars at g global
        is means_is kind_is) refl)
    called_goes kinds (Top word.Entry) seen =
        uncallable tables number_of context listed vars noted at [] passed code_of 401
    called_goes kinds Printing seen =
        meant_goes tables number_of context listed vars noted at [] passed code_of Prints
        means.Print refl
        (λ means_is typed. by_meaning means.Print means_is
        (args_goes tables number_of all knows context listed vars noted args
        (λ operands. give at types.Unit (λ r. instr.Print at r operands)) args_go
        (λ operands. goes_give tables number_of context listed (seen_in tables context.owner vars)
        noted at types.Unit (λ r. instr.Print at r operands))))
    called_goes kinds Nothing seen =
        uncallable tables number_of context listed vars noted at [] passed code_of 401

-- a call by a word
pub call_proceeds : (tables : Tables) (number_of : Numbers) (all : List Note)
    (knows : TablesAgree tables number_of all) (stand : ShapesStand tables.world)
    (kinds : WordKinds tables.world) (context : Context) (listed : List ℕ) (setting : Setting)
    (same : context.owner ≡ setting.owner) (name : Name) (args : List ArgCode) (passed : Passed)
    (args_notes : List Note)
    → is_some (call_judged (call_callee tables.world setting name) name.at [] passed).ty ≡ true
    → RowsHold tables.answers
    (call_judged (call_callee tables.world setting name) name.at [] passed).rows
    → kinds_of name.at all
    ≡ kinds_of name.at (word_notes tables.world tables.answers context name.at)
    → ArgsProceed tables number_of context listed setting.vars args_notes args
    → ExprProceeds tables number_of context listed setting.vars
    (word_notes tables.world tables.answers context name.at ++ args_notes)
    (value name.at (call_read tables setting.owner name.at args (tables.answers.meaning_at name.at))
    (args_inside args))
call_proceeds tables number_of all knows stand kinds context listed setting same name args passed
    args_notes typed rows alone of_args =
    subst (λ owner. ExprProceeds tables number_of context listed setting.vars notes
    (value name.at (call_read tables owner name.at args (tables.answers.meaning_at name.at))
    (args_inside args))) same
    (record {
      read = called_goes tables number_of all knows stand context listed setting.vars name.at args
          passed args_notes
          (word_kind tables number_of all knows stand context listed setting.vars name.at alone)
          (goes_right tables number_of context listed (seen_in tables context.owner setting.vars)
          (word_notes tables.world tables.answers context name.at) args_notes (args_read args)
          of_args.read) kinds (sense tables.world setting name.id)
          (subst (λ owner. SenseSeen tables.world setting.vars owner
          (sense tables.world setting name.id)) (sym same)
          (sense_seen tables.world setting name.id)) typed rows;
      inside = of_args.inside;
    }) where
      notes : List Note
      notes = word_notes tables.world tables.answers context name.at ++ args_notes
