-- The code for what names mean proceeds: variables, `self`, properties, global variables, calls and
-- what is made.
use Rattle.std.proofs.Common.{◌≡◌, ℕ, Bool, true, false, List, [], ◌∷◌, Option, Some, None, refl}
use Rattle.std.proofs.Common.{sym, ap, subst, ◌∙◌, true≢false}
use Rattle.std.proofs.lemmas.Bool.{false≢true}
use Rattle.std.specs.Option.{option_map}
use Rattle.std.specs.Prelude.{Contains, IsSome, slice_get, if◌then◌else◌}
use Rattle.sw_types.specs.declared.isolation.CallKind.{CallKind}
use Rattle.sw_types.specs.declared.isolation.CallKind.TheVariants as kinds
use Rattle.sw_types.specs.declared.isolation.Iso.{Iso}
use Rattle.sw_types.specs.declared.isolation.Iso.TheVariants as iso
use Rattle.sw_types.specs.declared.shape.Part.{Part}
use Rattle.sw_types.specs.declared.shape.Shape.{Shape}
use Rattle.sw_types.specs.declared.shape.ShapeKind.{ShapeKind}
use Rattle.sw_types.specs.declared.shape.ShapeKind.TheVariants as shapes
use Rattle.sw_types.specs.declared.ty.Ty.{Ty}
use Rattle.sw_types.specs.declared.ty.Ty.TheVariants as types
use Rattle.sw_types.specs.CallKinds as graph
use Rattle.sw_graph.specs.Kinds.{is_enum}
use Rattle.sw_graph.specs.declared.instr.Instr.TheVariants as instr
use Rattle.sw_graph.specs.declared.instr.Operand.{Operand}
use Rattle.sw_decls.specs.Signatures.{actor_iso}
use Rattle.sw_decls.specs.declared.signature.GlobalVar.{GlobalVar}
use Rattle.sw_decls.specs.declared.signature.Signature.{Signature}
use Rattle.sw_typing_rules.specs.Worlds.{is_object_kind, item}
use Rattle.sw_typing_rules.specs.declared.scope.Var.{Var}
use Rattle.sw_isolation_rules.specs.Kinds.{accessor, is_isolated, is_outside, is_strong, kind_of}
use Rattle.sw_isolation_rules.specs.Uses.{global, may_cross, maker_at, part_in as used_part}
use Rattle.sw_isolation_rules.specs.Uses.{part_storage}
use Rattle.sw_isolation_rules.specs.declared.note.Note.{Note}
use Rattle.sw_isolation_rules.specs.declared.uses.Context.{Context}
use Rattle.sw_isolation_rules.specs.declared.uses.Storage.{Storage}
use Rattle.sw_isolation_rules.specs.declared.uses.Used.TheVariants.{Field, Stored}
use Rattle.sw_lower_plans.specs.Plan.{Numbers}
use Rattle.sw_lower_plans.specs.declared.bound.Bound.{Bound}
use Rattle.sw_lower_code.specs.Code.{Code, done, emit, known, ◌>>=◌}
use Rattle.sw_lower_rules.specs.Tables.{Tables, getter_of, plain}
use Rattle.sw_lower_rules.specs.Uses.{call_closure, call_func, call_getter, call_signature}
use Rattle.sw_lower_rules.specs.Uses.{from_box, give, global_by, make, make_by, make_value, no_func}
use Rattle.sw_lower_rules.specs.Uses.{no_global, no_part, no_shape, operand, part_at, part_by}
use Rattle.sw_lower_rules.specs.Uses.{part_in, read_bound, read_global, read_own, read_part}
use Rattle.sw_lower_rules.specs.Uses.{read_self, read_var, self_key, shape_at, write_bound}
use Rattle.sw_lower_rules.specs.Uses.{write_var}
use Rattle.sw_lower_total_facts.specs.Bound.{seen_in}
use Rattle.sw_lower_total_facts.specs.Known.{IsMade, TablesAgree}
use Rattle.sw_lower_total_facts.specs.Noted.{mentions}
use Rattle.sw_lower_total_facts.proofs.Expressions.Kinds.{read_kind, use_kind}
use Rattle.sw_lower_total_facts.proofs.Expressions.Mentioned.{self_seen}
use Rattle.sw_lower_total_facts.proofs.Proceeding.Each.{Goes}
use Rattle.sw_lower_total_facts.proofs.Proceeding.Using.{goes_done, goes_emit, goes_found, goes_give}
use Rattle.sw_lower_total_facts.proofs.Proceeding.Using.{goes_known, goes_number, goes_then, goes_typed}
use Rattle.sw_lower_total_facts.proofs.Proceeding.Using.{goes_var}

-- Storage that is another actor's is isolated to an actor.
outside_isolated : (context : Context) (storage : Storage) → is_outside context storage ≡ true
    → is_isolated storage.iso ≡ true
outside_isolated context storage is = by storage.iso is where
  by : (one : Iso) → is_strong (graph.kind_by one false storage.on_self context.iso) ≡ true
      → is_isolated one ≡ true
  by iso.Free is = absurd (false≢true is)
  by iso.Own is = refl
  by (iso.Global actor) is = refl
  by iso.Caller is = absurd (false≢true is)

-- Storage that is read by a call is a `var` of another actor.
record Crosses (storage : Storage) : Type 0 where
  pub mutable : storage.mutable ≡ true
  pub isolated : is_isolated storage.iso ≡ true

crosses : (context : Context) (storage : Storage) (kind : CallKind)
    → read_kind context storage ≡ Some kind → Crosses storage
crosses context storage kind is = by (is_outside context storage) storage.mutable refl refl is where
  by : (outside mutable : Bool) → is_outside context storage ≡ outside
      → storage.mutable ≡ mutable
      → (if outside
      then (if mutable then Some (kind_of (accessor storage) context.iso) else None) else None)
      ≡ Some kind → Crosses storage
  by true true one two is = record {
    mutable = two;
    isolated = outside_isolated context storage one;
  }
  by true false one two is = cc
  by false mutable one two is = cc

-- A class and an actor store their properties.
object_made : (kind : ShapeKind) → IsMade kind → is_object_kind kind ≡ true
object_made shapes.Struct made = absurd made
object_made shapes.Enum made = absurd made
object_made shapes.Class made = refl
object_made shapes.Actor made = refl

-- isolated to a global actor
actor_of : (actor : Option ℕ) → is_isolated (actor_iso actor) ≡ true
    → (one : ℕ) × (actor ≡ Some one)
actor_of None is = absurd (false≢true is)
actor_of (Some one) is = (one, refl)

module _ (tables : Tables) (number_of : Numbers) (all : List Note)
    (knows : TablesAgree tables number_of all) (context : Context) (listed : List ℕ)
    (vars : List Var)
    (notes : List Note) where
  abbrev Reading : {A : Type 0} → Code A → Type 0
  Reading code =
      Goes tables number_of context listed (seen_in tables context.owner vars) notes code

  abbrev seen : List ℕ
  seen = seen_in tables context.owner vars

  read_of : (at : ℕ) (bound : Bound)
      → (bound.boxed ≡ true → IsSome (tables.answers.type_at bound.key))
      → Reading (read_bound tables at bound)
  unfolding read_bound
  read_of at bound is_typed = by bound.boxed refl where
    by : (boxed : Bool) → bound.boxed ≡ boxed
        → Reading (if boxed then from_box tables at bound else done (operand bound.reg at))
    by true is =
        goes_typed tables number_of context listed seen notes bound.key
        (λ ty. give at ty (λ r. instr.LoadBox at r (operand bound.reg at))) (is_typed is)
        (λ ty. goes_give tables number_of context listed seen notes at ty
        (λ r. instr.LoadBox at r (operand bound.reg at)))
    by false is = goes_done tables number_of context listed seen notes (operand bound.reg at)

  -- a variable
  pub goes_read_var : (at key : ℕ) → Contains seen key → Contains (mentions notes) key
      → Reading (read_var tables at key)
  unfolding read_var
  goes_read_var at key is_seen has =
      goes_var tables number_of context listed seen notes key (read_bound tables at)
      (λ s ready. ready.vars key is_seen has)
      (λ bound is is_typed. read_of at bound
      (λ boxed. subst (λ k. IsSome (tables.answers.type_at k)) (sym is) (is_typed boxed)))

  pub goes_write_var : (at key : ℕ) (given : Operand) → Contains seen key
      → Contains (mentions notes) key → Reading (write_var tables at key given)
  unfolding write_var write_bound
  goes_write_var at key given is_seen has =
      goes_var tables number_of context listed seen notes key (write_bound at given)
      (λ s ready. ready.vars key is_seen has) (λ bound is is_typed. by bound bound.boxed) where
        by : (bound : Bound) (boxed : Bool) → Reading
            (if boxed then emit (instr.StoreBox at (operand bound.reg at) given)
            else emit (instr.Copy at bound.reg given))
        by bound true =
            goes_emit tables number_of context listed seen notes
            (instr.StoreBox at (operand bound.reg at) given)
        by bound false =
            goes_emit tables number_of context listed seen notes (instr.Copy at bound.reg given)

  -- `self`
  pub goes_read_self : (at : ℕ) (shape : Shape)
      → item context.owner tables.world.shapes ≡ Some shape
      → Contains (mentions notes) shape.at → Reading (read_self tables context.owner at)
  unfolding read_self self_key
  goes_read_self at shape is has =
      goes_known tables number_of context listed seen notes 0 (self_key tables context.owner)
      shape.at (read_var tables at) (ap (option_map (λ (s : Shape). s.at)) is)
      (goes_read_var at shape.at (self_seen tables context.owner vars shape is) has)

  -- the call of a getter
  getter_called : (at : ℕ) (kind : CallKind) (ty : Ty) (key : ℕ) (operands : List Operand)
      → IsSome (number_of (getter_of key)) → Reading (call_getter tables at kind ty key operands)
  unfolding call_getter
  getter_called at kind ty key operands numbered =
      goes_number tables number_of context listed seen notes (getter_of key)
      (λ f. give at ty (λ r. instr.Call at r kind f operands)) numbered
      (λ f. goes_give tables number_of context listed seen notes at ty
      (λ r. instr.Call at r kind f operands))

  -- a property of an object or an actor
  stored_part : (at k i : ℕ) (shape : Shape) (part : Part) (base : Operand)
      → slice_get tables.world.shapes k ≡ Some shape → slice_get shape.parts i ≡ Some part
      → IsMade shape.kind → (on_self : Bool)
      → tables.isolation.kind_at at
      ≡ use_kind context (used_part tables.world shape on_self (Some part))
      → Reading (part_by tables (tables.isolation.kind_at at) at k i part.ty base)
  stored_part at k i shape part base shape_is part_is made on_self kind_is =
      by (tables.isolation.kind_at at) (kind_is ∙ stored) where
        storage : Storage
        storage = part_storage tables.world shape on_self part

        stored : use_kind context (used_part tables.world shape on_self (Some part))
            ≡ read_kind context storage
        stored =
            ap (λ object. use_kind context (if object then Stored storage else Field))
            (object_made shape.kind made)

        by : (found : Option CallKind) → found ≡ read_kind context storage
            → Reading (part_by tables found at k i part.ty base)
        by None is =
            goes_give tables number_of context listed seen notes at part.ty
            (λ r. instr.LoadProp at r base i)
        by (Some kind) is =
            let cross = crosses context storage kind (sym is) in
            goes_found tables number_of context listed seen notes 0 (tables.part_key k i)
            (λ key. call_getter tables at kind part.ty key (base ∷ []))
            (knows.parts k i shape part shape_is part_is made)
            (λ key key_is. getter_called at kind part.ty key (base ∷ [])
            (knows.part_getters k i key shape part shape_is part_is key_is cross.mutable
            cross.isolated))

  -- a property
  pub goes_read_part : (at k i : ℕ) (shape : Shape) (part : Part) (base : Operand)
      → slice_get tables.world.shapes k ≡ Some shape → slice_get shape.parts i ≡ Some part
      → is_enum shape.kind ≡ false → (on_self : Bool)
      → tables.isolation.kind_at at
      ≡ use_kind context (used_part tables.world shape on_self (Some part))
      → Reading (read_part tables at k i base)
  unfolding read_part shape_at part_at
  goes_read_part at k i shape part base shape_is part_is no_enum on_self kind_is =
      goes_known tables number_of context listed seen notes no_shape
      (slice_get tables.world.shapes k) shape
      (λ s. known no_part (slice_get s.parts i)
      >>= λ part. part_in tables s.kind at k i part.ty base) shape_is
      (goes_known tables number_of context listed seen notes no_part (slice_get shape.parts i) part
      (λ one. part_in tables shape.kind at k i one.ty base) part_is
      (by shape.kind no_enum
      (λ made. stored_part at k i shape part base shape_is part_is made on_self kind_is))) where
        by : (kind : ShapeKind) → is_enum kind ≡ false
            → (IsMade kind
            → Reading (part_by tables (tables.isolation.kind_at at) at k i part.ty base))
            → Reading (part_in tables kind at k i part.ty base)
        by shapes.Struct none stored =
            goes_give tables number_of context listed seen notes at part.ty
            (λ r. instr.Field at r base i)
        by shapes.Enum none stored = absurd (true≢false none)
        by shapes.Class none stored = stored tt
        by shapes.Actor none stored = stored tt

  -- a property of `self`, which is left out
  pub goes_read_own : (at k i : ℕ) (shape : Shape) (part : Part) → context.owner ≡ Some k
      → slice_get tables.world.shapes k ≡ Some shape → slice_get shape.parts i ≡ Some part
      → is_enum shape.kind ≡ false → (on_self : Bool)
      → tables.isolation.kind_at at
      ≡ use_kind context (used_part tables.world shape on_self (Some part))
      → Contains (mentions notes) shape.at → Reading (read_own tables context.owner at i)
  unfolding read_own
  goes_read_own at k i shape part owner_is shape_is part_is no_enum on_self kind_is has =
      goes_then tables number_of context listed seen notes (read_self tables context.owner at)
      (λ me. known 0 context.owner >>= λ n. read_part tables at n i me)
      (goes_read_self at shape
      (ap (λ owner. item owner tables.world.shapes) owner_is ∙ shape_is) has)
      (λ me. goes_known tables number_of context listed seen notes 0 context.owner k
      (λ n. read_part tables at n i me) owner_is
      (goes_read_part at k i shape part me shape_is part_is no_enum on_self kind_is))

  -- a global variable
  pub goes_read_global : (at g : ℕ) (one : GlobalVar)
      → slice_get tables.world.globals g ≡ Some one
      → tables.isolation.kind_at at ≡ use_kind context (global tables.world (Some one))
      → Reading (read_global tables at g)
  unfolding read_global
  goes_read_global at g one is kind_is =
      goes_known tables number_of context listed seen notes no_global
      (slice_get tables.world.globals g) one
      (global_by tables (tables.isolation.kind_at at) at g) is
      (by (tables.isolation.kind_at at) kind_is) where
        by : (found : Option CallKind)
            → found ≡ use_kind context (global tables.world (Some one))
            → Reading (global_by tables found at g one)
        by None none =
            goes_give tables number_of context listed seen notes at one.ty
            (λ r. instr.LoadGlobal at r g)
        by (Some kind) some =
            let cross = crosses context (record {
              iso = actor_iso one.actor;
              on_self = false;
              mutable = one.mutable;
              may_cross = may_cross tables.world one.ty;
            }) kind (sym some) in
            let actor = actor_of one.actor cross.isolated in
            getter_called at kind one.ty one.key.at []
            (knows.global_getters g actor.0 one is cross.mutable actor.1)

  -- the call of a function
  signature_called : (at : ℕ) (operands : List Operand) (func : Signature)
      → IsSome (number_of (plain func.key.at)) → IsSome (tables.isolation.kind_at at)
      → Reading (call_signature tables at operands func)
  signature_called at operands func numbered kinded =
      goes_number tables number_of context listed seen notes (plain func.key.at)
      (λ f. known kinds.Plain (tables.isolation.kind_at at)
      >>= λ kind. give at func.result (λ r. instr.Call at r kind f operands)) numbered
      (λ f. goes_found tables number_of context listed seen notes kinds.Plain
      (tables.isolation.kind_at at)
      (λ kind. give at func.result (λ r. instr.Call at r kind f operands)) kinded
      (λ kind is. goes_give tables number_of context listed seen notes at func.result
      (λ r. instr.Call at r kind f operands)))

  pub goes_call_func : (at n : ℕ) (func : Signature) (operands : List Operand)
      → slice_get tables.world.funcs n ≡ Some func → IsSome (tables.isolation.kind_at at)
      → Reading (call_func tables at n operands)
  unfolding call_func
  goes_call_func at n func operands is kinded =
      goes_known tables number_of context listed seen notes no_func
      (slice_get tables.world.funcs n) func (call_signature tables at operands) is
      (signature_called at operands func (knows.funcs n func is) kinded)

  -- the call of a closure
  pub goes_call_closure : (at : ℕ) (closure : Operand) (operands : List Operand)
      → IsSome (tables.answers.type_at at) → Reading (call_closure tables at closure operands)
  unfolding call_closure
  goes_call_closure at closure operands is =
      goes_typed tables number_of context listed seen notes at
      (λ ty. give at ty (λ r. instr.CallClosure at r closure operands)) is
      (λ ty. goes_give tables number_of context listed seen notes at ty
      (λ r. instr.CallClosure at r closure operands))

  -- a value of a struct or of a case
  pub goes_make_value : (at shape : ℕ) (tag : Option ℕ) (operands : List Operand)
      → Reading (make_value at shape tag operands)
  unfolding make_value
  goes_make_value at shape tag operands =
      goes_give tables number_of context listed seen notes at (types.Named shape)
      (λ r. instr.Make at r shape tag operands)

  -- an object or an actor, which its initialiser makes
  object_made_by : (at k : ℕ) (shape : Shape) (operands : List Operand)
      → slice_get tables.world.shapes k ≡ Some shape → IsMade shape.kind
      → IsSome (tables.isolation.kind_at at)
      → Reading (known no_func (maker_at tables.world k) >>= call_signature tables at operands)
  object_made_by at k shape operands is made kinded =
      let maker = knows.makers k shape is made in
      goes_known tables number_of context listed seen notes no_func (maker_at tables.world k)
      maker.func (call_signature tables at operands) maker.at
      (signature_called at operands maker.func maker.numbered kinded)

  pub goes_make : (at k : ℕ) (shape : Shape) (operands : List Operand)
      → slice_get tables.world.shapes k ≡ Some shape → is_enum shape.kind ≡ false
      → (IsMade shape.kind → IsSome (tables.isolation.kind_at at))
      → Reading (make tables at k operands)
  unfolding make shape_at
  goes_make at k shape operands is no_enum kinded =
      goes_known tables number_of context listed seen notes no_shape
      (slice_get tables.world.shapes k) shape (λ s. make_by tables s.kind at k operands) is
      (by shape.kind no_enum (λ made. object_made_by at k shape operands is made (kinded made)))
    where
      by : (kind : ShapeKind) → is_enum kind ≡ false
          → (IsMade kind
          → Reading (known no_func (maker_at tables.world k) >>= call_signature tables at operands))
          → Reading (make_by tables kind at k operands)
      by shapes.Struct none made = goes_make_value at k None operands
      by shapes.Enum none made = absurd (true≢false none)
      by shapes.Class none made = made tt
      by shapes.Actor none made = made tt
