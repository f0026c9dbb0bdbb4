-- How calls cross, what needs an `await`, and which storage is another actor's (SE-0306, SE-0316,
-- SE-0338, SE-0461).
use Rattle.std.specs.Prelude.{ℕ, Bool, true, false, Option}
use Rattle.sw_types.specs.CallKinds as graph
use Rattle.sw_types.specs.declared.isolation.CallKind.{CallKind}
use Rattle.sw_types.specs.declared.isolation.CallKind.TheVariants as kind
use Rattle.sw_types.specs.declared.isolation.Iso.{Iso}
use Rattle.sw_types.specs.declared.isolation.Iso.TheVariants as iso
use Rattle.sw_types.specs.declared.shape.Shape.{Shape}
use Rattle.sw_types.specs.declared.shape.ShapeKind.{ShapeKind}
use Rattle.sw_types.specs.declared.shape.ShapeKind.TheVariants as shapes
use Rattle.sw_decls.specs.Signatures.{actor_iso}
use Rattle.sw_isolation_rules.specs.declared.uses.Callee.{Callee}
use Rattle.sw_isolation_rules.specs.declared.uses.Context.{Context}
use Rattle.sw_isolation_rules.specs.declared.uses.Storage.{Storage}

-- the kind of a call: the table of kinds, which the calls of a graph have too
abbrev pub kind_of : Callee → Iso → CallKind
kind_of callee body = graph.call_kind (record {
  iso = callee.iso;
  is_async = callee.is_async;
  is_initialiser = callee.is_initialiser;
  on_self = callee.on_self;
}) body

-- What needs an `await`: all that leaves the body's actor, and what is asynchronous. To make an
-- actor needs none.
abbrev pub needs_await : CallKind → Bool → Bool
needs_await kind.Plain is_async = is_async
needs_await kind.Same is_async = is_async
needs_await kind.Weak is_async = true
needs_await kind.Strong is_async = true
needs_await kind.Make is_async = false

abbrev pub is_strong : CallKind → Bool
is_strong kind.Plain = false
is_strong kind.Same = false
is_strong kind.Weak = false
is_strong kind.Strong = true
is_strong kind.Make = false

-- a callee that is no initialiser of an actor: its isolation, whether it is asynchronous, and
-- whether it is called on `self`
abbrev pub plain_callee : Iso → Bool → Bool → Callee
plain_callee iso is_async on_self = record {
  iso = iso;
  is_async = is_async;
  is_initialiser = false;
  on_self = on_self;
}

-- Storage is used as a synchronous function in its place would be called.
abbrev pub accessor : Storage → Callee
accessor storage = plain_callee storage.iso false storage.on_self

-- whether storage is another actor's where it is used
abbrev pub is_outside : Context → Storage → Bool
is_outside context storage = is_strong (kind_of (accessor storage) context.iso)

-- A closure or a task has the isolation of the body around it. What runs where its caller runs
-- gives it none (SE-0461).
abbrev pub inherited : Iso → Iso
inherited iso.Free = iso.Free
inherited iso.Own = iso.Own
inherited (iso.Global actor) = iso.Global actor
inherited iso.Caller = iso.Free

abbrev pub is_own : Iso → Bool
is_own iso.Free = false
is_own iso.Own = true
is_own (iso.Global actor) = false
is_own iso.Caller = false

-- isolated to an actor
abbrev pub is_isolated : Iso → Bool
is_isolated iso.Free = false
is_isolated iso.Own = true
is_isolated (iso.Global actor) = true
is_isolated iso.Caller = false

abbrev pub kind_iso : ShapeKind → Option ℕ → Iso
kind_iso shapes.Struct actor = iso.Free
kind_iso shapes.Enum actor = iso.Free
kind_iso shapes.Class actor = actor_iso actor
kind_iso shapes.Actor actor = iso.Own

-- the isolation of what a type stores: an actor's is its own, a class's that of its annotation
abbrev pub shape_iso : Shape → Iso
shape_iso shape = kind_iso shape.kind shape.actor
