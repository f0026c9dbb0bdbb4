-- What is read of a property and of a global variable: where it is stored, or by a call of its
-- getter.
use Rattle.std.proofs.Common.{◌≡◌, ℕ, Bool, true, false, List, [], ◌∷◌, Option, Some, None, refl}
use Rattle.std.proofs.Common.{ap, sym, ◌∙◌, subst}
use Rattle.std.proofs.lemmas.Bool.{false≢true}
use Rattle.std.specs.Prelude.{if◌then◌else◌, slice_get}
use Rattle.sw_types.specs.declared.isolation.CallKind.{CallKind}
use Rattle.sw_types.specs.declared.isolation.Iso.{Iso}
use Rattle.sw_types.specs.declared.shape.Part.{Part}
use Rattle.sw_types.specs.declared.shape.Shape.{Shape}
use Rattle.sw_types.specs.declared.shape.ShapeKind.{ShapeKind}
use Rattle.sw_types.specs.declared.shape.ShapeKind.TheVariants as shapes
use Rattle.sw_types.specs.declared.ty.Ty.{Ty}
use Rattle.sw_types.specs.declared.ty.Ty.TheVariants as types
use Rattle.sw_graph.specs.declared.instr.Instr.TheVariants as instr
use Rattle.sw_graph.specs.declared.instr.Operand.{Operand}
use Rattle.sw_decls.specs.Signatures.{actor_iso}
use Rattle.sw_decls.specs.declared.signature.GlobalVar.{GlobalVar}
use Rattle.sw_typing_rules.specs.Worlds.{is_object_kind}
use Rattle.sw_isolation_rules.specs.Kinds.{is_strong, kind_of, plain_callee, shape_iso}
use Rattle.sw_isolation_rules.specs.Uses.{global, global_used, may_cross, part_of_shape}
use Rattle.sw_isolation_rules.specs.Uses.{part_storage}
use Rattle.sw_isolation_rules.specs.Uses.{part_in as used_part, part_used}
use Rattle.sw_isolation_rules.specs.declared.uses.Context.{Context}
use Rattle.sw_isolation_rules.specs.declared.uses.Storage.{Storage}
use Rattle.sw_isolation_rules.specs.declared.uses.Used.{Used}
use Rattle.sw_isolation_rules.specs.declared.uses.Used.TheVariants.{Field, Stored}
use Rattle.sw_lower_plans.specs.Run.{Making}
use Rattle.sw_lower_plans.specs.declared.name.FunctionName.{FunctionName}
use Rattle.sw_lower_code.specs.Code.{known, ◌>>=◌}
use Rattle.sw_lower_rules.specs.Tables.{getter_of, plain}
use Rattle.sw_lower_rules.specs.Uses.{call_getter, give, global_by, no_global, no_part, part_at}
use Rattle.sw_lower_rules.specs.Uses.{part_by, part_in, read_global, read_own, read_part, read_self}
use Rattle.sw_lower_placed_facts.specs.Allowed.{CallOk, FunctionIs, RegisterHasType, IsActorMaker}
use Rattle.sw_lower_placed_facts.specs.Allowed.{PartRead, SharesNone, global_storage}
use Rattle.sw_lower_placed_facts.specs.Placing.{PlacesAt}
use Rattle.sw_lower_placed_facts.specs.Settled.{IsSettled}
use Rattle.sw_lower_placed_facts.specs.Hosts.{FirstIsOwn, IsOwnSelf, IsSeenFrom, IsHost, Program, Host}
use Rattle.sw_lower_placed_facts.proofs.Placing.Asking.{places_known_then, places_number_then}
use Rattle.sw_lower_placed_facts.proofs.Placing.Asking.{places_shape_then, places_unknown}
use Rattle.sw_lower_placed_facts.proofs.Placing.Joining.{places_then}
use Rattle.sw_lower_placed_facts.proofs.Placing.Later.{type_later}
use Rattle.sw_lower_placed_facts.proofs.Uses.Noted.{IsCrossing, crossing, getter_crosses, read_ok}
use Rattle.sw_lower_placed_facts.proofs.Uses.Using.{IsUsed, MadeValue, give_made, give_placed}
use Rattle.sw_lower_placed_facts.proofs.Uses.Variables.{SelfValue, read_self_placed}

-- A getter is no initialiser.
no_maker : (program : Program) (key : ℕ) → IsActorMaker program (getter_of key) → ⊥
no_maker program key maker = absurd (no maker.named) where
  no : getter_of key ≡ plain maker.func.key.at → ⊥
  no same = cc (ap (λ (name : FunctionName). name.getter) same)

-- what may be a part of an object is no enum's and no struct's
pub object_stored : (shape : Shape) (stored : Used) → is_object_kind shape.kind ≡ true
    → (if is_object_kind shape.kind then stored else Field) ≡ stored
object_stored shape stored object = ap (λ is. if is then stored else Field) object

module _ (program : Program) (host : Host) (settled : IsSettled program)
    (is_host : IsHost program host) where
  -- the call of a getter, which has this isolation
  pub call_getter_placed : (at key : ℕ) (kind : CallKind) (ty : Ty) (iso : Iso) (on_self : Bool)
      (xs : List Operand)
      → ((f : ℕ) → program.numbers (getter_of key) ≡ Some f
      → FunctionIs program f iso false false ty)
      → kind ≡ kind_of (plain_callee iso false on_self) host.iso
      → (on_self ≡ true → FirstIsOwn host xs)
      → (SharesNone program → is_strong kind ≡ true → may_cross program.tables.world ty ≡ true)
      → (s : Making)
      → PlacesAt program host s (call_getter program.tables at kind ty key xs) MadeValue
  unfolding call_getter
  call_getter_placed at key kind ty iso on_self xs header given own crosses s =
      places_number_then s (getter_of key) (λ f. give at ty (λ r. instr.Call at r kind f xs))
      MadeValue
      (λ f found. give_made at ty (λ r. instr.Call at r kind f xs) s (λ r. refl)
      (λ r t later new. call_ok f r t found new.kind_is) (λ r is. tt)) where
        call_ok : (f r : ℕ) (t : Making) → program.numbers (getter_of key) ≡ Some f
            → RegisterHasType t.made.regs r ty → CallOk program host t.made.regs r kind f xs
        call_ok f r t found has = record {
          name = getter_of key;
          callee = plain_callee iso false on_self;
          sends = false;
          result = ty;
          numbered = found;
          header = header f found;
          makes = λ is. absurd (false≢true is);
          makes_none = λ is maker. no_maker program key maker;
          given = given;
          on_self = own;
          gives = has;
          crosses = crosses;
        }

  -- the kind of a getter's call
  getter_kind : (context : Context) (storage : Storage) (kind : CallKind) → IsSeenFrom host context
      → IsCrossing context storage kind
      → kind ≡ kind_of (plain_callee storage.iso false storage.on_self) host.iso
  getter_kind context storage kind seen cross =
      cross.kind_is
      ∙ ap (kind_of (plain_callee storage.iso false storage.on_self)) seen.iso

  -- a property of an object or an actor, by the kind that is noted of its key
  part_by_placed : (at k i : ℕ) (on_self : Bool) (shape : Shape) (part : Part) (base : Operand)
      (context : Context) → IsSeenFrom host context
      → slice_get program.tables.world.shapes k ≡ Some shape
      → slice_get shape.parts i ≡ Some part → is_object_kind shape.kind ≡ true
      → IsUsed program context at (Stored (part_storage program.tables.world shape on_self part))
      → (s : Making) → RegisterHasType s.made.regs base.reg (types.Named k)
      → (on_self ≡ true → IsOwnSelf host base) → (found : Option CallKind)
      → program.tables.isolation.kind_at at ≡ found
      → PlacesAt program host s (part_by program.tables found at k i part.ty base) MadeValue
  part_by_placed at k i on_self shape part base context seen shape_is part_is object used s held
      own None found =
      give_made at part.ty (λ r. instr.LoadProp at r base i) s (λ r. refl)
      (λ r t later new. part_read t (type_later s t base.reg (types.Named k) later held))
      (λ r is. tt) where
        storage : Storage
        storage = part_storage program.tables.world shape on_self part

        part_read : (t : Making) → RegisterHasType t.made.regs base.reg (types.Named k)
            → PartRead program host t.made.regs base i
        part_read t has = record {
          used = record {
            k = k;
            shape = shape;
            part = part;
            on_self = on_self;
            held = has;
            is_shape = shape_is;
            object = object;
            is_part = part_is;
            own = own;
          };
          ok = read_ok program host t.made.regs context at storage seen used.noted
              (sym used.kind ∙ found);
        }
  part_by_placed at k i on_self shape part base context seen shape_is part_is object used s held
      own (Some kind) found =
      places_known_then s 0 (program.tables.part_key k i)
      (λ key. call_getter program.tables at kind part.ty key (base ∷ [])) MadeValue
      (λ key key_is. call_getter_placed at key kind part.ty (shape_iso shape) on_self (base ∷ [])
      (λ f f_is. settled.part_getters k i key f shape part key_is f_is shape_is part_is)
      (getter_kind context storage kind seen cross) own
      (λ shares strong. getter_crosses program shares context at storage kind cross used.noted
      strong) s) where
        storage : Storage
        storage = part_storage program.tables.world shape on_self part

        cross : IsCrossing context storage kind
        cross = crossing context storage kind (sym used.kind ∙ found)

  -- a property by what holds it
  part_in_placed : (at k i : ℕ) (on_self : Bool) (shape : Shape) (part : Part) (base : Operand)
      (context : Context) → IsSeenFrom host context
      → slice_get program.tables.world.shapes k ≡ Some shape
      → slice_get shape.parts i ≡ Some part
      → IsUsed program context at (used_part program.tables.world shape on_self (Some part))
      → (s : Making) → RegisterHasType s.made.regs base.reg (types.Named k)
      → (on_self ≡ true → IsOwnSelf host base) → (kind : ShapeKind) → shape.kind ≡ kind
      → PlacesAt program host s (part_in program.tables kind at k i part.ty base) MadeValue
  part_in_placed at k i on_self shape part base context seen shape_is part_is used s held own
      shapes.Struct is =
      give_placed at part.ty (λ r. instr.Field at r base i) s (λ r. refl) (λ r t. tt) (λ r. tt)
  part_in_placed at k i on_self shape part base context seen shape_is part_is used s held own
      shapes.Enum is = places_unknown s MadeValue
  part_in_placed at k i on_self shape part base context seen shape_is part_is used s held own
      shapes.Class is =
      part_by_placed at k i on_self shape part base context seen shape_is part_is
      (ap is_object_kind is)
      (subst (IsUsed program context at) (object_stored shape
      (Stored (part_storage program.tables.world shape on_self part)) (ap is_object_kind is)) used)
      s held own (program.tables.isolation.kind_at at) refl
  part_in_placed at k i on_self shape part base context seen shape_is part_is used s held own
      shapes.Actor is =
      part_by_placed at k i on_self shape part base context seen shape_is part_is
      (ap is_object_kind is)
      (subst (IsUsed program context at) (object_stored shape
      (Stored (part_storage program.tables.world shape on_self part)) (ap is_object_kind is)) used)
      s held own (program.tables.isolation.kind_at at) refl

  -- what is used of a type that is there
  pub part_use : (k i : ℕ) (on_self : Bool) (shape : Shape) (part : Part)
      → slice_get program.tables.world.shapes k ≡ Some shape
      → slice_get shape.parts i ≡ Some part
      → part_used program.tables.world (Some k) i on_self
      ≡ used_part program.tables.world shape on_self (Some part)
  unfolding part_used
  part_use k i on_self shape part shape_is part_is =
      ap (λ found. part_of_shape program.tables.world found i on_self) shape_is
      ∙ ap (used_part program.tables.world shape on_self) part_is

  -- the property with a number, of `self` or not
  pub read_part_placed : (at k i : ℕ) (on_self : Bool) (base : Operand) (context : Context)
      → IsSeenFrom host context
      → IsUsed program context at (part_used program.tables.world (Some k) i on_self)
      → (s : Making) → RegisterHasType s.made.regs base.reg (types.Named k)
      → (on_self ≡ true → IsOwnSelf host base)
      → PlacesAt program host s (read_part program.tables at k i base) MadeValue
  unfolding read_part part_at
  read_part_placed at k i on_self base context seen used s held own =
      places_shape_then program.tables s k
      (λ shape. part_at program.tables i shape
      >>= λ part. part_in program.tables shape.kind at k i part.ty base) MadeValue
      (λ shape shape_is.
      places_known_then s no_part (slice_get shape.parts i)
      (λ part. part_in program.tables shape.kind at k i part.ty base) MadeValue
      (λ part part_is.
      part_in_placed at k i on_self shape part base context seen shape_is part_is
      (subst (IsUsed program context at) (part_use k i on_self shape part shape_is part_is) used)
      s held own shape.kind refl))

  -- a property of `self`, which is left out
  pub read_own_placed : (at i : ℕ) (context : Context) → IsSeenFrom host context
      → IsUsed program context at (part_used program.tables.world host.owner i true)
      → (s : Making)
      → PlacesAt program host s (read_own program.tables host.owner at i) MadeValue
  unfolding read_own
  read_own_placed at i context seen used s =
      places_then s (read_self program.tables host.owner at)
      (λ me. known 0 host.owner >>= λ k. read_part program.tables at k i me)
      (SelfValue program host settled is_host) MadeValue
      (read_self_placed program host settled is_host at s)
      (λ me u later mine.
      places_known_then u 0 host.owner (λ k. read_part program.tables at k i me) MadeValue
      (λ k owner_is.
      read_part_placed at k i true me context seen
      (subst (λ around. IsUsed program context at (part_used program.tables.world around i true))
      owner_is used) u (mine.held k owner_is) (λ on. mine.own)))

  -- a global variable, by the kind that is noted of its key
  global_by_placed : (at g : ℕ) (one : GlobalVar) (context : Context) → IsSeenFrom host context
      → slice_get program.tables.world.globals g ≡ Some one
      → IsUsed program context at (Stored (global_storage program one))
      → (s : Making) → (found : Option CallKind)
      → program.tables.isolation.kind_at at ≡ found
      → PlacesAt program host s (global_by program.tables found at g one) MadeValue
  global_by_placed at g one context seen is used s None found =
      give_made at one.ty (λ r. instr.LoadGlobal at r g) s (λ r. refl)
      (λ r t later new. record {
        global = one;
        is = is;
        ok = read_ok program host t.made.regs context at (global_storage program one) seen
            used.noted (sym used.kind ∙ found);
      })
      (λ r is. tt)
  global_by_placed at g one context seen is used s (Some kind) found =
      call_getter_placed at one.key.at kind one.ty (actor_iso one.actor) false []
      (λ f f_is. settled.global_getters g f one is f_is)
      (getter_kind context storage kind seen cross) (λ on. absurd (false≢true on))
      (λ shares strong. getter_crosses program shares context at storage kind cross used.noted
      strong) s where
        storage : Storage
        storage = global_storage program one

        cross : IsCrossing context storage kind
        cross = crossing context storage kind (sym used.kind ∙ found)

  -- the global variable with a number
  pub read_global_placed : (at g : ℕ) (context : Context) → IsSeenFrom host context
      → IsUsed program context at (global_used program.tables.world g)
      → (s : Making) → PlacesAt program host s (read_global program.tables at g) MadeValue
  unfolding read_global global_used
  read_global_placed at g context seen used s =
      places_known_then s no_global (slice_get program.tables.world.globals g)
      (global_by program.tables (program.tables.isolation.kind_at at) at g) MadeValue
      (λ one is. global_by_placed at g one context seen is
      (subst (λ found. IsUsed program context at (global program.tables.world found)) is used) s
      (program.tables.isolation.kind_at at) refl)
