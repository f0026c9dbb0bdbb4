-- Getters read storage of their own isolation.
use Rattle.std.proofs.Common.{◌≡◌, ℕ, Bool, true, false, List, [], ◌∷◌, Option, Some, None}
use Rattle.std.proofs.Common.{refl, ap, sym, ◌∙◌, subst, cond, true≢false}
use Rattle.std.proofs.lemmas.Bool.{eq-eqb}
use Rattle.std.proofs.lemmas.List.Elements.{All-cons, All-nil}
use Rattle.std.specs.Option.{option_map}
use Rattle.std.specs.Prelude.{IsOk, Ok, slice_get}
use Rattle.sw_types.specs.declared.isolation.CallKind.TheVariants.{Same, Strong}
use Rattle.sw_types.specs.declared.isolation.Iso.{Iso}
use Rattle.sw_types.specs.declared.isolation.Iso.TheVariants as iso
use Rattle.sw_types.specs.declared.shape.Part.{Part}
use Rattle.sw_types.specs.declared.shape.Shape.{Shape}
use Rattle.sw_types.specs.declared.shape.ShapeKind.{ShapeKind}
use Rattle.sw_types.specs.declared.shape.ShapeKind.TheVariants as kinds
use Rattle.sw_types.specs.declared.ty.Ty.TheVariants as types
use Rattle.sw_graph.specs.Bodies.{is_own}
use Rattle.sw_graph.specs.declared.function.RegKind.{RegKind}
use Rattle.sw_graph.specs.declared.instr.Instr.TheVariants.{LoadGlobal, LoadProp}
use Rattle.sw_graph.specs.declared.instr.Last.TheVariants.{Return}
use Rattle.sw_graph.specs.declared.instr.Operand.{Operand}
use Rattle.sw_decls.specs.Signatures.{actor_iso}
use Rattle.sw_decls.specs.declared.signature.GlobalVar.{GlobalVar}
use Rattle.sw_typing_rules.specs.Worlds.{is_object_kind}
use Rattle.sw_isolation_rules.specs.Kinds.{is_isolated, is_strong, kind_iso, shape_iso}
use Rattle.sw_isolation_rules.specs.Uses.{may_cross, part_storage}
use Rattle.sw_isolation_rules.specs.declared.uses.Storage.{Storage}
use Rattle.sw_lower_plans.specs.Run.{Making}
use Rattle.sw_lower_code.specs.Code.{Code, close}
use Rattle.sw_lower_code.specs.Whole.{Body, lower_body}
use Rattle.sw_lower_rules.specs.Bodies.{getter, getter_code, part_getter, part_read, self_by}
use Rattle.sw_lower_rules.specs.Bodies.{stored_read}
use Rattle.sw_lower_rules.specs.Tables.{Tables}
use Rattle.sw_lower_rules.specs.Uses.{operand, self_key}
use Rattle.sw_lower_formed_facts.specs.Taking.{TakenOk}
use Rattle.sw_lower_formed_facts.proofs.Bodies.FuncTakes.{self_ok}
use Rattle.sw_lower_placed_facts.specs.Allowed.{GlobalRead, RegisterHasType, PartRead, ReadOk}
use Rattle.sw_lower_placed_facts.specs.Allowed.{global_storage}
use Rattle.sw_lower_placed_facts.specs.Allowed.{is_away}
use Rattle.sw_lower_placed_facts.specs.Claims.{IsOrdinary}
use Rattle.sw_lower_placed_facts.specs.Placing.{PlacesAt}
use Rattle.sw_lower_placed_facts.specs.Hosts.{IsHost, Program, Host}
use Rattle.sw_lower_placed_facts.proofs.Bodies.Entering.{TakesWell, kinds_of, takes_nothing}
use Rattle.sw_lower_placed_facts.proofs.Bodies.Functions.{body_ran, points_by}
use Rattle.sw_lower_placed_facts.proofs.Bodies.Ordinary.{ordinary_by}
use Rattle.sw_lower_placed_facts.proofs.Placing.Giving.{places_gives}
use Rattle.sw_lower_placed_facts.proofs.Placing.Joining.{places_any, places_then}
use Rattle.sw_lower_placed_facts.proofs.Placing.Later.{type_later}
use Rattle.sw_lower_placed_facts.proofs.Placing.Steps.{places_close}

-- Storage isn't away in a body of its own isolation.
near : (around : Iso) (on_self mutable crosses : Bool) → (is_own around ≡ true → on_self ≡ true)
    → is_away around (record {
      iso = around;
      on_self = on_self;
      mutable = mutable;
      may_cross = crosses;
    }) ≡ false
near iso.Free on_self mutable crosses own = refl
near iso.Own true mutable crosses own = refl
near iso.Own false mutable crosses own = absurd (true≢false (sym (own refl)))
near (iso.Global actor) on_self mutable crosses own =
    ap (λ same. is_strong (cond same Same Strong)) (eq-eqb actor actor refl)
near iso.Caller on_self mutable crosses own = refl

-- what is isolated to `self` is stored in an actor
pub own_actor : (kind : ShapeKind) (actor : Option ℕ) → is_own (kind_iso kind actor) ≡ true
    → kind ≡ kinds.Actor
own_actor kinds.Struct actor is = cc
own_actor kinds.Enum actor is = cc
own_actor kinds.Class None is = cc
own_actor kinds.Class (Some number) is = cc
own_actor kinds.Actor actor is = refl

-- and what is isolated to an actor in a class or an actor
object_by : (kind : ShapeKind) (actor : Option ℕ) → is_isolated (kind_iso kind actor) ≡ true
    → is_object_kind kind ≡ true
object_by kinds.Struct actor is = cc
object_by kinds.Enum actor is = cc
object_by kinds.Class actor is = refl
object_by kinds.Actor actor is = refl

-- the variable that `self` is in a member of a type
pub self_key_at : (tables : Tables) (n : ℕ) (shape : Shape)
    → slice_get tables.world.shapes n ≡ Some shape → self_key tables (Some n) ≡ Some shape.at
unfolding self_key
self_key_at tables n shape at = ap (option_map (λ (one : Shape). one.at)) at

-- What is read near is read well.
near_read : (host : Host) (storage : Storage) → is_away host.iso storage ≡ false
    → (program : Program) (regs : List RegKind) → ReadOk program host regs storage
near_read host storage is program regs = record {
  constant = λ away. cc (away, is);
  crosses = λ none away. cc (away, is);
}

module _ (program : Program) (host : Host) where
  getter_placed : (s : Making) (read : Code Operand)
      → PlacesAt program host s read (λ x t. Unit {0})
      → PlacesAt program host s (getter_code read) (λ x t. Unit {0})
  getter_placed s read placed =
      places_then s read (λ value. close (Return (Some value))) (λ x t. Unit {0})
      (λ x t. Unit {0}) placed
      (λ value u later mid.
      places_any u (close (Return (Some value))) _ (places_close u (Return (Some value))))

  -- a getter, where what it reads is placed at its start
  getter_by : (body : Body) (read : Code Operand) → body.code ≡ getter_code read
      → IsHost program host → host.iso ≡ body.iso
      → (is_own body.iso ≡ true → host.has_self ≡ true) → TakesWell program host body.takes
      → IsOk (lower_body program.numbers body)
      → ((s : Making) → s.made.regs ≡ kinds_of body.takes
      → PlacesAt program host s read (λ x t. Unit {0}))
      → IsOrdinary program body
  getter_by body read code_is is_host same self well made places =
      let ran = body_ran program host body well made in
      let placed = getter_placed ran.start read (places ran.start ran.regs_at_start) ran.stood tt
      ran.end (subst (λ (code : Code (Unit {0})). code.run ran.start ≡ Ok (tt, ran.end)) code_is
      ran.ran) ran.whole in
      ordinary_by program host body is_host same self well
      (points_by program host body ran.end.made.regs ran.end.made.blocks ran.regs ran.blocks
      placed.0.written)

module _ (program : Program) (key n i : ℕ) (shape : Shape) (part : Part)
    (at : slice_get program.tables.world.shapes n ≡ Some shape)
    (part_at : slice_get shape.parts i ≡ Some part)
    (isolated : is_isolated (shape_iso shape) ≡ true) where
  -- in a member of a type
  abbrev part_host : Host
  part_host = record {
    iso = shape_iso shape;
    owner = Some n;
    has_self = is_own (shape_iso shape);
  }

  part_host_is : IsHost program part_host
  part_host_is = record {
    own = λ has. has;
    actor = λ own. (
      n,
      refl,
      record { shape = shape; at = at; is = own_actor shape.kind shape.actor own },
    );
  }

  part_used : (regs : List RegKind) → RegisterHasType regs 0 (types.Named n)
      → PartRead program part_host regs (operand 0 key) i
  part_used regs held = record {
    used = record {
      k = n;
      shape = shape;
      part = part;
      on_self = true;
      held = held;
      is_shape = at;
      object = object_by shape.kind shape.actor isolated;
      is_part = part_at;
      own = λ is. record { has = λ own. own; first = λ own. refl };
    };
    ok = near_read part_host (part_storage program.tables.world shape true part)
        (near (shape_iso shape) true part.mutable (may_cross program.tables.world part.ty)
        (λ own. refl)) program regs;
  }

  part_read_placed : (s : Making) → RegisterHasType s.made.regs 0 (types.Named n)
      → PlacesAt program part_host s (part_read key i part.ty) (λ x t. Unit {0})
  part_read_placed s held =
      places_any s (part_read key i part.ty) _
      (places_gives key part.ty (λ r. LoadProp key r (operand 0 key) i) s (λ r. refl)
      (λ r t later new. part_used t.made.regs (type_later s t 0 (types.Named n) later held))
      (λ r is. tt))

  part_takes : TakesWell program part_host (self_by n shape ∷ [])
  part_takes = record {
    typed = All-cons (TakenOk program.tables (Some n)) (self_by n shape) []
        (self_ok program.tables n shape at) (All-nil (TakenOk program.tables (Some n)));
    first = λ has. record {
      first = self_by n shape;
      more = [];
      are = refl;
      me = self_key_at program.tables n shape at;
      plain = refl;
    };
    none = λ own none. cc (own, none);
  }

  -- the getter of a property
  pub part_getter_placed : (part_getter program.tables key n i shape part).iso ≡ shape_iso shape
      → IsOk (lower_body program.numbers (part_getter program.tables key n i shape part))
      → IsOrdinary program (part_getter program.tables key n i shape part)
  part_getter_placed same made =
      getter_by program part_host (part_getter program.tables key n i shape part)
      (part_read key i part.ty) refl part_host_is (sym same)
      (λ own. ap is_own (sym same) ∙ own) part_takes made
      (λ s regs. part_read_placed s (ap (λ all. slice_get all 0) regs))

module _ (program : Program) (key g actor : ℕ) (global : GlobalVar)
    (at : slice_get program.tables.world.globals g ≡ Some global)
    (on : global.actor ≡ Some actor) where
  abbrev global_host : Host
  global_host = record { iso = iso.Global actor; owner = None; has_self = false }

  global_host_is : IsHost program global_host
  global_host_is = record { own = λ has. cc; actor = λ own. cc }

  abbrev global_body : Body
  global_body = getter program.tables key [] global.ty (stored_read key g global.ty)

  global_used : (regs : List RegKind) → GlobalRead program global_host regs g
  global_used regs = record {
    global = global;
    is = at;
    ok = near_read global_host (global_storage program global)
        (ap (λ by. is_away (iso.Global actor) (record {
          iso = actor_iso by;
          on_self = false;
          mutable = global.mutable;
          may_cross = may_cross program.tables.world global.ty;
        })) on
        ∙ near (iso.Global actor) false global.mutable (may_cross program.tables.world global.ty)
        (λ own. cc)) program regs;
  }

  stored_read_placed : (s : Making)
      → PlacesAt program global_host s (stored_read key g global.ty) (λ x t. Unit {0})
  stored_read_placed s =
      places_any s (stored_read key g global.ty) _
      (places_gives key global.ty (λ r. LoadGlobal key r g) s (λ r. refl)
      (λ r t later new. global_used t.made.regs) (λ r is. tt))

  -- the getter of a global variable
  pub global_getter_placed : global_body.iso ≡ actor_iso global.actor
      → IsOk (lower_body program.numbers global_body) → IsOrdinary program global_body
  global_getter_placed same made =
      let iso_is : iso.Global actor ≡ global_body.iso = sym (same ∙ ap actor_iso on) in
      getter_by program global_host global_body (stored_read key g global.ty) refl global_host_is
      iso_is (λ own. absurd (true≢false (sym (ap is_own iso_is ∙ own))))
      (takes_nothing program global_host refl) made (λ s regs. stored_read_placed s)
