-- What is written to a property and to a global variable.
use Rattle.std.proofs.Common.{◌≡◌, ℕ, Bool, true, List, Option, Some, None, refl}
use Rattle.std.proofs.Common.{ap, sym, ◌∙◌, subst}
use Rattle.std.proofs.lemmas.Bool.{false≢true}
use Rattle.std.proofs.lemmas.Option.{same_Some}
use Rattle.std.specs.Prelude.{slice_get}
use Rattle.sw_types.specs.declared.shape.Part.{Part}
use Rattle.sw_types.specs.declared.shape.Shape.{Shape}
use Rattle.sw_types.specs.declared.shape.ShapeKind.{ShapeKind}
use Rattle.sw_types.specs.declared.shape.ShapeKind.TheVariants as shapes
use Rattle.sw_types.specs.declared.ty.Ty.TheVariants as types
use Rattle.sw_graph.specs.Kinds.{is_struct}
use Rattle.sw_graph.specs.declared.function.RegKind.TheVariants.{Plain}
use Rattle.sw_graph.specs.declared.instr.Instr.TheVariants as instr
use Rattle.sw_graph.specs.declared.instr.Operand.{Operand}
use Rattle.sw_decls.specs.declared.signature.GlobalVar.{GlobalVar}
use Rattle.sw_typing_rules.specs.Words.{is_var_global, is_var_part}
use Rattle.sw_typing_rules.specs.Worlds.{is_object, is_object_kind, part_at}
use Rattle.sw_typing_rules.specs.declared.row.Meaning.TheVariants as means
use Rattle.sw_isolation_rules.specs.Noting.{store_notes}
use Rattle.sw_isolation_rules.specs.Uses.{global, global_used, part_storage, part_used}
use Rattle.sw_isolation_rules.specs.declared.note.Note.{Note}
use Rattle.sw_isolation_rules.specs.declared.uses.Context.{Context}
use Rattle.sw_isolation_rules.specs.declared.uses.Used.TheVariants.{Stored}
use Rattle.sw_lower_plans.specs.Run.{Making}
use Rattle.sw_lower_code.specs.Code.{Code, emit, reg, ◌>>=◌, ◌>>◌}
use Rattle.sw_lower_rules.specs.Carriers.{ExprCode}
use Rattle.sw_lower_rules.specs.Expressions.{own_base, set_part, word_write, write_part}
use Rattle.sw_lower_rules.specs.Uses.{operand, read_self}
use Rattle.sw_lower_formed_facts.proofs.Expressions.Words.{object_no_struct}
use Rattle.sw_typing_facts.proofs.Lists.Found.{found_in_found}
use Rattle.sw_lower_placed_facts.specs.Allowed.{RegisterHasType, PartWritten}
use Rattle.sw_lower_placed_facts.specs.Claims.{AreNoted}
use Rattle.sw_lower_placed_facts.specs.Placing.{Places, PlacesAt, PlacesWith}
use Rattle.sw_lower_placed_facts.specs.Settled.{IsSettled}
use Rattle.sw_lower_placed_facts.specs.Hosts.{IsOwnSelf, IsSeenFrom, IsHost, Program, Host}
use Rattle.sw_lower_placed_facts.proofs.Placing.Asking.{places_known_then, places_shape_then}
use Rattle.sw_lower_placed_facts.proofs.Placing.Giving.{allowed_new, allowed_unset}
use Rattle.sw_lower_placed_facts.proofs.Placing.Joining.{places_any, places_then, places_weaker}
use Rattle.sw_lower_placed_facts.proofs.Placing.Steps.{IsNew, IsStill, places_emit}
use Rattle.sw_lower_placed_facts.proofs.Placing.Steps.{places_none, places_reg}
use Rattle.sw_lower_placed_facts.proofs.Uses.Noted.{write_ok}
use Rattle.sw_lower_placed_facts.proofs.Uses.Parts.{object_stored, part_use}
use Rattle.sw_lower_placed_facts.proofs.Uses.Variables.{SelfValue, read_self_placed}

-- a `var` that is found
record IsVarGlobal (program : Program) (g : ℕ) : Type 0 where
  one : GlobalVar
  is : slice_get program.tables.world.globals g ≡ Some one
  mutable : one.mutable ≡ true

var_global : (program : Program) (g : ℕ)
    → is_var_global (slice_get program.tables.world.globals g) ≡ true → IsVarGlobal program g
var_global program g var = by (slice_get program.tables.world.globals g) refl var where
  by : (found : Option GlobalVar) → slice_get program.tables.world.globals g ≡ found
      → is_var_global found ≡ true → IsVarGlobal program g
  by None is var = absurd (false≢true var)
  by (Some one) is var = record { one = one; is = is; mutable = var }

record IsVarPart (program : Program) (shape : Shape) (i : ℕ) : Type 0 where
  part : Part
  is : slice_get shape.parts i ≡ Some part
  mutable : part.mutable ≡ true

var_part : (program : Program) (k i : ℕ) (shape : Shape)
    → slice_get program.tables.world.shapes k ≡ Some shape
    → is_var_part (part_at program.tables.world k i) ≡ true → IsVarPart program shape i
var_part program k i shape shape_is var =
    by (part_at program.tables.world k i) refl var where
      by : (found : Option Part) → part_at program.tables.world k i ≡ found
          → is_var_part found ≡ true → IsVarPart program shape i
      by None is var = absurd (false≢true var)
      by (Some part) is var =
          let found = found_in_found (slice_get program.tables.world.shapes k)
          (λ (one : Shape). slice_get one.parts i) part is in
          record {
            part = part;
            is = ap (λ (one : Shape). slice_get one.parts i)
                (same_Some shape found.0 (sym shape_is ∙ found.1)) ∙ found.2;
            mutable = var;
          }

module _ (program : Program) (host : Host) (settled : IsSettled program)
    (is_host : IsHost program host) where
  -- a global variable
  pub write_global_placed : (at g place : ℕ) (inner : List Note) (given : Operand)
      (context : Context) → IsSeenFrom host context
      → AreNoted program (store_notes context place (global_used program.tables.world g) inner)
      → is_var_global (slice_get program.tables.world.globals g) ≡ true
      → Places program host (emit (instr.StoreGlobal at g given))
  unfolding global_used
  write_global_placed at g place inner given context seen noted var s =
      let found = var_global program g var in
      places_any s (emit (instr.StoreGlobal at g given)) (λ value t. IsStill s t)
      (places_emit s (instr.StoreGlobal at g given)
      (allowed_unset s.made.regs (instr.StoreGlobal at g given) refl
      (record {
        global = found.one;
        is = found.is;
        ok = write_ok program host s.made.regs settled context place _ seen
            (subst (λ one. AreNoted program
            (store_notes context place (global program.tables.world one) inner)) found.is noted)
            found.mutable;
      }) tt))

  module _ (O : Type 0) where
    -- what stands before a property that is written; a struct's value is written back
    pub record BaseOk (k : ℕ) (on_self : Bool) (base : ExprCode) : Type 0 where
      pub read : (s : Making) → PlacesAt program host s base.read
          (λ x t. RegisterHasType t.made.regs x.reg (types.Named k)
          × ((on_self ≡ true → IsOwnSelf host x) × O))
      pub write : (shape : Shape) → slice_get program.tables.world.shapes k ≡ Some shape
          → is_struct shape.kind ≡ true → (x : Operand) → Places program host (base.write x)

    -- what is known of its value
    abbrev pub IsBase : ℕ → Bool → Operand → Making → Type 0
    IsBase k on_self x t =
        RegisterHasType t.made.regs x.reg (types.Named k)
        × ((on_self ≡ true → IsOwnSelf host x) × O)

    -- a property of an object or an actor
    store_part : (at k i place : ℕ) (on_self : Bool) (inner : List Note) (shape : Shape)
        (base : ExprCode) (given : Operand) (context : Context) → IsSeenFrom host context
        → BaseOk k on_self base → slice_get program.tables.world.shapes k ≡ Some shape
        → IsVarPart program shape i → is_object_kind shape.kind ≡ true
        → AreNoted program
        (store_notes context place (part_used program.tables.world (Some k) i on_self) inner)
        → PlacesWith program host
        (base.read >>= λ cell. emit (instr.StoreProp at cell i given)) O
    store_part at k i place on_self inner shape base given context seen ok shape_is part object
        noted s =
        places_then s base.read (λ cell. emit (instr.StoreProp at cell i given))
        (IsBase k on_self) (λ value t. O) (ok.read s)
        (λ cell u later mid.
        places_weaker u (emit (instr.StoreProp at cell i given)) (λ value t. IsStill u t)
        (λ value t. O)
        (places_emit u (instr.StoreProp at cell i given)
        (allowed_unset u.made.regs (instr.StoreProp at cell i given) refl
        (written cell u mid.0 mid.1.0) tt))
        (λ value t still is. mid.1.1)) where
          stored : AreNoted program (store_notes context place
              (Stored (part_storage program.tables.world shape on_self part.part)) inner)
          stored =
              subst (λ one. AreNoted program (store_notes context place one inner))
              (part_use program host settled is_host k i on_self shape part.part shape_is part.is
              ∙ object_stored shape
              (Stored (part_storage program.tables.world shape on_self part.part)) object) noted

          written : (cell : Operand) (u : Making)
              → RegisterHasType u.made.regs cell.reg (types.Named k)
              → (on_self ≡ true → IsOwnSelf host cell)
              → PartWritten program host u.made.regs cell i
          written cell u has own = record {
            used = record {
              k = k;
              shape = shape;
              part = part.part;
              on_self = on_self;
              held = has;
              is_shape = shape_is;
              object = object;
              is_part = part.is;
              own = own;
            };
            ok = write_ok program host u.made.regs settled context place
                (part_storage program.tables.world shape on_self part.part) seen stored
                part.mutable;
          }

    -- a property of a struct's value, which is written back
    set_field : (at k i : ℕ) (on_self : Bool) (base : ExprCode) (given : Operand)
        → BaseOk k on_self base → ((x : Operand) → Places program host (base.write x))
        → PlacesWith program host (set_part program.tables host.owner shapes.Struct at k i base
        given) O
    set_field at k i on_self base given ok write s =
        places_then s base.read copy_of (IsBase k on_self) (λ value t. O) (ok.read s)
        (λ old u later mid.
        places_then u (reg (Plain (types.Named k))) (changed_in old)
        (λ r t. IsNew host u (Plain (types.Named k)) r t) (λ value t. O)
        (places_reg u (Plain (types.Named k)))
        (λ r v after new.
        places_then v (emit (instr.Copy at r old)) (λ _. set_in r) (λ value t. IsStill v t)
        (λ value t. O)
        (places_emit v (instr.Copy at r old)
        (allowed_new u v (Plain (types.Named k)) r (instr.Copy at r old) new refl tt tt))
        (λ _ w still copied.
        places_then w (emit (instr.SetField at (operand r base.key) i given))
        (λ _. base.write (operand r base.key)) (λ value t. IsStill w t) (λ value t. O)
        (places_emit w (instr.SetField at (operand r base.key) i given)
        (allowed_unset w.made.regs (instr.SetField at (operand r base.key) i given) refl tt tt))
        (λ _ x last changed.
        places_weaker x (base.write (operand r base.key)) (λ value t. Unit {0}) (λ value t. O)
        (write (operand r base.key) x) (λ value t end is. mid.1.1))))) where
          set_in : ℕ → Code (Unit {0})
          set_in r =
              emit (instr.SetField at (operand r base.key) i given)
              >> base.write (operand r base.key)

          changed_in : Operand → ℕ → Code (Unit {0})
          changed_in old r = emit (instr.Copy at r old) >> set_in r

          copy_of : Operand → Code (Unit {0})
          copy_of old = reg (Plain (types.Named k)) >>= changed_in old

    -- the property with a number
    pub write_part_placed : (at k i place : ℕ) (on_self : Bool) (inner : List Note)
        (base : ExprCode) (given : Operand) (context : Context) → IsSeenFrom host context
        → BaseOk k on_self base
        → AreNoted program
        (store_notes context place (part_used program.tables.world (Some k) i on_self) inner)
        → is_var_part (part_at program.tables.world k i) ≡ true
        → PlacesWith program host (write_part program.tables host.owner at k i base given) O
    unfolding write_part
    write_part_placed at k i place on_self inner base given context seen ok noted var s =
        places_shape_then program.tables s k
        (λ shape. set_part program.tables host.owner shape.kind at k i base given) (λ value t. O)
        (λ shape shape_is.
        by shape shape_is (var_part program k i shape shape_is var) shape.kind refl) where
          by : (shape : Shape) → slice_get program.tables.world.shapes k ≡ Some shape
              → IsVarPart program shape i → (kind : ShapeKind) → shape.kind ≡ kind
              → PlacesAt program host s
              (set_part program.tables host.owner kind at k i base given) (λ value t. O)
          by shape shape_is part shapes.Struct is =
              set_field at k i on_self base given ok
              (ok.write shape shape_is (ap is_struct is)) s
          by shape shape_is part shapes.Enum is = places_none s tt (λ value t. O)
          by shape shape_is part shapes.Class is =
              store_part at k i place on_self inner shape base given context seen ok shape_is part
              (ap is_object_kind is) noted s
          by shape shape_is part shapes.Actor is =
              store_part at k i place on_self inner shape base given context seen ok shape_is part
              (ap is_object_kind is) noted s

  -- `self` before a property, where it is left out
  own_base_ok : (at k : ℕ) → host.owner ≡ Some k → is_object program.tables.world k ≡ true
      → BaseOk (Unit {0}) k true (own_base program.tables host.owner at)
  own_base_ok at k owner_is object = record {
    read = λ s. places_weaker s (read_self program.tables host.owner at)
        (SelfValue program host settled is_host)
        (λ x t. RegisterHasType t.made.regs x.reg (types.Named k)
        × ((true ≡ true → IsOwnSelf host x) × Unit {0}))
        (read_self_placed program host settled is_host at s)
        (λ x t later me. (me.held k owner_is, ((λ on. me.own), tt)));
    write = λ shape shape_is struct_is.
        absurd (object_no_struct program.tables.world k shape shape_is object struct_is);
  }

  -- a property of `self`, which is left out
  pub write_own_placed : (at k i place : ℕ) (inner : List Note) (given : Operand)
      (context : Context) → IsSeenFrom host context → host.owner ≡ Some k
      → AreNoted program
      (store_notes context place (part_used program.tables.world (Some k) i true) inner)
      → is_object program.tables.world k ≡ true
      → is_var_part (part_at program.tables.world k i) ≡ true
      → Places program host
      (word_write program.tables host.owner at (Some (means.OwnPart i)) given)
  write_own_placed at k i place inner given context seen owner_is noted object var s =
      places_known_then s 0 host.owner
      (λ n. write_part program.tables host.owner at n i
      (own_base program.tables host.owner at) given) (λ value t. Unit {0})
      (λ n n_is.
      subst (λ m. PlacesAt program host s (write_part program.tables host.owner at m i
      (own_base program.tables host.owner at) given) (λ value t. Unit {0}))
      (same_Some k n (sym owner_is ∙ n_is))
      (write_part_placed (Unit {0}) at k i place true inner
      (own_base program.tables host.owner at) given context seen
      (own_base_ok at k owner_is object) noted var s))
