-- Calls of functions, initialisers and closures, and values that are made.
use Rattle.std.proofs.Common.{◌≡◌, ℕ, Bool, true, false, List, Option, Some, None, refl}
use Rattle.std.proofs.Common.{ap, sym, ◌∙◌, subst, ◌||◌, true≢false}
use Rattle.std.proofs.lemmas.Bool.{false≢true}
use Rattle.std.proofs.lemmas.Option.{same_Some}
use Rattle.std.specs.Prelude.{slice_get}
use Rattle.sw_types.specs.declared.isolation.CallKind.{CallKind}
use Rattle.sw_types.specs.declared.isolation.CallKind.TheVariants as kinds
use Rattle.sw_types.specs.declared.shape.Shape.{Shape}
use Rattle.sw_types.specs.declared.shape.ShapeKind.{ShapeKind}
use Rattle.sw_types.specs.declared.shape.ShapeKind.TheVariants as shapes
use Rattle.sw_types.specs.declared.ty.Ty.TheVariants as types
use Rattle.sw_graph.specs.declared.instr.Instr.TheVariants as instr
use Rattle.sw_graph.specs.declared.instr.Operand.{Operand}
use Rattle.sw_decls.specs.declared.signature.Signature.{Signature}
use Rattle.sw_isolation_rules.specs.Kinds.{is_strong, kind_of}
use Rattle.sw_isolation_rules.specs.Uses.{called, func_used, may_cross, made, made_kind, make_used}
use Rattle.sw_isolation_rules.specs.Uses.{maker_at}
use Rattle.sw_isolation_rules.specs.declared.uses.Callee.{Callee}
use Rattle.sw_isolation_rules.specs.declared.uses.Context.{Context}
use Rattle.sw_lower_plans.specs.Run.{Making}
use Rattle.sw_lower_code.specs.Code.{known, ◌>>=◌}
use Rattle.sw_lower_rules.specs.Tables.{plain}
use Rattle.sw_lower_rules.specs.Uses.{call_closure, call_func, call_signature, give, make, make_by}
use Rattle.sw_lower_rules.specs.Uses.{make_value, no_func}
use Rattle.sw_lower_call_facts.specs.Calls.{MeansFunc}
use Rattle.sw_lower_placed_facts.specs.Allowed.{CallOk, FunctionIs, RegisterHasType, IsActorMaker}
use Rattle.sw_lower_placed_facts.specs.Placing.{PlacesAt}
use Rattle.sw_lower_placed_facts.specs.Settled.{IsSettled}
use Rattle.sw_lower_placed_facts.specs.Hosts.{FirstIsOwn, IsSeenFrom, IsHost, Program, Host}
use Rattle.sw_lower_placed_facts.proofs.Placing.Asking.{places_known_then, places_number_then}
use Rattle.sw_lower_placed_facts.proofs.Placing.Asking.{places_shape_then, places_typed_then}
use Rattle.sw_lower_placed_facts.proofs.Placing.Asking.{places_unknown}
use Rattle.sw_lower_placed_facts.proofs.Placing.Giving.{next_apart}
use Rattle.sw_lower_placed_facts.proofs.Placing.Later.{AreBelow}
use Rattle.sw_lower_placed_facts.proofs.Uses.Noted.{call_crosses}
use Rattle.sw_lower_placed_facts.proofs.Uses.Using.{IsUsed, MadeValue, give_made, give_placed}

-- the function that is called, by what it declares
abbrev pub callee_by : Bool → Bool → Signature → Callee
callee_by is_initialiser on_self func = record {
  iso = func.iso;
  is_async = func.is_async;
  is_initialiser = is_initialiser;
  on_self = on_self;
}

module _ (program : Program) (host : Host) (settled : IsSettled program)
    (is_host : IsHost program host) where
  -- What is known of a function that is called: its header, and whether it makes an actor.
  pub record IsHeaded (is_initialiser : Bool) (func : Signature) : Type 0 where
    pub header : (f : ℕ) → program.numbers (plain func.key.at) ≡ Some f
        → FunctionIs program f func.iso func.is_async func.sends func.result
    pub makes : is_initialiser ≡ true → IsActorMaker program (plain func.key.at)
    pub makes_none : (f : ℕ) → program.numbers (plain func.key.at) ≡ Some f
        → is_initialiser ≡ false → IsActorMaker program (plain func.key.at) → ⊥

  -- the call of a function
  call_signature_placed : (at : ℕ) (is_initialiser on_self : Bool) (func : Signature)
      (xs : List Operand) (context : Context) → IsSeenFrom host context
      → IsHeaded is_initialiser func
      → IsUsed program context at (called program.tables.world is_initialiser on_self (Some func))
      → (on_self ≡ true → FirstIsOwn host xs) → (s : Making)
      → PlacesAt program host s (call_signature program.tables at xs func) MadeValue
  call_signature_placed at is_initialiser on_self func xs context seen headed used own s =
      places_number_then s (plain func.key.at)
      (λ f. known kinds.Plain (program.tables.isolation.kind_at at)
      >>= λ kind. give at func.result (λ r. instr.Call at r kind f xs)) MadeValue
      (λ f found.
      places_known_then s kinds.Plain (program.tables.isolation.kind_at at)
      (λ kind. give at func.result (λ r. instr.Call at r kind f xs)) MadeValue
      (λ kind kind_is.
      give_made at func.result (λ r. instr.Call at r kind f xs) s (λ r. refl)
      (λ r t later new.
      call_ok f kind r t found (same_Some _ kind (sym used.kind ∙ kind_is)) new.kind_is)
      (λ r is. tt))) where
        callee : Callee
        callee = callee_by is_initialiser on_self func

        sends : Bool
        sends = func.sends || may_cross program.tables.world func.result

        call_ok : (f : ℕ) (kind : CallKind) (r : ℕ) (t : Making)
            → program.numbers (plain func.key.at) ≡ Some f
            → kind_of callee context.iso ≡ kind → RegisterHasType t.made.regs r func.result
            → CallOk program host t.made.regs r kind f xs
        call_ok f kind r t found same has = record {
          name = plain func.key.at;
          callee = callee;
          sends = func.sends;
          result = func.result;
          numbered = found;
          header = headed.header f found;
          makes = headed.makes;
          makes_none = headed.makes_none f found;
          given = sym same ∙ ap (kind_of callee) seen.iso;
          on_self = own;
          gives = has;
          crosses = λ shares strong.
              call_crosses program shares context at callee sends used.noted
              (ap is_strong same ∙ strong);
        }

  -- a function by its number, on `self` or not
  pub call_func_placed : (at n : ℕ) (on_self : Bool) (xs : List Operand) (context : Context)
      → IsSeenFrom host context → MeansFunc (program.tables.answers.meaning_at at) n
      → IsUsed program context at (func_used program.tables.world n on_self)
      → (on_self ≡ true → FirstIsOwn host xs) → (s : Making)
      → PlacesAt program host s (call_func program.tables at n xs) MadeValue
  unfolding call_func func_used
  call_func_placed at n on_self xs context seen means used own s =
      places_known_then s no_func (slice_get program.tables.world.funcs n)
      (call_signature program.tables at xs) MadeValue
      (λ func is.
      call_signature_placed at false on_self func xs context seen (headed func is)
      (subst (λ found. IsUsed program context at
      (called program.tables.world false on_self found)) is used) own s) where
        headed : (func : Signature) → slice_get program.tables.world.funcs n ≡ Some func
            → IsHeaded false func
        headed func is = record {
          header = λ f found. (settled.funcs at n f func means is found).0;
          makes = λ yes. absurd (false≢true yes);
          makes_none = λ f found no. (settled.funcs at n f func means is found).1;
        }

  -- a struct, or a case of an enum
  pub make_value_placed : (at k : ℕ) (tag : Option ℕ) (xs : List Operand) (s : Making)
      → AreBelow s xs → PlacesAt program host s (make_value at k tag xs) MadeValue
  unfolding make_value
  make_value_placed at k tag xs s below =
      give_made at (types.Named k) (λ r. instr.Make at r k tag xs) s (λ r. refl)
      (λ r t later new. tt) (λ r is. next_apart xs _ r below is)

  -- the initialiser of a class or an actor
  maker_placed : (at k : ℕ) (is_initialiser : Bool) (shape : Shape) (xs : List Operand)
      (context : Context) → IsSeenFrom host context
      → slice_get program.tables.world.shapes k ≡ Some shape
      → (is_initialiser ≡ true → shape.kind ≡ shapes.Actor)
      → (is_initialiser ≡ false → shape.kind ≡ shapes.Actor → ⊥)
      → IsUsed program context at
      (called program.tables.world is_initialiser false (maker_at program.tables.world k))
      → (s : Making) → PlacesAt program host s
      (known no_func (maker_at program.tables.world k) >>= call_signature program.tables at xs)
      MadeValue
  maker_placed at k is_initialiser shape xs context seen shape_is actor other used s =
      places_known_then s no_func (maker_at program.tables.world k)
      (call_signature program.tables at xs) MadeValue
      (λ func is.
      call_signature_placed at is_initialiser false func xs context seen (headed func is)
      (subst (λ found. IsUsed program context at
      (called program.tables.world is_initialiser false found)) is used)
      (λ on. absurd (false≢true on)) s) where
        headed : (func : Signature) → maker_at program.tables.world k ≡ Some func
            → IsHeaded is_initialiser func
        headed func is = record {
          header = λ f found. (settled.makers k f shape func shape_is is found).0;
          makes = λ yes. record {
            k = k;
            shape = shape;
            func = func;
            is_shape = shape_is;
            actor = actor yes;
            maker = is;
            named = refl;
          };
          makes_none = λ f found no.
              (settled.makers k f shape func shape_is is found).1 (other no);
        }

  -- what a type is made by
  make_by_placed : (at k : ℕ) (shape : Shape) (xs : List Operand) (context : Context)
      → IsSeenFrom host context → slice_get program.tables.world.shapes k ≡ Some shape
      → (s : Making) → AreBelow s xs → (kind : ShapeKind) → shape.kind ≡ kind
      → IsUsed program context at (made_kind program.tables.world kind k)
      → PlacesAt program host s (make_by program.tables kind at k xs) MadeValue
  make_by_placed at k shape xs context seen shape_is s below shapes.Struct is used =
      make_value_placed at k None xs s below
  make_by_placed at k shape xs context seen shape_is s below shapes.Enum is used =
      places_unknown s MadeValue
  make_by_placed at k shape xs context seen shape_is s below shapes.Class is used =
      maker_placed at k false shape xs context seen shape_is (λ yes. absurd (false≢true yes))
      (λ no actor. absurd (differ (sym is ∙ actor))) used s where
        differ : shapes.Class ≡ shapes.Actor → ⊥
        differ same = cc
  make_by_placed at k shape xs context seen shape_is s below shapes.Actor is used =
      maker_placed at k true shape xs context seen shape_is (λ yes. is)
      (λ no. absurd (true≢false no)) used s

  -- what is made of a type with a number
  pub make_placed : (at k : ℕ) (xs : List Operand) (context : Context) → IsSeenFrom host context
      → IsUsed program context at (make_used program.tables.world k) → (s : Making)
      → AreBelow s xs → PlacesAt program host s (make program.tables at k xs) MadeValue
  unfolding make make_used
  make_placed at k xs context seen used s below =
      places_shape_then program.tables s k (λ shape. make_by program.tables shape.kind at k xs)
      MadeValue
      (λ shape is.
      make_by_placed at k shape xs context seen is s below shape.kind refl
      (subst (λ found. IsUsed program context at (made program.tables.world k found)) is used))

  -- a closure
  pub call_closure_placed : (at : ℕ) (closure : Operand) (xs : List Operand) (s : Making)
      → PlacesAt program host s (call_closure program.tables at closure xs) MadeValue
  unfolding call_closure
  call_closure_placed at closure xs s =
      places_typed_then program.tables s at
      (λ ty. give at ty (λ r. instr.CallClosure at r closure xs)) MadeValue
      (λ ty is. give_placed at ty (λ r. instr.CallClosure at r closure xs) s (λ r. refl)
      (λ r t. tt) (λ r. tt))
