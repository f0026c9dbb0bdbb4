-- The code of an initialiser makes its object or actor last, where the values that are given to
-- properties are placed.
use Rattle.std.proofs.Common.{◌≡◌, ℕ, ◌<◌, Bool, true, false, List, [], ◌∷◌, length, Some}
use Rattle.std.proofs.Common.{sym, subst, Contains}
use Rattle.std.proofs.lemmas.List.Elements.{All-cons, All-head, All-nil, All-tail}
use Rattle.std.proofs.lemmas.Option.{same_Some}
use Rattle.std.specs.Prelude.{All, Ok, ◌==◌, if◌then◌else◌}
use Rattle.sw_types.specs.declared.shape.Part.{Part}
use Rattle.sw_types.specs.declared.shape.Shape.{Shape}
use Rattle.sw_types.specs.declared.shape.ShapeKind.{ShapeKind}
use Rattle.sw_types.specs.declared.shape.ShapeKind.TheVariants as shapes
use Rattle.sw_types.specs.declared.ty.Ty.TheVariants as types
use Rattle.sw_graph.specs.Placed.{SetsApart}
use Rattle.sw_graph.specs.declared.function.RegKind.TheVariants.{Plain}
use Rattle.sw_graph.specs.declared.instr.Instr.{Instr}
use Rattle.sw_graph.specs.declared.instr.Last.TheVariants.{Return}
use Rattle.sw_graph.specs.declared.instr.Operand.{Operand}
use Rattle.sw_lower_plans.specs.Run.{IsGoing, Making}
use Rattle.sw_lower_code.specs.Code.{Code, close, done, each, emit, known, reg, ◌>>=◌, ◌>>◌}
use Rattle.sw_lower_rules.specs.Bodies.{GivenValue, give_value, init_code, made_instr, value_of}
use Rattle.sw_lower_rules.specs.Carriers.{Given}
use Rattle.sw_lower_rules.specs.Uses.{give, no_operand, operand}
use Rattle.sw_typing_facts.proofs.Lists.Listed.{in_first, in_rest}
use Rattle.sw_lower_formed_facts.proofs.Positions.Steps.{ended}
use Rattle.sw_lower_total_facts.proofs.Frames.Joining.{code_grows, ran_both}
use Rattle.sw_lower_placed_facts.specs.Placing.{PlacesAt, Stood}
use Rattle.sw_lower_placed_facts.specs.Hosts.{Program, Host}
use Rattle.sw_lower_placed_facts.proofs.Bodies.Ends.{Ends, ends_by, over_before}
use Rattle.sw_lower_placed_facts.proofs.Placing.Asking.{places_known_then}
use Rattle.sw_lower_placed_facts.proofs.Placing.Giving.{next_apart}
use Rattle.sw_lower_placed_facts.proofs.Placing.Joining.{places_done, places_then}
use Rattle.sw_lower_placed_facts.proofs.Placing.Later.{AreBelow, IsLater, below_later}
use Rattle.sw_lower_placed_facts.proofs.Placing.Steps.{IsNew, places_reg}

-- The registers of values were made.
abbrev HasValue : Making → GivenValue → Type 0
HasValue s one = one.value.reg < length s.made.regs

abbrev HaveValues : Making → List GivenValue → Type 0
HaveValues s values = All (HasValue s) values

values_later : (s u : Making) (values : List GivenValue) → IsLater s u → HaveValues s values
    → HaveValues u values
values_later s u [] later all = All-nil (HasValue u)
values_later s u (one ∷ values) later all =
    All-cons (HasValue u) one values
    (below_later s u one.value.reg later (All-head (HasValue s) one values all))
    (values_later s u values later (All-tail (HasValue s) one values all))

-- the value that a property got is one of them
value_has : (s : Making) (values : List GivenValue) (name : ℕ) (x : Operand)
    → HaveValues s values → value_of values name ≡ Some x → x.reg < length s.made.regs
value_has s [] name x all found = cc
value_has s (one ∷ values) name x all found =
    by (one.name == name) (value_has s values name x (All-tail (HasValue s) one values all)) found
  where
    by : (same : Bool)
        → (value_of values name ≡ Some x → x.reg < length s.made.regs)
        → (if same then Some one.value else value_of values name) ≡ Some x
        → x.reg < length s.made.regs
    by true later is =
        subst (λ (y : Operand). y.reg < length s.made.regs) (same_Some one.value x is)
        (All-head (HasValue s) one values all)
    by false later is = later is

-- Nothing is done where a value is given.
done_is : {A : Type 0} (value : A) (s : Making) (given : A) (t : Making)
    → (done value).run s ≡ Ok (given, t) → (value ≡ given) × (s ≡ t)
unfolding done
done_is value s given t ran = ended value s given t ran

-- It sets its register apart from the operands.
made_apart : (kind : ShapeKind) (key r k n : ℕ) (xs : List Operand)
    → All (λ (x : Operand). x.reg < n) xs → r ≡ n → SetsApart (made_instr kind key r k xs)
made_apart shapes.Struct key r k n xs below is = next_apart xs n r below is
made_apart shapes.Enum key r k n xs below is = next_apart xs n r below is
made_apart shapes.Class key r k n xs below is = next_apart xs n r below is
made_apart shapes.Actor key r k n xs below is = tt

module _ (program : Program) (host : Host) where
  -- a value that is given to a property is placed
  abbrev pub GivenPlaced : Given → Type 0
  GivenPlaced given = (s : Making)
      → PlacesAt program host s given.read (λ x t. x.reg < length t.made.regs)

  abbrev pub AreGiven : List Given → Type 0
  AreGiven givens = (given : Given) → Contains givens given → GivenPlaced given

  give_value_placed : (given : Given) → GivenPlaced given → (s : Making)
      → PlacesAt program host s (give_value given) (λ one t. HasValue t one)
  give_value_placed given placed s =
      places_then s given.read (λ value. done (record { name = given.name; value = value }))
      (λ x t. x.reg < length t.made.regs) (λ one t. HasValue t one) (placed s)
      (λ x u later below. places_done u (record { name = given.name; value = x })
      (λ one t. HasValue t one) below)

  values_placed : (givens : List Given) → AreGiven givens → (s : Making)
      → PlacesAt program host s (each give_value givens) (λ values t. HaveValues t values)
  unfolding each
  values_placed [] are s =
      places_done s [] (λ values t. HaveValues t values) (All-nil (HasValue s))
  values_placed (given ∷ givens) are s =
      places_then s (give_value given) (λ y. each give_value givens >>= λ ys. done (y ∷ ys))
      (λ one t. HasValue t one) (λ values t. HaveValues t values)
      (give_value_placed given (are given (in_first given givens)) s)
      (λ y u later first.
      places_then u (each give_value givens) (λ ys. done (y ∷ ys))
      (λ values t. HaveValues t values) (λ values t. HaveValues t values)
      (values_placed givens (λ one has. are one (in_rest given givens one has)) u)
      (λ ys v after rest.
      places_done v (y ∷ ys) (λ values t. HaveValues t values)
      (All-cons (HasValue v) y ys (below_later u v y.value.reg after first) rest)))

  abbrev part_code : List GivenValue → Part → Code Operand
  part_code values part = known no_operand (value_of values part.name)

  parts_placed : (values : List GivenValue) (parts : List Part) (s : Making)
      → HaveValues s values
      → PlacesAt program host s (each (part_code values) parts) (λ xs t. AreBelow t xs)
  unfolding each
  parts_placed values [] s have =
      places_done s [] (λ xs t. AreBelow t xs)
      (All-nil (λ (x : Operand). x.reg < length s.made.regs))
  parts_placed values (part ∷ parts) s have =
      places_known_then s no_operand (value_of values part.name)
      (λ y. each (part_code values) parts >>= λ ys. done (y ∷ ys)) (λ xs t. AreBelow t xs)
      (λ y found.
      places_then s (each (part_code values) parts) (λ ys. done (y ∷ ys))
      (λ xs t. AreBelow t xs) (λ xs t. AreBelow t xs) (parts_placed values parts s have)
      (λ ys v after rest.
      places_done v (y ∷ ys) (λ xs t. AreBelow t xs)
      (All-cons (λ (x : Operand). x.reg < length v.made.regs) y ys
      (below_later s v y.reg after (value_has s values part.name y have found)) rest)))

  -- what is shown of the run of an initialiser's code
  pub record MakesOne (kind : ShapeKind) (key k : ℕ) (t : Making) : Type 0 where
    pub r : ℕ
    pub operands : List Operand
    pub ends : Ends program host (made_instr kind key r k operands)
        (Return (Some (operand r key))) t.made.regs t.made.blocks
    pub apart : SetsApart (made_instr kind key r k operands)

  -- an object or an actor is made of operands, and given
  abbrev making_code : ShapeKind → ℕ → ℕ → List Operand → Code (Unit {0})
  making_code kind key k xs = give key (types.Named k) (λ r. made_instr kind key r k xs)
      >>= λ made. close (Return (Some made))

  making_ends : (kind : ShapeKind) (key k : ℕ) (xs : List Operand) (u t : Making)
      → Stood program host u → AreBelow u xs
      → (making_code kind key k xs).run u ≡ Ok (tt, t) → t.over ≡ false → MakesOne kind key k t
  making_ends kind key k xs u t stood below ran whole = record {
    r = r;
    operands = xs;
    ends = ends_by program host (made r) (Return (Some (operand r key))) w v t emits.0 tt placed.0
        emits.2
        (subst (λ (x : Operand). (close (Return (Some x))).run v ≡ Ok (tt, t)) (sym last.0)
        (subst (λ m. (close (Return (Some gives.0))).run m ≡ Ok (tt, t)) (sym last.1) gives.3))
        whole;
    apart = made_apart kind key r k (length u.made.regs) xs below placed.1.number;
  } where
    made : ℕ → Instr
    made r = made_instr kind key r k xs

    giving : ℕ → Code Operand
    giving r = emit (made r) >> done (operand r key)

    gives : (x : Operand) × (m : Making)
        × ((give key (types.Named k) made).run u ≡ Ok (x, m))
        × ((close (Return (Some x))).run m ≡ Ok (tt, t))
    gives = ran_both (give key (types.Named k) made) (λ x. close (Return (Some x))) u t tt ran

    regs : (r : ℕ) × (m : Making) × ((reg (Plain (types.Named k))).run u ≡ Ok (r, m))
        × ((giving r).run m ≡ Ok (gives.0, gives.1))
    regs = ran_both (reg (Plain (types.Named k))) giving u gives.1 gives.0 gives.2

    r : ℕ
    r = regs.0

    w : Making
    w = regs.1

    emits : (a : Unit {0}) × (m : Making) × ((emit (made r)).run w ≡ Ok (a, m))
        × ((done (operand r key)).run m ≡ Ok (gives.0, gives.1))
    emits = ran_both (emit (made r)) (λ _. done (operand r key)) w gives.1 gives.0 regs.3

    v : Making
    v = emits.1

    last : (operand r key ≡ gives.0) × (v ≡ gives.1)
    last = done_is (operand r key) v gives.0 gives.1 emits.3

    going : IsGoing w
    going = (code_grows (reg (Plain (types.Named k))) u w r stood.going regs.2).0

    given : IsGoing gives.1
    given = (code_grows (give key (types.Named k) made) u gives.1 gives.0 stood.going gives.2).0

    before : w.over ≡ false
    before = over_before (giving r) w gives.1 gives.0 going regs.3
        (over_before (close (Return (Some gives.0))) gives.1 t tt given gives.3 whole)

    placed : Stood program host w × IsNew host u (Plain (types.Named k)) r w
    placed = places_reg u (Plain (types.Named k)) stood r w regs.2 before

  -- An initialiser makes one last.
  pub init_ends : (key k : ℕ) (shape : Shape) (givens : List Given) → AreGiven givens
      → (s t : Making) → Stood program host s
      → (init_code key k shape givens).run s ≡ Ok (tt, t) → t.over ≡ false
      → MakesOne shape.kind key k t
  unfolding init_code
  init_ends key k shape givens are s t stood ran whole =
      making_ends shape.kind key k parts.0 parts.1 t found.0 found.1 parts.3 whole where
        values : (a : List GivenValue) × (m : Making)
            × ((each give_value givens).run s ≡ Ok (a, m))
            × ((each (part_code a) shape.parts >>= making_code shape.kind key k).run m
            ≡ Ok (tt, t))
        values = ran_both (each give_value givens)
            (λ a. each (part_code a) shape.parts >>= making_code shape.kind key k) s t tt ran

        going : IsGoing values.1
        going = (code_grows (each give_value givens) s values.1 values.0 stood.going values.2).0

        given : Stood program host values.1 × HaveValues values.1 values.0
        given = values_placed givens are s stood values.0 values.1 values.2
            (over_before (each (part_code values.0) shape.parts
            >>= making_code shape.kind key k) values.1 t tt going values.3 whole)

        parts : (a : List Operand) × (m : Making)
            × ((each (part_code values.0) shape.parts).run values.1 ≡ Ok (a, m))
            × ((making_code shape.kind key k a).run m ≡ Ok (tt, t))
        parts = ran_both (each (part_code values.0) shape.parts) (making_code shape.kind key k)
            values.1 t tt values.3

        there : IsGoing parts.1
        there = (code_grows (each (part_code values.0) shape.parts) values.1 parts.1 parts.0
            given.0.going parts.2).0

        found : Stood program host parts.1 × AreBelow parts.1 parts.0
        found = parts_placed values.0 shape.parts values.1 given.1 given.0 parts.0 parts.1 parts.2
            (over_before (making_code shape.kind key k parts.0) parts.1 t tt there parts.3 whole)
