-- The code of initialisers is safe: the values of all properties go into what is made.
use Rattle.std.proofs.Common.{◌≡◌, ℕ, List, [], ◌∷◌, refl, sym, ◌∙◌, ap, subst, arith, Bool, true}
use Rattle.std.proofs.Common.{false, Option, Some, None}
use Rattle.std.proofs.lemmas.Option.{same_Some}
use Rattle.std.proofs.lemmas.List.Elements.{All-cons, All-nil}
use Rattle.std.specs.Option.{option_and_then}
use Rattle.std.specs.Prelude.{All, ◌==◌, cond, map, slice_get, if◌then◌else◌}
use Rattle.sw_types.specs.Accepts.{IsAcceptedAs}
use Rattle.sw_types.specs.declared.shape.Part.{Part}
use Rattle.sw_types.specs.declared.shape.Shape.{Shape}
use Rattle.sw_types.specs.declared.shape.ShapeKind.{ShapeKind}
use Rattle.sw_types.specs.declared.shape.ShapeKind.TheVariants as kinds
use Rattle.sw_types.specs.declared.ty.Ty.{Ty}
use Rattle.sw_types.specs.declared.ty.Ty.TheVariants as types
use Rattle.sw_graph.specs.Kinds.{Each, EachOf, Goes, is_actor, is_class, kinds_of, parts, shape_at}
use Rattle.sw_graph.specs.Mentions.{reads, set_by}
use Rattle.sw_graph.specs.Payloads.{is_payload}
use Rattle.sw_graph.specs.declared.function.Function.{Function}
use Rattle.sw_graph.specs.declared.function.RegKind.TheVariants.{Plain}
use Rattle.sw_graph.specs.declared.instr.Last.TheVariants as last
use Rattle.sw_graph.specs.declared.instr.Operand.{Operand}
use Rattle.sw_lower_plans.specs.Plan.{Numbers}
use Rattle.sw_lower_code.specs.Code.{Code, close, done, each, known, ◌>>=◌}
use Rattle.sw_lower_code.specs.Whole.{Body}
use Rattle.sw_lower_rules.specs.Bodies.{GivenValue, give_value, init_code, made_instr, value_of}
use Rattle.sw_lower_rules.specs.Carriers.{Given}
use Rattle.sw_lower_rules.specs.Tables.{Tables}
use Rattle.sw_lower_rules.specs.Uses.{give, no_operand}
use Rattle.sw_lower_formed_facts.specs.Forms.{BodiesFit, Wherever}
use Rattle.sw_lower_formed_facts.specs.Ground.{IsDeclaredIn, IsOfGraph, Knows}
use Rattle.sw_lower_formed_facts.specs.Safe.{MadeLast, IsValue, Keeps, Position, SafeAt, ValueAfter, here}
use Rattle.sw_lower_formed_facts.specs.Whole.{IsSet, Whole}
use Rattle.sw_lower_formed_facts.proofs.Positions.Each.{Both, EachAfter, OneAfter, safe_each}
use Rattle.sw_lower_formed_facts.proofs.Positions.Following.{keeps_self, knows_still, value_stays}
use Rattle.sw_lower_formed_facts.proofs.Positions.Steps.{safe_done, safe_known}
use Rattle.sw_lower_formed_facts.proofs.Positions.Then.{safe_then, safe_weaker}
use Rattle.sw_lower_formed_facts.proofs.Positions.Using.{Fits, close_in, give_in}
use Rattle.sw_lower_formed_facts.proofs.Types.Going.{accepts_self}
use Rattle.sw_typing_facts.proofs.Types.Within.{shape_within}

same_number : (m n : ℕ) → (m == n) ≡ true → m ≡ n
same_number m n same = grind (arith, same)

-- the properties of a shape with a name accept values of a type
abbrev pub AcceptsAs : Shape → ℕ → Ty → Type 0
AcceptsAs shape name from = (i : ℕ) (part : Part) → slice_get shape.parts i ≡ Some part
    → part.name ≡ name → IsAcceptedAs from part.ty

module _ (tables : Tables) (number : Numbers) (functions : List Function) (owner : Option ℕ)
    (shape : Shape) where
  -- A property is given a value that it accepts.
  pub record GivenOk (given : Given) (inside : List Body) : Type 0 where
    pub from : Ty
    pub accepted : AcceptsAs shape given.name from
    pub read : Wherever tables number functions owner (λ w p. SafeAt w p given.read
        (λ x q. ValueAfter w p from x q × BodiesFit tables number functions inside))

  -- what is given, with the bodies in it
  pub record GivenWith : Type 0 where
    pub given : Given
    pub inside : List Body
    pub ok : GivenOk given inside

  -- what is given, without what is shown of it
  abbrev pub givens_of : List GivenWith → List Given
  givens_of all = map (λ (one : GivenWith). one.given) all

  module _ (w : Whole) (of : IsOfGraph tables functions w) where
    -- The value of a property is one that it accepts.
    abbrev pub IsGiven : ℕ → Operand → Position → Type 0
    IsGiven name x q = (from : Ty) × (AcceptsAs shape name from × IsValue w q from x)

    -- The value of what is given is a value of the type that was shown of it.
    abbrev pub Valued : GivenWith → GivenValue → Position → Type 0
    Valued one value q = (value.name ≡ one.given.name) × IsGiven value.name value.value q

    given_stays : (name : ℕ) (x : Operand) (p q : Position) → Keeps w p q → IsGiven name x p
        → IsGiven name x q
    given_stays name x p q keeps given =
        (given.0, (given.1.0, value_stays w p q given.0 x keeps.follows given.1.1))

    valued_stays : (one : GivenWith) (value : GivenValue) (p q : Position) → Keeps w p q
        → Valued one value p → Valued one value q
    valued_stays one value p q keeps valued =
        (valued.0, given_stays value.name value.value p q keeps valued.1)

    abbrev Shown : GivenWith → Type 0
    Shown one = BodiesFit tables number functions one.inside

    give_ok : (one : GivenWith) (p : Position) → Knows tables owner number w p
        → SafeAt w p (give_value one.given)
        (OneAfter tables owner number w (λ x. give_value x.given) Valued Shown valued_stays p one)
    give_ok one p knows =
        safe_then w p one.given.read
        (λ value. done (record { name = one.given.name; value = value }))
        (λ x q. ValueAfter w p one.ok.from x q × Shown one)
        (OneAfter tables owner number w (λ x. give_value x.given) Valued Shown valued_stays p one)
        (one.ok.read w of p knows)
        (λ x q inside got.
        safe_done w q (record { name = one.given.name; value = x })
        (OneAfter tables owner number w (λ x. give_value x.given) Valued Shown valued_stays p one)
        ((refl, (one.ok.from, (one.ok.accepted, got.0.0))), (got.0.1, got.1)))

    -- what stands among the values for a name is a value of that name's
    value_found : (all : List GivenWith) (values : List GivenValue) (q : Position) (name : ℕ)
        (x : Operand) → Both Valued all values q → value_of values name ≡ Some x
        → IsGiven name x q
    value_found [] [] q name x both is = cc
    value_found [] (value ∷ values) q name x both is = absurd both
    value_found (one ∷ all) [] q name x both is = absurd both
    value_found (one ∷ all) (value ∷ values) q name x both is =
        by (value.name == name) refl is (value_found all values q name x both.1) where
          by : (same : Bool) → (value.name == name) ≡ same
              → (if same then Some value.value else value_of values name) ≡ Some x
              → (value_of values name ≡ Some x → IsGiven name x q) → IsGiven name x q
          by true same is later =
              subst (λ y. IsGiven name y q) (same_Some value.value x is)
              (subst (λ n. IsGiven n value.value q) (same_number value.name name same) both.0.1)
          by false same is later = later is

    -- the value of a part
    abbrev pub PartGiven : Part → Operand → Position → Type 0
    PartGiven part x q = (from : Ty) × (IsAcceptedAs from part.ty × IsValue w q from x)

    part_stays : (part : Part) (x : Operand) (p q : Position) → Keeps w p q → PartGiven part x p
        → PartGiven part x q
    part_stays part x p q keeps given =
        (given.0, (given.1.0, value_stays w p q given.0 x keeps.follows given.1.1))

    abbrev Nothing : Part → Type 0
    Nothing part = Unit {0}

    abbrev part_code : List GivenValue → Part → Code Operand
    part_code values part = known no_operand (value_of values part.name)

    -- where the values stand, and what is known there
    part_ok : (all : List GivenWith) (values : List GivenValue) (q : Position)
        → Both Valued all values q → (k : ℕ) (part : Part) → slice_get shape.parts k ≡ Some part
        → (s : Position) → Keeps w q s
        → SafeAt w s (part_code values part)
        (OneAfter tables owner number w (part_code values) PartGiven Nothing part_stays s part)
    part_ok all values q both k part is s keeps =
        safe_known w s no_operand (value_of values part.name)
        (OneAfter tables owner number w (part_code values) PartGiven Nothing part_stays s part)
        (λ x found.
        let given = value_found all values q part.name x both found in (
          (
            given.0,
            (
              given.1.0 k part is refl,
              value_stays w q s given.0 x keeps.follows
                  given.1.1,
            ),
          ),
          (keeps_self w s, tt),
        ))

    -- the kinds of the values of parts
    kinds_go : (parts : List Part) (xs : List Operand) (q : Position)
        → Both PartGiven parts xs q
        → Each Goes (kinds_of w.regs xs) (map (λ (part : Part). Plain part.ty) parts)
    kinds_go [] [] q both = tt
    kinds_go (part ∷ parts) (x ∷ xs) q both = (
      subst (λ kind. Goes kind (Some (Plain part.ty))) (sym both.0.1.1.kind) both.0.1.0,
      kinds_go parts xs q both.1,
    )
    kinds_go [] (x ∷ xs) q both = both
    kinds_go (part ∷ parts) [] q both = both

    all_set : (parts : List Part) (xs : List Operand) (q : Position) → Both PartGiven parts xs q
        → All (IsSet w q.writes (here q)) (map (λ (x : Operand). x.reg) xs)
    all_set [] [] q both = All-nil (IsSet w q.writes (here q))
    all_set (part ∷ parts) (x ∷ xs) q both =
        All-cons (IsSet w q.writes (here q)) x.reg (map (λ (x : Operand). x.reg) xs)
        both.0.1.1.set (all_set parts xs q both.1)
    all_set [] (x ∷ xs) q both = absurd both
    all_set (part ∷ parts) [] q both = absurd both

-- A shape whose values are made by an initialiser.
abbrev pub IsObject : ShapeKind → Type 0
IsObject kinds.Class = Unit {0}
IsObject kinds.Actor = Unit {0}
IsObject kinds.Struct = ⊥
IsObject kinds.Enum = ⊥

each_map : {A B C : Type 0} (code : B → Code C) (f : A → B) (xs : List A)
    → each (λ x. code (f x)) xs ≡ each code (map f xs)
unfolding each
each_map code f [] = refl
each_map code f (x ∷ xs) =
    ap (λ rest. code (f x) >>= λ y. rest >>= λ ys. done (y ∷ ys)) (each_map code f xs)

-- the parts of a shape of a kind
parts_at : (shapes : List Shape) (is_kind : ShapeKind → Bool) (k : ℕ) (shape : Shape)
    → slice_get shapes k ≡ Some shape → is_kind shape.kind ≡ true
    → parts (shape_at shapes is_kind k) ≡ Some (map (λ (part : Part). Plain part.ty) shape.parts)
parts_at shapes is_kind k shape at is =
    ap (λ found. parts (option_and_then
    (λ (s : Shape). cond (is_kind s.kind) (Some s) None) found)) at
    ∙ ap (λ holds. parts (cond holds (Some shape) None)) is

module _ (tables : Tables) (number : Numbers) (functions : List Function) (owner : Option ℕ)
    (shape : Shape) (w : Whole) (of : IsOfGraph tables functions w) where
  -- what is made of the values fits
  made_fits : (kind : ShapeKind) → IsObject kind → shape.kind ≡ kind → (key k r : ℕ)
      → slice_get tables.world.shapes k ≡ Some shape → (xs : List Operand)
      → Each Goes (kinds_of w.regs xs) (map (λ (part : Part). Plain part.ty) shape.parts)
      → slice_get w.regs r ≡ Some (Plain (types.Named k))
      → Fits tables functions w of (made_instr kind key r k xs)
  made_fits kinds.Class object is key k r at xs go kind = (
    subst (EachOf Goes (kinds_of w.regs xs))
        (sym (parts_at tables.world.shapes is_class k shape at (ap is_class is))) go,
    subst (Goes (Some (Plain (types.Named k)))) (sym kind) (accepts_self (types.Named k)),
  )
  made_fits kinds.Actor object is key k r at xs go kind = (
    subst (EachOf Goes (kinds_of w.regs xs))
        (sym (parts_at tables.world.shapes is_actor k shape at (ap is_actor is))) go,
    subst (Goes (Some (Plain (types.Named k)))) (sym kind) (accepts_self (types.Named k)),
  )
  made_fits kinds.Struct object is key k r at xs go kind = absurd object
  made_fits kinds.Enum object is key k r at xs go kind = absurd object

  made_plain : (kind : ShapeKind) → IsObject kind → (key k r : ℕ) (xs : List Operand)
      → is_payload (made_instr kind key r k xs) ≡ false
  made_plain kinds.Class object key k r xs = refl
  made_plain kinds.Actor object key k r xs = refl
  made_plain kinds.Struct object key k r xs = absurd object
  made_plain kinds.Enum object key k r xs = absurd object

  made_sets : (kind : ShapeKind) → IsObject kind → (key k r : ℕ) (xs : List Operand)
      → set_by (made_instr kind key r k xs) ≡ Some r
  made_sets kinds.Class object key k r xs = refl
  made_sets kinds.Actor object key k r xs = refl
  made_sets kinds.Struct object key k r xs = absurd object
  made_sets kinds.Enum object key k r xs = absurd object

  made_reads : (kind : ShapeKind) → IsObject kind → (key k r : ℕ) (xs : List Operand)
      → map (λ (x : Operand). x.reg) xs ≡ reads (made_instr kind key r k xs)
  made_reads kinds.Class object key k r xs = refl
  made_reads kinds.Actor object key k r xs = refl
  made_reads kinds.Struct object key k r xs = absurd object
  made_reads kinds.Enum object key k r xs = absurd object

  abbrev Bodies : List (GivenWith tables number functions owner shape) → Type 0
  Bodies all = All (λ one. BodiesFit tables number functions one.inside) all

  -- An initialiser makes its object of the values of all properties, and gives it.
  pub init_ok : (all : List (GivenWith tables number functions owner shape)) (key k : ℕ)
      → slice_get tables.world.shapes k ≡ Some shape → IsObject shape.kind
      → w.result ≡ types.Named k → (p : Position) → Knows tables owner number w p
      → SafeAt w p
      (init_code key k shape (givens_of tables number functions owner shape all))
      (λ _ q. Bodies all)
  unfolding init_code
  init_ok all key k at object result p knows =
      subst (λ values. SafeAt w p (values >>= next) (λ _ q. Bodies all))
      (each_map give_value (λ (one : GivenWith tables number functions owner shape). one.given) all)
      (safe_then w p (each (λ x. give_value x.given) all) next given_after (λ _ q. Bodies all)
      (safe_each tables owner number w (λ x. give_value x.given) valued shown stays all p knows
      (λ k one is q keeps known.
      give_ok tables number functions owner shape w of one q known))
      (λ values q inside given.
      safe_then w q (each (part_code tables number functions owner shape w of values) shape.parts)
      made (parts_after values q) (λ _ s. Bodies all)
      (safe_each tables owner number w
      (part_code tables number functions owner shape w of values) part_given nothing parts_stay
      shape.parts q (knows_still tables owner number w p q given.1.0 knows)
      (λ i part is s keeps known.
      part_ok tables number functions owner shape w of all values q given.0 i part is s keeps))
      (λ xs s in_s parted.
      safe_then w s (give key (types.Named k) (λ r. made_instr shape.kind key r k xs))
      (λ x. close (last.Return (Some x))) (ValueAfter w s (types.Named k)) (λ _ t. Bodies all)
      (give_in tables functions w of s key (types.Named k)
      (λ r. made_instr shape.kind key r k xs) declared
      (λ r. made_plain shape.kind object key k r xs)
      (λ r kind. made_fits shape.kind object refl key k r at xs
      (kinds_go tables number functions owner shape w of shape.parts xs s parted.0) kind)
      (λ r. subst (All (IsSet w s.writes (here s))) (made_reads shape.kind object key k r xs)
      (all_set tables number functions owner shape w of shape.parts xs s parted.0))
      (λ r. made_sets shape.kind object key k r xs))
      (λ x t in_t value.
      safe_weaker w t (close (last.Return (Some x))) (λ _. MadeLast w t) (λ _ u. Bodies all)
      (close_in tables functions w of t (last.Return (Some x))
      (subst (λ ty. Goes (slice_get w.regs x.reg) (Some (Plain ty))) (sym result)
      (subst (λ kind. Goes kind (Some (Plain (types.Named k)))) (sym value.0.kind)
      (accepts_self (types.Named k))))
      (All-cons (IsSet w t.writes (here t)) x.reg [] value.0.set
      (All-nil (IsSet w t.writes (here t))))
      (λ n to is. cc))
      (λ _ u in_u closed. given.1.1))))) where
        valued : GivenWith tables number functions owner shape → GivenValue → Position → Type 0
        valued = Valued tables number functions owner shape w of

        shown : GivenWith tables number functions owner shape → Type 0
        shown one = BodiesFit tables number functions one.inside

        stays : (one : GivenWith tables number functions owner shape) (value : GivenValue)
            (p q : Position) → Keeps w p q → valued one value p → valued one value q
        stays = valued_stays tables number functions owner shape w of

        given_after : List GivenValue → Position → Type 0
        given_after = EachAfter tables owner number w (λ x. give_value x.given) valued shown stays p
            all

        made : List Operand → Code (Unit {0})
        made xs = give key (types.Named k) (λ r. made_instr shape.kind key r k xs)
            >>= λ x. close (last.Return (Some x))

        next : List GivenValue → Code (Unit {0})
        next values = each (part_code tables number functions owner shape w of values) shape.parts
            >>= made

        part_given : Part → Operand → Position → Type 0
        part_given = PartGiven tables number functions owner shape w of

        nothing : Part → Type 0
        nothing part = Unit {0}

        parts_stay : (part : Part) (x : Operand) (p q : Position) → Keeps w p q
            → part_given part x p → part_given part x q
        parts_stay = part_stays tables number functions owner shape w of

        parts_after : List GivenValue → Position → List Operand → Position → Type 0
        parts_after values q = EachAfter tables owner number w
            (part_code tables number functions owner shape w of values) part_given nothing
            parts_stay
            q shape.parts

        declared : IsDeclaredIn tables (types.Named k)
        declared = shape_within tables.world.shapes k shape at
