-- The patterns of an arm are safe in the block of its case, and declare what they name.
use Rattle.std.proofs.Common.{◌≡◌, ◌≢◌, ℕ, suc, ◌+◌, ◌≤◌, List, [], ◌∷◌, ap, sym, ◌∙◌, subst, refl}
use Rattle.std.proofs.Common.{arith, false, Option, Some, length, IsTrue}
use Rattle.std.specs.List.{list_all}
use Rattle.std.specs.Prelude.{IsSome, not, slice_get, ◌||◌}
use Rattle.sw_tree.specs.declared.name.Name.{Name}
use Rattle.sw_tree.specs.declared.stmt.Pattern.{Pattern}
use Rattle.sw_tree.specs.declared.stmt.Pattern.TheVariants.{Let, Skip}
use Rattle.sw_types.specs.declared.shape.CaseShape.{CaseShape}
use Rattle.sw_types.specs.declared.shape.Shape.{Shape}
use Rattle.sw_types.specs.declared.ty.Ty.{Ty}
use Rattle.sw_graph.specs.Kinds.{is_enum, shape_of}
use Rattle.sw_graph.specs.Payloads.{is_payload, payload_at}
use Rattle.sw_graph.specs.declared.function.Function.{Function}
use Rattle.sw_graph.specs.declared.function.RegKind.TheVariants.{Plain}
use Rattle.sw_graph.specs.declared.instr.Instr.TheVariants.{Payload}
use Rattle.sw_graph.specs.declared.instr.Operand.{Operand}
use Rattle.sw_typing_rules.specs.Statements.{pattern_vars, vars_rows}
use Rattle.sw_lower_plans.specs.Plan.{Numbers, OfCase, written_in}
use Rattle.sw_lower_plans.specs.declared.bound.Bound.{Bound}
use Rattle.sw_lower_code.specs.Code.{Code, bind, done, front, reg, ◌>>=◌, ◌>>◌}
use Rattle.sw_lower_rules.specs.Statements.{pattern_code, patterns_code}
use Rattle.sw_lower_rules.specs.Tables.{Tables}
use Rattle.sw_lower_formed_facts.specs.Fitting.{InstrOk}
use Rattle.sw_typing_facts.specs.Rows.{RowsHold}
use Rattle.sw_lower_formed_facts.specs.Ground.{Ground, IsOfGraph, Knows}
use Rattle.sw_lower_formed_facts.specs.Safe.{Emitted, IsValue, MadeReg, Position, SafeAt, here}
use Rattle.sw_lower_formed_facts.specs.Whole.{Whole, made_at}
use Rattle.sw_lower_formed_facts.proofs.Positions.Asking.{type_then}
use Rattle.sw_lower_formed_facts.proofs.Positions.Following.{follows_self, follows_then, value_stays}
use Rattle.sw_lower_formed_facts.proofs.Positions.Steps.{safe_done, safe_front}
use Rattle.sw_lower_formed_facts.proofs.Positions.Then.{safe_then, safe_weaker}
use Rattle.sw_lower_formed_facts.proofs.Positions.Using.{reads_one, reg_in}
use Rattle.sw_lower_formed_facts.proofs.Statements.Cases.{payload_is}
use Rattle.sw_lower_formed_facts.proofs.Statements.Declaring.{Declares, bind_in}
use Rattle.sw_lower_formed_facts.proofs.Types.Going.{accepts_self, goes_by}

-- the block of a case of an enum that is in a register
pub record CaseBlock (w : Whole) (subject : Operand) (ty : Ty) (case : CaseShape) (block : ℕ)
    : Type 0 where
  pub shape : Shape
  pub number : ℕ
  pub tag : ℕ
  pub from : ℕ
  pub made : made_at w block
      ≡ Some (record { entry = OfCase subject.reg number tag; from = from })
  pub sort_is : shape_of w.shapes is_enum (Some (Plain ty)) ≡ Some shape
  pub at : slice_get shape.cases tag ≡ Some case

is_there : {A : Type 0} (found : Option A) (x : A) → found ≡ Some x → IsSome found
is_there found x is = subst IsSome (sym is) refl

module _ (tables : Tables) (number : Numbers) (functions : List Function)
    (ground : Ground tables number functions) (owner : Option ℕ) (w : Whole)
    (of : IsOfGraph tables functions w) (subject : Operand) (from : Ty) (case : CaseShape)
    (block : ℕ)
    (enters : CaseBlock w subject from case block) where
  abbrev After : Position → Unit {0} → Position → Type 0
  After p _ q = Declares tables owner number w p q

  payload_ok : (p : Position) (at i r : ℕ) (ty : Ty) → here p ≡ block → IsValue w p from subject
      → r ≢ subject.reg → slice_get w.regs r ≡ Some (Plain ty)
      → slice_get case.payload i ≡ Some ty
      → IsTrue (not (is_payload (Payload at r subject i))
      || list_all is_payload (written_in (here p) p.writes))
      → InstrOk w p.writes (here p) (Payload at r subject i)
  payload_ok p at i r ty there value apart kind found in_front =
      let sort = ap (shape_of w.shapes is_enum) value.kind ∙ enters.sort_is in record {
        kinds = is_there (shape_of w.shapes is_enum (slice_get w.regs subject.reg)) enters.shape
            sort;
        reads = reads_one w p.writes (here p) subject.reg value.set;
        payload = record {
          one = record { entry = OfCase subject.reg enters.number enters.tag; from = enters.from };
          shape = enters.number;
          tag = enters.tag;
          made = ap (made_at w) there ∙ enters.made;
          entry = refl;
          apart = apart;
          goes = goes_by (payload_at w.shapes (slice_get w.regs subject.reg) enters.tag i)
              (slice_get w.regs r) ty ty
              (payload_is w.shapes (slice_get w.regs subject.reg) enters.shape case enters.tag i ty
              sort enters.at found) kind (accepts_self ty);
        };
        front = in_front;
      }

  -- a name takes its part of the payload
  let_in : (p : Position) (name : Name) (i : ℕ) (ty : Ty) → here p ≡ block
      → IsValue w p from subject → Knows tables owner number w p
      → tables.answers.type_at name.at ≡ Some ty → slice_get case.payload i ≡ Some ty
      → SafeAt w p (pattern_code tables subject i (Let name)) (After p)
  let_in p name i ty there value knows has found =
      type_then w tables p name.at ty take (After p) has
      (safe_then w p (reg (Plain ty)) put (MadeReg w p (Plain ty)) (After p)
      (reg_in tables functions w of p (Plain ty) (ground.typed name.at ty has))
      (λ r q in_q made.
      safe_then w q (front (Payload name.at r subject i)) (λ _. bind (bound r))
      (λ _. Emitted w q (Payload name.at r subject i)) (After p)
      (safe_front w q (Payload name.at r subject i)
      (payload_ok q name.at i r ty (made.there ∙ there)
      (value_stays w p q from subject made.keeps.follows value)
      (λ same. omega (arith, same, made.number, value.made)) made.kind found))
      (λ _ s in_s emitted.
      bind_in tables number functions ground owner w p q s name.at r false ty
      (Payload name.at r subject i) knows made emitted refl has))) where
        bound : ℕ → Bound
        bound r = record { key = name.at; reg = r; boxed = false }

        put : ℕ → Code (Unit {0})
        put r = front (Payload name.at r subject i) >> bind (bound r)

        take : Ty → Code (Unit {0})
        take t = reg (Plain t) >>= put

  same_declares : (p : Position) → Knows tables owner number w p
      → Declares tables owner number w p p
  same_declares p knows = record { follows = follows_self w p; there = refl; knows = knows }

  -- the types of the payload from a place on
  abbrev PayloadFrom : ℕ → List Ty → Type 0
  PayloadFrom i tys = (k : ℕ) (ty : Ty) → slice_get tys k ≡ Some ty
      → slice_get case.payload (i + k) ≡ Some ty

  later : (i : ℕ) (ty : Ty) (tys : List Ty) → PayloadFrom i (ty ∷ tys) → PayloadFrom (i + 1) tys
  later i ty tys from_i k one is =
      ap (slice_get case.payload) (let same : (i + 1) + k ≡ i + suc k = omega arith in same)
      ∙ from_i (suc k) one is

  first : (i : ℕ) (ty : Ty) (tys : List Ty) → PayloadFrom i (ty ∷ tys)
      → slice_get case.payload i ≡ Some ty
  first i ty tys from_i =
      ap (slice_get case.payload) (let same : i ≡ i + 0 = omega arith in same) ∙ from_i 0 ty refl

  -- The patterns of an arm are safe in its block.
  pub patterns_in : (patterns : List Pattern) (i : ℕ) (tys : List Ty) → PayloadFrom i tys
      → length patterns ≤ length tys
      → RowsHold tables.answers (vars_rows (pattern_vars patterns tys)) → (p : Position)
      → here p ≡ block → IsValue w p from subject → Knows tables owner number w p
      → SafeAt w p (patterns_code tables subject i patterns)
      (λ _ q. Declares tables owner number w p q)
  unfolding patterns_code
  patterns_in [] i tys from_i many hold p there value knows =
      safe_done w p tt (After p) (same_declares p knows)
  patterns_in (pattern ∷ patterns) i [] from_i many hold p there value knows =
      absurd (let none : ⊥ = omega (arith, many) in none)
  patterns_in (Skip at ∷ patterns) i (ty ∷ tys) from_i many hold p there value knows =
      safe_then w p (done tt) (λ _. patterns_code tables subject (i + 1) patterns)
      (λ _ q. p ≡ q) (After p) (safe_done w p tt (λ _ q. p ≡ q) refl)
      (λ _ q in_q same.
      subst (λ s. SafeAt w s (patterns_code tables subject (i + 1) patterns) (After p)) same
      (patterns_in patterns (i + 1) tys (later i ty tys from_i) (omega (arith, many)) hold p there
      value knows))
  patterns_in (Let name ∷ patterns) i (ty ∷ tys) from_i many hold p there value knows =
      safe_then w p (pattern_code tables subject i (Let name))
      (λ _. patterns_code tables subject (i + 1) patterns) (After p) (After p)
      (let_in p name i ty there value knows hold.0 (first i ty tys from_i))
      (λ _ q in_q one.
      safe_weaker w q (patterns_code tables subject (i + 1) patterns) (After q) (After p)
      (patterns_in patterns (i + 1) tys (later i ty tys from_i) (omega (arith, many)) hold.1 q
      (one.there ∙ there) (value_stays w p q from subject one.follows value) one.knows)
      (λ _ s in_s two. record {
        follows = follows_then w p q s one.follows two.follows;
        there = two.there ∙ one.there;
        knows = two.knows;
      }))
