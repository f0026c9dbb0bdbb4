-- The steps of code of a program: what they make fits into a function of its graph.
use Rattle.std.proofs.Common.{◌≡◌, ℕ, zero, suc, ◌<◌, List, [], ◌∷◌, length, sym, subst, refl}
use Rattle.std.proofs.Common.{arith, Bool, false, true≢false, Some}
use Rattle.std.specs.Prelude.{All, IsTrue, ◌||◌, map, not, slice_get}
use Rattle.std.specs.List.{list_all}
use Rattle.std.proofs.lemmas.List.Elements.{All-cons, All-nil}
use Rattle.sw_types.specs.Named.{is_within}
use Rattle.sw_types.specs.declared.ty.Ty.{Ty}
use Rattle.sw_graph.specs.Kinds.{KindsFit, LastKindsFit}
use Rattle.sw_graph.specs.Mentions.{blocks_of, last_registers, reads, set_by}
use Rattle.sw_graph.specs.Payloads.{is_payload}
use Rattle.sw_graph.specs.WellFormed.{type_in}
use Rattle.sw_graph.specs.declared.function.Function.{Function}
use Rattle.sw_graph.specs.declared.function.RegKind.{RegKind}
use Rattle.sw_graph.specs.declared.function.RegKind.TheVariants.{Plain}
use Rattle.sw_graph.specs.declared.instr.Instr.{Instr}
use Rattle.sw_graph.specs.declared.instr.Instr.TheVariants.{Const, Un, Bin, Print, Copy, Field}
use Rattle.sw_graph.specs.declared.instr.Instr.TheVariants.{Payload, SetField, Make, NewObject}
use Rattle.sw_graph.specs.declared.instr.Instr.TheVariants.{NewBox, NewActor, LoadBox, StoreBox}
use Rattle.sw_graph.specs.declared.instr.Instr.TheVariants.{LoadProp, StoreProp, LoadGlobal}
use Rattle.sw_graph.specs.declared.instr.Instr.TheVariants.{StoreGlobal, NewClosure, Call}
use Rattle.sw_graph.specs.declared.instr.Instr.TheVariants.{CallClosure, NewTask, Await, Yield}
use Rattle.sw_graph.specs.declared.instr.Last.{Last}
use Rattle.sw_graph.specs.declared.instr.Last.TheVariants.{Jump}
use Rattle.sw_lower_plans.specs.Plan.{Anywhere, NewBlock, Written, written_in}
use Rattle.sw_lower_code.specs.Code.{close, done, emit, reg, ◌>>◌}
use Rattle.sw_lower_rules.specs.Bodies.{global_kind}
use Rattle.sw_lower_rules.specs.Expressions.{jump}
use Rattle.sw_lower_rules.specs.Tables.{Tables}
use Rattle.sw_lower_rules.specs.Uses.{give, operand}
use Rattle.sw_lower_formed_facts.specs.Fitting.{EntersBy, IsKind, LeadsOk, MayBePayload}
use Rattle.sw_lower_formed_facts.specs.Ground.{IsDeclaredIn, IsOfGraph}
use Rattle.sw_lower_formed_facts.specs.Safe.{MadeLast, Emitted, Keeps, MadeReg, Position, SafeAt}
use Rattle.sw_lower_formed_facts.specs.Safe.{ValueAfter}
use Rattle.sw_lower_formed_facts.specs.Safe.{here}
use Rattle.sw_lower_formed_facts.specs.Whole.{AtEnd, IsSet, Whole, made_at}
use Rattle.sw_lower_formed_facts.proofs.Positions.Following.{keeps_then}
use Rattle.sw_lower_formed_facts.proofs.Positions.Steps.{safe_close, safe_done, safe_emit, safe_reg}
use Rattle.sw_lower_formed_facts.proofs.Positions.Steps.{set_at_end}
use Rattle.sw_lower_formed_facts.proofs.Positions.Then.{safe_in, safe_then, safe_weaker}

-- what is no payload may stand anywhere
no_payload : (w : Whole) (block : ℕ) (instr : Instr) → is_payload instr ≡ false
    → MayBePayload w block instr
no_payload w block (Const at r v) is = tt
no_payload w block (Un at r op s) is = tt
no_payload w block (Bin at r op s t) is = tt
no_payload w block (Print at r ss) is = tt
no_payload w block (Copy at r s) is = tt
no_payload w block (Field at r s i) is = tt
no_payload w block (Payload at r s i) is = absurd (true≢false is)
no_payload w block (SetField at r i s) is = tt
no_payload w block (Make at r k tag ss) is = tt
no_payload w block (NewObject at r k ss) is = tt
no_payload w block (NewBox at r s) is = tt
no_payload w block (NewActor at r k ss) is = tt
no_payload w block (LoadBox at r b) is = tt
no_payload w block (StoreBox at b s) is = tt
no_payload w block (LoadProp at r o i) is = tt
no_payload w block (StoreProp at o i s) is = tt
no_payload w block (LoadGlobal at r g) is = tt
no_payload w block (StoreGlobal at g s) is = tt
no_payload w block (NewClosure at r f cs) is = tt
no_payload w block (Call at r kind f ss) is = tt
no_payload w block (CallClosure at r c ss) is = tt
no_payload w block (NewTask at r f cs) is = tt
no_payload w block (Await at r t) is = tt
no_payload w block (Yield at r) is = tt

in_front_too : (payload all : Bool) → payload ≡ false → IsTrue (not payload || all)
in_front_too payload all is = subst (λ p. IsTrue (not p || all)) (sym is) refl

-- one register that is read has a value
pub reads_one : (w : Whole) (writes : List Written) (block r : ℕ) → IsSet w writes block r
    → All (IsSet w writes block) (r ∷ [])
reads_one w writes block r set =
    All-cons (IsSet w writes block) r [] set (All-nil (IsSet w writes block))

module _ (tables : Tables) (functions : List Function) (w : Whole)
    (of : IsOfGraph tables functions w) where
  -- the kinds of an instruction, by the tables
  abbrev pub Fits : Instr → Type 0
  Fits instr = KindsFit tables.world.shapes (map global_kind tables.world.globals) functions w.regs
      instr

  -- the kinds of a last instruction, by the tables
  abbrev pub LastFits : Last → Type 0
  LastFits last = LastKindsFit tables.world.shapes w.regs w.result last

  -- The kinds fit in the function.
  pub fits_whole : (instr : Instr) → Fits instr
      → KindsFit w.shapes w.globals w.functions w.regs instr
  fits_whole instr fits =
      subst (λ shapes. KindsFit shapes w.globals w.functions w.regs instr) (sym of.shapes)
      (subst (λ globals. KindsFit tables.world.shapes globals w.functions w.regs instr)
      (sym of.globals)
      (subst (λ fs. KindsFit tables.world.shapes (map global_kind tables.world.globals) fs w.regs
      instr) (sym of.functions_are) fits))

  -- and so for a last instruction
  pub last_fits_whole : (last : Last) → LastFits last
      → LastKindsFit w.shapes w.regs w.result last
  last_fits_whole last fits =
      subst (λ shapes. LastKindsFit shapes w.regs w.result last) (sym of.shapes) fits

  -- A kind whose types are declared in the tables has declared types in the function.
  pub kind_whole : (kind : RegKind) → IsDeclaredIn tables (type_in kind) → IsKind w kind
  kind_whole kind within =
      subst (λ shapes. IsTrue (is_within (length shapes) (type_in kind))) (sym of.shapes) within

  -- an instruction whose operands have values
  pub emit_in : (p : Position) (instr : Instr) → is_payload instr ≡ false → Fits instr
      → All (IsSet w p.writes (here p)) (reads instr)
      → SafeAt w p (emit instr) (λ _. Emitted w p instr)
  emit_in p instr plain fits read = safe_emit w p instr (record {
    kinds = fits_whole instr fits;
    reads = read;
    payload = no_payload w (here p) instr plain;
    front = in_front_too (is_payload instr)
        (list_all is_payload (written_in (here p) p.writes)) plain;
  })

  -- a register whose types are declared
  pub reg_in : (p : Position) (kind : RegKind) → IsDeclaredIn tables (type_in kind)
      → SafeAt w p (reg kind) (MadeReg w p kind)
  reg_in p kind within = safe_reg w p kind (kind_whole kind within)

  -- what is set stays set while nothing is written and the block goes on
  pub set_still : (p q : Position) → q.writes ≡ p.writes → here q ≡ here p → (rs : List ℕ)
      → All (IsSet w p.writes (here p)) rs → All (IsSet w q.writes (here q)) rs
  set_still p q writes there rs set =
      subst (λ block. All (IsSet w q.writes block) rs) (sym there)
      (subst (λ all. All (IsSet w all (here p)) rs) (sym writes) set)

  -- An instruction gives a value in a register that is made for it.
  pub give_in : (p : Position) (at : ℕ) (ty : Ty) (instr : ℕ → Instr) → IsDeclaredIn tables ty
      → ((r : ℕ) → is_payload (instr r) ≡ false)
      → ((r : ℕ) → slice_get w.regs r ≡ Some (Plain ty) → Fits (instr r))
      → ((r : ℕ) → All (IsSet w p.writes (here p)) (reads (instr r)))
      → ((r : ℕ) → set_by (instr r) ≡ Some r)
      → SafeAt w p (give at ty instr) (ValueAfter w p ty)
  give_in p at ty instr within plain fits read set =
      safe_then w p (reg (Plain ty)) (λ r. emit (instr r) >> done (operand r at))
      (MadeReg w p (Plain ty)) (ValueAfter w p ty)
      (reg_in p (Plain ty) within)
      (λ r q inside made.
      safe_then w q (emit (instr r)) (λ _. done (operand r at)) (λ _. Emitted w q (instr r))
      (ValueAfter w p ty)
      (emit_in q (instr r) (plain r) (fits r made.kind)
      (set_still p q made.writes made.there (reads (instr r)) (read r)))
      (λ _ s in_s emitted.
      safe_done w s (operand r at) (ValueAfter w p ty) (
        record {
          kind = made.kind;
          set = emitted.sets r (set r);
          made = omega (arith, made.below, emitted.keeps.follows.regs);
        },
        keeps_then w p q s made.keeps emitted.keeps,
      )))

  -- a last instruction, whose operands have values
  pub close_in : (p : Position) (last : Last) → LastFits last
      → All (IsSet w p.writes (here p)) (last_registers last)
      → ((number to : ℕ) → slice_get (blocks_of last) number ≡ Some to
      → LeadsOk w (here p) last number to)
      → SafeAt w p (close last) (λ _. MadeLast w p)
  close_in p last fits read leads = safe_in w p (close last) (λ _. MadeLast w p) (λ inside.
      safe_close w p last (record {
        kinds = last_fits_whole last fits;
        reads = λ k d below. set_at_end w p.writes (here p) _ inside.writes (read k d below);
        leads = leads;
      }))

  -- A jump leads to a block that is made for every way, where what has a value at the end of the
  -- block in which it was made has one at the end of this block.
  pub jump_in : (p : Position) (to : ℕ) (one : NewBlock) → made_at w to ≡ Some one
      → one.entry ≡ Anywhere → ((r : ℕ) → AtEnd w one.from r → AtEnd w (here p) r)
      → SafeAt w p (jump to) (λ _. MadeLast w p)
  jump_in p to one made entry passes = close_in p (Jump to) tt (λ k d below. absurd (none k below))
      lead where
        none : (k : ℕ) → k < 0 → ⊥
        none k below = omega (arith, below)

        lead : (number target : ℕ) → slice_get (to ∷ []) number ≡ Some target
            → LeadsOk w (here p) (Jump to) number target
        lead zero target is = record {
          one = one;
          made = subst (λ block. made_at w block ≡ Some one) (by is) made;
          entry = subst (EntersBy (Jump to) zero) (sym entry) tt;
          passes = passes;
        } where
          by : Some to ≡ Some target → to ≡ target
          by same = cc
        lead (suc number) target is = cc

-- An instruction that gives no value.
pub emit_keeps : (tables : Tables) (functions : List Function) (w : Whole)
    (of : IsOfGraph tables functions w) (p : Position) (instr : Instr) → is_payload instr ≡ false
    → Fits tables functions w of instr → All (IsSet w p.writes (here p)) (reads instr)
    → SafeAt w p (emit instr) (λ _ q. Keeps w p q)
emit_keeps tables functions w of p instr plain fits read =
    safe_weaker w p (emit instr) (λ _. Emitted w p instr) (λ _ q. Keeps w p q)
    (emit_in tables functions w of p instr plain fits read)
    (λ _ q inside emitted. emitted.keeps)
