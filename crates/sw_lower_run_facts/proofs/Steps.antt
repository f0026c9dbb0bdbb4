-- What each step of a run makes.
use Rattle.std.proofs.Common.{◌≡◌, ℕ, suc, ◌<◌, Bool, true, false, List, [], ◌∷◌, ◌++◌, length}
use Rattle.std.proofs.Common.{refl, ap, sym, ◌∙◌, subst, arith, length-append, append-nil, inl, inr}
use Rattle.std.proofs.lemmas.Bool.Decides.{eqb_tells, leb_tells}
use Rattle.std.specs.Prelude.{Ok, Err, ◌≢◌, ◌⊎◌, ◌==◌, ◌≤◌, nat_le, nat_lt, if◌then◌else◌}
use Rattle.sw_graph.specs.declared.function.TheConstants.{MAX_REGISTERS}
use Rattle.sw_types.specs.declared.ty.Ty.{Ty}
use Rattle.sw_graph.specs.declared.function.RegKind.{RegKind}
use Rattle.sw_graph.specs.declared.function.RegKind.TheVariants.{Plain}
use Rattle.sw_graph.specs.declared.instr.Block.{Block}
use Rattle.sw_graph.specs.declared.instr.Instr.{Instr}
use Rattle.sw_graph.specs.declared.instr.Last.{Last}
use Rattle.sw_graph.specs.declared.instr.Operand.{Operand}
use Rattle.sw_lower_builder.specs.Blocks.{new_block, with_last}
use Rattle.sw_lower_builder.specs.Unfinished.{in_block, with_block, with_register}
use Rattle.sw_lower_builder.specs.declared.builder.TheConstants.{MOST_BLOCKS}
use Rattle.sw_lower_builder.proofs.BlockLemmas.{length_changed}
use Rattle.sw_lower_plans.specs.Plan.{Entry, written_in}
use Rattle.sw_lower_plans.specs.Run.{IsGoing, Making, instrs_at, last_at}
use Rattle.sw_lower_plans.specs.declared.fault.CodeFault.TheVariants.{Blocks, Missing, Registers}
use Rattle.sw_lower_plans.proofs.BlockFacts.{instrs_ended, instrs_new, last_ended, last_new}
use Rattle.sw_lower_code.specs.Code.{block_for, close, done, emit, front, reg, resume, ◌>>◌}
use Rattle.sw_lower_rules.specs.Uses.{give, operand}
use Rattle.sw_lower_run_facts.specs.Made.{Closed, Emitted, Gave, MadeBlock, MadeReg, Resumed, Wrote}
use Rattle.sw_lower_run_facts.specs.Made.{index}
use Rattle.sw_lower_run_facts.proofs.Runs.{done_ran, ended, gave_same, made_of, ran_both}

pub wrote_index : (s t : Making) (instr : Instr) → Wrote s instr t → index t ≡ suc (index s)
wrote_index s t instr w =
    let more = length-append (instrs_at s.here s.made.blocks) (instr ∷ []) in
    let count : length (instrs_at s.here t.made.blocks) ≡ suc (length (instrs_at s.here s.made.blocks)) =
    ap length w.instrs ∙ (omega (arith, more)) in
    ap (λ b. length (instrs_at b t.made.blocks)) w.here ∙ count

here_written : (here : ℕ) (instr : Instr)
    → written_in here (record { block = here; instr = instr } ∷ []) ≡ instr ∷ []
here_written here instr = by (here == here) (eqb_tells here here) where
  by : (is : Bool) → ((is ≡ true) × (here ≡ here)) ⊎ ((is ≡ false) × (here ≢ here))
      → (if is then instr ∷ [] else []) ≡ instr ∷ []
  by true tells = refl
  by false (inl tells) = absurd (let c : ⊥ = (let wrong : false ≡ true = tells.0 in cc) in c)
  by false (inr tells) = absurd (tells.1 refl)

pub emitted : (instr : Instr) (s t : Making) (one : Unit {0}) → IsGoing s → t.over ≡ false
    → (emit instr).run s ≡ Ok (one, t) → Emitted s instr t
unfolding emit
emitted instr s t one going fits ran =
    let m = (made_of (emit instr) s t one going ran).1 in
    record {
      wrote = record {
        here = m.here;
        instrs = m.instrs fits s.here
            ∙ ap (λ list. instrs_at s.here s.made.blocks ++ list) (here_written s.here instr);
      };
      vars = m.vars ∙ append-nil s.vars;
      regs = ap length (m.regs ∙ append-nil s.made.regs);
    }

pub fronted : (instr : Instr) (s t : Making) (one : Unit {0}) → IsGoing s → t.over ≡ false
    → (front instr).run s ≡ Ok (one, t) → Emitted s instr t
unfolding front
fronted instr s t one going fits ran =
    let m = (made_of (front instr) s t one going ran).1 in
    record {
      wrote = record {
        here = m.here;
        instrs = m.instrs fits s.here
            ∙ ap (λ list. instrs_at s.here s.made.blocks ++ list) (here_written s.here instr);
      };
      vars = m.vars ∙ append-nil s.vars;
      regs = ap length (m.regs ∙ append-nil s.made.regs);
    }

-- a register more
pub reg_ran : (kind : RegKind) (s t : Making) (r : ℕ) → (reg kind).run s ≡ Ok (r, t)
    → MadeReg s r t
unfolding reg
reg_ran kind s t r ran = by (nat_le MAX_REGISTERS (length s.made.regs)) ran where
  after : Making
  after = record s { made = with_register kind s.made }

  by : (full : Bool)
      → (if full then Err Registers else ended (length s.made.regs) after) ≡ ended r t
      → MadeReg s r t
  by true ran = cc
  by false ran =
      let same = gave_same (length s.made.regs) r after t ran in
      subst (MadeReg s r) same.1 (record {
        is = sym same.0;
        here = refl;
        vars = refl;
        over = refl;
        regs = (let more = length-append s.made.regs (kind ∷ []) in omega (arith, more));
        blocks = refl;
      })

-- a register, and an instruction that sets it
pub gave : (instr : ℕ → Instr) (at r : ℕ) (s m t : Making) → MadeReg s r m
    → Emitted m (instr r) t → Gave s instr (operand r at) t
gave instr at r s m t made e = record {
  reg = made.is;
  wrote = record {
    here = e.wrote.here ∙ made.here;
    instrs = ap (λ b. instrs_at b t.made.blocks) (sym made.here) ∙ e.wrote.instrs
        ∙ ap (λ b. instrs_at b m.made.blocks ++ instr r ∷ []) made.here
        ∙ ap (λ blocks. instrs_at s.here blocks ++ instr r ∷ []) made.blocks
        ∙ ap (λ n. instrs_at s.here s.made.blocks ++ instr n ∷ []) made.is;
  };
  vars = e.vars ∙ made.vars;
  regs = e.regs ∙ made.regs;
}

pub reg_going : (s t : Making) (r : ℕ) → MadeReg s r t → IsGoing s → IsGoing t
reg_going s t r made going =
    let here = made.here in
    let blocks = ap length made.blocks in
    omega (arith, here, blocks, going)

pub give_ran : (at : ℕ) (ty : Ty) (instr : ℕ → Instr) (s t : Making) (given : Operand)
    → IsGoing s → t.over ≡ false → (give at ty instr).run s ≡ Ok (given, t) → Gave s instr given t
give_ran at ty instr s t given going fits ran =
    let a = ran_both (reg (Plain ty)) (λ r. emit (instr r) >> done (operand r at)) s t given ran in
    let b = ran_both (emit (instr a.0)) (λ one. done (operand a.0 at)) a.1 t given a.3 in
    let c = done_ran (operand a.0 at) given b.1 t b.3 in
    let made = reg_ran (Plain ty) s a.1 a.0 a.2 in
    let e = emitted (instr a.0) a.1 b.1 b.0 (reg_going s a.1 a.0 made going)
    (ap (λ (x : Making). x.over) c.1 ∙ fits) b.2 in
    subst (λ (o : Operand). Gave s instr o t) c.0
    (subst (Gave s instr (operand a.0 at)) c.1 (gave instr at a.0 s a.1 b.1 made e))

-- a block more
past_empty : (blocks : List Block) → instrs_at (length blocks) blocks ≡ []
unfolding instrs_at
past_empty [] = refl
past_empty (block ∷ blocks) = past_empty blocks

pub block_ran : (entry : Entry) (s t : Making) (made : ℕ)
    → (block_for entry).run s ≡ Ok (made, t) → MadeBlock s made t
unfolding block_for
block_ran entry s t made ran =
    by (nat_le MOST_BLOCKS (length s.made.blocks)) ran where
      after : Making
      after = record s { made = with_block s.made }

      by : (full : Bool)
          → (if full then Err Blocks else ended (length s.made.blocks) after) ≡ ended made t
          → MadeBlock s made t
      by true ran = cc
      by false ran =
          let same = gave_same (length s.made.blocks) made after t ran in
          subst (MadeBlock s made) same.1
          (subst (λ n. MadeBlock s n after) same.0 (record {
            number = refl;
            count = (
                let more = length-append s.made.blocks (new_block ∷ []) in omega (arith, more));
            here = refl;
            vars = refl;
            over = refl;
            regs = refl;
            instrs = λ b. instrs_new b s.made.blocks;
            lasts = λ b. last_new b s.made.blocks;
            empty = instrs_new (length s.made.blocks) s.made.blocks
                ∙ past_empty s.made.blocks;
          }))

-- the block that goes on ends
pub close_ran : (last : Last) (s t : Making) (one : Unit {0}) → IsGoing s
    → (close last).run s ≡ Ok (one, t) → Closed s last t
unfolding close
close_ran last s t one going ran =
    let after : Making = record s { made = in_block (with_last last) s.here s.made } in
    subst (Closed s last) (gave_same tt one after t ran).1 (record {
      here = refl;
      vars = refl;
      over = refl;
      regs = refl;
      count = length_changed (with_last last) s.here s.made.blocks;
      instrs = λ b. instrs_ended last s.here b s.made.blocks;
      lasts = λ b other. ends b ∙ beside b other (s.here == b) (eqb_tells s.here b);
      ended = ends s.here ∙ itself (s.here == s.here) (eqb_tells s.here s.here);
    }) where
      ends : (b : ℕ) → last_at b (in_block (with_last last) s.here s.made).blocks
          ≡ (if s.here == b then last else last_at b s.made.blocks)
      ends b = last_ended last s.here b s.made.blocks going

      beside : (b : ℕ) → b ≢ s.here → (is : Bool)
          → ((is ≡ true) × (s.here ≡ b)) ⊎ ((is ≡ false) × (s.here ≢ b))
          → (if is then last else last_at b s.made.blocks) ≡ last_at b s.made.blocks
      beside b other false tells = refl
      beside b other true (inl tells) = absurd (other (sym tells.1))
      beside b other true (inr tells) =
          absurd (let c : ⊥ = (let wrong : true ≡ false = tells.0 in cc) in c)

      itself : (is : Bool)
          → ((is ≡ true) × (s.here ≡ s.here)) ⊎ ((is ≡ false) × (s.here ≢ s.here))
          → (if is then last else last_at s.here s.made.blocks) ≡ last
      itself true tells = refl
      itself false (inl tells) = absurd (let c : ⊥ = (let wrong : false ≡ true = tells.0 in cc) in c)
      itself false (inr tells) = absurd (tells.1 refl)

-- what a test on numbers tells
lt_tells : (a b : ℕ) → ((nat_lt a b ≡ true) × (a < b)) ⊎ ((nat_lt a b ≡ false) × (b ≤ a))
lt_tells a b = elim (leb_tells (suc a) b) [
  | inl less ↦ inl (less.0, less.1)
  | inr above ↦ inr (above.0, omega (arith, above.1))
]

pub resume_ran : (number : ℕ) (s t : Making) (one : Unit {0})
    → (resume number).run s ≡ Ok (one, t) → Resumed s number t
unfolding resume
resume_ran number s t one ran =
    by (nat_lt number (length s.made.blocks)) (lt_tells number (length s.made.blocks)) ran where
      by : (is : Bool)
          → ((is ≡ true) × (number < length s.made.blocks))
          ⊎ ((is ≡ false) × (length s.made.blocks ≤ number))
          → (if is then ended tt (record s { here = number }) else Err Missing) ≡ ended one t
          → Resumed s number t
      by false tells ran = cc
      by true (inl tells) ran = record {
        made = tells.1;
        is = sym (gave_same tt one (record s { here = number }) t ran).1;
      }
      by true (inr tells) ran =
          absurd (let c : ⊥ = (let wrong : true ≡ false = tells.0 in cc) in c)
