-- Work of code that writes one instruction.
use Rattle.std.proofs.Common.{◌≡◌, ℕ, suc, ◌<◌, ◌≤◌, false, List, [], ◌∷◌, ◌++◌}
use Rattle.std.proofs.Common.{length, refl, ap, ◌∙◌, subst, arith, append_assoc}
use Rattle.std.specs.Prelude.{Ok, slice_get}
use Rattle.sw_types.specs.declared.ty.Ty.{Ty}
use Rattle.sw_graph.specs.declared.function.Function.{Function}
use Rattle.sw_graph.specs.declared.function.RegKind.{RegKind}
use Rattle.sw_graph.specs.declared.function.RegKind.TheVariants.{Plain}
use Rattle.sw_graph.specs.declared.instr.Instr.{Instr}
use Rattle.sw_graph.specs.declared.instr.Operand.{Operand}
use Rattle.sw_list.proofs.ListLemmas.{at_seam}
use Rattle.sw_lower_plans.specs.Plan.{Numbers}
use Rattle.sw_lower_plans.specs.Run.{Making, instrs_at}
use Rattle.sw_lower_code.specs.Code.{Code, done, emit, reg, ◌>>=◌, ◌>>◌}
use Rattle.sw_lower_rules.specs.Uses.{give, operand}
use Rattle.sw_lower_run_facts.specs.Apart.{CodeApart}
use Rattle.sw_lower_run_facts.specs.Made.{Gave, Wrote, index}
use Rattle.sw_lower_run_facts.proofs.Alone.{after_any, done_apart, emit_apart, reg_apart}
use Rattle.sw_lower_run_facts.proofs.Runs.{ran_both}
use Rattle.sw_lower_run_facts.proofs.Steps.{emitted, gave, give_ran, reg_going, reg_ran, wrote_index}
use Rattle.sw_tree_work.specs.Work.{Before, Work}
use Rattle.sw_spots.specs.Doing.{Did, Does}
use Rattle.sw_spots.specs.Making.{AreBelow, Grows, IsReady, Went, spot_of}
use Rattle.sw_spots.specs.Spots.{Gives, IsInstr, Program, Ring, Stands, behind}
use Rattle.sw_spots.proofs.Going.{below_more, ready_later, same_spot, went_both, went_code}
use Rattle.sw_spots.proofs.Joining.{did_both, fits_between}

give_apart : (at : ℕ) (ty : Ty) (made : ℕ → Instr) → CodeApart (give at ty made)
give_apart at ty made count own =
    after_any count own (reg (Plain ty)) _ (reg_apart count own (Plain ty)) (λ r.
    after_any count own (emit (made r)) _ (emit_apart count own (made r)) (λ one.
    done_apart count own (operand r at)))

-- an instruction that was written is that of the finished function
pub instr_final : (f : Function) (s t : Making) (instr : Instr) (temps : List ℕ) → Wrote s instr t
    → ((b : ℕ) → Grows b t.made.blocks f.blocks)
    → IsInstr f (spot_of s temps) instr
instr_final f s t instr temps w grows =
    let g = grows s.here in
    ap (λ list. slice_get list (index s))
    (g.1 ∙ ap (λ list. list ++ g.0) w.instrs
    ∙ append_assoc (instrs_at s.here s.made.blocks) (instr ∷ []) g.0)
    ∙ at_seam (instrs_at s.here s.made.blocks) instr g.0

-- the spot behind an instruction that was written
pub spot_wrote : (s t : Making) (instr : Instr) (temps others : List ℕ) → Wrote s instr t
    → t.vars ≡ s.vars → spot_of t others ≡ behind (spot_of s temps) others
spot_wrote s t instr temps others w vars =
    same_spot t.here s.here (index t) (suc (index s)) t.vars s.vars others others w.here
    (wrote_index s t instr w) vars refl

module _ (p : Program) (numbers : Numbers) where
  -- an instruction that gives a value to a new register
  pub did_gave : (s t : Making) (temps below : List ℕ) (mid : ℕ → List ℕ) (made : ℕ → Instr)
      (given : Operand) (before : Before)
      → ((n : ℕ) → AreBelow n temps → AreBelow n below)
      → ((n r : ℕ) → AreBelow n temps → r < n → AreBelow n (mid r))
      → ((f : Function) (rings : List Ring) (rest : Work)
      → Gives f (spot_of s temps) below made
      (λ r. Stands p rest f rings (behind (spot_of s temps) (mid r)))
      → Stands p (before rest) f rings (spot_of s temps))
      → IsReady numbers s temps → Went s t → Gave s made given t
      → Did p numbers s temps before t (mid given.reg)
  did_gave s t temps below mid made given before less fits shape ready went g =
      let regs = g.regs in
      let reg = g.reg in
      record {
        went = went;
        vars = g.vars;
        ready = ready_later numbers s t temps (mid given.reg) ready went g.vars
            (fits (length t.made.regs) given.reg
            (below_more (length s.made.regs) (length t.made.regs) temps (omega (arith, regs))
            ready.temporaries) (omega (arith, regs, reg)));
        stands = λ f rings rest final stands. shape f rings rest (record {
          r = length s.made.regs;
          free = record {
            within = (let more = final.regs in omega (arith, more, regs));
            temporaries = less (length s.made.regs) ready.temporaries;
            variables = ready.variables;
          };
          is = instr_final f s t (made (length s.made.regs)) temps g.wrote final.grows;
          next = subst (λ n. Stands p rest f rings (behind (spot_of s temps) (mid n))) reg
              (subst (Stands p rest f rings)
              (spot_wrote s t (made (length s.made.regs)) temps (mid given.reg) g.wrote g.vars)
              stands);
        });
      }

  pub did_give : (s t : Making) (temps below : List ℕ) (at : ℕ) (ty : Ty) (made : ℕ → Instr)
      (given : Operand) (before : Before)
      → ((n : ℕ) → AreBelow n temps → AreBelow n below)
      → ((f : Function) (rings : List Ring) (rest : Work)
      → Gives f (spot_of s temps) below made
      (λ r. Stands p rest f rings (behind (spot_of s temps) (r ∷ below)))
      → Stands p (before rest) f rings (spot_of s temps))
      → IsReady numbers s temps → t.over ≡ false → (give at ty made).run s ≡ Ok (given, t)
      → Did p numbers s temps before t (given.reg ∷ below)
  did_give s t temps below at ty made given before less shape ready fits ran =
      did_gave s t temps below (λ r. r ∷ below) made given before less
      (λ n r all small. (small, less n all)) shape ready
      (went_code (give at ty made) s t given (give_apart at ty made) ready.going fits ran)
      (give_ran at ty made s t given ready.going fits ran)

  pub does_give : (temps below : List ℕ) (at : ℕ) (ty : Ty) (made : ℕ → Instr) (before : Before)
      → ((n : ℕ) → AreBelow n temps → AreBelow n below)
      → ((f : Function) (rings : List Ring) (rest : Work) (s : Making)
      → Gives f (spot_of s temps) below made
      (λ r. Stands p rest f rings (behind (spot_of s temps) (r ∷ below)))
      → Stands p (before rest) f rings (spot_of s temps))
      → Does p numbers temps (give at ty made) before (λ o. o.reg ∷ below)
  does_give temps below at ty made before less shape s t given ready fits ran =
      did_give s t temps below at ty made given before less
      (λ f rings rest gives. shape f rings rest s gives) ready fits ran

  -- a register, an instruction that gives it a value, and code after that
  pub did_made : (s m t : Making) (temps below : List ℕ) (mid : ℕ → List ℕ) (kind : RegKind)
      (made : ℕ → Instr) (r : ℕ) (done : Unit {0}) (before : Before)
      → ((n : ℕ) → AreBelow n temps → AreBelow n below)
      → ((n r : ℕ) → AreBelow n temps → r < n → AreBelow n (mid r))
      → ((f : Function) (rings : List Ring) (rest : Work)
      → Gives f (spot_of s temps) below made
      (λ r. Stands p rest f rings (behind (spot_of s temps) (mid r)))
      → Stands p (before rest) f rings (spot_of s temps))
      → IsReady numbers s temps → t.over ≡ false → (reg kind).run s ≡ Ok (r, m)
      → (emit (made r)).run m ≡ Ok (done, t) → Did p numbers s temps before t (mid r)
  did_made s m t temps below mid kind made r done before less fits shape ready whole first second =
      let is = reg_ran kind s m r first in
      let going = reg_going s m r is ready.going in
      let e = emitted (made r) m t done going whole second in
      let went = went_both (λ b. b ≡ s.here) s m t
      (went_code (reg kind) s m r (λ count own. reg_apart count own kind) ready.going
      (fits_between (reg kind) (emit (made r)) s m t r done ready.going first second whole) first)
      (went_code (emit (made r)) m t done (λ count own. emit_apart count own (made r)) going whole
      second) in
      did_gave s t temps below mid made (operand r 0) before less fits shape ready went
      (gave made 0 r s m t is e)

  pub does_made : {B : Type 0} (temps below : List ℕ) (mid : ℕ → List ℕ) (kind : RegKind)
      (made : ℕ → Instr) (next : ℕ → Code B) (one two : Before) (after : B → List ℕ)
      → ((n : ℕ) → AreBelow n temps → AreBelow n below)
      → ((n r : ℕ) → AreBelow n temps → r < n → AreBelow n (mid r))
      → ((f : Function) (rings : List Ring) (rest : Work) (s : Making)
      → Gives f (spot_of s temps) below made
      (λ r. Stands p rest f rings (behind (spot_of s temps) (mid r)))
      → Stands p (one rest) f rings (spot_of s temps))
      → ((r : ℕ) → Does p numbers (mid r) (next r) two after)
      → Does p numbers temps (reg kind >>= λ r. emit (made r) >> next r) (λ rest. one (two rest))
      after
  does_made temps below mid kind made next one two after less fits shape later s t value ready whole
      ran =
      let a = ran_both (reg kind) (λ r. emit (made r) >> next r) s t value ran in
      let b = ran_both (emit (made a.0)) (λ done. next a.0) a.1 t value a.3 in
      let going = reg_going s a.1 a.0 (reg_ran kind s a.1 a.0 a.2) ready.going in
      let here = did_made s a.1 b.1 temps below mid kind made a.0 b.0 one less fits
      (λ f rings rest gives. shape f rings rest s gives) ready
      (fits_between (emit (made a.0)) (next a.0) a.1 b.1 t b.0 value going b.2 b.3 whole) a.2 b.2 in
      did_both p numbers s b.1 t temps (mid a.0) (after value) one two here
      (later a.0 b.1 t value here.ready whole b.3)

  -- an instruction that gives no value
  pub did_emit : (s t : Making) (temps after : List ℕ) (made : Instr) (one : Unit {0})
      (before : Before)
      → ((n : ℕ) → AreBelow n temps → AreBelow n after)
      → ((f : Function) (rings : List Ring) (rest : Work) → length s.made.regs ≤ length f.regs
      → IsInstr f (spot_of s temps) made
      → Stands p rest f rings (behind (spot_of s temps) after)
      → Stands p (before rest) f rings (spot_of s temps))
      → IsReady numbers s temps → t.over ≡ false → (emit made).run s ≡ Ok (one, t)
      → Did p numbers s temps before t after
  did_emit s t temps after made one before less shape ready fits ran =
      let went = went_code (emit made) s t one (λ count own. emit_apart count own made) ready.going
      fits ran in
      let e = emitted made s t one ready.going fits ran in
      let regs = e.regs in
      record {
        went = went;
        vars = e.vars;
        ready = ready_later numbers s t temps after ready went e.vars
            (below_more (length s.made.regs) (length t.made.regs) after (omega (arith, regs))
            (less (length s.made.regs) ready.temporaries));
        stands = λ f rings rest final stands. shape f rings rest
            (let more = final.regs in omega (arith, more, regs))
            (instr_final f s t made temps e.wrote final.grows)
            (subst (Stands p rest f rings) (spot_wrote s t made temps after e.wrote e.vars) stands);
      }

  pub does_emit : (temps after : List ℕ) (made : Instr) (before : Before)
      → ((n : ℕ) → AreBelow n temps → AreBelow n after)
      → ((f : Function) (rings : List Ring) (rest : Work) (s : Making)
      → IsInstr f (spot_of s temps) made
      → Stands p rest f rings (behind (spot_of s temps) after)
      → Stands p (before rest) f rings (spot_of s temps))
      → Does p numbers temps (emit made) before (λ done. after)
  does_emit temps after made before less shape s t one ready fits ran =
      did_emit s t temps after made one before less
      (λ f rings rest regs instr stands. shape f rings rest s instr stands) ready fits ran
