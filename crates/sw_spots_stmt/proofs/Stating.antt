-- The work of statements that declare nothing, of statements after each other and of blocks stands where
-- their code is.
use Rattle.std.proofs.Common.{◌≡◌, ℕ, ◌⊎◌, inl, inr, false, List, [], ◌∷◌}
use Rattle.std.proofs.Common.{length, take, refl, ap, sym, ◌∙◌, subst}
use Rattle.std.proofs.Math.Seq.{take-append_seam}
use Rattle.std.specs.Prelude.{Ok}
use Rattle.sw_tree.specs.declared.operator.AssignOp.{AssignOp}
use Rattle.sw_tree.specs.declared.operator.AssignOp.TheVariants as assigns
use Rattle.sw_types.specs.declared.ty.Ty.TheVariants as types
use Rattle.sw_graph.specs.declared.function.Function.{Function}
use Rattle.sw_graph.specs.declared.instr.BinOp.{BinOp}
use Rattle.sw_graph.specs.declared.instr.BinOp.TheVariants as bin
use Rattle.sw_graph.specs.declared.instr.Instr.TheVariants as instr
use Rattle.sw_graph.specs.declared.instr.Operand.{Operand}
use Rattle.sw_lower_plans.specs.Plan.{Numbers, var_in}
use Rattle.sw_lower_plans.specs.Run.{IsGoing, Making, place_of}
use Rattle.sw_lower_plans.specs.declared.bound.Bound.{Bound}
use Rattle.sw_lower_code.specs.Code.{Code, done, scope, ◌>>=◌, ◌>>◌}
use Rattle.sw_lower_rules.specs.Carriers.{ExprCode}
use Rattle.sw_lower_rules.specs.Statements as code
use Rattle.sw_lower_rules.specs.Uses.{give}
use Rattle.sw_lower_rules.specs.declared.targets.Targets.{Targets}
use Rattle.sw_lower_run_facts.proofs.Runs.{done_ran, made_of, ran_both, scope_ran}
use Rattle.sw_tree_work.specs.Forms as works
use Rattle.sw_tree_work.specs.Forms.{ExprWork}
use Rattle.sw_tree_work.specs.Work as work
use Rattle.sw_tree_work.specs.Work.{Before, Work}
use Rattle.sw_spots.specs.Doing.{AreUnseen, Does, Leads, Leaves, Left, Passed, Passes, Reads}
use Rattle.sw_spots.specs.Doing.{Writes}
use Rattle.sw_spots.specs.Making.{IsFinal, IsReady, Went, spot_of}
use Rattle.sw_spots.specs.Spots.{IsSeen, Program, Ring, Stands}
use Rattle.sw_spots.proofs.Going.{final_first, final_last, ready_later, ready_with, went_both, went_none}
use Rattle.sw_spots.proofs.Joining.{did_at, does_then, fits_between}
use Rattle.sw_spots.proofs.Writing.{does_give}

pub seen_same : (vars more : List Bound) → more ≡ vars → IsSeen vars more
seen_same vars more same key bound is = ap (var_in key) same ∙ is

pub seen_both : (one two three : List Bound) → IsSeen one two → IsSeen two three
    → IsSeen one three
seen_both one two three first second key bound is = second key bound (first key bound is)

-- What is seen is cut at the end of a block.
pub went_cut : (s u : Making) (vars : List Bound) → Went s u → Went s (record u { vars = vars })
went_cut s u vars went = record {
  fits = went.fits;
  going = went.going;
  number = went.number;
  regs = went.regs;
  blocks = went.blocks;
  there = went.there;
  grows = went.grows;
  same = went.same;
}

pub final_cut : (f : Function) (s u : Making) (vars : List Bound)
    → IsFinal f s (record u { vars = vars }) → IsFinal f s u
final_cut f s u vars final = record {
  regs = final.regs;
  blocks = final.blocks;
  grows = final.grows;
  ended = final.ended;
}

-- the variables after a block
pub cut_same : (inner : Code (Unit {0})) (s u : Making) → IsGoing s → inner.run s ≡ Ok (tt, u)
    → take (length s.vars) u.vars ≡ s.vars
cut_same inner s u going ran =
    ap (take (length s.vars)) (made_of inner s u tt going ran).1.vars
    ∙ take-append_seam s.vars (inner.plan (place_of s)).vars

module _ (p : Program) (numbers : Numbers) where
  -- Code of a statement, after which the same variables are seen.
  pub record Joined (targets : Targets) (s : Making) (before : Work → Before) (t : Making) : Type 0
    where
      pub went : Went s t
      pub ready : IsReady numbers t []
      pub vars : t.vars ≡ s.vars
      pub stands : (f : Function) (rings : List Ring) (breaks : Work) (base : List Bound) (rest : Work)
          → IsFinal f s t → Leads p numbers f rings targets breaks base → IsSeen base s.vars
          → Stands p rest f rings (spot_of t [])
          → Stands p (before breaks rest) f rings (spot_of s [])

  abbrev pub Joins : (ℕ → Type 0) → (Targets → Code (Unit {0})) → (Work → Before) → Type 0
  Joins Declares code before = (targets : Targets) (s t : Making) → IsReady numbers s []
      → AreUnseen p numbers Declares s → t.over ≡ false → (code targets).run s ≡ Ok (tt, t)
      → Joined targets s before t

  pub passes_joined : (Declares : ℕ → Type 0) (code : Targets → Code (Unit {0}))
      (before : Work → Before) → Joins Declares code before → Passes p numbers Declares code before
  passes_joined Declares code before is targets s t ready unseen fits ran =
      let here = is targets s t ready unseen fits ran in
      record {
        went = here.went;
        ready = here.ready;
        seen = seen_same s.vars t.vars here.vars;
        others = λ key none. ap (var_in key) here.vars;
        stands = here.stands;
      }

  pub leaves_joined : (Declares : ℕ → Type 0) (code : Targets → Code (Unit {0}))
      (before : Work → Before) → Joins Declares code before → Leaves p numbers Declares code before
  leaves_joined Declares code before is targets s t ready unseen fits ran =
      let here = is targets s t ready unseen fits ran in
      record {
        went = here.went;
        ready = here.ready;
        vars = here.vars;
        stands = λ f rings breaks base rest final leads seen stands.
            here.stands f rings breaks base rest final leads seen
            (stands t.vars (seen_same s.vars t.vars here.vars));
      }

  -- what does neither break nor continue
  joins_does : (Declares : ℕ → Type 0) (code : Code (Unit {0})) (before : Before)
      → Does p numbers [] code before (λ done. [])
      → Joins Declares (λ targets. code) (λ breaks. before)
  joins_does Declares code before is targets s t ready unseen fits ran =
      let here = is s t tt ready fits ran in
      record {
        went = here.went;
        ready = here.ready;
        vars = here.vars;
        stands = λ f rings breaks base rest final leads seen stands.
            here.stands f rings rest final stands;
      }

  -- a value that isn't used
  does_drop : (given : Operand)
      → Does p numbers (given.reg ∷ []) (done {A = Unit {0}} tt) (work.Then work.Drop)
      (λ done. [])
  does_drop given s t one ready fits ran =
      let is = done_ran tt one s t ran in
      did_at p numbers s s t (given.reg ∷ []) [] [] (work.Then work.Drop) is.1 refl (record {
        went = went_none (λ b. b ≡ s.here) s refl ready.going
            (ap (λ (x : Making). x.over) is.1 ∙ fits);
        vars = refl;
        ready = ready_with numbers s (given.reg ∷ []) [] ready tt;
        stands = λ f rings rest final stands. stands;
      })

  does_unused : (read : Code Operand) (before : Before) → Reads p numbers read before
      → Does p numbers [] (read >>= λ given. done {A = Unit {0}} tt)
      (λ rest. before (work.Then work.Drop rest)) (λ done. [])
  does_unused read before is =
      does_then p numbers [] read (λ given. done {A = Unit {0}} tt) before (work.Then work.Drop)
      (λ o. o.reg ∷ []) (λ done. []) (is []) does_drop

  pub joins_unused : (Declares : ℕ → Type 0) (read : Code Operand) (before : Before)
      → Reads p numbers read before
      → Joins Declares (λ targets. read >>= λ given. done {A = Unit {0}} tt)
      (λ breaks rest. before (work.Then work.Drop rest))
  joins_unused Declares read before is =
      joins_does Declares (read >>= λ given. done {A = Unit {0}} tt)
      (λ rest. before (work.Then work.Drop rest)) (does_unused read before is)

  -- An assignment by an operator takes what is there, too.
  does_assign_by : (at : ℕ) (op : BinOp) (place : ExprCode) (one : ExprWork)
      → Reads p numbers place.read one.read → Writes p numbers place.write one.write
      → Writes p numbers (code.assign_by at op place) (works.assign_by at op one)
  does_assign_by at op place one reads writes given =
      does_then p numbers (given.reg ∷ []) place.read _ one.read _ (λ o. o.reg ∷ given.reg ∷ [])
      (λ done. []) (reads (given.reg ∷ []))
      (λ old. does_then p numbers (old.reg ∷ given.reg ∷ [])
      (give at types.Int (λ dst. instr.Bin at dst op old given)) place.write
      (λ rest. work.Then work.Swap (work.Then (work.Binary at op) rest)) one.write
      (λ o. o.reg ∷ []) (λ done. [])
      (does_give p numbers (old.reg ∷ given.reg ∷ []) [] at types.Int
      (λ dst. instr.Bin at dst op old given)
      (λ rest. work.Then work.Swap (work.Then (work.Binary at op) rest)) (λ n all. tt)
      (λ f rings rest s gives. (
        old,
        refl,
        (
          given,
          refl,
          record {
            r = gives.r;
            free = gives.free;
            is = gives.is;
            next = gives.next;
          },
        ),
      ))) writes)

  writes_assign : (op : AssignOp) (at : ℕ) (place : ExprCode) (one : ExprWork)
      → Reads p numbers place.read one.read → Writes p numbers place.write one.write
      → Writes p numbers (code.assign op at place) (works.assign op at one)
  writes_assign assigns.Set at place one reads writes = writes
  writes_assign assigns.Add at place one reads writes =
      does_assign_by at bin.Add place one reads writes
  writes_assign assigns.Subtract at place one reads writes =
      does_assign_by at bin.Sub place one reads writes
  writes_assign assigns.Multiply at place one reads writes =
      does_assign_by at bin.Mul place one reads writes
  writes_assign assigns.Divide at place one reads writes =
      does_assign_by at bin.Div place one reads writes
  writes_assign assigns.Remainder at place one reads writes =
      does_assign_by at bin.Rem place one reads writes

  pub joins_assign : (Declares : ℕ → Type 0) (op : AssignOp) (at : ℕ) (place : ExprCode)
      (one : ExprWork) (read : Code Operand) (before : Before) → Reads p numbers place.read one.read
      → Writes p numbers place.write one.write → Reads p numbers read before
      → Joins Declares (λ targets. read >>= code.assign op at place)
      (λ breaks rest. before (works.assign op at one rest))
  joins_assign Declares op at place one read before reads writes is =
      joins_does Declares (read >>= code.assign op at place)
      (λ rest. before (works.assign op at one rest))
      (does_then p numbers [] read (code.assign op at place) before (works.assign op at one)
      (λ o. o.reg ∷ []) (λ done. []) (is []) (writes_assign op at place one reads writes))

  -- statements after each other
  pub passes_then : (Declares More : ℕ → Type 0) (first next : Targets → Code (Unit {0}))
      (one two : Work → Before) → Passes p numbers Declares first one
      → Passes p numbers More next two → ((key : ℕ) → Declares key → More key → ⊥)
      → Passes p numbers (λ key. Declares key ⊎ More key) (λ targets. first targets >> next targets)
      (λ breaks rest. one breaks (two breaks rest))
  passes_then Declares More first next one two is later apart targets s t ready unseen fits ran =
      let both = ran_both (first targets) (λ done. next targets) s t tt ran in
      let m = both.1 in
      let a = is targets s m ready (λ key one. unseen key (inl one))
      (fits_between (first targets) (next targets) s m t tt tt ready.going both.2 both.3 fits)
      both.2 in
      let b = later targets m t a.ready
      (λ key one. a.others key (λ other. apart key other one) ∙ unseen key (inr one)) fits both.3 in
      record {
        went = went_both (λ n. n ≡ s.here) s m t a.went b.went;
        ready = b.ready;
        seen = seen_both s.vars m.vars t.vars a.seen b.seen;
        others = λ key none. b.others key (λ one. none (inr one))
            ∙ a.others key (λ one. none (inl one));
        stands = λ f rings breaks base rest final leads seen stands.
            a.stands f rings breaks base (two breaks rest) (final_first f s m t b.went final) leads
            seen
            (b.stands f rings breaks base rest (final_last f s m t a.went final) leads
            (seen_both base s.vars m.vars seen a.seen) stands);
      }

  pub passes_none : (Declares : ℕ → Type 0)
      → Passes p numbers Declares (λ targets. done {A = Unit {0}} tt) (λ breaks rest. rest)
  passes_none Declares targets s t ready unseen fits ran =
      let is = done_ran tt tt s t ran in
      subst (Passed p numbers Declares targets s (λ breaks rest. rest)) is.1 (record {
        went = went_none (λ b. b ≡ s.here) s refl ready.going
            (ap (λ (x : Making). x.over) is.1 ∙ fits);
        ready = ready;
        seen = λ key bound is. is;
        others = λ key none. refl;
        stands = λ f rings breaks base rest final leads seen stands. stands;
      })

  -- What is declared in a block is seen in it alone.
  pub leaves_scope : (Declares : ℕ → Type 0) (inner : Targets → Code (Unit {0}))
      (before : Work → Before) → Passes p numbers Declares inner before
      → Leaves p numbers Declares (λ targets. scope (inner targets)) before
  leaves_scope Declares inner before is targets s t ready unseen fits ran =
      let r = scope_ran (inner targets) s t tt ran in
      let u = r.0 in
      let a = is targets s u ready unseen (sym (ap (λ (x : Making). x.over) r.2) ∙ fits) r.1 in
      let same = cut_same (inner targets) s u ready.going r.1 in
      let went = went_cut s u (take (length s.vars) u.vars) a.went in
      subst (Left p numbers targets s before) (sym r.2) (record {
        went = went;
        ready = ready_later numbers s (record u { vars = take (length s.vars) u.vars }) [] [] ready went
            same tt;
        vars = same;
        stands = λ f rings breaks base rest final leads seen stands.
            a.stands f rings breaks base rest
            (final_cut f s u (take (length s.vars) u.vars) final) leads seen (stands u.vars a.seen);
      })
