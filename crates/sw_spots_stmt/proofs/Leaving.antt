-- The work of `return`, `break` and `continue` stands where their code is.
use Rattle.std.proofs.Common.{◌≡◌, ℕ, inl, inr, false, Option, Some, None}
use Rattle.std.proofs.Common.{List, [], ◌∷◌, length, refl, ap, sym, ◌∙◌, subst, arith}
use Rattle.std.specs.Prelude.{Ok}
use Rattle.sw_graph.specs.declared.function.Function.{Function}
use Rattle.sw_graph.specs.declared.instr.Last.{Last}
use Rattle.sw_graph.specs.declared.instr.Last.TheVariants as last
use Rattle.sw_graph.specs.declared.instr.Operand.{Operand}
use Rattle.sw_lower_plans.specs.Plan.{Anywhere, Numbers}
use Rattle.sw_lower_plans.specs.Run.{IsGoing, Making}
use Rattle.sw_lower_plans.specs.declared.bound.Bound.{Bound}
use Rattle.sw_lower_code.specs.Code.{Code, close, resume, ◌>>◌}
use Rattle.sw_lower_rules.specs.Expressions.{block_made, jump}
use Rattle.sw_lower_rules.specs.Statements.{in_new_block, leave, return_code}
use Rattle.sw_lower_rules.specs.Tables.{Tables}
use Rattle.sw_lower_rules.specs.declared.targets.Targets.{Targets}
use Rattle.sw_lower_run_facts.proofs.Alone.{close_apart}
use Rattle.sw_lower_run_facts.proofs.Runs.{ran_both}
use Rattle.sw_lower_run_facts.proofs.Steps.{block_ran, close_ran, resume_ran}
use Rattle.sw_tree_work.specs.Work as work
use Rattle.sw_tree_work.specs.Work.{Before, Work}
use Rattle.sw_spots.specs.Doing.{Leads, Reads}
use Rattle.sw_spots.specs.Making.{IsFinal, Went, spot_of}
use Rattle.sw_spots.specs.Spots.{IsEnd, IsSeen, Program, Ring, Stands}
use Rattle.sw_spots.proofs.Going.{final_first, final_last, ready_later, went_both, went_code}
use Rattle.sw_spots.proofs.Joining.{fits_between, ran_known}
use Rattle.sw_spots.proofs.Turning.{went_block}
use Rattle.sw_spots_stmt.proofs.Stating.{Joins}

-- A block ended, and a new one goes on.
record Parted (s : Making) (how : Last) (t : Making) : Type 0 where
  pub went : Went s t
  pub vars : t.vars ≡ s.vars
  pub ends : (f : Function) (temps : List ℕ) → IsFinal f s t → IsEnd f (spot_of s temps) how

parted : (how : Last) (s t : Making) → IsGoing s → t.over ≡ false
    → (close how >> in_new_block).run s ≡ Ok (tt, t) → Parted s how t
parted how s t going fits ran =
    let a = ran_both (close how) (λ one. in_new_block) s t tt ran in
    let b = ran_both block_made resume a.1 t tt a.3 in
    let c = close_ran how s a.1 tt going a.2 in
    let m = block_ran Anywhere a.1 b.1 b.0 b.2 in
    let r = resume_ran b.0 b.1 t tt b.3 in
    let count = c.count in
    let number = m.number in
    let less = r.made in
    let going_a : IsGoing a.1 = (let here = c.here in omega (arith, here, count, going)) in
    let fits_b : b.1.over ≡ false = sym (ap (λ (x : Making). x.over) r.is) ∙ fits in
    let fits_a : a.1.over ≡ false = sym m.over ∙ fits_b in
    let went = went_both (λ n. n ≡ s.here) s a.1 b.1
    (went_code (close how) s a.1 tt (λ count own. close_apart count own how) going fits_a a.2)
    (went_block Anywhere a.1 b.1 b.0 going_a fits_b b.2) in
    subst (Parted s how) (sym r.is) (record {
      went = record {
        fits = went.fits;
        going = less;
        number = went.number;
        regs = went.regs;
        blocks = went.blocks;
        there = inr (omega (arith, number, count));
        grows = went.grows;
        same = went.same;
      };
      vars = m.vars ∙ c.vars;
      ends = λ f temps final.
          let more = went.blocks in
          let all = final.blocks in
          let same = final.ended s.here (inl refl) (omega (arith, going, more))
          (λ is. omega (arith, is, number, count, going)) in
          record {
            within = omega (arith, going, more, all);
            index = ap length (sym (same.instrs ∙ m.instrs s.here ∙ c.instrs s.here));
            ends = same.ends ∙ m.lasts s.here ∙ c.ended;
          };
    })

module _ (p : Program) (numbers : Numbers) (tables : Tables) (Declares : ℕ → Type 0) where
  pub joins_return : Joins p numbers Declares (λ targets. return_code tables None)
      (λ breaks rest. work.Finish)
  joins_return targets s t ready unseen fits ran =
      let is = parted (last.Return None) s t ready.going fits ran in
      record {
        went = is.went;
        ready = ready_later numbers s t [] [] ready is.went is.vars tt;
        vars = is.vars;
        stands = λ f rings breaks base rest final leads seen stands. is.ends f [] final;
      }

  pub joins_return_value : (read : Code Operand) (before : Before) → Reads p numbers read before
      → Joins p numbers Declares (λ targets. return_code tables (Some read))
      (λ breaks rest. before work.Return)
  joins_return_value read before is targets s t ready unseen fits ran =
      let both = ran_both read (λ given. close (last.Return (Some given)) >> in_new_block) s t tt ran in
      let given = both.0 in
      let m = both.1 in
      let ends = close (last.Return (Some given)) >> in_new_block in
      let did = is [] s m given ready
      (fits_between read ends s m t given tt ready.going both.2 both.3 fits) both.2 in
      let part = parted (last.Return (Some given)) m t did.ready.going fits both.3 in
      record {
        went = went_both (λ n. n ≡ s.here) s m t did.went part.went;
        ready = ready_later numbers m t (given.reg ∷ []) [] did.ready part.went part.vars tt;
        vars = part.vars ∙ did.vars;
        stands = λ f rings breaks base rest final leads seen stands.
            did.stands f rings work.Return (final_first f s m t part.went final)
            (given, refl, part.ends f (given.reg ∷ []) (final_last f s m t did.went final));
      }

  -- `break` and `continue`: the work is that to which the jump leads
  module _ (to : Targets → Option ℕ) (before : Work → Work)
      (leads_to : (f : Function) (rings : List Ring) (targets : Targets) (breaks : Work)
      (base : List Bound) → Leads p numbers f rings targets breaks base → (number : ℕ)
      → to targets ≡ Some number → (s : Making) → IsEnd f (spot_of s []) (last.Jump number)
      → IsSeen base s.vars → Stands p (before breaks) f rings (spot_of s [])) where
    joins_leave : Joins p numbers Declares (λ targets. leave tables (to targets))
        (λ breaks rest. before breaks)
    joins_leave targets s t ready unseen fits ran =
        let a = ran_known 0 (to targets) (λ number. jump number >> in_new_block) s t tt ran in
        let is = parted (last.Jump a.0) s t ready.going fits a.2 in
        record {
          went = is.went;
          ready = ready_later numbers s t [] [] ready is.went is.vars tt;
          vars = is.vars;
          stands = λ f rings breaks base rest final leads seen stands.
              leads_to f rings targets breaks base leads a.0 a.1 s (is.ends f [] final) seen;
        }

  pub joins_break : Joins p numbers Declares (λ targets. leave tables targets.breaks)
      (λ breaks rest. breaks)
  joins_break = joins_leave (λ targets. targets.breaks) (λ breaks. breaks)
      (λ f rings targets breaks base leads number is s ends seen.
      leads.breaks_to number is (spot_of s []) refl ends seen)

  pub joins_continue : Joins p numbers Declares (λ targets. leave tables targets.continues)
      (λ breaks rest. work.Again)
  joins_continue = joins_leave (λ targets. targets.continues) (λ breaks. work.Again)
      (λ f rings targets breaks base leads number is s ends seen.
      leads.continues_to number is (spot_of s []) refl ends seen)
