-- The work of a body's own code stands where the code begins, in the finished function.
use Rattle.std.proofs.Common.{◌≡◌, ℕ, Bool, true, false, Option, Some, None, List, []}
use Rattle.std.proofs.Common.{◌∷◌, length, refl, ap, sym, ◌∙◌, subst, arith}
use Rattle.std.specs.Prelude.{Ok, ◌≢◌, not, if◌then◌else◌}
use Rattle.sw_types.specs.declared.ty.Ty.{Ty}
use Rattle.sw_graph.specs.declared.function.Function.{Function}
use Rattle.sw_graph.specs.declared.instr.Last.{Last}
use Rattle.sw_graph.specs.declared.instr.Last.TheVariants as last
use Rattle.sw_graph.specs.declared.instr.Operand.{Operand}
use Rattle.sw_typing_rules.specs.Verdicts.{is_unit}
use Rattle.sw_lower_plans.specs.Plan.{Numbers}
use Rattle.sw_lower_plans.specs.Run.{Making, instrs_at, last_at}
use Rattle.sw_lower_plans.specs.declared.bound.Bound.{Bound}
use Rattle.sw_lower_code.specs.Code.{Code, close, ◌>>=◌, ◌>>◌}
use Rattle.sw_lower_rules.specs.Carriers.{BlockCode, no_targets}
use Rattle.sw_lower_rules.specs.Expressions.{body_code, with_result}
use Rattle.sw_lower_rules.specs.Tables.{Tables}
use Rattle.sw_lower_run_facts.specs.Made.{Closed}
use Rattle.sw_lower_run_facts.proofs.Runs.{ran_both}
use Rattle.sw_lower_run_facts.proofs.Steps.{close_ran}
use Rattle.sw_tree_work.specs.Forms.{StmtWork, body_work, ended_by, gives_value}
use Rattle.sw_tree_work.specs.Work as work
use Rattle.sw_tree_work.specs.Work.{Before, Work}
use Rattle.sw_spots.specs.Doing.{AreUnseen, Did, Leaves, Reads}
use Rattle.sw_spots.specs.Forms.{OnlyStands, program}
use Rattle.sw_spots.specs.Making.{Grows, IsFinal, IsReady, IsSame, Went, spot_of}
use Rattle.sw_spots.specs.Spots.{IsEnd, Program, Stands}
use Rattle.sw_spots.proofs.Going.{grows_same}
use Rattle.sw_spots.proofs.Joining.{fits_between}

-- the finished function has what was made
pub record HasMade (f : Function) (t : Making) : Type 0 where
  pub regs : length f.regs ≡ length t.made.regs
  pub blocks : f.blocks ≡ t.made.blocks

-- What was made before the last block ended is final, and so is its end.
pub record Closes (f : Function) (s u : Making) (how : Last) : Type 0 where
  pub final : IsFinal f s u
  pub ends : (vars : List Bound) (temps : List ℕ)
      → IsEnd f (record (spot_of u temps) { vars = vars }) how

pub closes : (f : Function) (s u t : Making) (how : Last) → Went s u → Closed u how t → HasMade f t
    → Closes f s u how
closes f s u t how went closed has =
    let count = closed.count in
    let all = ap length has.blocks in
    let going = went.going in
    let same : (b : ℕ) → b ≢ u.here → IsSame b u.made.blocks f.blocks = λ b other.
    subst (IsSame b u.made.blocks) (sym has.blocks)
    (record { instrs = closed.instrs b; ends = closed.lasts b other }) in
    record {
      final = record {
        regs = (let regs = has.regs in let made = ap length closed.regs in omega (arith, regs, made));
        blocks = omega (arith, count, all);
        grows = λ b. subst (λ blocks. Grows b u.made.blocks blocks) (sym has.blocks)
            (grows_same b u.made.blocks t.made.blocks (closed.instrs b));
        ended = λ b own below other. same b other;
      };
      ends = λ vars temps. record {
        within = omega (arith, count, all, going);
        index = ap length (sym (ap (instrs_at u.here) has.blocks ∙ closed.instrs u.here));
        ends = ap (last_at u.here) has.blocks ∙ closed.ended;
      };
    }

module _ (p : Program) (numbers : Numbers) where
  -- The code ends its block, and its work stands at its first spot, if this holds there.
  abbrev pub Ends : (Making → Type 0) → Code (Unit {0}) → Work → Type 0
  Ends Holds code whole = (s t : Making) → IsReady numbers s [] → Holds s → t.over ≡ false → code.run s ≡ Ok (tt, t) → (f : Function)
      → HasMade f t → Stands p whole f [] (spot_of s [])

  -- with a value
  pub closed_did : (s u t : Making) (given : Operand) (before : Before)
      → Did p numbers s [] before u (given.reg ∷ [])
      → (close (last.Return (Some given))).run u ≡ Ok (tt, t) → (f : Function) → HasMade f t
      → Stands p (before work.Return) f [] (spot_of s [])
  closed_did s u t given before did ran f has =
      let c = closes f s u t (last.Return (Some given)) did.went
      (close_ran (last.Return (Some given)) u t tt did.ready.going ran) has in
      did.stands f [] work.Return c.final (given, refl, c.ends u.vars (given.reg ∷ []))

  pub ends_value : (Holds : Making → Type 0) (read : Code Operand) (before : Before)
      → Reads p numbers read before
      → Ends Holds (read >>= λ given. close (last.Return (Some given))) (before work.Return)
  ends_value Holds read before is s t ready holds fits ran f has =
      let a = ran_both read (λ given. close (last.Return (Some given))) s t tt ran in
      let given = a.0 in
      let u = a.1 in
      closed_did s u t given before (is [] s u given ready
      (fits_between read (close (last.Return (Some given))) s u t given tt ready.going a.2 a.3 fits) a.2)
      a.3 f has

  -- without one, after a block
  pub ends_block : (Declares : ℕ → Type 0) (block : BlockCode) (one : StmtWork)
      → Leaves p numbers Declares block.code one.work
      → Ends (AreUnseen p numbers Declares) (block.code no_targets >> close (last.Return None))
      (one.work work.Unknown work.Finish)
  ends_block Declares block one is s t ready unseen fits ran f has =
      let how = last.Return None in
      let a = ran_both (block.code no_targets) (λ done. close how) s t tt ran in
      let u = a.1 in
      let left = is no_targets s u ready unseen
      (fits_between (block.code no_targets) (close how) s u t tt tt ready.going a.2 a.3 fits) a.2 in
      let c = closes f s u t how left.went (close_ran how u t tt left.ready.going a.3) has in
      left.stands f [] work.Unknown [] work.Finish c.final (record {
        breaks_to = λ to is. absurd (none to is);
        continues_to = λ to is. absurd (none to is);
      }) (λ key bound found. absurd (unfound bound found)) (λ vars seen. c.ends vars []) where
        none : (to : ℕ) → None ≡ Some to → ⊥
        none to is = cc

        unfound : (bound : Bound) → None ≡ Some bound → ⊥
        unfound bound is = cc

module _ (tables : Tables) (numbers : Numbers) (functions : List Function) where
  abbrev p : Program
  p = program tables numbers functions

  -- A body that gives a value and is one expression ends with that value.
  pub ends_body : (Declares : ℕ → Type 0) (result : Ty) (given : Option Ty) (block : BlockCode)
      (one : StmtWork) → gives_value given ≡ not (is_unit result)
      → Leaves p numbers Declares block.code one.work → OnlyStands tables numbers functions block.only one.only
      → Ends p numbers (AreUnseen p numbers Declares) (body_code result block) (body_work given one)
  unfolding body_code
  ends_body Declares result given block one same is only =
      by (is_unit result) (gives_value given) block.only one.only same only where
        by : (unit gives : Bool) (read : Option (Code Operand)) (before : Option Before)
            → gives ≡ not unit → OnlyStands tables numbers functions read before
            → Ends p numbers (AreUnseen p numbers Declares) (with_result (if unit then None else read) block)
            (ended_by (if gives then before else None) one)
        by true false read before same only = ends_block p numbers Declares block one is
        by false true (Some read) (Some before) same only =
            ends_value p numbers (AreUnseen p numbers Declares) read before only
        by false true None None same only = ends_block p numbers Declares block one is
        by false true None (Some before) same only = absurd only
        by false true (Some read) None same only = absurd only
        by true true read before same only = absurd (let c : ⊥ = cc in c)
        by false false read before same only = absurd (let c : ⊥ = cc in c)
