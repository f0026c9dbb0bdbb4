-- The work of `if` stands where its code is.
use Rattle.std.proofs.Common.{◌≡◌, ℕ, ◌<◌, inl, inr, false, Option, Some, None}
use Rattle.std.proofs.Common.{List, [], ◌∷◌, length, refl, ap, sym, ◌∙◌, subst, arith}
use Rattle.std.specs.Prelude.{Ok}
use Rattle.sw_graph.specs.declared.instr.Last.TheVariants as last
use Rattle.sw_graph.specs.declared.instr.Operand.{Operand}
use Rattle.sw_lower_plans.specs.Plan.{Numbers, var_in}
use Rattle.sw_lower_plans.specs.Run.{Making}
use Rattle.sw_lower_code.specs.Code.{Code, close, done, resume, ◌>>=◌, ◌>>◌}
use Rattle.sw_lower_rules.specs.Carriers.{BlockCode, IfCode}
use Rattle.sw_lower_rules.specs.Expressions.{block_made, jump}
use Rattle.sw_lower_rules.specs.Statements.{arms_code, else_code}
use Rattle.sw_lower_rules.specs.declared.targets.Targets.{Targets}
use Rattle.sw_lower_run_facts.proofs.Runs.{done_ran, made_of, ran_both}
use Rattle.sw_tree_work.specs.Forms.{IfWork, StmtWork, arms_work, else_work}
use Rattle.sw_tree_work.specs.Work as work
use Rattle.sw_tree_work.specs.Work.{Before, Work}
use Rattle.sw_spots.specs.Doing.{AreUnseen, Did, Leaves, Left, Reads}
use Rattle.sw_spots.specs.Making.{ArePending, IsOne, IsReady, Turned, Went, WentIn}
use Rattle.sw_spots.specs.Spots.{IsEnd, IsSeen, Program, Stands, starts}
use Rattle.sw_spots.proofs.Going.{final_first, final_last, ready_later, went_both, went_in_both, went_none}
use Rattle.sw_spots.proofs.Turning.{Three, ended_by, pending_after, pending_turned}
use Rattle.sw_spots.proofs.Turning.{starts_turned, three_made, turned, turned_going, went_turned}
use Rattle.sw_spots_stmt.proofs.Stating.{Joined, Joins, leaves_joined, seen_both, seen_same}

-- the run of an arm and of what stands where its condition is false
record Ran (cond : Code Operand) (body tail : Targets → Code (Unit {0})) (targets : Targets)
    (s t : Making) : Type 0 where
  pub given : Operand
  pub tested : Making
  pub yes : ℕ
  pub no : ℕ
  pub merge : ℕ
  pub one : Making
  pub two : Making
  pub three : Making
  pub decided : Making
  pub in_yes : Making
  pub out_yes : Making
  pub left_yes : Making
  pub in_no : Making
  pub out_no : Making
  pub left_no : Making
  pub cond_ran : cond.run s ≡ Ok (given, tested)
  pub yes_ran : block_made.run tested ≡ Ok (yes, one)
  pub no_ran : block_made.run one ≡ Ok (no, two)
  pub merge_ran : block_made.run two ≡ Ok (merge, three)
  pub decided_ran : (close (last.Branch given yes no)).run three ≡ Ok (tt, decided)
  pub yes_goes : (resume yes).run decided ≡ Ok (tt, in_yes)
  pub body_ran : (body targets).run in_yes ≡ Ok (tt, out_yes)
  pub yes_left : (jump merge).run out_yes ≡ Ok (tt, left_yes)
  pub no_goes : (resume no).run left_yes ≡ Ok (tt, in_no)
  pub tail_ran : (tail targets).run in_no ≡ Ok (tt, out_no)
  pub no_left : (jump merge).run out_no ≡ Ok (tt, left_no)
  pub merge_goes : (resume merge).run left_no ≡ Ok (tt, t)

-- what runs in the blocks of an arm, after each other
abbrev last_code : Code (Unit {0}) → ℕ → Code (Unit {0})
last_code tail merge = tail >> jump merge >> resume merge

abbrev other_code : Code (Unit {0}) → ℕ → ℕ → Code (Unit {0})
other_code tail fails merge = jump merge >> resume fails >> last_code tail merge

abbrev first_code : Code (Unit {0}) → Code (Unit {0}) → Operand → ℕ → ℕ → ℕ → Code (Unit {0})
first_code body tail given holds fails merge = close (last.Branch given holds fails)
    >> resume holds
    >> body
    >> other_code tail fails merge

abbrev blocks_code : Code (Unit {0}) → Code (Unit {0}) → Operand → Code (Unit {0})
blocks_code body tail given = block_made
    >>= λ holds. block_made
    >>= λ fails. block_made
    >>= first_code body tail given holds fails

-- the run, from its end to its beginning
module _ (cond : Code Operand) (body tail : Targets → Code (Unit {0})) (targets : Targets)
    (s t tested one two three : Making) (given : Operand) (holds fails merge : ℕ)
    (cond_ran : cond.run s ≡ Ok (given, tested)) (holds_ran : block_made.run tested ≡ Ok (holds, one))
    (fails_ran : block_made.run one ≡ Ok (fails, two))
    (merge_ran : block_made.run two ≡ Ok (merge, three)) where
  ran_last : (decided in_yes out_yes left_yes in_no : Making)
      → (close (last.Branch given holds fails)).run three ≡ Ok (tt, decided)
      → (resume holds).run decided ≡ Ok (tt, in_yes) → (body targets).run in_yes ≡ Ok (tt, out_yes)
      → (jump merge).run out_yes ≡ Ok (tt, left_yes) → (resume fails).run left_yes ≡ Ok (tt, in_no)
      → (last_code (tail targets) merge).run in_no ≡ Ok (tt, t) → Ran cond body tail targets s t
  ran_last decided in_yes out_yes left_yes in_no decided_ran yes_goes body_ran yes_left no_goes whole =
      let a = ran_both (tail targets) (λ done. jump merge >> resume merge) in_no t tt whole in
      let b = ran_both (jump merge) (λ done. resume merge) a.1 t tt a.3 in
      record {
        given = given;
        tested = tested;
        yes = holds;
        no = fails;
        merge = merge;
        one = one;
        two = two;
        three = three;
        decided = decided;
        in_yes = in_yes;
        out_yes = out_yes;
        left_yes = left_yes;
        in_no = in_no;
        out_no = a.1;
        left_no = b.1;
        cond_ran = cond_ran;
        yes_ran = holds_ran;
        no_ran = fails_ran;
        merge_ran = merge_ran;
        decided_ran = decided_ran;
        yes_goes = yes_goes;
        body_ran = body_ran;
        yes_left = yes_left;
        no_goes = no_goes;
        tail_ran = a.2;
        no_left = b.2;
        merge_goes = b.3;
      }

  ran_other : (decided in_yes out_yes : Making)
      → (close (last.Branch given holds fails)).run three ≡ Ok (tt, decided)
      → (resume holds).run decided ≡ Ok (tt, in_yes) → (body targets).run in_yes ≡ Ok (tt, out_yes)
      → (other_code (tail targets) fails merge).run out_yes ≡ Ok (tt, t)
      → Ran cond body tail targets s t
  ran_other decided in_yes out_yes decided_ran yes_goes body_ran whole =
      let a = ran_both (jump merge) (λ done. resume fails >> last_code (tail targets) merge) out_yes t tt
      whole in
      let b = ran_both (resume fails) (λ done. last_code (tail targets) merge) a.1 t tt a.3 in
      ran_last decided in_yes out_yes a.1 b.1 decided_ran yes_goes body_ran a.2 b.2 b.3

  ran_first : (first_code (body targets) (tail targets) given holds fails merge).run three ≡ Ok (tt, t)
      → Ran cond body tail targets s t
  ran_first whole =
      let other = other_code (tail targets) fails merge in
      let a = ran_both (close (last.Branch given holds fails))
      (λ done. resume holds >> body targets >> other) three t tt whole in
      let b = ran_both (resume holds) (λ done. body targets >> other) a.1 t tt a.3 in
      let c = ran_both (body targets) (λ done. other) b.1 t tt b.3 in
      ran_other a.1 b.1 c.1 a.2 b.2 c.2 c.3

ran_blocks : (cond : Code Operand) (body tail : Targets → Code (Unit {0})) (targets : Targets)
    (s t tested : Making) (given : Operand) → cond.run s ≡ Ok (given, tested)
    → (blocks_code (body targets) (tail targets) given).run tested ≡ Ok (tt, t)
    → Ran cond body tail targets s t
ran_blocks cond body tail targets s t tested given cond_ran whole =
    let first = first_code (body targets) (tail targets) given in
    let a = ran_both block_made (λ holds. block_made >>= λ fails. block_made >>= first holds fails) tested
    t tt whole in
    let b = ran_both block_made (λ fails. block_made >>= first a.0 fails) a.1 t tt a.3 in
    let c = ran_both block_made (first a.0 b.0) b.1 t tt b.3 in
    ran_first cond body tail targets s t tested a.1 b.1 c.1 given a.0 b.0 c.0 cond_ran a.2 b.2 c.2 c.3

ran : (cond : Code Operand) (body tail : Targets → Code (Unit {0})) (targets : Targets) (s t : Making)
    → (cond >>= blocks_code (body targets) (tail targets)).run s ≡ Ok (tt, t)
    → Ran cond body tail targets s t
ran cond body tail targets s t whole =
    let a = ran_both cond (blocks_code (body targets) (tail targets)) s t tt whole in
    ran_blocks cond body tail targets s t a.1 a.0 a.2 a.3

arms_first : (arm : IfCode) (arms : List IfCode) (otherwise : Code (Unit {0})) (targets : Targets)
    → arms_code (arm ∷ arms) otherwise targets
    ≡ (arm.cond >>= blocks_code (arm.body.code targets) (arms_code arms otherwise targets))
unfolding arms_code
arms_first arm arms otherwise targets = refl

module _ (p : Program) (numbers : Numbers) (Declares More : ℕ → Type 0) (cond : Code Operand)
    (body tail : Targets → Code (Unit {0})) (test : Before) (before behind : Work → Before)
    (of_cond : Reads p numbers cond test) (of_body : Leaves p numbers Declares body before)
    (of_tail : Leaves p numbers More tail behind) (targets : Targets) where
  -- what is so of the run
  record Way (s t : Making) (r : Ran cond body tail targets s t) : Type 0 where
    pub tested : Did p numbers s [] test r.tested (r.given.reg ∷ [])
    pub three : Three r.tested r.three r.yes r.no r.merge
    pub first : Turned r.three (last.Branch r.given r.yes r.no) r.yes r.in_yes
    pub done_first : Left p numbers targets r.in_yes before r.out_yes
    pub second : Turned r.out_yes (last.Jump r.merge) r.no r.in_no
    pub done_other : Left p numbers targets r.in_no behind r.out_no
    pub third : Turned r.out_no (last.Jump r.merge) r.merge t
    pub to_yes : Went r.tested r.in_yes
    pub to_no : Went r.tested r.in_no
    pub to_end : Went r.tested t
    pub ready_yes : IsReady numbers r.in_yes []
    pub ready_no : IsReady numbers r.in_no []
    pub ready : IsReady numbers t []
    pub yes_vars : r.in_yes.vars ≡ s.vars
    pub no_vars : r.in_no.vars ≡ s.vars
    pub vars : t.vars ≡ s.vars
    pub fits_three : r.three.over ≡ false
    pub fits_yes : r.out_yes.over ≡ false
    pub fits_no : r.out_no.over ≡ false

  way : (s t : Making) (r : Ran cond body tail targets s t) → IsReady numbers s []
      → AreUnseen p numbers Declares s → AreUnseen p numbers More s → t.over ≡ false → Way s t r
  way s t r ready unseen unseen_more fits =
      -- forward: each block that goes on was made
      let going_tested = (made_of cond s r.tested r.given ready.going r.cond_ran).1.there in
      let going_one = (made_of block_made r.tested r.one r.yes going_tested r.yes_ran).1.there in
      let going_two = (made_of block_made r.one r.two r.no going_one r.no_ran).1.there in
      let going_three = (made_of block_made r.two r.three r.merge going_two r.merge_ran).1.there in
      let branch = last.Branch r.given r.yes r.no in
      let leave = last.Jump r.merge in
      let first = turned branch r.yes r.three r.decided r.in_yes tt tt going_three r.decided_ran
      r.yes_goes in
      let going_yes = turned_going r.three r.in_yes branch r.yes first in
      let going_out = (made_of (body targets) r.in_yes r.out_yes tt going_yes r.body_ran).1.there in
      let second = turned leave r.no r.out_yes r.left_yes r.in_no tt tt going_out r.yes_left r.no_goes
      in
      let going_no = turned_going r.out_yes r.in_no leave r.no second in
      let going_last = (made_of (tail targets) r.in_no r.out_no tt going_no r.tail_ran).1.there in
      let third = turned leave r.merge r.out_no r.left_no t tt tt going_last r.no_left r.merge_goes in
      -- backward: nothing was dropped
      let fits_no : r.out_no.over ≡ false = sym third.over ∙ fits in
      let fits_in_no = (made_of (tail targets) r.in_no r.out_no tt going_no r.tail_ran).1.before fits_no
      in
      let fits_yes : r.out_yes.over ≡ false = sym second.over ∙ fits_in_no in
      let fits_in_yes = (made_of (body targets) r.in_yes r.out_yes tt going_yes r.body_ran).1.before
      fits_yes in
      let fits_three : r.three.over ≡ false = sym first.over ∙ fits_in_yes in
      let three = three_made r.tested r.one r.two r.three r.yes r.no r.merge going_tested fits_three
      r.yes_ran r.no_ran r.merge_ran in
      let tested = of_cond [] s r.tested r.given ready three.went.fits r.cond_ran in
      let a = three.first in
      let b = three.second in
      let c = three.third in
      -- what is left
      let Own = λ (n : ℕ). n ≡ r.tested.here in
      let to_yes = went_turned Own r.tested r.three r.in_yes branch r.yes three.went first fits_three
      (inr (omega (arith, a))) in
      let after_yes = first.vars ∙ three.vars in
      let yes_vars = after_yes ∙ tested.vars in
      let ready_yes = ready_later numbers r.tested r.in_yes (r.given.reg ∷ []) [] tested.ready to_yes
      after_yes tt in
      let done = of_body targets r.in_yes r.out_yes ready_yes
      (λ key one. ap (var_in key) yes_vars ∙ unseen key one) fits_yes r.body_ran in
      let to_no = went_turned Own r.tested r.out_yes r.in_no leave r.no
      (went_both Own r.tested r.in_yes r.out_yes to_yes done.went) second fits_yes
      (inr (omega (arith, a, b))) in
      let after_no = second.vars ∙ done.vars ∙ after_yes in
      let no_vars = after_no ∙ tested.vars in
      let ready_no = ready_later numbers r.tested r.in_no (r.given.reg ∷ []) [] tested.ready to_no
      after_no tt in
      let other = of_tail targets r.in_no r.out_no ready_no
      (λ key one. ap (var_in key) no_vars ∙ unseen_more key one) fits_no r.tail_ran in
      let to_end = went_turned Own r.tested r.out_no t leave r.merge
      (went_both Own r.tested r.in_no r.out_no to_no other.went) third fits_no
      (inr (omega (arith, a, b, c))) in
      let after_end = third.vars ∙ other.vars ∙ after_no in
      record {
        tested = tested;
        three = three;
        first = first;
        done_first = done;
        second = second;
        done_other = other;
        third = third;
        to_yes = to_yes;
        to_no = to_no;
        to_end = to_end;
        ready_yes = ready_yes;
        ready_no = ready_no;
        ready = ready_later numbers r.tested t (r.given.reg ∷ []) [] tested.ready to_end after_end tt;
        yes_vars = yes_vars;
        no_vars = no_vars;
        vars = after_end ∙ tested.vars;
        fits_three = fits_three;
        fits_yes = fits_yes;
        fits_no = fits_no;
      }

  -- the blocks that wait: all three, then the last two, then the one after the `if`
  record Waits (s t : Making) (r : Ran cond body tail targets s t) : Type 0 where
    pub yes : ArePending (IsOne (r.merge ∷ r.no ∷ [])) r.in_yes
    pub out_yes : ArePending (IsOne (r.merge ∷ r.no ∷ [])) r.out_yes
    pub no : ArePending (IsOne (r.merge ∷ [])) r.in_no
    pub out_no : ArePending (IsOne (r.merge ∷ [])) r.out_no
    pub from_no : WentIn (IsOne (r.merge ∷ r.no ∷ [])) r.in_no t
    pub from_yes : WentIn (IsOne (r.merge ∷ r.no ∷ r.yes ∷ [])) r.in_yes t

  waits : (s t : Making) (r : Ran cond body tail targets s t) → Way s t r → Waits s t r
  waits s t r w =
      let b = w.three.second in
      let c = w.three.third in
      let branch = last.Branch r.given r.yes r.no in
      let leave = last.Jump r.merge in
      let Two = IsOne (r.merge ∷ r.no ∷ []) in
      let All = IsOne (r.merge ∷ r.no ∷ r.yes ∷ []) in
      let yes = pending_turned All Two r.three r.in_yes branch r.yes w.three.pending w.first
      (λ n one. elim one [
        | inl is ↦ inl is
        | inr (inl is) ↦ inr (inl is)
        | inr (inr none) ↦ absurd none
      ]) (λ n one same. elim one [
        | inl is ↦ omega (arith, is, same, b, c)
        | inr (inl is) ↦ omega (arith, is, same, b)
        | inr (inr none) ↦ absurd none
      ]) in
      let out_yes = pending_after Two r.in_yes r.out_yes yes w.done_first.went in
      let no = pending_turned Two (IsOne (r.merge ∷ [])) r.out_yes r.in_no leave r.no out_yes w.second
      (λ n one. elim one [
        | inl is ↦ inl is
        | inr none ↦ absurd none
      ]) (λ n one same. elim one [
        | inl is ↦ omega (arith, is, same, c)
        | inr none ↦ absurd none
      ]) in
      let from_no = went_turned Two r.in_no r.out_no t leave r.merge
      (went_in_both Two (λ n. n ≡ r.in_no.here) r.in_no r.in_no r.out_no
      (went_none Two r.in_no (inr (inl w.second.here)) w.ready_no.going w.done_other.went.fits) w.done_other.went
      (λ n same. inl (inr (inl (same ∙ w.second.here))))) w.third w.fits_no (inl (inl refl)) in
      let to_no = went_turned All r.in_yes r.out_yes r.in_no leave r.no
      (went_in_both All (λ n. n ≡ r.in_yes.here) r.in_yes r.in_yes r.out_yes
      (went_none All r.in_yes (inr (inr (inl w.first.here))) w.ready_yes.going w.done_first.went.fits)
      w.done_first.went (λ n same. inl (inr (inr (inl (same ∙ w.first.here)))))) w.second w.fits_yes
      (inl (inr (inl refl))) in
      record {
        yes = yes;
        out_yes = out_yes;
        no = no;
        out_no = pending_after (IsOne (r.merge ∷ [])) r.in_no r.out_no no w.done_other.went;
        from_no = from_no;
        from_yes = went_in_both All Two r.in_yes r.in_no t to_no from_no (λ n one. elim one [
          | inl is ↦ inl (inl is)
          | inr (inl is) ↦ inl (inr (inl is))
          | inr (inr none) ↦ absurd none
        ]);
      }

  joins_arm : (s t : Making) → IsReady numbers s [] → AreUnseen p numbers Declares s
      → AreUnseen p numbers More s → t.over ≡ false → Ran cond body tail targets s t
      → Joined p numbers targets s (λ breaks rest.
      test (work.Test (before breaks (work.Jump rest)) (behind breaks (work.Jump rest)))) t
  joins_arm s t ready unseen unseen_more fits r =
      let w = way s t r ready unseen unseen_more fits in
      let q = waits s t r w in
      let branch = last.Branch r.given r.yes r.no in
      let leave = last.Jump r.merge in
      let Two = IsOne (r.merge ∷ r.no ∷ []) in
      let All = IsOne (r.merge ∷ r.no ∷ r.yes ∷ []) in
      let Own = λ (n : ℕ). n ≡ s.here in
      record {
        went = went_both Own s r.tested t w.tested.went w.to_end;
        ready = w.ready;
        vars = w.vars;
        stands = λ f rings breaks base rest final leads seen stands.
            let later = final_last f s r.tested t w.tested.went final in
            let zero = ended_by All f r.three r.three r.in_yes t branch r.yes w.three.pending
            (went_none (λ n. n ≡ r.three.here) r.three refl w.three.went.going w.fits_three) w.first
            q.from_yes (final_last f r.tested r.three t w.three.went later) in
            let one = ended_by Two f r.in_yes r.out_yes r.in_no t leave r.no q.yes w.done_first.went w.second
            q.from_no (final_last f r.tested r.in_yes t w.to_yes later) in
            let two = ended_by (IsOne (r.merge ∷ [])) f r.in_no r.out_no t t leave r.merge q.no
            w.done_other.went w.third (went_none (IsOne (r.merge ∷ [])) t (inl w.third.here) w.ready.going fits)
            (final_last f r.tested r.in_no t w.to_no later) in
            let a = w.first.made in
            let b = w.second.made in
            let c = w.third.made in
            let d = w.third.count in
            let more_one = w.first.count in
            let more_two = w.done_first.went.blocks in
            let more_three = w.second.count in
            let more_four = w.done_other.went.blocks in
            let all = final.blocks in
            let merge_in : r.merge < length f.blocks = omega (arith, c, d, all) in
            let at_merge : Stands p rest f rings (starts r.merge s.vars []) =
            subst (Stands p rest f rings)
            (starts_turned (IsOne (r.merge ∷ [])) r.out_no t leave r.merge [] q.out_no w.third (inl refl)
            ∙ ap (λ vars. starts r.merge vars []) (w.done_other.vars ∙ w.no_vars)) stands in
            let on_yes : IsSeen s.vars r.in_yes.vars = seen_same s.vars r.in_yes.vars w.yes_vars in
            let on_no : IsSeen s.vars r.in_no.vars = seen_same s.vars r.in_no.vars w.no_vars in
            w.tested.stands f rings
            (work.Test (before breaks (work.Jump rest)) (behind breaks (work.Jump rest)))
            (final_first f s r.tested t w.to_end final) (
              r.yes,
              r.no,
              (
                r.given,
                refl,
                (
                  subst (λ spot. IsEnd f spot branch) (w.three.spot (r.given.reg ∷ []))
                      (zero.ends r.three.vars (r.given.reg ∷ [])),
                  (
                    omega (arith, a, more_one, more_two, more_three, more_four, d, all),
                    subst (Stands p (before breaks (work.Jump rest)) f rings)
                        (starts_turned All r.three r.in_yes branch r.yes [] w.three.pending w.first
                        (inr (inr (inl refl))) ∙ ap (λ vars. starts r.yes vars []) w.three.vars)
                        (w.done_first.stands f rings breaks base (work.Jump rest) one.final leads
                        (seen_both base s.vars r.in_yes.vars seen on_yes)
                        (λ vars more. (
                          r.merge,
                          s.vars,
                          one.ends vars [],
                          seen_both s.vars r.in_yes.vars vars on_yes more,
                          (merge_in, at_merge),
                        ))),
                  ),
                  (
                    omega (arith, b, more_three, more_four, d, all),
                    subst (Stands p (behind breaks (work.Jump rest)) f rings)
                        (starts_turned Two r.out_yes r.in_no leave r.no [] q.out_yes w.second
                        (inr (inl refl))
                        ∙ ap (λ vars. starts r.no vars []) (w.done_first.vars ∙ w.yes_vars ∙ sym w.tested.vars))
                        (w.done_other.stands f rings breaks base (work.Jump rest) two.final leads
                        (seen_both base s.vars r.in_no.vars seen on_no)
                        (λ vars more. (
                          r.merge,
                          s.vars,
                          two.ends vars [],
                          seen_both s.vars r.in_no.vars vars on_no more,
                          (merge_in, at_merge),
                        ))),
                  ),
                ),
              ),
            );
      }

module _ (p : Program) (numbers : Numbers) where
  -- an arm with its work, whose body declares such keys
  pub record ArmStands (Declares : ℕ → Type 0) (arm : IfCode) (one : IfWork) : Type 0 where
    pub cond : Reads p numbers arm.cond one.cond
    pub body : Leaves p numbers Declares arm.body.code one.body.work

  -- the keys that arms declare
  abbrev pub ArmsStand : (ℕ → Type 0) → List IfCode → List IfWork → Type 0
  ArmsStand Declares [] [] = Unit {0}
  ArmsStand Declares (arm ∷ arms) (one ∷ ones) =
      ArmStands Declares arm one × ArmsStand Declares arms ones
  ArmsStand Declares _ _ = ⊥

  abbrev pub ElseStands : (ℕ → Type 0) → Option BlockCode → Option StmtWork → Type 0
  ElseStands Declares None None = Unit {0}
  ElseStands Declares (Some block) (Some one) = Leaves p numbers Declares block.code one.work
  ElseStands Declares _ _ = ⊥

  leaves_none : (Declares : ℕ → Type 0)
      → Leaves p numbers Declares (λ targets. done {A = Unit {0}} tt) (λ breaks rest. rest)
  leaves_none Declares targets s t ready unseen fits ran =
      let is = done_ran tt tt s t ran in
      subst (Left p numbers targets s (λ breaks rest. rest)) is.1 (record {
        went = went_none (λ b. b ≡ s.here) s refl ready.going
            (ap (λ (x : Making). x.over) is.1 ∙ fits);
        ready = ready;
        vars = refl;
        stands = λ f rings breaks base rest final leads seen stands.
            stands s.vars (λ key bound found. found);
      })

  leaves_else : (Declares : ℕ → Type 0) (otherwise : Option BlockCode) (one : Option StmtWork)
      → ElseStands Declares otherwise one
      → Leaves p numbers Declares (else_code otherwise) (else_work one)
  leaves_else Declares None None is = leaves_none Declares
  leaves_else Declares (Some block) (Some one) is = is
  leaves_else Declares None (Some one) is = absurd is
  leaves_else Declares (Some block) None is = absurd is

  -- an arm, by what stands where its condition is false
  joins_first : (Declares : ℕ → Type 0) (arm : IfCode) (arms : List IfCode) (one : IfWork)
      (ones : List IfWork) (otherwise : Targets → Code (Unit {0})) (behind : Work → Before)
      → ArmStands Declares arm one
      → Leaves p numbers Declares (λ targets. arms_code arms (otherwise targets) targets)
      (arms_work ones behind)
      → Joins p numbers Declares
      (λ targets. arms_code (arm ∷ arms) (otherwise targets) targets)
      (arms_work (one ∷ ones) behind)
  joins_first Declares arm arms one ones otherwise behind is later targets s t ready unseen fits whole =
      joins_arm p numbers Declares Declares arm.cond arm.body.code
      (λ targets. arms_code arms (otherwise targets) targets) one.cond one.body.work
      (arms_work ones behind) is.cond is.body later targets s t ready unseen unseen fits
      (ran arm.cond arm.body.code (λ targets. arms_code arms (otherwise targets) targets) targets s t
      (subst (λ (code : Code (Unit {0})). code.run s ≡ Ok (tt, t))
      (arms_first arm arms (otherwise targets) targets) whole))

  leaves_arms : (Declares : ℕ → Type 0) (arms : List IfCode) (ones : List IfWork)
      (otherwise : Targets → Code (Unit {0})) (behind : Work → Before)
      → ArmsStand Declares arms ones → Leaves p numbers Declares otherwise behind
      → Leaves p numbers Declares (λ targets. arms_code arms (otherwise targets) targets)
      (arms_work ones behind)
  unfolding arms_code
  leaves_arms Declares [] [] otherwise behind are last = last
  leaves_arms Declares (arm ∷ arms) (one ∷ ones) otherwise behind are last =
      leaves_joined p numbers Declares (λ targets. arms_code (arm ∷ arms) (otherwise targets) targets)
      (arms_work (one ∷ ones) behind)
      (joins_first Declares arm arms one ones otherwise behind are.0
      (leaves_arms Declares arms ones otherwise behind are.1 last))
  leaves_arms Declares [] (one ∷ ones) otherwise behind are last = absurd are
  leaves_arms Declares (arm ∷ arms) [] otherwise behind are last = absurd are

  -- an `if` with an arm
  pub joins_if : (Declares : ℕ → Type 0) (arm : IfCode) (arms : List IfCode) (one : IfWork)
      (ones : List IfWork) (otherwise : Option BlockCode) (other : Option StmtWork)
      → ArmsStand Declares (arm ∷ arms) (one ∷ ones) → ElseStands Declares otherwise other
      → Joins p numbers Declares
      (λ targets. arms_code (arm ∷ arms) (else_code otherwise targets) targets)
      (arms_work (one ∷ ones) (else_work other))
  joins_if Declares arm arms one ones otherwise other are last =
      joins_first Declares arm arms one ones (else_code otherwise) (else_work other) are.0
      (leaves_arms Declares arms ones (else_code otherwise) (else_work other) are.1
      (leaves_else Declares otherwise other last))
