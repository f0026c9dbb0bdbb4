-- The work of loops stands where their code is.
use Rattle.std.proofs.Common.{◌≡◌, ℕ, inl, inr, false, Some}
use Rattle.std.proofs.Common.{[], ◌∷◌, refl, ap, sym, ◌∙◌, subst, arith}
use Rattle.std.specs.Prelude.{Ok}
use Rattle.sw_graph.specs.declared.instr.Last.TheVariants as last
use Rattle.sw_graph.specs.declared.instr.Operand.{Operand}
use Rattle.sw_lower_plans.specs.Plan.{Numbers, var_in}
use Rattle.sw_lower_plans.specs.Run.{Making}
use Rattle.sw_lower_code.specs.Code.{Code, close, resume, ◌>>=◌, ◌>>◌}
use Rattle.sw_lower_rules.specs.Carriers.{BlockCode}
use Rattle.sw_lower_rules.specs.Expressions.{block_made, jump}
use Rattle.sw_lower_rules.specs.Statements.{while_code}
use Rattle.sw_lower_rules.specs.declared.targets.Targets.{Targets}
use Rattle.sw_lower_run_facts.proofs.Runs.{made_of, ran_both}
use Rattle.sw_tree_work.specs.Work as work
use Rattle.sw_tree_work.specs.Work.{Before, Work}
use Rattle.sw_spots.specs.Doing.{AreUnseen, Did, Leaves, Left, Reads}
use Rattle.sw_spots.specs.Making.{ArePending, IsOne, IsReady, Turned, Went, WentIn}
use Rattle.sw_spots.specs.Spots.{IsEnd, Program, Ring, Stands, starts}
use Rattle.sw_spots.proofs.Going.{final_last, ready_later, went_both, went_in_both, went_none}
use Rattle.sw_spots.proofs.Turning.{Three, ended_by, pending_after, pending_turned}
use Rattle.sw_spots.proofs.Turning.{starts_turned, three_made, turned, turned_going, went_turned}
use Rattle.sw_spots_stmt.proofs.Stating.{Joined, Joins, seen_both, seen_same}

abbrev targets_of : ℕ → ℕ → Targets
targets_of head after = record { breaks = Some after; continues = Some head }

-- the run of a loop: its blocks, and what runs in them
record Ran (cond : Code Operand) (body : Targets → Code (Unit {0})) (s t : Making) : Type 0 where
  pub head : ℕ
  pub inner : ℕ
  pub after : ℕ
  pub one : Making
  pub two : Making
  pub three : Making
  pub left : Making
  pub in_head : Making
  pub given : Operand
  pub tested : Making
  pub decided : Making
  pub in_body : Making
  pub done : Making
  pub again : Making
  pub head_ran : block_made.run s ≡ Ok (head, one)
  pub inner_ran : block_made.run one ≡ Ok (inner, two)
  pub after_ran : block_made.run two ≡ Ok (after, three)
  pub left_ran : (jump head).run three ≡ Ok (tt, left)
  pub head_goes : (resume head).run left ≡ Ok (tt, in_head)
  pub cond_ran : cond.run in_head ≡ Ok (given, tested)
  pub decided_ran : (close (last.Branch given inner after)).run tested ≡ Ok (tt, decided)
  pub body_goes : (resume inner).run decided ≡ Ok (tt, in_body)
  pub body_ran : (body (targets_of head after)).run in_body ≡ Ok (tt, done)
  pub again_ran : (jump head).run done ≡ Ok (tt, again)
  pub after_goes : (resume after).run again ≡ Ok (tt, t)

-- what runs in the blocks of a loop, after each other
abbrev last_code : (Targets → Code (Unit {0})) → ℕ → ℕ → Code (Unit {0})
last_code body head after = body (targets_of head after) >> jump head >> resume after

abbrev decided_code : (Targets → Code (Unit {0})) → ℕ → ℕ → ℕ → Operand → Code (Unit {0})
decided_code body head inner after given = close (last.Branch given inner after)
    >> resume inner
    >> last_code body head after

abbrev head_code : Code Operand → (Targets → Code (Unit {0})) → ℕ → ℕ → ℕ → Code (Unit {0})
head_code cond body head inner after = jump head
    >> resume head
    >> cond
    >>= decided_code body head inner after

-- the run, from its end to its beginning
module _ (cond : Code Operand) (body : Targets → Code (Unit {0})) (s t one two three : Making)
    (head inner after : ℕ) (head_ran : block_made.run s ≡ Ok (head, one))
    (inner_ran : block_made.run one ≡ Ok (inner, two))
    (after_ran : block_made.run two ≡ Ok (after, three)) where
  ran_last : (left in_head tested decided in_body : Making) (given : Operand)
      → (jump head).run three ≡ Ok (tt, left) → (resume head).run left ≡ Ok (tt, in_head)
      → cond.run in_head ≡ Ok (given, tested)
      → (close (last.Branch given inner after)).run tested ≡ Ok (tt, decided)
      → (resume inner).run decided ≡ Ok (tt, in_body)
      → (last_code body head after).run in_body ≡ Ok (tt, t) → Ran cond body s t
  ran_last left in_head tested decided in_body given left_ran head_goes cond_ran decided_ran body_goes
      whole =
      let a = ran_both (body (targets_of head after)) (λ done. jump head >> resume after) in_body t tt
      whole in
      let b = ran_both (jump head) (λ done. resume after) a.1 t tt a.3 in
      record {
        head = head;
        inner = inner;
        after = after;
        one = one;
        two = two;
        three = three;
        left = left;
        in_head = in_head;
        given = given;
        tested = tested;
        decided = decided;
        in_body = in_body;
        done = a.1;
        again = b.1;
        head_ran = head_ran;
        inner_ran = inner_ran;
        after_ran = after_ran;
        left_ran = left_ran;
        head_goes = head_goes;
        cond_ran = cond_ran;
        decided_ran = decided_ran;
        body_goes = body_goes;
        body_ran = a.2;
        again_ran = b.2;
        after_goes = b.3;
      }

  ran_decided : (left in_head tested : Making) (given : Operand)
      → (jump head).run three ≡ Ok (tt, left) → (resume head).run left ≡ Ok (tt, in_head)
      → cond.run in_head ≡ Ok (given, tested)
      → (decided_code body head inner after given).run tested ≡ Ok (tt, t) → Ran cond body s t
  ran_decided left in_head tested given left_ran head_goes cond_ran whole =
      let a = ran_both (close (last.Branch given inner after))
      (λ done. resume inner >> last_code body head after) tested t tt whole in
      let b = ran_both (resume inner) (λ done. last_code body head after) a.1 t tt a.3 in
      ran_last left in_head tested a.1 b.1 given left_ran head_goes cond_ran a.2 b.2 b.3

  ran_head : (head_code cond body head inner after).run three ≡ Ok (tt, t) → Ran cond body s t
  ran_head whole =
      let decide = decided_code body head inner after in
      let a = ran_both (jump head) (λ done. resume head >> cond >>= decide) three t tt whole in
      let b = ran_both (resume head) (λ done. cond >>= decide) a.1 t tt a.3 in
      let c = ran_both cond decide b.1 t tt b.3 in
      ran_decided a.1 b.1 c.1 c.0 a.2 b.2 c.2 c.3

ran : (cond : Code Operand) (body : BlockCode) (s t : Making)
    → (while_code cond body).run s ≡ Ok (tt, t) → Ran cond body.code s t
ran cond body s t whole =
    let enter = head_code cond body.code in
    let a = ran_both block_made (λ head. block_made >>= λ inner. block_made >>= enter head inner) s t tt
    whole in
    let b = ran_both block_made (λ inner. block_made >>= enter a.0 inner) a.1 t tt a.3 in
    let c = ran_both block_made (enter a.0 b.0) b.1 t tt b.3 in
    ran_head cond body.code s t a.1 b.1 c.1 a.0 b.0 c.0 a.2 b.2 c.2 c.3

module _ (p : Program) (numbers : Numbers) (Declares : ℕ → Type 0) (cond : Code Operand)
    (body : Targets → Code (Unit {0})) (test : Before) (before : Work → Before)
    (of_cond : Reads p numbers cond test) (of_body : Leaves p numbers Declares body before) where
  -- what is so of the run
  record Way (s t : Making) (r : Ran cond body s t) : Type 0 where
    pub three : Three s r.three r.head r.inner r.after
    pub first : Turned r.three (last.Jump r.head) r.head r.in_head
    pub tested : Did p numbers r.in_head [] test r.tested (r.given.reg ∷ [])
    pub second : Turned r.tested (last.Branch r.given r.inner r.after) r.inner r.in_body
    pub done : Left p numbers (targets_of r.head r.after) r.in_body before r.done
    pub third : Turned r.done (last.Jump r.head) r.after t
    pub to_head : Went s r.in_head
    pub to_body : Went s r.in_body
    pub to_end : Went s t
    pub ready_head : IsReady numbers r.in_head []
    pub ready_body : IsReady numbers r.in_body []
    pub ready : IsReady numbers t []
    pub head_vars : r.in_head.vars ≡ s.vars
    pub body_vars : r.in_body.vars ≡ s.vars
    pub vars : t.vars ≡ s.vars
    pub fits_three : r.three.over ≡ false
    pub fits_tested : r.tested.over ≡ false
    pub fits_done : r.done.over ≡ false

  way : (s t : Making) (r : Ran cond body s t) → IsReady numbers s [] → AreUnseen p numbers Declares s
      → t.over ≡ false → Way s t r
  way s t r ready unseen fits =
      let goes = body (targets_of r.head r.after) in
      -- forward: each block that goes on was made
      let going_one = (made_of block_made s r.one r.head ready.going r.head_ran).1.there in
      let going_two = (made_of block_made r.one r.two r.inner going_one r.inner_ran).1.there in
      let going_three = (made_of block_made r.two r.three r.after going_two r.after_ran).1.there in
      let first = turned (last.Jump r.head) r.head r.three r.left r.in_head tt tt going_three r.left_ran
      r.head_goes in
      let going_head = turned_going r.three r.in_head (last.Jump r.head) r.head first in
      let going_tested = (made_of cond r.in_head r.tested r.given going_head r.cond_ran).1.there in
      let branch = last.Branch r.given r.inner r.after in
      let second = turned branch r.inner r.tested r.decided r.in_body tt tt going_tested r.decided_ran
      r.body_goes in
      let going_body = turned_going r.tested r.in_body branch r.inner second in
      let going_done = (made_of goes r.in_body r.done tt going_body r.body_ran).1.there in
      let third = turned (last.Jump r.head) r.after r.done r.again t tt tt going_done r.again_ran
      r.after_goes in
      -- backward: nothing was dropped
      let fits_done : r.done.over ≡ false = sym third.over ∙ fits in
      let fits_body = (made_of goes r.in_body r.done tt going_body r.body_ran).1.before fits_done in
      let fits_tested : r.tested.over ≡ false = sym second.over ∙ fits_body in
      let fits_head = (made_of cond r.in_head r.tested r.given going_head r.cond_ran).1.before
      fits_tested in
      let fits_three : r.three.over ≡ false = sym first.over ∙ fits_head in
      let three = three_made s r.one r.two r.three r.head r.inner r.after ready.going fits_three
      r.head_ran r.inner_ran r.after_ran in
      let a = three.first in
      let b = three.second in
      let c = three.third in
      -- what is left
      let to_head = went_turned (λ n. n ≡ s.here) s r.three r.in_head (last.Jump r.head) r.head
      three.went first fits_three (inr (omega (arith, a))) in
      let head_vars = first.vars ∙ three.vars in
      let ready_head = ready_later numbers s r.in_head [] [] ready to_head head_vars tt in
      let tested = of_cond [] r.in_head r.tested r.given ready_head fits_tested r.cond_ran in
      let to_body = went_turned (λ n. n ≡ s.here) s r.tested r.in_body branch r.inner
      (went_both (λ n. n ≡ s.here) s r.in_head r.tested to_head tested.went) second fits_tested
      (inr (omega (arith, a, b))) in
      let body_vars = second.vars ∙ tested.vars ∙ head_vars in
      let ready_body = ready_later numbers s r.in_body [] [] ready to_body body_vars tt in
      let done = of_body (targets_of r.head r.after) r.in_body r.done ready_body
      (λ key one. ap (var_in key) body_vars ∙ unseen key one) fits_done r.body_ran in
      let to_end = went_turned (λ n. n ≡ s.here) s r.done t (last.Jump r.head) r.after
      (went_both (λ n. n ≡ s.here) s r.in_body r.done to_body done.went) third fits_done
      (inr (omega (arith, a, b, c))) in
      let vars = third.vars ∙ done.vars ∙ body_vars in
      record {
        three = three;
        first = first;
        tested = tested;
        second = second;
        done = done;
        third = third;
        to_head = to_head;
        to_body = to_body;
        to_end = to_end;
        ready_head = ready_head;
        ready_body = ready_body;
        ready = ready_later numbers s t [] [] ready to_end vars tt;
        head_vars = head_vars;
        body_vars = body_vars;
        vars = vars;
        fits_three = fits_three;
        fits_tested = fits_tested;
        fits_done = fits_done;
      }

  -- The blocks that wait: all three, then those of the body and after the loop, and then this one.
  record Waits (s t : Making) (r : Ran cond body s t) : Type 0 where
    pub head : ArePending (IsOne (r.after ∷ r.inner ∷ [])) r.in_head
    pub tested : ArePending (IsOne (r.after ∷ r.inner ∷ [])) r.tested
    pub in_body : ArePending (IsOne (r.after ∷ [])) r.in_body
    pub done : ArePending (IsOne (r.after ∷ [])) r.done
    pub from_body : WentIn (IsOne (r.after ∷ r.inner ∷ [])) r.in_body t
    pub from_head : WentIn (IsOne (r.after ∷ r.inner ∷ r.head ∷ [])) r.in_head t

  waits : (s t : Making) (r : Ran cond body s t) → Way s t r → Waits s t r
  waits s t r w =
      let a = w.three.first in
      let b = w.three.second in
      let c = w.three.third in
      let branch = last.Branch r.given r.inner r.after in
      let head = pending_turned (IsOne (r.after ∷ r.inner ∷ r.head ∷ []))
      (IsOne (r.after ∷ r.inner ∷ [])) r.three r.in_head (last.Jump r.head) r.head w.three.pending
      w.first (λ n one. elim one [
        | inl is ↦ inl is
        | inr (inl is) ↦ inr (inl is)
        | inr (inr none) ↦ absurd none
      ]) (λ n one same. elim one [
        | inl is ↦ omega (arith, is, same, b, c)
        | inr (inl is) ↦ omega (arith, is, same, b)
        | inr (inr none) ↦ absurd none
      ]) in
      let tested = pending_after (IsOne (r.after ∷ r.inner ∷ [])) r.in_head r.tested head w.tested.went
      in
      let in_body = pending_turned (IsOne (r.after ∷ r.inner ∷ [])) (IsOne (r.after ∷ [])) r.tested
      r.in_body branch r.inner tested w.second (λ n one. elim one [
        | inl is ↦ inl is
        | inr none ↦ absurd none
      ]) (λ n one same. elim one [
        | inl is ↦ omega (arith, is, same, c)
        | inr none ↦ absurd none
      ]) in
      let from_body = went_turned (IsOne (r.after ∷ r.inner ∷ [])) r.in_body r.done t
      (last.Jump r.head) r.after
      (went_in_both (IsOne (r.after ∷ r.inner ∷ [])) (λ n. n ≡ r.in_body.here) r.in_body r.in_body
      r.done (went_none (IsOne (r.after ∷ r.inner ∷ [])) r.in_body (inr (inl w.second.here))
      w.ready_body.going w.done.went.fits) w.done.went
      (λ n same. inl (inr (inl (same ∙ w.second.here))))) w.third w.fits_done (inl (inl refl)) in
      let from_tested = went_turned (IsOne (r.after ∷ r.inner ∷ r.head ∷ [])) r.in_head r.tested
      r.in_body branch r.inner
      (went_in_both (IsOne (r.after ∷ r.inner ∷ r.head ∷ [])) (λ n. n ≡ r.in_head.here) r.in_head
      r.in_head r.tested (went_none (IsOne (r.after ∷ r.inner ∷ r.head ∷ [])) r.in_head
      (inr (inr (inl w.first.here))) w.ready_head.going w.tested.went.fits) w.tested.went
      (λ n same. inl (inr (inr (inl (same ∙ w.first.here)))))) w.second w.fits_tested
      (inl (inr (inl refl))) in
      record {
        head = head;
        tested = tested;
        in_body = in_body;
        done = pending_after (IsOne (r.after ∷ [])) r.in_body r.done in_body w.done.went;
        from_body = from_body;
        from_head = went_in_both (IsOne (r.after ∷ r.inner ∷ r.head ∷ []))
            (IsOne (r.after ∷ r.inner ∷ [])) r.in_head r.in_body t from_tested from_body
            (λ n one. elim one [
              | inl is ↦ inl (inl is)
              | inr (inl is) ↦ inl (inr (inl is))
              | inr (inr none) ↦ absurd none
            ]);
      }

  some : {one other : ℕ} → Some one ≡ Some other → one ≡ other
  some same = cc

  joins_while : (s t : Making) (targets : Targets) → IsReady numbers s []
      → AreUnseen p numbers Declares s → t.over ≡ false → Ran cond body s t
      → Joined p numbers targets s (λ breaks rest.
      work.Loop (test work.Decide) (before work.Leave work.Again) rest) t
  joins_while s t targets ready unseen fits r =
      let w = way s t r ready unseen fits in
      let q = waits s t r w in
      let branch = last.Branch r.given r.inner r.after in
      record {
        went = w.to_end;
        ready = w.ready;
        vars = w.vars;
        stands = λ f rings breaks base rest final leads seen stands.
            let ring : Ring = record {
              head = r.head;
              inner = r.inner;
              after = r.after;
              vars = s.vars;
            } in
            let zero = ended_by (IsOne (r.after ∷ r.inner ∷ r.head ∷ [])) f r.three r.three r.in_head t
            (last.Jump r.head) r.head w.three.pending
            (went_none (λ n. n ≡ r.three.here) r.three refl w.three.went.going w.fits_three) w.first
            q.from_head (final_last f s r.three t w.three.went final) in
            let one = ended_by (IsOne (r.after ∷ r.inner ∷ [])) f r.in_head r.tested r.in_body t branch
            r.inner q.head w.tested.went w.second q.from_body
            (final_last f s r.in_head t w.to_head final) in
            let two = ended_by (IsOne (r.after ∷ [])) f r.in_body r.done t t (last.Jump r.head) r.after
            q.in_body w.done.went w.third
            (went_none (IsOne (r.after ∷ [])) t (inl w.third.here) w.ready.going fits)
            (final_last f s r.in_body t w.to_body final) in
            let a = w.first.made in
            let b = w.second.made in
            let c = w.third.made in
            let d = w.third.count in
            let more_one = w.first.count in
            let more_two = w.tested.went.blocks in
            let more_three = w.second.count in
            let more_four = w.done.went.blocks in
            let all = final.blocks in
            let tested_vars = w.tested.vars ∙ w.head_vars in (
              refl,
              ring,
              refl,
              subst (λ spot. IsEnd f spot (last.Jump r.head)) (w.three.spot [])
                  (zero.ends r.three.vars []),
              (
                omega (arith, a, more_one, more_two, more_three, more_four, d, all),
                subst (Stands p (test work.Decide) f (ring ∷ rings))
                    (starts_turned (IsOne (r.after ∷ r.inner ∷ r.head ∷ [])) r.three r.in_head
                    (last.Jump r.head) r.head [] w.three.pending w.first (inr (inr (inl refl)))
                    ∙ ap (λ vars. starts r.head vars []) w.three.vars)
                    (w.tested.stands f (ring ∷ rings) work.Decide one.final (
                      refl,
                      (
                        r.given,
                        refl,
                        (
                          one.ends r.tested.vars (r.given.reg ∷ []),
                          seen_same s.vars r.tested.vars tested_vars,
                        ),
                      ),
                    )),
              ),
              (
                omega (arith, b, more_three, more_four, d, all),
                subst (Stands p (before work.Leave work.Again) f (ring ∷ rings))
                    (starts_turned (IsOne (r.after ∷ r.inner ∷ [])) r.tested r.in_body branch r.inner []
                    q.tested w.second (inr (inl refl))
                    ∙ ap (λ vars. starts r.inner vars []) tested_vars)
                    (w.done.stands f (ring ∷ rings) work.Leave s.vars work.Again two.final (record {
                      breaks_to = λ to is spot none ends seen.
                          (none, subst (λ n. IsEnd f spot (last.Jump n)) (sym (some is)) ends, seen);
                      continues_to = λ to is spot none ends seen.
                          (none, subst (λ n. IsEnd f spot (last.Jump n)) (sym (some is)) ends, seen);
                    }) (seen_same s.vars r.in_body.vars w.body_vars)
                    (λ vars seen. (
                      refl,
                      two.ends vars [],
                      seen_both s.vars r.in_body.vars vars
                          (seen_same s.vars r.in_body.vars w.body_vars) seen,
                    ))),
              ),
              (
                omega (arith, c, d, all),
                subst (Stands p rest f rings)
                    (starts_turned (IsOne (r.after ∷ [])) r.done t (last.Jump r.head) r.after [] q.done
                    w.third (inl refl)
                    ∙ ap (λ vars. starts r.after vars []) (w.done.vars ∙ w.body_vars)) stands,
              ),
            );
      }

pub joins_loop : (p : Program) (numbers : Numbers) (Declares : ℕ → Type 0) (cond : Code Operand)
    (body : BlockCode) (test : Before) (before : Work → Before) → Reads p numbers cond test
    → Leaves p numbers Declares body.code before
    → Joins p numbers Declares (λ targets. while_code cond body) (λ breaks rest.
    work.Loop (test work.Decide) (before work.Leave work.Again) rest)
joins_loop p numbers Declares cond body test before of_cond of_body targets s t ready unseen fits whole =
    joins_while p numbers Declares cond body.code test before of_cond of_body s t targets ready unseen
    fits (ran cond body s t whole)
