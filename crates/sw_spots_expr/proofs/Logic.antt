-- The work of `&&` and `||` stands where their code is.
use Rattle.std.proofs.Common.{◌≡◌, ℕ, ◌<◌, inl, inr, false, List, [], ◌∷◌, length, refl}
use Rattle.std.proofs.Common.{ap, sym, ◌∙◌, subst, arith}
use Rattle.std.specs.Prelude.{Ok}
use Rattle.sw_types.specs.declared.ty.Ty.TheVariants as types
use Rattle.sw_graph.specs.declared.function.Function.{Function}
use Rattle.sw_graph.specs.declared.function.RegKind.TheVariants.{Plain}
use Rattle.sw_graph.specs.declared.instr.Instr.TheVariants as instr
use Rattle.sw_graph.specs.declared.instr.Last.{Last}
use Rattle.sw_graph.specs.declared.instr.Last.TheVariants as last
use Rattle.sw_graph.specs.declared.instr.Operand.{Operand}
use Rattle.sw_lower_plans.specs.Plan.{Anywhere, Numbers, var_in}
use Rattle.sw_lower_plans.specs.Run.{IsGoing, Making}
use Rattle.sw_lower_code.specs.Code.{Code, close, done, emit, reg, resume, ◌>>=◌, ◌>>◌}
use Rattle.sw_lower_rules.specs.Expressions as code
use Rattle.sw_lower_rules.specs.Expressions.{block_made, copied, jump, right_in}
use Rattle.sw_lower_rules.specs.Uses.{operand}
use Rattle.sw_lower_run_facts.proofs.Runs.{done_ran, made_of, ran_both}
use Rattle.sw_lower_run_facts.proofs.Steps.{block_ran, reg_going, reg_ran}
use Rattle.sw_tree_work.specs.Forms as works
use Rattle.sw_tree_work.specs.Work as work
use Rattle.sw_tree_work.specs.Work.{Before, Work}
use Rattle.sw_spots.specs.Doing.{At, Did, Does, Reads}
use Rattle.sw_spots.specs.Making.{AreBelow, IsOne, IsReady, spot_of}
use Rattle.sw_spots.specs.Spots.{Enters, IsEnd, Program, Ring, Stands, starts}
use Rattle.sw_spots.proofs.Going.{below_more, final_first, final_last, ready_later, went_both}
use Rattle.sw_spots.proofs.Going.{went_in_both, went_none}
use Rattle.sw_spots.proofs.Joining.{did_at, did_both, fits_between}
use Rattle.sw_spots.proofs.Turning.{ended_by, pending_after, pending_made, pending_none}
use Rattle.sw_spots.proofs.Turning.{pending_turned, spot_made, starts_turned, turned, went_block}
use Rattle.sw_spots.proofs.Turning.{went_turned}
use Rattle.sw_spots.proofs.Writing.{did_emit, did_made}

-- The run of an operator after its left operand: the register of the value, the block of the right
-- operand and the one after it, and how the left operand's block ends.
record Ran (at : ℕ) (left : Operand) (right : Code Operand) (how : ℕ → ℕ → Last) (s t : Making)
    (given : Operand) : Type 0 where
  pub r : ℕ
  pub made : Making
  pub copy : Making
  pub own : ℕ
  pub one : Making
  pub merge : ℕ
  pub two : Making
  pub closed : Making
  pub inner : Making
  pub x : Operand
  pub read : Making
  pub wrote : Making
  pub ended : Making
  pub made_ran : (reg (Plain types.Bool)).run s ≡ Ok (r, made)
  pub copied_ran : (emit (instr.Copy at r left)).run made ≡ Ok (tt, copy)
  pub own_ran : block_made.run copy ≡ Ok (own, one)
  pub merge_ran : block_made.run one ≡ Ok (merge, two)
  pub closed_ran : (close (how own merge)).run two ≡ Ok (tt, closed)
  pub entered_ran : (resume own).run closed ≡ Ok (tt, inner)
  pub right_ran : right.run inner ≡ Ok (x, read)
  pub wrote_ran : (emit (instr.Copy at r x)).run read ≡ Ok (tt, wrote)
  pub jumped_ran : (jump merge).run wrote ≡ Ok (tt, ended)
  pub merged_ran : (resume merge).run ended ≡ Ok (tt, t)
  pub is_given : operand r at ≡ given

ran : (at : ℕ) (left : Operand) (right : Code Operand) (how : ℕ → ℕ → Last) (s t : Making)
    (given : Operand)
    → (copied at left >>= λ dst. block_made >>= λ own. block_made >>= λ merge.
    close (how own merge) >> right_in at dst right own merge).run s ≡ Ok (given, t)
    → Ran at left right how s t given
ran at left right how s t given whole =
    let rest = λ (dst own merge : ℕ). close (how own merge) >> right_in at dst right own merge in
    let a = ran_both (copied at left)
    (λ dst. block_made >>= λ own. block_made >>= λ merge. rest dst own merge) s t given whole in
    let r = a.0 in
    let b = ran_both (reg (Plain types.Bool)) (λ dst. emit (instr.Copy at dst left) >> done dst) s a.1
    r a.2 in
    let c = ran_both (emit (instr.Copy at b.0 left)) (λ one. done b.0) b.1 a.1 r b.3 in
    let d = done_ran b.0 r c.1 a.1 c.3 in
    let e = ran_both block_made (λ own. block_made >>= λ merge. rest r own merge) a.1 t given a.3 in
    let g = ran_both block_made (λ merge. rest r e.0 merge) e.1 t given e.3 in
    let h = ran_both (close (how e.0 g.0)) (λ one. right_in at r right e.0 g.0) g.1 t given g.3 in
    let i = ran_both (resume e.0) (λ one. right >>= λ other. emit (instr.Copy at r other)
    >> jump g.0 >> resume g.0 >> done (operand r at)) h.1 t given h.3 in
    let j = ran_both right (λ other. emit (instr.Copy at r other)
    >> jump g.0 >> resume g.0 >> done (operand r at)) i.1 t given i.3 in
    let k = ran_both (emit (instr.Copy at r j.0)) (λ one. jump g.0 >> resume g.0
    >> done (operand r at)) j.1 t given j.3 in
    let l = ran_both (jump g.0) (λ one. resume g.0 >> done (operand r at)) k.1 t given k.3 in
    let m = ran_both (resume g.0) (λ one. done (operand r at)) l.1 t given l.3 in
    let n = done_ran (operand r at) given m.1 t m.3 in
    record {
      r = r;
      made = b.1;
      copy = a.1;
      own = e.0;
      one = e.1;
      merge = g.0;
      two = g.1;
      closed = h.1;
      inner = i.1;
      x = j.0;
      read = j.1;
      wrote = k.1;
      ended = l.1;
      made_ran = subst (λ dst. (reg (Plain types.Bool)).run s ≡ Ok (dst, b.1)) d.0 b.2;
      copied_ran = subst (λ u. (emit (instr.Copy at r left)).run b.1 ≡ Ok (tt, u)) d.1
          (subst (λ dst. (emit (instr.Copy at dst left)).run b.1 ≡ Ok (tt, c.1)) d.0 c.2);
      own_ran = e.2;
      merge_ran = g.2;
      closed_ran = h.2;
      entered_ran = i.2;
      right_ran = j.2;
      wrote_ran = k.2;
      jumped_ran = l.2;
      merged_ran = subst (λ u. (resume g.0).run l.1 ≡ Ok (tt, u)) n.1 m.2;
      is_given = n.0;
    }

module _ (p : Program) (numbers : Numbers) (at : ℕ) (right : Code Operand) (before : Before)
    (is : Reads p numbers right before) (how : Operand → ℕ → ℕ → Last)
    (sides : Work → Work → Work) (left : Operand) (temps : List ℕ) where
  -- how the two sides stand at the end of the left operand's block
  abbrev Splits : Type 0
  Splits = (f : Function) (rings : List Ring) (s : Making) (own merge r : ℕ) (one other : Work)
      → IsEnd f (spot_of s (left.reg ∷ r ∷ temps)) (how left own merge)
      → Enters f own s.vars (r ∷ temps) (λ next. Stands p one f rings next)
      → Enters f merge s.vars (r ∷ temps) (λ next. Stands p other f rings next)
      → At p numbers (sides one other) f rings s (left.reg ∷ r ∷ temps)

  abbrev whole : Before
  whole rest = work.Then work.Keep (sides (before (work.Then work.Replace (work.Jump rest))) rest)

  did_logic : Splits → (s t : Making) (given : Operand) → IsReady numbers s (left.reg ∷ temps)
      → t.over ≡ false → Ran at left right (how left) s t given
      → Did p numbers s (left.reg ∷ temps) whole t (given.reg ∷ temps)
  did_logic splits s t given ready fits a =
      -- forward: what runs where
      let made = reg_ran (Plain types.Bool) s a.made a.r a.made_ran in
      let going_made = reg_going s a.made a.r made ready.going in
      let going_copy = (made_of (emit (instr.Copy at a.r left)) a.made a.copy tt going_made
      a.copied_ran).1.there in
      let own = block_ran Anywhere a.copy a.one a.own a.own_ran in
      let going_one = (made_of block_made a.copy a.one a.own going_copy a.own_ran).1.there in
      let merge = block_ran Anywhere a.one a.two a.merge a.merge_ran in
      let going_two = (made_of block_made a.one a.two a.merge going_one a.merge_ran).1.there in
      let enter = turned (how left a.own a.merge) a.own a.two a.closed a.inner tt tt going_two
      a.closed_ran a.entered_ran in
      let going_inner : IsGoing a.inner =
      (let x = enter.made in let y = enter.here in let z = enter.count in omega (arith, x, y, z)) in
      let going_read = (made_of right a.inner a.read a.x going_inner a.right_ran).1.there in
      let going_wrote = (made_of (emit (instr.Copy at a.r a.x)) a.read a.wrote tt going_read
      a.wrote_ran).1.there in
      let leave = turned (last.Jump a.merge) a.merge a.wrote a.ended t tt tt going_wrote a.jumped_ran
      a.merged_ran in
      -- backward: nothing was dropped
      let fits_wrote : a.wrote.over ≡ false = sym leave.over ∙ fits in
      let fits_read = fits_between right (emit (instr.Copy at a.r a.x)) a.inner a.read a.wrote a.x tt
      going_inner a.right_ran a.wrote_ran fits_wrote in
      let fits_inner = (made_of right a.inner a.read a.x going_inner a.right_ran).1.before fits_read in
      let fits_two : a.two.over ≡ false = sym enter.over ∙ fits_inner in
      let fits_one : a.one.over ≡ false = sym merge.over ∙ fits_two in
      let fits_copy : a.copy.over ≡ false = sym own.over ∙ fits_one in
      -- the left operand is kept
      let kept = did_made p numbers s a.made a.copy (left.reg ∷ temps) (left.reg ∷ temps)
      (λ r. left.reg ∷ r ∷ temps) (Plain types.Bool) (λ r. instr.Copy at r left) a.r tt
      (work.Then work.Keep) (λ n all. all) (λ n r all small. (all.0, (small, all.1)))
      (λ f rings rest gives. (at, (left, refl, gives))) ready fits_copy a.made_ran a.copied_ran in
      let went_one = went_block Anywhere a.copy a.one a.own going_copy fits_one a.own_ran in
      let went_two = went_both (λ b. b ≡ a.copy.here) a.copy a.one a.two went_one
      (went_block Anywhere a.one a.two a.merge going_one fits_two a.merge_ran) in
      let number = own.number in
      let count = own.count in
      let later = merge.number in
      let went_inner = went_turned (λ b. b ≡ a.copy.here) a.copy a.two a.inner (how left a.own a.merge)
      a.own went_two enter fits_two (inr (omega (arith, number))) in
      let vars : a.inner.vars ≡ a.copy.vars = enter.vars ∙ merge.vars ∙ own.vars in
      let ready_inner = ready_later numbers a.copy a.inner (left.reg ∷ a.r ∷ temps) (a.r ∷ temps)
      kept.ready went_inner vars
      (below_more (length a.copy.made.regs) (length a.inner.made.regs) (a.r ∷ temps) went_inner.regs
      kept.ready.temporaries.1) in
      -- the right operand takes its place
      let reads = is (a.r ∷ temps) a.inner a.read a.x ready_inner fits_read a.right_ran in
      let regs = made.is in
      let writes = did_emit p numbers a.read a.wrote (a.x.reg ∷ a.r ∷ temps) (a.r ∷ temps)
      (instr.Copy at a.r a.x) tt (work.Then work.Replace) (λ n all. all.1)
      (λ f rings rest more instr stands. (
        at,
        (
          a.x,
          refl,
          (
            record {
              within = (let less = reads.ready.temporaries.1.0 in omega (arith, less, more));
              temporaries = subst (λ n. AreBelow n temps) (sym regs) ready.temporaries.1;
              variables = λ key bound found.
                  let less = ready.variables key bound
                  (ap (var_in key) (sym (reads.vars ∙ vars ∙ kept.vars)) ∙ found) in
                  omega (arith, less, regs);
            },
            instr,
            stands,
          ),
        ),
      )) reads.ready fits_wrote a.wrote_ran in
      let inside = did_both p numbers a.inner a.read a.wrote (a.r ∷ temps) (a.x.reg ∷ a.r ∷ temps)
      (a.r ∷ temps) before (work.Then work.Replace) reads writes in
      -- and the block after both goes on
      let went_copy_wrote = went_both (λ b. b ≡ a.copy.here) a.copy a.inner a.wrote went_inner
      inside.went in
      let went_copy_t = went_turned (λ b. b ≡ a.copy.here) a.copy a.wrote t (last.Jump a.merge) a.merge
      went_copy_wrote leave fits_wrote (inr (omega (arith, count, later))) in
      let went_t = went_both (λ b. b ≡ s.here) s a.copy t kept.went went_copy_t in
      let same : t.vars ≡ a.copy.vars = leave.vars ∙ inside.vars ∙ vars in
      let ready_t = ready_later numbers a.copy t (left.reg ∷ a.r ∷ temps) (a.r ∷ temps) kept.ready
      went_copy_t same
      (below_more (length a.copy.made.regs) (length t.made.regs) (a.r ∷ temps) went_copy_t.regs
      kept.ready.temporaries.1) in
      -- blocks that wait
      let Both = IsOne (a.merge ∷ a.own ∷ []) in
      let Last = IsOne (a.merge ∷ []) in
      let pend_two = pending_made (a.own ∷ []) a.one a.two a.merge going_one
      (pending_made [] a.copy a.one a.own going_copy (pending_none a.copy) own) merge in
      let pend_inner = pending_turned Both Last a.two a.inner (how left a.own a.merge) a.own pend_two
      enter (λ b one. elim one [ inl same ↦ inl same | inr none ↦ absurd none ])
      (λ b one same. elim one [
        | inl is ↦ omega (arith, is, same, number, count, later)
        | inr none ↦ absurd none
      ]) in
      let pend_wrote = pending_after Last a.inner a.wrote pend_inner inside.went in
      did_at p numbers s t t (left.reg ∷ temps) (a.r ∷ temps) (given.reg ∷ temps) whole refl
      (ap (λ (o : Operand). o.reg ∷ temps) a.is_given) (record {
        went = went_t;
        vars = same ∙ kept.vars;
        ready = ready_t;
        stands = λ f rings rest final stands.
            let final_copy = final_last f s a.copy t kept.went final in
            let final_inner = final_last f a.copy a.inner t went_inner final_copy in
            let final_two = final_last f a.copy a.two t went_two final_copy in
            let after = ended_by Last f a.inner a.wrote t t (last.Jump a.merge) a.merge pend_inner
            inside.went leave (went_none Last t (inl leave.here)
            ready_t.going fits) final_inner in
            let first = ended_by Both f a.two a.two a.inner t (how left a.own a.merge) a.own pend_two
            (went_none (λ b. b ≡ a.two.here) a.two refl going_two fits_two) enter
            (went_turned Both a.inner a.wrote t (last.Jump a.merge) a.merge
            (went_in_both Both (λ b. b ≡ a.inner.here) a.inner a.inner a.wrote
            (went_none Both a.inner (inr (inl enter.here)) going_inner fits_inner) inside.went
            (λ b same. inl (inr (inl (same ∙ enter.here))))) leave fits_wrote (inl (inl refl)))
            final_two in
            let at_merge : Stands p rest f rings (starts a.merge a.copy.vars (a.r ∷ temps)) =
            subst (Stands p rest f rings)
            (starts_turned Last a.wrote t (last.Jump a.merge) a.merge (a.r ∷ temps) pend_wrote leave
            (inl refl) ∙ ap (λ v. starts a.merge v (a.r ∷ temps)) (inside.vars ∙ vars)) stands in
            let merge_in : a.merge < length f.blocks =
            (let x = final.blocks in let y = leave.count in let z = leave.made in
            omega (arith, x, y, z)) in
            let own_in : a.own < length f.blocks =
            (let x = final.blocks in let y = leave.count in let z = enter.made in
            let u = enter.count in let v = inside.went.blocks in omega (arith, x, y, z, u, v)) in
            let jumped : At p numbers (work.Jump rest) f rings a.wrote (a.r ∷ temps) = (
              a.merge,
              a.copy.vars,
              after.ends a.wrote.vars (a.r ∷ temps),
              (λ key bound found. ap (var_in key) (inside.vars ∙ vars) ∙ found),
              (merge_in, at_merge),
            ) in
            let inner = before (work.Then work.Replace (work.Jump rest)) in
            kept.stands f rings (sides inner rest) (final_first f s a.copy t went_copy_t final)
            (splits f rings a.copy a.own a.merge a.r inner rest
            (subst (λ spot. IsEnd f spot (how left a.own a.merge))
            (spot_made a.one a.two a.merge (left.reg ∷ a.r ∷ temps) merge
            ∙ spot_made a.copy a.one a.own (left.reg ∷ a.r ∷ temps) own)
            (first.ends a.two.vars (left.reg ∷ a.r ∷ temps))) (
              own_in,
              subst (Stands p (before (work.Then work.Replace (work.Jump rest))) f rings)
                  (starts_turned Both a.two a.inner (how left a.own a.merge) a.own (a.r ∷ temps) pend_two
                  enter (inr (inl refl)) ∙ ap (λ v. starts a.own v (a.r ∷ temps)) (merge.vars ∙ own.vars))
                  (inside.stands f rings (work.Jump rest) after.final jumped),
            )
            (merge_in, at_merge));
      })

module _ (p : Program) (numbers : Numbers) (at : ℕ) (right : Code Operand) (before : Before)
    (is : Reads p numbers right before) (left : Operand) (temps : List ℕ) where
  pub does_both : Does p numbers (left.reg ∷ temps) (code.both at right left) (works.both before)
      (λ o. o.reg ∷ temps)
  does_both s t given ready fits whole =
      did_logic p numbers at right before is (λ left own merge. last.Branch left own merge)
      (λ one other. work.Test one other) left temps
      (λ f rings s own merge r one other ends first second.
      (own, merge, (left, refl, (ends, first, second)))) s t given ready fits
      (ran at left right (λ own merge. last.Branch left own merge) s t given whole)

  pub does_either : Does p numbers (left.reg ∷ temps) (code.either at right left)
      (works.either before) (λ o. o.reg ∷ temps)
  does_either s t given ready fits whole =
      did_logic p numbers at right before is (λ left own merge. last.Branch left merge own)
      (λ one other. work.Test other one) left temps
      (λ f rings s own merge r one other ends first second.
      (merge, own, (left, refl, (ends, second, first)))) s t given ready fits
      (ran at left right (λ own merge. last.Branch left merge own) s t given whole)
