-- Parts of a statement that run one after the other, each in a block of its own, and end with a jump to
-- one block: the arms of a `switch`. A subject is the newest temporary where a part begins.
use Rattle.std.proofs.Common.{◌≡◌, ℕ, ◌≤◌, inl, inr, false}
use Rattle.std.proofs.Common.{List, [], ◌∷◌, ◌++◌, length, map, refl, ap, sym, ◌∙◌, subst, arith}
use Rattle.std.specs.Prelude.{Ok}
use Rattle.sw_graph.specs.declared.function.Function.{Function}
use Rattle.sw_graph.specs.declared.instr.Last.{Last}
use Rattle.sw_graph.specs.declared.instr.Last.TheVariants as last
use Rattle.sw_lower_plans.specs.Plan.{Numbers, var_in}
use Rattle.sw_lower_plans.specs.Run.{Making}
use Rattle.sw_lower_plans.specs.declared.bound.Bound.{Bound}
use Rattle.sw_lower_code.specs.Code.{Code}
use Rattle.sw_lower_rules.specs.declared.targets.Targets.{Targets}
use Rattle.sw_lower_run_facts.proofs.Runs.{made_of}
use Rattle.sw_tree_work.specs.Work as work
use Rattle.sw_tree_work.specs.Work.{Before, Work}
use Rattle.sw_spots.specs.Doing.{AreUnseen, Leads}
use Rattle.sw_spots.specs.Making.{AreOnce, ArePending, IsFinal, IsOne, IsReady, Turned, Went, WentIn, spot_of}
use Rattle.sw_spots.specs.Spots.{Enters, IsSeen, Program, Ring, Stands, starts}
use Rattle.sw_spots.proofs.Going.{final_last, ready_later, went_both, went_in_both, went_none}
use Rattle.sw_spots.proofs.Turning.{ended_by, pending_after, pending_turned, starts_turned}
use Rattle.sw_spots.proofs.Turning.{turned_going, went_turned}
use Rattle.sw_spots_stmt.proofs.Stating.{seen_both, seen_same}

-- a part: its block, its code, and its work by what `break` goes on with
pub record Part : Type 0 where
  pub block : ℕ
  pub code : Code (Unit {0})
  pub work : Work → Before

-- The parts ran, from the end of a block at m to the block after them at t.
abbrev pub Ran : ℕ → List Part → Making → Last → Making → Type 0
Ran merge [] m how t = Turned m how merge t
Ran merge (part ∷ parts) m how t = (u : Making) × (v : Making) × Turned m how part.block u
    × (part.code.run u ≡ Ok (tt, v)) × Ran merge parts v (last.Jump merge) t

-- nothing was dropped
pub ran_fits : (merge : ℕ) (parts : List Part) (m t : Making) (how : Last)
    → Ran merge parts m how t → t.over ≡ false → m.over ≡ false
ran_fits merge [] m t how turn fits = sym turn.over ∙ fits
ran_fits merge (part ∷ parts) m t how r fits =
    sym r.2.over
    ∙ (made_of part.code r.0 r.1 tt (turned_going m r.0 how part.block r.2) r.3).1.before
    (ran_fits merge parts r.1 t (last.Jump merge) r.4 fits)

-- the blocks that wait: those of the parts, and the one after them
abbrev pub waiting : ℕ → List Part → List ℕ
waiting merge parts = map (λ (part : Part). part.block) parts ++ merge ∷ []

module _ (p : Program) (numbers : Numbers) (Declares : ℕ → Type 0) (subject : ℕ)
    (targets : Targets) where
  -- The code of a part led from u to v.
  pub record PartLeft (part : Part) (u v : Making) : Type 0 where
    pub went : Went u v
    pub vars : v.vars ≡ u.vars
    pub stands : (f : Function) (rings : List Ring) (breaks : Work) (base : List Bound) (rest : Work)
        → IsFinal f u v → Leads p numbers f rings targets breaks base → IsSeen base u.vars
        → ((vars : List Bound) → IsSeen u.vars vars
        → Stands p rest f rings (record (spot_of v []) { vars = vars }))
        → Stands p (part.work breaks rest) f rings (spot_of u (subject ∷ []))

  abbrev pub PartStands : Part → Type 0
  PartStands part = (u v : Making) → IsReady numbers u (subject ∷ [])
      → AreUnseen p numbers Declares u → v.over ≡ false → part.code.run u ≡ Ok (tt, v)
      → PartLeft part u v

  abbrev pub PartsStand : List Part → Type 0
  PartsStand [] = Unit {0}
  PartsStand (part ∷ parts) = PartStands part × PartsStand parts

  -- each part stands in its block
  abbrev pub PartsEnter : List Part → Function → List Ring → List Bound → Work → Type 0
  PartsEnter [] f rings vars rest = Unit {0}
  PartsEnter (part ∷ parts) f rings vars rest =
      Enters f part.block vars (subject ∷ [])
      (λ next. Stands p (part.work (work.Jump rest) (work.Jump rest)) f rings next)
      × PartsEnter parts f rings vars rest

  module _ (merge : ℕ) (s t : Making) (ready : IsReady numbers s (subject ∷ []))
      (unseen : AreUnseen p numbers Declares s) (fits : t.over ≡ false) where
    -- what is so of the parts that are left, where a block ended at m
    pub record Rest (parts : List Part) (m : Making) (how : Last) : Type 0 where
      pub next : ℕ
      pub u : Making
      pub turn : Turned m how next u
      pub waits : IsOne (waiting merge parts) next
      pub later : WentIn (IsOne (waiting merge parts)) u t
      pub went : Went s t
      pub vars : t.vars ≡ s.vars
      pub merges : (f : Function) (rings : List Ring) (rest : Work) → IsFinal f s t
          → Stands p rest f rings (spot_of t [])
          → Enters f merge s.vars [] (λ next. Stands p rest f rings next)
      pub enter : (f : Function) (rings : List Ring) (rest : Work) → IsFinal f s t
          → Leads p numbers f rings targets (work.Jump rest) s.vars
          → Enters f merge s.vars [] (λ next. Stands p rest f rings next)
          → PartsEnter parts f rings s.vars rest

    abbrev Own : ℕ → Type 0
    Own n = n ≡ s.here

    pub rest : (parts : List Part) (m : Making) (how : Last) → PartsStand parts
        → Ran merge parts m how t → Went s m → m.vars ≡ s.vars
        → ArePending (IsOne (waiting merge parts)) m → AreOnce (waiting merge parts)
        → ((b : ℕ) → IsOne (waiting merge parts) b → length s.made.blocks ≤ b) → Rest parts m how
    rest [] m how are turn went vars pending once above =
        let fits_m = ran_fits merge [] m t how turn fits in
        let going = turned_going m t how merge turn in
        let seen : t.vars ≡ s.vars = turn.vars ∙ vars in
        record {
          next = merge;
          u = t;
          turn = turn;
          waits = inl refl;
          later = went_none (IsOne (waiting merge [])) t (inl turn.here) going fits;
          went = went_turned Own s m t how merge went turn fits_m (inr (above merge (inl refl)));
          vars = seen;
          enter = λ f rings rest final leads merges. tt;
          merges = λ f rings rest final stands. (
            (let made = turn.made in let count = turn.count in let all = final.blocks in
                omega (arith, made, count, all)),
            subst (Stands p rest f rings)
                (starts_turned (IsOne (waiting merge [])) m t how merge [] pending turn (inl refl)
                ∙ ap (λ v. starts merge v []) vars) stands,
          );
        }
    rest (part ∷ parts) m how are r went vars pending once above =
        let u = r.0 in
        let v = r.1 in
        let turn = r.2 in
        let Now = IsOne (waiting merge (part ∷ parts)) in
        let Later = IsOne (waiting merge parts) in
        let jump = last.Jump merge in
        let fits_m = ran_fits merge (part ∷ parts) m t how r fits in
        let fits_v = ran_fits merge parts v t jump r.4 fits in
        let went_u = went_turned Own s m u how part.block went turn fits_m
        (inr (above part.block (inl refl))) in
        let vars_u = turn.vars ∙ vars in
        let ready_u = ready_later numbers s u (subject ∷ []) (subject ∷ []) ready went_u vars_u
        ((let less = ready.temporaries.0 in let more = went_u.regs in omega (arith, less, more)), tt) in
        let left = are.0 u v ready_u (λ key one. ap (var_in key) vars_u ∙ unseen key one) fits_v r.3 in
        let pending_u = pending_turned Now Later m u how part.block pending turn (λ b one. inr one)
        (λ b one same. once.0 (subst Later same one)) in
        let more = rest parts v jump are.1 r.4 (went_both Own s u v went_u left.went)
        (left.vars ∙ vars_u) (pending_after Later u v pending_u left.went) once.1
        (λ b one. above b (inr one)) in
        let from_u = went_turned Now u v more.u jump more.next
        (went_in_both Now (λ n. n ≡ u.here) u u v (went_none Now u (inl turn.here) ready_u.going
        left.went.fits) left.went (λ n same. inl (inl (same ∙ turn.here)))) more.turn fits_v
        (inl (inr more.waits)) in
        record {
          next = part.block;
          u = u;
          turn = turn;
          waits = inl refl;
          later = went_in_both Now Later u more.u t from_u more.later (λ b one. inl (inr one));
          went = more.went;
          vars = more.vars;
          merges = more.merges;
          enter = λ f rings rest final leads merges.
              let ended = ended_by Later f u v more.u t jump more.next pending_u left.went more.turn
              more.later (final_last f s u t went_u final) in
              let on : IsSeen s.vars u.vars = seen_same s.vars u.vars vars_u in
              let made = turn.made in
              let count = turn.count in
              let blocks = left.went.blocks in
              let turned = more.turn.count in
              let grown = more.later.blocks in
              let all = final.blocks in (
                (
                  omega (arith, made, count, blocks, turned, grown, all),
                  subst (Stands p (part.work (work.Jump rest) (work.Jump rest)) f rings)
                      (starts_turned Now m u how part.block (subject ∷ []) pending turn (inl refl)
                      ∙ ap (λ w. starts part.block w (subject ∷ [])) vars)
                      (left.stands f rings (work.Jump rest) s.vars (work.Jump rest) ended.final leads on
                      (λ w seen. (
                        merge,
                        s.vars,
                        ended.ends w [],
                        seen_both s.vars u.vars w on seen,
                        merges,
                      ))),
                ),
                more.enter f rings rest final leads merges,
              );
        }
