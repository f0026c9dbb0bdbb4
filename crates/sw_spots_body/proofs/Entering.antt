-- What a function takes is in its first registers where its own code begins.
use Rattle.std.proofs.Common.{◌≡◌, ℕ, suc, ◌+◌, ◌<◌, ◌≤◌, ◌⊎◌, inl, inr, Bool, true, false}
use Rattle.std.proofs.Common.{Some, List, [], ◌∷◌, ◌++◌, length, refl, ap, sym, ◌∙◌, subst}
use Rattle.std.proofs.Common.{arith, append_assoc, append-nil}
use Rattle.std.proofs.lemmas.Bool.Decides.{eqb_tells}
use Rattle.std.specs.Prelude.{Ok, ◌==◌, ◌≢◌, if◌then◌else◌}
use Rattle.sw_lower_plans.specs.Plan.{Numbers, var_in}
use Rattle.sw_lower_plans.specs.Run.{IsGoing, Making}
use Rattle.sw_lower_plans.specs.declared.bound.Bound.{Bound}
use Rattle.sw_lower_code.specs.Code.{all, bind, reg}
use Rattle.sw_lower_code.specs.Whole.{enter}
use Rattle.sw_lower_code.specs.declared.taken.Taken.{Taken}
use Rattle.sw_lower_run_facts.proofs.Runs.{done_ran, grew, ran_both}
use Rattle.sw_lower_run_facts.proofs.Steps.{reg_ran}
use Rattle.sw_spots.specs.Making.{IsReady}
use Rattle.sw_spots.specs.Spots.{bound_of}
use Rattle.sw_spots_stmt.proofs.Beginning.{bound_ran}

-- the variables of what is taken, from a register on
abbrev pub bounds_of : ℕ → List Taken → List Bound
bounds_of r [] = []
bounds_of r (one ∷ more) = bound_of one.key r one.boxed ∷ bounds_of (suc r) more

pub record Entered (takes : List Taken) (s t : Making) : Type 0 where
  pub vars : t.vars ≡ s.vars ++ bounds_of (length s.made.regs) takes
  pub regs : length t.made.regs ≡ length s.made.regs + length takes
  pub blocks : t.made.blocks ≡ s.made.blocks
  pub here : t.here ≡ s.here
  pub number : t.number ≡ s.number
  pub over : t.over ≡ s.over

pub entered : (takes : List Taken) (s t : Making) → IsGoing s
    → (all enter takes).run s ≡ Ok (tt, t) → Entered takes s t
unfolding all
entered [] s t going ran =
    subst (Entered [] s) (done_ran tt tt s t ran).1 (record {
      vars = sym (append-nil s.vars);
      regs = omega arith;
      blocks = refl;
      here = refl;
      number = refl;
      over = refl;
    })
entered (one ∷ more) s t going ran =
    let a = ran_both (enter one) (λ done. all enter more) s t tt ran in
    let b = ran_both (reg one.kind) (λ r. bind (bound_of one.key r one.boxed)) s a.1 tt a.2 in
    let made = reg_ran one.kind s b.1 b.0 b.2 in
    let same = bound_ran (bound_of one.key b.0 one.boxed) b.1 a.1 b.3 in
    let first : Entered (one ∷ []) s a.1 = subst (Entered (one ∷ []) s) same (record {
      vars = ap (λ vars. vars ++ bound_of one.key b.0 one.boxed ∷ []) made.vars
          ∙ ap (λ r. s.vars ++ bound_of one.key r one.boxed ∷ []) made.is;
      regs = (let regs = made.regs in omega (arith, regs));
      blocks = made.blocks;
      here = made.here;
      number = (grew (reg one.kind) s b.1 b.0 going b.2).number;
      over = made.over;
    }) in
    let here = first.here in
    let count = ap length first.blocks in
    let later = entered more a.1 t (omega (arith, here, count, going)) a.3 in
    let regs = first.regs in
    let next : length a.1.made.regs ≡ suc (length s.made.regs) = omega (arith, regs) in
    record {
      vars = later.vars ∙ ap (λ vars. vars ++ bounds_of (length a.1.made.regs) more) first.vars
          ∙ append_assoc s.vars (bound_of one.key (length s.made.regs) one.boxed ∷ [])
          (bounds_of (length a.1.made.regs) more)
          ∙ ap (λ r. s.vars ++ bound_of one.key (length s.made.regs) one.boxed ∷ bounds_of r more) next;
      regs = (let all = later.regs in omega (arith, all, next));
      blocks = later.blocks ∙ first.blocks;
      here = later.here ∙ first.here;
      number = later.number ∙ first.number;
      over = later.over ∙ first.over;
    }

-- the variable with a key is one of these
record Found (r : ℕ) (takes : List Taken) (key : ℕ) (bound : Bound) : Type 0 where
  pub low : r ≤ bound.reg
  pub high : bound.reg < r + length takes

found : (r : ℕ) (takes : List Taken) (key : ℕ) (bound : Bound)
    → var_in key (bounds_of r takes) ≡ Some bound → Found r takes key bound
found r [] key bound is = cc
found r (one ∷ more) key bound is = by (one.key == key) (found (suc r) more key bound) is where
  by : (same : Bool)
      → (var_in key (bounds_of (suc r) more) ≡ Some bound → Found (suc r) more key bound)
      → (if same then Some (bound_of one.key r one.boxed)
      else var_in key (bounds_of (suc r) more)) ≡ Some bound
      → Found r (one ∷ more) key bound
  by true later is =
      let here : bound_of one.key r one.boxed ≡ bound = cc in
      let reg = ap (λ (x : Bound). x.reg) here in
      record { low = omega (arith, reg); high = omega (arith, reg) }
  by false later is =
      let rest = later is in
      let low = rest.low in
      let high = rest.high in
      record { low = omega (arith, low); high = omega (arith, high) }

-- no two of them have one register
apart : (r : ℕ) (takes : List Taken) (key other : ℕ) (bound one : Bound)
    → var_in key (bounds_of r takes) ≡ Some bound → var_in other (bounds_of r takes) ≡ Some one
    → one.reg ≡ bound.reg → other ≡ key
apart r [] key other bound one is has same = cc
apart r (head ∷ more) key other bound one is has same =
    by (head.key == key) (head.key == other) (eqb_tells head.key key) (eqb_tells head.key other)
    (apart (suc r) more key other bound one) is has where
      none : {A : Type 0} → true ≡ false → A
      none wrong = cc

      other_none : {A : Type 0} → false ≡ true → A
      other_none wrong = cc

      below : (k : ℕ) (b c : Bound) → var_in k (bounds_of (suc r) more) ≡ Some b
          → Some (bound_of head.key r head.boxed) ≡ Some c → b.reg ≡ c.reg → ⊥
      below k b c has here regs =
          let low = (found (suc r) more k b has).low in
          let first : bound_of head.key r head.boxed ≡ c = cc in
          let reg = ap (λ (x : Bound). x.reg) first in
          omega (arith, low, reg, regs)

      by : (here there : Bool)
          → ((here ≡ true) × (head.key ≡ key)) ⊎ ((here ≡ false) × (head.key ≢ key))
          → ((there ≡ true) × (head.key ≡ other)) ⊎ ((there ≡ false) × (head.key ≢ other))
          → (var_in key (bounds_of (suc r) more) ≡ Some bound
          → var_in other (bounds_of (suc r) more) ≡ Some one → one.reg ≡ bound.reg → other ≡ key)
          → (if here then Some (bound_of head.key r head.boxed)
          else var_in key (bounds_of (suc r) more)) ≡ Some bound
          → (if there then Some (bound_of head.key r head.boxed)
          else var_in other (bounds_of (suc r) more)) ≡ Some one → other ≡ key
      by true true (inl a) (inl b) later is has = sym b.1 ∙ a.1
      by true true (inr a) b later is has = none a.0
      by true true (inl a) (inr b) later is has = none b.0
      by true false a b later is has = absurd (below other one bound has is same)
      by false true a b later is has = absurd (below key bound one is has (sym same))
      by false false a b later is has = later is has same

-- so a body's own code is ready to begin
pub ready_entered : (numbers : Numbers) (takes : List Taken) (s t : Making) → s.number ≡ numbers
    → s.vars ≡ [] → length s.made.regs ≡ 0 → IsGoing s → Entered takes s t → IsReady numbers t []
ready_entered numbers takes s t number none zero going is =
    let vars : t.vars ≡ bounds_of 0 takes =
    is.vars ∙ ap (λ vars. vars ++ bounds_of (length s.made.regs) takes) none
    ∙ ap (λ r. bounds_of r takes) zero in
    let regs = is.regs in
    record {
      going = (let here = is.here in let count = ap length is.blocks in
          omega (arith, here, count, going));
      number = is.number ∙ number;
      temporaries = tt;
      variables = λ key bound has.
          let high = (found 0 takes key bound (ap (var_in key) (sym vars) ∙ has)).high in
          omega (arith, high, regs, zero);
      apart = λ key other bound one has found. apart 0 takes key other bound one
          (ap (var_in key) (sym vars) ∙ has) (ap (var_in other) (sym vars) ∙ found);
    }
