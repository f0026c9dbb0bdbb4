-- A variable begins: a register, an instruction that sets it, and the variable.
use Rattle.std.proofs.Common.{◌≡◌, ℕ, suc, ◌<◌, ◌⊎◌, inl, inr, Bool, true, false, Some, None}
use Rattle.std.proofs.Common.{List, [], ◌∷◌, ◌++◌, length, refl, ap, sym, ◌∙◌, subst, arith}
use Rattle.std.proofs.lemmas.Bool.Decides.{eqb_tells}
use Rattle.std.specs.Prelude.{Ok, ◌==◌, ◌≢◌, if◌then◌else◌}
use Rattle.sw_graph.specs.declared.function.Function.{Function}
use Rattle.sw_graph.specs.declared.function.RegKind.{RegKind}
use Rattle.sw_graph.specs.declared.instr.Instr.{Instr}
use Rattle.sw_lower_plans.specs.Plan.{Numbers, var_in}
use Rattle.sw_lower_plans.specs.Run.{IsGoing, Making}
use Rattle.sw_lower_plans.specs.declared.bound.Bound.{Bound}
use Rattle.sw_lower_code.specs.Code.{Code, bind, reg}
use Rattle.sw_lower_run_facts.specs.Apart.{CodeApart}
use Rattle.sw_lower_run_facts.specs.Made.{Emitted, Wrote, index}
use Rattle.sw_lower_run_facts.proofs.Alone.{bind_apart, reg_apart}
use Rattle.sw_lower_run_facts.proofs.Runs.{gave_same}
use Rattle.sw_lower_run_facts.proofs.Steps.{gave, reg_going, reg_ran, wrote_index}
use Rattle.sw_tree_work.specs.Work.{Work}
use Rattle.sw_spots.specs.Making.{AreBelow, IsFinal, IsReady, Went, spot_of}
use Rattle.sw_spots.specs.Spots.{Gives, IsSeen, Program, Ring, Stands, bound_of, declares}
use Rattle.sw_spots.proofs.Going.{same_spot, went_both, went_code}
use Rattle.sw_spots.proofs.Joining.{fits_between}
use Rattle.sw_spots.proofs.Writing.{instr_final}

-- the variables that are seen after one more is
pub var_front : (key : ℕ) (vars more : List Bound) (bound : Bound) → var_in key vars ≡ Some bound
    → var_in key (vars ++ more) ≡ Some bound
var_front key [] more bound is = cc
var_front key (v ∷ vars) more bound is = by (v.key == key) (var_front key vars more bound) is where
  by : (same : Bool)
      → (var_in key vars ≡ Some bound → var_in key (vars ++ more) ≡ Some bound)
      → (if same then Some v else var_in key vars) ≡ Some bound
      → (if same then Some v else var_in key (vars ++ more)) ≡ Some bound
  by true later is = is
  by false later is = later is

pub var_aside : (key : ℕ) (vars : List Bound) (one : Bound) → (one.key ≡ key → ⊥)
    → var_in key (vars ++ one ∷ []) ≡ var_in key vars
var_aside key [] one other = by (one.key == key) (eqb_tells one.key key) where
  by : (same : Bool)
      → ((same ≡ true) × (one.key ≡ key)) ⊎ ((same ≡ false) × (one.key ≢ key))
      → (if same then Some one else None) ≡ None
  by true (inl tells) = absurd (other tells.1)
  by true (inr tells) = absurd (let c : ⊥ = (let wrong : true ≡ false = tells.0 in cc) in c)
  by false tells = refl
var_aside key (v ∷ vars) one other =
    ap (λ later. if v.key == key then Some v else later) (var_aside key vars one other)

pub var_end : (key : ℕ) (vars : List Bound) (one bound : Bound)
    → var_in key (vars ++ one ∷ []) ≡ Some bound
    → (var_in key vars ≡ Some bound) ⊎ ((one.key ≡ key) × (one ≡ bound))
var_end key [] one bound is = by (one.key == key) (eqb_tells one.key key) is where
  by : (same : Bool)
      → ((same ≡ true) × (one.key ≡ key)) ⊎ ((same ≡ false) × (one.key ≢ key))
      → (if same then Some one else None) ≡ Some bound
      → (var_in key [] ≡ Some bound) ⊎ ((one.key ≡ key) × (one ≡ bound))
  by true (inl tells) is = inr (tells.1, cc)
  by true (inr tells) is = absurd (let c : ⊥ = (let wrong : true ≡ false = tells.0 in cc) in c)
  by false tells is = cc
var_end key (v ∷ vars) one bound is = by (v.key == key) (var_end key vars one bound) is where
  by : (same : Bool)
      → (var_in key (vars ++ one ∷ []) ≡ Some bound
      → (var_in key vars ≡ Some bound) ⊎ ((one.key ≡ key) × (one ≡ bound)))
      → (if same then Some v else var_in key (vars ++ one ∷ [])) ≡ Some bound
      → ((if same then Some v else var_in key vars) ≡ Some bound)
      ⊎ ((one.key ≡ key) × (one ≡ bound))
  by true later is = inl is
  by false later is = later is

-- what began
pub record Began (s : Making) (key : ℕ) (boxed : Bool) (made : ℕ → Instr) (t : Making) : Type 0 where
  pub went : Went s t
  pub wrote : Wrote s (made (length s.made.regs)) t
  pub regs : length t.made.regs ≡ suc (length s.made.regs)
  pub vars : t.vars ≡ s.vars ++ bound_of key (length s.made.regs) boxed ∷ []

pub bound_ran : (bound : Bound) (s t : Making) → (bind bound).run s ≡ Ok (tt, t)
    → record s { vars = s.vars ++ bound ∷ [] } ≡ t
unfolding bind
bound_ran bound s t ran = (gave_same tt tt (record s { vars = s.vars ++ bound ∷ [] }) t ran).1

pub began : (kind : RegKind) (made : ℕ → Instr) (write : Code (Unit {0})) (key : ℕ) (boxed : Bool)
    (r : ℕ) (s m u t : Making) → CodeApart write → IsGoing s → t.over ≡ false
    → (reg kind).run s ≡ Ok (r, m) → write.run m ≡ Ok (tt, u) → (u.over ≡ false → Emitted m (made r) u)
    → (bind (bound_of key r boxed)).run u ≡ Ok (tt, t) → Began s key boxed made t
began kind made write key boxed r s m u t apart going fits first second writes third =
    let is = reg_ran kind s m r first in
    let going_m = reg_going s m r is going in
    let same = bound_ran (bound_of key r boxed) u t third in
    let fits_u : u.over ≡ false = ap (λ (x : Making). x.over) same ∙ fits in
    let e = writes fits_u in
    let g = gave made 0 r s m u is e in
    let went_u = went_both (λ b. b ≡ s.here) s m u
    (went_code (reg kind) s m r (λ count own. reg_apart count own kind) going
    (fits_between (reg kind) write s m u r tt going first second fits_u) first)
    (went_code write m u tt apart going_m fits_u second) in
    let went = went_both (λ b. b ≡ s.here) s u t went_u
    (went_code (bind (bound_of key r boxed)) u t tt
    (λ count own. bind_apart count own (bound_of key r boxed)) went_u.going fits third) in
    record {
      went = went;
      wrote = subst (Wrote s (made (length s.made.regs))) same
          (record { here = g.wrote.here; instrs = g.wrote.instrs });
      regs = sym (ap (λ (x : Making). length x.made.regs) same) ∙ g.regs;
      vars = sym (ap (λ (x : Making). x.vars) same)
          ∙ ap (λ vars. vars ++ bound_of key r boxed ∷ []) g.vars
          ∙ ap (λ n. s.vars ++ bound_of key n boxed ∷ []) is.is;
    }

module _ (numbers : Numbers) (s : Making) (key : ℕ) (boxed : Bool) (made : ℕ → Instr) (t : Making)
    (is : Began s key boxed made t) where
  abbrev new : Bound
  new = bound_of key (length s.made.regs) boxed

  pub seen_began : IsSeen s.vars t.vars
  seen_began other bound found =
      ap (var_in other) is.vars ∙ var_front other s.vars (new ∷ []) bound found

  pub others_began : (other : ℕ) → (other ≡ key → ⊥) → var_in other t.vars ≡ var_in other s.vars
  others_began other none =
      ap (var_in other) is.vars ∙ var_aside other s.vars new (λ same. none (sym same))

  pub ready_began : (temps after : List ℕ) → IsReady numbers s temps → var_in key s.vars ≡ None
      → AreBelow (length t.made.regs) after → IsReady numbers t after
  ready_began temps after ready unseen below = record {
    going = is.went.going;
    number = is.went.number ∙ ready.number;
    temporaries = below;
    variables = λ other bound found. small other bound
        (var_end other s.vars new bound (ap (var_in other) (sym is.vars) ∙ found));
    apart = λ first other bound one found has same. alone first other bound one
        (var_end first s.vars new bound (ap (var_in first) (sym is.vars) ∙ found))
        (var_end other s.vars new one (ap (var_in other) (sym is.vars) ∙ has)) same;
  } where
    small : (other : ℕ) (bound : Bound)
        → (var_in other s.vars ≡ Some bound) ⊎ ((key ≡ other) × (new ≡ bound))
        → bound.reg < length t.made.regs
    small other bound (inl found) =
        let less = ready.variables other bound found in let more = is.regs in
        omega (arith, less, more)
    small other bound (inr here) =
        let same = ap (λ (x : Bound). x.reg) here.1 in let more = is.regs in
        omega (arith, same, more)

    alone : (first other : ℕ) (bound one : Bound)
        → (var_in first s.vars ≡ Some bound) ⊎ ((key ≡ first) × (new ≡ bound))
        → (var_in other s.vars ≡ Some one) ⊎ ((key ≡ other) × (new ≡ one))
        → one.reg ≡ bound.reg → other ≡ first
    alone first other bound one (inl a) (inl b) same =
        ready.apart first other bound one a b same
    alone first other bound one (inl a) (inr b) same =
        let less = ready.variables first bound a in let here = ap (λ (x : Bound). x.reg) b.1 in
        absurd (let c : ⊥ = omega (arith, less, here, same) in c)
    alone first other bound one (inr a) (inl b) same =
        let less = ready.variables other one b in let here = ap (λ (x : Bound). x.reg) a.1 in
        absurd (let c : ⊥ = omega (arith, less, here, same) in c)
    alone first other bound one (inr a) (inr b) same = sym b.0 ∙ a.0

  -- the instruction gives the variable its register, before work that stands after it
  pub gives_began : (p : Program) (f : Function) (rings : List Ring) (rest : Work)
      (temps below after : List ℕ) → IsReady numbers s temps
      → AreBelow (length s.made.regs) below → IsFinal f s t
      → Stands p rest f rings (spot_of t after)
      → Gives f (spot_of s temps) below made
      (λ r. Stands p rest f rings (declares (spot_of s temps) (bound_of key r boxed) after))
  gives_began p f rings rest temps below after ready small final stands = record {
    r = length s.made.regs;
    free = record {
      within = (let more = final.regs in let same = is.regs in omega (arith, more, same));
      temporaries = small;
      variables = ready.variables;
    };
    is = instr_final f s t (made (length s.made.regs)) temps is.wrote final.grows;
    next = subst (Stands p rest f rings)
        (same_spot t.here s.here (index t) (suc (index s)) t.vars (s.vars ++ new ∷ []) after after
        is.wrote.here (wrote_index s t (made (length s.made.regs)) is.wrote) is.vars refl) stands;
  }
