-- The work of closures and of tasks stands where their code is.
use Rattle.std.proofs.Common.{◌≡◌, ℕ, suc, Bool, true, false, Option, Some, List, [], ◌∷◌, ◌++◌}
use Rattle.std.proofs.Common.{length, reverse, refl, ap, sym, ◌∙◌, subst, append_assoc}
use mathlib.Core.List.{reverse-cons}
use Rattle.std.specs.Prelude.{Ok, if◌then◌else◌, not}
use Rattle.sw_types.specs.declared.isolation.Iso.{Iso}
use Rattle.sw_types.specs.declared.ty.Ty.{Ty}
use Rattle.sw_types.specs.declared.ty.Ty.TheVariants as types
use Rattle.sw_graph.specs.declared.function.Function.{Function}
use Rattle.sw_graph.specs.declared.instr.Instr.{Instr}
use Rattle.sw_graph.specs.declared.instr.Instr.TheVariants as instr
use Rattle.sw_graph.specs.declared.instr.Operand.{Operand}
use Rattle.sw_isolation_rules.specs.declared.note.Capture.{Capture}
use Rattle.sw_lower_plans.specs.Plan.{Numbers, var_in}
use Rattle.sw_lower_plans.specs.Run.{Making}
use Rattle.sw_lower_plans.specs.declared.bound.Bound.{Bound}
use Rattle.sw_lower_code.specs.Code.{Code, done, each, known, number, ◌>>=◌}
use Rattle.sw_lower_rules.specs.Carriers.{ClosureCode}
use Rattle.sw_lower_rules.specs.Expressions as code
use Rattle.sw_lower_rules.specs.Tables.{Tables, plain}
use Rattle.sw_lower_rules.specs.Uses.{capture, capture_bound, give, listed_value, operand, typed, unknown}
use Rattle.sw_lower_run_facts.proofs.Runs.{done_ran, ran_both}
use Rattle.sw_tree_work.specs.Forms.{by_value, captured, in_order}
use Rattle.sw_tree_work.specs.Work as work
use Rattle.sw_tree_work.specs.Work.{Before, Work}
use Rattle.sw_spots.specs.Doing.{Did}
use Rattle.sw_spots.specs.Forms.{ValueStands, program}
use Rattle.sw_spots.specs.Making.{IsReady, spot_of}
use Rattle.sw_spots.specs.Spots.{AnyFunction, AreHeld, BeginsAt, GivesNewest, HasIso, OnHeld, OnMany}
use Rattle.sw_spots.specs.Spots.{Program, Ring, Spot, Stands, read_count}
use Rattle.sw_spots.proofs.Going.{below_rest}
use Rattle.sw_spots.proofs.Joining.{did_at, did_both, did_none, fits_between, many_newest, ran_known}
use Rattle.sw_spots.proofs.Joining.{ran_number, ran_var}
use Rattle.sw_spots.proofs.Writing.{did_give}
use Rattle.sw_spots_expr.proofs.Words.{did_read}

-- the registers of the values that were read, in order
abbrev values_after : Bool → Operand → List ℕ → List ℕ
values_after true o rs = rs
values_after false o rs = o.reg ∷ rs

abbrev values_of : List Capture → List Operand → List ℕ
values_of [] os = []
values_of (one ∷ more) [] = []
values_of (one ∷ more) (o ∷ os) = values_after one.by_ref o (values_of more os)

module _ (tables : Tables) (numbers : Numbers) (functions : List Function) where
  abbrev p : Program
  p = program tables numbers functions

  -- what was captured, and the temporaries after that
  record Captured (before : Before) (count : ℕ) (s t : Making) (temps rs : List ℕ)
      (Held : List ℕ → Type 0) : Type 0 where
    pub did : Did p numbers s temps before t (reverse rs ++ temps)
    pub held : Held rs
    pub many : length rs ≡ count

  abbrev AreCaptured : List Capture → Making → Making → List ℕ → List Operand → Type 0
  AreCaptured captures s t temps os = Captured (captured captures) (read_count captures) s t temps
      (values_of captures os) (λ rs. AreHeld captures s.vars rs os)

  -- so it is of one and of those after it, by whether the one is shared
  abbrev Both : Bool → Capture → List Capture → Making → Making → List ℕ → Operand
      → List Operand → Type 0
  Both by_ref one more s t temps o os = Captured
      (λ rest. in_order (λ (one : Capture). work.Then (work.Read one.variable))
      (if not by_ref then one ∷ by_value more else by_value more) rest)
      (if by_ref then read_count more else suc (read_count more)) s t temps
      (values_after by_ref o (values_of more os))
      (λ rs. OnHeld by_ref one.variable s.vars rs o (λ rest. AreHeld more s.vars rest os))

  module _ (at : ℕ) where
    abbrev code_of : List Capture → Code (List Operand)
    code_of captures = each (capture tables at) captures

    abbrev Goes : List Capture → Type 0
    Goes captures = (s t : Making) (temps : List ℕ) (os : List Operand) → IsReady numbers s temps
        → t.over ≡ false → (code_of captures).run s ≡ Ok (os, t) → AreCaptured captures s t temps os

    -- a variable that is shared is in a box
    both_shared : (one : Capture) (more : List Capture) (bound : Bound) (s m t : Making)
        (temps : List ℕ) (o : Operand) (os : List Operand) → Goes more → IsReady numbers s temps
        → t.over ≡ false → var_in one.variable s.vars ≡ Some bound → (boxed : Bool)
        → bound.boxed ≡ boxed
        → (if boxed then done (operand bound.reg one.first) else unknown).run s ≡ Ok (o, m)
        → (code_of more).run m ≡ Ok (os, t) → Both true one more s t temps o os
    unfolding unknown known
    both_shared one more bound s m t temps o os goes ready fits found true boxed first rest =
        let is = done_ran (operand bound.reg one.first) o s m first in
        let later = goes s t temps os ready fits
        (subst (λ u. (code_of more).run u ≡ Ok (os, t)) (sym is.1) rest) in
        record {
          did = later.did;
          held = ((bound, found, boxed, ap (λ (x : Operand). x.reg) (sym is.0)), later.held);
          many = later.many;
        }
    both_shared one more bound s m t temps o os goes ready fits found false plain first rest = cc

    -- another one is read
    both_read : (one : Capture) (more : List Capture) (bound : Bound) (s m t : Making)
        (temps : List ℕ) (o : Operand) (os : List Operand) → Goes more → IsReady numbers s temps
        → t.over ≡ false → m.over ≡ false → var_in one.variable s.vars ≡ Some bound
        → (if bound.boxed then listed_value tables at one bound
        else done (operand bound.reg one.first)).run s ≡ Ok (o, m)
        → (code_of more).run m ≡ Ok (os, t) → Both false one more s t temps o os
    both_read one more bound s m t temps o os goes ready fits fits_m found first rest =
        let read = did_read tables numbers functions at one.first one.variable bound s m temps o ready
        fits_m found bound.boxed refl first in
        let later = goes m t (o.reg ∷ temps) os read.ready fits rest in
        let rs = values_of more os in
        record {
          did = did_at p numbers s t t temps (reverse rs ++ o.reg ∷ temps)
              (reverse (o.reg ∷ rs) ++ temps) _ refl
              (sym (append_assoc (reverse rs) (o.reg ∷ []) temps)
              ∙ ap (λ list. list ++ temps) (sym (reverse-cons o.reg rs)))
              (did_both p numbers s m t temps (o.reg ∷ temps) (reverse rs ++ o.reg ∷ temps)
              (work.Then (work.Read one.variable)) (captured more) read later.did);
          held = (refl, subst (λ vars. AreHeld more vars rs os) read.vars later.held);
          many = ap (λ n. suc n) later.many;
        }

    both : (one : Capture) (more : List Capture) (bound : Bound) (s m t : Making) (temps : List ℕ)
        (o : Operand) (os : List Operand) → Goes more → IsReady numbers s temps → t.over ≡ false
        → m.over ≡ false → var_in one.variable s.vars ≡ Some bound → (by_ref : Bool)
        → (if by_ref then (if bound.boxed then done (operand bound.reg one.first) else unknown)
        else (if bound.boxed then listed_value tables at one bound
        else done (operand bound.reg one.first))).run s ≡ Ok (o, m)
        → (code_of more).run m ≡ Ok (os, t) → Both by_ref one more s t temps o os
    both one more bound s m t temps o os goes ready fits fits_m found true first rest =
        both_shared one more bound s m t temps o os goes ready fits found bound.boxed refl first rest
    both one more bound s m t temps o os goes ready fits fits_m found false first rest =
        both_read one more bound s m t temps o os goes ready fits fits_m found first rest

    captured_more : (one : Capture) (more : List Capture) (s t : Making) (temps : List ℕ)
        (o : Operand) (os : List Operand) → Goes more → IsReady numbers s temps → t.over ≡ false
        → (m : Making) → (capture tables at one).run s ≡ Ok (o, m)
        → (code_of more).run m ≡ Ok (os, t) → AreCaptured (one ∷ more) s t temps (o ∷ os)
    unfolding capture capture_bound
    captured_more one more s t temps o os goes ready fits m first rest =
        let a = ran_var one.variable (capture_bound tables at one) s m o first in
        both one more a.0 s m t temps o os goes ready fits
        (fits_between (capture tables at one) (code_of more) s m t o os ready.going first rest fits)
        a.1 one.by_ref a.2 rest

    captures_go : (captures : List Capture) → Goes captures
    unfolding each
    captures_go [] s t temps os ready fits ran =
        let is = done_ran [] os s t ran in
        subst (λ u. AreCaptured [] s u temps os) is.1 (subst (AreCaptured [] s s temps) is.0 (record {
          did = did_none p numbers s temps ready (ap (λ (x : Making). x.over) is.1 ∙ fits);
          held = refl;
          many = refl;
        }))
    captures_go (one ∷ more) s t temps os ready fits ran =
        let a = ran_both (capture tables at one) (λ y. code_of more >>= λ ys. done (y ∷ ys)) s t os
        ran in
        let b = ran_both (code_of more) (λ ys. done (a.0 ∷ ys)) a.1 t os a.3 in
        let is = done_ran (a.0 ∷ b.0) os b.1 t b.3 in
        subst (λ u. AreCaptured (one ∷ more) s u temps os) is.1
        (subst (AreCaptured (one ∷ more) s b.1 temps) is.0
        (captured_more one more s b.1 temps a.0 b.0 (captures_go more) ready
        (ap (λ (x : Making). x.over) is.1 ∙ fits) a.1 a.2 b.2))

  abbrev CaughtAt : List Capture → List Bound → Function → Spot → List Operand → (ℕ → Instr)
      → (Spot → Type 0) → List ℕ → List ℕ → Type 0
  CaughtAt captures vars f spot os made K rs below =
      AreHeld captures vars rs os × GivesNewest f spot below made K

  -- The instruction that makes a closure, or a task, after what it captures.
  module _ (at first : ℕ) (ty : Option Ty) (captures : List Capture) (key : ℕ)
      (made : ℕ → ℕ → List Operand → Instr) (close : Before)
      (shape : (f : Function) (rings : List Ring) (rest : Work) (s : Making) (temps : List ℕ)
      (number : ℕ) (os : List Operand) → numbers (plain key) ≡ Some number
      → OnMany (read_count captures) temps
      (CaughtAt captures s.vars f (spot_of s temps) os (λ r. made r number os)
      (λ next. Stands p rest f rings next))
      → Stands p (close rest) f rings (spot_of s temps)) where
    pub reads_captured : ValueStands tables numbers functions
        (each (capture tables first) captures >>= λ os. number (plain key)
        >>= λ f. known types.Unit ty >>= λ ty. give at ty (λ r. made r f os))
        (λ rest. captured captures (close rest))
    reads_captured temps s t given ready fits ran =
        let a = ran_both (each (capture tables first) captures)
        (λ os. number (plain key) >>= λ f. known types.Unit ty
        >>= λ ty. give at ty (λ r. made r f os)) s t given ran in
        let os = a.0 in
        let fits_m = fits_between (each (capture tables first) captures)
        (number (plain key) >>= λ f. known types.Unit ty >>= λ ty. give at ty (λ r. made r f os))
        s a.1 t os given ready.going a.2 a.3 fits in
        let these = captures_go first captures s a.1 temps os ready fits_m a.2 in
        let b = ran_number (plain key) (λ f. known types.Unit ty
        >>= λ ty. give at ty (λ r. made r f os)) a.1 t given a.3 in
        let c = ran_known types.Unit ty (λ ty. give at ty (λ r. made r b.0 os)) a.1 t given b.2 in
        let rs = values_of captures os in
        did_both p numbers s a.1 t temps (reverse rs ++ temps) (given.reg ∷ temps)
        (captured captures) close these.did
        (did_give p numbers a.1 t (reverse rs ++ temps) temps at c.0 (λ r. made r b.0 os) given close
        (λ n all. below_rest n (reverse rs) temps all)
        (λ f rings rest gives. shape f rings rest a.1 (reverse rs ++ temps) b.0 os
        (ap (λ (all : Numbers). all (plain key)) (sym these.did.ready.number) ∙ b.1)
        (many_newest rs temps (read_count captures)
        (CaughtAt captures a.1.vars f (spot_of a.1 (reverse rs ++ temps)) os (λ r. made r b.0 os)
        (λ next. Stands p rest f rings next)) these.many
        (subst (λ vars. AreHeld captures vars rs os) (sym these.did.vars) these.held, gives)))
        these.did.ready fits c.2)

  -- the function of a body begins with the body's work
  abbrev pub BodyThere : (ℕ → List Capture) → ℕ → List ℕ → (Function → Type 0) → Work → Type 0
  BodyThere captures_of key params Is body = (number : ℕ) → numbers (plain key) ≡ Some number
      → BeginsAt p number (captures_of key) params Is (λ g next. Stands p body g [] next)

  module _ (owner : Option ℕ) where
    pub reads_fun : (closure : ClosureCode) (params : List ℕ) (body : Work)
        → BodyThere tables.isolation.captures_of closure.at params AnyFunction body
        → ValueStands tables numbers functions (code.fun_read tables owner closure)
        (λ rest. captured (tables.isolation.captures_of closure.at)
        (work.Close closure.at (tables.isolation.captures_of closure.at) params body rest))
    unfolding typed
    reads_fun closure params body there =
        reads_captured closure.at closure.at (tables.answers.type_at closure.at)
        (tables.isolation.captures_of closure.at) closure.at
        (λ r f os. instr.NewClosure closure.at r f os)
        (work.Close closure.at (tables.isolation.captures_of closure.at) params body)
        (λ f rings rest s temps number os named is.
        (is.0, (closure.at, number, os, is.1.0, there number named, is.1.1)))

    pub reads_spawn : (at : ℕ) (closure : ClosureCode) (iso : Iso) (body : Work)
        → BodyThere tables.isolation.captures_of closure.at [] (HasIso iso) body
        → ValueStands tables numbers functions (code.spawn_read tables owner at closure)
        (λ rest. captured (tables.isolation.captures_of closure.at)
        (work.Spawn at iso (tables.isolation.captures_of closure.at) body rest))
    unfolding typed
    reads_spawn at closure iso body there =
        reads_captured at at (tables.answers.type_at at)
        (tables.isolation.captures_of closure.at) closure.at
        (λ r f os. instr.NewTask at r f os)
        (work.Spawn at iso (tables.isolation.captures_of closure.at) body)
        (λ f rings rest s temps number os named is.
        (is.0, (number, os, is.1.0, there number named, is.1.1)))
