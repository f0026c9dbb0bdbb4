-- What it means that the work of a form stands where its code is.
use Rattle.std.specs.Prelude.{◌≡◌, ℕ, false, List, [], ◌∷◌, ◌++◌, map, reverse, Some, None}
use Rattle.std.specs.Prelude.{Ok}
use Rattle.sw_graph.specs.declared.function.Function.{Function}
use Rattle.sw_graph.specs.declared.instr.Last.TheVariants.{Jump}
use Rattle.sw_graph.specs.declared.instr.Operand.{Operand}
use Rattle.sw_lower_plans.specs.Plan.{Numbers, var_in}
use Rattle.sw_lower_plans.specs.Run.{Making}
use Rattle.sw_lower_plans.specs.declared.bound.Bound.{Bound}
use Rattle.sw_lower_code.specs.Code.{Code}
use Rattle.sw_lower_rules.specs.declared.targets.Targets.{Targets}
use Rattle.sw_tree_work.specs.Work.{Again, Before, Work}
use Rattle.sw_spots.specs.Making.{IsFinal, IsReady, Went, spot_of}
use Rattle.sw_spots.specs.Spots.{IsEnd, IsSeen, Program, Ring, Spot, Stands}

-- the registers of operands, the newest first
abbrev pub used : List Operand → List ℕ
used os = reverse (map (λ (o : Operand). o.reg) os)

module _ (p : Program) (numbers : Numbers) where
  abbrev pub At : Work → Function → List Ring → Making → List ℕ → Type 0
  At work f rings s temps = Stands p work f rings (spot_of s temps)

  -- Code that declares nothing led from s to t, and from these temporaries to others. Where other work
  -- stands after the code, the work of the code stands before that.
  pub record Did (s : Making) (temps : List ℕ) (before : Before) (t : Making) (after : List ℕ)
      : Type 0 where
    pub went : Went s t
    pub vars : t.vars ≡ s.vars
    pub ready : IsReady numbers t after
    pub stands : (f : Function) (rings : List Ring) (rest : Work) → IsFinal f s t
        → At rest f rings t after → At (before rest) f rings s temps

  -- so does each run of the code
  abbrev pub Does : {A : Type 0} → List ℕ → Code A → Before → (A → List ℕ) → Type 0
  Does {A} temps code before after = (s t : Making) (value : A) → IsReady numbers s temps
      → t.over ≡ false → code.run s ≡ Ok (value, t) → Did s temps before t (after value)

  -- code that gives a value, that takes one, and that gives many
  abbrev pub Reads : Code Operand → Before → Type 0
  Reads code before = (temps : List ℕ) → Does temps code before (λ o. o.reg ∷ temps)

  abbrev pub Writes : (Operand → Code (Unit {0})) → Before → Type 0
  Writes code before =
      (given : Operand) → Does (given.reg ∷ []) (code given) before (λ done. [])

  abbrev pub ReadsAll : Code (List Operand) → Before → Type 0
  ReadsAll code before = (temps : List ℕ) → Does temps code before (λ os. used os ++ temps)

  -- where `break` and `continue` lead, from wherever these variables are seen
  pub record Leads (f : Function) (rings : List Ring) (targets : Targets) (breaks : Work)
      (base : List Bound) : Type 0 where
    pub breaks_to : (to : ℕ) → targets.breaks ≡ Some to → (spot : Spot) → spot.temps ≡ []
        → IsEnd f spot (Jump to) → IsSeen base spot.vars → Stands p breaks f rings spot
    pub continues_to : (to : ℕ) → targets.continues ≡ Some to → (spot : Spot) → spot.temps ≡ []
        → IsEnd f spot (Jump to) → IsSeen base spot.vars → Stands p Again f rings spot

  -- variables with such keys aren't seen
  abbrev pub AreUnseen : (ℕ → Type 0) → Making → Type 0
  AreUnseen Declares s = (key : ℕ) → Declares key → var_in key s.vars ≡ None

  -- The code of a statement, which declares such keys, led from s to t.
  pub record Passed (Declares : ℕ → Type 0) (targets : Targets) (s : Making) (before : Work → Before)
      (t : Making) : Type 0 where
    pub went : Went s t
    pub ready : IsReady numbers t []
    pub seen : IsSeen s.vars t.vars
    pub others : (key : ℕ) → (Declares key → ⊥) → var_in key t.vars ≡ var_in key s.vars
    pub stands : (f : Function) (rings : List Ring) (breaks : Work) (base : List Bound) (rest : Work)
        → IsFinal f s t → Leads f rings targets breaks base → IsSeen base s.vars
        → At rest f rings t [] → At (before breaks rest) f rings s []

  abbrev pub Passes : (ℕ → Type 0) → (Targets → Code (Unit {0})) → (Work → Before) → Type 0
  Passes Declares code before = (targets : Targets) (s t : Making) → IsReady numbers s []
      → AreUnseen Declares s → t.over ≡ false → (code targets).run s ≡ Ok (tt, t)
      → Passed Declares targets s before t

  -- The code of a block led from s to t. What follows it stands there whatever else is seen.
  pub record Left (targets : Targets) (s : Making) (before : Work → Before) (t : Making) : Type 0
    where
      pub went : Went s t
      pub ready : IsReady numbers t []
      pub vars : t.vars ≡ s.vars
      pub stands : (f : Function) (rings : List Ring) (breaks : Work) (base : List Bound) (rest : Work)
          → IsFinal f s t → Leads f rings targets breaks base → IsSeen base s.vars
          → ((vars : List Bound) → IsSeen s.vars vars
          → Stands p rest f rings (record (spot_of t []) { vars = vars }))
          → At (before breaks rest) f rings s []

  abbrev pub Leaves : (ℕ → Type 0) → (Targets → Code (Unit {0})) → (Work → Before) → Type 0
  Leaves Declares code before = (targets : Targets) (s t : Making) → IsReady numbers s []
      → AreUnseen Declares s → t.over ≡ false → (code targets).run s ≡ Ok (tt, t)
      → Left targets s before t
