-- What it means that code puts only such instructions into a body as may stand in it.
use Rattle.std.specs.Prelude.{◌≡◌, ℕ, ◌<◌, true, false, List, Some, Ok, All, length, slice_get}
use Rattle.sw_graph.specs.Bodies.{is_own}
use Rattle.sw_graph.specs.declared.function.RegKind.{RegKind}
use Rattle.sw_graph.specs.declared.instr.Block.{Block}
use Rattle.sw_types.specs.declared.ty.Ty.{Ty}
use Rattle.sw_lower_plans.specs.Plan.{var_in}
use Rattle.sw_lower_plans.specs.Run.{IsGoing, Making}
use Rattle.sw_lower_plans.specs.declared.bound.Bound.{Bound}
use Rattle.sw_lower_code.specs.Code.{Code}
use Rattle.sw_lower_rules.specs.Uses.{self_key}
use Rattle.sw_lower_formed_facts.specs.Ground.{HasVarType, kind_by}
use Rattle.sw_lower_placed_facts.specs.Allowed.{IsAllowed}
use Rattle.sw_lower_placed_facts.specs.Hosts.{Program, Host}

module _ (program : Program) (host : Host) where
  -- the key of the variable that `self` is
  abbrev pub IsMe : ℕ → Type 0
  IsMe key = self_key program.tables host.owner ≡ Some key

  -- A variable's register has the kind of its type.
  pub record IsKnown (regs : List RegKind) (bound : Bound) : Type 0 where
    pub ty : Ty
    pub typed : HasVarType program.tables host.owner bound.key ty
    pub kind : slice_get regs bound.reg ≡ Some (kind_by bound.boxed ty)

  -- In a body that is isolated to `self`, that is seen in register 0 alone, and in no box.
  pub record IsInFirst (bound : Bound) : Type 0 where
    pub has : host.has_self ≡ true
    pub reg : bound.reg ≡ 0
    pub plain : bound.boxed ≡ false

  -- each instruction of these blocks
  abbrev pub AllAllowed : List RegKind → List Block → Type 0
  AllAllowed regs blocks =
      All (λ (block : Block). All (IsAllowed program host regs) block.instrs) blocks

  -- A function of the body while code for it is made.
  pub record Stood (s : Making) : Type 0 where
    pub going : IsGoing s
    pub numbers : s.number ≡ program.numbers
    pub known : All (IsKnown s.made.regs) s.vars
    pub me : (key : ℕ) (bound : Bound) → is_own host.iso ≡ true → IsMe key
        → var_in key s.vars ≡ Some bound → IsInFirst bound
    pub alone : host.has_self ≡ true → All (λ (bound : Bound). bound.reg ≡ 0 → IsMe bound.key)
        s.vars
    pub taken : host.has_self ≡ true → 0 < length s.made.regs
    pub written : AllAllowed s.made.regs s.made.blocks

  -- Code, where it runs to its end, goes on to such a function, and the claim holds of its value
  -- and of that function.
  abbrev pub PlacesAt : {A : Type 0} → Making → Code A → (A → Making → Type 0) → Type 0
  PlacesAt {A} s code Post = Stood s → (value : A) (t : Making) → code.run s ≡ Ok (value, t)
      → t.over ≡ false → Stood t × Post value t

  -- and nothing is claimed
  abbrev pub Places : {A : Type 0} → Code A → Type 0
  Places {A} code = (s : Making) → PlacesAt s code (λ value t. Unit {0})

  -- and this is so after it
  abbrev pub PlacesWith : {A : Type 0} → Code A → Type 0 → Type 0
  PlacesWith {A} code So = (s : Making) → PlacesAt s code (λ value t. So)
