-- Where code stands: a program, and the body that the code is of.
use Rattle.std.specs.Prelude.{◌≡◌, ℕ, Bool, true, List, [], ◌∷◌, Option, Some}
use Rattle.sw_types.specs.declared.isolation.Iso.{Iso}
use Rattle.sw_graph.specs.Bodies.{is_own}
use Rattle.sw_graph.specs.declared.function.Function.{Function}
use Rattle.sw_graph.specs.declared.instr.Operand.{Operand}
use Rattle.sw_isolation_rules.specs.declared.note.Note.{Note}
use Rattle.sw_isolation_rules.specs.declared.uses.Context.{Context}
use Rattle.sw_lower_plans.specs.Plan.{Numbers}
use Rattle.sw_lower_code.specs.Whole.{Body}
use Rattle.sw_lower_rules.specs.Tables.{Tables}
use Rattle.sw_lower_call_facts.specs.Taking.{IsActorAt}

-- A program by its tables, what is noted of it, and its bodies with their numbers and functions.
-- The bodies inside are those of closures and tasks.
pub record Program : Type 0 where
  pub tables : Tables
  pub notes : List Note
  pub numbers : Numbers
  pub bodies : List Body
  pub inside : List Body
  pub functions : List Function

-- The body in which code stands: its isolation, the number of the type around, and whether it has
-- its own `self`, in register 0. An initialiser of an actor has none.
pub record Host : Type 0 where
  pub iso : Iso
  pub owner : Option ℕ
  pub has_self : Bool

-- A body that is isolated to `self` stands in an actor. None but such a one has its own `self`.
pub record IsHost (program : Program) (host : Host) : Type 0 where
  pub own : host.has_self ≡ true → is_own host.iso ≡ true
  pub actor : is_own host.iso ≡ true → (k : ℕ) × (host.owner ≡ Some k)
      × IsActorAt program.tables.world.shapes k

-- What is noted in the context is noted of the body.
pub record IsSeenFrom (host : Host) (context : Context) : Type 0 where
  pub iso : context.iso ≡ host.iso
  pub owner : context.owner ≡ host.owner

-- Where the body is isolated to `self`, the operand is that, in register 0.
pub record IsOwnSelf (host : Host) (x : Operand) : Type 0 where
  pub has : is_own host.iso ≡ true → host.has_self ≡ true
  pub first : is_own host.iso ≡ true → x.reg ≡ 0

-- the first of the operands is
abbrev pub FirstIsOwn : Host → List Operand → Type 0
FirstIsOwn host [] = ⊥
FirstIsOwn host (x ∷ xs) = IsOwnSelf host x
