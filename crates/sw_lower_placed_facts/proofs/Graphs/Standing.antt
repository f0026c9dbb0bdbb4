-- What stands in the bodies of a program: what may stand there, what makes an object or an actor,
-- and what gives a global variable its first value.
use Rattle.std.proofs.Common.{◌≡◌, ℕ, true, false, List, Some, inl, inr, refl, sym, subst, ◌∙◌}
use Rattle.std.proofs.Common.{slice_get}
use Rattle.std.proofs.lemmas.Bool.{and_from, false≢true, not_from_false}
use Rattle.sw_types.specs.declared.shape.ShapeKind.{ShapeKind}
use Rattle.sw_types.specs.declared.shape.ShapeKind.TheVariants as kinds
use Rattle.sw_graph.specs.Bodies.{has_self, is_own}
use Rattle.sw_graph.specs.Placed.{IsLastOf, SetsApart}
use Rattle.sw_graph.specs.Points.{Middle, point_in}
use Rattle.sw_graph.specs.declared.function.Function.{Function}
use Rattle.sw_graph.specs.declared.instr.Block.{Block}
use Rattle.sw_graph.specs.declared.instr.Instr.{Instr}
use Rattle.sw_graph.specs.declared.instr.Instr.TheVariants.{NewActor, NewObject, StoreGlobal}
use Rattle.sw_graph.specs.declared.instr.Operand.{Operand}
use Rattle.sw_lower_code.specs.Whole.{Body, function_of}
use Rattle.sw_lower_rules.specs.Bodies.{made_instr}
use Rattle.sw_lower_placed_facts.specs.Allowed.{IsAllowed}
use Rattle.sw_lower_placed_facts.specs.Bodies.{ArePlaced, IsFirstValue, IsMaker, IsPlacedBody}
use Rattle.sw_lower_placed_facts.specs.Bodies.IsPlacedBody.{first, maker, ordinary}
use Rattle.sw_lower_placed_facts.specs.Claims.{IsOrdinary}
use Rattle.sw_lower_placed_facts.specs.Hosts.{Program, Host}
use Rattle.sw_lower_placed_facts.proofs.Graphs.Functions.{InOrder, of_body}
use Rattle.sw_lower_placed_facts.proofs.Graphs.Initialisers.{made, none_actor, ordinary_makes}
use Rattle.sw_lower_placed_facts.proofs.Graphs.Points.{stands_in}

-- what makes an actor, or an object
pub made_either : (P : Instr → Type 0) (kind : ShapeKind) (key r k : ℕ) (operands : List Operand)
    → P (NewActor key r k operands) → P (NewObject key r k operands)
    → P (made_instr kind key r k operands)
made_either P kinds.Struct key r k operands of_actor of_object = of_object
made_either P kinds.Enum key r k operands of_actor of_object = of_object
made_either P kinds.Class key r k operands of_actor of_object = of_object
made_either P kinds.Actor key r k operands of_actor of_object = of_actor

-- The host is that of the function: they have one isolation, and where the host has its own `self`
-- and is isolated to it, the function has its own too.
pub record HostOf (function : Function) (host : Host) : Type 0 where
  pub iso : host.iso ≡ function.iso
  pub self : host.has_self ≡ true → is_own function.iso ≡ true → has_self function ≡ true

module _ (program : Program) where
  -- An ordinary body that is isolated to `self` has it.
  pub ordinary_self : (body : Body) → IsOrdinary program body
      → is_own (made program body).iso ≡ true → has_self (made program body) ≡ true
  ordinary_self body one own =
      and_from (is_own (made program body).iso) _ own
      (not_from_false _ (none_actor (made program body) (ordinary_makes program body one)))

  ordinary_host : (body : Body) (one : IsOrdinary program body)
      → HostOf (made program body) one.host
  unfolding function_of
  ordinary_host body one =
      record { iso = one.iso; self = λ has own. ordinary_self body one own }

  -- the host of an initialiser, and of what gives a first value
  bare_host : (body : Body) (host : Host) → host.iso ≡ body.iso → host.has_self ≡ false
      → HostOf (made program body) host
  unfolding function_of
  bare_host body host iso none =
      record { iso = iso; self = λ has. absurd (false≢true (sym none ∙ has)) }

  -- What holds of each instruction of a program, by what it is.
  pub record InEach (ordered : List Body) (P : ℕ → Function → Block → ℕ → Instr → Type 0) : Type 0
    where
      pub allowed : (n : ℕ) (body : Body) → slice_get ordered n ≡ Some body → (host : Host)
          → HostOf (made program body) host → (block : Block) (index : ℕ) (instr : Instr)
          → IsAllowed program host (made program body).regs instr
          → P n (made program body) block index instr
      pub makes : (n : ℕ) (body : Body) → slice_get ordered n ≡ Some body
          → (one : IsMaker program body) (block : Block) (index key r : ℕ) (operands : List Operand)
          → SetsApart (made_instr one.shape.kind key r one.k operands) → IsLastOf block index
          → P n (made program body) block index
          (made_instr one.shape.kind key r one.k operands)
      pub gives : (n : ℕ) (body : Body) → slice_get ordered n ≡ Some body
          → (one : IsFirstValue program body) (block : Block) (index at : ℕ) (s : Operand)
          → P n (made program body) block index (StoreGlobal at one.g s)

  module _ (ordered : List Body) (P : ℕ → Function → Block → ℕ → Instr → Type 0)
      (each : InEach ordered P) where
    in_body : (n : ℕ) (body : Body) → slice_get ordered n ≡ Some body → IsPlacedBody program body
        → (number index : ℕ) (block : Block) (instr : Instr)
        → slice_get (made program body).blocks number ≡ Some block
        → slice_get block.instrs index ≡ Some instr → P n (made program body) block index instr
    in_body n body at (ordinary one) number index block instr there here =
        each.allowed n body at one.host (ordinary_host body one) block index instr
        (one.points number index block instr there here)
    in_body n body at (maker one) number index block instr there here =
        elim (one.points number index block instr there here) [
          | inl ok ↦
              each.allowed n body at _ (bare_host body _ refl refl) block index instr ok
          | inr last ↦
              subst (P n (made program body) block index) (sym last.is)
              (each.makes n body at one block index last.key last.r last.operands
              (subst SetsApart last.is last.apart) last.last)
        ]
    in_body n body at (first one) number index block instr there here =
        elim (one.points number index block instr there here) [
          | inl ok ↦
              each.allowed n body at _ (bare_host body _ refl refl) block index instr ok
          | inr gives ↦
              let (key, s, is) = gives in
              subst (P n (made program body) block index) (sym is)
              (each.gives n body at one block index key s)
        ]

    module _ (is : InOrder program ordered) (placed : ArePlaced program) where
      -- each instruction of each block
      pub in_blocks : (n : ℕ) (function : Function)
          → slice_get program.functions n ≡ Some function
          → (number index : ℕ) (block : Block) (instr : Instr)
          → slice_get function.blocks number ≡ Some block
          → slice_get block.instrs index ≡ Some instr → P n function block index instr
      in_blocks n function there =
          let one = of_body program ordered is n function there in
          subst (λ f. (number index : ℕ) (block : Block) (instr : Instr)
          → slice_get f.blocks number ≡ Some block → slice_get block.instrs index ≡ Some instr
          → P n f block index instr) one.same
          (in_body n one.body one.at (placed.each one.body one.has))

-- and each at a point
pub at_points : (program : Program) (ordered : List Body) (P : ℕ → Function → Instr → Type 0)
    → InEach program ordered (λ n function block index instr. P n function instr)
    → InOrder program ordered → ArePlaced program → (n : ℕ) (function : Function)
    → slice_get program.functions n ≡ Some function → (p : ℕ) (instr : Instr)
    → point_in function p ≡ Some (Middle instr) → P n function instr
at_points program ordered P each is placed n function there p instr here =
    let one = stands_in function.blocks p instr here in
    in_blocks program ordered (λ n function block index instr. P n function instr) each is placed n
    function there one.number one.index one.block instr one.at_block one.at_instr
