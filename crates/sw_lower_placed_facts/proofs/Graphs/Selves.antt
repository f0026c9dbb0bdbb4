-- The body's own `self`.
use Rattle.std.proofs.Common.{◌≡◌, true, List, [], ◌∷◌, ap, ◌∙◌, IsTrue}
use Rattle.std.proofs.lemmas.Bool.{and_from, eq-eqb}
use Rattle.sw_graph.specs.Bodies.{first_is_self, has_self, is_own, is_self}
use Rattle.sw_graph.specs.declared.function.Function.{Function}
use Rattle.sw_graph.specs.declared.instr.Operand.{Operand}
use Rattle.sw_lower_placed_facts.specs.Hosts.{FirstIsOwn, IsOwnSelf, Host}
use Rattle.sw_lower_placed_facts.proofs.Graphs.Standing.{HostOf}

module _ (function : Function) (host : Host) (is : HostOf function host) where
  -- An operand that is `self` where the body is isolated to it is the body's own.
  pub own_is_self : (x : Operand) → IsOwnSelf host x → is_own function.iso ≡ true
      → is_self function x ≡ true
  own_is_self x own isolated =
      let here : is_own host.iso ≡ true = ap is_own is.iso ∙ isolated in
      and_from (has_self function) _ (is.self (own.has here) isolated)
      (eq-eqb x.reg 0 (own.first here))

  -- the first of the operands
  pub first_own : (xs : List Operand) → FirstIsOwn host xs → is_own function.iso ≡ true
      → IsTrue (first_is_self function xs)
  first_own [] first isolated = absurd first
  first_own (x ∷ xs) first isolated = own_is_self x first isolated
