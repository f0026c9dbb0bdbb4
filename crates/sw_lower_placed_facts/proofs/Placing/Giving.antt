-- An instruction that gives a value in a register that is made for it, and others.
use Rattle.std.proofs.Common.{◌≡◌, ◌≢◌, ℕ, ◌<◌, List, length, map, Contains}
use Rattle.std.proofs.Common.{Some, None, sym, ◌∙◌, subst, arith}
use Rattle.std.proofs.lemmas.List.Elements.{All-contains}
use Rattle.std.proofs.lemmas.Option.{none-some, same_Some}
use Rattle.std.specs.Prelude.{All}
use Rattle.sw_tree.proofs.Members.{of_map}
use Rattle.sw_types.specs.declared.ty.Ty.{Ty}
use Rattle.sw_graph.specs.Mentions.{set_by}
use Rattle.sw_graph.specs.Placed.{SetsApart}
use Rattle.sw_graph.specs.declared.function.RegKind.{RegKind}
use Rattle.sw_graph.specs.declared.function.RegKind.TheVariants.{Plain}
use Rattle.sw_graph.specs.declared.instr.Instr.{Instr}
use Rattle.sw_graph.specs.declared.instr.Operand.{Operand}
use Rattle.sw_lower_plans.specs.Run.{Making}
use Rattle.sw_lower_code.specs.Code.{emit, reg}
use Rattle.sw_lower_rules.specs.Uses.{give, operand}
use Rattle.sw_lower_placed_facts.specs.Allowed.{RegisterHasType, IsAllowed, UseOk}
use Rattle.sw_lower_placed_facts.specs.Placing.{PlacesAt}
use Rattle.sw_lower_placed_facts.specs.Hosts.{Program, Host}
use Rattle.sw_lower_placed_facts.proofs.Placing.Joining.{places_done, places_then}
use Rattle.sw_lower_placed_facts.proofs.Placing.Later.{IsLater, below_later, type_later}
use Rattle.sw_lower_placed_facts.proofs.Placing.Steps.{IsNew, IsStill, places_emit, places_reg}

-- An operand is in a register that was made, of this type.
abbrev pub IsOfType : Ty → Operand → Making → Type 0
IsOfType ty x t = RegisterHasType t.made.regs x.reg ty × (x.reg < length t.made.regs)

-- A register that comes after those of some operands is none of them.
pub next_apart : (xs : List Operand) (n r : ℕ) → All (λ (x : Operand). x.reg < n) xs → r ≡ n
    → Contains (map (λ (x : Operand). x.reg) xs) r → ⊥
next_apart xs n r below is has =
    let (x, in_xs, same) = of_map (λ (x : Operand). x.reg) xs r has in
    omega (arith, All-contains (λ (x : Operand). x.reg < n) xs x below in_xs, same, is)

module _ {program : Program} {host : Host} where
  -- an instruction that sets no register
  pub allowed_unset : (regs : List RegKind) (instr : Instr) → set_by instr ≡ None
      → UseOk program host regs instr → SetsApart instr → IsAllowed program host regs instr
  allowed_unset regs instr none use_ok sets = record {
    uses = use_ok;
    sets = sets;
    leaves = λ r is has. absurd (none-some r (sym none ∙ is));
  }

  -- one that sets a new register, which isn't that of the body's own `self`
  pub allowed_new : (s t : Making) (kind : RegKind) (r : ℕ) (instr : Instr)
      → IsNew host s kind r t → set_by instr ≡ Some r
      → UseOk program host t.made.regs instr → SetsApart instr
      → IsAllowed program host t.made.regs instr
  allowed_new s t kind r instr new set use_ok sets = record {
    uses = use_ok;
    sets = sets;
    leaves = λ q is has. subst (λ number. number ≢ 0) (same_Some r q (sym set ∙ is))
        (new.apart has);
  }

  -- An instruction gives a value in a register that is made for it.
  pub places_give : (at : ℕ) (ty : Ty) (instr : ℕ → Instr) (s : Making)
      → ((r : ℕ) (t : Making) → IsLater s t → IsNew host s (Plain ty) r t
      → IsAllowed program host t.made.regs (instr r))
      → PlacesAt program host s (give at ty instr) (IsOfType ty)
  places_give at ty instr s allowed =
      places_then s (reg (Plain ty)) _ (λ r t. IsNew host s (Plain ty) r t) (IsOfType ty)
      (places_reg s (Plain ty))
      (λ r u later new.
      places_then u (emit (instr r)) _ (λ value t. IsStill u t) (IsOfType ty)
      (places_emit u (instr r) (allowed r u later new))
      (λ value t longer still.
      places_done t (operand r at) (IsOfType ty)
      (type_later u t r ty longer new.kind_is, below_later u t r longer new.below)))

  -- the same, by what the instruction uses
  pub places_gives : (at : ℕ) (ty : Ty) (instr : ℕ → Instr) (s : Making)
      → ((r : ℕ) → set_by (instr r) ≡ Some r)
      → ((r : ℕ) (t : Making) → IsLater s t → IsNew host s (Plain ty) r t
      → UseOk program host t.made.regs (instr r))
      → ((r : ℕ) → r ≡ length s.made.regs → SetsApart (instr r))
      → PlacesAt program host s (give at ty instr) (IsOfType ty)
  places_gives at ty instr s set use_ok sets =
      places_give at ty instr s
      (λ r t later new.
      allowed_new s t (Plain ty) r (instr r) new (set r) (use_ok r t later new)
      (sets r new.number))
