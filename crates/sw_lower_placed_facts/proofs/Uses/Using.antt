-- What is used at a key, and code that uses nothing.
use Rattle.std.proofs.Common.{◌≡◌, ℕ, ◌<◌, Some, length}
use Rattle.sw_types.specs.declared.ty.Ty.{Ty}
use Rattle.sw_graph.specs.Mentions.{set_by}
use Rattle.sw_graph.specs.Placed.{SetsApart}
use Rattle.sw_graph.specs.declared.instr.Instr.{Instr}
use Rattle.sw_graph.specs.declared.instr.Operand.{Operand}
use Rattle.sw_isolation_rules.specs.Noting.{use_notes}
use Rattle.sw_isolation_rules.specs.declared.uses.Context.{Context}
use Rattle.sw_isolation_rules.specs.declared.uses.Used.{Used}
use Rattle.sw_lower_plans.specs.Run.{Making}
use Rattle.sw_lower_rules.specs.Uses.{give}
use Rattle.sw_lower_total_facts.proofs.Expressions.Kinds.{use_kind}
use Rattle.sw_graph.specs.declared.function.RegKind.TheVariants.{Plain}
use Rattle.sw_lower_placed_facts.specs.Allowed.{UseOk}
use Rattle.sw_lower_placed_facts.specs.Claims.{AreNoted}
use Rattle.sw_lower_placed_facts.specs.Placing.{PlacesAt}
use Rattle.sw_lower_placed_facts.specs.Hosts.{Program, Host}
use Rattle.sw_lower_placed_facts.proofs.Placing.Giving.{IsOfType, places_gives}
use Rattle.sw_lower_placed_facts.proofs.Placing.Joining.{places_weaker}
use Rattle.sw_lower_placed_facts.proofs.Placing.Later.{IsLater}
use Rattle.sw_lower_placed_facts.proofs.Placing.Steps.{IsNew}

-- the register of a value was made
abbrev pub MadeValue : Operand → Making → Type 0
MadeValue x t = x.reg < length t.made.regs

-- What is used at a key is noted there, and nothing else is of a kind there.
pub record IsUsed (program : Program) (context : Context) (at : ℕ) (used : Used) : Type 0 where
  pub noted : AreNoted program (use_notes context at used)
  pub kind : program.tables.isolation.kind_at at ≡ use_kind context used

module _ {program : Program} {host : Host} where
  -- an instruction that gives a value in a register that is made for it, by what it uses
  pub give_made : (at : ℕ) (ty : Ty) (instr : ℕ → Instr) (s : Making)
      → ((r : ℕ) → set_by (instr r) ≡ Some r)
      → ((r : ℕ) (t : Making) → IsLater s t → IsNew host s (Plain ty) r t
      → UseOk program host t.made.regs (instr r))
      → ((r : ℕ) → r ≡ length s.made.regs → SetsApart (instr r))
      → PlacesAt program host s (give at ty instr) MadeValue
  give_made at ty instr s set uses sets =
      places_weaker s (give at ty instr) (IsOfType ty) MadeValue
      (places_gives at ty instr s set uses sets) (λ x t later is. is.1)

  -- one that uses nothing of the program
  pub give_placed : (at : ℕ) (ty : Ty) (instr : ℕ → Instr) (s : Making)
      → ((r : ℕ) → set_by (instr r) ≡ Some r)
      → ((r : ℕ) (t : Making) → UseOk program host t.made.regs (instr r))
      → ((r : ℕ) → SetsApart (instr r)) → PlacesAt program host s (give at ty instr) MadeValue
  give_placed at ty instr s set uses sets =
      give_made at ty instr s set (λ r t later new. uses r t) (λ r is. sets r)
