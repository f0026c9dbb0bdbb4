-- Values of expressions, and what is given in a register that is made for it.
use Rattle.std.proofs.Common.{◌≡◌, ℕ, ◌<◌, false, true≢false, List, Some, length, refl, sym, ◌∙◌}
use Rattle.sw_types.specs.declared.ty.Ty.{Ty}
use Rattle.sw_graph.specs.Mentions.{set_by}
use Rattle.sw_graph.specs.Placed.{SetsApart}
use Rattle.sw_graph.specs.declared.function.RegKind.{RegKind}
use Rattle.sw_graph.specs.declared.instr.Instr.{Instr}
use Rattle.sw_graph.specs.declared.instr.Operand.{Operand}
use Rattle.sw_lower_plans.specs.Run.{Making}
use Rattle.sw_lower_code.specs.Code.{Code}
use Rattle.sw_lower_code.specs.Whole.{Body}
use Rattle.sw_lower_rules.specs.Carriers.{ExprCode}
use Rattle.sw_lower_rules.specs.Expressions.{value}
use Rattle.sw_lower_rules.specs.Uses.{give}
use Rattle.sw_lower_placed_facts.specs.Allowed.{UseOk}
use Rattle.sw_lower_placed_facts.specs.Claims.{AreOrdinary, ReadPlaced}
use Rattle.sw_lower_placed_facts.specs.Placing.{Places, PlacesAt, PlacesWith}
use Rattle.sw_lower_placed_facts.specs.Hosts.{Program, Host}
use Rattle.sw_lower_placed_facts.proofs.Placing.Giving.{IsOfType, places_gives}
use Rattle.sw_lower_placed_facts.proofs.Placing.Joining.{places_any, places_weaker}

-- A register that was made holds the value, and this is so.
abbrev pub Gives : Program → Host → Making → Code Operand → Type 0 → Type 0
Gives program host s code So =
    PlacesAt program host s code (λ x t. (x.reg < length t.made.regs) × So)

module _ (program : Program) (host : Host) where
  -- what is known of an expression after it
  pub goes_read : (code : ExprCode) → ReadPlaced program host code
      → PlacesWith program host code.read (AreOrdinary program code.inside)
  goes_read code read s =
      places_weaker s code.read _ (λ x t. AreOrdinary program code.inside) (read s)
      (λ x t later so. so.1.1)

  -- an expression that isn't the word `self`
  pub read_placed : (code : ExprCode) → code.is_self ≡ false
      → ((s : Making) → Gives program host s code.read (AreOrdinary program code.inside))
      → ReadPlaced program host code
  read_placed code other gives s =
      places_weaker s code.read
      (λ x t. (x.reg < length t.made.regs) × AreOrdinary program code.inside) _ (gives s)
      (λ x t later so. (so.0, (λ is. absurd (true≢false (sym is ∙ other)), so.1)))

  pub value_placed : (key : ℕ) (read : Code Operand) (inside : List Body)
      → ((s : Making) → Gives program host s read (AreOrdinary program inside))
      → ReadPlaced program host (value key read inside)
  value_placed key read inside gives = read_placed (value key read inside) refl gives

  -- an instruction that uses nothing
  pub gives_value : (at : ℕ) (ty : Ty) (instr : ℕ → Instr) → ((r : ℕ) → set_by (instr r) ≡ Some r)
      → ((r : ℕ) (regs : List RegKind) → UseOk program host regs (instr r))
      → ((r : ℕ) → SetsApart (instr r)) → (So : Type 0) → So → (s : Making)
      → Gives program host s (give at ty instr) So
  gives_value at ty instr sets uses apart So so s =
      places_weaker s (give at ty instr) (IsOfType ty) (λ x t. (x.reg < length t.made.regs) × So)
      (places_gives at ty instr s sets (λ r t later new. uses r t.made.regs) (λ r is. apart r))
      (λ x t later typed. (typed.1, so))

  pub goes_give : (at : ℕ) (ty : Ty) (instr : ℕ → Instr) → ((r : ℕ) → set_by (instr r) ≡ Some r)
      → ((r : ℕ) (regs : List RegKind) → UseOk program host regs (instr r))
      → ((r : ℕ) → SetsApart (instr r)) → Places program host (give at ty instr)
  goes_give at ty instr sets uses apart s =
      places_any s (give at ty instr) _ (gives_value at ty instr sets uses apart (Unit {0}) tt s)
