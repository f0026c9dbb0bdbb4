-- The last instruction of a block that was given one.
use Rattle.std.proofs.Common.{◌≡◌, ◌≢◌, ℕ, ◌⊎◌, inl, inr, true, false, List, [], ◌∷◌, subst}
use Rattle.std.proofs.Common.{sym, ap}
use Rattle.std.specs.Prelude.{All, ◌==◌, if◌then◌else◌}
use Rattle.std.proofs.lemmas.Bool.Decides.{eqb_tells}
use Rattle.std.proofs.lemmas.List.Elements.{All-head, All-tail}
use Rattle.sw_graph.specs.declared.instr.Last.{Last}
use Rattle.sw_lower_plans.specs.Plan.{Ended, ended_in}
use Rattle.sw_lower_return_facts.specs.Flows.{HasLast}

-- The block with a number was given this last instruction, of which something is so.
pub record Given (P : Ended → Type 0) (number : ℕ) (last : Last) : Type 0 where
  pub one : Ended
  pub holds : P one
  pub block : one.block ≡ number
  pub is : last ≡ one.last

last_now : (P : Ended → Type 0) (number : ℕ) (one : Ended) (last : Last) → P one
    → Given P number last ⊎ (one.block ≡ number)
    → Given P number (if one.block == number then one.last else last)
last_now P number one last holds before = by (eqb_tells one.block number) before where
  by : (((one.block == number) ≡ true) × (one.block ≡ number))
      ⊎ (((one.block == number) ≡ false) × (one.block ≢ number))
      → Given P number last ⊎ (one.block ≡ number)
      → Given P number (if one.block == number then one.last else last)
  by (inl is) before = record {
    one = one;
    holds = holds;
    block = is.1;
    is = ap (λ here. if here then one.last else last) is.0;
  }
  by (inr other) (inl given) =
      subst (λ here. Given P number (if here then one.last else last)) (sym other.0) given
  by (inr other) (inr same) = absurd (other.1 same)

pub last_given : (P : Ended → Type 0) (number : ℕ) (lasts : List Ended) (last : Last) → All P lasts
    → Given P number last ⊎ HasLast number lasts → Given P number (ended_in number lasts last)
last_given P number [] last all (inl given) = given
last_given P number [] last all (inr has) = absurd has
last_given P number (one ∷ lasts) last all (inl given) =
    last_given P number lasts (if one.block == number then one.last else last)
    (All-tail P one lasts all)
    (inl (last_now P number one last (All-head P one lasts all) (inl given)))
last_given P number (one ∷ lasts) last all (inr (inl same)) =
    last_given P number lasts (if one.block == number then one.last else last)
    (All-tail P one lasts all)
    (inl (last_now P number one last (All-head P one lasts all) (inr same)))
last_given P number (one ∷ lasts) last all (inr (inr has)) =
    last_given P number lasts (if one.block == number then one.last else last)
    (All-tail P one lasts all) (inr has)
