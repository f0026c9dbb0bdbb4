-- Registers that have the values of temporaries, of variables and of operands.
use Rattle.std.proofs.Common.{◌≡◌, ℕ, zero, suc, ◌<◌, Option, Some, List, [], ◌∷◌, length, map}
use Rattle.std.proofs.Common.{refl, ap, sym, ◌∙◌, subst, arith}
use Rattle.std.specs.Prelude.{slice_get, slice_set, option_and_then, option_map}
use Rattle.std.specs.List.{AllByRecursion}
use Rattle.sw_graph.specs.declared.instr.Operand.{Operand}
use Rattle.sw_lower_plans.specs.Plan.{var_in}
use Rattle.sw_lower_plans.specs.declared.bound.Bound.{Bound}
use Rattle.sw_value.specs.declared.value.Value.{Value}
use Rattle.sw_value.specs.Lists.{changed_at, each_of}
use Rattle.sw_value.specs.Printed.{text_at, text_of}
use Rattle.sw_value.specs.Value.{operand_value, value_at, values_at}
use Rattle.sw_value.proofs.ListLemmas.{changed_at_there, set_there}
use Rattle.sw_machine_access_facts.proofs.CellLemmas.{set_other}
use Rattle.sw_machine_kind_facts.proofs.ItemLemmas.{found_within}
use Rattle.sw_spots.specs.Spots.{IsSeen}
use Rattle.sw_tree_step.specs.State.{Env, Room}
use Rattle.sw_tree_same.specs.Frames.{AreTemps, AreVars, IsRoom}

-- one of the registers is set
pub value_other : (regs : List (Option Value)) (r s : ℕ) (v : Value) → (s ≡ r → ⊥)
    → value_at (slice_set regs r (Some v)) s ≡ value_at regs s
value_other regs r s v apart = ap (option_and_then (λ v. v)) (set_other regs r s (Some v) apart)

pub value_there : (regs : List (Option Value)) (r : ℕ) (v : Value) → r < length regs
    → value_at (slice_set regs r (Some v)) r ≡ Some v
value_there regs r v within =
    let found = found_within regs r within in
    ap (option_and_then (λ v. v)) (set_there regs r found.0 (Some v) found.1)

pub temps_set : (regs : List (Option Value)) (r : ℕ) (v : Value) (temps : List Value)
    (numbers : List ℕ) → AllByRecursion (λ s. s < r) numbers → AreTemps regs temps numbers
    → AreTemps (slice_set regs r (Some v)) temps numbers
temps_set regs r v [] [] below are = tt
temps_set regs r v (w ∷ temps) (s ∷ numbers) below are = (
  value_other regs r s v (λ same. let less = below.0 in omega (arith, less, same)) ∙ are.0,
  temps_set regs r v temps numbers below.1 are.1,
)
temps_set regs r v (w ∷ temps) [] below are = absurd are
temps_set regs r v [] (s ∷ numbers) below are = absurd are

pub room_set : (regs : List (Option Value)) (r : ℕ) (v : Value) (bound : Bound) (room : Room)
    → (bound.reg ≡ r → ⊥) → IsRoom regs bound room
    → IsRoom (slice_set regs r (Some v)) bound room
room_set regs r v bound room apart is = (is.0, value_other regs r bound.reg v apart ∙ is.1)

pub vars_set : (regs : List (Option Value)) (r : ℕ) (v : Value) (env : Env) (vars : List Bound)
    → ((key : ℕ) (bound : Bound) → var_in key vars ≡ Some bound → bound.reg < r)
    → AreVars regs env vars → AreVars (slice_set regs r (Some v)) env vars
vars_set regs r v env vars below are key bound is =
    let has = are key bound is in
    let less = below key bound is in
    record {
      room = has.room;
      found = has.found;
      is = room_set regs r v bound has.room (λ same. omega (arith, less, same)) has.is;
    }

-- fewer variables are seen
pub vars_seen : (regs : List (Option Value)) (env : Env) (vars more : List Bound)
    → IsSeen vars more → AreVars regs env more → AreVars regs env vars
vars_seen regs env vars more seen are key bound is = are key bound (seen key bound is)

-- a register that has a value is changed
pub set_by_change : (regs : List (Option Value)) (r : ℕ) (v : Value) (g : Value → Value)
    → value_at regs r ≡ Some v
    → changed_at (option_map g) r regs ≡ slice_set regs r (Some (g v))
set_by_change regs r v g is =
    changed_at_there (option_map g) r regs (Some v) (there regs r is) where
      there : (some : List (Option Value)) (n : ℕ) → value_at some n ≡ Some v
          → slice_get some n ≡ Some (Some v)
      there [] n is = cc
      there (o ∷ some) zero is = ap Some is
      there (o ∷ some) (suc n) is = there some n is

-- operands in such registers
abbrev Regs : List Operand → List ℕ
Regs os = map (λ (o : Operand). o.reg) os

values_by : (regs : List (Option Value)) (os : List Operand) (values : List Value)
    → AreTemps regs values (Regs os) → values_at regs os ≡ Some values
values_by regs [] [] are = refl
values_by regs (o ∷ os) (v ∷ values) are =
    ap (λ first. option_and_then (λ w. option_map (λ rest. w ∷ rest)
    (each_of (operand_value regs) os)) first) are.0
    ∙ ap (option_map (λ rest. v ∷ rest)) (values_by regs os values are.1)
values_by regs [] (v ∷ values) are = absurd are
values_by regs (o ∷ os) [] are = absurd are

pub values_are : (regs : List (Option Value)) (os : List Operand) (values : List Value)
    (numbers : List ℕ) → map (λ (o : Operand). o.reg) os ≡ numbers → AreTemps regs values numbers
    → values_at regs os ≡ Some values
values_are regs os values numbers is are =
    values_by regs os values (subst (AreTemps regs values) (sym is) are)

texts_by : (regs : List (Option Value)) (os : List Operand) (values : List Value)
    → AreTemps regs values (Regs os) → each_of (text_at regs) os ≡ each_of text_of values
texts_by regs [] [] are = refl
texts_by regs (o ∷ os) (v ∷ values) are =
    ap (λ first. option_and_then (λ text. option_map (λ rest. text ∷ rest)
    (each_of (text_at regs) os)) (option_and_then text_of first)) are.0
    ∙ ap (λ texts. option_and_then (λ text. option_map (λ rest. text ∷ rest) texts) (text_of v))
    (texts_by regs os values are.1)
texts_by regs [] (v ∷ values) are = absurd are
texts_by regs (o ∷ os) [] are = absurd are

pub texts_are : (regs : List (Option Value)) (os : List Operand) (values : List Value)
    (numbers : List ℕ) → map (λ (o : Operand). o.reg) os ≡ numbers → AreTemps regs values numbers
    → each_of (text_at regs) os ≡ each_of text_of values
texts_are regs os values numbers is are =
    texts_by regs os values (subst (AreTemps regs values) (sym is) are)
