-- The operands of an instruction at which a frame stands: their values, and what they hold.
use Rattle.std.proofs.Common.{◌≡◌, ℕ, zero, suc, Option, Some, None, List, []}
use Rattle.std.proofs.Common.{◌∷◌, length, Contains, refl, sym, ap, ◌∙◌, arith}
use Rattle.std.specs.Option.{option_and_then, option_map}
use Rattle.std.specs.List.{slice_get}
use Rattle.std.proofs.lemmas.Option.{slice_get_within}
use Rattle.sw_list.proofs.ListLemmas.{some_injective}
use Rattle.sw_graph.specs.declared.function.Function.{Function}
use Rattle.sw_graph.specs.declared.graph.Graph.{Graph}
use Rattle.sw_graph.specs.declared.instr.Instr.{Instr}
use Rattle.sw_graph.specs.declared.instr.Operand.{Operand}
use Rattle.sw_graph.specs.Points.{Middle}
use Rattle.sw_value.specs.declared.frame.Frame.{Frame}
use Rattle.sw_value.specs.declared.job.Job.{Job}
use Rattle.sw_value.specs.declared.state.State.{State}
use Rattle.sw_value.specs.declared.value.Value.{Value}
use Rattle.sw_value.specs.Value.{value_at, values_at}
use Rattle.sw_partition.specs.Regions.{Regions}
use Rattle.sw_region_ops.specs.Elements.{element_at, elements_of}
use Rattle.sw_machine_kind_facts.proofs.ItemLemmas.{found_within}
use Rattle.sw_owner_facts.specs.Colours.{Colour}
use Rattle.sw_owner_facts.specs.View.{Register, Frame as Spot}
use Rattle.sw_reach_facts.specs.Reached.{colours_of}
use Rattle.sw_view_facts.specs.Changes.{HoldsIn}
use Rattle.sw_view_facts.specs.Standing.{StandsAt}
use Rattle.sw_view_facts.specs.Views.{Colours, frame_at, here_at}
use Rattle.sw_store_facts.proofs.Operands.{reaching_tracked, value_reaches}
use Rattle.sw_store_facts.proofs.Stepping as step
use Rattle.sw_secure_facts.specs.Secure.{IsSecure}

-- ---- values of operands
record EachParts (regs : List (Option Value)) (o : Operand) (os : List Operand)
    (values : List Value) : Type 0 where
  first : Value
  rest : List Value
  has : value_at regs o.reg ≡ Some first
  have : values_at regs os ≡ Some rest
  are : values ≡ first ∷ rest

each_parts : (regs : List (Option Value)) (o : Operand) (os : List Operand) (values : List Value)
    → values_at regs (o ∷ os) ≡ Some values → EachParts regs o os values
each_parts regs o os values is = by (value_at regs o.reg) refl (values_at regs os) refl is where
  by : (v : Option Value) → value_at regs o.reg ≡ v → (vs : Option (List Value))
      → values_at regs os ≡ vs
      → option_and_then (λ y. option_map (λ ys. y ∷ ys) vs) v ≡ Some values
      → EachParts regs o os values
  by None has vs have is = absurd (let clash : ⊥ = cc in clash)
  by (Some v) has None have is = absurd (let clash : ⊥ = cc in clash)
  by (Some v) has (Some vs) have is =
      record { first = v; rest = vs; has = has; have = have; are = sym (some_injective is) }

pub record OperandOf (regs : List (Option Value)) (args : List Operand) (k : ℕ) (v : Value)
    : Type 0 where
  pub operand : Operand
  pub at : slice_get args k ≡ Some operand
  pub has : value_at regs operand.reg ≡ Some v

pub operand_of : (regs : List (Option Value)) (args : List Operand) (values : List Value) (k : ℕ)
    (v : Value) → values_at regs args ≡ Some values → slice_get values k ≡ Some v
    → OperandOf regs args k v
operand_of regs [] values k v are at =
    let none : values ≡ [] = sym (some_injective are) in
    let clash : None ≡ Some v = ap (λ l. slice_get l k) (sym none) ∙ at in
    absurd (let no : ⊥ = cc in no)
operand_of regs (o ∷ os) values zero v are at =
    let p = each_parts regs o os values are in
    let same : p.first ≡ v = some_injective (ap (λ l. slice_get l 0) (sym p.are) ∙ at) in
    record { operand = o; at = refl; has = p.has ∙ ap Some same }
operand_of regs (o ∷ os) values (suc k) v are at =
    let p = each_parts regs o os values are in
    let more = operand_of regs os p.rest k v p.have
    (ap (λ l. slice_get l (suc k)) (sym p.are) ∙ at) in
    record { operand = more.operand; at = more.at; has = more.has }

pub count_of : (regs : List (Option Value)) (args : List Operand) (values : List Value)
    → values_at regs args ≡ Some values → length values ≡ length args
count_of regs [] values are = ap length (sym (some_injective are))
count_of regs (o ∷ os) values are =
    let p = each_parts regs o os values are in
    ap length p.are ∙ ap suc (count_of regs os p.rest p.have)

pub value_of_first : (regs : List (Option Value)) (args : List Operand) (values : List Value)
    (o : Operand) → values_at regs args ≡ Some values → slice_get args 0 ≡ Some o
    → (v : Value) × (slice_get values 0 ≡ Some v) × (value_at regs o.reg ≡ Some v)
value_of_first regs args values o are at =
    let count = count_of regs args values are in
    let some = slice_get_within args 0 o at in
    let v = found_within values 0 (omega (arith, count, some)) in
    let p = operand_of regs args values 0 v.0 are v.1 in
    let same : p.operand ≡ o = some_injective (sym p.at ∙ at) in
    (v.0, v.1, ap (λ (a : Operand). value_at regs a.reg) (sym same) ∙ p.has)

module _ (graph : Graph) (states : ℕ → List (Option Regions)) (state : State) (colours : Colours)
    (secure : IsSecure graph states state colours) (q : Spot) (job : Job) (f : Frame)
    (function : Function) (instr : Instr)
    (x : StandsAt graph state q job f function (Middle instr)) where
  abbrev elements : List (Option ℕ)
  elements = elements_of graph.shapes function.regs

  frame_is : frame_at state q ≡ Some f
  frame_is = step.frame_is graph states state colours secure.coloured q job f function instr x

  -- what the value of a register reaches, the register holds
  pub holds_value : (r : ℕ) (v : Value) (d : Colour) → value_at f.regs r ≡ Some v
      → Contains (colours_of state.cells colours.cells v) d
      → HoldsIn state colours f (here_at colours q) (Register r) d
  holds_value r v d has = value_reaches graph secure.coloured.clean state secure.coloured.kinded
      colours secure.coloured.have q f frame_is function x.is r v has d

  -- so that it is tracked
  pub tracked_at : (r : ℕ) (v : Value) (d : Colour) → value_at f.regs r ≡ Some v
      → Contains (colours_of state.cells colours.cells v) d
      → (number : ℕ) × (element_at elements r ≡ Some number)
  tracked_at r v d has shows = reaching_tracked graph secure.coloured.clean state
      secure.coloured.kinded colours secure.coloured.have q f frame_is function x.is r d
      (holds_value r v d has shows)
