-- The operands of an instruction: their registers, their values, and what these hold.
use Rattle.std.proofs.Common.{◌≡◌, ◌≢◌, ℕ, Option, Some, None, List, [], ◌∷◌, ◌++◌, map, Contains}
use Rattle.std.proofs.Common.{flat_map}
use Rattle.std.proofs.Common.{refl, sym, subst, ap, ◌∙◌, inl, inr}
use Rattle.std.specs.List.{slice_get}
use Rattle.std.specs.Option.{option_map, option_map_or}
use Rattle.std.proofs.lemmas.List.Elements.{Contains-append_left, Contains-append_right}
use Rattle.std.proofs.lemmas.List.Elements.{Contains-append_cases}
use Rattle.sw_list.proofs.Members.{first_in, first_or_later, later_in, none_in, of_flat_map}
use Rattle.sw_graph.specs.declared.function.Function.{Function}
use Rattle.sw_graph.specs.declared.graph.Graph.{Graph}
use Rattle.sw_graph.specs.declared.instr.Operand.{Operand}
use Rattle.sw_graph.specs.Clean.{IsClean}
use Rattle.sw_value.specs.declared.frame.Frame.{Frame}
use Rattle.sw_value.specs.declared.state.State.{State}
use Rattle.sw_value.specs.declared.value.Value.{Value}
use Rattle.sw_value.specs.Lists.{each_of}
use Rattle.sw_value.specs.Value.{operand_value, value_at, values_at}
use Rattle.sw_region_ops.specs.Elements.{element_at, elements_of}
use Rattle.sw_machine_kind_facts.specs.Kinded.{Kinded}
use Rattle.sw_owner_facts.specs.Colours.{Colour}
use Rattle.sw_owner_facts.specs.View.{Element, Register, Frame as Spot}
use Rattle.sw_region_facts.specs.Moves.{if_tracked, tracked}
use Rattle.sw_region_facts.proofs.Passed.{tracked_operand}
use Rattle.sw_reach_facts.specs.Coloured.{HaveColours}
use Rattle.sw_reach_facts.specs.Reached.{colours_of}
use Rattle.sw_view_facts.specs.Changes.{HoldsIn}
use Rattle.sw_view_facts.specs.Views.{Colours, colours_by, frame_at, here_at}
use Rattle.sw_store_facts.proofs.Bare.{untracked_bare}
use Rattle.sw_store_facts.proofs.Getting.{from_some}

-- each of the results is of a member
of_each : {X Y : Type 0} (g : X → Option Y) (xs : List X) (ys : List Y) (y : Y)
    → each_of g xs ≡ Some ys → Contains ys y → (x : X) × Contains xs x × (g x ≡ Some y)
of_each g [] ys y is has =
    let same : [] ≡ ys = cc in
    absurd (none_in y (subst (λ l. Contains l y) (sym same) has))
of_each {X} {Y} g (x ∷ xs) ys y is has =
    let first = from_some (λ z. option_map (λ zs. z ∷ zs) (each_of g xs)) (g x) ys is in
    rest first.0 first.1 (each_of g xs) refl first.2 (λ zs more there. of_each g xs zs y more there)
  where
    rest : (z : Y) → g x ≡ Some z → (o : Option (List Y)) → each_of g xs ≡ o
        → option_map (λ zs. z ∷ zs) o ≡ Some ys
        → ((zs : List Y) → each_of g xs ≡ Some zs → Contains zs y
        → (w : X) × Contains xs w × (g w ≡ Some y))
        → (w : X) × Contains (x ∷ xs) w × (g w ≡ Some y)
    rest z gives None none same on = absurd (let clash : ⊥ = cc in clash)
    rest z gives (Some zs) more same on =
        let are : z ∷ zs ≡ ys = cc in
        elim (first_or_later z zs y (subst (λ l. Contains l y) (sym are) has)) [
          | inl here ↦ (x, first_in x xs, gives ∙ ap Some here)
          | inr there ↦
              let found = on zs more there in
              (found.0, later_in x xs found.0 found.1, found.2)
        ]

-- each of the values is that of an operand
pub of_operand : (regs : List (Option Value)) (args : List Operand) (values : List Value)
    (v : Value) → values_at regs args ≡ Some values → Contains values v
    → (o : Operand) × Contains args o × (operand_value regs o ≡ Some v)
of_operand regs = of_each (operand_value regs)

-- a tracked operand is among the tracked ones
pub among_tracked : (elements : List (Option ℕ)) (operands : List Operand) (o : Operand) (n : ℕ)
    → Contains operands o → element_at elements o.reg ≡ Some n
    → Contains (tracked elements operands) (Register o.reg)
among_tracked elements [] o n has is = absurd (none_in o has)
among_tracked elements (first ∷ operands) o n has is = elim (first_or_later first operands o has) [
  | inl same ↦ Contains-append_left
      (if_tracked (element_at elements first.reg) (Register first.reg ∷ []))
      (tracked elements operands) (Register o.reg)
      (subst (λ (p : Operand). Contains
      (if_tracked (element_at elements p.reg) (Register p.reg ∷ [])) (Register o.reg)) (sym same)
      (subst (λ k. Contains (if_tracked k (Register o.reg ∷ [])) (Register o.reg)) (sym is)
      (first_in (Register o.reg) [])))
  | inr there ↦ Contains-append_right
      (if_tracked (element_at elements first.reg) (Register first.reg ∷ []))
      (tracked elements operands) (Register o.reg)
      (among_tracked elements operands o n there is)
]

-- the register of an operand is among those that are read
among_registers : (operands : List Operand) (o : Operand) → Contains operands o
    → Contains (map (λ (operand : Operand). operand.reg) operands) o.reg
among_registers [] o has = absurd (none_in o has)
among_registers (first ∷ operands) o has = elim (first_or_later first operands o has) [
  | inl same ↦ subst (λ (p : Operand). Contains
      (first.reg ∷ map (λ (operand : Operand). operand.reg) operands) p.reg) same
      (first_in first.reg (map (λ (operand : Operand). operand.reg) operands))
  | inr there ↦ later_in first.reg (map (λ (operand : Operand). operand.reg) operands) o.reg
      (among_registers operands o there)
]

-- no tracked operand is in a register that none of the operands is in
pub operands_apart : (elements : List (Option ℕ)) (args : List Operand) (r : ℕ)
    → (Contains (map (λ (operand : Operand). operand.reg) args) r → ⊥) → (y : Element)
    → Contains (tracked elements args) y → y ≢ Register r
operands_apart elements args r never y has is =
    let of = tracked_operand elements args y has in
    let both : Register of.0.reg ≡ Register r = sym of.2 ∙ is in
    let same : of.0.reg ≡ r = cc in
    never (subst (Contains (map (λ (operand : Operand). operand.reg) args)) same
    (among_registers args of.0 of.1))

-- each of the colours is held by one of the elements
abbrev pub HeldBy : State → Colours → Spot → Frame → List Element → List Colour → Type 0
HeldBy state colours q f xs cs = (c : Colour) → Contains cs c
    → (y : Element) × Contains xs y × HoldsIn state colours f (here_at colours q) y c

pub both_held : (state : State) (colours : Colours) (q : Spot) (f : Frame) (xs : List Element)
    (cs ds : List Colour) → HeldBy state colours q f xs cs → HeldBy state colours q f xs ds
    → HeldBy state colours q f xs (cs ++ ds)
both_held state colours q f xs cs ds first then c has =
    elim (Contains-append_cases cs ds c has) [
      | inl left ↦ first c left
      | inr right ↦ then c right
    ]

module _ (graph : Graph) (clean : IsClean graph) (state : State) (kinded : Kinded graph state)
    (colours : Colours) (have : HaveColours graph state.cells colours.cells) (q : Spot) (f : Frame)
    (there : frame_at state q ≡ Some f) (function : Function)
    (is : slice_get graph.functions f.function ≡ Some function) where
  abbrev elements : List (Option ℕ)
  elements = elements_of graph.shapes function.regs

  -- a register that reaches a colour is tracked
  pub reaching_tracked : (r : ℕ) (c : Colour)
      → Contains (colours_by state colours (Some f) r) c
      → (n : ℕ) × (element_at elements r ≡ Some n)
  reaching_tracked r c shows = by (element_at elements r) refl where
    by : (o : Option ℕ) → element_at elements r ≡ o → (n : ℕ) × (element_at elements r ≡ Some n)
    by None none =
        absurd (untracked_bare graph clean state kinded colours have q f there function is r none c
        shows)
    by (Some n) at = (n, at)

  pub register_held : (operands : List Operand) (o : Operand) → Contains operands o
      → HeldBy state colours q f (tracked elements operands)
      (colours_by state colours (Some f) o.reg)
  register_held operands o among c shows =
      let at = reaching_tracked o.reg c shows in
      (Register o.reg, among_tracked elements operands o at.0 among at.1, shows)

  -- what the value of a register reaches, the register does
  pub value_reaches : (r : ℕ) (v : Value) → value_at f.regs r ≡ Some v → (c : Colour)
      → Contains (colours_of state.cells colours.cells v) c
      → Contains (colours_by state colours (Some f) r) c
  value_reaches r v has c shows = subst
      (λ p. Contains (option_map_or (colours_of state.cells colours.cells) p []) c) (sym has) shows

  pub value_held : (operands : List Operand) (o : Operand) (v : Value) → Contains operands o
      → operand_value f.regs o ≡ Some v
      → HeldBy state colours q f (tracked elements operands)
      (colours_of state.cells colours.cells v)
  value_held operands o v among has c shows =
      register_held operands o among c (value_reaches o.reg v has c shows)

  -- what the values of operands reach is held by the tracked ones
  pub values_held : (operands : List Operand) (values : List Value)
      → values_at f.regs operands ≡ Some values
      → HeldBy state colours q f (tracked elements operands)
      (flat_map (colours_of state.cells colours.cells) values)
  values_held operands values are c has =
      let part = of_flat_map (colours_of state.cells colours.cells) values c has in
      let of = of_operand f.regs operands values part.0 are part.1 in
      value_held operands of.0 part.0 of.1 of.2 c part.2
