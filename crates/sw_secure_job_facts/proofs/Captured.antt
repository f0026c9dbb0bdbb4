-- What the captures of a task reach: tracked registers of the maker hold it.
use Rattle.std.specs.Option.{option_and_then, option_map, option_map_or}
use Rattle.std.specs.List.{slice_get}
use Rattle.std.proofs.Common.{◌≡◌, ◌-◌, ℕ, zero, suc, Option, Some, None, List, [], ◌∷◌, ◌++◌}
use Rattle.std.proofs.Common.{length, map, replicate, Contains, refl, sym, subst, ap, ◌∙◌, arith}
use Rattle.std.proofs.Common.{inl}
use Rattle.std.proofs.Common.{inr}
use Rattle.std.proofs.lemmas.List.Elements.{Contains-append_left, Contains-append_right}
use Rattle.std.proofs.lemmas.Option.{slice_get-map}
use Rattle.sw_list.proofs.ListLemmas.{some_injective}
use Rattle.sw_list.proofs.Members.{first_or_later, in_one, member_at, none_in, of_flat_map, stands_at}
use Rattle.sw_graph.specs.declared.function.Function.{Function}
use Rattle.sw_graph.specs.declared.graph.Graph.{Graph}
use Rattle.sw_graph.specs.declared.instr.Operand.{Operand}
use Rattle.sw_value.specs.declared.frame.Frame.{Frame}
use Rattle.sw_value.specs.declared.state.State.{State}
use Rattle.sw_value.specs.declared.value.Value.{Value}
use Rattle.sw_value.specs.Lists.{each_of}
use Rattle.sw_value.specs.Value.{operand_value, registers, values_at}
use Rattle.sw_partition.specs.Regions.{Regions}
use Rattle.sw_region_ops.specs.Elements.{element_at, elements_of}
use Rattle.sw_owner_facts.specs.Colours.{Colour}
use Rattle.sw_owner_facts.specs.View.{Element, Register, Frame as Spot}
use Rattle.sw_region_facts.specs.Moves.{if_tracked, tracked}
use Rattle.sw_reach_facts.specs.Reached.{colours_of}
use Rattle.sw_view_facts.specs.Changes.{HoldsIn}
use Rattle.sw_view_facts.specs.Views.{Colours, colours_by, frame_at, here_at}
use Rattle.sw_store_facts.specs.Sound.{IsColoured}
use Rattle.sw_store_facts.proofs.Bare.{untracked_bare}
use Rattle.sw_secure_facts.specs.Painting.{passed, reached_by_all}

-- ---- lists
pub first_in : {X : Type 0} (x : X) (xs : List X) → Contains (x ∷ xs) x
first_in x xs = (zero, omega arith, refl)

pub later_in : {X : Type 0} (x : X) (xs : List X) (y : X) → Contains xs y → Contains (x ∷ xs) y
later_in x xs y has = (suc has.0, (let inside = has.1 in omega (arith, inside)), has.2)

pub in_map : {X Y : Type 0} (g : X → Y) (xs : List X) (x : X) → Contains xs x
    → Contains (map g xs) (g x)
in_map g xs x has =
    let at = stands_at xs x has in
    member_at (map g xs) at.0 (g x) (slice_get-map g xs at.0 ∙ ap (option_map g) at.1)

-- each of the results is of a member
pub of_each : {X Y : Type 0} (g : X → Option Y) (xs : List X) (ys : List Y) (y : Y)
    → each_of g xs ≡ Some ys → Contains ys y → (x : X) × Contains xs x × (g x ≡ Some y)
of_each g [] ys y is has = absurd (none_in y (subst (λ l. Contains l y)
    (let same : ys ≡ [] = cc in same) has))
of_each {X} {Y} g (x ∷ xs) ys y is has =
    first (g x) refl is (λ zs rest there. of_each g xs zs y rest there)
  where
    more : (z : Y) → g x ≡ Some z → (o : Option (List Y)) → each_of g xs ≡ o
        → option_map (λ zs. z ∷ zs) o ≡ Some ys
        → ((zs : List Y) → each_of g xs ≡ Some zs → Contains zs y
        → (w : X) × Contains xs w × (g w ≡ Some y))
        → (w : X) × Contains (x ∷ xs) w × (g w ≡ Some y)
    more z gives None rest is on = absurd (let clash : ⊥ = cc in clash)
    more z gives (Some zs) rest is on =
        let are : ys ≡ z ∷ zs = sym (some_injective is) in
        elim (first_or_later z zs y (subst (λ l. Contains l y) are has)) [
          | inl here ↦ (x, first_in x xs, gives ∙ ap Some here)
          | inr there ↦
              let found = on zs rest there in (found.0, later_in x xs found.0 found.1, found.2)
        ]

    first : (o : Option Y) → g x ≡ o
        → option_and_then (λ z. option_map (λ zs. z ∷ zs) (each_of g xs)) o ≡ Some ys
        → ((zs : List Y) → each_of g xs ≡ Some zs → Contains zs y
        → (w : X) × Contains xs w × (g w ≡ Some y))
        → (w : X) × Contains (x ∷ xs) w × (g w ≡ Some y)
    first None gives is on = absurd (let clash : ⊥ = cc in clash)
    first (Some z) gives is on = more z gives (each_of g xs) refl is on

pub length-each : {X Y : Type 0} (g : X → Option Y) (xs : List X) (ys : List Y)
    → each_of g xs ≡ Some ys → length ys ≡ length xs
length-each g [] ys is = ap (λ l. length l) (sym (some_injective is))
length-each {X} {Y} g (x ∷ xs) ys is = first (g x) is (λ zs rest. length-each g xs zs rest) where
  more : (z : Y) (o : Option (List Y)) → each_of g xs ≡ o → option_map (λ zs. z ∷ zs) o ≡ Some ys
      → ((zs : List Y) → each_of g xs ≡ Some zs → length zs ≡ length xs)
      → length ys ≡ suc (length xs)
  more z None rest is on = absurd (let clash : ⊥ = cc in clash)
  more z (Some zs) rest is on =
      ap (λ l. length l) (sym (some_injective is)) ∙ ap suc (on zs rest)

  first : (o : Option Y)
      → option_and_then (λ z. option_map (λ zs. z ∷ zs) (each_of g xs)) o ≡ Some ys
      → ((zs : List Y) → each_of g xs ≡ Some zs → length zs ≡ length xs)
      → length ys ≡ suc (length xs)
  first None is on = absurd (let clash : ⊥ = cc in clash)
  first (Some z) is on = more z (each_of g xs) refl is on

-- a tracked operand is among the tracked ones
pub among_tracked : (elements : List (Option ℕ)) (operands : List Operand) (o : Operand) (n : ℕ)
    → Contains operands o → element_at elements o.reg ≡ Some n
    → Contains (tracked elements operands) (Register o.reg)
among_tracked elements [] o n has is = absurd (none_in o has)
among_tracked elements (first ∷ operands) o n has is = elim (first_or_later first operands o has) [
  | inl same ↦ Contains-append_left
      (if_tracked (element_at elements first.reg) (Register first.reg ∷ []))
      (tracked elements operands) (Register o.reg)
      (subst (λ (p : Operand). Contains
      (if_tracked (element_at elements p.reg) (Register p.reg ∷ [])) (Register o.reg)) (sym same)
      (subst (λ k. Contains (if_tracked k (Register o.reg ∷ [])) (Register o.reg)) (sym is)
      (in_one (Register o.reg))))
  | inr there ↦ Contains-append_right
      (if_tracked (element_at elements first.reg) (Register first.reg ∷ []))
      (tracked elements operands) (Register o.reg)
      (among_tracked elements operands o n there is)
]

-- what is passed in the first registers is what the values reach
pub passed_is : (state : State) (colours : Colours) (n : ℕ) (values : List Value)
    → passed state colours [] (registers n values) ≡ reached_by_all state colours values
unfolding registers
passed_is state colours n values = by values (n - length values) where
  none : (k : ℕ) → passed state colours [] (replicate k None) ≡ []
  none zero = refl
  none (suc k) = refl

  by : (vs : List Value) (k : ℕ) → passed state colours [] (map Some vs ++ replicate k None)
      ≡ reached_by_all state colours vs
  by [] k = none k
  by (v ∷ vs) k = ap (λ l. colours_of state.cells colours.cells v ++ l) (by vs k)

module _ (graph : Graph) (states : ℕ → List (Option Regions)) (state : State) (colours : Colours)
    (s : IsColoured graph states state colours) (q : Spot) (f : Frame) (function : Function)
    (there : frame_at state q ≡ Some f)
    (is : slice_get graph.functions f.function ≡ Some function) (captures : List Operand)
    (values : List Value) (have : values_at f.regs captures ≡ Some values) where
  abbrev elements : List (Option ℕ)
  elements = elements_of graph.shapes function.regs

  -- a tracked register among the captures holds the colour
  pub record HeldIn (c : Colour) : Type 0 where
    pub element : Element
    pub among : Contains (tracked elements captures) element
    pub holds : HoldsIn state colours f (here_at colours q) element c

  pub value_held : (v : Value) → Contains values v → (c : Colour)
      → Contains (colours_of state.cells colours.cells v) c → HeldIn c
  value_held v among c has =
      let from = of_each (operand_value f.regs) captures values v have among in
      by from.0 from.1 from.2 (element_at elements from.0.reg) refl
    where
      by : (o : Operand) → Contains captures o → operand_value f.regs o ≡ Some v
          → (e : Option ℕ) → element_at elements o.reg ≡ e → HeldIn c
      by o inside gives None none = absurd (untracked_bare graph s.clean state s.kinded colours
          s.have q f there function is o.reg none c (shows o gives))
        where
          shows : (o : Operand) → operand_value f.regs o ≡ Some v
              → Contains (colours_by state colours (Some f) o.reg) c
          shows o gives = subst (λ l. Contains l c)
              (sym (ap (λ u. option_map_or (colours_of state.cells colours.cells) u []) gives)) has
      by o inside gives (Some n) one = record {
        element = Register o.reg;
        among = among_tracked elements captures o n inside one;
        holds = subst (λ l. Contains l c)
            (sym (ap (λ u. option_map_or (colours_of state.cells colours.cells) u []) gives)) has;
      }

  pub passed_held : (n : ℕ) (c : Colour)
      → Contains (passed state colours [] (registers n values)) c → HeldIn c
  passed_held n c has =
      let found = of_flat_map (colours_of state.cells colours.cells) values c
      (subst (λ l. Contains l c) (passed_is state colours n values) has) in
      value_held found.0 found.1 c found.2
