-- The state after an instruction has made a cell, before colours become one.
use Rattle.std.proofs.Common.{◌≡◌, ◌≢◌, ◌+◌, ◌<◌, ℕ, true, Option, Some, None, List, [], ◌∷◌, ◌++◌}
use Rattle.std.proofs.Common.{length, Contains, refl, sym, subst, ap, ◌∙◌, arith}
use Rattle.std.specs.List.{slice_get}
use Rattle.std.specs.Option.{option_map_or}
use Rattle.sw_list.proofs.Members.{in_one}
use Rattle.sw_graph.specs.declared.function.Function.{Function}
use Rattle.sw_graph.specs.declared.graph.Graph.{Graph}
use Rattle.sw_graph.specs.declared.instr.Instr.{Instr}
use Rattle.sw_graph.specs.declared.instr.Operand.{Operand}
use Rattle.sw_graph.specs.Mentions.{and_then_all, registers_of, set_by, reads}
use Rattle.sw_graph.specs.Points.{Middle, point_in}
use Rattle.sw_list.proofs.ListLemmas.{at_index}
use Rattle.sw_value.specs.declared.cell.HeapCell.{HeapCell}
use Rattle.sw_value.specs.declared.effect.Effect.{Effect}
use Rattle.sw_value.specs.declared.effect.Effect.TheVariants.{New}
use Rattle.sw_value.specs.declared.frame.Frame.{Frame}
use Rattle.sw_value.specs.declared.job.Job.{Job}
use Rattle.sw_value.specs.declared.state.State.{State}
use Rattle.sw_value.specs.declared.value.Value.{Value}
use Rattle.sw_value.specs.declared.value.Value.TheVariants as value
use Rattle.sw_value.specs.Effect.{point_effect}
use Rattle.sw_value.specs.Frame.{finish_instr}
use Rattle.sw_value.specs.Reach.{after_effect}
use Rattle.sw_value.specs.State.{add_cell, in_job}
use Rattle.sw_value.specs.Value.{value_at, values_at}
use Rattle.sw_partition.specs.Regions.{Regions}
use Rattle.sw_region_ops.specs.Elements.{element_at, elements_of}
use Rattle.sw_machine_kind_facts.specs.Kinded.{KindedLater}
use Rattle.sw_machine_kind_facts.specs.Standing.{FrameFits}
use Rattle.sw_machine_kind_facts.proofs.ItemLemmas.{set_here}
use Rattle.sw_machine_kind_facts.proofs.NeverStuck.{step_kinded}
use Rattle.sw_machine_kind_facts.proofs.OperandLemmas.{function_fits, instr_fits}
use Rattle.sw_owner_facts.specs.Colours.{Colour}
use Rattle.sw_owner_facts.specs.View.{Element, Here, Register, Frame as Spot}
use Rattle.sw_reach_facts.specs.Coloured.{HaveColours, may_have_colour}
use Rattle.sw_reach_facts.specs.Named.{NamesCells}
use Rattle.sw_reach_facts.specs.Reached.{colours_of}
use Rattle.sw_view_facts.specs.Changes.{HoldsIn, KeepsReach}
use Rattle.sw_view_facts.specs.Effects.{turn_of}
use Rattle.sw_view_facts.specs.Memory.{coloured_more}
use Rattle.sw_view_facts.specs.Standing.{StandsAt}
use Rattle.sw_view_facts.specs.Steps.{ChangesFrame}
use Rattle.sw_view_facts.specs.Views.{Colours, colours_by, here_at}
use Rattle.sw_view_facts.proofs.EffectLemmas.{others_kept, reach_added}
use Rattle.sw_view_facts.proofs.NewLemmas.{new_shows, registers_name}
use Rattle.sw_store_facts.specs.Sound.{IsColoured}
use Rattle.sw_store_facts.proofs.Bare.{fits_at, untracked_bare}
use Rattle.sw_store_facts.proofs.Stepping.{changes, frame_is, next_state, steps}
use Rattle.sw_secure_cell_facts.proofs.Adding.{have_added}
use Rattle.sw_store_facts.proofs.Operands.{of_operand}

module _ (graph : Graph) (states : ℕ → List (Option Regions)) (state : State) (colours : Colours)
    (s : IsColoured graph states state colours) (count : length colours.cells ≡ length state.cells)
    (q : Spot) (job : Job) (f : Frame) (function : Function) (instr : Instr)
    (x : StandsAt graph state q job f function (Middle instr)) (r : ℕ) (cell : HeapCell)
    (sets_r : set_by instr ≡ Some r)
    (gives : point_effect graph state (length job.frames) f (Middle instr)
    ≡ New r cell (length state.cells) (f.point + 1)) (colour : Option Colour)
    (may : (own : Colour) → colour ≡ Some own → may_have_colour graph cell ≡ true) where
  abbrev elements : List (Option ℕ)
  elements = elements_of graph.shapes function.regs

  abbrev pub effect : Effect
  effect = New r cell (length state.cells) (f.point + 1)

  abbrev pub turned : Frame
  turned = turn_of effect f

  abbrev next : State
  next = next_state graph states state colours s q job f function instr x

  abbrev pub more : Colours
  more = coloured_more colour colours

  pub stepped : next ≡ after_effect q.job effect state
  stepped = steps graph states state colours s q job f function instr x effect refl refl gives

  pub change : ChangesFrame state next q f turned
  change = changes graph states state colours s q job f function instr x effect refl refl gives

  pub cells_now : next.cells ≡ state.cells ++ cell ∷ []
  unfolding in_job add_cell
  cells_now = ap (λ (t : State). t.cells) stepped

  pub globals_now : next.globals ≡ state.globals
  unfolding in_job add_cell
  globals_now = ap (λ (t : State). t.globals) stepped

  abbrev pub kinded_now : KindedLater graph s.kinded.world next
  kinded_now = step_kinded graph s.supplied state q.job s.kinded

  pub have_now : HaveColours graph next.cells more.cells
  have_now = have_added graph state next colours cell colour count cells_now s.have may

  -- what registers reach stays
  pub keeps : KeepsReach state next colours more
  keeps = subst (λ t. KeepsReach state t colours more) (sym stepped)
      (reach_added state colours q.job r cell (length state.cells) (f.point + 1) colour count
      (registers_name graph state s.kinded))

  -- the values of operands refer to cells that were there
  pub operands_named : (args : List Operand) (values : List Value)
      → values_at f.regs args ≡ Some values → (v : Value) → Contains values v
      → NamesCells state.cells v
  operands_named args values are v has =
      let of = of_operand f.regs args values v are has in
      registers_name graph state s.kinded q f of.0.reg v
      (frame_is graph states state colours s q job f function instr x) of.2

  -- any other element holds what it held
  pub holds_still : (y : Element) (c : Colour) → y ≢ Register r
      → HoldsIn state colours f (here_at colours q) y c
      → HoldsIn next more turned (here_at more q) y c
  holds_still Here c differ holds = holds
  holds_still (Register k) c differ holds = by (value_at f.regs k) refl
      (others_kept effect f k (λ same. differ (ap Register
      (let both : Some r ≡ Some k = same in let e : k ≡ r = cc in e)))) holds
    where
      by : (o : Option Value) → value_at f.regs k ≡ o
          → value_at turned.regs k ≡ value_at f.regs k
          → Contains (colours_by state colours (Some f) k) c
          → Contains (colours_by next more (Some turned) k) c
      by None is kept holds = subst (λ p. Contains
          (option_map_or (colours_of next.cells more.cells) p []) c) (sym (kept ∙ is))
          (subst (λ p. Contains (option_map_or (colours_of state.cells colours.cells) p []) c) is
          holds)
      by (Some v) is kept holds = subst (λ p. Contains
          (option_map_or (colours_of next.cells more.cells) p []) c) (sym (kept ∙ is))
          (subst (λ l. Contains l c) (sym (keeps q f k v
          (frame_is graph states state colours s q job f function instr x) is))
          (subst (λ p. Contains (option_map_or (colours_of state.cells colours.cells) p []) c) is
          holds))

  inside : r < length f.regs
  inside =
      let fits : (awaits : Option ℕ) × FrameFits graph s.kinded.world.cells awaits f =
      fits_at graph state s.kinded q f
      (frame_is graph states state colours s q job f function instr x) in
      by fits.1 (let both : Some fits.1.function ≡ Some function = sym fits.1.is ∙ x.is in cc)
    where
      by : {awaits : Option ℕ} (fits : FrameFits graph s.kinded.world.cells awaits f)
          → fits.function ≡ function → r < length f.regs
      by fits same =
          let registers = (instr_fits graph fits.function
          (function_fits graph f.function fits.function fits.is) f.point fits.stands.place instr
          (ap (λ (b : Function). point_in b f.point) same ∙ x.here)).registers in
          let below = at_index (λ n. n < length fits.function.regs) (registers_of instr) 0 r
          registers (ap (λ o. slice_get (and_then_all o (reads instr)) 0) sets_r) in
          let count = fits.stands.slots.count in
          omega (arith, below, count)

  -- the register refers to the new cell
  pub refers : value_at turned.regs r ≡ Some (value.Cell (length state.cells))
  unfolding finish_instr
  refers = set_here f.regs r (value.Cell (length state.cells)) inside

  -- if the register isn't tracked, it reaches nothing
  pub untracked_nothing : element_at elements r ≡ None → (c : Colour)
      → Contains (colours_by next more (Some turned) r) c → ⊥
  untracked_nothing none c has =
      untracked_bare graph s.clean next kinded_now.kinded more have_now q turned change.now function
      (ap (slice_get graph.functions) change.call.function ∙ x.is) r none c has

  -- a register that gets a cell with a colour shows that
  pub shows_own : (own : Colour) → colour ≡ Some own
      → Contains (colours_by next more (Some turned) r) own
  shows_own own is = subst (λ p. Contains (option_map_or (colours_of next.cells more.cells) p [])
      own) (sym refers)
      (subst (λ l. Contains l own)
      (sym (ap (λ cells. colours_of cells more.cells (value.Cell (length state.cells))) cells_now
      ∙ ap (λ o. colours_of (state.cells ++ cell ∷ []) (colours.cells ++ o ∷ [])
      (value.Cell (length state.cells))) is
      ∙ new_shows state.cells colours.cells cell own count)) (in_one own))

  -- so it is tracked
  pub is_tracked : (own : Colour) → colour ≡ Some own
      → (number : ℕ) × (element_at elements r ≡ Some number)
  is_tracked own is = by (element_at elements r) refl where
    by : (o : Option ℕ) → element_at elements r ≡ o
        → (number : ℕ) × (element_at elements r ≡ Some number)
    by None none = absurd (untracked_nothing none own (shows_own own is))
    by (Some number) is = (number, is)
