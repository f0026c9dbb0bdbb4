-- What a register gets from the region of the code itself, and literals.
use Rattle.std.proofs.Common.{false, ◌≡◌, ◌+◌, ℕ, Option, Some, None, List, [], ◌∷◌, length}
use Rattle.std.proofs.Common.{Contains, refl, subst, flat_map}
use Rattle.sw_list.proofs.Members.{in_one, none_in}
use Rattle.sw_graph.specs.declared.function.Function.{Function}
use Rattle.sw_graph.specs.declared.graph.Graph.{Graph}
use Rattle.sw_graph.specs.declared.instr.Instr.{Instr}
use Rattle.sw_graph.specs.declared.instr.Instr.TheVariants.{Const, LoadGlobal, LoadProp}
use Rattle.sw_graph.specs.declared.instr.Literal.{Literal}
use Rattle.sw_graph.specs.declared.instr.Operand.{Operand}
use Rattle.sw_graph.specs.Bodies.{is_own}
use Rattle.sw_graph.specs.Mentions.{set_by}
use Rattle.sw_graph.specs.Points.{Middle}
use Rattle.sw_graph.specs.declared.instr.Literal.TheVariants as literal
use Rattle.sw_value.specs.declared.cell.Slot.TheVariants.{Part}
use Rattle.sw_value.specs.declared.effect.Effect.TheVariants.{Set}
use Rattle.sw_value.specs.declared.frame.Frame.{Frame}
use Rattle.sw_value.specs.declared.job.Job.{Job}
use Rattle.sw_value.specs.declared.state.State.{State}
use Rattle.sw_value.specs.declared.value.Value.{Value}
use Rattle.sw_value.specs.Effect.{loaded, point_effect}
use Rattle.sw_value.specs.Reach.{step_of}
use Rattle.sw_value.specs.Value.{value_at, value_of}
use Rattle.sw_value.specs.declared.value.Value.TheVariants as value
use Rattle.sw_partition.specs.Regions.{Regions}
use Rattle.sw_region_ops.specs.Elements.{element_at, elements_of}
use Rattle.sw_owner_facts.specs.Colours.{Colour}
use Rattle.sw_owner_facts.specs.View.{Element, Here, Frame as Spot}
use Rattle.sw_region_facts.specs.Moves.{if_tracked}
use Rattle.sw_region_facts.specs.Rows.{LoadsPart, SetsFromHere}
use Rattle.sw_region_facts.proofs.Comes.{sets_weaker}
use Rattle.sw_reach_facts.specs.Reached.{colours_of, shown_below}
use Rattle.sw_reach_facts.proofs.ReferenceLemmas.{references-int, references-truth}
use Rattle.sw_view_facts.specs.Changes.{HoldsIn}
use Rattle.sw_view_facts.specs.Effects.{turn_of}
use Rattle.sw_view_facts.specs.Standing.{StandsAt}
use Rattle.sw_view_facts.specs.Views.{Colours, colours_by, here_at, makes_itself}
use Rattle.sw_store_facts.specs.Sound.{HasSoundView, IsColoured, IsOfHere}
use Rattle.sw_store_facts.proofs.Copying.{reached, set_bare, set_sound}
use Rattle.sw_store_facts.proofs.Getting.{gets, no_maker}
use Rattle.sw_store_facts.proofs.Stepping.{next_state, row}

-- a literal reaches nothing
literal_bare : (state : State) (colours : Colours) (l : Literal) (c : Colour)
    → Contains (colours_of state.cells colours.cells (value_of l)) c → ⊥
unfolding colours_of
literal_bare state colours (literal.Int n) c has = none_in c (subst (λ l. Contains
    (flat_map (shown_below state.cells colours.cells (length state.cells)) l) c)
    (references-int (value.Int n) n (value.outs-Int n)) has)
literal_bare state colours (literal.Bool b) c has = none_in c (subst (λ l. Contains
    (flat_map (shown_below state.cells colours.cells (length state.cells)) l) c)
    (references-truth (value.Bool b) b (value.outs-Bool b)) has)

module _ (graph : Graph) (states : ℕ → List (Option Regions)) (state : State) (colours : Colours)
    (s : IsColoured graph states state colours) (q : Spot) (job : Job) (f : Frame)
    (function : Function) where
  abbrev elements : List (Option ℕ)
  elements = elements_of graph.shapes function.regs

  pub constants : (at dst : ℕ) (l : Literal)
      → StandsAt graph state q job f function (Middle (Const at dst l))
      → HasSoundView graph states (step_of graph state q.job) colours
  constants at dst l x =
      let here = row graph states state colours s q job f function (Const at dst l) x in
      set_sound graph states state colours s q job f function (Const at dst l) x
      (no_maker (is_own function.iso)) dst (value_of l) refl refl []
      (sets_weaker elements dst here.a here.c here.moves)
      (λ c in_r. absurd (literal_bare state colours l c
      (reached graph states state colours s q job f function (Const at dst l) x
      (no_maker (is_own function.iso)) dst (value_of l) refl refl c in_r)))

  -- a value that reaches the colour of `Here` alone
  here_sound : (instr : Instr) (x : StandsAt graph state q job f function (Middle instr))
      → makes_itself graph function (Middle instr) ≡ false → (dst : ℕ) (v : Value)
      → set_by instr ≡ Some dst
      → point_effect graph state (length job.frames) f (Middle instr) ≡ Set dst v (f.point + 1)
      → SetsFromHere elements dst (row graph states state colours s q job f function instr x).a
      (row graph states state colours s q job f function instr x).c
      → IsOfHere state colours q v → HasSoundView graph states (step_of graph state q.job) colours
  here_sound instr x ordinary dst v sets gives moves own =
      set_sound graph states state colours s q job f function instr x ordinary dst v sets gives
      (if_tracked (element_at elements dst) (Here ∷ [])) moves brings
    where
      brings : (c : Colour) → Contains (colours_by
          (next_state graph states state colours s q job f function instr x) colours
          (Some (turn_of (Set dst v (f.point + 1)) f)) dst) c
          → (y : Element) × Contains (if_tracked (element_at elements dst) (Here ∷ [])) y
          × HoldsIn state colours f (here_at colours q) y c
      brings c in_r = by (element_at elements dst) refl where
        by : (o : Option ℕ) → element_at elements dst ≡ o
            → (y : Element) × Contains (if_tracked o (Here ∷ [])) y
            × HoldsIn state colours f (here_at colours q) y c
        by None none = absurd (set_bare graph states state colours s q job f function instr x
            ordinary dst v sets gives none c in_r)
        by (Some n) is = (
          Here,
          in_one Here,
          own c (reached graph states state colours s q job f
              function instr x ordinary dst v sets gives c in_r),
        )

  pub global_loads : (at dst global : ℕ)
      → StandsAt graph state q job f function (Middle (LoadGlobal at dst global))
      → ((v : Value) → value_at state.globals global ≡ Some v → IsOfHere state colours q v)
      → HasSoundView graph states (step_of graph state q.job) colours
  global_loads at dst global x own =
      let got = gets graph states state colours s q job f function (LoadGlobal at dst global) x dst
      (value_at state.globals global) refl in
      here_sound (LoadGlobal at dst global) x (no_maker (is_own function.iso)) dst got.0 refl got.2
      (row graph states state colours s q job f function (LoadGlobal at dst global) x).moves
      (own got.0 got.1)

  pub own_loads : (at dst : ℕ) (cell : Operand) (part : ℕ)
      → StandsAt graph state q job f function (Middle (LoadProp at dst cell part))
      → element_at elements cell.reg ≡ None
      → ((v : Value) → loaded state f cell (Part part) ≡ Some v → IsOfHere state colours q v)
      → HasSoundView graph states (step_of graph state q.job) colours
  own_loads at dst cell part x none own =
      let got = gets graph states state colours s q job f function (LoadProp at dst cell part) x dst
      (loaded state f cell (Part part)) refl in
      let here = row graph states state colours s q job f function (LoadProp at dst cell part) x in
      here_sound (LoadProp at dst cell part) x (no_maker (is_own function.iso)) dst got.0 refl got.2
      (subst (λ o. LoadsPart elements o dst cell here.a here.c) none here.moves) (own got.0 got.1)
