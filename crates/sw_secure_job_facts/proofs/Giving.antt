-- What the value of a return reaches: a live register of the frame holds it, or it reaches nothing.
use Rattle.std.specs.Option.{option_map_or}
use Rattle.std.proofs.Common.{◌≡◌, ℕ, true, false, Option, Some, None, List, [], ◌∷◌, ◌++◌}
use Rattle.std.proofs.Common.{Contains, refl, sym, subst, ap}
use Rattle.sw_list.proofs.ListLemmas.{some_injective}
use Rattle.sw_list.proofs.Members.{in_one}
use Rattle.sw_graph.specs.declared.function.Function.{Function}
use Rattle.sw_graph.specs.declared.function.RegKind.TheVariants.{Plain}
use Rattle.sw_graph.specs.declared.graph.Graph.{Graph}
use Rattle.sw_graph.specs.declared.instr.Last.TheVariants.{Return}
use Rattle.sw_graph.specs.declared.instr.Operand.{Operand}
use Rattle.sw_graph.specs.Clean.{may_cross}
use Rattle.sw_graph.specs.Points.{End}
use Rattle.sw_value.specs.declared.effect.Effect.TheVariants.{Leave}
use Rattle.sw_value.specs.declared.frame.Frame.{Frame}
use Rattle.sw_value.specs.declared.job.Job.{Job}
use Rattle.sw_value.specs.declared.state.State.{State}
use Rattle.sw_value.specs.declared.value.Value.{Value}
use Rattle.sw_value.specs.Effect.{needs, returned_value}
use Rattle.sw_value.specs.Value.{value_at}
use Rattle.sw_partition.specs.Regions.{Regions}
use Rattle.sw_region_ops.specs.Elements.{element_at, elements_of}
use Rattle.sw_region_ops.specs.Setting.{setting_of}
use Rattle.sw_machine_kind_facts.specs.Kinds.{HasKind}
use Rattle.sw_machine_kind_facts.proofs.LastLemmas.{last_effect_fits}
use Rattle.sw_machine_kind_facts.proofs.TopLemmas.{TopFits}
use Rattle.sw_owner_facts.specs.Colours.{Colour}
use Rattle.sw_owner_facts.specs.View.{Element, Here, HoldsLive, InOneRegion, Register, View}
use Rattle.sw_owner_facts.specs.View.{Frame as Spot}
use Rattle.sw_region_facts.specs.Moves.{if_tracked, tracked}
use Rattle.sw_region_facts.specs.Rows.{LastAsks, MayReturn}
use Rattle.sw_region_facts.proofs.Annotated.{asks_at}
use Rattle.sw_reach_facts.specs.Reached.{colours_of}
use Rattle.sw_reach_facts.proofs.FitLemmas.{colours_fit, conformances_hold}
use Rattle.sw_reach_facts.proofs.SendableLemmas.{crosses_nothing}
use Rattle.sw_view_facts.specs.Standing.{StandsAt}
use Rattle.sw_view_facts.specs.Views.{Colours, annotated, closes_at, colours_by, view_at}
use Rattle.sw_view_facts.proofs.TopLemmas.{frame_was, height_is, nothing_above}
use Rattle.sw_view_facts.proofs.ValueLemmas.{void_shows}
use Rattle.sw_store_facts.specs.Sound.{IsColoured}
use Rattle.sw_store_facts.proofs.Bare.{untracked_bare}
use Rattle.sw_store_facts.proofs.Holding.{holds_live}
use Rattle.sw_secure_job_facts.proofs.Frames.{annotates, here, runs, together_at}

module _ (graph : Graph) (states : ℕ → List (Option Regions)) (state : State) (colours : Colours)
    (s : IsColoured graph states state colours) (q : Spot) (job : Job) (t : Frame)
    (callee : Function) (v : Value) (operand : Option Operand)
    (x : StandsAt graph state q job t callee (End (Return operand)))
    (returned : returned_value t.regs operand ≡ Some v) where
  abbrev elements : List (Option ℕ)
  elements = elements_of graph.shapes callee.regs

  abbrev w : View
  w = view_at graph states state colours

  -- it has the type of the result
  pub value_kind : HasKind graph.shapes s.kinded.world.cells v (Plain callee.result)
  unfolding TopFits
  value_kind =
      subst (TopFits graph s.kinded.world state callee t) (ap (λ o. needs o Leave) returned)
      (last_effect_fits graph s.kinded.world state t (Return operand) (record {
        run = runs graph states state colours s q job t callee (End (Return operand)) x;
        here = x.here;
      }))

  -- a result that may cross reaches nothing
  pub crosses_bare : may_cross graph callee.result ≡ true → (c : Colour)
      → Contains (colours_of state.cells colours.cells v) c → ⊥
  crosses_bare may c =
      crosses_nothing graph (conformances_hold graph s.clean) s.kinded.world state.cells
      colours.cells (colours_fit graph s.clean state s.kinded colours.cells s.have) v
      (Plain callee.result) value_kind may c

  abbrev a : Regions
  a = (here graph states state colours s q job t callee (End (Return operand)) x).0

  asks : LastAsks (setting_of graph callee) (Return operand) a
  asks =
      let found = here graph states state colours s q job t callee (End (Return operand)) x in
      asks_at graph callee (states t.function)
      (annotates graph states state colours s q job t callee (End (Return operand)) x) t.point
      (Return operand) x.here found.0 found.1

  -- A live element holds the colour, and it is free if the result is `sending`.
  pub record Given (c : Colour) : Type 0 where
    pub element : Element
    pub holds : HoldsLive w q element c
    pub free : callee.sends ≡ true → InOneRegion w q element Here → ⊥

  given_by : (o : Operand) → value_at t.regs o.reg ≡ Some v
      → MayReturn elements callee.sends (tracked elements (o ∷ [])) a
      → closes_at graph callee t.point ≡ false → (c : Colour)
      → Contains (colours_of state.cells colours.cells v) c → Given c
  given_by o has may open_now c reached = by (element_at elements o.reg) refl where
    shows : Contains (colours_by state colours (Some t) o.reg) c
    shows = subst (λ l. Contains l c)
        (sym (ap (λ u. option_map_or (colours_of state.cells colours.cells) u []) has)) reached

    by : (e : Option ℕ) → element_at elements o.reg ≡ e → Given c
    by None none = absurd (untracked_bare graph s.clean state s.kinded colours s.have q t
        (frame_was state q job t x.top) callee x.is o.reg none c shows)
    by (Some n) is = record {
      element = Register o.reg;
      holds = holds_live graph state colours q t callee (frame_was state q job t x.top) x.is
          (nothing_above state q job t x.top) (height_is state q job t x.top) open_now
          (annotated states state) a stands (Register o.reg) c (may.live (Register o.reg) listed)
          shows;
      free = λ sends one. may.free sends (Register o.reg) listed
          (together_at graph (annotated states state) state colours q t callee
          (frame_was state q job t x.top) x.is a stands (Register o.reg) Here one);
    }
      where
        stands : annotated states state q ≡ Some a
        stands = (here graph states state colours s q job t callee (End (Return operand)) x).2

        listed : Contains (tracked elements (o ∷ [])) (Register o.reg)
        listed = subst (λ l. Contains l (Register o.reg))
            (sym (ap (λ e. if_tracked e (Register o.reg ∷ []) ++ []) is)) (in_one (Register o.reg))

  -- what the value of a frame that isn't closing reaches, the frame holds
  pub given : closes_at graph callee t.point ≡ false → (c : Colour)
      → Contains (colours_of state.cells colours.cells v) c → Given c
  given open_now c = by operand returned asks where
    by : (o : Option Operand) → returned_value t.regs o ≡ Some v
        → LastAsks (setting_of graph callee) (Return o) a
        → Contains (colours_of state.cells colours.cells v) c → Given c
    by None is may has = absurd (void_shows state colours t c
        (subst (λ u. Contains (colours_of state.cells colours.cells u) c)
        (sym (some_injective is)) has))
    by (Some o) is may has = given_by o is may open_now c has
