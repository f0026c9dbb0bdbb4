-- What a struct or a case of an enum is made of: its colours become one.
use Rattle.std.proofs.Common.{◌≡◌, ◌+◌, ◌<◌, ℕ, suc, false, Option, Some, None, List, [], length}
use Rattle.std.proofs.Common.{Contains, refl, sym, subst, ap, ◌∙◌, arith, inl, inr}
use Rattle.std.specs.Option.{option_map_or}
use Rattle.std.specs.List.{slice_get}
use Rattle.sw_graph.specs.declared.function.Function.{Function}
use Rattle.sw_graph.specs.declared.graph.Graph.{Graph}
use Rattle.sw_graph.specs.declared.instr.Instr.{Instr}
use Rattle.sw_graph.specs.declared.instr.Instr.TheVariants.{Make}
use Rattle.sw_graph.specs.declared.instr.Operand.{Operand}
use Rattle.sw_graph.specs.Bodies.{is_own}
use Rattle.sw_graph.specs.Mentions.{registers_of}
use Rattle.sw_graph.specs.Points.{Middle}
use Rattle.sw_value.specs.declared.effect.Effect.{Effect}
use Rattle.sw_value.specs.declared.effect.Effect.TheVariants.{Set}
use Rattle.sw_value.specs.declared.frame.Frame.{Frame}
use Rattle.sw_value.specs.declared.job.Job.{Job}
use Rattle.sw_value.specs.declared.state.State.{State}
use Rattle.sw_value.specs.declared.value.Value.{Value}
use Rattle.sw_value.specs.Effect.{point_effect}
use Rattle.sw_value.specs.Frame.{finish_instr}
use Rattle.sw_value.specs.State.{in_job}
use Rattle.sw_value.specs.Value.{value_at}
use Rattle.sw_partition.specs.Regions.{Regions}
use Rattle.sw_region_ops.specs.Elements.{element_at, elements_of}
use Rattle.sw_list.proofs.ListLemmas.{at_index}
use Rattle.sw_machine_kind_facts.proofs.ItemLemmas.{set_here}
use Rattle.sw_owner_facts.specs.Colours.{Colour, OfJob}
use Rattle.sw_owner_facts.specs.View.{HoldsLive, Register, above, Frame as Spot}
use Rattle.sw_owner_facts.proofs.FrameLemmas.{below_above, below_differs}
use Rattle.sw_reach_facts.specs.Reached.{colours_of}
use Rattle.sw_view_facts.specs.Effects.{turn_of}
use Rattle.sw_view_facts.specs.Standing.{StandsAt}
use Rattle.sw_view_facts.specs.Steps.{ChangesFrame, height_in}
use Rattle.sw_view_facts.specs.Views.{Colours, annotated, closes_at, colours_by, frame_at, view_of}
use Rattle.sw_view_facts.proofs.RenameLemmas.{unites_all}
use Rattle.sw_view_facts.proofs.ShapeLemmas.{open_after}
use Rattle.sw_store_facts.specs.Sound.{HasSoundView, HaveHeres, IsColoured}
use Rattle.sw_store_facts.proofs.Copying.{set_bare}
use Rattle.sw_store_facts.proofs.Getting.{no_maker}
use Rattle.sw_store_facts.proofs.Holding.{holds_live}
use Rattle.sw_store_facts.proofs.Making.{makes}
use Rattle.sw_store_facts.proofs.Stepping.{Row, changes, goes_next, next_state, row, stands_behind}
use Rattle.sw_store_facts.proofs.Stepping.{steps}
use Rattle.sw_secure_facts.specs.Painting.{MayUnite, Unites}
use Rattle.sw_secure_facts.proofs.Kept.{held_unite}
use Rattle.sw_secure_facts.proofs.Uniting.{nothing_unites}
use Rattle.sw_secure_value_facts.proofs.Gathering.{first_or_none}
use Rattle.sw_store_facts.proofs.Standing.{instr_at, slots}

module _ (graph : Graph) (states : ℕ → List (Option Regions)) (state : State) (colours : Colours)
    (s : IsColoured graph states state colours) (q : Spot) (job : Job) (f : Frame)
    (function : Function) (at dst shape : ℕ) (tag : Option ℕ) (args : List Operand)
    (x : StandsAt graph state q job f function (Middle (Make at dst shape tag args))) (v : Value)
    (gives : point_effect graph state (length job.frames) f (Middle (Make at dst shape tag args))
    ≡ Set dst v (f.point + 1)) where
  abbrev elements : List (Option ℕ)
  elements = elements_of graph.shapes function.regs

  abbrev instr : Instr
  instr = Make at dst shape tag args

  abbrev e : Effect
  e = Set dst v (f.point + 1)

  abbrev next : State
  next = next_state graph states state colours s q job f function instr x

  abbrev here : Row graph states state colours s q job f function instr x
  here = row graph states state colours s q job f function instr x

  change : ChangesFrame state next q f (turn_of e f)
  change = changes graph states state colours s q job f function instr x e refl refl gives

  cells_stay : next.cells ≡ state.cells
  unfolding in_job
  cells_stay = ap (λ (t : State). t.cells)
      (steps graph states state colours s q job f function instr x e refl refl gives)

  inside : dst < length f.regs
  inside =
      let below = at_index (λ r. r < length function.regs) (registers_of instr) 0 dst
      (instr_at graph states state colours s q job f function instr x).registers refl in
      let count = (slots graph states state colours s q job f function (Middle instr) x).count in
      omega (arith, below, count)

  has_value : value_at (turn_of e f).regs dst ≡ Some v
  unfolding finish_instr
  has_value = set_here f.regs dst v inside

  -- the register reaches what the value does
  shows : (c : Colour) → Contains (colours_of state.cells colours.cells v) c
      → Contains (colours_by next colours (Some (turn_of e f)) dst) c
  shows c has = subst
      (λ o. Contains (option_map_or (colours_of next.cells colours.cells) o []) c) (sym has_value)
      (subst (λ cells. Contains (colours_of cells colours.cells v) c) (sym cells_stay) has)

  closes_not : closes_at graph function (turn_of e f).point ≡ false
  closes_not = ap (closes_at graph function) (goes_next e f (f.point + 1) refl)
      ∙ open_after graph function f.point (Middle instr) x.here (no_maker (is_own function.iso))

  above_none : frame_at next (above q) ≡ None
  above_none = change.others (above q) (λ same. below_differs (below_above q) (sym same))
      ∙ change.alone

  height_now : height_in next q.job ≡ suc q.depth
  height_now = change.heights q.job ∙ change.top

  -- and so holds it
  held_next : (c : Colour) → Contains (colours_of state.cells colours.cells v) c
      → HoldsLive (view_of graph (annotated states next) next colours) q (Register dst) c
  held_next c has = by (element_at elements dst) refl where
    by : (o : Option ℕ) → element_at elements dst ≡ o
        → HoldsLive (view_of graph (annotated states next) next colours) q (Register dst) c
    by None none = absurd (set_bare graph states state colours s q job f function instr x
        (no_maker (is_own function.iso)) dst v refl gives none c (shows c has))
    by (Some n) is = holds_live graph next colours q (turn_of e f) function change.now
        (ap (slice_get graph.functions) change.call.function ∙ x.is) above_none height_now
        closes_not
        (annotated states next) here.c
        (stands_behind graph states state colours s q job f function instr x e refl refl gives)
        (Register dst) c here.moves.made_live (shows c has)

  made_view : HasSoundView graph states next colours
  made_view = makes graph states state colours s q job f function at dst shape tag args x

  -- the colours may become one
  pub made_join : MayUnite q (colours_of state.cells colours.cells v)
  made_join = held_unite (view_of graph (annotated states next) next colours) q made_view.owned
      (colours_of state.cells colours.cells v) (λ c has. (Register dst, held_next c has))

  -- and then they have
  pub made_sound : HaveHeres graph states next colours → (after : Colours)
      → Unites q.job (colours_of state.cells colours.cells v) colours after
      → HasSoundView graph states next after
  made_sound heres after u = elim (first_or_none (colours_of state.cells colours.cells v)) [
    | inl none ↦ subst (HasSoundView graph states next)
        (sym (nothing_unites q.job colours after
        (subst (λ (l : List Colour). Unites q.job l colours after) none u))) made_view
    | inr (first, has) ↦ subst (HasSoundView graph states next) (sym u.is)
        (unites_all graph (annotated states next) next q (Register dst) u.kept u.numbers colours
        heres height_now (held_next u.kept (u.among first has))
        (λ n numbered. inr (inr (
          Register dst,
          held_next (OfJob q.job n) (u.only n numbered),
          refl,
        )))
        made_view)
  ]
