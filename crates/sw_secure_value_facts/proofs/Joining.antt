-- A part of a struct that is set, and what a struct or a case of an enum is made of.
use Rattle.std.proofs.Common.{◌≡◌, ◌+◌, ℕ, Option, Some, List, [], ◌∷◌, ◌++◌, length, refl, sym}
use Rattle.std.proofs.Common.{subst, ap, ◌∙◌}
use Rattle.std.specs.Option.{option_and_then}
use Rattle.sw_list.proofs.Members.{member_at}
use Rattle.sw_graph.specs.declared.function.Function.{Function}
use Rattle.sw_graph.specs.declared.graph.Graph.{Graph}
use Rattle.sw_graph.specs.declared.instr.Instr.{Instr}
use Rattle.sw_graph.specs.declared.instr.Instr.TheVariants.{Make, SetField}
use Rattle.sw_graph.specs.declared.instr.Operand.{Operand}
use Rattle.sw_graph.specs.Points.{Middle}
use Rattle.sw_value.specs.declared.effect.Effect.{Effect}
use Rattle.sw_value.specs.declared.effect.Effect.TheVariants as effect
use Rattle.sw_value.specs.declared.frame.Frame.{Frame}
use Rattle.sw_value.specs.declared.job.Job.{Job}
use Rattle.sw_value.specs.declared.state.State.{State}
use Rattle.sw_value.specs.declared.value.Value.{Value}
use Rattle.sw_value.specs.Effect.{is_stuck, needs, point_effect}
use Rattle.sw_value.specs.State.{in_job}
use Rattle.sw_value.specs.Value.{field_of, made, operand_value, values_at}
use Rattle.sw_partition.specs.Regions.{Regions}
use Rattle.sw_region_ops.specs.Elements.{elements_of}
use Rattle.sw_owner_facts.specs.Colours.{Colour}
use Rattle.sw_owner_facts.specs.View.{Element, Frame as Spot}
use Rattle.sw_region_facts.specs.Moves.{Gathers, tracked}
use Rattle.sw_reach_facts.specs.Reached.{colours_of}
use Rattle.sw_view_facts.specs.Standing.{StandsAt}
use Rattle.sw_view_facts.specs.Views.{Colours, colours_by, frame_at}
use Rattle.sw_store_facts.proofs.Getting.{unstuck}
use Rattle.sw_store_facts.proofs.Stepping.{row}
use Rattle.sw_store_facts.proofs.Stores.{found}
use Rattle.sw_secure_facts.specs.Painting.{Unites}
use Rattle.sw_secure_facts.specs.Secure.{IsSecure}
use Rattle.sw_secure_facts.proofs.Heres.{have_heres}
use Rattle.sw_secure_facts.proofs.Recoloured.{have_united}
use Rattle.sw_secure_value_facts.proofs.Fields.{field_sound}
use Rattle.sw_secure_value_facts.proofs.Gathering.{gathered_join, unites_between}
use Rattle.sw_store_facts.proofs.Operands.{HeldBy, both_held, register_held, value_held}
use Rattle.sw_secure_value_facts.proofs.Keeping.{Keeps}
use Rattle.sw_secure_value_facts.proofs.Made.{made_join, made_sound}
use Rattle.sw_secure_value_facts.proofs.Securing.{heres_next, unites_secured}
use Rattle.sw_store_facts.proofs.Standing.{frame_there}
use Rattle.sw_reach_facts.specs.Coloured.{HaveColours}

-- ---- a part of a struct is set
module _ (graph : Graph) (states : ℕ → List (Option Regions)) (state : State) (colours : Colours)
    (s : IsSecure graph states state colours) (q : Spot) (job : Job) (f : Frame)
    (function : Function) (number at : ℕ) (target : Operand) (i : ℕ) (src : Operand)
    (x : StandsAt graph state q job f function (Middle (SetField at target i src))) where
  abbrev instr : Instr
  instr = SetField at target i src

  abbrev xs : List Element
  xs = tracked (elements_of graph.shapes function.regs) (target ∷ src ∷ [])

  module _ (v : Value) (has : operand_value f.regs src ≡ Some v)
      (gives : point_effect graph state (length job.frames) f (Middle instr)
      ≡ effect.SetField target.reg i v (f.point + 1)) where
    abbrev joined : List Colour
    joined = colours_by state colours (Some f) target.reg
        ++ colours_of state.cells colours.cells v

    there : frame_at state q ≡ Some f
    there = frame_there graph states state colours s.coloured q job f function (Middle instr) x

    held : HeldBy state colours q f xs joined
    held = both_held state colours q f xs (colours_by state colours (Some f) target.reg)
        (colours_of state.cells colours.cells v)
        (register_held graph s.coloured.clean state s.coloured.kinded colours s.coloured.have q f
        there
        function x.is (target ∷ src ∷ []) target (member_at (target ∷ src ∷ []) 0 target refl))
        (value_held graph s.coloured.clean state s.coloured.kinded colours s.coloured.have q f there
        function x.is (target ∷ src ∷ []) src v (member_at (target ∷ src ∷ []) 1 src refl) has)

    moves : Gathers (elements_of graph.shapes function.regs) xs
        (row graph states state colours s.coloured q job f function instr x).a
        (row graph states state colours s.coloured q job f function instr x).c
    moves = (row graph states state colours s.coloured q job f function instr x).moves

    have_after : (after : Colours) → Unites q.job joined colours after
        → HaveColours graph state.cells after.cells
    have_after after u = subst (λ (c : Colours). HaveColours graph state.cells c.cells) (sym u.is)
        (have_united graph state q.job u.numbers u.kept colours s.coloured.have)

    set_field_at : Keeps graph states state colours q number f (Middle instr)
        (effect.SetField target.reg i v (f.point + 1))
    unfolding in_job
    set_field_at = record {
      stays = λ after u. unites_secured graph states state colours s q job f function (Middle instr)
          x (effect.SetField target.reg i v (f.point + 1)) refl gives refl refl refl joined after u
          (field_sound graph states state colours s.coloured q job f function at target i src x v
          gives has after (have_after after u)
          (unites_between graph states state colours s.coloured q job f function instr x xs moves
          (have_heres graph states state colours s.heres) joined held after u));
      joins = gathered_join graph states state colours s.coloured q job f function instr x xs moves
          joined held;
    }

  pub set_field_kept : Keeps graph states state colours q number f (Middle instr)
      (point_effect graph state (length job.frames) f (Middle instr))
  set_field_kept =
      let then : Value → Effect = λ v. needs
      (option_and_then (field_of i) (operand_value f.regs target))
      (λ old. effect.SetField target.reg i v (f.point + 1)) in
      let free = unstuck graph states state colours s.coloured q job f function instr x in
      let v = found (operand_value f.regs src) then free in
      let old = found (option_and_then (field_of i) (operand_value f.regs target))
      (λ old. effect.SetField target.reg i v.0 (f.point + 1))
      (sym (ap (λ o. is_stuck (needs o then)) v.1) ∙ free) in
      let gives : point_effect graph state (length job.frames) f (Middle instr)
      ≡ effect.SetField target.reg i v.0 (f.point + 1) =
      ap (λ o. needs o then) v.1
      ∙ ap (λ o. needs o (λ old. effect.SetField target.reg i v.0 (f.point + 1))) old.1 in
      subst (Keeps graph states state colours q number f (Middle instr)) (sym gives)
      (set_field_at v.0 v.1 gives)

-- ---- a struct, or a case of an enum, is made
module _ (graph : Graph) (states : ℕ → List (Option Regions)) (state : State) (colours : Colours)
    (s : IsSecure graph states state colours) (q : Spot) (job : Job) (f : Frame)
    (function : Function) (number at dst shape : ℕ) (tag : Option ℕ) (args : List Operand)
    (x : StandsAt graph state q job f function (Middle (Make at dst shape tag args))) where
  abbrev making : Instr
  making = Make at dst shape tag args

  pub make_kept : Keeps graph states state colours q number f (Middle making)
      (point_effect graph state (length job.frames) f (Middle making))
  unfolding in_job
  make_kept =
      let parts = found (values_at f.regs args)
      (λ parts. effect.Set dst (made tag parts) (f.point + 1))
      (unstuck graph states state colours s.coloured q job f function making x) in
      let v = made tag parts.0 in
      let gives : point_effect graph state (length job.frames) f (Middle making)
      ≡ effect.Set dst v (f.point + 1) =
      ap (λ o. needs o (λ parts. effect.Set dst (made tag parts) (f.point + 1))) parts.1 in
      subst (Keeps graph states state colours q number f (Middle making)) (sym gives) (record {
        stays = λ after u. unites_secured graph states state colours s q job f function
            (Middle making) x (effect.Set dst v (f.point + 1)) refl gives refl refl refl
            (colours_of state.cells colours.cells v) after u
            (made_sound graph states state colours s.coloured q job f function at dst shape tag args
            x v gives
            (heres_next graph states state colours s q job f function (Middle making) x
            (effect.Set dst v (f.point + 1)) refl gives) after u);
        joins = made_join graph states state colours s.coloured q job f function at dst shape tag
            args
            x v gives;
      })
