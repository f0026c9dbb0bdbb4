-- Instructions that give a register a value which isn't made of others, and those that print,
-- yield or go on at a block.
use Rattle.std.proofs.Common.{◌≡◌, ◌+◌, ℕ, true, Option, Some, None, List, [], length, refl, sym}
use Rattle.std.proofs.Common.{subst, ap, inl}
use Rattle.std.specs.Option.{option_and_then}
use Rattle.sw_graph.specs.declared.function.Function.{Function}
use Rattle.sw_graph.specs.declared.graph.Graph.{Graph}
use Rattle.sw_graph.specs.declared.instr.BinOp.{BinOp}
use Rattle.sw_graph.specs.declared.instr.Instr.{Instr}
use Rattle.sw_graph.specs.declared.instr.Instr.TheVariants.{Bin, Const, Copy, Field, LoadBox}
use Rattle.sw_graph.specs.declared.instr.Instr.TheVariants.{LoadGlobal, LoadProp, Payload, Print}
use Rattle.sw_graph.specs.declared.instr.Instr.TheVariants.{Un}
use Rattle.sw_graph.specs.declared.instr.Instr.TheVariants.{Yield}
use Rattle.sw_graph.specs.declared.instr.Last.{Last}
use Rattle.sw_graph.specs.declared.instr.Literal.{Literal}
use Rattle.sw_graph.specs.declared.instr.Operand.{Operand}
use Rattle.sw_graph.specs.declared.instr.UnOp.{UnOp}
use Rattle.sw_graph.specs.Bodies.{is_own}
use Rattle.sw_graph.specs.Points.{End, Middle, Point}
use Rattle.sw_value.specs.declared.cell.Slot.TheVariants.{Content, Part}
use Rattle.sw_value.specs.declared.effect.Effect.TheVariants as effect
use Rattle.sw_value.specs.declared.frame.Frame.{Frame}
use Rattle.sw_value.specs.declared.job.Job.{Job}
use Rattle.sw_value.specs.declared.state.State.{State}
use Rattle.sw_value.specs.declared.value.Value.{Value}
use Rattle.sw_value.specs.Effect.{last_effect, loaded, needs, point_effect, set_of}
use Rattle.sw_value.specs.Printed.{printed_line}
use Rattle.sw_value.specs.Reach.{step_of}
use Rattle.sw_value.specs.State.{in_job}
use Rattle.sw_value.specs.Value.{field_of, operand_value, payload_of, value_at, value_of}
use Rattle.sw_partition.specs.Regions.{Regions}
use Rattle.sw_region_ops.specs.Elements.{element_at, elements_of}
use Rattle.sw_owner_facts.specs.View.{Frame as Spot}
use Rattle.sw_view_facts.specs.Standing.{StandsAt}
use Rattle.sw_view_facts.specs.Views.{Colours}
use Rattle.sw_store_facts.specs.Sound.{HasSoundView}
use Rattle.sw_store_facts.proofs.Copies as copying
use Rattle.sw_store_facts.proofs.Getting.{gets, no_maker, unstuck}
use Rattle.sw_store_facts.proofs.Heres as reading
use Rattle.sw_store_facts.proofs.Stepping.{row}
use Rattle.sw_store_facts.proofs.Stores.{found}
use Rattle.sw_store_facts.proofs.Units as units
use Rattle.sw_secure_facts.specs.Executing.{is_of_values}
use Rattle.sw_secure_facts.specs.Painting.{joined_by}
use Rattle.sw_secure_facts.specs.Secure.{IsSecure}
use Rattle.sw_secure_value_facts.proofs.Blocks.{block_sound, leads_on}
use Rattle.sw_secure_value_facts.proofs.Computing.{SetsBare, bare_sound, bin_sets, un_sets}
use Rattle.sw_secure_value_facts.proofs.Keeping.{Keeps, plainly_secured, set_kept}
use Rattle.sw_secure_value_facts.proofs.Loads.{box_colour, global_of_here, part_colour}
use Rattle.sw_secure_value_facts.proofs.Loads.{part_of_here}

module _ (graph : Graph) (states : ℕ → List (Option Regions)) (state : State) (colours : Colours)
    (s : IsSecure graph states state colours) (q : Spot) (job : Job) (f : Frame)
    (function : Function) (number : ℕ) where
  -- the effect at a point keeps the state secure
  abbrev pub Kept : Point → Type 0
  Kept point = Keeps graph states state colours q number f point
      (point_effect graph state (length job.frames) f point)

  abbrev Sound : Type 0
  Sound = HasSoundView graph states (step_of graph state q.job) colours

  -- a register gets a value, if there is one
  gets_kept : (instr : Instr) → StandsAt graph state q job f function (Middle instr) → (dst : ℕ)
      (o : Option Value)
      → point_effect graph state (length job.frames) f (Middle instr) ≡ set_of (f.point + 1) dst o
      → ((v : Value) → joined_by graph state colours q number f (Middle instr)
      (effect.Set dst v (f.point + 1)) ≡ []) → ((v : Value) → o ≡ Some v → Sound)
      → Kept (Middle instr)
  gets_kept instr x dst o is none sound =
      let got = gets graph states state colours s.coloured q job f function instr x dst o is in
      set_kept graph states state colours s q job f function (Middle instr) x number dst got.0
      (f.point + 1) (none got.0) got.2 (sound got.0 got.1)

  pub const_kept : (at dst : ℕ) (l : Literal)
      → StandsAt graph state q job f function (Middle (Const at dst l))
      → Kept (Middle (Const at dst l))
  const_kept at dst l x = set_kept graph states state colours s q job f function
      (Middle (Const at dst l)) x number dst (value_of l) (f.point + 1) refl refl
      (reading.constants graph states state colours s.coloured q job f function at dst l x)

  computed_kept : (instr : Instr) → StandsAt graph state q job f function (Middle instr)
      → (dst : ℕ)
      → SetsBare (point_effect graph state (length job.frames) f (Middle instr)) dst (f.point + 1)
      → ((v : Value) → joined_by graph state colours q number f (Middle instr)
      (effect.Set dst v (f.point + 1)) ≡ []) → Sound → Kept (Middle instr)
  computed_kept instr x dst sets none sound = set_kept graph states state colours s q job f function
      (Middle instr) x number dst sets.value (f.point + 1) (none sets.value) sets.is sound

  pub un_kept : (at dst : ℕ) (op : UnOp) (src : Operand)
      → StandsAt graph state q job f function (Middle (Un at dst op src))
      → is_of_values (point_effect graph state (length job.frames) f (Middle (Un at dst op src)))
      ≡ true → Kept (Middle (Un at dst op src))
  un_kept at dst op src x is =
      let sets = un_sets op (operand_value f.regs src) (f.point + 1) at dst is in
      computed_kept (Un at dst op src) x dst sets (λ v. refl)
      (bare_sound graph states state colours s.coloured q job f function (Un at dst op src) x
      (no_maker (is_own function.iso)) dst refl
      (row graph states state colours s.coloured q job f function (Un at dst op src) x).moves sets)

  pub bin_kept : (at dst : ℕ) (op : BinOp) (left right : Operand)
      → StandsAt graph state q job f function (Middle (Bin at dst op left right))
      → is_of_values
      (point_effect graph state (length job.frames) f (Middle (Bin at dst op left right))) ≡ true
      → Kept (Middle (Bin at dst op left right))
  bin_kept at dst op left right x is =
      let sets = bin_sets op (operand_value f.regs left) (operand_value f.regs right) (f.point + 1)
      at
      dst is in
      computed_kept (Bin at dst op left right) x dst sets (λ v. refl)
      (bare_sound graph states state colours s.coloured q job f function (Bin at dst op left right)
      x
      (no_maker (is_own function.iso)) dst refl
      (row graph states state colours s.coloured q job f function (Bin at dst op left right)
      x).moves
      sets)

  pub copy_kept : (at dst : ℕ) (src : Operand)
      → StandsAt graph state q job f function (Middle (Copy at dst src))
      → Kept (Middle (Copy at dst src))
  copy_kept at dst src x = gets_kept (Copy at dst src) x dst (operand_value f.regs src) refl
      (λ v. refl) (λ v is. copying.copies graph states state colours s.coloured q job f function at
      dst src x)

  pub field_kept : (at dst : ℕ) (src : Operand) (i : ℕ)
      → StandsAt graph state q job f function (Middle (Field at dst src i))
      → Kept (Middle (Field at dst src i))
  field_kept at dst src i x = gets_kept (Field at dst src i) x dst
      (option_and_then (field_of i) (operand_value f.regs src)) refl (λ v. refl)
      (λ v is. copying.fields graph states state colours s.coloured q job f function at dst src i x)

  pub payload_kept : (at dst : ℕ) (src : Operand) (i : ℕ)
      → StandsAt graph state q job f function (Middle (Payload at dst src i))
      → Kept (Middle (Payload at dst src i))
  payload_kept at dst src i x = gets_kept (Payload at dst src i) x dst
      (option_and_then (payload_of i) (operand_value f.regs src)) refl (λ v. refl)
      (λ v is. copying.payloads graph states state colours s.coloured q job f function at dst src i
      x)

  pub box_load_kept : (at dst : ℕ) (o : Operand)
      → StandsAt graph state q job f function (Middle (LoadBox at dst o))
      → Kept (Middle (LoadBox at dst o))
  box_load_kept at dst o x = gets_kept (LoadBox at dst o) x dst (loaded state f o Content) refl
      (λ v. refl)
      (λ v is. copying.box_loads graph states state colours s.coloured q job f function at dst o x
      (box_colour graph state colours s.memory f o v is))

  pub part_load_kept : (at dst : ℕ) (o : Operand) (i : ℕ)
      → StandsAt graph state q job f function (Middle (LoadProp at dst o i))
      → Kept (Middle (LoadProp at dst o i))
  part_load_kept at dst o i x = gets_kept (LoadProp at dst o i) x dst (loaded state f o (Part i))
      refl
      (λ v. refl)
      (λ v is. by v is (element_at (elements_of graph.shapes function.regs) o.reg) refl)
    where
      by : (v : Value) → loaded state f o (Part i) ≡ Some v → (p : Option ℕ)
          → element_at (elements_of graph.shapes function.regs) o.reg ≡ p → Sound
      by v is (Some n) tracked = copying.part_loads graph states state colours s.coloured q job f
          function at dst o i n x tracked
          (part_colour graph states state colours s.coloured s.memory q job f function at dst o i n
          x
          tracked v is)
      by v is None none = reading.own_loads graph states state colours s.coloured q job f function
          at
          dst o i x none
          (part_of_here graph states state colours s.coloured s.memory q job f function at dst o i x
          none)

  pub global_load_kept : (at dst g : ℕ)
      → StandsAt graph state q job f function (Middle (LoadGlobal at dst g))
      → Kept (Middle (LoadGlobal at dst g))
  global_load_kept at dst g x = gets_kept (LoadGlobal at dst g) x dst (value_at state.globals g)
      refl
      (λ v. refl)
      (λ v is. reading.global_loads graph states state colours s.coloured q job f function at dst g
      x
      (global_of_here graph states state colours s.coloured s.memory q job f function at dst g x))

  pub print_kept : (at dst : ℕ) (args : List Operand)
      → StandsAt graph state q job f function (Middle (Print at dst args))
      → Kept (Middle (Print at dst args))
  unfolding in_job
  print_kept at dst args x =
      let point = Middle (Print at dst args) in
      let line = found (printed_line f.regs args) (λ l. effect.Print dst l (f.point + 1))
      (unstuck graph states state colours s.coloured q job f function (Print at dst args) x) in
      let gives : point_effect graph state (length job.frames) f point
      ≡ effect.Print dst line.0 (f.point + 1) =
      ap (λ o. needs o (λ l. effect.Print dst l (f.point + 1))) line.1 in
      subst (Keeps graph states state colours q number f point) (sym gives) (record {
        stays = plainly_secured graph states state colours s q job f function point x number
            (effect.Print dst line.0 (f.point + 1)) refl refl gives refl refl
            (units.prints graph states state colours s.coloured q job f function at dst args x);
        joins = inl refl;
      })

  pub yield_kept : (at dst : ℕ) → StandsAt graph state q job f function (Middle (Yield at dst))
      → Kept (Middle (Yield at dst))
  unfolding in_job
  yield_kept at dst x = record {
    stays = plainly_secured graph states state colours s q job f function (Middle (Yield at dst)) x
        number (effect.Rest dst (f.point + 1)) refl refl refl refl refl
        (units.yields graph states state colours s.coloured q job f function at dst x);
    joins = inl refl;
  }

  pub last_kept : (l : Last) → StandsAt graph state q job f function (End l)
      → is_of_values (last_effect graph f l) ≡ true → Kept (End l)
  unfolding in_job
  last_kept l x is =
      let leads = leads_on graph f l is in
      subst (Keeps graph states state colours q number f (End l)) (sym leads.is) (record {
        stays = plainly_secured graph states state colours s q job f function (End l) x number
            (effect.Goto leads.next) refl refl leads.is refl refl
            (block_sound graph states state colours s.coloured q job f function l x leads);
        joins = inl refl;
      })
