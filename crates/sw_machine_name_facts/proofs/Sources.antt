-- Where an effect takes the names from that it gives.
use Rattle.std.proofs.Common.{◌≡◌, inl, inr, ℕ, ◌+◌, ◌-◌, cond, Some}
use Rattle.std.proofs.Common.{length, Contains, refl, ap, ◌∙◌, subst, sym}
use Rattle.std.specs.Prelude.{option_and_then, is_some}
use Rattle.std.specs.Option.{option_map}
use Rattle.std.specs.List.{slice_get}
use Rattle.sw_list.proofs.Members.{one_in}
use Rattle.sw_graph.specs.declared.graph.Graph.{Graph}
use Rattle.sw_graph.specs.declared.instr.Instr.{Instr}
use Rattle.sw_graph.specs.declared.instr.Instr.TheVariants as instr
use Rattle.sw_graph.specs.declared.instr.Last.{Last}
use Rattle.sw_graph.specs.declared.instr.Last.TheVariants as last
use Rattle.sw_graph.specs.declared.instr.Operand.{Operand}
use Rattle.sw_graph.specs.Points.{Point, Middle, End}
use Rattle.sw_value.specs.declared.cell.HeapCell.TheVariants as cell
use Rattle.sw_value.specs.declared.cell.Slot.TheVariants.{Part, Content}
use Rattle.sw_value.specs.declared.effect.Act.{Act}
use Rattle.sw_value.specs.declared.effect.Act.TheVariants.{Execute}
use Rattle.sw_value.specs.declared.effect.Effect.{Effect}
use Rattle.sw_value.specs.declared.effect.Effect.TheVariants as effect
use Rattle.sw_value.specs.declared.frame.Frame.{Frame}
use Rattle.sw_value.specs.declared.race.Place.{Place}
use Rattle.sw_value.specs.declared.race.Place.TheVariants.{Prop, BoxOf, Global}
use Rattle.sw_value.specs.declared.state.State.{State}
use Rattle.sw_value.specs.declared.value.Value.{Value}
use Rattle.sw_value.specs.Access.{box_at, part_at, read_by, point_access}
use Rattle.sw_value.specs.Act.{act_of}
use Rattle.sw_value.specs.Arithmetic.{unary, binary}
use Rattle.sw_value.specs.Call.{called_frame, closure_frame}
use Rattle.sw_value.specs.Cell.{task_of}
use Rattle.sw_value.specs.Effect.{cell_at, enter_of, spawn_of, goto_of}
use Rattle.sw_value.specs.Effect.{needs, computed_of, new_of, loaded}
use Rattle.sw_value.specs.Effect.{instr_effect, last_effect, point_effect}
use Rattle.sw_value.specs.Frame.{first_frame, start_at}
use Rattle.sw_value.specs.Job.{top_frame}
use Rattle.sw_value.specs.Printed.{printed_line}
use Rattle.sw_value.specs.Value.{value_of, operand_value, value_at, values_at}
use Rattle.sw_value.specs.Value.{field_of, payload_of, made, truth_of, tag_of}
use Rattle.sw_machine_access_facts.specs.Location.{content_of}
use Rattle.sw_machine_let_facts.proofs.ActLemmas.{Executes, asked}
use Rattle.sw_machine_let_facts.proofs.VarLemmas.{box_located}
use Rattle.sw_reach_facts.specs.Reached.{references}
use Rattle.sw_machine_name_facts.specs.Given.{EffectGives, Source, in_register, in_cell, in_location}
use Rattle.sw_machine_name_facts.specs.Given.{in_global}
use Rattle.sw_machine_name_facts.specs.Names.{RegistersName, JobNames, PlaceNames, in_part, in_capture}
use Rattle.sw_machine_name_facts.proofs.Acts.{by_act}
use Rattle.sw_machine_name_facts.proofs.Computed.{literal_plain, unary_plain, binary_plain}
use Rattle.sw_machine_name_facts.proofs.Jobs.{begun_frame}
use Rattle.sw_machine_name_facts.proofs.Loads.{reads_next, cases_location, Finds, finds}
use Rattle.sw_machine_name_facts.proofs.Needs.{of_needs, of_and_then}
use Rattle.sw_machine_name_facts.proofs.NewFrames.{point_frame}
use Rattle.sw_machine_name_facts.proofs.Parts.{nothing_named, field_names, payload_names}
use Rattle.sw_machine_name_facts.proofs.Parts.{made_names}
use Rattle.sw_machine_name_facts.proofs.Registers as register
use Rattle.sw_machine_name_facts.proofs.Taken.{Gives, gives_free, operand_given, operands_given}
use Rattle.sw_machine_name_facts.proofs.Taken.{part_given, computed_given, stored_given}
use Rattle.sw_machine_name_facts.proofs.Taken.{returned_given, BeginsNamed, enter_begins}
use Rattle.sw_machine_name_facts.proofs.Taken.{spawn_begins, first_needs}

module _ (graph : Graph) (state : State) (j : ℕ) (x : Executes graph state j)
    (act : Act) (is : act_of graph state j ≡ Some act) (k : ℕ)
    (gives : EffectGives (asked graph state j x) k) where
  names : (c : ℕ) → RegistersName x.frame.regs c → JobNames state j c
  unfolding top_frame
  names c named = record {
    job = x.job;
    there = x.at;
    depth = length x.job.frames - 1;
    frame = x.frame;
    at = x.top;
    names = named;
  }

  own : RegistersName x.frame.regs k → Source graph state j k
  own named = in_register (names k named)

  -- ---- from places
  -- a location that the point reads
  read : (place : Place) (at : ℕ) → PlaceNames state place k
      → point_access graph state j x.frame x.point ≡ Some (read_by j at place)
      → Source graph state j k
  read place at there reads =
      in_location place
      (reads_next graph state j act is x (gives_free (asked graph state j x) k gives) place at
      reads) there

  there : (place : Place) (v : Value) → content_of state place ≡ Some v
      → Contains (references v) k → PlaceNames state place k
  there place v has named = record { value = v; has = has; names = named }

  from_box : (at r : ℕ) (b : Operand) → x.point ≡ Middle (instr.LoadBox at r b) → (v : Value)
      → Finds state x.frame b Content v → Contains (references v) k → Source graph state j k
  from_box at r b here v f named =
      read (BoxOf f.cell) at (there (BoxOf f.cell) v f.has named)
      (ap (point_access graph state j x.frame) here
      ∙ ap (λ o. option_map (read_by j at) (option_and_then (box_at state) o)) f.refers
      ∙ ap (option_map (read_by j at)) (box_located graph state f.cell (ap is_some f.has)))

  from_part : (at r : ℕ) (o : Operand) (i : ℕ) → x.point ≡ Middle (instr.LoadProp at r o i)
      → (v : Value) → Finds state x.frame o (Part i) v → Contains (references v) k
      → Source graph state j k
  from_part at r o i here v f named =
      elim (cases_location graph state (Prop f.cell i)) [
        | inl located ↦
            read (Prop f.cell i) at (there (Prop f.cell i) v f.has named)
            (ap (point_access graph state j x.frame) here
            ∙ ap (λ c. option_map (read_by j at) (option_and_then (part_at graph state i) c))
            f.refers
            ∙ ap (option_map (read_by j at)) located)
        | inr fixed ↦
            in_cell f.cell (names f.cell (register.in_reference x.frame.regs o f.cell f.refers))
            (in_part i fixed (there (Prop f.cell i) v f.has named))
      ]

  from_global : (at r g : ℕ) → x.point ≡ Middle (instr.LoadGlobal at r g) → (v : Value)
      → value_at state.globals g ≡ Some v → Contains (references v) k → Source graph state j k
  from_global at r g here v has named =
      elim (cases_location graph state (Global g)) [
        | inl located ↦
            read (Global g) at (there (Global g) v has named)
            (ap (point_access graph state j x.frame) here
            ∙ ap (option_map (read_by j at)) located)
        | inr fixed ↦ in_global g fixed (there (Global g) v has named)
      ]

  -- ---- in a frame that is begun
  from_frame : (frame : Frame) → begun_frame (Execute (asked graph state j x)) ≡ Some frame
      → RegistersName frame.regs k → Source graph state j k
  from_frame frame begins named =
      let new = point_frame graph state (length x.job.frames) x.frame frame x.point begins in
      let value = register.of_registers new.filled.count new.values k
      (subst (λ regs. RegistersName regs k) new.filled.registers named) in
      elim (new.from value.0 k value.1 value.2) [
        | inl register ↦ own register
        | inr closure ↦ in_cell closure.0 (names closure.0 closure.1) (in_capture closure.2)
      ]

  from_begun : (i : Instr) → x.point ≡ Middle i
      → BeginsNamed k
      (instr_effect graph state (length x.job.frames) x.frame (x.frame.point + 1) i)
      → Gives k (instr_effect graph state (length x.job.frames) x.frame (x.frame.point + 1) i)
      → Source graph state j k
  from_begun i here begins g =
      let new = begins g in
      from_frame new.0
      (ap (λ p. begun_frame
      (Execute (point_effect graph state (length x.job.frames) x.frame p))) here ∙ new.1) new.2

  from_instr : (i : Instr) → x.point ≡ Middle i
      → Gives k (instr_effect graph state (length x.job.frames) x.frame (x.frame.point + 1) i)
      → Source graph state j k
  from_instr (instr.Const at r l) here g =
      absurd (nothing_named (value_of l) k (literal_plain l) g)
  from_instr (instr.Un at r op s) here g =
      let next = x.frame.point + 1 in
      let found = of_needs (Gives k) (λ none. none)
      (option_and_then (unary op) (operand_value x.frame.regs s)) (computed_of next at r) g in
      let v = of_and_then (unary op) (operand_value x.frame.regs s) found.0 found.1 in
      absurd (computed_given k next at r found.0 (unary_plain op v.0 found.0 v.2) found.2)
  from_instr (instr.Bin at r op s t) here g =
      let next = x.frame.point + 1 in
      let left = of_needs (Gives k) (λ none. none) (operand_value x.frame.regs s)
      (λ v. needs (option_and_then (binary op v) (operand_value x.frame.regs t))
      (computed_of next at r)) g in
      let found = of_needs (Gives k) (λ none. none)
      (option_and_then (binary op left.0) (operand_value x.frame.regs t)) (computed_of next at r)
      left.2 in
      let v = of_and_then (binary op left.0) (operand_value x.frame.regs t) found.0 found.1 in
      absurd (computed_given k next at r found.0 (binary_plain op left.0 v.0 found.0 v.2) found.2)
  from_instr (instr.Print at r ss) here g =
      absurd (of_needs (Gives k) (λ none. none) (printed_line x.frame.regs ss)
      (λ line. effect.Print r line (x.frame.point + 1)) g).2
  from_instr (instr.Copy at r s) here g =
      own (operand_given x.frame.regs s k (λ v. effect.Set r v (x.frame.point + 1))
      (λ v named. named) g)
  from_instr (instr.Field at r s i) here g =
      own (part_given x.frame.regs s k r (x.frame.point + 1) (field_of i)
      (λ v w. field_names i v w k) g)
  from_instr (instr.Payload at r s i) here g =
      own (part_given x.frame.regs s k r (x.frame.point + 1) (payload_of i)
      (λ v w. payload_names i v w k) g)
  from_instr (instr.SetField at r i s) here g =
      let whole = option_and_then (field_of i) (operand_value x.frame.regs r) in
      own (operand_given x.frame.regs s k
      (λ v. needs whole (λ old. effect.SetField r.reg i v (x.frame.point + 1)))
      (λ v named. (of_needs (Gives k) (λ none. none) whole
      (λ old. effect.SetField r.reg i v (x.frame.point + 1)) named).2) g)
  from_instr (instr.Make at r shape tag ss) here g =
      own (operands_given x.frame.regs ss k
      (λ parts. effect.Set r (made tag parts) (x.frame.point + 1))
      (λ vs. made_names tag vs k) g)
  from_instr (instr.NewObject at r shape ss) here g =
      own (operands_given x.frame.regs ss k
      (λ parts. new_of state (x.frame.point + 1) r (cell.Object shape parts))
      (λ vs named. named) g)
  from_instr (instr.NewBox at r s) here g =
      own (operand_given x.frame.regs s k
      (λ v. new_of state (x.frame.point + 1) r (cell.BoxOf v))
      (λ v named. subst (λ u. Contains (references u) k) (sym (one_in v named.0 named.1)) named.2)
      g)
  from_instr (instr.NewActor at r shape ss) here g =
      own (operands_given x.frame.regs ss k
      (λ parts. new_of state (x.frame.point + 1) r (cell.Actor shape parts))
      (λ vs named. named) g)
  from_instr (instr.LoadBox at r b) here g =
      let found = of_needs (Gives k) (λ none. none) (loaded state x.frame b Content)
      (λ v. effect.Set r v (x.frame.point + 1)) g in
      from_box at r b here found.0 (finds state x.frame b Content found.0 found.1) found.2
  from_instr (instr.StoreBox at b s) here g =
      own (stored_given state x.frame (x.frame.point + 1) b Content s k g)
  from_instr (instr.LoadProp at r o i) here g =
      let found = of_needs (Gives k) (λ none. none) (loaded state x.frame o (Part i))
      (λ v. effect.Set r v (x.frame.point + 1)) g in
      from_part at r o i here found.0 (finds state x.frame o (Part i) found.0 found.1) found.2
  from_instr (instr.StoreProp at o i s) here g =
      own (stored_given state x.frame (x.frame.point + 1) o (Part i) s k g)
  from_instr (instr.LoadGlobal at r h) here g =
      let found = of_needs (Gives k) (λ none. none) (value_at state.globals h)
      (λ v. effect.Set r v (x.frame.point + 1)) g in
      from_global at r h here found.0 found.1 found.2
  from_instr (instr.StoreGlobal at h s) here g =
      own (operand_given x.frame.regs s k
      (λ v. needs (slice_get state.globals h)
      (λ old. effect.WriteGlobal h v (x.frame.point + 1)))
      (λ v named. (of_needs (Gives k) (λ none. none) (slice_get state.globals h)
      (λ old. effect.WriteGlobal h v (x.frame.point + 1)) named).2) g)
  from_instr (instr.NewClosure at r f ss) here g =
      own (operands_given x.frame.regs ss k
      (λ values. new_of state (x.frame.point + 1) r (cell.Closure f values))
      (λ vs named. named) g)
  from_instr (instr.Call at r kind f ss) here g =
      let enter = enter_of (length x.job.frames) (x.frame.point + 1) at in
      from_begun (instr.Call at r kind f ss) here
      (first_needs k (λ vs. needs (called_frame graph x.frame f kind r vs) enter)
      (λ vs. first_needs k enter (enter_begins k (length x.job.frames) (x.frame.point + 1) at)
      (called_frame graph x.frame f kind r vs)) (values_at x.frame.regs ss)) g
  from_instr (instr.CallClosure at r c ss) here g =
      let enter = enter_of (length x.job.frames) (x.frame.point + 1) at in
      from_begun (instr.CallClosure at r c ss) here
      (first_needs k
      (λ vs. needs (option_and_then (closure_frame graph x.frame r vs) (cell_at state x.frame c))
      enter)
      (λ vs. first_needs k enter (enter_begins k (length x.job.frames) (x.frame.point + 1) at)
      (option_and_then (closure_frame graph x.frame r vs) (cell_at state x.frame c)))
      (values_at x.frame.regs ss)) g
  from_instr (instr.NewTask at r f ss) here g =
      let spawn = spawn_of state (x.frame.point + 1) at r in
      from_begun (instr.NewTask at r f ss) here
      (first_needs k (λ vs. needs (first_frame graph f vs) spawn)
      (λ vs. first_needs k spawn (spawn_begins state k (x.frame.point + 1) at r)
      (first_frame graph f vs)) (values_at x.frame.regs ss)) g
  from_instr (instr.Await at r t) here g =
      absurd (of_needs (Gives k) (λ none. none) (option_and_then task_of (cell_at state x.frame t))
      (λ job. effect.Wait job r (x.frame.point + 1)) g).2
  from_instr (instr.Yield at r) here g = absurd g

  none_to : (block : ℕ) → Gives k (goto_of graph x.frame block) → ⊥
  none_to block g =
      (of_needs (Gives k) (λ none. none) (start_at graph x.frame block) effect.Goto g).2

  from_last : (l : Last) → Gives k (last_effect graph x.frame l) → Source graph state j k
  from_last (last.Jump to) g = absurd (none_to to g)
  from_last (last.Branch s holds fails) g =
      let found = of_needs (Gives k) (λ none. none)
      (option_and_then truth_of (operand_value x.frame.regs s))
      (λ truth. goto_of graph x.frame (cond truth holds fails)) g in
      absurd (none_to (cond found.0 holds fails) found.2)
  from_last (last.Switch s to) g =
      let tag = of_needs (Gives k) (λ none. none)
      (option_and_then tag_of (operand_value x.frame.regs s))
      (λ tag. needs (slice_get to tag) (goto_of graph x.frame)) g in
      let found = of_needs (Gives k) (λ none. none) (slice_get to tag.0) (goto_of graph x.frame)
      tag.2 in absurd (none_to found.0 found.2)
  from_last (last.Return o) g = own (returned_given x.frame.regs o k g)

  from_point : (point : Point) → x.point ≡ point
      → Gives k (point_effect graph state (length x.job.frames) x.frame point)
      → Source graph state j k
  from_point (Middle i) here g = from_instr i here g
  from_point (End l) here g = from_last l g

  pub found : Source graph state j k
  found = from_point x.point refl gives

-- what a job is given by an instruction that it executes
abbrev ExecutedGives : Act → ℕ → Type 0
ExecutedGives (Execute e) k = EffectGives e k
ExecutedGives _ k = ⊥

pub effect_sources : (graph : Graph) (state : State) (j : ℕ) (e : Effect)
    → act_of graph state j ≡ Some (Execute e) → (k : ℕ) → EffectGives e k
    → Source graph state j k
effect_sources graph state j e is =
    by_act
    (λ act. act_of graph state j ≡ Some act → (k : ℕ) → ExecutedGives act k
    → Source graph state j k) graph state j (λ same k none. absurd none)
    (λ ended r v same k none. absurd none)
    (λ x same. found graph state j x (Execute (asked graph state j x)) same) (Execute e) is is
