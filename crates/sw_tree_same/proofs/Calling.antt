-- Work that begins frames: calls of bodies and of closures, closures that are made, and tasks.
use Rattle.std.proofs.Common.{◌≡◌, ℕ, suc, ◌+◌, Bool, true, false, Option, Some, None, List, [], ◌∷◌, length}
use Rattle.std.proofs.Common.{refl, ap, sym, ◌∙◌, subst, arith}
use Rattle.std.specs.Prelude.{slice_get, nat_le, option_and_then, option_map, if◌then◌else◌}
use Rattle.sw_types.specs.declared.isolation.CallKind.{CallKind}
use Rattle.sw_types.specs.declared.isolation.Iso.{Iso}
use Rattle.sw_graph.specs.declared.function.Function.{Function}
use Rattle.sw_graph.specs.declared.instr.Instr.TheVariants as instr
use Rattle.sw_graph.specs.declared.instr.Operand.{Operand}
use Rattle.sw_isolation_rules.specs.declared.note.Capture.{Capture}
use Rattle.sw_lower_plans.specs.declared.bound.Bound.{Bound}
use Rattle.sw_value.specs.declared.cell.HeapCell.TheVariants as cell
use Rattle.sw_value.specs.declared.effect.Effect.TheVariants as effect
use Rattle.sw_value.specs.declared.frame.Frame.{Frame}
use Rattle.sw_value.specs.declared.frame.TheConstants.{MAX_FRAMES}
use Rattle.sw_value.specs.declared.job.TheConstants.{MAX_JOBS}
use Rattle.sw_value.specs.declared.state.TrapKind.TheVariants.{Frames, Jobs}
use Rattle.sw_value.specs.declared.value.Value.{Value}
use Rattle.sw_value.specs.declared.value.Value.TheVariants as value
use Rattle.sw_value.specs.Call.{called_frame, closure_frame}
use Rattle.sw_value.specs.Effect as graph
use Rattle.sw_value.specs.Effect.{enter_of, needs, new_of, spawn_of}
use Rattle.sw_value.specs.Frame as begins
use Rattle.sw_value.specs.Frame.{finish_instr, go_on}
use Rattle.sw_value.specs.Lists.{each_of}
use Rattle.sw_value.specs.Value.{operand_value, reference_of, value_at, values_at}
use Rattle.sw_tree_work.specs.Work as work
use Rattle.sw_tree_work.specs.Work.{BodyName, Work}
use Rattle.sw_tree_step.specs.Acting.{Enters, Spawns, adds, besides, enters, halts, one_of, with_temps}
use Rattle.sw_tree_step.specs.Frames as frames
use Rattle.sw_tree_step.specs.Frames.{called, called_closure, captures, first_frame, hold_shared}
use Rattle.sw_tree_step.specs.Frames.{hold_value}
use Rattle.sw_tree_step.specs.State.{Closed, Direct, Env, TreeFrame, put, value_in}
use Rattle.sw_tree_step.specs.Working.{spawns}
use Rattle.sw_spots.specs.Spots as spots
use Rattle.sw_spots.specs.Spots.{AnyFunction, AreHeld, BeginsAt, CallAt, ClosureCallAt, GivesNewest}
use Rattle.sw_spots.specs.Spots.{HasIso, IsFree, Next, OnHeld, OnMany, Program, Spot, Stands}
use Rattle.sw_tree_same.specs.Frames.{AreTemps, AreVars}
use Rattle.sw_tree_same.specs.States.{AreCaptured, CellsMatch}
use Rattle.sw_tree_same.proofs.Beginning.{BothBegin, BothFirst, call_begins, closure_begins, task_begins}
use Rattle.sw_tree_same.proofs.Blocks.{Ends}
use Rattle.sw_tree_same.proofs.Cells.{adds_cell, cell_count}
use Rattle.sw_tree_same.proofs.Computing.{now_is}
use Rattle.sw_tree_same.proofs.Following.{given, passed}
use Rattle.sw_tree_same.proofs.Registers.{values_are}
use Rattle.sw_tree_same.proofs.Scene.{BeginsFull, Does, Follows, Have, Related, Relates, Rest, Scene}
use Rattle.sw_tree_same.proofs.Scene.{has_value, here, later, next, now, on_many, on_one}
use Rattle.sw_tree_same.proofs.Zips.{BothOrNone, zip_get, zip_length}

-- What is captured is there on both machines.
record Holds (regs : List (Option Value)) (env : Env) (caps : List Capture) (values : List Value)
    (os : List Operand) : Type 0 where
  own : Env
  captured : List Value
  is : captures caps env values ≡ Some own
  have : values_at regs os ≡ Some captured
  are : AreCaptured caps own captured

module _ (regs : List (Option Value)) (env : Env) (vars : List Bound)
    (known : AreVars regs env vars) where
  holds_more : (one : Capture) (more : List Capture) (o : Operand) (os : List Operand)
      → ((values : List Value) (numbers : List ℕ) → AreTemps regs values numbers
      → AreHeld more vars numbers os → Holds regs env more values os) → (values : List Value)
      (numbers : List ℕ) → AreTemps regs values numbers → (shared : Bool) → one.by_ref ≡ shared
      → OnHeld shared one.variable vars numbers o (λ rest. AreHeld more vars rest os)
      → Holds regs env (one ∷ more) values (o ∷ os)
  holds_more one more o os rest values numbers are true by_ref held =
      let bound = held.0.0 in
      let has = known one.variable bound held.0.1 in
      let later = rest values numbers are held.1 in
      record {
        own = put one.variable has.room later.own;
        captured = value_in has.room ∷ later.captured;
        is = ap (λ shared. if shared then hold_shared one.variable env (captures more env values)
            else hold_value one.variable values (captures more env)) by_ref
            ∙ ap (option_and_then (λ room. option_map (put one.variable room)
            (captures more env values))) has.found
            ∙ ap (option_map (put one.variable has.room)) later.is;
        have = ap (λ first. option_and_then (λ v. option_map (λ vs. v ∷ vs)
            (each_of (operand_value regs) os)) first)
            (ap (value_at regs) held.0.3 ∙ has.is.1)
            ∙ ap (option_map (λ vs. value_in has.room ∷ vs)) later.have;
        are = (refl, has.is.0 ∙ held.0.2 ∙ sym by_ref, refl, later.are);
      }
  holds_more one more o os rest (v ∷ values) (r ∷ numbers) are false by_ref held =
      let later = rest values numbers are.1 held.1 in
      record {
        own = put one.variable (Direct v) later.own;
        captured = v ∷ later.captured;
        is = ap (λ shared. if shared then hold_shared one.variable env (captures more env (v ∷ values))
            else hold_value one.variable (v ∷ values) (captures more env)) by_ref
            ∙ ap (option_map (put one.variable (Direct v))) later.is;
        have = ap (λ first. option_and_then (λ w. option_map (λ vs. w ∷ vs)
            (each_of (operand_value regs) os)) first)
            (ap (value_at regs) held.0 ∙ are.0)
            ∙ ap (option_map (λ vs. v ∷ vs)) later.have;
        are = (refl, sym by_ref, refl, later.are);
      }
  holds_more one more o os rest [] [] are false by_ref held = absurd held
  holds_more one more o os rest [] (r ∷ numbers) are false by_ref held = absurd are
  holds_more one more o os rest (v ∷ values) [] are false by_ref held = absurd are

  holds : (caps : List Capture) (os : List Operand) (values : List Value) (numbers : List ℕ)
      → AreTemps regs values numbers → AreHeld caps vars numbers os
      → Holds regs env caps values os
  holds [] [] values numbers are held =
      record { own = []; captured = []; is = refl; have = refl; are = tt }
  holds (one ∷ more) (o ∷ os) values numbers are held =
      holds_more one more o os (holds more os) values numbers are one.by_ref refl held
  holds [] (o ∷ os) values numbers are held = absurd held
  holds (one ∷ more) [] values numbers are held = absurd held

counts_same : (caps : List Capture) → spots.read_count caps ≡ frames.read_count caps
counts_same [] = refl
counts_same (one ∷ more) = by one.by_ref (counts_same more) where
  by : (shared : Bool) → spots.read_count more ≡ frames.read_count more
      → (if shared then spots.read_count more else suc (spots.read_count more))
      ≡ (if shared then frames.read_count more else 1 + frames.read_count more)
  by true same = same
  by false same = omega (arith, same)

-- what the making of a closure asks for, and of a task
abbrev CloseAt : Program → List Capture → List ℕ → Work → Function → Spot → Next → List ℕ → List ℕ
    → Type 0
CloseAt p caps params body f spot K rs temps = (at : ℕ) × (number : ℕ) × (os : List Operand)
    × AreHeld caps spot.vars rs os
    × BeginsAt p number caps params AnyFunction (λ g next. Stands p body g [] next)
    × GivesNewest f spot temps (λ r. instr.NewClosure at r number os) K

abbrev SpawnAt : Program → ℕ → Iso → List Capture → Work → Function → Spot → Next → List ℕ → List ℕ
    → Type 0
SpawnAt p at how caps body f spot K rs temps = (number : ℕ) × (os : List Operand)
    × AreHeld caps spot.vars rs os
    × BeginsAt p number caps [] (HasIso how) (λ g next. Stands p body g [] next)
    × GivesNewest f spot temps (λ r. instr.NewTask at r number os) K

module _ (c : Scene) where
  -- a frame is put on top, unless there are too many
  enters_same : (at : ℕ) (rest : Work) (temps : List Value) (numbers : List ℕ) (r : ℕ)
      → Have c temps numbers → IsFree c.function r c.vars numbers
      → Rest c rest (later c (r ∷ numbers)) → (callee : Option TreeFrame) (frame : Option Frame)
      → BothBegin c.p c.graph c.ground.functions callee frame r
      → now c ≡ needs frame (enter_of c.depth (next c) at)
      → Relates c (option_and_then (enters c.depth at temps rest c.tree) callee)
  enters_same at rest temps numbers r are free stands None None both is = is
  enters_same at rest temps numbers r are free stands (Some callee) (Some frame) both is =
      by (nat_le MAX_FRAMES c.depth) is where
        by : (many : Bool)
            → now c ≡ (if many then effect.Halt Frames at else effect.Enter frame (next c))
            → Relates c (if many then halts Frames at c.tree
            else besides (Enters callee) temps rest c.tree)
        by true is = subst (Related c (halts Frames at c.tree)) (sym is) (refl, refl, refl)
        by false is = subst (Related c (besides (Enters callee) temps rest c.tree)) (sym is) (
          both.0 (subst (BeginsFull c.graph) is c.full),
          both.1,
          subst (λ s. Follows c (Some s) (with_temps temps rest c.tree) (go_on (next c) c.frame))
              (sym both.2) (passed c (Some r) rest temps numbers are free stands),
        )
  enters_same at rest temps numbers r are free stands None (Some frame) both is = absurd both
  enters_same at rest temps numbers r are free stands (Some callee) None both is = absurd both

  pub call_does : (at : ℕ) (kind : CallKind) (name : BodyName) (count : ℕ)
      → Does c (work.Call at kind name count)
  call_does at kind name count rest temps numbers are act =
      on_many c (CallAt c.p at kind name c.function (here c numbers) (Rest c rest))
      (λ values more. option_and_then (enters c.depth at more rest c.tree)
      (option_and_then (called c.tree.executor kind values) (c.bodies name))) count temps numbers are
      act
      (λ values own more others have below on.
      let body = c.ground.stand name on.0 on.1 in
      let g = on.2.2 in
      subst (λ found. Relates c (option_and_then (enters c.depth at more rest c.tree)
      (option_and_then (called c.tree.executor kind values) found))) (sym body.1)
      (enters_same at rest more others g.r below g.free g.next
      (called c.tree.executor kind values body.0) (called_frame c.graph c.frame on.0 kind g.r values)
      (call_begins c.p c.graph c.ground.functions c.frame c.tree.executor c.executor on.0 g.r kind
      values body.0 body.2)
      (now_is c numbers (instr.Call at g.r kind on.0 on.2.0) g.is
      ∙ ap (λ o. needs o (λ vs. needs (called_frame c.graph c.frame on.0 kind g.r vs)
      (enter_of c.depth (next c) at))) (values_are c.frame.regs on.2.0 values own on.2.1 have))))

  cells_both : (v : Value)
      → BothOrNone (CellsMatch c.p) (option_and_then (slice_get c.trees.cells) (reference_of v))
      (option_and_then (λ k. slice_get c.state.cells k) (reference_of v))
  cells_both v = by (reference_of v) where
    by : (k : Option ℕ)
        → BothOrNone (CellsMatch c.p) (option_and_then (slice_get c.trees.cells) k)
        (option_and_then (λ k. slice_get c.state.cells k) k)
    by None = tt
    by (Some k) =
        zip_get (CellsMatch c.p) c.trees.cells c.state.cells k c.match_states.cells

  pub call_closure_does : (at count : ℕ) → Does c (work.CallClosure at count)
  call_closure_does at count rest temps numbers are act =
      on_many c (ClosureCallAt at c.function (here c numbers) (Rest c rest))
      (λ values more. one_of more (λ v temps. option_and_then (enters c.depth at temps rest c.tree)
      (option_and_then (called_closure c.tree.executor values)
      (option_and_then (slice_get c.trees.cells) (reference_of v))))) count temps numbers are act
      (λ values own more others have below on. on_one c _ _ more others below on
      (λ v s less fewer has lower on.
      let os = on.2.0 in
      let g = on.2.2 in
      enters_same at rest less fewer g.r lower g.free g.next
      (option_and_then (called_closure c.tree.executor values)
      (option_and_then (slice_get c.trees.cells) (reference_of v)))
      (option_and_then (closure_frame c.graph c.frame g.r values)
      (option_and_then (λ k. slice_get c.state.cells k) (reference_of v)))
      (closure_begins c.p c.graph c.ground.functions c.frame c.tree.executor c.executor g.r values
      (option_and_then (slice_get c.trees.cells) (reference_of v))
      (option_and_then (λ k. slice_get c.state.cells k) (reference_of v)) (cells_both v))
      (now_is c numbers (instr.CallClosure at g.r on.0 os) g.is
      ∙ ap (λ o. needs o (λ vs. needs (option_and_then (closure_frame c.graph c.frame g.r vs)
      (graph.cell_at c.state c.frame on.0)) (enter_of c.depth (next c) at)))
      (values_are c.frame.regs os values own on.2.1 have)
      ∙ ap (λ o. needs (option_and_then (closure_frame c.graph c.frame g.r values)
      (option_and_then (λ k. slice_get c.state.cells k) (option_and_then reference_of o)))
      (enter_of c.depth (next c) at)) (has_value c on.0 s v on.1 has))))

  pub close_ends : (key : ℕ) (caps : List Capture) (params : List ℕ) (body rest : Work)
      → Ends c (work.Close key caps params body rest)
  close_ends key caps params body rest temps numbers are act =
      on_many c (CloseAt c.p caps params body c.function (here c numbers) (Rest c rest))
      (λ values more. option_and_then
      (λ env. adds c.trees (Closed key params body env) more rest c.tree)
      (captures caps c.tree.env values)) (frames.read_count caps) temps numbers are
      (subst (λ n. OnMany n numbers
      (CloseAt c.p caps params body c.function (here c numbers) (Rest c rest))) (counts_same caps) act)
      (λ values own more others have below on.
      let h = holds c.frame.regs c.tree.env c.vars c.are_vars caps on.2 values own have on.3 in
      subst (λ env. Relates c (option_and_then
      (λ env. adds c.trees (Closed key params body env) more rest c.tree) env)) (sym h.is)
      (adds_cell c rest numbers more others (λ r. instr.NewClosure on.0 r on.1 on.2)
      (Closed key params body h.own) (cell.Closure on.1 h.captured) below on.5 (caps, h.are, on.4)
      (ap (λ o. needs o (λ vs. new_of c.state (next c) on.5.r (cell.Closure on.1 vs))) h.have)))

  pub job_count : length c.trees.jobs ≡ length c.state.jobs
  job_count = zip_length _ c.trees.jobs c.state.jobs c.match_states.jobs

  -- a task begins, unless there are too many
  spawns_same : (at : ℕ) (rest : Work) (temps : List Value) (numbers : List ℕ) (r : ℕ)
      → Have c temps numbers → IsFree c.function r c.vars numbers
      → Rest c rest (later c (r ∷ numbers)) → (first : Option TreeFrame) (frame : Option Frame)
      → BothFirst c.p c.graph c.ground.functions first frame
      → now c ≡ needs frame (spawn_of c.state (next c) at r)
      → Relates c (option_and_then (spawns c.trees at temps rest c.tree) first)
  spawns_same at rest temps numbers r are free stands None None both is = is
  spawns_same at rest temps numbers r are free stands (Some first) (Some frame) both is =
      subst (λ n. Relates c (if nat_le MAX_JOBS n then halts Jobs at c.tree
      else besides (Spawns first) (value.Cell (length c.trees.cells) ∷ temps) rest c.tree))
      (sym job_count) (by (nat_le MAX_JOBS (length c.state.jobs)) is) where
        tree : TreeFrame
        tree = with_temps (value.Cell (length c.trees.cells) ∷ temps) rest c.tree

        by : (many : Bool)
            → now c ≡ (if many then effect.Halt Jobs at
            else effect.Spawn r frame (length c.state.jobs) (length c.state.cells) (next c))
            → Relates c (if many then halts Jobs at c.tree
            else besides (Spawns first) (value.Cell (length c.trees.cells) ∷ temps) rest c.tree)
        by true is = subst (Related c (halts Jobs at c.tree)) (sym is) (refl, refl, refl)
        by false is =
            subst (Related c (besides (Spawns first) (value.Cell (length c.trees.cells) ∷ temps) rest
            c.tree)) (sym is) (
              both.0 (subst (BeginsFull c.graph) is c.full),
              both.1,
              both.2,
              refl,
              subst (λ n. Follows c None tree (finish_instr r (value.Cell n) (next c) c.frame))
                  (cell_count c)
                  (given c rest temps numbers r (value.Cell (length c.trees.cells)) are free stands),
            )
  spawns_same at rest temps numbers r are free stands None (Some frame) both is = absurd both
  spawns_same at rest temps numbers r are free stands (Some first) None both is = absurd both

  pub spawn_ends : (at : ℕ) (how : Iso) (caps : List Capture) (body rest : Work)
      → Ends c (work.Spawn at how caps body rest)
  spawn_ends at how caps body rest temps numbers are act =
      on_many c (SpawnAt c.p at how caps body c.function (here c numbers) (Rest c rest))
      (λ values more. option_and_then (spawns c.trees at more rest c.tree)
      (option_and_then (λ env. first_frame how env body) (captures caps c.tree.env values)))
      (frames.read_count caps) temps numbers are
      (subst (λ n. OnMany n numbers
      (SpawnAt c.p at how caps body c.function (here c numbers) (Rest c rest))) (counts_same caps) act)
      (λ values own more others have below on.
      let h = holds c.frame.regs c.tree.env c.vars c.are_vars caps on.1 values own have on.2 in
      let g = on.4 in
      subst (λ env. Relates c (option_and_then (spawns c.trees at more rest c.tree)
      (option_and_then (λ env. first_frame how env body) env))) (sym h.is)
      (spawns_same at rest more others g.r below g.free g.next (first_frame how h.own body)
      (begins.first_frame c.graph on.0 h.captured)
      (task_begins c.p c.graph c.ground.functions on.0 how caps body h.own h.captured h.are on.3)
      (now_is c numbers (instr.NewTask at g.r on.0 on.1) g.is
      ∙ ap (λ o. needs o (λ vs. needs (begins.first_frame c.graph on.0 vs)
      (spawn_of c.state (next c) at g.r))) h.have)))
