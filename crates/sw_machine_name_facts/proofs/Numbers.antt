-- A cell that is made has the next number, and so has a job.
use Rattle.std.proofs.Common.{◌≡◌, ℕ, ◌+◌, ◌<◌, ◌≤◌, Bool, true, false, cond, Option}
use Rattle.std.proofs.Common.{Some, None, length, refl, ap, sym, ◌∙◌, arith}
use Rattle.std.proofs.Common.{subst}
use Rattle.std.specs.Prelude.{is_some}
use Rattle.sw_graph.specs.declared.graph.Graph.{Graph}
use Rattle.sw_graph.specs.declared.instr.Instr.{Instr}
use Rattle.sw_graph.specs.declared.instr.Instr.TheVariants as instr
use Rattle.sw_graph.specs.declared.instr.Last.{Last}
use Rattle.sw_graph.specs.Points.{Point, Middle, End}
use Rattle.sw_value.specs.declared.effect.Act.{Act}
use Rattle.sw_value.specs.declared.effect.Act.TheVariants.{Execute}
use Rattle.sw_value.specs.declared.frame.Frame.{Frame}
use Rattle.sw_value.specs.declared.state.State.{State}
use Rattle.sw_value.specs.Act.{act_of}
use Rattle.sw_value.specs.Effect.{instr_effect, last_effect, point_effect}
use Rattle.sw_value.specs.Reach.{step_of}
use Rattle.sw_value.specs.Transition.{made_by}
use Rattle.sw_value.proofs.ReachLemmas.{after_acts, step_by_act}
use Rattle.sw_machine_name_facts.specs.Given.{made_cell}
use Rattle.sw_machine_name_facts.proofs.Acts.{by_act, steps_by}
use Rattle.sw_machine_name_facts.proofs.Cells.{cells_counted}

instr_cell : (graph : Graph) (state : State) (depth : ℕ) (frame : Frame) (next : ℕ) (i : Instr)
    (c : ℕ) → made_cell (Execute (instr_effect graph state depth frame next i)) ≡ Some c
    → c ≡ length state.cells
instr_cell graph state depth frame next (instr.NewObject at r k ss) c made = grind arith
instr_cell graph state depth frame next (instr.NewBox at r s) c made = grind arith
instr_cell graph state depth frame next (instr.NewActor at r k ss) c made = grind arith
instr_cell graph state depth frame next (instr.NewClosure at r f ss) c made = grind arith
instr_cell graph state depth frame next (instr.NewTask at r f ss) c made = grind arith
instr_cell graph state depth frame next i c made = grind arith

last_cell : (graph : Graph) (frame : Frame) (l : Last) (c : ℕ)
    → made_cell (Execute (last_effect graph frame l)) ≡ Some c → ⊥
last_cell graph frame l c made = grind arith

point_cell : (graph : Graph) (state : State) (depth : ℕ) (frame : Frame) (point : Point) (c : ℕ)
    → made_cell (Execute (point_effect graph state depth frame point)) ≡ Some c
    → c ≡ length state.cells
point_cell graph state depth frame (Middle i) c made =
    instr_cell graph state depth frame (frame.point + 1) i c made
point_cell graph state depth frame (End l) c made = absurd (last_cell graph frame l c made)

point_job : (graph : Graph) (state : State) (depth : ℕ) (frame : Frame) (point : Point) (i : ℕ)
    → made_by (Execute (point_effect graph state depth frame point)) ≡ Some i
    → i ≡ length state.jobs
point_job graph state depth frame point i made = grind arith

pub next_cell : (graph : Graph) (state : State) (j : ℕ) (act : Act)
    → act_of graph state j ≡ Some act → (c : ℕ) → made_cell act ≡ Some c
    → c ≡ length state.cells
next_cell graph state j =
    by_act (λ act. (c : ℕ) → made_cell act ≡ Some c → c ≡ length state.cells) graph state j
    (λ c made. cc) (λ ended r v c made. cc)
    (λ x. point_cell graph state (length x.job.frames) x.frame x.point)

pub next_job : (graph : Graph) (state : State) (j : ℕ) (act : Act)
    → act_of graph state j ≡ Some act → (i : ℕ) → made_by act ≡ Some i → i ≡ length state.jobs
next_job graph state j =
    by_act (λ act. (i : ℕ) → made_by act ≡ Some i → i ≡ length state.jobs) graph state j
    (λ i made. cc) (λ ended r v i made. cc)
    (λ x. point_job graph state (length x.job.frames) x.frame x.point)

-- no cell goes away, and one that is made is there
grown : (graph : Graph) (state : State) (j : ℕ) (act : Act) → act_of graph state j ≡ Some act
    → length (step_of graph state j).cells
    ≡ cond (is_some (made_cell act)) (length state.cells + 1) (length state.cells)
grown graph state j act is =
    ap (λ (s : State). length s.cells) (steps_by graph state j act is)
    ∙ cells_counted j act state

pub made_within : (graph : Graph) (state : State) (j : ℕ) (act : Act)
    → act_of graph state j ≡ Some act → (c : ℕ) → made_cell act ≡ Some c
    → (c ≡ length state.cells) × (c < length (step_of graph state j).cells)
made_within graph state j act is c made =
    let next = next_cell graph state j act is c made in
    let count : length (step_of graph state j).cells ≡ length state.cells + 1 =
    grown graph state j act is
    ∙ ap (λ o. cond (is_some o) (length state.cells + 1) (length state.cells)) made in
    (next, omega (arith, next, count))

pub cells_stay : (graph : Graph) (state : State) (j : ℕ)
    → length state.cells ≤ length (step_of graph state j).cells
cells_stay graph state j = by (act_of graph state j) refl where
  pick : (b : Bool)
      → length state.cells ≤ cond b (length state.cells + 1) (length state.cells)
  pick true = omega arith
  pick false = omega arith

  by : (o : Option Act) → act_of graph state j ≡ o
      → length state.cells ≤ length (step_of graph state j).cells
  by None is =
      subst (λ (s : State). length state.cells ≤ length s.cells)
      (sym (step_by_act graph state j ∙ ap (λ o. after_acts j o state) is)) (omega arith)
  by (Some act) is =
      subst (λ n. length state.cells ≤ n) (sym (grown graph state j act is))
      (pick (is_some (made_cell act)))
