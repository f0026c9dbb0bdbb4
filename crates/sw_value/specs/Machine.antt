-- The machine as contracts see a state: what a step reads and changes. A state may keep more, to
-- find things fast; no definition speaks of that.
use Rattle.std.specs.Prelude.{ℕ, Option, List, refl}
use Rattle.std.specs.Coded.{Coded, code_by, coded×, coded_ℕ, coded_list, coded_option}
use Rattle.sw_value.specs.declared.value.Value.{Value}
use Rattle.sw_value.specs.declared.cell.HeapCell.{HeapCell}
use Rattle.sw_value.specs.declared.job.Job.{Job}
use Rattle.sw_value.specs.declared.state.TrapKind.{TrapKind}
use Rattle.sw_value.specs.contracts.value.Value as value
use Rattle.sw_value.specs.contracts.cell.HeapCell as cell
use Rattle.sw_value.specs.contracts.job.Job as job
use Rattle.sw_value.specs.contracts.state.TrapKind as trap

pub record Machine : Type 0 where
  pub cells : List HeapCell
  pub globals : List (Option Value)
  pub jobs : List Job
  pub halted : Option (TrapKind × ℕ)

-- a machine is stored as the pairs of its fields
abbrev pub machine_code : Coded Machine
machine_code =
    code_by
    ((List HeapCell × List (Option Value)) × (List Job × Option (TrapKind × ℕ)))
    (coded×
    (coded× (coded_list cell.the_row.coded) (coded_list (coded_option value.the_row.coded)))
    (coded× (coded_list job.the_row.coded) (coded_option (coded× trap.the_row.coded coded_ℕ))))
    (λ m. ((m.cells, m.globals), (m.jobs, m.halted)))
    (λ p. record { cells = p.0.0; globals = p.0.1; jobs = p.1.0; halted = p.1.1 })
    (λ _. refl)
