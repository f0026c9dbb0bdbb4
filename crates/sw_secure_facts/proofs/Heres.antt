-- Each frame has a colour for its `Here`.
use Rattle.std.proofs.Common.{◌≡◌, ◌<◌, ℕ, Option, Some, None, List, length, refl}
use Rattle.std.proofs.Common.{arith}
use Rattle.std.specs.Option.{option_map_or}
use Rattle.std.specs.List.{slice_get}
use Rattle.std.proofs.lemmas.Option.{slice_get_within}
use Rattle.sw_graph.specs.declared.graph.Graph.{Graph}
use Rattle.sw_value.specs.declared.job.Job.{Job}
use Rattle.sw_value.specs.declared.state.State.{State}
use Rattle.sw_machine_kind_facts.proofs.ItemLemmas.{found_within}
use Rattle.sw_partition.specs.Regions.{Regions}
use Rattle.sw_store_facts.specs.Sound.{HaveHeres}
use Rattle.sw_view_facts.specs.Renaming.{HasHere}
use Rattle.sw_view_facts.specs.Views.{Colours}
use Rattle.sw_secure_facts.specs.Secure.{HeresFit}

pub have_heres : (graph : Graph) (states : ℕ → List (Option Regions)) (state : State)
    (colours : Colours) → HeresFit state colours → HaveHeres graph states state colours
have_heres graph states state colours fit p below = by (slice_get state.jobs p.job) refl below where
  by : (o : Option Job) → slice_get state.jobs p.job ≡ o
      → p.depth < option_map_or (λ (job : Job). length job.frames) o 0 → HasHere colours p
  by None there below = absurd (let clash : ⊥ = omega (arith, below) in clash)
  by (Some job) there below =
      let inside = slice_get_within state.jobs p.job job there in
      let jobs = fit.jobs in
      let row = found_within colours.heres p.job (omega (arith, inside, jobs)) in
      let count = fit.frames p.job job row.0 there row.1 in
      let at = found_within row.0 p.depth (omega (arith, below, count)) in
      record { row = row.0; rows = row.1; colour = at.0; at = at.1 }
