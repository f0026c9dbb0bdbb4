-- All bytes have an answer for each graph.
use Rattle.std.proofs.Common.{ℕ, inl, inr, List, Result, Err}
use Rattle.sw_graph.specs.declared.graph.Graph.{Graph}
use Rattle.sw_cert.proofs.Answered.{some_answer}
use Rattle.sw_cert.proofs.Extents.{some_extents}
use Rattle.sw_cert.proofs.SomeForm.{some_form}
use Rattle.sw_cert.specs.Verified.{Verified, bad_form}
use Rattle.sw_cert.specs.declared.verdict.CertFault.{CertFault}
use Rattle.sw_cert.specs.declared.verdict.CertFault.TheVariants as faults

pub some_verified : (graph : Graph) (bytes : List ℕ)
    → (result : Result (Unit {0}) CertFault) × Verified graph bytes result
some_verified graph bytes =
    let (extents, are_extents) = some_extents graph in elim (some_form extents bytes) [
      | inl (lines, is) ↦ some_answer graph bytes lines extents are_extents is
      | inr (at, bad) ↦ (
        Err (faults.BadForm at),
        bad_form at (record { extents = extents; are_extents = are_extents; is_bad = bad }),
      )
    ]
