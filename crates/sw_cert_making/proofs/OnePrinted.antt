-- For each graph one text is printed, or none.
use Rattle.std.proofs.Common.{◌≡◌, ℕ, inl, inr, Option, Some, None, List, length, refl, ap, arith}
use Rattle.std.proofs.lemmas.Bool.{cases_lt}
use Rattle.sw_graph.specs.declared.graph.Graph.{Graph}
use Rattle.sw_cert_making.proofs.OneCertificate.{one_certificate}
use Rattle.sw_cert_making.proofs.Whole.{some_certificate}
use Rattle.sw_cert_making.specs.Printed.{IsPrinted}
use Rattle.sw_cert.specs.declared.verdict.TheConstants.{CERTIFICATE_LIMIT}

pub one_printed : (graph : Graph) (a b : Option (List ℕ)) → IsPrinted graph a → IsPrinted graph b
    → a ≡ b
one_printed graph None None first second = refl
one_printed graph None (Some y) (text, is, over) (is_too, within) = absurd (omega (
  arith,
  ap length (one_certificate graph text y is is_too),
  over,
  within,
))
one_printed graph (Some x) None (is, within) (text, is_too, over) = absurd (omega (
  arith,
  ap length (one_certificate graph x text is is_too),
  over,
  within,
))
one_printed graph (Some x) (Some y) (is, within) (is_too, within_too) =
    ap Some (one_certificate graph x y is is_too)

pub some_printed : (graph : Graph) → (printed : Option (List ℕ)) × IsPrinted graph printed
some_printed graph =
    let made = some_certificate graph in elim (cases_lt CERTIFICATE_LIMIT (length made.0)) [
      | inl over ↦ (None, (made.0, made.1, over))
      | inr within ↦ (Some made.0, (made.1, within))
    ]
