-- Bytes that are a certificate of a graph have an answer.
use Rattle.std.proofs.Common.{◌≡◌, ℕ, ◌⊎◌, inl, inr, Option, Some, None, IfSome, List, ◌∷◌}
use Rattle.std.proofs.Common.{length, Result, Ok, Err, refl, subst, ap, ◌∙◌}
use Rattle.std.specs.List.{slice_get, AllByRecursion}
use Rattle.sw_graph.specs.declared.function.Function.{Function}
use Rattle.sw_graph.specs.declared.graph.Graph.{Graph}
use Rattle.sw_partition.specs.Regions.{Regions, size_of}
use Rattle.sw_region_flow.proofs.Deciding.{Decided}
use Rattle.sw_region_flow.proofs.OneSites.{sites_are_one}
use Rattle.sw_region_flow.specs.Certified.{IsCertified}
use Rattle.sw_region_ops.specs.Elements.{element_count}
use Rattle.sw_region_ops.specs.Entry.{IsEntry}
use Rattle.sw_region_ops.specs.Setting.{setting_of}
use Rattle.sw_solve.specs.Annotation.{value_at}
use Rattle.sw_cert.proofs.EntriesDecided.{all_enter}
use Rattle.sw_cert.proofs.Judging.{of_member}
use Rattle.sw_cert.proofs.LinesDecided.{AreStatesOf, states_fit, tell_passes, tell_holds}
use Rattle.sw_cert.proofs.Decisions.{IsFirstNot, first_not}
use Rattle.sw_cert.proofs.ShownLines.{some_reading}
use Rattle.sw_cert.specs.Certificate.{IsCertificate}
use Rattle.sw_cert.specs.ReadLines.{text_of}
use Rattle.sw_cert.specs.Reading.{AreExtentsOf, IsReading, states_of}
use Rattle.sw_cert.specs.Verified.{Annotations, EntersAt, PassesAt, ClosedAt, Holds, IsFirstLine}
use Rattle.sw_cert.specs.Verified.{LinePasses, IsAccepted}
use Rattle.sw_cert.specs.Verified.{Verified, accepted, entry, fails, open_at}
use Rattle.sw_cert.specs.declared.line.Extent.{Extent}
use Rattle.sw_cert.specs.declared.line.Line.{Line}
use Rattle.sw_cert.specs.declared.verdict.CertFault.{CertFault}
use Rattle.sw_cert.specs.declared.verdict.CertFault.TheVariants as faults

-- what holds of what an option has
if_some : (P : Regions → Type 0) (o : Option Regions) → ((x : Regions) → o ≡ Some x → P x)
    → IfSome o P
if_some P None each = tt
if_some P (Some x) each = each x refl

module _ (graph : Graph) (bytes : List ℕ) (lines : List Line) (annotations : Annotations)
    (reading : IsReading graph bytes lines annotations)
    (enters : (function : ℕ) → EntersAt graph annotations function) where
  -- each line holds, and so what stands at each block of a function
  module _ (hold : AllByRecursion (Holds graph annotations) lines) (function : ℕ) (body : Function)
      (is : slice_get graph.functions function ≡ Some body) where
    fit : AreStatesOf graph lines annotations function body
    fit = states_fit graph bytes lines annotations reading function body is

    abbrev BothAt : ℕ → ℕ → Type 0
    BothAt n block = PassesAt (setting_of graph body) (states_of annotations n) block
        × ClosedAt (setting_of graph body) (states_of annotations n) block

    holds_at : (block : ℕ) (state : Regions)
        → value_at (states_of annotations function) block ≡ Some state → BothAt function block
    holds_at block state at =
        let by = (fit.each block state at).stated in
        let line_holds = of_member (Holds graph annotations) lines by.line hold by.is_line in
        let same = ap (slice_get graph.functions) by.function_is ∙ is in
        subst (λ n. BothAt n block) by.function_is
        (subst (λ b. BothAt by.line.function b) by.block_is
        (line_holds.0 body same, line_holds.1 body same))

    certified_at : IsCertified (setting_of graph body) (states_of annotations function)
    certified_at =
        let entered = enters function body is in
        record {
          sites = fit.sites;
          are_sites = fit.are_sites;
          closed = record {
            sized = λ block. if_some
                (λ r. size_of r ≡ element_count (setting_of graph body).elements ∷ fit.sites)
                (value_at (states_of annotations function) block)
                (λ state at. (fit.each block state at).sized);
            entry = entered.entry;
            enters_by = subst (λ sites. IsEntry (setting_of graph body) sites entered.entry)
                (sites_are_one (setting_of graph body) entered.entry.sites fit.sites
                entered.is_entry.sites fit.are_sites) entered.is_entry.entry;
            entered = entered.within;
            stepped = λ block state at.
                let on = (holds_at block state at).1 state at in
                record {
                  made = on.made;
                  leads_to = ((fit.each block state at).there, on.leads_to);
                  below = on.below;
                };
          };
          passes = λ block state copied at copy. (holds_at block state at).0 state copied at copy;
        }

  certified : AllByRecursion (Holds graph annotations) lines → IsAccepted graph bytes
  certified hold = record {
    lines = lines;
    annotations = annotations;
    is_reading = reading;
    certified = certified_at hold;
  }

  -- a line that doesn't hold, behind lines that do
  first_line : (first : IsFirstNot (Holds graph annotations) lines)
      → IsFirstLine graph bytes annotations first.member (length (text_of first.before))
  first_line first = record {
    before = first.before;
    behind = first.behind;
    is_reading = subst (λ ls. IsReading graph bytes ls annotations) first.splits reading;
    entered = enters;
    hold = first.hold;
    at_is = refl;
  }

  stopped : (first : IsFirstNot (Holds graph annotations) lines)
      → Decided (LinePasses graph annotations first.member)
      → (result : Result (Unit {0}) CertFault) × Verified graph bytes result
  stopped first (inr fails_there) = (
    Err (faults.Fails (length (text_of first.before))),
    fails annotations first.member (length (text_of first.before)) (first_line first) fails_there,
  )
  stopped first (inl passes) = (
    Err (faults.Open (length (text_of first.before))),
    open_at annotations first.member (length (text_of first.before)) (first_line first) passes
        (λ closed. first.fails (passes, closed)),
  )

  tested : AllByRecursion (Holds graph annotations) lines
      ⊎ IsFirstNot (Holds graph annotations) lines
      → (result : Result (Unit {0}) CertFault) × Verified graph bytes result
  tested (inl hold) = (Ok tt, accepted (certified hold))
  tested (inr first) =
      stopped first (tell_passes graph bytes lines annotations reading first.member)

-- bytes that are read have an answer
pub read_answered : (graph : Graph) (bytes : List ℕ) (lines : List Line) (annotations : Annotations)
    → IsReading graph bytes lines annotations
    → (result : Result (Unit {0}) CertFault) × Verified graph bytes result
read_answered graph bytes lines annotations reading = elim (all_enter graph annotations) [
  | inl enters ↦ tested graph bytes lines annotations reading enters
      (first_not (Holds graph annotations) (tell_holds graph bytes lines annotations reading) lines)
  | inr (function, not) ↦ (
    Err (faults.Entry function),
    entry lines annotations function reading not,
  )
]

pub some_answer : (graph : Graph) (bytes : List ℕ) (lines : List Line) (extents : List Extent)
    → AreExtentsOf graph extents → IsCertificate extents bytes lines
    → (result : Result (Unit {0}) CertFault) × Verified graph bytes result
some_answer graph bytes lines extents are certificate =
    let read = some_reading graph bytes lines extents are certificate in
    read_answered graph bytes lines read.0 read.1
