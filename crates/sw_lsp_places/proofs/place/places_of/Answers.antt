use Rattle.std.proofs.Common.{arith, ap, ◌∙◌, ◌+◌}
use Rattle.std.proofs.lemmas.Grind.{common_steps}
use Rattle.std.proofs.lemmas.List.{length_push}
use Rattle.sw_lsp_places.proofs.Growing.{are_places, each_more}
use Rattle.sw_lsp_places.proofs.place.places_of.Goals as goal
use Rattle.sw_lsp_places.proofs.place.places_of.Goals.{then-byte-eq10, else-byte-eq10}

pub loop-byte-preserved : goal.loop-byte-preserved
loop-byte-preserved c = record {
  line = elim c.if-byte-eq10.branch [
    | then-byte-eq10 w ↦ grind (arith, common_steps)
    | else-byte-eq10 w ↦ grind (arith, common_steps)
  ];
  character = elim c.if-byte-eq10.branch [
    | then-byte-eq10 w ↦ grind (arith, common_steps)
    | else-byte-eq10 w ↦ grind (arith, common_steps)
  ];
  few_lines = elim c.if-byte-eq10.branch [
    | then-byte-eq10 w ↦ omega arith
    | else-byte-eq10 w ↦ omega arith
  ];
  few_units = elim c.if-byte-eq10.branch [
    | then-byte-eq10 w ↦ omega arith
    | else-byte-eq10 w ↦ omega arith
  ];
  all =
      rw c.in_ok-push.ensures.items
      (length_push c.loop-byte.places.items _ ∙ ap (λ n. n + 1) c.loop-byte.invariant.all);
  each =
      rw c.in_ok-push.ensures.items
      (each_more c.args.bytes.now c.loop-byte.places.items c.loop-byte.byte-index c.loop-byte.line
      c.loop-byte.character c.loop-byte.invariant.all c.loop-byte.invariant.each
      c.loop-byte.invariant.line c.loop-byte.invariant.character);
}

pub returns : goal.returns
returns c =
    rw c.in_ok-push-2.ensures.items
    (are_places c.args.bytes.now c.loop-byte.places.items c.loop-byte.byte-index c.loop-byte.line
    c.loop-byte.character c.loop-byte.invariant.all c.loop-byte.invariant.each
    c.loop-byte.invariant.line c.loop-byte.invariant.character (omega arith))
