use Rattle.sw_hue_facts.proofs.Retinted as retinted
use Rattle.sw_hue_facts.proofs.TintedCells.{tints_added, tints_written}
use Rattle.sw_hue_facts.proofs.laws.tints_go_on_to_fit.Goals as goal

pub returns : goal.returns
returns c = record {
  renamed = retinted.tints_renamed;
  merged = retinted.tints_merged;
  handed = retinted.tints_handed;
  fresh = retinted.tints_before;
  pushed = retinted.tints_pushed;
  begun = retinted.tints_begun;
  popped = retinted.tints_popped;
  written = tints_written;
  added = tints_added;
}
