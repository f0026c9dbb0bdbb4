use Rattle.sw_lsp_text.proofs.Depths.{begun_depth, hovered_depth, nothing_depth, offered_depth}
use Rattle.sw_lsp_text.proofs.Depths.{published_depth, refused_depth, reported_depth}
use Rattle.sw_lsp_text.proofs.laws.replies_are_shallow.Goals as goal

pub returns : goal.returns
returns c = record {
  begun = begun_depth;
  nothing = nothing_depth;
  refused = refused_depth;
  published = published_depth;
  reported = reported_depth;
  hovered = hovered_depth;
  offered = offered_depth;
}
