use Rattle.std.proofs.Common.{◌≡◌, ◌-◌, ◌≤◌, length, drop}
use Rattle.sw_token.specs.Comments.{further, comment_len}
use Rattle.sw_token.proofs.comments.comment_len.Given as goal

abbrev pub invariant-loop-at : goal.invariant-loop-at
invariant-loop-at l = record {
  so_far : comment_len 0 l.bytes ≡ further l.at (comment_len l.depth (drop l.at l.bytes));
  few : l.depth ≤ l.at;
  inside : l.at ≤ length l.bytes;
}

abbrev pub decreases-loop-at : goal.decreases-loop-at
decreases-loop-at l = length l.bytes - l.at
