use Rattle.std.proofs.Common.{rules}
use Rattle.sw_see_find.proofs.confirming.race_text.Goals as goal

pub returns-then-is_some : goal.returns-then-is_some
returns-then-is_some c = record {
  items = c.in-Some.schedule;
  are_items = search rules;
  replay = c.in_ok-played.played;
  is_replay = c.in_ok-played.ensures;
  meets_race = search rules;
}
