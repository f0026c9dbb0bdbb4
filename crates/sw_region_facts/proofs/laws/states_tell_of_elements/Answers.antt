use Rattle.sw_region_facts.proofs.Numbers.{live_from, live_tells, together_tells, together_from}
use Rattle.sw_region_facts.proofs.Numbers.{untracked_live, alone_is}
use Rattle.sw_owner_facts.specs.View.{Register}
use Rattle.sw_region_facts.proofs.laws.states_tell_of_elements.Goals as goal

pub returns : goal.returns
returns c = record {
  live = λ elements own a sized r x is.
      (live_tells elements own a r x is, live_from elements own a sized (Register r) x is);
  together = λ elements own a sized e f x y is there. (
    together_tells elements own a sized e f x y is there,
    together_from elements a e f x y is there,
  );
  untracked = untracked_live;
  alone = alone_is;
}
