use Rattle.std.proofs.Common.{string_bytes, sym, ap, length, arith, ◌<◌}
use Rattle.sw_tree.proofs.NamesLemmas.{inserted, with_text-known, length-with_text, IsDistinct-map}
use Rattle.sw_tree.specs.Names.{id_in}
use Rattle.sw_tree.proofs.names.Names.intern.Goals as goal

pub returns-then-id-count-clause-texts : goal.returns-then-id-count-clause-texts
returns-then-id-count-clause-texts c =
    let here : id_in c.args.self.now c.args.text.now < length c.args.self.now = omega arith in
    sym (with_text-known c.args.self.now c.args.text.now here)

pub returns-clause-texts : goal.returns-clause-texts
returns-clause-texts c =
    inserted string_bytes c.args.text.now c.args.self.now c.self.inside.texts.keys
    c.insert.new.self.keys c.in_ok-text.text c.self.view_is c.in_ok-text.ensures.ok
    c.in_ok-insert.ensures.keys

pub invariant_of-self-2 : goal.invariant_of-self-2
invariant_of-self-2 c = (
  IsDistinct-map string_bytes c.insert.new.self.keys c.insert.ensures.unique,
  omega (
    arith,
    ap length (returns-clause-texts c),
    length-with_text c.args.self.now c.args.text.now,
  ),
)
