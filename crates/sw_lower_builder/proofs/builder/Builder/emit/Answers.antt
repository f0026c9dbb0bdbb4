use Rattle.std.proofs.lemmas.Result.{err_from_is_err_and}
use Rattle.std.proofs.Common.{◌≡◌, rules}
use Rattle.std.specs.List.{slice_set}
use Rattle.sw_lower_builder.specs.Blocks.{with_instr, changed_at}
use Rattle.sw_lower_builder.proofs.BlockLemmas.{put_there, same_there, instr_counted}
use Rattle.sw_lower_builder.proofs.builder.Builder.emit.Goals as goal

pub invariant_of-self : goal.invariant_of-self
invariant_of-self c =
    let is : slice_set c.self.inside.blocks c.args.block c.add_instr.new.block
    ≡ c.self.inside.blocks =
    same_there c.args.block c.self.inside.blocks _ _ c.at_mut.ensures.value
    c.in_err-add_instr.ensures.refused in
    rw is c.self.invariant

pub returns-in_err-add_instr-clause-refused : goal.returns-in_err-add_instr-clause-refused
returns-in_err-add_instr-clause-refused c =
    let is : slice_set c.self.inside.blocks c.args.block c.add_instr.new.block
    ≡ c.self.inside.blocks =
    same_there c.args.block c.self.inside.blocks _ _ c.at_mut.ensures.value
    c.in_err-add_instr.ensures.refused in
    let p = err_from_is_err_and c.from_residual.result c.from_residual.ensures.1 in
    rw (p.1, is) c.self.view_is

pub invariant_of-self-2 : goal.invariant_of-self-2
invariant_of-self-2 c =
    instr_counted _ c.self.inside.blocks _ c.self.inside.points c.args.block c.args.instr
    c.self.invariant (search rules) (search rules)
    (put_there (with_instr c.args.instr) c.args.block c.self.inside.blocks _ _
    c.at_mut.ensures.value c.in_ok-add_instr.ensures.added)

pub returns-clause-emitted : goal.returns-clause-emitted
returns-clause-emitted c =
    let is : slice_set c.self.inside.blocks c.args.block c.add_instr.new.block
    ≡ changed_at (with_instr c.args.instr) c.args.block c.self.inside.blocks =
    put_there (with_instr c.args.instr) c.args.block c.self.inside.blocks _ _
    c.at_mut.ensures.value c.in_ok-add_instr.ensures.added in
    rw (is, ← c.self.view_is)
