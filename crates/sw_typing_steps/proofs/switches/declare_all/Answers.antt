use Rattle.std.specs.Option.{option_copied}
use Rattle.sw_tree.specs.declared.stmt.Pattern.TheVariants.{Skip}
use Rattle.sw_typing_rules.specs.Statements.{pattern_types}
use Rattle.sw_typing_steps.proofs.TableLemmas.{patterns_more}
use Rattle.sw_typing_steps.proofs.switches.declare_all.Goals as goal

pub loop-index-preserved : goal.loop-index-preserved
loop-index-preserved c =
    patterns_more c.loop-index.table c.declare_pattern.new.table c.args.patterns.now
    (pattern_types c.args.patterns.now (option_copied c.args.payload)) c.loop-index.index (Skip 0)
    (option_copied c.type_at-ty.result) _ c.loop-index-test.true c.type_at-ty.ensures
    c.in_ok-declare_pattern.ensures c.loop-index.invariant
