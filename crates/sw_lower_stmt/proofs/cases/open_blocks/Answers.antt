use Rattle.std.proofs.Common.{◌≡◌, ℕ, List, Option, Ok, ap, sym, ◌∙◌}
use Rattle.std.specs.Option.{unwrap_or}
use Rattle.sw_tree.specs.declared.stmt.Block.{Block}
use Rattle.sw_tree.specs.declared.stmt.CaseArm.{CaseArm}
use Rattle.sw_graph.specs.declared.instr.Last.TheVariants as last
use Rattle.sw_graph.specs.declared.instr.Operand.{Operand}
use Rattle.sw_types.specs.declared.shape.Shape.{Shape}
use Rattle.sw_lower_draft.specs.Drafts.{making_of}
use Rattle.sw_lower_plans.specs.Run.{Making, run_block, run_close}
use Rattle.sw_lower_code.specs.Code.{block_for, close, done, each, ◌>>◌}
use Rattle.sw_lower_rules.specs.Expressions.{block_made}
use Rattle.sw_lower_stmt.proofs.Loops.{given_then}
use Rattle.sw_lower_stmt.specs.Parts.{arm_number, blocks_opened, default_number, goes_to}
use Rattle.sw_lower_stmt.specs.declared.cases.OpenSwitch.{OpenSwitch}
use Rattle.sw_lower_stmt.proofs.cases.open_blocks.Goals as goal

opened : (subject : Operand) (number : ℕ) (shape : Shape) (trees : List CaseArm)
    (otherwise : Option Block) (blocks : List ℕ) (default : Option ℕ) (merge : ℕ) (to : List ℕ)
    (s t u v w : Making)
    → (each (arm_number subject number shape) trees).run s ≡ Ok (blocks, t)
    → (default_number otherwise).run t ≡ Ok (default, u) → run_block u ≡ Ok (merge, v)
    → to ≡ goes_to shape.cases trees blocks (unwrap_or default merge)
    → run_close (last.Switch subject to) v ≡ Ok (tt, w)
    → (blocks_opened subject number shape trees otherwise).run s ≡ Ok (
      record {
        subject = subject;
        numbers = blocks;
        default = default;
        merge = merge;
      },
      w,
    )
unfolding block_for blocks_opened close done
opened subject number shape trees otherwise blocks default merge to s t u v w one two three four
    five =
    let made : OpenSwitch =
    record { subject = subject; numbers = blocks; default = default; merge = merge } in
    given_then (each (arm_number subject number shape) trees) _ s blocks t one
    ∙ (given_then (default_number otherwise) _ t default u two
    ∙ (given_then block_made _ u merge v three
    ∙ (ap (λ to. (close (last.Switch subject to) >> done made).run v) (sym four)
    ∙ given_then (close (last.Switch subject to)) (λ _. done made) v tt w five)))

pub returns : goal.returns
returns c =
    opened c.args.subject c.args.number c.args.shape.now c.args.arms.now c.args.otherwise.now
    c.in_ok-blocks.blocks c.in_ok-default.default c.in_ok-merge.merge c.in_ok-to.to
    (making_of c.args.draft.now) (making_of c.arm_numbers.new.draft)
    (making_of c.default_number.new.draft) (making_of c.block.new.self)
    (making_of c.close.new.self) c.in_ok-blocks.ensures c.in_ok-default.ensures
    c.in_ok-merge.ensures
    (c.in_ok-to.ensures
    ∙ (ap (λ cases. goes_to cases c.args.arms.now c.as_slice-2.result.now c.unwrap_or-rest.result)
    c.as_slice.ensures
    ∙ (ap (λ blocks. goes_to c.args.shape.now.cases c.args.arms.now blocks
    c.unwrap_or-rest.result) c.as_slice-2.ensures
    ∙ ap (λ rest. goes_to c.args.shape.now.cases c.args.arms.now c.in_ok-blocks.blocks rest)
    c.unwrap_or-rest.ensures)))
    c.close.ensures
