use Rattle.std.proofs.Common.{◌+◌, length, ap, arith}
use Rattle.sw_graph.specs.Points.{points_of}
use Rattle.sw_graph.proofs.TableLemmas.{block_here, block_room, block_added, table_ended}
use Rattle.sw_graph.proofs.table.PointTable.new.Goals as goal

pub overflow_cast-len : goal.overflow_cast-len
overflow_cast-len c =
    let here =
    block_here _ _ _ _ c.loop-block.invariant.numbered c.loop-block-test.true c.block-item.is in
    let room = block_room _ _ _ _ c.loop-block.invariant.begun here in
    omega (arith, ap (λ bs. length (points_of bs)) c.as_slice-block-items.ensures)

pub overflow_cast-len-in-loop-block : goal.overflow_cast-len-in-loop-block
overflow_cast-len-in-loop-block c =
    let here =
    block_here _ _ _ _ c.loop-block.invariant.numbered c.loop-block-test.true c.block-item.is in
    let room = block_room _ _ _ _ c.loop-block.invariant.begun here in
    omega (arith, ap (λ bs. length (points_of bs)) c.as_slice-block-items.ensures)

pub overflow_add-len : goal.overflow_add-len
overflow_add-len c =
    let here =
    block_here _ _ _ _ c.loop-block.invariant.numbered c.loop-block-test.true c.block-item.is in
    let room = block_room _ _ _ _ c.loop-block.invariant.begun here in
    omega (arith, ap (λ bs. length (points_of bs)) c.as_slice-block-items.ensures)

pub overflow_add-number : goal.overflow_add-number
overflow_add-number c =
    let here =
    block_here _ _ _ _ c.loop-block.invariant.numbered c.loop-block-test.true c.block-item.is in
    let room = block_room _ _ _ _ c.loop-block.invariant.begun here in
    omega (
      arith,
      c.loop-block.invariant.begun.few,
      ap (λ bs. length (points_of bs)) c.as_slice-block-items.ensures,
    )

pub loop-block-preserved : goal.loop-block-preserved
loop-block-preserved c =
    let here =
    block_here _ _ _ _ c.loop-block.invariant.numbered c.loop-block-test.true c.block-item.is in
    let added = block_added _ _ _ _ c.loop-block.invariant.begun here in
    record {
      numbered = ap (λ n. n + 1) c.loop-block.invariant.numbered;
      begun = rw (
        c.in_ok-push_places.ensures,
        c.in_ok-push.ensures.ok,
        c.len.ensures,
        c.len-in-loop-block.ensures,
      ) added;
    }

pub returns : goal.returns
returns c =
    let begun = rw c.as_slice-block-items.ensures at c.loop-block.invariant.begun in
    let ended = rw c.as_slice-block-items.ensures at c.loop-block-test.false in
    table_ended c.args.function.now c.loop-block.number _ begun
    (omega (arith, c.loop-block.invariant.numbered, ended))
