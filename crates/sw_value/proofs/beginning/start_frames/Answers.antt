use Rattle.std.proofs.Common.{◌++◌, ◌-◌, [], sym, ap, ◌∙◌, arith}
use Rattle.std.specs.Option.{option_to_list}
use Rattle.sw_value.specs.Frame.{first_frame}
use Rattle.sw_value.proofs.ListLemmas.{filter_map_reverse_drop}
use Rattle.sw_value.proofs.beginning.start_frames.Goals as goal

pub loop-i-preserved : goal.loop-i-preserved
loop-i-preserved c =
    let graph = c.args.graph.now in
    c.in_ok-add_first_frame-2.ensures
    ∙ ap (λ l. l ++ option_to_list (first_frame graph c.at.result.now [])) c.loop-i.invariant
    ∙ sym (filter_map_reverse_drop (λ f. first_frame graph f []) graph.entry graph.starts
    (c.loop-i.i - 1) c.loop-i.i c.at.result.now (omega arith) c.at.ensures)
