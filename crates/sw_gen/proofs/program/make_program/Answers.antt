use Rattle.std.proofs.Common.{◌≡◌, ◌++◌, [], List, ℕ, rules, append_assoc, flat_map, ◌∙◌, ◌≤◌, ◌+◌}
use Rattle.std.proofs.Common.{◌*◌, length, subst, sym}
use Rattle.std.specs.List.{range_with_len}
use Rattle.sw_gen.specs.Program.{block, call, filled, entry_end, entry_start, program}
use Rattle.sw_gen.proofs.Lengths.{program_short}
use Rattle.sw_gen.proofs.program.make_program.Goals as goal

four : (a b c d : List ℕ) → ((([] ++ a) ++ b) ++ c) ++ d ≡ a ++ (b ++ (c ++ d))
four a b c d = append_assoc (a ++ b) c d ∙ append_assoc a b (c ++ d)

pub returns-clause-text : goal.returns-clause-text
unfolding program
returns-clause-text c =
    let blocks : c.as_bytes.result.now ≡ block = search rules in
    let start : c.as_bytes-2.result.now ≡ entry_start = search rules in
    let calls : c.as_bytes-3.result.now ≡ call = search rules in
    let end : c.as_bytes-4.result.now ≡ entry_end = search rules in
    rw (
      c.in_ok-extend_from_slice-2.ensures.items,
      c.in_ok-push_each-2.ensures,
      c.in_ok-extend_from_slice.ensures.items,
      c.in_ok-push_each.ensures,
      c.new-text.ensures.items,
      blocks,
      start,
      calls,
      end,
    )
    (four (flat_map (filled block) (range_with_len 1 c.args.n)) entry_start
    (flat_map (filled call) (range_with_len 1 c.args.n)) entry_end)

pub returns-clause-short : goal.returns-clause-short
returns-clause-short c =
    subst (λ text. length text ≤ 600 * c.args.n + 70) (sym (returns-clause-text c))
    (program_short c.args.n c.requires)
