use Rattle.std.proofs.Common.{◌≡◌, ◌++◌, OnOk, map, not, take}
use Rattle.std.proofs.lemmas.Result.{on_ok_weaker}
use Rattle.std.specs.List.{filter}
use Rattle.std.specs.Prelude.{flat_map}
use Rattle.std.specs.Option.{option_to_list}
use Rattle.sw_isolation_rules.specs.Captures.{is_mention, mentioned}
use Rattle.sw_isolation_rules.specs.declared.note.Note.TheVariants.{Mentioned}
use Rattle.sw_isolation_captures.proofs.FirstsLemmas.{closed_in_parts}
use Rattle.sw_isolation_captures.proofs.closing.close_with.Goals as goal

pub returns : goal.returns
returns c =
    let last : OnOk c.note_mentions.result (c.note_mentions.new.notes
    ≡ c.note_captures.new.notes ++ map Mentioned (take c.len-own.result c.as_slice-2.result.now))
    = c.note_mentions.ensures in
    on_ok_weaker c.note_mentions.result (λ is.
    closed_in_parts c.args.closure c.args.listed.now (option_to_list c.args.me)
    (flat_map mentioned c.args.inner.now) (option_to_list c.args.held)
    c.in_ok-firsts.firsts c.add_outer.new.self c.as_slice.result.now
    c.as_slice-2.result.now c.len-own.result c.args.notes.now
    (filter (λ note. not (is_mention note)) c.args.inner.now) c.note_others.new.notes
    c.note_captures.new.notes c.note_mentions.new.notes c.in_ok-note_others.ensures
    c.in_ok-firsts.ensures c.len-own.ensures c.in_ok-add_outer.ensures c.as_slice.ensures
    c.in_ok-note_captures.ensures c.as_slice-2.ensures is) last
