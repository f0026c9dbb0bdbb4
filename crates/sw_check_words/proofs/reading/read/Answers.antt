use Rattle.std.proofs.Common.{◌≡◌, true, false, map, string_bytes, rules, sym, ap, ◌∙◌}
use Rattle.clap.specs.Matches.{found_of}
use Rattle.clap.specs.Walk.{rows_of}
use Rattle.clap.specs.Simple.{subcommand_rows_of}
use Rattle.sw_check_words.specs.Read.{read_rows}
use Rattle.sw_check_words.specs.Words.{may_stand}
use Rattle.sw_check_words.proofs.Found.{no_rows, read_command, refused_none, rows_met}
use Rattle.sw_check_words.proofs.Standing.{list_all-map, no_command}
use Rattle.sw_check_words.proofs.reading.read.Goals as goal

pub returns-then-not-all_may_stand-clause-value : goal.returns-then-not-all_may_stand-clause-value
returns-then-not-all_may_stand-clause-value c =
    let may : c.all_may_stand.result ≡ false = search rules in
    let words = c.args.words.now in
    sym (no_command (map string_bytes words)
    (sym (list_all-map may_stand string_bytes words) ∙ sym c.all_may_stand.ensures ∙ may))

pub returns-in_default-clause-value : goal.returns-in_default-clause-value
returns-in_default-clause-value c =
    let may : c.all_may_stand.result ≡ true = search rules in
    let words = c.args.words.now in
    sym (refused_none (map string_bytes words)
    (sym (list_all-map may_stand string_bytes words) ∙ sym c.all_may_stand.ensures ∙ may)
    (rw c.in_default.is at c.in_ok-matches.ensures))

pub returns-in_default-subcommand-clause-value : goal.returns-in_default-subcommand-clause-value
returns-in_default-subcommand-clause-value c =
    let may : c.all_may_stand.result ≡ true = search rules in
    let words = c.args.words.now in
    let found = rw c.in-Some.is at c.in_ok-matches.ensures in
    sym (no_rows (subcommand_rows_of c.in-Some.matches)
    (rw c.in_default-subcommand.is at c.subcommand.ensures.rows))
    ∙ ap read_rows found.1
    ∙ read_command (map string_bytes words)
    (sym (list_all-map may_stand string_bytes words) ∙ sym c.all_may_stand.ensures ∙ may) found.0

pub returns-clause-value : goal.returns-clause-value
returns-clause-value c =
    let may : c.all_may_stand.result ≡ true = search rules in
    let words = c.args.words.now in
    let found = rw c.in-Some.is at c.in_ok-matches.ensures in
    let met = rows_met c.in-Some.matches c.in-Some-subcommand.name.now
    (rows_of (found_of c.in-Some-subcommand.found.now)) c.in-Some-subcommand.ensures.name
    c.in-Some-subcommand.ensures.rows in
    c.command.ensures.value ∙ sym (ap read_rows met) ∙ ap read_rows found.1
    ∙ read_command (map string_bytes words)
    (sym (list_all-map may_stand string_bytes words) ∙ sym c.all_may_stand.ensures ∙ may) found.0
