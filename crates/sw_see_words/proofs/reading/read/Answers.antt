use Rattle.std.proofs.Common.{map, string_bytes, sym, ap, ◌∙◌}
use Rattle.clap.specs.Matches.{found_of}
use Rattle.clap.specs.Walk.{rows_of}
use Rattle.clap.specs.Simple.{subcommand_rows_of}
use Rattle.sw_check_words.proofs.Found.{rows_met}
use Rattle.sw_see_words.specs.Words.{read_rows}
use Rattle.sw_see_words.proofs.Found.{no_rows, read_command, refused_none}
use Rattle.sw_see_words.proofs.reading.read.Goals as goal

pub returns-in_default : goal.returns-in_default
returns-in_default c =
    sym (refused_none (map string_bytes c.args.words.now)
    (rw c.in_default.is at c.in_ok-matches.ensures))

pub returns-in_default-subcommand : goal.returns-in_default-subcommand
returns-in_default-subcommand c =
    let found = rw c.in-Some.is at c.in_ok-matches.ensures in
    sym (no_rows (subcommand_rows_of c.in-Some.matches)
    (rw c.in_default-subcommand.is at c.subcommand.ensures.rows))
    ∙ ap read_rows found.1 ∙ read_command (map string_bytes c.args.words.now) found.0

pub returns : goal.returns
returns c =
    let found = rw c.in-Some.is at c.in_ok-matches.ensures in
    let met = rows_met c.in-Some.matches c.in-Some-subcommand.name.now
    (rows_of (found_of c.in-Some-subcommand.found.now)) c.in-Some-subcommand.ensures.name
    c.in-Some-subcommand.ensures.rows in
    c.command.ensures ∙ sym (ap read_rows met) ∙ ap read_rows found.1
    ∙ read_command (map string_bytes c.args.words.now) found.0
