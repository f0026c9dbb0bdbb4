use Rattle.std.proofs.Common.{Ok, Err, ap, map, string_bytes}
use Rattle.std.proofs.lemmas.Result.{err_from_is_err_and}
use Rattle.sw_check_parts.specs.declared.stop.Stop.TheVariants.{Memory}
use Rattle.sw_see_words.specs.Words.{command_of}
use Rattle.sw_see.proofs.PartLemmas.{no_form, not_begun}
use Rattle.sw_see.proofs.commands.answer.Goals as goal

pub returns-in_err-read : goal.returns-in_err-read
returns-in_err-read g c =
    let p = err_from_is_err_and c.from_residual.result c.from_residual.ensures.1 in
    rw (p.1, p.2) (not_begun (command_of (map string_bytes c.args.words.now)))

pub returns-in_err-lines-in-None : goal.returns-in_err-lines-in-None
returns-in_err-lines-in-None g c =
    let p = err_from_is_err_and c.from_residual-in_err-lines-in-None.result
    c.from_residual-in_err-lines-in-None.ensures.1 in
    rw (p.1, p.2) (no_form (rw c.in-None.is at c.in_ok-read.ensures) (Err Memory) tt)

pub returns-in_ok-lines-in-None : goal.returns-in_ok-lines-in-None
returns-in_ok-lines-in-None g c =
    no_form (rw c.in-None.is at c.in_ok-read.ensures) (Ok c.in_ok-lines-in-None.field-0)
    (ap Ok c.in_ok-lines-in-None.ensures)
