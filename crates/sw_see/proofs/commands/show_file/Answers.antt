use Rattle.std.proofs.Common.{Ok, Err, subst}
use Rattle.std.proofs.lemmas.Result.{err_from_is_err_and}
use Rattle.sw_check_parts.specs.declared.stop.Stop.TheVariants.{Memory}
use Rattle.sw_check_parts.proofs.Doing.{does_alone, does_on, does_stop}
use Rattle.sw_see.specs.Reply.{Shows, paint_of}
use Rattle.sw_see.proofs.commands.show_file.Goals as goal

pub returns-in_err-text : goal.returns-in_err-text
returns-in_err-text g c =
    let p = err_from_is_err_and c.from_residual.result c.from_residual.ensures.1 in
    rw (p.1, p.2) (does_stop _ c.in_err-text.field-0.0 c.in_err-text.ensures.done)

pub returns-in_err-show : goal.returns-in_err-show
returns-in_err-show g c =
    let p = err_from_is_err_and c.from_residual-in_err-show.result
    c.from_residual-in_err-show.ensures.1 in
    rw (p.1, p.2) (does_on c.in_ok-text.ensures.done
    (does_alone (Shows (paint_of c.args.color) c.args.default c.args.file.now c.in_ok-text.text)
    (Err Memory) tt))

pub returns : goal.returns
returns g c =
    let outcome = c.in_ok-show.field-0 in
    does_on c.in_ok-text.ensures.done
    (does_alone (Shows (paint_of c.args.color) c.args.default c.args.file.now c.in_ok-text.text)
    (Ok outcome)
    (subst (λ text. Shows (paint_of c.args.color) c.args.default c.args.file.now text (Ok outcome))
    c.as_slice.ensures
    (subst (λ paint. Shows paint c.args.default c.args.file.now c.as_slice.result.now (Ok outcome))
    c.paint_of.ensures c.in_ok-show.ensures)))
