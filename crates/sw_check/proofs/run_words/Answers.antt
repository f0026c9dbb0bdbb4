use Rattle.std.proofs.Common.{subst}
use Rattle.sw_check_parts.specs.Written.{Appended}
use Rattle.sw_check_words.specs.Words.{command_in}
use Rattle.sw_check.proofs.CallLemmas.{of_words, answer_says, answer_no_race, answer_exact}
use Rattle.sw_check.proofs.CallLemmas.{answer_breached, answer_accepted, answer_not_raced}
use Rattle.sw_check.proofs.CallLemmas.{answer_certified, answer_in_order, answer_only}
use Rattle.sw_check.proofs.CallLemmas.{exits_of_words}
use Rattle.sw_check.proofs.ExitLemmas.{silent_written}
use Rattle.sw_check.proofs.run_words.Goals as goal

pub returns-in-Ok-write_all-clause-silent : goal.returns-in-Ok-write_all-clause-silent
returns-in-Ok-write_all-clause-silent g c silent =
    let a = c.in-Ok.ensures.answered in
    silent_written _ a.reads c.in-Ok.outcome _ _ a.reply
    (subst (λ bytes. Appended bytes (g.K.Sink.written c.args.out.now)
    (g.K.Sink.written c.write_all.new.out)) c.as_slice.ensures c.in-Ok-write_all.ensures.whole)
    silent

pub returns-in-Ok-write_all-clause-says : goal.returns-in-Ok-write_all-clause-says
returns-in-Ok-write_all-clause-says g c _ =
    answer_says (of_words c.args.words.now.items c.deref.result.now c.deref.ensures.value
    c.in-Ok.ensures.answered)

pub returns-in-Ok-write_all-clause-only : goal.returns-in-Ok-write_all-clause-only
returns-in-Ok-write_all-clause-only g c known exit is says _ =
    answer_only (of_words c.args.words.now.items c.deref.result.now c.deref.ensures.value
    c.in-Ok.ensures.answered) known exit is says

pub returns-in-Ok-write_all-clause-no_race : goal.returns-in-Ok-write_all-clause-no_race
returns-in-Ok-write_all-clause-no_race g c known command is same all short _ not_breached =
    answer_no_race (of_words c.args.words.now.items c.deref.result.now c.deref.ensures.value
    c.in-Ok.ensures.answered) known command is same all short not_breached

pub returns-in-Ok-write_all-clause-not_raced : goal.returns-in-Ok-write_all-clause-not_raced
returns-in-Ok-write_all-clause-not_raced g c command same all =
    answer_not_raced (command_in c.args.words.now.items) c.in-Ok.outcome.exit
    (exits_of_words c.args.words.now.items c.deref.result.now c.in-Ok.outcome.exit
    c.deref.ensures.value c.in-Ok.ensures.exits) command same all

pub returns-in-Ok-write_all-clause-exact : goal.returns-in-Ok-write_all-clause-exact
returns-in-Ok-write_all-clause-exact g c known reads outcome is of_files reply _ =
    answer_exact (of_words c.args.words.now.items c.deref.result.now c.deref.ensures.value
    c.in-Ok.ensures.answered) known reads outcome is of_files reply

pub returns-in-Ok-write_all-clause-breached : goal.returns-in-Ok-write_all-clause-breached
returns-in-Ok-write_all-clause-breached g c known command is same short refused _ =
    answer_breached (of_words c.args.words.now.items c.deref.result.now c.deref.ensures.value
    c.in-Ok.ensures.answered) known command is same short refused

pub returns-in-Ok-write_all-clause-accepted : goal.returns-in-Ok-write_all-clause-accepted
returns-in-Ok-write_all-clause-accepted g c known rule file is same short accepts _ =
    answer_accepted (of_words c.args.words.now.items c.deref.result.now c.deref.ensures.value
    c.in-Ok.ensures.answered) known rule file is same short accepts

pub returns-in-Ok-write_all-clause-certified : goal.returns-in-Ok-write_all-clause-certified
returns-in-Ok-write_all-clause-certified g c known rule file certificate_file is same done =
    answer_certified (of_words c.args.words.now.items c.deref.result.now c.deref.ensures.value
    c.in-Ok.ensures.answered) known rule file certificate_file is same done

pub returns-in-Ok-write_all-clause-ordered : goal.returns-in-Ok-write_all-clause-ordered
returns-in-Ok-write_all-clause-ordered g c known rule file schedule_file is same accepts =
    answer_in_order (of_words c.args.words.now.items c.deref.result.now c.deref.ensures.value
    c.in-Ok.ensures.answered) known rule file schedule_file is same accepts
