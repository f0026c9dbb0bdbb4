use Rattle.std.proofs.Common.{subst}
use Rattle.sw_check_parts.specs.Written.{Appended}
use Rattle.sw_outside.specs.Shelf.{file_of}
use Rattle.sw_see_words.specs.Words.{Breaches, Draw, Find, OnFile, Steps}
use Rattle.sw_see.proofs.ClaimLemmas.{over_known, reply_draws, reply_finds, reply_shows}
use Rattle.sw_see.proofs.ClaimLemmas.{reply_tells}
use Rattle.sw_see.proofs.ExitLemmas.{silent_written}
use Rattle.sw_see.proofs.PartLemmas.{of_words}
use Rattle.sw_see.proofs.run_words.Goals as goal

pub returns-in-Ok-write_all-clause-silent : goal.returns-in-Ok-write_all-clause-silent
returns-in-Ok-write_all-clause-silent g c silent =
    let a = c.in-Ok.ensures.answered in
    silent_written _ a.reads c.in-Ok.outcome _ _ a.reply
    (subst (λ bytes. Appended bytes (g.K.Sink.written c.args.out.now)
    (g.K.Sink.written c.write_all.new.out)) c.as_slice.ensures c.in-Ok-write_all.ensures.whole)
    silent

pub returns-in-Ok-write_all-clause-shown : goal.returns-in-Ok-write_all-clause-shown
returns-in-Ok-write_all-clause-shown g c known rule file color is same breached =
    let answered = of_words c.args.words.now.items c.deref.result.now c.deref.ensures.value
    c.in-Ok.ensures.answered in
    let (of_files, reply) = over_known answered known (OnFile rule file (Breaches color)) is same in
    reply_shows (file_of known.files) rule file (g.K.Sink.written c.args.out.now)
    (g.K.Sink.written c.write_all.new.out) color answered.reads c.in-Ok.outcome of_files reply
    breached (subst (λ bytes. Appended bytes (g.K.Sink.written c.args.out.now)
    (g.K.Sink.written c.write_all.new.out)) c.as_slice.ensures c.in-Ok-write_all.ensures.whole)

pub returns-in-Ok-write_all-clause-told : goal.returns-in-Ok-write_all-clause-told
returns-in-Ok-write_all-clause-told g c known rule file schedule_file is same told =
    let answered = of_words c.args.words.now.items c.deref.result.now c.deref.ensures.value
    c.in-Ok.ensures.answered in
    let (of_files, reply) =
    over_known answered known (OnFile rule file (Steps schedule_file)) is same in
    reply_tells (file_of known.files) rule file (g.K.Sink.written c.args.out.now)
    (g.K.Sink.written c.write_all.new.out) schedule_file answered.reads c.in-Ok.outcome of_files
    reply told (subst (λ bytes. Appended bytes (g.K.Sink.written c.args.out.now)
    (g.K.Sink.written c.write_all.new.out)) c.as_slice.ensures c.in-Ok-write_all.ensures.whole)

pub returns-in-Ok-write_all-clause-drawn : goal.returns-in-Ok-write_all-clause-drawn
returns-in-Ok-write_all-clause-drawn g c known rule file schedule_file in_page is same done =
    let answered = of_words c.args.words.now.items c.deref.result.now c.deref.ensures.value
    c.in-Ok.ensures.answered in
    let (of_files, reply) =
    over_known answered known (OnFile rule file (Draw schedule_file in_page)) is same in
    reply_draws (file_of known.files) rule file (g.K.Sink.written c.args.out.now)
    (g.K.Sink.written c.write_all.new.out) schedule_file in_page answered.reads c.in-Ok.outcome
    of_files reply done (subst (λ bytes. Appended bytes (g.K.Sink.written c.args.out.now)
    (g.K.Sink.written c.write_all.new.out)) c.as_slice.ensures c.in-Ok-write_all.ensures.whole)

pub returns-in-Ok-write_all-clause-found : goal.returns-in-Ok-write_all-clause-found
returns-in-Ok-write_all-clause-found g c known rule file is same raced =
    let answered = of_words c.args.words.now.items c.deref.result.now c.deref.ensures.value
    c.in-Ok.ensures.answered in
    let (of_files, reply) = over_known answered known (OnFile rule file Find) is same in
    reply_finds (file_of known.files) rule file (g.K.Sink.written c.args.out.now)
    (g.K.Sink.written c.write_all.new.out) answered.reads c.in-Ok.outcome of_files reply raced
    (subst (λ bytes. Appended bytes (g.K.Sink.written c.args.out.now)
    (g.K.Sink.written c.write_all.new.out)) c.as_slice.ensures c.in-Ok-write_all.ensures.whole)
