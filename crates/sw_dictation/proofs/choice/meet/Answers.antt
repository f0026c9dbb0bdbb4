use Rattle.std.proofs.Common.{◌≡◌, length, drop}
use Rattle.std.proofs.Common.{sym, ap, ◌∙◌, arith}
use Rattle.std.proofs.lemmas.Fmt.{length-decimal-le}
use Rattle.sw_dictation.specs.Numbers.{spelled, common_len}
use Rattle.sw_dictation.proofs.Sharing.{whole, begins, text_is}
use Rattle.sw_dictation.proofs.choice.meet.Goals as goal

pub write_digits-start-requires : goal.write_digits-start-requires
write_digits-start-requires c = (
  length-decimal-le 20 c.args.number (omega arith) (omega (arith, c.ranges.number))
      (omega (arith, c.ranges.number)),
  omega arith,
)

pub returns-then-met-text-clause-ok : goal.returns-then-met-text-clause-ok
returns-then-met-text-clause-ok c =
    let text = text_is c.write_digits-start.result c.args.number c.args.closer
    (drop c.write_digits-start.result c.write_digits-start.new.buf) (omega (arith, c.ranges.number))
    c.write_digits-start.ensures.start c.write_digits-start.ensures.written in
    let met : c.common-met.result ≡ common_len c.args.bytes.now
    (spelled c.args.number c.args.closer) =
    c.common-met.ensures ∙ ap (common_len c.args.bytes.now) text in
    let all : c.common-met.result ≡ length (spelled c.args.number c.args.closer) =
    c.if-met-text.true ∙ ap length text in (
      all,
      (
        drop (length (spelled c.args.number c.args.closer)) c.args.bytes.now,
        whole c.args.bytes.now (spelled c.args.number c.args.closer) (sym met ∙ all),
      ),
    )

pub returns-clause-none : goal.returns-clause-none
returns-clause-none c = λ h.
    let text = text_is c.write_digits-start.result c.args.number c.args.closer
    (drop c.write_digits-start.result c.write_digits-start.new.buf) (omega (arith, c.ranges.number))
    c.write_digits-start.ensures.start c.write_digits-start.ensures.written in
    let met : c.common-met.result ≡ common_len c.args.bytes.now
    (spelled c.args.number c.args.closer) =
    c.common-met.ensures ∙ ap (common_len c.args.bytes.now) text in
    c.if-met-text.false (met
    ∙ ap (λ l. common_len l (spelled c.args.number c.args.closer)) h.1
    ∙ begins (spelled c.args.number c.args.closer) h.0 ∙ ap length (sym text))

pub returns-clause-common : goal.returns-clause-common
returns-clause-common c =
    let text = text_is c.write_digits-start.result c.args.number c.args.closer
    (drop c.write_digits-start.result c.write_digits-start.new.buf) (omega (arith, c.ranges.number))
    c.write_digits-start.ensures.start c.write_digits-start.ensures.written in
    c.common-met.ensures ∙ ap (common_len c.args.bytes.now) text
