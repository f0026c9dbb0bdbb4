use Rattle.std.proofs.Common.{◌<◌, ◌∷◌, false, codes, length, ap, arith}
use Rattle.std.proofs.lemmas.Result.{err_from_is_err_and}
use Rattle.sw_tree.proofs.NamesLemmas.{length-with_text}
use Rattle.sw_grammar_facts.specs.Interned.{given_texts, texts_in}
use Rattle.sw_parse_decl.proofs.InternSteps.{none_interned, first_interned, cases_interned}
use Rattle.sw_parse_decl.proofs.InternSteps.{one_more, partly_of_all, all_interned, room_left}
use Rattle.sw_parse_decl.proofs.names.intern_names.Goals as goal

pub returns-in_err-intern-clause-err : goal.returns-in_err-intern-clause-err
returns-in_err-intern-clause-err c =
    rw (err_from_is_err_and c.from_residual.result c.from_residual.ensures.1).1
    (none_interned c.args.names.now c.intern.new.self (codes "none")
    (codes "some" ∷ given_texts false c.args.tokens.now) c.in_err-intern.ensures.err)

pub intern-requires-2 : goal.intern-requires-2
intern-requires-2 c = omega (
  arith,
  ap length c.in_ok-intern.ensures.texts,
  length-with_text c.args.names.now (codes "none"),
  c.requires,
)

pub returns-in_err-intern-2-clause-err : goal.returns-in_err-intern-2-clause-err
returns-in_err-intern-2-clause-err c =
    rw (err_from_is_err_and c.from_residual-in_err-intern-2.result
    c.from_residual-in_err-intern-2.ensures.1).1
    (first_interned c.args.names.now c.intern.new.self c.intern-2.new.self (codes "none")
    (codes "some" ∷ given_texts false c.args.tokens.now) c.in_ok-intern.ensures.texts
    (none_interned c.intern.new.self c.intern-2.new.self (codes "some")
    (given_texts false c.args.tokens.now) c.in_err-intern-2.ensures.err))

pub loop-alloc-init : goal.loop-alloc-init
loop-alloc-init c = (
  cases_interned c.args.names.now c.intern.new.self c.intern-2.new.self (codes "none")
      (codes "some") c.args.tokens.now c.in_ok-intern.ensures.texts c.in_ok-intern-2.ensures.texts,
  omega (
    arith,
    ap length c.in_ok-intern.ensures.texts,
    length-with_text c.args.names.now (codes "none"),
    ap length c.in_ok-intern-2.ensures.texts,
    length-with_text c.intern.new.self (codes "some"),
    c.requires,
  ),
)

pub loop-alloc-preserved : goal.loop-alloc-preserved
loop-alloc-preserved c =
    let some : 0 < length c.loop-alloc.tokens =
    omega (arith, c.count.ensures, c.loop-alloc-test.true) in (
      one_more c.args.names.now (texts_in c.args.tokens.now) c.loop-alloc.names c.loop-alloc.bound
          c.loop-alloc.tokens some c.loop-alloc.invariant.0 c.intern_next.new.names
          _ c.intern_next.new.tokens c.in_ok-bound.ensures.binds
          c.in_ok-bound.ensures.left c.in_ok-bound.ensures.texts,
      room_left 4294967293 c.loop-alloc.bound c.loop-alloc.names c.intern_next.new.names c.loop-alloc.tokens
          c.intern_next.new.tokens some c.in_ok-bound.ensures.left
          c.in_ok-bound.ensures.texts c.loop-alloc.invariant.1,
    )

pub returns-in_err-bound-clause-err : goal.returns-in_err-bound-clause-err
returns-in_err-bound-clause-err c =
    rw (err_from_is_err_and c.from_residual-in_err-bound.result
    c.from_residual-in_err-bound.ensures.1).1
    (partly_of_all c.args.names.now (texts_in c.args.tokens.now) c.loop-alloc.names c.loop-alloc.bound
    c.loop-alloc.tokens (omega (arith, c.count.ensures, c.loop-alloc-test.true))
    c.loop-alloc.invariant.0 c.intern_next.new.names c.in_err-bound.ensures.err)

pub returns-clause-texts : goal.returns-clause-texts
returns-clause-texts c =
    all_interned c.args.names.now (texts_in c.args.tokens.now) c.loop-alloc.names c.loop-alloc.bound
    c.loop-alloc.tokens (omega (arith, c.count.ensures, c.loop-alloc-test.false))
    c.loop-alloc.invariant.0
