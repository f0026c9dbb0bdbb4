use Rattle.std.proofs.Common.{[], ◌∷◌, ◌∙◌, ap, refl, length, arith}
use Rattle.std.proofs.lemmas.Result.{err_from_is_err_and}
use Rattle.sw_tree.specs.Names.{with_text, with_texts}
use Rattle.sw_tree.proofs.NamesLemmas.{length-with_text}
use Rattle.sw_sugar.specs.Calls.{part_text, whole_text}
use Rattle.sw_parse_decl.proofs.InternSteps.{none_interned, first_interned}
use Rattle.sw_parse_decl.proofs.names.intern_declared.Goals as goal

pub returns-in_err-part-clause-err : goal.returns-in_err-part-clause-err
returns-in_err-part-clause-err c =
    rw (err_from_is_err_and c.from_residual.result c.from_residual.ensures.1).1
    (none_interned c.args.names.now c.args.names.now (part_text c.args.text.now)
    (whole_text c.args.text.now ∷ []) refl)

pub returns-in_err-intern-clause-err : goal.returns-in_err-intern-clause-err
returns-in_err-intern-clause-err c =
    rw (err_from_is_err_and c.from_residual-in_err-intern.result
    c.from_residual-in_err-intern.ensures.1).1
    (none_interned c.args.names.now c.intern.new.self (part_text c.args.text.now)
    (whole_text c.args.text.now ∷ []) c.in_err-intern.ensures.err)

pub returns-in_err-whole-clause-err : goal.returns-in_err-whole-clause-err
returns-in_err-whole-clause-err c =
    rw (err_from_is_err_and c.from_residual-in_err-whole.result
    c.from_residual-in_err-whole.ensures.1).1
    (first_interned c.args.names.now c.intern.new.self c.intern.new.self
    (part_text c.args.text.now) (whole_text c.args.text.now ∷ [])
    (c.in_ok-intern.ensures.texts ∙ ap (with_text c.args.names.now)
    (c.as_str.ensures.value ∙ c.in_ok-part.ensures))
    (none_interned c.intern.new.self c.intern.new.self (whole_text c.args.text.now) [] refl))

pub intern-requires-2 : goal.intern-requires-2
intern-requires-2 c = omega (
  arith,
  ap length c.in_ok-intern.ensures.texts,
  length-with_text c.args.names.now c.as_str.result.now,
  c.requires,
)

pub returns-in_err-intern-2-clause-err : goal.returns-in_err-intern-2-clause-err
returns-in_err-intern-2-clause-err c =
    rw (err_from_is_err_and c.from_residual-in_err-intern-2.result
    c.from_residual-in_err-intern-2.ensures.1).1
    (first_interned c.args.names.now c.intern.new.self c.intern-2.new.self
    (part_text c.args.text.now) (whole_text c.args.text.now ∷ [])
    (c.in_ok-intern.ensures.texts ∙ ap (with_text c.args.names.now)
    (c.as_str.ensures.value ∙ c.in_ok-part.ensures))
    (none_interned c.intern.new.self c.intern-2.new.self (whole_text c.args.text.now) []
    c.in_err-intern-2.ensures.err))

pub returns-clause-texts : goal.returns-clause-texts
unfolding with_texts
returns-clause-texts c =
    c.in_ok-intern-2.ensures.texts
    ∙ (ap (with_text c.intern.new.self) (c.as_str-2.ensures.value ∙ c.in_ok-whole.ensures)
    ∙ ap (λ texts. with_text texts (whole_text c.args.text.now))
    (c.in_ok-intern.ensures.texts ∙ ap (with_text c.args.names.now)
    (c.as_str.ensures.value ∙ c.in_ok-part.ensures)))
