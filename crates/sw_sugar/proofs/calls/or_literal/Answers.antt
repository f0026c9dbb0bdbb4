use Rattle.std.proofs.Common.{◌≡◌, ◌∙◌, codes, ap}
use Rattle.sw_tree.specs.Names.{id_in}
use Rattle.sw_sugar.specs.Calls.{declared_as, text_of}
use Rattle.sw_sugar.specs.Optionals.{block_of, or_literal_stmts}
use Rattle.sw_sugar.proofs.NameTexts.{declared_stays}
use Rattle.sw_sugar.proofs.calls.or_literal.Goals as goal

pub returns-clause-tree : goal.returns-clause-tree
returns-clause-tree c =
    let text = text_of c.args.names.now c.args.name.id in
    let word : c.in_ok-word.word ≡ declared_as (id_in c.intern.new.self) text c.args.name =
    c.in_ok-word.ensures.word
    ∙ declared_stays c.args.names.now c.declare.new.names c.intern.new.self text (codes "some")
    c.args.name c.in_ok-word.ensures.names c.in_ok-intern.ensures.texts in
    ap block_of (c.in_ok-or_literal_stmts.ensures ∙ (λ j. or_literal_stmts (record {
      mutable = c.args.mutable;
      word = word j;
      some = c.id_of.ensures j;
      let_at = c.args.let_at;
      colon_at = c.args.colon_at;
      eq_at = c.args.eq_at;
      op_at = c.args.op_at;
    }) (c.in_ok-ty.ensures j) c.args.value c.args.literal))
