use Rattle.std.proofs.Common.{refl, sym, subst, ap, ◌∙◌}
use Rattle.sw_dictation.specs.Lines.{line_text}
use Rattle.sw_cert.specs.Shown.{AreClassesOf}
use Rattle.sw_cert.proofs.printing.line_of.Goals as goal

pub returns : goal.returns
returns c = record {
  line = record {
    function = c.args.function;
    block = c.args.block;
    classes = c.in_ok-classes.classes;
    pairs = c.in_ok-pairs.pairs;
  };
  function_is = refl;
  block_is = refl;
  shows = record {
    classes = subst (AreClassesOf c.args.state.now) (sym c.in_ok-classes.ensures)
        c.in_ok-listed.ensures;
    pairs = c.in_ok-pairs.ensures;
  };
  spelled = c.in_ok-text.ensures
      ∙ ap line_text (c.deref.ensures.value ∙ c.in_ok-numbers.ensures);
}
