use Rattle.std.proofs.Common.{sym, ◌∙◌, ap, refl}
use Rattle.std.proofs.lemmas.Result.{err_from_is_err_and}
use Rattle.std.specs.Prelude.{Ok}
use Rattle.sw_grammar_forms.specs.Reader.{and_then}
use Rattle.sw_grammar_forms.proofs.ItemLoops.{refuses}
use Rattle.sw_parse_parts.specs.Around.{TaskWords, known}
use Rattle.sw_parse_expr.specs.Blocks.{beginning, items_of}
use Rattle.sw_parse_expr.proofs.PartLoops.{Rest, all_read, one_turn, shorter, stops_at_start}
use Rattle.sw_parse_expr.proofs.PartLoops.{made_stops, stops_in_part}
use Rattle.sw_parse_expr.proofs.blocks.async_parts.Goals as goal

pub returns-then-not-sees : goal.returns-then-not-sees
returns-then-not-sees g c =
    ap (λ answer. and_then answer (λ read. Ok (items_of read.0, read.1)))
    (all_read (known c.args.around.now) c.args.depth _ c.args.tokens.now
    (beginning (known c.args.around.now) c.args.first) (sym c.sees.ensures ∙ c.if-not-sees.true) refl)

pub loop-alloc-init : goal.loop-alloc-init
loop-alloc-init g c = (
  (λ j. Rest (known c.args.around.now) c.args.depth (record {
    stmts = c.into_vec-stmts.ensures j;
    ended = c.args.first.1;
    tasks = (c.in_ok-tasks.ensures j).words;
  }) c.args.tokens.now),
  ap (λ (tasks : TaskWords). tasks.texts) c.in_ok-tasks.ensures,
)

pub returns-in_err-start : goal.returns-in_err-start
returns-in_err-start g c =
    let stop = err_from_is_err_and c.from_residual-in_err-start.result
    c.from_residual-in_err-start.ensures.1 in
    rw (stop.1, stop.2) (refuses _ _ _ _ _
    (made_stops items_of (stops_at_start (known c.args.around.now) c.args.depth _ _ _
    (sym c.sees-in-loop-alloc.ensures ∙ c.loop-alloc-test.true) c.loop-alloc.invariant.0))
    c.in_err-start.ensures)

pub returns-in_err-part : goal.returns-in_err-part
returns-in_err-part g c =
    let stop = err_from_is_err_and c.from_residual-in_err-part.result
    c.from_residual-in_err-part.ensures.1 in
    rw (stop.1, stop.2) (refuses _ _ _ _ _
    (made_stops items_of (stops_in_part (known c.args.around.now) c.args.depth _ _ _ _ _
    (sym c.sees-in-loop-alloc.ensures ∙ c.loop-alloc-test.true) c.loop-alloc.invariant.0 c.in_ok-start.ensures))
    c.in_err-part.ensures.part)

pub loop-alloc-smaller : goal.loop-alloc-smaller
loop-alloc-smaller g c =
    shorter (known c.args.around.now) c.args.depth _ _ _ (record {
      stmts = c.loop-alloc.stmts.items;
      ended = c.loop-alloc.ended;
      tasks = c.loop-alloc.tasks.words;
    }) _ _ c.in_ok-start.ensures c.in_ok-part.ensures.part

pub loop-alloc-preserved : goal.loop-alloc-preserved
loop-alloc-preserved g c = (
  rw (c.in_ok-append.ensures.items, c.into_vec.ensures)
      (one_turn (known c.args.around.now) c.args.depth _ _ _ _ _ _ _
      (sym c.sees-in-loop-alloc.ensures ∙ c.loop-alloc-test.true) c.loop-alloc.invariant.0
      c.in_ok-start.ensures c.in_ok-part.ensures.part),
  c.in_ok-part.ensures.texts,
)

pub returns : goal.returns
returns g c =
    ap (λ answer. and_then answer (λ read. Ok (items_of read.0, read.1)))
    (all_read (known c.args.around.now) c.args.depth _ _ _
    (sym c.sees-in-loop-alloc.ensures ∙ c.loop-alloc-test.false) c.loop-alloc.invariant.0)
    ∙ ap (λ stmts. Ok ((stmts, c.loop-alloc.ended), c.loop-alloc.tokens)) (sym c.from_vec.ensures)
