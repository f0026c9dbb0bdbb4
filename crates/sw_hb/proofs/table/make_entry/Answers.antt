use Rattle.std.proofs.Common.{◌∷◌, [], ap, ◌∙◌}
use Rattle.std.proofs.lemmas.Result.{on_ok_weaker, on_err_weaker}
use Rattle.sw_value.specs.contracts.race.PlacePartialEq.TheImpl as derived
use Rattle.sw_race.proofs.UsesLemmas.{same_test}
use Rattle.sw_hb.specs.Entries.{with_entry}
use Rattle.sw_hb.proofs.TableLemmas.{inserted_at, rewritten_at, written_at}
use Rattle.sw_hb.proofs.table.make_entry.Goals as goal

pub returns-in-Some-clause-ok : goal.returns-in-Some-clause-ok
returns-in-Some-clause-ok c =
    let list = c.make_entry.new.entries in
    on_ok_weaker c.make_entry.result (λ made.
    written_at derived.ghosts.eq same_test c.args.table.now (c.get_mut.follows.lender list)
    c.args.place c.in-Some.entries.now list (with_entry c.args.job) c.in-Some.ensures.value
    (c.get_mut.follows.holds list).3 made) c.make_entry.ensures.ok

pub returns-in-Some-clause-err : goal.returns-in-Some-clause-err
returns-in-Some-clause-err c =
    let list = c.make_entry.new.entries in
    on_err_weaker c.make_entry.result (λ same.
    rewritten_at derived.ghosts.eq same_test c.args.table.now (c.get_mut.follows.lender list)
    c.args.place c.in-Some.entries.now list c.in-Some.ensures.value
    (c.get_mut.follows.holds list).3 same) c.make_entry.ensures.err

pub returns-in_ok-insert-in-None-clause-ok : goal.returns-in_ok-insert-in-None-clause-ok
returns-in_ok-insert-in-None-clause-ok c =
    inserted_at derived.ghosts.eq same_test c.args.table.now c.insert.new.self c.args.place
    c.get_mut.follows.lender-at-none c.in_ok-one-in-None.field-0 (with_entry c.args.job)
    c.in-None.ensures.value c.get_mut.follows.holds-at-none
    c.in_ok-insert-in-None.ensures.updates
    (c.in_ok-one-in-None.ensures ∙ ap (λ latest. latest ∷ []) c.unused.ensures)
