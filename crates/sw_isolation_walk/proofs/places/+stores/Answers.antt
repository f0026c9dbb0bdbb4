use Rattle.std.proofs.Common.{rules, [], ◌∙◌, ap}
use Rattle.sw_isolation_table.specs.Known.{answers_of}
use Rattle.sw_isolation_rules.specs.Noting.{see, store_notes}
use Rattle.sw_typing_rules.specs.Worlds.{world_of}
use Rattle.sw_isolation_walk.proofs.Adding.{alone}
use Rattle.sw_isolation_walk.proofs.Wholes.{stores_whole, written_alone}
use Rattle.sw_isolation_walk.proofs.places.+stores.Goals as goal

pub returns-in-Field : goal.returns-in-Field
returns-in-Field t c =
    let world = world_of c.args.world.now in
    let answers = answers_of c.args.typed.now in
    let part = c.get-base.result.now in
    alone c.stores.result c.args.notes.now c.stores.new.notes _ _
    (stores_whole world answers c.args.context [] c.args.tree.now c.in-Member.base part
    c.in-Member.name c.args.at c.base_at-known.result c.used.result c.in-Member.is
    (search rules) (c.base_at-known.ensures world) c.used.ensures
    ∙ ap (λ one. store_notes c.args.context c.args.at one
    ((see world answers part).stores c.args.context c.args.at)) c.in-Field.is)
    c.stores.ensures

pub returns-in-Called : goal.returns-in-Called
returns-in-Called t c =
    let world = world_of c.args.world.now in
    let answers = answers_of c.args.typed.now in
    let part = c.get-base.result.now in
    alone c.store_notes-in-Called.result c.args.notes.now c.store_notes-in-Called.new.notes _ _
    (stores_whole world answers c.args.context [] c.args.tree.now c.in-Member.base part
    c.in-Member.name c.args.at c.base_at-known.result c.used.result c.in-Member.is
    (search rules) (c.base_at-known.ensures world) c.used.ensures
    ∙ written_alone c.args.context c.args.at c.used.result _ c.in-Called.is)
    c.store_notes-in-Called.ensures
