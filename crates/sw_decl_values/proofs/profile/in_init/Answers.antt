use Rattle.std.proofs.Common.{◌≡◌, ◌++◌, nat_eq, ap, subst, ◌∙◌}
use Rattle.std.specs.List.{flat_map}
use Rattle.std.specs.Prelude.{OnOk}
use Rattle.indexmap.specs.IndexMap.{get}
use Rattle.sw_decl_names.specs.Repeats.{first_place}
use Rattle.sw_decl_words.specs.Evident.{tabled}
use Rattle.sw_decl_words.proofs.TableLemmas.{same_tables}
use Rattle.sw_decl_values.specs.Counts.{times_in}
use Rattle.sw_decl_values.specs.Profile.{in_stmt, param_names, wanted_names}
use Rattle.sw_decl_values.specs.Values.{set_in}
use Rattle.sw_decl_values.proofs.profile.in_init.Goals as goal

pub returns : goal.returns
returns c =
    let known = tabled c.args.words.now c.args.members.now in
    let shape = c.args.shape in
    let init = c.args.init.now in
    let stmts = init.body.stmts in
    let lent = c.as_slice-stmts.result.now in
    let first = get nat_eq c.in_ok-params.params.places in
    let second = get nat_eq c.in_ok-wanted.wanted.places in
    let third = get nat_eq c.in_ok-given.given.times in
    let names = first_place (param_names init.params) in
    let lacking = first_place (wanted_names known shape c.args.props.now) in
    let times = times_in (set_in stmts) in
    let params = same_tables first names (λ id. c.in_ok-params.ensures id
    ∙ ap (λ ps. first_place (param_names ps) id) c.as_slice.ensures) in
    let wanted = same_tables second lacking (c.in_ok-wanted.ensures c.args.words.now) in
    let given = same_tables third times (λ id. c.in_ok-given.ensures id
    ∙ ap (λ ss. times_in (set_in ss) id) c.as_slice-stmts.ensures) in
    subst (λ more. OnOk c.add_stmts.result
    (c.add_stmts.new.found ≡ c.args.found.now ++ more))
    (ap (λ t. flat_map (in_stmt known shape t second third) lent) params
    ∙ ap (λ t. flat_map (in_stmt known shape names t third) lent) wanted
    ∙ ap (λ t. flat_map (in_stmt known shape names lacking t) lent) given
    ∙ ap (flat_map (in_stmt known shape names lacking times)) c.as_slice-stmts.ensures)
    c.add_stmts.ensures
