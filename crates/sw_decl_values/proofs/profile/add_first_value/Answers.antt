use Rattle.std.proofs.Common.{◌≡◌, ◌++◌, nat_eq, subst}
use Rattle.std.specs.Prelude.{OnOk}
use Rattle.indexmap.specs.IndexMap.{get}
use Rattle.sw_decl_words.specs.Evident.{tabled}
use Rattle.sw_decl_words.proofs.TableLemmas.{same_tables}
use Rattle.sw_decl_values.specs.Profile.{no_params, value_found}
use Rattle.sw_decl_values.proofs.profile.add_first_value.Goals as goal

pub returns : goal.returns
returns c =
    let prop = c.args.prop.now in
    let none = same_tables (get nat_eq c.in_ok-params.params.places) no_params
    c.in_ok-params.ensures in
    subst (λ params. OnOk c.add_value.result (c.add_value.new.found ≡ c.args.found.now
    ++ value_found (tabled c.args.words.now c.args.members.now) c.args.owner params prop.ty
    prop.value)) none c.add_value.ensures
