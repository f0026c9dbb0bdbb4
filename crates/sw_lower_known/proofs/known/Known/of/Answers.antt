use Rattle.std.proofs.Common.{◌≡◌, ◌∙◌, ◌==◌, ℕ, List, [], filter, nat_eq, slice_get, ap}
use Rattle.std.specs.Option.{unwrap_or}
use Rattle.indexmap.specs.IndexMap.{get}
use Rattle.indexmap.specs.IndexSet.{contains}
use Rattle.sw_isolation_table.specs.Known.{answers_of}
use Rattle.sw_isolation_rules.specs.Captures.{is_among}
use Rattle.sw_isolation_rules.specs.declared.note.BodyIso.{BodyIso}
use Rattle.sw_isolation_rules.specs.declared.note.Capture.{Capture}
use Rattle.sw_typing_rules.specs.Worlds.{and_then, world_of}
use Rattle.sw_lower_rules.specs.Tables.{body_with}
use Rattle.sw_lower_known.specs.Knowledge.{tables_by}
use Rattle.sw_lower_known.proofs.known.Known.of.Goals as goal

-- Two records of functions are equal where each two functions are equal at each argument.
pub returns : goal.returns
unfolding tables_by
returns c =
    let isolated = c.args.isolated.now in
    let bodies : (key : ℕ) → get nat_eq c.in_ok-isolations_of.field-0 key
    ≡ body_with isolated.bodies key =
    λ key. c.in_ok-isolations_of.ensures key
    ∙ ap (λ (list : List BodyIso). body_with list key) c.as_slice.ensures in
    let captures : (key : ℕ) → unwrap_or (get nat_eq c.in_ok-groups_of.field-0 key) []
    ≡ filter (λ (one : Capture). one.closure == key) isolated.captures =
    λ key. c.in_ok-groups_of.ensures key
    ∙ ap (filter (λ (one : Capture). one.closure == key)) c.as_slice-2.ensures in
    let boxes : (key : ℕ) → contains nat_eq c.in_ok-boxes_of.field-0 key
    ≡ is_among isolated.boxes key =
    λ key. c.in_ok-boxes_of.ensures key
    ∙ ap (λ (list : List ℕ). is_among list key) c.as_slice-3.ensures in
    λ i. record {
      world = world_of c.args.world.now;
      answers = answers_of c.args.typed.now;
      isolation = record {
        body_at = λ key. bodies key i;
        kind_at = get nat_eq isolated.kinds_by_key;
        captures_of = λ key. captures key i;
        is_boxed = λ key. boxes key i;
      };
      part_key = λ shape number. and_then (slice_get (c.in_ok-part_keys_of.ensures i) shape)
          (λ keys. slice_get keys number);
    }
