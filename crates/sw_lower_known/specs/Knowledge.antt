-- What the tables answer that lowering looks up in.
use Rattle.std.specs.Prelude.{[], nat_eq, slice_get}
use Rattle.std.specs.Option.{unwrap_or}
use Rattle.indexmap.specs.IndexMap.{get}
use Rattle.indexmap.specs.IndexSet.{contains}
use Rattle.sw_isolation_table.specs.Known.{answers_of}
use Rattle.sw_isolation_table.specs.declared.isolated.Isolated.{Isolated}
use Rattle.sw_typing_rules.specs.Worlds.{and_then, world_of}
use Rattle.sw_lower_rules.specs.Tables.{Isolation, Tables, isolation_by}
use Rattle.sw_lower_known.specs.declared.known.Known.{Known}

-- what is known of the isolation of a program
abbrev pub isolation_of : Isolated → Isolation
isolation_of isolated =
    record (isolation_by isolated.bodies isolated.kinds isolated.captures isolated.boxes) {
      kind_at = get nat_eq isolated.kinds_by_key;
    }

-- what is known of a program when its functions are made
unfoldable pub tables_by : Known → Tables
tables_by known = record {
  world = world_of known.world.now;
  answers = answers_of known.typed.now;
  isolation = record {
    body_at = get nat_eq known.bodies;
    kind_at = get nat_eq known.isolated.now.kinds_by_key;
    captures_of = λ key. unwrap_or (get nat_eq known.captures key) [];
    is_boxed = contains nat_eq known.boxes;
  };
  part_key = λ shape number.
      and_then (slice_get known.part_keys shape) (λ keys. slice_get keys number);
}
