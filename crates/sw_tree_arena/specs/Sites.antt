-- What is known where work is laid, and what a call lays there.
use Rattle.std.specs.Prelude.{ℕ, List, Option, Some, None, Result}
use Rattle.std.specs.declared.alloc.AllocError.{AllocError}
use Rattle.sw_types.specs.declared.isolation.Iso.{Iso}
use Rattle.sw_types.specs.declared.isolation.Iso.TheVariants as iso
use Rattle.sw_types.specs.declared.shape.Shape.{Shape}
use Rattle.sw_isolation_rules.specs.declared.note.BodyIso.{BodyIso}
use Rattle.sw_lower_rules.specs.Tables.{Tables}
use Rattle.sw_lower_known.specs.Knowledge.{tables_by}
use Rattle.sw_lower_known.specs.declared.known.Known.{Known}
use Rattle.sw_tree_work.specs.Facts.{Facts}
use Rattle.sw_tree_work.specs.Work.{Before, Work}
use Rattle.sw_tree_arena.specs.Nodes.{LaysIn, work_at}
use Rattle.sw_tree_arena.specs.declared.node.Node.{Node}
use Rattle.sw_tree_arena.specs.declared.site.Site.{Site}

-- a body of which nothing is noted is isolated to no actor
abbrev pub iso_of : Option BodyIso → Iso
iso_of None = iso.Free
iso_of (Some body) = body.iso

abbrev pub facts_of : Tables → Facts
facts_of tables = record {
  world = tables.world;
  answers = tables.answers;
  iso_at = λ key. iso_of (tables.isolation.body_at key);
  kind_at = tables.isolation.kind_at;
  captures_of = tables.isolation.captures_of;
  is_boxed = tables.isolation.is_boxed;
}

unfoldable pub facts_by : Known → Facts
facts_by known = facts_of (tables_by known)

abbrev pub facts_at : Site → Facts
facts_at site = facts_by site.known.now

module _ (site : Site) where
  abbrev pub shapes_at : List Shape
  shapes_at = (facts_at site).world.shapes

  -- the work of the node with a number
  abbrev pub after : List Node → ℕ → Work
  after nodes number = work_at shapes_at nodes number

  -- a call gives the number of a node that is this work
  abbrev pub Lays : List Node → List Node → Result ℕ AllocError → Work → Type 0
  Lays old new result wanted = LaysIn shapes_at old new result wanted

  -- a call gives the number of a node that is this work before that of the node with a number
  abbrev pub LaysBefore : List Node → List Node → Result ℕ AllocError → ℕ → Before → Type 0
  LaysBefore old new result rest wanted = Lays old new result (wanted (after old rest))
