-- The changes of a document, in the order in which they are made.
use Rattle.std.specs.Prelude.{Bool, false, ◌||◌, codes, Option, Some, None, is_some}
use Rattle.serde_json.specs.Data.{Data, Items, no_items, item}
use Rattle.serde_json.specs.Find.{get}

-- whether one of them is of a part of the document
abbrev pub has_range : Items → Bool
has_range no_items = false
has_range (item d ds) = is_some (get (codes "range") d) || has_range ds

abbrev pub last_from : Data → Items → Data
last_from d no_items = d
last_from d (item e ds) = last_from e ds

-- the last of them
abbrev pub last_item : Items → Option Data
last_item no_items = None
last_item (item d ds) = Some (last_from d ds)
