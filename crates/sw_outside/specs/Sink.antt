-- A sink whose contents are unknown.
use Rattle.std.specs.Prelude.{ℕ, List, Option, None}

-- what is known of such a sink's bytes: nothing
abbrev pub unknown : Option (List ℕ)
unknown = None
