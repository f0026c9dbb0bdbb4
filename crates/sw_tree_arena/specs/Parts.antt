-- The work of parts, each before the next.
use Rattle.std.specs.Prelude.{ℕ, List, if◌then◌else◌}
use Rattle.sw_tree.specs.declared.stmt.Pattern.{Pattern}
use Rattle.sw_tree.specs.declared.stmt.Pattern.TheVariants.{Skip, Let}
use Rattle.sw_isolation_rules.specs.declared.note.Capture.{Capture}
use Rattle.sw_tree_work.specs.Forms.{in_order}
use Rattle.sw_tree_work.specs.Work.{Before, Payload, Read, Then}

-- parts in order, each before the next
unfoldable pub each_before : {A : Type 0} → (A → Before) → List A → Before
each_before work xs = in_order work xs

-- a captured variable is read, unless it is shared
abbrev pub capture_work : Capture → Before
capture_work one rest = if one.by_ref then rest else Then (Read one.variable) rest

-- the variable of a pattern begins with the payload that has this number
abbrev pub pattern_work : ℕ → Pattern → Before
pattern_work number (Skip at) rest = rest
pattern_work number (Let name) rest = Then (Payload name.at number) rest
