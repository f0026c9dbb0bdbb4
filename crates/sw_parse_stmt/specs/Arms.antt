-- The arms of an `if`, as the code keeps them.
use Rattle.std.specs.Prelude.{List}
use Rattle.sw_tree.specs.declared.stmt.IfArm.{IfArm}
use Rattle.sw_grammar.specs.Stmts as grammar
use Rattle.sw_grammar.specs.Stmts.{Arms}
use Rattle.sw_grammar.specs.Stmts.Next.{arm_at, no_more, other_block, last_stmt}
use Rattle.sw_parse_stmt.specs.declared.arms.Next.{Next}
use Rattle.sw_parse_stmt.specs.declared.arms.Next.TheVariants as variants

-- what comes after the arms that are read
abbrev pub next_of : Next → grammar.Next
next_of (variants.Arm at) = arm_at at
next_of variants.Nothing = no_more
next_of (variants.Other body) = other_block body
next_of (variants.Rest rest) = last_stmt rest

abbrev pub arms_of : List IfArm → Next → Arms
arms_of arms next = record { arms = arms; next = next_of next }
