-- The colours of executors.
use Rattle.std.specs.Prelude.{ℕ, ◌+◌, ◌*◌, ◌%◌, List, ◌++◌, Option, Some, None, codes}
use Rattle.std.specs.Fmt.{decimal}
use Rattle.sw_value.specs.declared.executor.Executor.{Executor}
use Rattle.sw_value.specs.declared.executor.Executor.TheVariants.{ActorOf, Generic, Global}

-- the hue of a number; neighbours are far from each other
abbrev pub hue : ℕ → ℕ
hue n = (137 * n + 200) % 360

-- a colour with this hue and lightness
abbrev pub hsl : ℕ → ℕ → List ℕ
hsl h light = codes "hsl(" ++ (decimal h ++ (codes ",60%," ++ (decimal light ++ codes "%)")))

-- grey where a job runs on no actor
unfoldable pub paint : Option Executor → List ℕ
paint None = codes "#b0b0b0"
paint (Some Generic) = codes "#b0b0b0"
paint (Some (ActorOf cell)) = hsl (hue cell) 70
paint (Some (Global actor)) = hsl (hue (actor + 1)) 45
