-- What is in doubt while the result of a closure or a task isn't known. A `switch` that fails and
-- holds a `return` without a value isn't ill itself if the first `return` with a value makes that
-- one ill.
use Rattle.std.specs.Prelude.{ℕ, Bool, List, [], ◌∷◌, Option, Some, None, nat_lt, if◌then◌else◌}
use Rattle.sw_typing_rules.specs.declared.row.Row.{Row}
use Rattle.sw_typing_rules.specs.declared.row.Row.TheVariants.{Typed, Means, Ill}
use Rattle.sw_typing_rules.specs.declared.scope.Returned.{Returned}
use Rattle.sw_typing_rules.specs.declared.scope.Returned.TheVariants.{Wants, Open, Gives}

-- the last of these keys, which are in order, if it stands after `at`
abbrev pub last_after : ℕ → List ℕ → Option ℕ
last_after at [] = None
last_after at (place ∷ []) = if nat_lt at place then Some place else None
last_after at (place ∷ next ∷ places) = last_after at (next ∷ places)

-- By what is known of the result at the end of a `switch`: a `return` without a value in it, if it
-- may turn out ill.
abbrev pub bare_in : ℕ → Returned → Option ℕ
bare_in at (Wants ty) = None
bare_in at (Open places) = last_after at places
bare_in at (Gives ty) = None

-- What is said in the end, by whether the result is a value other than `Void`: then the `return` is
-- ill in place of the node in doubt.
abbrev pub decided : Bool → Row → Row
decided valued (Typed at ty) = Typed at ty
decided valued (Means at meaning) = Means at meaning
decided valued (Ill at code None) = Ill at code None
decided valued (Ill at code (Some bare)) =
    if valued then Ill bare 402 None else Ill at code None
