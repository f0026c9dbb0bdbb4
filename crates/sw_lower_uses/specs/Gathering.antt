-- Code for each item in order, after that of some items.
use Rattle.std.specs.Prelude.{List, [], ◌∷◌, ◌++◌, Ok}
use Rattle.sw_lower_code.specs.Code.{Code}
use Rattle.sw_lower_plans.specs.Run.{Run, run_after}

-- what runs for the other items, with what was given
abbrev pub each_after : {A B : Type 0} → (A → Code B) → List A → List B → Run (List B)
each_after code [] given making = Ok (given, making)
each_after code (x ∷ xs) given making =
    run_after ((code x).run making) (λ y. each_after code xs (given ++ y ∷ []))
