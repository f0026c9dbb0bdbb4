-- Code for each item gives what it gives item by item.
use Rattle.std.proofs.Common.{◌≡◌, List, [], ◌∷◌, ◌++◌, Result, Ok, Err, refl, sym, ◌∙◌}
use Rattle.std.proofs.Common.{append_assoc}
use Rattle.std.proofs.lemmas.List.{append-nil}
use Rattle.sw_lower_code.specs.Code.{Code, andthen, done, each}
use Rattle.sw_lower_plans.specs.Run.{Making, Run, run_after}
use Rattle.sw_lower_plans.specs.declared.fault.CodeFault.{CodeFault}
use Rattle.sw_lower_uses.specs.Gathering.{each_after}

-- what a list of items gives goes after what was given
abbrev put_after : {B : Type 0} → List B → Result (List B × Making) CodeFault
    → Result (List B × Making) CodeFault
put_after given run = run_after run (λ more making. Ok (given ++ more, making))

after_nothing : {B : Type 0} (run : Result (List B × Making) CodeFault) → put_after [] run ≡ run
after_nothing (Ok at) = refl
after_nothing (Err fault) = refl

after_one : {B : Type 0} (given : List B) (y : B) (run : Result (List B × Making) CodeFault)
    → put_after (given ++ y ∷ []) run
    ≡ put_after given (run_after run (λ ys making. Ok (y ∷ ys, making)))
after_one given y (Ok at) = simp append_assoc
after_one given y (Err fault) = refl

after_first : {B : Type 0} (given : List B) (run : Result (B × Making) CodeFault)
    (one : List B → Run (List B)) (other : Run (List B))
    → ((given : List B) (making : Making) → one given making ≡ put_after given (other making))
    → run_after run (λ y. one (given ++ y ∷ []))
    ≡ put_after given (run_after run (λ y making. run_after (other making)
    (λ ys making. Ok (y ∷ ys, making))))
after_first given (Ok at) one other same =
    same (given ++ at.0 ∷ []) at.1 ∙ after_one given at.0 (other at.1)
after_first given (Err fault) one other same = refl

after_is : {A B : Type 0} (code : A → Code B) (xs : List A) (given : List B) (making : Making)
    → each_after code xs given making ≡ put_after given ((each code xs).run making)
unfolding each andthen done
after_is code [] given making = simp append-nil
after_is code (x ∷ xs) given making =
    after_first given ((code x).run making) (each_after code xs) (each code xs).run
    (after_is code xs)

-- the whole, where nothing was given
pub each_is : {A B : Type 0} (code : A → Code B) (xs : List A) (making : Making)
    → (each code xs).run making ≡ each_after code xs [] making
each_is code xs making =
    sym (after_is code xs [] making ∙ after_nothing ((each code xs).run making))
