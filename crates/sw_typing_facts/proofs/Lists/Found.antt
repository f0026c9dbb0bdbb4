-- What is found: in what is found itself, by a function of it, by a key and by a name.
use Rattle.std.proofs.Common.{◌≡◌, Option, ℕ, List, Some, ◌∷◌, None, Bool, refl, subst, true, false}
use Rattle.std.proofs.Common.{fold, []}
use Rattle.std.specs.Option.{option_map}
use Rattle.std.specs.Prelude.{All, ◌==◌, if◌then◌else◌}
use Rattle.std.proofs.lemmas.List.Elements.{All-head, All-tail}
use Rattle.std.proofs.lemmas.Option.{same_Some}
use Rattle.sw_typing_rules.specs.Words.{local}
use Rattle.sw_typing_rules.specs.Worlds.{and_then}
use Rattle.sw_typing_rules.specs.declared.scope.Var.{Var}

-- What is found by a function of what is looked up.
pub mapped : {A B : Type 0} (f : A → B) (found : Option A) (y : B) → option_map f found ≡ Some y
    → (x : A) × (found ≡ Some x) × (f x ≡ y)
mapped f None y is = cc
mapped f (Some x) y is = (x, refl, some is) where
  some : Some (f x) ≡ Some y → f x ≡ y
  some is = cc

-- what is found in what is found
pub found_in_found : {A B : Type 0} (found : Option A) (next : A → Option B) (y : B)
    → and_then found next ≡ Some y → (x : A) × (found ≡ Some x) × (next x ≡ Some y)
found_in_found None next y is = cc
found_in_found (Some x) next y is = (x, refl, is)

-- What holds of all visible variables holds of the innermost one of a name.
pub local_has : (P : Var → Type 0) (vars : List Var) (id : ℕ) (one : Var) → All P vars
    → local vars id ≡ Some one → P one
local_has P vars id one all is =
    from vars None all (λ other found. absurd (none other found)) is where
      none : (other : Var) → None ≡ Some other → ⊥
      none other found = cc

      has : (same : Bool) (next : Var) (found : Option Var) → P next
          → ((other : Var) → found ≡ Some other → P other) → (other : Var)
          → (if same then Some next else found) ≡ Some other → P other
      has true next found holds before other is = subst P (same_Some next other is) holds
      has false next found holds before other is = before other is

      from : (rest : List Var) (found : Option Var) → All P rest
          → ((other : Var) → found ≡ Some other → P other)
          → fold (λ found (one : Var). if one.name == id then Some one else found) found rest
          ≡ Some one
          → P one
      from [] found all before is = before one is
      from (next ∷ rest) found all before is =
          from rest (if next.name == id then Some next else found) (All-tail P next rest all)
          (has (next.name == id) next found (All-head P next rest all) before) is
