-- Code for each item of a list is safe where the code for one is.
use Rattle.std.proofs.Common.{◌≡◌, ℕ, suc, List, [], ◌∷◌, refl, Option, Some}
use Rattle.std.proofs.lemmas.List.Elements.{All-cons, All-nil}
use Rattle.std.specs.Prelude.{All, slice_get}
use Rattle.sw_lower_plans.specs.Plan.{Numbers}
use Rattle.sw_lower_code.specs.Code.{Code, done, each, ◌>>=◌}
use Rattle.sw_lower_rules.specs.Tables.{Tables}
use Rattle.sw_lower_formed_facts.specs.Ground.{Knows}
use Rattle.sw_lower_formed_facts.specs.Safe.{Keeps, Position, SafeAt}
use Rattle.sw_lower_formed_facts.specs.Whole.{Whole}
use Rattle.sw_lower_formed_facts.proofs.Positions.Following.{keeps_self, keeps_then, knows_still}
use Rattle.sw_lower_formed_facts.proofs.Positions.Steps.{safe_done}
use Rattle.sw_lower_formed_facts.proofs.Positions.Then.{safe_then}

-- what holds of each item and of what was made for it
abbrev pub Both : {A B : Type 0} → (A → B → Position → Type 0) → List A → List B → Position → Type 0
Both R [] [] q = Unit {0}
Both R (x ∷ xs) (y ∷ ys) q = R x y q × Both R xs ys q
Both R _ _ q = ⊥

module _ {A B : Type 0} (tables : Tables) (owner : Option ℕ) (number : Numbers) (w : Whole)
    (code : A → Code B) (R : A → B → Position → Type 0) (Shown : A → Type 0)
    (stays : (x : A) (y : B) (p q : Position) → Keeps w p q → R x y p → R x y q) where
  -- each item in order
  abbrev pub EachAfter : Position → List A → List B → Position → Type 0
  EachAfter p xs ys q = Both R xs ys q × (Keeps w p q × All Shown xs)

  -- one item
  abbrev pub OneAfter : Position → A → B → Position → Type 0
  OneAfter p x y q = R x y q × (Keeps w p q × Shown x)

  -- Code for each item is safe where the code for one is, after that for the items before it.
  pub safe_each : (xs : List A) (p : Position) → Knows tables owner number w p
      → ((k : ℕ) (x : A) → slice_get xs k ≡ Some x → (q : Position) → Keeps w p q
      → Knows tables owner number w q → SafeAt w q (code x) (OneAfter q x))
      → SafeAt w p (each code xs) (EachAfter p xs)
  unfolding each
  safe_each [] p knows one =
      safe_done w p [] (EachAfter p []) (tt, (keeps_self w p, All-nil Shown))
  safe_each (x ∷ xs) p knows one =
      safe_then w p (code x) (λ y. each code xs >>= λ ys. done (y ∷ ys)) (OneAfter p x)
      (EachAfter p (x ∷ xs))
      (one 0 x refl p (keeps_self w p) knows)
      (λ y q inside first.
      safe_then w q (each code xs) (λ ys. done (y ∷ ys)) (EachAfter q xs)
      (EachAfter p (x ∷ xs))
      (safe_each xs q (knows_still tables owner number w p q first.1.0 knows)
      (λ k one_x is s keeps. one (suc k) one_x is s (keeps_then w p q s first.1.0 keeps)))
      (λ ys s in_s rest.
      safe_done w s (y ∷ ys) (EachAfter p (x ∷ xs)) (
        (stays x y q s rest.1.0 first.0, rest.0),
        (keeps_then w p q s first.1.0 rest.1.0, All-cons Shown x xs first.1.1 rest.1.1),
      )))
