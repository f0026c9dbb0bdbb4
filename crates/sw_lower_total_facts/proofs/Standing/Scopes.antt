-- Parts of scopes: free words of a part are free in the whole, and the pairs of the whole have
-- those of the part. And what a word means where more variables are declared.
use Rattle.std.proofs.Common.{◌≡◌, ◌⊎◌, inl, inr, ℕ, Bool, true, false, List, [], ◌∷◌, ◌++◌, Option}
use Rattle.std.proofs.Common.{None, Some, Contains, refl, subst, ◌∙◌, ap}
use Rattle.std.specs.Prelude.{All, ◌<◌, ◌==◌, fold, if◌then◌else◌}
use Rattle.std.proofs.lemmas.List.Elements.{All-contains}
use Rattle.std.proofs.lemmas.List.Elements.{Contains-append_left, Contains-append_right}
use Rattle.std.proofs.lemmas.List.Elements.{Contains-get_or}
use Rattle.std.proofs.lemmas.List.Sums.{fold-append}
use Rattle.sw_list.proofs.Members.{first_in, first_or_later, later_in, none_in}
use Rattle.sw_typing_rules.specs.Words.{local}
use Rattle.sw_typing_rules.specs.declared.scope.Var.{Var}
use Rattle.sw_tree.specs.Scopes.{AreLess, Pair, Scoped, Word, both}

-- what holds of each thing that a list contains holds of all
pub all_of_each : {X : Type 0} (P : X → Type 0) (xs : List X) → ((x : X) → Contains xs x → P x)
    → All P xs
all_of_each {X} P xs each k d below = each _ (Contains-get_or xs k d below)

-- what holds of all in a list holds of all in a part of it
pub all_among : {X : Type 0} (P : X → Type 0) (xs ys : List X)
    → ((x : X) → Contains ys x → Contains xs x) → All P xs → All P ys
all_among P xs ys among all =
    all_of_each P ys (λ x has. All-contains P xs x all (among x has))

pub all_left : {X : Type 0} (P : X → Type 0) (xs ys : List X) → All P (xs ++ ys) → All P xs
all_left P xs ys = all_among P (xs ++ ys) xs (Contains-append_left xs ys)

pub all_right : {X : Type 0} (P : X → Type 0) (xs ys : List X) → All P (xs ++ ys) → All P ys
all_right P xs ys = all_among P (xs ++ ys) ys (Contains-append_right xs ys)

-- Free words of a part are free in the whole; where the whole's pairs are less, so are the part's.
pub record IsWithin (whole part : Scoped) : Type 0 where
  pub free : (word : Word) → Contains part.free word → Contains whole.free word
  pub less : AreLess whole.pairs → AreLess part.pairs

pub within_same : (scoped : Scoped) → IsWithin scoped scoped
within_same scoped = record { free = λ word has. has; less = λ less. less }

pub within_left : (one other : Scoped) → IsWithin (both one other) one
within_left one other = record {
  free = Contains-append_left one.free other.free;
  less = all_left (λ (pair : Pair). pair.0 < pair.1) one.pairs other.pairs;
}

pub within_right : (one other : Scoped) → IsWithin (both one other) other
within_right one other = record {
  free = Contains-append_right one.free other.free;
  less = all_right (λ (pair : Pair). pair.0 < pair.1) one.pairs other.pairs;
}

-- a part of a part
pub within_part : (whole middle part : Scoped) → IsWithin whole middle → IsWithin middle part
    → IsWithin whole part
within_part whole middle part one other = record {
  free = λ word has. one.free word (other.free word has);
  less = λ less. other.less (one.less less);
}

-- a word's search among variables, the innermost last
abbrev step : ℕ → Option Var → Var → Option Var
step id found one = if one.name == id then Some one else found

found_more : (id : ℕ) (found : Option Var) (more : List Var)
    → ((one : Var) × Contains more one × (one.name == id ≡ true)
    × (fold (step id) found more ≡ Some one))
    ⊎ ((fold (step id) found more ≡ found)
    × ((one : Var) → Contains more one → one.name == id ≡ false))
found_more id found [] = inr (refl, λ one has. absurd (none_in one has))
found_more id found (first ∷ more) =
    by (first.name == id) refl (found_more id (Some first) more) (found_more id found more) where
      by : (same : Bool) → first.name == id ≡ same
          → ((one : Var) × Contains more one × (one.name == id ≡ true)
          × (fold (step id) (Some first) more ≡ Some one))
          ⊎ ((fold (step id) (Some first) more ≡ Some first)
          × ((one : Var) → Contains more one → one.name == id ≡ false))
          → ((one : Var) × Contains more one × (one.name == id ≡ true)
          × (fold (step id) found more ≡ Some one))
          ⊎ ((fold (step id) found more ≡ found)
          × ((one : Var) → Contains more one → one.name == id ≡ false))
          → ((one : Var) × Contains (first ∷ more) one × (one.name == id ≡ true)
          × (fold (step id) (if first.name == id then Some first else found) more ≡ Some one))
          ⊎ ((fold (step id) (if first.name == id then Some first else found) more ≡ found)
          × ((one : Var) → Contains (first ∷ more) one → one.name == id ≡ false))
      by true same (inl (one, has, named, is)) unused = inl (
        one,
        later_in first more one has,
        named,
        ap (λ test. fold (step id) (if test then Some first else found) more) same ∙ is,
      )
      by true same (inr (is, others)) unused = inl (
        first,
        first_in first more,
        same,
        ap (λ test. fold (step id) (if test then Some first else found) more) same ∙ is,
      )
      by false other unused (inl (one, has, named, is)) = inl (
        one,
        later_in first more one has,
        named,
        ap (λ test. fold (step id) (if test then Some first else found) more) other ∙ is,
      )
      by false other unused (inr (is, others)) = inr (
        ap (λ test. fold (step id) (if test then Some first else found) more) other ∙ is,
        λ one has. elim (first_or_later first more one has) [
          | inl here ↦ subst (λ (v : Var). v.name == id ≡ false) here other
          | inr there ↦ others one there
        ],
      )

-- Where more variables are declared, a word means one of those, which has its name, or none of them
-- has its name and it means what it meant.
pub local_more : (vars more : List Var) (id : ℕ)
    → ((one : Var) × Contains more one × (one.name == id ≡ true)
    × (local (vars ++ more) id ≡ Some one))
    ⊎ ((local (vars ++ more) id ≡ local vars id)
    × ((one : Var) → Contains more one → one.name == id ≡ false))
local_more vars more id = by (found_more id (local vars id) more) where
  joined : local (vars ++ more) id ≡ fold (step id) (local vars id) more
  joined = fold-append (step id) None vars more

  by : ((one : Var) × Contains more one × (one.name == id ≡ true)
      × (fold (step id) (local vars id) more ≡ Some one))
      ⊎ ((fold (step id) (local vars id) more ≡ local vars id)
      × ((one : Var) → Contains more one → one.name == id ≡ false))
      → ((one : Var) × Contains more one × (one.name == id ≡ true)
      × (local (vars ++ more) id ≡ Some one))
      ⊎ ((local (vars ++ more) id ≡ local vars id)
      × ((one : Var) → Contains more one → one.name == id ≡ false))
  by (inl (one, has, named, is)) = inl (one, has, named, joined ∙ is)
  by (inr (is, others)) = inr (joined ∙ is, others)
