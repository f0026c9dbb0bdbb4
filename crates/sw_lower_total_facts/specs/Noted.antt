-- What is noted of which keys.
use Rattle.std.specs.Prelude.{◌≡◌, ℕ, ◌<◌, ◌==◌, List, Some, All, Contains, map, flat_map}
use Rattle.std.specs.Prelude.{nat_eq}
use Rattle.std.specs.List.{IsDistinct, filter}
use Rattle.sw_tree.specs.Keys.{Keys}
use Rattle.sw_typing_rules.specs.Words.{local}
use Rattle.sw_typing_rules.specs.declared.scope.Var.{Var}
use Rattle.sw_isolation_rules.specs.Captures.{mentioned, variables}
use Rattle.sw_isolation_rules.specs.Lists.{held_in, kinds_in, vars_in}
use Rattle.sw_isolation_rules.specs.declared.note.Captured.{Captured as Held}
use Rattle.sw_isolation_rules.specs.declared.note.Kinded.{Kinded}
use Rattle.sw_isolation_rules.specs.declared.note.Note.{Note}
use Rattle.sw_tree.specs.Scopes.{AreLess, Scoped, Word}

-- the kinds that are noted of a key, what the closure with a key takes, and whether a key is noted
-- as that of a `var`
abbrev pub kinds_of : ℕ → List Note → List Kinded
kinds_of key notes = filter (λ (one : Kinded). one.at == key) (kinds_in notes)

abbrev pub held_of : ℕ → List Note → List Held
held_of key notes = filter (λ (one : Held). one.closure == key) (flat_map held_in notes)

abbrev pub vars_of : ℕ → List Note → List ℕ
vars_of key notes = filter (λ one. one == key) (vars_in notes)

-- All that is noted of these keys is noted among these notes.
pub record IsAll (all notes : List Note) (keys : List ℕ) : Type 0 where
  pub kinds : (key : ℕ) → Contains keys key → kinds_of key all ≡ kinds_of key notes
  pub held : (key : ℕ) → Contains keys key → held_of key all ≡ held_of key notes
  pub vars : (key : ℕ) → Contains keys key → vars_of key all ≡ vars_of key notes

-- the variables that are mentioned
abbrev pub mentions : List Note → List ℕ
mentions notes = variables (flat_map mentioned notes)

-- Some closure takes something.
abbrev pub HasHeld : List Note → Type 0
HasHeld notes = (one : Held) × Contains (flat_map held_in notes) one

-- What is visible where a tree stands: the key of `self`, if there is one, and variables.
pub record Sight : Type 0 where
  pub me : Keys
  pub vars : List Var

abbrev pub keys_of : List Var → List ℕ
keys_of vars = map (λ (one : Var). one.at) vars

-- Where a tree stands, with its notes, its keys and its scopes: all that is noted of its keys is
-- noted of it, its keys are distinct, and keys tell which variables are declared around each of its
-- closures.
pub record StandsInText (all : List Note) (sight : Sight) (notes : List Note) (keys : List ℕ)
    (scoped : Scoped) : Type 0 where
  pub alone : IsAll all notes keys
  pub apart : IsDistinct nat_eq keys
  pub less : AreLess scoped.pairs
  -- A variable that a free word means is declared before the closures that the word stands in.
  pub before : (word : Word) → Contains scoped.free word → (one : Var)
      → local sight.vars word.id ≡ Some one
      → All (λ key. one.at < key) word.closures
  -- `self` is declared before all of it.
  pub own : All (λ me. All (λ key. me < key) keys) sight.me
  -- What is visible is declared elsewhere.
  pub elsewhere : (key : ℕ) → Contains (keys_of sight.vars) key → ¬ Contains keys key
