-- What is seen where a tree stands, and what it mentions beside what is declared in it.
use Rattle.std.proofs.Common.{◌≡◌, ℕ, inl, inr, ◌⊎◌, List, [], ◌∷◌, ◌++◌, Some, Contains}
use Rattle.std.proofs.lemmas.List.Elements.{All-contains_itself, All-from_recursion}
use Rattle.std.proofs.lemmas.List.Elements.{Contains-append_left, Contains-append_right}
use Rattle.std.proofs.lemmas.List.Elements.{recursion_from_All}
use Rattle.std.specs.List.{AllByRecursion}
use Rattle.std.specs.Prelude.{All, Option}
use Rattle.sw_typing_rules.specs.Words.{local}
use Rattle.sw_typing_rules.specs.declared.scope.Var.{Var}
use Rattle.sw_isolation_rules.specs.Captures.{self_of}
use Rattle.sw_isolation_rules.specs.Noting.{Notes, Seen}
use Rattle.sw_isolation_rules.specs.declared.uses.Context.{Context}
use Rattle.sw_lower_rules.specs.Tables.{Tables}
use Rattle.sw_typing_facts.proofs.Lists.Listed.{in_first, in_rest}
use Rattle.sw_lower_total_facts.specs.Noted.{keys_of}
use Rattle.sw_tree.specs.Scopes.{Scoped, Word, both}
use Rattle.sw_lower_total_facts.proofs.Mentions.Notes.{AreIn, Silent, in_join, in_more, in_silent}

-- each of some variables is among these keys
pub keys_among : (vars : List Var) → All (λ (one : Var). Contains (keys_of vars) one.at) vars
keys_among vars =
    All-from_recursion (λ (one : Var). Contains (keys_of vars) one.at) vars
    (by vars (λ key has. has)) where
      by : (some : List Var)
          → ((key : ℕ) → Contains (keys_of some) key → Contains (keys_of vars) key)
          → AllByRecursion (λ (one : Var). Contains (keys_of vars) one.at) some
      by [] inside = tt
      by (one ∷ more) inside = (
        inside one.at (in_first one.at (keys_of more)),
        by more (λ key has. inside key (in_rest one.at (keys_of more) key has)),
      )

-- One of these words means a visible variable with this key.
abbrev pub Means : List Var → List Word → ℕ → Type 0
Means vars free key = (word : Word) × Contains free word
    × (one : Var) × (local vars word.id ≡ Some one) × (one.at ≡ key)

pub means_more : (vars : List Var) (free more : List Word) (key : ℕ)
    → ((word : Word) → Contains free word → Contains more word)
    → Means vars free key → Means vars more key
means_more vars free more key wider (word, has, one, found, is) =
    (word, wider word has, one, found, is)

module _ (tables : Tables) where
  -- A variable is seen around a tree and one of the tree's free words means it, or it is declared
  -- in the tree.
  abbrev pub IsSeen : Option ℕ → List Var → Scoped → ℕ → Type 0
  IsSeen owner vars scoped variable =
      Contains (self_of tables.world owner) variable
      ⊎ (Means vars scoped.free variable ⊎ Contains scoped.declared variable)

  -- `self` is seen
  pub selves_seen : (owner : Option ℕ) (vars : List Var) (scoped : Scoped)
      → AllByRecursion (IsSeen owner vars scoped) (self_of tables.world owner)
  selves_seen owner vars scoped =
      recursion_from_All (IsSeen owner vars scoped) (self_of tables.world owner)
      (λ k d below. inl (All-contains_itself (self_of tables.world owner) k d below))

  -- Wherever notes are taken, each variable that they mention is seen, or declared in the tree.
  abbrev pub Within : List Var → Scoped → Notes → Type 0
  Within vars scoped notes = (context : Context) (listed : List ℕ)
      → AreIn (IsSeen context.owner vars scoped) (notes context listed)

  -- the notes of an expression, and those before it is assigned
  pub record SeenWithin (vars : List Var) (scoped : Scoped) (seen : Seen) : Type 0 where
    pub notes : Within vars scoped seen.notes
    pub before : Within vars scoped seen.before

  -- What free words inside mean is meant by free words around or declared around, and what is
  -- declared inside is declared around.
  abbrev pub Covers : List Var → Scoped → List Var → Scoped → Type 0
  Covers inner scoped outer more =
      ((variable : ℕ) → Means inner scoped.free variable
      → Means outer more.free variable ⊎ Contains more.declared variable)
      × ((variable : ℕ) → Contains scoped.declared variable → Contains more.declared variable)

  pub seen_more : (owner : Option ℕ) (inner outer : List Var) (scoped more : Scoped)
      → Covers inner scoped outer more → (variable : ℕ) → IsSeen owner inner scoped variable
      → IsSeen owner outer more variable
  seen_more owner inner outer scoped more covers variable (inl me) = inl me
  seen_more owner inner outer scoped more covers variable (inr (inl means)) =
      inr (covers.0 variable means)
  seen_more owner inner outer scoped more covers variable (inr (inr own)) =
      inr (inr (covers.1 variable own))

  pub within_more : (inner outer : List Var) (scoped more : Scoped) (notes : Notes)
      → Covers inner scoped outer more → Within inner scoped notes → Within outer more notes
  within_more inner outer scoped more notes covers within context listed =
      in_more (IsSeen context.owner inner scoped) (IsSeen context.owner outer more)
      (seen_more context.owner inner outer scoped more covers) (notes context listed)
      (within context listed)

  -- the free words of a part of a tree, and what is declared in it, are the tree's
  within_part : (vars : List Var) (scoped more : Scoped) (notes : Notes)
      → ((word : Word) → Contains scoped.free word → Contains more.free word)
      → ((variable : ℕ) → Contains scoped.declared variable → Contains more.declared variable)
      → Within vars scoped notes → Within vars more notes
  within_part vars scoped more notes words keys within =
      within_more vars vars scoped more notes (
        λ variable means. inl (means_more vars scoped.free more.free variable words means),
        keys,
      ) within

  pub within_left : (vars : List Var) (one other : Scoped) (notes : Notes)
      → Within vars one notes → Within vars (both one other) notes
  within_left vars one other notes within =
      within_part vars one (both one other) notes (Contains-append_left one.free other.free)
      (Contains-append_left one.declared other.declared) within

  pub within_right : (vars : List Var) (one other : Scoped) (notes : Notes)
      → Within vars other notes → Within vars (both one other) notes
  within_right vars one other notes within =
      within_part vars other (both one other) notes (Contains-append_right one.free other.free)
      (Contains-append_right one.declared other.declared) within

  -- notes after notes
  abbrev pub after : Notes → Notes → Notes
  after one other context listed = one context listed ++ other context listed

  pub within_both : (vars : List Var) (scoped : Scoped) (one other : Notes)
      → Within vars scoped one → Within vars scoped other → Within vars scoped (after one other)
  within_both vars scoped one other first second context listed =
      in_join (IsSeen context.owner vars scoped) (one context listed) (other context listed)
      (first context listed) (second context listed)

  pub within_joined : (vars : List Var) (scoped more : Scoped) (one other : Notes)
      → Within vars scoped one → Within vars more other
      → Within vars (both scoped more) (after one other)
  within_joined vars scoped more one other first second =
      within_both vars (both scoped more) one other (within_left vars scoped more one first)
      (within_right vars scoped more other second)

  -- notes that mention nothing
  pub within_silent : (vars : List Var) (scoped : Scoped) (notes : Notes)
      → ((context : Context) (listed : List ℕ) → Silent (notes context listed))
      → Within vars scoped notes
  within_silent vars scoped notes silent context listed =
      in_silent (IsSeen context.owner vars scoped) (notes context listed) (silent context listed)
