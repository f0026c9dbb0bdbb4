-- In a scope in which no name is repeated, names of one text stand at one place.
use Rattle.std.proofs.Common.{◌≡◌, ℕ, zero, suc, ◌≤◌, Bool, true, false, true≢false, List, [], ◌∷◌}
use Rattle.std.proofs.Common.{Option, Some, None, flat_map, Contains, refl, sym, subst, arith, ◌||◌}
use Rattle.std.proofs.Common.{fold}
use Rattle.std.proofs.lemmas.Bool.{eq-eqb}
use Rattle.std.specs.Prelude.{◌==◌, if◌then◌else◌}
use Rattle.sw_list.proofs.Members.{none_in}
use Rattle.sw_tree.specs.declared.name.Name.{Name}
use Rattle.sw_decl_words.specs.Words.{is_reserved}
use Rattle.sw_decl_words.specs.declared.placed.Placed.{Placed}
use Rattle.sw_decl_names.specs.Repeats.{earlier, first_place, is_before, is_repeated, repeated, repeats}
use Rattle.sw_typing_facts.proofs.Programs.DeclStands.{none_left, none_right}

-- what is made of an element of a list of which nothing is made
pub none_of : {X Y : Type 0} (f : X → List Y) (xs : List X) (x : X) → flat_map f xs ≡ []
    → Contains xs x → f x ≡ []
none_of f [] x none has = absurd (none_in x has)
none_of f (y ∷ xs) x none (zero, below, same) =
    subst (λ z. f z ≡ []) same (none_left (f y) (flat_map f xs) none)
none_of f (y ∷ xs) x none (suc k, below, same) =
    none_of f xs x (none_right (f y) (flat_map f xs) none) (k, omega (arith, below), same)

-- a place that is known is at most this
abbrev AtMost : Option ℕ → ℕ → Type 0
AtMost None at = ⊥
AtMost (Some first) at = first ≤ at

earlier_new : (found : Option ℕ) (at : ℕ) → AtMost (earlier found at) at
earlier_new None at = omega arith
earlier_new (Some first) at = grind arith

earlier_keeps : (found : Option ℕ) (at bound : ℕ) → AtMost found bound
    → AtMost (earlier found at) bound
earlier_keeps None at bound below = absurd below
earlier_keeps (Some first) at bound below = grind (arith, below)

-- where a name stands first, with one more
abbrev pub next : ℕ → Option ℕ → Name → Option ℕ
next id found name = if name.id == id then earlier found name.at else found

next_keeps : (id bound : ℕ) (found : Option ℕ) (name : Name) → AtMost found bound
    → AtMost (next id found name) bound
next_keeps id bound found name below = by (name.id == id) where
  by : (same : Bool) → AtMost (if same then earlier found name.at else found) bound
  by true = earlier_keeps found name.at bound below
  by false = below

place_keeps : (id bound : ℕ) (names : List Name) (found : Option ℕ) → AtMost found bound
    → AtMost (fold (next id) found names) bound
place_keeps id bound [] found below = below
place_keeps id bound (name ∷ names) found below =
    place_keeps id bound names (next id found name) (next_keeps id bound found name below)

-- a name stands where its text stands first, or later
place_first : (names : List Name) (found : Option ℕ) (name : Name) → Contains names name
    → AtMost (fold (next name.id) found names) name.at
place_first [] found name has = absurd (none_in name has)
place_first (one ∷ names) found name (zero, below, same) =
    place_keeps name.id name.at names (next name.id found one)
    (subst (λ (n : Name). AtMost (next name.id found n) name.at) (sym same)
    (subst (λ (b : Bool). AtMost (if b then earlier found name.at else found) name.at)
    (sym (eq-eqb name.id name.id refl)) (earlier_new found name.at)))
place_first (one ∷ names) found name (suc k, below, same) =
    place_first names (next name.id found one) name (k, omega (arith, below), same)

not_before : (first : Option ℕ) (at bound : ℕ) → is_before first at ≡ false → AtMost first bound
    → at ≤ bound
not_before None at bound is below = absurd below
not_before (Some first) at bound is below = grind (arith, is, below)

or_right : (a b : Bool) → (a || b) ≡ false → b ≡ false
or_right true b is = absurd (true≢false is)
or_right false b is = is

none_if : (so : Bool) (one : Placed) → (if so then one ∷ [] else []) ≡ [] → so ≡ false
none_if true one none = cc
none_if false one none = refl

-- Names of one text stand at one place.
pub one_place_of : (names : List Name) (name other : Name) → repeats names ≡ []
    → Contains names name → Contains names other → name.id ≡ other.id → name.at ≡ other.at
one_place_of names name other none has holds same =
    let one = before name other has holds (sym same) in
    let two = before other name holds has same in
    omega (arith, one, two) where
      before : (name other : Name) → Contains names name → Contains names other
          → other.id ≡ name.id → name.at ≤ other.at
      before name other has holds same =
          not_before (first_place names name.id) name.at other.at
          (or_right (is_reserved name.id) (is_before (first_place names name.id) name.at)
          (none_if (is_repeated (first_place names) name) _
          (none_of (repeated (first_place names)) names name none has)))
          (subst (λ id. AtMost (first_place names id) other.at) same
          (place_first names None other holds))
