-- What a closure takes: the outer variables that are mentioned in it, and `self` where it holds it.
use Rattle.std.proofs.Common.{◌≡◌, ℕ, ◌<◌, ◌⊎◌, inl, inr, Bool, true, false, List, [], ◌∷◌, ◌++◌}
use Rattle.std.proofs.Common.{flat_map, Contains, refl, ap, sym, arith, subst, not}
use Rattle.std.proofs.lemmas.Bool.Decides.{nat_tests}
use Rattle.std.proofs.lemmas.List.{map-append}
use Rattle.std.proofs.lemmas.List.Elements.{Contains-append_cases, Contains-append_left}
use Rattle.std.proofs.lemmas.List.Elements.{Contains-append_right}
use Rattle.std.specs.Prelude.{nat_lt, if◌then◌else◌}
use Rattle.std.specs.List.{filter}
use Rattle.sw_tree.proofs.Members.{in_map, of_map}
use Rattle.sw_typing_rules.specs.Worlds.{World}
use Rattle.sw_isolation_rules.specs.Captures.{firsts, firsts_from, held_self, is_among, me_mentions}
use Rattle.sw_isolation_rules.specs.Captures.{mention, mentioned, outer, own_mentions, self_first}
use Rattle.sw_isolation_rules.specs.Captures.{self_of, taken, variables}
use Rattle.sw_isolation_rules.specs.Kinds.{is_own}
use Rattle.sw_isolation_rules.specs.declared.note.Mention.{Mention}
use Rattle.sw_isolation_rules.specs.declared.note.Note.{Note}
use Rattle.sw_isolation_rules.specs.declared.uses.Context.{Context}
use Rattle.sw_typing_facts.proofs.Lists.Listed.{in_first, in_rest, only_in}
use Rattle.sw_lower_total_facts.proofs.Closures.Kept.{among_in, kept_in, of_kept}

-- the variable of a mention
variable_in : (mentions : List Mention) (one : Mention) → Contains mentions one
    → Contains (variables mentions) one.variable
variable_in mentions one has = in_map (λ (other : Mention). other.variable) mentions one has

-- what a step of `firsts_from` finds
abbrev found_with : List Mention → Mention → Bool → List Mention
found_with found one known = if known then found else found ++ one ∷ []

-- What was found stays found.
found_stays : (found : List Mention) (one : Mention) (known : Bool) (key : ℕ)
    → Contains (variables found) key → Contains (variables (found_with found one known)) key
found_stays found one true key has = has
found_stays found one false key has =
    subst (λ list. Contains list key)
    (sym (map-append (λ (other : Mention). other.variable) found (one ∷ [])))
    (Contains-append_left (variables found) (one.variable ∷ []) key has)

firsts_keep : (found more : List Mention) (key : ℕ) → Contains (variables found) key
    → Contains (variables (firsts_from found more)) key
firsts_keep found [] key has = has
firsts_keep found (one ∷ more) key has =
    firsts_keep (found_with found one (is_among (variables found) one.variable)) more key
    (found_stays found one (is_among (variables found) one.variable) key has)

-- a mention is found then
found_now : (found : List Mention) (one : Mention) (known : Bool)
    → is_among (variables found) one.variable ≡ known
    → Contains (variables (found_with found one known)) one.variable
found_now found one true is = among_in (variables found) one.variable is
found_now found one false is =
    subst (λ list. Contains list one.variable)
    (sym (map-append (λ (other : Mention). other.variable) found (one ∷ [])))
    (Contains-append_right (variables found) (one.variable ∷ []) one.variable
    (in_first one.variable []))

firsts_find : (found more : List Mention) (key : ℕ) → Contains (variables more) key
    → Contains (variables (firsts_from found more)) key
firsts_find found [] key (k, below, is) = absurd (omega (arith, below))
firsts_find found (one ∷ more) key has =
    by (Contains-append_cases (one.variable ∷ []) (variables more) key has)
    (λ later. firsts_find (found_with found one (is_among (variables found) one.variable)) more key
    later) where
      next : List Mention
      next = found_with found one (is_among (variables found) one.variable)

      by : Contains (one.variable ∷ []) key ⊎ Contains (variables more) key
          → (Contains (variables more) key → Contains (variables (firsts_from next more)) key)
          → Contains (variables (firsts_from next more)) key
      by (inl first) rest =
          firsts_keep next more key
          (subst (Contains (variables next)) (only_in one.variable key first)
          (found_now found one (is_among (variables found) one.variable) refl))
      by (inr later) rest = rest later

-- and nothing else is
found_only : (found : List Mention) (one : Mention) (known : Bool) (other : Mention)
    → Contains (found_with found one known) other → Contains found other ⊎ (one ≡ other)
found_only found one true other has = inl has
found_only found one false other has = by (Contains-append_cases found (one ∷ []) other has) where
  by : Contains found other ⊎ Contains (one ∷ []) other → Contains found other ⊎ (one ≡ other)
  by (inl before) = inl before
  by (inr now) = inr (only_in one other now)

firsts_only : (found more : List Mention) (other : Mention)
    → Contains (firsts_from found more) other → Contains found other ⊎ Contains more other
firsts_only found [] other has = inl has
firsts_only found (one ∷ more) other has =
    by (firsts_only next more other has) where
      next : List Mention
      next = found_with found one (is_among (variables found) one.variable)

      now : Contains found other ⊎ (one ≡ other)
          → Contains found other ⊎ Contains (one ∷ more) other
      now (inl before) = inl before
      now (inr same) = inr (subst (Contains (one ∷ more)) same (in_first one more))

      by : Contains next other ⊎ Contains more other
          → Contains found other ⊎ Contains (one ∷ more) other
      by (inl before) =
          now (found_only found one (is_among (variables found) one.variable) other before)
      by (inr later) = inr (in_rest one more other later)

-- the first mentions are mentions
first_is : (mentions : List Mention) (one : Mention) → Contains (firsts mentions) one
    → Contains mentions one
first_is mentions one has = by (firsts_only [] mentions one has) where
  by : Contains [] one ⊎ Contains mentions one → Contains mentions one
  by (inl (k, below, is)) = absurd (omega (arith, below))
  by (inr later) = later

-- a mention that is an outer one
pub outer_has : (closure : ℕ) (mentions : List Mention) (key : ℕ)
    → Contains (variables mentions) key → key < closure
    → Contains (variables (outer closure mentions)) key
outer_has closure mentions key has before =
    let (one, among, is) = of_map (λ (other : Mention). other.variable) mentions key has in
    subst (Contains (variables (outer closure mentions))) is
    (variable_in (outer closure mentions) one
    (kept_in (λ (other : Mention). nat_lt other.variable closure) mentions one among
    (below one.variable (subst (λ n. n < closure) (sym is) before)))) where
      below : (n : ℕ) → n < closure → nat_lt n closure ≡ true
      below n less = grind (arith, nat_tests, less)

outer_only : (closure : ℕ) (mentions : List Mention) (one : Mention)
    → Contains (outer closure mentions) one → Contains mentions one × (one.variable < closure)
outer_only closure mentions one has =
    let kept = of_kept (λ (other : Mention). nat_lt other.variable closure) mentions one has in
    (kept.0, below one.variable kept.1) where
      below : (n : ℕ) → nat_lt n closure ≡ true → n < closure
      below n is = grind (arith, nat_tests, is)

-- what is taken is in another order
self_first_has : (me : List ℕ) (mentions : List Mention) (one : Mention) → Contains mentions one
    → Contains (self_first me mentions) one
self_first_has me mentions one has = by (is_among me one.variable) refl where
  by : (mine : Bool) → is_among me one.variable ≡ mine → Contains (self_first me mentions) one
  by true is =
      Contains-append_left (filter (λ (other : Mention). is_among me other.variable) mentions)
      (filter (λ (other : Mention). not (is_among me other.variable)) mentions) one
      (kept_in (λ (other : Mention). is_among me other.variable) mentions one has is)
  by false is =
      Contains-append_right (filter (λ (other : Mention). is_among me other.variable) mentions)
      (filter (λ (other : Mention). not (is_among me other.variable)) mentions) one
      (kept_in (λ (other : Mention). not (is_among me other.variable)) mentions one has
      (ap not is))

self_first_only : (me : List ℕ) (mentions : List Mention) (one : Mention)
    → Contains (self_first me mentions) one → Contains mentions one
self_first_only me mentions one has =
    by (Contains-append_cases
    (filter (λ (other : Mention). is_among me other.variable) mentions)
    (filter (λ (other : Mention). not (is_among me other.variable)) mentions) one has) where
      by : Contains (filter (λ (other : Mention). is_among me other.variable) mentions) one
          ⊎ Contains (filter (λ (other : Mention). not (is_among me other.variable)) mentions) one
          → Contains mentions one
      by (inl mine) =
          (of_kept (λ (other : Mention). is_among me other.variable) mentions one mine).0
      by (inr others) =
          (of_kept (λ (other : Mention). not (is_among me other.variable)) mentions one others).0

module _ (world : World) (context : Context) (closure : ℕ) where
  -- A closure that is isolated to `self` holds it.
  pub held_has : (key : ℕ) → is_own context.iso ≡ true
      → Contains (self_of world context.owner) key
      → Contains (variables (held_self world context closure)) key
  unfolding me_mentions
  held_has key own has =
      let me = self_of world context.owner in
      subst (λ mine. Contains (variables (if mine then me_mentions world context.owner closure
      else [])) key) (sym own)
      (variable_in (me_mentions world context.owner closure) (mention key closure)
      (in_map (λ one. mention one closure) me key has))

  -- It holds nothing else, and no other closure does.
  pub held_only : (one : Mention) → Contains (held_self world context closure) one
      → (is_own context.iso ≡ true) × Contains (self_of world context.owner) one.variable
  unfolding me_mentions
  held_only one has = by (is_own context.iso) refl has where
    by : (own : Bool) → is_own context.iso ≡ own
        → Contains (if own then me_mentions world context.owner closure else []) one
        → (is_own context.iso ≡ true) × Contains (self_of world context.owner) one.variable
    by true own has =
        let (me, among, is) = of_map (λ me. mention me closure) (self_of world context.owner) one
        has in (
          own,
          subst (λ (other : Mention). Contains (self_of world context.owner) other.variable) is
              among,
        )
    by false own (k, below, is) = absurd (omega (arith, below))

  module _ (inner : List Note) where
    -- all that may be taken
    abbrev all_mentions : List Mention
    all_mentions = flat_map mentioned inner ++ held_self world context closure

    taken_by : (key : ℕ) → Contains (variables all_mentions) key → key < closure
        → Contains (variables (taken world context closure inner)) key
    taken_by key has before =
        let found = firsts_find [] (outer closure all_mentions) key
        (outer_has closure all_mentions key has before) in
        let (one, among, is) = of_map (λ (other : Mention). other.variable)
        (firsts (outer closure all_mentions)) key found in
        subst (Contains (variables (taken world context closure inner))) is
        (variable_in (taken world context closure inner) one
        (self_first_has (self_of world context.owner) (firsts (outer closure all_mentions)) one
        among))

    -- An outer variable that is mentioned is taken.
    pub taken_mentioned : (key : ℕ) → Contains (variables (flat_map mentioned inner)) key
        → key < closure → Contains (variables (taken world context closure inner)) key
    taken_mentioned key has before =
        taken_by key
        (subst (λ list. Contains list key)
        (sym (map-append (λ (other : Mention). other.variable) (flat_map mentioned inner)
        (held_self world context closure)))
        (Contains-append_left (variables (flat_map mentioned inner))
        (variables (held_self world context closure)) key has)) before

    -- And so is `self` where it is held.
    pub taken_held : (key : ℕ) → is_own context.iso ≡ true
        → Contains (self_of world context.owner) key → key < closure
        → Contains (variables (taken world context closure inner)) key
    taken_held key own has before =
        taken_by key
        (subst (λ list. Contains list key)
        (sym (map-append (λ (other : Mention). other.variable) (flat_map mentioned inner)
        (held_self world context closure)))
        (Contains-append_right (variables (flat_map mentioned inner))
        (variables (held_self world context closure)) key (held_has key own has))) before

    -- What surrounds a closure sees an outer variable as mentioned.
    pub own_has : (key : ℕ) → Contains (variables (flat_map mentioned inner)) key
        → key < closure → Contains (variables (own_mentions closure inner)) key
    own_has key has before =
        firsts_find [] (outer closure (flat_map mentioned inner)) key
        (outer_has closure (flat_map mentioned inner) key has before)

    -- What is taken is mentioned inside or held, and declared before the closure.
    pub taken_only : (one : Mention) → Contains (taken world context closure inner) one
        → (Contains (variables (flat_map mentioned inner)) one.variable
        ⊎ ((is_own context.iso ≡ true) × Contains (self_of world context.owner) one.variable))
        × (one.variable < closure)
    taken_only one has =
        let first = self_first_only (self_of world context.owner)
        (firsts (outer closure all_mentions)) one has in
        let out = outer_only closure all_mentions one
        (first_is (outer closure all_mentions) one first) in (
          by (Contains-append_cases (flat_map mentioned inner) (held_self world context closure) one
              out.0),
          out.1,
        ) where
          by : Contains (flat_map mentioned inner) one
              ⊎ Contains (held_self world context closure) one
              → Contains (variables (flat_map mentioned inner)) one.variable
              ⊎ ((is_own context.iso ≡ true)
              × Contains (self_of world context.owner) one.variable)
          by (inl inside) = inl (variable_in (flat_map mentioned inner) one inside)
          by (inr holds) = inr (held_only one holds)
