-- Scopes as weights: the keys that they have, each once, and one more where a key isn't less than
-- another that it has to be less than, or where a free word has an id that none may have.
use Rattle.std.proofs.Common.{◌≡◌, ℕ, zero, suc, ◌+◌, ◌≤◌, ◌<◌, ◌⊎◌, inl, inr, Bool, true, false, not}
use Rattle.std.proofs.Common.{◌&&◌, ◌||◌, nat_lt, min, if◌then◌else◌, List, [], ◌∷◌, ◌++◌, map, flat_map}
use Rattle.std.proofs.Common.{Option, None, Some, option_map, Contains, refl, sym, ap, subst, ◌∙◌, arith}
use Rattle.std.proofs.lemmas.Bool.{and_parts, ltb-true}
use Rattle.std.proofs.lemmas.Bool.Decides.{nat_tests}
use Rattle.std.proofs.lemmas.List.Elements.{Contains-append_cases, Contains-append_left}
use Rattle.std.proofs.lemmas.List.Elements.{Contains-append_right}
use Rattle.std.specs.List.{filter, list_all}
use Rattle.sw_list.proofs.Members.{first_in, first_or_later, in_flat_map, later_in, none_in, of_flat_map}
use Rattle.sw_list.proofs.Members.{one_in}
use Rattle.sw_tree.proofs.Counting.{Weight, count, hits, hits_same, in_all, in_option}
use Rattle.sw_tree.proofs.KeyMembers.{contained, counted}
use Rattle.sw_tree.proofs.Members.{of_filter, of_map}
use Rattle.sw_tree.specs.Keys.{Keys}
use Rattle.sw_tree.specs.Scopes.{Pair, Scoped, Stated, Word, before, before_word, before_words, both}
use Rattle.sw_tree.specs.Scopes.{closing, declaring, each, free_word, is_of, is_of_any, maybe, nothing}
use Rattle.sw_tree.specs.Scopes.{sequence, using, within}
use Rattle.sw_tree.specs.declared.name.Name.{Name}

-- Tests that all items of a list pass.

all_has : {X : Type 0} (p : X → Bool) (xs : List X) (x : X) → list_all p xs ≡ true → Contains xs x
    → p x ≡ true
all_has p [] x all has = absurd (none_in x has)
all_has p (y ∷ xs) x all has =
    let parts = and_parts (p y) (list_all p xs) all in
    elim (first_or_later y xs x has) [
      | inl here ↦ subst (λ one. p one ≡ true) here parts.0
      | inr there ↦ all_has p xs x parts.1 there
    ]

all_of : {X : Type 0} (p : X → Bool) (xs : List X) → ((x : X) → Contains xs x → p x ≡ true)
    → list_all p xs ≡ true
all_of p [] each = refl
all_of p (x ∷ xs) each =
    rw (each x (first_in x xs)) (all_of p xs (λ y has. each y (later_in x xs y has)))

-- Pairs.

abbrev pub is_less : Pair → Bool
is_less pair = nat_lt pair.0 pair.1

abbrev pub Less : List Pair → Type 0
Less pairs = (pair : Pair) → Contains pairs pair → pair.0 < pair.1

abbrev pub one_unless : Bool → ℕ
one_unless b = if b then 0 else 1

-- one where not all are less
unfoldable pub pairs_fault : List Pair → ℕ
pairs_fault pairs = one_unless (list_all is_less pairs)

no_fault : (b : Bool) → one_unless b ≡ 0 → b ≡ true
no_fault true is = refl
no_fault false is = absurd (cc)

fault_most : (b : Bool) (n : ℕ) → (n ≡ 0 → b ≡ true) → one_unless b ≤ n
fault_most true n holds = omega arith
fault_most false zero holds = absurd (let clash = holds refl in cc)
fault_most false (suc n) holds = omega arith

pub pairs_less : (pairs : List Pair) → pairs_fault pairs ≡ 0 → Less pairs
unfolding pairs_fault
pairs_less pairs is pair has =
    ltb-true pair.0 pair.1 (all_has is_less pairs pair (no_fault (list_all is_less pairs) is) has)

pub pairs_most : (pairs : List Pair) (n : ℕ) → (n ≡ 0 → Less pairs) → pairs_fault pairs ≤ n
unfolding pairs_fault
pairs_most pairs n holds = fault_most (list_all is_less pairs) n (λ is.
    all_of is_less pairs (λ pair has. let less = holds is pair has in grind (arith, nat_tests)))

pub less_both : (one other : List Pair) → Less one → Less other → Less (one ++ other)
less_both one other first second pair has =
    elim (Contains-append_cases one other pair has) [
      | inl here ↦ first pair here
      | inr there ↦ second pair there
    ]

pub of_before : (key : ℕ) (others : Keys) (pair : Pair) → Contains (before key others) pair
    → (key ≡ pair.0) × Contains others pair.1
of_before key [] pair has = absurd (none_in pair has)
of_before key (other ∷ others) pair has =
    elim (first_or_later (key, other) (before key others) pair has) [
      | inl here ↦ (
        ap (λ (one : Pair). one.0) here,
        subst (Contains (other ∷ others)) (ap (λ (one : Pair). one.1) here)
            (first_in other others),
      )
      | inr there ↦ let found = of_before key others pair there in
          (found.0, later_in other others pair.1 found.1)
    ]

-- a pair of a variable and a closure that a word of its name stands in
of_before_word : (name : Name) (word : Word) (pair : Pair) → Contains (before_word name word) pair
    → (is_of name word ≡ true) × (name.at ≡ pair.0) × Contains word.closures pair.1
of_before_word name word pair has = by (is_of name word) refl has where
  by : (same : Bool) → is_of name word ≡ same
      → Contains (if same then before name.at word.closures else []) pair
      → (is_of name word ≡ true) × (name.at ≡ pair.0) × Contains word.closures pair.1
  by true is has =
      let found = of_before name.at word.closures pair has in (is, found.0, found.1)
  by false is has = absurd (none_in pair has)

module _ (is_whole : ℕ → Bool) where
  abbrev is_fine : Word → Bool
  is_fine word = not (is_whole word.id)

  abbrev pub closures_of : List Word → Keys
  closures_of words = flat_map (λ (word : Word). word.closures) words

  abbrev pub keys_in : Scoped → Keys
  keys_in scoped = scoped.declared ++ closures_of scoped.free

  abbrev is_good : Scoped → Bool
  is_good scoped = list_all is_less scoped.pairs && list_all is_fine scoped.free

  unfoldable pub fault : Scoped → ℕ
  fault scoped = one_unless (is_good scoped)

  unfoldable pub weigh : Scoped → Weight
  weigh scoped k = min 1 (count (keys_in scoped) k) + fault scoped

  abbrev pub AreFine : List Word → Type 0
  AreFine words = (word : Word) → Contains words word → is_whole word.id ≡ false

  pub record Good (scoped : Scoped) : Type 0 where
    pub less : Less scoped.pairs
    pub fine : AreFine scoped.free

  pub good_of : (scoped : Scoped) → fault scoped ≡ 0 → Good scoped
  unfolding fault
  good_of scoped is =
      let parts = and_parts (list_all is_less scoped.pairs) (list_all is_fine scoped.free)
      (no_fault (is_good scoped) is) in
      record {
        less = λ pair has. ltb-true pair.0 pair.1
            (all_has is_less scoped.pairs pair parts.0 has);
        fine = λ word has. by (is_whole word.id) (all_has is_fine scoped.free word parts.1 has);
      } where
        by : (b : Bool) → not b ≡ true → b ≡ false
        by true is = absurd (cc)
        by false is = refl

  fault_of : (scoped : Scoped) (n : ℕ) → (n ≡ 0 → Good scoped) → fault scoped ≤ n
  unfolding fault
  fault_of scoped n holds = fault_most (is_good scoped) n (λ is.
      let good = holds is in
      rw (all_of is_less scoped.pairs (λ pair has.
      let less = good.less pair has in grind (arith, nat_tests)))
      (all_of is_fine scoped.free (λ word has. rw (good.fine word has) refl)))

  key_most : (keys : Keys) (k n : ℕ) → (Contains keys k → 1 ≤ n) → min 1 (count keys k) ≤ n
  key_most keys k n holds = by (count keys k) refl where
    by : (c : ℕ) → count keys k ≡ c → min 1 c ≤ n
    by zero is = omega arith
    by (suc c) is = let some = holds (contained keys k (omega (arith, is))) in omega arith

  -- A scope weighs no more than a number that covers its keys and one that covers its fault.
  pub weighs_most : (scoped : Scoped) (k n m : ℕ) → (Contains (keys_in scoped) k → 1 ≤ n)
      → (m ≡ 0 → Good scoped) → weigh scoped k ≤ n + m
  unfolding weigh
  weighs_most scoped k n m keyed good =
      omega (arith, key_most (keys_in scoped) k n keyed, fault_of scoped m good)

  -- what a scope weighs where it has a key, and its fault
  pub weighs_key : (scoped : Scoped) (k : ℕ) → Contains (keys_in scoped) k → 1 ≤ weigh scoped k
  unfolding weigh
  weighs_key scoped k has = omega (arith, counted (keys_in scoped) k has)

  pub weighs_good : (scoped : Scoped) (k : ℕ) → weigh scoped k ≡ 0 → Good scoped
  unfolding weigh
  weighs_good scoped k is = good_of scoped (omega (arith, is))

  pub weigh_nothing : (k : ℕ) → weigh nothing k ≤ 0
  weigh_nothing k =
      weighs_most nothing k 0 0 (λ has. absurd (none_in k has)) (λ _. record {
        less = λ pair has. absurd (none_in pair has);
        fine = λ word has. absurd (none_in word has);
      })

  -- a word that may mean a variable
  pub weigh_using : (name : Name) (k : ℕ) → weigh (using name) k ≤ one_unless (not (is_whole name.id))
  weigh_using name k =
      let most = weighs_most (using name) k 0 (one_unless (not (is_whole name.id)))
      (λ has. absurd (none_in k has)) (λ is. record {
        less = λ pair has. absurd (none_in pair has);
        fine = λ word has. subst (λ (one : Word). is_whole one.id ≡ false)
            (one_in (free_word name) word has) (by (is_whole name.id) is);
      }) in omega (arith, most)
    where
      by : (b : Bool) → one_unless (not b) ≡ 0 → b ≡ false
      by true is = absurd (cc)
      by false is = refl

  pub in_keys : (scoped : Scoped) (k : ℕ) → Contains (keys_in scoped) k
      → Contains scoped.declared k ⊎ Contains (closures_of scoped.free) k
  in_keys scoped k has =
      Contains-append_cases scoped.declared (closures_of scoped.free) k has

  pub of_closures : (words : List Word) (k : ℕ) → Contains (closures_of words) k
      → (word : Word) × Contains words word × Contains word.closures k
  of_closures words k has = of_flat_map (λ (word : Word). word.closures) words k has

  pub in_closures : (scoped : Scoped) (word : Word) (k : ℕ) → Contains scoped.free word
      → Contains word.closures k → Contains (keys_in scoped) k
  in_closures scoped word k has inside =
      Contains-append_right scoped.declared (closures_of scoped.free) k
      (in_flat_map (λ (word : Word). word.closures) scoped.free word k has inside)

  pub in_declared : (scoped : Scoped) (k : ℕ) → Contains scoped.declared k → Contains (keys_in scoped) k
  in_declared scoped k has =
      Contains-append_left scoped.declared (closures_of scoped.free) k has

  good_both : (one other : Scoped) → Good one → Good other → Good (both one other)
  good_both one other first second = record {
    less = less_both one.pairs other.pairs first.less second.less;
    fine = λ word has. elim (Contains-append_cases one.free other.free word has) [
      | inl here ↦ first.fine word here
      | inr there ↦ second.fine word there
    ];
  }

  pub keys_both : (one other : Scoped) (k : ℕ) → Contains (keys_in (both one other)) k
      → Contains (keys_in one) k ⊎ Contains (keys_in other) k
  keys_both one other k has = elim (in_keys (both one other) k has) [
    | inl declared ↦ elim (Contains-append_cases one.declared other.declared k declared) [
      | inl here ↦ inl (in_declared one k here)
      | inr there ↦ inr (in_declared other k there)
    ]
    | inr closed ↦ let (word, among, inside) = of_closures (one.free ++ other.free) k closed in
        elim (Contains-append_cases one.free other.free word among) [
          | inl here ↦ inl (in_closures one word k here inside)
          | inr there ↦ inr (in_closures other word k there inside)
        ]
  ]

  pub weigh_both : (one other : Scoped) (k : ℕ)
      → weigh (both one other) k ≤ weigh one k + weigh other k
  unfolding weigh
  weigh_both one other k =
      let first = min 1 (count (keys_in one) k) in
      let second = min 1 (count (keys_in other) k) in
      let most = weighs_most (both one other) k (first + second) (fault one + fault other)
      (λ has. by (keys_both one other k has))
      (λ is. good_both one other (good_of one (omega (arith, is))) (good_of other (omega (arith, is))))
      in omega (arith, most)
    where
      by : Contains (keys_in one) k ⊎ Contains (keys_in other) k
          → 1 ≤ min 1 (count (keys_in one) k) + min 1 (count (keys_in other) k)
      by (inl here) = omega (arith, counted (keys_in one) k here)
      by (inr there) = omega (arith, counted (keys_in other) k there)

  pub weigh_each : {Y : Type 0} (scoped_of : Y → Scoped) (ys : List Y) (k : ℕ)
      → weigh (each (map scoped_of ys)) k ≤ in_all (λ y. weigh (scoped_of y)) ys k
  unfolding in_all
  weigh_each scoped_of [] k = weigh_nothing k
  weigh_each scoped_of (y ∷ ys) k =
      omega (
        arith,
        weigh_both (scoped_of y) (each (map scoped_of ys)) k,
        weigh_each scoped_of ys k,
      )

  pub weigh_maybe : {Y : Type 0} (scoped_of : Y → Scoped) (y : Option Y) (k : ℕ)
      → weigh (maybe (option_map scoped_of y)) k ≤ in_option (λ y. weigh (scoped_of y)) y k
  unfolding in_option
  weigh_maybe scoped_of None k = weigh_nothing k
  weigh_maybe scoped_of (Some y) k = omega arith

  -- keys from one offset to before another, and no fault
  pub record Lies (from to : ℕ) (scoped : Scoped) : Type 0 where
    pub inside : (key : ℕ) → Contains (keys_in scoped) key → (from ≤ key) × (key < to)
    pub good : Good scoped

  abbrev pub names_hit : List Name → Weight
  names_hit names = in_all (λ (name : Name). hits name.at) names

  pub hit_by : (names : List Name) (k : ℕ) → Contains (map (λ (name : Name). name.at) names) k
      → 1 ≤ names_hit names k
  unfolding in_all
  hit_by [] k has = absurd (none_in k has)
  hit_by (name ∷ names) k has =
      by (hit_by names k) (first_or_later name.at (map (λ (name : Name). name.at) names) k has)
    where
      by : (Contains (map (λ (name : Name). name.at) names) k → 1 ≤ names_hit names k)
          → (name.at ≡ k) ⊎ Contains (map (λ (name : Name). name.at) names) k
          → 1 ≤ hits name.at k + names_hit names k
      by later (inl here) =
          let one : hits name.at k ≡ 1 = ap (λ at. hits at k) here ∙ hits_same k in
          omega (arith, one)
      by later (inr there) = omega (arith, later there)

  module _ (names listed : List Name) (inside : Scoped) where
    abbrev kept : Word → Bool
    kept word = is_of_any listed word || not (is_of_any names word)

    pub keys_declaring : (k : ℕ) → Contains (keys_in (declaring names listed inside)) k
        → Contains (map (λ (name : Name). name.at) names) k ⊎ Contains (keys_in inside) k
    keys_declaring k has = elim (in_keys (declaring names listed inside) k has) [
      | inl declared ↦ elim (Contains-append_cases (map (λ (name : Name). name.at) names)
          inside.declared k declared) [
            | inl new ↦ inl new
            | inr old ↦ inr (in_declared inside k old)
          ]
      | inr closed ↦ let (word, among, there) = of_closures (filter kept inside.free) k closed in
          inr (in_closures inside word k (of_filter kept inside.free word among) there)
    ]

    -- a variable, and a closure that a word of its name stands in
    pub record IsDeclared (pair : Pair) : Type 0 where
      pub name : Name
      pub word : Word
      pub among : Contains names name
      pub free : Contains inside.free word
      pub named : is_of name word ≡ true
      pub place : name.at ≡ pair.0
      pub closure : Contains word.closures pair.1

    pub pairs_declaring : (pair : Pair) → Contains (declaring names listed inside).pairs pair
        → IsDeclared pair ⊎ Contains inside.pairs pair
    pairs_declaring pair has = elim (Contains-append_cases
        (flat_map (before_words inside.free) names) inside.pairs pair has) [
          | inl new ↦
              let (name, among, there) = of_flat_map (before_words inside.free) names pair new in
              let (word, free, in_word) = of_flat_map (before_word name) inside.free pair there in
              let found = of_before_word name word pair in_word in
              inl (record {
                name = name;
                word = word;
                among = among;
                free = free;
                named = found.0;
                place = found.1;
                closure = found.2;
              })
          | inr old ↦ inr old
        ]

    -- variables that are declared before all that they are declared for
    pub good_declaring : (from to : ℕ) → ((name : Name) → Contains names name → name.at < from)
        → Lies from to inside → Good (declaring names listed inside)
    good_declaring from to early lies = record {
      less = λ pair has. less pair (pairs_declaring pair has);
      fine = λ word has. lies.good.fine word (of_filter kept inside.free word has);
    } where
      less : (pair : Pair) → IsDeclared pair ⊎ Contains inside.pairs pair → pair.0 < pair.1
      less pair (inl new) =
          let first = early new.name new.among in
          let bounds = lies.inside pair.1 (in_closures inside new.word pair.1 new.free new.closure)
          in
          let low = bounds.0 in
          omega (arith, new.place)
      less pair (inr old) = lies.good.less pair old

    pub weigh_declaring : (from to : ℕ)
        → ((name : Name) → Contains names name → name.at < from)
        → Lies from to inside → (k : ℕ)
        → weigh (declaring names listed inside) k ≤ names_hit names k + weigh inside k
    unfolding weigh
    weigh_declaring from to early lies k =
        let some = min 1 (count (keys_in inside) k) in
        let most = weighs_most (declaring names listed inside) k (names_hit names k + some) 0
        (λ has. by (keys_declaring k has)) (λ _. good_declaring from to early lies) in
        omega (arith, most)
      where
        by : Contains (map (λ (name : Name). name.at) names) k ⊎ Contains (keys_in inside) k
            → 1 ≤ names_hit names k + min 1 (count (keys_in inside) k)
        by (inl new) = omega (arith, hit_by names k new)
        by (inr old) = omega (arith, counted (keys_in inside) k old)

  -- variables that are declared for nothing here
  pub weigh_stated : (one : Stated) (k : ℕ)
      → weigh (sequence (one ∷ [])) k ≤ names_hit one.names k + weigh one.inside k
  weigh_stated one k =
      let most = weighs_most (declaring one.names [] nothing) k (names_hit one.names k) 0
      (λ has. elim (keys_declaring one.names [] nothing k has) [
        | inl new ↦ hit_by one.names k new
        | inr never ↦ absurd (none_in k never)
      ]) (λ _. record {
        less = λ pair has. elim (pairs_declaring one.names [] nothing pair has) [
          | inl new ↦ absurd (none_in new.word new.free)
          | inr never ↦ absurd (none_in pair never)
        ];
        fine = λ word has. absurd (none_in word has);
      }) in
      omega (arith, most, weigh_both one.inside (declaring one.names [] nothing) k)

  -- the pairs of a scope
  pub weighs_pairs : (scoped : Scoped) (k : ℕ) → pairs_fault scoped.pairs ≤ weigh scoped k
  weighs_pairs scoped k =
      pairs_most scoped.pairs (weigh scoped k) (λ is. (weighs_good scoped k is).less)

  -- a closure before all in it, with words in its list that no rule makes
  pub weigh_closing : (at : ℕ) (captures : List Name) (inside : Scoped) (from to : ℕ) → at < from
      → ((name : Name) → Contains captures name → is_whole name.id ≡ false)
      → Lies from to inside → (k : ℕ)
      → weigh (closing at captures inside) k ≤ hits at k + weigh inside k
  unfolding weigh
  weigh_closing at captures inside from to early listed lies k =
      let some = min 1 (count (keys_in inside) k) in
      let most = weighs_most (closing at captures inside) k (hits at k + some) 0
      (λ has. by (in_keys (closing at captures inside) k has)) (λ _. record {
        less = less_both (before at inside.declared) inside.pairs (λ pair has.
            let found = of_before at inside.declared pair has in
            let bounds = lies.inside pair.1 (in_declared inside pair.1 found.1) in
            let low = bounds.0 in
            let same = found.0 in
            omega (arith, same)) lies.good.less;
        fine = λ word has. fine word has;
      }) in
      omega (arith, most)
    where
      words : List Word
      words = map free_word captures ++ inside.free

      of_words : (word : Word) → Contains words word
          → ((name : Name) × Contains captures name × (free_word name ≡ word))
          ⊎ Contains inside.free word
      of_words word has = elim (Contains-append_cases (map free_word captures) inside.free word has) [
        | inl new ↦ inl (of_map free_word captures word new)
        | inr old ↦ inr old
      ]

      fine : (word : Word) → Contains (map (within at) words) word → is_whole word.id ≡ false
      fine word has =
          let (one, among, same) = of_map (within at) words word has in
          subst (λ (other : Word). is_whole other.id ≡ false) same (elim (of_words one among) [
            | inl (name, capture, is) ↦ subst (λ (other : Word). is_whole other.id ≡ false) is
                (listed name capture)
            | inr old ↦ lies.good.fine one old
          ])

      key_of : (one : Word) → Contains words one → (at ≡ k) ⊎ Contains one.closures k
          → 1 ≤ hits at k + min 1 (count (keys_in inside) k)
      key_of one among (inl here) =
          let is : hits at k ≡ 1 = ap (λ place. hits place k) here ∙ hits_same k in
          omega (arith, is)
      key_of one among (inr there) = elim (of_words one among) [
        | inl (name, capture, is) ↦
            absurd (none_in k (subst (λ (other : Word). Contains other.closures k) (sym is) there))
        | inr old ↦ omega (arith, counted (keys_in inside) k (in_closures inside one k old there))
      ]

      by : Contains inside.declared k ⊎ Contains (closures_of (map (within at) words)) k
          → 1 ≤ hits at k + min 1 (count (keys_in inside) k)
      by (inl declared) =
          omega (arith, counted (keys_in inside) k (in_declared inside k declared))
      by (inr closed) =
          let (word, has, there) = of_closures (map (within at) words) k closed in
          let (one, among, same) = of_map (within at) words word has in
          key_of one among (first_or_later at one.closures k
          (subst (λ (other : Word). Contains other.closures k) (sym same) there))
