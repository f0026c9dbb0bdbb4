-- The scope of the statements of `let x: T = e ?? d`. The words that its rule makes stand in no
-- closure, and no closure of `e` has a word by the name of the whole.
use Rattle.std.proofs.Common.{◌≡◌, ℕ, ◌+◌, ◌≤◌, ◌<◌, ◌⊎◌, inl, inr, Bool, true, false, not}
use Rattle.std.proofs.Common.{◌==◌, ◌||◌, min, Some, List, [], ◌∷◌, ◌++◌, map, Contains}
use Rattle.std.proofs.Common.{sym, ap, subst, ◌∙◌, arith}
use Rattle.std.proofs.lemmas.Bool.Decides.{nat_tests}
use Rattle.std.proofs.lemmas.List.Elements.{All-contains, Contains-append_cases, filter_passes}
use Rattle.std.specs.List.{filter}
use Rattle.sw_list.proofs.Members.{none_in, one_in, first_or_later}
use Rattle.sw_tree.proofs.Counting.{count, hits, hits_same}
use Rattle.sw_tree.proofs.KeyMembers.{counted}
use Rattle.sw_tree.proofs.Members.{of_filter}
use Rattle.sw_tree.specs.Scopes.{Pair, Scoped, Stated, Word, both, declaring, each, free_word}
use Rattle.sw_tree.specs.Scopes.{is_of_any, maybe, nothing, sequence, stated, using}
use Rattle.sw_tree.specs.declared.name.Name.{Name}
use Rattle.sw_sugar.specs.Optionals.{name_at}
use Rattle.sw_grammar_facts.proofs.Scopes.Weights.{Good, IsDeclared, fault, good_of, keys_both}
use Rattle.sw_grammar_facts.proofs.Scopes.Weights.{keys_declaring, keys_in, less_both, pairs_declaring}
use Rattle.sw_grammar_facts.proofs.Scopes.Weights.{weigh, weighs_most}

-- a filter leaves what passes
filtered : (test : Word → Bool) (words : List Word) (word : Word) → Contains (filter test words) word
    → test word ≡ true
filtered test words word has =
    All-contains (λ (other : Word). test other ≡ true) (filter test words) word
    (filter_passes test words) has

abbrev passes : Name → Word → Bool
passes name word = is_of_any [] word || not (is_of_any (name ∷ []) word)

-- what passes has another id
other_id : (name : Name) (word : Word) → passes name word ≡ true → name.id ≡ word.id → ⊥
other_id name word pass same =
    let is : name.id == word.id ≡ true = grind (arith, nat_tests) in
    by (name.id == word.id) is pass where
      by : (b : Bool) → b ≡ true → (false || not (b || false)) ≡ true → ⊥
      by true is pass = absurd (cc)
      by false is pass = absurd (cc)

equal : (a b : ℕ) → a == b ≡ true → a ≡ b
equal a b is = grind (arith, nat_tests)

module _ (is_whole : ℕ → Bool) (whole part op_at after_op after_let last_at colon_at : ℕ) (x : Name)
    (value literal : Scoped) where
  abbrev first_whole : Name
  first_whole = name_at op_at whole

  abbrev assigned_whole : Name
  assigned_whole = name_at after_op whole

  abbrev last_whole : Name
  last_whole = name_at last_at whole

  abbrev pattern : Name
  pattern = name_at colon_at part

  abbrev assigned_part : Name
  assigned_part = name_at after_let part

  abbrev assigned : Scoped
  assigned = sequence (stated (both (using assigned_whole) (using assigned_part)) ∷ [])

  abbrev arm : Scoped
  arm = declaring (pattern ∷ []) [] assigned

  abbrev switched : Scoped
  switched = both (both value (each (arm ∷ []))) (maybe (Some (sequence [])))

  abbrev pub or_stated : List Stated
  or_stated =
      record { names = first_whole ∷ []; inside = literal } ∷ stated switched
      ∷ record { names = x ∷ []; inside = using last_whole } ∷ []

  abbrev last : Scoped
  last = both (using last_whole) (declaring (x ∷ []) [] nothing)

  abbrev after : Scoped
  after = both switched (declaring [] [] last)

  -- a word that a rule makes: of the whole, in no closure
  record IsMade (word : Word) : Type 0 where
    pub id : word.id ≡ whole
    pub closures : word.closures ≡ []

  made_word : (at : ℕ) (word : Word) → free_word (name_at at whole) ≡ word → IsMade word
  made_word at word same = record {
    id = sym (ap (λ (one : Word). one.id) same);
    closures = sym (ap (λ (one : Word). one.closures) same);
  }

  -- the words of the assignment are in no closure
  no_closure : (word : Word) → Contains assigned.free word → word.closures ≡ []
  no_closure word has =
      elim (first_or_later (free_word assigned_whole) (free_word assigned_part ∷ []) word has) [
        | inl here ↦ sym (ap (λ (one : Word). one.closures) here)
        | inr there ↦ sym (ap (λ (one : Word). one.closures)
            (one_in (free_word assigned_part) word there))
      ]

  arm_free : (word : Word) → Contains arm.free word → IsMade word
  arm_free word has =
      let pass = filtered (passes pattern) assigned.free word has in
      elim (first_or_later (free_word assigned_whole) (free_word assigned_part ∷ []) word
      (of_filter (passes pattern) assigned.free word has)) [
        | inl here ↦ made_word after_op word here
        | inr there ↦ absurd (other_id pattern word pass
            (ap (λ (one : Word). one.id) (one_in (free_word assigned_part) word there)))
      ]

  after_free : (word : Word) → Contains after.free word → Contains value.free word ⊎ IsMade word
  after_free word has =
      elim (Contains-append_cases switched.free (declaring [] [] last).free word has) [
        | inl inside ↦ elim (Contains-append_cases (value.free ++ (each (arm ∷ [])).free) [] word
            inside) [
              | inl early ↦ elim (Contains-append_cases value.free (each (arm ∷ [])).free word
                  early) [
                    | inl here ↦ inl here
                    | inr in_arm ↦ elim (Contains-append_cases arm.free [] word in_arm) [
                      | inl is ↦ inr (arm_free word is)
                      | inr never ↦ absurd (none_in word never)
                    ]
                  ]
              | inr never ↦ absurd (none_in word never)
            ]
        | inr later ↦ inr (made_word last_at word
            (one_in (free_word last_whole) word
            (of_filter (λ (one : Word). is_of_any [] one || not (is_of_any [] one)) last.free word
            later)))
      ]

  after_pairs : (pair : Pair) → Contains after.pairs pair → Contains value.pairs pair
  after_pairs pair has =
      elim (Contains-append_cases switched.pairs (declaring [] [] last).pairs pair has) [
        | inl inside ↦ elim (Contains-append_cases (value.pairs ++ (each (arm ∷ [])).pairs) [] pair
            inside) [
              | inl early ↦ elim (Contains-append_cases value.pairs (each (arm ∷ [])).pairs pair
                  early) [
                    | inl here ↦ here
                    | inr in_arm ↦ elim (Contains-append_cases arm.pairs [] pair in_arm) [
                      | inl is ↦ absurd (no_pair (pairs_declaring is_whole (pattern ∷ []) []
                          assigned pair is))
                      | inr never ↦ absurd (none_in pair never)
                    ]
                  ]
              | inr never ↦ absurd (none_in pair never)
            ]
        | inr later ↦ absurd (none_in pair later)
      ]
    where
      no_pair : IsDeclared is_whole (pattern ∷ []) [] assigned pair ⊎ Contains assigned.pairs pair → ⊥
      no_pair (inl new) =
          none_in pair.1 (subst (λ keys. Contains keys pair.1) (no_closure new.word new.free)
          new.closure)
      no_pair (inr old) = none_in pair old

  -- Where the value and the literal are good, the statements are.
  or_good : is_whole whole ≡ true → Good is_whole value → Good is_whole literal
      → Good is_whole (sequence or_stated)
  or_good is of_value of_literal = record {
    less = less_both literal.pairs (declaring (first_whole ∷ []) [] after).pairs of_literal.less
        (λ pair has. by_pair pair (pairs_declaring is_whole (first_whole ∷ []) [] after pair has));
    fine = λ word has. elim (Contains-append_cases literal.free
        (declaring (first_whole ∷ []) [] after).free word has) [
          | inl here ↦ of_literal.fine word here
          | inr there ↦ by_word word (filtered (passes first_whole) after.free word there)
              (after_free word (of_filter (passes first_whole) after.free word there))
        ];
  } where
    by_word : (word : Word) → passes first_whole word ≡ true
        → Contains value.free word ⊎ IsMade word → is_whole word.id ≡ false
    by_word word pass (inl here) = of_value.fine word here
    by_word word pass (inr made) = absurd (other_id first_whole word pass (sym made.id))

    by_pair : (pair : Pair) → IsDeclared is_whole (first_whole ∷ []) [] after pair
        ⊎ Contains after.pairs pair → pair.0 < pair.1
    by_pair pair (inr old) = of_value.less pair (after_pairs pair old)
    by_pair pair (inl new) = elim (after_free new.word new.free) [
      | inl here ↦
          let name_is = one_in first_whole new.name new.among in
          let same : whole ≡ new.word.id
          = ap (λ (name : Name). name.id) name_is ∙ equal new.name.id new.word.id new.named in
          absurd (let clash : true ≡ false
          = sym is ∙ ap is_whole same ∙ of_value.fine new.word here in cc)
      | inr made ↦ absurd (none_in pair.1 (subst (λ keys. Contains keys pair.1) made.closures
          new.closure))
    ]

  or_keys : (k : ℕ) → Contains (keys_in is_whole (sequence or_stated)) k
      → 1 ≤ min 1 (count (keys_in is_whole value) k) + min 1 (count (keys_in is_whole literal) k)
      + (hits op_at k + hits colon_at k + hits x.at k)
  or_keys k has = elim (keys_both is_whole literal (declaring (first_whole ∷ []) [] after) k has) [
    | inl here ↦ omega (arith, counted (keys_in is_whole literal) k here)
    | inr there ↦ elim (keys_declaring is_whole (first_whole ∷ []) [] after k there) [
      | inl new ↦ omega (arith, here op_at (one_in op_at k new))
      | inr old ↦ by_after (keys_both is_whole switched (declaring [] [] last) k old)
    ]
  ] where
    here : (at : ℕ) → at ≡ k → hits at k ≡ 1
    here at same = ap (λ place. hits place k) same ∙ hits_same k

    by_arm : Contains (map (λ (name : Name). name.at) (pattern ∷ [])) k
        ⊎ Contains (keys_in is_whole assigned) k
        → 1 ≤ min 1 (count (keys_in is_whole value) k) + min 1 (count (keys_in is_whole literal) k)
        + (hits op_at k + hits colon_at k + hits x.at k)
    by_arm (inl new) = omega (arith, here colon_at (one_in colon_at k new))
    by_arm (inr never) = absurd (none_in k never)

    by_last : Contains (map (λ (name : Name). name.at) (x ∷ [])) k
        ⊎ Contains (keys_in is_whole nothing) k
        → 1 ≤ min 1 (count (keys_in is_whole value) k) + min 1 (count (keys_in is_whole literal) k)
        + (hits op_at k + hits colon_at k + hits x.at k)
    by_last (inl new) = omega (arith, here x.at (one_in x.at k new))
    by_last (inr never) = absurd (none_in k never)

    by_after : Contains (keys_in is_whole switched) k
        ⊎ Contains (keys_in is_whole (declaring [] [] last)) k
        → 1 ≤ min 1 (count (keys_in is_whole value) k) + min 1 (count (keys_in is_whole literal) k)
        + (hits op_at k + hits colon_at k + hits x.at k)
    by_after (inl inside) =
        elim (keys_both is_whole (both value (each (arm ∷ []))) (maybe (Some (sequence []))) k
        inside) [
          | inl early ↦ elim (keys_both is_whole value (each (arm ∷ [])) k early) [
            | inl is ↦ omega (arith, counted (keys_in is_whole value) k is)
            | inr in_arm ↦ elim (keys_both is_whole arm nothing k in_arm) [
              | inl is ↦ by_arm (keys_declaring is_whole (pattern ∷ []) [] assigned k is)
              | inr never ↦ absurd (none_in k never)
            ]
          ]
          | inr never ↦ absurd (none_in k never)
        ]
    by_after (inr later) = elim (keys_declaring is_whole [] [] last k later) [
      | inl never ↦ absurd (none_in k never)
      | inr in_last ↦ elim (keys_both is_whole (using last_whole)
          (declaring (x ∷ []) [] nothing) k in_last) [
            | inl never ↦ absurd (none_in k never)
            | inr is ↦ by_last (keys_declaring is_whole (x ∷ []) [] nothing k is)
          ]
    ]

  pub weigh_or : is_whole whole ≡ true → (k : ℕ)
      → weigh is_whole (sequence or_stated) k
      ≤ weigh is_whole value k + weigh is_whole literal k
      + (hits op_at k + hits colon_at k + hits x.at k)
  unfolding weigh
  weigh_or is k =
      let most = weighs_most is_whole (sequence or_stated) k
      (min 1 (count (keys_in is_whole value) k) + min 1 (count (keys_in is_whole literal) k)
      + (hits op_at k + hits colon_at k + hits x.at k))
      (fault is_whole value + fault is_whole literal) (or_keys k)
      (λ none. or_good is (good_of is_whole value (omega (arith, none)))
      (good_of is_whole literal (omega (arith, none)))) in
      omega (arith, most)
