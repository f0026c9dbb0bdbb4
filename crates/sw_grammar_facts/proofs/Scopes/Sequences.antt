-- Scopes of statements one after another: those after others, and those of `let x: T = e ?? d`.
use Rattle.std.proofs.Common.{◌≡◌, ℕ, ◌+◌, ◌≤◌, ◌<◌, ◌⊎◌, inl, inr, Bool, true, not}
use Rattle.std.proofs.Common.{◌||◌, List, [], ◌∷◌, ◌++◌, map, flat_map, Contains}
use Rattle.std.proofs.Common.{subst, arith}
use Rattle.std.proofs.lemmas.List.Elements.{All-contains, Contains-append_cases, Contains-append_left}
use Rattle.std.proofs.lemmas.List.Elements.{Contains-append_right, filter_passes}
use Rattle.std.specs.List.{filter}
use Rattle.sw_list.proofs.Members.{in_flat_map}
use Rattle.sw_tree.proofs.Members.{in_filter, in_map, of_filter}
use Rattle.sw_tree.specs.Scopes.{Pair, Scoped, Stated, Word, before_word, before_words, declaring}
use Rattle.sw_tree.specs.Scopes.{is_of, is_of_any, sequence}
use Rattle.sw_tree.specs.declared.name.Name.{Name}
use Rattle.sw_grammar_facts.proofs.Scopes.Weights.{IsDeclared, Lies, closures_of, in_closures}
use Rattle.sw_grammar_facts.proofs.Scopes.Weights.{in_declared, in_keys, keys_in, of_closures}
use Rattle.sw_grammar_facts.proofs.Scopes.Weights.{pairs_declaring, weigh, weighs_key, weighs_most}

in_before_word : (name : Name) (word : Word) (pair : Pair) → is_of name word ≡ true
    → name.at ≡ pair.0 → Contains word.closures pair.1 → Contains (before_word name word) pair
in_before_word name word pair is place closure =
    subst (λ (key : ℕ). Contains (before_word name word) (key, pair.1)) place
    (rw is (in_map (λ other. (name.at, other)) word.closures pair.1 closure))

-- Statements after others have what these have, and pairs of a variable that the first declare and
-- a closure that a word of the later ones stands in.
module _ (is_whole : ℕ → Bool) (later : List Stated) where
  abbrev whole : List Stated → Scoped
  whole earlier = sequence (earlier ++ later)

  declared_append : (earlier : List Stated) (k : ℕ) → Contains (whole earlier).declared k
      → Contains (sequence earlier).declared k ⊎ Contains (sequence later).declared k
  declared_append [] k has = inr has
  declared_append (one ∷ earlier) k has =
      let places = map (λ (name : Name). name.at) one.names in
      let rest = sequence earlier in
      elim (Contains-append_cases one.inside.declared (places ++ (whole earlier).declared) k has) [
        | inl inside ↦ inl (Contains-append_left one.inside.declared (places ++ rest.declared) k
            inside)
        | inr after ↦ elim (Contains-append_cases places (whole earlier).declared k after) [
          | inl new ↦ inl (Contains-append_right one.inside.declared (places ++ rest.declared) k
              (Contains-append_left places rest.declared k new))
          | inr old ↦ elim (declared_append earlier k old) [
            | inl here ↦ inl (Contains-append_right one.inside.declared
                (places ++ rest.declared) k (Contains-append_right places rest.declared k here))
            | inr there ↦ inr there
          ]
        ]
      ]

  abbrev kept : List Name → Word → Bool
  kept names word = is_of_any [] word || not (is_of_any names word)

  free_append : (earlier : List Stated) (word : Word) → Contains (whole earlier).free word
      → Contains (sequence earlier).free word ⊎ Contains (sequence later).free word
  free_append [] word has = inr has
  free_append (one ∷ earlier) word has =
      let rest = sequence earlier in
      elim (Contains-append_cases one.inside.free (filter (kept one.names) (whole earlier).free) word
      has) [
        | inl inside ↦ inl (Contains-append_left one.inside.free
            (filter (kept one.names) rest.free) word inside)
        | inr after ↦
            let passes = All-contains (λ (other : Word). kept one.names other ≡ true)
            (filter (kept one.names) (whole earlier).free) word
            (filter_passes (kept one.names) (whole earlier).free) after in
            elim (free_append earlier word
            (of_filter (kept one.names) (whole earlier).free word after)) [
              | inl here ↦ inl (Contains-append_right one.inside.free
                  (filter (kept one.names) rest.free) word
                  (in_filter (kept one.names) rest.free word here passes))
              | inr there ↦ inr there
            ]
      ]

  pub record IsAcross (earlier : List Stated) (pair : Pair) : Type 0 where
    pub variable : Contains (sequence earlier).declared pair.0
    pub word : Word
    pub free : Contains (sequence later).free word
    pub closure : Contains word.closures pair.1

  pairs_append : (earlier : List Stated) (pair : Pair) → Contains (whole earlier).pairs pair
      → Contains (sequence earlier).pairs pair ⊎ Contains (sequence later).pairs pair
      ⊎ IsAcross earlier pair
  pairs_append [] pair has = inr (inl has)
  pairs_append (one ∷ earlier) pair has =
      elim (Contains-append_cases one.inside.pairs
      (declaring one.names [] (whole earlier)).pairs pair has) [
        | inl inside ↦ inl (Contains-append_left one.inside.pairs
            (declaring one.names [] (sequence earlier)).pairs pair inside)
        | inr after ↦ by (pairs_declaring is_whole one.names [] (whole earlier) pair after)
            (pairs_append earlier pair)
      ]
    where
      rest : Scoped
      rest = sequence earlier

      places : List ℕ
      places = map (λ (name : Name). name.at) one.names

      -- a pair of the later statements is one of all
      right : Contains (declaring one.names [] rest).pairs pair
          → Contains (sequence (one ∷ earlier)).pairs pair
      right there = Contains-append_right one.inside.pairs (declaring one.names [] rest).pairs pair there

      by_word : (new : IsDeclared is_whole one.names [] (whole earlier) pair)
          → Contains rest.free new.word ⊎ Contains (sequence later).free new.word
          → Contains (sequence (one ∷ earlier)).pairs pair ⊎ Contains (sequence later).pairs pair
          ⊎ IsAcross (one ∷ earlier) pair
      by_word new (inl here) =
          inl (right (Contains-append_left (flat_map (before_words rest.free) one.names) rest.pairs
          pair (in_flat_map (before_words rest.free) one.names new.name pair new.among
          (in_flat_map (before_word new.name) rest.free new.word pair here
          (in_before_word new.name new.word pair new.named new.place new.closure)))))
      by_word new (inr there) =
          inr (inr (record {
            variable = Contains-append_right one.inside.declared (places ++ rest.declared) pair.0
                (Contains-append_left places rest.declared pair.0
                (subst (Contains places) new.place
                (in_map (λ (name : Name). name.at) one.names new.name new.among)));
            word = new.word;
            free = there;
            closure = new.closure;
          }))

      by : IsDeclared is_whole one.names [] (whole earlier) pair ⊎ Contains (whole earlier).pairs pair
          → (Contains (whole earlier).pairs pair
          → Contains rest.pairs pair ⊎ Contains (sequence later).pairs pair ⊎ IsAcross earlier pair)
          → Contains (sequence (one ∷ earlier)).pairs pair ⊎ Contains (sequence later).pairs pair
          ⊎ IsAcross (one ∷ earlier) pair
      by (inl new) among = by_word new (free_append earlier new.word new.free)
      by (inr old) among = elim (among old) [
        | inl here ↦ inl (right (Contains-append_right
            (flat_map (before_words rest.free) one.names) rest.pairs pair here))
        | inr (inl there) ↦ inr (inl there)
        | inr (inr across) ↦ inr (inr (record {
          variable = Contains-append_right one.inside.declared (places ++ rest.declared) pair.0
              (Contains-append_right places rest.declared pair.0 across.variable);
          word = across.word;
          free = across.free;
          closure = across.closure;
        }))
      ]

  -- Where the later statements stand behind the others, nothing is between them.
  pub weigh_append : (earlier : List Stated) (from middle next to : ℕ)
      → Lies is_whole from middle (sequence earlier) → middle ≤ next
      → Lies is_whole next to (sequence later) → (k : ℕ)
      → weigh is_whole (whole earlier) k
      ≤ weigh is_whole (sequence earlier) k + weigh is_whole (sequence later) k
  weigh_append earlier from middle next to first less second k =
      let most = weighs_most is_whole (whole earlier) k
      (weigh is_whole (sequence earlier) k + weigh is_whole (sequence later) k) 0
      (λ has. by_key (in_keys is_whole (whole earlier) k has)) (λ _. record {
        less = λ pair has. by_pair pair (pairs_append earlier pair has);
        fine = λ word has. elim (free_append earlier word has) [
          | inl here ↦ first.good.fine word here
          | inr there ↦ second.good.fine word there
        ];
      }) in
      omega (arith, most)
    where
      either : Contains (keys_in is_whole (sequence earlier)) k
          ⊎ Contains (keys_in is_whole (sequence later)) k
          → 1 ≤ weigh is_whole (sequence earlier) k + weigh is_whole (sequence later) k
      either (inl here) = omega (arith, weighs_key is_whole (sequence earlier) k here)
      either (inr there) = omega (arith, weighs_key is_whole (sequence later) k there)

      by_key : Contains (whole earlier).declared k
          ⊎ Contains (closures_of is_whole (whole earlier).free) k
          → 1 ≤ weigh is_whole (sequence earlier) k + weigh is_whole (sequence later) k
      by_key (inl declared) = elim (declared_append earlier k declared) [
        | inl here ↦ either (inl (in_declared is_whole (sequence earlier) k here))
        | inr there ↦ either (inr (in_declared is_whole (sequence later) k there))
      ]
      by_key (inr closed) =
          let (word, among, inside) = of_closures is_whole (whole earlier).free k closed in
          elim (free_append earlier word among) [
            | inl here ↦ either (inl (in_closures is_whole (sequence earlier) word k here inside))
            | inr there ↦ either (inr (in_closures is_whole (sequence later) word k there inside))
          ]

      by_pair : (pair : Pair) → Contains (sequence earlier).pairs pair
          ⊎ Contains (sequence later).pairs pair ⊎ IsAcross earlier pair → pair.0 < pair.1
      by_pair pair (inl here) = first.good.less pair here
      by_pair pair (inr (inl there)) = second.good.less pair there
      by_pair pair (inr (inr across)) =
          let early = first.inside pair.0
          (in_declared is_whole (sequence earlier) pair.0 across.variable) in
          let late = second.inside pair.1
          (in_closures is_whole (sequence later) across.word pair.1 across.free across.closure) in
          let a = early.1 in
          let b = late.0 in
          omega arith
