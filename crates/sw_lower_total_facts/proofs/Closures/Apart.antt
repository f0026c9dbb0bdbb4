-- The keys of a closure are apart: nothing in its block is noted of its key, nor of its parameters.
use Rattle.std.proofs.Common.{◌≡◌, ℕ, ◌≤◌, Bool, true, false, List, [], ◌∷◌, ◌++◌, map, Contains}
use Rattle.std.proofs.Common.{refl, ◌∙◌, subst, arith}
use Rattle.std.proofs.lemmas.List.Elements.{All-contains_itself, All-weaker, Contains-append_right}
use Rattle.std.specs.Prelude.{All, ◌==◌}
use Rattle.sw_tree.specs.Keys.{Keys}
use Rattle.sw_tree.specs.declared.expr.ClosureParam.{ClosureParam}
use Rattle.sw_tree.proofs.Counting.{count, hits, in_all-append, in_all-cons}
use Rattle.sw_isolation_rules.specs.Captures.{is_among, list_mentions}
use Rattle.sw_isolation_rules.specs.Lists.{vars_in}
use Rattle.sw_isolation_rules.specs.declared.note.Mention.{Mention}
use Rattle.sw_isolation_rules.specs.declared.note.Note.{Note}
use Rattle.sw_isolation_rules.specs.declared.note.Note.TheVariants.{Mentioned}
use Rattle.sw_lower_rules.specs.Tables.{Tables}
use Rattle.sw_typing_facts.proofs.Lists.Listed.{in_first}
use Rattle.sw_lower_total_facts.specs.Noted.{held_of, vars_of}
use Rattle.sw_lower_total_facts.proofs.Closures.Enclosed.{Enclosure, block, inside, lists, within}
use Rattle.sw_lower_total_facts.proofs.Closures.Kept.{among_in, kept_in, same_key}
use Rattle.sw_lower_total_facts.proofs.Closures.Places.{noted_closed}
use Rattle.sw_lower_total_facts.proofs.Standing.Closing.{alike_closed}
use Rattle.sw_lower_total_facts.proofs.Standing.Closures.{head_keys, list_keys, param_keys}
use Rattle.sw_lower_total_facts.proofs.Standing.Covering.{Covers}
use Rattle.sw_tree.proofs.KeyMembers.{counted}
use Rattle.sw_tree.proofs.Members.{in_map}
use Rattle.sw_lower_total_facts.proofs.Standing.Noting.{alike_right, alike_then, bare_lacks}
use Rattle.sw_lower_total_facts.proofs.Standing.Noting.{bare_mentions}

-- A key that stands once and is one of a closure's head isn't in the block.
not_in_block : (head keys : Keys) (key : ℕ) → count (head ++ keys) key ≤ 1 → Contains head key
    → count keys key ≡ 0
not_in_block head keys key once has =
    omega (arith, once, counted head key has, in_all-append hits head keys key)

-- and it isn't the closure's own, where it stands in the head after that
not_own : (at : ℕ) (more keys : Keys) (key : ℕ) → count ((at ∷ more) ++ keys) key ≤ 1
    → Contains more key → hits at key ≡ 0
not_own at more keys key once has =
    omega (
      arith,
      once,
      counted more key has,
      in_all-append hits (at ∷ more) keys key,
      in_all-cons hits at more key,
    )

-- What no `var` is noted of isn't declared by `var`.
pub no_var : (key : ℕ) (all : List Note) → vars_of key all ≡ [] → is_among (vars_in all) key ≡ false
no_var key all none = by (is_among (vars_in all) key) refl where
  by : (among : Bool) → is_among (vars_in all) key ≡ among → among ≡ false
  by true is =
      absurd (nothing_in (subst (λ list. Contains list key) none
      (kept_in (λ one. one == key) (vars_in all) key (among_in (vars_in all) key is)
      (same_key key key refl)))) where
        nothing_in : Contains [] key → ⊥
        nothing_in (k, below, same) = absurd (omega (arith, below))
  by false is = refl

module _ (tables : Tables) (all : List Note) (closure : Enclosure) (keys : Keys)
    (covers : Covers (block tables closure) keys) where
  -- the key of the closure, those of its words and those of its parameters
  abbrev pub head : Keys
  head = head_keys closure.at closure.words closure.params

  -- Each of its keys stands once.
  abbrev pub StandOnce : Type 0
  StandOnce = (key : ℕ) → count (head ++ keys) key ≤ 1

  -- Nothing in its block is noted of its key.
  pub none_in_block : StandOnce → held_of closure.at (block tables closure) ≡ []
  none_in_block once =
      (covers closure.at
      (not_in_block head keys closure.at (once closure.at)
      (in_first closure.at (list_keys closure.words ++ param_keys closure.params)))).held

  -- Nothing is noted of a parameter.
  param_noted : StandOnce → (key : ℕ) → Contains (param_keys closure.params) key
      → vars_of key (noted_closed tables closure) ≡ []
  param_noted once key has =
      (alike_then key (noted_closed tables closure) (inside tables closure) (block tables closure)
      (alike_closed tables.world (within tables closure) closure.at (lists tables closure)
      (inside tables closure) key
      (not_own closure.at (list_keys closure.words ++ param_keys closure.params) keys key (once key)
      later))
      (alike_right key (map Mentioned words) (block tables closure)
      (bare_lacks (map Mentioned words) key (bare_mentions words)))).vars
      ∙ (covers key
      (not_in_block head keys key (once key)
      (Contains-append_right (closure.at ∷ list_keys closure.words) (param_keys closure.params) key
      has))).vars where
        words : List Mention
        words = list_mentions tables.world tables.answers closure.context.owner closure.words

        later : Contains (list_keys closure.words ++ param_keys closure.params) key
        later = Contains-append_right (list_keys closure.words) (param_keys closure.params) key has

  -- So no parameter is declared by `var`.
  pub params_apart : StandOnce
      → ((key : ℕ) → Contains (param_keys closure.params) key
      → vars_of key all ≡ vars_of key (noted_closed tables closure))
      → All (λ (param : ClosureParam). is_among (vars_in all) param.name.at ≡ false) closure.params
  params_apart once alone =
      All-weaker (Contains closure.params)
      (λ (param : ClosureParam). is_among (vars_in all) param.name.at ≡ false)
      (λ param has.
      fixed param.name.at
      (in_map (λ (one : ClosureParam). one.name.at) closure.params param has))
      closure.params (All-contains_itself closure.params) where
        fixed : (key : ℕ) → Contains (param_keys closure.params) key
            → is_among (vars_in all) key ≡ false
        fixed key has = no_var key all (alone key has ∙ param_noted once key has)
