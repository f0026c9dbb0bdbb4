-- What is known of a closure or a task by where it stands in the text and by what is noted of it.
use Rattle.std.proofs.Common.{◌≡◌, ℕ, ◌<◌, ◌⊎◌, inl, inr, true, false, List, [], ◌++◌}
use Rattle.std.proofs.Common.{map, flat_map, Contains, Some, ap, sym, ◌∙◌, subst, arith}
use Rattle.std.proofs.lemmas.List.Concat.{flat_map-append}
use Rattle.std.proofs.lemmas.List.Elements.{All-contains, All-head, Contains-append_cases}
use Rattle.std.proofs.lemmas.List.Elements.{Contains-append_left, Contains-append_right}
use Rattle.std.specs.Prelude.{All, ◌==◌}
use Rattle.std.specs.List.{filter}
use Rattle.sw_tree.specs.Keys.{Keys}
use Rattle.sw_tree.specs.declared.expr.ClosureParam.{ClosureParam}
use Rattle.sw_tree.specs.declared.name.Name.{Name}
use Rattle.sw_typing_rules.specs.Statements.{capture_rows, closure_vars}
use Rattle.sw_typing_rules.specs.Words.{local}
use Rattle.sw_typing_rules.specs.declared.scope.Var.{Var}
use Rattle.sw_isolation_rules.specs.Captures.{closed, is_among, list_mentions, mentioned, self_of}
use Rattle.sw_isolation_rules.specs.Captures.{variables}
use Rattle.sw_isolation_rules.specs.Kinds.{is_own}
use Rattle.sw_isolation_rules.specs.Lists.{held_in, vars_in}
use Rattle.sw_isolation_rules.specs.declared.note.Captured.{Captured as Held}
use Rattle.sw_isolation_rules.specs.declared.note.Mention.{Mention}
use Rattle.sw_isolation_rules.specs.declared.note.Note.{Note}
use Rattle.sw_isolation_rules.specs.declared.note.Note.TheVariants.{Mentioned}
use Rattle.sw_lower_rules.specs.Tables.{Tables, isolation_in}
use Rattle.sw_typing_facts.specs.Rows.{RowsHold}
use Rattle.sw_typing_facts.proofs.Lists.Found.{local_has}
use Rattle.sw_lower_total_facts.specs.Bound.{sight_in}
use Rattle.sw_lower_total_facts.specs.Noted.{StandsInText, held_of, keys_of, mentions}
use Rattle.sw_tree.specs.Scopes.{Pair, Scoped, Word, declaring, free_word}
use Rattle.sw_tree.specs.Scopes as scope
use Rattle.sw_tree.proofs.Members.{in_map, of_map}
use Rattle.sw_lower_total_facts.proofs.Closures.Captured.{SaysClosed}
use Rattle.sw_lower_total_facts.proofs.Closures.Enclosed.{Enclosure, IsEnclosed, IsTold, block}
use Rattle.sw_lower_total_facts.proofs.Closures.Enclosed.{inside, lists, takes, within}
use Rattle.sw_lower_total_facts.proofs.Closures.Inside.{mentioned_inside}
use Rattle.sw_lower_total_facts.proofs.Closures.Noted.{captures_are, held_closed, held_mentions}
use Rattle.sw_lower_total_facts.proofs.Closures.Noted.{held_of_closed, mentioned_closed}
use Rattle.sw_lower_total_facts.proofs.Closures.Seen.{listed_mean}
use Rattle.sw_lower_total_facts.proofs.Mentions.Closures.{closure_covers, enclosing, listed_free}
use Rattle.sw_lower_total_facts.proofs.Mentions.Closures.{names_of}
use Rattle.sw_lower_total_facts.proofs.Mentions.Seen.{IsSeen, Means, keys_among, seen_more}

module _ (tables : Tables) (closure : Enclosure) where
  -- what is noted of it
  abbrev pub noted_closed : List Note
  noted_closed =
      closed tables.world (within tables closure) closure.at (lists tables closure)
      (inside tables closure)

  -- its scopes, by those of its block
  abbrev pub scoped_with : Scoped → Scoped
  scoped_with scoped = enclosing closure.at closure.words closure.params scoped

  -- Each variable that is mentioned in its block is seen where the block begins, or declared in it.
  abbrev pub IsSeenInside : Scoped → Type 0
  IsSeenInside scoped = (key : ℕ) → Contains (mentions (block tables closure)) key
      → IsSeen tables closure.context.owner
      (closure_vars tables.world closure.vars closure.words closure.params) scoped key

-- Notes that say of closures what others do.
pub record SaysAs (notes other : List Note) : Type 0 where
  pub sees : flat_map mentioned notes ≡ flat_map mentioned other
  pub holds : flat_map held_in notes ≡ flat_map held_in other

-- Where nothing is said of a closure before it, what is noted of it says what it takes.
pub says_closed : (tables : Tables) (closure : Enclosure) (notes : List Note)
    → SaysAs notes (noted_closed tables closure) → SaysClosed tables closure notes
says_closed tables closure notes says = record {
  sees = says.sees
      ∙ mentioned_closed tables.world (within tables closure) closure.at (lists tables closure)
      (inside tables closure);
  holds = says.holds
      ∙ held_closed tables.world (within tables closure) closure.at (lists tables closure)
      (inside tables closure);
}

-- Nothing inside is noted of its key, where nothing in its block is.
none_inside : (tables : Tables) (closure : Enclosure)
    → held_of closure.at (block tables closure) ≡ []
    → held_of closure.at (inside tables closure) ≡ []
none_inside tables closure none =
    ap (filter (λ (one : Held). one.closure == closure.at))
    (flat_map-append held_in (map Mentioned words) (block tables closure)
    ∙ ap (λ first. first ++ flat_map held_in (block tables closure)) (held_mentions words))
    ∙ none where
      words : List Mention
      words = list_mentions tables.world tables.answers closure.context.owner closure.words

module _ (tables : Tables) (all : List Note) (noted : tables.isolation ≡ isolation_in all)
    (closure : Enclosure) (notes : List Note) (says : SaysAs notes (noted_closed tables closure))
    (scoped : Scoped) (keys : Keys) (among : Contains keys closure.at)
    (stands : StandsInText all (sight_in tables closure.context.owner closure.vars) notes keys
    (scoped_with tables closure scoped))
    (declared : (key : ℕ) → Contains (scoped_with tables closure scoped).declared key
    → Contains keys key) where
  -- A closure where it stands, with keys among which are those of what is declared in it: all that
  -- is noted of its key is noted of it, and nothing in its block is; its words are visible
  -- variables, and no parameter is declared by `var`.
  pub is_enclosed : (is_own closure.iso ≡ true → is_own closure.context.iso ≡ true)
      → held_of closure.at (block tables closure) ≡ []
      → RowsHold tables.answers (flat_map (λ (word : Name).
      capture_rows word (local closure.vars word.id)) closure.words)
      → All (λ (param : ClosureParam). is_among (vars_in all) param.name.at ≡ false) closure.params
      → IsSeenInside tables closure scoped → IsEnclosed tables all closure
  is_enclosed isolated none rows fixed seen = record {
    isolated = isolated;
    captures = captures_are tables all notes noted closure.at (lists tables closure)
        (takes tables closure) (stands.alone.held closure.at among)
        (ap (filter (λ (one : Held). one.closure == closure.at)) says.holds
        ∙ held_of_closed tables.world (within tables closure) closure.at (lists tables closure)
        (inside tables closure) (none_inside tables closure none));
    own = λ key me. own key me closure.at among;
    told = λ key has.
        by key (Contains-append_cases words (mentions (block tables closure)) key
        (subst (λ list. Contains list key) (mentioned_inside tables closure) has));
    params_fixed = fixed;
  } where
    me : Keys
    me = self_of tables.world closure.context.owner

    words : Keys
    words = variables (list_mentions tables.world tables.answers closure.context.owner
        closure.words)

    -- the scopes of its block, with its parameters
    inner : Scoped
    inner = declaring (names_of closure.params) closure.words scoped

    -- its own
    whole : Scoped
    whole = scoped_with tables closure scoped

    own : (one : ℕ) → Contains me one → (key : ℕ) → Contains keys key → one < key
    own one has key there =
        All-contains (λ other. one < other) keys key
        (All-contains (λ other. All (λ key. other < key) keys) me one stands.own has) there

    -- A word that is free in a closure stands in it.
    meant_before : (word : Word) → Contains whole.free word → (one : Var)
        → local closure.vars word.id ≡ Some one → one.at < closure.at
    meant_before word has one found =
        let (free, among, same) = of_map (scope.within closure.at)
        (map free_word closure.words ++ inner.free) word has in
        All-head (λ key. one.at < key) closure.at free.closures
        (subst (λ (other : Word). All (λ key. one.at < key) other.closures) (sym same)
        (stands.before word has one found))

    around : (key : ℕ) → Means closure.vars whole.free key → IsTold tables closure key
    around key (word, has, one, found, is) = inl (
      Contains-append_right me (keys_of closure.vars) key
          (subst (Contains (keys_of closure.vars)) is
          (local_has (λ (other : Var). Contains (keys_of closure.vars) other.at) closure.vars
          word.id one (keys_among closure.vars) found)),
      subst (λ other. other < closure.at) is (meant_before word has one found),
    )

    -- A variable that is declared in it is none that is seen around it.
    apart : (key : ℕ) → Contains whole.declared key
        → Contains me key ⊎ Contains (keys_of closure.vars) key → ⊥
    apart key has (inl mine) = omega (arith, own key mine key (declared key has))
    apart key has (inr var) = stands.elsewhere key var (declared key has)

    -- its key before another
    pair : ℕ → Pair
    pair other = (closure.at, other)

    later : (key : ℕ) → Contains whole.declared key → IsTold tables closure key
    later key has = inr (
      All-contains (λ (pair : Pair). pair.0 < pair.1) whole.pairs (closure.at, key) stands.less
          (Contains-append_left (scope.before closure.at inner.declared) inner.pairs
          (closure.at, key) (in_map pair inner.declared key has)),
      λ outer. apart key has (Contains-append_cases me (keys_of closure.vars) key outer),
    )

    place : (key : ℕ) → IsSeen tables closure.context.owner closure.vars whole key
        → IsTold tables closure key
    place key (inl mine) = inl (
      Contains-append_left me (keys_of closure.vars) key mine,
      own key mine closure.at among,
    )
    place key (inr (inl means)) = around key means
    place key (inr (inr new)) = later key new

    by : (key : ℕ) → Contains words key ⊎ Contains (mentions (block tables closure)) key
        → IsTold tables closure key
    by key (inl word) =
        let (name, listed, one, found, is) = listed_mean tables closure.context.owner closure.vars
        closure.words rows key word in
        around key (
          scope.within closure.at (free_word name),
          listed_free closure.at closure.words inner name listed,
          one,
          found,
          is,
        )
    by key (inr mention) =
        place key
        (seen_more tables closure.context.owner
        (closure_vars tables.world closure.vars closure.words closure.params) closure.vars scoped
        whole
        (closure_covers tables closure.vars closure.at closure.words closure.params scoped) key
        (seen key mention))
