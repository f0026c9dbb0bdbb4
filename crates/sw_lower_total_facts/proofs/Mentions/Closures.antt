-- What closures mention is seen around them, or declared in them.
use Rattle.std.proofs.Common.{◌≡◌, ℕ, true, false, inl, inr, ◌⊎◌, List, [], ◌∷◌, ◌++◌, Option}
use Rattle.std.proofs.Common.{Some, None, map, ap, refl, sym, ◌∙◌, subst, flat_map, Contains, arith}
use Rattle.std.proofs.lemmas.List.Elements.{Contains-append_cases, Contains-append_left}
use Rattle.std.proofs.lemmas.List.Elements.{Contains-append_right}
use Rattle.std.proofs.lemmas.Option.{same_Some}
use Rattle.std.specs.List.{AllByRecursion}
use Rattle.std.specs.Prelude.{◌==◌}
use Rattle.sw_tree.specs.declared.expr.ClosureParam.{ClosureParam}
use Rattle.sw_tree.specs.declared.name.Name.{Name}
use Rattle.sw_typing_rules.specs.Statements.{capture_rows, captured, closure_vars, param_var}
use Rattle.sw_typing_rules.specs.Words.{local}
use Rattle.sw_typing_rules.specs.Worlds.{World}
use Rattle.sw_typing_rules.specs.declared.scope.Var.{Var}
use Rattle.sw_isolation_rules.specs.Answers.{Answers}
use Rattle.sw_isolation_rules.specs.Captures.{closed, list_mentions}
use Rattle.sw_isolation_rules.specs.Noting.{Notes, inner_notes, with_list}
use Rattle.sw_isolation_rules.specs.declared.note.Note.TheVariants.{Mentioned}
use Rattle.sw_lower_rules.specs.Tables.{Tables}
use Rattle.sw_typing_facts.specs.Rows.{RowsHold}
use Rattle.sw_typing_facts.proofs.Lists.Listed.{in_first, in_rest, only_in}
use Rattle.sw_typing_facts.proofs.Said.Rows.{rows_left, rows_right}
use Rattle.sw_tree.specs.Scopes.{Scoped, Word, closing, declaring, free_word}
use Rattle.sw_tree.specs.Scopes as scope
use Rattle.sw_tree.proofs.Members.{in_map}
use Rattle.sw_lower_total_facts.proofs.Mentions.Declared.{AreNamed, named_by, none_named}
use Rattle.sw_lower_total_facts.proofs.Mentions.Declared.{of_name, stays_free}
use Rattle.sw_lower_total_facts.proofs.Mentions.Notes.{closed_in, each_more, in_join, in_mentioned}
use Rattle.sw_lower_total_facts.proofs.Mentions.Seen.{Covers, IsSeen, Means, Within, selves_seen}
use Rattle.sw_lower_total_facts.proofs.Mentions.Seen.{within_more}
use Rattle.sw_lower_total_facts.proofs.Mentions.Words.{MeansVisible, capture_local, list_in}
use Rattle.sw_lower_total_facts.proofs.Mentions.Words.{local_visible}
use Rattle.sw_lower_total_facts.proofs.Standing.Scopes.{local_more}

-- the variables of words that a closure lists
abbrev pub listed_vars : List Var → List Name → List Var
listed_vars vars captures = flat_map (λ (word : Name). captured (local vars word.id)) captures

abbrev pub names_of : List ClosureParam → List Name
names_of params = map (λ (param : ClosureParam). param.name) params

-- a closure, by what stands inside
abbrev pub enclosing : ℕ → List Name → List ClosureParam → Scoped → Scoped
enclosing at captures params inside =
    closing at captures (declaring (names_of params) captures inside)

-- Parameters are the variables of their names.
pub params_named : (world : World) (params : List ClosureParam)
    → AreNamed (map (param_var world) params) (names_of params)
params_named world [] = refl
params_named world (param ∷ params) =
    ap (λ more. of_name param.name ∷ more) (params_named world params)

-- A variable that a closure lists is one outside that a word of the list means.
pub listed_local : (vars : List Var) (captures : List Name) (one : Var)
    → Contains (listed_vars vars captures) one
    → (word : Name) × Contains captures word
    × (other : Var) × (local vars word.id ≡ Some other) × (other.at ≡ one.at)
listed_local vars [] one (k, below, is) = absurd (omega (arith, below))
listed_local vars (word ∷ captures) one has =
    by (Contains-append_cases (captured (local vars word.id)) (listed_vars vars captures) one has)
    (listed_local vars captures one) where
      first : (found : Option Var) → local vars word.id ≡ found → Contains (captured found) one
          → (name : Name) × Contains (word ∷ captures) name
          × (other : Var) × (local vars name.id ≡ Some other) × (other.at ≡ one.at)
      first None found (k, below, is) = absurd (omega (arith, below))
      first (Some other) found has = (
        word,
        in_first word captures,
        other,
        found,
        ap (λ (var : Var). var.at) (only_in (record other { mutable = false }) one has),
      )

      by : Contains (captured (local vars word.id)) one ⊎ Contains (listed_vars vars captures) one
          → (Contains (listed_vars vars captures) one
          → (name : Name) × Contains captures name
          × (other : Var) × (local vars name.id ≡ Some other) × (other.at ≡ one.at))
          → (name : Name) × Contains (word ∷ captures) name
          × (other : Var) × (local vars name.id ≡ Some other) × (other.at ≡ one.at)
      by (inl here) later = first (local vars word.id) refl here
      by (inr rest) later =
          let (name, among, other, found, same) = later rest in
          (name, in_rest word captures name among, other, found, same)

-- A word that a closure lists is free in it.
pub listed_free : (at : ℕ) (captures : List Name) (inside : Scoped) (name : Name)
    → Contains captures name
    → Contains (closing at captures inside).free (scope.within at (free_word name))
listed_free at captures inside name has =
    in_map (scope.within at) (map free_word captures ++ inside.free) (free_word name)
    (Contains-append_left (map free_word captures) inside.free (free_word name)
    (in_map free_word captures name has))

-- the words that a closure lists
pub captures_visible : (answers : Answers) (vars : List Var) (at : ℕ) (captures : List Name)
    (inside : Scoped)
    → RowsHold answers
    (flat_map (λ (word : Name). capture_rows word (local vars word.id)) captures)
    → AllByRecursion (λ (name : Name).
    MeansVisible answers vars (closing at captures inside).free name.at) captures
captures_visible answers vars at captures inside rows =
    by captures (listed_free at captures inside) rows where
      by : (some : List Name)
          → ((name : Name) → Contains some name
          → Contains (closing at captures inside).free (scope.within at (free_word name)))
          → RowsHold answers
          (flat_map (λ (word : Name). capture_rows word (local vars word.id)) some)
          → AllByRecursion (λ (name : Name).
          MeansVisible answers vars (closing at captures inside).free name.at) some
      by [] free rows = tt
      by (name ∷ some) free rows = (
        local_visible answers vars (closing at captures inside).free
            (scope.within at (free_word name)) name.at (free name (in_first name some))
            (capture_local answers vars name
            (rows_left answers (capture_rows name (local vars name.id)) _ rows)),
        by some (λ other has. free other (in_rest name some other has))
            (rows_right answers (capture_rows name (local vars name.id)) _ rows),
      )

-- A word that is free inside a closure and of none of its parameters is free in the closure.
pub inner_free : (at : ℕ) (captures : List Name) (names : List Name) (inside : Scoped)
    (word : Word) → Contains (declaring names captures inside).free word
    → Contains (closing at captures (declaring names captures inside)).free (scope.within at word)
inner_free at captures names inside word has =
    in_map (scope.within at) (map free_word captures ++ (declaring names captures inside).free) word
    (Contains-append_right (map free_word captures) (declaring names captures inside).free word has)

module _ (tables : Tables) where
  -- What is seen in a closure is seen around it, or it is a parameter.
  pub closure_covers : (vars : List Var) (at : ℕ) (captures : List Name)
      (params : List ClosureParam) (inside : Scoped)
      → Covers tables (closure_vars tables.world vars captures params) inside vars
      (enclosing at captures params inside)
  closure_covers vars at captures params inside = (
    λ key means. by key means (local_more vars (given ++ listed) means.0.id),
    λ key has. Contains-append_right (map (λ (name : Name). name.at) (names_of params))
        inside.declared key has,
  ) where
    given : List Var
    given = map (param_var tables.world) params

    listed : List Var
    listed = listed_vars vars captures

    whole : Scoped
    whole = enclosing at captures params inside

    new : (key : ℕ) (one : Var) → one.at ≡ key → Contains given one ⊎ Contains listed one
        → Means vars whole.free key ⊎ Contains whole.declared key
    new key one is (inl has) =
        let (name, among, id, at) = named_by given (names_of params)
        (params_named tables.world params) one has in
        inr (Contains-append_left (map (λ (name : Name). name.at) (names_of params)) inside.declared
        key (subst (Contains (map (λ (name : Name). name.at) (names_of params))) (at ∙ is)
        (in_map (λ (name : Name). name.at) (names_of params) name among)))
    new key one is (inr has) =
        let (name, among, other, found, same) = listed_local vars captures one has in
        inl (
          scope.within at (free_word name),
          listed_free at captures (declaring (names_of params) captures inside) name among,
          other,
          found,
          same ∙ is,
        )

    by : (key : ℕ)
        (means : Means (closure_vars tables.world vars captures params) inside.free key)
        → ((one : Var) × Contains (given ++ listed) one × (one.name == means.0.id ≡ true)
        × (local (vars ++ (given ++ listed)) means.0.id ≡ Some one))
        ⊎ ((local (vars ++ (given ++ listed)) means.0.id ≡ local vars means.0.id)
        × ((one : Var) → Contains (given ++ listed) one → one.name == means.0.id ≡ false))
        → Means vars whole.free key ⊎ Contains whole.declared key
    by key (word, has, one, found, is) (inl (other, among, name, meant)) =
        new key other
        (ap (λ (var : Var). var.at) (same_Some other one (sym meant ∙ found)) ∙ is)
        (Contains-append_cases given listed other among)
    by key (word, has, one, found, is) (inr (same, none)) = inl (
      scope.within at word,
      inner_free at captures (names_of params) inside word
          (stays_free (names_of params) captures inside word has
          (none_named given (names_of params) word (params_named tables.world params)
          (λ param among. none param (Contains-append_left given listed param among)))),
      one,
      sym same ∙ found,
      is,
    )

  -- what is noted inside a closure, by its body
  pub inner_within : (vars : List Var) (at : ℕ) (captures : List Name)
      (params : List ClosureParam) (inside : Scoped) (body : Notes)
      → AllByRecursion (λ (name : Name).
      MeansVisible tables.answers vars (enclosing at captures params inside).free name.at)
      captures
      → Within tables (closure_vars tables.world vars captures params) inside body
      → Within tables vars (enclosing at captures params inside)
      (inner_notes tables.world tables.answers captures body)
  inner_within vars at captures params inside body visible within context listed =
      let P = IsSeen tables context.owner vars (enclosing at captures params inside) in
      let words = list_mentions tables.world tables.answers context.owner captures in
      let more = with_list tables.world tables.answers context listed captures in
      in_join P (map Mentioned words) (body context more)
      (in_mentioned P words
      (list_in P tables.world context.owner
      (selves_seen tables context.owner vars (enclosing at captures params inside))
      tables.answers captures
      (each_more (λ (name : Name).
      MeansVisible tables.answers vars (enclosing at captures params inside).free name.at) _
      (λ name is key means. inr (inl (is key means))) captures visible)))
      (within_more tables (closure_vars tables.world vars captures params) vars inside
      (enclosing at captures params inside) body
      (closure_covers vars at captures params inside) within context more)

  -- what is noted of a closure, by its body
  pub closure_within : (vars : List Var) (at : ℕ) (captures : List Name)
      (params : List ClosureParam) (inside : Scoped) (body : Notes)
      → AllByRecursion (λ (name : Name).
      MeansVisible tables.answers vars (enclosing at captures params inside).free name.at)
      captures
      → Within tables (closure_vars tables.world vars captures params) inside body
      → Within tables vars (enclosing at captures params inside)
      (λ context listed.
      closed tables.world context at
      (with_list tables.world tables.answers context listed captures)
      (inner_notes tables.world tables.answers captures body context listed))
  closure_within vars at captures params inside body visible within context listed =
      closed_in (IsSeen tables context.owner vars (enclosing at captures params inside))
      tables.world context at (with_list tables.world tables.answers context listed captures)
      (inner_notes tables.world tables.answers captures body context listed)
      (inner_within vars at captures params inside body visible within context listed)
