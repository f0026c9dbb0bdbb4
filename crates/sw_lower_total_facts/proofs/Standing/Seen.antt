-- Where a tree stands in which variables are declared, what they are declared for stands where they
-- are visible too.
use Rattle.std.proofs.Common.{◌≡◌, ℕ, ◌<◌, Bool, true, false, not, ◌⊎◌, inl, inr, List, [], ◌∷◌}
use Rattle.std.proofs.Common.{◌++◌, Option, None, Some, map, flat_map, Contains, refl, ap, sym, subst}
use Rattle.std.proofs.Common.{◌∙◌, append_assoc}
use Rattle.std.specs.Prelude.{All, ◌==◌, ◌||◌, if◌then◌else◌}
use Rattle.std.proofs.lemmas.Bool.{eqb-true}
use Rattle.std.proofs.lemmas.List.{map-append}
use Rattle.std.proofs.lemmas.List.Elements.{All-contains, Contains-append_cases}
use Rattle.std.proofs.lemmas.List.Elements.{Contains-append_left}
use Rattle.std.proofs.lemmas.Option.{same_Some}
use Rattle.sw_list.proofs.Members.{first_in, first_or_later, in_flat_map, none_in, of_flat_map}
use Rattle.sw_list.proofs.Members.{one_in}
use Rattle.sw_tree.specs.Keys.{Keys, expr_keys, stmt_keys}
use Rattle.sw_tree.specs.declared.expr.ClosureParam.{ClosureParam}
use Rattle.sw_tree.specs.declared.name.Name.{Name}
use Rattle.sw_tree.specs.declared.stmt.Stmt.{Stmt}
use Rattle.sw_tree.proofs.FoldEquations as eq
use Rattle.sw_tree.proofs.KeyEquations as keys
use Rattle.sw_typing_rules.specs.Judges as is
use Rattle.sw_typing_rules.specs.Statements.{Left, State, captured, closure_vars, param_var}
use Rattle.sw_typing_rules.specs.Words.{local}
use Rattle.sw_typing_rules.specs.Worlds.{World}
use Rattle.sw_typing_rules.specs.declared.scope.Inside.{Inside}
use Rattle.sw_typing_rules.specs.declared.scope.Var.{Var}
use Rattle.sw_isolation_rules.specs.declared.note.Note.{Note}
use Rattle.sw_lower_total_facts.specs.Noted.{Sight, StandsInText, keys_of}
use Rattle.sw_tree.specs.Scopes.{AreLess, Pair, Scoped, Stated, Word, before}
use Rattle.sw_tree.specs.Scopes.{before_word, before_words, declaring, is_of}
use Rattle.sw_tree.specs.Scopes.{is_of_any, scope_steps}
use Rattle.sw_tree.specs.Scopes as scope
use Rattle.sw_tree.proofs.Members.{in_filter, in_map, of_map}
use Rattle.sw_lower_total_facts.proofs.Mentions.Closures.{enclosing, inner_free, listed_vars, names_of}
use Rattle.sw_lower_total_facts.proofs.Mentions.Closures.{params_named}
use Rattle.sw_lower_total_facts.proofs.Mentions.Declared.{AreNamed, named_by, none_named, stays_free}
use Rattle.sw_lower_total_facts.proofs.Standing.ScopeForms.{stmt_stated}
use Rattle.sw_lower_total_facts.proofs.Standing.Scopes.{all_of_each, all_right, local_more}

-- what is visible
abbrev pub sight : Keys → List Var → Sight
sight me vars = record { me = me; vars = vars }

-- A name that is declared stands before the closures around words of that name.
pub name_before : (names listed : List Name) (inside : Scoped) (word : Word) (name : Name)
    → AreLess (declaring names listed inside).pairs → Contains inside.free word
    → Contains names name → is_of name word ≡ true
    → All (λ key. name.at < key) word.closures
name_before names listed inside word name less has among is =
    all_of_each (λ key. name.at < key) word.closures (λ key there.
    All-contains (λ (pair : Pair). pair.0 < pair.1) (declaring names listed inside).pairs
    (name.at, key) less
    (Contains-append_left (flat_map (before_words inside.free) names) inside.pairs (name.at, key)
    (in_flat_map (before_words inside.free) names name (name.at, key) among
    (in_flat_map (before_word name) inside.free word (name.at, key) has
    (subst (λ test. Contains (if test then before name.at word.closures else []) (name.at, key))
    (sym is) (in_map (λ (other : ℕ). (name.at, other)) word.closures key there))))))

-- and so does the variable of a name
pub var_before : (names listed : List Name) (inside : Scoped) (word : Word) (more : List Var)
    (one : Var) → AreLess (declaring names listed inside).pairs → Contains inside.free word
    → AreNamed more names → Contains more one → one.name == word.id ≡ true
    → All (λ key. one.at < key) word.closures
var_before names listed inside word more one less has named among is =
    let (name, there, id, at) = named_by more names named one among in
    subst (λ at. All (λ key. at < key) word.closures) at
    (name_before names listed inside word name less has there
    (subst (λ id. id == word.id ≡ true) (sym id) is))

-- the keys of variables and of others
pub keys_split : (one other : List Var) (key : ℕ) → Contains (keys_of (one ++ other)) key
    → Contains (keys_of one) key ⊎ Contains (keys_of other) key
keys_split one other key has =
    Contains-append_cases (keys_of one) (keys_of other) key
    (subst (λ list. Contains list key) (map-append (λ (one : Var). one.at) one other) has)

-- The keys of variables are those of their names.
pub named_among : (vars : List Var) (names : List Name) → AreNamed vars names → (key : ℕ)
    → Contains (keys_of vars) key → Contains (map (λ (name : Name). name.at) names) key
named_among vars names named key has =
    let (one, among, is) = of_map (λ (var : Var). var.at) vars key has in
    let (name, there, id, at) = named_by vars names named one among in
    subst (Contains (map (λ (name : Name). name.at) names)) (at ∙ is)
    (in_map (λ (name : Name). name.at) names name there)

-- Where variables are declared for a tree, it stands where they are visible.
pub declared_stands : (all : List Note) (me : Keys) (vars more : List Var) (names : List Name)
    (notes : List Note) (keys : Keys) (inside : Scoped) → AreNamed more names
    → ((key : ℕ) → Contains (keys_of more) key → ¬ Contains keys key)
    → StandsInText all (sight me vars) notes keys (declaring names [] inside)
    → StandsInText all (sight me (vars ++ more)) notes keys inside
declared_stands all me vars more names notes keys inside named others stands = record {
  alone = stands.alone;
  apart = stands.apart;
  less = all_right (λ (pair : Pair). pair.0 < pair.1)
      (flat_map (before_words inside.free) names) inside.pairs stands.less;
  before = λ word has one found. by word has one found (local_more vars more word.id);
  own = stands.own;
  elsewhere = λ key visible. elim (keys_split vars more key visible) [
    | inl old ↦ stands.elsewhere key old
    | inr new ↦ others key new
  ];
} where
  by : (word : Word) → Contains inside.free word → (one : Var)
      → local (vars ++ more) word.id ≡ Some one
      → ((other : Var) × Contains more other × (other.name == word.id ≡ true)
      × (local (vars ++ more) word.id ≡ Some other))
      ⊎ ((local (vars ++ more) word.id ≡ local vars word.id)
      × ((other : Var) → Contains more other → other.name == word.id ≡ false))
      → All (λ key. one.at < key) word.closures
  by word has one found (inl (other, among, name, meant)) =
      subst (λ (var : Var). All (λ key. var.at < key) word.closures)
      (same_Some other one (sym meant ∙ found))
      (var_before names [] inside word more other stands.less has named among name)
  by word has one found (inr (same, none)) =
      stands.before word
      (stays_free names [] inside word has (none_named more names word named none)) one
      (sym same ∙ found)

-- A word means a visible variable of its name.
local_of : (vars : List Var) (id : ℕ) (one : Var) → local vars id ≡ Some one
    → Contains vars one × (one.name == id ≡ true)
local_of vars id one found = by (local_more [] vars id) where
  none : None ≡ Some one → ⊥
  none same = cc

  by : ((other : Var) × Contains vars other × (other.name == id ≡ true)
      × (local vars id ≡ Some other))
      ⊎ ((local vars id ≡ None) × ((other : Var) → Contains vars other → other.name == id ≡ false))
      → Contains vars one × (one.name == id ≡ true)
  by (inl (other, among, name, meant)) =
      subst (λ (var : Var). Contains vars var × (var.name == id ≡ true))
      (same_Some other one (sym meant ∙ found)) (among, name)
  by (inr (nothing, others)) = absurd (none (sym nothing ∙ found))

-- A variable that a closure lists has the name and the key of one around it, which a word of the
-- list means.
of_captured : (found : Option Var) (one : Var) → Contains (captured found) one
    → (other : Var) × (found ≡ Some other) × (other.name ≡ one.name) × (other.at ≡ one.at)
of_captured None one has = absurd (none_in one has)
of_captured (Some other) one has =
    let same = one_in (record other { mutable = false }) one has in
    (other, refl, ap (λ (var : Var). var.name) same, ap (λ (var : Var). var.at) same)

listed_of : (vars : List Var) (captures : List Name) (one : Var)
    → Contains (listed_vars vars captures) one
    → (word : Name) × Contains captures word × (other : Var) × (local vars word.id ≡ Some other)
    × (other.name ≡ one.name) × (other.at ≡ one.at)
listed_of vars captures one has =
    let (word, among, there) = of_flat_map (λ (word : Name). captured (local vars word.id)) captures
    one has in
    let (other, found, name, at) = of_captured (local vars word.id) one there in
    (word, among, other, found, name, at)

-- a word of a name in a list
named_any : (names : List Name) (word : Word) (name : Name) → Contains names name
    → is_of name word ≡ true → is_of_any names word ≡ true
named_any [] word name has is = absurd (none_in name has)
named_any (first ∷ names) word name has is =
    by (is_of first word) refl (first_or_later first names name has)
    (λ there. named_any names word name there is) where
      by : (test : Bool) → is_of first word ≡ test → (first ≡ name) ⊎ Contains names name
          → (Contains names name → is_of_any names word ≡ true)
          → test || is_of_any names word ≡ true
      by true same has later = refl
      by false other (inl here) later =
          absurd (apart (sym other ∙ ap (λ (one : Name). is_of one word) here ∙ is)) where
            apart : false ≡ true → ⊥
            apart same = cc
      by false other (inr there) later = later there

-- A word that a closure lists stays free where its parameters are declared.
listed_stays : (names listed : List Name) (inside : Scoped) (word : Word)
    → Contains inside.free word → is_of_any listed word ≡ true
    → Contains (declaring names listed inside).free word
listed_stays names listed inside word has is =
    in_filter (λ (one : Word). is_of_any listed one || not (is_of_any names one)) inside.free word
    has (ap (λ test. test || not (is_of_any names word)) is)

-- Where a closure stands, its body stands where its parameters and the variables that it lists are
-- visible.
module _ (world : World) (all : List Note) (me : Keys) (vars : List Var) (at : ℕ)
    (captures : List Name) (params : List ClosureParam) (notes : List Note) (keys : Keys)
    (inside : Scoped)
    (stands : StandsInText all (sight me vars) notes keys (enclosing at captures params inside))
  where
    abbrev given : List Var
    given = map (param_var world) params

    abbrev listed : List Var
    listed = listed_vars vars captures

    -- the closure's pairs are those of its inside too
    less : AreLess (declaring (names_of params) captures inside).pairs
    less = all_right (λ (pair : Pair). pair.0 < pair.1)
        (before at (declaring (names_of params) captures inside).declared)
        (declaring (names_of params) captures inside).pairs stands.less

    -- what a word that stays free means around
    outer : (word : Word) → Contains (declaring (names_of params) captures inside).free word
        → (one : Var) → local vars word.id ≡ Some one → All (λ key. one.at < key) word.closures
    outer word has one found =
        all_right (λ key. one.at < key) (at ∷ []) word.closures
        (stands.before (scope.within at word)
        (inner_free at captures (names_of params) inside word has) one found)

    -- a word that the closure lists
    of_list : (word : Word) → Contains inside.free word → (one : Var) → Contains listed one
        → one.name == word.id ≡ true → All (λ key. one.at < key) word.closures
    of_list word has one among is =
        let (name, there, other, found, named, placed) = listed_of vars captures one among in
        let same : other.name ≡ name.id = eqb-true other.name name.id
        (local_of vars name.id other found).1 in
        let of_name : is_of name word ≡ true = subst (λ id. id == word.id ≡ true)
        (sym named ∙ same) is in
        let id : name.id ≡ word.id = eqb-true name.id word.id of_name in
        subst (λ at. All (λ key. at < key) word.closures) placed
        (outer word
        (listed_stays (names_of params) captures inside word has
        (named_any captures word name there of_name)) other
        (subst (λ id. local vars id ≡ Some other) id found))

    -- another: it means a parameter, or what it means around
    of_other : (word : Word) → Contains inside.free word → (one : Var)
        → local (vars ++ given) word.id ≡ Some one
        → ((other : Var) × Contains given other × (other.name == word.id ≡ true)
        × (local (vars ++ given) word.id ≡ Some other))
        ⊎ ((local (vars ++ given) word.id ≡ local vars word.id)
        × ((other : Var) → Contains given other → other.name == word.id ≡ false))
        → All (λ key. one.at < key) word.closures
    of_other word has one found (inl (other, among, name, meant)) =
        subst (λ (var : Var). All (λ key. var.at < key) word.closures)
        (same_Some other one (sym meant ∙ found))
        (var_before (names_of params) captures inside word given other less has
        (params_named world params) among name)
    of_other word has one found (inr (same, none)) =
        outer word
        (stays_free (names_of params) captures inside word has
        (none_named given (names_of params) word (params_named world params) none)) one
        (sym same ∙ found)

    of_word : (word : Word) → Contains inside.free word → (one : Var)
        → local ((vars ++ given) ++ listed) word.id ≡ Some one
        → ((other : Var) × Contains listed other × (other.name == word.id ≡ true)
        × (local ((vars ++ given) ++ listed) word.id ≡ Some other))
        ⊎ ((local ((vars ++ given) ++ listed) word.id ≡ local (vars ++ given) word.id)
        × ((other : Var) → Contains listed other → other.name == word.id ≡ false))
        → All (λ key. one.at < key) word.closures
    of_word word has one found (inl (other, among, name, meant)) =
        subst (λ (var : Var). All (λ key. var.at < key) word.closures)
        (same_Some other one (sym meant ∙ found)) (of_list word has other among name)
    of_word word has one found (inr (same, none)) =
        of_other word has one (sym same ∙ found) (local_more vars given word.id)

    seen : closure_vars world vars captures params ≡ (vars ++ given) ++ listed
    seen = sym (append_assoc vars given listed)

    -- the keys of what is visible inside
    visible : (key : ℕ) → Contains (keys_of (closure_vars world vars captures params)) key
        → Contains (keys_of vars) key ⊎ Contains (keys_of given) key
    visible key has = elim (keys_split vars (given ++ listed) key has) [
      | inl around ↦ inl around
      | inr more ↦ elim (keys_split given listed key more) [
        | inl param ↦ inr param
        | inr word ↦ let (one, among, is) = of_map (λ (var : Var). var.at) listed key word in
            let (name, there, other, found, named, placed) = listed_of vars captures one among in
            inl (subst (Contains (keys_of vars)) (placed ∙ is)
            (in_map (λ (var : Var). var.at) vars other (local_of vars name.id other found).0))
      ]
    ]

    pub closed_stands : ((key : ℕ) → Contains (keys_of given) key → ¬ Contains keys key)
        → StandsInText all (sight me (closure_vars world vars captures params)) notes keys inside
    closed_stands others = record {
      alone = stands.alone;
      apart = stands.apart;
      less = all_right (λ (pair : Pair). pair.0 < pair.1)
          (flat_map (before_words inside.free) (names_of params)) inside.pairs less;
      before = λ word has one found.
          of_word word has one
          (subst (λ vars. local vars word.id ≡ Some one) seen found)
          (local_more (vars ++ given) listed word.id);
      own = stands.own;
      elsewhere = λ key has. elim (visible key has) [
        | inl around ↦ stands.elsewhere key around
        | inr param ↦ others key param
      ];
    }

-- The names that a statement declares for those after it are keys of it.
no_names : (one other : Stated) (name : Name) → one ≡ other → other.names ≡ []
    → Contains one.names name → ⊥
no_names one other name same none has =
    none_in name (subst (λ list. Contains list name)
    (ap (λ (stated : Stated). stated.names) same ∙ none) has)

module _ (world : World) where
  pub stmt_among : (inside : Inside) (state : State) (stmt : Stmt) (left : Left)
      → is.Leaves world inside state stmt left → (name : Name)
      → Contains (stmt_stated stmt).names name → Contains (stmt_keys stmt) name.at
  stmt_among inside state stmt left (is.bind _ _ mutable word ty value judged d) name has =
      subst (λ keys. Contains keys name.at) (sym (keys.stmt_keys-Bind mutable word ty value))
      (subst (λ (one : Name). Contains (word.at ∷ expr_keys value) one.at)
      (one_in word name (subst (λ list. Contains list name)
      (ap (λ (stated : Stated). stated.names)
      (eq.fold_stmt-Bind scope_steps mutable word ty value)) has))
      (first_in word.at (expr_keys value)))
  stmt_among inside state stmt left (is.assign _ _ at op place value placed judged of_place d) name
      has =
      absurd (no_names _ _ name (eq.fold_stmt-Assign scope_steps at op place value) refl has)
  stmt_among inside state stmt left (is.discard _ _ at value judged d) name has =
      absurd (no_names _ _ name (eq.fold_stmt-Discard scope_steps at value) refl has)
  stmt_among inside state stmt left (is.if_of _ _ arms otherwise one last of_arms d) name has =
      absurd (no_names _ _ name (eq.fold_stmt-If scope_steps arms otherwise) refl has)
  stmt_among inside state stmt left (is.while_of _ _ at cond body judged inner of_cond d) name
      has =
      absurd (no_names _ _ name (eq.fold_stmt-While scope_steps at cond body) refl has)
  stmt_among inside state stmt left
      (is.switch _ _ at subject arms otherwise judged armed last of_subject of_arms d) name has =
      absurd (no_names _ _ name (eq.fold_stmt-Switch scope_steps at subject arms otherwise) refl
      has)
  stmt_among inside state stmt left (is.return_nothing _ _ at) name has =
      absurd (no_names _ _ name (eq.fold_stmt-Return scope_steps at None) refl has)
  stmt_among inside state stmt left (is.return_of _ _ at value judged d) name has =
      absurd (no_names _ _ name (eq.fold_stmt-Return scope_steps at (Some value)) refl has)
  stmt_among inside state stmt left (is.break_of _ _ at) name has =
      absurd (no_names _ _ name (eq.fold_stmt-Break scope_steps at) refl has)
  stmt_among inside state stmt left (is.continue_of _ _ at) name has =
      absurd (no_names _ _ name (eq.fold_stmt-Continue scope_steps at) refl has)
  stmt_among inside state stmt left (is.plain _ _ value judged d) name has =
      absurd (no_names _ _ name (eq.fold_stmt-Plain scope_steps value) refl has)
