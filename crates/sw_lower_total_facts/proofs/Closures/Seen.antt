-- Which variables are seen in a closure: those around it, and its parameters.
use Rattle.std.proofs.Common.{◌≡◌, ℕ, ◌⊎◌, inl, inr, false, List, [], ◌∷◌, ◌++◌, map}
use Rattle.std.proofs.Common.{flat_map, Contains, refl, ap, subst, Option, Some, None, arith}
use Rattle.std.proofs.lemmas.List.{map-append}
use Rattle.std.proofs.lemmas.List.Elements.{All-contains_itself, Contains-append_cases}
use Rattle.std.proofs.lemmas.List.Elements.{Contains-append_left, Contains-append_right}
use Rattle.std.specs.Prelude.{slice_get}
use Rattle.sw_tree.specs.declared.expr.ClosureParam.{ClosureParam}
use Rattle.sw_tree.specs.declared.name.Name.{Name}
use Rattle.sw_tree.proofs.Members.{in_map}
use Rattle.sw_types.specs.declared.shape.Shape.{Shape}
use Rattle.sw_typing_rules.specs.Statements.{capture_rows, captured, closure_vars, param_var}
use Rattle.sw_typing_rules.specs.Words.{local}
use Rattle.sw_typing_rules.specs.Worlds.{World}
use Rattle.sw_typing_rules.specs.declared.row.Meaning.{Meaning}
use Rattle.sw_typing_rules.specs.declared.scope.Var.{Var}
use Rattle.sw_isolation_rules.specs.Answers.{for_some}
use Rattle.sw_isolation_rules.specs.Captures.{is_among, list_mentions, meant_mentions, self_of}
use Rattle.sw_isolation_rules.specs.Captures.{variables, word_mentions}
use Rattle.sw_isolation_rules.specs.Lists.{vars_in}
use Rattle.sw_isolation_rules.specs.declared.note.Mention.{Mention}
use Rattle.sw_isolation_rules.specs.declared.note.Note.{Note}
use Rattle.sw_lower_plans.specs.Plan.{Numbers}
use Rattle.sw_lower_rules.specs.Tables.{Tables}
use Rattle.sw_typing_facts.specs.Rows.{RowsHold}
use Rattle.sw_typing_facts.proofs.Lists.Found.{local_has}
use Rattle.sw_typing_facts.proofs.Lists.Listed.{in_first, in_rest, only_in}
use Rattle.sw_typing_facts.proofs.Said.Rows.{rows_left, rows_right}
use Rattle.sw_lower_total_facts.specs.Bound.{seen_in}
use Rattle.sw_lower_total_facts.specs.Known.{TablesAgree}
use Rattle.sw_lower_total_facts.proofs.Mentions.Closures.{listed_vars}
use Rattle.sw_lower_total_facts.proofs.Standing.Closures.{param_keys}

-- the declaration of a variable
abbrev at : Var → ℕ
at one = one.at

-- What is in one of two lists, by a function of their elements.
in_either : {X Y : Type 0} (f : X → Y) (one other : List X) (y : Y)
    → Contains (map f (one ++ other)) y → Contains (map f one) y ⊎ Contains (map f other) y
in_either f one other y has =
    Contains-append_cases (map f one) (map f other) y
    (subst (λ list. Contains list y) (map-append f one other) has)

-- The word of a type is no variable's.
pub self_fixed : (tables : Tables) (number : Numbers) (all : List Note)
    → TablesAgree tables number all
    → (owner : Option ℕ) (key : ℕ) → Contains (self_of tables.world owner) key
    → is_among (vars_in all) key ≡ false
self_fixed tables number all known None key (k, below, is) = absurd (omega (arith, below))
self_fixed tables number all known (Some n) key has =
    by (slice_get tables.world.shapes n) refl has where
      by : (found : Option Shape) → slice_get tables.world.shapes n ≡ found
          → Contains (for_some found (λ (shape : Shape). shape.at ∷ [])) key
          → is_among (vars_in all) key ≡ false
      by None is (k, below, same) = absurd (omega (arith, below))
      by (Some shape) is has =
          subst (λ key. is_among (vars_in all) key ≡ false) (only_in shape.at key has)
          (known.selves n shape is)

-- A visible variable that a word means is one of those that are visible.
local_in : (vars : List Var) (word : Name) (one : Var) → local vars word.id ≡ Some one
    → Contains (map at vars) one.at
local_in vars word one is =
    in_map at vars one (local_has (Contains vars) vars word.id one (All-contains_itself vars) is)

-- The words of a closure's list are variables that are seen around it.
captured_at : (vars : List Var) (words : List Name) (key : ℕ)
    → Contains (map at (listed_vars vars words)) key → Contains (map at vars) key
captured_at vars [] key (k, below, is) = absurd (omega (arith, below))
captured_at vars (word ∷ words) key has =
    by (in_either at (captured (local vars word.id)) (listed_vars vars words) key has)
    (captured_at vars words key) where
      found : (one : Option Var) → local vars word.id ≡ one
          → Contains (map at (captured one)) key → Contains (map at vars) key
      found None is (k, below, same) = absurd (omega (arith, below))
      found (Some one) is has =
          subst (Contains (map at vars)) (only_in one.at key has) (local_in vars word one is)

      by : Contains (map at (captured (local vars word.id))) key
          ⊎ Contains (map at (listed_vars vars words)) key
          → (Contains (map at (listed_vars vars words)) key → Contains (map at vars) key)
          → Contains (map at vars) key
      by (inl first) later = found (local vars word.id) refl first
      by (inr rest) later = later rest

-- the keys of the variables that stand for parameters
params_at : (world : World) (params : List ClosureParam)
    → map at (map (param_var world) params) ≡ param_keys params
params_at world [] = refl
params_at world (param ∷ params) = ap (λ more. param.name.at ∷ more) (params_at world params)

-- What is seen in a closure is seen around it, or a parameter.
pub seen_closure : (tables : Tables) (owner : Option ℕ) (vars : List Var) (words : List Name)
    (params : List ClosureParam) (key : ℕ)
    → Contains (seen_in tables owner (closure_vars tables.world vars words params)) key
    → Contains (seen_in tables owner vars) key ⊎ Contains (param_keys params) key
seen_closure tables owner vars words params key has =
    by (Contains-append_cases me (map at (closure_vars tables.world vars words params)) key has)
  where
    me : List ℕ
    me = self_of tables.world owner

    new : List Var
    new = map (param_var tables.world) params ++ listed_vars vars words

    around : Contains (map at vars) key
        → Contains (seen_in tables owner vars) key ⊎ Contains (param_keys params) key
    around has = inl (Contains-append_right me (map at vars) key has)

    later : Contains (map at (map (param_var tables.world) params)) key
        ⊎ Contains (map at (listed_vars vars words)) key
        → Contains (seen_in tables owner vars) key ⊎ Contains (param_keys params) key
    later (inl param) =
        inr (subst (λ list. Contains list key) (params_at tables.world params) param)
    later (inr word) = around (captured_at vars words key word)

    more : Contains (map at vars) key ⊎ Contains (map at new) key
        → Contains (seen_in tables owner vars) key ⊎ Contains (param_keys params) key
    more (inl before) = around before
    more (inr now) =
        later (in_either at (map (param_var tables.world) params) (listed_vars vars words) key now)

    by : Contains me key ⊎ Contains (map at (closure_vars tables.world vars words params)) key
        → Contains (seen_in tables owner vars) key ⊎ Contains (param_keys params) key
    by (inl mine) = inl (Contains-append_left me (map at vars) key mine)
    by (inr var) = more (in_either at vars new key var)

module _ (tables : Tables) (owner : Option ℕ) (vars : List Var) where
  -- A visible variable that one of these words means.
  abbrev pub IsListed : List Name → ℕ → Type 0
  IsListed words key = (word : Name) × Contains words word
      × (one : Var) × (local vars word.id ≡ Some one) × (one.at ≡ key)

  -- A word of a closure's list mentions the variable that it means around it.
  word_listed : (word : Name) (words : List Name) (found : Option Var) → local vars word.id ≡ found
      → RowsHold tables.answers (capture_rows word found) → (key : ℕ)
      → Contains (variables (word_mentions tables.world tables.answers owner word.at)) key
      → IsListed (word ∷ words) key
  unfolding word_mentions
  word_listed word words None is rows key has = absurd rows.0
  word_listed word words (Some one) is rows key has = (
    word,
    in_first word words,
    one,
    is,
    only_in one.at key (subst (λ (meant : Option Meaning). Contains (variables
        (for_some meant (meant_mentions tables.world owner word.at))) key) rows.0 has),
  )

  -- So do all of them.
  pub listed_mean : (words : List Name)
      → RowsHold tables.answers
      (flat_map (λ (word : Name). capture_rows word (local vars word.id)) words)
      → (key : ℕ)
      → Contains (variables (list_mentions tables.world tables.answers owner words)) key
      → IsListed words key
  listed_mean [] rows key (k, below, is) = absurd (omega (arith, below))
  listed_mean (word ∷ words) rows key has =
      by (in_either (λ (one : Mention). one.variable)
      (word_mentions tables.world tables.answers owner word.at)
      (list_mentions tables.world tables.answers owner words) key has)
      (listed_mean words (rows_right tables.answers (capture_rows word (local vars word.id)) _ rows)
      key) where
        by : Contains (variables (word_mentions tables.world tables.answers owner word.at)) key
            ⊎ Contains (variables (list_mentions tables.world tables.answers owner words)) key
            → (Contains (variables (list_mentions tables.world tables.answers owner words)) key
            → IsListed words key)
            → IsListed (word ∷ words) key
        by (inl first) later =
            word_listed word words (local vars word.id) refl
            (rows_left tables.answers (capture_rows word (local vars word.id)) _ rows) key first
        by (inr rest) later =
            let (name, among, one, found, is) = later rest in
            (name, in_rest word words name among, one, found, is)
