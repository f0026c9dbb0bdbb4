-- What is noted of a tree's own key: nothing among its parts.
use Rattle.std.proofs.Common.{◌≡◌, ℕ, ◌≤◌, Bool, true, false, cond, List, [], ◌∷◌, ◌++◌, map}
use Rattle.std.proofs.Common.{flat_map, Contains, refl, ap, ◌∙◌, arith}
use Rattle.std.specs.Prelude.{◌==◌, ◌||◌}
use Rattle.std.proofs.lemmas.List.Elements.{Contains-append_left}
use Rattle.std.specs.List.{filter}
use Rattle.sw_tree.specs.Keys.{Keys, arg_keys, block_keys, case_arm_keys, expr_keys, joined}
use Rattle.sw_tree.specs.Keys.{pattern_keys}
use Rattle.sw_tree.specs.declared.expr.Arg.{Arg}
use Rattle.sw_tree.specs.declared.expr.Expr.{Expr}
use Rattle.sw_tree.specs.declared.expr.Expr.TheVariants as exprs
use Rattle.sw_tree.specs.declared.name.Name.{Name}
use Rattle.sw_tree.specs.declared.stmt.Block.{Block}
use Rattle.sw_tree.specs.declared.stmt.CaseArm.{CaseArm}
use Rattle.sw_tree.specs.declared.stmt.Pattern.{Pattern}
use Rattle.sw_tree.proofs.Counting.{count, hits, hits_same, in_all-append, in_all-joined}
use Rattle.sw_tree.proofs.KeyCounts as counts
use Rattle.sw_typing_rules.proofs.OneWorld.{distinct_once}
use Rattle.sw_typing_rules.specs.Worlds.{World}
use Rattle.sw_isolation_rules.specs.Answers.{Answers}
use Rattle.sw_isolation_rules.specs.Captures.{is_among}
use Rattle.sw_isolation_rules.specs.Lists.{vars_in}
use Rattle.sw_isolation_rules.specs.Noting.{member_notes, see, word_notes}
use Rattle.sw_isolation_rules.specs.declared.note.Note.{Note}
use Rattle.sw_isolation_rules.specs.declared.uses.Context.{Context}
use Rattle.sw_lower_total_facts.specs.Noted.{Sight, StandsInText, kinds_of}
use Rattle.sw_tree.specs.Scopes.{Scoped, block_scoped, declaring, each}
use Rattle.sw_lower_total_facts.proofs.Standing.Covering.{block_covers, expr_covers}
use Rattle.sw_lower_total_facts.proofs.Standing.Expressions.{args_cover}
use Rattle.sw_tree.proofs.KeyMembers.{contained, counted}
use Rattle.sw_lower_total_facts.proofs.Standing.NoteForms as noted
use Rattle.sw_lower_total_facts.proofs.Standing.NoteForms.{args_notes, case_arms_notes, expr_notes}
use Rattle.sw_lower_total_facts.proofs.Standing.NoteForms.{notes_in}
use Rattle.sw_lower_total_facts.proofs.Standing.Noting.{Lacks, alike_left, alike_right}
use Rattle.sw_lower_total_facts.proofs.Standing.Parts.{part_stands}
use Rattle.sw_lower_total_facts.proofs.Standing.ScopeForms.{case_arm_scoped, patterns_names}
use Rattle.sw_lower_total_facts.proofs.Standing.Statements.{case_arm_of, case_arm_whole}

-- What isn't noted as a `var` is none.
pub none_among : (list : List ℕ) (key : ℕ) → filter (λ one. one == key) list ≡ []
    → is_among list key ≡ false
none_among [] key none = refl
none_among (first ∷ list) key none =
    by (first == key) refl none (λ rest. none_among list key rest) where
      by : (same : Bool) → (first == key) ≡ same
          → cond same (first ∷ filter (λ one. one == key) list) (filter (λ one. one == key) list)
          ≡ []
          → (filter (λ one. one == key) list ≡ [] → is_among list key ≡ false)
          → (same || is_among list key) ≡ false
      by true same none later = cc
      by false same none later = later none

-- A key of a tree that stands, of which nothing is noted, is no `var`'s.
pub no_var : (all : List Note) (sight : Sight) (notes : List Note) (its : Keys) (scoped : Scoped)
    (key : ℕ) → StandsInText all sight notes its scoped → Contains its key → Lacks notes key
    → is_among (vars_in all) key ≡ false
no_var all sight notes its scoped key stands has none =
    none_among (vars_in all) key (stands.alone.vars key has ∙ none.vars)

module _ (world : World) (answers : Answers) (context : Context) (listed : List ℕ)
    (all : List Note) (sight : Sight) (scoped : Scoped) where
  abbrev its_notes : Expr → List Note
  its_notes expr = expr_notes world answers context listed expr

  abbrev StandsSo : Expr → Type 0
  StandsSo expr = StandsInText all sight (its_notes expr) (expr_keys expr) scoped

  once : (expr : Expr) → StandsSo expr → (key : ℕ) → count (expr_keys expr) key ≤ 1
  once expr stands key = distinct_once (expr_keys expr) stands.apart key

  -- The base of a member has nothing of the member's key, and the same is noted of the key as of
  -- the member alone.
  pub member_apart : (base : Expr) (name : Name) → StandsSo (exprs.Member base name)
      → Lacks (its_notes base) name.at
  member_apart base name stands =
      expr_covers world answers base context listed name.at
      (omega (
        arith,
        once (exprs.Member base name) stands name.at,
        counts.in_expr-Member base name name.at,
        hits_same name.at,
      ))

  pub member_kinds : (base : Expr) (name : Name) → StandsSo (exprs.Member base name)
      → kinds_of name.at all
      ≡ kinds_of name.at (member_notes world answers (see world answers base) name.at context)
  member_kinds base name stands =
      stands.alone.kinds name.at (contained _ name.at
      (omega (arith, counts.in_expr-Member base name name.at, hits_same name.at)))
      ∙ ap (kinds_of name.at) (noted.notes-Member world answers context listed base name)
      ∙ (alike_right name.at (its_notes base) _ (member_apart base name stands)).kinds

  -- the kinds of a word
  pub use_kinds : (name : Name) → StandsSo (exprs.Use name)
      → kinds_of name.at all ≡ kinds_of name.at (its_notes (exprs.Use name))
  use_kinds name stands =
      stands.alone.kinds name.at (contained _ name.at
      (omega (arith, counts.in_expr-Use name name.at, hits_same name.at)))

  -- The arguments of a call have nothing of its key.
  pub call_apart : (name : Name) (args : List Arg) → StandsSo (exprs.Call name args)
      → Lacks (args_notes world answers args context listed) name.at
  call_apart name args stands =
      args_cover world answers context listed args name.at
      (omega (
        arith,
        once (exprs.Call name args) stands name.at,
        counts.in_expr-Call name args name.at,
        in_all-joined hits arg_keys args name.at,
        hits_same name.at,
      ))

  pub call_kinds : (name : Name) (args : List Arg) → StandsSo (exprs.Call name args)
      → kinds_of name.at all ≡ kinds_of name.at (word_notes world answers context name.at)
  call_kinds name args stands =
      stands.alone.kinds name.at (contained _ name.at
      (omega (arith, counts.in_expr-Call name args name.at, hits_same name.at)))
      ∙ ap (kinds_of name.at) (noted.notes-Call world answers context listed name args)
      ∙ (alike_left name.at (word_notes world answers context name.at) _
      (call_apart name args stands)).kinds

  -- nor do the base and the arguments of a method
  pub method_base_apart : (base : Expr) (name : Name) (args : List Arg)
      → StandsSo (exprs.Method base name args) → Lacks (its_notes base) name.at
  method_base_apart base name args stands =
      expr_covers world answers base context listed name.at
      (omega (
        arith,
        once (exprs.Method base name args) stands name.at,
        counts.in_expr-Method base name args name.at,
        hits_same name.at,
      ))

  pub method_args_apart : (base : Expr) (name : Name) (args : List Arg)
      → StandsSo (exprs.Method base name args)
      → Lacks (args_notes world answers args context listed) name.at
  method_args_apart base name args stands =
      args_cover world answers context listed args name.at
      (omega (
        arith,
        once (exprs.Method base name args) stands name.at,
        counts.in_expr-Method base name args name.at,
        in_all-joined hits arg_keys args name.at,
        hits_same name.at,
      ))

  pub method_kinds : (base : Expr) (name : Name) (args : List Arg)
      → StandsSo (exprs.Method base name args)
      → kinds_of name.at all
      ≡ kinds_of name.at (member_notes world answers (see world answers base) name.at context)
  method_kinds base name args stands =
      let member = member_notes world answers (see world answers base) name.at context in
      stands.alone.kinds name.at (contained _ name.at
      (omega (arith, counts.in_expr-Method base name args name.at, hits_same name.at)))
      ∙ ap (kinds_of name.at) (noted.notes-Method world answers context listed base name args)
      ∙ (alike_left name.at (its_notes base ++ member) _ (method_args_apart base name args
      stands)).kinds
      ∙ (alike_right name.at (its_notes base) member (method_base_apart base name args
      stands)).kinds

  -- A variable of a pattern is no `var`.
  pub pattern_no_var : (name : Name) (patterns : List Pattern) (body : Block)
      (arms : List CaseArm)
      → StandsInText all sight
      (case_arms_notes world answers (case_arm_of name patterns body ∷ arms) context listed)
      (joined (map case_arm_keys (case_arm_of name patterns body ∷ arms)))
      (each (map case_arm_scoped (case_arm_of name patterns body ∷ arms)))
      → (key : ℕ) → Contains (flat_map pattern_keys patterns) key
      → is_among (vars_in all) key ≡ false
  pattern_no_var name patterns body arms stands key has =
      no_var all sight (notes_in world answers context listed body) whole_keys _ key whole
      (Contains-append_left (flat_map pattern_keys patterns) (block_keys body) key has)
      (block_covers world answers body context listed key
      (omega (
        arith,
        distinct_once whole_keys whole.apart key,
        in_all-append hits (flat_map pattern_keys patterns) (block_keys body) key,
        counted (flat_map pattern_keys patterns) key has,
      ))) where
        whole_keys : Keys
        whole_keys = flat_map pattern_keys patterns ++ block_keys body

        whole : StandsInText all sight (notes_in world answers context listed body) whole_keys
            (declaring (patterns_names patterns) [] (block_scoped body))
        whole = part_stands all sight _ _ _ _ _ _
            (case_arm_whole world answers context listed name patterns body arms) stands
