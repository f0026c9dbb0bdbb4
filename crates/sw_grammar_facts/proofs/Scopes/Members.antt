-- What the members of types weigh, and that their pairs of keys rise.
use Rattle.std.proofs.Common.{◌≡◌, ℕ, ◌+◌, ◌≤◌, inr, List, [], ◌∷◌, ◌++◌, map, flat_map, Option}
use Rattle.std.proofs.Common.{None, Some, option_map, Contains, arith}
use Rattle.sw_list.proofs.Members.{none_in}
use Rattle.sw_tree.proofs.Counting.{Weight, hits, hits_same, in_all, in_all-append, in_all-cons}
use Rattle.sw_tree.proofs.Counting.{in_all-flat_map, in_all-map, in_option}
use Rattle.sw_tree.proofs.KeyCounts as counts
use Rattle.sw_tree.proofs.KeyMembers.{counted}
use Rattle.sw_tree.specs.Folds.{fold_block, fold_expr}
use Rattle.sw_tree.specs.Keys.{Keys, func_keys, init_keys, prop_keys}
use Rattle.sw_tree.specs.Scopes.{Pair, before, block_scoped, body_pairs, decl_pairs, expr_scoped}
use Rattle.sw_tree.specs.Scopes.{func_pairs, init_pairs, maybe, prop_pairs, scope_steps, type_pairs}
use Rattle.sw_tree.specs.declared.decl.Decl.{Decl}
use Rattle.sw_tree.specs.declared.decl.FuncTree.{FuncTree}
use Rattle.sw_tree.specs.declared.decl.InitTree.{InitTree}
use Rattle.sw_tree.specs.declared.decl.ParamTree.{ParamTree}
use Rattle.sw_tree.specs.declared.decl.PropTree.{PropTree}
use Rattle.sw_tree.specs.declared.expr.Expr.{Expr}
use Rattle.sw_tree.specs.declared.name.Name.{Name}
use Rattle.sw_tree.specs.declared.stmt.Block.{Block}
use Rattle.sw_grammar_facts.proofs.Owning.{InTurn, part_of_less}
use Rattle.sw_grammar_facts.proofs.Scopes.Weights.{Less, good_declaring, less_both, of_before}
use Rattle.sw_grammar_facts.proofs.Scopes.Weights.{pairs_fault, pairs_less, pairs_most}
use Rattle.sw_grammar_facts.proofs.Scopes.Weights.{weighs_pairs}
use Rattle.sw_grammar_facts.proofs.Scopes.Ids.{is_whole}
use Rattle.sw_grammar_facts.proofs.Scopes.Parts.{in_all-sum, inside_part, lies_of, names_before}
use Rattle.sw_grammar_facts.proofs.Scopes.Parts.{part_none, tally}
use Rattle.sw_grammar_facts.proofs.Scopes.Nodes.{block, decl, expr_scope, func, init, node, param}
use Rattle.sw_grammar_facts.proofs.Scopes.Nodes.{prop}

-- a list of pairs that are less weighs nothing
pub no_pairs : (pairs : List Pair) → Less pairs → pairs_fault pairs ≤ 0
no_pairs pairs less = pairs_most pairs 0 (λ _. less)

-- the pairs of members whose weight is nothing somewhere
pub members_less : {X : Type 0} (pairs : X → List Pair) (xs : List X) (k : ℕ)
    → in_all (λ x (k : ℕ). pairs_fault (pairs x)) xs k ≡ 0 → Less (flat_map pairs xs)
members_less pairs [] k is = λ pair has. absurd (none_in pair has)
members_less pairs (x ∷ xs) k is =
    let sums = in_all-cons (λ x (k : ℕ). pairs_fault (pairs x)) x xs k in
    less_both (pairs x) (flat_map pairs xs) (pairs_less (pairs x) (omega (arith, is, sums)))
    (members_less pairs xs k (omega (arith, is, sums)))

pub all_less : (decls : List Decl) (k : ℕ) → in_all decl decls k ≡ 0 → Less (flat_map decl_pairs decls)
all_less decls k is =
    members_less decl_pairs decls k
    (omega (arith, is, in_all-sum counts.in_decl (λ x (k : ℕ). pairs_fault (decl_pairs x)) decls k))

-- a type's word before its members
abbrev pub members_weight : List PropTree → List InitTree → List FuncTree → Weight
members_weight props inits funcs k = in_all prop props k + in_all init inits k + in_all func funcs k

module _ (texts : List (List ℕ)) where
  pub value_pairs : (value : Option Expr) (k : ℕ)
      → pairs_fault (maybe (option_map expr_scoped value)).pairs ≤ in_option (expr_scope texts) value k
  unfolding expr_scoped in_option pairs_fault
  value_pairs None k = omega arith
  value_pairs (Some value) k = omega (arith, weighs_pairs (is_whole texts) (fold_expr scope_steps value) k)

  -- the pairs of a body with its parameters
  pub body_less : (params : List ParamTree) (body : Block)
      → InTurn (tally texts) (in_all param params) (block texts body) → Less (body_pairs params body)
  unfolding block_scoped
  body_less params body turn =
      let names = map (λ (one : ParamTree). one.name) params in
      let early = names_before texts names (λ j. omega (
        arith,
        in_all-map (λ (name : Name). hits name.at) (λ (one : ParamTree). one.name) params j,
        in_all-sum counts.in_param (λ (one : ParamTree). hits one.name.at) params j,
      )) turn.before in
      let lies = lies_of texts (fold_block scope_steps body) (λ j. omega arith) turn.after in
      (good_declaring (is_whole texts) names [] (fold_block scope_steps body) turn.next turn.to
      (λ name has. let one = early name has in omega (arith, turn.less)) lies).less

  pub type_less : (word : Name) (props : List PropTree) (inits : List InitTree)
      (funcs : List FuncTree) → InTurn (tally texts) (node texts word) (members_weight props inits funcs)
      → Less (type_pairs word props inits funcs)
  type_less word props inits funcs turn =
      let quiet = part_none texts turn.after turn.to (inr (omega arith)) in
      let props_sum = in_all-sum counts.in_prop (λ x (k : ℕ). pairs_fault (prop_pairs x)) props turn.to
      in
      let inits_sum = in_all-sum counts.in_init (λ x (k : ℕ). pairs_fault (init_pairs x)) inits turn.to
      in
      let funcs_sum = in_all-sum counts.in_func (λ x (k : ℕ). pairs_fault (func_pairs x)) funcs turn.to
      in
      less_both _ (flat_map func_pairs funcs)
      (less_both _ (flat_map init_pairs inits)
      (less_both _ (flat_map prop_pairs props) word_less
      (members_less prop_pairs props turn.to (omega (arith, quiet, props_sum))))
      (members_less init_pairs inits turn.to (omega (arith, quiet, inits_sum))))
      (members_less func_pairs funcs turn.to (omega (arith, quiet, funcs_sum)))
    where
      keys : Keys
      keys = flat_map prop_keys props ++ flat_map init_keys inits ++ flat_map func_keys funcs

      some_key : (key : ℕ) → Contains keys key → 1 ≤ members_weight props inits funcs key
      some_key key has =
          omega (
            arith,
            counted keys key has,
            in_all-append hits (flat_map prop_keys props ++ flat_map init_keys inits)
                (flat_map func_keys funcs) key,
            in_all-append hits (flat_map prop_keys props) (flat_map init_keys inits) key,
            in_all-flat_map hits prop_keys props key,
            in_all-flat_map hits init_keys inits key,
            in_all-flat_map hits func_keys funcs key,
            in_all-sum counts.in_prop (λ x (k : ℕ). pairs_fault (prop_pairs x)) props key,
            in_all-sum counts.in_init (λ x (k : ℕ). pairs_fault (init_pairs x)) inits key,
            in_all-sum counts.in_func (λ x (k : ℕ). pairs_fault (func_pairs x)) funcs key,
          )

      word_less : Less (before word.at keys)
      word_less pair has =
          let found = of_before word.at keys pair has in
          let place_is = found.0 in
          let early = (inside_part texts turn.before word.at (omega (arith, hits_same word.at))).1 in
          let late = (inside_part texts turn.after pair.1 (some_key pair.1 found.1)).0 in
          omega (arith, place_is, turn.less)

  -- less may be paid by the later tokens
  pub lighter : {first second less : Weight} → ((k : ℕ) → less k ≤ second k)
      → InTurn (tally texts) first second → InTurn (tally texts) first less
  lighter less turn = record {
    from = turn.from;
    middle = turn.middle;
    next = turn.next;
    to = turn.to;
    before = turn.before;
    less = turn.less;
    after = part_of_less (tally texts) less turn.after;
  }
