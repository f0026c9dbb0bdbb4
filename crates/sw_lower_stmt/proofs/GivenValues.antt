-- What the statements of a block give, one after the other.
use Rattle.std.proofs.Common.{◌≡◌, ◌+◌, ◌<◌, ◌≤◌, ℕ, List, Option, Ok, Err, ap, drop}
use Rattle.std.proofs.Common.{get_or, length, sym, ◌∙◌}
use Rattle.std.proofs.lemmas.List.{at_drop_all}
use Rattle.sw_tree.proofs.FoldEquations as eq
use Rattle.sw_tree.specs.declared.stmt.Block.{Block, out-Block}
use Rattle.sw_tree.specs.declared.stmt.Stmt.{Stmt}
use Rattle.sw_lower_plans.specs.Run.{Making, run_after}
use Rattle.sw_lower_plans.specs.declared.fault.CodeFault.{CodeFault}
use Rattle.sw_lower_rules.specs.Bodies.{GivenValue, give_value}
use Rattle.sw_lower_rules.specs.Statements.{block_code, code_steps, stmt_code}
use Rattle.sw_lower_rules.specs.Tables.{Tables}
use Rattle.sw_lower_stmt.proofs.Loops.{Outcome, each_append, next_item}
use Rattle.sw_lower_stmt.specs.Parts.{gives_of}
use Rattle.sw_lower_uses.specs.Gathering.{each_after}

module _ (tables : Tables) (owner : Option ℕ) where
  -- what a block gives is what its statements give
  pub block_gives : (tree : Block) (trees : List Stmt) → trees ≡ (out-Block tree).stmts
      → (block_code tables owner tree).gives ≡ gives_of tables owner trees
  unfolding block_code stmt_code
  block_gives tree trees is =
      ap (λ code. code.gives) (eq.fold_block-out (code_steps tables owner) tree)
      ∙ ap (λ ys. gives_of tables owner ys) (sym is)

  module _ (xs : List Stmt) (i : ℕ) (values : List GivenValue) (s : Making)
      (whole : Outcome (List GivenValue))
      (left : each_after give_value (gives_of tables owner (drop i xs)) values s ≡ whole) where
    -- what the next statement gives, and those after it
    next_gives : (x : Stmt) → i < length xs → x ≡ get_or xs i x
        → whole ≡ run_after (each_after give_value (stmt_code tables owner x).gives values s)
        (λ more. each_after give_value (gives_of tables owner (drop (i + 1) xs)) more)
    next_gives x lt is = sym left
        ∙ (ap (λ ys. each_after give_value (gives_of tables owner ys) values s)
        (next_item xs i x lt is)
        ∙ each_append give_value (stmt_code tables owner x).gives
        (gives_of tables owner (drop (i + 1) xs)) values s)

    pub gives_next : (x : Stmt) (more : List GivenValue) (t : Making) → i < length xs
        → x ≡ get_or xs i x
        → each_after give_value (stmt_code tables owner x).gives values s ≡ Ok (more, t)
        → each_after give_value (gives_of tables owner (drop (i + 1) xs)) more t ≡ whole
    gives_next x more t lt is one = sym (next_gives x lt is ∙ ap (λ r. run_after r
        (λ ys. each_after give_value (gives_of tables owner (drop (i + 1) xs)) ys)) one)

    pub gives_fail : (x : Stmt) (fault : CodeFault) → i < length xs → x ≡ get_or xs i x
        → each_after give_value (stmt_code tables owner x).gives values s ≡ Err fault
        → whole ≡ Err fault
    gives_fail x fault lt is one = next_gives x lt is ∙ ap (λ r. run_after r
        (λ ys. each_after give_value (gives_of tables owner (drop (i + 1) xs)) ys)) one

    pub gives_end : length xs ≤ i → whole ≡ Ok (values, s)
    gives_end le = sym left ∙ at_drop_all
        (λ ys. each_after give_value (gives_of tables owner ys) values s) xs i le
