-- What is noted of a body by a table that begins with its parameters, and of a closure.
use Rattle.std.proofs.Common.{◌≡◌, ◌++◌, ◌&&◌, ℕ, Bool, List, Option, append_assoc, ap, drop}
use Rattle.std.proofs.Common.{false, if◌then◌else◌, is_some, length, map, None, not, refl, sym, ◌∙◌}
use Rattle.std.proofs.lemmas.List.{drop_at, take_at}
use Rattle.sw_tree.proofs.FoldEquations as eq
use Rattle.sw_tree.specs.declared.decl.ParamTree.{ParamTree}
use Rattle.sw_tree.specs.declared.expr.Closure.{Closure, out-Closure}
use Rattle.sw_tree.specs.declared.name.Name.{Name}
use Rattle.sw_tree.specs.declared.stmt.Block.{Block}
use Rattle.sw_types.specs.declared.ty.Ty.{Ty}
use Rattle.sw_typing_rules.specs.Doubts.{decided}
use Rattle.sw_typing_rules.specs.Expressions.{Closed}
use Rattle.sw_typing_rules.specs.Judging.{leave_block, typing_steps}
use Rattle.sw_typing_rules.specs.Programs.{param_var, said_of_body}
use Rattle.sw_typing_rules.specs.Statements as stmts
use Rattle.sw_typing_rules.specs.Statements.{Left, body_result, decided_rows, in_body, is_result}
use Rattle.sw_typing_rules.specs.Statements.{lacks_result, vars_rows}
use Rattle.sw_typing_rules.specs.Words.{Setting}
use Rattle.sw_typing_rules.specs.Verdicts.{all_well, ill_if}
use Rattle.sw_typing_rules.specs.Worlds.{World}
use Rattle.sw_typing_rules.specs.declared.row.Row.{Row}
use Rattle.sw_typing_rules.specs.declared.scope.Inside.{Inside}
use Rattle.sw_typing_rules.specs.declared.scope.Returned.{Returned}
use Rattle.sw_typing_rules.specs.declared.scope.Returned.TheVariants.{Wants}
use Rattle.sw_typing_steps.specs.Closures.{captures_rows, closed_after, opened, opening}
use Rattle.sw_typing_steps.specs.Steps.{decided_since, enclosed_of, left_since, setting_in}
use Rattle.sw_typing_steps.specs.Steps.{state_of, went_of, with_rows}
use Rattle.sw_typing_steps.specs.declared.known.Enclosed.{Enclosed}
use Rattle.sw_typing_steps.specs.declared.closures.Opened.{Opened}
use Rattle.sw_typing_steps.specs.declared.known.Went.{Went}
use Rattle.sw_typing_steps.specs.declared.table.Table.{Table}
use Rattle.sw_typing.specs.Walked.{block_left, closure_known}

abbrev lacks_by : List Row → Returned → Bool → Bool
lacks_by rows returned ends = all_well rows && (is_result (body_result returned) && not ends)

-- what was noted of a body after what stood there before it
dropped : (before : List Row) (left : Left) (start : ℕ) (mid : Table) → start ≡ length before
    → mid.rows ≡ before ++ left.rows → drop start mid.rows ≡ left.rows
dropped before left start mid s r = ap (drop start) r
    ∙ ap (λ k. drop k (before ++ left.rows)) s ∙ drop_at before left.rows (length before) refl

-- A body lacks a result by what was noted of it, as it does by what its statements leave.
lacks_same : (before : List Row) (left : Left) (went : Went) (start : ℕ) (mid : Table)
    → start ≡ length before → went ≡ went_of left → mid.rows ≡ before ++ left.rows
    → mid.returned ≡ left.state.returned
    → lacks_result (left_since went start mid) ≡ lacks_result left
lacks_same before left went start mid s w r t =
    ap (λ x. lacks_by x mid.returned went.ends) (dropped before left start mid s r)
    ∙ ap (λ x. lacks_by left.rows x went.ends) t
    ∙ ap (λ (x : Went). lacks_by left.rows left.state.returned x.ends) w

pub body_said : (world : World) (at : ℕ) (owner : Option ℕ) (init : Bool) (params : List ParamTree)
    (wanted : Ty) (block : Block) (rows : List Row) (went : Went) (start : ℕ)
    (opened mid now : Table)
    → opened ≡ record {
      vars = map (param_var world) params;
      rows = rows ++ vars_rows (map (param_var world) params);
      returned = Wants wanted;
    } → start ≡ length opened.rows
    → went ≡ went_of (block_left world block (in_body owner init) (state_of opened))
    → mid.rows ≡ opened.rows ++ (block_left world block (in_body owner init) (state_of opened)).rows
    → mid.returned
    ≡ (block_left world block (in_body owner init) (state_of opened)).state.returned
    → now ≡ with_rows mid (ill_if (lacks_result (left_since went start mid)) at 406)
    → now.rows ≡ rows ++ said_of_body world (record {
      at = at;
      owner = owner;
      init = init;
      params = params;
      wanted = wanted;
      block = block;
    })
unfolding leave_block
body_said world at owner init params wanted block rows went start opened mid now e s w r t n =
    let first = vars_rows (map (param_var world) params) in
    let left = block_left world block (in_body owner init)
    (record { vars = map (param_var world) params; returned = Wants wanted }) in
    let same : block_left world block (in_body owner init) (state_of opened) ≡ left =
    ap (λ (o : Table). block_left world block (in_body owner init) (state_of o)) e in
    let rows_are : mid.rows ≡ (rows ++ first) ++ left.rows = r
    ∙ ap (λ (o : Table). o.rows
    ++ (block_left world block (in_body owner init) (state_of opened)).rows) e
    ∙ ap (λ (l : Left). (rows ++ first) ++ l.rows) same in
    let start_is : start ≡ length (rows ++ first) = s ∙ ap (λ (o : Table). length o.rows) e in
    let lacks : lacks_result (left_since went start mid) ≡ lacks_result left =
    lacks_same (rows ++ first) left went start mid start_is (w ∙ ap went_of same) rows_are
    (t ∙ ap (λ (l : Left). l.state.returned) same) in
    ap (λ (o : Table). o.rows) n
    ∙ ap (λ x. x ++ ill_if (lacks_result (left_since went start mid)) at 406) rows_are
    ∙ ap (λ x. ((rows ++ first) ++ left.rows) ++ ill_if x at 406) lacks
    ∙ append_assoc (rows ++ first) left.rows (ill_if (lacks_result left) at 406)
    ∙ append_assoc rows first (left.rows ++ ill_if (lacks_result left) at 406)

-- what is noted of the body of a closure, after what stood there before it
decided_after : (valued : Bool) (before rows : List Row)
    → decided_since (length before) valued (before ++ rows) ≡ before ++ map (decided valued) rows
decided_after valued before rows =
    ap (λ first. first ++ map (decided valued) (drop (length before) (before ++ rows)))
    (take_at before rows (length before) refl)
    ∙ ap (λ rest. before ++ map (decided valued) rest) (drop_at before rows (length before) refl)

closure_said : (at : ℕ) (before : List Row) (left : Left) (went : Went) (start : ℕ) (mid : Table)
    → start ≡ length before → went ≡ went_of left → mid.rows ≡ before ++ left.rows
    → mid.returned ≡ left.state.returned
    → decided_since start (is_result (body_result mid.returned))
    (mid.rows ++ ill_if (lacks_result (left_since went start mid)) at 406)
    ≡ before ++ decided_rows at left
closure_said at before left went start mid s w r t =
    let ill = ill_if (lacks_result left) at 406 in
    let valued = is_result (body_result left.state.returned) in
    ap (λ b. decided_since start (is_result (body_result mid.returned))
    (mid.rows ++ ill_if b at 406))
    (lacks_same before left went start mid s w r t)
    ∙ ap (λ x. decided_since start (is_result (body_result x)) (mid.rows ++ ill)) t
    ∙ ap (λ rows. decided_since start valued (rows ++ ill)) r
    ∙ ap (λ k. decided_since k valued ((before ++ left.rows) ++ ill)) s
    ∙ ap (decided_since (length before) valued) (append_assoc before left.rows ill)
    ∙ decided_after valued before (left.rows ++ ill)

-- what is known of a closure, by how its statements went
abbrev known_by : ℕ → Option Name → Opened → Bool → Bool → Returned → Enclosed
known_by at mark opened fine lacks returned = record {
  at = at;
  params = opened.params;
  marked = is_some mark;
  result = if opened.captured then (if fine && not lacks then body_result returned else None)
      else None;
}

-- a closure whose body was gone through after its words and its parameters
module _ (world : World) (owner : Option ℕ) (tree : Closure) (old begun mid : Table)
    (inside : Inside) (enclosing : Opened) (went : Went) (i : inside ≡ in_body owner false)
    (b : begun ≡ opening world tree old)
    (e : enclosing ≡ opened world tree old)
    (w : went
    ≡ went_of (block_left world (out-Closure tree).body inside (state_of begun)))
    (r : mid.rows ≡ begun.rows
    ++ (block_left world (out-Closure tree).body inside (state_of begun)).rows)
    (t : mid.returned ≡ (block_left world (out-Closure tree).body inside
    (state_of begun)).state.returned) where
  abbrev at : ℕ
  at = (out-Closure tree).at

  -- what its statements leave
  abbrev left : Left
  left = block_left world (out-Closure tree).body (in_body owner false)
      (state_of (opening world tree old))

  -- the rows of its words and of its parameters
  abbrev words : List Row
  words = captures_rows old.vars (out-Closure tree).captures

  abbrev params : List Row
  params = vars_rows (map (stmts.param_var world) (out-Closure tree).params)

  abbrev before : List Row
  before = old.rows ++ (words ++ params)

  same : block_left world (out-Closure tree).body inside (state_of begun) ≡ left
  same = ap (λ (x : Table). block_left world (out-Closure tree).body inside (state_of x)) b
      ∙ ap (λ x. block_left world (out-Closure tree).body x (state_of (opening world tree old))) i

  started : enclosing.start ≡ length before
  started = ap (λ (x : Opened). x.start) e

  gone : went ≡ went_of left
  gone = w ∙ ap went_of same

  rows_are : mid.rows ≡ before ++ left.rows
  rows_are = r ∙ ap (λ (x : Table). x.rows
      ++ (block_left world (out-Closure tree).body inside (state_of begun)).rows) b
      ∙ ap (λ (l : Left). before ++ l.rows) same

  returned_is : mid.returned ≡ left.state.returned
  returned_is = t ∙ ap (λ (l : Left). l.state.returned) same

  pub closure_rows : (now : Table)
      → now.rows ≡ decided_since enclosing.start (is_result (body_result mid.returned))
      (mid.rows ++ ill_if (lacks_result (left_since went enclosing.start mid)) at 406)
      → now.rows ≡ old.rows ++ (closure_known world tree (setting_in owner old)).rows
  unfolding closure_known
  closure_rows now n =
      n
      ∙ closure_said at before left went enclosing.start mid started gone rows_are returned_is
      ∙ append_assoc old.rows (words ++ params) (decided_rows at left)
      ∙ ap (λ rows. old.rows ++ rows) (append_assoc words params (decided_rows at left))
      ∙ ap (λ (c : Closed). old.rows ++ c.rows)
      (sym (ap (λ (f : Setting → Closed). f (setting_in owner old))
      (eq.fold_closure-out (typing_steps world) tree)))

  pub closure_enclosed :
      closed_after at (out-Closure tree).mark enclosing (left_since went enclosing.start mid)
      ≡ enclosed_of (closure_known world tree (setting_in owner old))
  unfolding closure_known
  closure_enclosed =
      let mark = (out-Closure tree).mark in
      let lacks = lacks_result (left_since went enclosing.start mid) in
      ap (λ (x : Opened). known_by at mark x went.fine lacks mid.returned) e
      ∙ ap (λ x. known_by at mark (opened world tree old) went.fine x mid.returned)
      (lacks_same before left went enclosing.start mid started gone rows_are returned_is)
      ∙ ap (λ (x : Went). known_by at mark (opened world tree old) x.fine (lacks_result left)
      mid.returned) gone
      ∙ ap (λ x. known_by at mark (opened world tree old) left.fine (lacks_result left) x)
      returned_is
      ∙ ap enclosed_of (sym (ap (λ (f : Setting → Closed). f (setting_in owner old))
      (eq.fold_closure-out (typing_steps world) tree)))
