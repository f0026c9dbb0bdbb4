-- A closure and a task, by how they are judged.
use Rattle.std.proofs.Common.{ℕ, Bool, true, false, List, [], ◌∷◌, Option, refl, ap, ◌∙◌}
use Rattle.std.proofs.lemmas.List.Elements.{All-head, All-tail}
use Rattle.sw_tree.specs.declared.expr.ClosureParam.{ClosureParam}
use Rattle.sw_tree.specs.declared.expr.Expr.TheVariants as exprs
use Rattle.sw_tree.specs.declared.name.Name.{Name}
use Rattle.sw_tree.specs.declared.stmt.Block.{Block}
use Rattle.sw_tree.specs.declared.type_tree.TypeTree.{TypeTree}
use Rattle.sw_tree.proofs.FoldEquations as eq
use Rattle.sw_typing_rules.specs.Judges as is
use Rattle.sw_typing_rules.specs.Judges.{LeavesBlock, closure_of}
use Rattle.sw_typing_rules.specs.Statements.{Left, closed, closure_state, in_body}
use Rattle.sw_typing_rules.specs.Words.{Setting}
use Rattle.sw_isolation_rules.specs.Noting.{block_notes, closure_iso, task_iso, with_list}
use Rattle.sw_lower_code.specs.Whole.{Body}
use Rattle.sw_lower_rules.specs.Carriers.{ClosureCode}
use Rattle.sw_lower_rules.specs.Expressions.{fun_code, fun_read, fun_result, spawn_code, spawn_read}
use Rattle.sw_lower_rules.specs.Expressions.{spawn_result}
use Rattle.sw_lower_rules.specs.Statements.{block_code, code_steps, expr_code}
use Rattle.sw_typing_facts.specs.Rows.{RowsHold}
use Rattle.sw_lower_formed_facts.specs.Trees.{IsHere}
use Rattle.sw_lower_formed_facts.proofs.Bodies.ClosureRows.{inner_rows, inner_vars, params_rows}
use Rattle.sw_typing_facts.proofs.Lists.Listed.{in_first, in_rest}
use Rattle.sw_typing_facts.proofs.Said.Rows.{rows_left}
use Rattle.sw_lower_total_facts.proofs.Standing.NoteForms as noted
use Rattle.sw_lower_total_facts.proofs.Standing.NoteForms.{fun_inside, task_inside}
use Rattle.sw_lower_placed_facts.specs.Claims.{AreInside}
use Rattle.sw_lower_placed_facts.specs.Hosts.{IsSeenFrom, Program, Host}
use Rattle.sw_lower_placed_facts.proofs.Forms.Claims.{BlockClaim, ExprClaim}
use Rattle.sw_lower_placed_facts.proofs.Forms.ClosureBodies.{closure_ordinary, inner_is_host, inner_host}
use Rattle.sw_lower_placed_facts.proofs.Forms.ClosureNotes.{fun_block_noted, spawn_block_noted}
use Rattle.sw_lower_placed_facts.proofs.Forms.Noted.{noted_by}
use Rattle.sw_lower_placed_facts.proofs.Forms.Shaping.{inside_form, value_by}
use Rattle.sw_lower_placed_facts.proofs.Forms.Typed.{Sound}
use Rattle.sw_lower_placed_facts.proofs.Placing.Joining.{places_weaker}
use Rattle.sw_lower_placed_facts.proofs.Uses.Closures.{ClosureNotes, MadeClosure, fun_iso, fun_noted}
use Rattle.sw_lower_placed_facts.proofs.Uses.Closures.{fun_own, fun_read_placed, spawn_iso, spawn_noted}
use Rattle.sw_lower_placed_facts.proofs.Uses.Closures.{spawn_own, spawn_read_placed}

-- The bodies inside the first of some are the others.
inside_tail : (program : Program) (body : Body) (more : List Body) → AreInside program (body ∷ more)
    → AreInside program more
inside_tail program body more are = record {
  here = All-tail (IsHere program.tables program.numbers program.functions) body more are.here;
  among = λ one has. are.among one (in_rest body more one has);
}

inside_head : (program : Program) (body : Body) (more : List Body) → AreInside program (body ∷ more)
    → IsHere program.tables program.numbers program.functions body
inside_head program body more are =
    All-head (IsHere program.tables program.numbers program.functions) body more are.here

module _ (program : Program) (sound : Sound program) (setting : Setting) (at : ℕ)
    (mark : Option Name) (captures : List Name) (params : List ClosureParam)
    (result : Option TypeTree) (body : Block) (left : Left)
    (of_body : LeavesBlock program.tables.world (in_body setting.owner false)
    (closure_state program.tables.world setting captures params result) body left) where
  -- what is noted of a closure, and its code
  abbrev notes : ClosureNotes
  notes = record {
    at = at;
    mark = mark;
    captures = captures;
    params = params;
    result = result;
    body = block_notes program.tables.world program.tables.answers body;
  }

  abbrev code_in : Host → ClosureCode
  code_in host =
      record { at = at; params = params; body = block_code program.tables host.owner body }

  abbrev closing_rows : Type 0
  closing_rows = RowsHold program.tables.answers
      (closed program.tables.world setting at mark captures params left).rows

  pub fun_claim : (expected : Bool) → BlockClaim program of_body
      → ExprClaim program
      (is.fun setting expected (closure_of at mark captures params result body) _
      (is.closes setting at mark captures params result body left of_body))
  unfolding expr_code block_code block_notes
  fun_claim expected claim host is_host same vars rows inside context listed seen =
      let code = code_in host in
      let form = fun_code program.tables host.owner code in
      let shape = eq.fold_expr-Fun (code_steps program.tables host.owner)
      (closure_of at mark captures params result body)
      ∙ ap (fun_code program.tables host.owner)
      (eq.fold_closure-roll (code_steps program.tables host.owner) at mark captures params result
      body) in
      let now = inside_form program _ form shape inside in
      let one = fun_iso program host sound.settled is_host sound.ground at in
      let own = fun_own program host sound.settled is_host sound.ground at in
      let made = inside_head program _ code.body.inside now in
      let has = now.among _ (in_first _ code.body.inside) in
      let held : closing_rows = rows_left program.tables.answers _ _ rows in
      let within : IsSeenFrom (inner_host host one)
      (fun_inside program.tables.world program.tables.answers context listed at) =
      record {
        iso = ap (closure_iso program.tables.answers at) seen.iso;
        owner = seen.owner;
      } in
      value_by program host context listed setting.vars
      (exprs.Fun (closure_of at mark captures params result body))
      false at form.read form.inside shape
      (λ whole s.
      let said = noted_by program _ _ (noted.notes-Fun program.tables.world program.tables.answers
      context listed at mark captures params result body) whole.noted in
      let known = fun_noted program host sound.settled is_host sound.ground notes at context listed
      refl seen said in
      let block = claim refl (inner_host host one)
      (inner_is_host program host one is_host own) same
      (inner_vars program.tables.answers program.tables.world setting at mark captures params left
      vars held)
      (inner_rows program.tables.answers program.tables.world setting at mark captures params left
      held)
      (inside_tail program _ code.body.inside now)
      (fun_inside program.tables.world program.tables.answers context listed at)
      (with_list program.tables.world program.tables.answers context listed captures) within
      (fun_block_noted program context listed setting.vars at mark captures params result body
      whole) in
      places_weaker s (fun_read program.tables host.owner code)
      (MadeClosure program host sound.settled is_host sound.ground at) _
      (fun_read_placed program host sound.settled is_host sound.ground notes code
      (fun_result program.tables host.owner at) context listed refl seen said has s)
      (λ x t later so. (
        so.0,
        closure_ordinary program host sound.settled is_host sound.ground code
            (fun_result program.tables host.owner at) one false own known has so.1
            (params_rows program.tables.answers program.tables.world setting at mark captures
            params left held) made.made block,
      )))

  pub spawn_claim : (expected : Bool) (place : ℕ) (detached : Bool) → BlockClaim program of_body
      → ExprClaim program
      (is.spawn setting expected place detached
      (closure_of at mark captures params result body) _
      (is.closes setting at mark captures params result body left of_body))
  unfolding expr_code block_code block_notes
  spawn_claim expected place detached claim host is_host same vars rows inside context listed
      seen =
      let code = code_in host in
      let form = spawn_code program.tables host.owner place code in
      let shape = eq.fold_expr-Spawn (code_steps program.tables host.owner) place detached
      (closure_of at mark captures params result body)
      ∙ ap (spawn_code program.tables host.owner place)
      (eq.fold_closure-roll (code_steps program.tables host.owner) at mark captures params result
      body) in
      let now = inside_form program _ form shape inside in
      let one = spawn_iso program host sound.settled is_host sound.ground mark detached in
      let own = spawn_own program host sound.settled is_host sound.ground mark detached in
      let made = inside_head program _ code.body.inside now in
      let has = now.among _ (in_first _ code.body.inside) in
      let held : closing_rows = rows_left program.tables.answers _ _ rows in
      let within : IsSeenFrom (inner_host host one)
      (task_inside program.tables.world program.tables.answers context listed mark detached) =
      record {
        iso = ap (task_iso program.tables.world mark detached) seen.iso;
        owner = seen.owner;
      } in
      value_by program host context listed setting.vars
      (exprs.Spawn place detached (closure_of at mark captures params result body)) false place
      form.read form.inside shape
      (λ whole s.
      let said = noted_by program _ _ (noted.notes-Spawn program.tables.world
      program.tables.answers context listed place detached at mark captures params result body)
      whole.noted in
      let known = spawn_noted program host sound.settled is_host sound.ground place detached notes
      at context listed refl seen said in
      let block = claim refl (inner_host host one)
      (inner_is_host program host one is_host own) same
      (inner_vars program.tables.answers program.tables.world setting at mark captures params left
      vars held)
      (inner_rows program.tables.answers program.tables.world setting at mark captures params left
      held)
      (inside_tail program _ code.body.inside now)
      (task_inside program.tables.world program.tables.answers context listed mark detached)
      (with_list program.tables.world program.tables.answers context listed captures) within
      (spawn_block_noted program context listed setting.vars place detached at mark captures params
      result body whole) in
      places_weaker s (spawn_read program.tables host.owner place code)
      (MadeClosure program host sound.settled is_host sound.ground at) _
      (spawn_read_placed program host sound.settled is_host sound.ground place detached notes code
      context listed refl seen said has s)
      (λ x t later so. (
        so.0,
        closure_ordinary program host sound.settled is_host sound.ground
            (record code { params = [] }) (spawn_result program.tables host.owner place) one true
            own known has so.1 tt made.made block,
      )))
