-- What is noted of the block of a closure or of a task.
use Rattle.std.proofs.Common.{ℕ, Bool, true, false, List, [], ◌∷◌, map, not, Option, ap}
use Rattle.std.proofs.lemmas.List.Elements.{Contains-append_left}
use Rattle.std.specs.List.{filter}
use Rattle.sw_tree.specs.declared.expr.ClosureParam.{ClosureParam}
use Rattle.sw_tree.specs.declared.expr.Expr.TheVariants as exprs
use Rattle.sw_tree.specs.declared.name.Name.{Name}
use Rattle.sw_tree.specs.declared.stmt.Block.{Block}
use Rattle.sw_tree.specs.declared.type_tree.TypeTree.{TypeTree}
use Rattle.sw_typing_rules.specs.Judges.{closure_of}
use Rattle.sw_typing_rules.specs.Statements.{closure_vars}
use Rattle.sw_typing_rules.specs.Worlds.{World}
use Rattle.sw_typing_rules.specs.declared.scope.Var.{Var}
use Rattle.sw_isolation_rules.specs.Answers.{Answers}
use Rattle.sw_isolation_rules.specs.Captures.{closed, is_mention, list_mentions}
use Rattle.sw_isolation_rules.specs.Noting.{body_note, closure_iso, task_iso, task_races, with_list}
use Rattle.sw_isolation_rules.specs.declared.note.Note.{Note}
use Rattle.sw_isolation_rules.specs.declared.note.Note.TheVariants.{Mentioned}
use Rattle.sw_isolation_rules.specs.declared.uses.Context.{Context}
use Rattle.sw_lower_total_facts.proofs.Closures.Kept.{kept_in}
use Rattle.sw_lower_total_facts.proofs.Standing.NoteForms as noted
use Rattle.sw_lower_total_facts.proofs.Standing.NoteForms.{closure_inner, closure_noted, fun_inside}
use Rattle.sw_lower_total_facts.proofs.Standing.NoteForms.{notes_in, task_inside}
use Rattle.sw_lower_total_facts.proofs.Standing.Trees as standing
use Rattle.sw_lower_placed_facts.specs.Claims.{AreNoted, BlockNoted, ExprNoted}
use Rattle.sw_lower_placed_facts.specs.Hosts.{Program}
use Rattle.sw_lower_placed_facts.proofs.Forms.Noted.{noted_by}
use Rattle.sw_lower_placed_facts.proofs.Uses.Noted.{noted_right}

module _ (program : Program) (context : Context) (listed : List ℕ) (vars : List Var) where
  abbrev world : World
  world = program.tables.world

  abbrev answers : Answers
  answers = program.tables.answers

  -- What is noted inside a closure stands, but for the mentions.
  closed_noted : (inside : Context) (at : ℕ) (list : List ℕ) (inner : List Note)
      → AreNoted program (closed world inside at list inner) → AreNoted program inner
  closed_noted inside at list inner noted note has plain =
      noted note
      (Contains-append_left _ _ note
      (Contains-append_left (filter (λ one. not (is_mention one)) inner) _ note
      (kept_in (λ one. not (is_mention one)) inner note has (ap not plain)))) plain

  -- and so what is noted of its block
  block_noted : (inside : Context) (at : ℕ) (captures : List Name) (body : Block)
      → AreNoted program (closure_noted world answers context listed inside at captures body)
      → AreNoted program
      (notes_in world answers inside (with_list world answers inside listed captures) body)
  block_noted inside at captures body noted =
      noted_right program (map Mentioned (list_mentions world answers inside.owner captures)) _
      (closed_noted inside at (with_list world answers inside listed captures)
      (closure_inner world answers context listed inside captures body) noted)

  -- the block of a closure
  pub fun_block_noted : (at : ℕ) (mark : Option Name) (captures : List Name)
      (params : List ClosureParam) (result : Option TypeTree) (body : Block)
      → ExprNoted program context listed vars
      (exprs.Fun (closure_of at mark captures params result body))
      → BlockNoted program (fun_inside world answers context listed at)
      (with_list world answers context listed captures) (closure_vars world vars captures params)
      body
  fun_block_noted at mark captures params result body whole = record {
    stands = standing.fun_body_stands program.tables program.notes context listed vars at mark
        captures params result body whole.stands;
    noted = block_noted (fun_inside world answers context listed at) at captures body
        (noted_right program
        (body_note at (closure_iso answers at context.iso) false ∷ []) _
        (noted_by program _ _
        (noted.notes-Fun world answers context listed at mark captures params result body)
        whole.noted));
  }

  -- and of a task
  pub spawn_block_noted : (place : ℕ) (detached : Bool) (at : ℕ) (mark : Option Name)
      (captures : List Name) (params : List ClosureParam) (result : Option TypeTree) (body : Block)
      → ExprNoted program context listed vars
      (exprs.Spawn place detached (closure_of at mark captures params result body))
      → BlockNoted program (task_inside world answers context listed mark detached)
      (with_list world answers context listed captures) (closure_vars world vars captures params)
      body
  spawn_block_noted place detached at mark captures params result body whole = record {
    stands = standing.spawn_body_stands program.tables program.notes context listed vars place
        detached at mark captures params result body whole.stands;
    noted = block_noted (task_inside world answers context listed mark detached) at captures body
        (noted_right program (task_races world answers place) _
        (noted_right program
        (body_note at (task_iso world mark detached context.iso) true ∷ []) _
        (noted_by program _ _
        (noted.notes-Spawn world answers context listed place detached at mark captures params
        result body) whole.noted)));
  }
