-- The bodies of closures and tasks are parts of them.
use Rattle.std.proofs.Common.{ℕ, Bool, List, ◌∷◌, ◌++◌, map, Option, ap, ◌∙◌, arith}
use Rattle.sw_tree.specs.Keys.{Keys, block_keys, expr_keys}
use Rattle.sw_tree.specs.declared.expr.ClosureParam.{ClosureParam}
use Rattle.sw_tree.specs.declared.expr.Expr.TheVariants as exprs
use Rattle.sw_tree.specs.declared.name.Name.{Name}
use Rattle.sw_tree.specs.declared.stmt.Block.{Block}
use Rattle.sw_tree.specs.declared.type_tree.TypeTree.{TypeTree}
use Rattle.sw_tree.proofs.Counting.{hits, in_all-append, in_all-cons}
use Rattle.sw_tree.proofs.KeyEquations as keys
use Rattle.sw_typing_rules.specs.Judges.{closure_of}
use Rattle.sw_typing_rules.specs.Worlds.{World}
use Rattle.sw_isolation_rules.specs.Answers.{Answers}
use Rattle.sw_isolation_rules.specs.Captures.{list_mentions}
use Rattle.sw_isolation_rules.specs.Noting.{block_notes, task_races, with_list}
use Rattle.sw_isolation_rules.specs.declared.note.Note.TheVariants.{Mentioned}
use Rattle.sw_isolation_rules.specs.declared.uses.Context.{Context}
use Rattle.sw_tree.specs.Scopes.{block_scoped, expr_scoped}
use Rattle.sw_lower_total_facts.proofs.Mentions.Closures.{enclosing}
use Rattle.sw_lower_total_facts.proofs.Standing.Closing.{alike_closed}
use Rattle.sw_lower_total_facts.proofs.Standing.Covering.{bare_task}
use Rattle.sw_lower_total_facts.proofs.Standing.NoteForms as noted
use Rattle.sw_lower_total_facts.proofs.Standing.NoteForms.{closure_inner, closure_noted, expr_notes}
use Rattle.sw_lower_total_facts.proofs.Standing.NoteForms.{fun_inside, task_inside}
use Rattle.sw_lower_total_facts.proofs.Standing.Noting.{alike_right, alike_then, bare_lacks}
use Rattle.sw_lower_total_facts.proofs.Standing.Noting.{bare_mentions}
use Rattle.sw_lower_total_facts.proofs.Standing.ScopeForms as placed
use Rattle.sw_lower_total_facts.proofs.Standing.Scopes.{within_same}
use Rattle.sw_lower_total_facts.proofs.Standing.Parts.{IsPart, IsShare, part_by, share_bare}
use Rattle.sw_lower_total_facts.proofs.Standing.Parts.{share_body, share_next, share_then}

-- the keys of a closure's list, and of its parameters
abbrev pub list_keys : List Name → Keys
list_keys captures = map (λ (word : Name). word.at) captures

abbrev pub param_keys : List ClosureParam → Keys
param_keys params = map (λ (param : ClosureParam). param.name.at) params

-- the key of a closure with the words of its list and its parameters
abbrev pub head_keys : ℕ → List Name → List ClosureParam → Keys
head_keys at captures params = at ∷ list_keys captures ++ param_keys params

module _ (world : World) (answers : Answers) (listed : List ℕ) where
  -- the body of a closure, in the context inside it
  pub body_share : (inside : Context) (at : ℕ) (captures : List Name)
      (params : List ClosureParam) (body : Block)
      → IsShare (closure_noted world answers inside listed inside at captures body)
      (head_keys at captures params ++ block_keys body)
      (block_notes world answers body inside (with_list world answers inside listed captures))
      (block_keys body)
  body_share inside at captures params body = record {
    alike = λ key some once.
        alike_then key _ (closure_inner world answers inside listed inside captures body) _
        (alike_closed world inside at (with_list world answers inside listed captures)
        (closure_inner world answers inside listed inside captures body) key
        (omega (
          arith,
          some,
          once,
          in_all-append hits (head_keys at captures params) (block_keys body) key,
          in_all-cons hits at (list_keys captures ++ param_keys params) key,
        )))
        (alike_right key (map Mentioned (list_mentions world answers inside.owner captures)) _
        (bare_lacks _ key (bare_mentions (list_mentions world answers inside.owner captures))));
    fewer = λ key.
        omega (arith, in_all-append hits (head_keys at captures params) (block_keys body) key);
  }

  pub fun_body : (context : Context) (at : ℕ) (mark : Option Name) (captures : List Name)
      (params : List ClosureParam) (result : Option TypeTree) (body : Block)
      → IsPart
      (expr_notes world answers context listed
      (exprs.Fun (closure_of at mark captures params result body)))
      (expr_keys (exprs.Fun (closure_of at mark captures params result body)))
      (expr_scoped (exprs.Fun (closure_of at mark captures params result body)))
      (block_notes world answers body (fun_inside world answers context listed at)
      (with_list world answers context listed captures))
      (block_keys body) (enclosing at captures params (block_scoped body))
  fun_body context at mark captures params result body =
      part_by _ _ _ _ _ _ _ _ _
      (noted.notes-Fun world answers context listed at mark captures params result body)
      (keys.expr_keys-Fun (closure_of at mark captures params result body)
      ∙ keys.closure_keys-roll at mark captures params result body)
      (placed.scoped-Fun (closure_of at mark captures params result body)
      ∙ placed.scoped-closure at mark captures params result body)
      (record {
        share = share_then _ _ _ _ _ _ (share_body _ _ _)
            (body_share (fun_inside world answers context listed at) at captures params body);
        within = within_same (enclosing at captures params (block_scoped body));
      })

  pub spawn_body : (context : Context) (place : ℕ) (detached : Bool) (at : ℕ)
      (mark : Option Name) (captures : List Name) (params : List ClosureParam)
      (result : Option TypeTree) (body : Block)
      → IsPart
      (expr_notes world answers context listed
      (exprs.Spawn place detached (closure_of at mark captures params result body)))
      (expr_keys (exprs.Spawn place detached (closure_of at mark captures params result body)))
      (expr_scoped (exprs.Spawn place detached (closure_of at mark captures params result body)))
      (block_notes world answers body (task_inside world answers context listed mark detached)
      (with_list world answers context listed captures))
      (block_keys body) (enclosing at captures params (block_scoped body))
  spawn_body context place detached at mark captures params result body =
      part_by _ _ _ _ _ _ _ _ _
      (noted.notes-Spawn world answers context listed place detached at mark captures params
      result body)
      (keys.expr_keys-Spawn place detached (closure_of at mark captures params result body)
      ∙ ap (λ more. place ∷ more) (keys.closure_keys-roll at mark captures params result body))
      (placed.scoped-Spawn place detached (closure_of at mark captures params result body)
      ∙ placed.scoped-closure at mark captures params result body)
      (record {
        share = share_then _ _ _ _ _ _ (share_body _ _ _)
            (share_then _ _ _ _ _ _
            (share_bare (task_races world answers place) _ _ (bare_task world answers place))
            (share_then _ _ _ _ _ _ (share_next place _ _)
            (body_share (task_inside world answers context listed mark detached) at captures params
            body)));
        within = within_same (enclosing at captures params (block_scoped body));
      })
