use Rattle.std.proofs.Common.{◌≡◌, List, Some, All, ap, arith, map, subst, ◌∙◌}
use Rattle.std.proofs.lemmas.Result.{err_from_is_err_and}
use Rattle.sw_decls.specs.declared.signature.GlobalVar.{GlobalVar}
use Rattle.sw_lower_draft.specs.Drafts.{number_by}
use Rattle.sw_lower_plans.specs.Plan.{Numbers}
use Rattle.sw_lower_plans.specs.declared.name.FunctionName.{FunctionName}
use Rattle.sw_lower_bodies.specs.Trees.{bodies_by}
use Rattle.sw_lower_known.specs.Knowledge.{tables_by}
use Rattle.sw_lower_rules.specs.Bodies.{entry_key}
use Rattle.sw_lower_rules.specs.Tables.{number_in, plain}
use Rattle.sw_typing_rules.specs.Worlds.{and_then}
use Rattle.sw_lower.specs.Ordered.{AreFound, tree_name}
use Rattle.sw_lower_rules.specs.Bodies.{starts_in}
use Rattle.sw_lower.specs.Lowered.{EndsWell, HasMade, SomeAsks, function_by}
use Rattle.sw_lower.proofs.Numbered.{bodies_found}
use Rattle.sw_lower.proofs.Lacking.{asked_lacks, entry_lacks, names_lack, starts_lack, still_fails}
use Rattle.sw_lower.proofs.Lacking.{many_lack, trees_ordered}
use Rattle.sw_lower.proofs.Programs.{bodies_end, functions_are, same_numbers}
use Rattle.sw_lower.proofs.lowering.make_program.Goals as goal

pub returns-clause-made : goal.returns-clause-made
unfolding bodies_by tables_by
returns-clause-made c =
    let known = c.args.known.now in
    let numbers = c.in_ok-numbers.numbers in
    let tables = tables_by known in
    let trees = c.in_order-bodies.result in
    let named : (name : FunctionName) → number_by numbers name
    ≡ number_in (map tree_name trees) name =
    subst (λ list. (name : FunctionName) → number_by numbers name
    ≡ number_in (map tree_name list) name) c.as_slice.ensures c.in_ok-numbers.ensures.numbers in
    let number : number_by numbers ≡ _ = same_numbers known numbers trees named in
    record {
      ordered = bodies_by tables trees;
      are_ordered = trees_ordered tables c.args.decls.now c.in_ok-bodies_of.field-0 trees
          c.in_ok-bodies_of.ensures c.in_order-bodies.ensures.same
          c.in_order-bodies.ensures.ordered;
      are_made = subst (λ list. HasMade list c.in_ok-made.made)
          (ap (map (function_by known numbers)) c.as_slice-2.ensures
          ∙ functions_are known numbers trees named)
          c.in_ok-made.ensures.functions;
      numbered = bodies_found tables trees (subst (λ list. AreFound (map tree_name list))
          c.as_slice.ensures c.in_ok-numbers.ensures.places);
      ended = λ none_large. bodies_end known numbers trees named
          (subst (All (EndsWell known numbers)) c.as_slice-2.ensures
          (c.in_ok-made.ensures.made none_large));
      entry = subst (λ (by : Numbers). Some c.in_ok-entry.entry
          ≡ and_then (entry_key c.args.decls.now) (λ key. by (plain key)))
          number c.in_ok-entry.ensures.known;
      starts = subst (λ (by : Numbers). map Some c.in_ok-starts.starts
          ≡ starts_in by tables.world.globals)
          number (subst (λ (globals : List GlobalVar). map Some c.in_ok-starts.starts
          ≡ starts_in (number_by numbers) globals) c.as_slice-3.ensures
          c.in_ok-starts.ensures.known);
    }

pub returns-in_err-numbers-clause-fault : goal.returns-in_err-numbers-clause-fault
returns-in_err-numbers-clause-fault c =
    let tables = tables_by c.args.known.now in
    let trees = c.in_order-bodies.result in
    let p = err_from_is_err_and c.from_residual-in_err-numbers.result
    c.from_residual-in_err-numbers.ensures.1 in
    let are = trees_ordered tables c.args.decls.now c.in_ok-bodies_of.field-0 trees
    c.in_ok-bodies_of.ensures c.in_order-bodies.ensures.same c.in_order-bodies.ensures.ordered in
    rw (p.1, p.2)
    (still_fails (λ unfound. names_lack tables c.args.decls.now trees are
    (subst (λ list. ¬ (AreFound (map tree_name list))) c.as_slice.ensures unfound)) _
    c.in_err-numbers.ensures.fault)

pub returns-in_err-made-clause-fault : goal.returns-in_err-made-clause-fault
returns-in_err-made-clause-fault c =
    let known = c.args.known.now in
    let tables = tables_by known in
    let trees = c.in_order-bodies.result in
    let numbers = c.in_ok-numbers.numbers in
    let p = err_from_is_err_and c.from_residual-in_err-made.result
    c.from_residual-in_err-made.ensures.1 in
    let are = trees_ordered tables c.args.decls.now c.in_ok-bodies_of.field-0 trees
    c.in_ok-bodies_of.ensures c.in_order-bodies.ensures.same c.in_order-bodies.ensures.ordered in
    let named : (name : FunctionName) → number_by numbers name
    ≡ number_in (map tree_name trees) name =
    subst (λ list. (name : FunctionName) → number_by numbers name
    ≡ number_in (map tree_name list) name) c.as_slice.ensures c.in_ok-numbers.ensures.numbers in
    rw (p.1, p.2)
    (still_fails (λ asks. asked_lacks known numbers c.args.decls.now trees named are
    (subst (SomeAsks known numbers) c.as_slice-2.ensures asks)) _ c.in_err-made.ensures.fault)

pub returns-in_err-entry-clause-fault : goal.returns-in_err-entry-clause-fault
returns-in_err-entry-clause-fault c =
    let known = c.args.known.now in
    let tables = tables_by known in
    let trees = c.in_order-bodies.result in
    let numbers = c.in_ok-numbers.numbers in
    let p = err_from_is_err_and c.from_residual-in_err-entry.result
    c.from_residual-in_err-entry.ensures.1 in
    let are = trees_ordered tables c.args.decls.now c.in_ok-bodies_of.field-0 trees
    c.in_ok-bodies_of.ensures c.in_order-bodies.ensures.same c.in_order-bodies.ensures.ordered in
    let named : (name : FunctionName) → number_by numbers name
    ≡ number_in (map tree_name trees) name =
    subst (λ list. (name : FunctionName) → number_by numbers name
    ≡ number_in (map tree_name list) name) c.as_slice.ensures c.in_ok-numbers.ensures.numbers in
    rw (p.1, p.2)
    (still_fails (entry_lacks known numbers c.args.decls.now trees named are) _
    c.in_err-entry.ensures.fault)

pub returns-in_err-starts-clause-fault : goal.returns-in_err-starts-clause-fault
unfolding tables_by
returns-in_err-starts-clause-fault c =
    let known = c.args.known.now in
    let tables = tables_by known in
    let trees = c.in_order-bodies.result in
    let numbers = c.in_ok-numbers.numbers in
    let p = err_from_is_err_and c.from_residual-in_err-starts.result
    c.from_residual-in_err-starts.ensures.1 in
    let are = trees_ordered tables c.args.decls.now c.in_ok-bodies_of.field-0 trees
    c.in_ok-bodies_of.ensures c.in_order-bodies.ensures.same c.in_order-bodies.ensures.ordered in
    let named : (name : FunctionName) → number_by numbers name
    ≡ number_in (map tree_name trees) name =
    subst (λ list. (name : FunctionName) → number_by numbers name
    ≡ number_in (map tree_name list) name) c.as_slice.ensures c.in_ok-numbers.ensures.numbers in
    rw (p.1, p.2)
    (still_fails (starts_lack known numbers c.args.decls.now trees named are
    _ c.as_slice-3.ensures) _ c.in_err-starts.ensures.fault)

pub returns-then-len-gt-MOST_FUNCTIONS-clause-fault :
    goal.returns-then-len-gt-MOST_FUNCTIONS-clause-fault
returns-then-len-gt-MOST_FUNCTIONS-clause-fault c =
    let tables = tables_by c.args.known.now in
    let trees = c.in_order-bodies.result in
    let are = trees_ordered tables c.args.decls.now c.in_ok-bodies_of.field-0 trees
    c.in_ok-bodies_of.ensures c.in_order-bodies.ensures.same c.in_order-bodies.ensures.ordered in
    many_lack tables c.args.decls.now trees are
    (omega (arith, c.if-len-gt-MOST_FUNCTIONS.true, c.len.ensures))
