-- A task that is isolated to `self` stands in the declaration of an actor.
use Rattle.std.proofs.Common.{◌≡◌, ℕ, List, Some, None, ap, ◌∙◌, subst}
use Rattle.std.proofs.lemmas.List.Sorted.{Contains-permutation}
use Rattle.std.specs.Prelude.{slice_get}
use Rattle.sw_tree.specs.Contents.{AreKeyed}
use Rattle.sw_tree.specs.declared.decl.Decl.{Decl}
use Rattle.sw_types.specs.declared.isolation.Iso.TheVariants as iso
use Rattle.sw_graph.specs.Points.{Middle, point_in}
use Rattle.sw_graph.specs.declared.function.Function.{Function}
use Rattle.sw_graph.specs.declared.instr.Instr.TheVariants.{NewTask}
use Rattle.sw_graph.specs.declared.instr.Operand.{Operand}
use Rattle.sw_decls.specs.Declaring.{IsFirstBreach}
use Rattle.sw_decls.specs.declared.signature.AsyncDefault.{AsyncDefault}
use Rattle.sw_typing_rules.specs.Programs.{said}
use Rattle.sw_typing_rules.specs.Worlds.{IsWorldOf, World}
use Rattle.sw_isolation_rules.specs.Answers.{answers_in}
use Rattle.sw_lower_code.specs.Whole.{Body, function_of}
use Rattle.sw_lower_rules.specs.Bodies.{AreMade, AreNumbered, AreOrdered, functions_of, numbers_of}
use Rattle.sw_lower_rules.specs.Bodies.{program_bodies}
use Rattle.sw_lower_rules.specs.Expressions.{closure_body, task_body}
use Rattle.sw_lower_rules.specs.Tables.{Tables}
use Rattle.sw_lower_total_facts.specs.Programs.{noted_tables}
use Rattle.sw_lower_call_facts.specs.Calls.{TaskOf}
use Rattle.sw_lower_call_facts.specs.Owning.{OwnKey}
use Rattle.sw_lower_call_facts.proofs.BodyNotes.Programs.{own_in_actor}
use Rattle.sw_lower_call_facts.proofs.Calls.Programs.{function_calls}
use Rattle.sw_lower_call_facts.proofs.Functions.Methods.{function_is}
use Rattle.sw_lower_call_facts.proofs.Giving.Getters.{found_own}

module _ (decls : List Decl) (rule : AsyncDefault) (world : World) (ordered : List Body)
    (keyed : AreKeyed decls) (sound : IsFirstBreach decls None)
    (is_world : IsWorldOf decls rule world)
    (are : AreOrdered (noted_tables world decls) decls ordered) (numbered : AreNumbered ordered)
    (made : AreMade ordered) where
  abbrev tables : Tables
  tables = noted_tables world decls

  in_actor : (f : ℕ) (task : Function)
      → TaskOf tables (numbers_of ordered) (program_bodies tables decls) f
      → slice_get (functions_of ordered) f ≡ Some task → task.iso ≡ iso.Own
      → OwnKey decls task.key
  unfolding closure_body function_of
  in_actor f task of there own =
      let body = task_body tables of.owner of.closure of.result in
      let is = function_is (program_bodies tables decls) ordered body f task numbered
      (Contains-permutation (program_bodies tables decls) ordered body are.bodies of.has)
      of.numbered there in
      let (noted, noted_is, noted_own) = found_own (tables.isolation.body_at of.closure.at)
      (ap (λ (one : Function). one.iso) is ∙ own) in
      subst (OwnKey decls) (ap (λ (one : Function). one.key) is)
      (own_in_actor decls rule world (answers_in (said world decls)) keyed is_world of.closure.at
      noted noted_is noted_own)

  pub tasks_stand : (n p at r f : ℕ) (cs : List Operand) (function task : Function)
      → slice_get (functions_of ordered) n ≡ Some function
      → point_in function p ≡ Some (Middle (NewTask at r f cs))
      → slice_get (functions_of ordered) f ≡ Some task → task.iso ≡ iso.Own
      → OwnKey decls task.key
  tasks_stand n p at r f cs function task here stands there own =
      in_actor f task
      (function_calls tables decls ordered keyed sound are made n p function (NewTask at r f cs)
      here stands) there own
