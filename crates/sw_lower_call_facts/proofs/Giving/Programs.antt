-- Strong calls and tasks in the functions of a program give their actors.
use Rattle.std.proofs.Common.{◌≡◌, ℕ, List, Some, None}
use Rattle.std.specs.Prelude.{slice_get}
use Rattle.sw_tree.specs.Contents.{AreKeyed}
use Rattle.sw_tree.specs.declared.decl.Decl.{Decl}
use Rattle.sw_types.specs.declared.isolation.CallKind.TheVariants.{Strong}
use Rattle.sw_graph.specs.Points.{Middle, point_in}
use Rattle.sw_graph.specs.declared.function.Function.{Function}
use Rattle.sw_graph.specs.declared.instr.Instr.TheVariants.{Call, NewTask}
use Rattle.sw_graph.specs.declared.instr.Operand.{Operand}
use Rattle.sw_decls.specs.Declaring.{IsFirstBreach}
use Rattle.sw_decls.specs.declared.signature.AsyncDefault.{AsyncDefault}
use Rattle.sw_typing_rules.specs.Worlds.{IsWorldOf, World}
use Rattle.sw_lower_code.specs.Whole.{Body}
use Rattle.sw_lower_rules.specs.Bodies.{AreMade, AreNumbered, AreOrdered, functions_of, numbers_of}
use Rattle.sw_lower_total_facts.specs.Programs.{IsWelltyped, noted_tables}
use Rattle.sw_lower_call_facts.specs.Calls.{CallOf}
use Rattle.sw_lower_call_facts.specs.Given.{TakesAt}
use Rattle.sw_lower_call_facts.proofs.Calls.Programs.{function_calls}
use Rattle.sw_lower_call_facts.proofs.Calls.Insides.{instr_inside}
use Rattle.sw_lower_call_facts.proofs.Giving.Functions.{call_gives}
use Rattle.sw_lower_call_facts.proofs.Giving.Getters.{getter_gives}
use Rattle.sw_lower_call_facts.proofs.Giving.OwnTasks.{task_takes}

module _ (decls : List Decl) (rule : AsyncDefault) (world : World) (ordered : List Body)
    (keyed : AreKeyed decls) (sound : IsFirstBreach decls None)
    (is_world : IsWorldOf decls rule world)
    (are : AreOrdered (noted_tables world decls) decls ordered) (numbered : AreNumbered ordered)
    (made : AreMade ordered) where
  -- what a strong call in a function is of
  call_of : (n p at r f : ℕ) (ss : List Operand) (function : Function)
      → slice_get (functions_of ordered) n ≡ Some function
      → point_in function p ≡ Some (Middle (Call at r Strong f ss))
      → CallOf (noted_tables world decls) (numbers_of ordered) at Strong f
  call_of n p at r f ss function there stands =
      function_calls (noted_tables world decls) decls ordered keyed sound are made n p function
      (Call at r Strong f ss) there stands

  pub calls_give : (n p at r f : ℕ) (ss : List Operand) (function : Function)
      → slice_get (functions_of ordered) n ≡ Some function
      → point_in function p ≡ Some (Middle (Call at r Strong f ss))
      → TakesAt world.shapes (functions_of ordered) f
  calls_give n p at r f ss function there stands =
      call_gives decls rule world keyed is_world ordered are numbered at f
      (λ key found.
      getter_gives decls rule world ordered keyed sound is_world are numbered key f found)
      (call_of n p at r f ss function there stands)

pub tasks_give : (decls : List Decl) (rule : AsyncDefault) (world : World) (ordered : List Body)
    → IsWelltyped decls rule world → AreOrdered (noted_tables world decls) decls ordered
    → AreNumbered ordered → AreMade ordered → (n p at r f : ℕ) (cs : List Operand)
    (function : Function) → slice_get (functions_of ordered) n ≡ Some function
    → point_in function p ≡ Some (Middle (NewTask at r f cs))
    → TakesAt world.shapes (functions_of ordered) f
tasks_give decls rule world ordered is are numbered made n p at r f cs function there stands =
    task_takes decls rule world is ordered are numbered f
    (instr_inside (noted_tables world decls) decls ordered is.keyed is.sound are made n p function
    (NewTask at r f cs) there stands)
