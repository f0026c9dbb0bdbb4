-- What the tables of a program, the numbers of its functions and the functions have in common.
use Rattle.std.proofs.Common.{List}
use Rattle.sw_tree.specs.Contents.{AreKeyed}
use Rattle.sw_tree.specs.declared.decl.Decl.{Decl}
use Rattle.sw_decls.specs.declared.signature.AsyncDefault.{AsyncDefault}
use Rattle.sw_typing_rules.specs.Programs.{said}
use Rattle.sw_typing_rules.specs.Worlds.{IsWorldOf, World}
use Rattle.sw_isolation_rules.specs.Answers.{answers_in}
use Rattle.sw_lower_code.specs.Whole.{Body}
use Rattle.sw_lower_rules.specs.Bodies.{AreNumbered, AreOrdered, functions_of, numbers_of}
use Rattle.sw_lower_rules.specs.Bodies.{tables_of}
use Rattle.sw_lower_rules.specs.Tables.{Isolation}
use Rattle.sw_lower_formed_facts.specs.Ground.{Ground}
use Rattle.sw_typing_facts.proofs.Declared.Programs.{types_declared}
use Rattle.sw_typing_facts.proofs.Declared.Tables.{globals_declared, parts_declared, results_declared}
use Rattle.sw_lower_formed_facts.proofs.Headers.Funcs.{func_headers}
use Rattle.sw_lower_formed_facts.proofs.Headers.GlobalGetters.{global_getter_headers}
use Rattle.sw_lower_formed_facts.proofs.Headers.Makers.{maker_headers}
use Rattle.sw_lower_formed_facts.proofs.Headers.Methods.{method_headers}
use Rattle.sw_lower_formed_facts.proofs.Headers.PartGetters.{part_getter_headers}
use Rattle.sw_lower_formed_facts.proofs.Said.Answers.{type_is_said}
use Rattle.sw_typing_facts.proofs.Said.Once.{selves_untyped, typed_once}

-- The tables of a program have in common with the functions of its bodies what code stands on.
pub ground_of : (decls : List Decl) (rule : AsyncDefault) (world : World) (isolation : Isolation)
    (ordered : List Body) → AreKeyed decls → IsWorldOf decls rule world
    → AreOrdered (tables_of world (answers_in (said world decls)) isolation decls) decls ordered
    → AreNumbered ordered
    → Ground (tables_of world (answers_in (said world decls)) isolation decls)
    (numbers_of ordered) (functions_of ordered)
ground_of decls rule world isolation ordered keys is are numbered =
    let answers = answers_in (said world decls) in
    record {
      typed = λ key ty found.
          types_declared world decls rule is key ty (type_is_said world decls key ty found);
      parts = parts_declared world decls rule is;
      results = results_declared world decls rule is;
      global_types = globals_declared world decls rule is;
      selves = selves_untyped world decls rule keys is;
      funcs = func_headers world answers isolation decls rule keys is ordered are
          numbered (typed_once world decls keys);
      methods = method_headers world answers isolation decls rule keys is ordered
          are numbered (typed_once world decls keys);
      makers = maker_headers world answers isolation decls rule keys is ordered
          are numbered (typed_once world decls keys);
      part_getters = part_getter_headers world answers isolation decls rule keys is
          ordered are numbered;
      global_getters = global_getter_headers world answers isolation decls rule
          keys is ordered are numbered;
    }
