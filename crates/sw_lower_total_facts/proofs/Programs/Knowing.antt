-- What is known of each program that keeps the rules on declarations.
use Rattle.std.proofs.Common.{◌≡◌, ℕ, false, List, Some, refl}
use Rattle.std.specs.Prelude.{slice_get}
use Rattle.sw_tree.specs.declared.decl.Decl.{Decl}
use Rattle.sw_types.specs.declared.shape.Shape.{Shape}
use Rattle.sw_decls.specs.declared.signature.AsyncDefault.{AsyncDefault}
use Rattle.sw_typing_rules.specs.Programs.{said}
use Rattle.sw_typing_rules.specs.Worlds.{IsWorldOf, World}
use Rattle.sw_isolation_rules.specs.Answers.{Answers, answers_in}
use Rattle.sw_isolation_rules.specs.Captures.{is_among}
use Rattle.sw_isolation_rules.specs.Lists.{vars_in}
use Rattle.sw_lower_code.specs.Whole.{Body}
use Rattle.sw_lower_rules.specs.Bodies.{AreOrdered, numbers_of}
use Rattle.sw_lower_rules.specs.Tables.{Isolation, isolation_in}
use Rattle.sw_typing_facts.proofs.Declared.Programs.{types_declared}
use Rattle.sw_lower_formed_facts.proofs.Said.Answers.{type_is_said}
use Rattle.sw_lower_total_facts.specs.Known.{TablesAgree}
use Rattle.sw_lower_total_facts.specs.Programs.{noted_tables, notes_of}
use Rattle.sw_lower_total_facts.proofs.Programs.FuncBodies.{funcs_numbered}
use Rattle.sw_lower_total_facts.proofs.Programs.Getters.{globals_getters, object_getters, part_keys}
use Rattle.sw_lower_total_facts.proofs.Programs.Initialisers.{has_makers}

-- What is known of a program, where the words of its types are no variables'.
pub known_of : (decls : List Decl) (rule : AsyncDefault) (world : World) (ordered : List Body)
    → IsWorldOf decls rule world → AreOrdered (noted_tables world decls) decls ordered
    → ((k : ℕ) (shape : Shape) → slice_get world.shapes k ≡ Some shape
    → is_among (vars_in (notes_of world decls)) shape.at ≡ false)
    → TablesAgree (noted_tables world decls) (numbers_of ordered) (notes_of world decls)
known_of decls rule world ordered is are selves =
    let answers : Answers = answers_in (said world decls) in
    let isolation : Isolation = isolation_in (notes_of world decls) in
    record {
      noted = refl;
      typed = λ key ty found.
          types_declared world decls rule is key ty (type_is_said world decls key ty found);
      funcs = funcs_numbered world answers isolation decls rule is ordered are;
      makers = has_makers world answers isolation decls rule is ordered are;
      parts = part_keys world answers isolation decls rule is ordered are;
      part_getters = object_getters world answers isolation decls rule is ordered are;
      global_getters = globals_getters world answers isolation decls rule is ordered are;
      selves = selves;
    }
