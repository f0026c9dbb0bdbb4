-- The trees of a program stand, where its keys are its nodes' own and tell scopes.
use Rattle.std.proofs.Common.{◌≡◌, ℕ, Some, List, Contains, refl}
use Rattle.sw_list.proofs.Members.{none_in}
use Rattle.sw_tree.specs.Contents.{AreKeyed}
use Rattle.sw_tree.specs.declared.decl.Decl.{Decl}
use Rattle.sw_tree.specs.declared.decl.Decl.TheVariants.{Entry, Struct, Enum, Class, Actor}
use Rattle.sw_tree.specs.declared.decl.Decl.TheVariants.{GlobalActor, Func, Global}
use Rattle.sw_tree.specs.declared.decl.PropTree.{PropTree}
use Rattle.sw_decls.specs.declared.signature.AsyncDefault.{AsyncDefault}
use Rattle.sw_typing_rules.specs.Programs.{said}
use Rattle.sw_typing_rules.specs.Worlds.{IsWorldOf, World}
use Rattle.sw_isolation_rules.specs.Answers.{Answers, answers_in}
use Rattle.sw_lower_plans.specs.Plan.{Numbers}
use Rattle.sw_typing_facts.proofs.Programs.DeclParts.{props_in}
use Rattle.sw_tree.specs.Scopes.{AreScoped}
use Rattle.sw_lower_total_facts.proofs.Bodies.AllStand.{AllStand}
use Rattle.sw_lower_total_facts.proofs.Standing.Ordered.{owner_of}
use Rattle.sw_lower_total_facts.proofs.Standing.Programs.{entry_body_stands, func_body_stands}
use Rattle.sw_lower_total_facts.proofs.Standing.Programs.{func_params_no_var, global_value_stands}
use Rattle.sw_lower_total_facts.proofs.Standing.Programs.{init_body_stands, init_params_no_var}
use Rattle.sw_lower_total_facts.proofs.Standing.Programs.{prop_value_stands}

-- A declaration with properties that are given values is a type's.
prop_owner : (n : ℕ) (decl : Decl) (prop : PropTree) → Contains (props_in decl) prop
    → owner_of n decl ≡ Some n
prop_owner n (Entry word written at is_async body) prop has = absurd (none_in prop has)
prop_owner n (Struct word conforms fields funcs) prop has = absurd (none_in prop has)
prop_owner n (Enum word conforms cases funcs) prop has = absurd (none_in prop has)
prop_owner n (Class written word conforms props inits funcs) prop has = refl
prop_owner n (Actor word props inits funcs) prop has = refl
prop_owner n (GlobalActor word made) prop has = absurd (none_in prop has)
prop_owner n (Func func) prop has = absurd (none_in prop has)
prop_owner n (Global global) prop has = absurd (none_in prop has)

pub all_stand : (world : World) (decls : List Decl) (rule : AsyncDefault) (number : Numbers)
    → AreKeyed decls → AreScoped decls → IsWorldOf decls rule world
    → AllStand world decls number
all_stand world decls rule number keyed scoped is =
    let answers : Answers = answers_in (said world decls) in record {
      funcs = λ n g decl stands tree func has found.
          func_body_stands decls rule world answers keyed scoped is n g decl stands tree func has
          found;
      func_params = λ n g decl stands tree has.
          func_params_no_var decls rule world answers keyed scoped is n g decl stands tree has;
      entries = λ n g word written at is_async body func stands found.
          entry_body_stands decls rule world answers keyed scoped is n g word written at is_async
          body func stands found;
      inits = λ n g decl stands init func has found.
          init_body_stands decls rule world answers keyed scoped is n g decl stands init func has
          found;
      init_params = λ n g decl stands init has.
          init_params_no_var decls rule world answers keyed scoped is n g decl stands init has;
      props = λ n g decl stands prop shape value has there given.
          prop_value_stands decls rule world answers keyed scoped is n g decl stands prop shape
          value has there (prop_owner n decl prop has) given;
      globals = λ n g prop value stands given.
          global_value_stands decls rule world answers keyed scoped is n g prop value stands given;
    }
