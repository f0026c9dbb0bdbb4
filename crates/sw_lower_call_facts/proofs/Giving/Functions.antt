-- Strong calls of functions, methods and initialisers give their actors.
use Rattle.std.proofs.Common.{◌≡◌, ℕ, List, Some}
use Rattle.std.proofs.Common.{refl}
use Rattle.std.specs.Prelude.{slice_get}
use Rattle.sw_tree.specs.Contents.{AreKeyed}
use Rattle.sw_tree.specs.declared.decl.Decl.{Decl}
use Rattle.sw_types.specs.declared.isolation.CallKind.TheVariants as kind
use Rattle.sw_types.specs.declared.shape.Shape.{Shape}
use Rattle.sw_types.specs.declared.shape.ShapeKind.{ShapeKind}
use Rattle.sw_types.specs.declared.shape.ShapeKind.TheVariants as kinds
use Rattle.sw_decls.specs.declared.signature.AsyncDefault.{AsyncDefault}
use Rattle.sw_decls.specs.declared.signature.Signature.{Signature}
use Rattle.sw_typing_rules.specs.Programs.{said}
use Rattle.sw_typing_rules.specs.Worlds.{IsWorldOf, World}
use Rattle.sw_typing_rules.specs.declared.row.Meaning.TheVariants as means
use Rattle.sw_isolation_rules.specs.Answers.{answers_in}
use Rattle.sw_isolation_rules.specs.Uses.{maker_at}
use Rattle.sw_lower_code.specs.Whole.{Body}
use Rattle.sw_lower_rules.specs.Bodies.{AreNumbered, AreOrdered, functions_of, numbers_of}
use Rattle.sw_lower_rules.specs.Tables.{Tables, getter_of, plain}
use Rattle.sw_lower_total_facts.specs.Known.{IsMade}
use Rattle.sw_lower_total_facts.specs.Programs.{noted_tables}
use Rattle.sw_lower_call_facts.specs.Calls.{CallOf}
use Rattle.sw_lower_call_facts.specs.Calls.CallOf.{of_func, of_getter, of_maker}
use Rattle.sw_lower_call_facts.specs.Given.{TakesAt}
use Rattle.sw_lower_call_facts.proofs.Functions.Makers.{class_maker_free}
use Rattle.sw_lower_call_facts.proofs.Functions.Methods.{func_takes}
use Rattle.sw_lower_call_facts.proofs.KindNotes.Programs.{makes_by_kind}
use Rattle.sw_lower_call_facts.proofs.Meant.Answers.{func_is_meant}

module _ (decls : List Decl) (rule : AsyncDefault) (world : World) (keyed : AreKeyed decls)
    (is_world : IsWorldOf decls rule world) (ordered : List Body)
    (are : AreOrdered (noted_tables world decls) decls ordered) (numbered : AreNumbered ordered)
  where
    abbrev tables : Tables
    tables = noted_tables world decls

    -- the initialiser of a class or an actor
    maker_gives : (at k f : ℕ) (shape : Shape) (func : Signature)
        → tables.answers.meaning_at at ≡ Some (means.MakeOf k)
        → slice_get world.shapes k ≡ Some shape → maker_at world k ≡ Some func
        → tables.isolation.kind_at at ≡ Some kind.Strong
        → numbers_of ordered (plain func.key.at) ≡ Some f → (is : ShapeKind) → shape.kind ≡ is
        → IsMade is → TakesAt world.shapes (functions_of ordered) f
    maker_gives at k f shape func meant there made noted found kinds.Struct same never function here
        own =
        absurd never
    maker_gives at k f shape func meant there made noted found kinds.Enum same never function here
        own =
        absurd never
    maker_gives at k f shape func meant there made noted found kinds.Class same any function here
        own =
        absurd (class_maker_free tables decls rule keyed is_world ordered are numbered k f shape
        func function there same made found here own)
    maker_gives at k f shape func meant there made noted found kinds.Actor same any function here
        own =
        cc (makes_by_kind world (answers_in (said world decls)) decls at kind.Strong noted k shape
        meant there same)

    -- A strong call of a function, a method or an initialiser gives its actor, where that of a
    -- getter does.
    pub call_gives : (at f : ℕ)
        → ((key : ℕ) → numbers_of ordered (getter_of key) ≡ Some f
        → TakesAt world.shapes (functions_of ordered) f)
        → CallOf tables (numbers_of ordered) at kind.Strong f
        → TakesAt world.shapes (functions_of ordered) f
    call_gives at f getters (of_func n func meant there noted found) function here own =
        func_takes tables decls rule is_world ordered are numbered n f func function
        (func_is_meant world decls at n meant) there found here own
    call_gives at f getters (of_maker k shape func meant there made maker noted found) function here
        own =
        maker_gives at k f shape func meant there maker noted found shape.kind refl made function
        here own
    call_gives at f getters (of_getter key found) function here own =
        getters key found function here own
