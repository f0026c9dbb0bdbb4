-- The functions of a program that keeps the rules return their results.
use Rattle.std.proofs.Common.{List, None}
use Rattle.std.proofs.lemmas.List.Elements.{All-map}
use Rattle.std.proofs.lemmas.List.Sorted.{All-permutation, IsPermutation-sym}
use Rattle.std.specs.Prelude.{All}
use Rattle.sw_tree.specs.CasePlaces.{CasesApart}
use Rattle.sw_tree.specs.Contents.{AreKeyed}
use Rattle.sw_tree.specs.declared.decl.Decl.{Decl}
use Rattle.sw_decls.specs.Declaring.{IsFirstBreach}
use Rattle.sw_decls.specs.declared.signature.AsyncDefault.{AsyncDefault}
use Rattle.sw_typing_rules.specs.Programs.{IsFirstIll}
use Rattle.sw_typing_rules.specs.Worlds.{IsWorldOf, World}
use Rattle.sw_graph.specs.Supplied.{ReturnsResult}
use Rattle.sw_lower_code.specs.Whole.{Body, function_of}
use Rattle.sw_lower_rules.specs.Bodies.{AreMade, AreNumbered, AreOrdered, functions_of, numbers_of}
use Rattle.sw_lower_rules.specs.Bodies.{program_bodies}
use Rattle.sw_lower_rules.specs.Tables.{Isolation}
use Rattle.sw_lower_formed_facts.specs.Programs.{tables_in}
use Rattle.sw_lower_formed_facts.specs.Trees.{IsHere}
use Rattle.sw_lower_formed_facts.proofs.Bodies.Given.{IsProgram}
use Rattle.sw_lower_formed_facts.proofs.GraphsFit.{bodies_here}
use Rattle.sw_lower_formed_facts.proofs.Grounded.{ground_of}
use Rattle.sw_lower_formed_facts.proofs.Induction.{block_ok_of, expr_ok}
use Rattle.sw_lower_formed_facts.proofs.Programs.CasesDiffer.{cases_differ}
use Rattle.sw_typing_facts.proofs.Programs.Enums.{only_enums}
use Rattle.sw_typing_facts.proofs.Programs.WordKinds.{word_kinds}
use Rattle.sw_lower_return_facts.specs.Forms.{BodyReturns}
use Rattle.sw_lower_return_facts.proofs.Programs.Declarations.{program_returns}

-- what is known of a program that keeps the rules
is_program : (decls : List Decl) (rule : AsyncDefault) (world : World) (isolation : Isolation)
    (ordered : List Body) → AreKeyed decls → CasesApart decls → IsFirstBreach decls None
    → IsWorldOf decls rule world → IsFirstIll world decls None
    → AreOrdered (tables_in world isolation decls) decls ordered → AreNumbered ordered
    → IsProgram world isolation decls rule (numbers_of ordered) (functions_of ordered)
is_program decls rule world isolation ordered keys apart sound is well are numbered =
    let tables = tables_in world isolation decls in
    let number = numbers_of ordered in
    let functions = functions_of ordered in
    let ground = ground_of decls rule world isolation ordered keys is are numbered in
    let kinds = word_kinds decls rule world is in
    let enums = only_enums decls rule world is in
    let differ = cases_differ decls rule world is sound apart in
    record {
      keyed = keys;
      declared = is;
      sound = sound;
      well = well;
      ground = ground;
      exprs = expr_ok tables number functions ground kinds enums differ;
      blocks = block_ok_of tables number functions ground kinds enums differ;
    }

pub all_return : (decls : List Decl) (rule : AsyncDefault) (world : World) (isolation : Isolation)
    (ordered : List Body) → AreKeyed decls → CasesApart decls → IsFirstBreach decls None
    → IsWorldOf decls rule world → IsFirstIll world decls None
    → AreOrdered (tables_in world isolation decls) decls ordered → AreNumbered ordered
    → AreMade ordered → All ReturnsResult (functions_of ordered)
all_return decls rule world isolation ordered keys apart sound is well are numbered made =
    let tables = tables_in world isolation decls in
    let number = numbers_of ordered in
    let functions = functions_of ordered in
    let bodies = program_bodies tables decls in
    let here = All-permutation (IsHere tables number functions) ordered bodies
    (IsPermutation-sym bodies ordered are.bodies)
    (bodies_here tables ordered numbered made) in
    All-map ReturnsResult (function_of number) ordered
    (All-permutation (BodyReturns number) bodies ordered are.bodies
    (program_returns world isolation decls rule number functions
    (is_program decls rule world isolation ordered keys apart sound is well are numbered) here))
