-- Each body of a program that keeps the rules on declarations, types and isolation is placed.
use Rattle.std.proofs.Common.{List}
use Rattle.sw_tree.specs.CasePlaces.{CasesApart}
use Rattle.sw_tree.specs.declared.decl.Decl.{Decl}
use Rattle.sw_decls.specs.declared.signature.AsyncDefault.{AsyncDefault}
use Rattle.sw_typing_rules.specs.Programs.{said}
use Rattle.sw_typing_rules.specs.Worlds.{World}
use Rattle.sw_isolation_rules.specs.Answers.{answers_in}
use Rattle.sw_lower_code.specs.Whole.{Body}
use Rattle.sw_lower_rules.specs.Bodies.{AreMade, AreNumbered, AreOrdered}
use Rattle.sw_lower_rules.specs.Tables.{isolation_in}
use Rattle.sw_lower_formed_facts.proofs.Grounded.{ground_of}
use Rattle.sw_lower_formed_facts.proofs.Programs.CasesDiffer.{cases_differ}
use Rattle.sw_typing_facts.proofs.Programs.Enums.{only_enums}
use Rattle.sw_typing_facts.proofs.Programs.WordKinds.{word_kinds}
use Rattle.sw_lower_total_facts.specs.Programs.{IsWelltyped, noted_tables, notes_of}
use Rattle.sw_lower_total_facts.proofs.Programs.Knowing.{known_of}
use Rattle.sw_lower_total_facts.proofs.Standing.Programs.{selves_no_var}
use Rattle.sw_lower_placed_facts.specs.Bodies.{ArePlaced}
use Rattle.sw_lower_placed_facts.specs.Programs.{KeepsApart}
use Rattle.sw_lower_placed_facts.specs.Hosts.{Program}
use Rattle.sw_lower_placed_facts.proofs.Bodies.Programs.{are_placed}
use Rattle.sw_lower_placed_facts.proofs.Forms.Induction.{blocks_placed, exprs_placed}
use Rattle.sw_lower_placed_facts.proofs.Forms.Typed.{Sound}
use Rattle.sw_lower_placed_facts.proofs.Settling.Program.{program_of}
use Rattle.sw_lower_placed_facts.proofs.Settling.Settled.{program_settled}

-- what trees need that are gone through
program_sound : (decls : List Decl) (rule : AsyncDefault) (world : World) (ordered : List Body)
    → IsWelltyped decls rule world → CasesApart decls → KeepsApart world decls
    → AreOrdered (noted_tables world decls) decls ordered → AreNumbered ordered
    → Sound (program_of world decls ordered)
program_sound decls rule world ordered typed cases apart are numbered = record {
  ground = ground_of decls rule world (isolation_in (notes_of world decls)) ordered typed.keyed
      typed.declared are numbered;
  kinds = word_kinds decls rule world typed.declared;
  enums = only_enums decls rule world typed.declared;
  differ = cases_differ decls rule world typed.declared typed.sound cases;
  known = known_of decls rule world ordered typed.declared are
      (selves_no_var decls rule world (answers_in (said world decls)) typed.keyed typed.scoped
      typed.declared);
  settled = program_settled decls rule world ordered typed are numbered apart;
}

pub all_placed : (decls : List Decl) (rule : AsyncDefault) (world : World) (ordered : List Body)
    → IsWelltyped decls rule world → CasesApart decls → KeepsApart world decls
    → AreOrdered (noted_tables world decls) decls ordered → AreNumbered ordered → AreMade ordered
    → ArePlaced (program_of world decls ordered)
all_placed decls rule world ordered typed cases apart are numbered made =
    let program : Program = program_of world decls ordered in
    let sound = program_sound decls rule world ordered typed cases apart are numbered in
    are_placed decls rule world ordered (record {
      typed = typed;
      are = are;
      numbered = numbered;
      made = made;
      settled = sound.settled;
      exprs = exprs_placed program sound;
      blocks = blocks_placed program sound;
    })
