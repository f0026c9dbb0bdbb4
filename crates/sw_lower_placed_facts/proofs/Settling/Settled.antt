-- A program by its declarations is settled, where these keep the rules on declarations, on types
-- and on isolation.
use Rattle.std.proofs.Common.{◌≡◌, ℕ, List, [], Some, refl, subst}
use Rattle.std.specs.Prelude.{slice_get}
use Rattle.sw_tree.specs.declared.decl.Decl.{Decl}
use Rattle.sw_decls.specs.declared.signature.AsyncDefault.{AsyncDefault}
use Rattle.sw_decls.specs.declared.signature.Signature.{Signature}
use Rattle.sw_typing_rules.specs.Programs.{said}
use Rattle.sw_typing_rules.specs.Worlds.{World}
use Rattle.sw_isolation_rules.specs.Answers.{Answers, answers_in}
use Rattle.sw_isolation_rules.specs.Programs.{refusals}
use Rattle.sw_lower_code.specs.Whole.{Body}
use Rattle.sw_lower_rules.specs.Bodies.{AreNumbered, AreOrdered}
use Rattle.sw_lower_rules.specs.Tables.{Tables, plain}
use Rattle.sw_typing_facts.proofs.Said.Once.{selves_untyped}
use Rattle.sw_lower_total_facts.specs.Programs.{IsWelltyped, noted_tables}
use Rattle.sw_lower_call_facts.specs.Meant.{IsFuncNumber}
use Rattle.sw_lower_call_facts.proofs.Meant.Answers.{func_is_meant}
use Rattle.sw_lower_placed_facts.specs.Allowed.{IsActorMaker}
use Rattle.sw_lower_placed_facts.specs.Settled.{IsSettled}
use Rattle.sw_lower_placed_facts.specs.Hosts.{Program}
use Rattle.sw_lower_placed_facts.proofs.Settling.Apart.{KeyedBy, func_by, func_keyed}
use Rattle.sw_lower_placed_facts.proofs.Settling.Apart.{no_maker_func}
use Rattle.sw_lower_placed_facts.proofs.Settling.Found.{none_noted, noted_body, noted_kind}
use Rattle.sw_lower_placed_facts.proofs.Settling.GetterFunctions.{global_getter_function}
use Rattle.sw_lower_placed_facts.proofs.Settling.GetterFunctions.{part_getter_function}
use Rattle.sw_lower_placed_facts.proofs.Settling.Held.{captures_begin}
use Rattle.sw_lower_placed_facts.proofs.Settling.Makers.{actor_key, actor_maker, maker_function}
use Rattle.sw_lower_placed_facts.proofs.Settling.Makers.{maker_key, no_actor_maker}
use Rattle.sw_lower_placed_facts.proofs.Settling.Program.{program_of}
use Rattle.sw_lower_call_facts.proofs.Functions.Signed.{func_body_signed}
use Rattle.sw_lower_placed_facts.proofs.Settling.Signed.{signed_function}
use Rattle.sw_lower_placed_facts.proofs.Settling.Words.{one_word}

module _ (decls : List Decl) (rule : AsyncDefault) (world : World) (ordered : List Body)
    (is : IsWelltyped decls rule world) (are : AreOrdered (noted_tables world decls) decls ordered)
    (numbered : AreNumbered ordered) where
  abbrev tables : Tables
  tables = noted_tables world decls

  abbrev answers : Answers
  answers = answers_in (said world decls)

  abbrev program : Program
  program = program_of world decls ordered

  -- A function or a method is no initialiser of an actor.
  func_no_maker : (n : ℕ) (func : Signature) → IsFuncNumber world n
      → slice_get world.funcs n ≡ Some func → IsActorMaker program (plain func.key.at) → ⊥
  func_no_maker n func meant at of =
      let key = func.key.at in
      let maker = maker_key world decls rule is.keyed is.declared of.k of.func
      (actor_maker world decls rule is.keyed is.declared ordered key of) in
      no_maker_func decls is.keyed of.func.key.at maker
      (subst (KeyedBy decls func_keyed)
      (actor_key world decls rule is.keyed is.declared ordered key of)
      (func_by decls rule world is.declared n func meant at))

  pub program_settled : refusals world answers decls ≡ [] → IsSettled program
  program_settled none = record {
    isolation = refl;
    kinds = noted_kind decls rule world answers is.keyed is.declared;
    noted = noted_body decls rule world answers is.keyed is.declared;
    none_refused = none_noted decls world answers none;
    held = captures_begin decls rule world is;
    selves = selves_untyped world decls rule is.keyed is.declared;
    funcs = λ at n f func means there found.
        let meant = func_is_meant world decls at n means in (
          signed_function world decls ordered are numbered func f
              (func_body_signed tables decls rule is.declared n func meant there) found,
          func_no_maker n func meant there,
        );
    makers = λ k f shape func there made found. (
      maker_function world decls rule is.keyed is.declared ordered are numbered k f shape func
          there made found,
      no_actor_maker world decls rule is.keyed is.declared ordered k shape func there made,
    );
    part_getters = part_getter_function world decls rule is.keyed is.declared ordered are numbered;
    global_getters =
        global_getter_function world decls rule is.keyed is.declared ordered are numbered;
    words = one_word decls rule world is.keyed is.declared;
  }
