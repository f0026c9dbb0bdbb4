-- What is given of a program whose bodies are shown to be placed.
use Rattle.std.proofs.Common.{ℕ, List, Contains}
use Rattle.std.proofs.lemmas.List.Elements.{All-contains, All-contains_itself}
use Rattle.std.proofs.lemmas.List.Sorted.{All-permutation, IsPermutation-sym}
use Rattle.std.specs.Prelude.{All, get_or}
use Rattle.sw_tree.specs.declared.decl.Decl.{Decl}
use Rattle.sw_graph.specs.declared.function.Function.{Function}
use Rattle.sw_decls.specs.declared.signature.AsyncDefault.{AsyncDefault}
use Rattle.sw_typing_rules.specs.Programs.{said}
use Rattle.sw_typing_rules.specs.Worlds.{World}
use Rattle.sw_isolation_rules.specs.Answers.{Answers, answers_in}
use Rattle.sw_isolation_rules.specs.declared.note.Note.{Note}
use Rattle.sw_lower_plans.specs.Plan.{Numbers}
use Rattle.sw_lower_code.specs.Whole.{Body}
use Rattle.sw_lower_rules.specs.Bodies.{AreMade, AreNumbered, AreOrdered, decl_bodies, functions_of}
use Rattle.sw_lower_rules.specs.Bodies.{numbers_of, program_bodies}
use Rattle.sw_lower_rules.specs.Tables.{Tables, isolation_in}
use Rattle.sw_lower_formed_facts.specs.Ground.{Ground}
use Rattle.sw_lower_formed_facts.specs.Trees.{IsHere}
use Rattle.sw_lower_formed_facts.proofs.GraphsFit.{bodies_here}
use Rattle.sw_lower_formed_facts.proofs.Grounded.{ground_of}
use Rattle.sw_lower_formed_facts.proofs.Bodies.MadeOf.{body_stands}
use Rattle.sw_typing_facts.proofs.Programs.Standing.{Stands, made_by_one, maker_of}
use Rattle.sw_lower_total_facts.specs.Programs.{IsWelltyped, noted_tables, notes_of}
use Rattle.sw_lower_total_facts.proofs.Bodies.AllStand.{AllStand}
use Rattle.sw_lower_total_facts.proofs.Bodies.ProgramStands.{all_stand}
use Rattle.sw_lower_call_facts.proofs.Calls.Insides.{inside_made, inside_of, insides}
use Rattle.sw_lower_placed_facts.specs.Claims.{AreInside, BlocksPlaced, ExprsPlaced}
use Rattle.sw_lower_placed_facts.specs.Settled.{IsSettled}
use Rattle.sw_lower_placed_facts.specs.Hosts.{Program}
use Rattle.sw_lower_placed_facts.proofs.Settling.Program.{program_of}

-- A program that keeps the rules on declarations and types, with its bodies in order, where the
-- code of expressions and blocks is placed.
pub record IsProgram (decls : List Decl) (rule : AsyncDefault) (world : World)
    (ordered : List Body) : Type 0 where
  pub typed : IsWelltyped decls rule world
  pub are : AreOrdered (noted_tables world decls) decls ordered
  pub numbered : AreNumbered ordered
  pub made : AreMade ordered
  pub settled : IsSettled (program_of world decls ordered)
  pub exprs : ExprsPlaced (program_of world decls ordered)
  pub blocks : BlocksPlaced (program_of world decls ordered)

module _ (decls : List Decl) (rule : AsyncDefault) (world : World) (ordered : List Body)
    (given : IsProgram decls rule world ordered) where
  abbrev pub tables : Tables
  tables = noted_tables world decls

  abbrev pub answers : Answers
  answers = answers_in (said world decls)

  abbrev pub notes : List Note
  notes = notes_of world decls

  abbrev pub numbers : Numbers
  numbers = numbers_of ordered

  abbrev pub functions : List Function
  functions = functions_of ordered

  abbrev pub program : Program
  program = program_of world decls ordered

  abbrev pub Here : Body → Type 0
  Here = IsHere tables numbers functions

  pub all_here : All Here (program_bodies tables decls)
  all_here =
      All-permutation Here ordered (program_bodies tables decls)
      (IsPermutation-sym (program_bodies tables decls) ordered given.are.bodies)
      (bodies_here tables ordered given.numbered given.made)

  pub ground : Ground tables numbers functions
  ground =
      ground_of decls rule world (isolation_in notes) ordered given.typed.keyed
      given.typed.declared given.are given.numbered

  pub trees_stand : AllStand world decls numbers
  trees_stand =
      all_stand world decls rule numbers given.typed.keyed given.typed.scoped
      given.typed.declared

  -- The bodies of closures and tasks are bodies of the program.
  pub inside_among : (body : Body) → Contains (insides tables decls) body
      → Contains (program_bodies tables decls) body
  inside_among body has =
      let made = maker_of (inside_of tables) 0 0 decls body has in
      body_stands tables decls made.n made.g made.decl body made.stands
      (inside_made tables body made.n made.g made.decl made.has)

  -- The bodies in code of a declaration are those of closures and tasks.
  pub code_inside : (n g : ℕ) (decl : Decl) (some : List Body) → Stands decls n g decl
      → ((body : Body) → Contains some body → Contains (inside_of tables n g decl) body)
      → AreInside program some
  code_inside n g decl some stands among =
      let are : (body : Body) → Contains some body → Contains (insides tables decls) body =
      λ body has. made_by_one (inside_of tables) 0 0 decls n g decl body stands (among body has) in
      record {
        here = λ k d below.
            let body = get_or some k d in
            All-contains Here (program_bodies tables decls) body all_here
            (inside_among body (are body (All-contains_itself some k d below)));
        among = are;
      }

  -- The bodies of a declaration have functions.
  pub decl_here : (n g : ℕ) (decl : Decl) → Stands decls n g decl
      → All Here (decl_bodies tables n g decl)
  decl_here n g decl stands =
      λ k d below.
      let body = get_or (decl_bodies tables n g decl) k d in
      All-contains Here (program_bodies tables decls) body all_here
      (body_stands tables decls n g decl body stands
      (All-contains_itself (decl_bodies tables n g decl) k d below))
