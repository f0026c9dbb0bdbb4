-- Each program that keeps the rules on declarations and on types can be lowered.
use Rattle.std.proofs.Common.{◌≡◌, ◌<◌, ◌≤◌, ◌*◌, ◌^◌, ℕ, List, [], ◌∷◌, ◌++◌, length, Option}
use Rattle.std.proofs.Common.{Some, None, map, refl, arith}
use Rattle.std.proofs.lemmas.List.Elements.{All-cons, All-contains, All-head, All-nil, All-tail}
use Rattle.std.proofs.lemmas.List.Elements.{All-weaker}
use Rattle.std.proofs.lemmas.List.Sorted.{All-permutation, length_permutation}
use Rattle.std.specs.Prelude.{All, Err, IsOk, Ok, Result}
use Rattle.sw_tree.specs.declared.decl.Decl.{Decl}
use Rattle.sw_tree_facts.specs.Sizes.{size_of}
use Rattle.sw_graph.specs.Limits.{excess_of}
use Rattle.sw_graph.specs.declared.function.Excess.{Excess}
use Rattle.sw_graph.specs.declared.function.Function.{Function}
use Rattle.sw_decl_words.specs.Placed.{IsFirstPlaced}
use Rattle.sw_decls.specs.declared.signature.AsyncDefault.{AsyncDefault}
use Rattle.sw_typing_rules.specs.Programs.{said}
use Rattle.sw_typing_rules.specs.Worlds.{World}
use Rattle.sw_isolation_rules.specs.Answers.{answers_in}
use Rattle.sw_lower_plans.specs.Plan.{Numbers}
use Rattle.sw_lower_code.specs.Whole.{Body, HasManyBlocks, IsWhole, function_of, lower_body}
use Rattle.sw_lower_code.specs.Whole.{piece_of}
use Rattle.sw_lower_code.specs.declared.fault.BodyFault.{BodyFault}
use Rattle.sw_lower_code.specs.declared.fault.BodyFault.TheVariants as faults
use Rattle.sw_lower_code.proofs.WholeFacts.{blocks_fit, fits_points, lowers_whole, wants_no_memory}
use Rattle.sw_lower_rules.specs.Bodies.{AreMade, AreNumbered, AreOrdered, functions_of, numbers_of}
use Rattle.sw_lower_rules.specs.Bodies.{Lacks, LacksIn, lacks_asked, lacks_blocks, lacks_entry}
use Rattle.sw_lower_rules.specs.Bodies.{lacks_names, lacks_numbers, lacks_starts, placed_excess, program_bodies, too_large_in}
use Rattle.sw_lower_rules.specs.Tables.{Tables, isolation_in}
use Rattle.sw_lower_rules.specs.Bodies.{AreStarts, IsEntryNumber}
use Rattle.sw_lower_size_facts.proofs.Bodies.{bodies_are_short, program_short}
use Rattle.sw_typing_facts.proofs.Programs.WordKinds.{word_kinds}
use Rattle.sw_lower_total_facts.specs.Known.{TablesAgree}
use Rattle.sw_lower_total_facts.specs.Proceeding.{BodyProceeds}
use Rattle.sw_lower_total_facts.specs.Programs.{IsWelltyped, noted_tables, notes_of}
use Rattle.sw_lower_total_facts.proofs.Bodies.Given.{IsProgram}
use Rattle.sw_lower_total_facts.proofs.Bodies.ProgramBodies.{program_proceeds}
use Rattle.sw_lower_total_facts.proofs.Bodies.ProgramStands.{all_stand}
use Rattle.sw_lower_total_facts.proofs.Expressions.Shapes.{shapes_stand}
use Rattle.sw_lower_total_facts.proofs.Induction.{block_proceeds_of, expr_proceeds}
use Rattle.sw_lower_total_facts.proofs.Programs.Knowing.{known_of}
use Rattle.sw_lower_total_facts.proofs.Programs.NamesApart.{names_are_apart}
use Rattle.sw_lower_total_facts.proofs.Programs.Numbered.{bodies_are_numbered}
use Rattle.sw_lower_total_facts.proofs.Programs.Starting.{entry_is, starts_are}
use Rattle.sw_lower_total_facts.proofs.Standing.Programs.{selves_no_var}

-- A body whose code asks for nothing that isn't known is made, where its function isn't too large.
made_of : (number : Numbers) (body : Body) (result : Result Function BodyFault)
    → IsWhole number body result → (result ≡ Err faults.Missing → ⊥)
    → (result ≡ Err faults.Memory → ⊥) → excess_of (function_of number body) ≡ None → IsOk result
made_of number body (Ok function) whole known wants fits = refl
made_of number body (Err (faults.TooManyRegisters key)) (same, large) known wants fits =
    cc (large, fits)
made_of number body (Err (faults.TooManyPoints key)) (same, large) known wants fits =
    cc (large, fits)
made_of number body (Err faults.TooManyBlocks) large known wants fits =
    absurd (blocks_fit number body (fits_points (function_of number body) fits) large)
made_of number body (Err faults.Missing) whole known wants fits = absurd (known refl)
made_of number body (Err faults.Memory) whole known wants fits = absurd (wants refl)

-- No function is too large where none is the first.
fits_all : (functions : List Function) → too_large_in functions ≡ []
    → All (λ (function : Function). excess_of function ≡ None) functions
fits_all [] none = All-nil (λ (function : Function). excess_of function ≡ None)
fits_all (function ∷ functions) none =
    by (excess_of function) refl none (λ rest. fits_all functions rest) where
      Fits : Function → Type 0
      Fits function = excess_of function ≡ None

      by : (found : Option Excess) → excess_of function ≡ found
          → placed_excess function.key found ++ too_large_in functions ≡ []
          → (too_large_in functions ≡ [] → All Fits functions) → All Fits (function ∷ functions)
      by None is rest more = All-cons Fits function functions is (more rest)
      by (Some excess) is rest more = cc

made_all : (number : Numbers) (bodies : List Body)
    → All (λ (function : Function). excess_of function ≡ None) (map (function_of number) bodies)
    → All (BodyProceeds number) bodies
    → All (λ (body : Body). IsOk (lower_body number body)) bodies
made_all number [] fit known = All-nil (λ (body : Body). IsOk (lower_body number body))
made_all number (body ∷ bodies) fit known =
    let Fits = λ (function : Function). excess_of function ≡ None in
    All-cons (λ (body : Body). IsOk (lower_body number body)) body bodies
    (made_of number body (lower_body number body) (lowers_whole number body)
    (All-head (BodyProceeds number) body bodies known) (wants_no_memory number body)
    (All-head Fits (function_of number body) (map (function_of number) bodies) fit))
    (made_all number bodies
    (All-tail Fits (function_of number body) (map (function_of number) bodies) fit)
    (All-tail (BodyProceeds number) body bodies known))

module _ (decls : List Decl) (rule : AsyncDefault) (world : World)
    (is : IsWelltyped decls rule world) (ordered : List Body)
    (are : AreOrdered (noted_tables world decls) decls ordered) where
  abbrev number : Numbers
  number = numbers_of ordered

  known : TablesAgree (noted_tables world decls) number (notes_of world decls)
  known = known_of decls rule world ordered is.declared are
      (selves_no_var decls rule world (answers_in (said world decls)) is.keyed is.scoped
      is.declared)

  program : IsProgram world decls rule number
  program = record {
    keyed = is.keyed;
    scoped = is.scoped;
    declared = is.declared;
    sound = is.sound;
    well = is.well;
    known = known;
    exprs = expr_proceeds (noted_tables world decls) number (notes_of world decls) known
        (shapes_stand decls rule world is.declared) (word_kinds decls rule world is.declared);
    blocks = block_proceeds_of (noted_tables world decls) number (notes_of world decls) known
        (shapes_stand decls rule world is.declared) (word_kinds decls rule world is.declared);
  }

  -- The code of each body asks for nothing that isn't known.
  pub bodies_proceed : All (BodyProceeds number) ordered
  bodies_proceed =
      All-permutation (BodyProceeds number) (program_bodies (noted_tables world decls) decls)
      ordered are.bodies
      (program_proceeds world decls rule number program
      (all_stand world decls rule number is.keyed is.scoped is.declared) is.written
      (bodies_are_numbered (noted_tables world decls) decls ordered are))

  -- Each body is found by its name.
  pub bodies_are_found : AreNumbered ordered
  bodies_are_found =
      names_are_apart world (answers_in (said world decls)) (isolation_in (notes_of world decls))
      decls rule is.keyed is.declared ordered are

  -- Each body is made, where no function is too large.
  pub bodies_are_made : IsFirstPlaced (too_large_in (functions_of ordered)) None → AreMade ordered
  bodies_are_made none =
      made_all number ordered (fits_all (functions_of ordered) none) bodies_proceed

  -- The entry has a number, and so has what gives each global variable its first value.
  pub has_entry_number : (entry : ℕ) × IsEntryNumber decls ordered entry
  has_entry_number =
      entry_is world (answers_in (said world decls)) (isolation_in (notes_of world decls)) decls
      rule is.declared ordered are is.sound

  pub has_starts : (starts : List ℕ) × AreStarts world ordered starts
  has_starts =
      starts_are world (answers_in (said world decls)) (isolation_in (notes_of world decls)) decls
      rule is.declared ordered are is.valued

-- In a small program no body has more blocks than there are numbers, and no more bodies are in it.
few_blocks : (decls : List Decl) (tables : Tables) (ordered : List Body)
    → size_of decls < 2 ^ 30 → AreOrdered tables decls ordered
    → All (λ (body : Body). HasManyBlocks (numbers_of ordered) body → ⊥) ordered
few_blocks decls tables ordered small are =
    let Short = λ (body : Body). length (piece_of (numbers_of ordered) body).made
    ≤ 3 * size_of decls in
    All-weaker Short (λ (body : Body). HasManyBlocks (numbers_of ordered) body → ⊥)
    (λ body short many. omega (arith, small, short, many)) ordered
    (All-permutation Short (program_bodies tables decls) ordered are.bodies
    (bodies_are_short tables decls (numbers_of ordered)))

few_bodies : (decls : List Decl) (tables : Tables) (ordered : List Body)
    → size_of decls < 2 ^ 30 → AreOrdered tables decls ordered → 2 ^ 32 ≤ length ordered → ⊥
few_bodies decls tables ordered small are many =
    omega (
      arith,
      small,
      many,
      (program_short tables decls).few,
      length_permutation (program_bodies tables decls) ordered are.bodies,
    )

-- Nothing is missing in such a program.
pub lacks_nothing : (decls : List Decl) (rule : AsyncDefault) (world : World)
    → IsWelltyped decls rule world → Lacks (noted_tables world decls) decls → ⊥
lacks_nothing decls rule world is (ordered, are, lacks) = by lacks where
  by : LacksIn world decls ordered → ⊥
  by (lacks_names unnamed) = unnamed (bodies_are_found decls rule world is ordered are)
  by (lacks_asked body among missing) =
      All-contains (BodyProceeds (numbers_of ordered)) ordered body
      (bodies_proceed decls rule world is ordered are) among missing
  by (lacks_blocks body among many) =
      All-contains (λ (body : Body). HasManyBlocks (numbers_of ordered) body → ⊥) ordered body
      (few_blocks decls (noted_tables world decls) ordered is.small are) among many
  by (lacks_numbers many) = few_bodies decls (noted_tables world decls) ordered is.small are many
  by (lacks_entry none) = none (has_entry_number decls rule world is ordered are)
  by (lacks_starts none) = none (has_starts decls rule world is ordered are)
