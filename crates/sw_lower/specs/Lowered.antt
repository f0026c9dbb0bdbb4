-- The functions that are made of a program's bodies, and the fault of a program that has none.
use Rattle.std.specs.Prelude.{◌≡◌, ◌⊎◌, ℕ, Bool, ◌||◌, nat_lt, List, [], Some, Result, Ok, Err}
use Rattle.std.specs.Prelude.{Contains, IsOk, if◌then◌else◌}
use Rattle.sw_types.specs.declared.ty.Ty.{Ty}
use Rattle.sw_graph.specs.declared.function.TheConstants.{MAX_POINTS}
use Rattle.sw_lower_builder.specs.Unfinished.{finished}
use Rattle.sw_lower_plans.specs.Run.{Making, points}
use Rattle.sw_lower_code.specs.declared.fault.BodyFault.{BodyFault}
use Rattle.sw_lower_code.specs.declared.fault.BodyFault.TheVariants as body_faults
use Rattle.sw_graph.specs.declared.function.Function.{Function}
use Rattle.sw_tree.specs.declared.decl.Decl.{Decl}
use Rattle.sw_lower_draft.specs.Drafts.{number_by}
use Rattle.sw_lower_draft.specs.declared.numbers.NumberTable.{NumberTable}
use Rattle.sw_lower.specs.declared.fault.LowerFault.{LowerFault}
use Rattle.sw_lower.specs.declared.fault.LowerFault.TheVariants as faults
use Rattle.sw_lower.specs.declared.lowering.Lowering.{Lowering}
use Rattle.sw_lower.specs.declared.lowering.Made.{Made}
use Rattle.sw_lower.specs.declared.lowering.MadeProgram.{MadeProgram}
use Rattle.sw_lower_bodies.specs.Trees.{body_by}
use Rattle.sw_lower_bodies.specs.declared.body_tree.BodyTree.{BodyTree}
use Rattle.sw_lower_code.specs.Whole.{Body, HasManyBlocks, function_of, lower_body}
use Rattle.sw_lower_known.specs.Knowledge.{tables_by}
use Rattle.sw_lower_known.specs.declared.known.Known.{Known}
use Rattle.sw_lower_rules.specs.Bodies.{AreMade, AreNumbered, AreOrdered, AreStarts, IsEntryNumber}
use Rattle.sw_lower_rules.specs.Bodies.{HasFunctions, IsFirstTooLarge, Lacks, functions_of}
use Rattle.sw_lower_rules.specs.Bodies.{too_large_in}
use Rattle.sw_lower_rules.specs.Tables.{Tables}

-- what a function is that is made, where it has no more points than it may have
abbrev pub finished_by : ℕ → ℕ → List Bool → Bool → Ty → Making → Result Function BodyFault
finished_by key takes sending sends gives making =
    if making.over || nat_lt MAX_POINTS (points making)
    then Err (body_faults.TooManyPoints key)
    else Ok (finished making.made takes sending sends gives)

-- the function of a body
abbrev pub function_by : Known → NumberTable → BodyTree → Function
function_by known numbers tree = function_of (number_by numbers) (body_by (tables_by known) tree)

-- the run of a body's code ends well
abbrev pub EndsWell : Known → NumberTable → BodyTree → Type 0
EndsWell known numbers tree =
    IsOk (lower_body (number_by numbers) (body_by (tables_by known) tree))

-- It ends for want of something that the code asks for, or of a number for a block.
abbrev pub AsksInVain : Known → NumberTable → BodyTree → Type 0
AsksInVain known numbers tree =
    let body = body_by (tables_by known) tree in
    (lower_body (number_by numbers) body ≡ Err body_faults.Missing)
    ⊎ HasManyBlocks (number_by numbers) body

-- So it does for one of these bodies.
abbrev pub SomeAsks : Known → NumberTable → List BodyTree → Type 0
SomeAsks known numbers trees =
    (tree : BodyTree) × Contains trees tree × AsksInVain known numbers tree

-- The fault is that something is missing, which this says, or that memory ran out.
abbrev pub FailsFor : Type 0 → LowerFault → Type 0
FailsFor Lacking (faults.Breach code at) = ⊥
FailsFor Lacking faults.Missing = Lacking
FailsFor Lacking faults.Memory = Unit {0}

-- The functions are made where none is too large, and all that are too large are named.
pub record HasMade (functions : List Function) (made : Made) : Type 0 where
  pub too_large : made.too_large ≡ too_large_in functions
  pub fitting : made.too_large ≡ [] → made.functions ≡ functions

-- what is made of a program
pub record IsMadeOf (tables : Tables) (decls : List Decl) (program : MadeProgram) : Type 0 where
  pub ordered : List Body
  pub are_ordered : AreOrdered tables decls ordered
  pub are_made : HasMade (functions_of ordered) program.made
  pub numbered : AreNumbered ordered
  pub ended : program.made.too_large ≡ [] → AreMade ordered
  pub entry : IsEntryNumber decls ordered program.entry
  pub starts : AreStarts tables.world ordered program.starts

-- the functions are those of a program, and so are the numbers of its entry and of its first values
pub record IsLowering (tables : Tables) (decls : List Decl) (lowering : Lowering) : Type 0 where
  pub has : HasFunctions tables decls lowering.functions
  pub entry : IsEntryNumber decls has.ordered lowering.entry
  pub starts : AreStarts tables.world has.ordered lowering.starts

-- The fault is the first function of a program that is too large, or that something is missing in
-- the program. Nothing is said of memory.
abbrev pub IsFaultOf : Tables → List Decl → LowerFault → Type 0
IsFaultOf tables decls (faults.Breach code at) =
    IsFirstTooLarge tables decls (Some (record { at = at; code = code }))
IsFaultOf tables decls faults.Missing = Lacks tables decls
IsFaultOf tables decls faults.Memory = Unit {0}
