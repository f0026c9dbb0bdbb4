-- The work of members stands where their code is.
use Rattle.std.proofs.Common.{◌≡◌, ℕ, Option, Some, None, List, [], ◌∷◌, ◌++◌, length, refl, subst}
use Rattle.sw_types.specs.declared.ty.Ty.TheVariants as types
use Rattle.sw_graph.specs.declared.function.Function.{Function}
use Rattle.sw_graph.specs.declared.instr.Instr.TheVariants as instr
use Rattle.sw_graph.specs.declared.instr.Operand.{Operand}
use Rattle.sw_typing_rules.specs.declared.row.Meaning.{Meaning}
use Rattle.sw_typing_rules.specs.declared.row.Meaning.TheVariants as means
use Rattle.sw_isolation_rules.specs.Uses.{named_shape}
use Rattle.sw_lower_plans.specs.Plan.{Numbers}
use Rattle.sw_lower_rules.specs.Carriers.{ExprCode}
use Rattle.sw_lower_rules.specs.Expressions.{member_read, member_write, read_of_base, write_part}
use Rattle.sw_lower_rules.specs.Tables.{Tables}
use Rattle.sw_lower_rules.specs.Uses.{give, make_value, read_part, shape_of, typed}
use Rattle.sw_tree_work.specs.Forms.{ExprWork, for_known}
use Rattle.sw_tree_work.specs.Meanings as works
use Rattle.sw_tree_work.specs.Work as work
use Rattle.sw_spots.specs.Doing.{Does, Writes, used}
use Rattle.sw_spots.specs.Forms.{ExprStands, ValueStands, facts_of, program}
use Rattle.sw_spots.specs.Making.{spot_of}
use Rattle.sw_spots.specs.Spots.{MakeAt, Program, Stands}
use Rattle.sw_spots.proofs.Going.{below_rest}
use Rattle.sw_spots.proofs.Joining.{does_for_known, does_known, does_never, does_then}
use Rattle.sw_spots.proofs.Joining.{many_used}
use Rattle.sw_spots.proofs.Writing.{does_give}
use Rattle.sw_spots_expr.proofs.Words.{does_read_part, does_unknown}
use Rattle.sw_spots_expr.proofs.Writes.{writes_part}

module _ (tables : Tables) (numbers : Numbers) (functions : List Function) where
  abbrev p : Program
  p = program tables numbers functions

  -- a struct, or the case of an enum
  pub does_make : (os : List Operand) (temps : List ℕ) (count at shape : ℕ) (tag : Option ℕ)
      → length os ≡ count
      → Does p numbers (used os ++ temps) (make_value at shape tag os)
      (work.Then (work.Make tag count)) (λ o. o.reg ∷ temps)
  unfolding make_value
  does_make os temps count at shape tag many =
      does_give p numbers (used os ++ temps) temps at (types.Named shape)
      (λ r. instr.Make at r shape tag os) (work.Then (work.Make tag count))
      (λ n all. below_rest n (used os) temps all)
      (λ f rings rest s gives. many_used os temps count
      (MakeAt tag f (spot_of s (used os ++ temps)) (λ next. Stands p rest f rings next)) many
      (at, shape, (os, refl, gives)))

  module _ (owner : Option ℕ) (base : ExprCode) (one : ExprWork)
      (is : ExprStands tables numbers functions base one) where
    pub reads_of_base : (at number : ℕ)
        → ValueStands tables numbers functions (read_of_base tables owner at base number)
        (works.part_of_base (facts_of tables) owner at one number)
    unfolding shape_of
    reads_of_base at number temps =
        subst (λ key. Does p numbers temps (read_of_base tables owner at base number)
        (λ rest. one.read (for_known (named_shape (tables.answers.type_at key))
        (λ shape. works.read_part (facts_of tables) at shape number) rest)) (λ o. o.reg ∷ temps)) is.key
        (does_then p numbers temps base.read _ one.read _ (λ o. o.reg ∷ temps)
        (λ o. o.reg ∷ temps) (is.read temps)
        (λ from. does_for_known p numbers (from.reg ∷ temps) 0
        (named_shape (tables.answers.type_at base.key))
        (λ shape. read_part tables at shape number from)
        (λ shape. works.read_part (facts_of tables) at shape number) (λ o. o.reg ∷ temps)
        (λ shape found.
        does_read_part tables numbers functions at shape number from temps)))

    -- the value of a task
    reads_task : (at : ℕ)
        → ValueStands tables numbers functions
        (member_read tables owner at base (Some means.TaskValue))
        (works.task_value (facts_of tables) owner one)
    unfolding typed
    reads_task at temps =
        does_then p numbers temps base.read _ one.read (work.Then work.Await) (λ o. o.reg ∷ temps)
        (λ o. o.reg ∷ temps) (is.read temps)
        (λ task. does_known p numbers (task.reg ∷ temps) types.Unit (tables.answers.type_at at)
        (λ ty. give at ty (λ r. instr.Await at r task)) (work.Then work.Await)
        (λ o. o.reg ∷ temps)
        (λ ty found. does_give p numbers (task.reg ∷ temps) temps at ty
        (λ r. instr.Await at r task) (work.Then work.Await) (λ n all. all.1)
        (λ f rings rest s gives. (at, (task, refl, gives)))))

    pub reads_member : (at : ℕ) (meaning : Option Meaning)
        → ValueStands tables numbers functions (member_read tables owner at base meaning)
        (works.member_read (facts_of tables) owner at one meaning)
    reads_member at None temps = does_unknown tables numbers functions temps _ _
    reads_member at (Some (means.Local variable)) temps =
        does_unknown tables numbers functions temps _ _
    reads_member at (Some (means.OwnPart number)) temps =
        does_unknown tables numbers functions temps _ _
    reads_member at (Some (means.OwnFunc number)) temps =
        does_unknown tables numbers functions temps _ _
    reads_member at (Some (means.GlobalOf number)) temps =
        does_unknown tables numbers functions temps _ _
    reads_member at (Some (means.FuncOf number)) temps =
        does_unknown tables numbers functions temps _ _
    reads_member at (Some (means.MakeOf shape)) temps =
        does_unknown tables numbers functions temps _ _
    reads_member at (Some (means.CaseOf shape number)) temps =
        does_make [] temps 0 at shape (Some number) refl
    reads_member at (Some (means.PartOf number)) temps = reads_of_base at number temps
    reads_member at (Some means.Print) temps = does_unknown tables numbers functions temps _ _
    reads_member at (Some means.TaskValue) temps = reads_task at temps

    writes_of_base : (at number : ℕ)
        → Writes p numbers (member_write tables owner at base (Some (means.PartOf number)))
        (works.member_write (facts_of tables) owner one (Some (means.PartOf number)))
    unfolding shape_of
    writes_of_base at number given =
        subst (λ key. Does p numbers (given.reg ∷ [])
        (member_write tables owner at base (Some (means.PartOf number)) given)
        (for_known (named_shape (tables.answers.type_at key))
        (λ shape. works.write_part (facts_of tables) shape number one)) (λ done. [])) is.key
        (does_for_known p numbers (given.reg ∷ []) 0
        (named_shape (tables.answers.type_at base.key))
        (λ shape. write_part tables owner at shape number base given)
        (λ shape. works.write_part (facts_of tables) shape number one) (λ done. [])
        (λ shape found.
        writes_part tables numbers functions owner at shape number base one is given))

    pub writes_member : (at : ℕ) (meaning : Option Meaning)
        → Writes p numbers (member_write tables owner at base meaning)
        (works.member_write (facts_of tables) owner one meaning)
    writes_member at None given = does_never p numbers (given.reg ∷ []) tt _ _
    writes_member at (Some (means.Local variable)) given =
        does_never p numbers (given.reg ∷ []) tt _ _
    writes_member at (Some (means.OwnPart number)) given =
        does_never p numbers (given.reg ∷ []) tt _ _
    writes_member at (Some (means.OwnFunc number)) given =
        does_never p numbers (given.reg ∷ []) tt _ _
    writes_member at (Some (means.GlobalOf number)) given =
        does_never p numbers (given.reg ∷ []) tt _ _
    writes_member at (Some (means.FuncOf number)) given =
        does_never p numbers (given.reg ∷ []) tt _ _
    writes_member at (Some (means.MakeOf shape)) given =
        does_never p numbers (given.reg ∷ []) tt _ _
    writes_member at (Some (means.CaseOf shape number)) given =
        does_never p numbers (given.reg ∷ []) tt _ _
    writes_member at (Some (means.PartOf number)) given = writes_of_base at number given
    writes_member at (Some means.Print) given = does_never p numbers (given.reg ∷ []) tt _ _
    writes_member at (Some means.TaskValue) given =
        does_never p numbers (given.reg ∷ []) tt _ _
