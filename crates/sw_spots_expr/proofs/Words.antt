-- The work of words stands where their code is: variables, `self`, properties and global variables.
use Rattle.std.proofs.Common.{◌≡◌, ℕ, Bool, true, false, Option, Some, None, List, [], ◌∷◌, ◌++◌}
use Rattle.std.proofs.Common.{length, refl, ap, sym, ◌∙◌, subst}
use Rattle.std.specs.Prelude.{Ok, if◌then◌else◌, slice_get}
use Rattle.std.specs.Option.{option_map}
use Rattle.sw_types.specs.declared.isolation.CallKind.{CallKind}
use Rattle.sw_types.specs.declared.shape.ShapeKind.{ShapeKind}
use Rattle.sw_types.specs.declared.shape.ShapeKind.TheVariants as shapes
use Rattle.sw_types.specs.declared.ty.Ty.{Ty}
use Rattle.sw_types.specs.declared.ty.Ty.TheVariants as types
use Rattle.sw_graph.specs.declared.function.Function.{Function}
use Rattle.sw_graph.specs.declared.instr.Instr.TheVariants as instr
use Rattle.sw_graph.specs.declared.instr.Operand.{Operand}
use Rattle.sw_decls.specs.declared.signature.GlobalVar.{GlobalVar}
use Rattle.sw_typing_rules.specs.Worlds.{and_then}
use Rattle.sw_typing_rules.specs.declared.row.Meaning.{Meaning}
use Rattle.sw_typing_rules.specs.declared.row.Meaning.TheVariants as means
use Rattle.sw_lower_plans.specs.Plan.{Numbers, var_in}
use Rattle.sw_lower_plans.specs.Run.{Making}
use Rattle.sw_lower_plans.specs.declared.bound.Bound.{Bound}
use Rattle.sw_lower_plans.specs.declared.name.FunctionName.{FunctionName}
use Rattle.sw_lower_code.specs.Code.{done, ◌>>=◌}
use Rattle.sw_lower_rules.specs.Tables.{Tables, getter_of}
use Rattle.sw_lower_rules.specs.Uses.{call_getter, give, global_by, no_global, no_operand}
use Rattle.sw_lower_rules.specs.Uses.{no_part, no_shape, operand, part_at, part_by, part_in}
use Rattle.sw_lower_rules.specs.Uses.{read_bound, read_global, read_own, read_part, read_self, read_var}
use Rattle.sw_lower_rules.specs.Uses.{read_word, self_key, shape_at, typed, unknown, word_by}
use Rattle.sw_lower_run_facts.proofs.Runs.{done_ran}
use Rattle.sw_tree_work.specs.Meanings as works
use Rattle.sw_tree_work.specs.Work as work
use Rattle.sw_tree_work.specs.Work.{Before, BodyName, Work}
use Rattle.sw_spots.specs.Doing.{Did, Does, used}
use Rattle.sw_spots.specs.Forms.{ValueStands, facts_of, function_name, program}
use Rattle.sw_spots.specs.Making.{IsReady, spot_of}
use Rattle.sw_spots.specs.Spots.{CallAt, Program, ReadAt, Stands}
use Rattle.sw_spots.proofs.Going.{below_rest, ready_with, went_none}
use Rattle.sw_spots.proofs.Joining.{did_at, does_for_known, does_known, does_never, does_number}
use Rattle.sw_spots.proofs.Joining.{does_then, many_used, ran_known, ran_var}
use Rattle.sw_spots.proofs.Writing.{did_give, does_give}

module _ (tables : Tables) (numbers : Numbers) (functions : List Function) where
  abbrev p : Program
  p = program tables numbers functions

  -- what isn't known has no code that runs
  pub does_unknown : (temps : List ℕ) (before : Before) (after : Operand → List ℕ)
      → Does p numbers temps unknown before after
  unfolding unknown
  does_unknown temps before after = does_never p numbers temps no_operand before after

  -- the call of a function that is found by a name
  pub does_call : (os : List Operand) (temps : List ℕ) (count at : ℕ) (kind : CallKind)
      (name : BodyName) (f : ℕ) (ty : Ty) → length os ≡ count
      → and_then (function_name tables name) numbers ≡ Some f
      → Does p numbers (used os ++ temps) (give at ty (λ r. instr.Call at r kind f os))
      (work.Then (work.Call at kind name count)) (λ o. o.reg ∷ temps)
  does_call os temps count at kind name f ty many found =
      does_give p numbers (used os ++ temps) temps at ty (λ r. instr.Call at r kind f os)
      (work.Then (work.Call at kind name count)) (λ n all. below_rest n (used os) temps all)
      (λ g rings rest s gives. many_used os temps count
      (CallAt p at kind name g (spot_of s (used os ++ temps)) (λ next. Stands p rest g rings next)) many
      (f, found, (os, refl, gives)))

  -- of a getter
  pub does_getter : (os : List Operand) (temps : List ℕ) (count at : ℕ) (kind : CallKind)
      (name : BodyName) (key : ℕ) (ty : Ty) → length os ≡ count
      → function_name tables name ≡ Some (getter_of key)
      → Does p numbers (used os ++ temps) (call_getter tables at kind ty key os)
      (work.Then (work.Call at kind name count)) (λ o. o.reg ∷ temps)
  unfolding call_getter
  does_getter os temps count at kind name key ty many named =
      does_number p numbers (used os ++ temps) (getter_of key)
      (λ f. give at ty (λ r. instr.Call at r kind f os)) (work.Then (work.Call at kind name count))
      (λ o. o.reg ∷ temps)
      (λ f found. does_call os temps count at kind name f ty many
      (ap (λ (o : Option FunctionName). and_then o numbers) named ∙ found))

  -- a variable: what it has, or what its box has
  pub did_read : (at first key : ℕ) (bound : Bound) (s t : Making) (temps : List ℕ) (given : Operand)
      → IsReady numbers s temps → t.over ≡ false → var_in key s.vars ≡ Some bound
      → (boxed : Bool) → bound.boxed ≡ boxed
      → (if boxed then (typed tables bound.key
      >>= λ ty. give first ty (λ r. instr.LoadBox at r (operand bound.reg first)))
      else done (operand bound.reg first)).run s
      ≡ Ok (given, t)
      → Did p numbers s temps (work.Then (work.Read key)) t (given.reg ∷ temps)
  unfolding typed
  did_read at first key bound s t temps given ready fits found false plain ran =
      let same = done_ran (operand bound.reg first) given s t ran in
      did_at p numbers s s t temps (bound.reg ∷ temps) (given.reg ∷ temps)
      (work.Then (work.Read key)) same.1 (ap (λ (o : Operand). o.reg ∷ temps) same.0) (record {
        went = went_none (λ b. b ≡ s.here) s refl ready.going
            (ap (λ (x : Making). x.over) same.1 ∙ fits);
        vars = refl;
        ready = ready_with numbers s temps (bound.reg ∷ temps) ready
            (ready.variables key bound found, ready.temporaries);
        stands = λ f rings rest final stands. (
          bound,
          found,
          subst (ReadAt f (spot_of s temps) (λ next. Stands p rest f rings next) bound)
              (sym plain) stands,
        );
      })
  did_read at first key bound s t temps given ready fits found true boxed ran =
      let a = ran_known types.Unit (tables.answers.type_at bound.key)
      (λ ty. give first ty (λ r. instr.LoadBox at r (operand bound.reg first))) s t given ran in
      did_give p numbers s t temps temps first a.0
      (λ r. instr.LoadBox at r (operand bound.reg first)) given (work.Then (work.Read key))
      (λ n all. all)
      (λ f rings rest gives. (
        bound,
        found,
        subst (ReadAt f (spot_of s temps) (λ next. Stands p rest f rings next) bound) (sym boxed)
            (at, (operand bound.reg first, refl, gives)),
      )) ready fits a.2

  pub reads_var : (at key : ℕ)
      → ValueStands tables numbers functions (read_var tables at key) (work.Then (work.Read key))
  unfolding read_var read_bound
  reads_var at key temps s t given ready fits ran =
      let a = ran_var key (read_bound tables at) s t given ran in
      did_read at at key a.0 s t temps given ready fits a.1 a.0.boxed refl a.2

  -- the part of a value
  does_field : (at number : ℕ) (ty : Ty) (base : Operand) (temps : List ℕ)
      → Does p numbers (base.reg ∷ temps) (give at ty (λ r. instr.Field at r base number))
      (work.Then (work.Field number)) (λ o. o.reg ∷ temps)
  does_field at number ty base temps =
      does_give p numbers (base.reg ∷ temps) temps at ty (λ r. instr.Field at r base number)
      (work.Then (work.Field number)) (λ n all. all.1)
      (λ f rings rest s gives. (at, (base, refl, gives)))

  does_stored : (kind : Option CallKind) (at shape number : ℕ) (ty : Ty) (cell : Operand)
      (temps : List ℕ)
      → Does p numbers (cell.reg ∷ temps) (part_by tables kind at shape number ty cell)
      (works.stored_part (facts_of tables) kind at shape number) (λ o. o.reg ∷ temps)
  does_stored None at shape number ty cell temps =
      does_give p numbers (cell.reg ∷ temps) temps at ty (λ r. instr.LoadProp at r cell number)
      (work.Then (work.LoadPart number)) (λ n all. all.1)
      (λ f rings rest s gives. (at, (cell, refl, gives)))
  does_stored (Some kind) at shape number ty cell temps =
      does_known p numbers (cell.reg ∷ temps) 0 (tables.part_key shape number)
      (λ key. call_getter tables at kind ty key (cell ∷ []))
      (work.Then (work.Call at kind (work.PartGetter shape number) 1)) (λ o. o.reg ∷ temps)
      (λ key found. does_getter (cell ∷ []) temps 1 at kind (work.PartGetter shape number) key ty refl
      (ap (option_map getter_of) found))

  does_part : (kind : ShapeKind) (at shape number : ℕ) (ty : Ty) (base : Operand)
      (temps : List ℕ)
      → Does p numbers (base.reg ∷ temps) (part_in tables kind at shape number ty base)
      (works.part_of_kind (facts_of tables) kind at shape number) (λ o. o.reg ∷ temps)
  does_part shapes.Struct at shape number ty base temps = does_field at number ty base temps
  does_part shapes.Enum at shape number ty base temps = does_unknown (base.reg ∷ temps) _ _
  does_part shapes.Class at shape number ty base temps =
      does_stored (tables.isolation.kind_at at) at shape number ty base temps
  does_part shapes.Actor at shape number ty base temps =
      does_stored (tables.isolation.kind_at at) at shape number ty base temps

  pub does_read_part : (at shape number : ℕ) (base : Operand) (temps : List ℕ)
      → Does p numbers (base.reg ∷ temps) (read_part tables at shape number base)
      (works.read_part (facts_of tables) at shape number) (λ o. o.reg ∷ temps)
  unfolding read_part shape_at part_at
  does_read_part at shape number base temps =
      does_for_known p numbers (base.reg ∷ temps) no_shape (slice_get tables.world.shapes shape) _
      (λ s. works.part_of_kind (facts_of tables) s.kind at shape number) (λ o. o.reg ∷ temps)
      (λ s found. does_known p numbers (base.reg ∷ temps) no_part (slice_get s.parts number)
      (λ part. part_in tables s.kind at shape number part.ty base)
      (works.part_of_kind (facts_of tables) s.kind at shape number) (λ o. o.reg ∷ temps)
      (λ part is. does_part s.kind at shape number part.ty base temps))

  -- global variables
  does_global : (kind : Option CallKind) (at number : ℕ) (global : GlobalVar) (temps : List ℕ)
      → slice_get tables.world.globals number ≡ Some global
      → Does p numbers temps (global_by tables kind at number global)
      (works.read_global_by (facts_of tables) kind at number) (λ o. o.reg ∷ temps)
  does_global None at number global temps found =
      does_give p numbers temps temps at global.ty (λ r. instr.LoadGlobal at r number)
      (work.Then (work.LoadGlobal number)) (λ n all. all)
      (λ f rings rest s gives. (at, gives))
  does_global (Some kind) at number global temps found =
      does_getter [] temps 0 at kind (work.GlobalGetter number) global.key.at global.ty refl
      (ap (option_map (λ (one : GlobalVar). getter_of one.key.at)) found)

  pub reads_global : (at number : ℕ)
      → ValueStands tables numbers functions (read_global tables at number)
      (works.read_global (facts_of tables) at number)
  unfolding read_global
  reads_global at number temps =
      does_known p numbers temps no_global (slice_get tables.world.globals number)
      (global_by tables (tables.isolation.kind_at at) at number)
      (works.read_global (facts_of tables) at number) (λ o. o.reg ∷ temps)
      (λ global found.
      does_global (tables.isolation.kind_at at) at number global temps found)

  module _ (owner : Option ℕ) where
    pub reads_self : (at : ℕ)
        → ValueStands tables numbers functions (read_self tables owner at)
        (works.read_self (facts_of tables) owner)
    unfolding read_self self_key
    reads_self at temps =
        does_for_known p numbers temps 0 (self_key tables owner) (λ key. read_var tables at key)
        (λ key. work.Then (work.Read key)) (λ o. o.reg ∷ temps)
        (λ key found. reads_var at key temps)

    -- a property of `self`
    pub reads_own : (at number : ℕ)
        → ValueStands tables numbers functions (read_own tables owner at number)
        (works.read_own (facts_of tables) owner at number)
    unfolding read_own
    reads_own at number temps =
        does_then p numbers temps (read_self tables owner at) _
        (works.read_self (facts_of tables) owner) _ (λ o. o.reg ∷ temps) (λ o. o.reg ∷ temps)
        (reads_self at temps)
        (λ me. does_for_known p numbers (me.reg ∷ temps) 0 owner
        (λ shape. read_part tables at shape number me)
        (λ shape. works.read_part (facts_of tables) at shape number) (λ o. o.reg ∷ temps)
        (λ shape found. does_read_part at shape number me temps))

    reads_by : (at : ℕ) (meaning : Option Meaning)
        → ValueStands tables numbers functions (word_by tables owner at meaning)
        (works.word_read (facts_of tables) owner at meaning)
    reads_by at None temps = does_unknown temps _ _
    reads_by at (Some (means.Local variable)) temps = reads_var at variable temps
    reads_by at (Some (means.OwnPart number)) temps = reads_own at number temps
    reads_by at (Some (means.OwnFunc number)) temps = does_unknown temps _ _
    reads_by at (Some (means.GlobalOf number)) temps = reads_global at number temps
    reads_by at (Some (means.FuncOf number)) temps = does_unknown temps _ _
    reads_by at (Some (means.MakeOf shape)) temps = does_unknown temps _ _
    reads_by at (Some (means.CaseOf shape number)) temps = does_unknown temps _ _
    reads_by at (Some (means.PartOf number)) temps = does_unknown temps _ _
    reads_by at (Some means.Print) temps = does_unknown temps _ _
    reads_by at (Some means.TaskValue) temps = does_unknown temps _ _

    pub reads_word : (at : ℕ)
        → ValueStands tables numbers functions (read_word tables owner at)
        (works.word_read (facts_of tables) owner at (tables.answers.meaning_at at))
    unfolding read_word
    reads_word at = reads_by at (tables.answers.meaning_at at)
