-- The work of assignments stands where their code is.
use Rattle.std.proofs.Common.{◌≡◌, ℕ, Bool, true, false, Option, Some, None, List, [], ◌∷◌}
use Rattle.std.proofs.Common.{refl, ap, sym, ◌∙◌, subst, arith}
use Rattle.std.specs.Prelude.{Ok, if◌then◌else◌, slice_get}
use Rattle.sw_types.specs.declared.shape.ShapeKind.{ShapeKind}
use Rattle.sw_types.specs.declared.shape.ShapeKind.TheVariants as shapes
use Rattle.sw_types.specs.declared.ty.Ty.TheVariants as types
use Rattle.sw_graph.specs.declared.function.Function.{Function}
use Rattle.sw_graph.specs.declared.function.RegKind.{RegKind}
use Rattle.sw_graph.specs.declared.function.RegKind.TheVariants.{Plain}
use Rattle.sw_graph.specs.declared.instr.Instr.TheVariants as instr
use Rattle.sw_graph.specs.declared.instr.Operand.{Operand}
use Rattle.sw_typing_rules.specs.declared.row.Meaning.{Meaning}
use Rattle.sw_typing_rules.specs.declared.row.Meaning.TheVariants as means
use Rattle.sw_lower_plans.specs.Plan.{Numbers, var_in}
use Rattle.sw_lower_plans.specs.Run.{Making}
use Rattle.sw_lower_plans.specs.declared.bound.Bound.{Bound}
use Rattle.sw_lower_code.specs.Code.{Code, emit, reg, ◌>>=◌, ◌>>◌}
use Rattle.sw_lower_rules.specs.Carriers.{ExprCode}
use Rattle.sw_lower_rules.specs.Expressions.{own_base, set_part, unwritten, word_write, write_part}
use Rattle.sw_lower_rules.specs.Tables.{Tables}
use Rattle.sw_lower_rules.specs.Uses.{no_shape, operand, shape_at, write_bound, write_var}
use Rattle.sw_lower_run_facts.proofs.Runs.{made_of, ran_both}
use Rattle.sw_lower_run_facts.proofs.Steps.{reg_going, reg_ran}
use Rattle.sw_tree_work.specs.Forms.{ExprWork, value_at}
use Rattle.sw_tree_work.specs.Meanings as works
use Rattle.sw_tree_work.specs.Work as work
use Rattle.sw_tree_work.specs.Work.{Before, Work}
use Rattle.sw_spots.specs.Doing.{Did, Does, Writes}
use Rattle.sw_spots.specs.Forms.{ExprStands, facts_of, program}
use Rattle.sw_spots.specs.Making.{IsReady, spot_of}
use Rattle.sw_spots.specs.Spots.{Program, Stands, StoreAt}
use Rattle.sw_spots.proofs.Joining.{did_both, does_for_known, does_never, does_then}
use Rattle.sw_spots.proofs.Joining.{fits_between, ran_var}
use Rattle.sw_spots.proofs.Writing.{did_emit, did_made, does_emit}
use Rattle.sw_spots_expr.proofs.Words.{reads_self}

module _ (tables : Tables) (numbers : Numbers) (functions : List Function) where
  abbrev p : Program
  p = program tables numbers functions

  abbrev Assigns : (Operand → Code (Unit {0})) → Before → Type 0
  Assigns code before = Writes p numbers code before

  -- variables
  did_store : (at key : ℕ) (given : Operand) (bound : Bound) (s t : Making)
      → IsReady numbers s (given.reg ∷ []) → t.over ≡ false → var_in key s.vars ≡ Some bound
      → (boxed : Bool) → bound.boxed ≡ boxed
      → (if boxed then emit (instr.StoreBox at (operand bound.reg at) given)
      else emit (instr.Copy at bound.reg given)).run s ≡ Ok (tt, t)
      → Did p numbers s (given.reg ∷ []) (work.Then (work.Store key)) t []
  did_store at key given bound s t ready fits found true boxed ran =
      did_emit p numbers s t (given.reg ∷ []) [] (instr.StoreBox at (operand bound.reg at) given) tt
      (work.Then (work.Store key)) (λ n all. tt)
      (λ f rings rest regs is stands. (
        refl,
        bound,
        found,
        (λ other one seen same. ready.apart key other bound one found seen same),
        subst (StoreAt f (spot_of s (given.reg ∷ [])) given.reg
            (λ next. Stands p rest f rings next) bound) (sym boxed)
            (at, (given, refl, (operand bound.reg at, refl, (is, stands)))),
      ))
      ready fits ran
  did_store at key given bound s t ready fits found false plain ran =
      did_emit p numbers s t (given.reg ∷ []) [] (instr.Copy at bound.reg given) tt
      (work.Then (work.Store key)) (λ n all. tt)
      (λ f rings rest regs is stands. (
        refl,
        bound,
        found,
        (λ other one seen same. ready.apart key other bound one found seen same),
        subst (StoreAt f (spot_of s (given.reg ∷ [])) given.reg
            (λ next. Stands p rest f rings next) bound) (sym plain) (
              at,
              (
                given,
                refl,
                (
                  is,
                  (let less = ready.variables key bound found in
                      omega (arith, less, regs)),
                  stands,
                ),
              ),
            ),
      ))
      ready fits ran

  writes_var : (at key : ℕ) → Assigns (write_var tables at key) (work.Then (work.Store key))
  unfolding write_var write_bound
  writes_var at key given s t one ready fits ran =
      let a = ran_var key (write_bound at given) s t one ran in
      did_store at key given a.0 s t ready fits a.1 a.0.boxed refl a.2

  -- A struct gets a part in a copy of it.
  does_set : (at shape number key : ℕ) (old given : Operand)
      (write : Operand → Code (Unit {0})) (before : Before) → Assigns write before
      → Does p numbers (old.reg ∷ given.reg ∷ [])
      (reg (Plain (types.Named shape))
      >>= λ dst. emit (instr.Copy at dst old)
      >> emit (instr.SetField at (operand dst key) number given)
      >> write (operand dst key))
      (λ rest. work.Then work.Keep (work.Then (work.SetField number) (before rest))) (λ done. [])
  does_set at shape number key old given write before is s t done ready fits ran =
      let kind : RegKind = Plain (types.Named shape) in
      let a = ran_both (reg kind) (λ dst. emit (instr.Copy at dst old)
      >> emit (instr.SetField at (operand dst key) number given) >> write (operand dst key))
      s t done ran in
      let r = a.0 in
      let b = ran_both (emit (instr.Copy at r old))
      (λ one. emit (instr.SetField at (operand r key) number given) >> write (operand r key))
      a.1 t done a.3 in
      let c = ran_both (emit (instr.SetField at (operand r key) number given))
      (λ one. write (operand r key)) b.1 t done b.3 in
      let made = reg_ran kind s a.1 r a.2 in
      let going = reg_going s a.1 r made ready.going in
      let set = emit (instr.SetField at (operand r key) number given) in
      let going_b = (made_of (emit (instr.Copy at r old)) a.1 b.1 b.0 going b.2).1.there in
      let fits_c = fits_between set (write (operand r key)) b.1 c.1 t c.0 done going_b c.2 c.3 fits in
      let fits_b = fits_between (emit (instr.Copy at r old)) set a.1 b.1 c.1 b.0 c.0 going b.2 c.2
      fits_c in
      let first = did_made p numbers s a.1 b.1 (old.reg ∷ given.reg ∷ []) (old.reg ∷ given.reg ∷ [])
      (λ r. old.reg ∷ r ∷ given.reg ∷ []) kind (λ r. instr.Copy at r old) r b.0
      (work.Then work.Keep) (λ n all. all) (λ n r all small. (all.0, (small, all.1)))
      (λ f rings rest gives. (at, (old, refl, gives))) ready fits_b a.2 b.2 in
      let regs = made.is in
      let second = did_emit p numbers b.1 c.1 (old.reg ∷ r ∷ given.reg ∷ []) (r ∷ [])
      (instr.SetField at (operand r key) number given) c.0 (work.Then (work.SetField number))
      (λ n all. (all.1.0, tt))
      (λ f rings rest more is stands. (
        at,
        (
          operand r key,
          refl,
          (
            given,
            refl,
            (
              record {
                within = (let less = first.ready.temporaries.1.0 in omega (arith, less, more));
                temporaries = tt;
                variables = λ other bound found.
                    let less = ready.variables other bound
                    (ap (var_in other) (sym first.vars) ∙ found) in omega (arith, less, regs);
              },
              is,
              stands,
            ),
          ),
        ),
      )) first.ready fits_c c.2 in
      let third = is (operand r key) c.1 t done second.ready fits c.3 in
      did_both p numbers s b.1 t (old.reg ∷ given.reg ∷ []) (old.reg ∷ r ∷ given.reg ∷ []) []
      (work.Then work.Keep) (λ rest. work.Then (work.SetField number) (before rest)) first
      (did_both p numbers b.1 c.1 t (old.reg ∷ r ∷ given.reg ∷ []) (r ∷ []) []
      (work.Then (work.SetField number)) before second third)

  -- an object, or an actor, gets a part
  does_store : (at number : ℕ) (cell given : Operand)
      → Does p numbers (cell.reg ∷ given.reg ∷ []) (emit (instr.StoreProp at cell number given))
      (work.Then (work.StorePart number)) (λ done. [])
  does_store at number cell given =
      does_emit p numbers (cell.reg ∷ given.reg ∷ []) [] (instr.StoreProp at cell number given)
      (work.Then (work.StorePart number)) (λ n all. tt)
      (λ f rings rest s is stands. (at, (cell, refl, (given, refl, (is, stands)))))

  module _ (owner : Option ℕ) where
    writes_kind : (kind : ShapeKind) (at shape number : ℕ) (base : ExprCode) (one : ExprWork)
        → ExprStands tables numbers functions base one
        → Assigns (set_part tables owner kind at shape number base)
        (works.write_part_of (facts_of tables) kind number one)
    writes_kind shapes.Struct at shape number base one is given =
        does_then p numbers (given.reg ∷ []) base.read _ one.read _
        (λ o. o.reg ∷ given.reg ∷ []) (λ done. []) (is.read (given.reg ∷ []))
        (λ old. does_set at shape number base.key old given base.write one.write is.write)
    writes_kind shapes.Enum at shape number base one is given =
        does_never p numbers (given.reg ∷ []) tt _ _
    writes_kind shapes.Class at shape number base one is given =
        does_then p numbers (given.reg ∷ []) base.read _ one.read _
        (λ o. o.reg ∷ given.reg ∷ []) (λ done. []) (is.read (given.reg ∷ []))
        (λ cell. does_store at number cell given)
    writes_kind shapes.Actor at shape number base one is given =
        does_then p numbers (given.reg ∷ []) base.read _ one.read _
        (λ o. o.reg ∷ given.reg ∷ []) (λ done. []) (is.read (given.reg ∷ []))
        (λ cell. does_store at number cell given)

    pub writes_part : (at shape number : ℕ) (base : ExprCode) (one : ExprWork)
        → ExprStands tables numbers functions base one
        → Assigns (write_part tables owner at shape number base)
        (works.write_part (facts_of tables) shape number one)
    unfolding write_part shape_at
    writes_part at shape number base one is given =
        does_for_known p numbers (given.reg ∷ []) no_shape (slice_get tables.world.shapes shape)
        (λ s. set_part tables owner s.kind at shape number base given)
        (λ s. works.write_part_of (facts_of tables) s.kind number one) (λ done. [])
        (λ s found. writes_kind s.kind at shape number base one is given)

    -- nothing is assigned to this
    pub writes_none : (before : Before) → Assigns unwritten before
    writes_none before given = does_never p numbers (given.reg ∷ []) tt before (λ done. [])

    own_stands : (at : ℕ) → ExprStands tables numbers functions (own_base tables owner at)
        (value_at at (works.read_self (facts_of tables) owner))
    own_stands at = record {
      key = refl;
      is_self = refl;
      own_part = refl;
      read = reads_self tables numbers functions owner at;
      write = writes_none _;
    }

    pub writes_word : (at : ℕ) (meaning : Option Meaning)
        → Assigns (word_write tables owner at meaning)
        (works.word_write (facts_of tables) owner at meaning)
    writes_word at None given = does_never p numbers (given.reg ∷ []) tt _ _
    writes_word at (Some (means.Local variable)) given = writes_var at variable given
    writes_word at (Some (means.OwnPart number)) given =
        does_for_known p numbers (given.reg ∷ []) 0 owner
        (λ shape. write_part tables owner at shape number (own_base tables owner at) given)
        (λ shape. works.write_part (facts_of tables) shape number
        (value_at at (works.read_self (facts_of tables) owner))) (λ done. [])
        (λ shape found. writes_part at shape number _ _ (own_stands at) given)
    writes_word at (Some (means.OwnFunc number)) given =
        does_never p numbers (given.reg ∷ []) tt _ _
    writes_word at (Some (means.GlobalOf number)) given =
        does_emit p numbers (given.reg ∷ []) [] (instr.StoreGlobal at number given)
        (work.Then (work.StoreGlobal number)) (λ n all. tt)
        (λ f rings rest s is stands. (at, (given, refl, (is, stands))))
    writes_word at (Some (means.FuncOf number)) given =
        does_never p numbers (given.reg ∷ []) tt _ _
    writes_word at (Some (means.MakeOf shape)) given =
        does_never p numbers (given.reg ∷ []) tt _ _
    writes_word at (Some (means.CaseOf shape number)) given =
        does_never p numbers (given.reg ∷ []) tt _ _
    writes_word at (Some (means.PartOf number)) given =
        does_never p numbers (given.reg ∷ []) tt _ _
    writes_word at (Some means.Print) given = does_never p numbers (given.reg ∷ []) tt _ _
    writes_word at (Some means.TaskValue) given =
        does_never p numbers (given.reg ∷ []) tt _ _
