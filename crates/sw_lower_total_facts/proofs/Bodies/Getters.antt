-- Getters ask for nothing.
use Rattle.std.proofs.Common.{ℕ, List, [], ◌∷◌, Option, Some, None, Bool, true, false}
use Rattle.std.proofs.lemmas.List.Elements.{All-append, All-cons, All-nil}
use Rattle.std.specs.Prelude.{◌+◌, ◌&&◌, All, if◌then◌else◌, slice_get}
use Rattle.sw_tree.specs.declared.decl.PropTree.{PropTree}
use Rattle.sw_types.specs.declared.shape.Part.{Part}
use Rattle.sw_types.specs.declared.shape.Shape.{Shape}
use Rattle.sw_types.specs.declared.ty.Ty.{Ty}
use Rattle.sw_graph.specs.declared.instr.Last.TheVariants.{Return}
use Rattle.sw_graph.specs.declared.instr.Operand.{Operand}
use Rattle.sw_decls.specs.declared.signature.GlobalVar.{GlobalVar}
use Rattle.sw_isolation_rules.specs.Answers.{for_some}
use Rattle.sw_isolation_rules.specs.Kinds.{is_isolated, shape_iso}
use Rattle.sw_lower_plans.specs.Plan.{Numbers}
use Rattle.sw_lower_plans.specs.Run.{IsGoing, Making}
use Rattle.sw_lower_code.specs.Code.{Code, close}
use Rattle.sw_lower_code.specs.Whole.{Body}
use Rattle.sw_lower_code.specs.declared.taken.Taken.{Taken}
use Rattle.sw_lower_rules.specs.Bodies.{getter, global_getter, part_getter, part_read}
use Rattle.sw_lower_rules.specs.Bodies.{prop_getters, shape_getters, stored_read}
use Rattle.sw_lower_rules.specs.Tables.{Tables}
use Rattle.sw_lower_total_facts.specs.Proceeding.{BodyProceeds, Proceeds}
use Rattle.sw_lower_total_facts.proofs.Bodies.Taking.{body_proceeds}
use Rattle.sw_lower_total_facts.proofs.Proceeding.Give.{proceeds_give}
use Rattle.sw_lower_total_facts.proofs.Proceeding.Steps.{proceeds_close}
use Rattle.sw_lower_total_facts.proofs.Proceeding.Then.{proceeds_then}

module _ (tables : Tables) (number : Numbers) where
  getter_proceeds : (key : ℕ) (takes : List Taken) (ty : Ty) (read : Code Operand)
      → ((s : Making) → IsGoing s → Proceeds s read)
      → BodyProceeds number (getter tables key takes ty read)
  getter_proceeds key takes ty read rule =
      body_proceeds number (getter tables key takes ty read)
      (λ t entered.
      proceeds_then read (λ value. close (Return (Some value))) t entered.going
      (rule t entered.going) (λ value u ran made. proceeds_close (Return (Some value)) u))

  one_proceeds : (body : Body) → BodyProceeds number body → All (BodyProceeds number) (body ∷ [])
  one_proceeds body proceeds =
      All-cons (BodyProceeds number) body [] proceeds (All-nil (BodyProceeds number))

  shape_getters_proceed : (n i : ℕ) (prop : PropTree) (shape : Shape)
      → All (BodyProceeds number) (shape_getters tables n i prop shape)
  shape_getters_proceed n i prop shape = by (prop.mutable && is_isolated (shape_iso shape)) where
    part : (found : Option Part)
        → All (BodyProceeds number)
        (for_some found (λ part. part_getter tables prop.word.at n i shape part ∷ []))
    part None = All-nil (BodyProceeds number)
    part (Some one) =
        one_proceeds (part_getter tables prop.word.at n i shape one)
        (getter_proceeds prop.word.at _ one.ty (part_read prop.word.at i one.ty)
        (λ s going. proceeds_give prop.word.at one.ty _ s going))

    by : (so : Bool) → All (BodyProceeds number)
        (if so then for_some (slice_get shape.parts i) (λ part.
        part_getter tables prop.word.at n i shape part ∷ []) else [])
    by true = part (slice_get shape.parts i)
    by false = All-nil (BodyProceeds number)

  -- the getters of the properties of a type
  pub prop_getters_proceed : (n i : ℕ) (props : List PropTree)
      → All (BodyProceeds number) (prop_getters tables n i props)
  prop_getters_proceed n i [] = All-nil (BodyProceeds number)
  prop_getters_proceed n i (prop ∷ props) =
      All-append (BodyProceeds number)
      (for_some (slice_get tables.world.shapes n) (shape_getters tables n i prop))
      (prop_getters tables n (i + 1) props) (by (slice_get tables.world.shapes n))
      (prop_getters_proceed n (i + 1) props) where
        by : (found : Option Shape)
            → All (BodyProceeds number) (for_some found (shape_getters tables n i prop))
        by None = All-nil (BodyProceeds number)
        by (Some shape) = shape_getters_proceed n i prop shape

  -- the getter of a global variable, where it has one
  pub global_getters_proceed : (key g : ℕ)
      → All (BodyProceeds number)
      (for_some (slice_get tables.world.globals g) (global_getter tables key g))
  global_getters_proceed key g = by (slice_get tables.world.globals g) where
    one : (global : GlobalVar) (mutable : Bool)
        → All (BodyProceeds number) (if mutable
        then getter tables key [] global.ty (stored_read key g global.ty) ∷ [] else [])
    one global true =
        one_proceeds (getter tables key [] global.ty (stored_read key g global.ty))
        (getter_proceeds key [] global.ty (stored_read key g global.ty)
        (λ s going. proceeds_give key global.ty _ s going))
    one global false = All-nil (BodyProceeds number)

    of_actor : (global : GlobalVar) (actor : Option ℕ)
        → All (BodyProceeds number) (for_some actor (λ actor. if global.mutable
        then getter tables key [] global.ty (stored_read key g global.ty) ∷ [] else []))
    of_actor global None = All-nil (BodyProceeds number)
    of_actor global (Some actor) = one global global.mutable

    by : (found : Option GlobalVar)
        → All (BodyProceeds number) (for_some found (global_getter tables key g))
    by None = All-nil (BodyProceeds number)
    by (Some global) = of_actor global global.actor
