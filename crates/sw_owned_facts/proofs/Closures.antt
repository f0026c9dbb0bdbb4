-- Isolated closures have the colour of the actor on which they run.
use Rattle.std.proofs.Common.{◌≡◌, ℕ, true, false, Option, Some, List, [], ◌∷◌, length}
use Rattle.std.proofs.Common.{map, refl, sym, subst, ap, ◌∙◌, arith}
use Rattle.std.specs.Option.{option_map, option_map_or}
use Rattle.std.specs.List.{slice_get}
use Rattle.std.proofs.lemmas.Option.{slice_get_within}
use Rattle.sw_list.proofs.ListLemmas.{some_injective}
use Rattle.sw_types.specs.declared.isolation.Iso.{Iso}
use Rattle.sw_types.specs.declared.isolation.Iso.TheVariants as iso
use Rattle.sw_graph.specs.declared.function.Function.{Function}
use Rattle.sw_graph.specs.declared.function.RegKind.{RegKind}
use Rattle.sw_graph.specs.declared.graph.Graph.{Graph}
use Rattle.sw_graph.specs.declared.instr.Operand.{Operand}
use Rattle.sw_graph.specs.declared.instr.Instr.TheVariants.{NewClosure}
use Rattle.sw_graph.specs.Bodies.{first_is_self}
use Rattle.sw_graph.specs.Kinds.{kinds_of}
use Rattle.sw_graph.specs.Placed.{MadeInside}
use Rattle.sw_value.specs.declared.cell.HeapCell.TheVariants as cell
use Rattle.sw_value.specs.declared.executor.Executor.TheVariants as executor
use Rattle.sw_value.specs.declared.value.Value.{Value}
use Rattle.sw_value.specs.Executor.{executor_of}
use Rattle.sw_color_rules.specs.declared.colored.Colored.{Colored}
use Rattle.sw_color_rules.specs.Tints.{color_number}
use Rattle.sw_partition.specs.Regions.{Regions}
use Rattle.sw_region_ops.specs.Calls.{is_isolated}
use Rattle.sw_machine_kind_facts.specs.Kinds.{ClosureFits}
use Rattle.sw_machine_kind_facts.proofs.ItemLemmas.{found_within}
use Rattle.sw_owner_facts.specs.Colours.{GlobalActor, Instance}
use Rattle.sw_late_facts.specs.Hues.{hue}
use Rattle.sw_secure_facts.specs.Secure.{IsSecure}
use Rattle.sw_hue_facts.specs.Hued.{hued}
use Rattle.sw_owned_facts.specs.Owned.{HasActorsColour}
use Rattle.sw_owned_facts.proofs.Contents.{numbered, shows}
use Rattle.sw_owned_facts.proofs.Numbers.{IsKnown, actor_owns, secure}

-- operands of which one is the body's own `self` have kinds
some_captured : (body : Function) (regs : List RegKind) (operands : List Operand)
    (kinds : List RegKind) → kinds_of regs operands ≡ map Some kinds → length kinds ≡ 0
    → first_is_self body operands ≡ true → ⊥
some_captured body regs [] kinds are none self = let clash : ⊥ = cc in clash
some_captured body regs (o ∷ os) [] are none self = let clash : ⊥ = cc in clash
some_captured body regs (o ∷ os) (k ∷ ks) are none self = omega (arith, none)

module _ (graph : Graph) (states : ℕ → List (Option Regions)) (colored : Colored)
    (known : IsKnown graph states colored) (c f : ℕ) (function : Function)
    (is : slice_get graph.functions f ≡ Some function) where
  is_secure : IsSecure graph states colored.state (hued colored.colors)
  is_secure = secure graph states colored known

  abbrev There : List Value → Type 0
  There captures = slice_get colored.state.cells c ≡ Some (cell.Closure f captures)

  -- one that is isolated to `self` captured something
  not_empty : There [] → function.iso ≡ iso.Own → ⊥
  not_empty there own =
      some_captured fits.made.body fits.made.body.regs fits.made.operands fits.made.kinds
      fits.made.are (sym fits.made.have.count)
      (subst (MadeInside fits.made.body fits.made.operands) own
      (is_secure.coloured.clean.placed.apart fits.made.maker.number fits.made.body
      fits.made.maker.is fits.made.maker.point
      (NewClosure fits.made.at fits.made.register f fits.made.operands) fits.made.maker.here
      function is).0)
    where
      kind : (k : RegKind) × (slice_get is_secure.coloured.kinded.world.cells c ≡ Some k)
      kind =
          let within = slice_get_within colored.state.cells c (cell.Closure f []) there in
          let count = is_secure.coloured.kinded.fits.cell_count in
          found_within is_secure.coloured.kinded.world.cells c (omega (arith, within, count))

      fits : ClosureFits graph is_secure.coloured.kinded.world.cells f [] kind.0
      fits = is_secure.coloured.kinded.fits.cells c (cell.Closure f []) kind.0 there kind.1

  -- the function is the one that it runs
  runs_it : (i : Iso) → function.iso ≡ i → (other : Function)
      → slice_get graph.functions f ≡ Some other → other.iso ≡ i
  runs_it i at other found =
      ap (λ (o : Function). o.iso) (some_injective (sym found ∙ is)) ∙ at

  pub closures : (captures : List Value) → There captures → is_isolated function.iso ≡ true
      → HasActorsColour colored c captures function
  closures captures there isolated = by function.iso refl isolated captures there number where
    number : (n : ℕ) × (color_number colored.colors.cells c ≡ Some n)
    number = numbered graph states colored known c (cell.Closure f captures) there
        (ap (λ o. option_map_or (λ (g : Function). is_isolated g.iso) o false) is ∙ isolated)

    by : (i : Iso) → function.iso ≡ i → is_isolated i ≡ true → (vs : List Value) → There vs
        → (n : ℕ) × (color_number colored.colors.cells c ≡ Some n)
        → HasActorsColour colored c vs function
    by iso.Free at isolated vs there (n, has) = absurd (let clash : ⊥ = cc in clash)
    by iso.Caller at isolated vs there (n, has) = absurd (let clash : ⊥ = cc in clash)
    by (iso.Global g) at isolated vs there (n, has) = record {
      number = n;
      is = has;
      on = executor.Global g;
      runs = ap (λ i. executor_of i (map Some vs)) at;
      owned = actor_owns colored.colors.palette n (GlobalActor g)
          (is_secure.memory.global_closures c f g vs (hue colored.colors.palette n) there
          (runs_it (iso.Global g) at) (shows graph states colored known c n has));
    }
    by iso.Own at isolated [] there (n, has) = absurd (not_empty there at)
    by iso.Own at isolated (self ∷ vs) there (n, has) =
        let own = is_secure.memory.own_closures c f self vs (hue colored.colors.palette n) there
        (runs_it iso.Own at) (shows graph states colored known c n has) in
        record {
          number = n;
          is = has;
          on = executor.ActorOf own.0;
          runs = ap (λ i. executor_of i (Some self ∷ map Some vs)) at
              ∙ ap (option_map executor.ActorOf) own.1;
          owned = actor_owns colored.colors.palette n (Instance own.0) own.2;
        }
