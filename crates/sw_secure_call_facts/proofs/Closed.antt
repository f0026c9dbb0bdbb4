-- What is known of a closure that is called, and of its function.
use Rattle.std.proofs.Common.{◌≡◌, ◌≤◌, ◌++◌, ℕ, Bool, true, false, Option, Some, None, List, []}
use Rattle.std.proofs.Common.{◌∷◌}
use Rattle.std.proofs.Common.{length, map, Contains, refl, sym, subst, ap, ◌∙◌, arith, IsTrue}
use Rattle.std.specs.Option.{option_map_or}
use Rattle.std.specs.List.{slice_get, slice_index_or}
use Rattle.std.proofs.lemmas.List.{length-append, length-map}
use Rattle.std.proofs.lemmas.Option.{slice_get_within}
use Rattle.sw_list.proofs.ListLemmas.{some_injective, at_index}
use Rattle.sw_list.proofs.Members.{in_one}
use Rattle.sw_types.specs.declared.isolation.Iso.{Iso}
use Rattle.sw_types.specs.declared.isolation.Iso.TheVariants as iso
use Rattle.sw_types.specs.declared.ty.Ty.{Ty}
use Rattle.sw_types.specs.declared.ty.Ty.TheOpen as type
use Rattle.sw_types.specs.Accepts.{unmarked_layer}
use Rattle.sw_graph.specs.declared.function.Function.{Function}
use Rattle.sw_graph.specs.declared.function.RegKind.{RegKind}
use Rattle.sw_graph.specs.declared.function.RegKind.TheVariants as kind
use Rattle.sw_graph.specs.declared.graph.Graph.{Graph}
use Rattle.sw_graph.specs.declared.instr.Instr.{Instr}
use Rattle.sw_graph.specs.declared.instr.Instr.TheVariants as instr
use Rattle.sw_graph.specs.declared.instr.Operand.{Operand}
use Rattle.sw_graph.specs.Bodies.{first_is_self}
use Rattle.sw_graph.specs.Kinds.{Each, EachOf, Goes, IsCaptured, form_of, kinds_of, params, taken}
use Rattle.sw_graph.specs.Placed.{FunctionAt, IsRunApart, MadeInside}
use Rattle.sw_graph.specs.Points.{Middle}
use Rattle.sw_value.specs.declared.cell.HeapCell.{HeapCell}
use Rattle.sw_value.specs.declared.cell.HeapCell.TheVariants as cell
use Rattle.sw_value.specs.declared.frame.Frame.{Frame}
use Rattle.sw_value.specs.declared.job.Job.{Job}
use Rattle.sw_value.specs.declared.state.State.{State}
use Rattle.sw_value.specs.declared.value.Value.{Value}
use Rattle.sw_value.specs.Value.{reference_of, value_at, values_at}
use Rattle.sw_partition.specs.Regions.{Regions}
use Rattle.sw_machine_kind_facts.specs.Kinds.{CellFits, ClosureFits, HasKind, Referents}
use Rattle.sw_machine_kind_facts.proofs.KindLemmas.{forms_captured}
use Rattle.sw_machine_kind_facts.proofs.OperandLemmas.{function_fits}
use Rattle.sw_machine_kind_facts.proofs.StackLemmas.{cell_named}
use Rattle.sw_owner_facts.specs.Colours.{Colour, GlobalActor, Instance, OfActor}
use Rattle.sw_owner_facts.specs.View.{Frame as Spot}
use Rattle.sw_region_ops.specs.Calls.{is_isolated}
use Rattle.sw_reach_facts.specs.Reached.{colours_of}
use Rattle.sw_reach_facts.proofs.CellLemmas.{reference_shows}
use Rattle.sw_reach_facts.proofs.ClosureLemmas.{capture_within}
use Rattle.sw_view_facts.specs.Standing.{StandsAt}
use Rattle.sw_view_facts.specs.Views.{Colours}
use Rattle.sw_secure_facts.specs.Secure.{IsSecure}
use Rattle.sw_store_facts.proofs.Standing.{instr_at, of_register}
use Rattle.sw_secure_call_facts.proofs.Caller.{count_of}
use Rattle.sw_secure_call_facts.proofs.Direct.{each_count, take_count}

-- the form of a function's type, if it takes these kinds
record HasForm (ks : List (Option RegKind)) (l : Option (type.Ty-F Ty)) : Type 0 where
  sendable : Bool
  types : List Ty
  result : Ty
  is : l ≡ Some (type.Func sendable types result)
  each : Each Goes ks (map kind.Plain types)

has_form : (ks : List (Option RegKind)) (l : Option (type.Ty-F Ty)) → EachOf Goes ks (params l)
    → HasForm ks l
has_form ks (Some (type.Func sendable types result)) each =
    record { sendable = sendable; types = types; result = result; is = refl; each = each }
has_form ks (Some type.Int) each = absurd each
has_form ks (Some type.Bool) each = absurd each
has_form ks (Some type.Unit) each = absurd each
has_form ks (Some (type.Named k)) each = absurd each
has_form ks (Some (type.Task t)) each = absurd each
has_form ks None each = absurd each

-- types without their marks that are one take the same
same_types : (l : type.Ty-F Ty) (s t : Bool) (ps qs : List Ty) (r u : Ty)
    → l ≡ type.Func s ps r → unmarked_layer l ≡ unmarked_layer (type.Func t qs u) → ps ≡ qs
same_types l s t ps qs r u is same = later (sym (ap unmarked_layer is) ∙ same) where
  later : type.Func false ps r ≡ type.Func false qs u → ps ≡ qs
  later e = cc

module _ (graph : Graph) (states : ℕ → List (Option Regions)) (state : State) (colours : Colours)
    (secure : IsSecure graph states state colours) (q : Spot) (job : Job) (f : Frame)
    (function : Function) (at dst : ℕ) (o : Operand) (args : List Operand)
    (x : StandsAt graph state q job f function (Middle (instr.CallClosure at dst o args)))
    (value : Value) (has : value_at f.regs o.reg ≡ Some value) (number : ℕ)
    (refers : reference_of value ≡ Some number) (body : ℕ) (captures : List Value)
    (there : slice_get state.cells number ≡ Some (cell.Closure body captures))
    (callee : Function) (is : slice_get graph.functions body ≡ Some callee)
    (values : List Value) (are : values_at f.regs args ≡ Some values) where
  abbrev here : Instr
  here = instr.CallClosure at dst o args

  abbrev world : Referents
  world = secure.coloured.kinded.world

  abbrev arg_kinds : List (Option RegKind)
  arg_kinds = kinds_of function.regs args

  -- the register's kind is a function's, and that of the cell too
  record Known : Type 0 where
    from : RegKind
    fits : ClosureFits graph world.cells body captures from
    types : List Ty
    each : Each Goes arg_kinds (map kind.Plain types)
    same : fits.params ≡ types

  known_of : (from k : RegKind) → ClosureFits graph world.cells body captures from
      → IsCaptured (Some from) (Some k) → HasForm arg_kinds (form_of (Some k)) → Known
  known_of from k fits goes form =
      let forms = forms_captured from k (type.Func form.sendable form.types form.result) goes
      form.is
      in
      record {
        from = from;
        fits = fits;
        types = form.types;
        each = form.each;
        same = same_types forms.0 fits.sendable form.sendable fits.params form.types
            fits.function.result form.result (some_injective (sym forms.1 ∙ fits.form)) forms.2;
      }

  closure_fits : (c : HeapCell) (from : RegKind) → slice_get state.cells number ≡ Some c
      → CellFits graph world c from → ClosureFits graph world.cells body captures from
  closure_fits c from c_is fits =
      subst (λ d. CellFits graph world d from) (some_injective (sym c_is ∙ there)) fits

  value_kind : (k : RegKind) → slice_get function.regs o.reg ≡ Some k
      → HasKind graph.shapes world.cells value k
  value_kind k k_is =
      let own = of_register graph states state colours secure.coloured q job f function (Middle here)
      x o.reg value has in
      subst (HasKind graph.shapes world.cells value) (some_injective (sym own.is ∙ k_is)) own.has

  known : Known
  known = by (slice_get function.regs o.reg) refl
      (instr_at graph states state colours secure.coloured q job f function here x).kinds.0 where
        by : (k : Option RegKind) → slice_get function.regs o.reg ≡ k
            → EachOf Goes arg_kinds (params (form_of k)) → Known
        by None none each = absurd each
        by (Some k) k_is each =
            let named = cell_named graph state secure.coloured.kinded value k number
            (value_kind k k_is) refers in
            known_of named.1 k (closure_fits named.0 named.1 named.2 named.3) named.4
            (has_form arg_kinds (form_of (Some k)) each)

  same_callee : known.fits.function ≡ callee
  same_callee = some_injective (sym known.fits.is ∙ is)

  pub few_values : length (captures ++ values) ≤ length callee.sending
  few_values =
      let all = length-append captures values in
      let caught = known.fits.have.count in
      let many = count_of f.regs args values are in
      let operands = length-map args (λ (a : Operand). slice_get function.regs a.reg) in
      let given = each_count Goes arg_kinds (map kind.Plain known.types) known.each in
      let typed = length-map known.types kind.Plain in
      let taken_is : taken callee ≡ known.fits.captured ++ map kind.Plain known.fits.params =
      sym (ap taken same_callee) ∙ known.fits.takes in
      let whole = ap length taken_is
      ∙ length-append known.fits.captured (map kind.Plain known.fits.params) in
      let rest = length-map known.fits.params kind.Plain in
      let same = ap length known.same in
      let takes = take_count callee.takes callee.regs in
      let sends = (function_fits graph body callee is).sending in
      omega (arith, all, caught, many, operands, given, typed, whole, rest, same, takes, sends)

  -- its function runs apart, and was made where its isolation lets it
  record Made : Type 0 where
    maker : Function
    operands : List Operand
    inside : MadeInside maker operands callee.iso
    apart : IsRunApart graph.shapes callee
    count : length operands ≡ length captures

  made : Made
  made =
      let m = known.fits.made in
      let placed = secure.coloured.clean.placed.apart m.maker.number m.body m.maker.is m.maker.point
      (instr.NewClosure m.at m.register body m.operands) m.maker.here callee is in
      record {
        maker = m.body;
        operands = m.operands;
        inside = placed.0;
        apart = placed.1;
        count = sym (length-map m.operands (λ (a : Operand). slice_get m.body.regs a.reg))
            ∙ ap length m.are ∙ length-map m.kinds Some ∙ sym m.have.count;
      }

  pub runs_apart : IsRunApart graph.shapes callee
  runs_apart = made.apart

  pub never_sends : (k : ℕ) → slice_get callee.sending k ≡ Some true → ⊥
  never_sends k sends =
      let none = at_index (λ b. b ≡ false) callee.sending k true runs_apart.sending sends in
      cc

  -- what it captured it reaches
  pub captures_within : (v : Value) (d : Colour) → Contains captures v
      → Contains (colours_of state.cells colours.cells v) d
      → Contains (colours_of state.cells colours.cells value) d
  captures_within v d caught shows = by (slice_index_or colours.cells number None) refl where
    by : (c : Option Colour) → slice_index_or colours.cells number None ≡ c
        → Contains (colours_of state.cells colours.cells value) d
    by None none = capture_within state.cells colours.cells secure.memory.earlier value number body
        captures v d refers there none caught shows
    by (Some own) own_is =
        let same : d ≡ own =
        secure.memory.inside number (cell.Closure body captures) own v there own_is caught d shows
        in
        subst (λ l. Contains l d)
        (sym (reference_shows state.cells colours.cells value number own refers
        (slice_get_within state.cells number (cell.Closure body captures) there) own_is))
        (subst (λ c. Contains (c ∷ []) d) same (in_one d))

  -- the colour of an isolated closure
  own_colour : is_isolated callee.iso ≡ true
      → (own : Colour) × (slice_index_or colours.cells number None ≡ Some own)
      × Contains (colours_of state.cells colours.cells value) own
  own_colour isolated =
      let marked = secure.memory.marked number (cell.Closure body captures) there
      (ap (λ g. option_map_or (λ (b : Function). is_isolated b.iso) g false) is ∙ isolated) in (
        marked.0,
        marked.1,
        subst (λ l. Contains l marked.0)
            (sym (reference_shows state.cells colours.cells value number marked.0 refers
            (slice_get_within state.cells number (cell.Closure body captures) there) marked.1))
            (in_one marked.0),
      )

  same_iso : (i : Iso) → callee.iso ≡ i → FunctionAt graph body (λ g. g.iso ≡ i)
  same_iso i iso_is g g_is =
      ap (λ (b : Function). b.iso) (some_injective (sym g_is ∙ is)) ∙ iso_is

  pub global_reached : (g : ℕ) → callee.iso ≡ iso.Global g
      → Contains (colours_of state.cells colours.cells value) (OfActor (GlobalActor g))
  global_reached g iso_is =
      let own = own_colour (ap is_isolated iso_is) in
      subst (Contains (colours_of state.cells colours.cells value))
      (secure.memory.global_closures number body g captures own.0 there
      (same_iso (iso.Global g) iso_is) own.1) own.2

  -- it captured its `self` first
  pub record HasSelfFirst : Type 0 where
    pub self : Value
    pub first : slice_get captures 0 ≡ Some self
    pub actor : ℕ
    pub refers_to : reference_of self ≡ Some actor
    pub reached : Contains (colours_of state.cells colours.cells value) (OfActor (Instance actor))

  pub self_reached : callee.iso ≡ iso.Own → HasSelfFirst
  self_reached iso_is = by captures refl there
      (subst (MadeInside made.maker made.operands) iso_is made.inside) made.count
    where
      no_operands : (os : List Operand) → IsTrue (first_is_self made.maker os) → length os ≡ 0 → ⊥
      no_operands [] inside none = let no_clash : ⊥ = cc in no_clash
      no_operands (a ∷ os) inside none = omega (arith, none)

      by : (vs : List Value) → captures ≡ vs
          → slice_get state.cells number ≡ Some (cell.Closure body vs)
          → IsTrue (first_is_self made.maker made.operands)
          → length made.operands ≡ length captures → HasSelfFirst
      by [] vs_is at inside count =
          absurd (no_operands made.operands inside (count ∙ ap length vs_is))
      by (self ∷ rest) vs_is at inside count =
          let own = own_colour (ap is_isolated iso_is) in
          let closed = secure.memory.own_closures number body self rest own.0 at
          (same_iso iso.Own iso_is) own.1 in
          record {
            self = self;
            first = ap (λ l. slice_get l 0) vs_is;
            actor = closed.0;
            refers_to = closed.1;
            reached = subst (Contains (colours_of state.cells colours.cells value)) closed.2 own.2;
          }
