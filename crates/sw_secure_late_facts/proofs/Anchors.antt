-- Where a frame of a secure state stands on an actor, there is an actor's cell; and where on a
-- global
-- actor, a function is isolated to it.
use Rattle.std.proofs.Common.{◌≡◌, ◌<◌, ◌≤◌, max, ℕ, zero, suc, Bool, true, false, cond, not}
use Rattle.std.proofs.Common.{Option, Some, None, List}
use Rattle.std.proofs.Common.{[], ◌∷◌, length, fold, refl, sym, subst, ap, ◌∙◌, arith, is_some}
use Rattle.std.proofs.Common.{◌&&◌}
use Rattle.std.specs.Option.{option_and_then, option_map_or}
use Rattle.std.specs.List.{slice_get}
use Rattle.std.proofs.lemmas.Option.{slice_get_within}
use Rattle.sw_list.proofs.ListLemmas.{some_injective}
use Rattle.sw_types.specs.declared.isolation.Iso.{Iso}
use Rattle.sw_types.specs.declared.isolation.Iso.TheVariants as iso
use Rattle.sw_types.specs.declared.shape.Shape.{Shape}
use Rattle.sw_types.specs.declared.shape.ShapeKind.{ShapeKind}
use Rattle.sw_types.specs.declared.shape.ShapeKind.TheVariants as shape
use Rattle.sw_types.specs.declared.ty.Ty.TheOpen as type
use Rattle.sw_graph.specs.declared.function.Function.{Function}
use Rattle.sw_graph.specs.declared.function.RegKind.{RegKind}
use Rattle.sw_graph.specs.declared.function.RegKind.TheVariants.{BoxOf as Boxed, Plain}
use Rattle.sw_graph.specs.declared.graph.Graph.{Graph}
use Rattle.sw_graph.specs.Bodies.{is_actor_initialiser, is_own}
use Rattle.sw_graph.specs.Kinds.{IsCaptured, form_of, is_actor, is_class, shape_at, shape_of}
use Rattle.sw_graph.specs.Placed.{HasSelf}
use Rattle.sw_value.specs.declared.cell.HeapCell.{HeapCell}
use Rattle.sw_value.specs.declared.cell.HeapCell.TheVariants.{Actor, BoxOf, Closure, Object, TaskOf}
use Rattle.sw_value.specs.declared.executor.Executor.{Executor}
use Rattle.sw_value.specs.declared.executor.Executor.TheVariants as executor
use Rattle.sw_value.specs.declared.frame.Frame.{Frame}
use Rattle.sw_value.specs.declared.job.Job.{Job}
use Rattle.sw_value.specs.declared.state.State.{State}
use Rattle.sw_value.specs.declared.value.Value.{Value}
use Rattle.sw_value.specs.Value.{reference_of, value_at}
use Rattle.sw_color_rules.specs.Machine.{actors_to, global_count}
use Rattle.sw_partition.specs.Regions.{Regions}
use Rattle.sw_machine_kind_facts.specs.Kinds.{CellFits, HasKind, Referents}
use Rattle.sw_machine_kind_facts.specs.Standing.{FrameFits, awaited_at}
use Rattle.sw_machine_kind_facts.proofs.KindLemmas.{layers_accept, shape_found, shape_is}
use Rattle.sw_machine_kind_facts.proofs.PartLemmas.{parts_shape}
use Rattle.sw_machine_kind_facts.proofs.StackLemmas as stack
use Rattle.sw_machine_kind_facts.proofs.StackLemmas.{cell_named}
use Rattle.sw_owner_facts.specs.Colours.{Actor as Owner, GlobalActor, Instance, On}
use Rattle.sw_owner_facts.specs.View.{IsFrame, IsolatedTo, MakesActor, View}
use Rattle.sw_owner_facts.specs.View.{Frame as Spot}
use Rattle.sw_owner_facts.proofs.WithinLemmas.{anchor}
use Rattle.sw_reach_facts.proofs.CrossingLemmas.{captured_named}
use Rattle.sw_store_facts.proofs.Getting.{from_some}
use Rattle.sw_view_facts.specs.Views.{Colours, annotated, frame_at, frame_under, function_of}
use Rattle.sw_view_facts.specs.Views.{isolation_by}
use Rattle.sw_view_facts.specs.Views.{on_actor, shape_by, shape_with, stands_on, view_of}
use Rattle.sw_secure_facts.specs.Painting.{actor_on}
use Rattle.sw_secure_facts.specs.Secure.{IsSecure}

-- ---- global actors
counted : (functions : List Function) (n : ℕ)
    → n ≤ fold (λ m (f : Function). max m (actors_to f.iso)) n functions
counted [] n = omega arith
counted (f ∷ fs) n = omega (arith, counted fs (max n (actors_to f.iso)))

pub known_at : (functions : List Function) (n i : ℕ) (f : Function) → slice_get functions i ≡ Some f
    → actors_to f.iso ≤ fold (λ m (g : Function). max m (actors_to g.iso)) n functions
known_at [] n i f e = cc
known_at (g ∷ gs) n zero f e =
    let same : g ≡ f = some_injective e in
    omega (arith, ap (λ (h : Function). actors_to h.iso) same, counted gs (max n (actors_to g.iso)))
known_at (g ∷ gs) n (suc i) f e = known_at gs (max n (actors_to g.iso)) i f e

-- ---- actors' cells
abbrev pub IsActorCell : List HeapCell → ℕ → Type 0
IsActorCell cells c = (k : ℕ) × (parts : List Value) × (slice_get cells c ≡ Some (Actor k parts))

no_class : (kind : ShapeKind) → is_class kind ≡ true → is_actor kind ≡ true → ⊥
no_class shape.Struct class actor = cc
no_class shape.Enum class actor = cc
no_class shape.Class class actor = cc
no_class shape.Actor class actor = cc

-- what a reference to an actor leads to
is_actor_cell : (graph : Graph) (world : Referents) (cell : HeapCell) (from kind : RegKind) (k : ℕ)
    (named : Shape) → CellFits graph world cell from → IsCaptured (Some from) (Some kind)
    → form_of (Some kind) ≡ Some (type.Named k) → slice_get graph.shapes k ≡ Some named
    → is_actor named.kind ≡ true → (n : ℕ) × (parts : List Value) × (cell ≡ Actor n parts)
is_actor_cell graph world (Object n vs) from kind k named fits goes form at actor =
    let found = parts_shape (shape_at graph.shapes is_class n) fits.1.kinds fits.1.are in
    let class = shape_found graph.shapes is_class n found.0 found.1 in
    let is = captured_named from kind n goes fits.0 in
    let same : n ≡ k = (let forms = sym is ∙ form in cc) in
    let one : found.0 ≡ named = some_injective (sym class.0 ∙ ap (slice_get graph.shapes) same ∙ at)
    in
    absurd (no_class named.kind (ap (λ (s : Shape). is_class s.kind) (sym one) ∙ class.1) actor)
is_actor_cell graph world (Actor n vs) from kind k named fits goes form at actor = (n, vs, refl)
is_actor_cell graph world (BoxOf w) (Plain a) kind k named fits goes form at actor =
    absurd (let is = fits.is in let clash : ⊥ = cc in clash)
is_actor_cell graph world (BoxOf w) (Boxed a) (Plain b) k named fits goes form at actor = absurd
    goes
is_actor_cell graph world (BoxOf w) (Boxed a) (Boxed b) k named fits goes form at actor =
    absurd (let clash : ⊥ = cc in clash)
is_actor_cell graph world (Closure f vs) (Plain a) (Plain b) k named fits goes form at actor =
    absurd (let is = fits.form in let accepts = layers_accept a b goes in let clash : ⊥ = cc
    in clash)
is_actor_cell graph world (Closure f vs) (Plain a) (Boxed b) k named fits goes form at actor =
    absurd goes
is_actor_cell graph world (Closure f vs) (Boxed a) kind k named fits goes form at actor =
    absurd (let is = fits.form in let clash : ⊥ = cc in clash)
is_actor_cell graph world (TaskOf j) (Plain a) (Plain b) k named fits goes form at actor =
    absurd (let is = fits.form in let accepts = layers_accept a b goes in let clash : ⊥ = cc
    in clash)
is_actor_cell graph world (TaskOf j) (Plain a) (Boxed b) k named fits goes form at actor =
    absurd goes
is_actor_cell graph world (TaskOf j) (Boxed a) kind k named fits goes form at actor =
    absurd (let is = fits.form in let clash : ⊥ = cc in clash)

-- ---- frames
abbrev pub IsKnown : Graph → State → Owner → Type 0
IsKnown graph state (Instance c) = IsActorCell state.cells c
IsKnown graph state (GlobalActor g) = g < global_count graph.functions

pub stands_by : (e : Executor) (a : Owner) → actor_on e ≡ Some a → stands_on e ≡ On a
stands_by executor.Generic a is = cc
stands_by (executor.ActorOf c) a is = ap On (some_injective is)
stands_by (executor.Global g) a is = ap On (some_injective is)

module _ (graph : Graph) (states : ℕ → List (Option Regions)) (state : State) (colours : Colours)
    (s : IsSecure graph states state colours) where
  abbrev w : View
  w = view_of graph (annotated states state) state colours

  -- a frame's own job
  job_of : (p : Spot) (h : Frame) → frame_at state p ≡ Some h
      → (job : Job) × (slice_get state.jobs p.job ≡ Some job)
      × (slice_get job.frames p.depth ≡ Some h)
  job_of p h is = by (slice_get state.jobs p.job) refl is where
    by : (o : Option Job) → slice_get state.jobs p.job ≡ o
        → option_and_then (λ (job : Job). slice_get job.frames p.depth) o ≡ Some h
        → (job : Job) × (slice_get state.jobs p.job ≡ Some job)
        × (slice_get job.frames p.depth ≡ Some h)
    by None there e = absurd (let clash : ⊥ = cc in clash)
    by (Some job) there e = (job, there, e)

  -- the actor of a frame's own `self`
  self_known : (p : Spot) (h : Frame) (function : Function) → frame_at state p ≡ Some h
      → slice_get graph.functions h.function ≡ Some function → is_own function.iso ≡ true
      → is_actor_initialiser function ≡ false → (v : Value) (c : ℕ) → value_at h.regs 0 ≡ Some v
      → reference_of v ≡ Some c → IsActorCell state.cells c
  self_known p h function is known own plain v c at refers =
      by (slice_get function.regs 0) refl self.kind
    where
      job : (job : Job) × (slice_get state.jobs p.job ≡ Some job)
          × (slice_get job.frames p.depth ≡ Some h)
      job = job_of p h is

      self : HasSelf graph.shapes function
      self = s.coloured.clean.placed.selves h.function function known
          (ap (λ b. b && not (is_actor_initialiser function)) own ∙ ap not plain)

      fits : FrameFits graph s.coloured.kinded.world.cells (awaited_at job.0 p.depth) h
      fits = stack.frame_at graph state s.coloured.kinded p.job p.depth job.0 h job.1 job.2

      same : fits.function ≡ function
      same = some_injective (sym fits.is ∙ known)

      by : (o : Option RegKind) → slice_get function.regs 0 ≡ o
          → is_some (shape_of graph.shapes is_actor o) ≡ true → IsActorCell state.cells c
      by None there some = absurd (let clash : ⊥ = cc in clash)
      by (Some kind) there some = shaped (shape_of graph.shapes is_actor (Some kind)) refl some
        where
          has : HasKind graph.shapes s.coloured.kinded.world.cells v kind
          has = fits.stands.slots.each 0 v kind at
              (ap (λ (g : Function). slice_get g.regs 0) same ∙ there)

          shaped : (o : Option Shape) → shape_of graph.shapes is_actor (Some kind) ≡ o → is_some o
              ≡ true
              → IsActorCell state.cells c
          shaped None e none = absurd (let clash : ⊥ = cc in clash)
          shaped (Some named) e some =
              let shape = shape_is graph.shapes is_actor kind named e in
              let cell = cell_named graph state s.coloured.kinded v kind c has refers in
              let actor = is_actor_cell graph s.coloured.kinded.world cell.0 cell.1 kind
              shape.number
              named
              cell.3 cell.4 shape.form shape.at shape.holds in
              (actor.0, actor.1, cell.2 ∙ ap (λ x. Some x) actor.2)

  isolated_known : (o : Spot) (a : Owner) → (w.shape o).isolation ≡ IsolatedTo a → IsKnown graph
      state a
  isolated_known o a is = on_frame (frame_at state o) refl is where
    under : Option Function
    under = function_of graph (frame_under state o.job o.depth)

    own : (h : Frame) (function : Function) → frame_at state o ≡ Some h
        → slice_get graph.functions h.function ≡ Some function → is_own function.iso ≡ true
        → is_actor_initialiser function ≡ false → (r : Option ℕ)
        → option_and_then reference_of (value_at h.regs 0) ≡ r → on_actor r ≡ IsolatedTo a
        → IsKnown graph state a
    own h function there known own_iso plain None refers e = absurd (let clash : ⊥ = cc in clash)
    own h function there known own_iso plain (Some c) refers e =
        let v = from_some reference_of (value_at h.regs 0) c refers in
        subst (IsKnown graph state) (let same : Instance c ≡ a = cc in same)
        (self_known o h function there known own_iso plain v.0 c v.1 v.2)

    by_iso : (h : Frame) (function : Function) → frame_at state o ≡ Some h
        → slice_get graph.functions h.function ≡ Some function
        → is_actor_initialiser function ≡ false → (i : Iso) → function.iso ≡ i
        → isolation_by i h.regs ≡ IsolatedTo a → IsKnown graph state a
    by_iso h function there known plain iso.Free at e = absurd (let clash : ⊥ = cc in clash)
    by_iso h function there known plain iso.Caller at e = absurd (let clash : ⊥ = cc in clash)
    by_iso h function there known plain (iso.Global g) at e =
        subst (IsKnown graph state) (let same : GlobalActor g ≡ a = cc in same)
        (let few = known_at graph.functions 0 h.function function known in
        let is = ap actors_to at in
        let below : g < global_count graph.functions = omega (arith, few, is) in below)
    by_iso h function there known plain iso.Own at e =
        own h function there known (ap is_own at) plain
        (option_and_then reference_of (value_at h.regs 0))
        refl e

    plain_one : (h : Frame) (function : Function) → frame_at state o ≡ Some h
        → slice_get graph.functions h.function ≡ Some function → (b : Bool)
        → is_actor_initialiser function ≡ b
        → cond b MakesActor (isolation_by function.iso h.regs) ≡ IsolatedTo a → IsKnown graph state
        a
    plain_one h function there known true makes e = absurd (let clash : ⊥ = cc in clash)
    plain_one h function there known false plain e = by_iso h function there known plain
        function.iso refl e

    on_function : (h : Frame) (f : Option Function) → frame_at state o ≡ Some h
        → slice_get graph.functions h.function ≡ f
        → (shape_with graph under h f).isolation ≡ IsolatedTo a → IsKnown graph state a
    on_function h None there known e = absurd (let clash : ⊥ = cc in clash)
    on_function h (Some function) there known e =
        plain_one h function there known (is_actor_initialiser function) refl e

    on_frame : (h : Option Frame) → frame_at state o ≡ h
        → (shape_by graph under h).isolation ≡ IsolatedTo a → IsKnown graph state a
    on_frame None there e = absurd (let clash : ⊥ = cc in clash)
    on_frame (Some h) there e = on_function h (slice_get graph.functions h.function) there refl e

  -- the actor on which a frame stands is there
  pub actor_known : (p : Spot) (h : Frame) → frame_at state p ≡ Some h → (a : Owner)
      → actor_on h.executor ≡ Some a → IsKnown graph state a
  actor_known p h is a on =
      let found = anchor w p a s.coloured.sound inside stands in
      isolated_known found.0 a found.2
    where
      job : (job : Job) × (slice_get state.jobs p.job ≡ Some job)
          × (slice_get job.frames p.depth ≡ Some h)
      job = job_of p h is

      fits : FrameFits graph s.coloured.kinded.world.cells (awaited_at job.0 p.depth) h
      fits = stack.frame_at graph state s.coloured.kinded p.job p.depth job.0 h job.1 job.2

      inside : IsFrame w p
      inside =
          let height : option_map_or (λ (j : Job). length j.frames) (slice_get state.jobs p.job) 0
          ≡ length job.0.frames = ap (λ o. option_map_or (λ (j : Job). length j.frames) o 0) job.1
          in
          let few = slice_get_within job.0.frames p.depth h job.2 in
          omega (arith, few, height)

      stands : (w.shape p).executor ≡ On a
      stands = ap (λ o. (shape_by graph (function_of graph (frame_under state p.job p.depth))
          o).executor) is
          ∙ ap (λ o. (shape_with graph (function_of graph (frame_under state p.job p.depth)) h
          o).executor)
          fits.is
          ∙ stands_by h.executor a on
