-- A step that returns from a frame to the one below.
use Rattle.std.specs.Option.{option_and_then, option_map}
use Rattle.std.specs.List.{slice_get, slice_set}
use Rattle.std.proofs.Common.{◌≡◌, ◌≢◌, ◌+◌, ◌-◌, ℕ, suc, Bool, true, false, cond, IsTrue}
use Rattle.std.proofs.Common.{Option, Some, None, List, [], ◌∷◌, ◌++◌, length, Contains, refl, sym}
use Rattle.std.proofs.Common.{subst, ap, ◌∙◌, arith, inl, inr, add-one}
use Rattle.std.proofs.lemmas.Bool.{cases_eq}
use Rattle.std.proofs.lemmas.List.{length-append}
use Rattle.std.proofs.lemmas.Option.{slice_get_within}
use Rattle.sw_list.proofs.ListLemmas.{slice_get_first}
use Rattle.sw_types.specs.declared.ty.Ty.{Ty}
use Rattle.sw_graph.specs.declared.function.Function.{Function}
use Rattle.sw_graph.specs.declared.function.RegKind.{RegKind}
use Rattle.sw_graph.specs.declared.function.RegKind.TheVariants.{Plain}
use Rattle.sw_graph.specs.declared.graph.Graph.{Graph}
use Rattle.sw_graph.specs.declared.instr.Last.TheVariants.{Return}
use Rattle.sw_graph.specs.declared.instr.Operand.{Operand}
use Rattle.sw_graph.specs.Bodies.{has_self}
use Rattle.sw_graph.specs.Kinds.{value}
use Rattle.sw_graph.specs.Points.{End, Point}
use Rattle.sw_value.specs.declared.effect.Effect.TheVariants.{Leave}
use Rattle.sw_value.specs.declared.frame.Frame.{Frame}
use Rattle.sw_value.specs.declared.frame.TheConstants.{NO_REGISTER}
use Rattle.sw_value.specs.declared.job.Job.{Job}
use Rattle.sw_value.specs.declared.job.Status.TheVariants.{Ready, Running, Waiting}
use Rattle.sw_value.specs.declared.state.State.{State}
use Rattle.sw_value.specs.declared.value.Value.{Value}
use Rattle.sw_value.specs.Effect.{returned_value}
use Rattle.sw_value.specs.Frame.{take_result}
use Rattle.sw_value.specs.Job.{leave}
use Rattle.sw_value.specs.Reach.{step_of}
use Rattle.sw_value.specs.State.{in_job}
use Rattle.sw_value.proofs.JobLemmas.{leave_some, return_to_there}
use Rattle.sw_value.proofs.ListLemmas.{slice_get_end}
use Rattle.sw_partition.specs.Regions.{Regions}
use Rattle.sw_region_ops.specs.Elements.{element_at, elements_of}
use Rattle.sw_machine_kind_facts.specs.Standing.{ResultGoes, StackFits, above as on_top, awaited_at}
use Rattle.sw_machine_kind_facts.specs.Standing.{awaited_in, bottom as lowest, or_above}
use Rattle.sw_machine_kind_facts.proofs.ItemLemmas.{at_end, ends_same, found_within, last_of}
use Rattle.sw_machine_kind_facts.proofs.ItemLemmas.{set_end, top_of}
use Rattle.sw_machine_kind_facts.proofs.KindLemmas.{goes_captured, goes_to}
use Rattle.sw_machine_kind_facts.proofs.NeverStuck.{running_job}
use Rattle.sw_machine_kind_facts.proofs.StateLemmas.{one_function, taken_function}
use Rattle.sw_owner_facts.specs.Calls.{Handed}
use Rattle.sw_owner_facts.specs.Colours.{Colour}
use Rattle.sw_owner_facts.specs.View.{FrameShape, View, above, Frame as Spot}
use Rattle.sw_owner_facts.proofs.FrameLemmas.{same_frame}
use Rattle.sw_owner_facts.proofs.ReturnedLemmas.{returned}
use Rattle.sw_reach_facts.specs.Reached.{colours_of}
use Rattle.sw_reach_facts.proofs.FitLemmas.{colours_fit, conformances_hold}
use Rattle.sw_view_facts.specs.Returning.{Leaves}
use Rattle.sw_view_facts.specs.Standing.{StandsAt}
use Rattle.sw_view_facts.specs.Views.{Colours, closes_at, frame_at, function_of}
use Rattle.sw_view_facts.specs.Views.{shape_by, shape_with, tracked_in, view_at}
use Rattle.sw_view_facts.proofs.ReturnLemmas.{same_call}
use Rattle.sw_view_facts.proofs.TakenLemmas.{untracked_shows}
use Rattle.sw_view_facts.proofs.TopLemmas.{frame_was}
use Rattle.sw_secure_facts.specs.Executing.{Executing, StaysSecure}
use Rattle.sw_secure_facts.specs.Painting.{without_here}
use Rattle.sw_secure_facts.specs.Secure.{IsSecure}
use Rattle.sw_secure_job_facts.proofs.Changed.{have_changed, memory_changed, waits_changed}
use Rattle.sw_secure_job_facts.proofs.Closing.{closing_crosses}
use Rattle.sw_secure_job_facts.proofs.Effects.{leaves_from}
use Rattle.sw_secure_job_facts.proofs.Frames.{few_at, function_at}
use Rattle.sw_secure_job_facts.proofs.Giving.{Given, crosses_bare, given, value_kind}
use Rattle.sw_secure_job_facts.proofs.Leaving.{frames_are, rest, returns_below, stepped}
use Rattle.sw_secure_job_facts.proofs.Next.{WaitsAs, secure_after}
use Rattle.sw_secure_job_facts.proofs.Rows.{here_below, here_elsewhere, heres_popped}
use Rattle.sw_secure_job_facts.proofs.Rows.{memory_uncoloured}
use Rattle.sw_secure_facts.proofs.Uniting.{nothing_unites}

-- what the top frame gives goes to the one below
linked : (graph : Graph) (cells : List RegKind) (below : List Frame) (top : Frame)
    (awaits : Option ℕ) (result : Ty) → StackFits graph cells below top awaits result
    → (rest : List Frame) (lower : Frame) → below ≡ rest ++ lower ∷ [] → (function callee :
    Function)
    → slice_get graph.functions lower.function ≡ Some function
    → slice_get graph.functions top.function ≡ Some callee
    → ResultGoes function top.result callee.result
linked graph cells below top awaits result (lowest b t a r none fits gives) rest lower are function
    callee is called =
    let size = length-append rest (lower ∷ []) in
    let empty = ap (λ (l : List Frame). length l) (sym none ∙ are) in
    absurd (omega (arith, size, empty))
linked graph cells below top awaits result (on_top b t a r others under same stack fits links) rest
    lower are function callee is called =
    let both = ends_same others rest under lower (sym same ∙ are) in
    subst (λ (f : Function). ResultGoes function t.result f.result)
    (one_function graph t.function t.function fits.function callee refl fits.is called)
    (links function (ap (λ (f : Frame). slice_get graph.functions f.function) both.1 ∙ is))

module _ (graph : Graph) (states : ℕ → List (Option Regions)) (state : State) (colours : Colours)
    (p : Spot) (number : ℕ) (job : Job) (t : Frame) (callee : Function) (point : Point) (v : Value)
    (x : Executing graph states state colours (above p) number job t callee point (Leave v)) where
  abbrev old : View
  old = view_at graph states state colours

  abbrev next : State
  next = step_of graph state p.job

  from : (operand : Option Operand) × (point ≡ End (Return operand))
      × (returned_value t.regs operand ≡ Some v)
  from = leaves_from graph state (length job.frames) t point v x.gives

  stands : StandsAt graph state (above p) job t callee (End (Return from.0))
  stands = subst (StandsAt graph state (above p) job t callee) from.1 x.stands

  -- ---- the frame below
  lower : (f : Frame) × (slice_get job.frames p.depth ≡ Some f)
  lower = found_within job.frames p.depth (let h = x.stands.top.height in omega (arith, h))

  abbrev f : Frame
  f = lower.0

  lower_at : frame_at state p ≡ Some f
  lower_at = ap (option_and_then (λ (j : Job). slice_get j.frames p.depth)) x.stands.top.there
      ∙ lower.1

  body : (function : Function) × (slice_get graph.functions f.function ≡ Some function)
  body = function_at graph states state colours x.secure.coloured p f lower_at

  -- it waits for the result in no register of its own `self`
  not_self : IsTrue (has_self body.0) → t.result ≢ 0
  not_self self = x.secure.waits.selves p.job p.depth t.result job f body.0 x.stands.top.there
      lower.1 body.1 self
      (ap (λ o. or_above o (awaited_in job.status))
      (ap (slice_get job.frames) (add-one p.depth) ∙ x.stands.top.top))

  row : (row : List Colour) × (slice_get colours.heres p.job ≡ Some row)
      × (length row ≡ suc (suc p.depth))
  row =
      let inside = slice_get_within state.jobs p.job job x.stands.top.there in
      let jobs = x.secure.heres.jobs in
      let found = found_within colours.heres p.job (omega (arith, inside, jobs)) in (
        found.0,
        found.1,
        x.secure.heres.frames p.job job found.0 x.stands.top.there found.1 ∙ x.stands.top.height,
      )

  leaves : Leaves graph state p f t body.0 callee v colours (without_here p.job colours)
  leaves = record {
    job = job;
    point = point;
    stands = x.stands;
    gives = x.gives;
    below = lower_at;
    is = body.1;
    few = few_at graph states state colours x.secure.coloured p f lower_at;
    self = not_self;
    cells = refl;
    heres = λ s apart. elim (cases_eq s.job p.job) [
      | inr differ ↦ here_elsewhere p.job colours s differ
      | inl same ↦ here_below p.job colours row.0 (suc p.depth) row.1 row.2 s same
          (λ depth. apart (same_frame same depth))
    ];
  }

  -- ---- what is handed to it
  goes : ResultGoes body.0 t.result callee.result
  unfolding leaves
  goes =
      let kinded = x.secure.coloured.kinded in
      let run = running_job graph x.secure.coloured.supplied state kinded p.job job
      x.stands.top.there x.stands.running in
      let count = kinded.fits.job_count in
      let inside = slice_get_within state.jobs p.job job x.stands.top.there in
      let result = found_within kinded.world.results p.job (omega (arith, inside, count)) in
      let under = rest graph states state p f t body.0 callee v colours
      (without_here p.job colours) leaves in
      let both = ends_same run.below (under.0 ++ f ∷ []) run.top t (sym run.runs.are
      ∙ frames_are graph states state p f t body.0 callee v colours (without_here p.job colours)
      leaves) in
      linked graph kinded.world.cells run.below t None result.0
      (subst (λ z. StackFits graph kinded.world.cells run.below z None result.0) both.1
      (run.runs.stack result.0 result.1)) under.0 f both.0 body.0 callee body.1 x.stands.is

  -- a register that isn't tracked gets what reaches nothing
  bare : element_at (elements_of graph.shapes body.0.regs) t.result ≡ None → t.result ≢ NO_REGISTER
      → (c : Colour) → Contains (colours_of state.cells colours.cells v) c → ⊥
  bare none wanted c has = elim goes [
    | inl unwanted ↦ absurd (wanted unwanted)
    | inr to ↦
        let s = x.secure.coloured in
        let went = goes_to graph.shapes s.kinded.world.cells v (Plain callee.result)
        (value callee.result) (slice_get body.0.regs t.result)
        (value_kind graph states state colours s (above p) job t callee v from.0 stands from.2) refl
        (goes_captured (value callee.result) (slice_get body.0.regs t.result) to) in
        untracked_shows graph (conformances_hold graph s.clean) s.kinded.world state colours
        (colours_fit graph s.clean state s.kinded colours.cells s.have) body.0 t.result went.kind v
        c
        none went.is went.has has
  ]

  shape_is : old.shape (above p) ≡ shape_with graph (Some body.0) t (Some callee)
  shape_is =
      ap (λ o. shape_by graph (function_of graph o) (frame_at state (above p))) lower_at
      ∙ ap (λ o. shape_by graph o (frame_at state (above p))) body.1
      ∙ ap (shape_by graph (Some body.0)) (frame_was state (above p) job t x.stands.top)
      ∙ ap (shape_with graph (Some body.0) t) x.stands.is

  result_is : (old.shape (above p)).result
      ≡ cond callee.sends None (tracked_in graph t.result body.0)
  result_is = ap (λ (s : FrameShape). s.result) shape_is

  allowed : (c : Colour) → t.result ≢ NO_REGISTER
      → Contains (colours_of state.cells colours.cells v) c
      → (g : Given graph states state colours x.secure.coloured (above p) job t callee v from.0
      stands from.2 c) → Handed old p t.result c
  allowed c wanted has g = by callee.sends refl (element_at (elements_of graph.shapes body.0.regs)
      t.result) refl
    where
      by : (b : Bool) → callee.sends ≡ b → (o : Option ℕ)
          → element_at (elements_of graph.shapes body.0.regs) t.result ≡ o
          → Handed old p t.result c
      by true sends o is = record {
        value = g.element;
        holds = g.holds;
        allowed = inr (λ one. g.free sends one);
      }
      by false sends None none = absurd (bare none wanted c has)
      by false sends (Some n) is = record {
        value = g.element;
        holds = g.holds;
        allowed = inl (result_is
            ∙ ap (λ b. cond b None (tracked_in graph t.result body.0)) sends
            ∙ ap (option_map (λ _. t.result)) is);
      }

  handed : (c : Colour) → t.result ≢ NO_REGISTER
      → Contains (colours_of state.cells colours.cells v) c → Handed old p t.result c
  handed c wanted has = by (closes_at graph callee t.point) refl where
    by : (b : Bool) → closes_at graph callee t.point ≡ b → Handed old p t.result c
    by true shut = absurd (crosses_bare graph states state colours x.secure.coloured (above p) job t
        callee v from.0 stands from.2
        (closing_crosses graph x.secure.coloured.clean t.function callee x.stands.is t.point shut) c
        has)
    by false open_now = allowed c wanted has (given graph states state colours x.secure.coloured
        (above p) job t callee v from.0 stands from.2 open_now c has)

  -- ---- the rest of the state
  abbrev g : Frame
  g = take_result t.result v f

  split : (rest : List Frame) × (job.frames ≡ (rest ++ f ∷ []) ++ t ∷ [])
  unfolding leaves
  split = (
    (rest graph states state p f t body.0 callee v colours (without_here p.job colours) leaves).0,
    frames_are graph states state p f t body.0 callee v colours (without_here p.job colours) leaves,
  )

  left : leave v job
      ≡ record { frames = split.0 ++ g ∷ []; status = cond t.crossing Ready job.status }
  left =
      leave_some v job (split.0 ++ f ∷ []) t split.1
      ∙ return_to_there (split.0 ++ f ∷ []) t f v job.status (top_of split.0 f)
      ∙ ap (λ (l : List Frame). record { frames = l; status = cond t.crossing Ready job.status })
      (ap (λ k. slice_set (split.0 ++ f ∷ []) k (take_result t.result v f)) (last_of split.0 f)
      ∙ set_end split.0 f (take_result t.result v f))

  -- a frame that is there after the return was there
  was : (i : ℕ) (h : Frame) → slice_get (split.0 ++ g ∷ []) i ≡ Some h → (old : Frame)
      × (slice_get job.frames i ≡ Some old) × (old.function ≡ h.function)
      × (old.result ≡ h.result)
  was i h at = elim (at_end split.0 g h i at) [
    | inl before ↦
        let inside = slice_get_within split.0 i h before in
        let more = length-append split.0 (f ∷ []) in (
          h,
          ap (λ l. slice_get l i) split.1
              ∙ slice_get_first (split.0 ++ f ∷ []) (t ∷ []) i (omega (arith, inside, more))
              ∙ slice_get_first split.0 (f ∷ []) i inside ∙ before,
          refl,
          refl,
        )
    | inr (place, is) ↦
        let more = length-append split.0 (f ∷ []) in (
          f,
          ap (λ l. slice_get l i) split.1
              ∙ slice_get_first (split.0 ++ f ∷ []) (t ∷ []) i (omega (arith, place, more))
              ∙ ap (slice_get (split.0 ++ f ∷ [])) place ∙ slice_get_end split.0 f,
          sym (taken_function t.result v f) ∙ ap (λ (k : Frame). k.function) (sym is),
          sym ((same_call t.result v f).result) ∙ ap (λ (k : Frame). k.result) (sym is),
        )
  ]

  -- the job waits for no other
  idle : (b : Bool) (on r : ℕ) → cond b Ready job.status ≡ Waiting on r → ⊥
  idle true on r is = cc
  idle false on r is = let clash : Running ≡ Waiting on r = sym x.stands.running ∙ is in cc

  idle_in : (b : Bool) → awaited_in (cond b Ready job.status) ≡ None
  idle_in true = refl
  idle_in false = ap awaited_in x.stands.running

  waits : WaitsAs job (leave v job)
  waits = subst (λ now. WaitsAs job now) (sym left) (record {
    frames = λ i r h at awaits.
        let old = was i h at in
        (old.0, old.1, old.2, by i r (slice_get (split.0 ++ g ∷ []) (i + 1)) refl awaits);
    status = λ on r is. absurd (idle t.crossing on r is);
  })
    where
      by : (i r : ℕ) (o : Option Frame) → slice_get (split.0 ++ g ∷ []) (i + 1) ≡ o
          → or_above o (awaited_in (cond t.crossing Ready job.status)) ≡ Some r
          → awaited_at job i ≡ Some r
      by i r None at awaits =
          let clash : None ≡ Some r = sym (idle_in t.crossing) ∙ awaits in cc
      by i r (Some h) at awaits =
          let old = was (i + 1) h at in
          ap (λ o. or_above o (awaited_in job.status)) old.1 ∙ ap Some old.3 ∙ awaits

  shorter : length (leave v job).frames ≡ length job.frames - 1
  shorter =
      let one = length-append split.0 (g ∷ []) in
      let two = length-append split.0 (f ∷ []) in
      let three = length-append (split.0 ++ f ∷ []) (t ∷ []) in
      let all = ap length split.1 in
      ap (λ (j : Job). length j.frames) left
      ∙ (let e : length (split.0 ++ g ∷ []) ≡ length job.frames - 1 =
      omega (arith, one, two, three, all) in e)

  steps : next ≡ in_job (leave v) p.job state
  unfolding leaves
  steps = stepped graph states state p f t body.0 callee v colours (without_here p.job colours)
      leaves

  pub returns_above : StaysSecure graph states state colours (above p) number t point (Leave v)
  returns_above after unites =
      subst (IsSecure graph states next)
      (sym (nothing_unites p.job (without_here p.job colours) after unites))
      (secure_after graph states state colours x.secure p.job (without_here p.job colours)
      (have_changed (leave v) p.job state next steps job x.stands.top.there graph colours
      x.secure.coloured.have)
      (returned old (view_at graph states next (without_here p.job colours)) p t.result
      x.secure.coloured.sound
      (returns_below graph states state p f t body.0 callee v colours (without_here p.job colours)
      leaves handed))
      (memory_uncoloured graph next colours (without_here p.job colours) refl
      (memory_changed (leave v) p.job state next steps job x.stands.top.there graph colours
      x.secure.memory))
      (heres_popped (leave v) p.job state next steps job x.stands.top.there colours shorter
      x.secure.heres)
      (waits_changed (leave v) p.job state next steps job x.stands.top.there waits))
