-- What a call of an actor from elsewhere takes along, in the state after it.
use Rattle.std.proofs.Common.{◌≡◌, ◌≢◌, ◌⊎◌, ◌<◌, ◌+◌, ◌-◌, ℕ, suc, Bool, true, false, Option, Some}
use Rattle.std.proofs.Common.{List, [], ◌∷◌, ◌++◌, length, length-append, Contains, refl, sym}
use Rattle.std.proofs.Common.{subst, ap, ◌∙◌, arith, inl, inr}
use Rattle.std.specs.List.{slice_get}
use Rattle.std.proofs.lemmas.Option.{slice_get_within}
use Rattle.sw_list.proofs.Members.{later_in, none_in}
use Rattle.sw_types.specs.declared.isolation.CallKind.TheVariants.{Strong}
use Rattle.sw_graph.specs.declared.function.Function.{Function}
use Rattle.sw_graph.specs.declared.graph.Graph.{Graph}
use Rattle.sw_graph.specs.declared.instr.Instr.TheVariants as instr
use Rattle.sw_graph.specs.declared.instr.Operand.{Operand}
use Rattle.sw_graph.specs.Points.{Middle}
use Rattle.sw_value.specs.declared.effect.Effect.TheVariants.{Enter}
use Rattle.sw_value.specs.declared.executor.Executor.{Executor}
use Rattle.sw_value.specs.declared.frame.Frame.{Frame}
use Rattle.sw_value.specs.declared.job.Job.{Job}
use Rattle.sw_value.specs.declared.state.State.{State}
use Rattle.sw_value.specs.declared.value.Value.{Value}
use Rattle.sw_value.specs.Call.{call_executor, crosses, pushed_frame}
use Rattle.sw_value.specs.Effect.{point_effect}
use Rattle.sw_value.specs.Frame.{go_on}
use Rattle.sw_value.specs.Job.{enter, top_frame}
use Rattle.sw_value.specs.Lists.{changed_at}
use Rattle.sw_value.specs.Reach.{step_of}
use Rattle.sw_value.specs.State.{in_job}
use Rattle.sw_value.specs.Value.{registers, value_at, values_at}
use Rattle.sw_value.proofs.ListLemmas.{changed_at_found, length-changed_at, slice_get_end}
use Rattle.sw_machine_kind_facts.proofs.ItemLemmas.{found_within}
use Rattle.sw_color_rules.specs.declared.colors.Colors.{Colors}
use Rattle.sw_color_rules.specs.Changes.{Push, after_change, push_here}
use Rattle.sw_color_rules.specs.Plans as plans
use Rattle.sw_color_rules.specs.Plans.{next_color, sending_of}
use Rattle.sw_solve.specs.Annotation as annotation
use Rattle.sw_partition.specs.Regions.{Regions}
use Rattle.sw_owner_facts.specs.Colours.{Actor as Owner, Colour, OfActor, OfJob}
use Rattle.sw_owner_facts.specs.Calls.{Called}
use Rattle.sw_owner_facts.specs.View.{Element, Here, HoldsLive, InOneRegion, IsDisconnected}
use Rattle.sw_owner_facts.specs.View.{Register}
use Rattle.sw_owner_facts.specs.View.{View, above, Frame as Spot}
use Rattle.sw_owner_facts.proofs.FrameLemmas.{cases_frame, same_frame}
use Rattle.sw_region_facts.specs.Moves.{Sends}
use Rattle.sw_reach_facts.specs.Reached.{colours_of}
use Rattle.sw_view_facts.specs.Standing.{StandsAt}
use Rattle.sw_view_facts.specs.Views.{Colours, frame_at, view_at}
use Rattle.sw_late_facts.specs.Hues.{hue}
use Rattle.sw_late_facts.specs.Late.{Late}
use Rattle.sw_secure_facts.specs.Painting.{Unites, actor_on, begun_here, with_here}
use Rattle.sw_secure_facts.specs.Secure.{IsSecure}
use Rattle.sw_secure_call_facts.proofs.After.{joint, sent_apart_from_lent, stays, still_free, turns}
use Rattle.sw_secure_call_facts.proofs.After.{with_begun}
use Rattle.sw_secure_call_facts.proofs.Before.{lent_free, taken}
use Rattle.sw_secure_call_facts.proofs.Functions.{DirectCall, set}
use Rattle.sw_secure_call_facts.proofs.Holds.{called}
use Rattle.sw_secure_call_facts.proofs.Pushing as pushing
use Rattle.sw_secure_call_facts.proofs.Setup.{Setup, begun, elements, lent_colours}
use Rattle.sw_view_facts.proofs.EntryLemmas.{given_value}
use Rattle.sw_hue_facts.specs.Hued.{hued}
use Rattle.sw_hue_facts.proofs.Made.{frame_made}
use Rattle.sw_secure_late_facts.specs.LateSecure.{CargoFits, IsLateSecure}
use Rattle.sw_secure_late_facts.proofs.Joining.{none_unite}
use Rattle.sw_secure_late_facts.proofs.Knowing.{shows}
use Rattle.sw_secure_late_facts.proofs.Lending.{holds_by, lent_with_here}
use Rattle.sw_secure_late_facts.proofs.Numbers.{numbered}
use Rattle.sw_secure_late_facts.proofs.Same.{in_hues}
use Rattle.sw_secure_late_facts.proofs.Showing.{passed_shows}

module _ (graph : Graph) (states : ℕ → List (Option Regions)) (late : Late)
    (s : IsLateSecure graph states late) (q : Spot) (job : Job) (f : Frame) (function : Function)
    (at dst number : ℕ) (args : List Operand)
    (stands : StandsAt graph late.state q job f function
    (Middle (instr.Call at dst Strong number args)))
    (callee : Function) (is : slice_get graph.functions number ≡ Some callee) (values : List Value)
    (are : values_at f.regs args ≡ Some values) (executor : Executor)
    (runs : call_executor Strong f.executor callee.iso (registers (length callee.regs) values)
    ≡ Some executor)
    (gives : point_effect graph late.state (length job.frames) f
    (Middle (instr.Call at dst Strong number args))
    ≡ Enter (pushed_frame number dst (crosses Strong) (registers (length callee.regs) values)
    executor)
    (f.point + 1)) where
  abbrev colors : Colors
  colors = late.colors

  abbrev call : DirectCall Strong
  call = record {
    graph = graph;
    states = states;
    state = late.state;
    colours = hued colors;
    secure = s.secure;
    q = q;
    number = next_color colors;
    numbered = numbered colors s.whole s.made;
    job = job;
    f = f;
    function = function;
    at = at;
    dst = dst;
    body = number;
    args = args;
    x = stands;
    callee = callee;
    is = is;
    values = values;
    are = are;
    executor = executor;
    runs = runs;
    gives = gives;
  }

  abbrev ss : Setup
  ss = set Strong call

  abbrev t : Frame
  t = pushed_frame number dst (crosses Strong) (registers (length callee.regs) values) executor

  abbrev ns : List ℕ
  ns = plans.passed colors.cells (sending_of graph t.function) t.regs

  abbrev later : State
  later = step_of graph late.state q.job

  sends : Sends (elements ss) ss.lent ss.moves.given ss.moves.taken
  sends = ss.moves.lends

  -- ---- what is lent
  lent : (n : ℕ) → Contains ns n → Contains (lent_colours ss) (hue colors.palette n)
  lent n among = (passed_shows late.state colors q
      (shows graph states late s q job f function (Middle (instr.Call at dst Strong number args))
      stands)
      (sending_of graph t.function) t.regs).to (hue colors.palette n)
      (in_hues colors.palette ns n among)

  free : (n : ℕ) → Contains ns n → IsDisconnected (taken ss) q.job (hue colors.palette n)
  free n among = lent_free ss sends (hue colors.palette n) (lent n among)

  module _ (a : ℕ) (actor : Owner) (on : actor_on executor ≡ Some actor)
      (hue_is : hue colors.palette a ≡ OfActor actor) (after : Colors)
      (is_after : after ≡ after_change colors (Push q.job a))
      (secure : IsSecure graph states later (hued after)) where
    palette_is : after.palette ≡ colors.palette
    unfolding push_here
    palette_is = ap (λ (c : Colors). c.palette) is_after

    hued_is : with_begun ss ≡ hued after
    unfolding push_here
    hued_is = ap (λ o. with_here q.job (begun_here o q.job (next_color colors)) (hued colors)) on
        ∙ ap (λ c. with_here q.job c (hued colors)) (sym hue_is)
        ∙ sym (frame_made colors q.job a) ∙ sym (ap hued is_after)

    unites : Unites q.job [] (with_begun ss) (hued after)
    unites = subst (Unites q.job [] (with_begun ss)) hued_is (none_unite q.job (with_begun ss))

    nothing : (d : Colour) → Contains [] d → Contains (begun ss ∷ lent_colours ss) d
    nothing d has = absurd (none_in d has)

    lent_apart : (d : Colour) → Contains (lent_colours ss) d
        → (turns ss [] (hued after) unites (begun ss) ≡ turns ss [] (hued after) unites d)
        ⊎ IsDisconnected (joint ss [] (hued after) unites) q.job (turns ss [] (hued after) unites d)
    lent_apart d has =
        let one = lent_free ss sends d has in
        let same = stays ss [] (hued after) unites d (none_in d) in
        inr (record {
          number = one.number;
          owner = same ∙ one.owner;
          unheld = λ p x h. still_free ss [] (hued after) unites d (none_in d) one.unheld p x
              (subst (HoldsLive (joint ss [] (hued after) unites) p x) same h);
        })

    abbrev w : View
    w = view_at graph states later (hued after)

    abbrev called_it : Called (joint ss [] (hued after) unites) w q
    called_it = called ss [] (hued after) unites nothing lent_apart

    -- ---- the frames below hold none of it
    below : (p : Spot) (x : Element) (n l : ℕ) → Contains ns n → hue colors.palette n ≡ OfJob q.job
        l
        → p.job ≡ q.job → p ≢ above q → HoldsLive w p x (OfJob q.job l) → ⊥
    below p x n l among hue_n own differ h =
        still_free ss [] (hued after) unites (OfJob q.job l) (none_in (OfJob q.job l))
        (subst (λ d. (p : Spot) (x : Element) → HoldsLive (taken ss) p x d → ⊥) hue_n
        (free n among).unheld)
        p x (elim (cases_frame p q) [
          | inl same ↦ subst (λ z. HoldsLive (joint ss [] (hued after) unites) z x (OfJob q.job l))
              (sym same)
              (called_it.caller.held (subst (λ z. HoldsLive w z x (OfJob q.job l)) same h))
          | inr apart ↦ (called_it.others p inside apart).held h
        ])
      where
        high : p.depth < suc (suc q.depth)
        high = subst (λ n. p.depth < n) (ap w.height own ∙ called_it.pushed.height) h.frame

        not_top : p.depth ≡ suc q.depth → ⊥
        not_top same = differ (same_frame {p = p} {q = above q} own same)

        inside : p.depth < (joint ss [] (hued after) unites).height p.job
        inside = subst (λ j. p.depth < (joint ss [] (hued after) unites).height j) (sym own)
            (subst (λ n. p.depth < n) (sym called_it.pushed.before)
            (let x : p.depth < suc q.depth = omega (arith, high, not_top) in x))

    -- ---- the new frame has it with `Here`
    there : frame_at later (above q) ≡ Some t
    there = pushing.there_now ss [] (hued after) unites

    with_here_new : (x : Element) (n l : ℕ) → Contains ns n → hue colors.palette n ≡ OfJob q.job l
        → HoldsLive w (above q) x (OfJob q.job l) → InOneRegion w (above q) x Here
    with_here_new Here n l among hue_n h = refl
    with_here_new (Register k) n l among hue_n h = by sent.0 sent.1 where
      e : (e : Regions) × (annotation.value_at (states t.function) 0 ≡ Some e)
      e = pushing.entry ss [] (hued after) unites

      v : (v : Value) × (value_at t.regs k ≡ Some v)
          × Contains (colours_of later.cells (hued after).cells v) (OfJob q.job l)
      v = holds_by graph states later (hued after) secure (above q) t callee e.0 there is refl e.1 k
          (OfJob q.job l) h.holds

      given : slice_get values k ≡ Some v.0
      given = given_value (length callee.regs) values k v.0 v.1

      sent : (b : Bool) × (slice_get callee.sending k ≡ Some b)
      sent = found_within callee.sending k
          (let low = slice_get_within values k v.0 given in
          let few = ss.few in omega (arith, low, few))

      reached : Contains (colours_of late.state.cells (hued colors).cells v.0) (OfJob q.job l)
      reached = subst (λ cells. Contains (colours_of cells (hued colors).cells v.0) (OfJob q.job l))
          (pushing.cells_stay ss)
          (subst (λ (c : Colours). Contains (colours_of later.cells c.cells v.0) (OfJob q.job l))
          (sym hued_is) v.2)

      by : (b : Bool) → slice_get callee.sending k ≡ Some b → InOneRegion w (above q) (Register k)
          Here
      by false keeps = lent_with_here graph states later (hued after) secure (above q) t callee e.0
          there
          is refl e.1 k (OfJob q.job l) h.holds keeps
      by true gone = absurd (sent_apart_from_lent ss k v.0 (OfJob q.job l) given gone reached
          (later_in (begun ss) (lent_colours ss) (OfJob q.job l)
          (subst (Contains (lent_colours ss)) hue_n (lent n among))))

    -- ---- the job
    abbrev next_job : Job
    next_job = enter t (f.point + 1) job

    job_there : slice_get later.jobs q.job ≡ Some next_job
    unfolding in_job
    job_there = ap (λ (w : State). slice_get w.jobs q.job) (pushing.stepped ss)
        ∙ changed_at_found (enter t (f.point + 1)) q.job late.state.jobs job stands.top.there

    abbrev lower : List Frame
    lower = changed_at (go_on (f.point + 1)) (length job.frames - 1) job.frames

    top_is : top_frame next_job ≡ Some t
    unfolding top_frame enter
    top_is = ap (slice_get (lower ++ t ∷ []))
        (let last : length (lower ++ t ∷ []) - 1 ≡ length lower =
        omega (arith, length-append lower (t ∷ [])) in last)
        ∙ slice_get_end lower t

    height_is : length next_job.frames ≡ suc (suc q.depth)
    unfolding enter
    height_is =
        let count = length-changed_at (go_on (f.point + 1)) (length job.frames - 1) job.frames in
        let more = length-append lower (t ∷ []) in
        let high = stands.top.height in
        omega (arith, count, more, high)

    pub call_takes : CargoFits graph states later after
        (record { job = q.job; actor = a; colors = ns })
    call_takes = record {
      job = next_job;
      there = job_there;
      frame = t;
      top = top_is;
      entry = refl;
      entered = inr refl;
      actor = actor;
      on = on;
      is = ap (λ p. hue p a) palette_is ∙ hue_is;
      owned = λ n among.
          let one = free n among in (one.number, ap (λ p. hue p n) palette_is ∙ one.owner);
      alone = λ n l among was p x own h.
          let hue_n : hue colors.palette n ≡ OfJob q.job l = ap (λ p. hue p n) (sym palette_is)
          ∙ was in
          elim (cases_frame p (above q)) [
            | inl same ↦ (
              height_is ∙ ap (λ (z : Spot). suc z.depth) (sym same),
              subst (λ z. InOneRegion w z x Here) (sym same)
                  (with_here_new x n l among hue_n (subst (λ z. HoldsLive w z x (OfJob q.job l))
                  same h)),
            )
            | inr differ ↦ absurd (below p x n l among hue_n own differ h)
          ];
    }
