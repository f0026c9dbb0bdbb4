-- What a secure state has beside its view, after a call: memory, the colours of each `Here`, and
-- what waits.
use Rattle.std.proofs.Common.{◌≡◌, ◌≢◌, ◌⊎◌, ◌+◌, ◌-◌, ℕ, suc, Bool, true, false, cond, IsTrue}
use Rattle.std.proofs.Common.{Option}
use Rattle.std.proofs.Common.{Some, None, List, [], ◌∷◌, ◌++◌, length, refl, sym, subst, ap, ◌∙◌}
use Rattle.std.proofs.Common.{arith}
use Rattle.std.proofs.Common.{inl, inr, add-one}
use Rattle.std.specs.Option.{option_and_then}
use Rattle.std.specs.List.{slice_get}
use Rattle.std.proofs.lemmas.Bool.{cases_eq}
use Rattle.std.proofs.lemmas.List.{length-append}
use Rattle.std.proofs.lemmas.Option.{slice_get_past, slice_get_within}
use Rattle.sw_list.proofs.ListLemmas.{some_injective}
use Rattle.sw_types.specs.declared.ty.Ty.{Ty}
use Rattle.sw_graph.specs.declared.function.Function.{Function}
use Rattle.sw_graph.specs.Bodies.{has_self}
use Rattle.sw_graph.specs.Points.{Middle}
use Rattle.sw_graph.specs.Ways.{is_number, point_sets}
use Rattle.sw_value.specs.declared.frame.Frame.{Frame}
use Rattle.sw_value.specs.declared.job.Job.{Job}
use Rattle.sw_value.specs.declared.job.Status.TheVariants.{Ended, Ready, Waiting}
use Rattle.sw_value.specs.declared.state.State.{State}
use Rattle.sw_value.specs.Frame.{go_on}
use Rattle.sw_value.specs.Job.{enter}
use Rattle.sw_value.specs.Lists.{changed_at}
use Rattle.sw_value.specs.State.{in_job}
use Rattle.sw_value.proofs.ListLemmas.{changed_at_found, length-changed_at}
use Rattle.sw_machine_kind_facts.specs.Kinds.{Referents}
use Rattle.sw_machine_kind_facts.specs.Standing.{JobFits, awaited_at, awaited_in, or_above}
use Rattle.sw_machine_kind_facts.specs.Standing.{StatusFits, goes, over}
use Rattle.sw_machine_kind_facts.proofs.ItemLemmas.{changed_other, found_within}
use Rattle.sw_owner_facts.specs.Colours.{Colour}
use Rattle.sw_owner_facts.specs.View.{above, Frame as Spot}
use Rattle.sw_owner_facts.proofs.FrameLemmas.{cases_frame, same_frame}
use Rattle.sw_view_facts.specs.Views.{Colours, frame_at}
use Rattle.sw_secure_facts.specs.Memory.{OwnsMemory}
use Rattle.sw_secure_facts.specs.Painting.{Unites}
use Rattle.sw_secure_facts.specs.Secure.{HeresFit, WaitsFit}
use Rattle.sw_secure_facts.proofs.Recoloured.{heres_recoloured, memory_recoloured}
use Rattle.sw_secure_facts.proofs.Secured.{later_kinds}
use Rattle.sw_secure_facts.proofs.Staying.{memory_stays}
use Rattle.sw_secure_facts.proofs.Uniting.{actors_stay}
use Rattle.sw_secure_call_facts.proofs.After.{after_is, turns, with_begun}
use Rattle.sw_secure_call_facts.proofs.Before.{frame_is, same}
use Rattle.sw_secure_call_facts.proofs.Pushing.{cells_stay, globals_stay, here_now, next}
use Rattle.sw_secure_call_facts.proofs.Pushing.{others_now}
use Rattle.sw_secure_call_facts.proofs.Pushing.{stepped, there_now}
use Rattle.sw_secure_call_facts.proofs.Setup.{Setup, begun}

-- the colours of `Here` are no memory's
memory_with_begun : (s : Setup) → OwnsMemory s.graph s.state (with_begun s)
memory_with_begun s = let m = s.secure.memory in record {
  count = m.count;
  marked = m.marked;
  inside = m.inside;
  kept = m.kept;
  globals = m.globals;
  global_closures = m.global_closures;
  own_closures = m.own_closures;
  earlier = m.earlier;
}

-- ---- the jobs after a call
module _ (s : Setup) where
  abbrev push : Job → Job
  push = enter s.t (s.f.point + 1)

  jobs_now : (next s).jobs ≡ changed_at push s.q.job s.state.jobs
  unfolding in_job
  jobs_now = ap (λ (w : State). w.jobs) (stepped s)

  count_now : length (next s).jobs ≡ length s.state.jobs
  count_now = ap (λ (l : List Job). length l) jobs_now
      ∙ length-changed_at push s.q.job s.state.jobs

  job_was : (j : ℕ) (now : Job) → slice_get (next s).jobs j ≡ Some now
      → ((j ≢ s.q.job) × (slice_get s.state.jobs j ≡ Some now))
      ⊎ ((j ≡ s.q.job) × (now ≡ push s.job))
  job_was j now at = elim (cases_eq j s.q.job) [
    | inr differ ↦ inl (
      differ,
      sym (changed_other push s.q.job j s.state.jobs differ)
          ∙ ap (λ (l : List Job). slice_get l j) (sym jobs_now) ∙ at,
    )
    | inl same ↦ inr (
      same,
      some_injective (sym at ∙ ap (λ (l : List Job). slice_get l j) jobs_now
          ∙ ap (slice_get (changed_at push s.q.job s.state.jobs)) same
          ∙ changed_at_found push s.q.job s.state.jobs s.job s.x.top.there),
    )
  ]

  pushed_height : length (push s.job).frames ≡ length s.job.frames + 1
  unfolding enter
  pushed_height =
      length-append (changed_at (go_on (s.f.point + 1)) (length s.job.frames - 1) s.job.frames)
      (s.t ∷ [])
      ∙ ap (λ n. n + 1)
      (length-changed_at (go_on (s.f.point + 1)) (length s.job.frames - 1) s.job.frames)

  -- the job doesn't begin to wait for another
  pushed_status : awaited_in (push s.job).status ≡ None
  unfolding enter
  pushed_status = by s.t.crossing where
    by : (b : Bool) → awaited_in (cond b Ready s.job.status) ≡ None
    by true = refl
    by false = ap awaited_in s.x.running

  -- ---- colours of each `Here`
  heres_begun : HeresFit (next s) (with_begun s)
  heres_begun = record {
    jobs = length-changed_at (λ row. row ++ begun s ∷ []) s.q.job s.colours.heres
        ∙ s.secure.heres.jobs ∙ sym count_now;
    frames = λ j now row at has. by j now row at has (job_was j now at);
  }
    where
      longer : List Colour → List Colour
      longer row = row ++ begun s ∷ []

      end : (old row : List Colour) (now : Job) → old ++ begun s ∷ [] ≡ row
          → length old ≡ length s.job.frames → now ≡ push s.job → length row ≡ length now.frames
      end old row now is count pushed =
          sym (ap (λ (l : List Colour). length l) is) ∙ length-append old (begun s ∷ [])
          ∙ ap (λ n. n + 1) count ∙ sym pushed_height
          ∙ ap (λ (o : Job). length o.frames) (sym pushed)

      by : (j : ℕ) (now : Job) (row : List Colour) → slice_get (next s).jobs j ≡ Some now
          → slice_get (with_begun s).heres j ≡ Some row
          → ((j ≢ s.q.job) × (slice_get s.state.jobs j ≡ Some now))
          ⊎ ((j ≡ s.q.job) × (now ≡ push s.job)) → length row ≡ length now.frames
      by j now row at has (inl (differ, was)) = s.secure.heres.frames j now row was
          (sym (changed_other (λ row. row ++ begun s ∷ []) s.q.job j s.colours.heres differ) ∙ has)
      by j now row at has (inr (same, pushed)) =
          let inside = slice_get_within s.state.jobs s.q.job s.job s.x.top.there in
          let jobs = s.secure.heres.jobs in
          let old = found_within s.colours.heres s.q.job (omega (arith, inside, jobs)) in
          end old.0 row now
          (some_injective (sym (changed_at_found (λ row. row ++ begun s ∷ []) s.q.job
          s.colours.heres old.0 old.1)
          ∙ ap (slice_get (with_begun s).heres) (sym same) ∙ has))
          (s.secure.heres.frames s.q.job s.job old.0 s.x.top.there old.1) pushed

-- what a job waits for was there before
module _ (s : Setup) where
  abbrev gives : List Ty
  gives = s.secure.coloured.kinded.world.results

  abbrev more : List Ty
  more = (later_kinds s.graph s.states s.state s.colours s.secure s.q.job).kinded.world.results

  awaits_there : (world : Referents) (o : Job) (result : Ty) (on r : ℕ)
      → JobFits s.graph world o result → o.status ≡ Waiting on r
      → (t : Ty) × (slice_get world.results on ≡ Some t)
  awaits_there world o result on r (over j t v none ended fits) waits =
      absurd (let clash : Waiting on r ≡ Ended v = sym waits ∙ ended in let no : ⊥ = cc in no)
  awaits_there world o result on r (goes j t below top are stack fits) waits =
      let f = subst (StatusFits s.graph world top) waits fits in (f.result, f.is)

  waited_before : (on : ℕ) (result : Ty) (j r : ℕ) (o : Job) → slice_get s.state.jobs j ≡ Some o
      → o.status ≡ Waiting on r → slice_get more on ≡ Some result
      → slice_get gives on ≡ Some result
  waited_before on result j r o at waits is =
      let fits = s.secure.coloured.kinded.fits in
      let count = fits.job_count in
      let inside = slice_get_within s.state.jobs j o at in
      let gave = found_within gives j (omega (arith, inside, count)) in
      let there = awaits_there s.secure.coloured.kinded.world o gave.0 on r
      (fits.jobs j o gave.0 at gave.1) waits in
      let still = (later_kinds s.graph s.states s.state s.colours s.secure s.q.job).grows.results on
      there.0 there.1 in
      there.1 ∙ ap Some (some_injective (sym still ∙ is))

module _ (s : Setup) (joined : List Colour) (after : Colours)
    (unites : Unites s.q.job joined (with_begun s) after) where
  abbrev turn : Colour → Colour
  turn = turns s joined after unites

  pub memory_after : OwnsMemory s.graph (next s) after
  memory_after = memory_stays s.graph after s.state (next s) (cells_stay s) (globals_stay s)
      (subst (OwnsMemory s.graph s.state) (sym (after_is s joined after unites))
      (memory_recoloured s.graph s.state turn (with_begun s)
      (actors_stay s.q.job unites.numbers unites.kept) (memory_with_begun s)))

  pub heres_after : HeresFit (next s) after
  heres_after = subst (HeresFit (next s)) (sym (after_is s joined after unites))
      (heres_recoloured s.graph (next s) turn (with_begun s)
      (actors_stay s.q.job unites.numbers unites.kept) (heres_begun s))

  -- the register that waits isn't that of the function's own `self`
  waits_no_self : IsTrue (has_self s.function) → s.t.result ≡ 0 → ⊥
  waits_no_self self is =
      let never = (s.secure.coloured.clean.placed.selves s.f.function s.function s.x.is self).stays
      s.f.point in
      let sets : point_sets 0 (Some (Middle s.instr)) ≡ true =
      ap (is_number 0) (s.sets ∙ ap Some is) in
      let clash : true ≡ false = sym sets ∙ sym (ap (point_sets 0) s.x.here) ∙ never in
      let no : ⊥ = cc in no

  frame_in : (w : State) (j i : ℕ) (o : Job) → slice_get w.jobs j ≡ Some o
      → frame_at w (record { job = j; depth = i }) ≡ slice_get o.frames i
  frame_in w j i o at = ap (option_and_then (λ (k : Job). slice_get k.frames i)) at

  frame_on : (w : State) (p : Spot) (o : Job) → slice_get w.jobs p.job ≡ Some o
      → frame_at w (above p) ≡ slice_get o.frames (p.depth + 1)
  frame_on w p o at = frame_in w p.job (suc p.depth) o at
      ∙ ap (slice_get o.frames) (sym (add-one p.depth))

  -- the frames below wait as before
  below_waits : (p : Spot) (now : Job) (r : ℕ) → slice_get (next s).jobs p.job ≡ Some now
      → p ≢ s.q → p ≢ above s.q → awaited_at now p.depth ≡ Some r
      → (old : Job) → slice_get s.state.jobs p.job ≡ Some old → awaited_at old p.depth ≡ Some r
  unfolding go_on
  below_waits p now r at not_caller not_new awaits old was =
      by (cases_frame (above p) s.q)
    where
      on : or_above (frame_at (next s) (above p)) (awaited_in now.status) ≡ Some r
      on = ap (λ o. or_above o (awaited_in now.status)) (frame_on (next s) p now at) ∙ awaits

      back : or_above (frame_at s.state (above p)) (awaited_in old.status) ≡ Some r
          → awaited_at old p.depth ≡ Some r
      back is = ap (λ o. or_above o (awaited_in old.status)) (sym (frame_on s.state p old was)) ∙ is

      still : (o : Option Frame) → or_above o (awaited_in now.status) ≡ Some r
          → or_above o (awaited_in old.status) ≡ Some r
      still (Some g) is = is
      still None is = elim (job_was s p.job now at) [
        | inl (differ, there) ↦ ap (λ (o : Job). awaited_in o.status)
            (some_injective (sym was ∙ there)) ∙ is
        | inr (same, pushed) ↦
            let clash : None ≡ Some r = sym (pushed_status s)
            ∙ ap (λ (o : Job). awaited_in o.status) (sym pushed) ∙ is in
            absurd (let no : ⊥ = cc in no)
      ]

      not_above : above p ≢ above s.q
      not_above is = not_caller (same_frame (ap (λ (z : Spot). z.job) is)
          (let deep : suc p.depth ≡ suc s.q.depth = ap (λ (z : Spot). z.depth) is in
          omega (arith, deep)))

      by : (above p ≡ s.q) ⊎ (above p ≢ s.q) → awaited_at old p.depth ≡ Some r
      by (inl is) = back (ap (λ o. or_above o (awaited_in old.status))
          (ap (frame_at s.state) is ∙ frame_is s)
          ∙ sym (ap (λ o. or_above o (awaited_in now.status))
          (ap (frame_at (next s)) is ∙ here_now s joined after unites)) ∙ on)
      by (inr differ) = back (still (frame_at s.state (above p))
          (ap (λ o. or_above o (awaited_in now.status))
          (sym (others_now s joined after unites (above p) differ not_above)) ∙ on))

  selves_after : (p : Spot) (r : ℕ) (now : Job) (frame : Frame) (function : Function)
      → slice_get (next s).jobs p.job ≡ Some now → frame_at (next s) p ≡ Some frame
      → slice_get s.graph.functions frame.function ≡ Some function → IsTrue (has_self function)
      → awaited_at now p.depth ≡ Some r → r ≢ 0
  unfolding go_on
  selves_after p r now frame function at here is self awaits none =
      by (cases_frame p s.q) (cases_frame p (above s.q))
    where
      on : or_above (frame_at (next s) (above p)) (awaited_in now.status) ≡ Some r
      on = ap (λ o. or_above o (awaited_in now.status)) (frame_on (next s) p now at) ∙ awaits

      old_job : (o : Option Job) → slice_get s.state.jobs p.job ≡ o
          → option_and_then (λ (k : Job). slice_get k.frames p.depth) o ≡ Some frame
          → p ≢ s.q → p ≢ above s.q → ⊥
      old_job None was there not_caller not_new =
          absurd (let no : ⊥ = cc in no)
      old_job (Some old) was there not_caller not_new =
          s.secure.waits.selves p.job p.depth r old frame function was there is self
          (below_waits p now r at not_caller not_new awaits old was) none

      by : (p ≡ s.q) ⊎ (p ≢ s.q) → (p ≡ above s.q) ⊎ (p ≢ above s.q) → ⊥
      by (inl same) _ =
          let frame_now = some_injective (sym here ∙ ap (frame_at (next s)) same
          ∙ here_now s joined after unites) in
          let own : function ≡ s.function =
          some_injective (sym is ∙ ap (λ (g : Frame). slice_get s.graph.functions g.function)
          frame_now ∙ s.x.is) in
          let waits : s.t.result ≡ r = some_injective
          (sym (ap (λ o. or_above o (awaited_in now.status))
          (ap (λ z. frame_at (next s) (above z)) same ∙ there_now s joined after unites)) ∙ on) in
          waits_no_self (subst (λ g. IsTrue (has_self g)) own self) (waits ∙ none)
      by (inr differ) (inl new) =
          let top : frame_at (next s) (above (above s.q)) ≡ None =
          others_now s joined after unites (above (above s.q)) too_high too_high_above ∙
          nothing_above in
          let status : awaited_in now.status ≡ Some r =
          sym (ap (λ o. or_above o (awaited_in now.status))
          (ap (λ z. frame_at (next s) (above z)) new ∙ top)) ∙ on in
          elim (job_was s p.job now at) [
            | inl (apart, there) ↦ apart (ap (λ (z : Spot). z.job) new)
            | inr (job_same, pushed) ↦
                let clash : None ≡ Some r = sym (pushed_status s)
                ∙ ap (λ (o : Job). awaited_in o.status) (sym pushed) ∙ status in
                let no : ⊥ = cc in no
          ]
        where
          too_high : above (above s.q) ≢ s.q
          too_high e = let deep : suc (suc s.q.depth) ≡ s.q.depth = ap (λ (z : Spot). z.depth) e in
              omega (arith, deep)

          too_high_above : above (above s.q) ≢ above s.q
          too_high_above e =
              let deep : suc (suc s.q.depth) ≡ suc s.q.depth = ap (λ (z : Spot). z.depth) e in
              omega (arith, deep)

          nothing_above : frame_at s.state (above (above s.q)) ≡ None
          nothing_above = frame_in s.state s.q.job (suc (suc s.q.depth)) s.job s.x.top.there
              ∙ slice_get_past s.job.frames (suc (suc s.q.depth))
              (let high = s.x.top.height in omega (arith, high))
      by (inr differ) (inr apart) =
          old_job (slice_get s.state.jobs p.job) refl
          (sym (others_now s joined after unites p differ apart) ∙ here) differ apart

  pub waits_after : WaitsFit s.graph (more s) (next s)
  waits_after = record {
    selves = λ j i r now frame function at here is self awaits.
        selves_after (record { job = j; depth = i }) r now frame function at
        (frame_in (next s) j i now at ∙ here) is self awaits;
    results = λ j on r now result at waits is. elim (job_was s j now at) [
      | inl (differ, was) ↦ s.secure.waits.results j on r now result was waits
          (waited_before s on result j r now was waits is)
      | inr (same, pushed) ↦
          let clash : None ≡ Some r = sym (pushed_status s)
          ∙ ap (λ (o : Job). awaited_in o.status) (sym pushed) ∙ ap awaited_in waits in
          absurd (let no : ⊥ = cc in no)
    ];
  }
